-- The changes of a time step by what is due as it begins: its later sweeps needn't look at what the earlier ones leave.
use Rattle.std.specs.Prelude.{◌≡◌, ℕ, List, ◌++◌}
use Rattle.sb_machine.specs.Changes.{after_all, in_turn}
use Rattle.sb_machine.specs.Due.{activated, due_scheduled, due_transactions, sweep_expired, sweep_locks, tick_changes}
use Rattle.sb_machine.specs.declared.change.Change.{Change}
use Rattle.sb_machine.specs.declared.state.Space.{Space}
use Rattle.sb_laws.specs.Sweepable.{IsSweepable}

-- locks that have ended, and then copies that have expired
abbrev pub freed : ℕ → Space → List Change
freed t s = sweep_locks t s ++ sweep_expired t s

-- scheduled copies enter behind these, each behind those before it
abbrev pub woken : ℕ → Space → List Change
woken t s = in_turn activated t (due_scheduled t s) (after_all t (freed t s) s)

-- the changes of a time step, each by what is due as it begins
abbrev pub as_found : ℕ → Space → List Change
as_found t s = (freed t s ++ woken t s) ++ due_transactions t s

-- a tick's changes are those of its sweeps over what is due as it begins
abbrev pub TickAsFound : Type 0
TickAsFound = (t : ℕ) (s : Space) → IsSweepable s → tick_changes t s ≡ as_found t s
