-- Laws of the machine, over all states, calls and histories.
use Rattle.std.specs.Prelude.{◌≡◌, ◌≤◌, ℕ, List, [], not, false}
use Rattle.std.specs.Bool.{Decides}
use Rattle.sb_machine.specs.Answers.{answer_of, state_of, moment_of, max_moment}
use Rattle.sb_machine.specs.Changes.{after_all}
use Rattle.sb_machine.specs.Consistent.{IsConsistent}
use Rattle.sb_machine.specs.Due.{is_due, is_none_in, tick_changes}
use Rattle.sb_machine.specs.History.{is_fault, is_spent, advanced, entries_of, IsLegal, IsFaultless}
use Rattle.sb_machine.specs.Namespace.{empty_state}
use Rattle.sb_machine.specs.Repeats.{outcome_of, acted}
use Rattle.sb_machine.specs.Same.{same_act}
use Rattle.sb_machine.specs.declared.call.Act.{Act}
use Rattle.sb_machine.specs.declared.call.Call.{Call}
use Rattle.sb_machine.specs.declared.call.TimedCall.{TimedCall}
use Rattle.sb_machine.specs.declared.change.Change.{Change}
use Rattle.sb_machine.specs.declared.reply.Reply.{Reply}
use Rattle.sb_machine.specs.declared.state.Space.{Space}
use Rattle.sb_machine.specs.declared.state.State.{State}
use Rattle.sb_laws.specs.Orderly.{IsOrderly}
use Rattle.sb_laws.specs.Sweepable.{IsSweepable}

-- the machine itself never answers that a disk failed, that it has stopped or that memory is wanting
abbrev pub AnswersNoFault : Type 0
AnswersNoFault = (s : State) (t : ℕ) (call : Call) → is_fault (answer_of s t call) ≡ false

-- an empty namespace is consistent
abbrev pub StartsConsistent : Type 0
StartsConsistent = (salt : ℕ) → IsConsistent (empty_state salt)

-- a call never takes time back, nor past the last moment that counts
abbrev pub KeepsTime : Type 0
KeepsTime = (s : State) (reading : ℕ) (call : Call) → s.now ≤ max_moment → (s.now ≤ (state_of s (moment_of s reading) call).now) × ((state_of s (moment_of s reading) call).now ≤ max_moment)

-- behind a tick nothing is due at its moment
abbrev pub NothingDueAfter : Type 0
NothingDueAfter = (s : State) (t : ℕ) → IsSweepable s.space → is_due t (advanced s t).space ≡ false

-- something is due exactly where a tick has changes
abbrev pub IsDueExactly : Type 0
IsDueExactly = (t : ℕ) (s : Space) → is_due t s ≡ not (is_none_in (tick_changes t s))

-- two acts are the same exactly where they are equal
abbrev pub SameActExactly : Type 0
SameActExactly = (a b : Act) → Decides (same_act a b) (a ≡ b)

-- an accepted act that has changes really changes the namespace: where it leaves it, it has none
abbrev pub MovesChange : Type 0
MovesChange = (s : State) (t : ℕ) (call : Call) (reply : Reply) (cs : List Change) → IsSweepable s.space → outcome_of s t call ≡ acted reply cs → after_all t cs s.space ≡ s.space → cs ≡ []

-- from an orderly state the calls that the machine answers one after another, each behind its tick, are a legal history
-- without faults
abbrev pub AnswersLegally : Type 0
AnswersLegally = (seat : ℕ) (s : State) (calls : List TimedCall) → IsOrderly s → IsLegal s (entries_of seat s calls) × IsFaultless (entries_of seat s calls)

-- a consistent state is orderly
abbrev pub ConsistentIsOrderly : Type 0
ConsistentIsOrderly = (s : State) → IsConsistent s → IsOrderly s

-- an orderly state can be swept
abbrev pub OrderlyIsSweepable : Type 0
OrderlyIsSweepable = (s : State) → IsOrderly s → IsSweepable s.space

-- a call keeps a state orderly
abbrev pub StaysOrderly : Type 0
StaysOrderly = (s : State) (t : ℕ) (call : Call) → IsOrderly s → s.now ≤ t → t ≤ max_moment → IsOrderly (state_of s t call)

-- a tick keeps a state orderly, where no number that it gives passes the greatest
abbrev pub TicksOrderly : Type 0
TicksOrderly = (s : State) (t : ℕ) → IsOrderly s → s.now ≤ t → t ≤ max_moment → is_spent s t ≡ false → IsOrderly (advanced s t)
