-- What the laws of the machine and of event bytes say of a step.
use Rattle.std.proofs.Common.{◌≡◌, ◌≤◌, ℕ, length, false}
use Rattle.sb_codec.specs.EventBytes.{event_bytes, IsSpellable}
use Rattle.sb_codec.proofs.ActsAsked.{tick_asked}
use Rattle.sb_codec.proofs.Short.{tick_short}
use Rattle.sb_journal.specs.Text.{max_payload}
use Rattle.sb_laws.specs.Sweepable.{IsSweepable}
use Rattle.sb_laws.proofs.Consistency.{consistent_is_sweepable}
use Rattle.sb_laws.proofs.Outcomes as outcomes
use Rattle.sb_laws.proofs.Sweeps as sweeps
use Rattle.sb_machine.specs.Answers.{answer_of}
use Rattle.sb_machine.specs.Consistent.{IsConsistent}
use Rattle.sb_machine.specs.Due.{is_due}
use Rattle.sb_machine.specs.History.{advanced, is_fault}
use Rattle.sb_machine.specs.declared.call.Call.{Call}
use Rattle.sb_machine.specs.declared.call.Event.TheVariants.{Tick}
use Rattle.sb_machine.specs.declared.state.State.{State}

pub sweepable : (s : State) → IsConsistent s → IsSweepable s.space
sweepable s consistent = consistent_is_sweepable s consistent

pub nothing_due : (s : State) (t : ℕ) → IsConsistent s → is_due t (advanced s t).space ≡ false
nothing_due s t consistent = sweeps.nothing_due_after s t (sweepable s consistent)

pub no_fault : (s : State) (t : ℕ) (call : Call) → is_fault (answer_of s t call) ≡ false
no_fault s t call = outcomes.answers_no_fault s t call

-- the event of a tick may be written, and a journal record holds it
pub tick_written : (t : ℕ) → IsSpellable (Tick t)
tick_written t = tick_asked t

pub tick_is_short : (t : ℕ) → length (event_bytes (Tick t)) ≤ max_payload
tick_is_short t = tick_short t
