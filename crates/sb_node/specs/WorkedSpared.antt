-- A message is received under a lock and completed: what may be answered to that, worked out by hand.
use Rattle.std.specs.Prelude.{ℕ, List, [], ◌∷◌, ◌++◌, codes, None, Option, Result}
use Rattle.sb_machine.specs.History.{entries_of}
use Rattle.sb_machine.specs.Namespace.{entity_path}
use Rattle.sb_machine.specs.Worked.{empty, plain_script}
use Rattle.sb_machine.specs.declared.call.Act.TheVariants.{Settle}
use Rattle.sb_machine.specs.declared.call.By.{By}
use Rattle.sb_machine.specs.declared.call.Call.{Call}
use Rattle.sb_machine.specs.declared.call.How.{How}
use Rattle.sb_machine.specs.declared.call.Which.TheVariants.{Number}
use Rattle.sb_machine.specs.declared.history.Entry.{Entry}
use Rattle.sb_machine.specs.declared.history.Entry.TheVariants.{Answered as Replied}
use Rattle.sb_machine.specs.declared.reply.Answered.{Answered}
use Rattle.sb_machine.specs.declared.reply.Refusal.{Refusal}

-- the message that the script received is settled
abbrev pub settlement : Option By → How → Call
settlement by how = record { by = by; act = Settle (entity_path (codes "q")) (Number 1) (record { salt = empty.space.salt; lock = 1 }) None how None }

-- a queue is made, a message is sent there and received under a lock, which ends at 60000; then this call gets this answer
abbrev pub settled : ℕ → Call → Result Answered Refusal → List Entry
settled reading call answer = entries_of 0 empty plain_script ++ Replied 0 reading call answer ∷ []
