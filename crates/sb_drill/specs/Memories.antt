-- What a drill remembers of the answers to its calls.
use Rattle.std.specs.Prelude.{ℕ, ◌-◌, nat_lt, if◌then◌else◌, Some, None, Result, Ok}
use Rattle.sb_machine.specs.declared.reply.Answered.{Answered}
use Rattle.sb_machine.specs.declared.reply.Answered.TheVariants.{New}
use Rattle.sb_machine.specs.declared.reply.Refusal.{Refusal}
use Rattle.sb_machine.specs.declared.reply.Reply.TheVariants.{Message, Session}
use Rattle.sb_machine.specs.declared.reply.Showing.{Showing}
use Rattle.sb_machine.specs.declared.reply.Showing.TheVariants.{Removed, Locked, Browsed}
use Rattle.sb_drill.specs.Draws.{choice_of, word_at}
use Rattle.sb_drill.specs.declared.choice.Choice.{Choice}
use Rattle.sb_drill.specs.declared.choice.Choice.TheVariants.{LockPlain, AcceptSession}
use Rattle.sb_drill.specs.declared.memory.Memory.{Memory}

-- nothing was received or accepted yet
abbrev pub no_memory : Memory
no_memory = record { received = None; session = None }

-- with a copy that was shown so: of one under a lock its number and the lock's token
abbrev pub with_copy : Memory → ℕ → Showing → Memory
with_copy m number Removed = m
with_copy m number (Locked token until) = record m { received = Some (record { number = number; token = token }) }
with_copy m number (Browsed state) = m

-- behind the answer to a receive from `d0`
abbrev pub with_message : Memory → Result Answered Refusal → Memory
with_message m (Ok (New (Message copy))) = with_copy m copy.number copy.showing
with_message m _ = m

-- behind the answer to an accept of a session of `d1`
abbrev pub with_session : Memory → Result Answered Refusal → Memory
with_session m (Ok (New (Session id session until))) = record m { session = Some session }
with_session m _ = m

-- behind the answer to what a word asks for
abbrev pub heard_as : Choice → Memory → Result Answered Refusal → Memory
heard_as LockPlain m answer = with_message m answer
heard_as AcceptSession m answer = with_session m answer
heard_as _ m answer = m

-- behind the answer to the call of this number; those of the setup are the first five
unfoldable pub heard : (seed n : ℕ) → Memory → Result Answered Refusal → Memory
heard seed n m answer = if nat_lt n 5 then m else heard_as (choice_of (word_at seed (n - 5))) m answer
