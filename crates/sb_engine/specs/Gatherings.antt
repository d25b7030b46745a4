-- What gathering the operations comes to that act together.
use Rattle.std.specs.Prelude.{◌≡◌, ◌⊎◌, ◌++◌, ◌+◌, ◌||◌, ℕ, List, [], ◌∷◌, length, sum_by, nat_le, not, Bool, true, if◌then◌else◌, None, is_some, Result, Ok, Err}
use Rattle.std.specs.Option.{option_map}
use Rattle.sb_laws.specs.Gathered.{operations_in}
use Rattle.sb_machine.specs.Fields.{are_set_once, bad_in_messages}
use Rattle.sb_machine.specs.Names.{is_address, is_same_entity}
use Rattle.sb_machine.specs.Namespace.{entity_at}
use Rattle.sb_machine.specs.Queueing.{max_operations, weight}
use Rattle.sb_machine.specs.Rows.{Row, refuses, answers, asks, refused_by}
use Rattle.sb_machine.specs.SendRow.{have_sessions_at, is_destination}
use Rattle.sb_machine.specs.Sending.{too_large}
use Rattle.sb_machine.specs.Together.{unqueued}
use Rattle.sb_machine.specs.declared.call.Act.{Act}
use Rattle.sb_machine.specs.declared.call.Act.TheVariants.{Together}
use Rattle.sb_machine.specs.declared.call.Path.{Path}
use Rattle.sb_machine.specs.declared.change.Change.{Change}
use Rattle.sb_machine.specs.declared.change.Change.TheVariants.{Queues}
use Rattle.sb_machine.specs.declared.reply.Refusal.{Refusal}
use Rattle.sb_machine.specs.declared.reply.Refusal.TheVariants.{BadCall, BadName, EntityNotFound, OutOfMemory, SessionRequired, TxnFull, WrongKind}
use Rattle.sb_machine.specs.declared.state.Entity.{Entity}
use Rattle.sb_machine.specs.declared.state.Operation.{Operation}
use Rattle.sb_machine.specs.declared.state.Operation.TheVariants.{Send}
use Rattle.sb_machine.specs.declared.state.Space.{Space}
use Rattle.sb_model.specs.declared.message.Message.{Message}

-- what is done with operations and changes that were gathered
abbrev pub Next : Type 0
Next = List Operation → List Change → Row

-- a row, and what is done next with what was gathered and what it adds
abbrev pub gathered_on : List Operation → List Change → Row → Next → Row
gathered_on os cs (refuses r) next = refuses r
gathered_on os cs (answers reply ds) next = next (os ++ operations_in ds) (cs ++ unqueued ds)

-- whatever is done next is done with these operations and changes, or it is refused; want of memory may come in place of each
abbrev pub Gathers : {X : Type 0} → Result X Refusal → (Next → Row) → List Operation → List Change → Type 0
Gathers (Ok x) head os cs = (next : Next) → head next ≡ next os cs
Gathers (Err r) head os cs = (r ≡ OutOfMemory) ⊎ ((next : Next) → head next ≡ refuses r)

-- the tests on a send behind these operations, which are on this entity
abbrev pub sending_tests : Space → Entity → List Operation → Path → List Message → Row → Row
sending_tests s e os to messages row =
    let via = not (is_same_entity to e.about.path) in
    let target = if via then None else entity_at to s in
    refused_by (option_map (λ key. BadCall key) (bad_in_messages via messages))
    (asks (is_address to) BadName (asks (via || is_some target) EntityNotFound (asks (is_destination to) WrongKind
    (asks (have_sessions_at target messages) SessionRequired (asks (nat_le (sum_by weight os + length messages) max_operations) TxnFull (refused_by (too_large messages) row))))))

-- the changes by which a send is queued in a transaction of this number, up to this deadline; one without messages isn't queued
abbrev pub queued_in : ℕ → ℕ → Path → List Message → List Change
queued_in txn deadline to [] = []
queued_in txn deadline to (m ∷ ms) = Queues txn deadline (Send to (m ∷ ms)) ∷ []

-- what acts together sets what a session remembers at most once
abbrev pub sets_once : Act → Bool
sets_once (Together entity steps) = are_set_once steps
sets_once _ = true
