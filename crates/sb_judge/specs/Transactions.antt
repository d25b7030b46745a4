-- Open transactions.
use Rattle.std.specs.Prelude.{◌≡◌, ℕ, ◌+◌, true, false, length, sum_by, List, Some, None, is_none, refl}
use Rattle.std.proofs.Common.{sym, subst, ap}
use Rattle.std.proofs.lemmas.Bool.{true≢false}
use Rattle.sb_machine.specs.Consistent.{IsOwn, IsOperation, IsTransaction, locked_at}
use Rattle.sb_machine.specs.Each.{Each}
use Rattle.sb_machine.specs.Fields.{max_messages, bad_in_how, is_between, is_number}
use Rattle.sb_machine.specs.Fit.{IsMessage}
use Rattle.sb_machine.specs.Names.{is_address, is_main, is_same_entity, is_same_part}
use Rattle.sb_machine.specs.Namespace.{entity_of, key_of}
use Rattle.sb_machine.specs.Queueing.{weight, max_operations}
use Rattle.sb_machine.specs.Settlement.{goes_with}
use Rattle.sb_machine.specs.declared.call.How.{How}
use Rattle.sb_machine.specs.declared.call.Part.{Part}
use Rattle.sb_machine.specs.declared.call.Part.TheVariants.{Main, Dead, Transfer}
use Rattle.sb_machine.specs.declared.call.Path.{Path}
use Rattle.sb_machine.specs.declared.change.LeafKey.{LeafKey}
use Rattle.sb_machine.specs.declared.state.Entity.{Entity}
use Rattle.sb_machine.specs.declared.state.Operation.{Operation}
use Rattle.sb_machine.specs.declared.state.Operation.TheVariants.{Send, Settle}
use Rattle.sb_machine.specs.declared.state.Space.{Space}
use Rattle.sb_machine.specs.declared.state.Transaction.{Transaction}
use Rattle.sb_model.specs.declared.message.Message.{Message}
use Rattle.sb_judge.specs.Messages.{message_verdict}
use Rattle.sb_judge.specs.Verdicts.{Verdict, passes, at_most, equal, absent, said_as, ◌&◌, where_fails, with_some, each}

-- ---- where a lock stands

pub part_from : (a b : Part) → is_same_part a b ≡ true → a ≡ b
part_from Main Main e = refl
part_from Dead Dead e = refl
part_from Transfer Transfer e = refl
part_from a b e = absurd (true≢false (sym e))

pub part_self : (a : Part) → is_same_part a a ≡ true
part_self Main = refl
part_self Dead = refl
part_self Transfer = refl

-- the test that two parts are the same
abbrev pub part_verdict : (a b : Part) → Verdict (a ≡ b)
part_verdict a b = (is_same_part a b, (part_from a b, λ e. subst (λ c. is_same_part a c ≡ true) e (part_self a)))

-- the test that two places are the same: a part, and a number in it
unfoldable pub place_verdict : (x y : LeafKey × ℕ) → Verdict (x ≡ y)
place_verdict x y = said_as
    (equal x.0.entity y.0.entity & part_verdict x.0.part y.0.part & equal x.1 y.1)
    (λ p i. (record { entity = p.0 i; part = p.1.0 i }, p.1.1 i))
    (λ e. (ap (λ z. z.0.entity) e, (ap (λ z. z.0.part) e, ap (λ z. z.1) e)))

-- the test that a lock stands only there
unfoldable pub own_verdict : (s : Space) → (key : LeafKey) → (number lock : ℕ) → Verdict (IsOwn s key number lock)
own_verdict s key number lock = each (locked_at lock s) (λ x. place_verdict x (key, number))

-- ---- what is queued

-- what holds of messages that are sent in a transaction of an entity
abbrev pub IsSend : Entity → Path → List Message → Type 0
IsSend e to messages =
    (is_address to ≡ true) × (is_main to.part ≡ true) × (is_none to.subscription ≡ true) × (is_between 1 max_messages (length messages) ≡ true)
    × Each IsMessage messages × (is_same_entity to e.about.path ≡ false → Each (λ m. m.schedule ≡ None) messages)

-- what holds of a settlement in such a transaction
abbrev pub IsSettlement : Space → Entity → Path → ℕ → ℕ → How → Type 0
IsSettlement s e from number lock how =
    (is_same_entity from e.about.path ≡ true) × (is_number number ≡ true) × (bad_in_how how ≡ None) × IsOwn s (key_of from.part e) number lock × (goes_with how from.part ≡ true)

-- the test of messages that are sent in a transaction of an entity
unfoldable pub send_verdict : (e : Entity) → (to : Path) → (messages : List Message) → Verdict (IsSend e to messages)
send_verdict e to messages = said_as
    (
    passes (is_address to)
    & passes (is_main to.part)
    & passes (is_none to.subscription)
    & passes (is_between 1 max_messages (length messages))
    & each messages message_verdict
    & where_fails (is_same_entity to e.about.path) (each messages (λ m. absent m.schedule))
    )
    (λ p. (p.0, p.1.0, p.1.1.0, p.1.1.1.0, p.1.1.1.1.0, p.1.1.1.1.1))
    (λ r. (r.0, (r.1, (r.2, (r.3, (r.4, r.5))))))

-- the test of a settlement in such a transaction
unfoldable pub settle_verdict : (s : Space) → (e : Entity) → (from : Path) → (number lock : ℕ) → (how : How) → Verdict (IsSettlement s e from number lock how)
settle_verdict s e from number lock how = said_as
    (
    passes (is_same_entity from e.about.path)
    & passes (is_number number)
    & absent (bad_in_how how)
    & own_verdict s (key_of from.part e) number lock
    & passes (goes_with how from.part)
    )
    (λ p. (p.0, p.1.0, p.1.1.0, p.1.1.1.0, p.1.1.1.1))
    (λ r. (r.0, (r.1, (r.2, (r.3, r.4)))))

-- the test of an operation that is queued in a transaction of this entity
unfoldable pub operation_verdict : (s : Space) → (e : Entity) → (o : Operation) → Verdict (IsOperation s e o)
operation_verdict s e (Send to messages) = send_verdict e to messages
operation_verdict s e (Settle from number token session how) = settle_verdict s e from number token.lock how

-- the entity of a transaction is there, and its operations suit it
abbrev pub IsQueued : Space → Transaction → Type 0
IsQueued s x = (entity : Entity) × (entity_of x.entity s ≡ Some entity) × Each (IsOperation s entity) x.operations

-- the test of its entity and operations
unfoldable pub queued_verdict : (s : Space) → (x : Transaction) → Verdict (IsQueued s x)
queued_verdict s x = with_some (entity_of x.entity s) (λ e. each x.operations (operation_verdict s e))

-- the test of an open transaction
unfoldable pub transaction_verdict : (now : ℕ) → (s : Space) → (x : Transaction) → Verdict (IsTransaction now s x)
transaction_verdict now s x = said_as
    (
    queued_verdict s x
    & at_most x.deadline (now + 300000)
    & at_most (sum_by weight x.operations) max_operations
    )
    (λ p. record { entity = p.0.0; there = p.0.1; deadline = p.1.0; few = p.1.1; operations = p.0.2 })
    (λ r. ((r.entity, r.there, r.operations), (r.deadline, r.few)))
