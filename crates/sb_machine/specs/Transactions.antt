-- Beginning a transaction; committing it, when its operations act together or not at all; dropping it.
use Rattle.std.specs.Prelude.{ℕ, ◌+◌, nat_lt, Bool, false, List, [], ◌∷◌, length, find, if◌then◌else◌, Option, Some, None, is_none}
use Rattle.sb_machine.specs.Changes.{after, in_turn}
use Rattle.sb_machine.specs.Delivery.{delivered}
use Rattle.sb_machine.specs.Leases.{leased}
use Rattle.sb_machine.specs.Names.{is_same_entity}
use Rattle.sb_machine.specs.Namespace.{entity_of, leaf_of, listed}
use Rattle.sb_machine.specs.Rows.{Row, answers, asks, found_or, at_entity, within_quota}
use Rattle.sb_machine.specs.Sending.{send_changes, unscheduled}
use Rattle.sb_machine.specs.Settlement.{settled}
use Rattle.sb_machine.specs.Visits.{passage}
use Rattle.sb_machine.specs.declared.call.How.{How}
use Rattle.sb_machine.specs.declared.call.Path.{Path}
use Rattle.sb_machine.specs.declared.call.Token.{Token}
use Rattle.sb_machine.specs.declared.call.Which.TheVariants.{Number}
use Rattle.sb_machine.specs.declared.change.Change.{Change}
use Rattle.sb_machine.specs.declared.change.Change.TheVariants.{Begins, Drops}
use Rattle.sb_model.specs.declared.message.Message.{Message}
use Rattle.sb_machine.specs.declared.reply.Refusal.TheVariants.{EntityNotFound, TxnNotFound, TxnsFull}
use Rattle.sb_machine.specs.declared.reply.Reply.{Reply}
use Rattle.sb_machine.specs.declared.reply.Reply.TheVariants.{Done, Begun, Committed, Aborted}
use Rattle.sb_machine.specs.declared.state.Entity.{Entity}
use Rattle.sb_machine.specs.declared.state.Operation.{Operation}
use Rattle.sb_machine.specs.declared.state.Operation.TheVariants.{Send, Settle}
use Rattle.sb_machine.specs.declared.state.Space.{Space}
use Rattle.sb_machine.specs.declared.state.StoredCopy.{StoredCopy}
use Rattle.sb_machine.specs.declared.state.Transaction.{Transaction}
use Rattle.sb_machine.specs.Queueing.{transaction_of, txn_life}

-- ---- begin, commit, rollback

abbrev pub max_transactions : ℕ
max_transactions = 1000

-- beginning a transaction on an entity
abbrev pub begin_row : Space → ℕ → Path → Row
begin_row s t path = at_entity s path (λ e. asks (nat_lt (length s.transactions) max_transactions) TxnsFull (answers (Begun (s.last_txn + 1)) (Begins e.about.number (t + txn_life) ∷ [])))

-- the copy of a queued settlement, where its lock lives
abbrev pub queued_copy : Space → ℕ → Entity → Path → ℕ → Token → Option StoredCopy
queued_copy s t e from number token = leased s t token (Number number) (leaf_of from.part e)

-- whether a queued settlement finds its message no more
abbrev pub is_lost : Space → ℕ → Entity → Operation → Bool
is_lost s t e (Send to messages) = false
is_lost s t e (Settle from number token session how) = is_none (queued_copy s t e from number token)

-- how a commit is answered for which this operation was lost
abbrev pub aborted_by : Operation → Reply
aborted_by (Send to messages) = Committed
aborted_by (Settle from number token session how) = Aborted from.part number

-- a message is handed on from the transaction's entity
abbrev pub handed_on : Entity → List ℕ → Message → Space → List Change
handed_on e to m s = delivered None (passage (listed s) 0 e.about (unscheduled m) to) s

-- the settlement of the message that was found, if there is one
abbrev pub settled_found : Space → ℕ → Entity → Path → How → Option StoredCopy → List Change
settled_found s t e from how None = []
settled_found s t e from how (Some c) = settled (listed s) t e from.part c how

-- what an operation does as it acts
abbrev pub operation_changes : ℕ → Entity → Operation → Space → List Change
operation_changes t e (Send to messages) s = if is_same_entity to e.about.path then send_changes t e messages s else in_turn (handed_on e to.name) t messages s
operation_changes t e (Settle from number token session how) s = elim (entity_of e.about.number s) [ Some now ↦ settled_found s t now from how (queued_copy s t now from number token) | None ↦ [] ]

-- the changes of a commit: the transaction ends, and its operations act in order
abbrev pub commit_changes : ℕ → Entity → Transaction → Space → List Change
commit_changes t e x s = Drops x.number ∷ in_turn (operation_changes t e) t x.operations (after t (Drops x.number) s)

-- a commit: of all operations within the quota, or of none where one is lost
abbrev pub committed : Space → ℕ → Transaction → Entity → Option Operation → Row
committed s t x e (Some o) = answers (aborted_by o) (Drops x.number ∷ [])
committed s t x e None = within_quota t s (commit_changes t e x s) (answers Committed (commit_changes t e x s))

-- committing a transaction
abbrev pub commit_row : Space → ℕ → ℕ → Row
commit_row s t n = found_or (transaction_of n s) TxnNotFound (λ x. found_or (entity_of x.entity s) EntityNotFound (λ e. committed s t x e (find (is_lost s t e) x.operations)))

-- dropping a transaction with all that is queued in it
abbrev pub rollback_row : Space → ℕ → Row
rollback_row s n = found_or (transaction_of n s) TxnNotFound (λ x. answers Done (Drops n ∷ []))
