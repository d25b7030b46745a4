-- Operations that act together: what comes of a transaction that is begun, filled with them and committed, all at one moment.
use Rattle.std.specs.Prelude.{ℕ, ◌+◌, nat_le, not, filter, Bool, true, false, sum_by, length, List, [], ◌∷◌, ◌++◌, if◌then◌else◌, Option, Some, None}
use Rattle.std.specs.List.{list_all, position}
use Rattle.std.specs.Option.{option_map}
use Rattle.sb_machine.specs.Changes.{after, after_all}
use Rattle.sb_machine.specs.Fields.{bad_in_messages}
use Rattle.sb_machine.specs.Messages.{above, all_bytes, first_size, max_body}
use Rattle.sb_machine.specs.Names.{is_address, is_same_entity}
use Rattle.sb_machine.specs.Namespace.{entity_of, last_at, listed}
use Rattle.sb_machine.specs.Parts.{at_part, at_part_or_whole}
use Rattle.sb_machine.specs.Queueing.{max_operations, open_in, transaction_of}
use Rattle.sb_machine.specs.Rows.{Row, refuses, answers, asks, refused_by}
use Rattle.sb_machine.specs.SendRow.{is_via, send_row}
use Rattle.sb_machine.specs.Sending.{receipts, unscheduled}
use Rattle.sb_machine.specs.Sessions.{max_state, session_set_row, size_of}
use Rattle.sb_machine.specs.SettleRow.{settle_row}
use Rattle.sb_machine.specs.Transactions.{begin_row, commit_row, handed_on, operation_changes}
use Rattle.sb_machine.specs.Visits.{Visit, passage}
use Rattle.sb_machine.specs.Delivery.{visit_key}
use Rattle.sb_machine.specs.declared.call.How.{How}
use Rattle.sb_machine.specs.declared.call.How.TheVariants.{Complete, Abandon, Defer, DeadLetter}
use Rattle.sb_machine.specs.declared.call.Path.{Path}
use Rattle.sb_machine.specs.declared.call.Step.{Step}
use Rattle.sb_machine.specs.declared.call.Step.TheVariants.{Send, Settle, SessionSet}
use Rattle.sb_machine.specs.declared.change.Change.{Change}
use Rattle.sb_machine.specs.declared.change.Change.TheVariants.{Drops, Queues}
use Rattle.sb_machine.specs.declared.reply.Receipt.{Receipt}
use Rattle.sb_machine.specs.declared.reply.Receipt.TheVariants.{Number}
use Rattle.sb_machine.specs.declared.reply.Refusal.{Refusal}
use Rattle.sb_machine.specs.declared.reply.Refusal.TheVariants.{BadCall, BadName, TooLarge, TxnFull, TxnScope}
use Rattle.sb_machine.specs.declared.reply.Reply.{Reply}
use Rattle.sb_machine.specs.declared.reply.Reply.TheVariants.{Committed, Together}
use Rattle.sb_machine.specs.declared.reply.StepReply.{StepReply}
use Rattle.sb_machine.specs.declared.reply.StepReply.TheVariants as told
use Rattle.sb_machine.specs.declared.state.Entity.{Entity}
use Rattle.sb_machine.specs.declared.state.Operation.{Operation}
use Rattle.sb_machine.specs.declared.state.Operation.TheVariants as queued
use Rattle.sb_machine.specs.declared.state.Space.{Space}
use Rattle.sb_machine.specs.declared.state.Transaction.{Transaction}
use Rattle.sb_model.specs.declared.message.Message.{Message}

-- ---- tests on all operations, before each of them has its own

-- the entity that an operation names
abbrev pub step_path : Step → Path
step_path (Send to messages) = to
step_path (Settle from which token session how) = from
step_path (SessionSet from session state) = from

-- each names an entity by an address
abbrev pub are_addressed : List Step → Bool
are_addressed steps = list_all (λ x. is_address (step_path x)) steps

-- the refusal where they aren't, of the first that doesn't
abbrev pub unaddressed : List Step → Refusal
unaddressed steps = at_part_or_whole (position (λ x. not (is_address (step_path x))) steps) BadName

-- each message and each settlement counts one, as in a transaction
abbrev pub step_weight : Step → ℕ
step_weight (Send to messages) = length messages
step_weight (Settle from which token session how) = 1
step_weight (SessionSet from session state) = 0

-- the bytes of a dead letter's reason and description
abbrev pub how_bytes : How → ℕ
how_bytes (DeadLetter reason description) = size_of reason + size_of description
how_bytes _ = 0

-- the bytes of an operation's bodies, properties, reason and description
abbrev pub step_bytes : Step → ℕ
step_bytes (Send to messages) = all_bytes messages
step_bytes (Settle from which token session how) = how_bytes how
step_bytes (SessionSet from session state) = 0

-- the bytes of what a session is to remember
abbrev pub state_bytes : Step → ℕ
state_bytes (SessionSet from session state) = size_of state
state_bytes _ = 0

-- the first sum that is too large: that of messages and settlements, then that of sessions' states
abbrev pub large_steps : List Step → Option ℕ
large_steps steps = first_size (above max_body (sum_by step_bytes steps)) (above max_state (sum_by state_bytes steps))

-- refused where one names no address, where the operations are too many for a transaction, or too large together
abbrev pub fitting : List Step → Row → Row
fitting steps row =
    asks (are_addressed steps) (unaddressed steps) (asks (nat_le (sum_by step_weight steps) max_operations) TxnFull
    (refused_by (option_map (λ size. TooLarge size) (large_steps steps)) row))

-- ---- acts one behind another at one moment

-- a row with these changes in front of its own
abbrev pub behind : List Change → Row → Row
behind cs (refuses r) = refuses r
behind cs (answers reply ds) = answers reply (cs ++ ds)

-- a row, and what is done next in the namespace that it leaves; what either refuses is refused
abbrev pub then_row : ℕ → Space → Row → (Space → Row) → Row
then_row t s (refuses r) next = refuses r
then_row t s (answers reply cs) next = behind cs (next (after_all t cs s))

-- ---- filling

-- What an operation comes to in the transaction n on the entity of this address: what is sent and settled is queued there, what a session
-- remembers is set at once.
abbrev pub step_row : ℕ → Path → ℕ → Step → Space → Row
step_row t path n (Send to messages) s =
    refused_by (option_map (λ key. BadCall key) (bad_in_messages (is_via s to (open_in (Some n) s)) messages)) (send_row s t to messages (Some n))
step_row t path n (Settle from which token session how) s = settle_row s t from which token session how (Some n)
step_row t path n (SessionSet from session state) s = asks (is_same_entity from path) TxnScope (session_set_row s t from session state)

-- whether a change queues an operation
abbrev pub is_queueing : Change → Bool
is_queueing (Queues txn deadline operation) = true
is_queueing _ = false

-- These changes but for operations that are queued. The transaction is committed at the same moment: what was queued in it is gone then, and the
-- namespace is the same without.
abbrev pub unqueued : List Change → List Change
unqueued cs = filter (λ c. not (is_queueing c)) cs

-- the row of the operation at this place, and what is done next in the namespace that it leaves
abbrev pub filling : ℕ → ℕ → Space → Row → (Space → Row) → Row
filling i t s (refuses r) next = refuses (at_part i r)
filling i t s (answers reply cs) next = behind (unqueued cs) (next (after_all t cs s))

-- each operation from this place on in the namespace that those before it left, and then the last
abbrev pub steps_row : ℕ → ℕ → Path → ℕ → (Space → Row) → List Step → Space → Row
steps_row i t path n last [] s = last s
steps_row i t path n last (x ∷ xs) s = filling i t s (step_row t path n x s) (steps_row (i + 1) t path n last xs)

-- ---- what each operation is answered

-- the number under which a message first stands on such a way, its EnqueuedSequenceNumber
abbrev pub first_number : List Visit → Space → List Receipt
first_number [] s = []
first_number (v ∷ vs) s = Number (last_at (visit_key v) s + 1) ∷ []

-- of each message that is handed on from an entity, one after another
abbrev pub handed_receipts : ℕ → Entity → List ℕ → List Message → Space → List Receipt
handed_receipts t e to [] s = []
handed_receipts t e to (m ∷ ms) s =
    first_number (passage (listed s) 0 e.about (unscheduled m) to) s ++ handed_receipts t e to ms (after_all t (handed_on e to m s) s)

-- the receipts of a queued send as it acts
abbrev pub sent_receipts : ℕ → Entity → Path → List Message → Space → List Receipt
sent_receipts t e to messages s = if is_same_entity to e.about.path then receipts t e messages s else handed_receipts t e to.name messages s

-- the receipts of each queued send, as those operations act that are queued
abbrev pub all_receipts : ℕ → Entity → List Operation → Space → List (List Receipt)
all_receipts t e [] s = []
all_receipts t e (queued.Send to messages ∷ os) s =
    sent_receipts t e to messages s ∷ all_receipts t e os (after_all t (operation_changes t e (queued.Send to messages) s) s)
all_receipts t e (queued.Settle from number token session how ∷ os) s =
    all_receipts t e os (after_all t (operation_changes t e (queued.Settle from number token session how) s) s)

-- The reply to each operation, where these are the receipts of those sends that have messages: one without isn't queued.
abbrev pub step_replies : List Step → List (List Receipt) → List StepReply
step_replies [] rs = []
step_replies (Send to [] ∷ xs) rs = told.Sent [] ∷ step_replies xs rs
step_replies (Send to (m ∷ ms) ∷ xs) (r ∷ rs) = told.Sent r ∷ step_replies xs rs
step_replies (Send to (m ∷ ms) ∷ xs) [] = told.Sent [] ∷ step_replies xs []
step_replies (Settle from which token session how ∷ xs) rs = told.Done ∷ step_replies xs rs
step_replies (SessionSet from session state ∷ xs) rs = told.Done ∷ step_replies xs rs

-- the receipts of a transaction's sends as it is committed
abbrev pub committed_receipts : Space → ℕ → Option Transaction → List (List Receipt)
committed_receipts s t None = []
committed_receipts s t (Some x) = elim (entity_of x.entity s) [ Some e ↦ all_receipts t e x.operations (after t (Drops x.number) s) | None ↦ [] ]

-- ---- the whole

-- a commit's row, which tells what became of each operation
abbrev pub with_replies : List StepReply → Row → Row
with_replies replies (refuses r) = refuses r
with_replies replies (answers Committed cs) = answers (Together replies) cs
with_replies replies (answers reply cs) = answers reply cs

-- the commit of the transaction n, which holds these operations
abbrev pub commit_steps : ℕ → ℕ → List Step → Space → Row
commit_steps t n steps s = with_replies (step_replies steps (committed_receipts s t (transaction_of n s))) (commit_row s t n)

-- operations that act together
abbrev pub together_row : Space → ℕ → Path → List Step → Row
together_row s t path steps = then_row t s (begin_row s t path) (λ begun. fitting steps (steps_row 0 t path (s.last_txn + 1) (commit_steps t (s.last_txn + 1) steps) steps begun))
