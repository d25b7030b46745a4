-- A settlement: at once, or queued in a transaction.
use Rattle.std.specs.Prelude.{ℕ, ◌==◌, Bool, true, false, find, Option, Some, None}
use Rattle.std.specs.List.{list_any}
use Rattle.sb_machine.specs.Leases.{leased}
use Rattle.sb_machine.specs.Namespace.{leaf_of, listed}
use Rattle.sb_machine.specs.Rows.{Row, refuses, answers, refused_by, asks, at_receivable}
use Rattle.sb_machine.specs.Settlement.{settled, goes_with}
use Rattle.sb_machine.specs.declared.call.How.{How}
use Rattle.sb_machine.specs.declared.call.Path.{Path}
use Rattle.sb_machine.specs.declared.call.Token.{Token}
use Rattle.sb_machine.specs.declared.call.Which.{Which}
use Rattle.sb_machine.specs.declared.reply.Refusal.{Refusal}
use Rattle.sb_machine.specs.declared.reply.Refusal.TheVariants.{WrongKind, LockLost, TxnNotFound, TxnPending, TxnScope, TxnFull}
use Rattle.sb_machine.specs.declared.reply.Reply.TheVariants.{Done, Queued}
use Rattle.sb_machine.specs.declared.state.Entity.{Entity}
use Rattle.sb_machine.specs.declared.state.Operation.{Operation}
use Rattle.sb_machine.specs.declared.state.Operation.TheVariants.{Send, Settle}
use Rattle.sb_machine.specs.declared.state.Space.{Space}
use Rattle.sb_machine.specs.declared.state.StoredCopy.{StoredCopy}
use Rattle.sb_machine.specs.declared.state.Transaction.{Transaction}
use Rattle.sb_machine.specs.Queueing.{open_in, is_open, queueing, has_room_in}
use Rattle.sb_machine.specs.Claims.{asks_session, asks_holder}

-- ---- settlements

-- a settlement of this lock
abbrev pub settles : ℕ → Operation → Bool
settles lock (Send to messages) = false
settles lock (Settle from number token session how) = token.lock == lock

-- the transaction in which one is queued
abbrev pub pending_in : ℕ → Space → Option Transaction
pending_in lock s = find (λ x. list_any (settles lock) x.operations) s.transactions

-- the refusal where another settlement under the same lock is queued already
abbrev pub pending : Option Transaction → Option Refusal
pending None = None
pending (Some x) = Some (TxnPending x.number)

-- whether a transaction is one of this entity; no transaction suits each
abbrev pub is_on : Entity → Option Transaction → Bool
is_on e None = true
is_on e (Some x) = x.entity == e.about.number

-- settles at once, or queues that in the transaction
abbrev pub settled_or_queued : Space → ℕ → Entity → Path → Token → Option Token → How → StoredCopy → Option Transaction → Row
settled_or_queued s t e from token session how c None = answers Done (settled (listed s) t e from.part c how)
settled_or_queued s t e from token session how c (Some x) = answers Queued (queueing t x (Settle from c.number token session how))

-- the same of the message that the lock holds; where there is none, the lock is lost
abbrev pub settle_found : Space → ℕ → Entity → Path → Token → Option Token → How → Option Transaction → Option StoredCopy → Row
settle_found s t e from token session how x None = refuses LockLost
settle_found s t e from token session how x (Some c) =
    refused_by (pending (pending_in token.lock s)) (asks (has_room_in x 1) TxnFull (settled_or_queued s t e from token session how c x))

-- completing, abandoning, deferring or dead-lettering a message that is held under a lock
abbrev pub settle_row : Space → ℕ → Path → Which → Token → Option Token → How → Option ℕ → Row
settle_row s t from which token session how txn =
    let x = open_in txn s in
    at_receivable s from (λ e. asks (goes_with how from.part) WrongKind (asks_session e from.part session (asks (is_open txn s) TxnNotFound
    (asks (is_on e x) TxnScope (asks_holder s t (leaf_of from.part e) session (λ claim.
    settle_found s t e from token session how x (leased s t token which (leaf_of from.part e))))))))
