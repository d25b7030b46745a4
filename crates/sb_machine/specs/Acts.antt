-- What each act (an operation that a caller asks for) comes to, its fields judged first and the numbers that it gives last.
use Rattle.std.specs.Prelude.{ℕ, Bool, false, [], Option, Some, None}
use Rattle.sb_machine.specs.Administration.{create_row, create_subscription_row, create_rule_row, delete_row, delete_rule_row, counts_row}
use Rattle.sb_machine.specs.Fields.{Key, bad_field, bad_part}
use Rattle.sb_machine.specs.Looks.{look_row}
use Rattle.sb_machine.specs.Parts.{at_part_or_whole}
use Rattle.sb_machine.specs.Receiving.{receive_row, receive_deferred_row, cancel_row, peek_row}
use Rattle.sb_machine.specs.Rows.{Row, answers, refused_by, numbered}
use Rattle.sb_machine.specs.Sessions.{accept_row, session_renew_row, session_close_row, session_state_row, session_set_row}
use Rattle.sb_machine.specs.Settlement.{renew_row}
use Rattle.sb_machine.specs.Transactions.{begin_row, commit_row, rollback_row}
use Rattle.sb_machine.specs.declared.call.Act.{Act}
use Rattle.sb_machine.specs.declared.call.Act.TheVariants.{CreateQueue, CreateTopic, CreateSubscription, CreateRule, Delete, DeleteRule, Send, Cancel, Receive, ReceiveDeferred, Settle, Renew, Accept, SessionRenew, SessionClose, SessionSet, SessionState, Begin, Commit, Rollback, Together, ForgetClient, Peek, Counts, Look}
use Rattle.sb_machine.specs.declared.call.By.{By}
use Rattle.sb_machine.specs.declared.reply.Refusal.{Refusal}
use Rattle.sb_machine.specs.declared.reply.Refusal.TheVariants.{BadCall}
use Rattle.sb_machine.specs.declared.reply.Reply.TheVariants.{Done}
use Rattle.sb_machine.specs.declared.state.EntityKind.TheVariants.{Queue, Topic}
use Rattle.sb_machine.specs.declared.state.Space.{Space}
use Rattle.sb_machine.specs.Queueing.{open_in}
use Rattle.sb_machine.specs.SendRow.{send_row, is_via}
use Rattle.sb_machine.specs.Together.{together_row}
use Rattle.sb_machine.specs.SettleRow.{settle_row}

-- ---- an act

-- What each operation comes to at t in the namespace s, its fields taken for sound. Clients are remembered beside it: what comes of those that
-- ask of clients is said where they are (Repeats).
abbrev pub act_row : Space → ℕ → Act → Row
act_row s t (CreateQueue name d) = create_row s Queue name d
act_row s t (CreateTopic name d) = create_row s Topic name d
act_row s t (CreateSubscription topic name d) = create_subscription_row s topic name d
act_row s t (CreateRule topic subscription name asked action) = create_rule_row s topic subscription name asked action
act_row s t (Delete entity) = delete_row s entity
act_row s t (DeleteRule topic subscription name) = delete_rule_row s topic subscription name
act_row s t (Send to messages txn) = send_row s t to messages txn
act_row s t (Cancel from number) = cancel_row s from number
act_row s t (Receive from mode session) = receive_row s t from mode session
act_row s t (ReceiveDeferred from number mode session) = receive_deferred_row s t from number mode session
act_row s t (Settle from which token session how txn) = settle_row s t from which token session how txn
act_row s t (Renew from which token) = renew_row s t from which token
act_row s t (Accept from id) = accept_row s t from id
act_row s t (SessionRenew from session) = session_renew_row s t from session
act_row s t (SessionClose from session) = session_close_row s t from session
act_row s t (SessionSet from session state) = session_set_row s t from session state
act_row s t (SessionState from session) = session_state_row s t from session
act_row s t (Begin entity) = begin_row s t entity
act_row s t (Commit txn) = commit_row s t txn
act_row s t (Rollback txn) = rollback_row s txn
act_row s t (Peek from start count) = peek_row s from start count
act_row s t (Counts entity) = counts_row s entity
act_row s t (Look what) = look_row s what
act_row s t (Together entity steps) = together_row s t entity steps
act_row s t (ForgetClient name) = answers Done []

-- the refusal of a call for a field that is outside its range, in the operation at this place, if there is one
abbrev pub bad_call : Option ℕ → Key → Option Refusal
bad_call part None = None
bad_call part (Some key) = Some (at_part_or_whole part (BadCall key))

-- whether an operation is a send by way of another entity, in a transaction that is open
abbrev pub is_via_in : Space → Act → Bool
is_via_in s (Send to messages txn) = is_via s to (open_in txn s)
is_via_in s _ = false

-- What an act does at a moment: its fields are judged first, the numbers that it gives last.
abbrev pub row_of : Space → ℕ → Option By → Act → Row
row_of s t by act = numbered t s (refused_by (bad_call (bad_part act) (bad_field (is_via_in s act) act by)) (act_row s t act))
