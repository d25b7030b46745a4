-- The words by which the numbers of calls are shown.
use Rattle.std.specs.Prelude.{ℕ, List, codes}
use Rattle.sb_numbers.specs.declared.kind.Kind.{Kind}
use Rattle.sb_numbers.specs.declared.kind.Kind.TheVariants.{CreateQueue, CreateTopic, CreateSubscription, CreateRule, Delete, DeleteRule, Send, Cancel, Receive, ReceiveDeferred, Complete, Abandon, Defer, DeadLetter, Renew, Accept, SessionRenew, SessionClose, SessionSet, SessionState, Begin, Commit, Rollback, Together, ForgetClient, Peek, Counts, List as Lists, Describe, Sessions, Transactions, Clients}
use Rattle.sb_numbers.specs.declared.kind.Outcome.{Outcome}
use Rattle.sb_numbers.specs.declared.kind.Outcome.TheVariants.{Done, Empty, Kept, Refused}

-- the word that a script line has at `do`
abbrev pub kind_word : Kind → List ℕ
kind_word CreateQueue = codes "create-queue"
kind_word CreateTopic = codes "create-topic"
kind_word CreateSubscription = codes "create-subscription"
kind_word CreateRule = codes "create-rule"
kind_word Delete = codes "delete"
kind_word DeleteRule = codes "delete-rule"
kind_word Send = codes "send"
kind_word Cancel = codes "cancel"
kind_word Receive = codes "receive"
kind_word ReceiveDeferred = codes "receive-deferred"
kind_word Complete = codes "complete"
kind_word Abandon = codes "abandon"
kind_word Defer = codes "defer"
kind_word DeadLetter = codes "dead-letter"
kind_word Renew = codes "renew"
kind_word Accept = codes "accept"
kind_word SessionRenew = codes "session-renew"
kind_word SessionClose = codes "session-close"
kind_word SessionSet = codes "session-set"
kind_word SessionState = codes "session-state"
kind_word Begin = codes "begin"
kind_word Commit = codes "commit"
kind_word Rollback = codes "rollback"
kind_word Together = codes "together"
kind_word ForgetClient = codes "forget-client"
kind_word Peek = codes "peek"
kind_word Counts = codes "counts"
kind_word Lists = codes "list"
kind_word Describe = codes "describe"
kind_word Sessions = codes "sessions"
kind_word Transactions = codes "transactions"
kind_word Clients = codes "clients"

-- how it was answered
abbrev pub outcome_word : Outcome → List ℕ
outcome_word Done = codes "done"
outcome_word Empty = codes "empty"
outcome_word Kept = codes "kept"
outcome_word Refused = codes "refused"
