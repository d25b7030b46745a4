-- Which line spells which call, and which key is at fault in a line that spells none.
use Rattle.std.specs.Prelude.{ℕ, ◌+◌, List, [], ◌∷◌, Bool, true, false, not, ◌||◌, if◌then◌else◌, codes, bytes_eq, Option, Some, None, option_and_then, Result, Ok, Err}
use Rattle.serde_json.specs.Data.{Data, Items, no_items, item}
use Rattle.serde_json.specs.Read.{read}
use Rattle.serde_json.specs.Find.{get, as_str, as_array, as_object}
use Rattle.sb_machine.specs.declared.call.Act.{Act}
use Rattle.sb_machine.specs.declared.call.Act.TheVariants as act
use Rattle.sb_machine.specs.declared.call.By.{By}
use Rattle.sb_machine.specs.declared.call.FilterText.{FilterText}
use Rattle.sb_machine.specs.declared.call.FilterText.TheVariants.{Sql, Correlation}
use Rattle.sb_machine.specs.declared.call.How.{How}
use Rattle.sb_machine.specs.declared.call.How.TheVariants.{Complete, Abandon, Defer, DeadLetter}
use Rattle.sb_machine.specs.declared.call.Path.{Path}
use Rattle.sb_machine.specs.declared.call.Step.{Step}
use Rattle.sb_machine.specs.declared.call.Step.TheVariants as step
use Rattle.sb_machine.specs.declared.call.Token.{Token}
use Rattle.sb_machine.specs.declared.call.Which.{Which}
use Rattle.sb_machine.specs.declared.call.Which.TheVariants.{Number, Id}
use Rattle.sb_machine.specs.declared.look.Look.TheVariants as look
use Rattle.sb_machine.specs.declared.rule.Conditions.{Conditions}
use Rattle.sb_lines.specs.declared.fault.KeyFault.{KeyFault}
use Rattle.sb_lines.specs.declared.form.Form.{Form}
use Rattle.sb_lines.specs.declared.line.Line.{Line}
use Rattle.sb_lines.specs.declared.table.Either.{Either}
use Rattle.sb_lines.specs.declared.table.Either.TheVariants.{First, Second}
use Rattle.sb_lines.specs.Descriptions.{queue_fields, topic_fields, subscription_fields}
use Rattle.sb_lines.specs.Faults.{bad_key, or_key, then_by, at_place}
use Rattle.sb_lines.specs.Fields.{text_at, whole_in, number_in, or_default}
use Rattle.sb_lines.specs.Messages.{before_those, messages, conditions, bytes}
use Rattle.sb_lines.specs.Tables.{Field, address, entity, name, text, token, whole, number, mode, form, wait, nothing, ◌and◌, optional, one_of, made, object_of}

-- ---- fields that several acts have

-- a number, or an id
abbrev pub which_of : Either ℕ (List ℕ) → Which
which_of (First n) = Number n
which_of (Second id) = Id id

-- a copy, by its number or by its id
unfoldable pub which : Field Which
which = made which_of (one_of (codes "seq") (number (codes "seq")) (codes "id") (text (codes "id")))

-- a text of SQL, or conditions
abbrev pub filter_of : Either (List ℕ) Conditions → FilterText
filter_of (First text) = Sql text
filter_of (Second c) = Correlation c

-- an SQL filter or a correlation filter, and exactly one of them
unfoldable pub filter : Field FilterText
filter = made filter_of (one_of (codes "filter") (text (codes "filter")) (codes "correlation") (conditions (codes "correlation")))

-- the token of a session, or none
abbrev pub session_if : Field (Option Token)
session_if = optional (codes "session") (token (codes "session"))

-- the number of a transaction, or none
abbrev pub txn_if : Field (Option ℕ)
txn_if = optional (codes "txn") (number (codes "txn"))

-- a text, or none
abbrev pub text_if : List ℕ → Field (Option (List ℕ))
text_if key = optional key (text key)

-- a settlement of a copy, and what stands behind its session
abbrev pub settled : {A : Type 0} → Field A → Field (Path × (Which × (Token × (Option Token × A))))
settled rest = address (codes "from") and which and token (codes "token") and session_if and rest

-- a dead letter's reason and description, each or none
abbrev pub reasons : Field (Option (List ℕ) × Option (List ℕ))
reasons = text_if (codes "reason") and text_if (codes "description")

-- what a session is to remember; nothing where neither key stands
abbrev pub remembered : Field (Path × (Token × Option (List ℕ)))
remembered = address (codes "from") and token (codes "session") and bytes (codes "state") (codes "state_hex")

-- ---- operations that act together, each in the fields of its act

-- the keys of an operation: its word, beside those of its fields
abbrev pub in_step : {A : Type 0} → Field A → Field A
in_step f = record { knows = λ k. bytes_eq k (codes "do") || f.knows k; reads = f.reads }

-- the operation that these fields make, of an object that has no other keys
abbrev pub step_row : {P : Type 0} → Field P → (P → Step) → Data → Result Step KeyFault
step_row f make d = then_by (object_of (in_step f) d) (λ x. Ok (make x))

-- messages are sent
unfoldable pub send_step : Data → Result Step KeyFault
send_step = step_row (address (codes "to") and messages (codes "messages")) (λ x. step.Send x.0 x.1)

-- complete, abandon, defer
unfoldable pub settle_step : How → Data → Result Step KeyFault
settle_step how = step_row (settled nothing) (λ x. step.Settle x.0 x.1.0 x.1.1.0 x.1.1.1.0 how)

-- a message is dead-lettered, with a reason and a description or without
unfoldable pub dead_letter_step : Data → Result Step KeyFault
dead_letter_step = step_row (settled reasons) (λ x. step.Settle x.0 x.1.0 x.1.1.0 x.1.1.1.0 (DeadLetter x.1.1.1.1.0 x.1.1.1.1.1))

-- a session's state is written, or removed where neither key stands
unfoldable pub session_set_step : Data → Result Step KeyFault
session_set_step = step_row remembered (λ x. step.SessionSet x.0 x.1.0 x.1.1)

-- the operation of a word, and its fields; no other act is one
unfoldable pub step_named : List ℕ → Data → Result Step KeyFault
step_named word d =
    if bytes_eq word (codes "send") then send_step d
    else if bytes_eq word (codes "complete") then settle_step Complete d
    else if bytes_eq word (codes "abandon") then settle_step Abandon d
    else if bytes_eq word (codes "defer") then settle_step Defer d
    else if bytes_eq word (codes "dead-letter") then dead_letter_step d
    else if bytes_eq word (codes "session-set") then session_set_step d
    else Err (bad_key None (codes "operations"))

-- an operation is an object with its word
abbrev pub step_of : Data → Result Step KeyFault
step_of d = then_by (or_key (codes "operations") (text_at (codes "do") d)) (λ word. step_named word d)

-- each in turn, of which the first is at this place, or the first key at fault and where it is
abbrev pub steps_of : ℕ → Items → Result (List Step) KeyFault
steps_of i no_items = Ok []
steps_of i (item d ds) = then_by (at_place i (step_of d)) (λ x. before_those (x ∷ []) (steps_of (i + 1) ds))

-- a list of operations
unfoldable pub operations : Field (List Step)
operations = record { knows = λ k. bytes_eq k (codes "operations"); reads = λ d. then_by (or_key (codes "operations") (option_and_then as_array (get (codes "operations") d))) (steps_of 0) }

-- ---- the acts

-- the keys that each line may have, beside those of its act
abbrev pub in_line : {A : Type 0} → Field A → Field A
in_line f =
    record { knows = λ k. bytes_eq k (codes "do") || (bytes_eq k (codes "at") || (bytes_eq k (codes "client") || (bytes_eq k (codes "number") || f.knows k))); reads = f.reads }

-- the same, and behind them the form in which the reply is shown, which is no part of the act
abbrev pub shown : {A : Type 0} → Field A → Field A
shown f = record { knows = λ k. f.knows k || bytes_eq k (codes "form"); reads = f.reads }

-- the same, and last how long the call waits while it finds nothing, which is no part of the act either
abbrev pub waiting : {A : Type 0} → Field A → Field A
waiting f = record { knows = λ k. f.knows k || bytes_eq k (codes "wait"); reads = f.reads }

-- the act that these fields make, of an object that has no other keys
abbrev pub row : {P : Type 0} → Field P → (P → Act) → Data → Result Act KeyFault
row f make d = then_by (object_of (in_line f) d) (λ x. Ok (make x))

-- a queue is made
unfoldable pub create_queue : Data → Result Act KeyFault
create_queue = row (name (codes "name") and queue_fields) (λ x. act.CreateQueue x.0 x.1)

-- a topic is made
unfoldable pub create_topic : Data → Result Act KeyFault
create_topic = row (name (codes "name") and topic_fields) (λ x. act.CreateTopic x.0 x.1)

-- a subscription is made
unfoldable pub create_subscription : Data → Result Act KeyFault
create_subscription = row (name (codes "topic") and name (codes "name") and subscription_fields) (λ x. act.CreateSubscription x.0 x.1.0 x.1.1)

-- a rule is added
unfoldable pub create_rule : Data → Result Act KeyFault
create_rule = row (name (codes "topic") and name (codes "subscription") and name (codes "name") and filter and text_if (codes "action")) (λ x. act.CreateRule x.0 x.1.0 x.1.1.0 x.1.1.1.0 x.1.1.1.1)

-- an entity is removed
unfoldable pub delete : Data → Result Act KeyFault
delete = row (entity (codes "entity")) (λ x. act.Delete x)

-- a rule is dropped
unfoldable pub delete_rule : Data → Result Act KeyFault
delete_rule = row (name (codes "topic") and name (codes "subscription") and name (codes "name")) (λ x. act.DeleteRule x.0 x.1.0 x.1.1)

-- messages are sent
unfoldable pub send : Data → Result Act KeyFault
send = row (address (codes "to") and messages (codes "messages") and txn_if) (λ x. act.Send x.0 x.1.0 x.1.1)

-- a scheduled message is cancelled
unfoldable pub cancel : Data → Result Act KeyFault
cancel = row (address (codes "from") and number (codes "seq")) (λ x. act.Cancel x.0 x.1)

-- a message is received
unfoldable pub receive : Data → Result Act KeyFault
receive = row (waiting (shown (address (codes "from") and mode (codes "mode") and session_if))) (λ x. act.Receive x.0 x.1.0 x.1.1)

-- a deferred message is received
unfoldable pub receive_deferred : Data → Result Act KeyFault
receive_deferred = row (shown (address (codes "from") and number (codes "seq") and mode (codes "mode") and session_if)) (λ x. act.ReceiveDeferred x.0 x.1.0 x.1.1.0 x.1.1.1)

-- complete, abandon, defer
unfoldable pub settle : How → Data → Result Act KeyFault
settle how = row (settled txn_if) (λ x. act.Settle x.0 x.1.0 x.1.1.0 x.1.1.1.0 how x.1.1.1.1)

-- a message is dead-lettered, with a reason and a description or without
unfoldable pub dead_letter : Data → Result Act KeyFault
dead_letter = row (settled (txn_if and reasons)) (λ x. act.Settle x.0 x.1.0 x.1.1.0 x.1.1.1.0 (DeadLetter x.1.1.1.1.1.0 x.1.1.1.1.1.1) x.1.1.1.1.0)

-- a message's lock is renewed
unfoldable pub renew : Data → Result Act KeyFault
renew = row (address (codes "from") and which and token (codes "token")) (λ x. act.Renew x.0 x.1.0 x.1.1)

-- a session is accepted, by its id or the next one
unfoldable pub accept : Data → Result Act KeyFault
accept = row (waiting (address (codes "from") and text_if (codes "id"))) (λ x. act.Accept x.0 x.1)

-- a session's lock is renewed
unfoldable pub session_renew : Data → Result Act KeyFault
session_renew = row (address (codes "from") and token (codes "session")) (λ x. act.SessionRenew x.0 x.1)

-- a session is closed
unfoldable pub session_close : Data → Result Act KeyFault
session_close = row (address (codes "from") and token (codes "session")) (λ x. act.SessionClose x.0 x.1)

-- a session's state is written, or removed where neither key stands
unfoldable pub session_set : Data → Result Act KeyFault
session_set = row remembered (λ x. act.SessionSet x.0 x.1.0 x.1.1)

-- a session's state is read
unfoldable pub session_state : Data → Result Act KeyFault
session_state = row (address (codes "from") and token (codes "session")) (λ x. act.SessionState x.0 x.1)

-- a transaction is begun
unfoldable pub begin : Data → Result Act KeyFault
begin = row (entity (codes "entity")) (λ x. act.Begin x)

-- a transaction is committed
unfoldable pub commit : Data → Result Act KeyFault
commit = row (number (codes "txn")) (λ x. act.Commit x)

-- a transaction is dropped
unfoldable pub rollback : Data → Result Act KeyFault
rollback = row (number (codes "txn")) (λ x. act.Rollback x)

-- the entity whose transaction would have them, and the operations
abbrev pub together_fields : Field (Path × List Step)
together_fields = entity (codes "entity") and operations

-- operations act together
unfoldable pub together : Data → Result Act KeyFault
together = row together_fields (λ x. act.Together x.0 x.1)

-- what is remembered of a client is forgotten
unfoldable pub forget_client : Data → Result Act KeyFault
forget_client = row (text (codes "name")) (λ x. act.ForgetClient x)

-- messages are looked at, from a number on
unfoldable pub peek : Data → Result Act KeyFault
peek = row (shown (address (codes "from") and number (codes "start") and whole (codes "count"))) (λ x. act.Peek x.0 x.1.0 x.1.1)

-- messages are counted
unfoldable pub counts : Data → Result Act KeyFault
counts = row (entity (codes "entity")) (λ x. act.Counts x)

-- ---- what an operator looks at

-- the name that those asked for begin with, or none
abbrev pub prefix_if : Field (Option (List ℕ))
prefix_if = optional (codes "prefix") (name (codes "prefix"))

-- the address behind which those asked for come, or none
abbrev pub entity_after : Field (Option Path)
entity_after = optional (codes "after") (entity (codes "after"))

-- entities are listed
unfoldable pub list : Data → Result Act KeyFault
list = row (prefix_if and entity_after and whole (codes "count")) (λ x. act.Look (look.Entities x.0 x.1.0 x.1.1))

-- one entity is described
unfoldable pub describe : Data → Result Act KeyFault
describe = row (entity (codes "entity")) (λ x. act.Look (look.Entity x))

-- the sessions of an entity are listed
unfoldable pub sessions : Data → Result Act KeyFault
sessions = row (entity (codes "entity") and text_if (codes "after") and whole (codes "count")) (λ x. act.Look (look.Sessions x.0 x.1.0 x.1.1))

-- the open transactions are listed
unfoldable pub transactions : Data → Result Act KeyFault
transactions = row nothing (λ _. act.Look look.Transactions)

-- the clients that are remembered are listed
unfoldable pub clients : Data → Result Act KeyFault
clients = row (text_if (codes "after") and whole (codes "count")) (λ x. act.Look (look.Clients x.0 x.1))

-- ---- the act of a name, and its fields: those of one kind, else those of the next

-- what an operator looks at
unfoldable pub look_act : List ℕ → Data → Result Act KeyFault
look_act word d =
    if bytes_eq word (codes "list") then list d
    else if bytes_eq word (codes "describe") then describe d
    else if bytes_eq word (codes "sessions") then sessions d
    else if bytes_eq word (codes "transactions") then transactions d
    else if bytes_eq word (codes "clients") then clients d
    else Err (bad_key None (codes "do"))

-- transactions, and what is remembered of clients
unfoldable pub transaction_act : List ℕ → Data → Result Act KeyFault
transaction_act word d =
    if bytes_eq word (codes "begin") then begin d
    else if bytes_eq word (codes "commit") then commit d
    else if bytes_eq word (codes "rollback") then rollback d
    else if bytes_eq word (codes "together") then together d
    else if bytes_eq word (codes "forget-client") then forget_client d
    else look_act word d

-- sessions
unfoldable pub session_act : List ℕ → Data → Result Act KeyFault
session_act word d =
    if bytes_eq word (codes "accept") then accept d
    else if bytes_eq word (codes "session-renew") then session_renew d
    else if bytes_eq word (codes "session-close") then session_close d
    else if bytes_eq word (codes "session-set") then session_set d
    else if bytes_eq word (codes "session-state") then session_state d
    else transaction_act word d

-- copies under a lock
unfoldable pub lock_act : List ℕ → Data → Result Act KeyFault
lock_act word d =
    if bytes_eq word (codes "complete") then settle Complete d
    else if bytes_eq word (codes "abandon") then settle Abandon d
    else if bytes_eq word (codes "defer") then settle Defer d
    else if bytes_eq word (codes "dead-letter") then dead_letter d
    else if bytes_eq word (codes "renew") then renew d
    else session_act word d

-- messages
unfoldable pub message_act : List ℕ → Data → Result Act KeyFault
message_act word d =
    if bytes_eq word (codes "send") then send d
    else if bytes_eq word (codes "cancel") then cancel d
    else if bytes_eq word (codes "receive") then receive d
    else if bytes_eq word (codes "receive-deferred") then receive_deferred d
    else if bytes_eq word (codes "peek") then peek d
    else lock_act word d

-- entities and rules
unfoldable pub act_named : List ℕ → Data → Result Act KeyFault
act_named word d =
    if bytes_eq word (codes "create-queue") then create_queue d
    else if bytes_eq word (codes "create-topic") then create_topic d
    else if bytes_eq word (codes "create-subscription") then create_subscription d
    else if bytes_eq word (codes "create-rule") then create_rule d
    else if bytes_eq word (codes "delete") then delete d
    else if bytes_eq word (codes "delete-rule") then delete_rule d
    else if bytes_eq word (codes "counts") then counts d
    else message_act word d

-- ---- the line

-- the reading of the clock; absent counts as 0
unfoldable pub reading_of : Data → Result ℕ KeyFault
reading_of d = or_default (codes "at") 0 whole_in (get (codes "at") d)

-- a client's name and its call's number, the name's fault first
abbrev pub named_by : Data → Option Data → Result By KeyFault
named_by client number =
    then_by (or_key (codes "client") (as_str client)) (λ name.
    then_by (or_key (codes "number") (option_and_then number_in number)) (λ n. Ok (record { client = name; number = n })))

-- Both or neither, and neither on an act that takes no number.
abbrev pub by_from : Bool → Option Data → Option Data → Result (Option By) KeyFault
by_from takes None None = Ok None
by_from takes None (Some n) = Err (bad_key None (codes "client"))
by_from false (Some c) n = Err (bad_key None (codes "client"))
by_from true (Some c) n = then_by (named_by c n) (λ by. Ok (Some by))

-- the same of an object's keys
abbrev pub by_of : Bool → Data → Result (Option By) KeyFault
by_of takes d = by_from takes (get (codes "client") d) (get (codes "number") d)

-- what stands beside the act: when it is asked for, and by whom
unfoldable pub beside : Bool → Data → Result (ℕ × Option By) KeyFault
beside takes d = then_by (reading_of d) (λ reading. then_by (by_of takes d) (λ by. Ok (reading, by)))

-- whether an act of this name is what an operator looks at
abbrev pub is_look : List ℕ → Bool
is_look word =
    bytes_eq word (codes "list") || bytes_eq word (codes "describe") || bytes_eq word (codes "sessions") || bytes_eq word (codes "transactions") || bytes_eq word (codes "clients")

-- whether a client may number the act of this name: not what only looks
abbrev pub is_numbered : List ℕ → Bool
is_numbered word = not (bytes_eq word (codes "peek") || bytes_eq word (codes "session-state") || bytes_eq word (codes "counts") || is_look word)

-- the form of the reply and how long the call waits
abbrev pub manner : Field (Form × ℕ)
manner = form (codes "form") and wait (codes "wait")

-- these, then what stands beside the act; a key that the act has not is at fault before them
abbrev pub formed : Bool → Data → Result ((Form × ℕ) × (ℕ × Option By)) KeyFault
formed takes d = then_by (manner.reads d) (λ m. then_by (beside takes d) (λ x. Ok (m, x)))

-- an act with what stands beside it
abbrev pub line_with : Act → (Form × ℕ) × (ℕ × Option By) → Line
line_with a x = record { timed = record { reading = x.1.0; call = record { by = x.1.1; act = a } }; form = x.0.0; wait_s = x.0.1 }

-- the act's name first, then the keys that it has not, then its fields, then what stands beside them
unfoldable pub named_call : List ℕ → Data → Result Line KeyFault
named_call word d = then_by (act_named word d) (λ a. then_by (formed (is_numbered word) d) (λ x. Ok (line_with a x)))

-- what an object asks for, by its word
abbrev pub call_of : Data → Result Line KeyFault
call_of d = then_by (or_key (codes "do") (text_at (codes "do") d)) (λ word. named_call word d)

-- this, if it is an object
abbrev pub object_itself : Data → Option Data
object_itself d = option_and_then (λ _. Some d) (as_object d)

-- the call that this text spells, with the form of its reply and how long it waits, or the key at fault, which is empty where the text is no object
abbrev pub line_of : List ℕ → Result Line KeyFault
line_of text = then_by (or_key [] (option_and_then object_itself (read text))) call_of

-- ---- operations that act together, by an object that has nothing beside their act: a request of HTTP says the rest in its head

-- the act of an object that has its word, and no keys beside those of its fields
unfoldable pub together_alone : Data → Result Act KeyFault
together_alone d = then_by (object_of (in_step together_fields) d) (λ x. Ok (act.Together x.0 x.1))

-- no other act is asked for so
abbrev pub together_named : List ℕ → Data → Result Act KeyFault
together_named word d = if bytes_eq word (codes "together") then together_alone d else Err (bad_key None (codes "do"))

-- what an object asks for, by its word
abbrev pub together_of : Data → Result Act KeyFault
together_of d = then_by (or_key (codes "do") (text_at (codes "do") d)) (λ word. together_named word d)
