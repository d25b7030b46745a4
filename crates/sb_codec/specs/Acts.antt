-- The operations (acts), each by its code and the form of its fields. What only looks has no code.
use Rattle.sb_machine.specs.declared.call.Act.{Act}
use Rattle.sb_machine.specs.declared.call.Act.TheVariants as act
use Rattle.sb_codec.specs.Choices.{which, how, filter_text}
use Rattle.sb_codec.specs.Forms.{Form, number64, blob, text, ◌then◌, optional, listed, nothing, Row, row, Case, of, Choice, no_row, ◌or◌, variants}
use Rattle.sb_codec.specs.Messages.{message, any_next}
use Rattle.sb_codec.specs.Pieces.{path, token, description, mode}
use Rattle.sb_codec.specs.Steps.{step}

-- a queue is made; here as below: the code, the form of the fields, and what these make
abbrev pub create_queue : Row Act
create_queue = row 1 (text then description) (λ x. act.CreateQueue x.0 x.1)

-- a topic is made
abbrev pub create_topic : Row Act
create_topic = row 2 (text then description) (λ x. act.CreateTopic x.0 x.1)

-- a subscription is made
abbrev pub create_subscription : Row Act
create_subscription = row 3 (text then text then description) (λ x. act.CreateSubscription x.0 x.1.0 x.1.1)

-- a rule is added
abbrev pub create_rule : Row Act
create_rule = row 4 (text then text then text then filter_text then optional text) (λ x. act.CreateRule x.0 x.1.0 x.1.1.0 x.1.1.1.0 x.1.1.1.1)

-- an entity is removed
abbrev pub delete : Row Act
delete = row 5 path (λ x. act.Delete x)

-- a rule is dropped
abbrev pub delete_rule : Row Act
delete_rule = row 6 (text then text then text) (λ x. act.DeleteRule x.0 x.1.0 x.1.1)

-- messages are sent
abbrev pub send : Row Act
send = row 7 (path then listed any_next message then optional number64) (λ x. act.Send x.0 x.1.0 x.1.1)

-- a scheduled message is cancelled
abbrev pub cancel : Row Act
cancel = row 8 (path then number64) (λ x. act.Cancel x.0 x.1)

-- a message is received
abbrev pub receive : Row Act
receive = row 9 (path then mode then optional token) (λ x. act.Receive x.0 x.1.0 x.1.1)

-- a deferred message is received
abbrev pub receive_deferred : Row Act
receive_deferred = row 10 (path then number64 then mode then optional token) (λ x. act.ReceiveDeferred x.0 x.1.0 x.1.1.0 x.1.1.1)

-- a message is settled
abbrev pub settle : Row Act
settle = row 11 (path then which then token then optional token then how then optional number64) (λ x. act.Settle x.0 x.1.0 x.1.1.0 x.1.1.1.0 x.1.1.1.1.0 x.1.1.1.1.1)

-- a message's lock is renewed
abbrev pub renew : Row Act
renew = row 12 (path then which then token) (λ x. act.Renew x.0 x.1.0 x.1.1)

-- a session is accepted
abbrev pub accept : Row Act
accept = row 13 (path then optional text) (λ x. act.Accept x.0 x.1)

-- a session's lock is renewed
abbrev pub session_renew : Row Act
session_renew = row 14 (path then token) (λ x. act.SessionRenew x.0 x.1)

-- a session is closed
abbrev pub session_close : Row Act
session_close = row 15 (path then token) (λ x. act.SessionClose x.0 x.1)

-- a session's state is written
abbrev pub session_set : Row Act
session_set = row 16 (path then token then optional blob) (λ x. act.SessionSet x.0 x.1.0 x.1.1)

-- a transaction is begun
abbrev pub begin : Row Act
begin = row 17 path (λ x. act.Begin x)

-- a transaction is committed
abbrev pub commit : Row Act
commit = row 18 number64 (λ x. act.Commit x)

-- a transaction is dropped
abbrev pub rollback : Row Act
rollback = row 19 number64 (λ x. act.Rollback x)

-- operations act together
abbrev pub together : Row Act
together = row 32 (path then listed any_next step) (λ x. act.Together x.0 x.1)

-- what is remembered of a client is forgotten
abbrev pub forget_client : Row Act
forget_client = row 33 text (λ x. act.ForgetClient x)

-- what is never journaled
abbrev pub no_act : Row Act
no_act = row 0 nothing (λ a. a)

-- the code and the fields' bytes of each operation
abbrev pub any_act_case : Act → Case
any_act_case (act.CreateQueue name d) = of create_queue (name, d)
any_act_case (act.CreateTopic name d) = of create_topic (name, d)
any_act_case (act.CreateSubscription topic name d) = of create_subscription (topic, (name, d))
any_act_case (act.CreateRule topic subscription name s action) = of create_rule (topic, (subscription, (name, (s, action))))
any_act_case (act.Delete p) = of delete p
any_act_case (act.DeleteRule topic subscription name) = of delete_rule (topic, (subscription, name))
any_act_case (act.Send to messages txn) = of send (to, (messages, txn))
any_act_case (act.Cancel from number) = of cancel (from, number)
any_act_case (act.Receive from m session) = of receive (from, (m, session))
any_act_case (act.ReceiveDeferred from number m session) = of receive_deferred (from, (number, (m, session)))
any_act_case (act.Settle from w t session h txn) = of settle (from, (w, (t, (session, (h, txn)))))
any_act_case (act.Renew from w t) = of renew (from, (w, t))
any_act_case (act.Accept from id) = of accept (from, id)
any_act_case (act.SessionRenew from session) = of session_renew (from, session)
any_act_case (act.SessionClose from session) = of session_close (from, session)
any_act_case (act.SessionSet from session state) = of session_set (from, (session, state))
any_act_case (act.Begin p) = of begin p
any_act_case (act.Commit txn) = of commit txn
any_act_case (act.Rollback txn) = of rollback txn
any_act_case (act.Together entity steps) = of together (entity, steps)
any_act_case (act.ForgetClient name) = of forget_client name
any_act_case (act.SessionState from session) = of no_act (act.SessionState from session)
any_act_case (act.Peek from start count) = of no_act (act.Peek from start count)
any_act_case (act.Counts entity) = of no_act (act.Counts entity)
any_act_case (act.Look what) = of no_act (act.Look what)

-- what is read behind each code
abbrev pub any_act_choice : Choice Act
any_act_choice =
    create_queue or create_topic or create_subscription or create_rule or delete or delete_rule or send or cancel or receive or receive_deferred
    or settle or renew or accept or session_renew or session_close or session_set or begin or commit or rollback or together or forget_client or no_row

-- the form of operations
unfoldable pub any_act : Form Act
any_act = variants any_act_case any_act_choice
