-- The lists of a call that a line spells stand in their order.
use Rattle.std.proofs.Common.{◌≡◌, ℕ, ◌+◌, Bool, true, false, List, [], ◌∷◌, Option, Some, None, refl, subst}
use Rattle.std.specs.Prelude.{codes, bytes_eq, if◌then◌else◌, nat_lt, Result, Ok, Err}
use Rattle.std.specs.Str.{str_to_ascii_lowercase}
use Rattle.serde_json.specs.Data.{Data, Items, no_items, item, Members, no_members, member}
use Rattle.serde_json.specs.Find.{get, as_str, as_array, as_object}
use Rattle.serde_json.specs.Read.{read}
use Rattle.std.specs.Prelude.{option_and_then}
use Rattle.sb_model.specs.Orders.{AreRising, IsInOrder, name_before}
use Rattle.sb_model.specs.SystemNames.{system_code, system_name}
use Rattle.sb_model.specs.declared.message.Message.{Message}
use Rattle.sb_model.specs.declared.message.Property.{Property}
use Rattle.sb_model.specs.declared.message.SystemName.{SystemName}
use Rattle.sb_model.specs.declared.message.SystemName.TheVariants.{MessageId, Label, CorrelationId, SessionId, To, ReplyTo, ReplyToSessionId, ContentType}
use Rattle.sb_model.specs.declared.message.SystemText.{SystemText}
use Rattle.sb_machine.specs.Each.{Each}
use Rattle.sb_machine.specs.Ordered.{IsActInOrder, IsFilterInOrder, IsStepInOrder, asked_of}
use Rattle.sb_machine.specs.declared.call.Act.{Act}
use Rattle.sb_machine.specs.declared.call.Act.TheVariants as act
use Rattle.sb_machine.specs.declared.look.Look.TheVariants as look
use Rattle.sb_machine.specs.declared.call.FilterText.{FilterText}
use Rattle.sb_machine.specs.declared.call.How.{How}
use Rattle.sb_machine.specs.declared.call.How.TheVariants.{Complete, Abandon, Defer, DeadLetter}
use Rattle.sb_machine.specs.declared.call.Path.{Path}
use Rattle.sb_machine.specs.declared.call.Step.{Step}
use Rattle.sb_machine.specs.declared.call.Step.TheVariants as step
use Rattle.sb_machine.specs.declared.rule.Conditions.{Conditions}
use Rattle.sb_lines.specs.declared.table.Either.{Either}
use Rattle.sb_lines.specs.declared.texts.Nulls.{Nulls}
use Rattle.sb_lines.specs.declared.texts.Nulls.TheVariants.{Wrong}
use Rattle.sb_model.specs.Effects.{with_user}
use Rattle.std.specs.Prelude.{IfOk}
use Rattle.sb_lines.specs.declared.fault.KeyFault.{KeyFault}
use Rattle.sb_lines.specs.declared.fault.LineFault.{LineFault}
use Rattle.sb_lines.specs.Faults.{Answers, bad_key, or_key, none_or_key, then_by, at_place}
use Rattle.sb_lines.specs.Fields.{unknown_key, text_at, hex_at}
use Rattle.sb_lines.specs.Descriptions.{queue_fields, topic_fields, subscription_fields}
use Rattle.sb_lines.specs.Tables.{Field, text, name, address, entity, token, whole, number, mode, nothing, ◌and◌, optional, first_or_second, object_of}
use Rattle.sb_amqp.specs.Found.{message_in}
use Rattle.sb_amqp.proofs.Standing.{read_in_order}
use Rattle.std.specs.Result.{result_ok}
use Rattle.sb_lines.specs.declared.line.Line.{Line}
use Rattle.sb_lines.specs.Messages as msg
use Rattle.sb_lines.specs.Lines as lines
use Rattle.sb_lines.proofs.InOrder.{Holds, Any, always, then_holds, known_holds, made_holds, Two, two_hold, UpTo, text_added, text_kept, property_set}

-- ---- system texts

text_from_holds : (k : ℕ) (name : SystemName) (o : Option Data) (sys : List SystemText) → nat_lt k (system_code name) ≡ true → UpTo k sys → Holds (UpTo (system_code name)) (msg.text_from name o sys)
text_from_holds k name None sys less is = text_kept k (system_code name) sys less is
text_from_holds k name (Some d) sys less is = at (as_str d) where
  at : (o : Option (List ℕ)) → Holds (UpTo (system_code name)) (then_by (or_key (system_name name) o) (λ text. Ok (msg.with_text name text sys)))
  at None = tt
  at (Some []) = text_kept k (system_code name) sys less is
  at (Some (b ∷ bs)) = text_added k name b bs sys less is

text_with_holds : (k : ℕ) (nulls : Nulls) (name : SystemName) (d : Data) (sys : List SystemText) → nat_lt k (system_code name) ≡ true → UpTo k sys → Holds (UpTo (system_code name)) (msg.text_with nulls name d sys)
text_with_holds k nulls name d sys less is = text_from_holds k name (msg.member_at nulls (system_name name) d) sys less is

pub none_yet : UpTo 0 []
none_yet = record { rising = tt; set = refl; below = refl }

pub broker_holds : (nulls : Nulls) (d : Data) → Holds (UpTo 7) (msg.broker_texts nulls d)
broker_holds nulls d =
    then_holds (UpTo 1) (UpTo 7) _ _ (text_with_holds 0 nulls MessageId d [] refl none_yet) (λ sys1 is1.
    then_holds (UpTo 2) (UpTo 7) _ _ (text_with_holds 1 nulls Label d sys1 refl is1) (λ sys2 is2.
    then_holds (UpTo 3) (UpTo 7) _ _ (text_with_holds 2 nulls CorrelationId d sys2 refl is2) (λ sys3 is3.
    then_holds (UpTo 4) (UpTo 7) _ _ (text_with_holds 3 nulls SessionId d sys3 refl is3) (λ sys4 is4.
    then_holds (UpTo 5) (UpTo 7) _ _ (text_with_holds 4 nulls To d sys4 refl is4) (λ sys5 is5.
    then_holds (UpTo 6) (UpTo 7) _ _ (text_with_holds 5 nulls ReplyTo d sys5 refl is5) (λ sys6 is6.
    text_with_holds 6 nulls ReplyToSessionId d sys6 refl is6))))))

all_texts_hold : (d : Data) → Holds (UpTo 8) (msg.all_texts d)
all_texts_hold d = then_holds (UpTo 7) (UpTo 8) (msg.broker_texts Wrong d) (λ sys. msg.text_with Wrong ContentType d sys) (broker_holds Wrong d) (λ sys is. text_with_holds 7 Wrong ContentType d sys refl is)

and_holds : {A B : Type 0} (P : A → Type 0) (Q : B → Type 0) (f : Field A) (g : Field B) (d : Data) → Holds P (f.reads d) → Holds Q (g.reads d) → Holds (Two P Q) ((f and g).reads d)
and_holds P Q f g d one two = two_hold P Q (f.reads d) (g.reads d) one two

any_field : {A : Type 0} (f : Field A) (d : Data) → Holds Any (f.reads d)
any_field f d = always (f.reads d)

object_holds : {A : Type 0} (P : A → Type 0) (f : Field A) (d : Data) → Holds P (f.reads d) → Holds P (object_of f d)
object_holds P f d holds = known_holds P (none_or_key (unknown_key f.knows d)) (λ _. f.reads d) (λ _. holds)

texts_hold : (key : List ℕ) (o : Option Data) → Holds (UpTo 8) (msg.texts_from key o)
texts_hold key None = record { rising = tt; set = refl; below = refl }
texts_hold key (Some d) = known_holds (UpTo 8) (or_key key (as_object d)) (λ _. object_of msg.eight_texts d) (λ _. object_holds (UpTo 8) msg.eight_texts d (all_texts_hold d))

-- ---- user properties

abbrev AreByName : List Property → Type 0
AreByName props = AreRising name_before props

members_hold : (ms : Members) (props : List Property) → AreByName props → Holds AreByName (msg.with_members ms props)
members_hold no_members props rising = rising
members_hold (member name d ms) props rising =
    known_holds AreByName (msg.property_from name d) (λ value. msg.with_members ms (with_user (str_to_ascii_lowercase name) (Some value) props)) (λ value.
    members_hold ms (with_user (str_to_ascii_lowercase name) (Some value) props) (property_set (str_to_ascii_lowercase name) value props rising))

properties_hold : (key : List ℕ) (o : Option Data) → Holds AreByName (msg.properties_from key o)
properties_hold key None = tt
properties_hold key (Some d) = known_holds AreByName (or_key key (as_object d)) (λ ms. msg.with_members ms []) (λ ms. members_hold ms [] tt)

-- ---- messages

abbrev AreTexts : List SystemText → Type 0
AreTexts sys = UpTo 8 sys

abbrev body_field : Field (Option (List ℕ))
body_field = msg.bytes (codes "body") (codes "body_hex")

abbrev texts_field : Field (List SystemText)
texts_field = msg.system_texts (codes "sys")

abbrev properties_field : Field (List Property)
properties_field = msg.user_properties (codes "props")

abbrev lifetime_field : Field (Option ℕ)
lifetime_field = msg.lifetime (codes "ttl")

abbrev schedule_field : Field (Option ℕ)
schedule_field = optional (codes "schedule") (whole (codes "schedule"))

abbrev Parts : Type 0
Parts = Option (List ℕ) × (List SystemText × (List Property × (Option ℕ × Option ℕ)))

abbrev Times : Option ℕ × Option ℕ → Type 0
Times x = Any x

abbrev AfterTexts : List Property × (Option ℕ × Option ℕ) → Type 0
AfterTexts = Two AreByName Times

abbrev AfterBody : List SystemText × (List Property × (Option ℕ × Option ℕ)) → Type 0
AfterBody = Two AreTexts AfterTexts

abbrev AreParts : Parts → Type 0
AreParts = Two Any AfterBody

fields_hold : (d : Data) → Holds IsInOrder (msg.message_fields.reads d)
unfolding msg.message_fields
fields_hold d =
    made_holds {A = Parts} {B = Message} (λ x. record { body = msg.or_empty x.0; sys = x.1.0; props = x.1.1.0; ttl = x.1.1.1.0; schedule = x.1.1.1.1 }) AreParts IsInOrder
    ((body_field and texts_field and properties_field and lifetime_field and schedule_field).reads d)
    (and_holds Any AfterBody body_field (texts_field and properties_field and lifetime_field and schedule_field) d (any_field body_field d)
    (and_holds AreTexts AfterTexts texts_field (properties_field and lifetime_field and schedule_field) d (texts_hold (codes "sys") (get (codes "sys") d))
    (and_holds AreByName Times properties_field (lifetime_field and schedule_field) d (properties_hold (codes "props") (get (codes "props") d)) (any_field (lifetime_field and schedule_field) d))))
    (λ x is. record { props = is.1.1.0; sys = is.1.0.rising; set = is.1.0.set })

amqp_holds : (d : Data) → Holds IsInOrder (msg.amqp_field.reads d)
unfolding msg.amqp_field
amqp_holds d = found_holds (hex_at msg.amqp_key d) where
  one_holds : (o : Option Message) → ((m : Message) → o ≡ Some m → IsInOrder m) → Holds IsInOrder (or_key msg.amqp_key o)
  one_holds None is = tt
  one_holds (Some m) is = is m refl

  found_holds : (o : Option (List ℕ)) → Holds IsInOrder (or_key msg.amqp_key (option_and_then message_in o))
  found_holds None = tt
  found_holds (Some bytes) = one_holds (message_in bytes) (read_in_order bytes)

whole_holds : (r : Result Message KeyFault) → Holds IsInOrder r → Holds IsInOrder (or_key msg.amqp_key (result_ok r))
whole_holds (Ok m) holds = holds
whole_holds (Err key) holds = tt

sent_holds : (d : Data) → Holds IsInOrder (msg.sent_fields.reads d)
unfolding msg.sent_fields
sent_holds d = by_key (get msg.amqp_key d) where
  by_key : (o : Option Data) → Holds IsInOrder (msg.sent_from o d)
  by_key None = fields_hold d
  by_key (Some bytes) = whole_holds (object_of msg.amqp_field d) (object_holds IsInOrder msg.amqp_field d (amqp_holds d))

message_holds : (d : Data) → Holds IsInOrder (msg.message_of d)
message_holds d = known_holds IsInOrder (or_key (codes "messages") (as_object d)) (λ _. object_of msg.sent_fields d) (λ _. object_holds IsInOrder msg.sent_fields d (sent_holds d))

pub before_holds : {T : Type 0} (P : T → Type 0) (x : T) (r : Result (List T) KeyFault) → P x → Holds (Each P) r → Holds (Each P) (msg.before_those (x ∷ []) r)
before_holds P x (Ok xs) one all = (one, all)
before_holds P x (Err key) one all = tt

messages_hold : (ds : Items) → Holds (Each IsInOrder) (msg.messages_of ds)
messages_hold no_items = tt
messages_hold (item d ds) = then_holds IsInOrder (Each IsInOrder) (msg.message_of d) (λ m. msg.before_those (m ∷ []) (msg.messages_of ds)) (message_holds d) (λ m is. before_holds IsInOrder m (msg.messages_of ds) is (messages_hold ds))

messages_at_hold : (key : List ℕ) (d : Data) → Holds (Each IsInOrder) ((msg.messages key).reads d)
unfolding msg.messages
messages_at_hold key d = known_holds (Each IsInOrder) (or_key key (option_and_then as_array (get key d))) msg.messages_of messages_hold

-- ---- one of several

-- whichever a test takes
one_holds : {T : Type 0} (P : T → Type 0) (b : Bool) (x y : Result T KeyFault) → Holds P x → Holds P y → Holds P (if b then x else y)
one_holds P true x y one two = one
one_holds P false x y one two = two

-- ---- operations that act together

step_row_holds : {X : Type 0} (P : X → Type 0) (f : Field X) (make : X → Step) (d : Data) → Holds P (f.reads d) → ((x : X) → P x → IsStepInOrder (make x)) → Holds IsStepInOrder (lines.step_row f make d)
step_row_holds P f make d holds onwards = made_holds make P IsStepInOrder (object_of (lines.in_step f) d) (object_holds P (lines.in_step f) d holds) onwards

-- an operation that has no lists
bare_step : {X : Type 0} (f : Field X) (make : X → Step) (d : Data) → ((x : X) → IsStepInOrder (make x)) → Holds IsStepInOrder (lines.step_row f make d)
bare_step f make d onwards = step_row_holds Any f make d (any_field f d) (λ x _. onwards x)

send_step_holds : (d : Data) → Holds IsStepInOrder (lines.send_step d)
unfolding lines.send_step
send_step_holds d =
    step_row_holds (Two Any (Each IsInOrder)) (address (codes "to") and msg.messages (codes "messages")) (λ x. step.Send x.0 x.1) d
    (and_holds Any (Each IsInOrder) (address (codes "to")) (msg.messages (codes "messages")) d (any_field (address (codes "to")) d) (messages_at_hold (codes "messages") d))
    (λ x is. is.1)

settle_step_holds : (how : How) (d : Data) → Holds IsStepInOrder (lines.settle_step how d)
unfolding lines.settle_step
settle_step_holds how d = bare_step (lines.settled nothing) (λ x. step.Settle x.0 x.1.0 x.1.1.0 x.1.1.1.0 how) d (λ x. tt)

dead_letter_step_holds : (d : Data) → Holds IsStepInOrder (lines.dead_letter_step d)
unfolding lines.dead_letter_step
dead_letter_step_holds d = bare_step (lines.settled lines.reasons) (λ x. step.Settle x.0 x.1.0 x.1.1.0 x.1.1.1.0 (DeadLetter x.1.1.1.1.0 x.1.1.1.1.1)) d (λ x. tt)

session_set_step_holds : (d : Data) → Holds IsStepInOrder (lines.session_set_step d)
unfolding lines.session_set_step
session_set_step_holds d = bare_step lines.remembered (λ x. step.SessionSet x.0 x.1.0 x.1.1) d (λ x. tt)

step_named_holds : (word : List ℕ) (d : Data) → Holds IsStepInOrder (lines.step_named word d)
unfolding lines.step_named
step_named_holds word d =
    one_holds IsStepInOrder (bytes_eq word (codes "send")) (lines.send_step d) (if bytes_eq word (codes "complete") then lines.settle_step Complete d else (if bytes_eq word (codes "abandon") then lines.settle_step Abandon d else (if bytes_eq word (codes "defer") then lines.settle_step Defer d else (if bytes_eq word (codes "dead-letter") then lines.dead_letter_step d else (if bytes_eq word (codes "session-set") then lines.session_set_step d else (Err (bad_key None (codes "operations")))))))) (send_step_holds d) (
    one_holds IsStepInOrder (bytes_eq word (codes "complete")) (lines.settle_step Complete d) (if bytes_eq word (codes "abandon") then lines.settle_step Abandon d else (if bytes_eq word (codes "defer") then lines.settle_step Defer d else (if bytes_eq word (codes "dead-letter") then lines.dead_letter_step d else (if bytes_eq word (codes "session-set") then lines.session_set_step d else (Err (bad_key None (codes "operations"))))))) (settle_step_holds Complete d) (
    one_holds IsStepInOrder (bytes_eq word (codes "abandon")) (lines.settle_step Abandon d) (if bytes_eq word (codes "defer") then lines.settle_step Defer d else (if bytes_eq word (codes "dead-letter") then lines.dead_letter_step d else (if bytes_eq word (codes "session-set") then lines.session_set_step d else (Err (bad_key None (codes "operations")))))) (settle_step_holds Abandon d) (
    one_holds IsStepInOrder (bytes_eq word (codes "defer")) (lines.settle_step Defer d) (if bytes_eq word (codes "dead-letter") then lines.dead_letter_step d else (if bytes_eq word (codes "session-set") then lines.session_set_step d else (Err (bad_key None (codes "operations"))))) (settle_step_holds Defer d) (
    one_holds IsStepInOrder (bytes_eq word (codes "dead-letter")) (lines.dead_letter_step d) (if bytes_eq word (codes "session-set") then lines.session_set_step d else (Err (bad_key None (codes "operations")))) (dead_letter_step_holds d) (
    one_holds IsStepInOrder (bytes_eq word (codes "session-set")) (lines.session_set_step d) (Err (bad_key None (codes "operations"))) (session_set_step_holds d) (
    tt))))))

step_holds : (d : Data) → Holds IsStepInOrder (lines.step_of d)
step_holds d = known_holds IsStepInOrder (or_key (codes "operations") (text_at (codes "do") d)) (λ word. lines.step_named word d) (λ word. step_named_holds word d)

placed_holds : {T : Type 0} (P : T → Type 0) (i : ℕ) (r : Result T KeyFault) → Holds P r → Holds P (at_place i r)
placed_holds P i (Ok x) holds = holds
placed_holds P i (Err fault) holds = tt

steps_hold : (i : ℕ) (ds : Items) → Holds (Each IsStepInOrder) (lines.steps_of i ds)
steps_hold i no_items = tt
steps_hold i (item d ds) =
    then_holds IsStepInOrder (Each IsStepInOrder) (at_place i (lines.step_of d)) (λ x. msg.before_those (x ∷ []) (lines.steps_of (i + 1) ds)) (placed_holds IsStepInOrder i (lines.step_of d) (step_holds d)) (λ x is.
    before_holds IsStepInOrder x (lines.steps_of (i + 1) ds) is (steps_hold (i + 1) ds))

operations_hold : (d : Data) → Holds (Each IsStepInOrder) (lines.operations.reads d)
unfolding lines.operations
operations_hold d = known_holds (Each IsStepInOrder) (or_key (codes "operations") (option_and_then as_array (get (codes "operations") d))) (lines.steps_of 0) (steps_hold 0)

-- ---- filters

abbrev AreConditions : Conditions → Type 0
AreConditions c = IsInOrder (asked_of c)

condition_fields_hold : (d : Data) → Holds AreConditions (msg.condition_fields.reads d)
unfolding msg.condition_fields
condition_fields_hold d =
    made_holds {A = List SystemText × List Property} {B = Conditions} (λ x. record { sys = x.0; props = x.1 }) (Two AreTexts AreByName) AreConditions ((texts_field and properties_field).reads d)
    (and_holds AreTexts AreByName texts_field properties_field d (texts_hold (codes "sys") (get (codes "sys") d)) (properties_hold (codes "props") (get (codes "props") d)))
    (λ x is. record { props = is.1; sys = is.0.rising; set = is.0.set })

conditions_hold : (key : List ℕ) (o : Option Data) → Holds AreConditions (msg.conditions_from key o)
conditions_hold key None = tt
conditions_hold key (Some d) = known_holds AreConditions (or_key key (as_object d)) (λ _. object_of msg.condition_fields d) (λ _. object_holds AreConditions msg.condition_fields d (condition_fields_hold d))

abbrev IsOrdered : Option (Either (List ℕ) Conditions) → Type 0
IsOrdered None = Unit {0}
IsOrdered (Some e) = IsFilterInOrder (lines.filter_of e)

either_holds : (other : List ℕ) (one two : Option Data) (a : Result (List ℕ) KeyFault) (b : Result Conditions KeyFault) → Holds AreConditions b → Holds IsOrdered (first_or_second other one two a b)
either_holds other None None a b holds = tt
either_holds other (Some d) two (Err key) b holds = tt
either_holds other (Some d) None (Ok x) b holds = tt
either_holds other (Some d) (Some e) (Ok x) b holds = tt
either_holds other None (Some d) a (Err key) holds = tt
either_holds other None (Some d) a (Ok y) holds = holds

chosen_holds : (key : List ℕ) (r : Result (Option (Either (List ℕ) Conditions)) KeyFault) → Holds IsOrdered r → Holds IsFilterInOrder (then_by (then_by r (or_key key)) (λ x. Ok (lines.filter_of x)))
chosen_holds key (Err k) holds = tt
chosen_holds key (Ok None) holds = tt
chosen_holds key (Ok (Some e)) holds = holds

filter_holds : (d : Data) → Holds IsFilterInOrder (lines.filter.reads d)
unfolding lines.filter msg.conditions
filter_holds d =
    chosen_holds (codes "filter") _ (either_holds (codes "correlation") (get (codes "filter") d) (get (codes "correlation") d) ((text (codes "filter")).reads d) ((msg.conditions (codes "correlation")).reads d)
    (conditions_hold (codes "correlation") (get (codes "correlation") d)))

-- ---- acts

row_holds : {X : Type 0} (P : X → Type 0) (f : Field X) (make : X → Act) (d : Data) → Holds P (f.reads d) → ((x : X) → P x → IsActInOrder (make x)) → Holds IsActInOrder (lines.row f make d)
row_holds P f make d holds onwards = made_holds make P IsActInOrder (object_of (lines.in_line f) d) (object_holds P (lines.in_line f) d holds) onwards

-- an act that has no lists
bare : {X : Type 0} (f : Field X) (make : X → Act) (d : Data) → ((x : X) → IsActInOrder (make x)) → Holds IsActInOrder (lines.row f make d)
bare f make d onwards = row_holds Any f make d (any_field f d) (λ x _. onwards x)

create_queue_holds : (d : Data) → Holds IsActInOrder (lines.create_queue d)
unfolding lines.create_queue
create_queue_holds d = bare (name (codes "name") and queue_fields) (λ x. act.CreateQueue x.0 x.1) d (λ x. tt)

create_topic_holds : (d : Data) → Holds IsActInOrder (lines.create_topic d)
unfolding lines.create_topic
create_topic_holds d = bare (name (codes "name") and topic_fields) (λ x. act.CreateTopic x.0 x.1) d (λ x. tt)

create_subscription_holds : (d : Data) → Holds IsActInOrder (lines.create_subscription d)
unfolding lines.create_subscription
create_subscription_holds d = bare (name (codes "topic") and name (codes "name") and subscription_fields) (λ x. act.CreateSubscription x.0 x.1.0 x.1.1) d (λ x. tt)

delete_holds : (d : Data) → Holds IsActInOrder (lines.delete d)
unfolding lines.delete
delete_holds d = bare (entity (codes "entity")) (λ x. act.Delete x) d (λ x. tt)

delete_rule_holds : (d : Data) → Holds IsActInOrder (lines.delete_rule d)
unfolding lines.delete_rule
delete_rule_holds d = bare (name (codes "topic") and name (codes "subscription") and name (codes "name")) (λ x. act.DeleteRule x.0 x.1.0 x.1.1) d (λ x. tt)

cancel_holds : (d : Data) → Holds IsActInOrder (lines.cancel d)
unfolding lines.cancel
cancel_holds d = bare (address (codes "from") and number (codes "seq")) (λ x. act.Cancel x.0 x.1) d (λ x. tt)

receive_holds : (d : Data) → Holds IsActInOrder (lines.receive d)
unfolding lines.receive
receive_holds d = bare (lines.waiting (lines.shown (address (codes "from") and mode (codes "mode") and lines.session_if))) (λ x. act.Receive x.0 x.1.0 x.1.1) d (λ x. tt)

receive_deferred_holds : (d : Data) → Holds IsActInOrder (lines.receive_deferred d)
unfolding lines.receive_deferred
receive_deferred_holds d = bare (lines.shown (address (codes "from") and number (codes "seq") and mode (codes "mode") and lines.session_if)) (λ x. act.ReceiveDeferred x.0 x.1.0 x.1.1.0 x.1.1.1) d (λ x. tt)

settle_holds : (how : How) (d : Data) → Holds IsActInOrder (lines.settle how d)
unfolding lines.settle
settle_holds how d = bare (lines.settled lines.txn_if) (λ x. act.Settle x.0 x.1.0 x.1.1.0 x.1.1.1.0 how x.1.1.1.1) d (λ x. tt)

dead_letter_holds : (d : Data) → Holds IsActInOrder (lines.dead_letter d)
unfolding lines.dead_letter
dead_letter_holds d = bare (lines.settled (lines.txn_if and lines.reasons)) (λ x. act.Settle x.0 x.1.0 x.1.1.0 x.1.1.1.0 (DeadLetter x.1.1.1.1.1.0 x.1.1.1.1.1.1) x.1.1.1.1.0) d (λ x. tt)

renew_holds : (d : Data) → Holds IsActInOrder (lines.renew d)
unfolding lines.renew
renew_holds d = bare (address (codes "from") and lines.which and token (codes "token")) (λ x. act.Renew x.0 x.1.0 x.1.1) d (λ x. tt)

accept_holds : (d : Data) → Holds IsActInOrder (lines.accept d)
unfolding lines.accept
accept_holds d = bare (lines.waiting (address (codes "from") and lines.text_if (codes "id"))) (λ x. act.Accept x.0 x.1) d (λ x. tt)

session_renew_holds : (d : Data) → Holds IsActInOrder (lines.session_renew d)
unfolding lines.session_renew
session_renew_holds d = bare (address (codes "from") and token (codes "session")) (λ x. act.SessionRenew x.0 x.1) d (λ x. tt)

session_close_holds : (d : Data) → Holds IsActInOrder (lines.session_close d)
unfolding lines.session_close
session_close_holds d = bare (address (codes "from") and token (codes "session")) (λ x. act.SessionClose x.0 x.1) d (λ x. tt)

session_set_holds : (d : Data) → Holds IsActInOrder (lines.session_set d)
unfolding lines.session_set
session_set_holds d = bare lines.remembered (λ x. act.SessionSet x.0 x.1.0 x.1.1) d (λ x. tt)

session_state_holds : (d : Data) → Holds IsActInOrder (lines.session_state d)
unfolding lines.session_state
session_state_holds d = bare (address (codes "from") and token (codes "session")) (λ x. act.SessionState x.0 x.1) d (λ x. tt)

begin_holds : (d : Data) → Holds IsActInOrder (lines.begin d)
unfolding lines.begin
begin_holds d = bare (entity (codes "entity")) (λ x. act.Begin x) d (λ x. tt)

commit_holds : (d : Data) → Holds IsActInOrder (lines.commit d)
unfolding lines.commit
commit_holds d = bare (number (codes "txn")) (λ x. act.Commit x) d (λ x. tt)

rollback_holds : (d : Data) → Holds IsActInOrder (lines.rollback d)
unfolding lines.rollback
rollback_holds d = bare (number (codes "txn")) (λ x. act.Rollback x) d (λ x. tt)

abbrev AreSteps : Path × List Step → Type 0
AreSteps = Two Any (Each IsStepInOrder)

together_fields_hold : (d : Data) → Holds AreSteps (lines.together_fields.reads d)
together_fields_hold d = and_holds Any (Each IsStepInOrder) (entity (codes "entity")) lines.operations d (any_field (entity (codes "entity")) d) (operations_hold d)

together_holds : (d : Data) → Holds IsActInOrder (lines.together d)
unfolding lines.together
together_holds d = row_holds AreSteps lines.together_fields (λ x. act.Together x.0 x.1) d (together_fields_hold d) (λ x is. is.1)

together_alone_holds : (d : Data) → Holds IsActInOrder (lines.together_alone d)
unfolding lines.together_alone
together_alone_holds d =
    made_holds (λ x. act.Together x.0 x.1) AreSteps IsActInOrder (object_of (lines.in_step lines.together_fields) d)
    (object_holds AreSteps (lines.in_step lines.together_fields) d (together_fields_hold d)) (λ x is. is.1)

forget_client_holds : (d : Data) → Holds IsActInOrder (lines.forget_client d)
unfolding lines.forget_client
forget_client_holds d = bare (text (codes "name")) (λ x. act.ForgetClient x) d (λ x. tt)

peek_holds : (d : Data) → Holds IsActInOrder (lines.peek d)
unfolding lines.peek
peek_holds d = bare (lines.shown (address (codes "from") and number (codes "start") and whole (codes "count"))) (λ x. act.Peek x.0 x.1.0 x.1.1) d (λ x. tt)

counts_holds : (d : Data) → Holds IsActInOrder (lines.counts d)
unfolding lines.counts
counts_holds d = bare (entity (codes "entity")) (λ x. act.Counts x) d (λ x. tt)

list_holds : (d : Data) → Holds IsActInOrder (lines.list d)
unfolding lines.list
list_holds d = bare (lines.prefix_if and lines.entity_after and whole (codes "count")) (λ x. act.Look (look.Entities x.0 x.1.0 x.1.1)) d (λ x. tt)

describe_holds : (d : Data) → Holds IsActInOrder (lines.describe d)
unfolding lines.describe
describe_holds d = bare (entity (codes "entity")) (λ x. act.Look (look.Entity x)) d (λ x. tt)

sessions_hold : (d : Data) → Holds IsActInOrder (lines.sessions d)
unfolding lines.sessions
sessions_hold d = bare (entity (codes "entity") and lines.text_if (codes "after") and whole (codes "count")) (λ x. act.Look (look.Sessions x.0 x.1.0 x.1.1)) d (λ x. tt)

transactions_hold : (d : Data) → Holds IsActInOrder (lines.transactions d)
unfolding lines.transactions
transactions_hold d = bare nothing (λ _. act.Look look.Transactions) d (λ x. tt)

clients_hold : (d : Data) → Holds IsActInOrder (lines.clients d)
unfolding lines.clients
clients_hold d = bare (lines.text_if (codes "after") and whole (codes "count")) (λ x. act.Look (look.Clients x.0 x.1)) d (λ x. tt)

abbrev AreSent : List Message × Option ℕ → Type 0
AreSent = Two (Each IsInOrder) Any

send_holds : (d : Data) → Holds IsActInOrder (lines.send d)
unfolding lines.send
send_holds d =
    row_holds (Two Any AreSent) (address (codes "to") and msg.messages (codes "messages") and lines.txn_if) (λ x. act.Send x.0 x.1.0 x.1.1) d
    (and_holds Any AreSent (address (codes "to")) (msg.messages (codes "messages") and lines.txn_if) d (any_field (address (codes "to")) d)
    (and_holds (Each IsInOrder) Any (msg.messages (codes "messages")) lines.txn_if d (messages_at_hold (codes "messages") d) (any_field lines.txn_if d)))
    (λ x is. is.1.0)

abbrev IsRule : FilterText × Option (List ℕ) → Type 0
IsRule = Two IsFilterInOrder Any

abbrev IsNamedRule : List ℕ × (FilterText × Option (List ℕ)) → Type 0
IsNamedRule = Two Any IsRule

abbrev IsPlacedRule : List ℕ × (List ℕ × (FilterText × Option (List ℕ))) → Type 0
IsPlacedRule = Two Any IsNamedRule

abbrev rule_tail : Field (FilterText × Option (List ℕ))
rule_tail = lines.filter and lines.text_if (codes "action")

create_rule_holds : (d : Data) → Holds IsActInOrder (lines.create_rule d)
unfolding lines.create_rule
create_rule_holds d =
    row_holds (Two Any IsPlacedRule) (name (codes "topic") and name (codes "subscription") and name (codes "name") and lines.filter and lines.text_if (codes "action")) (λ x. act.CreateRule x.0 x.1.0 x.1.1.0 x.1.1.1.0 x.1.1.1.1) d
    (and_holds Any IsPlacedRule (name (codes "topic")) (name (codes "subscription") and name (codes "name") and rule_tail) d (any_field (name (codes "topic")) d)
    (and_holds Any IsNamedRule (name (codes "subscription")) (name (codes "name") and rule_tail) d (any_field (name (codes "subscription")) d)
    (and_holds Any IsRule (name (codes "name")) rule_tail d (any_field (name (codes "name")) d)
    (and_holds IsFilterInOrder Any lines.filter (lines.text_if (codes "action")) d (filter_holds d) (any_field (lines.text_if (codes "action")) d)))))
    (λ x is. is.1.1.1.0)

-- ---- lines

either_act : (b : Bool) (x y : Result Act KeyFault) → Holds IsActInOrder x → Holds IsActInOrder y → Holds IsActInOrder (if b then x else y)
either_act b x y one two = one_holds IsActInOrder b x y one two

pub alone_holds : (d : Data) → Holds IsActInOrder (lines.together_of d)
alone_holds d =
    known_holds IsActInOrder (or_key (codes "do") (text_at (codes "do") d)) (λ word. lines.together_named word d) (λ word.
    either_act (bytes_eq word (codes "together")) (lines.together_alone d) (Err (bad_key None (codes "do"))) (together_alone_holds d) tt)

look_act_holds : (word : List ℕ) (d : Data) → Holds IsActInOrder (lines.look_act word d)
unfolding lines.look_act
look_act_holds word d =
    either_act (bytes_eq word (codes "list")) (lines.list d) (if bytes_eq word (codes "describe") then lines.describe d else (if bytes_eq word (codes "sessions") then lines.sessions d else (if bytes_eq word (codes "transactions") then lines.transactions d else (if bytes_eq word (codes "clients") then lines.clients d else (Err (bad_key None (codes "do"))))))) (list_holds d) (
    either_act (bytes_eq word (codes "describe")) (lines.describe d) (if bytes_eq word (codes "sessions") then lines.sessions d else (if bytes_eq word (codes "transactions") then lines.transactions d else (if bytes_eq word (codes "clients") then lines.clients d else (Err (bad_key None (codes "do")))))) (describe_holds d) (
    either_act (bytes_eq word (codes "sessions")) (lines.sessions d) (if bytes_eq word (codes "transactions") then lines.transactions d else (if bytes_eq word (codes "clients") then lines.clients d else (Err (bad_key None (codes "do"))))) (sessions_hold d) (
    either_act (bytes_eq word (codes "transactions")) (lines.transactions d) (if bytes_eq word (codes "clients") then lines.clients d else (Err (bad_key None (codes "do")))) (transactions_hold d) (
    either_act (bytes_eq word (codes "clients")) (lines.clients d) (Err (bad_key None (codes "do"))) (clients_hold d) (
    tt)))))

transaction_act_holds : (word : List ℕ) (d : Data) → Holds IsActInOrder (lines.transaction_act word d)
unfolding lines.transaction_act
transaction_act_holds word d =
    either_act (bytes_eq word (codes "begin")) (lines.begin d) (if bytes_eq word (codes "commit") then lines.commit d else (if bytes_eq word (codes "rollback") then lines.rollback d else (if bytes_eq word (codes "together") then lines.together d else (if bytes_eq word (codes "forget-client") then lines.forget_client d else (lines.look_act word d))))) (begin_holds d) (
    either_act (bytes_eq word (codes "commit")) (lines.commit d) (if bytes_eq word (codes "rollback") then lines.rollback d else (if bytes_eq word (codes "together") then lines.together d else (if bytes_eq word (codes "forget-client") then lines.forget_client d else (lines.look_act word d)))) (commit_holds d) (
    either_act (bytes_eq word (codes "rollback")) (lines.rollback d) (if bytes_eq word (codes "together") then lines.together d else (if bytes_eq word (codes "forget-client") then lines.forget_client d else (lines.look_act word d))) (rollback_holds d) (
    either_act (bytes_eq word (codes "together")) (lines.together d) (if bytes_eq word (codes "forget-client") then lines.forget_client d else (lines.look_act word d)) (together_holds d) (
    either_act (bytes_eq word (codes "forget-client")) (lines.forget_client d) (lines.look_act word d) (forget_client_holds d) (
    look_act_holds word d)))))

session_act_holds : (word : List ℕ) (d : Data) → Holds IsActInOrder (lines.session_act word d)
unfolding lines.session_act
session_act_holds word d =
    either_act (bytes_eq word (codes "accept")) (lines.accept d) (if bytes_eq word (codes "session-renew") then lines.session_renew d else (if bytes_eq word (codes "session-close") then lines.session_close d else (if bytes_eq word (codes "session-set") then lines.session_set d else (if bytes_eq word (codes "session-state") then lines.session_state d else (lines.transaction_act word d))))) (accept_holds d) (
    either_act (bytes_eq word (codes "session-renew")) (lines.session_renew d) (if bytes_eq word (codes "session-close") then lines.session_close d else (if bytes_eq word (codes "session-set") then lines.session_set d else (if bytes_eq word (codes "session-state") then lines.session_state d else (lines.transaction_act word d)))) (session_renew_holds d) (
    either_act (bytes_eq word (codes "session-close")) (lines.session_close d) (if bytes_eq word (codes "session-set") then lines.session_set d else (if bytes_eq word (codes "session-state") then lines.session_state d else (lines.transaction_act word d))) (session_close_holds d) (
    either_act (bytes_eq word (codes "session-set")) (lines.session_set d) (if bytes_eq word (codes "session-state") then lines.session_state d else (lines.transaction_act word d)) (session_set_holds d) (
    either_act (bytes_eq word (codes "session-state")) (lines.session_state d) (lines.transaction_act word d) (session_state_holds d) (
    transaction_act_holds word d)))))

lock_act_holds : (word : List ℕ) (d : Data) → Holds IsActInOrder (lines.lock_act word d)
unfolding lines.lock_act
lock_act_holds word d =
    either_act (bytes_eq word (codes "complete")) (lines.settle Complete d) (if bytes_eq word (codes "abandon") then lines.settle Abandon d else (if bytes_eq word (codes "defer") then lines.settle Defer d else (if bytes_eq word (codes "dead-letter") then lines.dead_letter d else (if bytes_eq word (codes "renew") then lines.renew d else (lines.session_act word d))))) (settle_holds Complete d) (
    either_act (bytes_eq word (codes "abandon")) (lines.settle Abandon d) (if bytes_eq word (codes "defer") then lines.settle Defer d else (if bytes_eq word (codes "dead-letter") then lines.dead_letter d else (if bytes_eq word (codes "renew") then lines.renew d else (lines.session_act word d)))) (settle_holds Abandon d) (
    either_act (bytes_eq word (codes "defer")) (lines.settle Defer d) (if bytes_eq word (codes "dead-letter") then lines.dead_letter d else (if bytes_eq word (codes "renew") then lines.renew d else (lines.session_act word d))) (settle_holds Defer d) (
    either_act (bytes_eq word (codes "dead-letter")) (lines.dead_letter d) (if bytes_eq word (codes "renew") then lines.renew d else (lines.session_act word d)) (dead_letter_holds d) (
    either_act (bytes_eq word (codes "renew")) (lines.renew d) (lines.session_act word d) (renew_holds d) (
    session_act_holds word d)))))

message_act_holds : (word : List ℕ) (d : Data) → Holds IsActInOrder (lines.message_act word d)
unfolding lines.message_act
message_act_holds word d =
    either_act (bytes_eq word (codes "send")) (lines.send d) (if bytes_eq word (codes "cancel") then lines.cancel d else (if bytes_eq word (codes "receive") then lines.receive d else (if bytes_eq word (codes "receive-deferred") then lines.receive_deferred d else (if bytes_eq word (codes "peek") then lines.peek d else (lines.lock_act word d))))) (send_holds d) (
    either_act (bytes_eq word (codes "cancel")) (lines.cancel d) (if bytes_eq word (codes "receive") then lines.receive d else (if bytes_eq word (codes "receive-deferred") then lines.receive_deferred d else (if bytes_eq word (codes "peek") then lines.peek d else (lines.lock_act word d)))) (cancel_holds d) (
    either_act (bytes_eq word (codes "receive")) (lines.receive d) (if bytes_eq word (codes "receive-deferred") then lines.receive_deferred d else (if bytes_eq word (codes "peek") then lines.peek d else (lines.lock_act word d))) (receive_holds d) (
    either_act (bytes_eq word (codes "receive-deferred")) (lines.receive_deferred d) (if bytes_eq word (codes "peek") then lines.peek d else (lines.lock_act word d)) (receive_deferred_holds d) (
    either_act (bytes_eq word (codes "peek")) (lines.peek d) (lines.lock_act word d) (peek_holds d) (
    lock_act_holds word d)))))

act_named_holds : (word : List ℕ) (d : Data) → Holds IsActInOrder (lines.act_named word d)
unfolding lines.act_named
act_named_holds word d =
    either_act (bytes_eq word (codes "create-queue")) (lines.create_queue d) (if bytes_eq word (codes "create-topic") then lines.create_topic d else (if bytes_eq word (codes "create-subscription") then lines.create_subscription d else (if bytes_eq word (codes "create-rule") then lines.create_rule d else (if bytes_eq word (codes "delete") then lines.delete d else (if bytes_eq word (codes "delete-rule") then lines.delete_rule d else (if bytes_eq word (codes "counts") then lines.counts d else (lines.message_act word d))))))) (create_queue_holds d) (
    either_act (bytes_eq word (codes "create-topic")) (lines.create_topic d) (if bytes_eq word (codes "create-subscription") then lines.create_subscription d else (if bytes_eq word (codes "create-rule") then lines.create_rule d else (if bytes_eq word (codes "delete") then lines.delete d else (if bytes_eq word (codes "delete-rule") then lines.delete_rule d else (if bytes_eq word (codes "counts") then lines.counts d else (lines.message_act word d)))))) (create_topic_holds d) (
    either_act (bytes_eq word (codes "create-subscription")) (lines.create_subscription d) (if bytes_eq word (codes "create-rule") then lines.create_rule d else (if bytes_eq word (codes "delete") then lines.delete d else (if bytes_eq word (codes "delete-rule") then lines.delete_rule d else (if bytes_eq word (codes "counts") then lines.counts d else (lines.message_act word d))))) (create_subscription_holds d) (
    either_act (bytes_eq word (codes "create-rule")) (lines.create_rule d) (if bytes_eq word (codes "delete") then lines.delete d else (if bytes_eq word (codes "delete-rule") then lines.delete_rule d else (if bytes_eq word (codes "counts") then lines.counts d else (lines.message_act word d)))) (create_rule_holds d) (
    either_act (bytes_eq word (codes "delete")) (lines.delete d) (if bytes_eq word (codes "delete-rule") then lines.delete_rule d else (if bytes_eq word (codes "counts") then lines.counts d else (lines.message_act word d))) (delete_holds d) (
    either_act (bytes_eq word (codes "delete-rule")) (lines.delete_rule d) (if bytes_eq word (codes "counts") then lines.counts d else (lines.message_act word d)) (delete_rule_holds d) (
    either_act (bytes_eq word (codes "counts")) (lines.counts d) (lines.message_act word d) (counts_holds d) (
    message_act_holds word d)))))))

abbrev IsCallInOrder : Line → Type 0
IsCallInOrder line = IsActInOrder line.timed.call.act

named_call_holds : (word : List ℕ) (d : Data) → Holds IsCallInOrder (lines.named_call word d)
unfolding lines.named_call
named_call_holds word d =
    then_holds IsActInOrder IsCallInOrder (lines.act_named word d) (λ a. then_by (lines.formed (lines.is_numbered word) d) (λ x. Ok (lines.line_with a x))) (act_named_holds word d) (λ a is.
    made_holds (lines.line_with a) Any IsCallInOrder (lines.formed (lines.is_numbered word) d) (always (lines.formed (lines.is_numbered word) d)) (λ x _. is))

call_holds : (d : Data) → Holds IsCallInOrder (lines.call_of d)
call_holds d = known_holds IsCallInOrder (or_key (codes "do") (text_at (codes "do") d)) (λ word. lines.named_call word d) (λ word. named_call_holds word d)

line_holds : (text : List ℕ) → Holds IsCallInOrder (lines.line_of text)
line_holds text = known_holds IsCallInOrder (or_key [] (option_and_then lines.object_itself (read text))) lines.call_of call_holds

pub line_in_order : (text : List ℕ) (line : Line) → lines.line_of text ≡ Ok line → IsCallInOrder line
line_in_order text line e = subst (Holds IsCallInOrder) e (line_holds text)

pub answered_in_order : (text : List ℕ) (r : Result Line LineFault) → Answers r (lines.line_of text) → IfOk r IsCallInOrder
answered_in_order text (Ok line) said = line_in_order text line said
answered_in_order text (Err fault) said = tt
