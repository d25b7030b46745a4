-- The lists of a call that a request asks for stand in their order.
use Rattle.std.proofs.Common.{ℕ, Bool, true, false, List, [], ◌∷◌, Option, Some, None, refl, subst}
use Rattle.std.specs.Prelude.{codes, bytes_eq, if◌then◌else◌, Result, Ok, Err, IfOk}
use Rattle.std.specs.Str.{str_to_ascii_lowercase}
use Rattle.serde_json.specs.Data.{Data, Items, no_items, item, Members, no_members, member}
use Rattle.serde_json.specs.Find.{get, as_object}
use Rattle.sb_model.specs.Orders.{AreRising, IsInOrder, name_before}
use Rattle.sb_model.specs.Effects.{with_user}
use Rattle.sb_model.specs.declared.message.Property.{Property}
use Rattle.sb_model.specs.declared.message.SystemName.TheVariants.{ContentType}
use Rattle.sb_machine.specs.Each.{Each}
use Rattle.sb_machine.specs.Ordered.{IsActInOrder}
use Rattle.sb_machine.specs.declared.call.Act.{Act}
use Rattle.sb_machine.specs.declared.call.Act.TheVariants.{Accept, Cancel, Receive, ReceiveDeferred, Renew, SessionClose, SessionRenew, SessionSet, SessionState}
use Rattle.sb_machine.specs.declared.call.How.TheVariants.{Complete}
use Rattle.sb_machine.specs.declared.call.Which.TheVariants.{Id}
use Rattle.sb_http.specs.Fields.{Field, same_word}
use Rattle.sb_http.specs.Messages.{RequestMessage}
use Rattle.sb_lines.specs.declared.fault.KeyFault.{KeyFault}
use Rattle.sb_lines.specs.declared.texts.Nulls.TheVariants.{Absent}
use Rattle.sb_lines.specs.Faults.{or_key, then_by}
use Rattle.sb_lines.specs.Lines.{together_of}
use Rattle.sb_lines.specs.Messages as msg
use Rattle.sb_lines.proofs.InOrder.{Holds, then_holds, known_holds, made_holds, UpTo, text_added, property_set}
use Rattle.sb_lines.proofs.OrderedLines.{broker_holds, before_holds, alone_holds}
use Rattle.sb_routes.specs.declared.routes.Address.{Address}
use Rattle.sb_routes.specs.declared.routes.Route.{Route}
use Rattle.sb_routes.specs.declared.routes.Route.TheVariants as route
use Rattle.sb_routes.specs.Paths.{as_text, path_of, query_of}
use Rattle.sb_routes.specs.Routes.{route_of}
use Rattle.sb_rest.specs.declared.access.Access.{Access}
use Rattle.sb_rest.specs.declared.asked.Asked.{Asked}
use Rattle.sb_rest.specs.declared.asked.Asked.TheVariants as asked
use Rattle.sb_rest.specs.declared.asked.PathAct.{PathAct}
use Rattle.sb_rest.specs.declared.asked.PathAct.TheVariants as act
use Rattle.sb_rest.specs.declared.asked.Scope.{Scope}
use Rattle.sb_rest.specs.declared.asked.Scope.TheVariants as scope
use Rattle.sb_rest.specs.declared.call.RestFault.{RestFault}
use Rattle.sb_rest.specs.declared.call.RestFault.TheVariants.{Foreign, NoKey, BadMethod, Script, Page}
use Rattle.sb_rest.specs.declared.call.Wanted.{Wanted}
use Rattle.sb_rest.specs.declared.draft.Broker.{Broker}
use Rattle.sb_rest.specs.declared.draft.Draft.{Draft}
use Rattle.sb_rest.specs.Brokers as brokers
use Rattle.sb_rest.specs.Batches as batches
use Rattle.sb_rest.specs.Headers as headers
use Rattle.sb_rest.specs.Calls as calls
use Rattle.sb_rest.specs.Callers.{is_foreign}
use Rattle.sb_rest.specs.Dispositions.{disposition_in, how_of, unless_empty}
use Rattle.sb_rest.specs.Entities.{entities_in}
use Rattle.sb_rest.specs.Peeks.{peek_in}
use Rattle.sb_rest.specs.Lifetimes.{lifetime_in}
use Rattle.sb_rest.specs.Repeats.{by_of}
use Rattle.sb_rest.specs.Reserved.{is_reserved}
use Rattle.sb_rest.specs.Timeouts.{timeout_in}
use Rattle.sb_rest.specs.Values.{header_value}

-- ---- what is said of a message

abbrev AreByName : List Property → Type 0
AreByName props = AreRising name_before props

abbrev IsBroker : Broker → Type 0
IsBroker b = UpTo 7 b.texts

record IsDraft (d : Draft) : Type 0 where
  texts : UpTo 7 d.broker.texts
  props : AreRising name_before d.props

message_in_order : (body : List ℕ) (d : Draft) → IsDraft d → IsInOrder (headers.message_from body d)
message_in_order body d is = by_type d.content_type where
  by_type : (t : List ℕ) → IsInOrder (record { body = body; sys = msg.with_text ContentType t d.broker.texts; props = d.props; ttl = d.broker.ttl; schedule = d.broker.schedule })
  by_type [] = record { props = is.props; sys = is.texts.rising; set = is.texts.set }
  by_type (b ∷ bs) = let up = text_added 7 ContentType b bs d.broker.texts refl is.texts in record { props = is.props; sys = up.rising; set = up.set }

broker_of_holds : (d : Data) → Holds IsBroker (brokers.broker_of d)
unfolding brokers.broker_of
broker_of_holds d =
    then_holds (UpTo 7) IsBroker (msg.broker_texts Absent d) _ (broker_holds Absent d) (λ texts is.
    known_holds IsBroker (lifetime_in d) _ (λ ttl.
    known_holds IsBroker (brokers.schedule_at (codes "ScheduledEnqueueTimeUtc") d) _ (λ schedule. is)))

-- ---- headers

either : {T : Type 0} (P : T → Type 0) (b : Bool) (x y : Result T KeyFault) → Holds P x → Holds P y → Holds P (if b then x else y)
either P true x y one two = one
either P false x y one two = two

with_property_holds : (name : List ℕ) (value : Option (List ℕ)) (d : Draft) → IsDraft d → Holds IsDraft (headers.with_property name value d)
with_property_holds name None d is = tt
with_property_holds name (Some v) d is = record { texts = is.texts; props = property_set (str_to_ascii_lowercase name) (header_value v) d.props is.props }

on_name_holds : (name : Option (List ℕ)) (value : List ℕ) (d : Draft) → IsDraft d → Holds IsDraft (headers.on_name name value d)
on_name_holds None value d is = is
on_name_holds (Some name) value d is = with_property_holds name (as_text value) d is

with_type_holds : (value : List ℕ) (d : Draft) → IsDraft d → Holds IsDraft (headers.with_type value d)
with_type_holds value d is = known_holds IsDraft (or_key headers.type_name (as_text value)) (λ text. Ok (record d { content_type = text })) (λ text. record { texts = is.texts; props = is.props })

with_broker_holds : (value : List ℕ) (d : Draft) → IsDraft d → Holds IsDraft (headers.with_broker value d)
with_broker_holds value d is =
    then_holds IsBroker IsDraft (brokers.broker_in value) (λ broker. Ok (record d { broker = broker }))
    (known_holds IsBroker (or_key (codes "BrokerProperties") (brokers.object_in value)) brokers.broker_of broker_of_holds)
    (λ broker holds. record { texts = holds; props = is.props })

heard_holds : (f : Field) (later : List Field) (d : Draft) → IsDraft d → Holds IsDraft (headers.heard f later d)
unfolding headers.heard
heard_holds f later d is =
    either IsDraft (same_word headers.broker_name f.0) (if headers.stands_in later headers.broker_name then Ok d else headers.with_broker f.1 d) (if same_word headers.type_name f.0 then (if headers.stands_in later headers.type_name then Ok d else headers.with_type f.1 d) else (if is_reserved f.0 then Ok d else headers.on_name (as_text f.0) f.1 d))
    (either IsDraft (headers.stands_in later headers.broker_name) (Ok d) (headers.with_broker f.1 d) is (with_broker_holds f.1 d is))
    (either IsDraft (same_word headers.type_name f.0) (if headers.stands_in later headers.type_name then Ok d else headers.with_type f.1 d) (if is_reserved f.0 then Ok d else headers.on_name (as_text f.0) f.1 d)
    (either IsDraft (headers.stands_in later headers.type_name) (Ok d) (headers.with_type f.1 d) is (with_type_holds f.1 d is))
    (either IsDraft (is_reserved f.0) (Ok d) (headers.on_name (as_text f.0) f.1 d) is (on_name_holds (as_text f.0) f.1 d is)))

heard_all_holds : (fields : List Field) (d : Draft) → IsDraft d → Holds IsDraft (headers.heard_all fields d)
unfolding headers.heard_all
heard_all_holds [] d is = is
heard_all_holds (f ∷ later) d is = then_holds IsDraft IsDraft (headers.heard f later d) (headers.heard_all later) (heard_holds f later d is) (λ e on. heard_all_holds later e on)

no_texts : UpTo 7 []
no_texts = record { rising = tt; set = refl; below = refl }

message_in_holds : (fields : List Field) (body : List ℕ) → Holds (Each IsInOrder) (headers.message_in fields body)
message_in_holds fields body =
    made_holds (λ d. headers.message_from body d ∷ []) IsDraft (Each IsInOrder) (headers.heard_all fields headers.no_draft)
    (heard_all_holds fields headers.no_draft (record { texts = no_texts; props = tt })) (λ d is. (message_in_order body d is, tt))

-- ---- batches

property_holds : (name : List ℕ) (o : Option Data) (props : List Property) → AreByName props → Holds AreByName (batches.property_from name o props)
property_holds name None props rising = rising
property_holds name (Some d) props rising =
    known_holds AreByName (or_key name (msg.value_in d)) (λ value. Ok (with_user (str_to_ascii_lowercase name) (Some value) props)) (λ value. property_set (str_to_ascii_lowercase name) value props rising)

members_hold : (ms : Members) (props : List Property) → AreByName props → Holds AreByName (batches.with_members ms props)
members_hold no_members props rising = rising
members_hold (member name d ms) props rising =
    then_holds AreByName AreByName (batches.property_from name (msg.unless_null d) props) (batches.with_members ms) (property_holds name (msg.unless_null d) props rising) (λ new is. members_hold ms new is)

properties_hold : (o : Option Data) → Holds AreByName (batches.properties_from o)
properties_hold None = tt
properties_hold (Some d) = known_holds AreByName (or_key (codes "UserProperties") (as_object d)) (λ ms. batches.with_members ms []) (λ ms. members_hold ms [] tt)

broker_from_holds : (o : Option Data) → Holds IsBroker (batches.broker_from o)
broker_from_holds None = no_texts
broker_from_holds (Some d) = known_holds IsBroker (or_key (codes "BrokerProperties") (brokers.object_itself d)) brokers.broker_of broker_of_holds

message_holds : (d : Data) → Holds IsInOrder (batches.message_of d)
unfolding batches.message_of
message_holds d =
    known_holds IsInOrder (or_key (codes "Body") (as_object d)) _ (λ _.
    known_holds IsInOrder (batches.body_from (get (codes "Body") d)) _ (λ body.
    then_holds IsBroker IsInOrder (batches.broker_from (get (codes "BrokerProperties") d)) _ (broker_from_holds (get (codes "BrokerProperties") d)) (λ broker is.
    then_holds AreByName IsInOrder (batches.properties_from (get (codes "UserProperties") d)) _ (properties_hold (get (codes "UserProperties") d)) (λ props rising.
    message_in_order body (record { broker = broker; content_type = []; props = props }) (record { texts = is; props = rising })))))

messages_hold : (ds : Items) → Holds (Each IsInOrder) (batches.messages_of ds)
messages_hold no_items = tt
messages_hold (item d ds) =
    then_holds IsInOrder (Each IsInOrder) (batches.message_of d) (λ m. msg.before_those (m ∷ []) (batches.messages_of ds)) (message_holds d) (λ m is. before_holds IsInOrder m (batches.messages_of ds) is (messages_hold ds))

-- ---- calls

abbrev IsWantedInOrder : Wanted → Type 0
IsWantedInOrder w = IsActInOrder w.call.act

all_hold : (fields : List Field) (body : List ℕ) → Holds (Each IsInOrder) (calls.messages_in fields body)
all_hold fields body =
    either (Each IsInOrder) (batches.is_batch fields) (batches.messages_in body) (headers.message_in fields body)
    (known_holds (Each IsInOrder) (or_key (codes "Body") (batches.array_in body)) batches.messages_of messages_hold) (message_in_holds fields body)

sent_holds : (path query : List ℕ) (fields : List Field) (body : List ℕ) → Holds IsWantedInOrder (calls.sent path query fields body)
unfolding calls.sent
sent_holds path query fields body =
    known_holds IsWantedInOrder (calls.name_in 1 path) _ (λ name.
    known_holds IsWantedInOrder (calls.beside query fields) _ (λ b.
    then_holds (Each IsInOrder) IsWantedInOrder (calls.messages_in fields body) _ (all_hold fields body) (λ messages is. is)))

asked_holds_with : (query : List ℕ) (fields : List Field) (act : Result Act KeyFault) → Holds IsActInOrder act → Holds IsWantedInOrder (calls.asked_with query fields act)
asked_holds_with query fields act holds =
    then_holds IsActInOrder IsWantedInOrder act (λ a. then_by (calls.beside query fields) (λ b. Ok (calls.in_time b.1 a b.0))) holds (λ a is.
    known_holds IsWantedInOrder (calls.beside query fields) (λ b. Ok (calls.in_time b.1 a b.0)) (λ b. is))

act_holds : (a : PathAct) (path : List ℕ) → Holds IsActInOrder (calls.act_in a path)
act_holds (act.Take a s mode) path = known_holds IsActInOrder (calls.scope_in a s path) (λ x. Ok (Receive x.0 mode x.1)) (λ x. tt)
act_holds (act.TakeDeferred a s mode) path = known_holds IsActInOrder (calls.numbered_in a s path) (λ x. Ok (ReceiveDeferred x.0 x.2 mode x.1)) (λ x. tt)
act_holds (act.Complete a s) path = known_holds IsActInOrder (calls.locked_in a s path) (λ l. Ok (calls.settled Complete l)) (λ l. tt)
act_holds (act.Renew a) path = known_holds IsActInOrder (calls.locked_in a scope.Whole path) (λ l. Ok (Renew l.0 (Id l.2) l.3)) (λ l. tt)
act_holds (act.Cancel a) path = known_holds IsActInOrder (calls.numbered_in a scope.Whole path) (λ x. Ok (Cancel x.0 x.2)) (λ x. tt)
act_holds (act.AcceptNext a) path = known_holds IsActInOrder (calls.address_in a path) (λ from. Ok (Accept from None)) (λ from. tt)
act_holds (act.AcceptNamed a) path =
    known_holds IsActInOrder (calls.address_in a path) _ (λ from. known_holds IsActInOrder (calls.text_in (calls.id_place a) path) (λ id. Ok (Accept from (Some id))) (λ id. tt))
act_holds (act.RenewSession a) path = known_holds IsActInOrder (calls.held_in a path) (λ h. Ok (SessionRenew h.0 h.1)) (λ h. tt)
act_holds (act.CloseSession a) path = known_holds IsActInOrder (calls.held_in a path) (λ h. Ok (SessionClose h.0 h.1)) (λ h. tt)
act_holds (act.ReadState a) path = known_holds IsActInOrder (calls.held_in a path) (λ h. Ok (SessionState h.0 h.1)) (λ h. tt)

state_holds : (a : Address) (path body : List ℕ) → Holds IsActInOrder (calls.remembered a path body)
state_holds a path body = known_holds IsActInOrder (calls.held_in a path) (λ h. Ok (SessionSet h.0 h.1 (unless_empty body))) (λ h. tt)

put_holds : (a : Address) (s : Scope) (path query : List ℕ) (fields : List Field) → Holds IsWantedInOrder (calls.put a s path query fields)
unfolding calls.put
put_holds a s path query fields =
    known_holds IsWantedInOrder (calls.locked_in a s path) _ (λ l.
    known_holds IsWantedInOrder (timeout_in query) _ (λ timeout.
    known_holds IsWantedInOrder (disposition_in query) _ (λ disposition.
    known_holds IsWantedInOrder (by_of fields) _ (λ by.
    known_holds IsWantedInOrder (how_of disposition fields) (λ how. Ok (calls.in_time by (calls.settled how l) timeout)) (λ how. tt)))))

together_in_holds : (body : List ℕ) → Holds IsActInOrder (calls.together_in body)
together_in_holds body = known_holds IsActInOrder (or_key (codes "Body") (brokers.object_in body)) together_of alone_holds

together_holds : (query : List ℕ) (fields : List Field) (body : List ℕ) → Holds IsWantedInOrder (calls.together query fields body)
unfolding calls.together
together_holds query fields body =
    known_holds IsWantedInOrder (calls.beside query fields) _ (λ b.
    then_holds IsActInOrder IsWantedInOrder (calls.together_in body) (λ act. Ok (calls.in_time b.1 act b.0)) (together_in_holds body) (λ act is. is))

wanted_holds : (a : Asked) (path query : List ℕ) (fields : List Field) (body : List ℕ) → Holds IsWantedInOrder (calls.wanted_by a path query fields body)
unfolding calls.wanted_by
wanted_holds asked.Send path query fields body = sent_holds path query fields body
wanted_holds (asked.Put a s) path query fields body = put_holds a s path query fields
wanted_holds (asked.Remember a) path query fields body = asked_holds_with query fields (calls.remembered a path body) (state_holds a path body)
wanted_holds (asked.Do a) path query fields body = asked_holds_with query fields (calls.act_in a path) (act_holds a path)
wanted_holds asked.Together path query fields body = together_holds query fields body
wanted_holds asked.Health path query fields body = tt
wanted_holds (asked.List s) path query fields body = known_holds IsWantedInOrder (entities_in query) (λ what. Ok (calls.seen s what)) (λ what. tt)
wanted_holds asked.Peek path query fields body = known_holds IsWantedInOrder (peek_in query) (λ x. Ok (calls.peeked x)) (λ x. tt)

-- ---- requests

abbrev AreInOrder : Result Wanted RestFault → Type 0
AreInOrder r = IfOk r IsWantedInOrder

bad_holds : (r : Result Wanted KeyFault) → Holds IsWantedInOrder r → AreInOrder (calls.or_bad r)
bad_holds (Ok w) is = is
bad_holds (Err fault) is = tt

asked_holds : (r : Route) (o : Option Asked) (m : RequestMessage) → AreInOrder (calls.on_asked r o m)
asked_holds r None m = tt
asked_holds r (Some a) m =
    bad_holds (calls.wanted_by a (path_of m.head.target) (query_of m.head.target) m.head.fields m.body) (wanted_holds a (path_of m.head.target) (query_of m.head.target) m.head.fields m.body)

script_holds : (b : Bool) → AreInOrder (if b then Err Script else Err (BadMethod route.Script))
script_holds true = tt
script_holds false = tt

page_holds : (b : Bool) → AreInOrder (if b then Err Page else Err (BadMethod route.Page))
page_holds true = tt
page_holds false = tt

route_holds : (o : Option Route) (m : RequestMessage) → AreInOrder (calls.on_route o m)
route_holds None m = tt
route_holds (Some route.Messages) m = asked_holds route.Messages (calls.asked_at route.Messages m.head.method) m
route_holds (Some (route.Head a)) m = asked_holds (route.Head a) (calls.asked_at (route.Head a) m.head.method) m
route_holds (Some (route.Deferred a)) m = asked_holds (route.Deferred a) (calls.asked_at (route.Deferred a) m.head.method) m
route_holds (Some (route.Locked a)) m = asked_holds (route.Locked a) (calls.asked_at (route.Locked a) m.head.method) m
route_holds (Some (route.Scheduled a)) m = asked_holds (route.Scheduled a) (calls.asked_at (route.Scheduled a) m.head.method) m
route_holds (Some (route.NextSession a)) m = asked_holds (route.NextSession a) (calls.asked_at (route.NextSession a) m.head.method) m
route_holds (Some (route.NamedSession a)) m = asked_holds (route.NamedSession a) (calls.asked_at (route.NamedSession a) m.head.method) m
route_holds (Some (route.HeldSession a)) m = asked_holds (route.HeldSession a) (calls.asked_at (route.HeldSession a) m.head.method) m
route_holds (Some (route.SessionState a)) m = asked_holds (route.SessionState a) (calls.asked_at (route.SessionState a) m.head.method) m
route_holds (Some (route.SessionHead a)) m = asked_holds (route.SessionHead a) (calls.asked_at (route.SessionHead a) m.head.method) m
route_holds (Some (route.SessionDeferred a)) m = asked_holds (route.SessionDeferred a) (calls.asked_at (route.SessionDeferred a) m.head.method) m
route_holds (Some (route.SessionLocked a)) m = asked_holds (route.SessionLocked a) (calls.asked_at (route.SessionLocked a) m.head.method) m
route_holds (Some route.Together) m = asked_holds route.Together (calls.asked_at route.Together m.head.method) m
route_holds (Some route.Health) m = asked_holds route.Health (calls.asked_at route.Health m.head.method) m
route_holds (Some route.Status) m = asked_holds route.Status (calls.asked_at route.Status m.head.method) m
route_holds (Some route.Metrics) m = asked_holds route.Metrics (calls.asked_at route.Metrics m.head.method) m
route_holds (Some route.Peek) m = asked_holds route.Peek (calls.asked_at route.Peek m.head.method) m
route_holds (Some route.Page) m = page_holds (bytes_eq m.head.method (codes "GET"))
route_holds (Some route.Script) m = script_holds (bytes_eq m.head.method (codes "POST"))

calls_hold : (foreign keyed : Bool) (m : RequestMessage) → AreInOrder (if foreign then Err Foreign else (if keyed then calls.routed m else Err NoKey))
calls_hold true keyed m = tt
calls_hold false true m = route_holds (route_of (path_of m.head.target)) m
calls_hold false false m = tt

pub answered_in_order : (access : Access) (m : RequestMessage) (r : Result Wanted RestFault) → calls.Answers r (calls.call_of access m) → AreInOrder r
answered_in_order access m (Ok w) said = subst AreInOrder said (calls_hold (is_foreign access m.head.fields) (calls.may_call access m) m)
answered_in_order access m (Err fault) said = tt
