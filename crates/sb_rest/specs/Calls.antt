-- Which request asks for which call, or what is at fault in it.
use Rattle.std.specs.Prelude.{◌≡◌, ℕ, suc, ◌||◌, Bool, true, false, List, [], ◌∷◌, codes, bytes_eq, is_some, Option, Some, None, Result, Ok, Err, if◌then◌else◌}
use Rattle.std.specs.List.{list_any}
use Rattle.std.specs.Str.{str_to_ascii_lowercase}
use Rattle.percent_encoding.specs.Percent.{percent_decode}
use Rattle.sb_machine.specs.declared.call.Act.{Act}
use Rattle.sb_machine.specs.declared.call.Act.TheVariants.{Cancel, Receive, ReceiveDeferred, Settle, Renew, Send, Accept, SessionRenew, SessionClose, SessionSet, SessionState, Peek, Look}
use Rattle.sb_machine.specs.declared.call.By.{By}
use Rattle.sb_machine.specs.declared.call.How.{How}
use Rattle.sb_machine.specs.declared.call.How.TheVariants.{Complete}
use Rattle.sb_machine.specs.declared.call.Mode.{Mode}
use Rattle.sb_machine.specs.declared.call.Mode.TheVariants.{Lock, Delete}
use Rattle.sb_machine.specs.declared.call.Part.{Part}
use Rattle.sb_machine.specs.declared.call.Part.TheVariants.{Main, Dead, Transfer}
use Rattle.sb_machine.specs.declared.call.Path.{Path}
use Rattle.sb_machine.specs.declared.call.Token.{Token}
use Rattle.sb_machine.specs.declared.call.Which.TheVariants.{Id}
use Rattle.sb_machine.specs.declared.look.Look.{Look as Looked}
use Rattle.sb_machine.specs.declared.look.Look.TheVariants.{Transactions}
use Rattle.sb_model.specs.declared.message.Message.{Message}
use Rattle.sb_http.specs.Fields.{Field}
use Rattle.sb_http.specs.Messages.{RequestMessage}
use Rattle.sb_lines.specs.declared.fault.KeyFault.{KeyFault}
use Rattle.sb_lines.specs.Faults.{or_key, then_by}
use Rattle.sb_lines.specs.Lines.{together_of}
use Rattle.sb_lines.specs.Tokens.{token_in}
use Rattle.sb_routes.specs.declared.routes.Address.{Address}
use Rattle.sb_routes.specs.declared.routes.Address.TheVariants.{Entity, Subscription}
use Rattle.sb_routes.specs.declared.routes.Route.{Route}
use Rattle.sb_routes.specs.declared.routes.Route.TheVariants as route
use Rattle.sb_routes.specs.Paths.{as_text, segment, path_of, query_of}
use Rattle.sb_routes.specs.Routes.{route_of}
use Rattle.sb_rest.specs.declared.asked.Asked.{Asked}
use Rattle.sb_rest.specs.declared.asked.Asked.TheVariants as asked
use Rattle.sb_rest.specs.declared.asked.PathAct.{PathAct}
use Rattle.sb_rest.specs.declared.asked.PathAct.TheVariants as act
use Rattle.sb_rest.specs.declared.asked.Scope.{Scope}
use Rattle.sb_rest.specs.declared.asked.Scope.TheVariants as scope
use Rattle.sb_rest.specs.declared.asked.Sight.{Sight}
use Rattle.sb_rest.specs.declared.asked.Sight.TheVariants as sight
use Rattle.sb_rest.specs.declared.call.RestFault.{RestFault}
use Rattle.sb_rest.specs.declared.call.RestFault.TheVariants.{Foreign, NoKey, NoRoute, BadMethod, Bad, Script, Page, OutOfMemory}
use Rattle.sb_rest.specs.declared.call.Wanted.{Wanted}
use Rattle.sb_rest.specs.declared.access.Access.{Access}
use Rattle.sb_rest.specs.Callers.{is_foreign, has_key}
use Rattle.sb_rest.specs.Batches as batches
use Rattle.sb_rest.specs.Brokers.{object_in}
use Rattle.sb_rest.specs.Entities.{entities_in}
use Rattle.sb_rest.specs.Dispositions.{disposition_in, how_of, unless_empty}
use Rattle.sb_rest.specs.Headers.{message_in}
use Rattle.sb_rest.specs.Peeks.{peek_in}
use Rattle.sb_rest.specs.Repeats.{by_of, number_in}
use Rattle.sb_rest.specs.Timeouts.{timeout_in}

-- ---- methods

-- what is asked for by a POST; methods are told by their case (RFC 9110, 9.1)
abbrev pub if_post : List ℕ → Asked → Option Asked
if_post method a = if bytes_eq method (codes "POST") then Some a else None

-- what is asked for by a GET
abbrev pub if_get : List ℕ → Asked → Option Asked
if_get method a = if bytes_eq method (codes "GET") then Some a else None

-- what the head of an entity or a session is asked for, by the method
abbrev pub at_head : Address → Scope → List ℕ → Option Asked
at_head a s method = if bytes_eq method (codes "DELETE") then Some (asked.Do (act.Take a s Delete)) else if_post method (asked.Do (act.Take a s Lock))

-- what a deferred message is asked for, by the method
abbrev pub at_deferred : Address → Scope → List ℕ → Option Asked
at_deferred a s method = if bytes_eq method (codes "DELETE") then Some (asked.Do (act.TakeDeferred a s Delete)) else if_post method (asked.Do (act.TakeDeferred a s Lock))

-- what a message under a lock is asked for, by the method
abbrev pub at_locked : Address → List ℕ → Option Asked
at_locked a method =
    if bytes_eq method (codes "PUT") then Some (asked.Put a scope.Whole)
    else (if bytes_eq method (codes "DELETE") then Some (asked.Do (act.Complete a scope.Whole)) else if_post method (asked.Do (act.Renew a)))

-- the same of a session's message, whose lock lives as long as the session's
abbrev pub at_session_locked : Address → List ℕ → Option Asked
at_session_locked a method =
    if bytes_eq method (codes "PUT") then Some (asked.Put a scope.Session)
    else (if bytes_eq method (codes "DELETE") then Some (asked.Do (act.Complete a scope.Session)) else None)

-- what a scheduled message is asked for, by the method
abbrev pub at_scheduled : Address → List ℕ → Option Asked
at_scheduled a method = if bytes_eq method (codes "DELETE") then Some (asked.Do (act.Cancel a)) else None

-- what a session that is held is asked for, by the method
abbrev pub at_held : Address → List ℕ → Option Asked
at_held a method = if bytes_eq method (codes "DELETE") then Some (asked.Do (act.CloseSession a)) else if_post method (asked.Do (act.RenewSession a))

-- what is asked for of what a session remembers, by the method
abbrev pub at_state : Address → List ℕ → Option Asked
at_state a method = if bytes_eq method (codes "GET") then Some (asked.Do (act.ReadState a)) else (if bytes_eq method (codes "PUT") then Some (asked.Remember a) else None)

-- the methods of a route
abbrev pub methods_of : Route → List (List ℕ)
methods_of route.Messages = codes "POST" ∷ []
methods_of (route.Head a) = codes "DELETE" ∷ codes "POST" ∷ []
methods_of (route.Deferred a) = codes "DELETE" ∷ codes "POST" ∷ []
methods_of (route.Locked a) = codes "DELETE" ∷ codes "POST" ∷ codes "PUT" ∷ []
methods_of (route.Scheduled a) = codes "DELETE" ∷ []
methods_of (route.NextSession a) = codes "POST" ∷ []
methods_of (route.NamedSession a) = codes "POST" ∷ []
methods_of (route.HeldSession a) = codes "DELETE" ∷ codes "POST" ∷ []
methods_of (route.SessionState a) = codes "GET" ∷ codes "PUT" ∷ []
methods_of (route.SessionHead a) = codes "DELETE" ∷ codes "POST" ∷ []
methods_of (route.SessionDeferred a) = codes "DELETE" ∷ codes "POST" ∷ []
methods_of (route.SessionLocked a) = codes "DELETE" ∷ codes "PUT" ∷ []
methods_of route.Script = codes "POST" ∷ []
methods_of route.Together = codes "POST" ∷ []
methods_of route.Health = codes "GET" ∷ []
methods_of route.Status = codes "GET" ∷ []
methods_of route.Metrics = codes "GET" ∷ []
methods_of route.Peek = codes "GET" ∷ []
methods_of route.Page = codes "GET" ∷ []

-- what a route of calls is asked for, by the method
abbrev pub asked_at : Route → List ℕ → Option Asked
asked_at route.Messages method = if_post method asked.Send
asked_at (route.Head a) method = at_head a scope.Whole method
asked_at (route.Deferred a) method = at_deferred a scope.Whole method
asked_at (route.Locked a) method = at_locked a method
asked_at (route.Scheduled a) method = at_scheduled a method
asked_at (route.NextSession a) method = if_post method (asked.Do (act.AcceptNext a))
asked_at (route.NamedSession a) method = if_post method (asked.Do (act.AcceptNamed a))
asked_at (route.HeldSession a) method = at_held a method
asked_at (route.SessionState a) method = at_state a method
asked_at (route.SessionHead a) method = at_head a scope.Session method
asked_at (route.SessionDeferred a) method = at_deferred a scope.Session method
asked_at (route.SessionLocked a) method = at_session_locked a method
asked_at route.Script method = None
asked_at route.Together method = if_post method asked.Together
asked_at route.Health method = if_get method asked.Health
asked_at route.Status method = if_get method (asked.List sight.Status)
asked_at route.Metrics method = if_get method (asked.List sight.Metrics)
asked_at route.Peek method = if_get method asked.Peek
asked_at route.Page method = None

-- whether a route takes this method
abbrev pub takes : Route → List ℕ → Bool
takes route.Script method = bytes_eq method (codes "POST")
takes route.Page method = bytes_eq method (codes "GET")
takes r method = is_some (asked_at r method)

-- those are all
abbrev pub MethodsAreAll : Type 0
MethodsAreAll = (r : Route) (method : List ℕ) → takes r method ≡ list_any (bytes_eq method) (methods_of r)

-- ---- what the path says

-- what a segment stands for, with its escapes undone (RFC 3986, 2.1)
abbrev pub text_in : ℕ → List ℕ → Result (List ℕ) KeyFault
text_in n path = or_key (codes "path") (as_text (percent_decode (segment n path)))

-- a name, folded to ASCII lower case
abbrev pub name_in : ℕ → List ℕ → Result (List ℕ) KeyFault
name_in n path = then_by (text_in n path) (λ text. Ok (str_to_ascii_lowercase text))

-- the address in the path of a route
unfoldable pub address_in : Address → List ℕ → Result Path KeyFault
address_in (Entity part) path = then_by (name_in 1 path) (λ name. Ok (record { name = name; subscription = None; part = part }))
address_in (Subscription part) path =
    then_by (name_in 1 path) (λ topic. then_by (name_in 3 path) (λ name. Ok (record { name = topic; subscription = Some name; part = part })))

-- how many more slashes a part makes
abbrev pub behind_part : Part → ℕ → ℕ
behind_part Main n = n
behind_part Dead n = suc n
behind_part Transfer n = suc (suc n)

-- how many slashes stand before the id of a session, and before the id or the number of a message that is in none
abbrev pub id_place : Address → ℕ
id_place (Entity part) = behind_part part 3
id_place (Subscription part) = behind_part part 5

-- how many slashes stand before the id or the number of a message
abbrev pub message_place : Address → Scope → ℕ
message_place a scope.Whole = id_place a
message_place a scope.Session = suc (suc (suc (id_place a)))

-- the sequence number in a path, in decimal digits
abbrev pub number_at : ℕ → List ℕ → Result ℕ KeyFault
number_at n path = then_by (text_in n path) (λ text. or_key (codes "seq") (number_in text))

-- the token of a lock in a path
abbrev pub token_at : ℕ → List ℕ → Result Token KeyFault
token_at n path = then_by (text_in n path) (λ text. or_key (codes "token") (token_in text))

-- a session that is held: whose it is, and its token, which alone says which one
abbrev pub held_in : Address → List ℕ → Result (Path × Token) KeyFault
held_in a path = then_by (address_in a path) (λ from. then_by (token_at (suc (id_place a)) path) (λ session. Ok (from, session)))

-- whose messages are meant, and the token of the session that they are in
abbrev pub scope_in : Address → Scope → List ℕ → Result (Path × Option Token) KeyFault
scope_in a scope.Whole path = then_by (address_in a path) (λ from. Ok (from, None))
scope_in a scope.Session path = then_by (held_in a path) (λ h. Ok (h.0, Some h.1))

-- ---- the acts

-- a message under a lock: whose it is, the session it is in, its id and its token
abbrev pub locked_in : Address → Scope → List ℕ → Result (Path × Option Token × List ℕ × Token) KeyFault
locked_in a s path =
    then_by (scope_in a s path) (λ x.
    then_by (text_in (message_place a s) path) (λ id.
    then_by (token_at (suc (message_place a s)) path) (λ token. Ok (x.0, x.1, id, token))))

-- the settlement of a message that is held under a lock
abbrev pub settled : How → Path × Option Token × List ℕ × Token → Act
settled how l = Settle l.0 (Id l.2) l.3 l.1 how None

-- its completion
abbrev pub completed : Address → Scope → List ℕ → Result Act KeyFault
completed a s path = then_by (locked_in a s path) (λ l. Ok (settled Complete l))

-- the renewal of its lock
abbrev pub renewed : Address → List ℕ → Result Act KeyFault
renewed a path = then_by (locked_in a scope.Whole path) (λ l. Ok (Renew l.0 (Id l.2) l.3))

-- a message that its number names: whose it is, the session it is in, and the number
abbrev pub numbered_in : Address → Scope → List ℕ → Result (Path × Option Token × ℕ) KeyFault
numbered_in a s path = then_by (scope_in a s path) (λ x. then_by (number_at (message_place a s) path) (λ number. Ok (x.0, x.1, number)))

-- a receive of a deferred message
abbrev pub taken_deferred : Address → Scope → Mode → List ℕ → Result Act KeyFault
taken_deferred a s mode path = then_by (numbered_in a s path) (λ x. Ok (ReceiveDeferred x.0 x.2 mode x.1))

-- taking a scheduled message back
abbrev pub cancelled : Address → List ℕ → Result Act KeyFault
cancelled a path = then_by (numbered_in a scope.Whole path) (λ x. Ok (Cancel x.0 x.2))

-- a receive of each mode
abbrev pub taken : Address → Scope → Mode → List ℕ → Result Act KeyFault
taken a s mode path = then_by (scope_in a s path) (λ x. Ok (Receive x.0 mode x.1))

-- accepting the next session that nobody holds
abbrev pub accepted_next : Address → List ℕ → Result Act KeyFault
accepted_next a path = then_by (address_in a path) (λ from. Ok (Accept from None))

-- accepting the session of this id
abbrev pub accepted_named : Address → List ℕ → Result Act KeyFault
accepted_named a path = then_by (address_in a path) (λ from. then_by (text_in (id_place a) path) (λ id. Ok (Accept from (Some id))))

-- the act that path and method say whole
abbrev pub act_in : PathAct → List ℕ → Result Act KeyFault
act_in (act.Take a s mode) path = taken a s mode path
act_in (act.TakeDeferred a s mode) path = taken_deferred a s mode path
act_in (act.Complete a s) path = completed a s path
act_in (act.Renew a) path = renewed a path
act_in (act.Cancel a) path = cancelled a path
act_in (act.AcceptNext a) path = accepted_next a path
act_in (act.AcceptNamed a) path = accepted_named a path
act_in (act.RenewSession a) path = then_by (held_in a path) (λ h. Ok (SessionRenew h.0 h.1))
act_in (act.CloseSession a) path = then_by (held_in a path) (λ h. Ok (SessionClose h.0 h.1))
act_in (act.ReadState a) path = then_by (held_in a path) (λ h. Ok (SessionState h.0 h.1))

-- that a session remembers the body, and at none forgets
abbrev pub remembered : Address → List ℕ → List ℕ → Result Act KeyFault
remembered a path body = then_by (held_in a path) (λ h. Ok (SessionSet h.0 h.1 (unless_empty body)))

-- a call that may wait so many seconds, and is answered as its act says
abbrev pub in_time : Option By → Act → ℕ → Wanted
in_time by act timeout = record { call = record { by = by; act = act }; timeout = timeout; sight = sight.Reply }

-- a call of an operator, at once and without a number
abbrev pub told : Sight → Act → Wanted
told s act = record { call = record { by = None; act = act }; timeout = 0; sight = s }

-- a look of an operator
abbrev pub seen : Sight → Looked → Wanted
seen s what = told s (Look what)

-- a look at messages
abbrev pub peeked : Path × ℕ × ℕ → Wanted
peeked x = told sight.Line (Peek x.0 x.1 x.2)

-- how long it may wait, and its number
abbrev pub beside : List ℕ → List Field → Result (ℕ × Option By) KeyFault
beside query fields = then_by (timeout_in query) (λ timeout. then_by (by_of fields) (λ by. Ok (timeout, by)))

-- the query is judged behind the path, and the number of the call behind that
abbrev pub asked_with : List ℕ → List Field → Result Act KeyFault → Result Wanted KeyFault
asked_with query fields act = then_by act (λ a. then_by (beside query fields) (λ b. Ok (in_time b.1 a b.0)))

-- what the query says becomes of a message under a lock is judged behind how long it may wait, and BrokerProperties behind the number of the call
unfoldable pub put : Address → Scope → List ℕ → List ℕ → List Field → Result Wanted KeyFault
put a s path query fields =
    then_by (locked_in a s path) (λ l.
    then_by (timeout_in query) (λ timeout.
    then_by (disposition_in query) (λ disposition.
    then_by (by_of fields) (λ by.
    then_by (how_of disposition fields) (λ how. Ok (in_time by (settled how l) timeout))))))

-- those of a batch, or the one whose headers and body these are
abbrev pub messages_in : List Field → List ℕ → Result (List Message) KeyFault
messages_in fields body = if batches.is_batch fields then batches.messages_in body else message_in fields body

-- the message is judged behind these
unfoldable pub sent : List ℕ → List ℕ → List Field → List ℕ → Result Wanted KeyFault
sent path query fields body =
    then_by (name_in 1 path) (λ name.
    then_by (beside query fields) (λ b.
    then_by (messages_in fields body) (λ messages.
    Ok (in_time b.1 (Send (record { name = name; subscription = None; part = Main }) messages None) b.0))))

-- the operations that act together by a body: the object of a line that has nothing beside its act
abbrev pub together_in : List ℕ → Result Act KeyFault
together_in body = then_by (or_key (codes "Body") (object_in body)) together_of

-- they are judged behind these
unfoldable pub together : List ℕ → List Field → List ℕ → Result Wanted KeyFault
together query fields body = then_by (beside query fields) (λ b. then_by (together_in body) (λ act. Ok (in_time b.1 act b.0)))

-- ---- the call

-- what is wanted, or the key at fault, with the place of the operation that has it, if it is one of those that act together
abbrev pub or_bad : Result Wanted KeyFault → Result Wanted RestFault
or_bad (Ok w) = Ok w
or_bad (Err fault) = Err (Bad fault.part fault.key)

-- the path, the query, the headers and the body together
unfoldable pub wanted_by : Asked → List ℕ → List ℕ → List Field → List ℕ → Result Wanted KeyFault
wanted_by asked.Send path query fields body = sent path query fields body
wanted_by (asked.Put a s) path query fields body = put a s path query fields
wanted_by (asked.Remember a) path query fields body = asked_with query fields (remembered a path body)
wanted_by (asked.Do a) path query fields body = asked_with query fields (act_in a path)
wanted_by asked.Together path query fields body = together query fields body
wanted_by asked.Health path query fields body = Ok (seen sight.Health Transactions)
wanted_by (asked.List s) path query fields body = then_by (entities_in query) (λ what. Ok (seen s what))
wanted_by asked.Peek path query fields body = then_by (peek_in query) (λ x. Ok (peeked x))

-- the call of a route, unless its method is another
abbrev pub on_asked : Route → Option Asked → RequestMessage → Result Wanted RestFault
on_asked r None m = Err (BadMethod r)
on_asked r (Some asked) m = or_bad (wanted_by asked (path_of m.head.target) (query_of m.head.target) m.head.fields m.body)

-- a script line is no call of its own
abbrev pub on_script : List ℕ → Result Wanted RestFault
on_script method = if bytes_eq method (codes "POST") then Err Script else Err (BadMethod route.Script)

-- nor is the page
abbrev pub on_page : List ℕ → Result Wanted RestFault
on_page method = if bytes_eq method (codes "GET") then Err Page else Err (BadMethod route.Page)

-- the call of each route
abbrev pub on_route : Option Route → RequestMessage → Result Wanted RestFault
on_route None m = Err NoRoute
on_route (Some route.Script) m = on_script m.head.method
on_route (Some route.Page) m = on_page m.head.method
on_route (Some r) m = on_asked r (asked_at r m.head.method) m

-- by its path, then its method, then the first key at fault
abbrev pub routed : RequestMessage → Result Wanted RestFault
routed m = on_route (route_of (path_of m.head.target)) m

-- whether this is for all: that the namespace acts, and the page, which has nothing of it
abbrev pub is_open : Option Route → Bool
is_open (Some route.Health) = true
is_open (Some route.Page) = true
is_open _ = false

-- the request shows the key, or needs none
abbrev pub may_call : Access → RequestMessage → Bool
may_call access m = has_key access m.head.fields || is_open (route_of (path_of m.head.target))

-- the call of a request that no page of another origin made
abbrev pub admitted : Access → RequestMessage → Result Wanted RestFault
admitted access m = if may_call access m then routed m else Err NoKey

-- the call of a request, or why it is none: first who made it
abbrev pub call_of : Access → RequestMessage → Result Wanted RestFault
call_of access m = if is_foreign access m.head.fields then Err Foreign else admitted access m

-- no page of another origin makes a call
abbrev pub NoneIsForeign : Type 0
NoneIsForeign = (access : Access) (m : RequestMessage) → is_foreign access m.head.fields ≡ true → call_of access m ≡ Err Foreign

-- nor does who has to show the key, and doesn't
abbrev pub NoneIsKeyless : Type 0
NoneIsKeyless = (access : Access) (m : RequestMessage) → is_foreign access m.head.fields ≡ false → may_call access m ≡ false → call_of access m ≡ Err NoKey

-- without the key there is one call alone, whether the namespace acts
abbrev pub HealthIsOpen : Type 0
HealthIsOpen = (access : Access) (m : RequestMessage) (w : Wanted) → has_key access m.head.fields ≡ false → call_of access m ≡ Ok w → w ≡ seen sight.Health Transactions

-- the result is what is said, or memory was wanting
abbrev pub Answers : Result Wanted RestFault → Result Wanted RestFault → Type 0
Answers (Ok w) said = said ≡ Ok w
Answers (Err Foreign) said = said ≡ Err Foreign
Answers (Err NoKey) said = said ≡ Err NoKey
Answers (Err NoRoute) said = said ≡ Err NoRoute
Answers (Err (BadMethod r)) said = said ≡ Err (BadMethod r)
Answers (Err (Bad part key)) said = said ≡ Err (Bad part key)
Answers (Err Script) said = said ≡ Err Script
Answers (Err Page) said = said ≡ Err Page
Answers (Err OutOfMemory) said = Unit {0}
