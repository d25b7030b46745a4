-- The first field of a call that is outside its range.
use Rattle.std.specs.Prelude.{ℕ, ◌==◌, List, [], ◌∷◌, length, Bool, true, false, nat_le, ◌&&◌, ◌||◌, not, if◌then◌else◌, bytes_eq, codes, Option, Some, None, is_none, is_some}
use Rattle.std.specs.List.{list_all, list_any, position}
use Rattle.std.specs.Str.{chars}
use Rattle.sb_machine.specs.Changes.{max_number}
use Rattle.sb_model.specs.Effects.{text_limit, is_within, max_user_properties}
use Rattle.sb_machine.specs.Names.{is_main, is_address, is_name_byte}
use Rattle.sb_model.specs.SystemNames.{system_name}
use Rattle.sb_machine.specs.declared.call.Act.{Act}
use Rattle.sb_machine.specs.declared.call.Act.TheVariants.{CreateRule, Delete, Send, Cancel, ReceiveDeferred, Settle, Renew, Accept, SessionState, Begin, Commit, Rollback, Together, ForgetClient, Peek, Counts, Look}
use Rattle.sb_machine.specs.declared.call.By.{By}
use Rattle.sb_machine.specs.declared.call.FilterText.{FilterText}
use Rattle.sb_machine.specs.declared.call.FilterText.TheVariants.{Sql, Correlation}
use Rattle.sb_machine.specs.declared.call.How.{How}
use Rattle.sb_machine.specs.declared.call.How.TheVariants.{Complete, Abandon, Defer, DeadLetter}
use Rattle.sb_machine.specs.declared.call.Path.{Path}
use Rattle.sb_machine.specs.declared.look.Look.{Look as Looked}
use Rattle.sb_machine.specs.declared.look.Look.TheVariants.{Entities, Entity, Sessions, Transactions, Clients}
use Rattle.sb_machine.specs.declared.call.Step.{Step}
use Rattle.sb_machine.specs.declared.call.Step.TheVariants.{Send as StepSend, Settle as StepSettle, SessionSet as StateSet}
use Rattle.sb_machine.specs.declared.call.Which.{Which}
use Rattle.sb_machine.specs.declared.call.Which.TheVariants.{Number, Id}
use Rattle.sb_model.specs.declared.message.Message.{Message}
use Rattle.sb_model.specs.declared.message.Property.{Property}
use Rattle.sb_model.specs.declared.message.SystemText.{SystemText}

-- the most messages of one send
abbrev pub max_messages : ℕ
max_messages = 100

-- the most messages that are looked at by one call
abbrev pub max_peeked : ℕ
max_peeked = 100

-- the most entities or sessions that are shown by one call
abbrev pub max_listed : ℕ
max_listed = 1000

-- the greatest time to live, in seconds
abbrev pub max_ttl : ℕ
max_ttl = 922337203685

-- the name of a field that is wrong, or none
abbrev pub Key : Type 0
Key = Option (List ℕ)

-- the one before the other, if it is there
abbrev pub first_some : Key → Key → Key
first_some None other = other
first_some (Some key) other = Some key

-- this key where the test fails
abbrev pub unless : Bool → List ℕ → Key
unless passes key = if passes then None else Some key

-- whether low ≤ n ≤ high
abbrev pub is_between : ℕ → ℕ → ℕ → Bool
is_between low high n = nat_le low n && nat_le n high

-- the same, of a number that may be left out
abbrev pub is_between_or_none : ℕ → ℕ → Option ℕ → Bool
is_between_or_none low high None = true
is_between_or_none low high (Some n) = is_between low high n

-- a number that the namespace may give
abbrev pub is_number : ℕ → Bool
is_number n = is_between 1 max_number n

-- ---- messages

-- the first system text that is longer than it may be
abbrev pub bad_in_texts : List SystemText → Key
bad_in_texts [] = None
bad_in_texts (x ∷ xs) = first_some (unless (is_within (text_limit x.name) (length (chars x.text))) (system_name x.name)) (bad_in_texts xs)

-- whether a byte is an ASCII capital
abbrev pub is_capital : ℕ → Bool
is_capital b = nat_le 65 b && nat_le b 90

-- whether a user property may be named so
abbrev pub is_property_name : List ℕ → Bool
is_property_name name = is_between 1 128 (length name) && not (list_any is_capital name)

-- whether these user properties are named soundly, and not too many
abbrev pub are_properties : List Property → Bool
are_properties props = list_all (λ p. is_property_name p.name) props && nat_le (length props) max_user_properties

-- the first bad field of a correlation filter's conditions
abbrev pub bad_in_conditions : List SystemText → List Property → Key
bad_in_conditions sys props = first_some (bad_in_texts sys) (unless (are_properties props) (codes "props"))

-- a message to another entity than the transaction's may have no schedule
abbrev pub bad_in_message : Bool → Message → Key
bad_in_message is_via m =
    first_some (bad_in_conditions m.sys m.props)
    (first_some (unless (is_between_or_none 1 max_ttl m.ttl) (codes "ttl")) (unless (not is_via || is_none m.schedule) (codes "schedule")))

-- the first bad field of a send's messages, in their order
abbrev pub bad_in_messages : Bool → List Message → Key
bad_in_messages is_via [] = None
bad_in_messages is_via (m ∷ ms) = first_some (bad_in_message is_via m) (bad_in_messages is_via ms)

-- the first bad field of a send
abbrev pub bad_in_send : Bool → List Message → Option ℕ → Key
bad_in_send is_via messages txn =
    first_some (unless (nat_le (length messages) max_messages) (codes "messages"))
    (first_some (bad_in_messages is_via messages) (unless (is_between_or_none 1 max_number txn) (codes "txn")))

-- ---- other acts

-- the first bad field of a filter; the text of an SQL filter is judged when it is read
abbrev pub bad_in_filter : FilterText → Key
bad_in_filter (Sql text) = None
bad_in_filter (Correlation conditions) = bad_in_conditions conditions.sys conditions.props

-- the number by which a message is named, where it is out of its range
abbrev pub bad_in_which : Which → Key
bad_in_which (Number n) = unless (is_number n) (codes "seq")
bad_in_which (Id id) = None

-- in characters
abbrev pub is_short : ℕ → Option (List ℕ) → Bool
is_short most None = true
is_short most (Some text) = nat_le (length (chars text)) most

-- the id of a message or a session
abbrev pub is_id : List ℕ → Bool
is_id text = is_short 128 (Some text)

-- the first bad field of a settlement
abbrev pub bad_in_how : How → Key
bad_in_how Complete = None
bad_in_how Abandon = None
bad_in_how Defer = None
bad_in_how (DeadLetter reason description) = first_some (unless (is_short 4096 reason) (codes "reason")) (unless (is_short 4096 description) (codes "description"))

-- the field that names an entity, where it names a part of it
abbrev pub bad_in_entity : Path → Key
bad_in_entity path = unless (is_main path.part) (codes "entity")

-- whether the name of an entity may begin so
abbrev pub is_front : Option (List ℕ) → Bool
is_front None = true
is_front (Some front) = nat_le (length front) 260 && list_all is_name_byte front

-- whether this is the address of an entity itself, or none
abbrev pub is_entity_or_none : Option Path → Bool
is_entity_or_none None = true
is_entity_or_none (Some path) = is_address path && is_main path.part

-- whether a client may be named so, in bytes
abbrev pub is_client_name : List ℕ → Bool
is_client_name name = is_between 1 50 (length name)

-- the same, or none
abbrev pub is_client_or_none : Option (List ℕ) → Bool
is_client_or_none None = true
is_client_or_none (Some name) = is_client_name name

-- the first bad field of a look
abbrev pub bad_in_look : Looked → Key
bad_in_look (Entities prefix after count) = first_some (unless (is_front prefix) (codes "prefix")) (first_some (unless (is_entity_or_none after) (codes "after")) (unless (is_between 1 max_listed count) (codes "count")))
bad_in_look (Entity path) = bad_in_entity path
bad_in_look (Sessions path after count) = first_some (bad_in_entity path) (first_some (unless (is_short 128 after) (codes "after")) (unless (is_between 1 max_listed count) (codes "count")))
bad_in_look Transactions = None
bad_in_look (Clients after count) = first_some (unless (is_client_or_none after) (codes "after")) (unless (is_between 1 max_listed count) (codes "count"))

-- ---- operations that act together

-- whether an operation sets what the session of this lock remembers
abbrev pub sets_session : ℕ → Step → Bool
sets_session lock (StateSet from session state) = session.lock == lock
sets_session lock _ = false

-- what a session remembers is set at most once
abbrev pub are_set_once : List Step → Bool
are_set_once [] = true
are_set_once (StateSet from session state ∷ xs) = not (list_any (sets_session session.lock) xs) && are_set_once xs
are_set_once (x ∷ xs) = are_set_once xs

-- a text that names a copy is no longer than an id may be
abbrev pub bad_in_id : Which → Key
bad_in_id (Number n) = None
bad_in_id (Id id) = unless (is_id id) (codes "id")

-- the first bad field of one of them
abbrev pub bad_in_step : Step → Key
bad_in_step (StepSend to messages) = bad_in_send false messages None
bad_in_step (StepSettle from which token session how) = first_some (bad_in_which which) (first_some (bad_in_id which) (bad_in_how how))
bad_in_step (StateSet from session state) = None

-- of all
abbrev pub bad_in_steps : List Step → Key
bad_in_steps [] = None
bad_in_steps (x ∷ xs) = first_some (bad_in_step x) (bad_in_steps xs)

-- the most operations that act together
abbrev pub max_steps : ℕ
max_steps = 100

-- the first bad field of the whole, before those of each operation
abbrev pub bad_in_whole : Path → List Step → Key
bad_in_whole entity steps = first_some (bad_in_entity entity) (unless (is_between 1 max_steps (length steps) && are_set_once steps) (codes "operations"))

-- the first bad field of operations that act together
abbrev pub bad_in_together : Path → List Step → Key
bad_in_together entity steps = first_some (bad_in_whole entity steps) (bad_in_steps steps)

-- the place, from 0, of the operation that has the first bad field; none where it is a field of the whole, or none is bad
abbrev pub bad_part : Act → Option ℕ
bad_part (Together entity steps) = if is_none (bad_in_whole entity steps) then position (λ x. is_some (bad_in_step x)) steps else None
bad_part _ = None

-- ---- all acts

-- the first bad field of each operation
abbrev pub bad_in_act : Bool → Act → Key
bad_in_act is_via (CreateRule topic subscription name asked action) = bad_in_filter asked
bad_in_act is_via (Delete entity) = bad_in_entity entity
bad_in_act is_via (Counts entity) = bad_in_entity entity
bad_in_act is_via (Begin entity) = bad_in_entity entity
bad_in_act is_via (Send to messages txn) = bad_in_send is_via messages txn
bad_in_act is_via (Cancel from number) = unless (is_number number) (codes "seq")
bad_in_act is_via (ReceiveDeferred from number mode session) = unless (is_number number) (codes "seq")
bad_in_act is_via (Settle from which token session how txn) = first_some (bad_in_which which) (first_some (unless (is_between_or_none 1 max_number txn) (codes "txn")) (bad_in_how how))
bad_in_act is_via (Renew from which token) = bad_in_which which
bad_in_act is_via (Accept from id) = unless (is_short 128 id) (codes "id")
bad_in_act is_via (Commit txn) = unless (is_number txn) (codes "txn")
bad_in_act is_via (Rollback txn) = unless (is_number txn) (codes "txn")
bad_in_act is_via (Peek from start count) = first_some (unless (is_number start) (codes "start")) (unless (is_between 1 max_peeked count) (codes "count"))
bad_in_act is_via (Look what) = bad_in_look what
bad_in_act is_via (Together entity steps) = bad_in_together entity steps
bad_in_act is_via (ForgetClient name) = unless (is_client_name name) (codes "name")
bad_in_act is_via _ = None

-- acts that take no number
abbrev pub takes_number : Act → Bool
takes_number (Peek from start count) = false
takes_number (SessionState from session) = false
takes_number (Counts entity) = false
takes_number (Look what) = false
takes_number _ = true

-- whether a client's numbered call forgets that client itself
abbrev pub forgets_itself : Act → By → Bool
forgets_itself (ForgetClient name) by = bytes_eq name by.client
forgets_itself _ by = false

-- the first bad field of a repeatable call's client and number
abbrev pub bad_in_by : Act → Option By → Key
bad_in_by act None = None
bad_in_by act (Some by) =
    first_some (unless (not (forgets_itself act by)) (codes "name"))
    (first_some (unless (takes_number act && is_client_name by.client) (codes "client")) (unless (is_number by.number) (codes "number")))

-- the first key at fault, the client's last
abbrev pub bad_field : Bool → Act → Option By → Key
bad_field is_via act by = first_some (bad_in_act is_via act) (bad_in_by act by)
