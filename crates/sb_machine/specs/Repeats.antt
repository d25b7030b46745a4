-- What is remembered of clients: their calls with a number are repeated, refused, or act; it is looked at, and forgotten.
use Rattle.std.specs.Prelude.{ℕ, ◌==◌, Bool, nat_lt, bytes_eq, find, filter, map, take, length, List, [], if◌then◌else◌, Option, Some, None, is_some}
use Rattle.sb_machine.specs.Fields.{takes_number}
use Rattle.sb_machine.specs.Looks.{is_behind}
use Rattle.sb_machine.specs.Rows.{Row, refuses, answers}
use Rattle.sb_machine.specs.Same.{same_act}
use Rattle.sb_machine.specs.declared.call.Act.{Act}
use Rattle.sb_machine.specs.declared.call.Act.TheVariants.{ForgetClient, Look}
use Rattle.sb_machine.specs.declared.call.By.{By}
use Rattle.sb_machine.specs.declared.call.Call.{Call}
use Rattle.sb_machine.specs.declared.change.Change.{Change}
use Rattle.sb_machine.specs.declared.look.ClientShown.{ClientShown}
use Rattle.sb_machine.specs.declared.look.Look.{Look as Looked}
use Rattle.sb_machine.specs.declared.look.Look.TheVariants as look
use Rattle.sb_machine.specs.declared.look.View.TheVariants as seen
use Rattle.sb_machine.specs.declared.reply.Refusal.{Refusal}
use Rattle.sb_machine.specs.declared.reply.Refusal.TheVariants.{StaleNumber, NumberReused, ClientsFull, ClientNotFound}
use Rattle.sb_machine.specs.declared.reply.Reply.{Reply}
use Rattle.sb_machine.specs.declared.reply.Reply.TheVariants.{Seen}
use Rattle.sb_machine.specs.declared.state.Kept.{Kept}
use Rattle.sb_machine.specs.declared.state.State.{State}
use Rattle.sb_machine.specs.Acts.{row_of}

-- ---- a call with a client's number

-- What a call comes to: it is refused, repeats what was kept, acts, or makes the namespace forget a client.
pub data Outcome : Type 0 where
  refused : Refusal → Outcome
  repeated : Reply → Outcome
  acted : Reply → List Change → Outcome
  forgot : List ℕ → Outcome

-- whether this is remembered for that client
abbrev pub is_client : List ℕ → Kept → Bool
is_client client k = bytes_eq k.client client

-- what is remembered for a client, if anything
abbrev pub kept_for : List ℕ → List Kept → Option Kept
kept_for client clients = find (is_client client) clients

-- the most clients that are remembered
abbrev pub max_clients : ℕ
max_clients = 10000

-- ---- looking at clients, and forgetting one

-- a client as it is shown
abbrev pub client_shown : Kept → ClientShown
client_shown k = record { client = k.client; number = k.number }

-- the first clients behind a name
abbrev pub clients_shown : Option (List ℕ) → ℕ → List Kept → List ClientShown
clients_shown after count clients = map client_shown (take count (filter (λ k. is_behind after k.client) clients))

-- what a look shows: clients are shown as they are remembered, of all else the namespace has said it
abbrev pub with_clients : List Kept → Looked → Reply → Reply
with_clients clients (look.Clients after count) reply = Seen (seen.Clients (clients_shown after count clients))
with_clients clients _ reply = reply

-- a client is forgotten that is remembered
abbrev pub forgetting : List ℕ → List Kept → Outcome
forgetting name clients = if is_some (kept_for name clients) then forgot name else refused ClientNotFound

-- what an accepted act comes to where these clients are remembered
abbrev pub of_answer : List Kept → Act → Reply → List Change → Outcome
of_answer clients (ForgetClient name) reply cs = forgetting name clients
of_answer clients (Look what) reply cs = acted (with_clients clients what reply) cs
of_answer clients _ reply cs = acted reply cs

-- the outcome that an act's row is
abbrev pub of_row : List Kept → Act → Row → Outcome
of_row clients act (refuses r) = refused r
of_row clients act (answers reply cs) = of_answer clients act reply cs

-- ---- numbers

-- a client's number against the one that is kept
abbrev pub against : By → Act → Kept → Outcome → Outcome
against by act k next =
    if nat_lt by.number k.number then refused (StaleNumber k.number)
    else (if by.number == k.number then (if same_act k.act act then repeated k.reply else refused NumberReused)
    else next)

-- a numbered call: against what is remembered for its client, or as the first of a new client if there is room
abbrev pub by_number : By → Act → List Kept → Option Kept → Outcome → Outcome
by_number by act clients (Some k) next = against by act k next
by_number by act clients None next = if nat_lt (length clients) max_clients then next else refused ClientsFull

-- who asks, where the act takes a number
abbrev pub client_of : Call → Option By
client_of call = if takes_number call.act then call.by else None

-- a call without a number acts; one with a number is judged by it first
abbrev pub for_client : Option By → Act → List Kept → Outcome → Outcome
for_client None act clients next = next
for_client (Some by) act clients next = by_number by act clients (kept_for by.client clients) next

-- what a call comes to in a state at t
abbrev pub outcome_of : State → ℕ → Call → Outcome
outcome_of s t call = for_client (client_of call) call.act s.clients (of_row s.clients call.act (row_of s.space t call.by call.act))
