-- What the words of a call name: what `clap` makes of them at the program's command line.
use Rattle.std.specs.Prelude.{◌≡◌, ◌⊎◌, ℕ, ◌^◌, ◌-◌, ◌==◌, ◌&&◌, nat_le, not, Bool, false, List, [], ◌∷◌, codes, bytes_eq, length, map, true, Option, Some, None, option_map, if◌then◌else◌}
use Rattle.std.specs.List.{list_all}
use Rattle.clap.specs.Simple.{on_top}
use Rattle.clap.specs.Words.{App, IsAmong, Kinds, Row, Rule, Shape, Text, all_of, fault_of, first_of, new_app, new_rule, subcommand_of, with_rule, with_subcommand}
use Rattle.clap.specs.declared.builder.action.ArgAction.TheVariants.{Append, SetTrue}
use Rattle.clap.specs.declared.error.kind.ErrorKind.{ErrorKind}
use Rattle.clap.specs.declared.error.kind.ErrorKind.TheVariants.{DisplayHelp, DisplayVersion}
use Rattle.sb_http.specs.Fields.{is_number, number_of}
use Rattle.sb_words.specs.declared.command.Command.{Command}
use Rattle.sb_words.specs.declared.command.Command.TheVariants.{Run, Check, Client, Serve, Drill}
use Rattle.sb_words.specs.declared.command.Form.{Form as ReadForm}

-- ---- the command line

-- `--data DIR`, which has to be there
abbrev pub data_option : Rule
data_option = record (new_rule (codes "data")) { long = Some (codes "data"); value_names = 1; required = true }

-- `--port P`, which has to be there
abbrev pub port_option : Rule
port_option = record (new_rule (codes "port")) { long = Some (codes "port"); value_names = 1; required = true }

-- an option with a value, which needn't be there
abbrev pub value_option : Text → Rule
value_option name = record (new_rule name) { long = Some name; value_names = 1 }

-- a word of its own, which has to be there
abbrev pub argument : Text → Rule
argument name = record (new_rule name) { value_names = 1; required = true }

-- an option with a value, which may be there several times
abbrev pub list_option : Text → Rule
list_option name = record (value_option name) { action = Some Append }

-- an option without a value
abbrev pub flag_option : Text → Rule
flag_option name = record (new_rule name) { long = Some name; action = Some SetTrue }

-- its words don't begin with its own name, one of them has to be a command, and it tells its version
abbrev pub bus : App
bus = on_top (λ s. record s { no_binary_name = true; has_version = true; subcommand_required = true }) (new_app (codes "bus"))

-- `run`, over a folder
abbrev pub run_command : Shape
run_command = (with_rule (with_rule (with_rule (new_app (codes "run")) data_option) (value_option (codes "max-jump"))) (flag_option (codes "checkpoint"))).top

-- `check`, over a folder
abbrev pub check_command : Shape
check_command = (with_rule (with_rule (new_app (codes "check")) data_option) (flag_option (codes "look"))).top

-- `client`, with a server
abbrev pub client_command : Shape
client_command = (with_rule (with_rule (with_rule (new_app (codes "client")) port_option) (value_option (codes "key"))) (value_option (codes "patience"))).top

-- a server with its folder, its port, its workers and its threads
abbrev pub plain_server : App
plain_server = with_rule (with_rule (with_rule (with_rule (new_app (codes "serve")) data_option) port_option) (value_option (codes "workers"))) (value_option (codes "threads"))

-- the same, with its limits, and whether each call is told
abbrev pub limited_server : App
limited_server = with_rule (with_rule (with_rule plain_server (value_option (codes "connections"))) (value_option (codes "max-jump"))) (flag_option (codes "log"))

-- the same, with when it makes checkpoints
abbrev pub saving_server : App
saving_server = with_rule (with_rule limited_server (value_option (codes "checkpoint-after"))) (flag_option (codes "checkpoint"))

-- the same, with its limits of time
abbrev pub timed_server : App
timed_server = with_rule (with_rule saving_server (value_option (codes "request-time"))) (value_option (codes "idle-time"))

-- `serve`, with all its options
abbrev pub serve_command : Shape
serve_command = (with_rule (with_rule timed_server (list_option (codes "host"))) (value_option (codes "key"))).top

-- `drill`, with the number of its calls and its seed
abbrev pub drill_command : Shape
drill_command = (with_rule (with_rule (new_app (codes "drill")) (argument (codes "count"))) (argument (codes "seed"))).top

-- the commands over a folder
abbrev pub folder_commands : App
folder_commands = with_subcommand (with_subcommand bus run_command) check_command

-- all commands
abbrev pub program : App
program = with_subcommand (with_subcommand (with_subcommand folder_commands client_command) serve_command) drill_command

-- ---- the forms

-- what a form names; 0, empty and false where its command has no such option
pub record Form : Type 0 where
  pub command : Command
  pub folder : Text
  pub port : ℕ
  pub workers : ℕ
  pub threads : ℕ
  pub connections : ℕ
  pub max_jump : ℕ
  pub request_time : ℕ
  pub idle_time : ℕ
  pub hosts : List Text
  pub key_file : Text
  pub patience : ℕ
  pub look : Bool
  pub checkpoint : Bool
  pub checkpoint_after : ℕ
  pub log : Bool
  pub count : ℕ
  pub seed : ℕ

-- the form that was read
abbrev pub form_value : ReadForm → Form
form_value f = record {
  command = f.command;
  folder = f.folder.now;
  port = f.port;
  workers = f.workers;
  threads = f.threads;
  connections = f.connections;
  max_jump = f.max_jump;
  request_time = f.request_time;
  idle_time = f.idle_time;
  hosts = map (λ h. h.now) f.hosts.items;
  key_file = f.key_file.now;
  patience = f.patience;
  look = f.look;
  checkpoint = f.checkpoint;
  checkpoint_after = f.checkpoint_after;
  log = f.log;
  count = f.count;
  seed = f.seed;
}

-- the form of a command that names nothing beside it
abbrev pub form_of : Command → Form
form_of command = record {
  command = command;
  folder = [];
  port = 0;
  workers = 0;
  threads = 0;
  connections = 0;
  max_jump = 0;
  request_time = 0;
  idle_time = 0;
  hosts = [];
  key_file = [];
  patience = 0;
  look = false;
  checkpoint = false;
  checkpoint_after = 0;
  log = false;
  count = 0;
  seed = 0;
}

-- the command of each name
abbrev pub command_named : Text → Option Command
command_named word = if bytes_eq word (codes "run") then Some Run
    else (if bytes_eq word (codes "check") then Some Check
    else (if bytes_eq word (codes "client") then Some Client
    else (if bytes_eq word (codes "serve") then Some Serve
    else (if bytes_eq word (codes "drill") then Some Drill else None))))

-- ---- the values of the options

-- a number that is written with a 0 in front
abbrev pub begins_with_zero : Text → Bool
begins_with_zero [] = false
begins_with_zero (b ∷ bs) = b == 48

-- a number from 1 to this one, in decimal digits of which the first isn't 0
abbrev pub number_within : ℕ → Text → Option ℕ
number_within most word = if is_number word && (not (begins_with_zero word) && nat_le (number_of word) most) then Some (number_of word) else None

-- a number from 0 to this one, written in the same way; 0 is written `0`
abbrev pub number_to : ℕ → Text → Option ℕ
number_to most word = if bytes_eq word (codes "0") then Some 0 else number_within most word

-- a port, 1 to 65,535, which has to be there
abbrev pub port_by : Option Text → Option ℕ
port_by None = None
port_by (Some word) = number_within 65535 word

-- 1 to 65,535 workers, by default 1,024
abbrev pub workers_by : Option Text → Option ℕ
workers_by None = Some 1024
workers_by (Some word) = number_within 65535 word

-- 1 to 64 threads; 0 where no number is named
abbrev pub threads_by : Option Text → Option ℕ
threads_by None = Some 0
threads_by (Some word) = number_within 64 word

-- after how many connections a worker ends, 1 to 1,000,000; by default there is no such end, which is the number 2^64 - 1: no worker
-- ever takes so many
abbrev pub connections_by : Option Text → Option ℕ
connections_by None = Some (2 ^ 64 - 1)
connections_by (Some word) = number_within 1000000 word

-- the most days that time may jump, 0 to 100,000, where this is the command's own number
abbrev pub max_jump_by : ℕ → Option Text → Option ℕ
max_jump_by usual None = Some usual
max_jump_by usual (Some word) = number_to 100000 word

-- for how many seconds a request may take, or a connection be kept without one: 1 to 86,400, where this is the server's own number
abbrev pub seconds_by : ℕ → Option Text → Option ℕ
seconds_by usual None = Some usual
seconds_by usual (Some word) = number_within 86400 word

-- for how many seconds a server may say nothing, 1 to 7,200, by default 120
abbrev pub patience_by : Option Text → Option ℕ
patience_by None = Some 120
patience_by (Some word) = number_within 7200 word

-- how many bytes of records a server writes behind a checkpoint before it makes the next one, 0 to 2^62, by default 2^28; at 0 it makes none
abbrev pub checkpoint_after_by : Option Text → Option ℕ
checkpoint_after_by None = Some 268435456
checkpoint_after_by (Some word) = number_to 4611686018427387904 word

-- how many calls a drill makes, 0 to 1,000,000, which has to be there
abbrev pub count_by : Option Text → Option ℕ
count_by None = None
count_by (Some word) = number_to 1000000 word

-- what they are drawn from, 0 to 2^64 - 1, which has to be there; the greatest is told by its digits, since `number_of` lowers what is above
-- it to that
abbrev pub seed_by : Option Text → Option ℕ
seed_by None = None
seed_by (Some word) = if bytes_eq word (codes "18446744073709551615") then Some (2 ^ 64 - 1) else number_to (2 ^ 64 - 2) word

-- a visible character of ASCII
abbrev pub is_visible : ℕ → Bool
is_visible b = nat_le 33 b && nat_le b 126

-- 1 to 255 visible characters
unfoldable pub is_host : Text → Bool
is_host name = nat_le 1 (length name) && nat_le (length name) 255 && list_all is_visible name

-- up to 8 names
abbrev pub are_hosts : List Text → Bool
are_hosts names = nat_le (length names) 8 && list_all is_host names

-- the names, if all are names
abbrev pub hosts_by : Option (List Text) → Option (List Text)
hosts_by None = Some []
hosts_by (Some names) = if are_hosts names then Some names else None

-- the file of a key, which isn't empty; empty where none is named
abbrev pub key_by : Option Text → Option Text
key_by None = Some []
key_by (Some []) = None
key_by (Some (b ∷ bs)) = Some (b ∷ bs)

-- what `clap` finds of a flag that is there
abbrev pub flag_by : Option Text → Bool
flag_by None = false
flag_by (Some word) = bytes_eq word (codes "true")

-- ---- the forms of the commands

-- a run, where both values are there
abbrev pub run_at : Option Text → Option ℕ → (checkpoint : Bool) → Option Form
run_at (Some folder) (Some max_jump) checkpoint = Some (record (form_of Run) { folder = folder; max_jump = max_jump; checkpoint = checkpoint })
run_at _ _ checkpoint = None

-- a check, where the folder is there
abbrev pub check_at : Option Text → Bool → Option Form
check_at None look = None
check_at (Some folder) look = Some (record (form_of Check) { folder = folder; look = look })

-- a client, where all values are there
abbrev pub client_at : Option ℕ → Option Text → Option ℕ → Option Form
client_at (Some port) (Some key_file) (Some patience) = Some (record (form_of Client) { port = port; key_file = key_file; patience = patience })
client_at _ _ _ = None

-- a drill, where both values are there
abbrev pub drill_at : (count seed : Option ℕ) → Option Form
drill_at (Some count) (Some seed) = Some (record (form_of Drill) { count = count; seed = seed })
drill_at _ _ = None

-- the limits of time, in a form that is there
abbrev pub with_times : Option Form → (request_time idle_time : Option ℕ) → Option Form
with_times (Some form) (Some request_time) (Some idle_time) = Some (record form { request_time = request_time; idle_time = idle_time })
with_times _ _ _ = None

-- who may call a server, in a form that is there
abbrev pub with_callers : Option Form → Option (List Text) → Option Text → Option Form
with_callers (Some form) (Some hosts) (Some key_file) = Some (record form { hosts = hosts; key_file = key_file })
with_callers _ _ _ = None

-- whether each call is told, in a form that is there
abbrev pub with_log : Option Form → Bool → Option Form
with_log None log = None
with_log (Some form) log = Some (record form { log = log })

-- in how many threads, in a form that is there
abbrev pub with_threads : Option Form → Option ℕ → Option Form
with_threads (Some form) (Some threads) = Some (record form { threads = threads })
with_threads _ _ = None

-- when it makes a checkpoint, in a form that is there
abbrev pub with_checkpoint_after : Option Form → Option ℕ → Option Form
with_checkpoint_after (Some form) (Some checkpoint_after) = Some (record form { checkpoint_after = checkpoint_after })
with_checkpoint_after _ _ = None

-- whether it makes one at its end, in a form that is there
abbrev pub with_checkpoint : Option Form → Bool → Option Form
with_checkpoint None checkpoint = None
with_checkpoint (Some form) checkpoint = Some (record form { checkpoint = checkpoint })

-- all five have to be there
abbrev pub open_server_at : Option Text → (port workers connections max_jump : Option ℕ) → Option Form
open_server_at (Some folder) (Some port) (Some workers) (Some connections) (Some max_jump) = Some (record (form_of Serve) { folder = folder; port = port; workers = workers; connections = connections; max_jump = max_jump })
open_server_at _ _ _ _ _ = None

-- a run by what was found for its options
abbrev pub run_in : List Row → Option Form
run_in rows = run_at (first_of (codes "data") rows) (max_jump_by 0 (first_of (codes "max-jump") rows)) (flag_by (first_of (codes "checkpoint") rows))

-- a check by what was found for its options
abbrev pub check_in : List Row → Option Form
check_in rows = check_at (first_of (codes "data") rows) (flag_by (first_of (codes "look") rows))

-- a client by what was found for its options
abbrev pub client_in : List Row → Option Form
client_in rows = client_at (port_by (first_of (codes "port") rows)) (key_by (first_of (codes "key") rows)) (patience_by (first_of (codes "patience") rows))

-- a server that anybody may call, by what was found for its options
abbrev pub open_server_in : List Row → Option Form
open_server_in rows = open_server_at (first_of (codes "data") rows) (port_by (first_of (codes "port") rows)) (workers_by (first_of (codes "workers") rows)) (connections_by (first_of (codes "connections") rows)) (max_jump_by 400 (first_of (codes "max-jump") rows))

-- the same with its limits of time
abbrev pub timed_server_in : List Row → Option Form
timed_server_in rows = with_times (open_server_in rows) (seconds_by 60 (first_of (codes "request-time") rows)) (seconds_by 600 (first_of (codes "idle-time") rows))

-- a server by what was found for its options
abbrev pub serve_in : List Row → Option Form
serve_in rows = with_checkpoint (with_checkpoint_after (with_threads (with_log (with_callers (timed_server_in rows) (hosts_by (all_of (codes "host") rows)) (key_by (first_of (codes "key") rows))) (flag_by (first_of (codes "log") rows))) (threads_by (first_of (codes "threads") rows))) (checkpoint_after_by (first_of (codes "checkpoint-after") rows))) (flag_by (first_of (codes "checkpoint") rows))

-- a drill by what was found for its two words
abbrev pub drill_in : List Row → Option Form
drill_in rows = drill_at (count_by (first_of (codes "count") rows)) (seed_by (first_of (codes "seed") rows))

-- the form of a command, by its options
abbrev pub form_by : Option Command → List Row → Option Form
form_by None rows = None
form_by (Some Run) rows = run_in rows
form_by (Some Check) rows = check_in rows
form_by (Some Client) rows = client_in rows
form_by (Some Serve) rows = serve_in rows
form_by (Some Drill) rows = drill_in rows

-- a command's name, and what was found for its options
abbrev pub form_at : Option (Text × List Row) → Option Form
form_at None = None
form_at (Some used) = form_by (command_named used.0) used.1

-- what `clap` finds at fault keeps words from being a form
abbrev pub unless_at_fault : Kinds → Option Form → Option Form
unless_at_fault [] form = form
unless_at_fault (kind ∷ kinds) form = None

-- the form that the words are, if they are one
unfoldable pub form_in : List Text → Option Form
form_in words = unless_at_fault (fault_of program words) (form_at (subcommand_of program words))

-- the command that they name
abbrev pub command_in : List Text → Option Command
command_in words = option_map (λ f. f.command) (form_in words)

-- after how many connections a worker ends; 0 where there is no form
abbrev pub connections_of : Option Form → ℕ
connections_of None = 0
connections_of (Some form) = form.connections

-- after how many connections a worker ends, as they name it; 0 where they are no form
abbrev pub connections_in : List Text → ℕ
connections_in words = connections_of (form_in words)

-- the days of a form, if there is one
abbrev pub max_jump_of : Option Form → ℕ
max_jump_of None = 0
max_jump_of (Some form) = form.max_jump

-- the most days that time may jump, as they name it; 0 where they are no form
abbrev pub max_jump_in : List Text → ℕ
max_jump_in words = max_jump_of (form_in words)

-- the seconds that a request may take by a form, if there is one
abbrev pub request_time_of : Option Form → ℕ
request_time_of None = 0
request_time_of (Some form) = form.request_time

-- the same, as they name it; 0 where they are no form
abbrev pub request_time_in : List Text → ℕ
request_time_in words = request_time_of (form_in words)

-- the seconds that a connection is kept without a request by a form, if there is one
abbrev pub idle_time_of : Option Form → ℕ
idle_time_of None = 0
idle_time_of (Some form) = form.idle_time

-- the same, as they name it; 0 where they are no form
abbrev pub idle_time_in : List Text → ℕ
idle_time_in words = idle_time_of (form_in words)

-- whether a form is a look, if there is one
abbrev pub look_of : Option Form → Bool
look_of None = false
look_of (Some form) = form.look

-- a check is to write nothing, as they name it; false where they are no form
abbrev pub look_in : List Text → Bool
look_in words = look_of (form_in words)

-- whether a form is a run or a server with a checkpoint at its end, if there is one
abbrev pub checkpoint_of : Option Form → Bool
checkpoint_of None = false
checkpoint_of (Some form) = form.checkpoint

-- a run or a server is to make a checkpoint at its end, as they name it; false where they are no form
abbrev pub checkpoint_in : List Text → Bool
checkpoint_in words = checkpoint_of (form_in words)

-- how many bytes of records a form has a server write before a checkpoint, if there is one
abbrev pub checkpoint_after_of : Option Form → ℕ
checkpoint_after_of None = 0
checkpoint_after_of (Some form) = form.checkpoint_after

-- how many bytes of records a server writes before a checkpoint, as they name it; 0 where they are no form
abbrev pub checkpoint_after_in : List Text → ℕ
checkpoint_after_in words = checkpoint_after_of (form_in words)

-- how many calls a form has a drill make, if there is one
abbrev pub count_of : Option Form → ℕ
count_of None = 0
count_of (Some form) = form.count

-- how many calls a drill makes, as they name it; 0 where they are no form
abbrev pub count_in : List Text → ℕ
count_in words = count_of (form_in words)

-- what a form has them drawn from, if there is one
abbrev pub seed_of : Option Form → ℕ
seed_of None = 0
seed_of (Some form) = form.seed

-- the same, as they name it; 0 where they are no form
abbrev pub seed_in : List Text → ℕ
seed_in words = seed_of (form_in words)

-- ---- help and the version

-- whether help or the version is asked for
abbrev pub asks_for_text : ErrorKind → Bool
asks_for_text DisplayHelp = true
asks_for_text DisplayVersion = true
asks_for_text _ = false

-- what `clap` answers to the words may be its help, or the version
abbrev pub MayAsk : List Text → Type 0
MayAsk words = (kind : ErrorKind) × IsAmong kind (fault_of program words) × (asks_for_text kind ≡ true)

-- it may be something else
abbrev pub MayNotAsk : List Text → Type 0
MayNotAsk words = (fault_of program words ≡ []) ⊎ ((kind : ErrorKind) × IsAmong kind (fault_of program words) × (asks_for_text kind ≡ false))
