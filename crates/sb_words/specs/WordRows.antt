-- Words that were worked out by hand.
use Rattle.std.specs.Prelude.{ℕ, ◌^◌, ◌-◌, List, [], ◌∷◌, codes, Option, None, map, replicate, true}
use Rattle.clap.specs.Words.{Text}
use Rattle.sb_words.specs.declared.command.Command.{Command}
use Rattle.sb_words.specs.declared.command.Command.TheVariants.{Run, Check, Client, Serve, Drill}
use Rattle.sb_words.specs.Words.{Form, form_of}

-- a command over a folder
abbrev pub over : Command → Text → Form
over command folder = record (form_of command) { folder = folder }

-- a client's call
abbrev pub with_port : ℕ → Form
with_port port = record (form_of Client) { port = port; patience = 120 }

-- a server's call
abbrev pub serving : (workers connections : ℕ) → Form
serving workers connections = record (over Serve (codes "a")) { port = 80; workers = workers; connections = connections; max_jump = 400; request_time = 60; idle_time = 600; checkpoint_after = 268435456 }

-- the words of a server, with these options
abbrev pub serve_with : List Text → List Text
serve_with options = codes "serve" ∷ codes "--data=a" ∷ codes "--port=80" ∷ options

-- the words of a client, a run and a check, with this option
abbrev pub client_with : Text → List Text
client_with option = codes "client" ∷ codes "--port=80" ∷ option ∷ []

-- the words of a run with this option
abbrev pub run_with : Text → List Text
run_with option = codes "run" ∷ codes "--data=a" ∷ option ∷ []

-- the words of a check with this option
abbrev pub check_with : Text → List Text
check_with option = codes "check" ∷ codes "--data=a" ∷ option ∷ []

-- the options of a server, and the form
abbrev pub servers : List (List Text × Form)
servers = ([], serving 1024 (2 ^ 64 - 1)) ∷ (codes "--workers=65535" ∷ codes "--connections" ∷ codes "1000000" ∷ [], serving 65535 1000000)
    ∷ (codes "--connections=1" ∷ codes "--workers" ∷ codes "1" ∷ [], serving 1 1) ∷ (codes "--workers=2" ∷ [], serving 2 (2 ^ 64 - 1)) ∷ (codes "--connections=9" ∷ [], serving 1024 9) ∷ []

-- the options of a server that say who may call it and how far time may jump, and the form
abbrev pub callers : List (List Text × Form)
callers = (codes "--host=a.example" ∷ codes "--max-jump=0" ∷ codes "--host" ∷ codes "b" ∷ codes "--key=k" ∷ [], record (serving 1024 (2 ^ 64 - 1)) { hosts = codes "a.example" ∷ codes "b" ∷ []; max_jump = 0; key_file = codes "k" })
    ∷ (codes "--max-jump=100000" ∷ replicate 8 (codes "--host=a"), record (serving 1024 (2 ^ 64 - 1)) { max_jump = 100000; hosts = replicate 8 (codes "a") }) ∷ []

-- the options of a server that tells each call, or has limits of time of its own, and the form
abbrev pub tellers : List (List Text × Form)
tellers = (codes "--workers=2" ∷ codes "--log" ∷ codes "--connections=9" ∷ [], record (serving 2 9) { log = true }) ∷ (codes "--idle-time=86400" ∷ codes "--request-time" ∷ codes "1" ∷ [], record (serving 1024 (2 ^ 64 - 1)) { request_time = 1; idle_time = 86400 }) ∷ []

-- the options of a server that say in how many threads, and the form
abbrev pub sharers : List (List Text × Form)
sharers = (codes "--threads=64" ∷ codes "--workers=9" ∷ [], record (serving 9 (2 ^ 64 - 1)) { threads = 64 })
    ∷ (codes "--threads" ∷ codes "1" ∷ codes "--log" ∷ [], record (serving 1024 (2 ^ 64 - 1)) { threads = 1; log = true }) ∷ []

-- such options that are out of range, written with a 0 first or given twice, or another command's
abbrev pub no_sharers : List (List Text)
no_sharers = serve_with (codes "--threads=65" ∷ []) ∷ serve_with (codes "--threads=0" ∷ []) ∷ serve_with (codes "--threads=02" ∷ []) ∷ serve_with (codes "--threads=" ∷ [])
    ∷ serve_with (codes "--threads=2" ∷ codes "--threads=2" ∷ []) ∷ client_with (codes "--threads=2") ∷ run_with (codes "--threads=2") ∷ []

-- words with an option that isn't a server's, and the form
abbrev pub others : List (List Text × Form)
others = (run_with (codes "--max-jump=7"), record (over Run (codes "a")) { max_jump = 7 }) ∷ (check_with (codes "--look"), record (over Check (codes "a")) { look = true })
    ∷ (client_with (codes "--key=k"), record (with_port 80) { key_file = codes "k" }) ∷ (client_with (codes "--patience=7200"), record (with_port 80) { patience = 7200 })
    ∷ (client_with (codes "--patience=1"), record (with_port 80) { patience = 1 }) ∷ []

-- words of runs and servers that make a checkpoint at their end, and the form
abbrev pub checkpoints : List (List Text × Form)
checkpoints = (run_with (codes "--checkpoint"), record (over Run (codes "a")) { checkpoint = true })
    ∷ (codes "run" ∷ codes "--checkpoint" ∷ codes "--max-jump=7" ∷ codes "--data" ∷ codes "a" ∷ [], record (over Run (codes "a")) { max_jump = 7; checkpoint = true })
    ∷ (serve_with (codes "--checkpoint" ∷ codes "--checkpoint-after=0" ∷ []), record (serving 1024 (2 ^ 64 - 1)) { checkpoint = true; checkpoint_after = 0 })
    ∷ (codes "serve" ∷ codes "--checkpoint" ∷ codes "--data=a" ∷ codes "--port=80" ∷ [], record (serving 1024 (2 ^ 64 - 1)) { checkpoint = true }) ∷ []

-- the flag with a value, given twice, alone, or with another command
abbrev pub no_checkpoints : List (List Text)
no_checkpoints = run_with (codes "--checkpoint=true") ∷ (codes "run" ∷ codes "--checkpoint" ∷ codes "--data=a" ∷ codes "--checkpoint" ∷ []) ∷ (codes "run" ∷ codes "--checkpoint" ∷ [])
    ∷ check_with (codes "--checkpoint") ∷ client_with (codes "--checkpoint") ∷ serve_with (codes "--checkpoint=true" ∷ []) ∷ serve_with (codes "--checkpoint" ∷ codes "--checkpoint" ∷ []) ∷ (codes "drill" ∷ codes "5" ∷ codes "7" ∷ codes "--checkpoint" ∷ []) ∷ []

-- the options of a server that say when it makes a checkpoint, and the form
abbrev pub savers : List (List Text × Form)
savers = (codes "--checkpoint-after=0" ∷ [], record (serving 1024 (2 ^ 64 - 1)) { checkpoint_after = 0 })
    ∷ (codes "--checkpoint-after" ∷ codes "4611686018427387904" ∷ codes "--workers=9" ∷ [], record (serving 9 (2 ^ 64 - 1)) { checkpoint_after = 4611686018427387904 }) ∷ []

-- such options that are out of range, written with a 0 first or given twice, or another command's
abbrev pub no_savers : List (List Text)
no_savers = serve_with (codes "--checkpoint-after=4611686018427387905" ∷ []) ∷ serve_with (codes "--checkpoint-after=07" ∷ []) ∷ serve_with (codes "--checkpoint-after=" ∷ [])
    ∷ serve_with (codes "--checkpoint-after=1" ∷ codes "--checkpoint-after=1" ∷ []) ∷ run_with (codes "--checkpoint-after=1") ∷ check_with (codes "--checkpoint-after=1") ∷ []

-- the words of a drill
abbrev pub drill_with : (count seed : Text) → List Text
drill_with count seed = codes "drill" ∷ count ∷ seed ∷ []

-- a drill's call
abbrev pub drilling : (count seed : ℕ) → Form
drilling count seed = record (form_of Drill) { count = count; seed = seed }

-- words of drills, and the form
abbrev pub drills : List (List Text × Form)
drills = (drill_with (codes "0") (codes "7"), drilling 0 7) ∷ (drill_with (codes "2000") (codes "0"), drilling 2000 0)
    ∷ (drill_with (codes "1000000") (codes "18446744073709551615"), drilling 1000000 (2 ^ 64 - 1)) ∷ (drill_with (codes "1") (codes "18446744073709551614"), drilling 1 (2 ^ 64 - 2)) ∷ []

-- a drill with no seed, one with a word too many, and numbers that are out of range, written with a 0 first or none
abbrev pub no_drills : List (List Text)
no_drills = (codes "drill" ∷ codes "5" ∷ []) ∷ (codes "drill" ∷ codes "5" ∷ codes "7" ∷ codes "9" ∷ []) ∷ drill_with (codes "1000001") (codes "7") ∷ drill_with (codes "05") (codes "7")
    ∷ drill_with (codes "5") (codes "07") ∷ drill_with (codes "5") (codes "18446744073709551616") ∷ drill_with (codes "5") (codes "99999999999999999999") ∷ drill_with (codes "-1") (codes "7")
    ∷ drill_with (codes "") (codes "7") ∷ drill_with (codes "x") (codes "7") ∷ drill_with (codes "5") (codes "+7") ∷ (codes "drill" ∷ codes "--data=a" ∷ codes "5" ∷ codes "7" ∷ []) ∷ []

-- words that are no form
abbrev pub no_forms : List (List Text)
no_forms = [] ∷ (codes "serve" ∷ []) ∷ (codes "run" ∷ []) ∷ (codes "run" ∷ codes "--data" ∷ []) ∷ (codes "--data=a" ∷ codes "run" ∷ [])
    ∷ (codes "run" ∷ codes "--data=a" ∷ codes "--data" ∷ codes "b" ∷ []) ∷ (codes "run" ∷ codes "--data" ∷ codes "--data" ∷ [])
    ∷ (codes "run" ∷ codes "--data=a" ∷ codes "b" ∷ []) ∷ (codes "--help" ∷ []) ∷ (codes "-h" ∷ []) ∷ (codes "--version" ∷ []) ∷ (codes "run" ∷ codes "-h" ∷ [])
    ∷ (codes "help" ∷ []) ∷ (codes "help" ∷ codes "run" ∷ []) ∷ (codes "drill" ∷ [])
    ∷ (codes "client" ∷ []) ∷ (codes "client" ∷ codes "--data=a" ∷ []) ∷ (codes "client" ∷ codes "--port=0" ∷ []) ∷ (codes "client" ∷ codes "--port=080" ∷ []) ∷ (codes "client" ∷ codes "--port=+80" ∷ [])
    ∷ (codes "client" ∷ codes "--port=65536" ∷ []) ∷ (codes "client" ∷ codes "--port=" ∷ []) ∷ (codes "run" ∷ codes "--data=a" ∷ codes "--port=80" ∷ []) ∷ []

-- a server with no port, one with no folder, and options that are out of range, written with a 0 first or given twice
abbrev pub no_servers : List (List Text)
no_servers = (codes "serve" ∷ codes "--data=a" ∷ []) ∷ (codes "serve" ∷ codes "--port=80" ∷ []) ∷ (codes "serve" ∷ codes "--data=a" ∷ codes "--port=0" ∷ [])
    ∷ serve_with (codes "--workers" ∷ codes "65536" ∷ []) ∷ serve_with (codes "--workers=0" ∷ []) ∷ serve_with (codes "--workers=04" ∷ []) ∷ serve_with (codes "--workers=" ∷ [])
    ∷ serve_with (codes "--connections=0" ∷ []) ∷ serve_with (codes "--connections=1000001" ∷ []) ∷ serve_with (codes "--connections=2" ∷ codes "--connections=2" ∷ [])
    ∷ (codes "client" ∷ codes "--port=80" ∷ codes "--workers=2" ∷ []) ∷ []

-- the same of the options that say who may call, how far time may jump and how long a caller may take
abbrev pub no_callers : List (List Text)
no_callers = serve_with (codes "--max-jump=100001" ∷ []) ∷ serve_with (codes "--max-jump=" ∷ []) ∷ serve_with (codes "--max-jump=00" ∷ []) ∷ serve_with (codes "--max-jump=-1" ∷ []) ∷ serve_with (codes "--max-jump=1" ∷ codes "--max-jump=1" ∷ [])
    ∷ serve_with (codes "--host=" ∷ []) ∷ serve_with (codes "--host=a b" ∷ []) ∷ serve_with (replicate 9 (codes "--host=a")) ∷ serve_with (codes "--key=" ∷ []) ∷ serve_with (codes "--key=a" ∷ codes "--key=a" ∷ [])
    ∷ serve_with (codes "--request-time=0" ∷ []) ∷ serve_with (codes "--idle-time=86401" ∷ []) ∷ serve_with (codes "--idle-time=09" ∷ [])
    ∷ serve_with (codes "--patience=1" ∷ []) ∷ serve_with (codes "--look" ∷ []) ∷ []

-- the same of a run, a check and a client, and of a flag of a server
abbrev pub no_others : List (List Text)
no_others = run_with (codes "--max-jump=100001") ∷ run_with (codes "--max-jump=07") ∷ run_with (codes "--look") ∷ run_with (codes "--host=a") ∷ check_with (codes "--look=true") ∷ check_with (codes "--max-jump=1")
    ∷ (codes "check" ∷ codes "--look" ∷ codes "--data=a" ∷ codes "--look" ∷ []) ∷ client_with (codes "--key=") ∷ client_with (codes "--patience=0") ∷ client_with (codes "--patience=7201") ∷ client_with (codes "--patience=012") ∷ client_with (codes "--host=a")
    ∷ serve_with (codes "--log=true" ∷ []) ∷ serve_with (codes "--log" ∷ codes "--log" ∷ []) ∷ run_with (codes "--log") ∷ check_with (codes "--log") ∷ client_with (codes "--log") ∷ []

-- no form for each
abbrev pub nones : List (List Text) → List (Option Form)
nones = map (λ (words : List Text). None)
