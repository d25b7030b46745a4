-- The numbers of a running server, as an object of the status and as metrics.
use Rattle.std.specs.Prelude.{ℕ, ◌/◌, List, ◌++◌, codes}
use Rattle.std.specs.Fmt.{decimal}
use Rattle.std.specs.List.{flat_map}
use Rattle.sb_numbers.specs.Words.{kind_word, outcome_word}
use Rattle.sb_numbers.specs.declared.TheConstants.{VERSION}
use Rattle.sb_numbers.specs.declared.numbers.Bucket.{Bucket}
use Rattle.sb_numbers.specs.declared.numbers.Counted.{Counted}
use Rattle.sb_numbers.specs.declared.numbers.JournalSizes.{JournalSizes}
use Rattle.sb_numbers.specs.declared.numbers.Numbers.{Numbers}
use Rattle.sb_rest.specs.Expositions.{about, first_label, label, value_text, labelled_line, bare_line, lone_text}

-- ---- as an object: no space, and its keys in byte order

-- a number at a key, behind others
unfoldable pub and_number : List ℕ → ℕ → List ℕ
and_number key n = codes ",\"" ++ key ++ codes "\":" ++ decimal n

-- a text that needs no escapes, likewise
unfoldable pub and_text : List ℕ → List ℕ → List ℕ
and_text key text = codes ",\"" ++ key ++ codes "\":\"" ++ text ++ codes "\""

-- the journal's bytes
unfoldable pub bytes_key : ℕ → List ℕ
bytes_key n = and_number (codes "journal_bytes") n

-- its records
unfoldable pub records_key : ℕ → List ℕ
records_key n = and_number (codes "journal_records") n

-- its syncs
unfoldable pub syncs_key : ℕ → List ℕ
syncs_key n = and_number (codes "syncs") n

-- all that is told of the journal
unfoldable pub journal_keys : JournalSizes → List ℕ
journal_keys j = bytes_key j.bytes ++ records_key j.records ++ syncs_key j.syncs

-- the program's
unfoldable pub version_key : List ℕ
version_key = and_text (codes "version") VERSION.now

-- all of them
unfoldable pub server_text : Numbers → List ℕ
server_text n =
    codes "{\"connections\":" ++ decimal n.connections
    ++ journal_keys n.journal
    ++ and_number (codes "threads") n.threads
    ++ and_number (codes "uptime_seconds") (n.uptime_ms / 1000)
    ++ version_key
    ++ and_number (codes "waiting") n.waiting
    ++ and_number (codes "workers") n.workers
    ++ codes "}"

-- ---- as metrics: calls

-- what is counted of calls
unfoldable pub calls_about : List ℕ
calls_about = about (codes "zolmutarn_calls_total") (codes "counter") (codes "Calls since the server began, by what they ask for and how they were answered.")

-- of a kind
unfoldable pub act_label : List ℕ → List ℕ
act_label word = first_label (codes "zolmutarn_calls_total") (codes "act") word

-- so many of a kind were answered so
unfoldable pub calls_line : Counted → List ℕ
calls_line c = act_label (kind_word c.kind) ++ label (codes "answer") (outcome_word c.outcome) ++ value_text (decimal c.count)

-- the counts of all kinds
unfoldable pub calls_text : List Counted → List ℕ
calls_text rows = calls_about ++ flat_map calls_line rows

-- ---- how long they took

-- so many calls took at most so long
unfoldable pub bucket_line : List ℕ → ℕ → List ℕ
bucket_line most n = labelled_line (codes "zolmutarn_call_microseconds_bucket") (codes "le") most n

-- the same of a bound and its count
unfoldable pub bucket_of : Bucket → List ℕ
bucket_of b = bucket_line (decimal b.most) b.count

-- all took less than for ever
unfoldable pub last_bucket : ℕ → List ℕ
last_bucket n = bucket_line (codes "+Inf") n

-- how long all took together
unfoldable pub sum_line : ℕ → List ℕ
sum_line n = bare_line (codes "zolmutarn_call_microseconds_sum") n

-- how many there were
unfoldable pub count_line : ℕ → List ℕ
count_line n = bare_line (codes "zolmutarn_call_microseconds_count") n

-- what is measured of calls
unfoldable pub spent_about : List ℕ
spent_about = about (codes "zolmutarn_call_microseconds") (codes "histogram") (codes "How long a call took, with the wait for its turn and for the disk.")

-- the counts of all bounds, with their sum
unfoldable pub spent_text : Numbers → List ℕ
spent_text n = spent_about ++ flat_map bucket_of n.spent.items ++ last_bucket n.called ++ sum_line n.spent_micros ++ count_line n.called

-- ---- the journal

-- how often its records were synced
unfoldable pub syncs_text : ℕ → List ℕ
syncs_text n = lone_text (codes "zolmutarn_syncs_total") (codes "counter") (codes "Syncs of the journal's records since the server began, two for every group.") n

-- how many records it has had
unfoldable pub records_text : ℕ → List ℕ
records_text n = lone_text (codes "zolmutarn_journal_records_total") (codes "counter") (codes "Records of the journal since the namespace began.") n

-- where it ends
unfoldable pub bytes_text : ℕ → List ℕ
bytes_text n = lone_text (codes "zolmutarn_journal_bytes") (codes "gauge") (codes "Bytes of the journal, up to its end.") n

-- all metrics of the journal
unfoldable pub journal_text : JournalSizes → List ℕ
journal_text j = syncs_text j.syncs ++ records_text j.records ++ bytes_text j.bytes

-- ---- what there is now

-- how many connections are open
unfoldable pub connections_text : ℕ → List ℕ
connections_text n = lone_text (codes "zolmutarn_connections") (codes "gauge") (codes "Connections that are open.") n

-- how many calls wait
unfoldable pub waiting_text : ℕ → List ℕ
waiting_text n = lone_text (codes "zolmutarn_waiting_receives") (codes "gauge") (codes "Calls that wait for a message or for a session.") n

-- for how many s it has run
unfoldable pub uptime_text : ℕ → List ℕ
uptime_text n = lone_text (codes "zolmutarn_uptime_seconds") (codes "gauge") (codes "For how long the server has run.") n

-- ---- all of them

-- the metrics of a running server
unfoldable pub numbers_text : Numbers → List ℕ
numbers_text n =
    calls_text n.calls.items
    ++ spent_text n
    ++ journal_text n.journal
    ++ connections_text n.connections
    ++ waiting_text n.waiting
    ++ uptime_text (n.uptime_ms / 1000)
