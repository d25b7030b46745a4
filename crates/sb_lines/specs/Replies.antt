-- The line of a reply: one JSON object with no space and its keys in byte order, and a line feed.
use Rattle.std.specs.Prelude.{ℕ, List, [], ◌∷◌, ◌++◌, codes, map, Option, Some, None, Result, Ok, Err}
use Rattle.serde_json.specs.Data.{Data, null, number, unsigned, array, object, Members, no_members, member, put}
use Rattle.serde_json.specs.View.{items_of}
use Rattle.serde_json.specs.Written.{compact_text}
use Rattle.sb_machine.specs.declared.call.Part.{Part}
use Rattle.sb_machine.specs.declared.call.Part.TheVariants.{Main, Dead, Transfer}
use Rattle.sb_machine.specs.declared.look.Described.{Described}
use Rattle.sb_machine.specs.declared.look.View.{View}
use Rattle.sb_machine.specs.declared.look.View.TheVariants.{Entities, Entity, Sessions, Transactions, Clients}
use Rattle.sb_machine.specs.declared.reply.Answered.{Answered}
use Rattle.sb_machine.specs.declared.reply.Answered.TheVariants.{New, Kept}
use Rattle.sb_machine.specs.declared.reply.Receipt.{Receipt}
use Rattle.sb_machine.specs.declared.reply.Receipt.TheVariants.{Number, Duplicate}
use Rattle.sb_machine.specs.declared.reply.Refusal.{Refusal}
use Rattle.sb_machine.specs.declared.reply.Reply.{Reply}
use Rattle.sb_machine.specs.declared.reply.Reply.TheVariants.{Done, Sent, Message, Empty, Copies, Expired, Session, Renewed, State, Begun, Queued, Committed, Aborted, Together, Counts, Seen}
use Rattle.sb_machine.specs.declared.reply.StepReply.{StepReply}
use Rattle.sb_machine.specs.declared.reply.StepReply.TheVariants.{Done as StepDone, Sent as StepSent}
use Rattle.sb_lines.specs.declared.form.Form.{Form}
use Rattle.sb_lines.specs.Refusals.{refusal_data, with_number, with_string}
use Rattle.sb_lines.specs.Shown.{shown_data, with_bytes}
use Rattle.sb_lines.specs.Tokens.{token_text}
use Rattle.sb_lines.specs.Views.{kind_name, entities_data, description_data, forwards_data, rules_data, sessions_data, transactions_data, clients_data}

-- ---- parts of replies

-- what was done, and these members behind it
abbrev pub said_before : List ℕ → Members → Members
said_before word rest = with_string (codes "ok") word rest

-- a reply's word alone
abbrev pub said : List ℕ → Members
said word = said_before word no_members

-- the number of a message, or null for a duplicate
abbrev pub receipt_data : Receipt → Data
receipt_data (Number n) = number (unsigned n)
receipt_data Duplicate = null

-- which numbers a send's messages were given
abbrev pub sent_data : List Receipt → Data
sent_data receipts = object (member (codes "numbers") (array (items_of (map receipt_data receipts))) (said (codes "sent")))

-- what became of one of the operations that acted together
abbrev pub step_data : StepReply → Data
step_data StepDone = object (said (codes "done"))
step_data (StepSent receipts) = sent_data receipts

-- how each part is named
abbrev pub part_name : Part → List ℕ
part_name Main = codes "main"
part_name Dead = codes "dead"
part_name Transfer = codes "transfer"

-- what a session remembers, under `state` or `state_hex`; null where it is nothing
abbrev pub with_state : Option (List ℕ) → Members → Members
with_state None ms = put (codes "state") null ms
with_state (Some bytes) ms = with_bytes (codes "state") (codes "state_hex") bytes ms

-- the counts of the three parts
abbrev pub count_data : ℕ → ℕ → ℕ → Data
count_data main dead transfer = object (with_number (codes "dead") dead (with_number (codes "main") main (with_number (codes "transfer") transfer no_members)))

-- ---- what an operator looks at

-- how an entity is described, and the rules that it has
abbrev pub described_data : Described → Data
described_data d =
    object (member (codes "description") (description_data d.kind d.description) (member (codes "forwards") (forwards_data d)
    (with_string (codes "kind") (kind_name d.kind) (said_before (codes "description") (member (codes "rules") (rules_data d.rules) no_members)))))

-- what each look shows
abbrev pub seen_data : View → Data
seen_data (Entities es) = object (member (codes "entities") (entities_data es) (said (codes "list")))
seen_data (Entity d) = described_data d
seen_data (Sessions xs) = object (said_before (codes "sessions") (member (codes "sessions") (sessions_data xs) no_members))
seen_data (Transactions xs) = object (said_before (codes "transactions") (member (codes "transactions") (transactions_data xs) no_members))
seen_data (Clients xs) = object (member (codes "clients") (clients_data xs) (said (codes "clients")))

-- ---- what was done

-- copies are shown in this form
abbrev pub reply_data : Form → Reply → Data
reply_data form Done = object (said (codes "done"))
reply_data form (Sent receipts) = sent_data receipts
reply_data form (Message copy) = object (member (codes "message") (shown_data form copy) (said (codes "message")))
reply_data form Empty = object (said (codes "empty"))
reply_data form (Copies copies) = object (member (codes "copies") (array (items_of (map (λ c. shown_data form c) copies))) (said (codes "copies")))
reply_data form (Expired n) = object (said_before (codes "expired") (with_number (codes "seq") n no_members))
reply_data form (Session id token until) = object (with_string (codes "id") id (said_before (codes "session") (with_string (codes "session") (token_text token) (with_number (codes "until") until no_members))))
reply_data form (Renewed until) = object (said_before (codes "renewed") (with_number (codes "until") until no_members))
reply_data form (State state) = object (with_state state (said (codes "state")))
reply_data form (Begun txn) = object (said_before (codes "begun") (with_number (codes "txn") txn no_members))
reply_data form Queued = object (said (codes "queued"))
reply_data form Committed = object (said (codes "committed"))
reply_data form (Aborted part n) = object (said_before (codes "aborted") (with_string (codes "part") (part_name part) (with_number (codes "seq") n no_members)))
reply_data form (Together replies) = object (said_before (codes "together") (member (codes "replies") (array (items_of (map step_data replies))) no_members))
reply_data form (Counts main dead transfer) = object (member (codes "counts") (count_data main dead transfer) (said (codes "counts")))
reply_data form (Seen view) = seen_data view

-- its object as compact JSON
abbrev pub reply_text : Form → Reply → List ℕ
reply_text form reply = compact_text (reply_data form reply)

-- ---- the line

-- a kept reply too is shown in the form that is asked for now
abbrev pub answer_data : Form → Result Answered Refusal → Data
answer_data form (Ok (New reply)) = reply_data form reply
answer_data form (Ok (Kept reply)) = object (member (codes "kept") (reply_data form reply) (said (codes "kept")))
answer_data form (Err refusal) = refusal_data refusal

-- the line of an answer: compact JSON and a line feed
abbrev pub answer_line : Form → Result Answered Refusal → List ℕ
answer_line form answer = compact_text (answer_data form answer) ++ 10 ∷ []
