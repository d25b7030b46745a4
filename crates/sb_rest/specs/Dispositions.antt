-- What becomes of a message under a lock by a PUT: the query says it, and BrokerProperties what is said of a dead letter.
use Rattle.std.specs.Prelude.{ℕ, List, [], ◌∷◌, codes, bytes_eq, Option, Some, None, Result, Ok, if◌then◌else◌}
use Rattle.serde_json.specs.Data.{Data}
use Rattle.serde_json.specs.Find.{as_str}
use Rattle.sb_machine.specs.declared.call.How.{How}
use Rattle.sb_machine.specs.declared.call.How.TheVariants as how
use Rattle.sb_http.specs.Fields.{Field}
use Rattle.sb_lines.specs.declared.fault.KeyFault.{KeyFault}
use Rattle.sb_lines.specs.declared.texts.Nulls.TheVariants.{Absent}
use Rattle.sb_lines.specs.Faults.{or_key, then_by}
use Rattle.sb_lines.specs.Messages.{member_at}
use Rattle.sb_rest.specs.declared.disposition.Disposition.{Disposition}
use Rattle.sb_rest.specs.declared.disposition.Disposition.TheVariants.{Abandon, Defer, DeadLetter}
use Rattle.sb_rest.specs.Brokers.{object_in}
use Rattle.sb_rest.specs.Headers.{broker_name}
use Rattle.sb_rest.specs.Queries.{decoded, value_of}
use Rattle.sb_rest.specs.Repeats.{last_of}

-- ---- by the query

-- the word of a disposition; to abandon has none
abbrev pub disposition_named : List ℕ → Option Disposition
disposition_named word = if bytes_eq word (codes "dead-letter") then Some DeadLetter else (if bytes_eq word (codes "defer") then Some Defer else None)

-- the disposition that stands here; left out is to abandon
abbrev pub disposition_from : Option (List ℕ) → Result Disposition KeyFault
disposition_from None = Ok Abandon
disposition_from (Some value) = or_key (codes "disposition") (disposition_named (decoded value))

-- the disposition that a query says, or that it is at fault
abbrev pub disposition_in : List ℕ → Result Disposition KeyFault
disposition_in query = disposition_from (value_of (codes "disposition") query)

-- ---- by BrokerProperties

-- an empty text counts as absent
abbrev pub unless_empty : List ℕ → Option (List ℕ)
unless_empty [] = None
unless_empty (b ∷ bs) = Some (b ∷ bs)

-- the text that stands here, if any
abbrev pub text_from : List ℕ → Option Data → Result (Option (List ℕ)) KeyFault
text_from key None = Ok None
text_from key (Some d) = then_by (or_key key (as_str d)) (λ text. Ok (unless_empty text))

-- the text at a key; a null counts as absent
abbrev pub text_at : List ℕ → Data → Result (Option (List ℕ)) KeyFault
text_at key d = text_from key (member_at Absent key d)

-- to dead-letter, with the reason and then the description that an object says; its other keys say nothing
abbrev pub dead_letter_of : Data → Result How KeyFault
dead_letter_of d =
    then_by (text_at (codes "DeadLetterReason") d) (λ reason.
    then_by (text_at (codes "DeadLetterErrorDescription") d) (λ description.
    Ok (how.DeadLetter reason description)))

-- the same of the value of the header; without it there is neither
abbrev pub dead_letter_from : Option (List ℕ) → Result How KeyFault
dead_letter_from None = Ok (how.DeadLetter None None)
dead_letter_from (Some value) = then_by (or_key (codes "BrokerProperties") (object_in value)) dead_letter_of

-- ---- what becomes of the message

-- of several lines of BrokerProperties the last is read, of a dead letter alone
abbrev pub how_of : Disposition → List Field → Result How KeyFault
how_of Abandon fields = Ok how.Abandon
how_of Defer fields = Ok how.Defer
how_of DeadLetter fields = dead_letter_from (last_of broker_name fields)
