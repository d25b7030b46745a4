-- How the client answers one line of its input.
use Rattle.std.specs.Prelude.{◌≡◌, ◌⊎◌, ℕ, List, [], ◌∷◌, ◌++◌, length, nat_lt, Bool, true, false, if◌then◌else◌}
use Rattle.serde_json.specs.Data.{Data}
use Rattle.sb_outside.specs.Links.{Exchange}
use Rattle.sb_input.specs.Limits.{max_line}
use Rattle.sb_input.specs.Lines.{is_blank}
use Rattle.sb_client.specs.Requests.{request_of}
use Rattle.sb_client.specs.Replies.{refuses, long_line, TakesLine, HasNoLine}
use Rattle.sb_client.specs.declared.ending.ClientEnding.{ClientEnding}
use Rattle.sb_client.specs.declared.ending.ClientEnding.TheVariants.{Done, ReadFault, WriteFault, LinkFault, BadReply, LongInput, OutOfMemory}

-- what is done with a line
pub data LineKind : Type 0 where
  blank : LineKind
  too_long : LineKind
  sent : LineKind

-- a blank line has no answer, one that is too long isn't sent, and all others are
abbrev pub kind_of : List ℕ → LineKind
kind_of line = if is_blank line then blank else (if nat_lt max_line (length line) then too_long else sent)

-- a line with the exchanges that were made for it, what was written for it, and whether that is a refusal
pub record Answer : Type 0 where
  pub line : List ℕ
  pub made : List Exchange
  pub written : List ℕ
  pub refused : Bool

-- the one exchange that is made for a line with this key
abbrev pub one_exchange : (key line reply : List ℕ) → List Exchange
one_exchange key line reply = record { request = request_of key line; reply = reply } ∷ []

-- the reply that the link gave has this line
pub record IsReplied (key line : List ℕ) (made : List Exchange) (written : List ℕ) (refused : Bool) : Type 0 where
  pub reply : List ℕ
  pub data_is : Data
  pub exchanged : made ≡ one_exchange key line reply
  pub takes : TakesLine reply written data_is
  pub says : refused ≡ refuses data_is

-- what comes of a line of this kind: nothing, the line of one that is too long, or the server's reply
abbrev pub IsAnsweredAs : (key : List ℕ) → LineKind → (line : List ℕ) → List Exchange → (written : List ℕ) → Bool → Type 0
IsAnsweredAs key blank line made written refused = (made ≡ []) × (written ≡ []) × (refused ≡ false)
IsAnsweredAs key too_long line made written refused = (made ≡ []) × (written ≡ long_line) × (refused ≡ true)
IsAnsweredAs key sent line made written refused = IsReplied key line made written refused

-- so was this line answered
abbrev pub IsAnswer : (key : List ℕ) → Answer → Type 0
IsAnswer key a = IsAnsweredAs key (kind_of a.line) a.line a.made a.written a.refused

-- ---- a line at which the run ends

-- these bytes are a front of those
abbrev pub IsFront : List ℕ → List ℕ → Type 0
IsFront part line = (rest : List ℕ) × (line ≡ part ++ rest)

-- The run ends at this line so: these exchanges were made for it and so much was written. Only where the output failed is something
-- written. Where memory was wanting, the exchange may have been made.
abbrev pub IsCutAt : (key : List ℕ) → ClientEnding → (line : List ℕ) → List Exchange → (part : List ℕ) → Type 0
IsCutAt key (Done refused) line made part = ⊥
IsCutAt key ReadFault line made part = ⊥
IsCutAt key WriteFault line made part = (written : List ℕ) × (refused : Bool) × IsAnsweredAs key (kind_of line) line made written refused × IsFront part written
IsCutAt key LinkFault line made part = (kind_of line ≡ sent) × (made ≡ []) × (part ≡ [])
IsCutAt key BadReply line made part = (reply : List ℕ) × (kind_of line ≡ sent) × (made ≡ one_exchange key line reply) × HasNoLine reply × (part ≡ [])
IsCutAt key LongInput line made part = ⊥
IsCutAt key OutOfMemory line made part = (kind_of line ≡ sent) × ((made ≡ []) ⊎ ((reply : List ℕ) × (made ≡ one_exchange key line reply))) × (part ≡ [])

-- the run may end between two lines so
abbrev pub IsBetween : ClientEnding → Type 0
IsBetween (Done refused) = ⊥
IsBetween ReadFault = Unit {0}
IsBetween WriteFault = ⊥
IsBetween LinkFault = ⊥
IsBetween BadReply = ⊥
IsBetween LongInput = Unit {0}
IsBetween OutOfMemory = Unit {0}
