-- A run of the client: each line of its input is answered, in order.
use Rattle.std.specs.Prelude.{◌≡◌, ◌≤◌, ℕ, List, [], ◌∷◌, ◌++◌, length, map, Bool, All, Option, Some, None}
use Rattle.std.specs.List.{flat_map, list_any}
use Rattle.sb_outside.specs.Links.{Exchange}
use Rattle.sb_outside.specs.Streams.{Gains}
use Rattle.sb_input.specs.Lines.{lines_of, AreWhole, NoFeed}
use Rattle.sb_input.specs.Limits.{max_piece}
use Rattle.sb_input.specs.Taking.{Took, HasEnded, IsLong, IsLineAhead, AreFirst}
use Rattle.sb_input.specs.Readers.{pending_of, IsAt}
use Rattle.sb_input.specs.declared.reader.Reader.{Reader}
use Rattle.sb_client.specs.Answers.{Answer, IsAnswer, IsCutAt, IsBetween}
use Rattle.sb_client.specs.Outside.{Outside}
use Rattle.sb_client.specs.declared.ending.ClientEnding.{ClientEnding}
use Rattle.sb_client.specs.declared.ending.ClientEnding.TheVariants.{Done, ReadFault, WriteFault, LinkFault, BadReply, LongInput, OutOfMemory}

-- the lines of these answers; their exchanges, what was written for them, and whether one is a refusal
abbrev pub lines_in : List Answer → List (List ℕ)
lines_in answers = map (λ a. a.line) answers

-- all that was exchanged for these lines
abbrev pub exchanges_in : List Answer → List Exchange
exchanges_in answers = flat_map (λ a. a.made) answers

-- all that was written for these lines
abbrev pub replies_in : List Answer → List ℕ
replies_in answers = flat_map (λ a. a.written) answers

-- whether one of these lines was refused
abbrev pub any_refused : List Answer → Bool
any_refused answers = list_any (λ a. a.refused) answers

-- ---- a run that took all its input

-- a run that took all its input and answered each line, in order
pub record IsWholeRun (was now : Outside) (refused : Bool) : Type 0 where
  pub input : List ℕ
  pub took : Took was.left now.left input
  pub ended : HasEnded was.left now.left
  pub answers : List Answer
  pub lines : lines_in answers ≡ lines_of input
  pub each : All (IsAnswer was.key) answers
  pub told : Gains was.told now.told (exchanges_in answers)
  pub written : Gains was.given now.given (replies_in answers)
  pub says : refused ≡ any_refused answers

-- ---- a run that ended before

-- How far was read ahead of the lines of which the run speaks. Where the input failed, each line that came whole was answered; where the
-- run ended at a line, what was read behind it is a piece at most.
abbrev pub IsAheadAt : ClientEnding → List ℕ → Type 0
IsAheadAt (Done refused) ahead = ⊥
IsAheadAt ReadFault ahead = NoFeed ahead
IsAheadAt WriteFault ahead = length ahead ≤ max_piece
IsAheadAt LinkFault ahead = length ahead ≤ max_piece
IsAheadAt BadReply ahead = length ahead ≤ max_piece
IsAheadAt LongInput ahead = Unit {0}
IsAheadAt OutOfMemory ahead = IsLineAhead ahead

-- the line at which it ended, if it did at one
abbrev pub line_of_last : Option (List ℕ) → List (List ℕ)
line_of_last None = []
line_of_last (Some line) = line ∷ []

-- it ended at this line, or between two lines
abbrev pub EndsAt : (key : List ℕ) → ClientEnding → Option (List ℕ) → List Exchange → (part : List ℕ) → Type 0
EndsAt key end None made part = IsBetween end × (made ≡ []) × (part ≡ [])
EndsAt key end (Some line) made part = IsCutAt key end line made part

-- Of the first lines each was answered; then the run ended, at one more line or at none.
pub record IsCutRun (was now : Outside) (end : ClientEnding) : Type 0 where
  pub answers : List Answer
  pub each : All (IsAnswer was.key) answers
  pub last : Option (List ℕ)
  pub first : AreFirst was.left (lines_in answers ++ line_of_last last)
  pub taken : List ℕ
  pub ahead : List ℕ
  pub took : Took was.left now.left (taken ++ ahead)
  pub lines : lines_of taken ≡ lines_in answers ++ line_of_last last
  pub is_ahead : IsAheadAt end ahead
  pub long : end ≡ LongInput → IsLong was.left now.left
  pub made : List Exchange
  pub part : List ℕ
  pub ends : EndsAt was.key end last made part
  pub told : Gains was.told now.told (exchanges_in answers ++ made)
  pub written : Gains was.given now.given (replies_in answers ++ part)

-- how a run went, by its ending
abbrev pub IsRun : (was now : Outside) → ClientEnding → Type 0
IsRun was now (Done refused) = IsWholeRun was now refused
IsRun was now end = IsCutRun was now end

-- ---- within a run

-- The lines of a front of what was taken were answered, and the rest is pending.
pub record RunsSoFar (was : Outside) (left : Option (List ℕ)) (told : Option (List Exchange)) (given : Option (List ℕ)) (r : Reader) (refused : Bool) : Type 0 where
  pub input : List ℕ
  pub done : List ℕ
  pub at : IsAt was.left input left r
  pub split : input ≡ done ++ pending_of r
  pub whole : AreWhole done
  pub answers : List Answer
  pub lines : lines_in answers ≡ lines_of done
  pub each : All (IsAnswer was.key) answers
  pub tells : Gains was.told told (exchanges_in answers)
  pub gives : Gains was.given given (replies_in answers)
  pub says : refused ≡ any_refused answers
