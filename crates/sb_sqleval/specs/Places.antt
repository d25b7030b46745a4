-- How a text is held against a pattern of LIKE: what a place in the pattern says, and what is still open at two places and a mark.
use Rattle.std.specs.Prelude.{◌≡◌, ℕ, ◌+◌, ◌*◌, ◌<◌, ◌≤◌, Bool, true, false, ◌==◌, ◌||◌, List, [], ◌∷◌, drop, length, Option, Some, None}
use Rattle.std.specs.Str.{chars}
use Rattle.sb_model.specs.Likes.{PatternPart, run, any, this, parts_of, with_part, has_some_form, some_suffix}
use Rattle.sb_sqleval.specs.declared.likes.Ahead.{Ahead}
use Rattle.sb_sqleval.specs.declared.likes.Ahead.TheVariants.{End, Lone, Run, One}
use Rattle.sb_sqleval.specs.declared.likes.Step.{Step}
use Rattle.sb_sqleval.specs.declared.likes.Step.TheVariants.{Matched, Starred, Onward, Stuck}
use Rattle.sb_sqleval.specs.declared.likes.Turn.{Turn}
use Rattle.sb_sqleval.specs.declared.likes.Turn.TheVariants.{Ended, Goes}
use Rattle.sb_sqleval.specs.declared.likes.Mark.{Mark}
use Rattle.sb_sqleval.specs.declared.likes.Places.{Places}

-- any character, or this one
abbrev pub one_part : Option ℕ → PatternPart
one_part None = any
one_part (Some c) = this c

-- whether a character is the one that is wanted, or any is
abbrev pub is_wanted : Option ℕ → ℕ → Bool
is_wanted None c = true
is_wanted (Some d) c = c == d

-- the pattern has this part first, and then those of `rest`, which is shorter
pub record Begins (escape : Option ℕ) (pattern rest : List ℕ) (part : PatternPart) : Type 0 where
  pub parts : parts_of escape (chars pattern) ≡ with_part part (parts_of escape (chars rest))
  pub shorter : length (chars rest) < length (chars pattern)

-- what a place in the pattern says: its end, a lone escape, `%`, or one character
abbrev pub IsAhead : Option ℕ → List ℕ → Ahead → Type 0
IsAhead escape pattern End = parts_of escape (chars pattern) ≡ Some []
IsAhead escape pattern Lone = parts_of escape (chars pattern) ≡ None
IsAhead escape pattern (Run rest) = Begins escape pattern rest.now run
IsAhead escape pattern (One wanted rest) = Begins escape pattern rest.now (one_part wanted)

-- characters against the pattern from a place on
abbrev pub fits : Option ℕ → List ℕ → List ℕ → Bool
fits escape pattern = has_some_form (parts_of escape (chars pattern))

-- one character of each is passed: what they say stays, and what fits the pattern fits what is left of it behind one character
pub record Passes (escape : Option ℕ) (ahead left onward rest : List ℕ) : Type 0 where
  pub same : fits escape ahead (chars left) ≡ fits escape onward (chars rest)
  pub later : (s : List ℕ) → fits escape ahead s ≡ true → fits escape onward (drop 1 s) ≡ true
  pub text : chars rest ≡ drop 1 (chars left)
  pub fewer : length (chars rest) < length (chars left)
  pub shorter : length (chars onward) < length (chars ahead)

-- what one step came to: all fits, a `%` is ahead, one character was passed, or it can't fit so
abbrev pub IsStep : Option ℕ → List ℕ → List ℕ → Step → Type 0
IsStep escape ahead left Matched = fits escape ahead (chars left) ≡ true
IsStep escape ahead left (Starred rest) = Begins escape ahead rest.now run
IsStep escape ahead left (Onward rest onward) = Passes escape ahead left onward.now rest.now
IsStep escape ahead left Stuck = fits escape ahead (chars left) ≡ false

-- what is left behind at least one of the characters passes the test
abbrev pub later_suffix : (List ℕ → Bool) → List ℕ → Bool
later_suffix passes [] = false
later_suffix passes (c ∷ cs) = some_suffix passes cs

-- the pattern behind the mark fits from a later place of the text
abbrev pub retries : Option ℕ → Option Mark → Bool
retries escape None = false
retries escape (Some m) = later_suffix (fits escape m.behind.now) (chars m.tried.now)

-- the text fits from these places, or from the mark
abbrev pub is_open : Option ℕ → Places → Bool
is_open escape p = fits escape p.ahead.now (chars p.left.now) || retries escape p.mark

-- behind the mark stands no other run up to here: what fits there fits here, so many characters on
pub record IsReached (escape : Option ℕ) (behind tried ahead left : List ℕ) : Type 0 where
  pub passed : ℕ
  pub place : chars left ≡ drop passed (chars tried)
  pub fitting : (s : List ℕ) → fits escape behind s ≡ true → fits escape ahead (drop passed s) ≡ true

-- the mark, if there is one, was reached so
abbrev pub IsMarked : Option ℕ → List ℕ → List ℕ → Option Mark → Type 0
IsMarked escape ahead left None = Unit {0}
IsMarked escape ahead left (Some m) = IsReached escape m.behind.now m.tried.now ahead left

-- how often the mark may still move
abbrev pub tries : ℕ → Option Mark → ℕ
tries most None = most + 1
tries most (Some m) = length (chars m.tried.now)

-- the text that is left and the pattern behind the mark are no longer than the whole ones
abbrev pub IsBounded : ℕ → ℕ → List ℕ → Option Mark → Type 0
IsBounded most size left None = length (chars left) ≤ most
IsBounded most size left (Some m) = (length (chars left) ≤ length (chars m.tried.now)) × (length (chars m.behind.now) ≤ size)

-- a text of at most so many characters, a pattern of at most so many
pub record IsWithin (most size : ℕ) (p : Places) : Type 0 where
  pub ahead : length (chars p.ahead.now) ≤ size
  pub mark : IsBounded most size p.left.now p.mark

-- how many turns there are at most
abbrev pub turns_left : ℕ → ℕ → Places → ℕ
turns_left most size p = tries most p.mark * (size + 1) + length (chars p.ahead.now)

-- what one turn must do: it answers, or leaves the same question with fewer turns
pub record Turns (escape : Option ℕ) (most size : ℕ) (before after : Places) : Type 0 where
  pub same : is_open escape after ≡ is_open escape before
  pub marked : IsMarked escape after.ahead.now after.left.now after.mark
  pub within : IsWithin most size after
  pub fewer : turns_left most size after < turns_left most size before

-- a turn answers what was open, or leaves the same open
abbrev pub IsTurn : Option ℕ → ℕ → ℕ → Places → Turn → Type 0
IsTurn escape most size before (Ended answer) = answer ≡ is_open escape before
IsTurn escape most size before (Goes after) = Turns escape most size before after
