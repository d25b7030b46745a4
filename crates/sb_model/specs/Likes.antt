-- LIKE of the SQL filter language, on the characters of a text and of a pattern.
use Rattle.std.specs.Prelude.{ℕ, Bool, true, false, ◌==◌, ◌&&◌, ◌||◌, List, [], ◌∷◌, length, Option, Some, None, if◌then◌else◌}
use Rattle.std.specs.Str.{chars}

-- what a place of a pattern stands for: any run of characters, any one character, or this one
pub data PatternPart : Type 0 where
  run : PatternPart
  any : PatternPart
  this : ℕ → PatternPart

-- a character that no escape stands before
abbrev pub part_of : ℕ → PatternPart
part_of c = if c == 37 then run else (if c == 95 then any else this c)

-- whether a character is the escape, if there is one
abbrev pub is_escape : Option ℕ → ℕ → Bool
is_escape None c = false
is_escape (Some e) c = c == e

-- a pattern with one part more in front, unless it is none
abbrev pub with_part : PatternPart → Option (List PatternPart) → Option (List PatternPart)
with_part part None = None
with_part part (Some parts) = Some (part ∷ parts)

-- the parts of a pattern: behind an escape stands a plain character; none where a lone escape ends it
abbrev pub parts_of : Option ℕ → List ℕ → Option (List PatternPart)
parts_of escape [] = Some []
parts_of escape (c ∷ []) = if is_escape escape c then None else Some (part_of c ∷ [])
parts_of escape (c ∷ d ∷ rest) = if is_escape escape c then with_part (this d) (parts_of escape rest) else with_part (part_of c) (parts_of escape (d ∷ rest))

-- these characters, or what is left of them behind some of the first, pass the test
abbrev pub some_suffix : (List ℕ → Bool) → List ℕ → Bool
some_suffix passes [] = passes []
some_suffix passes (c ∷ cs) = passes (c ∷ cs) || some_suffix passes cs

-- these characters, all of them, are of this form
abbrev pub has_form : List PatternPart → List ℕ → Bool
has_form [] [] = true
has_form [] (c ∷ cs) = false
has_form (run ∷ parts) cs = some_suffix (has_form parts) cs
has_form (any ∷ parts) [] = false
has_form (any ∷ parts) (c ∷ cs) = has_form parts cs
has_form (this d ∷ parts) [] = false
has_form (this d ∷ parts) (c ∷ cs) = c == d && has_form parts cs

-- whether characters are of the form of a pattern; none are where it is none
abbrev pub has_some_form : Option (List PatternPart) → List ℕ → Bool
has_some_form None cs = false
has_some_form (Some parts) cs = has_form parts cs

-- the first character, if there is one
abbrev pub first_of : List ℕ → Option ℕ
first_of [] = None
first_of (c ∷ cs) = Some c

-- the one character of the text that stands behind ESCAPE
abbrev pub escape_of : Option (List ℕ) → Option ℕ
escape_of None = None
escape_of (Some bytes) = first_of (chars bytes)

-- whether a text is one character
unfoldable pub is_one_character : List ℕ → Bool
is_one_character bytes = length (chars bytes) == 1

-- a text, a pattern and an escape, if there is one, as their bytes
unfoldable pub is_like : List ℕ → List ℕ → Option (List ℕ) → Bool
is_like text pattern escape = has_some_form (parts_of (escape_of escape) (chars pattern)) (chars text)
