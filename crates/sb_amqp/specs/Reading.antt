-- Values and sections as they are taken from the front of bytes.
use Rattle.std.specs.Prelude.{ℕ, zero, suc, ◌-◌, ◌==◌, ◌&&◌, List, [], ◌∷◌, length, take, drop, Bool, true, false, Option, Some, None, option_and_then, nat_lt, if◌then◌else◌}
use Rattle.std.specs.Int.{Width, w32, w64, byte_len, from_be_bytes}
use Rattle.sb_amqp.specs.declared.values.Extent.{Extent}
use Rattle.sb_amqp.specs.declared.values.Extent.TheVariants.{Described, Fixed, Short, Long, Unknown}
use Rattle.sb_amqp.specs.Sections.{has_used_items, may_follow, pairs_up}
use Rattle.sb_amqp.specs.Values.{extent_of, extent_at, kind_of, content_of, max_nesting}

-- the bytes behind so many
unfoldable pub behind : ℕ → List ℕ → Option (List ℕ)
behind n bytes = if nat_lt (length bytes) n then None else Some (drop n bytes)

-- a number of so many bytes, and what is behind it
unfoldable pub number_at : Width → List ℕ → Option (ℕ × List ℕ)
number_at w bytes = if nat_lt (length bytes) (byte_len w) then None else Some (from_be_bytes w (take (byte_len w) bytes), drop (byte_len w) bytes)

-- what is behind a value of this extent
unfoldable pub after_plain : Extent → List ℕ → Option (List ℕ)
after_plain (Fixed n) bytes = behind n bytes
after_plain Short [] = None
after_plain Short (n ∷ bytes) = behind n bytes
after_plain Long bytes = option_and_then (λ x. behind x.0 x.1) (number_at w32 bytes)
after_plain Described bytes = None
after_plain Unknown bytes = None

-- what is behind the value at the front
unfoldable pub after_value : ℕ → List ℕ → Option (List ℕ)
after_value n [] = None
after_value zero (code ∷ rest) = after_plain (extent_of code) rest
after_value (suc n) (zero ∷ rest) = option_and_then (λ value. after_value n value) (after_value n rest)
after_value (suc n) (suc code ∷ rest) = after_plain (extent_of (suc code)) rest

-- what stands before the rest of some bytes, and that rest
abbrev pub cut : List ℕ → List ℕ → List ℕ × List ℕ
cut bytes rest = (take (length bytes - length rest) bytes, rest)

-- the value at the front, and what is behind it
unfoldable pub value_at : List ℕ → Option (List ℕ × List ℕ)
value_at bytes = option_and_then (λ rest. Some (cut bytes rest)) (after_value max_nesting bytes)

-- ---- items

-- the count of a list or map, and the bytes of its items
unfoldable pub counted : Extent → List ℕ → Option (ℕ × List ℕ)
counted (Fixed n) content = Some (0, content)
counted Short [] = None
counted Short (count ∷ items) = Some (count, items)
counted Long content = number_at w32 content
counted Described content = None
counted Unknown content = None

-- there is one, and it passes the test
abbrev pub is_some_and : {A : Type 0} → (A → Bool) → Option A → Bool
is_some_and test None = false
is_some_and test (Some a) = test a

-- these bytes are so many values
unfoldable pub are_values : ℕ → List ℕ → Bool
are_values zero bytes = length bytes == 0
are_values (suc n) bytes = is_some_and (λ x. are_values n x.1) (value_at bytes)

-- a list or map has as many items as it says, and a map has pairs of them
unfoldable pub is_filled : List ℕ → Bool
is_filled value = is_some_and (λ x. pairs_up (kind_of value) x.0 && are_values x.0 x.1) (counted (extent_at value) (content_of value))

-- the same, where the items are used
abbrev pub is_filled_if : Bool → List ℕ → Bool
is_filled_if false value = true
is_filled_if true value = is_filled value

-- ---- sections

-- a code of one byte, and what is behind it
abbrev pub code_at : List ℕ → Option (ℕ × List ℕ)
code_at [] = None
code_at (code ∷ rest) = Some (code, rest)

-- a number below 256 in 8 bytes; no section has a greater one
abbrev pub if_small : ℕ × List ℕ → Option (ℕ × List ℕ)
if_small x = if nat_lt 255 x.0 then None else Some x

-- a code of eight bytes, and what is behind it, where it is small
unfoldable pub small_at : List ℕ → Option (ℕ × List ℕ)
small_at bytes = option_and_then if_small (number_at w64 bytes)

-- 53 and a byte, or 80 and eight bytes
abbrev pub coded_at : ℕ → List ℕ → Option (ℕ × List ℕ)
coded_at form rest = if form == 83 then code_at rest else if form == 128 then small_at rest else None

-- the number of the descriptor at the front, and what is behind it
unfoldable pub descriptor_at : List ℕ → Option (ℕ × List ℕ)
descriptor_at [] = None
descriptor_at (b ∷ []) = None
descriptor_at (zero ∷ form ∷ rest) = coded_at form rest
descriptor_at (suc b ∷ form ∷ rest) = None

-- a section, if the items that are used of it are there
abbrev pub if_filled : ℕ → List ℕ × List ℕ → Option (ℕ × (List ℕ × List ℕ))
if_filled code x = if is_filled_if (has_used_items code (kind_of x.0)) x.0 then Some (code, x) else None

-- the number and the value of the section at the front, and what is behind it
unfoldable pub section_at : List ℕ → Option (ℕ × (List ℕ × List ℕ))
section_at bytes = option_and_then (λ d. option_and_then (λ x. if_filled d.0 x) (value_at d.1)) (descriptor_at bytes)

-- a section, if it may follow the one before it
abbrev pub if_next : ℕ → ℕ × (List ℕ × List ℕ) → Option (ℕ × (List ℕ × List ℕ))
if_next last x = if may_follow last x.0 then Some x else None

-- the same, where it may stand behind the last one
unfoldable pub next_at : ℕ → List ℕ → Option (ℕ × (List ℕ × List ℕ))
next_at last bytes = option_and_then (if_next last) (section_at bytes)

-- the bytes of the items, behind their count
unfoldable pub item_bytes : Extent → List ℕ → List ℕ
item_bytes (Fixed n) content = content
item_bytes Short content = drop 1 content
item_bytes Long content = drop 4 content
item_bytes Described content = content
item_bytes Unknown content = content
