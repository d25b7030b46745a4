-- Values of AMQP 1.0: a constructor, and what stands behind it (OASIS AMQP 1.0, part 1, sections 1.2 and 1.6).
use Rattle.std.specs.Prelude.{◌≡◌, ◌<◌, ◌^◌, ◌/◌, ◌==◌, ℕ, zero, suc, List, [], ◌∷◌, ◌++◌, length, drop, Option, Some, None, find, if◌then◌else◌}
use Rattle.std.specs.Int.{w32, to_be_bytes}
use Rattle.sb_amqp.specs.declared.values.Extent.{Extent}
use Rattle.sb_amqp.specs.declared.values.Extent.TheVariants.{Described, Fixed, Short, Long, Unknown}
use Rattle.sb_amqp.specs.declared.values.Kind.{Kind}
use Rattle.sb_amqp.specs.declared.values.Kind.TheVariants as kind

-- these, one behind the other
abbrev pub joined : List (List ℕ) → List ℕ
joined [] = []
joined (v ∷ vs) = v ++ joined vs

-- ---- how far a value goes

-- the extent in a row of the table, if there is one
abbrev pub extent_or_unknown : Option (ℕ × Extent) → Extent
extent_or_unknown None = Unknown
extent_or_unknown (Some row) = row.1

-- what the upper four bits of a constructor say of the bytes behind it: a number of them, or a length before them
abbrev pub extents : List (ℕ × Extent)
extents =
    (4, Fixed 0) ∷ (5, Fixed 1) ∷ (6, Fixed 2) ∷ (7, Fixed 4) ∷ (8, Fixed 8) ∷ (9, Fixed 16)
    ∷ (10, Short) ∷ (11, Long) ∷ (12, Short) ∷ (13, Long) ∷ (14, Short) ∷ (15, Long) ∷ []

-- 00 stands before a descriptor and a value
unfoldable pub extent_of : ℕ → Extent
extent_of code = if code == 0 then Described else extent_or_unknown (find (λ row. row.0 == code / 16) extents)

-- the extent of the value at the front
unfoldable pub extent_at : List ℕ → Extent
extent_at [] = Unknown
extent_at (code ∷ rest) = extent_of code

-- these bytes, no more and no fewer, stand behind such a constructor
abbrev pub HasExtent : Extent → List ℕ → Type 0
HasExtent (Fixed n) bytes = length bytes ≡ n
HasExtent Short bytes = (content : List ℕ) × (length content < 2 ^ 8) × (bytes ≡ length content ∷ content)
HasExtent Long bytes = (content : List ℕ) × (length content < 2 ^ 32) × (bytes ≡ to_be_bytes w32 (length content) ++ content)
HasExtent Described bytes = ⊥
HasExtent Unknown bytes = ⊥

-- these bytes are one value, with at most so many descriptors one within the other
abbrev pub IsValue : ℕ → List ℕ → Type 0
IsValue n [] = ⊥
IsValue zero (code ∷ rest) = HasExtent (extent_of code) rest
IsValue (suc n) (zero ∷ rest) = (descriptor : List ℕ) × (value : List ℕ) × IsValue n descriptor × IsValue n value × (rest ≡ descriptor ++ value)
IsValue (suc n) (suc code ∷ rest) = HasExtent (extent_of (suc code)) rest

-- at most so many descriptors stand one within the other
abbrev pub max_nesting : ℕ
max_nesting = 8

-- all of these are values
abbrev pub AreValues : List (List ℕ) → Type 0
AreValues [] = Unit {0}
AreValues (v ∷ vs) = IsValue max_nesting v × AreValues vs

-- ---- what a value is

-- the kind in a row of the table, if there is one
abbrev pub kind_or_other : Option (ℕ × Kind) → Kind
kind_or_other None = kind.Other
kind_or_other (Some row) = row.1

-- the constructors whose values a message may use; small forms and forms of no bytes beside the full ones
abbrev pub kinds : List (ℕ × Kind)
kinds =
    (64, kind.Null) ∷ (65, kind.True) ∷ (66, kind.False) ∷ (86, kind.Boolean)
    ∷ (80, kind.Ubyte) ∷ (96, kind.Ushort) ∷ (112, kind.Uint) ∷ (82, kind.Uint) ∷ (67, kind.Uint)
    ∷ (128, kind.Ulong) ∷ (83, kind.Ulong) ∷ (68, kind.Ulong)
    ∷ (81, kind.Byte) ∷ (97, kind.Short) ∷ (113, kind.Int) ∷ (84, kind.Int) ∷ (129, kind.Long) ∷ (85, kind.Long)
    ∷ (131, kind.Timestamp) ∷ (152, kind.Uuid)
    ∷ (160, kind.Binary) ∷ (176, kind.Binary) ∷ (161, kind.String) ∷ (177, kind.String) ∷ (163, kind.Symbol) ∷ (179, kind.Symbol)
    ∷ (69, kind.List) ∷ (192, kind.List) ∷ (208, kind.List) ∷ (193, kind.Map) ∷ (209, kind.Map) ∷ []

-- what kind of value it is, by its constructor
unfoldable pub kind_of : List ℕ → Kind
kind_of [] = kind.Other
kind_of (code ∷ rest) = kind_or_other (find (λ row. row.0 == code) kinds)

-- what stands behind the constructor and the length
abbrev pub behind_length : Extent → List ℕ → List ℕ
behind_length (Fixed n) bytes = bytes
behind_length Short bytes = drop 1 bytes
behind_length Long bytes = drop 4 bytes
behind_length Described bytes = bytes
behind_length Unknown bytes = bytes

-- the bytes of a value behind its constructor and its length
unfoldable pub content_of : List ℕ → List ℕ
content_of [] = []
content_of (code ∷ rest) = behind_length (extent_of code) rest
