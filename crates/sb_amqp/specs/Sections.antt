-- The sections of a message: what one is, and in which order they stand (OASIS AMQP 1.0, part 3, section 3.2).
use Rattle.std.specs.Prelude.{◌≡◌, ◌<◌, ◌^◌, ◌%◌, ◌==◌, ◌&&◌, ◌||◌, ℕ, List, [], ◌∷◌, ◌++◌, length, Bool, true, false, nat_lt, nat_le, if◌then◌else◌}
use Rattle.std.specs.List.{flat_map}
use Rattle.std.specs.Int.{w32, w64, to_be_bytes}
use Rattle.sb_amqp.specs.declared.values.Extent.{Extent}
use Rattle.sb_amqp.specs.declared.values.Extent.TheVariants.{Described, Fixed, Short, Long, Unknown}
use Rattle.sb_amqp.specs.declared.values.Kind.{Kind}
use Rattle.sb_amqp.specs.declared.values.Kind.TheVariants as kind
use Rattle.sb_amqp.specs.Fields.{header_code, annotations_code, properties_code, application_code, data_code, footer_code}
use Rattle.sb_amqp.specs.Values.{joined, IsValue, AreValues, max_nesting, extent_at, kind_of, content_of}

-- one section: its descriptor, its value, and the items of that
pub record Section : Type 0 where
  -- the descriptor's number
  pub code : ℕ
  -- it has one byte, or eight
  pub is_small : Bool
  pub value : List ℕ
  -- those of a list or map that a message uses
  pub items : List (List ℕ)

-- 00, the descriptor in one of its two forms, and the value
abbrev pub descriptor : Bool → ℕ → List ℕ
descriptor true code = 0 ∷ 83 ∷ code ∷ []
descriptor false code = 0 ∷ 128 ∷ to_be_bytes w64 code

-- the bytes of a section
abbrev pub spelled : Section → List ℕ
spelled s = descriptor s.is_small s.code ++ s.value

-- the bytes of sections, one behind the other
abbrev pub all_spelled : List Section → List ℕ
all_spelled ss = flat_map spelled ss

-- ---- the items of a list or map

-- how the count stands before the items
abbrev pub count_bytes : Extent → ℕ → List ℕ
count_bytes (Fixed n) count = []
count_bytes Short count = count ∷ []
count_bytes Long count = to_be_bytes w32 count
count_bytes Described count = []
count_bytes Unknown count = []

-- a count that can be said so; 45 has none, and no items
abbrev pub FitsCount : Extent → ℕ → Type 0
FitsCount (Fixed n) count = count ≡ 0
FitsCount Short count = count < 2 ^ 8
FitsCount Long count = count < 2 ^ 32
FitsCount Described count = ⊥
FitsCount Unknown count = ⊥

-- The content is the count, and so many values that fill it.
pub record HasItems (value : List ℕ) (items : List (List ℕ)) : Type 0 where
  pub content : content_of value ≡ count_bytes (extent_at value) (length items) ++ joined items
  pub each : AreValues items
  pub count : FitsCount (extent_at value) (length items)

-- whether a value is a list
abbrev pub is_list : Kind → Bool
is_list kind.List = true
is_list _ = false

-- whether a value is a map
abbrev pub is_map : Kind → Bool
is_map kind.Map = true
is_map _ = false

-- whether a message uses the items of such a value in such a section: header and properties are lists, annotations and application properties are maps
abbrev pub has_used_items : ℕ → Kind → Bool
has_used_items code k =
    if code == header_code || code == properties_code then is_list k
    else if code == annotations_code || code == application_code then is_map k
    else false

-- a map has as many values as keys
abbrev pub pairs_up : Kind → ℕ → Bool
pairs_up k count = if is_map k then count % 2 == 0 else true

-- a section has the items of its value, where they are used, else none
abbrev pub HasUsedItems : Bool → List ℕ → List (List ℕ) → Type 0
HasUsedItems false value items = items ≡ []
HasUsedItems true value items = HasItems value items × (pairs_up (kind_of value) (length items) ≡ true)

-- a section on its own
pub record IsSection (s : Section) : Type 0 where
  pub code : s.code < 2 ^ 8
  pub value : IsValue max_nesting s.value
  pub items : HasUsedItems (has_used_items s.code (kind_of s.value)) s.value s.items

-- all of these are sections
abbrev pub AreSections : List Section → Type 0
AreSections [] = Unit {0}
AreSections (s ∷ ss) = IsSection s × AreSections ss

-- ---- their order

-- what stands before the first section
abbrev pub before_all : ℕ
before_all = 111

-- Header, two kinds of annotations, properties and application properties may each be left out. Then comes a body: sections of
-- data, or one sequence, or one value. Behind the body a footer may stand.
abbrev pub may_follow : ℕ → ℕ → Bool
may_follow last code =
    if nat_lt last data_code then nat_lt last code && nat_lt code footer_code
    else (code == footer_code && nat_lt last footer_code) || (code == data_code && last == data_code)

-- the body is there
abbrev pub may_end : ℕ → Bool
may_end last = nat_le data_code last

-- the code of the last section, or of what came before
abbrev pub last_code : ℕ → List Section → ℕ
last_code last [] = last
last_code last (s ∷ ss) = last_code s.code ss

-- all of these are sections, each of which may follow the one before it
abbrev pub AreInOrder : ℕ → List Section → Type 0
AreInOrder last [] = Unit {0}
AreInOrder last (s ∷ ss) = (may_follow last s.code ≡ true) × IsSection s × AreInOrder s.code ss
