-- What a name is, and which addresses name an entity.
use Rattle.std.specs.Prelude.{ℕ, List, length, Bool, false, true, nat_le, ◌&&◌, ◌||◌, ◌==◌, bytes_eq, codes, Option, Some, None}
use Rattle.std.specs.List.{list_all}
use Rattle.std.specs.Ordering.{nat_cmp, is_lt}
use Rattle.std.specs.Cmp.Lexicographic.{slice_cmp}
use Rattle.sb_machine.specs.declared.call.Path.{Path}
use Rattle.sb_machine.specs.declared.call.Part.{Part}
use Rattle.sb_machine.specs.declared.call.Part.TheVariants.{Main, Dead, Transfer}

-- a small letter, a digit, `.`, `-` or `_`
abbrev pub is_name_byte : ℕ → Bool
is_name_byte b = (nat_le 97 b && nat_le b 122) || (nat_le 48 b && nat_le b 57) || (b == 46) || (b == 45) || (b == 95)

-- a name of 1 to so many such bytes
abbrev pub is_name_within : ℕ → List ℕ → Bool
is_name_within most name = nat_le 1 (length name) && nat_le (length name) most && list_all is_name_byte name

-- the name of an entity, of a subscription
abbrev pub is_name : List ℕ → Bool
is_name = is_name_within 260

-- whether a subscription may be named so
abbrev pub is_short_name : List ℕ → Bool
is_short_name = is_name_within 50

-- whether a part is the main one, neither dead letters nor transfers
abbrev pub is_main : Part → Bool
is_main Main = true
is_main Dead = false
is_main Transfer = false

-- whether the second name of an address is left out, or may name a subscription
abbrev pub is_subscription : Option (List ℕ) → Bool
is_subscription None = true
is_subscription (Some name) = is_short_name name

-- the address of an entity, or of a part of it
abbrev pub is_address : Path → Bool
is_address path = is_name path.name && is_subscription path.subscription

-- whether two texts that may be left out are equal
abbrev pub is_same_option : Option (List ℕ) → Option (List ℕ) → Bool
is_same_option None None = true
is_same_option (Some a) (Some b) = bytes_eq a b
is_same_option _ _ = false

-- the addresses name one entity, whatever the parts
abbrev pub is_same_entity : Path → Path → Bool
is_same_entity a b = bytes_eq a.name b.name && is_same_option a.subscription b.subscription

-- the name of a rule
abbrev pub is_rule_name : List ℕ → Bool
is_rule_name name = bytes_eq name (codes "$default") || is_short_name name

-- whether two parts are the same
abbrev pub is_same_part : Part → Part → Bool
is_same_part Main Main = true
is_same_part Dead Dead = true
is_same_part Transfer Transfer = true
is_same_part _ _ = false

-- the order of texts: of bytes
abbrev pub is_before : List ℕ → List ℕ → Bool
is_before a b = is_lt (slice_cmp nat_cmp a b)
