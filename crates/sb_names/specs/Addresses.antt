-- Which texts are addresses, and of what.
use Rattle.std.specs.Prelude.{ℕ, ◌==◌, nat_lt, length, List, Bool, codes, bytes_eq, if◌then◌else◌, Option, Some, None, option_map}
use Rattle.std.specs.List.{before_first, after_first, position_or_len}
use Rattle.std.specs.Str.{str_to_ascii_lowercase}
use Rattle.sb_machine.specs.Names.{is_address}
use Rattle.sb_machine.specs.Namespace.{entity_path}
use Rattle.sb_machine.specs.declared.call.Part.{Part}
use Rattle.sb_machine.specs.declared.call.Part.TheVariants.{Main, Dead, Transfer}
use Rattle.sb_machine.specs.declared.call.Path.{Path}

-- ---- pieces between slashes

-- whether a byte is a slash
abbrev pub is_slash : ℕ → Bool
is_slash b = b == 47

-- what is before the first slash, or all where there is none
abbrev pub up_to_slash : List ℕ → List ℕ
up_to_slash text = before_first is_slash text

-- what is behind the first slash, where there is one
abbrev pub behind_slash : List ℕ → Option (List ℕ)
behind_slash text = if nat_lt (position_or_len is_slash text) (length text) then Some (after_first is_slash text) else None

-- ---- shapes of a text in small letters

-- the part that is meant by what follows an entity
abbrev pub part_behind : Option (List ℕ) → Option Part
part_behind None = Some Main
part_behind (Some rest) =
    if bytes_eq rest (codes "$deadletterqueue") then Some Dead
    else (if bytes_eq rest (codes "$transfer/$deadletterqueue") then Some Transfer
    else None)

-- `name`, with a part behind it
abbrev pub entity_shape : List ℕ → Option Path
entity_shape text = option_map (λ part. record { name = up_to_slash text; subscription = None; part = part }) (part_behind (behind_slash text))

-- `name` behind `topic/subscriptions/`, with a part behind it
abbrev pub named_under : List ℕ → Option (List ℕ) → Option Path
named_under topic None = None
named_under topic (Some text) = option_map (λ part. record { name = topic; subscription = Some (up_to_slash text); part = part }) (part_behind (behind_slash text))

-- a subscription, where `subscriptions` stands behind the topic's name
abbrev pub under : List ℕ → Option (List ℕ) → Option Path
under topic None = None
under topic (Some text) = if bytes_eq (up_to_slash text) (codes "subscriptions") then named_under topic (behind_slash text) else None

-- an entity, or else a subscription, by the shape of its address alone
abbrev pub shape_of : List ℕ → Option Path
shape_of text = elim (entity_shape text) [ Some path ↦ Some path | None ↦ under (up_to_slash text) (behind_slash text) ]

-- ---- addresses

-- made of names
abbrev pub if_named : Option Path → Option Path
if_named None = None
if_named (Some path) = if is_address path then Some path else None

-- the address that a text is, in any case of its letters
abbrev pub address_in : List ℕ → Option Path
address_in text = if_named (shape_of (str_to_ascii_lowercase text))

-- a text that is none becomes the name of an entity
abbrev pub address_of : List ℕ → Path
address_of text = elim (address_in text) [ Some path ↦ path | None ↦ entity_path (str_to_ascii_lowercase text) ]
