-- The texts and sizes of messages.
use Rattle.std.specs.Prelude.{ℕ, ◌+◌, ◌==◌, Bool, false, List, [], ◌∷◌, length, nat_le, nat_lt, bytes_eq, find, sum_by, if◌then◌else◌, Option, Some, None}
use Rattle.std.specs.Option.{option_map}
use Rattle.sb_model.specs.Effects.{property_bytes, max_property_bytes}
use Rattle.sb_model.specs.SystemNames.{system_code}
use Rattle.sb_model.specs.declared.message.Message.{Message}
use Rattle.sb_model.specs.declared.message.SystemName.{SystemName}

-- a system text of a message, where it has one
abbrev pub text_of : SystemName → Message → Option (List ℕ)
text_of name m = option_map (λ x. x.text) (find (λ x. system_code x.name == system_code name) m.sys)

-- whether a message has this system property, with this text
abbrev pub has_text_of : SystemName → List ℕ → Message → Bool
has_text_of name text m = elim (text_of name m) [ Some own ↦ bytes_eq own text | None ↦ false ]

-- ---- sizes, in bytes

-- of a body, and of the bodies and properties of a send of two or more messages
abbrev pub max_body : ℕ
max_body = 262144

-- the size, where it is above the most
abbrev pub above : ℕ → ℕ → Option ℕ
above most size = if nat_le size most then None else Some size

-- the first size that is told
abbrev pub first_size : Option ℕ → Option ℕ → Option ℕ
first_size (Some size) other = Some size
first_size None other = other

-- the first size of a message that is too large: the body's, then the properties'
abbrev pub large_in : Message → Option ℕ
large_in m = first_size (above max_body (length m.body)) (above max_property_bytes (property_bytes m))

-- the first size that is too large in the first of these messages which has one
abbrev pub large_one : List Message → Option ℕ
large_one [] = None
large_one (m ∷ ms) = first_size (large_in m) (large_one ms)

-- the bytes of bodies and properties of all these messages
abbrev pub all_bytes : List Message → ℕ
all_bytes messages = sum_by (λ m. length m.body + property_bytes m) messages

-- the size of all together counts where they are two or more
abbrev pub large_together : List Message → Option ℕ
large_together messages = if nat_lt 1 (length messages) then above max_body (all_bytes messages) else None

-- the first size that is too large
abbrev pub large_size : List Message → Option ℕ
large_size messages = first_size (large_one messages) (large_together messages)
