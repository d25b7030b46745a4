-- Messages and their properties, each as its form.
use Rattle.std.specs.Prelude.{ℤ, List, length, Bool, true, Option, Some, None, nat_lt, ◌&&◌, FitsSigned}
use Rattle.std.specs.Cmp.Lexicographic.{slice_cmp}
use Rattle.std.specs.Int.{w64, to_be_bytes, cast_signed, cast_unsigned}
use Rattle.std.specs.Ordering.{nat_cmp, is_lt}
use Rattle.sb_model.specs.SystemNames.{system_names, system_code}
use Rattle.sb_model.specs.declared.message.Message.{Message}
use Rattle.sb_model.specs.declared.message.Property.{Property}
use Rattle.sb_model.specs.declared.message.PropertyValue.{PropertyValue}
use Rattle.sb_model.specs.declared.message.PropertyValue.TheVariants.{Int, Text, Bool as Truth}
use Rattle.sb_model.specs.declared.message.SystemName.{SystemName}
use Rattle.sb_model.specs.declared.message.SystemText.{SystemText}
use Rattle.sb_machine.specs.declared.rule.Conditions.{Conditions}
use Rattle.sb_codec.specs.Forms.{Form, number64, blob, text, ◌then◌, shaped, optional, listed, coded, Row, row, Case, of, Choice, no_row, ◌or◌, variants}
use Rattle.sb_codec.specs.Pieces.{truth}
use Rattle.sb_codec.specs.Readers.{mapped, number_at}

-- ---- system texts

abbrev pub system_kind : Form SystemName
system_kind = coded system_code system_names

-- a system text: the code of its name, and the text
unfoldable pub system : Form SystemText
system = shaped (λ x. record { name = x.0; text = x.1 }) (λ s. (s.name, s.text)) (system_kind then text)

-- codes rise, and no text is empty
abbrev pub is_next_system : Option SystemText → SystemText → Bool
is_next_system None s = nat_lt 0 (length s.text)
is_next_system (Some last) s = nat_lt (system_code last.name) (system_code s.name) && nat_lt 0 (length s.text)

-- the system texts of a message, by rising code
abbrev pub systems : Form (List SystemText)
systems = listed is_next_system system

-- ---- user properties

-- whole numbers in two's complement
unfoldable pub signed64 : Form ℤ
signed64 = record { spell = λ z. to_be_bytes w64 (cast_unsigned w64 z); reads = mapped (cast_signed w64) (number_at w64); Fits = λ z. FitsSigned w64 z; Asks = λ _. Unit {0}; fixed = 8; content = λ _. 0 }

-- a value that is a number
abbrev pub int_row : Row PropertyValue
int_row = row 0 signed64 (λ z. Int z)

-- a value that is a text
abbrev pub text_row : Row PropertyValue
text_row = row 1 text (λ t. Text t)

-- a value that is true or false
abbrev pub truth_row : Row PropertyValue
truth_row = row 2 truth (λ b. Truth b)

-- the code and the bytes of each value
abbrev pub value_case : PropertyValue → Case
value_case (Int z) = of int_row z
value_case (Text t) = of text_row t
value_case (Truth b) = of truth_row b

-- what is read behind each code
abbrev pub value_choice : Choice PropertyValue
value_choice = int_row or text_row or truth_row or no_row

-- the form of a property's value
unfoldable pub value : Form PropertyValue
value = variants value_case value_choice

-- a user property: its name and its value
unfoldable pub property : Form Property
property = shaped (λ x. record { name = x.0; value = x.1 }) (λ p. (p.name, p.value)) (text then value)

-- names rise in byte order
abbrev pub is_next_property : Option Property → Property → Bool
is_next_property None p = true
is_next_property (Some last) p = is_lt (slice_cmp nat_cmp last.name p.name)

-- the user properties of a message, by rising name
abbrev pub properties : Form (List Property)
properties = listed is_next_property property

-- the conditions of a correlation filter
unfoldable pub conditions : Form Conditions
conditions = shaped (λ x. record { sys = x.0; props = x.1 }) (λ c. (c.sys, c.props)) (systems then properties)

-- ---- messages

-- anything may stand behind anything
abbrev pub any_next : {A : Type 0} → Option A → A → Bool
any_next last next = true

-- a message: body, system texts, user properties, time to live, and the moment from which on it may be received
unfoldable pub message : Form Message
message =
    shaped (λ x. record { body = x.0; sys = x.1.0; props = x.1.1.0; ttl = x.1.1.1.0; schedule = x.1.1.1.1 })
    (λ m. (m.body, (m.sys, (m.props, (m.ttl, m.schedule)))))
    (blob then systems then properties then optional number64 then optional number64)
