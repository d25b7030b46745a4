-- What is written is read back.
use Rattle.std.specs.Prelude.{◌≡◌, ◌<◌, ◌≤◌, ◌^◌, List, [], ◌∷◌, length, true, false, FitsSigned, IfSome}
use Rattle.std.specs.Int.{w64}
use Rattle.std.specs.Str.{is_utf8, str_to_ascii_lowercase}
use Rattle.sb_model.specs.Effects.{is_too_large}
use Rattle.sb_model.specs.Orders.{IsInOrder}
use Rattle.sb_model.specs.declared.message.Message.{Message}
use Rattle.sb_model.specs.declared.message.Property.{Property}
use Rattle.sb_model.specs.declared.message.PropertyValue.{PropertyValue}
use Rattle.sb_model.specs.declared.message.PropertyValue.TheVariants.{Int, Text, Bool as Truth}
use Rattle.sb_model.specs.declared.message.SystemText.{SystemText}
use Rattle.sb_amqp.specs.Reads.{Reads}
use Rattle.sb_amqp.specs.Written.{written, max_header_ttl}

-- system texts that are all UTF-8
abbrev pub AreTexts : List SystemText → Type 0
AreTexts [] = Unit {0}
AreTexts (s ∷ sys) = (is_utf8 s.text ≡ true) × AreTexts sys

-- a value that its type can hold
abbrev pub HasRange : PropertyValue → Type 0
HasRange (Int z) = FitsSigned w64 z
HasRange (Text text) = is_utf8 text ≡ true
HasRange (Truth b) = Unit {0}

-- the name is folded
pub record IsFolded (p : Property) : Type 0 where
  pub text : is_utf8 p.name ≡ true
  pub folded : str_to_ascii_lowercase p.name ≡ p.name
  pub value : HasRange p.value

-- properties whose names are all in lower case
abbrev pub AreFolded : List Property → Type 0
AreFolded [] = Unit {0}
AreFolded (p ∷ props) = IsFolded p × AreFolded props

-- as messages are kept: in order, within the limits, texts in UTF-8, names folded; and a header can say how long it lives, a timestamp when it may be received
pub record IsWritable (m : Message) : Type 0 where
  pub order : IsInOrder m
  pub sizes : is_too_large m ≡ false
  pub body : length m.body < 2 ^ 32
  pub texts : AreTexts m.sys
  pub props : AreFolded m.props
  pub ttl : IfSome m.ttl (λ ttl. (0 < ttl) × (ttl ≤ max_header_ttl))
  pub schedule : IfSome m.schedule (λ moment. moment < 2 ^ 63)

-- a message that is written is read back as it was
abbrev pub ReadsBack : Type 0
ReadsBack = (m : Message) → IsWritable m → Reads (written m) m
