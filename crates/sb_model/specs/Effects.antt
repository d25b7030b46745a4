-- What an action makes of a message: its statements in order, up to the first fault.
use Rattle.std.specs.Prelude.{ℕ, ◌+◌, Bool, true, not, ◌||◌, nat_le, nat_lt, ◌==◌, bytes_eq, List, [], ◌∷◌, length, Option, Some, None, Result, Ok, Err, if◌then◌else◌}
use Rattle.std.specs.List.{filter, insert, prefix_len, sum_by}
use Rattle.std.specs.Str.{chars}
use Rattle.std.specs.Ordering.{nat_cmp, is_lt}
use Rattle.std.specs.Cmp.Lexicographic.{slice_cmp}
use Rattle.sb_model.specs.declared.message.Message.{Message}
use Rattle.sb_model.specs.declared.message.Property.{Property}
use Rattle.sb_model.specs.declared.message.PropertyValue.{PropertyValue}
use Rattle.sb_model.specs.declared.message.PropertyValue.TheVariants.{Int, Text, Bool as Truth}
use Rattle.sb_model.specs.declared.message.SystemName.{SystemName}
use Rattle.sb_model.specs.declared.message.SystemName.TheVariants.{MessageId, Label, CorrelationId, SessionId, To, ReplyTo, ReplyToSessionId, ContentType}
use Rattle.sb_model.specs.declared.message.SystemText.{SystemText}
use Rattle.sb_model.specs.declared.expression.PropertyName.{PropertyName}
use Rattle.sb_model.specs.declared.expression.PropertyName.TheVariants.{User, System}
use Rattle.sb_model.specs.declared.evaluation.EvalFault.{EvalFault}
use Rattle.sb_model.specs.declared.evaluation.EvalFault.TheVariants.{NoSystemProperty, BadSystemValue, TooLarge}
use Rattle.sb_model.specs.Expressions.{Term, Change, setting, removing}
use Rattle.sb_model.specs.SystemNames.{system_code, system_named}
use Rattle.sb_model.specs.Meaning.{and_then, value_of}

-- ---- user properties: by name in byte order, none twice

-- properties without the one of this name
abbrev pub without_user : List ℕ → List Property → List Property
without_user name = filter (λ p. not (bytes_eq p.name name))

-- behind those whose names come before its own
abbrev pub with_one_more : Property → List Property → List Property
with_one_more p others = insert others (prefix_len (λ q. is_lt (slice_cmp nat_cmp q.name p.name)) others) p

-- in the place of one of its name, if there is one; unknown removes it
abbrev pub with_user : List ℕ → Option PropertyValue → List Property → List Property
with_user name None props = without_user name props
with_user name (Some value) props = with_one_more (record { name = name; value = value }) (without_user name props)

-- ---- system texts: by code of the name, none twice, none empty

-- system texts without the one of this name
abbrev pub without_system : SystemName → List SystemText → List SystemText
without_system name = filter (λ s. not (system_code s.name == system_code name))

-- behind those whose codes come before its own
abbrev pub with_text_more : SystemText → List SystemText → List SystemText
with_text_more s others = insert others (prefix_len (λ q. nat_lt (system_code q.name) (system_code s.name)) others) s

-- an empty text counts as absent
abbrev pub with_system : SystemName → List ℕ → List SystemText → List SystemText
with_system name [] sys = without_system name sys
with_system name (b ∷ bs) sys = with_text_more (record { name = name; text = b ∷ bs }) (without_system name sys)

-- in characters
abbrev pub text_limit : SystemName → Option ℕ
text_limit MessageId = Some 128
text_limit SessionId = Some 128
text_limit ReplyToSessionId = Some 128
text_limit Label = None
text_limit CorrelationId = None
text_limit To = None
text_limit ReplyTo = None
text_limit ContentType = None

-- whether a count is within a limit, if there is one
abbrev pub is_within : Option ℕ → ℕ → Bool
is_within None count = true
is_within (Some limit) count = nat_le count limit

-- the text that this value sets; unknown sets none
abbrev pub text_set : SystemName → Option PropertyValue → Result (List ℕ) EvalFault
text_set name None = Ok []
text_set name (Some (Text text)) = if is_within (text_limit name) (length (chars text)) then Ok text else Err BadSystemValue
text_set name (Some (Int n)) = Err BadSystemValue
text_set name (Some (Truth b)) = Err BadSystemValue

-- ---- statements

-- goes on with a system name that is known, else it is a fault
abbrev pub on_known : {A : Type 0} → Option SystemName → (SystemName → Result A EvalFault) → Result A EvalFault
on_known None next = Err NoSystemProperty
on_known (Some name) next = next name

-- of the eight alone; not of TimeToLive
abbrev pub on_system : {A : Type 0} → List ℕ → (SystemName → Result A EvalFault) → Result A EvalFault
on_system text next = on_known (system_named text) next

-- a message once a system property is set to what a term comes to on it
abbrev pub system_set : Message → SystemName → Term → Result Message EvalFault
system_set m name t = and_then (value_of m t) (λ x. and_then (text_set name x) (λ text. Ok (record m { sys = with_system name text m.sys })))

-- the property is looked for before the value is
abbrev pub after_set : Message → PropertyName → Term → Result Message EvalFault
after_set m (User name) t = and_then (value_of m t) (λ x. Ok (record m { props = with_user name x m.props }))
after_set m (System text) t = on_system text (λ name. system_set m name t)

-- a message once a property is removed
abbrev pub after_remove : Message → PropertyName → Result Message EvalFault
after_remove m (User name) = Ok (record m { props = without_user name m.props })
after_remove m (System text) = on_system text (λ name. Ok (record m { sys = without_system name m.sys }))

-- a message after one statement
abbrev pub after_change : Message → Change → Result Message EvalFault
after_change m (setting name t) = after_set m name t
after_change m (removing name) = after_remove m name

-- each on the message as those before left it
abbrev pub after_changes : Message → List Change → Result Message EvalFault
after_changes m [] = Ok m
after_changes m (c ∷ cs) = and_then (after_change m c) (λ next. after_changes next cs)

-- ---- the test behind the last statement

-- the bytes that a value counts for
abbrev pub value_size : PropertyValue → ℕ
value_size (Int n) = 8
value_size (Text text) = length text
value_size (Truth b) = 8

-- the bytes that a user property counts for
abbrev pub property_size : Property → ℕ
property_size p = length p.name + value_size p.value

-- the bytes that a system text counts for
abbrev pub text_size : SystemText → ℕ
text_size s = length s.text

-- the bytes of all properties of a message
abbrev pub property_bytes : Message → ℕ
property_bytes m = sum_by property_size m.props + sum_by text_size m.sys

-- the most bytes of a message's properties
abbrev pub max_property_bytes : ℕ
max_property_bytes = 65536

-- the most user properties of a message
abbrev pub max_user_properties : ℕ
max_user_properties = 256

-- whether a message has more properties than it may
abbrev pub is_too_large : Message → Bool
is_too_large m = nat_lt max_property_bytes (property_bytes m) || nat_lt max_user_properties (length m.props)

-- the message, unless its properties are too large
abbrev pub if_small_enough : Message → Result Message EvalFault
if_small_enough m = if is_too_large m then Err TooLarge else Ok m

-- ---- actions

-- a message after an action: after all its statements, if its properties are small enough then
abbrev pub after_action : Message → List Change → Result Message EvalFault
after_action m changes = and_then (after_changes m changes) if_small_enough
