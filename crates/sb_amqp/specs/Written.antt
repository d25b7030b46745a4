-- The one spelling in which a message is written.
use Rattle.std.specs.Prelude.{ℕ, ℤ, suc, zero, ◌+◌, ◌*◌, ◌==◌, List, [], ◌∷◌, ◌++◌, length, Bool, true, false, Option, Some, None, find, nat_le, max, if◌then◌else◌}
use Rattle.std.specs.List.{flat_map}
use Rattle.std.specs.Int.{w32, w64, to_be_bytes, cast_unsigned}
use Rattle.sb_model.specs.SystemNames.{system_code}
use Rattle.sb_model.specs.declared.message.Message.{Message}
use Rattle.sb_model.specs.declared.message.Property.{Property}
use Rattle.sb_model.specs.declared.message.PropertyValue.{PropertyValue}
use Rattle.sb_model.specs.declared.message.PropertyValue.TheVariants.{Int, Text, Bool as Truth}
use Rattle.sb_model.specs.declared.message.SystemName.{SystemName}
use Rattle.sb_model.specs.declared.message.SystemText.{SystemText}
use Rattle.sb_amqp.specs.Fields.{header_code, annotations_code, properties_code, application_code, data_code, field_number, field_name, is_symbol, schedule_key}
use Rattle.sb_amqp.specs.Values.{joined}

-- ---- values; a length is written in 4 bytes, as its lowest 32 bits

-- a value behind its constructor and its length of 4 bytes
abbrev pub sized : ℕ → List ℕ → List ℕ
sized code bytes = code ∷ to_be_bytes w32 (length bytes) ++ bytes

-- the null
abbrev pub null : List ℕ
null = 64 ∷ []

-- true and false
abbrev pub truth : Bool → List ℕ
truth true = 65 ∷ []
truth false = 66 ∷ []

-- an unsigned number of 4 bytes
abbrev pub uint : ℕ → List ℕ
uint n = 112 ∷ to_be_bytes w32 n

-- a signed number of 8 bytes
abbrev pub long : ℤ → List ℕ
long z = 129 ∷ to_be_bytes w64 (cast_unsigned w64 z)

-- a moment, in milliseconds since 1970
abbrev pub timestamp : ℕ → List ℕ
timestamp n = 131 ∷ to_be_bytes w64 n

-- bytes
abbrev pub binary : List ℕ → List ℕ
binary bytes = sized 176 bytes

-- a text
abbrev pub string : List ℕ → List ℕ
string bytes = sized 177 bytes

-- a symbol
abbrev pub symbol : List ℕ → List ℕ
symbol bytes = sized 179 bytes

-- a list or a map of so many items, whose bytes these are: the size counts the count
abbrev pub compound : ℕ → ℕ → List ℕ → List ℕ
compound code count items = code ∷ to_be_bytes w32 (4 + length items) ++ to_be_bytes w32 count ++ items

-- a list of so many items
abbrev pub list : ℕ → List ℕ → List ℕ
list count items = compound 208 count items

-- a map of so many keys and values together
abbrev pub map_of : ℕ → List ℕ → List ℕ
map_of count items = compound 209 count items

-- ---- sections

-- 00, the descriptor as a small number, and the value
abbrev pub section : ℕ → List ℕ → List ℕ
section code value = 0 ∷ 83 ∷ code ∷ value

-- the longest time to live, in s, whose milliseconds a header can say
abbrev pub max_header_ttl : ℕ
max_header_ttl = 4294967

-- the header: the time to live, where there is one and it can be written
abbrev pub header : Option ℕ → List ℕ
header None = []
header (Some ttl) = if nat_le ttl max_header_ttl then section header_code (list 3 (null ++ null ++ uint (ttl * 1000))) else []

-- the annotations: the moment from which on the message may be received, where there is one
abbrev pub annotations : Option ℕ → List ℕ
annotations None = []
annotations (Some moment) = section annotations_code (map_of 2 (symbol schedule_key ++ timestamp moment))

-- a system text as a value; null where there is none
abbrev pub text_value : SystemName → Option SystemText → List ℕ
text_value name None = null
text_value name (Some s) = if is_symbol name then symbol s.text else string s.text

-- the value of a field; null where it is none of the texts
abbrev pub field : List SystemText → Option SystemName → List ℕ
field sys None = null
field sys (Some name) = text_value name (find (λ s. system_code s.name == system_code name) sys)

-- so many fields, from this one on
abbrev pub fields : List SystemText → ℕ → ℕ → List (List ℕ)
fields sys number zero = []
fields sys number (suc left) = field sys (field_name number) ∷ fields sys (suc number) left

-- the last field that is set, or 0
abbrev pub last_field : List SystemText → ℕ
last_field [] = 0
last_field (s ∷ sys) = max (field_number s.name) (last_field sys)

-- the properties: all fields up to the last that is there
abbrev pub properties : List SystemText → List ℕ
properties sys = if last_field sys == 0 then [] else section properties_code (list (last_field sys) (joined (fields sys 1 (last_field sys))))

-- the value of a user property
abbrev pub property_value : PropertyValue → List ℕ
property_value (Int z) = long z
property_value (Text text) = string text
property_value (Truth b) = truth b

-- a user property's name and value
abbrev pub entry : Property → List (List ℕ)
entry p = string p.name ∷ property_value p.value ∷ []

-- the user properties, where there are any
abbrev pub application : List Property → List ℕ
application props = if length props == 0 then [] else section application_code (map_of (length props + length props) (joined (flat_map entry props)))

-- the body
abbrev pub data_section : List ℕ → List ℕ
data_section body = section data_code (binary body)

-- a message: header, annotations, properties, user properties and body
unfoldable pub written : Message → List ℕ
written m = header m.ttl ++ annotations m.schedule ++ properties m.sys ++ application m.props ++ data_section m.body
