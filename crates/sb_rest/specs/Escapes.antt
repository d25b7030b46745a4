-- JSON without a character beyond ASCII (RFC 8259, section 7): what stands in a header is read alike by
-- every client, whatever it takes the bytes of a header for (RFC 9110, 5.5).
use Rattle.std.specs.Prelude.{ℕ, nat_le, List, [], ◌∷◌, ◌++◌, codes, if◌then◌else◌}
use Rattle.std.specs.Char.Escape.{hex_digit_at, encode_utf16}
use Rattle.std.specs.List.{flat_map}
use Rattle.std.specs.Str.{chars}

-- the escape of a 16-bit unit: four hexadecimal digits
abbrev pub unit_escape : ℕ → List ℕ
unit_escape u = codes "\\u" ++ hex_digit_at 4096 u ∷ hex_digit_at 256 u ∷ hex_digit_at 16 u ∷ hex_digit_at 1 u ∷ []

-- a character above U+007E as the escapes of its one or two units of UTF-16, any other as it is
unfoldable pub escaped : ℕ → List ℕ
escaped c = if nat_le c 126 then c ∷ [] else flat_map unit_escape (encode_utf16 c)

-- a text of JSON with the characters of its strings so: outside of strings none is above U+007E
unfoldable pub ascii_json : List ℕ → List ℕ
ascii_json text = flat_map escaped (chars text)
