-- Lock tokens as texts.
use Rattle.std.specs.Prelude.{ℕ, ◌^◌, ◌/◌, ◌%◌, ◌*◌, ◌+◌, List, Option, option_map}
use Rattle.std.specs.Int.{w128, from_be_bytes, to_be_bytes}
use Rattle.uuid.specs.Text.{parsed, hyphenated_text, lower}
use Rattle.sb_machine.specs.declared.call.Token.{Token}

-- the upper half is the salt, the lower half the lock's number
abbrev pub token_from : List ℕ → Token
token_from bytes = record { salt = from_be_bytes w128 bytes / 2 ^ 64; lock = from_be_bytes w128 bytes % 2 ^ 64 }

-- any form of a UUID
abbrev pub token_in : List ℕ → Option Token
token_in text = option_map token_from (parsed text)

-- small letters, with hyphens
unfoldable pub token_text : Token → List ℕ
token_text t = hyphenated_text lower (to_be_bytes w128 (t.salt * 2 ^ 64 + t.lock))
