-- The request that asks a server for what one script line asks for.
use Rattle.std.specs.Prelude.{ℕ, List, [], ◌∷◌, ◌++◌, length, codes}
use Rattle.std.specs.Fmt.{decimal}
use Rattle.httparse.specs.Ascii.{crlf_bytes}

-- the field that shows a key; there is none without one
abbrev pub key_field : List ℕ → List ℕ
key_field [] = []
key_field (b ∷ bs) = codes "Authorization: Bearer " ++ (b ∷ bs) ++ crlf_bytes

-- the line is the body, and the key is shown
unfoldable pub request_of : (key line : List ℕ) → List ℕ
request_of key line =
    codes "POST /$script HTTP/1.1" ++ crlf_bytes
    ++ codes "Host: localhost" ++ crlf_bytes
    ++ codes "Content-Length: " ++ decimal (length line) ++ crlf_bytes
    ++ codes "Connection: close" ++ crlf_bytes
    ++ key_field key
    ++ crlf_bytes
    ++ line
