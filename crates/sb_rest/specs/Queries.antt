-- What stands in a query (application/x-www-form-urlencoded, URL Standard).
use Rattle.std.specs.Prelude.{ℕ, List, Bool, bytes_eq, find, Option, option_map}
use Rattle.std.specs.Str.Lossy.{utf8_lossy}
use Rattle.form_urlencoded.specs.Form.{raw_pairs, decode}

-- what an encoded name or value stands for
abbrev pub decoded : List ℕ → List ℕ
decoded bytes = utf8_lossy (decode bytes)

-- whether a pair of the query has this name
abbrev pub is_named : List ℕ → List ℕ × List ℕ → Bool
is_named name pair = bytes_eq (decoded pair.0) name

-- of several pairs of a name the first counts
abbrev pub value_among : List ℕ → List (List ℕ × List ℕ) → Option (List ℕ)
value_among name pairs = option_map (λ pair. pair.1) (find (is_named name) pairs)

-- the encoded value of a name
abbrev pub value_of : List ℕ → List ℕ → Option (List ℕ)
value_of name query = value_among name (raw_pairs query)
