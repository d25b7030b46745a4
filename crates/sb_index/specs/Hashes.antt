-- Texts as numbers, for keys.
use Rattle.std.specs.Prelude.{ℕ, List}
use Rattle.std.specs.Hash.DefaultHasher.{initial, write, finish}

-- what bytes come to under std's hasher, SipHash-1-3 with keys of zeros
abbrev pub hash : List ℕ → ℕ
hash bytes = finish (write initial bytes)
