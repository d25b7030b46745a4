-- What a writer of tokens leaves of a JSON value.
use Rattle.std.proofs.Common.{◌≡◌, ℕ, ℤ, List, Some, None, decimal, ap, ◌∙◌}
use Rattle.std.specs.Fmt.{signed_decimal}
use Rattle.json.specs.Print.{print}
use Rattle.json.specs.Token.{Token}
use Rattle.json.specs.Tree.{json_tokens}
use Rattle.serde_json.specs.Data.{Data, Num, unsigned, negative, float}
use Rattle.serde_json.specs.Find.{as_u64, as_i64}
use Rattle.serde_json.specs.Written.{compact_text, number_text, outline}
use Rattle.serde_json.proofs.Texts.{print-outline}

pub whole_text : (d : Data) (ts : List Token) → ts ≡ json_tokens (outline d) → print ts ≡ compact_text d
whole_text d ts is = ap print is ∙ print-outline d

pub natural_text : (n : Num) (k : ℕ) → Some k ≡ as_u64 n → decimal k ≡ number_text n
natural_text (unsigned n) k e = let same : k ≡ n = cc in ap decimal same
natural_text (negative z) k e = absurd cc
natural_text (float x) k e = absurd cc

pub whole_number_text : (n : Num) (z : ℤ) → None ≡ as_u64 n → Some z ≡ as_i64 n → signed_decimal z ≡ number_text n
whole_number_text (unsigned n) z none e = absurd cc
whole_number_text (negative y) z none e = let same : z ≡ y = cc in ap signed_decimal same
whole_number_text (float x) z none e = absurd cc

pub ruleset printed = (whole_text)

pub ruleset digits = (natural_text, whole_number_text)
