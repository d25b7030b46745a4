use Rattle.std.proofs.Common.{◌≡◌, ◌++◌, ◌≤◌, length, map}
use denote.Text.{Utf8}
use denote.Shadow.{shadow}
use Rattle.sb_model.specs.Tokens.{tokens_of, tokens_left}
use Rattle.sb_sqltokens.proofs.tokens.tokens_of.Given as goal

-- what was read so far and what is left give the whole
abbrev pub invariant-tokens : goal.invariant-tokens
invariant-tokens l = record {
  is_text : shadow (Utf8 l.left);
  within : length l.left ≤ length l.text;
  kinds_so_far : l.kinds.items ++ map (λ x. x.0) (tokens_left (length l.text) l.left) ≡ map (λ x. x.0) (tokens_of l.text);
  ends_so_far : l.ends.items ++ map (λ x. x.1) (tokens_left (length l.text) l.left) ≡ map (λ x. x.1) (tokens_of l.text);
}

abbrev pub decreases-tokens : goal.decreases-tokens
decreases-tokens l = length l.left
