use Rattle.std.proofs.Common.{◌≡◌, length, string_bytes}
use denote.Text.{Utf8}
use denote.Shadow.{shadow}
use Rattle.sb_model.specs.TokenBytes.{quoted, with_front}
use Rattle.sb_sqltokens.proofs.quotes.quoted.Given as goal

-- what was read so far and what is left give the whole
abbrev pub invariant-quotes : goal.invariant-quotes
invariant-quotes l = record {
  is_text : shadow (Utf8 l.rest);
  so_far : with_front (string_bytes l.front) (quoted l.quote l.rest) ≡ quoted l.quote l.text;
}

abbrev pub decreases-quotes : goal.decreases-quotes
decreases-quotes l = length l.rest
