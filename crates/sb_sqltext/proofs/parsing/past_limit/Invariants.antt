use Rattle.std.proofs.Common.{◌≡◌, ◌+◌, length}
use Rattle.sb_model.specs.Texts as texts
use Rattle.sb_sqltext.proofs.parsing.past_limit.Given as goal

-- what is left gives the place, counted on from here
abbrev pub invariant-bytes : goal.invariant-bytes
invariant-bytes l = record {
  so_far : texts.further l.place (texts.place_of_character l.before l.rest) ≡ texts.past_limit l.text;
  within : l.place + length l.rest ≡ length l.text;
}

abbrev pub decreases-bytes : goal.decreases-bytes
decreases-bytes l = length l.rest
