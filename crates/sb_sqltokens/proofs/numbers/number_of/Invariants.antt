use Rattle.std.proofs.Common.{◌≡◌, ◌<◌, ◌^◌, length}
use Rattle.sb_model.specs.TokenBytes.{digits_value}
use Rattle.sb_sqltokens.proofs.numbers.number_of.Given as goal

-- what was read so far and what is left give the whole
abbrev pub invariant-digits : goal.invariant-digits
invariant-digits l = record {
  so_far : digits_value l.value l.rest ≡ digits_value 0 l.digits;
  fits : l.value < 2 ^ 63;
}

abbrev pub decreases-digits : goal.decreases-digits
decreases-digits l = length l.rest
