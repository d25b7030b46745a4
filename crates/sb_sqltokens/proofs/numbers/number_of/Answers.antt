use Rattle.sb_sqltokens.proofs.Digits.{too_great}
use Rattle.sb_sqltokens.proofs.numbers.number_of.Goals as goal

pub returns-then-value-digit : goal.returns-then-value-digit
returns-then-value-digit c = too_great c.digits.value c.in-Some.first c.in-Some.behind.now c.digits.rest.now c.args.digits.now c.in-Some.ensures.some c.digits.invariant.so_far (rw c.saturating_sub-digit.ensures at c.if-value-digit.true)
