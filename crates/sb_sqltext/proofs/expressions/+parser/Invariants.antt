use Rattle.std.proofs.Common.{◌≡◌, ◌≤◌, length, ◌+◌, ◌*◌}
use Rattle.std.specs.Prelude.{nat_lt}
use Rattle.sb_model.specs.Expressions.{term_of, terms_of}
use Rattle.sb_model.specs.Reading as reading
use Rattle.sb_sqltext.proofs.expressions.+parser.Given as goal

-- how deep it may still go, and then how tight the part is
abbrev pub decreases-nested_or : goal.decreases-nested_or
decreases-nested_or l = 16 * l.depth

abbrev pub decreases-nested_not : goal.decreases-nested_not
decreases-nested_not l = 16 * l.depth

abbrev pub decreases-nested_sum : goal.decreases-nested_sum
decreases-nested_sum l = 16 * l.depth

abbrev pub decreases-nested_sign : goal.decreases-nested_sign
decreases-nested_sign l = 16 * l.depth

abbrev pub decreases-basic : goal.decreases-basic
decreases-basic l = 16 * l.depth + 1

abbrev pub decreases-signed : goal.decreases-signed
decreases-signed l = 16 * l.depth + 1

abbrev pub decreases-sign : goal.decreases-sign
decreases-sign l = 16 * l.depth + 2

abbrev pub decreases-product : goal.decreases-product
decreases-product l = 16 * l.depth + 3

abbrev pub decreases-sum : goal.decreases-sum
decreases-sum l = 16 * l.depth + 4

abbrev pub decreases-listed : goal.decreases-listed
decreases-listed l = 16 * l.depth + 1

abbrev pub decreases-in_list : goal.decreases-in_list
decreases-in_list l = 16 * l.depth + 2

abbrev pub decreases-pattern : goal.decreases-pattern
decreases-pattern l = 16 * l.depth + 5

abbrev pub decreases-denied : goal.decreases-denied
decreases-denied l = 16 * l.depth + 6

abbrev pub decreases-condition : goal.decreases-condition
decreases-condition l = 16 * l.depth + 7

abbrev pub decreases-negation : goal.decreases-negation
decreases-negation l = 16 * l.depth + 8

abbrev pub decreases-conjunction : goal.decreases-conjunction
decreases-conjunction l = 16 * l.depth + 9

abbrev pub decreases-disjunction : goal.decreases-disjunction
decreases-disjunction l = 16 * l.depth + 10

-- what was read so far and what is left give the whole
abbrev pub invariant-product-operands : goal.invariant-product-operands
invariant-product-operands l = record {
  so_far : reading.level_from 5 (reading.sign (nat_lt 0 l.depth) (reading.lower l.depth)) (term_of l.left) l.rest ≡ reading.product (nat_lt 0 l.depth) (reading.lower l.depth) l.tokens;
  shorter : length l.rest ≤ length l.tokens;
}

abbrev pub decreases-product-operands : goal.decreases-product-operands
decreases-product-operands l = length l.rest

abbrev pub invariant-sum-operands : goal.invariant-sum-operands
invariant-sum-operands l = record {
  so_far : reading.level_from 4 (reading.product (nat_lt 0 l.depth) (reading.lower l.depth)) (term_of l.left) l.rest ≡ reading.sum (nat_lt 0 l.depth) (reading.lower l.depth) l.tokens;
  shorter : length l.rest ≤ length l.tokens;
}

abbrev pub decreases-sum-operands : goal.decreases-sum-operands
decreases-sum-operands l = length l.rest

abbrev pub invariant-conjunction-operands : goal.invariant-conjunction-operands
invariant-conjunction-operands l = record {
  so_far : reading.level_from 2 (reading.negation (nat_lt 0 l.depth) (reading.lower l.depth)) (term_of l.left) l.rest ≡ reading.conjunction (nat_lt 0 l.depth) (reading.lower l.depth) l.tokens;
  shorter : length l.rest ≤ length l.tokens;
}

abbrev pub decreases-conjunction-operands : goal.decreases-conjunction-operands
decreases-conjunction-operands l = length l.rest

abbrev pub invariant-disjunction-operands : goal.invariant-disjunction-operands
invariant-disjunction-operands l = record {
  so_far : reading.level_from 1 (reading.conjunction (nat_lt 0 l.depth) (reading.lower l.depth)) (term_of l.left) l.rest ≡ reading.disjunction (nat_lt 0 l.depth) (reading.lower l.depth) l.tokens;
  shorter : length l.rest ≤ length l.tokens;
}

abbrev pub decreases-disjunction-operands : goal.decreases-disjunction-operands
decreases-disjunction-operands l = length l.rest

abbrev pub invariant-listed-operands : goal.invariant-listed-operands
invariant-listed-operands l = record {
  so_far : reading.listed_from (reading.lower l.depth) (terms_of l.items) l.rest ≡ reading.listed (reading.lower l.depth) l.tokens;
  shorter : length l.rest ≤ length l.tokens;
}

abbrev pub decreases-listed-operands : goal.decreases-listed-operands
decreases-listed-operands l = length l.rest
