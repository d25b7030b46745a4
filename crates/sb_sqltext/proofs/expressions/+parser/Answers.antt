use Rattle.std.proofs.Common.{arith}
use Rattle.sb_sqlgrammar.proofs.Tests.{exact_sign_at, exact_product_at, exact_negation_at, exact_conjunction_at}
use Rattle.sb_sqltext.proofs.Onward.{lower_or, lower_not, lower_sum, lower_sign, level_goes_on, listed_goes_on}
use Rattle.sb_sqltext.proofs.expressions.+parser.Goals as goal

pub nested_or-returns-clause-reads : goal.nested_or-returns-clause-reads
nested_or-returns-clause-reads t c = rw (lower_or c.args.depth c.args.tokens.now c.requires) c.disjunction.ensures.reads

pub nested_not-returns-clause-reads : goal.nested_not-returns-clause-reads
nested_not-returns-clause-reads t c = rw (lower_not c.args.depth c.args.tokens.now c.requires) c.negation.ensures.reads

pub nested_sum-returns-clause-reads : goal.nested_sum-returns-clause-reads
nested_sum-returns-clause-reads t c = rw (lower_sum c.args.depth c.args.tokens.now c.requires) c.sum.ensures.reads

pub nested_sign-returns-clause-reads : goal.nested_sign-returns-clause-reads
nested_sign-returns-clause-reads t c = rw (lower_sign c.args.depth c.args.tokens.now c.requires) c.sign.ensures.reads

pub product-operands-preserved : goal.product-operands-preserved
product-operands-preserved t c = record {
  so_far = level_goes_on 5 _ _ _ (exact_sign_at c.args.depth) _ _ _ _ _ _ _ _ c.in-Some.ensures.some c.in-Some.ensures.at_level c.in_ok-right.ensures.reads c.in_ok-left-2.ensures c.operands.invariant.so_far;
  shorter = omega (arith, c.in_ok-right.ensures.shorter, c.in-Some.ensures.shorter);
}

pub sum-operands-preserved : goal.sum-operands-preserved
sum-operands-preserved t c = record {
  so_far = level_goes_on 4 _ _ _ (exact_product_at c.args.depth) _ _ _ _ _ _ _ _ c.in-Some.ensures.some c.in-Some.ensures.at_level c.in_ok-right.ensures.reads c.in_ok-left-2.ensures c.operands.invariant.so_far;
  shorter = omega (arith, c.in_ok-right.ensures.shorter, c.in-Some.ensures.shorter);
}

pub conjunction-operands-preserved : goal.conjunction-operands-preserved
conjunction-operands-preserved t c = record {
  so_far = level_goes_on 2 _ _ _ (exact_negation_at c.args.depth) _ _ _ _ _ _ _ _ c.in-Some.ensures.some c.in-Some.ensures.at_level c.in_ok-right.ensures.reads c.in_ok-left-2.ensures c.operands.invariant.so_far;
  shorter = omega (arith, c.in_ok-right.ensures.shorter, c.in-Some.ensures.shorter);
}

pub disjunction-operands-preserved : goal.disjunction-operands-preserved
disjunction-operands-preserved t c = record {
  so_far = level_goes_on 1 _ _ _ (exact_conjunction_at c.args.depth) _ _ _ _ _ _ _ _ c.in-Some.ensures.some c.in-Some.ensures.at_level c.in_ok-right.ensures.reads c.in_ok-left-2.ensures c.operands.invariant.so_far;
  shorter = omega (arith, c.in_ok-right.ensures.shorter, c.in-Some.ensures.shorter);
}

pub listed-operands-preserved : goal.listed-operands-preserved
listed-operands-preserved t c = record {
  so_far = listed_goes_on c.args.depth _ _ _ _ _ _ _ c.in-Some.ensures.some c.in_ok-item-2.ensures.reads c.in_ok-items-2.ensures c.operands.invariant.so_far;
  shorter = omega (arith, c.in_ok-item-2.ensures.shorter, c.in-Some.ensures.shorter);
}
