use Rattle.std.proofs.Common.{sym, arith}
use Rattle.std.proofs.lemmas.Result.{err_from_is_err_and}
use Rattle.sb_amqp.proofs.Left.{item_on, item_ends, items_done}
use Rattle.sb_amqp.proofs.items.say_items.Goals as goal

pub returns-in_err-draft : goal.returns-in_err-draft
returns-in_err-draft c vs are text =
    let p = err_from_is_err_and c.from_residual.result c.from_residual.ensures.1 in
    rw (p.1, p.2) (item_ends c.args.code c.loop-value.index c.loop-value.before.now c.loop-value.draft c.loop-value.rest.now _ _ c.in-Some.value.now c.in-Some.after.now c.in_err-draft.field-0.0
    (c.loop-value.invariant.says vs are text) (sym c.in-Some.ensures.value) c.in_err-draft.ensures)

pub loop-value-preserved : goal.loop-value-preserved
loop-value-preserved c = record {
  within = omega (arith, c.loop-value.invariant.within, c.in-Some.ensures.shorter);
  says = λ vs are text. item_on c.args.code c.loop-value.index c.loop-value.before.now c.loop-value.draft c.loop-value.rest.now _ _ c.in-Some.value.now c.in-Some.after.now c.in_ok-draft.draft
      (c.loop-value.invariant.says vs are text) (sym c.in-Some.ensures.value) c.in_ok-draft.ensures;
}

pub returns : goal.returns
returns c vs are text = items_done c.args.code c.loop-value.index c.loop-value.before.now c.loop-value.draft c.loop-value.rest.now _ _ (c.loop-value.invariant.says vs are text) (sym c.in_default.ensures.value)
