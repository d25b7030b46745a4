use Rattle.std.proofs.Common.{◌∙◌}
use Rattle.sb_http.specs.Found.{IsHeadAt}
use Rattle.sb_http.proofs.Judging.{no_text, other_length, other_framing}
use Rattle.sb_http.proofs.judge.reread.Goals as goal

pub returns-then-head-text : goal.returns-then-head-text
returns-then-head-text c =
    let x : IsHeadAt c.args.text.now c.read_head.new.spans c.in-Ok-Some.head = rw c.in-Ok-Some.field-0-is at c.in-Ok-Some.ensures in
    other_length _ _ _ _ x c.if-head-text.true

pub returns-else-is_same : goal.returns-else-is_same
returns-else-is_same c =
    let x : IsHeadAt c.args.text.now c.read_head.new.spans c.in-Ok-Some.head = rw c.in-Ok-Some.field-0-is at c.in-Ok-Some.ensures in
    other_framing _ _ _ _ x c.if-head-text.false (λ e. c.is_same.ensures.other c.if-is_same.false (c.framing_of.ensures ∙ e))

pub returns-in-Err : goal.returns-in-Err
returns-in-Err c = no_text _ _ c.read_head.new.spans _ c.in-Err.ensures
