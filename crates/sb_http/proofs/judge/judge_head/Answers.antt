use Rattle.std.proofs.lemmas.Result.{err_from_is_err_and}
use Rattle.sb_http.specs.Found.{IsHeadAt}
use Rattle.sb_http.proofs.Judging.{head_refused, is_refused, is_too_large}
use Rattle.sb_http.proofs.judge.judge_head.Goals as goal

pub returns-in_err-head : goal.returns-in_err-head
returns-in_err-head c = let p = err_from_is_err_and c.from_residual.result c.from_residual.ensures.1 in rw (p.1, p.2) (head_refused c.args.bytes.now c.read_head.new.spans _ c.in_err-head.ensures)

pub returns-then-size : goal.returns-then-size
returns-then-size c =
    let x : IsHeadAt c.args.bytes.now c.read_head.new.spans c.in-Some.head = rw c.in-Some.is at c.in_ok-head.ensures in
    is_too_large _ _ _ x _ c.framing_of.ensures c.in-Sized.size c.in-Sized.is c.if-size.true

pub returns-in-Refused : goal.returns-in-Refused
returns-in-Refused c =
    let x : IsHeadAt c.args.bytes.now c.read_head.new.spans c.in-Some.head = rw c.in-Some.is at c.in_ok-head.ensures in
    is_refused _ _ _ x _ c.framing_of.ensures c.in-Refused.is
