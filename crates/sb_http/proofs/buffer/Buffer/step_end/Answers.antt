use Rattle.std.proofs.Common.{ℕ, List, subst, arith, Err}
use Rattle.std.proofs.lemmas.Result.{err_from_is_err_and}
use Rattle.sb_http.specs.Found.{EndAnswers}
use Rattle.sb_http.proofs.BufferParts.{end_refused, ended, fewer}
use Rattle.sb_http.proofs.Compact.{is_next}
use Rattle.sb_http.proofs.buffer.Buffer.step_end.Goals as goal

pub returns-in_err-read_end : goal.returns-in_err-read_end
returns-in_err-read_end c =
    let i = c.args.self.now in
    let p = err_from_is_err_and c.from_residual.result c.from_residual.ensures.1 in
    rw (p.1, p.2) (is_next _ _ c.requires.next, end_refused _ _ _ i.to_come _ c.requires.none (subst (λ (b : List ℕ). EndAnswers b (Err c.in_err-read_end.field-0.0)) c.rest_of.ensures c.in_err-read_end.ensures))

pub returns-then-branch : goal.returns-then-branch
returns-then-branch c =
    let i = c.args.self.now in
    let x = rw (c.if-branch.true, c.rest_of.ensures) at c.in_ok-read_end.ensures in
    (ended i.bytes.items _ _ i.raw i.to_come c.requires.none x.1, fewer i.bytes.items i.raw 2 (omega arith) x.0)
