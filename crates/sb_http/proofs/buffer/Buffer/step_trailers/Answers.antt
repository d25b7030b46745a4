use Rattle.std.proofs.Common.{ℕ, List, subst, Err}
use Rattle.std.proofs.lemmas.Result.{err_from_is_err_and}
use Rattle.sb_http.specs.Found.{TrailersAnswer}
use Rattle.sb_http.proofs.BufferParts.{trailers_refused}
use Rattle.sb_http.proofs.Compact.{is_next}
use Rattle.sb_http.proofs.buffer.Buffer.step_trailers.Goals as goal

pub returns-in_err-len : goal.returns-in_err-len
returns-in_err-len c =
    let i = c.args.self.now in
    let p = err_from_is_err_and c.from_residual.result c.from_residual.ensures.1 in
    rw (p.1, p.2) (is_next _ _ c.requires, trailers_refused _ _ _ _ (subst (λ (b : List ℕ). TrailersAnswer b (Err c.in_err-len.field-0.0)) c.rest_of.ensures c.in_err-len.ensures))
