use Rattle.std.proofs.Common.{◌≡◌, ℕ, ◌-◌, ◌+◌, ◌≤◌, length, sym, drop, subst, List, arith, Err}
use Rattle.std.specs.Prelude.{slice_range}
use Rattle.std.proofs.lemmas.Result.{err_from_is_err_and}
use Rattle.sb_http.specs.Found.{JudgesLine, IsLineAt}
use Rattle.sb_http.specs.Bodies.{max_body}
use Rattle.sb_http.proofs.BufferParts.{length_part, line_refused, last_line, chunk_line, fewer}
use Rattle.sb_http.proofs.Compact.{is_next}
use Rattle.sb_http.proofs.buffer.Buffer.step_line.Goals as goal

pub returns-in_err-judge_line : goal.returns-in_err-judge_line
returns-in_err-judge_line c =
    let i = c.args.self.now in
    let same : i.done - i.body ≡ length (slice_range i.bytes.items i.body i.done) = sym (length_part i.bytes.items i.body i.done i.decoded (omega arith)) in
    let p = err_from_is_err_and c.from_residual.result c.from_residual.ensures.1 in
    rw (p.1, p.2) (is_next _ _ c.requires, line_refused _ _ _ (i.done - i.body) _ same (subst (λ (b : List ℕ). JudgesLine (i.done - i.body) b (Err c.in_err-judge_line.field-0.0)) c.rest_of.ensures c.in_err-judge_line.ensures))

pub returns-in-Last : goal.returns-in-Last
returns-in-Last c =
    let i = c.args.self.now in
    let x : IsLineAt (drop i.raw i.bytes.items) c.in-Last.len 0 = rw (c.in-Last.is, c.rest_of.ensures) at c.in_ok-judge_line.ensures in
    (last_line i.bytes.items i.raw c.in-Last.len _ _ x, fewer i.bytes.items i.raw c.in-Last.len x.some x.within)

pub returns-in-Chunk : goal.returns-in-Chunk
returns-in-Chunk c =
    let i = c.args.self.now in
    let x = rw (c.in-Chunk.is, c.rest_of.ensures) at c.in_ok-judge_line.ensures in
    let fits : length (slice_range i.bytes.items i.body i.done) + c.in-Chunk.size ≤ max_body = omega (arith, x.2, length_part i.bytes.items i.body i.done i.decoded (omega arith)) in
    (chunk_line i.bytes.items i.raw c.in-Chunk.len _ _ c.in-Chunk.size x.0 x.1 fits, fewer i.bytes.items i.raw c.in-Chunk.len x.0.some x.0.within)
