use Rattle.std.proofs.Common.{◌≡◌, ℕ, [], take, ap, ◌∙◌, arith}
use Rattle.sb_http.specs.Stages.{Left, and_more}
use Rattle.sb_http.specs.Streams.{Pending}
use Rattle.sb_http.specs.Buffers.{left_of}
use Rattle.sb_http.proofs.Answering.{put_again}
use Rattle.sb_http.proofs.incoming.Incoming.put_unrefused.Goals as goal

pub returns-clause-taken : goal.returns-clause-taken
returns-clause-taken c =
    let piece = c.args.piece.now in
    let old : Left = c.args.self.now.left in
    let same : left_of c.self.inside.buffer ≡ old = ap (λ (p : Pending). p.left) c.self.view_is in
    let none : c.put-taken.result ≡ 0 = omega arith in
    let mid : left_of c.put-taken.new.self ≡ and_more old [] = c.put-taken.ensures.taken ∙ ap (λ (l : Left). and_more l (take c.put-taken.result piece)) same ∙ ap (λ (k : ℕ). and_more old (take k piece)) none in
    put_again old _ piece c.put_in_full.result c.put_in_full.new.self.left mid c.put_in_full.ensures.taken
