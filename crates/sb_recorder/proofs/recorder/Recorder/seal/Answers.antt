use Rattle.std.proofs.Common.{◌≡◌, Some, is_some, sym, ◌∙◌, ap, arith}
use Rattle.sb_journal.specs.Text.{next_file}
use Rattle.sb_recorder.proofs.Beside.{left_beside, left_either, turned_on, whole_part}
use Rattle.sb_recorder.proofs.recorder.Recorder.seal.Goals as goal

pub returns-in_default-clause-any_moment : goal.returns-in_default-clause-any_moment
returns-in_default-clause-any_moment g c begun text file on has whole held =
    left_beside file (next_file file begun.first text) begun.journal c.write_gathered.new.self.journal ((c.write_gathered.ensures.stays begun on).beside.counts file held)

pub returns-clause-turned : goal.returns-clause-turned
returns-clause-turned g c begun text file on has whole held =
    let r = c.write_gathered.new.self in
    let next = c.in-Some.next in
    let here : r.next ≡ Some next = sym c.take.ensures.value ∙ c.in-Some.is in
    let all = whole_part begun r.journal r.next next r.left r.buffer.items text here (c.in-Ok.ensures.empty (ap is_some here)) (c.in-Ok.ensures.has begun text has (omega (arith, whole))) in
    turned_on begun.journal r.journal c.seal_base.new.self next file begun.first text all.0 ((c.write_gathered.ensures.stays begun on).beside.counts file held) (r.running (ap is_some here)) (all.1 file held)
    c.seal_base.result (c.seal_base.ensures.ok file text (all.1 file held)) c.seal_base.ensures.side

pub returns-clause-any_moment : goal.returns-clause-any_moment
returns-clause-any_moment g c begun text file on has whole held =
    let r = c.write_gathered.new.self in
    let next = c.in-Some.next in
    let here : r.next ≡ Some next = sym c.take.ensures.value ∙ c.in-Some.is in
    let all = whole_part begun r.journal r.next next r.left r.buffer.items text here (c.in-Ok.ensures.empty (ap is_some here)) (c.in-Ok.ensures.has begun text has (omega (arith, whole))) in
    left_either begun.journal r.journal c.seal_base.new.self next file begun.first text all.0 ((c.write_gathered.ensures.stays begun on).beside.counts file held) (r.running (ap is_some here)) (all.1 file held)
    (c.seal_base.ensures.any_moment file text (all.1 file held))
