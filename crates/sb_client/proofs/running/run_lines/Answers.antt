use Rattle.std.proofs.Common.{Option, Err, refl, arith, ◌∙◌, ap, subst}
use Rattle.sb_input.specs.declared.partial_line.PartialLine.{PartialLine}
use Rattle.sb_input.specs.Readers.{Reads, pending_of}
use Rattle.sb_input.proofs.Errors.{passed_on}
use Rattle.sb_client.specs.Outside.{outside_of}
use Rattle.sb_client.specs.Runs.{IsCutRun}
use Rattle.sb_client.specs.declared.ending.ClientEnding.{ClientEnding}
use Rattle.sb_client.proofs.Advances.{runs_on, nothing_yet, still_runs, is_over, ended_run, cut_at_once, cut_between, cut_at_line}
use Rattle.sb_client.proofs.running.run_lines.Goals as goal

pub lines-init : goal.lines-init
lines-init g c = record {
  so_far = nothing_yet (outside_of c.args.key.now g.N.Link g.S.Source g.K.Sink c.args.link.now c.args.source.now c.args.sink.now) c.in-Ok.reader c.in-Ok.ensures;
  fits = omega (arith, c.in-Ok.ensures.3);
  read_same = refl;
  link_same = refl;
  write_same = refl;
}

pub lines-preserved : goal.lines-preserved
lines-preserved g c =
    let so_far = c.lines.invariant.so_far in
    let was = outside_of c.args.key.now g.N.Link g.S.Source g.K.Sink c.args.link.now c.args.source.now c.args.sink.now in
    let left = g.S.Source.left c.next_line.new.source in
    let reads = subst (λ (o : Option PartialLine). Reads o was.left so_far.input (pending_of c.lines.reader) left c.next_line.new.self) c.in-Ok-Some.field-0-is (c.in-Ok-Some.ensures.reads was.left so_far.input so_far.at) in
    let run = runs_on was _ left _ (g.N.Link.told c.answer_line.new.link) _ (g.K.Sink.given c.answer_line.new.sink) c.lines.reader c.next_line.new.self c.lines.refused c.in_ok-was_refused.was_refused c.either-refused.result c.in-Ok-Some.partial so_far reads (c.in_ok-was_refused.ensures.done reads.line reads.stands) c.either-refused.ensures in
    record {
      so_far = still_runs was _ _ _ c.next_line.new.self _ c.is_done.result run c.if-is_done.false c.is_done.ensures.no;
      fits = c.in-Ok-Some.ensures.fits;
      read_same = c.in-Ok-Some.ensures.passed ∙ c.lines.invariant.read_same;
      link_same = c.in_ok-was_refused.ensures.link_passed ∙ c.lines.invariant.link_same;
      write_same = c.in_ok-was_refused.ensures.sink_passed ∙ c.lines.invariant.write_same;
    }

pub returns-then-is_done-clause-done : goal.returns-then-is_done-clause-done
returns-then-is_done-clause-done g c =
    let so_far = c.lines.invariant.so_far in
    let was = outside_of c.args.key.now g.N.Link g.S.Source g.K.Sink c.args.link.now c.args.source.now c.args.sink.now in
    let now = outside_of c.args.key.now g.N.Link g.S.Source g.K.Sink c.answer_line.new.link c.next_line.new.source c.answer_line.new.sink in
    let reads = subst (λ (o : Option PartialLine). Reads o was.left so_far.input (pending_of c.lines.reader) now.left c.next_line.new.self) c.in-Ok-Some.field-0-is (c.in-Ok-Some.ensures.reads was.left so_far.input so_far.at) in
    let run = runs_on was _ now.left _ now.told _ now.given c.lines.reader c.next_line.new.self c.lines.refused c.in_ok-was_refused.was_refused c.either-refused.result c.in-Ok-Some.partial so_far reads (c.in_ok-was_refused.ensures.done reads.line reads.stands) c.either-refused.ensures in
    let over = c.is_done.ensures.yes c.if-is_done.true in
    is_over was now c.next_line.new.self _ run over.0 over.1

pub returns-in-Ok-None-clause-done : goal.returns-in-Ok-None-clause-done
returns-in-Ok-None-clause-done g c =
    let so_far = c.lines.invariant.so_far in
    let was = outside_of c.args.key.now g.N.Link g.S.Source g.K.Sink c.args.link.now c.args.source.now c.args.sink.now in
    let now = outside_of c.args.key.now g.N.Link g.S.Source g.K.Sink c.lines.link c.next_line.new.source c.lines.sink in
    let reads = subst (λ (o : Option PartialLine). Reads o was.left so_far.input (pending_of c.lines.reader) now.left c.next_line.new.self) c.in-Ok-None.field-0-is (c.in-Ok-None.ensures.reads was.left so_far.input so_far.at) in
    ended_run was now (g.S.Source.left c.lines.source) c.lines.reader c.next_line.new.self c.lines.refused so_far reads

pub returns-in_default-clause-cut : goal.returns-in_default-clause-cut
returns-in_default-clause-cut g c = cut_at_once (outside_of c.args.key.now g.N.Link g.S.Source g.K.Sink c.args.link.now c.args.source.now c.args.sink.now)

pub returns-in-Err-clause-cut : goal.returns-in-Err-clause-cut
returns-in-Err-clause-cut g c =
    let so_far = c.lines.invariant.so_far in
    let was = outside_of c.args.key.now g.N.Link g.S.Source g.K.Sink c.args.link.now c.args.source.now c.args.sink.now in
    let now = outside_of c.args.key.now g.N.Link g.S.Source g.K.Sink c.lines.link c.next_line.new.source c.lines.sink in
    cut_between was now (g.S.Source.left c.lines.source) c.lines.reader c.lines.refused c.in-Err.end c.end_of.result c.end_of.ensures so_far (c.in-Err.ensures.ahead was.left so_far.input so_far.at) (λ is. c.in-Err.ensures.long was.left so_far.input so_far.at (ap Err is))

pub returns-in_err-was_refused-clause-cut : goal.returns-in_err-was_refused-clause-cut
returns-in_err-was_refused-clause-cut g c =
    let so_far = c.lines.invariant.so_far in
    let was = outside_of c.args.key.now g.N.Link g.S.Source g.K.Sink c.args.link.now c.args.source.now c.args.sink.now in
    let now = outside_of c.args.key.now g.N.Link g.S.Source g.K.Sink c.answer_line.new.link c.next_line.new.source c.answer_line.new.sink in
    let reads = subst (λ (o : Option PartialLine). Reads o was.left so_far.input (pending_of c.lines.reader) now.left c.next_line.new.self) c.in-Ok-Some.field-0-is (c.in-Ok-Some.ensures.reads was.left so_far.input so_far.at) in
    passed_on (λ (e : ClientEnding). IsCutRun was now e) c.in_err-was_refused.field-0.0 c.from_residual.result c.from_residual.ensures
    (cut_at_line was now (g.S.Source.left c.lines.source) (g.N.Link.told c.lines.link) (g.K.Sink.given c.lines.sink) c.lines.reader c.next_line.new.self c.lines.refused c.in_err-was_refused.field-0.0 c.in-Ok-Some.partial so_far reads (c.in_err-was_refused.ensures.cut reads.line reads.stands))
