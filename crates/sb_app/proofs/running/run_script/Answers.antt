use Rattle.std.proofs.Common.{◌≡◌, ◌≢◌, [], ◌++◌, Option, Err, refl, arith, sym, ◌∙◌, ap, subst}
use Rattle.sb_journal.specs.Disks.{AreQuiet, HaveFailed}
use Rattle.sb_node.specs.Nodes.{node_state, node_disks, IsKept}
use Rattle.sb_app.specs.Outside.{output_of}
use Rattle.sb_app.specs.Nodes.{outside_with}
use Rattle.sb_input.specs.declared.partial_line.PartialLine.{PartialLine}
use Rattle.sb_app.specs.declared.ending.RunEnd.{RunEnd}
use Rattle.sb_app.specs.declared.ending.RunEnd.TheVariants.{DiskFault, OutOfMemory}
use Rattle.sb_app.specs.Jumps.{AllWithin}
use Rattle.sb_app.specs.Lines.{script_lines}
use Rattle.sb_app.specs.Taking.{IsTaken, end_of_reading}
use Rattle.sb_input.specs.Readers.{Reads, pending_of}
use Rattle.sb_app.specs.Endings.{IsBetween, IsCutRun}
use Rattle.sb_input.proofs.Errors.{passed_on, passes_on, same_error}
use Rattle.sb_app.proofs.Faults.{quiet_on, failed_on, honest_on}
use Rattle.sb_input.proofs.Readings.{line_ahead}
use Rattle.sb_app.proofs.Follows.{followed_more, followed_says}
use Rattle.sb_app.proofs.Advances.{runs_on, ended_run, nothing_yet, still_runs, is_over, within_push}
use Rattle.sb_app.proofs.Cuts.{taken_behind, cut_at_once, cut_between, cut_at_line, cut_before, reading_between, reading_no_jump, reading_long, reading_ahead}
use Rattle.sb_app.proofs.running.run_script.Goals as goal

pub returns-then-is_done-clause-done : goal.returns-then-is_done-clause-done
returns-then-is_done-clause-done g c =
    let so_far = c.lines.invariant.so_far in
    let start = g.S.Source.left c.args.input.now in
    let left = g.S.Source.left c.next_line.new.source in
    let was = outside_with g.S.Source g.K.Sink c.args.node.now c.args.input.now c.args.output.now in
    let now = outside_with g.S.Source g.K.Sink c.dispatch_line.new.node c.next_line.new.source c.dispatch_line.new.output in
    let reads = subst (λ (o : Option PartialLine). Reads o start so_far.input (pending_of c.lines.reader) left c.next_line.new.self) c.in-Ok-Some.field-0-is (c.in-Ok-Some.ensures.reads start so_far.input so_far.at) in
    let run = runs_on _ (node_state c.lines.node) (node_state c.dispatch_line.new.node) start _ left _ (output_of g.K.Sink c.lines.output) (output_of g.K.Sink c.dispatch_line.new.output) c.lines.reader c.next_line.new.self c.lines.refused c.in_ok-was_refused.was_refused c.either-refused.result c.in-Ok-Some.partial c.in-Ok-parse_line.line so_far reads (c.in-Ok-parse_line.ensures.says reads.line reads.stands) c.in_ok-was_refused.ensures.done c.either-refused.ensures in
    let over = c.is_done.ensures.yes c.if-is_done.true in
    is_over (g.C.Clock.reads c.args.clock.now) c.args.max_jump (IsKept c.args.node.now) _ (node_state c.args.node.now) (node_state c.dispatch_line.new.node) was now c.next_line.new.self _ run over.0 over.1
    (λ safe. followed_more (node_state c.args.node.now) (node_state c.lines.node) (script_lines so_far.done) c.in-Ok-parse_line.line (node_disks c.args.node.now) (node_disks c.lines.node) (node_disks c.dispatch_line.new.node) so_far.leads (c.lines.invariant.moments safe) (c.in_ok-was_refused.ensures.any_moment (c.lines.invariant.safe safe)))
    (within_push (g.C.Clock.reads c.args.clock.now) c.args.max_jump (script_lines so_far.done) c.in-Ok-parse_line.line c.lines.invariant.within c.in-Ok-hold_line.ensures.ok)

pub returns-then-is_done-clause-kept : goal.returns-then-is_done-clause-kept
returns-then-is_done-clause-kept g c safe sound = c.in_ok-was_refused.ensures.kept (c.lines.invariant.safe safe) (λ e. absurd cc)

pub returns-in-Ok-None-clause-done : goal.returns-in-Ok-None-clause-done
returns-in-Ok-None-clause-done g c =
    let so_far = c.lines.invariant.so_far in
    let start = g.S.Source.left c.args.input.now in
    let left = g.S.Source.left c.next_line.new.source in
    let was = outside_with g.S.Source g.K.Sink c.args.node.now c.args.input.now c.args.output.now in
    let now = outside_with g.S.Source g.K.Sink c.lines.node c.next_line.new.source c.lines.output in
    let reads = subst (λ (o : Option PartialLine). Reads o start so_far.input (pending_of c.lines.reader) left c.next_line.new.self) c.in-Ok-None.field-0-is (c.in-Ok-None.ensures.reads start so_far.input so_far.at) in
    ended_run (g.C.Clock.reads c.args.clock.now) c.args.max_jump (IsKept c.args.node.now) (node_state c.args.node.now) (node_state c.lines.node) was now (g.S.Source.left c.lines.input) c.lines.reader c.next_line.new.self c.lines.refused so_far reads c.lines.invariant.moments c.lines.invariant.within

pub lines-preserved : goal.lines-preserved
lines-preserved g c =
    let so_far = c.lines.invariant.so_far in
    let start = g.S.Source.left c.args.input.now in
    let left = g.S.Source.left c.next_line.new.source in
    let reads = subst (λ (o : Option PartialLine). Reads o start so_far.input (pending_of c.lines.reader) left c.next_line.new.self) c.in-Ok-Some.field-0-is (c.in-Ok-Some.ensures.reads start so_far.input so_far.at) in
    let run = runs_on _ (node_state c.lines.node) (node_state c.dispatch_line.new.node) start _ left _ (output_of g.K.Sink c.lines.output) (output_of g.K.Sink c.dispatch_line.new.output) c.lines.reader c.next_line.new.self c.lines.refused c.in_ok-was_refused.was_refused c.either-refused.result c.in-Ok-Some.partial c.in-Ok-parse_line.line so_far reads (c.in-Ok-parse_line.ensures.says reads.line reads.stands) c.in_ok-was_refused.ensures.done c.either-refused.ensures in
    let still = still_runs _ _ _ _ _ _ _ c.next_line.new.self _ c.is_done.result run c.if-is_done.false c.is_done.ensures.no in
    record {
      so_far = still.0;
      moments = λ safe. followed_says (node_state c.args.node.now) _ _ (node_disks c.args.node.now) (node_disks c.dispatch_line.new.node) (sym still.1) (followed_more (node_state c.args.node.now) (node_state c.lines.node) (script_lines so_far.done) c.in-Ok-parse_line.line (node_disks c.args.node.now) (node_disks c.lines.node) (node_disks c.dispatch_line.new.node) so_far.leads (c.lines.invariant.moments safe) (c.in_ok-was_refused.ensures.any_moment (c.lines.invariant.safe safe)));
      within = subst (AllWithin (g.C.Clock.reads c.args.clock.now) c.args.max_jump) (sym still.1) (within_push (g.C.Clock.reads c.args.clock.now) c.args.max_jump (script_lines so_far.done) c.in-Ok-parse_line.line c.lines.invariant.within c.in-Ok-hold_line.ensures.ok);
      fits = c.in-Ok-Some.ensures.fits;
      running = c.in_ok-was_refused.ensures.running;
      consistent = c.in_ok-was_refused.ensures.consistent;
      safe = λ before. c.in_ok-was_refused.ensures.kept (c.lines.invariant.safe before) (λ e. absurd cc);
      read_same = c.in-Ok-Some.ensures.passed ∙ c.lines.invariant.read_same;
      write_same = c.in_ok-was_refused.ensures.passed.1 ∙ c.lines.invariant.write_same;
      disk_same = quiet_on (node_disks c.args.node.now) (node_disks c.lines.node) (node_disks c.dispatch_line.new.node) c.lines.invariant.disk_same c.in_ok-was_refused.ensures.passed.0;
      honesty = honest_on (node_disks c.args.node.now) (node_disks c.lines.node) (node_disks c.dispatch_line.new.node) c.lines.invariant.honesty c.in_ok-was_refused.ensures.honesty;
      aside = c.in_ok-was_refused.ensures.aside ∙ c.lines.invariant.aside;
    }

pub returns-in_default-clause-cut : goal.returns-in_default-clause-cut
returns-in_default-clause-cut g c = cut_at_once (g.C.Clock.reads c.args.clock.now) c.args.max_jump (IsKept c.args.node.now) (node_state c.args.node.now) (outside_with g.S.Source g.K.Sink c.args.node.now c.args.input.now c.args.output.now)

pub returns-in-Err-clause-cut : goal.returns-in-Err-clause-cut
returns-in-Err-clause-cut g c =
    let so_far = c.lines.invariant.so_far in
    let start = g.S.Source.left c.args.input.now in
    let was = outside_with g.S.Source g.K.Sink c.args.node.now c.args.input.now c.args.output.now in
    let now = outside_with g.S.Source g.K.Sink c.lines.node c.next_line.new.source c.lines.output in
    let end : c.end_of.result ≡ end_of_reading c.in-Err.end = c.end_of.ensures in
    let none = c.in-Err.ensures.ahead start so_far.input so_far.at in
    let taken = taken_behind was.input now.input so_far.done (pending_of c.lines.reader) so_far.input none.more (end_of_reading c.in-Err.end) so_far.split none.took (reading_ahead c.in-Err.end (pending_of c.lines.reader ++ none.more) none.is_ahead) in
    cut_between (g.C.Clock.reads c.args.clock.now) c.args.max_jump (IsKept c.args.node.now) (node_state c.args.node.now) (node_state c.lines.node) was now (g.S.Source.left c.lines.input) c.lines.reader c.lines.refused c.end_of.result so_far c.lines.invariant.moments c.lines.invariant.within
    (subst (λ (e : RunEnd). IsBetween e [] was.output.faults now.output.faults) (sym end) (reading_between c.in-Err.end was.output.faults now.output.faults c.lines.invariant.write_same)) (λ is. reading_no_jump c.in-Err.end (sym end ∙ is))
    (subst (λ (e : RunEnd). IsTaken was.input now.input (script_lines so_far.done) e) (sym end) taken) (λ is. c.in-Err.ensures.long start so_far.input so_far.at (ap Err (reading_long c.in-Err.end (sym end ∙ is))))

pub returns-in_default-parse_line-clause-cut : goal.returns-in_default-parse_line-clause-cut
returns-in_default-parse_line-clause-cut g c =
    let so_far = c.lines.invariant.so_far in
    let start = g.S.Source.left c.args.input.now in
    let left = g.S.Source.left c.next_line.new.source in
    let was = outside_with g.S.Source g.K.Sink c.args.node.now c.args.input.now c.args.output.now in
    let now = outside_with g.S.Source g.K.Sink c.lines.node c.next_line.new.source c.lines.output in
    let reads = subst (λ (o : Option PartialLine). Reads o start so_far.input (pending_of c.lines.reader) left c.next_line.new.self) c.in-Ok-Some.field-0-is (c.in-Ok-Some.ensures.reads start so_far.input so_far.at) in
    let taken = taken_behind was.input now.input so_far.done (pending_of c.lines.reader) so_far.input reads.more OutOfMemory so_far.split reads.at.took (line_ahead _ reads.line c.next_line.new.self reads.no_feed reads.next) in
    cut_between (g.C.Clock.reads c.args.clock.now) c.args.max_jump (IsKept c.args.node.now) (node_state c.args.node.now) (node_state c.lines.node) was now (g.S.Source.left c.lines.input) c.lines.reader c.lines.refused OutOfMemory so_far c.lines.invariant.moments c.lines.invariant.within (refl, c.lines.invariant.write_same) (λ e. absurd cc) taken (λ e. absurd cc)

pub returns-in_default-tell_jump-clause-cut : goal.returns-in_default-tell_jump-clause-cut
returns-in_default-tell_jump-clause-cut g c =
    let so_far = c.lines.invariant.so_far in
    let start = g.S.Source.left c.args.input.now in
    let left = g.S.Source.left c.next_line.new.source in
    let was = outside_with g.S.Source g.K.Sink c.args.node.now c.args.input.now c.args.output.now in
    let now = outside_with g.S.Source g.K.Sink c.lines.node c.next_line.new.source c.lines.output in
    let reads = subst (λ (o : Option PartialLine). Reads o start so_far.input (pending_of c.lines.reader) left c.next_line.new.self) c.in-Ok-Some.field-0-is (c.in-Ok-Some.ensures.reads start so_far.input so_far.at) in
    let taken = taken_behind was.input now.input so_far.done (pending_of c.lines.reader) so_far.input reads.more OutOfMemory so_far.split reads.at.took (line_ahead _ reads.line c.next_line.new.self reads.no_feed reads.next) in
    subst (λ o. IsCutRun (g.C.Clock.reads c.args.clock.now) c.args.max_jump (IsKept c.args.node.now) (node_state c.args.node.now) was (outside_with g.S.Source g.K.Sink c.lines.node c.next_line.new.source o) (node_state c.lines.node) OutOfMemory) (sym c.in_default-tell_jump.ensures.err)
    (cut_between (g.C.Clock.reads c.args.clock.now) c.args.max_jump (IsKept c.args.node.now) (node_state c.args.node.now) (node_state c.lines.node) was now (g.S.Source.left c.lines.input) c.lines.reader c.lines.refused OutOfMemory so_far c.lines.invariant.moments c.lines.invariant.within (refl, c.lines.invariant.write_same) (λ e. absurd cc) taken (λ e. absurd cc))

pub returns-in_err-was_refused-clause-cut : goal.returns-in_err-was_refused-clause-cut
returns-in_err-was_refused-clause-cut g c =
    let so_far = c.lines.invariant.so_far in
    let start = g.S.Source.left c.args.input.now in
    let left = g.S.Source.left c.next_line.new.source in
    let was = outside_with g.S.Source g.K.Sink c.args.node.now c.args.input.now c.args.output.now in
    let on = outside_with g.S.Source g.K.Sink c.lines.node c.lines.input c.lines.output in
    let now = outside_with g.S.Source g.K.Sink c.dispatch_line.new.node c.next_line.new.source c.dispatch_line.new.output in
    let reads = subst (λ (o : Option PartialLine). Reads o start so_far.input (pending_of c.lines.reader) left c.next_line.new.self) c.in-Ok-Some.field-0-is (c.in-Ok-Some.ensures.reads start so_far.input so_far.at) in
    passed_on _ c.in_err-was_refused.field-0.0 c.from_residual.result c.from_residual.ensures
    (cut_at_line (g.C.Clock.reads c.args.clock.now) c.args.max_jump (IsKept c.args.node.now) (node_state c.args.node.now) (node_state c.lines.node) (node_state c.dispatch_line.new.node) was on now c.lines.reader c.next_line.new.self c.lines.refused c.in_err-was_refused.field-0.0 c.in-Ok-Some.partial c.in-Ok-parse_line.line so_far reads (c.in-Ok-parse_line.ensures.says reads.line reads.stands)
    c.in_err-was_refused.ensures.cut c.lines.invariant.write_same (λ safe failed. c.in_err-was_refused.ensures.undecided (c.lines.invariant.safe safe) (ap Err failed)) c.lines.invariant.moments (λ safe. c.in_err-was_refused.ensures.last_moments (c.lines.invariant.safe safe)) c.lines.invariant.within c.in-Ok-hold_line.ensures.ok)

pub returns-in_err-was_refused-clause-kept : goal.returns-in_err-was_refused-clause-kept
returns-in_err-was_refused-clause-kept g c safe sound =
    c.in_err-was_refused.ensures.kept (c.lines.invariant.safe safe) (λ is. sound (passes_on c.from_residual.result c.in_err-was_refused.field-0.0 DiskFault c.from_residual.ensures (same_error _ _ is)))

pub lines-init : goal.lines-init
lines-init g c =
    let yet = nothing_yet (node_state c.args.node.now) (g.S.Source.left c.args.input.now) (g.K.Sink.given c.args.output.now) c.in-Ok.reader c.in-Ok.ensures in
    record {
      so_far = yet.0;
      moments = λ safe. followed_says _ _ _ (node_disks c.args.node.now) (node_disks c.args.node.now) (sym yet.1) refl;
      within = subst (AllWithin (g.C.Clock.reads c.args.clock.now) c.args.max_jump) (sym yet.1) tt;
      fits = omega (arith, c.in-Ok.ensures.3);
      running = c.requires.running;
      consistent = c.requires.consistent;
      safe = λ safe. safe;
      read_same = refl;
      write_same = refl;
      disk_same = (refl, refl);
      honesty = (refl, refl);
      aside = refl;
    }

pub returns-then-is_done-clause-passed : goal.returns-then-is_done-clause-passed
returns-then-is_done-clause-passed g c = (
  c.in-Ok-Some.ensures.passed ∙ c.lines.invariant.read_same,
  c.in_ok-was_refused.ensures.passed.1 ∙ c.lines.invariant.write_same,
  quiet_on (node_disks c.args.node.now) (node_disks c.lines.node) (node_disks c.dispatch_line.new.node) c.lines.invariant.disk_same c.in_ok-was_refused.ensures.passed.0,
)

pub returns-then-is_done-clause-honesty : goal.returns-then-is_done-clause-honesty
returns-then-is_done-clause-honesty g c = honest_on (node_disks c.args.node.now) (node_disks c.lines.node) (node_disks c.dispatch_line.new.node) c.lines.invariant.honesty c.in_ok-was_refused.ensures.honesty

pub returns-in_err-was_refused-clause-honesty : goal.returns-in_err-was_refused-clause-honesty
returns-in_err-was_refused-clause-honesty g c = honest_on (node_disks c.args.node.now) (node_disks c.lines.node) (node_disks c.dispatch_line.new.node) c.lines.invariant.honesty c.in_err-was_refused.ensures.honesty

pub returns-in_err-was_refused-clause-disk_fault : goal.returns-in_err-was_refused-clause-disk_fault
returns-in_err-was_refused-clause-disk_fault g c =
    let was = node_disks c.args.node.now in
    let now = node_disks c.dispatch_line.new.node in
    passed_on (λ (e : RunEnd). e ≡ DiskFault → HaveFailed was now) c.in_err-was_refused.field-0.0 c.from_residual.result c.from_residual.ensures
    (λ is. failed_on was (node_disks c.lines.node) now c.lines.invariant.disk_same (c.in_err-was_refused.ensures.disk_fault (ap Err is)))

pub returns-in_err-was_refused-clause-disk_quiet : goal.returns-in_err-was_refused-clause-disk_quiet
returns-in_err-was_refused-clause-disk_quiet g c =
    let was = node_disks c.args.node.now in
    let now = node_disks c.dispatch_line.new.node in
    passed_on (λ (e : RunEnd). e ≢ DiskFault → AreQuiet was now) c.in_err-was_refused.field-0.0 c.from_residual.result c.from_residual.ensures
    (λ other. quiet_on was (node_disks c.lines.node) now c.lines.invariant.disk_same (c.in_err-was_refused.ensures.disk_quiet other))

pub returns-in-Err-hold_line-clause-cut : goal.returns-in-Err-hold_line-clause-cut
returns-in-Err-hold_line-clause-cut g c =
    let so_far = c.lines.invariant.so_far in
    let start = g.S.Source.left c.args.input.now in
    let left = g.S.Source.left c.next_line.new.source in
    let was = outside_with g.S.Source g.K.Sink c.args.node.now c.args.input.now c.args.output.now in
    let on = outside_with g.S.Source g.K.Sink c.lines.node c.lines.input c.lines.output in
    let now = outside_with g.S.Source g.K.Sink c.lines.node c.next_line.new.source c.tell_jump.new.output in
    let reads = subst (λ (o : Option PartialLine). Reads o start so_far.input (pending_of c.lines.reader) left c.next_line.new.self) c.in-Ok-Some.field-0-is (c.in-Ok-Some.ensures.reads start so_far.input so_far.at) in
    cut_before (g.C.Clock.reads c.args.clock.now) c.args.max_jump (IsKept c.args.node.now) (node_state c.args.node.now) (node_state c.lines.node) was on now c.lines.reader c.next_line.new.self c.lines.refused c.in-Ok-Some.partial c.in-Ok-parse_line.line c.in-Err-hold_line.jump so_far reads
    (c.in-Ok-parse_line.ensures.says reads.line reads.stands) c.in-Err-hold_line.ensures.err c.in-Ok-tell_jump.ensures.ok c.lines.invariant.write_same c.lines.invariant.moments c.lines.invariant.within
