use Rattle.std.proofs.Common.{◌≡◌, ◌+◌, ◌++◌, ℕ, List, arith, sym, ◌∙◌, ap, subst, take, length, refl, length-append, append_assoc, true, false, Err}
use Rattle.std.specs.Bool.{OnFalse}
use Rattle.sb_input.specs.Readers.{pending_of, work_of, IsAt, ReadsNoLine}
use Rattle.sb_input.proofs.Splits.{took-ended}
use Rattle.sb_input.proofs.Readings.{same_at, line_found, line_ended, piece_at, piece_on, without_feed, start_pending, end_at, long_at, part_failed, fill_failed}
use Rattle.sb_input.proofs.Errors.{error_passed, passed_on}
use Rattle.sb_input.proofs.reader.Reader.next_line.Goals as goal

pub returns-then-found-clause-reads : goal.returns-then-found-clause-reads
returns-then-found-clause-reads g c start input is =
    let so_far = c.pieces.invariant in
    line_found start input so_far.more so_far.line _ _ _ _ _ _ c.if-found.true (c.in_ok-next.ensures.part so_far.line so_far.stands) so_far.no_feed so_far.whole
    (same_at start (input ++ so_far.more) _ c.pieces.self c.take_part.new.self c.take_part.ensures.ended c.take_part.ensures.taken (so_far.at start input is))

pub returns-then-self-clause-reads : goal.returns-then-self-clause-reads
returns-then-self-clause-reads g c start input is =
    let so_far = c.pieces.invariant in
    let part = without_feed so_far.line _ _ _ _ c.if-found.false (c.in_ok-next.ensures.part so_far.line so_far.stands) so_far.no_feed in
    let at = same_at start (input ++ so_far.more) _ c.pieces.self c.take_part.new.self c.take_part.ensures.ended c.take_part.ensures.taken (so_far.at start input is) in
    line_ended start input so_far.more so_far.line (pending_of c.pieces.self) _ _ _ _ (c.last_line.ensures (so_far.line ++ pending_of c.pieces.self) part.2) part.0 part.1 so_far.whole at (at.ended c.if-self.true) c.if-self.true

pub returns-then-self-eq0-clause-reads : goal.returns-then-self-eq0-clause-reads
returns-then-self-eq0-clause-reads g c start input is =
    let so_far = c.pieces.invariant in
    let filled = c.in_ok-fill.ensures in
    let next = c.fill.new.reader in
    let part = without_feed so_far.line _ _ _ _ c.if-found.false (c.in_ok-next.ensures.part so_far.line so_far.stands) so_far.no_feed in
    let at = same_at start (input ++ so_far.more) _ c.pieces.self c.take_part.new.self c.take_part.ensures.ended c.take_part.ensures.taken (so_far.at start input is) in
    let ended = filled.ended c.if-self-eq0.true in
    let rest = start_pending next.piece.items next.at next.end filled.start ∙ ap (λ n. take n next.piece.items) c.if-self-eq0.true in
    line_ended start input so_far.more so_far.line (pending_of c.pieces.self) _ _ _ _ (c.last_line-then-self-eq0.ensures (so_far.line ++ pending_of c.pieces.self) part.2) part.0 rest so_far.whole
    (end_at start (input ++ so_far.more) next.piece.items _ _ c.take_part.new.self _ next.end at filled.took c.if-self-eq0.true ended filled.taken) (took-ended _ _ _ _ at.took ended) refl

pub pieces-preserved : goal.pieces-preserved
pieces-preserved g c =
    let so_far = c.pieces.invariant in
    let filled = c.in_ok-fill.ensures in
    let next = c.fill.new.reader in
    let pending = pending_of c.pieces.self in
    let part = without_feed so_far.line _ _ _ _ c.if-found.false (c.in_ok-next.ensures.part so_far.line so_far.stands) so_far.no_feed in
    let piece = take next.end next.piece.items in
    let work = subst (λ b. OnFalse b (work_of c.take_part.new.self + length pending ≡ work_of c.pieces.self)) c.if-found.false c.in_ok-next.ensures.work in
    record {
      more = so_far.more ++ piece;
      line = so_far.line ++ pending;
      stands = part.2;
      no_feed = part.0;
      whole = piece_on so_far.line pending (pending_of next) (pending_of c.args.self.now) so_far.more piece so_far.whole (start_pending next.piece.items next.at next.end filled.start);
      at = λ start input is.
          let at = same_at start (input ++ so_far.more) _ c.pieces.self c.take_part.new.self c.take_part.ensures.ended c.take_part.ensures.taken (so_far.at start input is) in
          subst (λ (l : List ℕ). IsAt start l (g.S.Source.left c.fill.new.source) next) (append_assoc input so_far.more piece)
          (piece_at start (input ++ so_far.more) next.piece.items _ _ c.take_part.new.self next next.end at filled.took next.within filled.taken (λ e. let other : true ≡ false = sym e ∙ filled.same ∙ c.if-self.false in absurd cc));
      work = omega (arith, work, so_far.work, filled.taken, filled.fits, filled.start, length-append so_far.line pending, c.if-self-eq0.false);
      fits = filled.fits;
      count = filled.passed ∙ so_far.count;
    }

pub returns-in_err-fill-clause-long : goal.returns-in_err-fill-clause-long
returns-in_err-fill-clause-long g c start input is end =
    let so_far = c.pieces.invariant in
    let at = same_at start (input ++ so_far.more) _ c.pieces.self c.take_part.new.self c.take_part.ensures.ended c.take_part.ensures.taken (so_far.at start input is) in
    long_at start (input ++ so_far.more) _ _ c.take_part.new.self at (c.in_err-fill.ensures.long (ap Err (error_passed _ _ _ c.from_residual-in_err-fill.ensures end)))

pub returns-in_err-next-clause-ahead : goal.returns-in_err-next-clause-ahead
returns-in_err-next-clause-ahead g c start input is =
    let so_far = c.pieces.invariant in
    let all = pending_of c.args.self.now in
    let left = g.S.Source.left c.pieces.source in
    passed_on (λ e. ReadsNoLine e start input all left) c.in_err-next.field-0.0 c.from_residual.result c.from_residual.ensures
    (part_failed start input so_far.more so_far.line all left c.pieces.self c.in_err-next.field-0.0 c.in_err-next.ensures.no_fault (so_far.at start input is).took so_far.whole so_far.no_feed)

pub returns-in_err-fill-clause-ahead : goal.returns-in_err-fill-clause-ahead
returns-in_err-fill-clause-ahead g c start input is =
    let so_far = c.pieces.invariant in
    let all = pending_of c.args.self.now in
    let pending = pending_of c.pieces.self in
    let left = g.S.Source.left c.pieces.source in
    let after = g.S.Source.left c.fill.new.source in
    let part = without_feed so_far.line _ _ _ _ c.if-found.false (c.in_ok-next.ensures.part so_far.line so_far.stands) so_far.no_feed in
    passed_on (λ e. ReadsNoLine e start input all after) c.in_err-fill.field-0.0 c.from_residual-in_err-fill.result c.from_residual-in_err-fill.ensures
    (fill_failed start input so_far.more so_far.line pending all left after c.take_part.new.self.taken c.in_err-fill.field-0.0 (so_far.at start input is).took so_far.whole part.0
    (λ fault. c.in_err-fill.ensures.stays (ap Err fault)) (λ none. c.in_err-fill.ensures.known (ap Err none)) (λ much. c.in_err-fill.ensures.long (ap Err much)))
