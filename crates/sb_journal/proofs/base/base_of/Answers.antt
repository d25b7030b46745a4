use Rattle.std.proofs.Common.{◌≡◌, ◌≤◌, ◌+◌, ◌-◌, ◌^◌, ℕ, List, length, drop, refl, ap, sym, ◌∙◌, subst, arith, length-drop}
use Rattle.std.specs.Prelude.{IsTrue}
use Rattle.std.proofs.lemmas.Bool.Decides.{nat_tests}
use Rattle.sb_journal.specs.Pieces.{BeginsWith, IsPiece, seen_from}
use Rattle.sb_journal.proofs.Judging as judging
use Rattle.sb_journal.proofs.Scan as scan
use Rattle.sb_journal.proofs.base.base_of.Goals.{else-pieces-test, then-pieces-test+in-Ok+then-is_empty}
use Rattle.sb_journal.proofs.base.base_of.Goals as goal

pub pieces-preserved : goal.pieces-preserved
pieces-preserved g c =
    let bytes = (g.D.Disk.held c.args.disk.now).seen in
    let here = c.pieces.place in
    let rest = c.rest.result.now in
    let part = c.up_to-part.result.now in
    let was = c.pieces.invariant in
    let so = was.so_far in
    let most = c.args.gate - here in
    let seen = ap length c.rest.ensures in
    let left = length-drop (here - c.look_on.new.self.from) c.look_on.new.self.bytes.items in
    let at = c.in-Ok.ensures.place in
    let least = at.least in
    let greatest = at.greatest in
    let some = c.pieces-test.true in
    let Onward : List ℕ → Type 0 = λ s. IsPiece c.pieces.piece s → IsPiece c.look_on.new.self s × BeginsWith (seen_from here c.look_on.new.self) (drop here s) in
    record {
      honesty = c.look_on.ensures.honesty ∙ was.honesty;
      so_far = judging.given_more g.J.Judge _ bytes c.args.salt here c.pieces.judge c.pieces.given so part c.judge_piece.new.judge c.in-Ok-judge_piece.still (λ honest.
          let same : (g.D.Disk.held c.pieces.disk).seen ≡ bytes = ap (λ h. h.seen) (was.same honest).0 in
          let onward = subst Onward same (c.in-Ok.ensures.piece (subst IsTrue (sym was.honesty) honest)) (was.piece honest) in
          let starts : BeginsWith rest (drop here bytes) = subst (λ (l : List ℕ). BeginsWith l (drop here bytes)) (sym c.rest.ensures) onward.1 in
          scan.part_at rest bytes here most part starts c.up_to-part.ensures)
          (c.in-Ok-judge_piece.ensures c.args.salt so.base so.is_given);
      piece = λ honest.
          let same : (g.D.Disk.held c.pieces.disk).seen ≡ bytes = ap (λ h. h.seen) (was.same honest).0 in
          (subst Onward same (c.in-Ok.ensures.piece (subst IsTrue (sym was.honesty) honest)) (was.piece honest)).0;
      place = record {
        least = omega (arith, least);
        greatest = omega (arith, greatest, least, seen, left, scan.length-part rest most part c.up_to-part.ensures);
      };
      total = c.look_on.ensures.total ∙ was.total;
      inside = omega (arith, some, scan.length-part rest most part c.up_to-part.ensures);
      same = λ honest.
          let still = c.look_on.ensures.same (subst IsTrue (sym was.honesty) honest) in
          let before = was.same honest in
          (still.0 ∙ before.0, still.1 ∙ before.1);
      count = c.in-Ok.ensures.cause.passed ∙ was.count;
    }

pub returns-in-Ok-judge_base-clause-based : goal.returns-in-Ok-judge_base-clause-based
returns-in-Ok-judge_base-clause-based g c =
    let bytes = (g.D.Disk.held c.args.disk.now).seen in
    let here = c.pieces.place in
    let was = c.pieces.invariant in
    let so = was.so_far in
    let most = c.args.gate - here in
    let inside = was.inside in
    let fits : here ≤ 2 ^ 62 = omega (arith, was.place.greatest, c.pieces.piece.inside, c.pieces.piece.small) in
    judging.all_given g.J.Judge (IsTrue (g.D.Disk.honest c.args.disk.now)) bytes c.args.salt here c.pieces.judge c.pieces.given so c.args.gate (record { judge = c.judge_base.new.judge; refused = c.in-Ok-judge_base.refused; gate = here }) refl fits (λ honest. elim c.pieces-test.branch [
      | else-pieces-test w ↦ let over = w.pieces-test.false in omega (arith, over, inside)
      | then-pieces-test+in-Ok+then-is_empty w ↦
          let rest = w.rest.result.now in
          let same : (g.D.Disk.held c.pieces.disk).seen ≡ bytes = ap (λ h. h.seen) (was.same honest).0 in
          let Onward : List ℕ → Type 0 = λ s. IsPiece c.pieces.piece s → IsPiece w.look_on.new.self s × BeginsWith (seen_from here w.look_on.new.self) (drop here s) in
          let onward = subst Onward same (w.in-Ok.ensures.piece (subst IsTrue (sym was.honesty) honest)) (was.piece honest) in
          let starts : BeginsWith rest (drop here bytes) = subst (λ (l : List ℕ). BeginsWith l (drop here bytes)) (sym w.rest.ensures) onward.1 in
          let empty : length w.up_to-part.result.now ≡ 0 = let is = w.if-is_empty.ensures in grind (arith, nat_tests, is) in
          let under = w.pieces-test.true in
          let some : 1 ≤ most = omega (arith, under) in
          let left : here + 1 ≤ length bytes = omega (arith, under, c.requires.inside, was.total, (was.piece honest).total_is) in
          absurd (scan.some_part rest bytes here most w.up_to-part.result.now starts w.up_to-part.ensures empty some left)
    ]) (c.in-Ok-judge_base.ensures c.args.salt so.base so.is_given)
