use Rattle.std.proofs.Common.{◌≡◌, ◌≤◌, ℕ, ◌+◌, ◌^◌, List, length, take, drop, Some, refl, ap, sym, ◌∙◌, subst, arith, false, true}
use Rattle.std.specs.Prelude.{IsTrue, Err}
use Rattle.sb_journal.specs.Text.{AreBytes}
use Rattle.sb_journal.specs.Framing.{is_record, payload_length}
use Rattle.sb_journal.specs.Pieces.{BeginsWith, IsPiece, seen_from}
use Rattle.sb_journal.proofs.Parts.{AreBytes-drop}
use Rattle.sb_journal.proofs.Judging as judging
use Rattle.sb_journal.proofs.Scan as scan
use Rattle.sb_journal.proofs.reading.records_of.Goals as goal

pub returns-in_default-record_behind-clause-broken : goal.returns-in_default-record_behind-clause-broken
returns-in_default-record_behind-clause-broken g c honest place is =
    let bytes = (g.D.Disk.held c.args.disk.now).seen in
    let there = drop c.records.place bytes in
    let part = c.rest.result.now in
    let starts : BeginsWith part there = subst (λ (l : List ℕ). BeginsWith l there) (sym c.rest.ensures) (c.records.invariant.piece honest).1 in
    let opened = c.is_open.ensures.open c.records-test.true in
    let same : c.behind.result.now ≡ drop 1 part = c.behind.ensures.value ∙ ap (drop 1) (c.rest-in-records.ensures ∙ sym c.rest.ensures) in
    let none = subst (λ (r : List ℕ). is_record c.records.number r ≡ false) same c.in_default-record_behind.ensures.none in
    let broken = scan.broken_at part there starts c.records.number opened.0 opened.1 none in
    let small : length bytes ≤ 2 ^ 62 = omega (arith, (c.records.invariant.piece honest).0.total_is, c.records.piece.small) in
    let same_place : c.records.place ≡ place = cc in
    let so = c.records.invariant.so_far in
    let place_is = judging.place_by g.J.Judge _ bytes c.args.salt c.args.first c.args.gate c.records.place c.records.number c.records.judge c.records.refused so honest in
    scan.breaks c.args.gate c.args.first c.records.place c.records.number so.payloads bytes (so.text honest) place_is so.number_is broken.0 c.requires.first small so.short broken.1 broken.2
    ∙ ap Err same_place

pub records-preserved : goal.records-preserved
records-preserved g c =
    let bytes = (g.D.Disk.held c.args.disk.now).seen in
    let there = drop c.records.place bytes in
    let part = c.rest.result.now in
    let opened = c.is_open.ensures.open c.records-test.true in
    let same : c.behind.result.now ≡ drop 1 part = c.behind.ensures.value ∙ ap (drop 1) (c.rest-in-records.ensures ∙ sym c.rest.ensures) in
    let p = c.in-Some.payload.now in
    let next = c.records.place + (13 + length p) in
    let P : List ℕ → Type 0 = λ r. (is_record c.records.number r ≡ true) × (p ≡ take (payload_length r) (drop 12 r)) × (length p ≡ payload_length r) in
    let found = subst P same c.in-Some.ensures.some in
    let are : AreBytes (drop 1 part) = AreBytes-drop 1 part (subst AreBytes (c.rest-in-records.ensures ∙ sym c.rest.ensures) c.behind.ensures.bytes) in
    let so = c.records.invariant.so_far in
    let Onward : List ℕ → Type 0 = λ s. IsPiece c.records.piece s → IsPiece c.look_on-in-records.new.self s × BeginsWith (seen_from next c.look_on-in-records.new.self) (drop next s) in
    record {
      honesty = c.look_on-in-records.ensures.honesty ∙ c.records.invariant.honesty;
      so_far = judging.one_more g.J.Judge _ bytes c.args.salt c.args.first c.args.gate c.records.place c.records.number c.records.judge c.records.refused so next (c.records.number + 1) _ _ p refl refl c.in-Some.ensures.short (λ honest.
          let starts : BeginsWith part there = subst (λ (l : List ℕ). BeginsWith l there) (sym c.rest.ensures) (c.records.invariant.piece honest).1 in
          scan.record_at part there starts c.records.number p opened.0 opened.1 found.0 are found.1)
          (c.in-Ok-judge_one.ensures c.args.salt so.base so.payloads (judging.at_gate g.J.Judge _ bytes c.args.salt c.args.first c.args.gate c.records.place c.records.number c.records.judge c.records.refused so) so.verdict);
      piece = λ honest.
          let seen : (g.D.Disk.held c.records.disk).seen ≡ bytes = ap (λ h. h.seen) (c.records.invariant.same honest).0 in
          subst Onward seen (c.in-Ok-look_on-2.ensures.piece (subst IsTrue (sym c.records.invariant.honesty) honest)) (c.records.invariant.piece honest).0;
      place = c.in-Ok-look_on-2.ensures.place;
      few = omega (arith, c.records.invariant.few);
      same = λ honest.
          let still = c.look_on-in-records.ensures.same (subst IsTrue (sym c.records.invariant.honesty) honest) in
          let was = c.records.invariant.same honest in
          (still.0 ∙ was.0, still.1 ∙ was.1);
      count = c.in-Ok-look_on-2.ensures.cause.passed ∙ c.records.invariant.count;
    }

pub judge_one-requires : goal.judge_one-requires
judge_one-requires g c = let so = c.records.invariant.so_far in (c.args.salt, so.base, so.payloads, so.verdict)

pub returns-in-Some-refused-clause-refused : goal.returns-in-Some-refused-clause-refused
returns-in-Some-refused-clause-refused g c honest place is =
    let bytes = (g.D.Disk.held c.args.disk.now).seen in
    let there = drop c.records.place bytes in
    let part = c.rest.result.now in
    let starts : BeginsWith part there = subst (λ (l : List ℕ). BeginsWith l there) (sym c.rest.ensures) (c.records.invariant.piece honest).1 in
    let so = c.records.invariant.so_far in
    let same : c.in-Some-refused.place ≡ place = cc in
    judging.has_refused g.J.Judge _ bytes c.args.salt c.args.first c.args.gate c.records.place c.records.number c.records.judge c.records.refused so place (c.in-Some-refused.is ∙ ap Some same) honest (scan.ends_at part there starts (c.is_open.ensures.not c.records-test.false))

pub returns-clause-records : goal.returns-clause-records
returns-clause-records g c =
    let bytes = (g.D.Disk.held c.args.disk.now).seen in
    let there = drop c.records.place bytes in
    let part = c.rest.result.now in
    let fits : c.records.place ≤ 2 ^ 62 = omega (arith, c.records.invariant.place.greatest, c.records.piece.inside, c.records.piece.small) in
    judging.all_taken g.J.Judge (IsTrue (g.D.Disk.honest c.args.disk.now)) bytes c.args.salt c.args.first c.args.gate c.records.place c.records.number c.records.judge c.records.refused c.records.invariant.so_far (record { judge = c.records.judge; end = c.records.place; closed = c.is_closed-closed.result; next = c.records.number }) (judging.none_given c.records.refused c.in_default-refused.not-Some) (λ honest.
    let starts : BeginsWith part there = subst (λ (l : List ℕ). BeginsWith l there) (sym c.rest.ensures) (c.records.invariant.piece honest).1 in
    scan.ends_at part there starts (c.is_open.ensures.not c.records-test.false)) refl refl refl fits

pub returns-clause-closed : goal.returns-clause-closed
returns-clause-closed g c honest =
    let bytes = (g.D.Disk.held c.args.disk.now).seen in
    let there = drop c.records.place bytes in
    let part = c.rest-2.result.now in
    let starts : BeginsWith part there = subst (λ (l : List ℕ). BeginsWith l there) (sym c.rest-2.ensures) (c.records.invariant.piece honest).1 in
    c.is_closed-closed.ensures ∙ scan.shut_by part bytes c.records.place starts
