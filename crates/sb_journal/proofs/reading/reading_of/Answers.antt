use Rattle.std.proofs.Common.{◌≡◌, ◌≤◌, ℕ, List, length, drop, ap, sym, ◌∙◌, subst, arith}
use Rattle.std.specs.Prelude.{IsTrue, Err}
use Rattle.sb_journal.specs.Framing.{read}
use Rattle.sb_journal.specs.Opened.{is_shut, IsNoHead, IsRefusedIn, AreRecords, HasRefused}
use Rattle.sb_journal.specs.Pieces.{BeginsWith}
use Rattle.sb_journal.proofs.Readings as readings
use Rattle.sb_journal.proofs.reading.reading_of.Goals as goal

pub returns-in-Err-NoHead-clause-reading : goal.returns-in-Err-NoHead-clause-reading
returns-in-Err-NoHead-clause-reading g c honest =
    let bytes = (g.D.Disk.held c.args.disk.now).seen in
    let part = c.rest.result.now in
    let starts : BeginsWith part bytes = subst (λ (l : List ℕ). BeginsWith l bytes) (sym c.rest.ensures) (c.in-Ok.ensures.piece honest).1 in
    readings.no_file part bytes starts (subst (λ e. IsNoHead e part) c.in-Err-NoHead.field-0-is c.in-Err-NoHead.ensures.none)

pub returns-in-Err-OtherHead-clause-reading : goal.returns-in-Err-OtherHead-clause-reading
returns-in-Err-OtherHead-clause-reading g c honest =
    let bytes = (g.D.Disk.held c.args.disk.now).seen in
    let part = c.rest.result.now in
    let starts : BeginsWith part bytes = subst (λ (l : List ℕ). BeginsWith l bytes) (sym c.rest.ensures) (c.in-Ok.ensures.piece honest).1 in
    readings.other_file part bytes starts (subst (λ e. IsNoHead e part) c.in-Err-OtherHead.field-0-is c.in-Err-OtherHead.ensures.none)

pub returns-in-Err-BadHead-clause-reading : goal.returns-in-Err-BadHead-clause-reading
returns-in-Err-BadHead-clause-reading g c honest =
    let bytes = (g.D.Disk.held c.args.disk.now).seen in
    let part = c.rest.result.now in
    let starts : BeginsWith part bytes = subst (λ (l : List ℕ). BeginsWith l bytes) (sym c.rest.ensures) (c.in-Ok.ensures.piece honest).1 in
    let bad = readings.bad_head part bytes starts c.in-Err-BadHead.place (subst (λ e. IsNoHead e part) c.in-Err-BadHead.field-0-is c.in-Err-BadHead.ensures.none) in
    let place_is = c.in-Err-BadHead.place-is in
    cc

pub returns-in_default-clause-reading : goal.returns-in_default-clause-reading
returns-in_default-clause-reading g c honest =
    let bytes = (g.D.Disk.held c.args.disk.now).seen in
    let part = c.rest.result.now in
    let starts : BeginsWith part bytes = subst (λ (l : List ℕ). BeginsWith l bytes) (sym c.rest.ensures) (c.in-Ok.ensures.piece honest).1 in
    let total = (c.in-Ok.ensures.piece honest).0.total_is in
    readings.cut_base part bytes starts c.in-Ok-head_of.head c.in-Ok-head_of.ensures.ok (omega (arith, total, c.total.ensures, c.in_default.ensures.none))

pub returns-in-Err-Broken-clause-reading : goal.returns-in-Err-Broken-clause-reading
returns-in-Err-Broken-clause-reading g c honest =
    let bytes = (g.D.Disk.held c.args.disk.now).seen in
    let part = c.rest.result.now in
    let starts : BeginsWith part bytes = subst (λ (l : List ℕ). BeginsWith l bytes) (sym c.rest.ensures) (c.in-Ok.ensures.piece honest).1 in
    let first = c.in-Ok-head_of.head.first in
    let place = c.in-Err-Broken.place in
    let same : (g.D.Disk.held c.first.new.disk).seen ≡ bytes = ap (λ h. h.seen) (c.first.ensures.same honest).0 in
    let gate = c.in-Some.gate in
    let Breaks : List ℕ → Type 0 = λ s. read (length s) gate first (drop gate s) ≡ Err place in
    let broken = subst Breaks same (c.in-Err-Broken.ensures.broken (subst IsTrue (sym c.first.ensures.honesty) honest) place c.in-Err-Broken.field-0-is) in
    let inside : gate ≤ length bytes = omega (arith, (c.in-Ok.ensures.piece honest).0.total_is, c.total.ensures, c.in-Some.ensures.some.1) in
    let bad = readings.bad_record part bytes starts c.in-Ok-head_of.head gate c.in-Ok-head_of.ensures.ok c.in-Some.ensures.some.0 place inside broken in
    let place_is = c.in-Err-Broken.place-is in
    cc

pub returns-in-Err-Refused-clause-reading : goal.returns-in-Err-Refused-clause-reading
returns-in-Err-Refused-clause-reading g c honest =
    let bytes = (g.D.Disk.held c.args.disk.now).seen in
    let part = c.rest.result.now in
    let starts : BeginsWith part bytes = subst (λ (l : List ℕ). BeginsWith l bytes) (sym c.rest.ensures) (c.in-Ok.ensures.piece honest).1 in
    let head = c.in-Ok-head_of.head in
    let place = c.in-Err-Refused.place in
    let same : (g.D.Disk.held c.first.new.disk).seen ≡ bytes = ap (λ h. h.seen) (c.first.ensures.same honest).0 in
    let refused = subst (λ (s : List ℕ). HasRefused g.J.Judge s head.salt head.first c.in-Some.gate place) same (c.in-Err-Refused.ensures.refused (subst IsTrue (sym c.first.ensures.honesty) honest) place c.in-Err-Refused.field-0-is) in
    subst (λ n. IsRefusedIn g.J.Judge bytes n) (sym c.in-Err-Refused.place-is) (readings.refused_file part bytes starts head c.in-Some.gate c.in-Ok-head_of.ensures.ok c.in-Some.ensures.some.0 g.J.Judge place c.in-Ok-head_of.ensures.bytes (c.in-Ok.ensures.small honest) refused)

pub returns-in-Ok-records_of-clause-reading : goal.returns-in-Ok-records_of-clause-reading
returns-in-Ok-records_of-clause-reading g c =
    let bytes = (g.D.Disk.held c.args.disk.now).seen in
    let was = (g.D.Disk.held c.first.new.disk).seen in
    let part = c.rest.result.now in
    let head = c.in-Ok-head_of.head in
    let gate = c.in-Some.gate in
    let records = c.in-Ok-records_of.records in
    let honest = IsTrue (g.D.Disk.honest c.args.disk.now) in
    let e = c.stand_of.ensures in
    let parts : readings.HasParts c.stand_of.result head records = record { salt = e.salt; generation = e.generation; first = e.first; judge = e.judge; end_is = e.end; closed_is = e.closed; next_is = e.next } in
    let are : AreRecords g.J.Judge honest bytes head.salt head.first gate records = readings.records_when g.J.Judge honest _ bytes was head.salt head.first gate records (λ h. subst IsTrue (sym c.first.ensures.honesty) h) (λ h. ap (λ m. m.seen) (c.first.ensures.same h).0) c.in-Ok-records_of.ensures.records in (
      are.base,
      are.payloads,
      readings.counted g.J.Judge c.stand_of.result head records honest bytes gate parts c.in-Ok-head_of.ensures.ok.first_fits are,
      λ h.
          let starts : BeginsWith part bytes = subst (λ (l : List ℕ). BeginsWith l bytes) (sym c.rest.ensures) (c.in-Ok.ensures.piece h).1 in
          let closed : records.closed ≡ is_shut records.end bytes = c.in-Ok-records_of.ensures.closed (subst IsTrue (sym c.first.ensures.honesty) h) ∙ ap (λ m. is_shut records.end m.seen) (c.first.ensures.same h).0 in
          readings.whole_stand part bytes starts head gate c.in-Ok-head_of.ensures.ok c.in-Some.ensures.some.0 g.J.Judge c.stand_of.result records honest parts c.in-Ok-head_of.ensures.bytes (c.in-Ok.ensures.small h) h closed are,
    )
