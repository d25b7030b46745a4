use Rattle.std.proofs.Common.{◌≡◌, [], ◌∷◌, ◌+◌, ◌++◌, length, inl, refl, sym, ap, subst, arith}
use Rattle.std.specs.Prelude.{IsTrue}
use Rattle.sb_journal.specs.Text.{framed_all, file_text, with_payloads, IsWithin}
use Rattle.sb_journal.specs.Opened.{FindsFile, FindsNoneOrAll}
use Rattle.sb_journal.specs.Crashes.{Rests, IsSameFrom, IsTornGroup, IsTornPair}
use Rattle.sb_journal.specs.Journals.{journal_disks}
use Rattle.sb_journal.specs.Moments.{EachMoment}
use Rattle.sb_journal.proofs.Adding.{behind_place}
use Rattle.sb_journal.proofs.Holding.{staged_honest, shut_now, shut_finds, shut_torn, behind_now, some_staged, all_bytes, none_staged, sealed, rests_as}
use Rattle.sb_journal.proofs.Pairs.{both, weaker_pair, torn_found, torn_pair, behind_pair, quiet_here, fell_here, honest_here, fault_here}
use Rattle.sb_journal.proofs.journal.Journal.seal.Goals as goal

-- ---- where none is staged

pub returns-then-self-eq0-clause-ok : goal.returns-then-self-eq0-clause-ok
returns-then-self-eq0-clause-ok g c file staged holds = none_staged c.args.self.now file staged holds c.if-self-eq0.true

pub returns-then-self-eq0-clause-any_moment : goal.returns-then-self-eq0-clause-any_moment
returns-then-self-eq0-clause-any_moment g c file staged holds =
    let j = c.args.self.now in
    let was = journal_disks j in
    weaker_pair was was (FindsFile file) (FindsNoneOrAll file staged) (λ x y found. inl found) (shut_finds j file staged holds was was (shut_now j file staged holds))

pub returns-then-self-eq0-clause-torn : goal.returns-then-self-eq0-clause-torn
returns-then-self-eq0-clause-torn g c file staged holds =
    let j = c.args.self.now in
    shut_torn j file staged holds staged (journal_disks j) (journal_disks j) holds.within (shut_now j file staged holds)

pub returns-then-self-eq0-clause-behind : goal.returns-then-self-eq0-clause-behind
returns-then-self-eq0-clause-behind g c file staged holds = behind_now c.args.self.now file staged holds _ (omega arith)

-- ---- where some are

pub returns-in_default-clause-torn : goal.returns-in_default-clause-torn
returns-in_default-clause-torn g c file staged holds =
    let j = c.args.self.now in
    let frames = c.deref.result.now in
    let all = all_bytes staged j.next holds.written j.buffer.items frames c.put.new.buffer.items holds.bytes c.deref.ensures.value c.put.ensures.items in
    let run = some_staged (λ ss. EachMoment (g.D.Disk.past j.current) (g.D.Disk.past c.seal_frames.new.disk) (g.D.Disk.held c.seal_frames.new.disk) (IsTornGroup file ss)) staged j.count holds.count c.if-self-eq0.false
    (λ p ps is. c.seal_frames.ensures.any_moment file p ps j.next holds.written (staged_honest j file staged holds).0 holds.stages holds.long
    (subst (λ ss. holds.written ++ frames ≡ framed_all j.next ss ++ 0 ∷ []) is all) (subst (λ ss. IsWithin (with_payloads file ss)) is holds.within)) in
    torn_pair g.D.Disk j.side j.current c.seal_frames.new.disk j.other file staged holds.aside.shut run

pub returns-in_default-clause-any_moment : goal.returns-in_default-clause-any_moment
returns-in_default-clause-any_moment g c file staged holds =
    let j = c.args.self.now in
    let frames = c.deref.result.now in
    let all = all_bytes staged j.next holds.written j.buffer.items frames c.put.new.buffer.items holds.bytes c.deref.ensures.value c.put.ensures.items in
    let run = some_staged (λ ss. EachMoment (g.D.Disk.past j.current) (g.D.Disk.past c.seal_frames.new.disk) (g.D.Disk.held c.seal_frames.new.disk) (IsTornGroup file ss)) staged j.count holds.count c.if-self-eq0.false
    (λ p ps is. c.seal_frames.ensures.any_moment file p ps j.next holds.written (staged_honest j file staged holds).0 holds.stages holds.long
    (subst (λ ss. holds.written ++ frames ≡ framed_all j.next ss ++ 0 ∷ []) is all) (subst (λ ss. IsWithin (with_payloads file ss)) is holds.within)) in
    weaker_pair (both g.D.Disk j.side j.current j.other) (both g.D.Disk j.side c.seal_frames.new.disk j.other) (IsTornPair file staged) (FindsNoneOrAll file staged) (torn_found file staged) (torn_pair g.D.Disk j.side j.current c.seal_frames.new.disk j.other file staged holds.aside.shut run)

pub returns-in_default-clause-behind : goal.returns-in_default-clause-behind
returns-in_default-clause-behind g c file staged holds =
    let j = c.args.self.now in
    let frames = c.deref.result.now in
    let all = all_bytes staged j.next holds.written j.buffer.items frames c.put.new.buffer.items holds.bytes c.deref.ensures.value c.put.ensures.items in
    let place = some_staged (λ ss. j.end + j.written + length frames + 1 ≡ length (file_text (with_payloads file ss)) + 1) staged j.count holds.count c.if-self-eq0.false
    (λ p ps is. ap (λ n. n + 1) (behind_place file p ps j.end j.next j.written holds.written frames holds.stages.end_is holds.stages.next_is holds.long (subst (λ ss. holds.written ++ frames ≡ framed_all j.next ss ++ 0 ∷ []) is all))) in
    behind_pair g.D.Disk j.side j.current c.seal_frames.new.disk j.other (length (file_text (with_payloads file staged)) + 1)
    (subst (λ n. EachMoment (g.D.Disk.past j.current) (g.D.Disk.past c.seal_frames.new.disk) (g.D.Disk.held c.seal_frames.new.disk) (IsSameFrom n (g.D.Disk.held j.current).seen)) place
    (c.seal_frames.ensures.behind file j.next holds.written (staged_honest j file staged holds).0 holds.stages holds.long))

pub returns-clause-torn : goal.returns-clause-torn
returns-clause-torn g c file staged holds =
    let j = c.args.self.now in
    let frames = c.deref.result.now in
    let all = all_bytes staged j.next holds.written j.buffer.items frames c.put.new.buffer.items holds.bytes c.deref.ensures.value c.put.ensures.items in
    let run = some_staged (λ ss. EachMoment (g.D.Disk.past j.current) (g.D.Disk.past c.seal_frames.new.disk) (g.D.Disk.held c.seal_frames.new.disk) (IsTornGroup file ss)) staged j.count holds.count c.if-self-eq0.false
    (λ p ps is. c.seal_frames.ensures.any_moment file p ps j.next holds.written (staged_honest j file staged holds).0 holds.stages holds.long
    (subst (λ ss. holds.written ++ frames ≡ framed_all j.next ss ++ 0 ∷ []) is all) (subst (λ ss. IsWithin (with_payloads file ss)) is holds.within)) in
    torn_pair g.D.Disk j.side j.current c.seal_frames.new.disk j.other file staged holds.aside.shut run

pub returns-clause-any_moment : goal.returns-clause-any_moment
returns-clause-any_moment g c file staged holds =
    let j = c.args.self.now in
    let frames = c.deref.result.now in
    let all = all_bytes staged j.next holds.written j.buffer.items frames c.put.new.buffer.items holds.bytes c.deref.ensures.value c.put.ensures.items in
    let run = some_staged (λ ss. EachMoment (g.D.Disk.past j.current) (g.D.Disk.past c.seal_frames.new.disk) (g.D.Disk.held c.seal_frames.new.disk) (IsTornGroup file ss)) staged j.count holds.count c.if-self-eq0.false
    (λ p ps is. c.seal_frames.ensures.any_moment file p ps j.next holds.written (staged_honest j file staged holds).0 holds.stages holds.long
    (subst (λ ss. holds.written ++ frames ≡ framed_all j.next ss ++ 0 ∷ []) is all) (subst (λ ss. IsWithin (with_payloads file ss)) is holds.within)) in
    weaker_pair (both g.D.Disk j.side j.current j.other) (both g.D.Disk j.side c.seal_frames.new.disk j.other) (IsTornPair file staged) (FindsNoneOrAll file staged) (torn_found file staged) (torn_pair g.D.Disk j.side j.current c.seal_frames.new.disk j.other file staged holds.aside.shut run)

pub returns-clause-behind : goal.returns-clause-behind
returns-clause-behind g c file staged holds =
    let j = c.args.self.now in
    let frames = c.deref.result.now in
    let all = all_bytes staged j.next holds.written j.buffer.items frames c.put.new.buffer.items holds.bytes c.deref.ensures.value c.put.ensures.items in
    let place = some_staged (λ ss. j.end + j.written + length frames + 1 ≡ length (file_text (with_payloads file ss)) + 1) staged j.count holds.count c.if-self-eq0.false
    (λ p ps is. ap (λ n. n + 1) (behind_place file p ps j.end j.next j.written holds.written frames holds.stages.end_is holds.stages.next_is holds.long (subst (λ ss. holds.written ++ frames ≡ framed_all j.next ss ++ 0 ∷ []) is all))) in
    behind_pair g.D.Disk j.side j.current c.seal_frames.new.disk j.other (length (file_text (with_payloads file staged)) + 1)
    (subst (λ n. EachMoment (g.D.Disk.past j.current) (g.D.Disk.past c.seal_frames.new.disk) (g.D.Disk.held c.seal_frames.new.disk) (IsSameFrom n (g.D.Disk.held j.current).seen)) place
    (c.seal_frames.ensures.behind file j.next holds.written (staged_honest j file staged holds).0 holds.stages holds.long))

pub returns-clause-ok : goal.returns-clause-ok
returns-clause-ok g c file staged holds =
    let j = c.args.self.now in
    let frames = c.deref.result.now in
    let all = all_bytes staged j.next holds.written j.buffer.items frames c.put.new.buffer.items holds.bytes c.deref.ensures.value c.put.ensures.items in
    let rests = some_staged (λ ss. Rests (g.D.Disk.held c.seal_frames.new.disk) (j.end + j.written + length frames) (j.next + length ss) (with_payloads file ss)) staged j.count holds.count c.if-self-eq0.false
    (λ p ps is. c.in-Ok.ensures.ok file p ps j.next holds.written (staged_honest j file staged holds).0 holds.stages holds.long
    (subst (λ ss. holds.written ++ frames ≡ framed_all j.next ss ++ 0 ∷ []) is all) (subst (λ ss. IsWithin (with_payloads file ss)) is holds.within)) in
    let end_is : j.end + j.written + length frames ≡ j.end + (j.written + c.len.result) = omega (arith, ap length c.deref.ensures.value) in
    let next_is : j.next + length staged ≡ j.next + j.count = ap (λ n. j.next + n) holds.count in
    sealed _ (with_payloads file staged) (subst IsTrue (sym c.seal_frames.ensures.honesty) (staged_honest j file staged holds).0) (staged_honest j file staged holds).1 holds.running holds.salt_is holds.generation_is
    (rests_as _ _ _ _ _ (with_payloads file staged) end_is next_is rests) holds.aside refl refl c.clear.ensures.items

pub returns-clause-quiet : goal.returns-clause-quiet
returns-clause-quiet g c = let j = c.args.self.now in quiet_here g.D.Disk j.side j.current c.seal_frames.new.disk j.other c.in-Ok.ensures.cause.passed

pub returns-clause-later : goal.returns-clause-later
returns-clause-later g c = let j = c.args.self.now in fell_here g.D.Disk j.side j.current c.seal_frames.new.disk j.other c.seal_frames.ensures.cause.later

pub returns-in_default-clause-later : goal.returns-in_default-clause-later
returns-in_default-clause-later g c = let j = c.args.self.now in fell_here g.D.Disk j.side j.current c.seal_frames.new.disk j.other c.seal_frames.ensures.cause.later

pub returns-clause-honesty : goal.returns-clause-honesty
returns-clause-honesty g c = let j = c.args.self.now in honest_here g.D.Disk j.side j.current c.seal_frames.new.disk j.other c.seal_frames.ensures.honesty

pub returns-in_default-clause-honesty : goal.returns-in_default-clause-honesty
returns-in_default-clause-honesty g c = let j = c.args.self.now in honest_here g.D.Disk j.side j.current c.seal_frames.new.disk j.other c.seal_frames.ensures.honesty

pub returns-in_default-clause-cause : goal.returns-in_default-clause-cause
returns-in_default-clause-cause g c = let j = c.args.self.now in fault_here g.D.Disk j.side j.current c.seal_frames.new.disk j.other c.in_default.ensures.cause.failed
