use Rattle.std.proofs.Common.{◌≤◌, [], ◌+◌, length, refl, sym, ◌∙◌, ap, subst, arith}
use Rattle.std.specs.Prelude.{IsTrue}
use Rattle.sb_journal.specs.Text.{next_file}
use Rattle.sb_journal.specs.Crashes.{IsAside}
use Rattle.sb_journal.specs.Turned.{IsTurnedPair}
use Rattle.sb_journal.specs.Disks.{Disks, EachStretch, AreQuiet, OneFault, NoneFell, SameHonesty}
use Rattle.sb_journal.specs.Journals.{journal_disks, fault_count}
use Rattle.sb_journal.proofs.Both.{quiet_then, later_then, honest_then}
use Rattle.sb_journal.proofs.Holding.{staged_honest, sealed}
use Rattle.sb_journal.proofs.Turned as turned
use Rattle.sb_journal.proofs.Turning as turning
use Rattle.sb_journal.proofs.journal.Journal.seal_base.Goals as goal

-- ---- where the new file's gate isn't opened

pub returns-in_default-clause-cause : goal.returns-in_default-clause-cause
returns-in_default-clause-cause g c =
    let j = c.args.self.now in
    subst (λ (d : Disks). OneFault (journal_disks j) d (fault_count c.fail_other.new.self)) (sym c.fail_other.ensures.disks) (turning.other_fault_of g.D.Disk j.side j.current j.other c.open_file.new.disk _ c.fail_other.ensures.count c.in_default.ensures.cause.failed)

pub returns-in_default-clause-later : goal.returns-in_default-clause-later
returns-in_default-clause-later g c =
    let j = c.args.self.now in
    subst (λ (d : Disks). NoneFell (journal_disks j) d) (sym c.fail_other.ensures.disks) (later_then g.D.Disk j.current j.other j.current c.open_file.new.disk j.side (omega arith) c.open_file.ensures.cause.later)

pub returns-in_default-clause-honesty : goal.returns-in_default-clause-honesty
returns-in_default-clause-honesty g c =
    let j = c.args.self.now in
    subst (λ (d : Disks). SameHonesty (journal_disks j) d) (sym c.fail_other.ensures.disks) (honest_then g.D.Disk j.current j.other j.current c.open_file.new.disk j.side refl c.open_file.ensures.honesty)

pub returns-in_default-clause-torn : goal.returns-in_default-clause-torn
returns-in_default-clause-torn g c file base holds =
    let j = c.args.self.now in
    let n = c.args.next in
    let honest = staged_honest j file [] holds.holds in
    let next = next_file file n.first base in
    let place = turning.next_place j n file base holds in
    subst (λ (d : Disks). EachStretch j.side (journal_disks j) d (IsTurnedPair file next)) (sym c.fail_other.ensures.disks)
    (turned.one_stretch g.D.Disk j.side j.current j.other c.open_file.new.disk file next holds.holds.stages.within (turning.next_within j n file base holds c.requires.whole) (omega arith) _ (turning.next_behind j n file base holds c.requires.whole) (turning.next_shut j n file base holds)
    (c.open_file.ensures.any_moment _ honest.1 holds.filled place))

pub returns-in_default-clause-any_moment : goal.returns-in_default-clause-any_moment
returns-in_default-clause-any_moment g c file base holds = turned.found_stretch c.args.self.now.side _ _ file (next_file file c.args.next.first base) (returns-in_default-clause-torn g c file base holds)

-- ---- where the old one's gate isn't closed

pub returns-in_default-shut_aside-clause-cause : goal.returns-in_default-shut_aside-clause-cause
returns-in_default-shut_aside-clause-cause g c =
    let j = c.args.self.now in
    turning.current_fault_of g.D.Disk j.side j.current j.other c.shut_aside.new.disk c.open_file.new.disk c.in_default-shut_aside.ensures.cause.failed c.in-Ok.ensures.cause.passed

pub returns-in_default-shut_aside-clause-later : goal.returns-in_default-shut_aside-clause-later
returns-in_default-shut_aside-clause-later g c =
    let j = c.args.self.now in
    later_then g.D.Disk j.current j.other c.shut_aside.new.disk c.open_file.new.disk j.side c.shut_aside.ensures.cause.later c.open_file.ensures.cause.later

pub returns-in_default-shut_aside-clause-honesty : goal.returns-in_default-shut_aside-clause-honesty
returns-in_default-shut_aside-clause-honesty g c =
    let j = c.args.self.now in
    honest_then g.D.Disk j.current j.other c.shut_aside.new.disk c.open_file.new.disk j.side c.shut_aside.ensures.honesty c.open_file.ensures.honesty

pub returns-in_default-shut_aside-clause-torn : goal.returns-in_default-shut_aside-clause-torn
returns-in_default-shut_aside-clause-torn g c file base holds =
    let j = c.args.self.now in
    let n = c.args.next in
    let honest = staged_honest j file [] holds.holds in
    let next = next_file file n.first base in
    let place = turning.next_place j n file base holds in
    let stands = turning.stands_open j file holds.holds in
    turned.two_stretches g.D.Disk j.side j.current j.other c.open_file.new.disk file next holds.holds.stages.within (turning.next_within j n file base holds c.requires.whole) (omega arith) _ (turning.next_behind j n file base holds c.requires.whole) (turning.next_shut j n file base holds)
    (c.open_file.ensures.any_moment _ honest.1 holds.filled place) c.shut_aside.new.disk _ stands.tail stands.is (c.in-Ok.ensures.ok _ honest.1 holds.filled place) (c.shut_aside.ensures.any_moment honest.0 stands.rest stands.unshut)

pub returns-in_default-shut_aside-clause-any_moment : goal.returns-in_default-shut_aside-clause-any_moment
returns-in_default-shut_aside-clause-any_moment g c file base holds = turned.found_stretch c.args.self.now.side _ _ file (next_file file c.args.next.first base) (returns-in_default-shut_aside-clause-torn g c file base holds)

-- ---- where it is

pub returns-clause-quiet : goal.returns-clause-quiet
returns-clause-quiet g c =
    let j = c.args.self.now in
    subst (λ (d : Disks). AreQuiet (journal_disks j) d) (sym (turning.turned_disks g.D.Disk j.side _ c.shut_aside.new.disk c.open_file.new.disk _ _ c.facing-self.ensures c.swap.ensures.x_after c.swap.ensures.y_after))
    (quiet_then g.D.Disk j.current j.other c.shut_aside.new.disk c.open_file.new.disk j.side c.in-Ok-shut_aside.ensures.cause.passed c.in-Ok.ensures.cause.passed)

pub returns-clause-later : goal.returns-clause-later
returns-clause-later g c =
    let j = c.args.self.now in
    subst (λ (d : Disks). NoneFell (journal_disks j) d) (sym (turning.turned_disks g.D.Disk j.side _ c.shut_aside.new.disk c.open_file.new.disk _ _ c.facing-self.ensures c.swap.ensures.x_after c.swap.ensures.y_after))
    (later_then g.D.Disk j.current j.other c.shut_aside.new.disk c.open_file.new.disk j.side c.shut_aside.ensures.cause.later c.open_file.ensures.cause.later)

pub returns-clause-honesty : goal.returns-clause-honesty
returns-clause-honesty g c =
    let j = c.args.self.now in
    subst (λ (d : Disks). SameHonesty (journal_disks j) d) (sym (turning.turned_disks g.D.Disk j.side _ c.shut_aside.new.disk c.open_file.new.disk _ _ c.facing-self.ensures c.swap.ensures.x_after c.swap.ensures.y_after))
    (honest_then g.D.Disk j.current j.other c.shut_aside.new.disk c.open_file.new.disk j.side c.shut_aside.ensures.honesty c.open_file.ensures.honesty)

pub returns-clause-torn : goal.returns-clause-torn
returns-clause-torn g c file base holds =
    let j = c.args.self.now in
    let n = c.args.next in
    let honest = staged_honest j file [] holds.holds in
    let next = next_file file n.first base in
    let place = turning.next_place j n file base holds in
    let stands = turning.stands_open j file holds.holds in
    subst (λ (d : Disks). EachStretch j.side (journal_disks j) d (IsTurnedPair file next)) (sym (turning.turned_disks g.D.Disk j.side _ c.shut_aside.new.disk c.open_file.new.disk _ _ c.facing-self.ensures c.swap.ensures.x_after c.swap.ensures.y_after))
    (turned.two_stretches g.D.Disk j.side j.current j.other c.open_file.new.disk file next holds.holds.stages.within (turning.next_within j n file base holds c.requires.whole) (omega arith) _ (turning.next_behind j n file base holds c.requires.whole) (turning.next_shut j n file base holds)
    (c.open_file.ensures.any_moment _ honest.1 holds.filled place) c.shut_aside.new.disk _ stands.tail stands.is (c.in-Ok.ensures.ok _ honest.1 holds.filled place) (c.shut_aside.ensures.any_moment honest.0 stands.rest stands.unshut))

pub returns-clause-any_moment : goal.returns-clause-any_moment
returns-clause-any_moment g c file base holds = turned.found_stretch c.args.self.now.side _ _ file (next_file file c.args.next.first base) (returns-clause-torn g c file base holds)

pub returns-clause-ok : goal.returns-clause-ok
returns-clause-ok g c file base holds =
    let j = c.args.self.now in
    let n = c.args.next in
    let B = g.D.Disk in
    let honest = staged_honest j file [] holds.holds in
    let stands = turning.stands_open j file holds.holds in
    let on = c.swap.ensures.x_after in
    let off = c.swap.ensures.y_after in
    let at = ap B.held on ∙ c.in-Ok.ensures.ok _ honest.1 holds.filled (turning.next_place j n file base holds) in
    let aside = subst (λ d. IsAside (B.held d)) (sym off) (c.in-Ok-shut_aside.ensures.ok honest.0 stands.rest stands.unshut) in
    sealed _ (next_file file n.first base)
    (subst (λ d. IsTrue (B.honest d)) (sym on) (subst IsTrue (sym c.open_file.ensures.honesty) honest.1))
    (subst (λ d. IsTrue (B.honest d)) (sym off) (subst IsTrue (sym c.shut_aside.ensures.honesty) honest.0))
    holds.holds.running holds.holds.salt_is holds.generation_is (turning.next_rests j n file base holds c.requires.whole _ at) aside refl refl c.clear.ensures.items

pub invariant_of-self-2 : goal.invariant_of-self-2
invariant_of-self-2 g c =
    let n = c.args.next in
    let B = g.D.Disk in
    let on = c.swap.ensures.x_after in
    record {
      room = λ running honest. subst (λ d. n.end + 1 ≤ (B.held d).least) (sym on) (c.in-Ok.ensures.room (subst IsTrue c.open_file.ensures.honesty (subst (λ d. IsTrue (B.honest d)) on honest)));
      place = λ running honest. subst (λ d. n.end + 1 + 0 ≤ length (B.held d).seen) (sym on) (let long = c.in-Ok.ensures.long (subst IsTrue c.open_file.ensures.honesty (subst (λ d. IsTrue (B.honest d)) on honest)) in omega (arith, long));
      end_fits = let a = n.end_greatest in let b = n.fits in omega (arith, a, b);
      next_fits = let a = n.first_greatest in omega (arith, a);
      count_fits = λ running. omega arith;
      buffer_short = λ running. omega (arith, ap length c.clear.ensures.items);
      buffer_fits = let was = c.args.self.now.buffer_fits in let same = c.clear.ensures.capacity in omega (arith, was, same);
    }
