use Rattle.std.proofs.Common.{◌≡◌, [], refl, sym, subst, arith, append_assoc, length-append}
use Rattle.std.specs.Prelude.{IsTrue}
use Rattle.sb_journal.specs.Text.{head}
use Rattle.sb_journal.specs.Opened.{FindsFile}
use Rattle.sb_journal.specs.Crashes.{IsFilled}
use Rattle.sb_journal.specs.Disks.{Disks, on_side, EachPair, OneFault, NoneFell, SameHonesty}
use Rattle.sb_journal.specs.Journals.{journal_disks, fault_count}
use Rattle.sb_journal.proofs.Both.{quiet_then, later_then, honest_then}
use Rattle.sb_journal.proofs.Choices.{not_created}
use Rattle.sb_journal.proofs.Filling.{IsHidden, IsNone, filled_aside}
use Rattle.sb_journal.proofs.Holding.{staged_honest, stages_found}
use Rattle.sb_journal.proofs.Moments.{weaker_moments}
use Rattle.sb_journal.proofs.Pairs.{honest_both, reads_here}
use Rattle.sb_journal.proofs.Turning.{filling_pair, same_there, other_fault_of, next_place, next_leaves}
use Rattle.sb_journal.proofs.Staging.{stages_read}
use Rattle.sb_journal.proofs.journal.Journal.base_piece.Goals as goal

pub returns-in_default-clause-still : goal.returns-in_default-clause-still
returns-in_default-clause-still g c =
    let j = c.args.self.now in
    subst (λ (d : Disks). on_side j.side d ≡ on_side j.side (journal_disks j)) (sym c.fail_other.ensures.disks) (same_there g.D.Disk j.side j.current j.other c.fill_on.new.disk)

pub returns-in_default-clause-cause : goal.returns-in_default-clause-cause
returns-in_default-clause-cause g c =
    let j = c.args.self.now in
    subst (λ (d : Disks). OneFault (journal_disks j) d (fault_count c.fail_other.new.self)) (sym c.fail_other.ensures.disks) (other_fault_of g.D.Disk j.side j.current j.other c.fill_on.new.disk _ c.fail_other.ensures.count c.in_default.ensures.cause.failed)

pub returns-in_default-clause-later : goal.returns-in_default-clause-later
returns-in_default-clause-later g c =
    let j = c.args.self.now in
    subst (λ (d : Disks). NoneFell (journal_disks j) d) (sym c.fail_other.ensures.disks) (later_then g.D.Disk j.current j.other j.current c.fill_on.new.disk j.side (omega arith) c.fill_on.ensures.cause.later)

pub returns-in_default-clause-honesty : goal.returns-in_default-clause-honesty
returns-in_default-clause-honesty g c =
    let j = c.args.self.now in
    subst (λ (d : Disks). SameHonesty (journal_disks j) d) (sym c.fail_other.ensures.disks) (honest_then g.D.Disk j.current j.other j.current c.fill_on.new.disk j.side refl c.fill_on.ensures.honesty)

pub returns-in_default-clause-any_moment : goal.returns-in_default-clause-any_moment
returns-in_default-clause-any_moment g c file base holds =
    let j = c.args.self.now in
    let honest = staged_honest j file [] holds.holds in
    subst (λ (d : Disks). EachPair (journal_disks j) d (FindsFile file)) (sym c.fail_other.ensures.disks)
    (filling_pair g.D.Disk j.side j.current j.other c.fill_on.new.disk file (next_leaves j c.args.next.now file base holds) (weaker_moments _ _ _ IsHidden IsNone not_created (c.fill_on.ensures.any_moment _ honest.1 holds.filled)))

pub returns-clause-still : goal.returns-clause-still
returns-clause-still g c = let j = c.args.self.now in same_there g.D.Disk j.side j.current j.other c.fill_on.new.disk

pub returns-clause-quiet : goal.returns-clause-quiet
returns-clause-quiet g c = let j = c.args.self.now in quiet_then g.D.Disk j.current j.other j.current c.fill_on.new.disk j.side refl c.in-Ok.ensures.cause.passed

pub returns-clause-later : goal.returns-clause-later
returns-clause-later g c = let j = c.args.self.now in later_then g.D.Disk j.current j.other j.current c.fill_on.new.disk j.side (omega arith) c.fill_on.ensures.cause.later

pub returns-clause-honesty : goal.returns-clause-honesty
returns-clause-honesty g c = let j = c.args.self.now in honest_then g.D.Disk j.current j.other j.current c.fill_on.new.disk j.side refl c.fill_on.ensures.honesty

pub returns-clause-any_moment : goal.returns-clause-any_moment
returns-clause-any_moment g c file base holds =
    let j = c.args.self.now in
    let honest = staged_honest j file [] holds.holds in
    filling_pair g.D.Disk j.side j.current j.other c.fill_on.new.disk file (next_leaves j c.args.next.now file base holds) (weaker_moments _ _ _ IsHidden IsNone not_created (c.fill_on.ensures.any_moment _ honest.1 holds.filled))

pub returns-clause-ok : goal.returns-clause-ok
returns-clause-ok g c file base holds =
    let j = c.args.self.now in
    let n = c.args.next.now in
    let was = holds.holds in
    let bytes = c.args.bytes.now in
    let honest = staged_honest j file [] was in
    let more = c.in-Ok.ensures.ok _ honest.1 holds.filled (next_place j n file base holds) in
    let aside = filled_aside _ _ more in
    record {
      holds = record {
        honest = honest_both g.D.Disk j.side j.current c.fill_on.new.disk honest.0 (subst IsTrue (sym c.fill_on.ensures.honesty) honest.1);
        running = was.running;
        salt_is = was.salt_is;
        generation_is = was.generation_is;
        written = was.written;
        stages = was.stages;
        long = was.long;
        bytes = was.bytes;
        count = was.count;
        within = was.within;
        aside = aside;
        reads = reads_here g.D.Disk j.side j.current c.fill_on.new.disk file (stages_read _ _ _ file was.written was.stages) aside.seen;
        leaves = stages_found g.D.Disk j.side j.current c.fill_on.new.disk file _ _ was.written was.stages aside;
      };
      generation_is = holds.generation_is;
      filled = subst (λ l. IsFilled (g.D.Disk.held c.fill_on.new.disk) l) (append_assoc (head file.salt n.generation n.first n.base_length) base bytes) more;
      end_is = let end_is = holds.end_is in omega (arith, end_is, length-append base bytes);
    }
