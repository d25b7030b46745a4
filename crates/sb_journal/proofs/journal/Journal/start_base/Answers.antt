use Rattle.std.proofs.Common.{◌≡◌, [], ◌+◌, refl, sym, ◌∙◌, ap, subst, arith}
use Rattle.std.specs.Prelude.{IsTrue}
use Rattle.std.proofs.lemmas.List.{append-nil}
use Rattle.sb_journal.specs.Text.{head, may_go_on}
use Rattle.sb_journal.specs.Opened.{FindsFile}
use Rattle.sb_journal.specs.Crashes.{IsFilled}
use Rattle.sb_journal.specs.Disks.{Disks, on_side, EachPair, OneFault, NoneFell, SameHonesty}
use Rattle.sb_journal.specs.Journals.{journal_disks, fault_count}
use Rattle.sb_journal.proofs.Both.{quiet_then, later_then, honest_then}
use Rattle.sb_journal.proofs.Filling.{filled_aside}
use Rattle.sb_journal.proofs.Holding.{staged_honest, stages_found}
use Rattle.sb_journal.proofs.Pairs.{honest_both, reads_here, started_pair}
use Rattle.sb_journal.proofs.Turning.{filling_pair, same_there, other_fault_of}
use Rattle.sb_journal.proofs.Staging.{stages_leave, stages_read}
use Rattle.sb_journal.proofs.journal.Journal.start_base.Goals as goal

-- ---- where nothing is done

pub returns-then-not-may-clause-any_moment : goal.returns-then-not-may-clause-any_moment
returns-then-not-may-clause-any_moment g c file holds = started_pair (journal_disks c.args.self.now) (FindsFile file) holds.leaves

pub returns-then-not-may-clause-may : goal.returns-then-not-may-clause-may
returns-then-not-may-clause-may g c file holds =
    let j = c.args.self.now in
    sym c.if-not-may.true ∙ c.is_next-may.ensures.value
    ∙ ap (λ k. may_go_on k j.next c.args.first c.args.base_length) holds.generation_is
    ∙ ap (λ k. may_go_on file.generation k c.args.first c.args.base_length) holds.stages.next_is

-- ---- where the file isn't begun

pub returns-in_default-clause-still : goal.returns-in_default-clause-still
returns-in_default-clause-still g c =
    let j = c.args.self.now in
    subst (λ (d : Disks). on_side j.side d ≡ on_side j.side (journal_disks j)) (sym c.fail_other.ensures.disks) (same_there g.D.Disk j.side j.current j.other c.begin_file.new.disk)

pub returns-in_default-clause-cause : goal.returns-in_default-clause-cause
returns-in_default-clause-cause g c =
    let j = c.args.self.now in
    subst (λ (d : Disks). OneFault (journal_disks j) d (fault_count c.fail_other.new.self)) (sym c.fail_other.ensures.disks) (other_fault_of g.D.Disk j.side j.current j.other c.begin_file.new.disk _ c.fail_other.ensures.count c.in_default.ensures.cause.failed)

pub returns-in_default-clause-later : goal.returns-in_default-clause-later
returns-in_default-clause-later g c =
    let j = c.args.self.now in
    subst (λ (d : Disks). NoneFell (journal_disks j) d) (sym c.fail_other.ensures.disks) (later_then g.D.Disk j.current j.other j.current c.begin_file.new.disk j.side (omega arith) c.begin_file.ensures.cause.later)

pub returns-in_default-clause-honesty : goal.returns-in_default-clause-honesty
returns-in_default-clause-honesty g c =
    let j = c.args.self.now in
    subst (λ (d : Disks). SameHonesty (journal_disks j) d) (sym c.fail_other.ensures.disks) (honest_then g.D.Disk j.current j.other j.current c.begin_file.new.disk j.side refl c.begin_file.ensures.honesty)

pub returns-in_default-clause-any_moment : goal.returns-in_default-clause-any_moment
returns-in_default-clause-any_moment g c file holds =
    let j = c.args.self.now in
    let honest = staged_honest j file [] holds in
    subst (λ (d : Disks). EachPair (journal_disks j) d (FindsFile file)) (sym c.fail_other.ensures.disks)
    (filling_pair g.D.Disk j.side j.current j.other c.begin_file.new.disk file (stages_leave _ j.end j.next file holds.written holds.stages) (c.begin_file.ensures.any_moment honest.1 holds.aside))

-- ---- where it is

pub returns-clause-still : goal.returns-clause-still
returns-clause-still g c = let j = c.args.self.now in same_there g.D.Disk j.side j.current j.other c.begin_file.new.disk

pub returns-clause-quiet : goal.returns-clause-quiet
returns-clause-quiet g c = let j = c.args.self.now in quiet_then g.D.Disk j.current j.other j.current c.begin_file.new.disk j.side refl c.in-Ok.ensures.cause.passed

pub returns-clause-later : goal.returns-clause-later
returns-clause-later g c = let j = c.args.self.now in later_then g.D.Disk j.current j.other j.current c.begin_file.new.disk j.side (omega arith) c.begin_file.ensures.cause.later

pub returns-clause-honesty : goal.returns-clause-honesty
returns-clause-honesty g c = let j = c.args.self.now in honest_then g.D.Disk j.current j.other j.current c.begin_file.new.disk j.side refl c.begin_file.ensures.honesty

pub returns-clause-any_moment : goal.returns-clause-any_moment
returns-clause-any_moment g c file holds =
    let j = c.args.self.now in
    let honest = staged_honest j file [] holds in
    filling_pair g.D.Disk j.side j.current j.other c.begin_file.new.disk file (stages_leave _ j.end j.next file holds.written holds.stages) (c.begin_file.ensures.any_moment honest.1 holds.aside)

pub returns-clause-may : goal.returns-clause-may
returns-clause-may g c file holds =
    let j = c.args.self.now in
    sym c.if-not-may.false ∙ c.is_next-may.ensures.value
    ∙ ap (λ k. may_go_on k j.next c.args.first c.args.base_length) holds.generation_is
    ∙ ap (λ k. may_go_on file.generation k c.args.first c.args.base_length) holds.stages.next_is

pub returns-clause-ok : goal.returns-clause-ok
returns-clause-ok g c file was =
    let j = c.args.self.now in
    let honest = staged_honest j file [] was in
    let begun = c.in-Ok.ensures.ok honest.1 in
    let aside = filled_aside _ _ begun in
    record {
      holds = record {
        honest = honest_both g.D.Disk j.side j.current c.begin_file.new.disk honest.0 (subst IsTrue (sym c.begin_file.ensures.honesty) honest.1);
        running = was.running;
        salt_is = was.salt_is;
        generation_is = was.generation_is;
        written = was.written;
        stages = was.stages;
        long = was.long;
        bytes = was.bytes;
        count = was.count;
        within = was.within;
        aside = aside;
        reads = reads_here g.D.Disk j.side j.current c.begin_file.new.disk file (stages_read _ _ _ file was.written was.stages) aside.seen;
        leaves = stages_found g.D.Disk j.side j.current c.begin_file.new.disk file _ _ was.written was.stages aside;
      };
      generation_is = ap (λ k. k + 1) was.generation_is;
      filled = subst (λ l. IsFilled (g.D.Disk.held c.begin_file.new.disk) l) (ap (λ k. head k (j.generation + 1) c.args.first c.args.base_length) was.salt_is ∙ sym (append-nil (head file.salt (j.generation + 1) c.args.first c.args.base_length))) begun;
      end_is = refl;
    }
