use Rattle.std.proofs.Common.{◌≤◌, [], ◌∷◌, ◌+◌, ◌^◌, refl, arith, length-append}
use Rattle.sb_journal.specs.Journals.{journal_disks}
use Rattle.sb_journal.proofs.Holding.{shut_finds, text_grows, more_bytes, more_within}
use Rattle.sb_journal.proofs.journal.Journal.add.Goals as goal

pub returns-in_default-clause-any_moment : goal.returns-in_default-clause-any_moment
returns-in_default-clause-any_moment g c file staged holds =
    shut_finds c.args.self.now file staged holds (journal_disks c.args.self.now) (journal_disks c.make_room.new.self) (c.make_room.ensures.any_moment file staged holds)

pub returns-clause-any_moment : goal.returns-clause-any_moment
returns-clause-any_moment g c file staged holds =
    shut_finds c.args.self.now file staged holds (journal_disks c.args.self.now) (journal_disks c.make_room.new.self) (c.make_room.ensures.any_moment file staged holds)

pub returns-in_default-clause-behind : goal.returns-in_default-clause-behind
returns-in_default-clause-behind g c file staged holds =
    c.make_room.ensures.behind file staged _ holds (text_grows file staged c.args.payload.now _ refl)

pub returns-clause-behind : goal.returns-clause-behind
returns-clause-behind g c file staged holds =
    c.make_room.ensures.behind file staged _ holds (text_grows file staged c.args.payload.now _ refl)

pub returns-clause-ok : goal.returns-clause-ok
returns-clause-ok g c file staged holds =
    let j = c.make_room.new.self in
    let p = c.args.payload.now in
    let there = c.in-Ok.ensures.ok file staged holds in
    let running = there.running in
    let few : j.next + j.count + 1 ≤ 2 ^ 64 = omega (arith, j.next_fits, j.end_fits, j.count_fits running, j.buffer_short running) in
    record {
      honest = there.honest;
      running = there.running;
      salt_is = there.salt_is;
      generation_is = there.generation_is;
      written = there.written;
      stages = there.stages;
      long = there.long;
      bytes = more_bytes staged j.next j.count p there.written j.buffer.items c.open_gate.new.buffer.items c.frame_behind.new.buffer.items there.count there.bytes c.open_gate.ensures.items c.frame_behind.ensures.items;
      count = let was = there.count in omega (arith, was, length-append staged (p ∷ []));
      within = more_within file staged p j.next j.count there.within c.requires.short there.stages.next_is there.count few;
      aside = there.aside;
      reads = there.reads;
      leaves = there.leaves;
    }
