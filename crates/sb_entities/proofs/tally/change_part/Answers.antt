use Rattle.std.proofs.Common.{◌≡◌, length, arith, ap}
use Rattle.sb_entities.specs.Stores.{leaf_in}
use Rattle.sb_entities.proofs.Tallies.{tells}
use Rattle.sb_entities.proofs.tally.change_part.Goals as goal

pub returns-clause-tally : goal.returns-clause-tally
returns-clause-tally c =
    let copies : c.size-copies.result ≡ length (leaf_in c.args.part.now).copies = omega (arith, c.size-copies.ensures, ap length c.copies.ensures) in
    tells c.args.lock c.args.moment c.args.change c.tally_of.result (leaf_in c.args.part.now) (leaf_in c.change.new.self) c.change.ensures.leaf
    (omega (arith, c.tally_of.ensures.entered, copies)) (omega (arith, c.tally_of.ensures.ended, copies)) (omega (arith, c.tally_of.ensures.given, c.last-last.ensures))
