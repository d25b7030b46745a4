use Rattle.std.proofs.Common.{rules}
use Rattle.sb_rules.proofs.Choosing.{failed_among, all_taken}
use Rattle.sb_rules.proofs.taken.copies_by.Goals as goal

pub returns-in-Err : goal.returns-in-Err
returns-in-Err c =
    failed_among c.args.dead_on_fault c.args.message.now c.args.rules.now c.rules.rule-index c.rule-item.result c.failed.result c.rules-test.true c.rule-item.is (search rules) c.rules.invariant.sound c.failed.ensures

pub returns : goal.returns
returns c =
    all_taken c.args.dead_on_fault c.args.message.now c.args.rules.now c.rules.rule-index c.rules.plain c.rules.changed.items _ c.rules-test.false c.rules.invariant.sound c.rules.invariant.plain c.rules.invariant.changed
    c.in_ok-with_plain.ensures
