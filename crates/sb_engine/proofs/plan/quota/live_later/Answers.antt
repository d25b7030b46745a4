use Rattle.std.proofs.Common.{◌≡◌, ◌+◌, arith}
use Rattle.sb_entities.specs.Stores.{space_in}
use Rattle.sb_machine.specs.Changes.{after_all}
use Rattle.sb_machine.specs.Namespace.{live}
use Rattle.sb_engine.proofs.Quotas.{live_behind}
use Rattle.sb_engine.proofs.plan.quota.live_later.Goals as goal

pub returns : goal.returns
returns c =
    let s = space_in c.args.space.now in
    let later = live (after_all c.args.moment c.args.changes.now s) in
    let all : later + c.ending.result ≡ c.args.before + c.entering.result = omega (arith, live_behind c.args.moment c.args.changes.now s c.requires.counted, c.ending.ensures, c.entering.ensures, c.requires.before) in
    c.later.ensures later all
