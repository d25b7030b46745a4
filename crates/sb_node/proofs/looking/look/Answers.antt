use Rattle.std.proofs.Common.{ap, sym, ◌∙◌}
use Rattle.sb_journal.specs.Disks.{disks_of, opened_on}
use Rattle.sb_engine.specs.Engines.{engine_state}
use Rattle.sb_node.specs.Recovery.{reaches, IsReplayed}
use Rattle.sb_node.proofs.Reaching.{judged_consistent, judged_recovers, judged_damaged}
use Rattle.sb_node.proofs.looking.look.Goals as goal

pub returns-clause-seen : goal.returns-clause-seen
returns-clause-seen g c =
    let was = disks_of g.D.Disk c.args.disk_a.now c.args.disk_b.now in
    let j = c.in-Ok.judged in
    let is = c.in-Ok.ensures.ok in
    let s = engine_state c.reached_by-reached.result.engine in
    let leads : IsReplayed s j.salt is.base is.payloads = λ place. is.taken place ∙ ap (λ e. reaches (engine_state e)) (sym c.reached_by-reached.ensures.engine) in
    record {
      start = s;
      last = c.reached_by-reached.result.last;
      found = judged_recovers _ _ (opened_on was c.args.salt) j is s leads c.reached_by-reached.result.last c.reached_by-reached.ensures.last;
      consistent = judged_consistent _ _ (opened_on was c.args.salt) j is s leads;
      numbers = c.numbers_of-numbers.ensures;
    }

pub returns-in-Err-clause-broken : goal.returns-in-Err-clause-broken
returns-in-Err-clause-broken g c honest side place is =
    let was = disks_of g.D.Disk c.args.disk_a.now c.args.disk_b.now in
    judged_damaged _ (opened_on was c.args.salt) side place (c.in-Err.ensures.damaged honest side place is) (λ salt base refused. refused) (λ salt base before p refused. refused)

pub numbers_of-numbers-requires : goal.numbers_of-numbers-requires
numbers_of-numbers-requires g c =
    let was = disks_of g.D.Disk c.args.disk_a.now c.args.disk_b.now in
    let j = c.in-Ok.judged in
    let is = c.in-Ok.ensures.ok in
    let s = engine_state c.reached_by-reached.result.engine in
    let leads : IsReplayed s j.salt is.base is.payloads = λ place. is.taken place ∙ ap (λ e. reaches (engine_state e)) (sym c.reached_by-reached.ensures.engine) in
    ∣ judged_consistent _ _ (opened_on was c.args.salt) j is s leads ∣₁
