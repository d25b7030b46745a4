use Rattle.std.proofs.Common.{◌≡◌, ℕ, ◌∙◌, refl, subst, arith}
use Rattle.sb_node.specs.Nodes.{node_state}
use Rattle.sb_app.specs.Drills.{DrillsSoFar}
use Rattle.sb_app.proofs.Drills.{drills_nothing}
use Rattle.sb_app.proofs.drilling.make_calls.Goals as goal

pub loop-n-init : goal.loop-n-init
loop-n-init g c = record {
  drills = drills_nothing c.args.seed c.args.node.now (record { memory = c.nothing.result; accepted = 0; refused = 0 }) c.requires.stands c.requires.running c.requires.consistent c.nothing.ensures refl refl;
  within = omega arith;
  origin = refl;
  goes_on = refl;
  aside = refl;
}

pub loop-n-preserved : goal.loop-n-preserved
loop-n-preserved g c = record {
  drills = c.in-Ok.ensures.ok (node_state c.args.node.now) c.loop-n.invariant.drills;
  within = omega (arith, c.loop-n-test.true);
  origin = c.make_call.ensures.origin ∙ c.loop-n.invariant.origin;
  goes_on = c.make_call.ensures.goes_on ∙ c.loop-n.invariant.goes_on;
  aside = c.make_call.ensures.aside ∙ c.loop-n.invariant.aside;
}

pub returns-in-Err-clause-err : goal.returns-in-Err-clause-err
returns-in-Err-clause-err g c = (c.loop-n.n, c.loop-n-test.true, c.in-Err.ensures.err (node_state c.args.node.now) c.loop-n.invariant.drills)

pub returns-clause-ok : goal.returns-clause-ok
returns-clause-ok g c =
    let all : c.loop-n.n ≡ c.args.calls = omega (arith, c.loop-n-test.false, c.loop-n.invariant.within) in
    subst (λ (k : ℕ). DrillsSoFar c.args.seed (node_state c.args.node.now) k c.loop-n.node c.loop-n.so_far) all c.loop-n.invariant.drills
