use Rattle.std.proofs.Common.{subst, sym}
use Rattle.sb_server.specs.declared.answer.Asked.TheVariants.{Posts}
use Rattle.sb_server.specs.declared.ask.Ask.{Ask}
use Rattle.sb_server.specs.Doings.{BeginsAs}
use Rattle.sb_server.proofs.Responding.{no_line_begins, fault_begins}
use Rattle.sb_server.proofs.answer.answer.Goals as goal

pub returns-in-Once-clause-begins : goal.returns-in-Once-clause-begins
returns-in-Once-clause-begins g c = subst (λ (a : Ask). BeginsAs (g.C.Clock.reads c.args.clock.now) c.args.pass a c.args.closes (Posts c.post_once.result)) (sym c.in-Once.is) c.post_once.ensures.begins

pub returns-in-Patient-clause-begins : goal.returns-in-Patient-clause-begins
returns-in-Patient-clause-begins g c = subst (λ (a : Ask). BeginsAs (g.C.Clock.reads c.args.clock.now) c.args.pass a c.args.closes (Posts c.post_first-sent.result)) (sym c.in-Patient.is) c.post_first-sent.ensures.begins

pub returns-in-Line-clause-begins : goal.returns-in-Line-clause-begins
returns-in-Line-clause-begins g c = subst (λ (a : Ask). BeginsAs (g.C.Clock.reads c.args.clock.now) c.args.pass a c.args.closes (Posts c.post_once-in-Line.result)) (sym c.in-Line.is) c.post_once-in-Line.ensures.begins

pub returns-in-BadLine-clause-begins : goal.returns-in-BadLine-clause-begins
returns-in-BadLine-clause-begins g c = no_line_begins (g.C.Clock.reads c.args.clock.now) _ _ _ _ _ c.in-BadLine.is c.telling_of.ensures

pub returns-in-Fault-clause-begins : goal.returns-in-Fault-clause-begins
returns-in-Fault-clause-begins g c = fault_begins (g.C.Clock.reads c.args.clock.now) _ _ _ _ _ c.in-Fault.is c.telling_of-in-Fault.ensures
