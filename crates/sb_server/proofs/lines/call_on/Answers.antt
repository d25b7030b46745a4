use Rattle.std.proofs.Common.{[], ◌∷◌, refl, ap, ◌∙◌, sym, subst}
use Rattle.sb_server.specs.declared.body.LineAsk.{LineAsk}
use Rattle.sb_server.specs.declared.body.LineAsk.TheVariants.{NoCall}
use Rattle.sb_server.specs.declared.doing.Doing.{Doing}
use Rattle.sb_server.specs.declared.script.Script.{Script}
use Rattle.sb_server.specs.Doings.{IsDoing}
use Rattle.sb_server.specs.Responds.{LineCalled}
use Rattle.sb_server.specs.Talks.{Here}
use Rattle.sb_server.proofs.Calling.{called_next, line_posted, all_called, none_left}
use Rattle.sb_server.proofs.Going.{goes_by_none}
use Rattle.sb_server.proofs.lines.call_on.Goals as goal

pub returns-in-Some-Call-clause-steps : goal.returns-in-Some-Call-clause-steps
returns-in-Some-Call-clause-steps g c = λ stand written reads writes s same a.
    let h : Here = record { pass = c.args.pass; stand = stand; written = written; reads = reads; writes = writes } in
    let new : Script = record { left = c.pop_front.new.self; text = c.args.script.text; stopped = c.args.script.stopped; closes = c.args.script.closes } in
    line_posted (g.C.Clock.reads c.args.clock.now) s h c.post.result.posted c.post.result.pending c.args.script new c.in-Some-Call.line c.now.result a (c.in-Some-Call.ensures.items ∙ ap (λ (x : LineAsk). x ∷ c.pop_front.new.self.items) c.in-Some-Call.field-0-is) refl refl refl c.post.ensures.posted c.post.ensures.pending c.now.ensures

pub returns-in-Some-NoCall-clause-steps : goal.returns-in-Some-NoCall-clause-steps
returns-in-Some-NoCall-clause-steps g c = λ stand written reads writes s same a.
    let h : Here = record { pass = c.args.pass; stand = stand; written = written; reads = reads; writes = writes } in
    let new : Script = record { left = c.pop_front.new.self; text = c.args.script.text; stopped = c.args.script.stopped; closes = c.args.script.closes } in
    let call : LineCalled = record { line = NoCall c.in-Some-NoCall.answer; made = []; answer = c.in-Some-NoCall.answer } in
    subst (λ (d : Doing). IsDoing (g.C.Clock.reads c.args.clock.now) s h d) (sym c.turn.ensures)
    (called_next (g.C.Clock.reads c.args.clock.now) s h c.args.pass c.args.script new call _ a (c.in-Some-NoCall.ensures.items ∙ ap (λ (x : LineAsk). x ∷ c.pop_front.new.self.items) c.in-Some-NoCall.field-0-is) refl refl refl (goes_by_none c.args.pass) (refl, refl) refl)

pub returns-in-None-clause-steps : goal.returns-in-None-clause-steps
returns-in-None-clause-steps g c = λ stand written reads writes s same a.
    let h : Here = record { pass = c.args.pass; stand = stand; written = written; reads = reads; writes = writes } in
    subst (λ (d : Doing). IsDoing (g.C.Clock.reads c.args.clock.now) s h d) (sym c.turn-in-None.ensures)
    (all_called (g.C.Clock.reads c.args.clock.now) s h c.args.script c.telling_of_all.result a (none_left c.args.script.left.items c.pop_front.new.self.items c.in-None.ensures.items c.in-None.ensures.rest) c.telling_of_all.ensures)
