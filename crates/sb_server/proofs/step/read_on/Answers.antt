use Rattle.std.proofs.Common.{sym, subst, refl, [], ◌∷◌, arith}
use Rattle.sb_rest.specs.declared.access.Access.{Access}
use Rattle.sb_server.specs.declared.answer.Asked.{Asked}
use Rattle.sb_server.specs.declared.doing.Doing.{Doing}
use Rattle.sb_server.specs.declared.doing.Went.{Went}
use Rattle.sb_server.specs.declared.ending.Ending.{Ending}
use Rattle.sb_server.specs.Doings.{BeginsAs, IsAskedInOrder, IsNext, IsDoingInOrder, refusing, refused_by, went_by}
use Rattle.sb_server.specs.Asks.{AsksFor}
use Rattle.sb_server.specs.Talks.{Here, here_with}
use Rattle.sb_server.proofs.Responding.{asks_in_order}
use Rattle.sb_server.proofs.Stepping.{begun_next, posted_next, refused_next, next_in_order, refusing_in_order}
use Rattle.sb_server.proofs.Turning.{Reaches}
use Rattle.sb_server.proofs.step.read_on.Goals as goal

pub answer-requires-clause-order : goal.answer-requires-clause-order
answer-requires-clause-order g c = let came = c.in-Asked.ensures.comes in asks_in_order c.args.access.now came.0 c.in-Asked.ask came.1

pub returns-in-Posts-clause-steps : goal.returns-in-Posts-clause-steps
returns-in-Posts-clause-steps g c = λ s same t.
    let sent = c.in-Posts.sent in
    let h : Here = here_with g.N.Conn c.args.pass c.args.inbox.now c.args.conn.now in
    let n : Here = here_with g.N.Conn sent.posted.pass c.next.new.self c.next.new.conn in
    let came = c.in-Asked.ensures.comes in
    let reaches : Reaches h n (came.0 ∷ []) = record { takes = came.3; reads = c.next.ensures.later } in
    posted_next (g.C.Clock.reads c.args.clock.now) s h n came.0 c.in-Asked.ask c.in-Asked.closes sent.posted sent.pending t reaches (subst (λ (x : Access). AsksFor x came.0 c.in-Asked.ask) (sym same) came.1) came.2
    (subst (λ (x : Asked). BeginsAs (g.C.Clock.reads c.args.clock.now) c.args.pass c.in-Asked.ask c.in-Asked.closes x) c.in-Posts.is c.answer.ensures.begins) c.next.ensures.given (omega (arith, c.next.ensures.writes))

pub returns-in-Begins-clause-steps : goal.returns-in-Begins-clause-steps
returns-in-Begins-clause-steps g c = λ s same t.
    let begun = c.in-Begins.begun in
    let h : Here = here_with g.N.Conn c.args.pass c.args.inbox.now c.args.conn.now in
    let n : Here = here_with g.N.Conn c.in-Begins.pass c.next.new.self c.next.new.conn in
    let came = c.in-Asked.ensures.comes in
    let reaches : Reaches h n (came.0 ∷ []) = record { takes = came.3; reads = c.next.ensures.later } in
    subst (λ (w : Went). IsNext (g.C.Clock.reads c.args.clock.now) s n w c.begin.new.doing) (sym c.begin.ensures.went)
    (subst (λ (d : Doing). IsNext (g.C.Clock.reads c.args.clock.now) s n (went_by begun) d) (sym c.begin.ensures.doing)
    (begun_next (g.C.Clock.reads c.args.clock.now) s h n came.0 c.in-Asked.ask c.in-Asked.closes begun t reaches (subst (λ (x : Access). AsksFor x came.0 c.in-Asked.ask) (sym same) came.1) came.2
    (subst (λ (x : Asked). BeginsAs (g.C.Clock.reads c.args.clock.now) c.args.pass c.in-Asked.ask c.in-Asked.closes x) c.in-Begins.is c.answer.ensures.begins) c.next.ensures.given (omega (arith, c.next.ensures.writes))))

pub returns-in-Begins-clause-order : goal.returns-in-Begins-clause-order
returns-in-Begins-clause-order g c = subst IsDoingInOrder (sym c.begin.ensures.doing) (next_in_order c.in-Begins.begun (subst IsAskedInOrder c.in-Begins.is c.answer.ensures.in_order))

pub returns-in-Refused-clause-steps : goal.returns-in-Refused-clause-steps
returns-in-Refused-clause-steps g c = λ s same t.
    let h : Here = here_with g.N.Conn c.args.pass c.args.inbox.now c.args.conn.now in
    let n : Here = here_with g.N.Conn c.args.pass c.next.new.self c.next.new.conn in
    let came = c.in-Refused.ensures.comes in
    let reaches : Reaches h n [] = record { takes = came.0; reads = c.next.ensures.later } in
    subst (λ (w : Went). IsNext (g.C.Clock.reads c.args.clock.now) s n w c.refusing-went.new.doing) (sym c.refusing-went.ensures.went)
    (subst (λ (d : Doing). IsNext (g.C.Clock.reads c.args.clock.now) s n (refused_by c.refusal_bytes-bytes.result) d) (sym c.refusing-went.ensures.doing)
    (subst (λ (e : Ending). IsNext (g.C.Clock.reads c.args.clock.now) s n (refused_by c.refusal_bytes-bytes.result) (refusing c.refusal_bytes-bytes.result e c.args.doing.now)) (sym c.refusal_ending.ensures)
    (refused_next (g.C.Clock.reads c.args.clock.now) s h n c.in-Refused.fault c.refusal_bytes-bytes.result c.args.doing.now c.refusal_bytes-bytes.ensures t reaches came.1 refl c.next.ensures.given (omega (arith, c.next.ensures.writes)))))

pub returns-in-Refused-clause-order : goal.returns-in-Refused-clause-order
returns-in-Refused-clause-order g c = subst IsDoingInOrder (sym c.refusing-went.ensures.doing) (refusing_in_order _ _ c.args.doing.now (subst IsDoingInOrder (sym c.requires.reads) tt))
