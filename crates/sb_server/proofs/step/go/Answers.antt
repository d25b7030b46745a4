use Rattle.std.proofs.Common.{◌≡◌, sym, subst, ℕ, ◌≤◌, length, rules, Bool, true}
use Rattle.sb_server.specs.declared.doing.Doing.{Doing}
use Rattle.sb_server.specs.declared.doing.Doing.TheVariants.{Calls, Writes}
use Rattle.sb_server.specs.declared.doing.Went.{Went}
use Rattle.sb_server.specs.declared.doing.Went.TheVariants.{On}
use Rattle.sb_server.specs.declared.script.Script.{Script}
use Rattle.sb_server.specs.Doings.{IsDoing, IsNext, behind, said_by, saying}
use Rattle.sb_server.specs.Reads.{stand_of}
use Rattle.sb_server.specs.Talks.{Here, here_with}
use Rattle.sb_server.proofs.Stepping.{wrote_all}
use Rattle.sb_server.proofs.step.go.Goals as goal

pub returns-then-outgoing-len-clause-steps : goal.returns-then-outgoing-len-clause-steps
returns-then-outgoing-len-clause-steps g c = λ s same d.
    let h : Here = here_with g.N.Conn c.args.pass c.args.inbox.now c.args.conn.now in
    subst (λ l. IsNext (g.C.Clock.reads c.args.clock.now) s (record { pass = c.args.pass; stand = stand_of c.args.inbox.now l; written = g.N.Conn.given c.write_on-went.new.conn; reads = g.N.Conn.reads c.write_on-went.new.conn; writes = g.N.Conn.writes c.write_on-went.new.conn }) c.write_on-went.result (Writes c.write_on-went.new.outgoing)) (sym c.write_on-went.ensures.left)
    (subst (λ (k : ℕ). IsNext (g.C.Clock.reads c.args.clock.now) s (record { pass = c.args.pass; stand = h.stand; written = g.N.Conn.given c.write_on-went.new.conn; reads = k; writes = g.N.Conn.writes c.write_on-went.new.conn }) c.write_on-went.result (Writes c.write_on-went.new.outgoing)) (sym c.write_on-went.ensures.reads)
    (c.write_on-went.ensures.steps h.pass h.stand h.reads s same (subst (λ (x : Doing). IsDoing (g.C.Clock.reads c.args.clock.now) s h x) c.in-Writes.is d)))

pub returns-in-Calls-clause-steps : goal.returns-in-Calls-clause-steps
returns-in-Calls-clause-steps g c = λ s same d.
    let h : Here = here_with g.N.Conn c.args.pass c.args.inbox.now c.args.conn.now in
    c.call_on-seat.ensures.steps h.stand h.written h.reads h.writes s same
    (subst (λ (x : Script). IsDoing (g.C.Clock.reads c.args.clock.now) s h (Calls x)) (sym c.take_script-script.ensures)
    (subst (λ (x : Doing). IsDoing (g.C.Clock.reads c.args.clock.now) s h x) c.in-Calls.is d))

pub returns-else-outgoing-len-clause-steps : goal.returns-else-outgoing-len-clause-steps
returns-else-outgoing-len-clause-steps g c = λ s same d.
    let low : length c.in-Writes.outgoing.bytes.items ≤ c.in-Writes.outgoing.at = search rules in
    let h : Here = here_with g.N.Conn c.args.pass c.args.inbox.now c.args.conn.now in
    subst (λ (w : Went). IsNext (g.C.Clock.reads c.args.clock.now) s h w c.turn-in-Writes.new.doing) (sym c.behind.ensures)
    (subst (λ (x : Doing). IsNext (g.C.Clock.reads c.args.clock.now) s h (behind c.in-Writes.outgoing.after) x) (sym c.turn-in-Writes.ensures)
    (wrote_all (g.C.Clock.reads c.args.clock.now) s h c.in-Writes.outgoing (subst (λ (x : Doing). IsDoing (g.C.Clock.reads c.args.clock.now) s h x) c.in-Writes.is d) low))

pub returns-else-not-say_on-clause-steps : goal.returns-else-not-say_on-clause-steps
returns-else-not-say_on-clause-steps g c = λ s same d.
    let h : Here = here_with g.N.Conn c.args.pass c.args.inbox.now c.args.conn.now in
    let yes : c.say_on.result ≡ true = search rules in
    let next : IsNext (g.C.Clock.reads c.args.clock.now) s h On (Calls c.say_on.new.script) =
    subst (λ (b : Bool). IsNext (g.C.Clock.reads c.args.clock.now) s h (said_by b) (saying b c.say_on.new.script c.in-Says.form c.in-Says.answer)) yes
    (c.say_on.ensures.steps h.pass h.stand h.written h.reads h.writes s same (subst (λ (x : Doing). IsDoing (g.C.Clock.reads c.args.clock.now) s h x) c.in-Says.is d)) in
    subst (λ (x : Doing). IsDoing (g.C.Clock.reads c.args.clock.now) s h x) (sym c.turn.ensures)
    (subst (λ (x : Script). IsDoing (g.C.Clock.reads c.args.clock.now) s h (Calls x)) (sym c.take_script-script-in-Says.ensures) next)
