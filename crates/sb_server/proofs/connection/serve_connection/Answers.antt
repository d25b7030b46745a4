use Rattle.std.proofs.Common.{◌≡◌, ◌⊎◌, ℕ, subst, sym, refl, inl, inr}
use Rattle.sb_server.specs.declared.doing.Doing.{Doing}
use Rattle.sb_server.specs.declared.doing.Doing.TheVariants.{Reads}
use Rattle.sb_server.specs.declared.doing.Went.{Went}
use Rattle.sb_server.specs.declared.doing.Went.TheVariants.{NothingYet, Blocked}
use Rattle.sb_server.specs.Doings.{IsDoing, IsNext}
use Rattle.sb_server.specs.Talks.{Start, Here, ReadsOut, here_with, start_of}
use Rattle.sb_server.proofs.Turning.{talks_from, no_inbox, unread}
use Rattle.sb_server.proofs.Reading.{read_to}
use Rattle.sb_server.proofs.connection.serve_connection.Goals as goal

-- Where nothing could be read, and where it is blocked, it goes on with what it did.
behind_pause : (IsReading : ℕ → Type 0) (s : Start) (n : Here) (went : Went) (doing : Doing) → (went ≡ NothingYet) ⊎ (went ≡ Blocked) → IsNext IsReading s n went doing → IsDoing IsReading s n doing
behind_pause IsReading s n went doing (inl is) next =
    let here : ReadsOut IsReading s n × (doing ≡ Reads) = subst (λ (w : Went). IsNext IsReading s n w doing) is next in
    subst (λ (d : Doing). IsDoing IsReading s n d) (sym here.1) here.0.0
behind_pause IsReading s n went doing (inr is) next = subst (λ (w : Went). IsNext IsReading s n w doing) is next

pub returns-in_default-clause-ends : goal.returns-in_default-clause-ends
returns-in_default-clause-ends g c = (_, unread _, no_inbox (g.C.Clock.reads c.args.clock.now) _)

pub loop-init : goal.loop-init
loop-init g c = record { desk = c.requires; order = tt; since = tt; doing = talks_from (g.C.Clock.reads c.args.clock.now) _ _ _ c.in-Ok.ensures.requests (c.in-Ok.ensures.stand _) }

pub loop-preserved-in-On : goal.loop-preserved-in-On
loop-preserved-in-On g c =
    let s : Start = start_of g.N.Conn c.args.access.now c.args.limits c.args.pass c.args.conn.now in
    let n : Here = here_with g.N.Conn c.step_through-next.result.0 c.step_through-next.new.inbox c.step_through-next.new.conn in
    let next : IsNext (g.C.Clock.reads c.args.clock.now) s n c.look-went.result.0 c.step_through-next.new.doing = c.look-went.ensures.next s n refl refl c.loop.invariant.since (c.step_through-next.ensures.steps s refl c.loop.invariant.doing) in
    let here = subst (λ (w : Went). IsNext (g.C.Clock.reads c.args.clock.now) s n w c.step_through-next.new.doing) c.in-On.is next in
    record {
      desk = c.step_through-next.ensures.desk;
      order = c.step_through-next.ensures.order;
      since = c.look-went.ensures.since c.loop.invariant.since;
      doing = here;
    }

pub loop-preserved : goal.loop-preserved
loop-preserved g c =
    let s : Start = start_of g.N.Conn c.args.access.now c.args.limits c.args.pass c.args.conn.now in
    let n : Here = here_with g.N.Conn c.step_through-next.result.0 c.step_through-next.new.inbox c.step_through-next.new.conn in
    let next : IsNext (g.C.Clock.reads c.args.clock.now) s n c.look-went.result.0 c.step_through-next.new.doing = c.look-went.ensures.next s n refl refl c.loop.invariant.since (c.step_through-next.ensures.steps s refl c.loop.invariant.doing) in
    record {
      desk = c.step_through-next.ensures.desk;
      order = c.step_through-next.ensures.order;
      since = c.look-went.ensures.since c.loop.invariant.since;
      doing = behind_pause (g.C.Clock.reads c.args.clock.now) s n c.look-went.result.0 c.step_through-next.new.doing c.in-NothingYet.is next;
    }

pub returns-in-Over-clause-ends : goal.returns-in-Over-clause-ends
returns-in-Over-clause-ends g c =
    let s : Start = start_of g.N.Conn c.args.access.now c.args.limits c.args.pass c.args.conn.now in
    let n : Here = here_with g.N.Conn c.step_through-next.result.0 c.step_through-next.new.inbox c.step_through-next.new.conn in
    let next : IsNext (g.C.Clock.reads c.args.clock.now) s n c.look-went.result.0 c.step_through-next.new.doing = c.look-went.ensures.next s n refl refl c.loop.invariant.since (c.step_through-next.ensures.steps s refl c.loop.invariant.doing) in
    let here = subst (λ (w : Went). IsNext (g.C.Clock.reads c.args.clock.now) s n w c.step_through-next.new.doing) c.in-Over.is next in
    (n.stand, read_to c.step_through-next.new.inbox (g.N.Conn.left c.step_through-next.new.conn), here)
