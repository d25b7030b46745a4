use Rattle.std.proofs.Common.{subst, sym, refl}
use Rattle.sb_server.specs.declared.doing.Doing.{Doing}
use Rattle.sb_server.specs.declared.doing.Went.{Went}
use Rattle.sb_server.specs.declared.stage.Guest.{Guest}
use Rattle.sb_server.specs.Doings.{IsDoing, IsNext}
use Rattle.sb_server.specs.Reads.{Stand}
use Rattle.sb_server.specs.Stages.{here_of}
use Rattle.sb_server.specs.Talks.{Here}
use Rattle.sb_server.proofs.work.behind_step.Goals as goal

pub returns-in-On-clause-goes : goal.returns-in-On-clause-goes
returns-in-On-clause-goes g c = λ s q limits since i.
    let new : Guest g.row.N.Denot = record c.args.guest.now { since = c.look-went.result.1 } in
    let n : Here = here_of g.N.Conn q new in
    let next : IsNext (g.C.Clock.reads c.args.clock.now) s n c.look-went.result.0 c.args.guest.now.doing = c.look-went.ensures.next s n limits refl since i in
    let here = subst (λ (w : Went). IsNext (g.C.Clock.reads c.args.clock.now) s n w c.args.guest.now.doing) c.in-On.is next in
    here

pub returns-in-NothingYet-clause-goes : goal.returns-in-NothingYet-clause-goes
returns-in-NothingYet-clause-goes g c = λ s q limits since i.
    let new : Guest g.row.N.Denot = record c.args.guest.now { since = c.look-went.result.1 } in
    let n : Here = here_of g.N.Conn q new in
    let next : IsNext (g.C.Clock.reads c.args.clock.now) s n c.look-went.result.0 c.args.guest.now.doing = c.look-went.ensures.next s n limits refl since i in
    let here = subst (λ (w : Went). IsNext (g.C.Clock.reads c.args.clock.now) s n w c.args.guest.now.doing) c.in-NothingYet.is next in
    let talks : IsDoing (g.C.Clock.reads c.args.clock.now) s n c.args.guest.now.doing = subst (λ (d : Doing). IsDoing (g.C.Clock.reads c.args.clock.now) s n d) (sym here.1) here.0.0 in
    subst (λ (stand : Stand). IsDoing (g.C.Clock.reads c.args.clock.now) s (record n { stand = stand }) c.args.guest.now.doing) (sym (c.rest.ensures (g.N.Conn.left c.args.guest.now.conn))) talks

pub returns-in-Blocked-clause-goes : goal.returns-in-Blocked-clause-goes
returns-in-Blocked-clause-goes g c = λ s q limits since i.
    let new : Guest g.row.N.Denot = record c.args.guest.now { since = c.look-went.result.1 } in
    let n : Here = here_of g.N.Conn q new in
    let next : IsNext (g.C.Clock.reads c.args.clock.now) s n c.look-went.result.0 c.args.guest.now.doing = c.look-went.ensures.next s n limits refl since i in
    let here = subst (λ (w : Went). IsNext (g.C.Clock.reads c.args.clock.now) s n w c.args.guest.now.doing) c.in-Blocked.is next in
    subst (λ (stand : Stand). IsDoing (g.C.Clock.reads c.args.clock.now) s (record n { stand = stand }) c.args.guest.now.doing) (sym (c.rest_blocked.ensures (g.N.Conn.left c.args.guest.now.conn))) here

pub returns-in-Over-clause-goes : goal.returns-in-Over-clause-goes
returns-in-Over-clause-goes g c = λ s q limits since i.
    let new : Guest g.row.N.Denot = record c.args.guest.now { since = c.look-went.result.1 } in
    let n : Here = here_of g.N.Conn q new in
    let next : IsNext (g.C.Clock.reads c.args.clock.now) s n c.look-went.result.0 c.args.guest.now.doing = c.look-went.ensures.next s n limits refl since i in
    let here = subst (λ (w : Went). IsNext (g.C.Clock.reads c.args.clock.now) s n w c.args.guest.now.doing) c.in-Over.is next in
    here
