use Rattle.std.proofs.Common.{sym, subst}
use Rattle.sb_server.specs.declared.job.Job.{Job}
use Rattle.sb_server.specs.Serves.{IsAtWork, HasCome}
use Rattle.sb_server.proofs.Rounds.{work_again, come_again}
use Rattle.sb_server.proofs.doors.collect_job.Goals as goal

pub returns-clause-work : goal.returns-clause-work
returns-clause-work g c = subst (λ (j : Job g.row.D.Denot g.row.D-Conn.Denot). IsAtWork g.D.Door.out c.args.desk.now j) (sym c.behind_steps.ensures.1) (work_again g.D.Door.out c.args.desk.now c.collect_far-went.new.job c.behind_steps.ensures.0 c.collect_far-went.ensures.work)

pub returns-clause-come : goal.returns-clause-come
returns-clause-come g c = λ most began was.
    subst (λ (j : Job g.row.D.Denot g.row.D-Conn.Denot). HasCome g.D.Door g.D.Conn.Conn (g.C.Clock.reads c.args.clock.now) c.args.access.now c.args.limits most began j) (sym c.behind_steps.ensures.1)
    (come_again g.D.Door g.D.Conn.Conn (g.C.Clock.reads c.args.clock.now) c.args.access.now c.args.limits most began c.collect_far-went.new.job c.behind_steps.ensures.0 (c.collect_far-went.ensures.come most began was))
