use Rattle.std.proofs.Common.{ℕ, subst, arith, rules}
use Rattle.std.proofs.lemmas.List.{get_or_default}
use Rattle.std.specs.Prelude.{slice_index_or}
use Rattle.sb_server.specs.declared.job.Job.{Job}
use Rattle.sb_server.specs.Serves.{IsAtWork, HasCome}
use Rattle.sb_server.proofs.Rounds.{set_each, set_length}
use Rattle.sb_server.proofs.doors.collect_at.Goals as goal

pub returns-clause-work : goal.returns-clause-work
returns-clause-work g c = λ k d lt.
    set_each (λ (n : ℕ) (j : Job g.row.D.Denot g.row.D-Conn.Denot). IsAtWork g.D.Door.out c.args.desk.now j) c.args.jobs.now c.args.i c.collect_job.new.job d c.collect_job.ensures.work (λ n h. c.requires n d h) k (omega (arith, lt, set_length c.args.jobs.now c.args.i c.collect_job.new.job))

pub returns-clause-come : goal.returns-clause-come
returns-clause-come g c = λ most began k d lt was.
    set_each (λ (n : ℕ) (j : Job g.row.D.Denot g.row.D-Conn.Denot). HasCome g.D.Door g.D.Conn.Conn (g.C.Clock.reads c.args.clock.now) c.args.access.now c.args.limits most began (slice_index_or c.args.jobs.now n d) → HasCome g.D.Door g.D.Conn.Conn (g.C.Clock.reads c.args.clock.now) c.args.access.now c.args.limits most began j) c.args.jobs.now c.args.i c.collect_job.new.job d
    (subst (λ (x : Job g.row.D.Denot g.row.D-Conn.Denot). HasCome g.D.Door g.D.Conn.Conn (g.C.Clock.reads c.args.clock.now) c.args.access.now c.args.limits most began x → HasCome g.D.Door g.D.Conn.Conn (g.C.Clock.reads c.args.clock.now) c.args.access.now c.args.limits most began c.collect_job.new.job) (get_or_default c.args.jobs.now c.args.i _ d (search rules)) (c.collect_job.ensures.come most began))
    (λ n h o. o) k lt was
