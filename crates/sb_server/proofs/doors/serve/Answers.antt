use Rattle.std.proofs.Common.{◌≡◌, true, ℕ, ◌<◌, List, length, sym, subst, arith, rules}
use Rattle.std.specs.Prelude.{All, slice_index_or}
use Rattle.sb_server.specs.declared.job.Job.{Job}
use Rattle.sb_server.specs.Serves.{HasPass, Did, WorkerDid, Worker, are_over}
use Rattle.sb_server.specs.Works.{ConnectionServed}
use Rattle.sb_server.proofs.Serving.{Crew, crew_of, all_manned, written, doors_fit, passes_fit, served, passes_kept}
use Rattle.sb_server.proofs.doors.serve.Goals as goal

pub serve_doors-requires-after_bounds : goal.serve_doors-requires-after_bounds
serve_doors-requires-after_bounds g c κs within =
    let pairs = c.pair_up-jobs.ensures in
    subst (λ (l : List (Job g.row.D.Denot g.row.D-Conn.Denot)). All (λ j. HasPass c.args.desk.now c.args.most j) l) (sym c.as_mut_slice.ensures.value) (all_manned c.args.desk.now c.args.most c.pair_up-jobs.result.items c.pair_up-jobs.new.passes.items c.args.passes.now.items pairs.passes pairs.manned c.requires.desk)

pub put_back-requires-clause-doors : goal.put_back-requires-clause-doors
put_back-requires-clause-doors g c =
    let old = c.pair_up-jobs.result in
    let new = c.serve_doors.new.jobs in
    let same : length new ≡ length old.items = search rules in
    doors_fit c.args.doors.now.items c.pair_up-jobs.new.doors.items old.items new _ _ _ c.pair_up-jobs.ensures.doors.0 c.pair_up-jobs.ensures.doors.1 (written old.len old.items new old.ok.0 same) same c.pair_up-jobs.ensures.capacity.0
    (omega (arith, c.args.doors.now.ok.0, c.args.doors.now.ok.1))

pub put_back-requires-clause-passes : goal.put_back-requires-clause-passes
put_back-requires-clause-passes g c =
    let old = c.pair_up-jobs.result in
    let new = c.serve_doors.new.jobs in
    let same : length new ≡ length old.items = search rules in
    passes_fit c.args.most c.args.passes.now.items c.pair_up-jobs.new.passes.items old.items new _ _ _ c.pair_up-jobs.ensures.passes c.pair_up-jobs.ensures.manned (written old.len old.items new old.ok.0 same) same c.pair_up-jobs.ensures.capacity.1
    (omega (arith, c.args.passes.now.ok.0, c.args.passes.now.ok.1))

pub put_back-requires-clause-over : goal.put_back-requires-clause-over
put_back-requires-clause-over g c =
    let Does : Worker g.row.D.Denot → Type 0 = WorkerDid g.D.Door (ConnectionServed g.D.Conn.Conn (g.C.Clock.reads c.args.clock.now) c.args.access.now c.args.limits) c.args.desk.now c.args.most in
    let old = c.pair_up-jobs.result in
    let new = c.serve_doors.new.jobs in
    let same : length new ≡ length old.items = search rules in
    let crew : Crew Does old.items new = crew_of Does old.items new same (subst (λ (l : List (Job g.row.D.Denot g.row.D-Conn.Denot)). (i : ℕ) (d : Job g.row.D.Denot g.row.D-Conn.Denot) → i < length l → Did Does (slice_index_or l i d) (slice_index_or new i d)) c.as_mut_slice.ensures.value c.serve_doors.ensures) in
    subst (λ (l : List (Job g.row.D.Denot g.row.D-Conn.Denot)). are_over l ≡ true) (sym (written old.len old.items new old.ok.0 same)) crew.over

pub returns-clause-serves : goal.returns-clause-serves
returns-clause-serves g c =
    let Does : Worker g.row.D.Denot → Type 0 = WorkerDid g.D.Door (ConnectionServed g.D.Conn.Conn (g.C.Clock.reads c.args.clock.now) c.args.access.now c.args.limits) c.args.desk.now c.args.most in
    let old = c.pair_up-jobs.result in
    let new = c.serve_doors.new.jobs in
    let spare = c.pair_up-jobs.new.passes.items in
    let between = c.pair_up-jobs.new.doors.items in
    let pairs = c.pair_up-jobs.ensures in
    let same : length new ≡ length old.items = search rules in
    let back = written old.len old.items new old.ok.0 same in
    let crew : Crew Does old.items new = crew_of Does old.items new same (subst (λ (l : List (Job g.row.D.Denot g.row.D-Conn.Denot)). (i : ℕ) (d : Job g.row.D.Denot g.row.D-Conn.Denot) → i < length l → Did Does (slice_index_or l i d) (slice_index_or new i d)) c.as_mut_slice.ensures.value c.serve_doors.ensures) in
    served Does old.items new spare c.args.passes.now.items c.put_back.new.passes.items c.args.doors.now.items between c.put_back.new.doors.items _ c.as_slice.result.now c.ending_of-ending.result pairs.passes pairs.doors.0 pairs.doors.1 crew back c.as_slice.ensures.value c.put_back.ensures.passes c.put_back.ensures.doors c.ending_of-ending.ensures

pub returns-clause-desk : goal.returns-clause-desk
returns-clause-desk g c =
    let Does : Worker g.row.D.Denot → Type 0 = WorkerDid g.D.Door (ConnectionServed g.D.Conn.Conn (g.C.Clock.reads c.args.clock.now) c.args.access.now c.args.limits) c.args.desk.now c.args.most in
    let old = c.pair_up-jobs.result in
    let new = c.serve_doors.new.jobs in
    let spare = c.pair_up-jobs.new.passes.items in
    let same : length new ≡ length old.items = search rules in
    let back = written old.len old.items new old.ok.0 same in
    let crew : Crew Does old.items new = crew_of Does old.items new same (subst (λ (l : List (Job g.row.D.Denot g.row.D-Conn.Denot)). (i : ℕ) (d : Job g.row.D.Denot g.row.D-Conn.Denot) → i < length l → Did Does (slice_index_or l i d) (slice_index_or new i d)) c.as_mut_slice.ensures.value c.serve_doors.ensures) in
    passes_kept Does c.args.desk.now (λ w x. x.of) old.items new _ spare c.args.passes.now.items c.put_back.new.passes.items c.pair_up-jobs.ensures.passes crew back c.put_back.ensures.passes c.requires.desk
