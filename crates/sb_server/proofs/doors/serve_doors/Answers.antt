use denote.Param.{param}
use denote.Param.Send.{IsSync}
use Rattle.std.proofs.Common.{◌+◌, sym, subst, arith}
use Rattle.std.proofs.Crossing.{sync}
use Rattle.std.specs.Prelude.{slice_index_or}
use Rattle.sb_desk.specs.contracts.desk.Desk as desk
use Rattle.sb_server.specs.declared.job.Job.{Job}
use Rattle.sb_server.specs.Serves.{HasPass, IsAtWork, Did, WorkerDid, Worker}
use Rattle.sb_server.specs.Works.{ConnectionServed}
use Rattle.sb_server.proofs.Crossing.{routes_sync, access_sync, limits_sync, desk_sync}
use Rattle.sb_server.proofs.Rounds.{work_first}
use Rattle.sb_server.proofs.Sharing.{moved}
use Rattle.sb_server.proofs.doors.serve_doors.Goals as goal

pub for_each_chunk_mut-requires-sync-F : goal.for_each_chunk_mut-requires-sync-F
for_each_chunk_mut-requires-sync-F g c κs within =
    let r : IsSync (param 1 g.row.R) = c.type_bounds.sync-R in
    let k : IsSync (param 2 g.row.C) = c.type_bounds.sync-C in
    let l : IsSync (param 3 g.row.L) = c.type_bounds.sync-L in
    let d : IsSync (desk.the_row (param 0 g.row.V) g.V.Served) = desk_sync (param 0 g.row.V) g.V.Served c.type_bounds.send-V in
    record {
      shared = λ x b o ν. (
        (
          (λ q. tt, r.shared x.0.now x.0.ref_ptr.0 x.0.ref_ptr.1 _),
          (
            (λ q. tt, sync.shared x.1.now x.1.ref_ptr.0 x.1.ref_ptr.1 ν),
            (
              (λ q. tt, routes_sync.shared x.2.now x.2.ref_ptr.0 x.2.ref_ptr.1 _),
              (
                (λ q. tt, access_sync.shared x.3.now x.3.ref_ptr.0 x.3.ref_ptr.1 _),
                (
                  (λ q. tt, limits_sync.shared x.4.now x.4.ref_ptr.0 x.4.ref_ptr.1 ν),
                  (
                    (λ q. tt, d.shared x.5.now x.5.ref_ptr.0 x.5.ref_ptr.1 _),
                    ((λ q. tt, k.shared x.6.now x.6.ref_ptr.0 x.6.ref_ptr.1 _), ((λ q. tt, l.shared x.7.now x.7.ref_ptr.0 x.7.ref_ptr.1 _), tt)),
                  ),
                ),
              ),
            ),
          ),
        ),
        λ q. tt,
      );
    }

pub for_each_chunk_mut-requires-clause-accepts : goal.for_each_chunk_mut-requires-clause-accepts
for_each_chunk_mut-requires-clause-accepts g c κs within start p chunk k d lt =
    subst (λ (j : Job g.row.D.Denot g.row.D-Conn.Denot). IsAtWork g.D.Door.out c.args.desk.now j) (sym (chunk.elements k d lt))
    (work_first g.D.Door.out c.args.desk.now c.args.most (slice_index_or c.args.jobs.now (start + k) d) (c.requires (start + k) d (omega (arith, chunk.in_bounds, lt))))

pub returns : goal.returns
returns g c = λ i d lt.
    let Does : Worker g.row.D.Denot → Type 0 = WorkerDid g.D.Door (ConnectionServed g.D.Conn.Conn (g.C.Clock.reads c.args.clock.now) c.args.access.now c.args.limits) c.args.desk.now c.args.most in
    let at = (c.for_each_chunk_mut.ensures.by_index i d lt).1 in
    moved (Did Does) (HasPass c.args.desk.now c.args.most) _ _ _ _ at.old_element at.new_element (c.requires i d lt) (at.call c.args.most at.offset d at.offset_in_chunk)
