use denote.Param.{param}
use denote.Struct.Field.{u64-field}
use denote.Param.Send.{IsSync, sendable}
use Rattle.std.proofs.Common.{arith, ℕ, suc, List, [], ◌∷◌, ◌<◌, length, slice_index_or, IfOk, Result, Ok, Err}
use Rattle.sb_desk.specs.Lists.{Each}
use Rattle.std.proofs.Crossing.{crosses}
use Rattle.sb_machine.proofs.call.Call.TheSendSync as call
use Rattle.sb_desk.specs.contracts.desk.Desk as desk
use Rattle.sb_desktests.proofs.Crossing.{desk_sync}
use Rattle.sb_desktests.proofs.callers.on_threads.Goals as goal

pub map_vec-requires-sync-F : goal.map_vec-requires-sync-F
map_vec-requires-sync-F g c κs within =
    let r : IsSync (param 1 g.row.R) = c.type_bounds.sync-R in
    let d : IsSync (desk.the_row (param 0 g.row.V) g.V.Served) = desk_sync (param 0 g.row.V) g.V.Served c.type_bounds.send-V in
    let n : IsSync u64-field.row = search (crosses, sendable) depth 60 fits 20000 in
    record {
      shared = λ x b o ν. (
        (
          (λ q. tt, r.shared x.0.now x.0.ref_ptr.0 x.0.ref_ptr.1 _),
          (
            (λ q. tt, d.shared x.1.now x.1.ref_ptr.0 x.1.ref_ptr.1 _),
            (
              (λ q. tt, n.shared x.2.now x.2.ref_ptr.0 x.2.ref_ptr.1 ν),
              ((λ q. tt, call.the_sync.shared x.3.now x.3.ref_ptr.0 x.3.ref_ptr.1 _), tt),
            ),
          ),
        ),
        λ q. tt,
      );
    }

-- each that stands at some place is so, so that all are
each_at : {A : Type 0} (P : A → Type 0) (xs : List A) → ((i : ℕ) (d : A) → i < length xs → P (slice_index_or xs i d)) → Each P xs
each_at P [] at = tt
each_at P (x ∷ xs) at = (at 0 x (omega arith), each_at P xs (λ i d lt. at (suc i) d (omega (arith, lt))))

-- two things that hold where it came off, so that a third does
if_ok_so : {A E : Type 0} (P Q R : A → Type 0) → ((a : A) → P a → Q a → R a) → (r : Result A E) → IfOk r P → IfOk r Q → IfOk r R
if_ok_so P Q R so (Ok a) p q = so a p q
if_ok_so P Q R so (Err e) p q = tt

pub returns-clause-each : goal.returns-clause-each
returns-clause-each g c = if_ok_so _ _ _ (λ v len gives. each_at _ v.items (λ i d lt. (gives i d (omega (arith, len, lt))).1.call.met)) c.map_vec.result c.map_vec.ensures.len c.map_vec.ensures.each
