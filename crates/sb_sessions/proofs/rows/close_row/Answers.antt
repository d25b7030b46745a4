use Rattle.std.proofs.Common.{◌≡◌, Bool, true, false, subst, None}
use Rattle.std.specs.Prelude.{IfSome, is_none}
use Rattle.std.specs.List.{slice_get}
use Rattle.sb_machine.specs.Leaves.{is_held_under, remembered}
use Rattle.sb_machine.proofs.Places.{nothing}
use Rattle.sb_sessions.proofs.Seats.{close_gone, close_left}
use Rattle.sb_sessions.proofs.rows.close_row.Goals as goal

pub returns-in_default-clause-rows : goal.returns-in_default-clause-rows
returns-in_default-clause-rows c = nothing (is_held_under c.args.lock) (λ x. remembered (record x { holder = None })) c.args.rows.now.items _ c.deref.ensures.value c.in_default.ensures

pub returns-then-is_stateless-clause-rows : goal.returns-then-is_stateless-clause-rows
returns-then-is_stateless-clause-rows c =
    let state : IfSome (slice_get c.deref-2.result.now c.in-Some.place) (λ x. true ≡ is_none x.state) = subst (λ (b : Bool). IfSome (slice_get c.deref-2.result.now c.in-Some.place) (λ x. b ≡ is_none x.state)) c.if-is_stateless.true c.is_stateless.ensures in
    close_gone c.args.lock c.in-Some.place c.args.rows.now.items _ _ c.remove.new.self.items c.deref.ensures.value c.deref-2.ensures.value c.in-Some.ensures state c.remove.ensures.items

pub returns-clause-rows : goal.returns-clause-rows
returns-clause-rows c =
    let state : IfSome (slice_get c.deref-2.result.now c.in-Some.place) (λ x. false ≡ is_none x.state) = subst (λ (b : Bool). IfSome (slice_get c.deref-2.result.now c.in-Some.place) (λ x. b ≡ is_none x.state)) c.if-is_stateless.false c.is_stateless.ensures in
    close_left c.args.lock c.in-Some.place c.args.rows.now.items _ _ c.leave_at.new.rows.items c.deref.ensures.value c.deref-2.ensures.value c.in-Some.ensures state c.leave_at.ensures.rows
