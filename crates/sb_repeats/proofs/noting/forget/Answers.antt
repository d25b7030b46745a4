use Rattle.std.proofs.Common.{rules, arith, ◌≡◌, ◌∙◌, ◌≤◌, true, false, refl, sym, subst, drop, List}
use Rattle.sb_index.specs.declared.row.Row.{Row}
use Rattle.sb_machine.specs.declared.state.AcceptedId.{AcceptedId}
use Rattle.std.specs.VecDeque.{deque_len}
use Rattle.sb_repeats.specs.Windows.{is_first_past}
use Rattle.sb_repeats.proofs.Forgetting.{Forgetting, forgetting_next, forgetting_start, forgotten_ids, forgotten_told}
use Rattle.sb_repeats.proofs.noting.forget.Goals as goal

pub past-init : goal.past-init
past-init c =
    let told = c.requires.told in
    (forgetting_start c.args.seconds c.args.moment c.args.ids.now.items c.args.known.now.rows told.order told.moments told.tells, omega arith, refl, refl)

pub past-preserved : goal.past-preserved
past-preserved c =
    let start = c.args.ids.now.items in
    let h = c.past.invariant in
    let past : is_first_past c.args.seconds c.args.moment c.past.ids.items ≡ true = search rules in
    let next = forgetting_next c.args.seconds c.args.moment c.past.ids.items c.past.known.rows start h.0 past in
    let kept : Forgetting c.args.seconds c.args.moment c.forget_front.new.ids.items c.forget_front.new.known.rows start =
    subst (λ (l : List AcceptedId). Forgetting c.args.seconds c.args.moment l c.forget_front.new.known.rows start) (sym c.forget_front.ensures.ids) (subst (λ (r : List Row). Forgetting c.args.seconds c.args.moment (drop 1 c.past.ids.items) r start) (sym c.forget_front.ensures.rows) next) in
    let len : deque_len c.forget_front.new.ids ≤ deque_len c.args.ids.now = let less = c.forget_front.ensures.len in let before = h.1 in omega (arith, less, before) in
    (kept, len, c.forget_front.ensures.capacity ∙ h.2, c.forget_front.ensures.nodes ∙ h.3)

pub returns-clause-ids : goal.returns-clause-ids
returns-clause-ids c =
    let off : is_first_past c.args.seconds c.args.moment c.past.ids.items ≡ false = search rules in
    forgotten_ids c.args.seconds c.args.moment c.past.ids.items c.past.known.rows c.args.ids.now.items c.past.invariant.0 off

pub returns-clause-told : goal.returns-clause-told
returns-clause-told c =
    let off : is_first_past c.args.seconds c.args.moment c.past.ids.items ≡ false = search rules in
    forgotten_told c.args.seconds c.args.moment c.past.ids.items c.past.known.rows c.args.ids.now.items c.past.invariant.0 off
