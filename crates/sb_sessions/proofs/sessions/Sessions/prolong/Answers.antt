use Rattle.std.proofs.Common.{◌≡◌, ◌∙◌, List, find, refl, sym, ap, subst, arith}
use Rattle.std.specs.Option.{option_map}
use Rattle.sb_machine.specs.Leaves.{is_held_under, prolonged_holder}
use Rattle.sb_machine.specs.declared.state.Session.{Session}
use Rattle.sb_sessions.specs.Ends.{end_of, least_end}
use Rattle.sb_sessions.specs.Moved.{IsMoved}
use Rattle.sb_sessions.proofs.LeastEnd.{prolonged_moves}
use Rattle.sb_sessions.proofs.Sorted.{sorted_kept}
use Rattle.sb_sessions.proofs.sessions.Sessions.prolong.Goals as goal

pub invariant_of-self : goal.invariant_of-self
invariant_of-self c = (
  omega (arith, c.self.invariant.0, c.prolong_row.ensures.len, c.prolong_row.ensures.capacity),
  sorted_kept c.args.lock (λ x. record x { holder = prolonged_holder c.args.until x.holder }) (λ x. refl) c.self.inside.sessions.items c.prolong_row.new.rows.items c.prolong_row.ensures.rows c.self.invariant.1,
  subst (λ (l : List Session). c.least_moved-self-inside.result ≡ least_end l) c.deref-2.ensures.value c.least_moved-self-inside.ensures,
)

pub least_moved-self-inside-requires : goal.least_moved-self-inside-requires
least_moved-self-inside-requires c = subst (λ (l : List Session). IsMoved c.self.inside.least c.end_under-was.result c.args.until l) (sym c.deref-2.ensures.value) (prolonged_moves c.args.lock c.args.until c.self.inside.least c.end_under-was.result c.self.inside.sessions.items c.prolong_row.new.rows.items c.self.invariant.2 (c.end_under-was.ensures ∙ ap (λ (l : List Session). option_map end_of (find (is_held_under c.args.lock) l)) c.deref.ensures.value) c.prolong_row.ensures.rows)
