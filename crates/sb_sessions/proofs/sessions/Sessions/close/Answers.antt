use Rattle.std.proofs.Common.{None, ◌≡◌, ◌∙◌, List, find, refl, sym, ap, subst, arith}
use Rattle.std.specs.Option.{option_map}
use Rattle.sb_machine.specs.Leaves.{is_held_under}
use Rattle.sb_machine.specs.declared.state.Session.{Session}
use Rattle.sb_sessions.specs.Ends.{end_of, least_end, never}
use Rattle.sb_sessions.specs.Moved.{IsMoved}
use Rattle.sb_sessions.proofs.LeastEnd.{closed_moves}
use Rattle.sb_sessions.proofs.Sorted.{sorted_remembered}
use Rattle.sb_sessions.proofs.sessions.Sessions.close.Goals as goal

pub invariant_of-self : goal.invariant_of-self
invariant_of-self c = (
  omega (arith, c.self.invariant.0, c.close_row.ensures.len, c.close_row.ensures.capacity),
  sorted_remembered c.args.lock (λ x. record x { holder = None }) (λ x. refl) c.self.inside.sessions.items c.close_row.new.rows.items c.close_row.ensures.rows c.self.invariant.1,
  subst (λ (l : List Session). c.least_moved-self-inside.result ≡ least_end l) c.deref-2.ensures.value c.least_moved-self-inside.ensures,
)

pub least_moved-self-inside-requires : goal.least_moved-self-inside-requires
least_moved-self-inside-requires c = subst (λ (l : List Session). IsMoved c.self.inside.least c.end_under-was.result never l) (sym c.deref-2.ensures.value) (closed_moves c.args.lock c.self.inside.least c.end_under-was.result c.self.inside.sessions.items c.close_row.new.rows.items c.self.invariant.2 (c.end_under-was.ensures ∙ ap (λ (l : List Session). option_map end_of (find (is_held_under c.args.lock) l)) c.deref.ensures.value) c.close_row.ensures.rows)
