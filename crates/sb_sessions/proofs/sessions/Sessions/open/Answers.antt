use Rattle.std.proofs.Common.{◌∙◌, ℕ, List, ap, sym, arith}
use Rattle.std.specs.Prelude.{is_none}
use Rattle.sb_machine.specs.Sessions.{holder_in}
use Rattle.sb_machine.specs.declared.state.Session.{Session}
use Rattle.sb_sessions.specs.Sessions.{seating}
use Rattle.sb_sessions.proofs.LeastEnd.{opened_least}
use Rattle.sb_sessions.proofs.Sorted.{sorted_opened}
use Rattle.sb_sessions.proofs.sessions.Sessions.open.Goals as goal

pub invariant_of-self : goal.invariant_of-self
invariant_of-self c = (
  omega (arith, c.self.invariant.0, c.open_row.ensures.len, c.open_row.ensures.capacity, ap (λ v. v.spare) c.self.view_is, c.requires.room),
  sorted_opened c.args.lock c.args.id c.args.until c.self.inside.sessions.items c.open_row.new.rows.items c.open_row.ensures.rows c.self.invariant.1,
  opened_least c.args.lock c.args.id c.args.until c.self.inside.least c.least_opened-self-inside.result c.is_held-held.result c.self.inside.sessions.items c.open_row.new.rows.items (ap is_none (sym (ap (λ (l : List Session). holder_in c.as_str.result.now (seating l)) c.deref.ensures.value ∙ ap (λ (id : List ℕ). holder_in id (seating c.self.inside.sessions.items)) c.as_str.ensures)) ∙ c.is_held-held.ensures) c.self.invariant.2 c.open_row.ensures.rows c.least_opened-self-inside.ensures,
)
