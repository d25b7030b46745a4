use Rattle.std.proofs.Common.{refl, arith}
use Rattle.sb_sessions.proofs.LeastEnd.{written_stays}
use Rattle.sb_sessions.proofs.Sorted.{sorted_remembered}
use Rattle.sb_sessions.proofs.sessions.Sessions.write.Goals as goal

pub invariant_of-self : goal.invariant_of-self
invariant_of-self c = (
  omega (arith, c.self.invariant.0, c.write_row.ensures.len, c.write_row.ensures.capacity),
  sorted_remembered c.args.lock (λ x. record x { state = c.args.state }) (λ x. refl) c.self.inside.sessions.items c.write_row.new.rows.items c.write_row.ensures.rows c.self.invariant.1,
  written_stays c.args.lock c.self.inside.least c.args.state c.self.inside.sessions.items c.write_row.new.rows.items c.self.invariant.2 c.write_row.ensures.rows,
)
