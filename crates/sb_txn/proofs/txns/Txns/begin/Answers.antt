use Rattle.std.proofs.Common.{◌<◌, ◌≤◌, ◌+◌, ◌-◌, List, ap, subst, sym, arith}
use Rattle.std.specs.Prelude.{vec_len, vec_capacity}
use Rattle.sb_machine.specs.Each.{Each}
use Rattle.sb_txn.specs.Txns.{Opened}
use Rattle.sb_txn.proofs.Kept.{begun_at}
use Rattle.sb_txn.proofs.txns.Txns.begin.Goals as goal

pub invariant_of-self : goal.invariant_of-self
invariant_of-self c =
    let before = c.self.inside in
    let above : Each (λ r. r.transaction.number < c.args.number) before.rows.items = subst (λ (l : List Opened). Each (λ r. r.transaction.number < c.args.number) l) (sym (ap (λ t. t.rows) c.self.view_is)) c.requires.rises in
    let room : vec_len c.push_reserved.new.self + (before.spare - 1) ≤ vec_capacity c.push_reserved.new.self = omega (arith, c.self.invariant.0, c.push_reserved.ensures.len, c.push_reserved.ensures.capacity, ap (λ t. t.spare) c.self.view_is, c.requires.room) in
    let rest =
    begun_at c.args.number c.args.entity c.args.deadline before.slots c.begin-row.result before.rows.items c.push_reserved.new.self.items before.keys c.begin-row.ensures.transaction c.begin-row.ensures.spare c.push_reserved.ensures.items above c.ranges.number.fits
    c.self.invariant.1 c.self.invariant.2 in
    (room, rest.0, rest.1)
