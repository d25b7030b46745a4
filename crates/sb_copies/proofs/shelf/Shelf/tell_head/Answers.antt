use Rattle.std.proofs.Common.{◌∙◌, ◌==◌, ◌&&◌, ◌||◌, ap, sym, subst, arith, true}
use Rattle.sb_copies.specs.BySession.{HoldsSessions}
use Rattle.sb_copies.specs.Heads.{is_among, is_of_session, is_usual}
use Rattle.sb_copies.specs.Shelf.{AreInOrder, Shelved, copies_in}
use Rattle.sb_copies.proofs.OneRow.{heads_told}
use Rattle.sb_copies.proofs.Undue.{own_stays, undue_stays}
use Rattle.sb_copies.proofs.shelf.Shelf.tell_head.Goals as goal

pub invariant_of-self : goal.invariant_of-self
invariant_of-self c =
    let s = c.self.inside in (
      omega (arith, c.self.invariant.0),
      c.self.invariant.1,
      c.self.invariant.2,
      c.self.invariant.3,
      omega (arith, c.self.invariant.4, c.tell.ensures.spare),
      λ h. subst (λ l. HoldsSessions l (copies_in s.slots s.order.rows)) (sym (undue_stays c.hash_at-hash.result c.args.number true s.by_session.rows c.tell.new.by_session.rows c.tell.ensures.rows)) c.self.invariant.5 h,
      c.self.invariant.6,
      c.self.invariant.7,
      own_stays c.hash_at-hash.result c.args.number true s.by_session.rows c.tell.new.by_session.rows c.self.invariant.8 c.tell.ensures.rows,
      c.self.invariant.9,
      c.self.invariant.10,
      c.self.invariant.11,
    )

pub returns-clause-heads : goal.returns-clause-heads
returns-clause-heads c =
    let s = c.self.inside in
    let ordered : AreInOrder (copies_in s.slots s.order.rows) = subst (λ (v : Shelved). AreInOrder v.copies) (sym c.self.view_is) c.rises.ensures in
    λ n. heads_told s.by_session.rows (copies_in s.slots s.order.rows) ordered c.self.invariant.3 c.self.invariant.5 c.self.invariant.8 c.args.number (omega arith) c.hash_at-hash.result c.tell.new.by_session.rows c.hash_at-hash.ensures c.tell.ensures.rows n
    ∙ ap (λ (v : Shelved). (n == c.args.number && (is_usual c.args.number && is_of_session c.args.number v.copies)) || is_among n v.heads) c.self.view_is
