use Rattle.std.proofs.Common.{◌≡◌, ◌∙◌, false, find, List, ap, sym, subst, arith}
use Rattle.std.specs.Option.{option_map}
use Rattle.sb_machine.specs.Leases.{is_ready}
use Rattle.sb_machine.specs.Leaves.{has_number}
use Rattle.sb_machine.specs.declared.state.StoredCopy.{StoredCopy}
use Rattle.sb_copies.specs.ByLock.{held_lock}
use Rattle.sb_copies.specs.BySession.{session_hash_of}
use Rattle.sb_copies.specs.Heads.{except, undue_rows}
use Rattle.sb_copies.specs.Shelf.{AreInOrder, Shelved, copies_in}
use Rattle.sb_copies.specs.Tally.{standing_at}
use Rattle.sb_copies.specs.UnderSession.{under_lock}
use Rattle.sb_copies.proofs.Below.{below_taken}
use Rattle.sb_copies.proofs.GroupChanges.{taken_so}
use Rattle.sb_copies.proofs.GroupMoves.{left_so, moved_lacks}
use Rattle.sb_copies.proofs.OneRow.{heads_taken}
use Rattle.sb_copies.proofs.SlotChanges.{taken_mirrors}
use Rattle.sb_copies.proofs.Undue.{own_taken, undue_taken}
use Rattle.sb_copies.proofs.Tallying.{tally_taken}
use Rattle.sb_copies.proofs.shelf.Shelf.take.Goals as goal

pub regroup-requires-clause-apart : goal.regroup-requires-clause-apart
regroup-requires-clause-apart c =
    let s = c.self.inside in
    let ordered : AreInOrder (copies_in s.slots s.order.rows) = subst (λ (v : Shelved). AreInOrder v.copies) (sym c.self.view_is) c.rises.ensures in
    let was : c.lock_at-held.result ≡ option_map held_lock (find (has_number c.args.number) (copies_in s.slots s.order.rows)) = subst (λ (v : Shelved). c.lock_at-held.result ≡ option_map held_lock (find (has_number c.args.number) v.copies)) (sym c.self.view_is) c.lock_at-held.ensures in
    moved_lacks held_lock (λ x. false) c.lock_at-held.result c.args.number s.by_lock.rows (copies_in s.slots s.order.rows) (omega arith) ordered c.self.invariant.3 was c.self.invariant.7

pub regroup-requires-2-clause-apart : goal.regroup-requires-2-clause-apart
regroup-requires-2-clause-apart c =
    let s = c.self.inside in
    let ordered : AreInOrder (copies_in s.slots s.order.rows) = subst (λ (v : Shelved). AreInOrder v.copies) (sym c.self.view_is) c.rises.ensures in
    let was_under : c.session_lock_at-under.result ≡ option_map under_lock (find (has_number c.args.number) (copies_in s.slots s.order.rows)) = subst (λ (v : Shelved). c.session_lock_at-under.result ≡ option_map under_lock (find (has_number c.args.number) v.copies)) (sym c.self.view_is) c.session_lock_at-under.ensures in
    moved_lacks under_lock (λ x. false) c.session_lock_at-under.result c.args.number s.under.rows (copies_in s.slots s.order.rows) (omega arith) ordered c.self.invariant.3 was_under c.self.invariant.10

pub invariant_of-self : goal.invariant_of-self
invariant_of-self c =
    let s = c.self.inside in
    let before : List StoredCopy = copies_in s.slots s.order.rows in
    let after : List StoredCopy = copies_in c.take_row.new.slots c.take_row.new.order.rows in
    let ordered : AreInOrder before = subst (λ (v : Shelved). AreInOrder v.copies) (sym c.self.view_is) c.rises.ensures in
    let was : c.lock_at-held.result ≡ option_map held_lock (find (has_number c.args.number) (copies_in s.slots s.order.rows)) = subst (λ (v : Shelved). c.lock_at-held.result ≡ option_map held_lock (find (has_number c.args.number) v.copies)) (sym c.self.view_is) c.lock_at-held.ensures in
    let was_under : c.session_lock_at-under.result ≡ option_map under_lock (find (has_number c.args.number) (copies_in s.slots s.order.rows)) = subst (λ (v : Shelved). c.session_lock_at-under.result ≡ option_map under_lock (find (has_number c.args.number) v.copies)) (sym c.self.view_is) c.session_lock_at-under.ensures in
    let stood_so : c.standing_at-stood.result ≡ standing_at c.args.number (copies_in s.slots s.order.rows) = subst (λ (v : Shelved). c.standing_at-stood.result ≡ standing_at c.args.number v.copies) (sym c.self.view_is) c.standing_at-stood.ensures in (
      omega (arith, c.self.invariant.0, c.take_row.ensures.fewer, c.take_row.ensures.capacity, c.take_row.ensures.spare),
      c.take_row.ensures.count,
      taken_mirrors s.expires c.args.number s.slots c.take_row.new.slots s.order.rows c.take_row.new.order.rows c.self.invariant.2 ordered c.take_row.ensures.rows c.take_row.ensures.copies,
      below_taken 18446744073709551616 c.args.number before after c.self.invariant.3 c.take_row.ensures.copies,
      omega (arith, c.self.invariant.4, c.take.ensures.spare, c.take_row.ensures.spare),
      taken_so session_hash_of (λ (x : StoredCopy). is_ready x.standing) c.args.number c.hash_at-hash.result (undue_rows s.by_session.rows) (undue_rows c.take.new.index.rows) before after (omega arith) ordered c.self.invariant.3 c.hash_at-hash.ensures c.self.invariant.5 (undue_taken c.hash_at-hash.result c.args.number s.by_session.rows c.take.new.index.rows c.take.ensures.rows) c.take_row.ensures.copies,
      omega (arith, c.self.invariant.6, c.regroup.ensures.spare, c.take_row.ensures.spare),
      left_so held_lock (λ x. false) c.lock_at-held.result c.args.number s.by_lock.rows c.regroup.new.index.rows before after (omega arith) ordered c.self.invariant.3 was c.self.invariant.7 c.regroup.ensures.rows c.take_row.ensures.copies,
      own_taken c.hash_at-hash.result c.args.number s.by_session.rows c.take.new.index.rows c.self.invariant.8 c.take.ensures.rows,
      omega (arith, c.self.invariant.9, c.regroup-2.ensures.spare, c.take_row.ensures.spare),
      left_so under_lock (λ x. false) c.session_lock_at-under.result c.args.number s.under.rows c.regroup-2.new.index.rows before after (omega arith) ordered c.self.invariant.3 was_under c.self.invariant.10 c.regroup-2.ensures.rows c.take_row.ensures.copies,
      tally_taken c.args.number c.standing_at-stood.result s.tally c.gone-self-inside.result before after stood_so c.self.invariant.11 c.gone-self-inside.ensures c.take_row.ensures.copies,
    )

pub returns-clause-heads : goal.returns-clause-heads
returns-clause-heads c =
    let s = c.self.inside in
    let ordered : AreInOrder (copies_in s.slots s.order.rows) = subst (λ (v : Shelved). AreInOrder v.copies) (sym c.self.view_is) c.rises.ensures in
    heads_taken s.by_session.rows (copies_in s.slots s.order.rows) ordered c.self.invariant.3 c.self.invariant.5 c.self.invariant.8 c.args.number (omega arith) c.hash_at-hash.result c.take.new.index.rows c.hash_at-hash.ensures c.take.ensures.rows
    ∙ ap (λ (v : Shelved). except c.args.number v.heads) c.self.view_is
