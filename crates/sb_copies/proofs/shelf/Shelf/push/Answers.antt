use Rattle.std.proofs.Common.{◌≡◌, ◌≤◌, ◌<◌, ◌+◌, length, ◌∷◌, ◌++◌, [], ◌∙◌, false, List, ap, sym, subst, arith}
use Rattle.sb_index.specs.Rows.{Lacks}
use Rattle.sb_index.specs.declared.row.Row.{Row}
use Rattle.sb_machine.specs.Leases.{is_ready}
use Rattle.sb_machine.specs.declared.state.StoredCopy.{StoredCopy}
use Rattle.sb_copies.specs.ByLock.{held_lock}
use Rattle.sb_copies.specs.BySession.{session_hash_of}
use Rattle.sb_copies.specs.Grouped.{group_key}
use Rattle.sb_copies.specs.Heads.{undue_rows}
use Rattle.sb_copies.specs.Shelf.{AreBelow, Shelved, copies_in}
use Rattle.sb_copies.specs.UnderSession.{under_lock}
use Rattle.sb_copies.proofs.Below.{below_put}
use Rattle.sb_copies.proofs.Finding.{number_lacks}
use Rattle.sb_copies.proofs.Grouped.{group_lacks, put_so}
use Rattle.sb_copies.proofs.SlotChanges.{put_led, put_long, put_mirrors}
use Rattle.sb_copies.proofs.Undue.{heads_put, own_put, undue_lacks, undue_put, undue_rising}
use Rattle.sb_copies.proofs.Tallying.{put_fits, tally_put}
use Rattle.sb_copies.proofs.shelf.Shelf.push.Goals as goal

pub insert-requires-clause-apart : goal.insert-requires-clause-apart
insert-requires-clause-apart c =
    let s = c.self.inside in
    let above : AreBelow c.args.copy.number (copies_in s.slots s.order.rows) = subst (λ (v : Shelved). AreBelow c.args.copy.number v.copies) (sym c.self.view_is) c.requires.above in
    subst (λ (r : Row). Lacks r.key s.order.rows) (sym c.row_of.ensures) (number_lacks s.expires s.slots c.args.copy.number s.order.rows c.self.invariant.2 above)

pub put-requires-clause-apart : goal.put-requires-clause-apart
put-requires-clause-apart c =
    let s = c.self.inside in
    let above : AreBelow c.args.copy.number (copies_in s.slots s.order.rows) = subst (λ (v : Shelved). AreBelow c.args.copy.number v.copies) (sym c.self.view_is) c.requires.above in
    λ h. undue_lacks (group_key h c.args.copy.number) s.by_session.rows (group_lacks session_hash_of (λ (x : StoredCopy). is_ready x.standing) h c.args.copy.number (undue_rows s.by_session.rows) (copies_in s.slots s.order.rows) (omega arith) above c.self.invariant.5)

pub put_held-requires-clause-apart : goal.put_held-requires-clause-apart
put_held-requires-clause-apart c =
    let s = c.self.inside in
    let above : AreBelow c.args.copy.number (copies_in s.slots s.order.rows) = subst (λ (v : Shelved). AreBelow c.args.copy.number v.copies) (sym c.self.view_is) c.requires.above in
    λ h. group_lacks held_lock (λ x. false) h c.args.copy.number s.by_lock.rows (copies_in s.slots s.order.rows) (omega arith) above c.self.invariant.7

pub put_under-requires-clause-apart : goal.put_under-requires-clause-apart
put_under-requires-clause-apart c =
    let s = c.self.inside in
    let above : AreBelow c.args.copy.number (copies_in s.slots s.order.rows) = subst (λ (v : Shelved). AreBelow c.args.copy.number v.copies) (sym c.self.view_is) c.requires.above in
    λ h. group_lacks under_lock (λ x. false) h c.args.copy.number s.under.rows (copies_in s.slots s.order.rows) (omega arith) above c.self.invariant.10

above : (c : goal.After-insert_reserved) → AreBelow c.args.copy.number (copies_in c.self.inside.slots c.self.inside.order.rows)
above c = subst (λ (v : Shelved). AreBelow c.args.copy.number v.copies) (sym c.self.view_is) c.requires.above

one_more : (c : goal.After-insert_reserved) → copies_in c.insert_reserved.new.self c.insert.new.self.rows ≡ copies_in c.self.inside.slots c.self.inside.order.rows ++ c.args.copy ∷ []
one_more c =
    let s = c.self.inside in
    put_led s.expires c.vacant_key-key.result c.insert_reserved.result s.slots c.insert_reserved.new.self c.args.copy c.row_of.result s.order.rows c.insert.new.self.rows c.row_of.ensures
    (c.insert_reserved.ensures.key ∙ sym c.vacant_key-key.ensures.value) c.self.invariant.2 (above c) c.insert_reserved.ensures.was_vacant c.insert_reserved.ensures.updates c.insert.ensures.rows

pub returns-clause-copies : goal.returns-clause-copies
returns-clause-copies c = one_more c ∙ ap (λ (v : Shelved). v.copies ++ c.args.copy ∷ []) c.self.view_is

pub with_one-self-inside-requires : goal.with_one-self-inside-requires
with_one-self-inside-requires c =
    let s = c.self.inside in
    let fits : length (copies_in s.slots s.order.rows) + s.order.spare < 18446744073709551616 = subst (λ (v : Shelved). length v.copies + v.spare < 18446744073709551616) (sym c.self.view_is) c.fits.ensures in
    let room : 1 ≤ s.order.spare = subst (λ (v : Shelved). 1 ≤ v.spare) (sym c.self.view_is) c.requires.room in
    put_fits 18446744073709551616 s.tally (copies_in s.slots s.order.rows) c.self.invariant.11 (omega (arith, fits, room))

pub invariant_of-self : goal.invariant_of-self
invariant_of-self c =
    let s = c.self.inside in
    let before : List StoredCopy = copies_in s.slots s.order.rows in
    let after : List StoredCopy = copies_in c.insert_reserved.new.self c.insert.new.self.rows in
    let room : 1 ≤ s.order.spare = subst (λ (v : Shelved). 1 ≤ v.spare) (sym c.self.view_is) c.requires.room in (
      omega (arith, room, c.self.invariant.0, c.insert.ensures.spare, c.insert_reserved.ensures.len, c.insert_reserved.ensures.capacity),
      put_long _ _ c.row_of.result s.order.rows c.insert.new.self.rows c.insert.ensures.rows c.insert_reserved.ensures.len c.self.invariant.1,
      put_mirrors s.expires c.vacant_key-key.result c.insert_reserved.result s.slots c.insert_reserved.new.self c.args.copy c.row_of.result s.order.rows c.insert.new.self.rows c.row_of.ensures
          (c.insert_reserved.ensures.key ∙ sym c.vacant_key-key.ensures.value) c.self.invariant.2 (above c) c.insert_reserved.ensures.was_vacant c.insert_reserved.ensures.updates c.insert.ensures.rows,
      below_put 18446744073709551616 c.args.copy before after c.self.invariant.3 (omega arith) (one_more c),
      omega (arith, room, c.self.invariant.4, c.put.ensures.spare, c.insert.ensures.spare),
      put_so session_hash_of (λ (x : StoredCopy). is_ready x.standing) c.args.copy (undue_rows s.by_session.rows) (undue_rows c.put.new.by_session.rows) before after (omega arith) (undue_rising s.by_session.rows c.rises.ensures) (above c) c.self.invariant.5 (undue_put c.args.copy s.by_session.rows c.put.new.by_session.rows c.put.ensures.rows) (one_more c),
      omega (arith, room, c.self.invariant.6, c.put_held.ensures.spare, c.insert.ensures.spare),
      put_so held_lock (λ x. false) c.args.copy s.by_lock.rows c.put_held.new.by_lock.rows before after (omega arith) c.rises-2.ensures (above c) c.self.invariant.7 c.put_held.ensures.rows (one_more c),
      own_put c.args.copy s.by_session.rows c.put.new.by_session.rows c.self.invariant.8 c.put.ensures.rows,
      omega (arith, room, c.self.invariant.9, c.put_under.ensures.spare, c.insert.ensures.spare),
      put_so under_lock (λ x. false) c.args.copy s.under.rows c.put_under.new.under.rows before after (omega arith) c.rises-3.ensures (above c) c.self.invariant.10 c.put_under.ensures.rows (one_more c),
      tally_put c.args.copy s.tally c.with_one-self-inside.result before after c.self.invariant.11 c.with_one-self-inside.ensures (one_more c),
    )

pub returns-clause-heads : goal.returns-clause-heads
returns-clause-heads c = heads_put c.args.copy c.self.inside.by_session.rows c.put.new.by_session.rows c.put.ensures.rows ∙ ap (λ (v : Shelved). v.heads) c.self.view_is
