use Rattle.std.proofs.Common.{◌≡◌, ◌≤◌, ◌<◌, ◌+◌, length, ◌∷◌, [], ◌∙◌, false, find, ℕ, Bool, Option, List, ap, refl, sym, subst, arith}
use Rattle.std.specs.Option.{option_map}
use Rattle.sb_machine.specs.Keyed.{changed}
use Rattle.sb_machine.specs.Leases.{is_ready}
use Rattle.sb_machine.specs.Leaves.{has_number}
use Rattle.sb_machine.specs.declared.state.StoredCopy.{StoredCopy}
use Rattle.sb_copies.specs.ByLock.{held_lock, locks_taken}
use Rattle.sb_copies.specs.BySession.{session_hash_of}
use Rattle.sb_copies.specs.Dues.{never}
use Rattle.sb_copies.specs.Grouped.{rows_taken, told_grouped}
use Rattle.sb_copies.specs.Heads.{except, undue_rows}
use Rattle.sb_copies.specs.Shelf.{AreInOrder, Shelved, copies_in}
use Rattle.sb_copies.specs.Tally.{standing_at}
use Rattle.sb_copies.specs.UnderSession.{under_lock}
use Rattle.sb_copies.proofs.Below.{below_changed}
use Rattle.sb_copies.proofs.GroupChanges.{told_so}
use Rattle.sb_copies.proofs.GroupMoves.{moved_lacks, moved_so}
use Rattle.sb_copies.proofs.Mirror.{stood}
use Rattle.sb_copies.proofs.OneRow.{heads_marked}
use Rattle.sb_copies.proofs.Renewing.{fewer_under}
use Rattle.sb_copies.proofs.SlotChanges.{told_led, told_long, told_mirrors}
use Rattle.sb_copies.proofs.Undue.{own_marked, undue_marked}
use Rattle.sb_copies.proofs.Tallying.{moved_fits, tally_moved}
use Rattle.sb_copies.proofs.shelf.Shelf.stand.Goals as goal

pub returns-clause-copies : goal.returns-clause-copies
returns-clause-copies c = told_led c.from.result c.is_ready-marked.result c.due_at-due.result c.stand_row.new.slots c.self.inside.order.rows c.change.new.self.rows _ c.change.ensures.rows c.stand_row.ensures.copies ∙ ap (λ (v : Shelved). changed (has_number c.args.number) (λ x. record x { count = c.args.count; standing = c.args.standing } ∷ []) v.copies) c.self.view_is

pub regroup-requires-clause-apart : goal.regroup-requires-clause-apart
regroup-requires-clause-apart c =
    let s = c.self.inside in
    let ordered : AreInOrder (copies_in s.slots s.order.rows) = subst (λ (v : Shelved). AreInOrder v.copies) (sym c.self.view_is) c.rises.ensures in
    let was : c.lock_at-held.result ≡ option_map held_lock (find (has_number c.args.number) (copies_in s.slots s.order.rows)) = subst (λ (v : Shelved). c.lock_at-held.result ≡ option_map held_lock (find (has_number c.args.number) v.copies)) (sym c.self.view_is) c.lock_at-held.ensures in
    moved_lacks held_lock (λ x. false) c.lock_at-held.result c.args.number s.by_lock.rows (copies_in s.slots s.order.rows) (omega arith) ordered c.self.invariant.3 was c.self.invariant.7

pub regroup-requires-2-clause-apart : goal.regroup-requires-2-clause-apart
regroup-requires-2-clause-apart c =
    let s = c.self.inside in
    let ordered : AreInOrder (copies_in s.slots s.order.rows) = subst (λ (v : Shelved). AreInOrder v.copies) (sym c.self.view_is) c.rises.ensures in
    let was_under : c.session_lock_at-under.result ≡ option_map under_lock (find (has_number c.args.number) (copies_in s.slots s.order.rows)) = subst (λ (v : Shelved). c.session_lock_at-under.result ≡ option_map under_lock (find (has_number c.args.number) v.copies)) (sym c.self.view_is) c.session_lock_at-under.ensures in
    moved_lacks under_lock (λ x. false) c.session_lock_at-under.result c.args.number s.under.rows (copies_in s.slots s.order.rows) (omega arith) ordered c.self.invariant.3 was_under c.self.invariant.10

pub moved-self-inside-requires : goal.moved-self-inside-requires
moved-self-inside-requires c =
    let s = c.self.inside in
    let stood_so : c.standing_at-stood.result ≡ standing_at c.args.number (copies_in s.slots s.order.rows) = subst (λ (v : Shelved). c.standing_at-stood.result ≡ standing_at c.args.number v.copies) (sym c.self.view_is) c.standing_at-stood.ensures in
    let fits : length (copies_in s.slots s.order.rows) + s.order.spare < 18446744073709551616 = subst (λ (v : Shelved). length v.copies + v.spare < 18446744073709551616) (sym c.self.view_is) c.fits.ensures in
    moved_fits c.args.number 18446744073709551616 c.standing_at-stood.result s.tally (copies_in s.slots s.order.rows) stood_so c.self.invariant.11 (omega (arith, fits))

pub invariant_of-self : goal.invariant_of-self
invariant_of-self c =
    let s = c.self.inside in
    let before : List StoredCopy = copies_in s.slots s.order.rows in
    let after : List StoredCopy = copies_in c.stand_row.new.slots c.change.new.self.rows in
    let ordered : AreInOrder before = subst (λ (v : Shelved). AreInOrder v.copies) (sym c.self.view_is) c.rises.ensures in
    let was : c.lock_at-held.result ≡ option_map held_lock (find (has_number c.args.number) (copies_in s.slots s.order.rows)) = subst (λ (v : Shelved). c.lock_at-held.result ≡ option_map held_lock (find (has_number c.args.number) v.copies)) (sym c.self.view_is) c.lock_at-held.ensures in
    let was_under : c.session_lock_at-under.result ≡ option_map under_lock (find (has_number c.args.number) (copies_in s.slots s.order.rows)) = subst (λ (v : Shelved). c.session_lock_at-under.result ≡ option_map under_lock (find (has_number c.args.number) v.copies)) (sym c.self.view_is) c.session_lock_at-under.ensures in
    let room : locks_taken c.args.standing ≤ s.locks = subst (λ (v : Shelved). locks_taken c.args.standing ≤ v.locks) (sym c.self.view_is) c.requires.room in
    let same : rows_taken c.lock_of.result ≡ locks_taken c.args.standing = ap rows_taken c.lock_of.ensures in
    let fewer : rows_taken c.session_lock_of-under_now.result ≤ locks_taken c.args.standing = subst (λ (o : Option ℕ). rows_taken o ≤ locks_taken c.args.standing) (sym c.session_lock_of-under_now.ensures) (fewer_under c.args.standing) in
    let stood_so : c.standing_at-stood.result ≡ standing_at c.args.number (copies_in s.slots s.order.rows) = subst (λ (v : Shelved). c.standing_at-stood.result ≡ standing_at c.args.number v.copies) (sym c.self.view_is) c.standing_at-stood.ensures in
    let g : StoredCopy → StoredCopy = λ x. record x { count = c.args.count; standing = c.args.standing } in
    let stands : after ≡ changed (has_number c.args.number) (λ x. g x ∷ []) before = told_led c.from.result c.is_ready-marked.result c.due_at-due.result c.stand_row.new.slots c.self.inside.order.rows c.change.new.self.rows _ c.change.ensures.rows c.stand_row.ensures.copies in (
      omega (arith, c.self.invariant.0, c.change.ensures.spare, c.stand_row.ensures.len, c.stand_row.ensures.capacity),
      c.stand_row.ensures.len ∙ told_long c.from.result c.is_ready-marked.result c.due_at-due.result _ s.order.rows c.change.new.self.rows c.change.ensures.rows c.self.invariant.1,
      told_mirrors s.expires c.from.result c.args.number c.is_ready-marked.result c.due_at-due.result g s.slots c.stand_row.new.slots s.order.rows c.change.new.self.rows c.from.ensures
          (stood s.expires c.args.number c.is_ready-marked.result c.due_at-due.result c.args.count c.args.standing before c.is_ready-marked.ensures c.due_at-due.ensures)
          c.self.invariant.2 ordered c.change.ensures.rows stands,
      below_changed c.args.number g 18446744073709551616 (λ x. refl) before after c.self.invariant.3 stands,
      omega (arith, c.self.invariant.4, c.mark.ensures.spare, c.change.ensures.spare),
      told_so session_hash_of (λ (x : StoredCopy). is_ready x.standing) c.args.number g (λ k x. refl) (is_ready c.args.standing) never (λ h x. refl) c.hash_at-hash.result (undue_rows s.by_session.rows) (undue_rows c.mark.new.index.rows) before after (omega arith) ordered c.self.invariant.3 c.hash_at-hash.ensures c.self.invariant.5 (undue_marked c.hash_at-hash.result c.args.number c.is_ready-marked.result s.by_session.rows c.mark.new.index.rows c.mark.ensures.rows ∙ ap (λ (b : Bool). told_grouped c.hash_at-hash.result c.args.number b (undue_rows s.by_session.rows)) c.is_ready-marked.ensures) stands,
      omega (arith, room, same, c.self.invariant.6, c.regroup.ensures.spare, c.change.ensures.spare, c.locks_taken.ensures),
      moved_so held_lock (λ x. false) c.args.number g (λ x. refl) c.lock_at-held.result c.lock_of.result s.by_lock.rows c.regroup.new.index.rows before after (omega arith) ordered c.self.invariant.3 c.rises-2.ensures was (λ x. sym c.lock_of.ensures) (λ x. refl) c.self.invariant.7 c.regroup.ensures.rows stands,
      own_marked c.hash_at-hash.result c.args.number c.is_ready-marked.result s.by_session.rows c.mark.new.index.rows c.self.invariant.8 c.mark.ensures.rows,
      omega (arith, room, same, fewer, c.self.invariant.9, c.regroup-2.ensures.spare, c.change.ensures.spare, c.locks_taken.ensures),
      moved_so under_lock (λ x. false) c.args.number g (λ x. refl) c.session_lock_at-under.result c.session_lock_of-under_now.result s.under.rows c.regroup-2.new.index.rows before after (omega arith) ordered c.self.invariant.3 c.rises-3.ensures was_under (λ x. sym c.session_lock_of-under_now.ensures) (λ x. refl) c.self.invariant.10 c.regroup-2.ensures.rows stands,
      tally_moved c.args.number g c.args.standing (λ x t. refl) c.standing_at-stood.result s.tally c.moved-self-inside.result before after stood_so c.self.invariant.11 c.moved-self-inside.ensures stands,
    )

pub returns-clause-heads : goal.returns-clause-heads
returns-clause-heads c =
    let s = c.self.inside in
    let ordered : AreInOrder (copies_in s.slots s.order.rows) = subst (λ (v : Shelved). AreInOrder v.copies) (sym c.self.view_is) c.rises.ensures in
    heads_marked s.by_session.rows (copies_in s.slots s.order.rows) ordered c.self.invariant.3 c.self.invariant.5 c.self.invariant.8 c.args.number (omega arith) c.hash_at-hash.result c.is_ready-marked.result c.mark.new.index.rows c.hash_at-hash.ensures c.mark.ensures.rows
    ∙ ap (λ (v : Shelved). except c.args.number v.heads) c.self.view_is
