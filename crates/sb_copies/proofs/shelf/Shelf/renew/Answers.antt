use Rattle.std.proofs.Common.{◌≡◌, ◌∷◌, [], ◌∙◌, ◌==◌, false, find, ℕ, Option, None, List, ap, refl, sym, subst, arith}
use Rattle.std.specs.Option.{option_map, option_map_or}
use Rattle.sb_machine.specs.Keyed.{changed}
use Rattle.sb_machine.specs.Leases.{is_ready}
use Rattle.sb_machine.specs.Leaves.{has_number, prolonged_standing}
use Rattle.sb_machine.specs.declared.state.StoredCopy.{StoredCopy}
use Rattle.sb_copies.specs.ByLock.{held_lock}
use Rattle.sb_copies.specs.BySession.{session_hash_of}
use Rattle.sb_copies.specs.Heads.{undue_rows}
use Rattle.sb_copies.specs.Shelf.{AreInOrder, Shelved, copies_in}
use Rattle.sb_copies.specs.UnderSession.{under_lock}
use Rattle.sb_copies.proofs.Below.{below_changed}
use Rattle.sb_copies.proofs.GroupChanges.{group_stays}
use Rattle.sb_copies.proofs.GroupMoves.{moved_lacks, moved_so}
use Rattle.sb_copies.proofs.Mirror.{renewed}
use Rattle.sb_copies.proofs.Renewing.{not_under, renewed_under, still_locked}
use Rattle.sb_copies.proofs.SlotChanges.{told_led, told_long, told_mirrors}
use Rattle.sb_copies.proofs.Tallying.{renewed_alike, tally_stays}
use Rattle.sb_copies.proofs.shelf.Shelf.renew.Goals as goal

stands : (c : goal.After-regroup) → copies_in c.prolong_row.new.slots c.change.new.self.rows ≡ changed (has_number c.args.number) (λ x. record x { standing = prolonged_standing c.args.until x.standing } ∷ []) (copies_in c.self.inside.slots c.self.inside.order.rows)
stands c = told_led c.from.result c.is_ready_at-marked.result c.due_renewed-due.result c.prolong_row.new.slots c.self.inside.order.rows c.change.new.self.rows _ c.change.ensures.rows c.prolong_row.ensures.copies

pub returns-clause-copies : goal.returns-clause-copies
returns-clause-copies c = stands c ∙ ap (λ (v : Shelved). changed (has_number c.args.number) (λ x. record x { standing = prolonged_standing c.args.until x.standing } ∷ []) v.copies) c.self.view_is

pub regroup-requires-clause-apart : goal.regroup-requires-clause-apart
regroup-requires-clause-apart c =
    let s = c.self.inside in
    let ordered : AreInOrder (copies_in s.slots s.order.rows) = subst (λ (v : Shelved). AreInOrder v.copies) (sym c.self.view_is) c.rises.ensures in
    let was_under : c.session_lock_at-under.result ≡ option_map under_lock (find (has_number c.args.number) (copies_in s.slots s.order.rows)) = subst (λ (v : Shelved). c.session_lock_at-under.result ≡ option_map under_lock (find (has_number c.args.number) v.copies)) (sym c.self.view_is) c.session_lock_at-under.ensures in
    moved_lacks under_lock (λ x. false) c.session_lock_at-under.result c.args.number s.under.rows (copies_in s.slots s.order.rows) (omega arith) ordered c.self.invariant.3 was_under c.self.invariant.10

pub invariant_of-self : goal.invariant_of-self
invariant_of-self c =
    let s = c.self.inside in
    let before : List StoredCopy = copies_in s.slots s.order.rows in
    let after : List StoredCopy = copies_in c.prolong_row.new.slots c.change.new.self.rows in
    let ordered : AreInOrder before = subst (λ (v : Shelved). AreInOrder v.copies) (sym c.self.view_is) c.rises.ensures in
    let was_under : c.session_lock_at-under.result ≡ option_map under_lock (find (has_number c.args.number) (copies_in s.slots s.order.rows)) = subst (λ (v : Shelved). c.session_lock_at-under.result ≡ option_map under_lock (find (has_number c.args.number) v.copies)) (sym c.self.view_is) c.session_lock_at-under.ensures in
    let g : StoredCopy → StoredCopy = λ x. record x { standing = prolonged_standing c.args.until x.standing } in (
      omega (arith, c.self.invariant.0, c.change.ensures.spare, c.prolong_row.ensures.len, c.prolong_row.ensures.capacity),
      c.prolong_row.ensures.len ∙ told_long c.from.result c.is_ready_at-marked.result c.due_renewed-due.result _ s.order.rows c.change.new.self.rows c.change.ensures.rows c.self.invariant.1,
      told_mirrors s.expires c.from.result c.args.number c.is_ready_at-marked.result c.due_renewed-due.result g s.slots c.prolong_row.new.slots s.order.rows c.change.new.self.rows c.from.ensures
          (renewed s.expires c.args.number c.is_ready_at-marked.result c.due_renewed-due.result c.args.until before c.is_ready_at-marked.ensures c.due_renewed-due.ensures)
          c.self.invariant.2 ordered c.change.ensures.rows (stands c),
      below_changed c.args.number g 18446744073709551616 (λ x. refl) before after c.self.invariant.3 (stands c),
      omega (arith, c.self.invariant.4, c.change.ensures.spare),
      group_stays session_hash_of (λ (x : StoredCopy). is_ready x.standing) c.args.number g (λ k x. refl) (renewed_under c.args.until) (undue_rows s.by_session.rows) before after c.self.invariant.5 (stands c),
      omega (arith, c.self.invariant.6, c.change.ensures.spare),
      group_stays held_lock (λ x. false) c.args.number g (λ k x. ap (λ (o : Option ℕ). option_map_or (λ own. own == k) o false) (still_locked c.args.until x.standing)) (λ h x. refl) s.by_lock.rows before after c.self.invariant.7 (stands c),
      c.self.invariant.8,
      omega (arith, c.self.invariant.9, c.regroup.ensures.spare, c.change.ensures.spare),
      moved_so under_lock (λ x. false) c.args.number g (λ x. refl) c.session_lock_at-under.result None s.under.rows c.regroup.new.index.rows before after (omega arith) ordered c.self.invariant.3 c.rises-2.ensures was_under (λ x. not_under c.args.until x.standing) (λ x. refl) c.self.invariant.10 c.regroup.ensures.rows (stands c),
      tally_stays c.args.number g (λ x t. renewed_alike c.args.until x.standing t) s.tally before after c.self.invariant.11 (stands c),
    )
