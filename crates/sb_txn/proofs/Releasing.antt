-- The index of the keys, and the slots, as a slot is given back.
use Rattle.std.proofs.Common.{◌≡◌, ℕ, ◌+◌, refl, sym, ap, ◌∙◌, List, [], ◌∷◌, Some, sum_by, subst, arith}
use Rattle.std.specs.List.{slice_get}
use Rattle.std.specs.Prelude.{position, IfSome}
use Rattle.sb_index.specs.Rows.{Indexed}
use Rattle.sb_machine.specs.Keyed.{changed}
use Rattle.sb_machine.proofs.Places.{found_some}
use Rattle.sb_txn.specs.Queued.{has_keyed, slots_of, IsKept}
use Rattle.sb_txn.specs.Txns.{Opened, has_txn, with_less_room}
use Rattle.sb_txn.proofs.Kept.{any_changed, changed_sum, of_found, seen_place, sum_one}
use Rattle.sb_txn.proofs.Numbered.{numbered_changed}

-- the slots of all, with one given back
pub released_slots : (n i given : ℕ) (rows rows' new : List Opened) → rows' ≡ rows → Some i ≡ position (has_txn n) rows' → IfSome (slice_get rows i) (λ r. (with_less_room r).spare + given ≡ r.spare)
    → new ≡ changed (has_txn n) (λ r. with_less_room r ∷ []) rows → slots_of new + given ≡ slots_of rows
released_slots n i given rows rows' new same found gone is =
    let it = found_some (has_txn n) i rows (seen_place n i rows rows' same found) in
    let own : (with_less_room it.0).spare + given ≡ it.0.spare = of_found (λ (r : Opened). (with_less_room r).spare + given ≡ r.spare) it.0 (slice_get rows i) it.2 gone in
    let sum = changed_sum (λ (r : Opened). r.spare) (has_txn n) (λ r. with_less_room r ∷ []) it.0 rows it.1 in
    let one : sum_by (λ (r : Opened). r.spare) (with_less_room it.0 ∷ []) ≡ (with_less_room it.0).spare = sum_one (λ (r : Opened). r.spare) (with_less_room it.0) in
    omega (arith, own, sum, one, ap slots_of is)

pub released_kept : (n given : ℕ) (rows new : List Opened) (keys : Indexed) → slots_of new + given ≡ slots_of rows → new ≡ changed (has_txn n) (λ r. with_less_room r ∷ []) rows → IsKept rows keys → IsKept new keys
released_kept n given rows new keys less is kept = subst (λ (l : List Opened). IsKept l keys) (sym is) (
  numbered_changed (has_txn n) with_less_room (λ r. refl) rows kept.0,
  (λ k. kept.1 k ∙ sym (any_changed (has_keyed k) (has_txn n) with_less_room (λ r. refl) rows)),
  omega (arith, less, ap slots_of is, kept.2),
)
