-- Opening, writing and closing, as they are done at a place.
use Rattle.std.proofs.Common.{◌≡◌, ℕ, Bool, true, false, List, [], ◌∷◌, Option, Some, None, find, position, refl, sym, ap, ◌∙◌, subst}
use Rattle.std.specs.Prelude.{slice_set, IfSome, is_none}
use Rattle.std.specs.List.{slice_get, remove}
use Rattle.sb_machine.specs.Keyed.{changed, with_sorted}
use Rattle.sb_machine.specs.Leaves.{has_id, is_held_under, holder_new, opened, taken, remembered}
use Rattle.sb_machine.specs.Names.{is_before}
use Rattle.sb_machine.specs.declared.state.Holder.{Holder}
use Rattle.sb_machine.specs.declared.state.Session.{Session}
use Rattle.sb_machine.proofs.Places.{take_is, set_is, taken_none, found_some, found_passes, changed_alike}
use Rattle.sb_sessions.specs.Sessions.{seating}

-- what opening gives, by what was found
abbrev by_found : ℕ → List ℕ → ℕ → List Session → Option Session → List Session
by_found lock id until rows (Some x) = changed (has_id id) (λ y. taken lock until y ∷ []) rows
by_found lock id until rows None = with_sorted (λ y. is_before y.id id) (record { id = id; state = None; holder = Some (holder_new lock until) }) rows

opened_is : (lock : ℕ) (id : List ℕ) (until : ℕ) (rows : List Session) (o : Option Session) → find (has_id id) rows ≡ o → by_found lock id until rows o ≡ opened lock id until (seating rows)
opened_is lock id until rows (Some x) found = rw found refl
opened_is lock id until rows None found = rw found refl

pub open_new : (lock : ℕ) (id id' : List ℕ) (until : ℕ) (rows rows' new : List Session) → id' ≡ id → rows' ≡ rows → None ≡ position (has_id id') rows' → new ≡ by_found lock id until rows None → new ≡ opened lock id until (seating rows)
open_new lock id id' until rows rows' new named same found is =
    let none : None ≡ find (has_id id) rows = taken_none (has_id id) rows rows' same (subst (λ (z : List ℕ). None ≡ position (has_id z) rows') named found) in
    is ∙ opened_is lock id until rows None (sym none)

seen : (p : Session → Bool) (i : ℕ) (rows rows' : List Session) → rows' ≡ rows → Some i ≡ position p rows' → Some i ≡ position p rows
seen p i rows rows' same found = subst (λ (l : List Session). Some i ≡ position p l) same found

pub open_known : (lock : ℕ) (id id' : List ℕ) (until i : ℕ) (rows rows' new : List Session) → id' ≡ id → rows' ≡ rows → Some i ≡ position (has_id id') rows' → IfSome (slice_get rows i) (λ x. new ≡ slice_set rows i (taken lock until x)) → new ≡ opened lock id until (seating rows)
open_known lock id id' until i rows rows' new named same found set =
    let here : Some i ≡ position (has_id id) rows' = subst (λ (z : List ℕ). Some i ≡ position (has_id z) rows') named found in
    let it = found_some (has_id id) i rows (seen (has_id id) i rows rows' same here) in
    set_is (has_id id) (taken lock until) i rows rows' new same here set ∙ opened_is lock id until rows (Some it.0) it.1

-- a session with a holder is remembered whatever its state is
stays : (lock : ℕ) (state : Option (List ℕ)) (x : Session) → is_held_under lock x ≡ true → record x { state = state } ∷ [] ≡ remembered (record x { state = state })
stays lock state x held = at x.holder refl where
  at : (o : Option Holder) → x.holder ≡ o → record x { state = state } ∷ [] ≡ remembered (record x { state = state })
  at (Some h) is = rw is refl
  at None is = let no_one : false ≡ true = rw is at held in absurd cc

pub write_known : (lock : ℕ) (state : Option (List ℕ)) (i : ℕ) (rows rows' new : List Session) → rows' ≡ rows → Some i ≡ position (is_held_under lock) rows' → IfSome (slice_get rows i) (λ x. new ≡ slice_set rows i (record x { state = state }))
    → new ≡ changed (is_held_under lock) (λ x. remembered (record x { state = state })) rows
write_known lock state i rows rows' new same found set =
    let it = found_some (is_held_under lock) i rows (seen (is_held_under lock) i rows rows' same found) in
    set_is (is_held_under lock) (λ x. record x { state = state }) i rows rows' new same found set
    ∙ changed_alike (is_held_under lock) (λ x. record x { state = state } ∷ []) (λ x. remembered (record x { state = state })) it.0 rows it.1 (stays lock state it.0 (found_passes (is_held_under lock) rows it.0 it.1))

-- one that nobody holds is remembered by its state
stateless : (x : Session) → true ≡ is_none x.state → [] ≡ remembered (record x { holder = None })
stateless x e = at x.state refl where
  at : (o : Option (List ℕ)) → x.state ≡ o → [] ≡ remembered (record x { holder = None })
  at None is = rw is refl
  at (Some state) is = let none : true ≡ false = rw is at e in absurd cc

stateful : (x : Session) → false ≡ is_none x.state → record x { holder = None } ∷ [] ≡ remembered (record x { holder = None })
stateful x e = at x.state refl where
  at : (o : Option (List ℕ)) → x.state ≡ o → record x { holder = None } ∷ [] ≡ remembered (record x { holder = None })
  at None is = let none : false ≡ true = rw is at e in absurd cc
  at (Some state) is = rw is refl

pub close_gone : (lock i : ℕ) (rows rows' rows'' new : List Session) → rows' ≡ rows → rows'' ≡ rows → Some i ≡ position (is_held_under lock) rows' → IfSome (slice_get rows'' i) (λ x. true ≡ is_none x.state) → new ≡ remove rows i
    → new ≡ changed (is_held_under lock) (λ x. remembered (record x { holder = None })) rows
close_gone lock i rows rows' rows'' new same same' found state is =
    let it = found_some (is_held_under lock) i rows (seen (is_held_under lock) i rows rows' same found) in
    let here : slice_get rows'' i ≡ Some it.0 = ap (λ (r : List Session). slice_get r i) same' ∙ it.2 in
    let none : true ≡ is_none it.0.state = subst (λ (o : Option Session). IfSome o (λ x. true ≡ is_none x.state)) here state in
    take_is (is_held_under lock) i rows rows' new same found is ∙ changed_alike (is_held_under lock) (λ x. []) (λ x. remembered (record x { holder = None })) it.0 rows it.1 (stateless it.0 none)

pub close_left : (lock i : ℕ) (rows rows' rows'' new : List Session) → rows' ≡ rows → rows'' ≡ rows → Some i ≡ position (is_held_under lock) rows' → IfSome (slice_get rows'' i) (λ x. false ≡ is_none x.state)
    → IfSome (slice_get rows i) (λ x. new ≡ slice_set rows i (record x { holder = None })) → new ≡ changed (is_held_under lock) (λ x. remembered (record x { holder = None })) rows
close_left lock i rows rows' rows'' new same same' found state set =
    let it = found_some (is_held_under lock) i rows (seen (is_held_under lock) i rows rows' same found) in
    let here : slice_get rows'' i ≡ Some it.0 = ap (λ (r : List Session). slice_get r i) same' ∙ it.2 in
    let some : false ≡ is_none it.0.state = subst (λ (o : Option Session). IfSome o (λ x. false ≡ is_none x.state)) here state in
    set_is (is_held_under lock) (λ x. record x { holder = None }) i rows rows' new same found set
    ∙ changed_alike (is_held_under lock) (λ x. record x { holder = None } ∷ []) (λ x. remembered (record x { holder = None })) it.0 rows it.1 (stateful it.0 some)
