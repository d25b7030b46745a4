-- What is done at a place that a search gave, as it is seen; and what holds of a call that succeeds.
use Rattle.std.proofs.Common.{◌≡◌, ℕ, ◌+◌, ◌<◌, Bool, true, false, List, [], ◌∷◌, Option, Some, None, Result, Ok, Err, find, position, map, get_or, length, max, refl, sym, ap, ◌∙◌, subst, arith, option_map}
use Rattle.std.specs.Prelude.{slice_set, IfSome, OnOk, OnErr}
use Rattle.std.specs.List.{slice_get}
use Rattle.std.proofs.Math.Seq.{map-set_same}
use Rattle.std.proofs.lemmas.List.{map-set}
use Rattle.std.proofs.lemmas.Option.{slice_get-map, slice_get_read}
use Rattle.sb_machine.specs.Keyed.{changed}
use Rattle.sb_machine.proofs.Places.{found_some, changed_alike}
use Rattle.sb_txn.specs.Txns.{Opened, has_txn, with_room}
use Rattle.sb_machine.specs.Namespace.{is_entity}
use Rattle.sb_entities.specs.Stocks.{Entry, has_number, on_txn, txn_grown, on_entry, entry_grown}
use Rattle.sb_entities.specs.Stores.{entry_in, entries_in, entities_in}
use Rattle.sb_entities.specs.declared.entity.EntityStore.{EntityStore}
use Rattle.sb_entities.specs.declared.place.EntityPlace.{EntityPlace}
use Rattle.sb_entities.proofs.Seen.{position_seen, unseen}
use Rattle.sb_entities.proofs.Stocking.{entity_of, entities_seen}

pub on_ok : {T E : Type 0} (r : Result T E) (A B : Type 0) → (A → B) → OnOk r A → OnOk r B
on_ok (Ok x) A B f a = f a
on_ok (Err e) A B f a = a

pub on_err : {T E : Type 0} (r : Result T E) (A B : Type 0) → (A → B) → OnErr r A → OnErr r B
on_err (Ok x) A B f a = a
on_err (Err e) A B f a = f a

pub either : {T E : Type 0} (r : Result T E) (A : Type 0) → OnOk r A → OnErr r A → A
either (Ok x) A ok err = ok
either (Err e) A ok err = err

pub placed : (n : ℕ) (o : Option ℕ) (rows rows' : List EntityStore) → rows' ≡ rows → o ≡ position (λ e. has_number n (entry_in e)) rows' → o ≡ position (has_number n) (entries_in rows)
placed n o rows rows' same found = found ∙ ap (position (λ (e : EntityStore). has_number n (entry_in e))) same ∙ position_seen entry_in (has_number n) rows

pub at_placed : (P : Entry → Type 0) (n i : ℕ) (rows rows' : List EntityStore) → rows' ≡ rows → Some i ≡ position (λ e. has_number n (entry_in e)) rows' → IfSome (find (has_number n) (entries_in rows)) P → IfSome (slice_get (entries_in rows) i) P
at_placed P n i rows rows' same found holds =
    let it = found_some (has_number n) i (entries_in rows) (placed n (Some i) rows rows' same found) in
    subst (λ (o : Option Entry). IfSome o P) (sym it.2) (subst (λ (o : Option Entry). IfSome o P) it.1 holds)

pub set_seen : (f : Entry → Entry) (i : ℕ) (e x : EntityStore) (rows : List EntityStore) → i < length rows → e ≡ get_or rows i e → entry_in x ≡ f (entry_in e) → IfSome (slice_get (entries_in rows) i) (λ y. entries_in (slice_set rows i x) ≡ slice_set (entries_in rows) i (f y))
set_seen f i e x rows here is after =
    let seen : slice_get (entries_in rows) i ≡ Some (entry_in e) = slice_get-map entry_in rows i ∙ ap (option_map entry_in) (slice_get_read rows (length rows) i e refl here is) in
    subst (λ (o : Option Entry). IfSome o (λ y. entries_in (slice_set rows i x) ≡ slice_set (entries_in rows) i (f y))) (sym seen) (map-set entry_in rows i x ∙ ap (λ (y : Entry). slice_set (entries_in rows) i y) after)

pub same_seen : (i : ℕ) (e x : EntityStore) (rows : List EntityStore) → e ≡ get_or rows i e → entry_in x ≡ entry_in e → entries_in (slice_set rows i x) ≡ entries_in rows
same_seen i e x rows is after = map-set_same entry_in rows i x e (after ∙ ap entry_in is)

pub grown_unseen : (n : ℕ) (p : EntityPlace) (rows new : List EntityStore) → entries_in new ≡ on_entry n (entry_grown p) (entries_in rows) → entities_in new ≡ entities_in rows
grown_unseen n p rows new after =
    entities_seen new ∙ ap (map entity_of) after ∙ unseen entity_of (is_entity n) (λ x. entry_grown p x ∷ []) (λ x. refl) (entries_in rows) ∙ sym (entities_seen rows)

pub same_unseen : (rows new : List EntityStore) → entries_in new ≡ entries_in rows → entities_in new ≡ entities_in rows
same_unseen rows new after = entities_seen new ∙ ap (map entity_of) after ∙ sym (entities_seen rows)

pub changed_none : {X : Type 0} (p : X → Bool) (g : X → List X) (xs : List X) → None ≡ find p xs → xs ≡ changed p g xs
changed_none p g [] none = refl
changed_none p g (x ∷ xs) none = at (p x) refl (changed_none p g xs) where
  at : (b : Bool) → p x ≡ b → (None ≡ find p xs → xs ≡ changed p g xs) → x ∷ xs ≡ changed p g (x ∷ xs)
  at true is ih = let bad : None ≡ Some x = rw is at none in absurd cc
  at false is ih = let rest : None ≡ find p xs = rw is at none in rw is (ap (λ l. x ∷ l) (ih rest))

-- one slot more than there are is promised
pub one_room : (n count : ℕ) (r : Opened) (rows new : List Opened) → Some r ≡ find (has_txn n) rows → count ≡ r.spare + 1 → new ≡ changed (has_txn n) (λ x. with_room count x ∷ []) rows → new ≡ on_txn n txn_grown rows
one_room n count r rows new found is after =
    let most : max r.spare count ≡ r.spare + 1 = omega (arith, is) in
    after ∙ changed_alike (has_txn n) (λ x. with_room count x ∷ []) (λ x. txn_grown x ∷ []) r rows (sym found) (ap (λ (m : ℕ). record r { spare = m } ∷ []) most)
