-- One change of a list carried out, and the others left.
use Rattle.std.proofs.Common.{◌≡◌, ℕ, zero, suc, Bool, true, false, List, [], ◌∷◌, Some, refl, sym, ap, ◌∙◌, subst}
use Rattle.std.specs.List.{list_any, slice_get}
use Rattle.sb_machine.specs.Changes.{after, after_all, is_numbered}
use Rattle.sb_machine.specs.declared.change.Change.{Change}
use Rattle.sb_machine.specs.declared.state.Space.{Space}
use Rattle.sb_entities.specs.Numbers.{Fits}
use Rattle.sb_entities.specs.Stocks.{Stock, space_of, stock_after, PromisesAll, HasRoomFor}
use Rattle.sb_entities.specs.Stores.{space_in, stock_in}
use Rattle.sb_entities.specs.declared.space.SpaceStore.{SpaceStore}
use Rattle.sb_entities.proofs.Numbering.{numbered_first, numbered_rest}
use Rattle.sb_entities.proofs.Promised.{promised_first, promised_rest}
use Rattle.sb_entities.proofs.Stocking.{space_after, space_same}

pub first_room : (c : Change) (cs left : List Change) (k : Stock) → left ≡ c ∷ cs → PromisesAll left k → HasRoomFor c k
first_room c cs left k is h = promised_first c cs k (subst (λ (l : List Change). PromisesAll l k) is h)

pub first_fits : (t : ℕ) (c : Change) (cs left : List Change) (s : SpaceStore) → left ≡ c ∷ cs → is_numbered t left (space_in s) ≡ true → Fits t c (space_of (stock_in s))
first_fits t c cs left s is h = subst (λ (z : Space). Fits t c z) (space_same s) (numbered_first t c cs (space_in s) (subst (λ (l : List Change). is_numbered t l (space_in s) ≡ true) is h))

pub carried_space : (t : ℕ) (c : Change) (s new : SpaceStore) → stock_in new ≡ stock_after t c (stock_in s) → space_in new ≡ after t c (space_in s)
carried_space t c s new did = space_same new ∙ ap space_of did ∙ space_after t c (stock_in s) ∙ ap (after t c) (sym (space_same s))

pub rest_space : (t : ℕ) (c : Change) (cs left : List Change) (s new : SpaceStore) (end : Space) → left ≡ c ∷ cs → stock_in new ≡ stock_after t c (stock_in s) → after_all t left (space_in s) ≡ end → after_all t cs (space_in new) ≡ end
rest_space t c cs left s new end is did h = ap (after_all t cs) (carried_space t c s new did) ∙ subst (λ (l : List Change). after_all t l (space_in s) ≡ end) is h

pub rest_numbered : (t : ℕ) (c : Change) (cs left : List Change) (s new : SpaceStore) → left ≡ c ∷ cs → stock_in new ≡ stock_after t c (stock_in s) → is_numbered t left (space_in s) ≡ true → is_numbered t cs (space_in new) ≡ true
rest_numbered t c cs left s new is did h =
    subst (λ (z : Space). is_numbered t cs z ≡ true) (sym (carried_space t c s new did)) (numbered_rest t c cs (space_in s) (subst (λ (l : List Change). is_numbered t l (space_in s) ≡ true) is h))

pub rest_room : (t : ℕ) (c : Change) (cs left : List Change) (k new : Stock) → left ≡ c ∷ cs → new ≡ stock_after t c k → PromisesAll left k → PromisesAll cs new
rest_room t c cs left k new is did h = subst (λ (z : Stock). PromisesAll cs z) (sym did) (promised_rest t c cs k (subst (λ (l : List Change). PromisesAll l k) is h))

-- where none passes, this one doesn't
pub none_passes : {X : Type 0} (p : X → Bool) (i : ℕ) (x : X) (xs : List X) → list_any p xs ≡ false → Some x ≡ slice_get xs i → p x ≡ false
none_passes {X = X} p i x [] none found = absurd cc
none_passes {X = X} p zero x (y ∷ ys) none found = at (p y) refl where
  at : (b : Bool) → p y ≡ b → p x ≡ false
  at true is = let bad : true ≡ false = rw is at none in absurd cc
  at false is = let same : x ≡ y = cc in subst (λ (z : X). p z ≡ false) (sym same) is
none_passes {X = X} p (suc i) x (y ∷ ys) none found = at (p y) refl (λ k. none_passes p i x ys k found) where
  at : (b : Bool) → p y ≡ b → (list_any p ys ≡ false → p x ≡ false) → p x ≡ false
  at true is ih = let bad : true ≡ false = rw is at none in absurd cc
  at false is ih = let rest : list_any p ys ≡ false = rw is at none in ih rest
