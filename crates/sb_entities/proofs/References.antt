-- Lists of references, and of what they point to.
use Rattle.std.proofs.Common.{◌≡◌, ℕ, Bool, List, [], ◌∷◌, map, take, drop, refl, ap, sym, ◌∙◌, Bor}
use Rattle.std.specs.List.{insert, prefix_len}
use Rattle.std.proofs.lemmas.List.{map-append, take-map, drop-map}
use Rattle.sb_machine.specs.Names.{is_before}
use Rattle.sb_machine.specs.declared.state.Listed.{Listed}
use Rattle.sb_machine.specs.Visits.{with_next, own_name}

pub prefix_len-map : {A B : Type 0} (f : A → B) (p : B → Bool) (xs : List A) → prefix_len p (map f xs) ≡ prefix_len (λ x. p (f x)) xs
prefix_len-map f p [] = refl
prefix_len-map f p (x ∷ xs) = rw (prefix_len-map f p xs) refl

pub map-insert : {A B : Type 0} (f : A → B) (xs : List A) (i : ℕ) (y : A) → map f (insert xs i y) ≡ insert (map f xs) i (f y)
map-insert f xs i y = map-append f (take i xs) (y ∷ drop i xs) ∙ simp (take-map, drop-map)

pub with_one_next : (xs : List (Bor Listed)) (e : Bor Listed) → map (λ b. b.now) (insert xs (prefix_len (λ q. is_before (own_name q.now) (own_name e.now)) xs) e) ≡ with_next (map (λ b. b.now) xs) e.now
with_one_next xs e =
    map-insert (λ (b : Bor Listed). b.now) xs _ e ∙ ap (λ i. insert (map (λ (b : Bor Listed). b.now) xs) i e.now) (sym (prefix_len-map (λ (b : Bor Listed). b.now) (λ q. is_before (own_name q) (own_name e.now)) xs))
