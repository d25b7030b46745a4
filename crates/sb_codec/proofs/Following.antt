-- What a loop over a list needs.
use Rattle.std.proofs.Common.{◌≡◌, ℕ, zero, suc, Bool, true, false, refl, List, [], ◌∷◌, Option, Some, None, All, Result, Ok, Err, ◌<◌, ◌≤◌, ◌+◌, length, take, Vec, vec_len, arith}
use Rattle.std.specs.Prelude.{vec_capacity, OnOk}
use Rattle.std.specs.Global.{Global}
use Rattle.std.specs.Result.{IsErr}
use Rattle.std.specs.declared.alloc.AllocError.{AllocError}
use Rattle.std.specs.List.{AllByRecursion}
use Rattle.std.proofs.lemmas.List.Elements.{All-from_recursion}
use Rattle.sb_codec.specs.declared.unread.Unread.{Unread}
use Rattle.sb_codec.specs.declared.unread.Unread.TheVariants.{Memory, NoSpelling}
use Rattle.sb_codec.specs.Forms.{Follow, Puts}
use Rattle.sb_codec.specs.Readers.{Reader, Fails, tested}

all_taken : {A : Type 0} (F : A → Type 0) (xs : List A) (i : ℕ) → length xs ≤ i → AllByRecursion F (take i xs) → AllByRecursion F xs
all_taken F [] i le all = tt
all_taken F (x ∷ xs) zero le all = absurd (omega arith)
all_taken F (x ∷ xs) (suc i) le all = let below : length xs ≤ i = omega arith in (all.0, all_taken F xs i below all.1)

-- where all fit that were written, all is in order still
fit_in_order : {A : Type 0} (Asks F : A → Type 0) (follows : Option A → A → Bool) (last : Option A) (xs : List A)
    → Follow (λ last x. Asks x × (follows last x ≡ true)) last xs → AllByRecursion F xs → Follow (λ last x. F x × (follows last x ≡ true)) last xs
fit_in_order Asks F follows last [] order all = tt
fit_in_order Asks F follows last (x ∷ xs) order all = ((all.0, order.0.1), fit_in_order Asks F follows (Some x) xs order.1 all.1)

pub fit_at_end : {A : Type 0} (Asks F : A → Type 0) (follows : Option A → A → Bool) (xs : List A) (i : ℕ) → length xs ≤ i → Follow (λ last x. Asks x × (follows last x ≡ true)) None xs
    → AllByRecursion F (take i xs) → Follow (λ last x. F x × (follows last x ≡ true)) None xs
fit_at_end Asks F follows xs i le order all = fit_in_order Asks F follows None xs order (all_taken F xs i le all)

fits_by_recursion : {A : Type 0} (F : A → Type 0) (follows : Option A → A → Bool) (last : Option A) (xs : List A) → Follow (λ last x. F x × (follows last x ≡ true)) last xs → AllByRecursion F xs
fits_by_recursion F follows last [] f = tt
fits_by_recursion F follows last (x ∷ xs) f = (f.0.0, fits_by_recursion F follows (Some x) xs f.1)

pub each_fits : {A : Type 0} (F : A → Type 0) (follows : Option A → A → Bool) (xs : List A) → Follow (λ last x. F x × (follows last x ≡ true)) None xs → All F xs
each_fits F follows xs f = All-from_recursion F xs (fits_by_recursion F follows None xs f)

-- what a tested reader gives
pub passes : {A : Type 0} (test : A → Bool) (r : Reader A) (bytes : List ℕ) (x : A) (after : List ℕ) → r bytes ≡ Some (x, after) → test x ≡ true → tested test r bytes ≡ Some (x, after)
passes test r bytes x after e h = rw (e, h) refl

pub not_passes : {A : Type 0} (test : A → Bool) (r : Reader A) (bytes : List ℕ) (x : A) (after : List ℕ) → r bytes ≡ Some (x, after) → test x ≡ false → Fails NoSpelling (tested test r bytes)
not_passes test r bytes x after e h = rw (e, h) refl

pub fails_too : {A : Type 0} (e : Unread) (test : A → Bool) (r : Reader A) (bytes : List ℕ) → Fails e (r bytes) → Fails e (tested test r bytes)
fails_too Memory test r bytes h = tt
fails_too NoSpelling test r bytes h = rw h refl

pub puts_err : (bytes : List ℕ) (before after : Vec ℕ Global) (r : Result (Unit {0}) AllocError) → IsErr r → vec_capacity before < vec_len before + length bytes → vec_capacity before ≤ vec_capacity after → Puts bytes before after r
puts_err bytes before after (Ok x) h full room = absurd cc
puts_err bytes before after (Err e) h full room = (full, room)

pub on_ok_with : {T E : Type 0} (r : Result T E) (P Q : Type 0) → P → OnOk r Q → OnOk r (P × Q)
on_ok_with (Ok x) P Q p q = (p, q)
on_ok_with (Err e) P Q p q = tt
