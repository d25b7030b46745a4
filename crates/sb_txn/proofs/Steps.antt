-- What is known of a row that was found, at its place; and of a call that succeeds.
use Rattle.std.proofs.Common.{◌≡◌, ℕ, Bool, List, Option, Some, Result, Ok, Err, find, position, sym, subst, get_or, ap, ◌∙◌}
use Rattle.std.specs.Prelude.{IfSome, OnOk, OnErr}
use Rattle.std.specs.List.{slice_get}
use Rattle.std.specs.Option.{option_map}
use Rattle.sb_machine.proofs.Places.{found_some, taken_is}

pub at_found : {X : Type 0} (P : X → Type 0) (p : X → Bool) (i : ℕ) (xs xs' : List X) → xs' ≡ xs → Some i ≡ position p xs' → IfSome (find p xs) P → IfSome (slice_get xs i) P
at_found {X} P p i xs xs' same seen holds =
    let it = found_some p i xs (subst (λ (l : List X). Some i ≡ position p l) same seen) in
    subst (λ (o : Option X). IfSome o P) (sym it.2) (subst (λ (o : Option X). IfSome o P) it.1 holds)

pub taken_part : {X Y : Type 0} (f : X → Y) (p : X → Bool) (i : ℕ) (x : X) (y : Y) (xs xs' : List X) → xs' ≡ xs → Some i ≡ position p xs' → x ≡ get_or xs i x → y ≡ f x → Some y ≡ option_map f (find p xs)
taken_part f p i x y xs xs' same found is part = ap (λ z. Some z) part ∙ ap (option_map f) (taken_is p i x xs xs' same found is)

pub on_ok : {T E : Type 0} (r : Result T E) (A B : Type 0) → (A → B) → OnOk r A → OnOk r B
on_ok (Ok x) A B f a = f a
on_ok (Err e) A B f a = a

pub on_err : {T E : Type 0} (r : Result T E) (A B : Type 0) → (A → B) → OnErr r A → OnErr r B
on_err (Ok x) A B f a = a
on_err (Err e) A B f a = f a

pub either : {T E : Type 0} (r : Result T E) (A : Type 0) → OnOk r A → OnErr r A → A
either (Ok x) A ok err = ok
either (Err e) A ok err = err
