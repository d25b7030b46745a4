-- An error that is passed on.
use Rattle.std.proofs.Common.{◌≡◌, Result, Ok, Err, sym, ◌∙◌, ap, subst, rules}
use Rattle.std.specs.Prelude.{IfErr, OnErr, IsErr, IsErrAnd}

-- what holds of an error holds where it is passed on
pub passed_on : {T E : Type 0} (P : E → Type 0) (e : E) (r : Result T E) → IsErr r × IsErrAnd r (λ y. y ≡ e) → P e → IfErr r P
passed_on P e (Ok x) given p = tt
passed_on P e (Err y) given p = subst P (sym given.1) p

pub passes_on : {T E : Type 0} (r : Result T E) (e x : E) → IsErr r × IsErrAnd r (λ y. y ≡ e) → e ≡ x → r ≡ Err x
passes_on (Ok v) e x given is = absurd given.1
passes_on (Err y) e x given is = ap Err (given.1 ∙ is)

pub same_error : {T E : Type 0} (e x : E) → ◌≡◌ {A = Result T E} (Err e) (Err x) → e ≡ x
same_error e x is = search

-- an error that was passed on is the one that came
pub error_passed : {T E : Type 0} (r : Result T E) (e x : E) → IsErr r × IsErrAnd r (λ y. y ≡ e) → r ≡ Err x → e ≡ x
error_passed (Ok v) e x given is = absurd cc
error_passed (Err y) e x given is = search (rules, given.1, is)

pub on_error : {T E : Type 0} (P : Type 0) (r : Result T E) → P → OnErr r P
on_error P (Ok x) p = tt
on_error P (Err e) p = p
