-- What was handed on, and what was handed on behind it, in one.
use Rattle.std.proofs.Common.{◌≡◌, ◌∙◌, ℕ, List, [], ◌++◌, append_assoc, subst, Result, Ok, Err}
use Rattle.std.specs.Result.{IsErrAnd}
use Rattle.std.proofs.lemmas.Result.{err_from_is_err_and}
use Rattle.sb_checkpoint.specs.declared.pieces.Pieces.{Ghosts}
use Rattle.sb_checkpoint.specs.declared.pieces.Unput.{Unput}
use Rattle.sb_checkpoint.specs.declared.pieces.Unput.TheVariants.{Memory, Refused}
use Rattle.sb_checkpoint.specs.Takings.{Takes}

-- what fails behind what was taken
takes_not : {S : Type 0} (G : Ghosts S) (before mid after : S) (x z : List ℕ) (e : Unput) → Takes G before mid x (Ok tt) → Takes G mid after [] (Err e) → Takes G before after z (Err e)
takes_not G before mid after x z Memory done fails = (λ h. fails.0 (done.0 h), fails.1 ∙ done.2)
takes_not G before mid after x z Refused done fails = (λ h. fails.0 (done.0 h), fails.1, fails.2 ∙ done.2)

-- the exit of a loop
pub takes_exit : {S : Type 0} (G : Ghosts S) (before mid after : S) (x z : List ℕ) (e : Unput) (r : Result (Unit {0}) Unput) → Takes G before mid x (Ok tt) → Takes G mid after [] (Err e) → IsErrAnd r (λ f. f ≡ e) → Takes G before after z r
takes_exit G before mid after x z e r done fails exit = let p = err_from_is_err_and r exit in rw (p.1, p.2) (takes_not G before mid after x z e done fails)

-- one behind the other
pub takes_then : {S : Type 0} (G : Ghosts S) (before mid after : S) (x y : List ℕ) (r : Result (Unit {0}) Unput) → Takes G before mid x (Ok tt) → Takes G mid after y r → Takes G before after (x ++ y) r
takes_then G before mid after x y (Ok done) p q = (λ h. q.0 (p.0 h), λ text h. subst (G.has after) (append_assoc text x y) (q.1 (text ++ x) (p.1 text h)), q.2 ∙ p.2)
takes_then G before mid after x y (Err Memory) p q = (λ h. q.0 (p.0 h), q.1 ∙ p.2)
takes_then G before mid after x y (Err Refused) p q = (λ h. q.0 (p.0 h), q.1, q.2 ∙ p.2)

-- ---- grouped as the base has it

pub three_then : (a b c d : List ℕ) → (a ++ (b ++ c)) ++ d ≡ a ++ (b ++ (c ++ d))
three_then a b c d = simp append_assoc

pub four_then : (a b c d e : List ℕ) → (a ++ (b ++ (c ++ d))) ++ e ≡ a ++ (b ++ (c ++ (d ++ e)))
four_then a b c d e = simp append_assoc

pub all_then : (a b c d e f g : List ℕ) → (a ++ (b ++ (c ++ d))) ++ ((e ++ f) ++ g) ≡ a ++ (b ++ (c ++ (d ++ (e ++ (f ++ g)))))
all_then a b c d e f g = simp append_assoc
