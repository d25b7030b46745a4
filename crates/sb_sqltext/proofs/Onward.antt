-- Steps of the parser's functions, over plain values.
use Rattle.std.proofs.Common.{◌≡◌, ◌-◌, ℕ, zero, suc, ◌<◌, ◌≤◌, Bool, true, false, List, [], ◌∷◌, Result, Ok, refl, sym, ◌∙◌, arith, Some, Option}
use Rattle.std.specs.Prelude.{nat_lt}
use Rattle.std.proofs.lemmas.Bool.Decides.{nat_tests}
use Rattle.sb_model.specs.declared.expression.BinaryOperator.{BinaryOperator}
use Rattle.sb_model.specs.Expressions.{Term, Terms, binary, later}
use Rattle.sb_model.specs.declared.token.Kind.{Kind}
use Rattle.sb_model.specs.declared.token.Kind.TheVariants.{Binary, Comma}
use Rattle.sb_model.specs.Readers.{Reader, Grammar, repeat}
use Rattle.sb_sqlgrammar.specs.Exact.{Exact}
use Rattle.sb_model.specs.Language.{or_part, not_part, sum_part, sign_part, operator_at, is_comma}
use Rattle.sb_model.specs.Reading.{lower, disjunction, negation, sum, sign, level_from, listed_from}
use Rattle.sb_sqlgrammar.proofs.Readers.{repeat_step}
use Rattle.sb_sqlgrammar.proofs.Tests.{exact_sum_part}
use Rattle.sb_sqltext.specs.Answers.{IsOver}

pub deep_true : (d : ℕ) → 0 < d → nat_lt 0 d ≡ true
deep_true d h = grind (arith, nat_tests)

pub deep_false : (d : ℕ) → d ≤ 0 → nat_lt 0 d ≡ false
deep_false d h = grind (arith, nat_tests)

pub lower_or : (d : ℕ) (ts : List Kind) → 0 < d → lower d or_part ts ≡ disjunction (nat_lt 0 (d - 1)) (lower (d - 1)) ts
unfolding lower
lower_or zero ts h = absurd (omega arith)
lower_or (suc d) ts h = let e : suc d - 1 ≡ d = omega arith in rw e refl

pub lower_not : (d : ℕ) (ts : List Kind) → 0 < d → lower d not_part ts ≡ negation (nat_lt 0 (d - 1)) (lower (d - 1)) ts
unfolding lower
lower_not zero ts h = absurd (omega arith)
lower_not (suc d) ts h = let e : suc d - 1 ≡ d = omega arith in rw e refl

pub lower_sum : (d : ℕ) (ts : List Kind) → 0 < d → lower d sum_part ts ≡ sum (nat_lt 0 (d - 1)) (lower (d - 1)) ts
unfolding lower
lower_sum zero ts h = absurd (omega arith)
lower_sum (suc d) ts h = let e : suc d - 1 ≡ d = omega arith in rw e refl

pub lower_sign : (d : ℕ) (ts : List Kind) → 0 < d → lower d sign_part ts ≡ sign (nat_lt 0 (d - 1)) (lower (d - 1)) ts
unfolding lower
lower_sign zero ts h = absurd (omega arith)
lower_sign (suc d) ts h = let e : suc d - 1 ≡ d = omega arith in rw e refl

-- one more operand of a level
pub level_goes_on : (n : ℕ) (item : Reader Kind Term) (S : Grammar Kind Term) (g : Kind → Bool) → Exact item S g
    → (b c : Term) (op : BinaryOperator) (a : Term) (rest ts next : List Kind) (all : Result (Term × List Kind) (List Kind))
    → rest ≡ Binary op ∷ ts → operator_at n (Binary op) ≡ Some op → item ts ≡ Ok (a, next) → c ≡ binary op b a → level_from n item b rest ≡ all → level_from n item c next ≡ all
level_goes_on n item S g r b c op a rest ts next all is at_level read made so_far =
    rw made (sym (repeat_step (operator_at n) item S g (λ b op c. binary op b c) r b (Binary op) op ts a next at_level read) ∙ (rw is at so_far))

pub listed_goes_on : (d : ℕ) (b c : Terms) (a : Term) (rest ts next : List Kind) (all : Result (Terms × List Kind) (List Kind)) → rest ≡ Comma ∷ ts → lower d sum_part ts ≡ Ok (a, next) → c ≡ later b a → listed_from (lower d) b rest ≡ all → listed_from (lower d) c next ≡ all
listed_goes_on d b c a rest ts next all is read made so_far =
    rw made (sym (repeat_step is_comma (lower d sum_part) _ _ (λ b o c. later b c) (exact_sum_part d) b Comma tt ts a next refl read) ∙ (rw is at so_far))

pub over_stops : {O A B : Type 0} (op : Kind → Option O) (item : Reader Kind A) (grow : B → O → A → B) (b : B) (ts : List Kind) → IsOver op ts → repeat op item grow b ts ≡ Ok (b, ts)
over_stops op item grow b [] over = refl
over_stops op item grow b (k ∷ ts) over = rw over refl

pub ruleset steps = (deep_true, deep_false, over_stops)
