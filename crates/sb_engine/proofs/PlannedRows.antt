-- What planning came to, against rows that are equal.
use Rattle.std.proofs.Common.{◌≡◌, sym, ap, ◌∙◌, subst, Result, Ok, Err, inr}
use Rattle.std.specs.Prelude.{IsErr, IsErrAnd, MatchResult}
use Rattle.sb_machine.specs.Rows.{Row, refuses}
use Rattle.sb_machine.specs.declared.reply.Refusal.{Refusal}
use Rattle.sb_engine.specs.Plans.{PlansRow}
use Rattle.sb_engine.specs.declared.plan.draft.Draft.{Draft}

pub plans_by : (r : Result Draft Refusal) (row other : Row) → row ≡ other → PlansRow r other → PlansRow r row
plans_by r row other is plans = subst (λ (x : Row). PlansRow r x) (sym is) plans

-- a refusal that is passed on
pub refuses_on : (r : Result Draft Refusal) (x : Refusal) (row : Row) → IsErr r × IsErrAnd r (λ y. y ≡ x) → row ≡ refuses x → PlansRow r row
refuses_on (Ok d) x row given is = absurd given.1
refuses_on (Err y) x row given is = inr (is ∙ ap refuses (sym given.1))

pub passed_on : {T E : Type 0} (P : T → Type 0) (Q : E → Type 0) (e : E) (r : Result T E) → IsErr r × IsErrAnd r (λ y. y ≡ e) → Q e → MatchResult r P Q
passed_on P Q e (Ok x) given q = absurd given.1
passed_on P Q e (Err y) given q = subst Q (sym given.1) q
