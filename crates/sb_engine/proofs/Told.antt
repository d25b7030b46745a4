-- What the moments that a shelf keeps tell of what is due, and of what a sweep looks for.
use Rattle.std.proofs.Common.{Bool, List, None, Option, Some, [], ap, arith, cond, false, filter, map, min, refl, sym, true, ℕ, ◌&&◌, ◌+◌, ◌*◌, ◌<◌, ◌∙◌, ◌∷◌, ◌≡◌}
use Rattle.std.specs.Prelude.{nat_le, not, ◌||◌}
use Rattle.std.specs.List.{fold, list_any}
use Rattle.std.proofs.lemmas.Bool.Decides.{nat_tests}
use Rattle.sb_machine.specs.Delivery.{is_expired}
use Rattle.sb_machine.specs.Leases.{has_come, has_ended, is_ended_holder, is_over, is_ready}
use Rattle.sb_machine.specs.Names.{is_main}
use Rattle.sb_machine.specs.declared.call.Part.{Part}
use Rattle.sb_machine.specs.declared.call.Part.TheVariants.{Main}
use Rattle.sb_machine.specs.declared.state.Hold.{Hold}
use Rattle.sb_machine.specs.declared.state.Hold.TheVariants.{Session as UnderSession, Until}
use Rattle.sb_machine.specs.declared.state.Session.{Session}
use Rattle.sb_machine.specs.declared.state.Standing.{Standing}
use Rattle.sb_machine.specs.declared.state.Standing.TheVariants.{Deferred, Held, Ready, Scheduled}
use Rattle.sb_machine.specs.declared.state.StoredCopy.{StoredCopy}
use Rattle.sb_copies.specs.Dues.{copy_expiry, due_by, expiry, hold_deadline, is_due, moment_of, never, standing_due}
use Rattle.sb_engine.specs.Deadlines.{copy_deadline, has_passed, session_deadline}
use Rattle.sb_engine.specs.Sweeps.{is_looked_for, is_told}
use Rattle.sb_engine.specs.declared.time.finding.Search.{Search}
use Rattle.sb_engine.specs.declared.time.finding.Search.TheVariants.{Come, Ended, Expired}
use Rattle.sb_engine.proofs.Dues.{any_same, ended_holder, none_of}

not_so : (b : Bool) → not b ≡ true → b ≡ false
not_so true e = absurd (let bad : false ≡ true = e in cc)
not_so false e = refl

low_min : (d t : ℕ) → nat_le d t ≡ true → nat_le (min d never) t ≡ true
low_min d t e = grind (arith, nat_tests)

-- ---- what a sweep looks for has come due

module _ (t : ℕ) (c : StoredCopy) where
  ended_due : (e : Bool) (sessions : List Session) → list_any (λ x. has_passed t (session_deadline x)) sessions ≡ false → (standing : Standing) → has_ended t sessions standing ≡ true → nat_le (moment_of (standing_due e (copy_expiry c) standing)) t ≡ true
  ended_due e sessions none Ready is = absurd (let bad : false ≡ true = is in cc)
  ended_due e sessions none Deferred is = absurd (let bad : false ≡ true = is in cc)
  ended_due e sessions none (Held lock hold deferred) is = at hold is where
    at : (hold : Hold) → is_over t sessions hold ≡ true → nat_le (moment_of (hold_deadline hold)) t ≡ true
    at (Until u) is = low_min u t is
    at (UnderSession l) is =
        let lives : list_any (is_ended_holder t l) sessions ≡ false = none_of (λ x. has_passed t (session_deadline x)) (is_ended_holder t l) (λ x one. ended_holder t Main l x.holder one) sessions none in
        absurd (let bad : false ≡ true = sym lives ∙ is in cc)
  ended_due e sessions none (Scheduled at) is = absurd (let bad : false ≡ true = is in cc)

  old_due : (enqueued : ℕ) (ttl : Option ℕ) → ◌≡◌ {A = Bool} (elim ttl [ Some seconds ↦ nat_le (enqueued + 1000 * seconds) t | None ↦ false ]) true → nat_le (moment_of (expiry enqueued ttl)) t ≡ true
  old_due enqueued None is = absurd (let bad : false ≡ true = is in cc)
  old_due enqueued (Some seconds) is = low_min (enqueued + 1000 * seconds) t is

  expired_due : (standing : Standing) → (is_ready standing && is_expired t c) ≡ true → nat_le (moment_of (standing_due true (copy_expiry c) standing)) t ≡ true
  expired_due Ready is = old_due c.enqueued c.message.ttl is
  expired_due Deferred is = absurd (let bad : false ≡ true = is in cc)
  expired_due (Held lock hold deferred) is = absurd (let bad : false ≡ true = is in cc)
  expired_due (Scheduled at) is = absurd (let bad : false ≡ true = is in cc)

  come_due : (e : Bool) (standing : Standing) → has_come t standing ≡ true → nat_le (moment_of (standing_due e (copy_expiry c) standing)) t ≡ true
  come_due e Ready is = absurd (let bad : false ≡ true = is in cc)
  come_due e Deferred is = absurd (let bad : false ≡ true = is in cc)
  come_due e (Held lock hold deferred) is = absurd (let bad : false ≡ true = is in cc)
  come_due e (Scheduled at) is = low_min at t is

pub told_one : (search : Search) (t : ℕ) (sessions : List Session) (e : Bool) → is_told search t sessions e ≡ true → (c : StoredCopy) → is_looked_for search t sessions c ≡ true → is_due e t c ≡ true
told_one Ended t sessions e told c is = ended_due t c e sessions (not_so (list_any (λ x. has_passed t (session_deadline x)) sessions) told) c.standing is
told_one Expired t sessions true told c is = expired_due t c c.standing is
told_one Expired t sessions false told c is = absurd (let bad : false ≡ true = told in cc)
told_one Come t sessions e told c is = come_due t c e c.standing is

module _ {X : Type 0} (p q : X → Bool) (all : (x : X) → p x ≡ true → q x ≡ true) where
  filter_within : (xs : List X) → filter p (filter q xs) ≡ filter p xs
  filter_within [] = refl
  filter_within (x ∷ xs) = at (q x) refl (p x) refl (filter_within xs) where
    at : (b : Bool) → q x ≡ b → (a : Bool) → p x ≡ a → filter p (filter q xs) ≡ filter p xs → filter p (cond b (x ∷ filter q xs) (filter q xs)) ≡ cond a (x ∷ filter p xs) (filter p xs)
    at true e true f ih = ap (λ (t : Bool). cond t (x ∷ filter p (filter q xs)) (filter p (filter q xs))) f ∙ ap (λ (l : List X). x ∷ l) ih
    at true e false f ih = ap (λ (t : Bool). cond t (x ∷ filter p (filter q xs)) (filter p (filter q xs))) f ∙ ih
    at false e true f ih = absurd (let bad : false ≡ true = sym e ∙ all x f in cc)
    at false e false f ih = ih

-- what a sweep looks for among what has come due is all that it looks for
pub told_found : (search : Search) (t : ℕ) (sessions : List Session) (e : Bool) (cs : List StoredCopy) → is_told search t sessions e ≡ true → filter (is_looked_for search t sessions) (due_by e t cs) ≡ filter (is_looked_for search t sessions) cs
told_found search t sessions e cs told = filter_within (is_looked_for search t sessions) (is_due e t) (told_one search t sessions e told) cs

-- ---- whether one is due

pub passed : (t : ℕ) → t < never → (o : Option ℕ) → nat_le (moment_of o) t ≡ has_passed t o
passed t p None = grind (arith, nat_tests)
passed t p (Some d) = grind (arith, nat_tests)

pub min_due : (a b m : ℕ) → nat_le (min a b) m ≡ (nat_le a m || nat_le b m)
min_due a b m = grind (arith, nat_tests)

pub or_assoc : (a b c : Bool) → ((a || b) || c) ≡ (a || (b || c))
or_assoc true b c = refl
or_assoc false b c = refl

or_false : (a : Bool) → a ≡ (a || false)
or_false true = refl
or_false false = refl

pub fold_due : {X : Type 0} (f : X → ℕ) (t a : ℕ) (xs : List X) → nat_le (fold min a (map f xs)) t ≡ (nat_le a t || list_any (λ x. nat_le (f x) t) xs)
fold_due f t a [] = or_false (nat_le a t)
fold_due f t a (x ∷ xs) = fold_due f t (min a (f x)) xs ∙ ap (λ (b : Bool). b || list_any (λ x. nat_le (f x) t) xs) (min_due a (f x) t) ∙ or_assoc (nat_le a t) (nat_le (f x) t) (list_any (λ x. nat_le (f x) t) xs)

never_yet : (t : ℕ) → t < never → nat_le never t ≡ false
never_yet t p = grind (arith, nat_tests)

-- the least moment of many, before the last that there is
pub any_due : {X : Type 0} (f : X → ℕ) (q : X → Bool) (t : ℕ) → t < never → ((x : X) → nat_le (f x) t ≡ q x) → (xs : List X) → nat_le (fold min never (map f xs)) t ≡ list_any q xs
any_due f q t p same xs =
    fold_due f t never xs
    ∙ ap (λ (b : Bool). b || list_any (λ x. nat_le (f x) t) xs) (never_yet t p)
    ∙ any_same (λ x. nat_le (f x) t) q same xs

pub due_as : (part : Part) (e : Bool) (t : ℕ) → e ≡ is_main part → t < never → (c : StoredCopy) → is_due e t c ≡ has_passed t (copy_deadline part c)
due_as part e t is p c = ap (λ (b : Bool). nat_le (moment_of (standing_due b (copy_expiry c) c.standing)) t) is ∙ passed t p (standing_due (is_main part) (copy_expiry c) c.standing)
