-- System texts that are written as fields are read back into their places.
use Rattle.std.proofs.Common.{◌≡◌, ℕ, suc, ◌+◌, ◌<◌, ◌≤◌, Bool, true, false, cond, List, [], ◌∷◌, Option, Some, None, refl, sym, ap, subst, ◌∙◌, arith}
use Rattle.std.specs.Prelude.{◌==◌, ◌&&◌, find, nat_lt}
use Rattle.std.specs.List.{filter, insert, list_all, prefix_len}
use Rattle.std.proofs.lemmas.Bool.{eqb-true, eqb-false, ltb-true, ltb-false, lt-ltb, le-ltb}
use Rattle.sb_model.specs.Effects.{with_text_more}
use Rattle.sb_model.specs.Orders.{AreRising, code_before}
use Rattle.sb_model.specs.SystemNames.{system_code, system_names}
use Rattle.sb_model.specs.declared.message.SystemName.{SystemName}
use Rattle.sb_model.specs.declared.message.SystemName.TheVariants.{MessageId, Label, CorrelationId, SessionId, To, ReplyTo, ReplyToSessionId, ContentType}
use Rattle.sb_model.specs.declared.message.SystemText.{SystemText}
use Rattle.sb_model.proofs.Orders.{all_filter}
use Rattle.sb_amqp.specs.Fields.{field_number, field_name}
use Rattle.sb_amqp.specs.Written.{last_field}

-- ---- fields and names

abbrev pub name_found : SystemName → Option SystemName
name_found name = Some name

abbrev pub no_name : Option SystemName
no_name = None

named : (name : SystemName) → field_name (field_number name) ≡ name_found name
unfolding field_name
named MessageId = refl
named Label = refl
named CorrelationId = refl
named SessionId = refl
named To = refl
named ReplyTo = refl
named ReplyToSessionId = refl
named ContentType = refl

never_named : (name : SystemName) → name_found name ≡ no_name → ⊥
never_named name e = absurd cc

same_name : (a b : SystemName) → name_found a ≡ name_found b → a ≡ b
same_name a b e = cc

one_name : (a b : SystemName) → field_number a ≡ field_number b → a ≡ b
one_name a b e = same_name a b (sym (named a) ∙ ap field_name e ∙ named b)

find_passes : {A : Type 0} (p : A → Bool) (xs : List A) (x : A) → find p xs ≡ Some x → p x ≡ true
find_passes p [] x e = absurd cc
find_passes {A} p (y ∷ xs) x e = by_test (p y) refl e (find_passes p xs x) where
  some_same : (a b : A) → Some a ≡ Some b → a ≡ b
  some_same a b e = cc

  by_test : (b : Bool) → p y ≡ b → cond b (Some y) (find p xs) ≡ Some x → (find p xs ≡ Some x → p x ≡ true) → p x ≡ true
  by_test true is e ih = subst (λ (z : A). p z ≡ true) (some_same y x e) is
  by_test false is e ih = ih e

pub number_of : (k : ℕ) (name : SystemName) → field_name k ≡ name_found name → field_number name ≡ k
unfolding field_name
number_of k name e = eqb-true _ _ (find_passes (λ (n : SystemName). field_number n == k) system_names name e)

-- ---- the texts whose fields stand before one

abbrev pub below : ℕ → List SystemText → List SystemText
below k sys = filter (λ s. nat_lt (field_number s.name) k) sys

-- no text has this field
abbrev NoneAt : ℕ → List SystemText → Type 0
NoneAt k [] = Unit {0}
NoneAt k (s ∷ sys) = (field_number s.name ≡ k → ⊥) × NoneAt k sys

same_test : (n k : ℕ) → (n ≡ k → ⊥) → nat_lt n (suc k) ≡ nat_lt n k
same_test n k other = by_test (nat_lt n k) refl where
  above : k ≤ n → suc k ≤ n
  above le = by_eq (n == k) refl where
    by_eq : (b : Bool) → (n == k) ≡ b → suc k ≤ n
    by_eq true e = absurd (other (eqb-true n k e))
    by_eq false e = (let not = eqb-false n k e in omega (arith, le, not))

  by_test : (b : Bool) → nat_lt n k ≡ b → nat_lt n (suc k) ≡ nat_lt n k
  by_test true is = lt-ltb _ _ (let lt = ltb-true n k is in omega (arith, lt)) ∙ sym is
  by_test false is = le-ltb _ _ (let le = ltb-false n k is in above le) ∙ sym is

pub below_same : (k : ℕ) (sys : List SystemText) → NoneAt k sys → below (suc k) sys ≡ below k sys
below_same k [] none = refl
below_same k (s ∷ sys) none = rw (same_test (field_number s.name) k none.0, below_same k sys none.1) refl

pub none_named : (k : ℕ) → field_name k ≡ no_name → (sys : List SystemText) → NoneAt k sys
none_named k e [] = tt
none_named k e (s ∷ sys) = (λ is. never_named s.name (sym (named s.name) ∙ ap field_name is ∙ e), none_named k e sys)

abbrev pub has_name : SystemName → SystemText → Bool
has_name name s = system_code s.name == system_code name

abbrev pub text_found : SystemText → Option SystemText
text_found s = Some s

abbrev pub no_text : Option SystemText
no_text = None

other_name : (s : SystemText) (name : SystemName) → has_name name s ≡ false → field_number s.name ≡ field_number name → ⊥
other_name s name e is = eqb-false _ _ e (ap system_code (one_name s.name name is))

pub none_found : (name : SystemName) (sys : List SystemText) → find (has_name name) sys ≡ no_text → NoneAt (field_number name) sys
none_found name [] e = tt
none_found name (s ∷ sys) e = by_test (has_name name s) refl e (none_found name sys) where
  by_test : (b : Bool) → has_name name s ≡ b → cond b (text_found s) (find (has_name name) sys) ≡ no_text → (find (has_name name) sys ≡ no_text → NoneAt (field_number name) sys) → NoneAt (field_number name) (s ∷ sys)
  by_test true is e ih = absurd cc
  by_test false is e ih = (other_name s name is, ih e)

none_behind : (q : SystemText) (qs : List SystemText) → list_all (code_before q) qs ≡ true → NoneAt (field_number q.name) qs
none_behind q [] all = tt
none_behind q (r ∷ qs) all =
    let b = both (code_before q r) (list_all (code_before q) qs) all in
    let lt = ltb-true (system_code q.name) (system_code r.name) b.0 in (
      λ is. no_less (system_code q.name) (system_code r.name) lt (ap system_code (one_name r.name q.name is)),
      none_behind q qs b.1,
    ) where
      both : (a b : Bool) → (a && b) ≡ true → (a ≡ true) × (b ≡ true)
      both true b e = (refl, e)
      both false b e = absurd cc

      no_less : (a b : ℕ) → a < b → b ≡ a → ⊥
      no_less a b lt is = absurd (omega (arith, lt, is))

-- ---- one more text

first_place : (q : SystemText) (xs : List SystemText) → list_all (code_before q) xs ≡ true → prefix_len (λ r. nat_lt (system_code r.name) (system_code q.name)) xs ≡ 0
first_place q [] all = refl
first_place q (r ∷ xs) all =
    let lt = ltb-true (system_code q.name) (system_code r.name) (first (code_before q r) (list_all (code_before q) xs) all) in
    let no : nat_lt (system_code r.name) (system_code q.name) ≡ false = le-ltb _ _ (omega (arith, lt)) in
    rw no refl where
      first : (a b : Bool) → (a && b) ≡ true → a ≡ true
      first true b e = refl
      first false b e = absurd cc

found_among : (t p : SystemText → Bool) (xs : List SystemText) (s : SystemText) → list_all t xs ≡ true → find p xs ≡ text_found s → t s ≡ true
found_among t p [] s all e = absurd cc
found_among t p (x ∷ xs) s all e = by_test (p x) e (found_among t p xs s (split (t x) (list_all t xs) all).1) where
  split : (a b : Bool) → (a && b) ≡ true → (a ≡ true) × (b ≡ true)
  split true b e = (refl, e)
  split false b e = absurd cc

  same : (a b : SystemText) → text_found a ≡ text_found b → a ≡ b
  same a b e = cc

  by_test : (b : Bool) → cond b (text_found x) (find p xs) ≡ text_found s → (find p xs ≡ text_found s → t s ≡ true) → t s ≡ true
  by_test true e ih = subst (λ (z : SystemText). t z ≡ true) (same x s e) (split (t x) (list_all t xs) all).0
  by_test false e ih = ih e

coded : (name : SystemName) → find (λ n. system_code n == system_code name) system_names ≡ name_found name
coded MessageId = refl
coded Label = refl
coded CorrelationId = refl
coded SessionId = refl
coded To = refl
coded ReplyTo = refl
coded ReplyToSessionId = refl
coded ContentType = refl

pub one_code : (a b : SystemName) → system_code a ≡ system_code b → a ≡ b
one_code a b e = same_name a b (sym (coded a) ∙ ap (λ k. find (λ n. system_code n == k) system_names) e ∙ coded b)

-- where it stands
abbrev place_of : SystemText → List SystemText → ℕ
place_of s others = prefix_len (λ r. nat_lt (system_code r.name) (system_code s.name)) others

at_front : (q : SystemText) (qs : List SystemText) → list_all (code_before q) qs ≡ true → with_text_more q (below (field_number q.name) (q ∷ qs)) ≡ below (suc (field_number q.name)) (q ∷ qs)
at_front q qs all =
    let k : ℕ = field_number q.name in
    let not : nat_lt k k ≡ false = le-ltb _ _ (omega arith) in
    let is : nat_lt k (suc k) ≡ true = lt-ltb _ _ (omega arith) in
    let here : place_of q (below k qs) ≡ 0 = first_place q (below k qs) (all_filter (code_before q) (λ s. nat_lt (field_number s.name) k) qs all) in
    rw (not, is, here, below_same k qs (none_behind q qs all)) refl

insert_behind : (q s : SystemText) (xs : List SystemText) (n : ℕ) → insert (q ∷ xs) (1 + n) s ≡ q ∷ insert xs n s
insert_behind q s xs n = (let on : 1 + n ≡ suc n = omega arith in ap (λ k. insert (q ∷ xs) k s) on)

behind_one : (q s : SystemText) (k : ℕ) (qs : List SystemText) → code_before q s ≡ true → (field_number q.name ≡ k → ⊥) → with_text_more s (below k qs) ≡ below (suc k) qs → with_text_more s (below k (q ∷ qs)) ≡ below (suc k) (q ∷ qs)
behind_one q s k qs before other ih = by_test (nat_lt (field_number q.name) k) refl where
  by_test : (b : Bool) → nat_lt (field_number q.name) k ≡ b → with_text_more s (below k (q ∷ qs)) ≡ below (suc k) (q ∷ qs)
  by_test true is = rw (same_test (field_number q.name) k other, is, before) (insert_behind q s (below k qs) (place_of s (below k qs)) ∙ ap (λ (xs : List SystemText). q ∷ xs) ih)
  by_test false is = rw (same_test (field_number q.name) k other, is) ih

pub placed_more : (sys : List SystemText) (name : SystemName) (s : SystemText) → AreRising code_before sys → find (has_name name) sys ≡ text_found s → with_text_more s (below (field_number name) sys) ≡ below (suc (field_number name)) sys
placed_more [] name s rising e = absurd cc
placed_more (q ∷ qs) name s rising e = by_test (has_name name q) refl e (placed_more qs name s rising.1) where
  same : (a b : SystemText) → text_found a ≡ text_found b → a ≡ b
  same a b e = cc

  by_test : (b : Bool) → has_name name q ≡ b → cond b (text_found q) (find (has_name name) qs) ≡ text_found s
      → (find (has_name name) qs ≡ text_found s → with_text_more s (below (field_number name) qs) ≡ below (suc (field_number name)) qs) → with_text_more s (below (field_number name) (q ∷ qs)) ≡ below (suc (field_number name)) (q ∷ qs)
  by_test true is e ih =
      subst (λ (z : SystemText). with_text_more z (below (field_number name) (q ∷ qs)) ≡ below (suc (field_number name)) (q ∷ qs)) (same q s e)
      (subst (λ (n : SystemName). with_text_more q (below (field_number n) (q ∷ qs)) ≡ below (suc (field_number n)) (q ∷ qs)) (one_code q.name name (eqb-true _ _ is)) (at_front q qs rising.0))
  by_test false is e ih = behind_one q s (field_number name) qs (found_among (code_before q) (has_name name) qs s rising.0 e) (other_name q name is) (ih e)

-- ---- the ends

pub below_first : (sys : List SystemText) → below 1 sys ≡ []
below_first [] = refl
below_first (s ∷ sys) = rw (late s.name, below_first sys) refl where
  late : (name : SystemName) → nat_lt (field_number name) 1 ≡ false
  late MessageId = refl
  late Label = refl
  late CorrelationId = refl
  late SessionId = refl
  late To = refl
  late ReplyTo = refl
  late ReplyToSessionId = refl
  late ContentType = refl

pub below_last : (k : ℕ) (sys : List SystemText) → last_field sys ≤ k → below (suc k) sys ≡ sys
below_last k [] le = refl
below_last k (s ∷ sys) le =
    let is : nat_lt (field_number s.name) (suc k) ≡ true = lt-ltb _ _ (omega (arith, le)) in
    rw (is, below_last k sys (omega (arith, le))) refl
