-- The lists of a call that is read stand in their order.
use Rattle.std.proofs.Common.{◌≡◌, ℕ, Bool, true, false, List, [], ◌∷◌, ◌++◌, Some, refl, ◌∙◌, ap, arith}
use Rattle.std.specs.Prelude.{not, ◌&&◌, nat_le, nat_lt, bytes_eq, Result, Ok, Err}
use Rattle.std.specs.List.{list_all}
use Rattle.std.specs.Ordering.{nat_cmp, is_lt, is_eq, ordering_reverse}
use Rattle.std.specs.declared.cmp.Ordering.{Ordering}
use Rattle.std.specs.declared.cmp.Ordering.TheVariants.{Less, Equal, Greater}
use Rattle.std.specs.Cmp.Lexicographic.{slice_cmp}
use Rattle.std.proofs.lemmas.Cmp.{nat_list_cmp_total}
use Rattle.std.proofs.lemmas.List.Folds.{list_all-append}
use Rattle.std.proofs.lemmas.Map.Text.{is_eq-slice_cmp}
use Rattle.std.proofs.lemmas.Bool.Decides.{nat_tests}
use Rattle.sb_model.specs.Effects.{without_user, with_user}
use Rattle.sb_model.specs.Orders.{AreRising, name_before, code_before, is_set}
use Rattle.sb_model.specs.SystemNames.{system_code}
use Rattle.sb_model.specs.declared.message.Property.{Property}
use Rattle.sb_model.specs.declared.message.PropertyValue.{PropertyValue}
use Rattle.sb_model.specs.declared.message.SystemName.{SystemName}
use Rattle.sb_model.specs.declared.message.SystemText.{SystemText}
use Rattle.sb_model.proofs.Orders.{all_pass, rising_filter, rising_placed}
use Rattle.sb_lines.specs.declared.fault.KeyFault.{KeyFault}
use Rattle.sb_lines.specs.Faults.{then_by}

-- ---- what holds of what is read

abbrev pub Holds : {T : Type 0} → (T → Type 0) → Result T KeyFault → Type 0
Holds P (Ok x) = P x
Holds P (Err key) = Unit {0}

-- nothing is asked
abbrev pub Any : {T : Type 0} → T → Type 0
Any x = Unit {0}

pub always : {T : Type 0} (r : Result T KeyFault) → Holds Any r
always (Ok x) = tt
always (Err key) = tt

pub then_holds : {A B : Type 0} (P : A → Type 0) (Q : B → Type 0) (r : Result A KeyFault) (next : A → Result B KeyFault) → Holds P r → ((x : A) → P x → Holds Q (next x)) → Holds Q (then_by r next)
then_holds P Q (Ok x) next holds onwards = onwards x holds
then_holds P Q (Err key) next holds onwards = tt

pub known_holds : {A B : Type 0} (Q : B → Type 0) (r : Result A KeyFault) (next : A → Result B KeyFault) → ((x : A) → Holds Q (next x)) → Holds Q (then_by r next)
known_holds Q (Ok x) next onwards = onwards x
known_holds Q (Err key) next onwards = tt

-- what holds of each of two
abbrev pub Two : {A B : Type 0} → (A → Type 0) → (B → Type 0) → A × B → Type 0
Two P Q x = P x.0 × Q x.1

pub two_hold : {A B : Type 0} (P : A → Type 0) (Q : B → Type 0) (a : Result A KeyFault) (b : Result B KeyFault) → Holds P a → Holds Q b → Holds (Two P Q) (then_by a (λ x. then_by b (λ y. Ok (x, y))))
two_hold P Q (Err key) b one two = tt
two_hold P Q (Ok x) (Err key) one two = tt
two_hold P Q (Ok x) (Ok y) one two = (one, two)

pub made_holds : {A B : Type 0} (make : A → B) (P : A → Type 0) (Q : B → Type 0) (r : Result A KeyFault) → Holds P r → ((x : A) → P x → Q (make x)) → Holds Q (then_by r (λ x. Ok (make x)))
made_holds make P Q (Ok x) holds onwards = onwards x holds
made_holds make P Q (Err key) holds onwards = tt

-- ---- system texts, by code

pub record UpTo (k : ℕ) (sys : List SystemText) : Type 0 where
  pub rising : AreRising code_before sys
  pub set : list_all is_set sys ≡ true
  pub below : list_all (λ s. nat_le (system_code s.name) k) sys ≡ true

both : (a b : Bool) → (a && b) ≡ true → (a ≡ true) × (b ≡ true)
both true b e = (refl, e)
both false b e = absurd cc

pair : (a b : Bool) → a ≡ true → b ≡ true → (a && b) ≡ true
pair a b p q = rw p q

wider : (k n : ℕ) → nat_lt k n ≡ true → (sys : List SystemText) → list_all (λ s. nat_le (system_code s.name) k) sys ≡ true → list_all (λ s. nat_le (system_code s.name) n) sys ≡ true
wider k n less [] all = refl
wider k n less (s ∷ ss) all =
    let parts = both (nat_le (system_code s.name) k) (list_all (λ t. nat_le (system_code t.name) k) ss) all in
    let here : nat_le (system_code s.name) n ≡ true = at (system_code s.name) parts.0 in
    pair (nat_le (system_code s.name) n) (list_all (λ t. nat_le (system_code t.name) n) ss) here (wider k n less ss parts.1) where
      at : (c : ℕ) → nat_le c k ≡ true → nat_le c n ≡ true
      at c within = grind (arith, nat_tests, within, less)

joined : {X : Type 0} (p : X → Bool) (xs : List X) (x : X) → list_all p xs ≡ true → p x ≡ true → list_all p (xs ++ x ∷ []) ≡ true
joined p xs x all one = list_all-append p xs (x ∷ []) ∙ pair (list_all p xs) (p x && true) all (pair (p x) true one refl)

rising_joined : (k : ℕ) (sys : List SystemText) (s : SystemText) → nat_lt k (system_code s.name) ≡ true → list_all (λ t. nat_le (system_code t.name) k) sys ≡ true → AreRising code_before sys → AreRising code_before (sys ++ s ∷ [])
rising_joined k [] s less below rising = (refl, tt)
rising_joined k (t ∷ ts) s less below rising =
    let parts = both (nat_le (system_code t.name) k) (list_all (λ u. nat_le (system_code u.name) k) ts) below in
    let here : code_before t s ≡ true = at (system_code t.name) (system_code s.name) parts.0 less in
    (joined (code_before t) ts s rising.0 here, rising_joined k ts s less parts.1 rising.1) where
      at : (c n : ℕ) → nat_le c k ≡ true → nat_lt k n ≡ true → nat_lt c n ≡ true
      at c n within less = grind (arith, nat_tests, within, less)

within_self : (n : ℕ) → nat_le n n ≡ true
within_self n = grind (arith, nat_tests)

pub text_added : (k : ℕ) (name : SystemName) (b : ℕ) (bs : List ℕ) (sys : List SystemText) → nat_lt k (system_code name) ≡ true → UpTo k sys → UpTo (system_code name) (sys ++ record { name = name; text = b ∷ bs } ∷ [])
text_added k name b bs sys less is =
    let s : SystemText = record { name = name; text = b ∷ bs } in
    let here : is_set s ≡ true = grind (arith, nat_tests) in
    record {
      rising = rising_joined k sys s less is.below is.rising;
      set = joined is_set sys s is.set here;
      below = joined (λ t. nat_le (system_code t.name) (system_code name)) sys s (wider k (system_code name) less sys is.below) (within_self (system_code name));
    }

pub text_kept : (k n : ℕ) (sys : List SystemText) → nat_lt k n ≡ true → UpTo k sys → UpTo n sys
text_kept k n sys less is = record { rising = is.rising; set = is.set; below = wider k n less sys is.below }

-- ---- user properties, by name

less_is : (o : Ordering) → is_lt o ≡ true → o ≡ Less
less_is Less e = refl
less_is Equal e = absurd cc
less_is Greater e = absurd cc

names_later : (p q r : Property) → name_before p q ≡ true → name_before q r ≡ true → name_before p r ≡ true
names_later p q r a b = ap is_lt (nat_list_cmp_total.trans p.name q.name r.name (less_is (slice_cmp nat_cmp p.name q.name) a) (less_is (slice_cmp nat_cmp q.name r.name) b))

names_other : (p q : Property) → name_before q p ≡ false → bytes_eq q.name p.name ≡ false → name_before p q ≡ true
names_other p q after differs = at (slice_cmp nat_cmp q.name p.name) after (is_eq-slice_cmp q.name p.name ∙ differs) (nat_list_cmp_total.antisymm p.name q.name) where
  at : (o : Ordering) → is_lt o ≡ false → is_eq o ≡ false → slice_cmp nat_cmp p.name q.name ≡ ordering_reverse o → name_before p q ≡ true
  at Less after differs e = absurd cc
  at Equal after differs e = absurd cc
  at Greater after differs e = ap is_lt e

pub property_set : (name : List ℕ) (value : PropertyValue) (props : List Property) → AreRising name_before props → AreRising name_before (with_user name (Some value) props)
property_set name v props rising =
    let p : Property = record { name = name; value = v } in
    rising_placed name_before p (λ q r. bytes_eq q.name r.name) (λ q r. names_later p q r) (λ q. names_other p q) (without_user name props) (all_pass (λ q. not (bytes_eq q.name name)) props) (rising_filter name_before (λ q. not (bytes_eq q.name name)) props rising)
