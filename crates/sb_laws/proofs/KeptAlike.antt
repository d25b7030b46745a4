-- Clients' numbers, without the acts and replies that are kept with them.
use Rattle.std.proofs.Common.{Bool, List, None, Option, Some, [], ap, arith, false, length, nat_lt, refl, subst, sym, true, ℕ, ◌<◌, ◌==◌, ◌∙◌, ◌∷◌, ◌≡◌}
use Rattle.std.proofs.lemmas.Bool.Decides.{nat_tests}
use Rattle.std.proofs.lemmas.List.{length-map}
use Rattle.std.specs.Prelude.{bytes_eq, find, if◌then◌else◌, is_some}
use Rattle.sb_laws.proofs.Outcomes.{IsNewer, first_of, later_of, unnumbered}
use Rattle.sb_laws.proofs.Placed.{placed_behind, placed_here}
use Rattle.sb_laws.specs.Thin.{number_kept, numbers_kept}
use Rattle.sb_machine.specs.Accounts.{Numbered}
use Rattle.sb_machine.specs.Answers.{keeping, kept_as, with_kept, without_client}
use Rattle.sb_machine.specs.Keyed.{changed, with_sorted}
use Rattle.sb_machine.specs.Names.{is_before}
use Rattle.sb_machine.specs.Repeats.{Outcome, by_number, for_client, forgetting, forgot, is_client, kept_for, max_clients, refused, repeated}
use Rattle.sb_machine.specs.Same.{same_act}
use Rattle.sb_machine.specs.declared.call.Act.{Act}
use Rattle.sb_machine.specs.declared.call.By.{By}
use Rattle.sb_machine.specs.declared.reply.Refusal.TheVariants.{ClientNotFound, ClientsFull, NumberReused, StaleNumber}
use Rattle.sb_machine.specs.declared.reply.Reply.{Reply}
use Rattle.sb_machine.specs.declared.state.Kept.{Kept}

abbrev is_number_of : List ℕ → Numbered → Bool
is_number_of client x = bytes_eq x.client client

abbrev number_at : Option Kept → Option Numbered
number_at None = None
number_at (Some k) = Some (number_kept k)

number_found : (client : List ℕ) (ks : List Kept) → find (is_number_of client) (numbers_kept ks) ≡ number_at (kept_for client ks)
number_found client [] = refl
number_found client (k ∷ ks) = at (bytes_eq k.client client) refl (number_found client ks) where
  at : (b : Bool) → bytes_eq k.client client ≡ b → find (is_number_of client) (numbers_kept ks) ≡ number_at (kept_for client ks) → find (is_number_of client) (numbers_kept (k ∷ ks)) ≡ number_at (kept_for client (k ∷ ks))
  at true is ih = rw is refl
  at false is ih = rw is ih

-- the same number is kept, or none in both
same_kept : (client : List ℕ) (a b : List Kept) → numbers_kept a ≡ numbers_kept b → number_at (kept_for client a) ≡ number_at (kept_for client b)
same_kept client a b same = sym (number_found client a) ∙ ap (λ (l : List Numbered). find (is_number_of client) l) same ∙ number_found client b

same_count : (a b : List Kept) → numbers_kept a ≡ numbers_kept b → length a ≡ length b
same_count a b same = sym (length-map a number_kept) ∙ ap length same ∙ length-map b number_kept

pub newer_alike : (a b : List Kept) (by : Option By) → numbers_kept a ≡ numbers_kept b → IsNewer b by → IsNewer a by
newer_alike a b _ same unnumbered = unnumbered
newer_alike a b _ same (first_of by none few) = at (kept_for by.client a) refl where
  at : (o : Option Kept) → kept_for by.client a ≡ o → IsNewer a (Some by)
  at None is = first_of by is (ap (λ (n : ℕ). nat_lt n max_clients) (same_count a b same) ∙ few)
  at (Some k) is = let bad : Some (number_kept k) ≡ None = sym (ap number_at is) ∙ same_kept by.client a b same ∙ ap number_at none in absurd cc
newer_alike a b _ same (later_of by k there lt) = at (kept_for by.client a) refl where
  number_of : (x y : Kept) → Some (number_kept x) ≡ Some (number_kept y) → x.number ≡ y.number
  number_of x y e = let one : number_kept x ≡ number_kept y = cc in ap (λ (n : Numbered). n.number) one

  at : (o : Option Kept) → kept_for by.client a ≡ o → IsNewer a (Some by)
  at None is = let bad : None ≡ Some (number_kept k) = sym (ap number_at is) ∙ same_kept by.client a b same ∙ ap number_at there in absurd cc
  at (Some x) is = later_of by x is (subst (λ (n : ℕ). n < by.number) (sym (number_of x k (sym (ap number_at is) ∙ same_kept by.client a b same ∙ ap number_at there))) lt)

-- with a newer number an act acts
pub newer_acts : (clients : List Kept) (by : Option By) (act : Act) (next : Outcome) → IsNewer clients by → for_client by act clients next ≡ next
newer_acts clients _ act next unnumbered = refl
newer_acts clients _ act next (first_of by none few) = ap (λ (o : Option Kept). by_number by act clients o next) none ∙ ap (λ (b : Bool). if b then next else refused ClientsFull) few
newer_acts clients _ act next (later_of by k there lt) = ap (λ (o : Option Kept). by_number by act clients o next) there ∙ ap (λ (b : Bool). if b then refused (StaleNumber k.number) else (if by.number == k.number then (if same_act k.act act then repeated k.reply else refused NumberReused) else next)) not_lower
    ∙ ap (λ (b : Bool). if b then (if same_act k.act act then repeated k.reply else refused NumberReused) else next) not_same where
      low : (m n : ℕ) → n < m → nat_lt m n ≡ false
      low m n lt = grind (arith, nat_tests)

      other : (m n : ℕ) → n < m → (m == n) ≡ false
      other m n lt = grind (arith, nat_tests)

      not_lower : nat_lt by.number k.number ≡ false
      not_lower = low by.number k.number lt

      not_same : (by.number == k.number) ≡ false
      not_same = other by.number k.number lt

-- ---- one more that is kept

abbrev with_number_at : Bool → Numbered → List Numbered → List Numbered
with_number_at there x ns = if there then changed (is_number_of x.client) (λ y. x ∷ []) ns else with_sorted (λ y. is_before y.client x.client) x ns

abbrev with_number : Numbered → List Numbered → List Numbered
with_number x ns = with_number_at (is_some (find (is_number_of x.client) ns)) x ns

numbers_changed : (k : Kept) (ks : List Kept) → numbers_kept (changed (is_client k.client) (λ x. k ∷ []) ks) ≡ changed (is_number_of k.client) (λ y. number_kept k ∷ []) (numbers_kept ks)
numbers_changed k [] = refl
numbers_changed k (x ∷ ks) = at (bytes_eq x.client k.client) refl (numbers_changed k ks) where
  at : (b : Bool) → bytes_eq x.client k.client ≡ b → numbers_kept (changed (is_client k.client) (λ x. k ∷ []) ks) ≡ changed (is_number_of k.client) (λ y. number_kept k ∷ []) (numbers_kept ks)
      → numbers_kept (changed (is_client k.client) (λ x. k ∷ []) (x ∷ ks)) ≡ changed (is_number_of k.client) (λ y. number_kept k ∷ []) (numbers_kept (x ∷ ks))
  at true is ih = rw is refl
  at false is ih = rw is (ap (λ (l : List Numbered). number_kept x ∷ l) ih)

numbers_placed : (k : Kept) (ks : List Kept) → numbers_kept (with_sorted (λ x. is_before x.client k.client) k ks) ≡ with_sorted (λ y. is_before y.client k.client) (number_kept k) (numbers_kept ks)
numbers_placed k [] = refl
numbers_placed k (x ∷ ks) = at (is_before x.client k.client) refl (numbers_placed k ks) where
  at : (b : Bool) → is_before x.client k.client ≡ b → numbers_kept (with_sorted (λ x. is_before x.client k.client) k ks) ≡ with_sorted (λ y. is_before y.client k.client) (number_kept k) (numbers_kept ks)
      → numbers_kept (with_sorted (λ x. is_before x.client k.client) k (x ∷ ks)) ≡ with_sorted (λ y. is_before y.client k.client) (number_kept k) (numbers_kept (x ∷ ks))
  at true is ih = ap numbers_kept (placed_behind (λ x. is_before x.client k.client) k x ks is) ∙ ap (λ (l : List Numbered). number_kept x ∷ l) ih ∙ sym (placed_behind (λ y. is_before y.client k.client) (number_kept k) (number_kept x) (numbers_kept ks) is)
  at false is ih = ap numbers_kept (placed_here (λ x. is_before x.client k.client) k x ks is) ∙ sym (placed_here (λ y. is_before y.client k.client) (number_kept k) (number_kept x) (numbers_kept ks) is)

there_alike : (o : Option Kept) → is_some (number_at o) ≡ is_some o
there_alike None = refl
there_alike (Some k) = refl

numbers_with : (k : Kept) (ks : List Kept) → numbers_kept (with_kept k ks) ≡ with_number (number_kept k) (numbers_kept ks)
numbers_with k ks = at (is_some (kept_for k.client ks)) ∙ ap (λ (b : Bool). with_number_at b (number_kept k) (numbers_kept ks)) (sym (ap is_some (number_found k.client ks) ∙ there_alike (kept_for k.client ks))) where
  at : (b : Bool) → numbers_kept (if b then changed (is_client k.client) (λ x. k ∷ []) ks else with_sorted (λ x. is_before x.client k.client) k ks) ≡ with_number_at b (number_kept k) (numbers_kept ks)
  at true = numbers_changed k ks
  at false = numbers_placed k ks

pub keeping_alike : (by : Option By) (act other : Act) (reply given : Reply) (a b : List Kept) → numbers_kept a ≡ numbers_kept b → numbers_kept (keeping by act reply a) ≡ numbers_kept (keeping by other given b)
keeping_alike None act other reply given a b same = same
keeping_alike (Some by) act other reply given a b same = numbers_with (kept_as by act reply) a ∙ ap (with_number (record { client = by.client; number = by.number })) same ∙ sym (numbers_with (kept_as by other given) b)

-- ---- one that is forgotten

numbers_without : (name : List ℕ) (ks : List Kept) → numbers_kept (without_client name ks) ≡ changed (is_number_of name) (λ y. []) (numbers_kept ks)
numbers_without name [] = refl
numbers_without name (x ∷ ks) = at (bytes_eq x.client name) refl (numbers_without name ks) where
  at : (b : Bool) → bytes_eq x.client name ≡ b → numbers_kept (without_client name ks) ≡ changed (is_number_of name) (λ y. []) (numbers_kept ks) → numbers_kept (without_client name (x ∷ ks)) ≡ changed (is_number_of name) (λ y. []) (numbers_kept (x ∷ ks))
  at true is ih = rw is refl
  at false is ih = rw is (ap (λ (l : List Numbered). number_kept x ∷ l) ih)

pub without_alike : (name : List ℕ) (a b : List Kept) → numbers_kept a ≡ numbers_kept b → numbers_kept (without_client name a) ≡ numbers_kept (without_client name b)
without_alike name a b same = numbers_without name a ∙ ap (changed (is_number_of name) (λ y. [])) same ∙ sym (numbers_without name b)

-- it is forgotten in both, or in none
pub forgetting_alike : (name : List ℕ) (a b : List Kept) → numbers_kept a ≡ numbers_kept b → forgetting name a ≡ forgetting name b
forgetting_alike name a b same = ap (λ (there : Bool). if there then forgot name else refused ClientNotFound) (sym (there_alike (kept_for name a)) ∙ ap is_some (same_kept name a b same) ∙ there_alike (kept_for name b))
