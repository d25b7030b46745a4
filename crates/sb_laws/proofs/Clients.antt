-- What is kept of clients: in order of name, and few enough; and what is kept behind one that was forgotten.
use Rattle.std.proofs.Common.{Bool, List, None, Option, Some, [], ap, arith, false, length, nat_lt, refl, subst, sym, true, ℕ, ◌<◌, ◌∙◌, ◌∷◌, ◌≡◌, ◌≤◌}
use Rattle.std.proofs.lemmas.Bool.Decides.{nat_tests}
use Rattle.std.specs.Prelude.{bytes_eq, if◌then◌else◌, is_some}
use Rattle.sb_laws.proofs.Eachs.{each_changed, each_inserted, like_gone, like_one, pairs_changed}
use Rattle.sb_laws.proofs.Lists.{found_other, found_passes}
use Rattle.sb_laws.proofs.Measures.{shorter_changed}
use Rattle.sb_laws.proofs.MovesAll.{one_in}
use Rattle.sb_laws.proofs.Outcomes.{IsNewer, first_of, later_of, unnumbered}
use Rattle.sb_laws.proofs.Sameness.{same_bytes}
use Rattle.sb_laws.proofs.Sorting.{before_later, before_other, later_differs, none_same, sorted_placed}
use Rattle.sb_machine.specs.Answers.{keeping, kept_as, with_kept, without_client}
use Rattle.sb_machine.specs.Each.{Each, IsSorted}
use Rattle.sb_machine.specs.Keyed.{changed, with_sorted}
use Rattle.sb_machine.specs.Names.{is_before}
use Rattle.sb_machine.specs.Repeats.{is_client, kept_for, max_clients}
use Rattle.sb_machine.specs.declared.call.Act.{Act}
use Rattle.sb_machine.specs.declared.call.By.{By}
use Rattle.sb_machine.specs.declared.reply.Reply.{Reply}
use Rattle.sb_machine.specs.declared.state.Kept.{Kept}

pub record AreClients (clients : List Kept) : Type 0 where
  pub order : IsSorted (λ a b. is_before a.client b.client) clients
  pub few : length clients ≤ max_clients

new_client : (k : Kept) (clients : List Kept) → kept_for k.client clients ≡ None → length clients < max_clients → AreClients clients → AreClients (with_kept k clients)
new_client k clients none room h = rw none (record {
  order = sorted_placed (λ a b. is_before a.client b.client) (λ a b. bytes_eq a.client b.client) k (λ y z p q. before_later k.client y.client z.client p q) (λ y p q. before_other y.client k.client p q) clients (none_same (is_client k.client) clients none) h.order;
  few = omega (arith, room, one_in (λ x. is_before x.client k.client) k clients);
})

old_client : (k old : Kept) (clients : List Kept) → kept_for k.client clients ≡ Some old → AreClients clients → AreClients (with_kept k clients)
old_client k old clients there h = rw there (record {
  order = pairs_changed (λ x y. y.client ≡ x.client) (λ a b. is_before a.client b.client ≡ true) (is_client k.client) (λ x. k ∷ []) (λ x y z same before. subst (λ (c : List ℕ). is_before c z.client ≡ true) (sym same) before) (λ x y z same before. subst (λ (c : List ℕ). is_before z.client c ≡ true) (sym same) before) clients
      (λ x found. like_one (sym (same_bytes x.client k.client (found_passes (is_client k.client) x clients found)))) h.order;
  few = omega (arith, h.few, shorter_changed (is_client k.client) (λ x. k ∷ []) clients (λ x. omega arith));
})

-- ---- a client that is forgotten

-- what is kept of another client stays
pub kept_without : (client name : List ℕ) (clients : List Kept) → bytes_eq name client ≡ false → kept_for client (without_client name clients) ≡ kept_for client clients
kept_without client name clients differ = found_other (is_client name) (is_client client) (λ x. []) clients (λ x e. ap (λ (l : List ℕ). bytes_eq l client) (same_bytes x.client name e) ∙ differ) (λ x e. refl)

-- nothing is kept of it
pub kept_gone : (name : List ℕ) (clients : List Kept) → IsSorted (λ a b. is_before a.client b.client) clients → kept_for name (without_client name clients) ≡ None
kept_gone name [] order = refl
kept_gone name (k ∷ ks) order = at (bytes_eq k.client name) refl (kept_gone name ks order.1) where
  none_behind : (xs : List Kept) → Each (λ x. is_before k.client x.client ≡ true) xs → k.client ≡ name → kept_for name xs ≡ None
  none_behind [] behind is = refl
  none_behind (x ∷ xs) behind is = rw (subst (λ (l : List ℕ). bytes_eq x.client l ≡ false) is (later_differs k.client x.client behind.0)) (none_behind xs behind.1 is)

  at : (b : Bool) → bytes_eq k.client name ≡ b → kept_for name (without_client name ks) ≡ None → kept_for name (without_client name (k ∷ ks)) ≡ None
  at true is ih = rw is (none_behind ks order.0 (same_bytes k.client name is))
  at false is ih = rw (is, is) ih

pub clients_without : (name : List ℕ) (clients : List Kept) → AreClients clients → AreClients (without_client name clients)
clients_without name clients h = record {
  order = pairs_changed (λ x y. y.client ≡ x.client) (λ a b. is_before a.client b.client ≡ true) (is_client name) (λ x. []) (λ x y z same before. subst (λ (c : List ℕ). is_before c z.client ≡ true) (sym same) before) (λ x y z same before. subst (λ (c : List ℕ). is_before z.client c ≡ true) (sym same) before) clients
      (λ x found. like_gone) h.order;
  few = omega (arith, h.few, shorter_changed (is_client name) (λ x. []) clients (λ x. omega arith));
}

-- who may act may act still where another was forgotten
pub newer_without : (name : List ℕ) (clients : List Kept) (by : Option By) → ((b : By) → by ≡ Some b → bytes_eq name b.client ≡ false) → IsNewer clients by → IsNewer (without_client name clients) by
newer_without name clients _ other unnumbered = unnumbered
newer_without name clients _ other (first_of by none room) = first_of by (kept_without by.client name clients (other by refl) ∙ none) (less_room (length clients) (length (without_client name clients)) (shorter_changed (is_client name) (λ x. []) clients (λ x. omega arith)) room) where
  less_room : (m n : ℕ) → n ≤ m → nat_lt m max_clients ≡ true → nat_lt n max_clients ≡ true
  less_room m n le few = grind (arith, nat_tests)
newer_without name clients _ other (later_of by k there lt) = later_of by k (kept_without by.client name clients (other by refl) ∙ there) lt

-- ---- what is kept anew

-- what holds of all that is kept holds still where it holds of what is kept anew
pub keeps_each : (P : Kept → Type 0) (by : Option By) (act : Act) (reply : Reply) (clients : List Kept) → ((b : By) → by ≡ Some b → P (kept_as b act reply)) → Each P clients → Each P (keeping by act reply clients)
keeps_each P None act reply clients fits h = h
keeps_each P (Some b) act reply clients fits h = at (is_some (kept_for b.client clients)) where
  at : (c : Bool) → Each P (if c then changed (is_client b.client) (λ x. kept_as b act reply ∷ []) clients else with_sorted (λ x. is_before x.client b.client) (kept_as b act reply) clients)
  at true = each_changed P (is_client b.client) (λ x. kept_as b act reply ∷ []) clients (λ x found was. (fits b refl, tt)) h
  at false = each_inserted P (λ x. is_before x.client b.client) (kept_as b act reply) clients (fits b refl) h

below_so : (m n : ℕ) → nat_lt m n ≡ true → m < n
below_so m n e = grind (arith, nat_tests)

pub keeps_clients : (by : Option By) (act : Act) (reply : Reply) (clients : List Kept) → IsNewer clients by → AreClients clients → AreClients (keeping by act reply clients)
keeps_clients _ act reply clients unnumbered h = h
keeps_clients _ act reply clients (first_of by none room) h = new_client (kept_as by act reply) clients none (below_so (length clients) max_clients room) h
keeps_clients _ act reply clients (later_of by k there above_so) h = old_client (kept_as by act reply) k clients there h
