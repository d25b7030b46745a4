-- What is listed, its ids and addresses, and open transactions, as each change keeps them.
use Rattle.std.proofs.Common.{Bool, List, None, Option, Some, [], ap, arith, false, length, not, refl, subst, sym, true, ℕ, ◌+◌, ◌==◌, ◌∙◌, ◌∷◌, ◌≡◌, ◌≤◌}
use Rattle.std.proofs.lemmas.List.{length-append}
use Rattle.std.proofs.lemmas.List.Sums.{sum_by-append}
use Rattle.std.specs.Prelude.{bytes_eq, codes, find, is_none, sum_by}
use Rattle.sb_laws.proofs.Carried.{IsOfAct, act_closes, act_drops, act_ends, act_enters, act_frees, act_notes, act_passes, act_waits}
use Rattle.sb_laws.proofs.Closing.{is_false}
use Rattle.sb_laws.proofs.Consistency.{between, then_none}
use Rattle.sb_laws.proofs.Eachs.{each_append, each_changed, each_filter, each_implied, like_one, pairs_append, pairs_changed, pairs_filter}
use Rattle.sb_laws.proofs.Entities.{about_with_leaf, entities_keep}
use Rattle.sb_laws.proofs.Lists.{sum_single}
use Rattle.sb_laws.proofs.Measures.{shorter_changed}
use Rattle.sb_laws.proofs.MovesAll.{shorter_filter}
use Rattle.sb_laws.proofs.Noting.{noted_ids}
use Rattle.sb_laws.proofs.Points.{StepKeeps}
use Rattle.sb_laws.proofs.Sameness.{bytes_same, same_bytes}
use Rattle.sb_laws.proofs.Shapes.{Arrives}
use Rattle.sb_laws.proofs.Sorting.{none_same}
use Rattle.sb_laws.specs.Plain.{IsPlain}
use Rattle.sb_machine.specs.Changes.{after, is_transaction, noted, on_entity, rule_added, rule_dropped, with_operation, with_rules}
use Rattle.sb_machine.specs.Descriptions.{bad_in_description, has_copies, is_fit, is_sent_to}
use Rattle.sb_machine.specs.Each.{Each, Pairs}
use Rattle.sb_machine.specs.Fields.{is_between, is_between_or_none, max_ttl}
use Rattle.sb_machine.specs.Fit.{AreIds}
use Rattle.sb_machine.specs.Leaves.{leaf_after}
use Rattle.sb_machine.specs.Names.{is_same_entity, is_same_option}
use Rattle.sb_machine.specs.Namespace.{is_entity, leaf_of, new_entity, with_leaf}
use Rattle.sb_machine.specs.Queueing.{deadline_with, max_operations, txn_life, weight}
use Rattle.sb_machine.specs.Transactions.{max_transactions}
use Rattle.sb_machine.specs.declared.call.Description.{Description}
use Rattle.sb_machine.specs.declared.call.Part.{Part}
use Rattle.sb_machine.specs.declared.call.Part.TheVariants.{Dead, Main, Transfer}
use Rattle.sb_machine.specs.declared.call.Path.{Path}
use Rattle.sb_machine.specs.declared.change.Change.{Change}
use Rattle.sb_machine.specs.declared.change.Change.TheVariants.{AddsRule, DropsRule, InLeaf, Makes, Notes, Removes}
use Rattle.sb_machine.specs.declared.change.LeafChange.{LeafChange}
use Rattle.sb_machine.specs.declared.change.LeafChange.TheVariants.{Closes, Ends, Enters, Holds, Opens, Passes, Prolongs, Renews, Stands, Writes}
use Rattle.sb_machine.specs.declared.change.LeafKey.{LeafKey}
use Rattle.sb_machine.specs.declared.state.AcceptedId.{AcceptedId}
use Rattle.sb_machine.specs.declared.state.Entity.{Entity}
use Rattle.sb_machine.specs.declared.state.EntityKind.{EntityKind}
use Rattle.sb_machine.specs.declared.state.Leaf.{Leaf}
use Rattle.sb_machine.specs.declared.state.Listed.{Listed}
use Rattle.sb_machine.specs.declared.state.Operation.{Operation}
use Rattle.sb_machine.specs.declared.state.Space.{Space}
use Rattle.sb_machine.specs.declared.state.Standing.TheVariants.{Ready, Scheduled}
use Rattle.sb_machine.specs.declared.state.Transaction.{Transaction}

-- ---- what is listed of each entity, with its ids

pub record IsNoted (t : ℕ) (e : Entity) : Type 0 where
  pub about : IsPlain e.about
  pub ids : AreIds t e.about.description.window e.ids

abbrev pub AreNoted : ℕ → Space → Type 0
AreNoted t s = Each (IsNoted t) s.entities

no_ids : (t : ℕ) (window : Option ℕ) → AreIds t window []
no_ids t None = refl
no_ids t (Some window) = (tt, tt, tt)

window_some : (kind : EntityKind) (d : Description) (window : ℕ) → d.window ≡ Some window → bad_in_description kind d ≡ None → 1 ≤ window
window_some kind d window is e =
    let f1 = then_none (is_fit (has_copies kind) (is_between 1 300 d.lock) (d.lock == 60)) (codes "lock") _ e in
    let f2 = then_none (is_between_or_none 1 max_ttl d.ttl) (codes "ttl") _ f1.1 in
    let f3 = then_none (is_fit (has_copies kind) (is_between 1 2000 d.max_delivery) (d.max_delivery == 10)) (codes "max_delivery") _ f2.1 in
    let f4 = then_none (is_fit (is_sent_to kind) (is_between_or_none 20 604800 d.window) (is_none d.window)) (codes "window") _ f3.1 in
    at (is_sent_to kind) f4.0
  where
    at : (b : Bool) → is_fit b (is_between_or_none 20 604800 d.window) (is_none d.window) ≡ true → 1 ≤ window
    at true so = let range : is_between 20 604800 window ≡ true = rw is at so in omega (arith, (between 20 604800 window range).0)
    at false so = let bad : false ≡ true = rw is at so in absurd cc

module _ (t : ℕ) where
  noted_step : (n : ℕ) (id : List ℕ) (s : Space) → AreNoted t s → AreNoted t (after t (Notes n id) s)
  noted_step n id s h = entities_keep (IsNoted t) t (Notes n id) s (λ e there is. record { about = is.about; ids = at e e.about.description.window refl is.about is.ids }) h where
    at : (e : Entity) (w : Option ℕ) → e.about.description.window ≡ w → IsPlain e.about → AreIds t e.about.description.window e.ids → AreIds t e.about.description.window (noted e.about.description.window id t e.ids)
    at e None is plain ids = rw is (rw is at ids)
    at e (Some window) is plain ids =
        let here : AreIds t (Some window) e.ids = subst (λ (w : Option ℕ). AreIds t w e.ids) is ids in
        subst (λ (w : Option ℕ). AreIds t w (noted w id t e.ids)) (sym is) (noted_ids t window (window_some e.about.kind e.about.description window is plain.described) id e.ids here)

  leaf_step : (key : LeafKey) (c : LeafChange) (s : Space) → AreNoted t s → AreNoted t (after t (InLeaf key c) s)
  leaf_step key c s h = entities_keep (IsNoted t) t (InLeaf key c) s (λ e there is. at key.part (leaf_after (s.last_lock + 1) t c (leaf_of key.part e)) e is) h where
    at : (part : Part) (leaf : Leaf) (e : Entity) → IsNoted t e → IsNoted t (with_leaf part leaf e)
    at Main leaf e is = record { about = is.about; ids = is.ids }
    at Dead leaf e is = record { about = is.about; ids = is.ids }
    at Transfer leaf e is = record { about = is.about; ids = is.ids }

  act_noted : (c : Change) (now : Space) → IsOfAct Arrives t c → AreNoted t now → AreNoted t (after t c now)
  act_noted _ now (act_enters key seq hops m few p) h = leaf_step key (Enters (record { seq = seq; hops = hops; standing = Ready; message = m })) now h
  act_noted _ now (act_waits key moment m later p) h = leaf_step key (Enters (record { seq = None; hops = 0; standing = Scheduled moment; message = m })) now h
  act_noted _ now (act_passes key cause) h = leaf_step key (Passes cause) now h
  act_noted _ now (act_ends key n by_settlement cause) h = leaf_step key (Ends n by_settlement cause) now h
  act_noted _ now (act_frees key n by_settlement count standing free few) h = leaf_step key (Stands n by_settlement count standing) now h
  act_noted _ now (act_closes key l) h = leaf_step key (Closes l) now h
  act_noted _ now (act_notes n id) h = noted_step n id now h
  act_noted _ now (act_drops n) h = h

  pub noted_steps : (s : Space) → StepKeeps (AreNoted t) t s
  noted_steps s = record {
    acts = act_noted;
    makes = λ kind path d rules plain ruled new h. entities_keep (IsNoted t) t (Makes kind path d rules) s (record { about = plain; ids = no_ids t d.window }) h;
    adds = λ n rule e on fresh named has h. entities_keep (IsNoted t) t (AddsRule n rule) s (λ e there is. record { about = record { address = is.about.address; whole = is.about.whole; kind = is.about.kind; described = is.about.described }; ids = is.ids }) h;
    rule_drop = λ n name h. entities_keep (IsNoted t) t (DropsRule n name) s (λ e there is. record { about = record { address = is.about.address; whole = is.about.whole; kind = is.about.kind; described = is.about.described }; ids = is.ids }) h;
    removes = λ n now h. entities_keep (IsNoted t) t (Removes n) now tt h;
    holds = λ key n hold h. leaf_step key (Holds n hold) s h;
    renews = λ key n until h. leaf_step key (Renews n until) s h;
    opens = λ key id until few h. leaf_step key (Opens id until) s h;
    prolongs = λ key l until few h. leaf_step key (Prolongs l until) s h;
    writes = λ key l bytes few h. leaf_step key (Writes l bytes) s h;
    begins = λ n e there few h. h;
    queues = λ x o there few fits h. h;
  }

  pub noted_later : (now : ℕ) (s : Space) → now ≤ t → AreNoted now s → AreNoted t s
  noted_later now s le h = each_implied (IsNoted now) (IsNoted t) (λ e is. record { about = is.about; ids = at e.about.description.window e.ids is.ids }) s.entities h where
    at : (w : Option ℕ) (ids : List AcceptedId) → AreIds now w ids → AreIds t w ids
    at None ids h = h
    at (Some window) ids h = (h.0, each_implied (λ a. a.moment ≤ now) (λ a. a.moment ≤ t) (λ a early. omega (arith, early, le)) ids h.1, h.2)

-- ---- addresses differ

abbrev pub OtherPath : Entity → Entity → Type 0
OtherPath e x = is_same_entity x.about.path e.about.path ≡ false

abbrev pub PathsDiffer : Space → Type 0
PathsDiffer s = Pairs OtherPath s.entities

paths_on : (n : ℕ) (f : Entity → Entity) (s : Space) → ((e : Entity) → (f e).about.path ≡ e.about.path) → PathsDiffer s → Pairs OtherPath (on_entity n f s)
paths_on n f s same h = pairs_changed (λ x y. y.about.path ≡ x.about.path) OtherPath (is_entity n) (λ e. f e ∷ [])
    (λ x y z is other. subst (λ (p : Path). is_same_entity z.about.path p ≡ false) (sym is) other) (λ x y z is other. subst (λ (p : Path). is_same_entity p z.about.path ≡ false) (sym is) other) s.entities (λ e there. like_one (same e)) h

bytes_turned : (a b : List ℕ) → bytes_eq a b ≡ false → bytes_eq b a ≡ false
bytes_turned a b off = is_false (bytes_eq b a) (λ on. clash (bytes_eq a b) (subst (λ (x : List ℕ). bytes_eq a x ≡ true) (sym (same_bytes b a on)) (bytes_same a)) off) where
  clash : (c : Bool) → c ≡ true → c ≡ false → ⊥
  clash c on off = cc

option_turned : (a b : Option (List ℕ)) → is_same_option a b ≡ is_same_option b a
option_turned None None = refl
option_turned None (Some b) = refl
option_turned (Some a) None = refl
option_turned (Some a) (Some b) = at (bytes_eq a b) refl where
  on_too : bytes_eq a b ≡ true → bytes_eq b a ≡ true
  on_too on = subst (λ (x : List ℕ). bytes_eq x a ≡ true) (same_bytes a b on) (bytes_same a)

  at : (c : Bool) → bytes_eq a b ≡ c → bytes_eq a b ≡ bytes_eq b a
  at true on = on ∙ sym (on_too on)
  at false off = off ∙ sym (bytes_turned a b off)

bytes_both : (a b : List ℕ) → bytes_eq a b ≡ bytes_eq b a
bytes_both a b = option_turned (Some a) (Some b)

pub entity_turned : (a b : Path) → is_same_entity a b ≡ is_same_entity b a
entity_turned a b = rw (bytes_both a.name b.name, option_turned a.subscription b.subscription) refl

new_path : (path : Path) (new : Entity) (es : List Entity) → new.about.path ≡ path → find (λ e. is_same_entity e.about.path path) es ≡ None → Each (λ e. Each (OtherPath e) (new ∷ [])) es
new_path path new es is none = each_implied (λ e. is_same_entity e.about.path path ≡ false) (λ e. Each (OtherPath e) (new ∷ []))
    (λ e off. (subst (λ (p : Path). is_same_entity p e.about.path ≡ false) (sym is) (sym (entity_turned e.about.path path) ∙ off), tt)) es (none_same (λ e. is_same_entity e.about.path path) es none)

leaf_paths : (t : ℕ) (key : LeafKey) (c : LeafChange) (s : Space) → PathsDiffer s → PathsDiffer (after t (InLeaf key c) s)
leaf_paths t key c s h = paths_on key.entity (λ e. with_leaf key.part (leaf_after (s.last_lock + 1) t c (leaf_of key.part e)) e) s (λ e. ap (λ (about : Listed). about.path) (about_with_leaf key.part (leaf_after (s.last_lock + 1) t c (leaf_of key.part e)) e)) h

act_paths : (t : ℕ) (c : Change) (now : Space) → IsOfAct Arrives t c → PathsDiffer now → PathsDiffer (after t c now)
act_paths t _ now (act_enters key seq hops m few p) h = leaf_paths t key (Enters (record { seq = seq; hops = hops; standing = Ready; message = m })) now h
act_paths t _ now (act_waits key moment m later p) h = leaf_paths t key (Enters (record { seq = None; hops = 0; standing = Scheduled moment; message = m })) now h
act_paths t _ now (act_passes key cause) h = leaf_paths t key (Passes cause) now h
act_paths t _ now (act_ends key n by_settlement cause) h = leaf_paths t key (Ends n by_settlement cause) now h
act_paths t _ now (act_frees key n by_settlement count standing free few) h = leaf_paths t key (Stands n by_settlement count standing) now h
act_paths t _ now (act_closes key l) h = leaf_paths t key (Closes l) now h
act_paths t _ now (act_notes n id) h = paths_on n (λ e. record e { ids = noted e.about.description.window id t e.ids }) now (λ e. refl) h
act_paths t _ now (act_drops n) h = h

pub path_steps : (t : ℕ) (s : Space) → StepKeeps PathsDiffer t s
path_steps t s = record {
  acts = act_paths t;
  makes = λ kind path d rules plain ruled new h. let made_one = new_entity (record { number = s.last_entity + 1; kind = kind; path = path; description = d; rules = rules }) in pairs_append OtherPath s.entities (made_one ∷ []) h (tt, tt) (new_path path made_one s.entities refl new);
  adds = λ n rule e on fresh named has h. paths_on n (with_rules (rule_added rule)) s (λ e. refl) h;
  rule_drop = λ n name h. paths_on n (with_rules (rule_dropped name)) s (λ e. refl) h;
  removes = λ n now h. pairs_filter OtherPath (λ e. not (is_entity n e)) now.entities h;
  holds = λ key n hold h. leaf_paths t key (Holds n hold) s h;
  renews = λ key n until h. leaf_paths t key (Renews n until) s h;
  opens = λ key id until few h. leaf_paths t key (Opens id until) s h;
  prolongs = λ key l until few h. leaf_paths t key (Prolongs l until) s h;
  writes = λ key l bytes few h. leaf_paths t key (Writes l bytes) s h;
  begins = λ n e there few h. h;
  queues = λ x o there few fits h. h;
}

-- ---- open transactions

pub record IsOpen (t : ℕ) (x : Transaction) : Type 0 where
  pub deadline : x.deadline ≤ t + 300000
  pub few : sum_by weight x.operations ≤ max_operations

pub record AreOpen (t : ℕ) (s : Space) : Type 0 where
  pub each : Each (IsOpen t) s.transactions
  pub few : length s.transactions ≤ max_transactions

module _ (t : ℕ) where
  same_open : (s later : Space) → later.transactions ≡ s.transactions → AreOpen t s → AreOpen t later
  same_open s later same h = record { each = subst (Each (IsOpen t)) (sym same) h.each; few = subst (λ (xs : List Transaction). length xs ≤ max_transactions) (sym same) h.few }

  act_open : (c : Change) (now : Space) → IsOfAct Arrives t c → AreOpen t now → AreOpen t (after t c now)
  act_open _ now (act_enters key seq hops m few p) h = record { each = h.each; few = h.few }
  act_open _ now (act_waits key moment m later p) h = record { each = h.each; few = h.few }
  act_open _ now (act_passes key cause) h = record { each = h.each; few = h.few }
  act_open _ now (act_ends key n by_settlement cause) h = record { each = h.each; few = h.few }
  act_open _ now (act_frees key n by_settlement count standing free few) h = record { each = h.each; few = h.few }
  act_open _ now (act_closes key l) h = record { each = h.each; few = h.few }
  act_open _ now (act_notes n id) h = record { each = h.each; few = h.few }
  act_open _ now (act_drops n) h = record { each = each_changed (IsOpen t) (is_transaction n) (λ x. []) now.transactions (λ x there is. tt) h.each; few = omega (arith, h.few, shorter_changed (is_transaction n) (λ x. []) now.transactions (λ x. omega arith)) }

  deadline_most : (x : Transaction) → x.deadline ≤ t + 300000 → deadline_with t x ≤ t + 300000
  deadline_most x le = at x.operations where
    at : (os : List Operation) → elim os as (λ _. ℕ) [ o ∷ rest ↦ x.deadline | [] ↦ t + txn_life ] ≤ t + 300000
    at [] = omega arith
    at (o ∷ rest) = le

  pub open_steps : (s : Space) → StepKeeps (AreOpen t) t s
  open_steps s = record {
    acts = act_open;
    makes = λ kind path d rules plain ruled new h. record { each = h.each; few = h.few };
    adds = λ n rule e on fresh named has h. record { each = h.each; few = h.few };
    rule_drop = λ n name h. record { each = h.each; few = h.few };
    removes = λ n now h. record { each = each_filter (IsOpen t) (λ x. not (x.entity == n)) now.transactions h.each; few = omega (arith, h.few, shorter_filter (λ x. not (x.entity == n)) now.transactions) };
    holds = λ key n hold h. record { each = h.each; few = h.few };
    renews = λ key n until h. record { each = h.each; few = h.few };
    opens = λ key id until few h. record { each = h.each; few = h.few };
    prolongs = λ key l until few h. record { each = h.each; few = h.few };
    writes = λ key l bytes few h. record { each = h.each; few = h.few };
    begins = λ n e there few h.
        let new : Transaction = record { number = s.last_txn + 1; entity = n; deadline = t + txn_life; operations = [] } in
        record { each = each_append (IsOpen t) s.transactions (new ∷ []) h.each (record { deadline = omega arith; few = omega arith }, tt); few = omega (arith, few, length-append s.transactions (new ∷ [])) };
    queues = λ x o there few fits h. record {
      each = each_changed (IsOpen t) (is_transaction x.number) (λ y. with_operation (deadline_with t x) o y ∷ []) s.transactions
          (λ y found is. let same : y ≡ x = some_is y x (sym found ∙ there) in (
            record {
              deadline = deadline_most x (subst (λ (z : Transaction). z.deadline ≤ t + 300000) same is.deadline);
              few = omega (arith, few, ap (λ (z : Transaction). sum_by weight z.operations) same, sum_by-append weight y.operations (o ∷ []), sum_single weight o);
            },
            tt,
          )) h.each;
      few = omega (arith, h.few, shorter_changed (is_transaction x.number) (λ y. with_operation (deadline_with t x) o y ∷ []) s.transactions (λ y. omega arith));
    };
  } where
    some_is : (y x : Transaction) → ◌≡◌ {A = Option Transaction} (Some y) (Some x) → y ≡ x
    some_is y x same = cc

  pub open_later : (now : ℕ) (s : Space) → now ≤ t → AreOpen now s → AreOpen t s
  open_later now s le h = record { each = each_implied (IsOpen now) (IsOpen t) (λ x is. record { deadline = omega (arith, is.deadline, le); few = is.few }) s.transactions h.each; few = h.few }
