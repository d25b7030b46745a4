-- Copies under the locks of sessions, as each change keeps them: each names its session's holder, but for those that are exempt.
use Rattle.std.proofs.Common.{Bool, List, None, Option, Some, [], arith, false, inl, inr, refl, subst, sym, true, ℕ, ◌&&◌, ◌+◌, ◌==◌, ◌∙◌, ◌∷◌, ◌≡◌, ◌≤◌}
use Rattle.std.specs.List.{list_any}
use Rattle.std.specs.Prelude.{is_some, ◌⊎◌}
use Rattle.sb_laws.proofs.Anyone.{any_kept, any_placed, or_left}
use Rattle.sb_laws.proofs.Calm.{is_unheld}
use Rattle.sb_laws.proofs.Eachs.{each_append, each_changed, each_implied, is_equal}
use Rattle.sb_laws.proofs.Entities.{KeepsEntity, about_with_leaf, entities_keep}
use Rattle.sb_laws.proofs.Holding.{has_holder, one_lock, prolonged_under, taken_under}
use Rattle.sb_laws.proofs.Lists.{found_passes}
use Rattle.sb_laws.proofs.Sameness.{two}
use Rattle.sb_laws.proofs.Swept.{leaf_of_own, leaf_of_with, same_part}
use Rattle.sb_machine.specs.Changes.{after, noted, rule_added, rule_dropped, with_rules}
use Rattle.sb_machine.specs.Each.{Each, is_text_of}
use Rattle.sb_machine.specs.Fit.{IsHold}
use Rattle.sb_machine.specs.Keyed.{changed, with_sorted}
use Rattle.sb_machine.specs.Leaves.{copy_in, has_id, has_number, holder_new, is_deferred, is_held_under, leaf_after, opened, prolonged_holder, prolonged_standing, remembered, session_in, stored, taken}
use Rattle.sb_machine.specs.Messages.{text_of}
use Rattle.sb_machine.specs.Names.{is_before, is_same_part}
use Rattle.sb_machine.specs.Namespace.{entity_of, is_entity, key_of, leaf_of, new_entity, with_leaf}
use Rattle.sb_machine.specs.declared.call.Part.{Part}
use Rattle.sb_machine.specs.declared.call.Part.TheVariants.{Dead, Main, Transfer}
use Rattle.sb_machine.specs.declared.change.Change.{Change}
use Rattle.sb_machine.specs.declared.change.Change.TheVariants.{AddsRule, Begins, Drops, DropsRule, InLeaf, Makes, Notes, Queues, Removes}
use Rattle.sb_machine.specs.declared.change.LeafChange.{LeafChange}
use Rattle.sb_machine.specs.declared.change.LeafChange.TheVariants.{Closes, Ends, Enters, Holds, Opens, Passes, Prolongs, Renews, Stands, Writes}
use Rattle.sb_machine.specs.declared.change.LeafKey.{LeafKey}
use Rattle.sb_machine.specs.declared.state.Entity.{Entity}
use Rattle.sb_machine.specs.declared.state.Hold.TheVariants.{Until, Session as UnderSession}
use Rattle.sb_machine.specs.declared.state.Leaf.{Leaf}
use Rattle.sb_machine.specs.declared.state.Listed.{Listed}
use Rattle.sb_machine.specs.declared.state.Session.{Session}
use Rattle.sb_machine.specs.declared.state.Space.{Space}
use Rattle.sb_machine.specs.declared.state.Standing.{Standing}
use Rattle.sb_machine.specs.declared.state.Standing.TheVariants.{Deferred, Held, Ready, Scheduled}
use Rattle.sb_machine.specs.declared.state.StoredCopy.{StoredCopy}
use Rattle.sb_model.specs.declared.message.SystemName.TheVariants.{SessionId}

-- locks of a part whose copies need no holder
abbrev pub Exempt : Type 0
Exempt = LeafKey → ℕ → Bool

abbrev pub under_exempt : Exempt → LeafKey → Standing → Bool
under_exempt X key (Held lock (UnderSession l) deferred) = X key l
under_exempt X key (Held lock (Until u) deferred) = false
under_exempt X key Ready = false
under_exempt X key Deferred = false
under_exempt X key (Scheduled at) = false

abbrev pub IsHeldOr : Exempt → ℕ → LeafKey → List Session → StoredCopy → Type 0
IsHeldOr X t key sessions c = IsHold t sessions c c.standing ⊎ (under_exempt X key c.standing ≡ true)

abbrev pub LooseIn : Exempt → ℕ → LeafKey → Leaf → Type 0
LooseIn X t key leaf = Each (IsHeldOr X t key leaf.sessions) leaf.copies

abbrev pub Loose : Exempt → ℕ → Space → Type 0
Loose X t s = Each (λ e. (part : Part) → LooseIn X t (key_of part e) (leaf_of part e)) s.entities

-- ---- sessions

-- the session of this text is held under this lock
abbrev names : ℕ → Option (List ℕ) → Session → Bool
names l text x = is_held_under l x && is_text_of x.id text

abbrev KeepsNames : ℕ → List Session → List Session → Type 0
KeepsNames l xs ys = (text : Option (List ℕ)) → list_any (names l text) xs ≡ true → list_any (names l text) ys ≡ true

both_so : (a b : Bool) → a ≡ true → b ≡ true → (a && b) ≡ true
both_so a b p q = rw (p, q) refl

-- one in the place of another that has its id and its holder
put_names : (l : ℕ) (text : Option (List ℕ)) (x y : Session) → y.id ≡ x.id → (is_held_under l x ≡ true → is_held_under l y ≡ true) → names l text x ≡ true → list_any (names l text) (y ∷ []) ≡ true
put_names l text x y same under is =
    let parts = two (is_held_under l x) (is_text_of x.id text) is in
    or_left (names l text y) false (both_so (is_held_under l y) (is_text_of y.id text) (under parts.0) (subst (λ (id : List ℕ). is_text_of id text ≡ true) (sym same) parts.1))

opened_names : (l lock until : ℕ) (id : List ℕ) (leaf : Leaf) → KeepsNames l leaf.sessions (opened lock id until leaf)
opened_names l lock until id leaf text is = at (session_in id leaf) where
  at : (o : Option Session) → list_any (names l text) (elim o as (λ _. List Session) [ Some x ↦ changed (has_id id) (λ y. taken lock until y ∷ []) leaf.sessions | None ↦ with_sorted (λ y. is_before y.id id) (record { id = id; state = None; holder = Some (holder_new lock until) }) leaf.sessions ]) ≡ true
  at None = any_placed (names l text) (λ y. is_before y.id id) (record { id = id; state = None; holder = Some (holder_new lock until) }) leaf.sessions is
  at (Some x) = any_kept (names l text) (has_id id) (λ y. taken lock until y ∷ []) leaf.sessions (λ y own named. put_names l text y (taken lock until y) refl (taken_under l lock until y) named) is

prolonged_names : (l lock until : ℕ) (xs : List Session) → KeepsNames l xs (changed (is_held_under lock) (λ x. record x { holder = prolonged_holder until x.holder } ∷ []) xs)
prolonged_names l lock until xs text is = any_kept (names l text) (is_held_under lock) (λ x. record x { holder = prolonged_holder until x.holder } ∷ []) xs (λ x own named. put_names l text x (record x { holder = prolonged_holder until x.holder }) refl (prolonged_under l until x) named) is

written_names : (l lock : ℕ) (bytes : Option (List ℕ)) (xs : List Session) → KeepsNames l xs (changed (is_held_under lock) (λ x. remembered (record x { state = bytes })) xs)
written_names l lock bytes xs text is = any_kept (names l text) (is_held_under lock) (λ x. remembered (record x { state = bytes })) xs
    (λ x own named. subst (λ (ys : List Session). list_any (names l text) ys ≡ true) (sym (stays x (has_holder lock x.holder own))) (put_names l text x (record x { state = bytes }) refl (λ under. under) named)) is where
      stays : (x : Session) → is_some x.holder ≡ true → remembered (record x { state = bytes }) ≡ record x { state = bytes } ∷ []
      stays x held = rw held refl

closed_names : (l lock : ℕ) (xs : List Session) → (lock == l) ≡ false → KeepsNames l xs (changed (is_held_under lock) (λ x. remembered (record x { holder = None })) xs)
closed_names l lock xs other text is = any_kept (names l text) (is_held_under lock) (λ x. remembered (record x { holder = None })) xs
    (λ x own named. let bad : true ≡ false = sym (one_lock l lock x (two (is_held_under l x) (is_text_of x.id text) named).0 own) ∙ other in absurd cc) is

-- ---- one copy

pub unheld_holds : (t : ℕ) (xs : List Session) (c : StoredCopy) (standing : Standing) → is_unheld standing ≡ true → IsHold t xs c standing
unheld_holds t xs c Ready free = tt
unheld_holds t xs c Deferred free = tt
unheld_holds t xs c (Held lock hold deferred) free = absurd cc
unheld_holds t xs c (Scheduled moment) free = tt

same_hold : (t : ℕ) (xs : List Session) (c d : StoredCopy) (standing : Standing) → text_of SessionId d.message ≡ text_of SessionId c.message → IsHold t xs c standing → IsHold t xs d standing
same_hold t xs c d Ready same h = tt
same_hold t xs c d Deferred same h = tt
same_hold t xs c d (Scheduled moment) same h = tt
same_hold t xs c d (Held lock (Until u) deferred) same h = h
same_hold t xs c d (Held lock (UnderSession l) deferred) same h = subst (λ (text : Option (List ℕ)). list_any (names l text) xs ≡ true) (sym same) h

hold_kept : (t : ℕ) (xs ys : List Session) (c : StoredCopy) (standing : Standing) → ((l : ℕ) → KeepsNames l xs ys) → IsHold t xs c standing → IsHold t ys c standing
hold_kept t xs ys c Ready keeps h = tt
hold_kept t xs ys c Deferred keeps h = tt
hold_kept t xs ys c (Scheduled moment) keeps h = tt
hold_kept t xs ys c (Held lock (Until u) deferred) keeps h = h
hold_kept t xs ys c (Held lock (UnderSession l) deferred) keeps h = keeps l (text_of SessionId c.message) h

hold_later : (now t : ℕ) (xs : List Session) (c : StoredCopy) (standing : Standing) → now ≤ t → IsHold now xs c standing → IsHold t xs c standing
hold_later now t xs c Ready le h = tt
hold_later now t xs c Deferred le h = tt
hold_later now t xs c (Scheduled moment) le h = tt
hold_later now t xs c (Held lock (Until u) deferred) le h = omega (arith, h, le)
hold_later now t xs c (Held lock (UnderSession l) deferred) le h = h

module _ (X : Exempt) (t : ℕ) where
  either_kept : (key : LeafKey) (xs ys : List Session) → ((l : ℕ) → KeepsNames l xs ys) → (c : StoredCopy) → IsHeldOr X t key xs c → IsHeldOr X t key ys c
  either_kept key xs ys keeps c (inl h) = inl (hold_kept t xs ys c c.standing keeps h)
  either_kept key xs ys keeps c (inr out) = inr out

  -- a lock of a session that is closed is exempt from then on
  either_closed : (key : LeafKey) (lock : ℕ) (xs : List Session) → X key lock ≡ true → (c : StoredCopy) → IsHeldOr X t key xs c → IsHeldOr X t key (changed (is_held_under lock) (λ x. remembered (record x { holder = None })) xs) c
  either_closed key lock xs out c (inr so) = inr so
  either_closed key lock xs out c (inl h) = by c.standing h where
    by : (standing : Standing) → IsHold t xs c standing → IsHold t (changed (is_held_under lock) (λ x. remembered (record x { holder = None })) xs) c standing ⊎ (under_exempt X key standing ≡ true)
    by Ready h = inl tt
    by Deferred h = inl tt
    by (Scheduled moment) h = inl tt
    by (Held own (Until u) deferred) h = inl h
    by (Held own (UnderSession l) deferred) h = at (lock == l) refl where
      at : (b : Bool) → (lock == l) ≡ b → IsHold t (changed (is_held_under lock) (λ x. remembered (record x { holder = None })) xs) c (Held own (UnderSession l) deferred) ⊎ (X key l ≡ true)
      at true is = inr (subst (λ (m : ℕ). X key m ≡ true) (is_equal lock l is) out)
      at false is = inl (closed_names l lock xs is (text_of SessionId c.message) h)

  either_renewed : (key : LeafKey) (until : ℕ) (xs : List Session) (c : StoredCopy) → until ≤ t + 300000 → IsHeldOr X t key xs (record c { standing = prolonged_standing until c.standing })
  either_renewed key until xs c few = inl (by c.standing) where
    by : (standing : Standing) → IsHold t xs (record c { standing = prolonged_standing until c.standing }) (prolonged_standing until standing)
    by Ready = tt
    by Deferred = tt
    by (Scheduled moment) = tt
    by (Held lock hold deferred) = few

  -- ---- in one part

  abbrev pub HoldFits : LeafKey → LeafChange → Leaf → Type 0
  HoldFits key (Enters fresh) leaf = is_unheld fresh.standing ≡ true
  HoldFits key (Holds n hold) leaf = (c : StoredCopy) → copy_in n leaf ≡ Some c → (l : ℕ) (d : Bool) → IsHold t leaf.sessions c (Held l hold d)
  HoldFits key (Stands n settled count standing) leaf = is_unheld standing ≡ true
  HoldFits key (Renews n until) leaf = until ≤ t + 300000
  HoldFits key (Closes l) leaf = X key l ≡ true
  HoldFits key _ leaf = Unit {0}

  leaf_loose : (lock : ℕ) (key : LeafKey) (c : LeafChange) (leaf : Leaf) → HoldFits key c leaf → LooseIn X t key leaf → LooseIn X t key (leaf_after lock t c leaf)
  leaf_loose lock key (Enters fresh) leaf fits h = each_append (IsHeldOr X t key leaf.sessions) leaf.copies (stored (leaf.last + 1) t fresh ∷ []) h (inl (unheld_holds t leaf.sessions (stored (leaf.last + 1) t fresh) fresh.standing fits), tt)
  leaf_loose lock key (Passes cause) leaf fits h = h
  leaf_loose lock key (Ends n settled cause) leaf fits h = each_changed (IsHeldOr X t key leaf.sessions) (has_number n) (λ c. []) leaf.copies (λ c there p. tt) h
  leaf_loose lock key (Holds n hold) leaf fits h = each_changed (IsHeldOr X t key leaf.sessions) (has_number n) (λ c. record c { standing = Held lock hold (is_deferred c.standing) } ∷ []) leaf.copies
      (λ c there p. (inl (same_hold t leaf.sessions c (record c { standing = Held lock hold (is_deferred c.standing) }) (Held lock hold (is_deferred c.standing)) refl (fits c there lock (is_deferred c.standing))), tt)) h
  leaf_loose lock key (Stands n settled count standing) leaf fits h = each_changed (IsHeldOr X t key leaf.sessions) (has_number n) (λ c. record c { count = count; standing = standing } ∷ []) leaf.copies
      (λ c there p. (inl (unheld_holds t leaf.sessions (record c { count = count; standing = standing }) standing fits), tt)) h
  leaf_loose lock key (Renews n until) leaf fits h = each_changed (IsHeldOr X t key leaf.sessions) (has_number n) (λ c. record c { standing = prolonged_standing until c.standing } ∷ []) leaf.copies (λ c there p. (either_renewed key until leaf.sessions c fits, tt)) h
  leaf_loose lock key (Opens id until) leaf fits h = each_implied (IsHeldOr X t key leaf.sessions) (IsHeldOr X t key (opened lock id until leaf)) (either_kept key leaf.sessions (opened lock id until leaf) (λ l. opened_names l lock until id leaf)) leaf.copies h
  leaf_loose lock key (Closes l) leaf fits h = each_implied (IsHeldOr X t key leaf.sessions) (IsHeldOr X t key (changed (is_held_under l) (λ x. remembered (record x { holder = None })) leaf.sessions)) (either_closed key l leaf.sessions fits) leaf.copies h
  leaf_loose lock key (Prolongs l until) leaf fits h = each_implied (IsHeldOr X t key leaf.sessions) (IsHeldOr X t key (changed (is_held_under l) (λ x. record x { holder = prolonged_holder until x.holder } ∷ []) leaf.sessions))
      (either_kept key leaf.sessions (changed (is_held_under l) (λ x. record x { holder = prolonged_holder until x.holder } ∷ []) leaf.sessions) (λ m. prolonged_names m l until leaf.sessions)) leaf.copies h
  leaf_loose lock key (Writes l bytes) leaf fits h = each_implied (IsHeldOr X t key leaf.sessions) (IsHeldOr X t key (changed (is_held_under l) (λ x. remembered (record x { state = bytes })) leaf.sessions))
      (either_kept key leaf.sessions (changed (is_held_under l) (λ x. remembered (record x { state = bytes })) leaf.sessions) (λ m. written_names m l bytes leaf.sessions)) leaf.copies h

  -- ---- in the namespace

  abbrev pub HoldsFit : Change → Space → Type 0
  HoldsFit (InLeaf key c) s = (e : Entity) → entity_of key.entity s ≡ Some e → HoldFits key c (leaf_of key.part e)
  HoldsFit _ s = Unit {0}

  abbrev EntityLoose : Entity → Type 0
  EntityLoose e = (part : Part) → LooseIn X t (key_of part e) (leaf_of part e)

  part_loose : (key : LeafKey) (lock : ℕ) (c : LeafChange) (e : Entity) → key_of key.part e ≡ key → HoldFits key c (leaf_of key.part e) → EntityLoose e → EntityLoose (with_leaf key.part (leaf_after lock t c (leaf_of key.part e)) e)
  part_loose key lock c e own fits h part = subst (λ (about : Listed). LooseIn X t (record { entity = about.number; part = part }) (leaf_of part (with_leaf key.part (leaf_after lock t c (leaf_of key.part e)) e))) (sym (about_with_leaf key.part (leaf_after lock t c (leaf_of key.part e)) e)) (at (is_same_part key.part part) refl) where
    at : (b : Bool) → is_same_part key.part part ≡ b → LooseIn X t (key_of part e) (leaf_of part (with_leaf key.part (leaf_after lock t c (leaf_of key.part e)) e))
    at false other = subst (λ (leaf : Leaf). LooseIn X t (key_of part e) leaf) (sym (leaf_of_with key.part part (leaf_after lock t c (leaf_of key.part e)) e other)) (h part)
    at true same = subst (λ (p : Part). LooseIn X t (key_of p e) (leaf_of p (with_leaf key.part (leaf_after lock t c (leaf_of key.part e)) e))) (same_part key.part part same)
        (subst (λ (leaf : Leaf). LooseIn X t (key_of key.part e) leaf) (sym (leaf_of_own key.part (leaf_after lock t c (leaf_of key.part e)) e))
        (subst (λ (k : LeafKey). LooseIn X t k (leaf_after lock t c (leaf_of key.part e))) (sym own) (leaf_loose lock key c (leaf_of key.part e) fits (subst (λ (k : LeafKey). LooseIn X t k (leaf_of key.part e)) own (h key.part)))))

  pub loose_change : (c : Change) (s : Space) → HoldsFit c s → Loose X t s → Loose X t (after t c s)
  loose_change c s fits h = entities_keep EntityLoose t c s (by c fits) h where
    own_key : (key : LeafKey) (e : Entity) → entity_of key.entity s ≡ Some e → key_of key.part e ≡ key
    own_key key e there = named e.about.number key.entity (is_equal e.about.number key.entity (found_passes (is_entity key.entity) e s.entities there)) where
      named : (m n : ℕ) → m ≡ n → ◌≡◌ {A = LeafKey} (record { entity = m; part = key.part }) (record { entity = n; part = key.part })
      named m n same = cc

    by : (c : Change) → HoldsFit c s → KeepsEntity EntityLoose t c s
    by (InLeaf key c) fits = λ e there loose. part_loose key (s.last_lock + 1) c e (own_key key e there) (fits e there) loose
    by (Notes n id) fits = λ e there loose part. at e loose part where
      at : (e : Entity) → EntityLoose e → EntityLoose (record e { ids = noted e.about.description.window id t e.ids })
      at e loose Main = loose Main
      at e loose Dead = loose Dead
      at e loose Transfer = loose Transfer
    by (Makes kind path description rs) fits = new where
      new : EntityLoose (new_entity (record { number = s.last_entity + 1; kind = kind; path = path; description = description; rules = rs }))
      new Main = tt
      new Dead = tt
      new Transfer = tt
    by (AddsRule n rule) fits = λ e there loose part. at e loose part where
      at : (e : Entity) → EntityLoose e → EntityLoose (with_rules (rule_added rule) e)
      at e loose Main = loose Main
      at e loose Dead = loose Dead
      at e loose Transfer = loose Transfer
    by (DropsRule n name) fits = λ e there loose part. at e loose part where
      at : (e : Entity) → EntityLoose e → EntityLoose (with_rules (rule_dropped name) e)
      at e loose Main = loose Main
      at e loose Dead = loose Dead
      at e loose Transfer = loose Transfer
    by (Removes n) fits = tt
    by (Begins n deadline) fits = tt
    by (Queues n deadline operation) fits = tt
    by (Drops n) fits = tt

  pub loose_later : (now : ℕ) (s : Space) → now ≤ t → Loose X now s → Loose X t s
  loose_later now s le h = each_implied (λ e. (part : Part) → LooseIn X now (key_of part e) (leaf_of part e)) EntityLoose (λ e loose part. each_implied (IsHeldOr X now (key_of part e) (leaf_of part e).sessions) (IsHeldOr X t (key_of part e) (leaf_of part e).sessions) (one_later (key_of part e) (leaf_of part e).sessions) (leaf_of part e).copies (loose part)) s.entities h where
    one_later : (key : LeafKey) (xs : List Session) (c : StoredCopy) → IsHeldOr X now key xs c → IsHeldOr X t key xs c
    one_later key xs c (inl h) = inl (hold_later now t xs c c.standing le h)
    one_later key xs c (inr out) = inr out
