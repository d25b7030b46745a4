-- Sessions that a tick closes: behind it no session's lock has ended.
use Rattle.std.proofs.Common.{Bool, List, None, Option, Some, [], false, nat_le, refl, rules, subst, sym, true, ℕ, ◌&&◌, ◌+◌, ◌==◌, ◌∷◌, ◌≡◌}
use Rattle.std.specs.List.{list_any}
use Rattle.sb_laws.proofs.Eachs.{IsLike, each_append, each_changed, each_found, each_implied, each_settled, is_equal, like_gone, like_one, pairs_changed}
use Rattle.sb_laws.proofs.Entities.{EachLeaf, IsOrdered, KeepsLeaf, about_with_leaf, entities_keep, entity_number, leaf_each, leaves_keep, stays_ordered}
use Rattle.sb_laws.proofs.Swept.{leaf_of_own, leaf_of_with, same_part, three}
use Rattle.sb_laws.proofs.Tick.{IsOfTick}
use Rattle.sb_machine.specs.Changes.{after, after_all}
use Rattle.sb_machine.specs.Each.{Each, Pairs}
use Rattle.sb_machine.specs.Keyed.{changed}
use Rattle.sb_machine.specs.Leaves.{is_held_under, leaf_after, remembered}
use Rattle.sb_machine.specs.Names.{is_same_part}
use Rattle.sb_machine.specs.Namespace.{is_entity, leaf_of, with_leaf}
use Rattle.sb_machine.specs.declared.call.Part.{Part}
use Rattle.sb_machine.specs.declared.change.Change.{Change}
use Rattle.sb_machine.specs.declared.change.Change.TheVariants.{AddsRule, Begins, Drops, DropsRule, InLeaf, Makes, Notes, Queues, Removes}
use Rattle.sb_machine.specs.declared.change.LeafChange.{LeafChange}
use Rattle.sb_machine.specs.declared.change.LeafChange.TheVariants.{Closes, Ends, Enters, Holds, Opens, Passes, Prolongs, Renews, Stands, Writes}
use Rattle.sb_machine.specs.declared.change.LeafKey.{LeafKey}
use Rattle.sb_model.specs.declared.message.Message.{Message}
use Rattle.sb_machine.specs.declared.state.Entity.{Entity}
use Rattle.sb_machine.specs.declared.state.Leaf.{Leaf}
use Rattle.sb_machine.specs.declared.state.Listed.{Listed}
use Rattle.sb_machine.specs.declared.state.Session.{Session}
use Rattle.sb_machine.specs.declared.state.Space.{Space}

-- the session's lock has ended
abbrev pub has_run_out : ℕ → Session → Bool
has_run_out t x = elim x.holder [ Some h ↦ nat_le h.until t | None ↦ false ]

-- no lock holds them both
abbrev pub HeldApart : Session → Session → Type 0
HeldApart x y = (l : ℕ) → is_held_under l x ≡ true → is_held_under l y ≡ false

abbrev pub SessionsApart : Part → Leaf → Type 0
SessionsApart part leaf = Pairs HeldApart leaf.sessions

-- sessions of this part that are held under this lock are held on
abbrev pub AreHeldOn : ℕ → LeafKey → ℕ → Space → Type 0
AreHeldOn t key l s = Each (λ e. e.about.number ≡ key.entity → Each (λ x. is_held_under l x ≡ true → has_run_out t x ≡ false) (leaf_of key.part e).sessions) s.entities

abbrev pub closes_lock : LeafKey → ℕ → Change → Bool
closes_lock key l (InLeaf of (Closes m)) = (of.entity == key.entity) && is_same_part of.part key.part && (m == l)
closes_lock key l _ = false

abbrev pub closed_session : Session → List Session
closed_session x = remembered (record x { holder = None })

-- what is closed is held by nobody
closed_each : (Q : Session → Type 0) (x : Session) → Q (record x { holder = None }) → Each Q (closed_session x)
closed_each Q x h = at x.state h where
  at : (o : Option (List ℕ)) → Q (record { id = x.id; state = o; holder = None }) → Each Q (remembered (record { id = x.id; state = o; holder = None }))
  at None h = tt
  at (Some bytes) h = (h, tt)

closed_like : (x : Session) → IsLike (λ a b. (l : ℕ) → is_held_under l b ≡ true → is_held_under l a ≡ true) x (closed_session x)
closed_like x = at x.state where
  at : (o : Option (List ℕ)) → IsLike (λ a b. (l : ℕ) → is_held_under l b ≡ true → is_held_under l a ≡ true) x (remembered (record { id = x.id; state = o; holder = None }))
  at None = like_gone
  at (Some bytes) = like_one (λ l held. absurd cc)

pub is_false : (b : Bool) → (b ≡ true → ⊥) → b ≡ false
is_false true h = absurd (h refl)
is_false false h = refl

-- sessions stay apart
leaf_apart : (P : Message → Type 0) (first_one : Bool) (lock t : ℕ) (key : LeafKey) (c : LeafChange) (leaf : Leaf) → IsOfTick P first_one (InLeaf key c) → SessionsApart key.part leaf → SessionsApart key.part (leaf_after lock t c leaf)
leaf_apart P first_one lock t key (Enters fresh) leaf is h = h
leaf_apart P first_one lock t key (Passes cause) leaf is h = h
leaf_apart P first_one lock t key (Ends n by_settlement cause) leaf is h = h
leaf_apart P first_one lock t key (Stands n by_settlement count standing) leaf is h = h
leaf_apart P first_one lock t key (Closes l) leaf is h =
    pairs_changed (λ a b. (l : ℕ) → is_held_under l b ≡ true → is_held_under l a ≡ true) HeldApart (is_held_under l) closed_session
    (λ x y z fewer apart k held. apart k (fewer k held)) (λ x y z fewer apart k held. is_false (is_held_under k y) (λ both_held. clash (is_held_under k x) (fewer k both_held) (apart k held))) leaf.sessions (λ x there. closed_like x) h where
      clash : (b : Bool) → b ≡ true → b ≡ false → ⊥
      clash b on off = cc
leaf_apart P first_one lock t key (Holds n hold) leaf is h = h
leaf_apart P first_one lock t key (Renews n until) leaf is h = h
leaf_apart P first_one lock t key (Opens id until) leaf is h = elim is [ ]
leaf_apart P first_one lock t key (Prolongs l until) leaf is h = elim is [ ]
leaf_apart P first_one lock t key (Writes l state) leaf is h = elim is [ ]

pub tick_apart : (P : Message → Type 0) (first_one : Bool) (t : ℕ) (c : Change) (s : Space) → IsOfTick P first_one c → Each (EachLeaf SessionsApart) s.entities → Each (EachLeaf SessionsApart) (after t c s).entities
tick_apart P first_one t c s is h = leaves_keep SessionsApart t c s (by first_one c is) h where
  by : (any : Bool) (c : Change) → IsOfTick P any c → KeepsLeaf SessionsApart t c s
  by any (InLeaf key c) is = λ e there h. leaf_apart P any (s.last_lock + 1) t key c (leaf_of key.part e) is h
  by any (Drops n) is = tt
  by any (Makes kind path description rules) is = elim is [ ]
  by any (Notes n id) is = tt
  by any (AddsRule n rule) is = tt
  by any (DropsRule n name) is = tt
  by any (Removes n) is = tt
  by any (Begins n deadline) is = tt
  by any (Queues n deadline operation) is = tt

module _ (P : Message → Type 0) (t until : ℕ) (key : LeafKey) (l : ℕ) where
  abbrev HeldOn : List Session → Type 0
  HeldOn xs = Each (λ x. is_held_under l x ≡ true → has_run_out until x ≡ false) xs

  closed_on : (x : Session) → HeldOn (closed_session x)
  closed_on x = closed_each (λ y. is_held_under l y ≡ true → has_run_out until y ≡ false) x (λ held. refl)

  leaf_on : (first_one : Bool) (lock : ℕ) (of : LeafKey) (c : LeafChange) (leaf : Leaf) → IsOfTick P first_one (InLeaf of c) → HeldOn leaf.sessions → HeldOn (leaf_after lock t c leaf).sessions
  leaf_on first_one lock of (Enters fresh) leaf is h = h
  leaf_on first_one lock of (Passes cause) leaf is h = h
  leaf_on first_one lock of (Ends n by_settlement cause) leaf is h = h
  leaf_on first_one lock of (Stands n by_settlement count standing) leaf is h = h
  leaf_on first_one lock of (Closes m) leaf is h = each_changed (λ x. is_held_under l x ≡ true → has_run_out until x ≡ false) (is_held_under m) closed_session leaf.sessions (λ x there on. closed_on x) h
  leaf_on first_one lock of (Holds n hold) leaf is h = h
  leaf_on first_one lock of (Renews n later) leaf is h = h
  leaf_on first_one lock of (Opens id later) leaf is h = elim is [ ]
  leaf_on first_one lock of (Prolongs m later) leaf is h = elim is [ ]
  leaf_on first_one lock of (Writes m state) leaf is h = elim is [ ]

  held_kept : (first_one : Bool) (c : Change) (s : Space) → IsOfTick P first_one c → AreHeldOn until key l s → AreHeldOn until key l (after t c s)
  held_kept first_one (InLeaf of c) s is h = entities_keep (λ e. e.about.number ≡ key.entity → HeldOn (leaf_of key.part e).sessions) t (InLeaf of c) s
      (λ e there on same. at e on (subst (λ (about : Listed). about.number ≡ key.entity) (about_with_leaf of.part (leaf_after (s.last_lock + 1) t c (leaf_of of.part e)) e) same)) h where
        at : (e : Entity) → (e.about.number ≡ key.entity → HeldOn (leaf_of key.part e).sessions) → e.about.number ≡ key.entity → HeldOn (leaf_of key.part (with_leaf of.part (leaf_after (s.last_lock + 1) t c (leaf_of of.part e)) e)).sessions
        at e on same = go (is_same_part of.part key.part) refl where
          go : (b : Bool) → is_same_part of.part key.part ≡ b → HeldOn (leaf_of key.part (with_leaf of.part (leaf_after (s.last_lock + 1) t c (leaf_of of.part e)) e)).sessions
          go false other = subst (λ (leaf : Leaf). HeldOn leaf.sessions) (sym (leaf_of_with of.part key.part (leaf_after (s.last_lock + 1) t c (leaf_of of.part e)) e other)) (on same)
          go true own = subst (λ (p : Part). HeldOn (leaf_of key.part (with_leaf p (leaf_after (s.last_lock + 1) t c (leaf_of p e)) e)).sessions) (sym (same_part of.part key.part own))
              (subst (λ (leaf : Leaf). HeldOn leaf.sessions) (sym (leaf_of_own key.part (leaf_after (s.last_lock + 1) t c (leaf_of key.part e)) e)) (leaf_on first_one (s.last_lock + 1) of c (leaf_of key.part e) is (on same)))
  held_kept first_one (Drops m) s is h = h
  held_kept first_one (Notes m id) s is h = elim is [ ]
  held_kept first_one (Makes kind path description rules) s is h = elim is [ ]
  held_kept first_one (Removes m) s is h = elim is [ ]
  held_kept first_one (AddsRule m rule) s is h = elim is [ ]
  held_kept first_one (DropsRule m name) s is h = elim is [ ]
  held_kept first_one (Begins m deadline) s is h = elim is [ ]
  held_kept first_one (Queues m deadline operation) s is h = elim is [ ]

  -- where sessions are apart, the one that is closed was the only one under its lock
  closed_apart : (xs : List Session) → Pairs HeldApart xs → HeldOn (changed (is_held_under l) closed_session xs)
  closed_apart [] apart = tt
  closed_apart (x ∷ xs) apart = at (is_held_under l x) refl (closed_apart xs apart.1) where
    at : (b : Bool) → is_held_under l x ≡ b → HeldOn (changed (is_held_under l) closed_session xs) → HeldOn (changed (is_held_under l) closed_session (x ∷ xs))
    at true is ih = rw is (each_append (λ y. is_held_under l y ≡ true → has_run_out until y ≡ false) (closed_session x) xs (closed_on x)
        (each_implied (HeldApart x) (λ y. is_held_under l y ≡ true → has_run_out until y ≡ false) (λ y other held. let none = other l is in absurd cc) xs apart.0))
    at false is ih = rw is ((λ held. absurd cc), ih)

  closed_at : (s : Space) → IsOrdered s → Each (EachLeaf SessionsApart) s.entities → AreHeldOn until key l (after t (InLeaf key (Closes l)) s)
  closed_at s ordered apart = each_settled (λ e. HeldOn (leaf_of key.part e).sessions) entity_number key.entity (λ e. with_leaf key.part (leaf_after (s.last_lock + 1) t (Closes l) (leaf_of key.part e)) e ∷ []) 0 s.last_entity s.entities ordered.entities
      (λ e there. (
        (λ own. subst (λ (leaf : Leaf). HeldOn leaf.sessions) (sym (leaf_of_own key.part (leaf_after (s.last_lock + 1) t (Closes l) (leaf_of key.part e)) e))
            (closed_apart (leaf_of key.part e).sessions (leaf_each SessionsApart key.part e (each_found (EachLeaf SessionsApart) (is_entity key.entity) e s.entities apart there)))),
        tt,
      ))

  held_closed : (c : Change) (s : Space) → IsOrdered s → Each (EachLeaf SessionsApart) s.entities → closes_lock key l c ≡ true → AreHeldOn until key l (after t c s)
  held_closed (InLeaf of (Closes m)) s ordered apart is =
      let so = three (of.entity == key.entity) (is_same_part of.part key.part) (m == l) is in
      subst (λ (k : LeafKey). AreHeldOn until key l (after t (InLeaf k (Closes m)) s)) (sym (keys of.entity key.entity of.part key.part (is_equal of.entity key.entity so.0) (same_part of.part key.part so.1)))
      (subst (λ (n : ℕ). AreHeldOn until key l (after t (InLeaf key (Closes n)) s)) (sym (is_equal m l so.2)) (closed_at s ordered apart)) where
        keys : (e f : ℕ) (p r : Part) → e ≡ f → p ≡ r → ◌≡◌ {A = LeafKey} (record { entity = e; part = p }) (record { entity = f; part = r })
        keys e f p r same own = cc
  held_closed _ s ordered apart is = absurd cc

  -- What is closed by none of the changes was held on before: then all are held on behind them.
  pub held_behind : (first_one : Bool) (cs : List Change) (s : Space) → IsOrdered s → Each (EachLeaf SessionsApart) s.entities → Each (IsOfTick P first_one) cs → (list_any (closes_lock key l) cs ≡ false → AreHeldOn until key l s) → AreHeldOn until key l (after_all t cs s)
  held_behind first_one [] s ordered apart of_tick h = h refl
  held_behind first_one (c ∷ cs) s ordered apart of_tick h = held_behind first_one cs (after t c s) (stays_ordered t c s ordered) (tick_apart P first_one t c s of_tick.0 apart) of_tick.1 (at (closes_lock key l c) refl) where
    at : (b : Bool) → closes_lock key l c ≡ b → list_any (closes_lock key l) cs ≡ false → AreHeldOn until key l (after t c s)
    at true is none = held_closed c s ordered apart is
    at false is none = held_kept first_one c s of_tick.0 (h (rw is none))
