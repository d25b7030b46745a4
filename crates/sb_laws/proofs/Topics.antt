-- A subscription's topic is there, through every change and with whatever is removed.
use Rattle.std.proofs.Common.{Bool, List, None, Option, Some, [], ap, false, filter, map, not, refl, rules, subst, sym, true, ℕ, ◌&&◌, ◌++◌, ◌+◌, ◌<◌, ◌==◌, ◌||◌, ◌∙◌, ◌∷◌, ◌≡◌, ◌≤◌}
use Rattle.std.specs.List.{list_any}
use Rattle.std.specs.Prelude.{bytes_eq, find, if◌then◌else◌, is_some}
use Rattle.sb_laws.proofs.Carried.{IsOfAct, act_closes, act_drops, act_ends, act_enters, act_frees, act_notes, act_passes, act_waits}
use Rattle.sb_laws.proofs.Carrying.{kept_by_all}
use Rattle.sb_laws.proofs.Eachs.{each_append, each_both, each_changed, each_filter, each_implied, each_passed, is_equal, rising_above}
use Rattle.sb_laws.proofs.Entities.{IsOrdered, about_with_leaf, entity_number}
use Rattle.sb_laws.proofs.Lists.{found_behind, found_first, found_here, found_passes}
use Rattle.sb_laws.proofs.Moves.{by_number, found_by_key, other_number}
use Rattle.sb_laws.proofs.Sameness.{bytes_same, numbers_equal, same_bytes, text_sound, two}
use Rattle.sb_laws.proofs.Shapes.{Arrives, Shape, of_acts, of_adds, of_begins, of_holds, of_makes, of_opens, of_prolongs, of_queues, of_removes, of_renews, of_rule_drop, of_writes}
use Rattle.sb_machine.specs.Administration.{going_with}
use Rattle.sb_machine.specs.Changes.{after, after_all, noted, on_entity, rule_added, rule_dropped, with_rules}
use Rattle.sb_machine.specs.Each.{Each, is_topic_at}
use Rattle.sb_machine.specs.Fit.{HasTopic}
use Rattle.sb_machine.specs.Keyed.{AreRising, changed}
use Rattle.sb_machine.specs.Leaves.{leaf_after}
use Rattle.sb_machine.specs.Messages.{above}
use Rattle.sb_machine.specs.Names.{is_same_entity, is_same_option}
use Rattle.sb_machine.specs.Namespace.{entity_at, entity_of, entity_path, is_entity, leaf_of, new_entity, with_leaf}
use Rattle.sb_machine.specs.Rows.{is_topic}
use Rattle.sb_machine.specs.Visits.{is_under}
use Rattle.sb_machine.specs.declared.call.Description.{Description}
use Rattle.sb_machine.specs.declared.call.Path.{Path}
use Rattle.sb_machine.specs.declared.change.Change.{Change}
use Rattle.sb_machine.specs.declared.change.Change.TheVariants.{AddsRule, DropsRule, InLeaf, Makes, Notes, Removes}
use Rattle.sb_machine.specs.declared.change.LeafChange.{LeafChange}
use Rattle.sb_machine.specs.declared.change.LeafChange.TheVariants.{Closes, Ends, Enters, Holds, Opens, Passes, Prolongs, Renews, Stands, Writes}
use Rattle.sb_machine.specs.declared.change.LeafKey.{LeafKey}
use Rattle.sb_machine.specs.declared.rule.Rule.{Rule}
use Rattle.sb_machine.specs.declared.state.Entity.{Entity}
use Rattle.sb_machine.specs.declared.state.EntityKind.{EntityKind}
use Rattle.sb_machine.specs.declared.state.Listed.{Listed}
use Rattle.sb_machine.specs.declared.state.Space.{Space}
use Rattle.sb_machine.specs.declared.state.Standing.TheVariants.{Ready, Scheduled}

abbrev pub AreTopiced : Space → Type 0
AreTopiced s = Each (HasTopic s) s.entities

abbrev at_path : Path → Entity → Bool
at_path path e = is_same_entity e.about.path path

-- a change that leaves kinds and addresses leaves topics where they are
topic_found : (path : Path) (q : Entity → Bool) (g : Entity → Entity) (es : List Entity) → ((e : Entity) → ((g e).about.path ≡ e.about.path) × ((g e).about.kind ≡ e.about.kind)) → is_topic_at (find (at_path path) (changed q (λ e. g e ∷ []) es)) ≡ is_topic_at (find (at_path path) es)
topic_found path q g [] same = refl
topic_found path q g (x ∷ xs) same = at (q x) refl (at_path path x) refl (topic_found path q g xs same) where
  moved_path : at_path path (g x) ≡ at_path path x
  moved_path = ap (λ (p : Path). is_same_entity p path) (same x).0

  at : (b : Bool) → q x ≡ b → (c : Bool) → at_path path x ≡ c → is_topic_at (find (at_path path) (changed q (λ e. g e ∷ []) xs)) ≡ is_topic_at (find (at_path path) xs) → is_topic_at (find (at_path path) (changed q (λ e. g e ∷ []) (x ∷ xs))) ≡ is_topic_at (find (at_path path) (x ∷ xs))
  at true is true here ih = rw (is, moved_path, here) (ap is_topic (same x).1)
  at true is false here ih = rw (is, moved_path, here) refl
  at false is true here ih = rw (is, here) refl
  at false is false here ih = rw (is, here) ih

topics_on : (n : ℕ) (g : Entity → Entity) (s later : Space) → later.entities ≡ on_entity n g s → ((e : Entity) → ((g e).about.path ≡ e.about.path) × ((g e).about.kind ≡ e.about.kind)) → AreTopiced s → AreTopiced later
topics_on n g s later is same h = subst (λ (es : List Entity). Each (HasTopic later) es) (sym is) (each_changed (HasTopic later) (is_entity n) (λ e. g e ∷ []) s.entities (λ e there topic. (moved_topic e topic, tt)) (each_implied (HasTopic s) (HasTopic later) (λ e topic sub. found_too (entity_path e.about.path.name) ∙ topic sub) s.entities h)) where
  found_too : (path : Path) → is_topic_at (entity_at path later) ≡ is_topic_at (entity_at path s)
  found_too path = ap (λ (es : List Entity). is_topic_at (find (at_path path) es)) is ∙ topic_found path (is_entity n) g s.entities same

  moved_topic : (e : Entity) → HasTopic later e → HasTopic later (g e)
  moved_topic e topic = subst (λ (p : Path). is_some p.subscription ≡ true → is_topic_at (entity_at (entity_path p.name) later) ≡ true) (sym (same e).0) topic

leaf_topics : (t : ℕ) (key : LeafKey) (c : LeafChange) (s : Space) → AreTopiced s → AreTopiced (after t (InLeaf key c) s)
leaf_topics t key c s h = topics_on key.entity (λ e. with_leaf key.part (leaf_after (s.last_lock + 1) t c (leaf_of key.part e)) e) s (after t (InLeaf key c) s) refl
    (λ e. (ap (λ (about : Listed). about.path) (about_with_leaf key.part (leaf_after (s.last_lock + 1) t c (leaf_of key.part e)) e), ap (λ (about : Listed). about.kind) (about_with_leaf key.part (leaf_after (s.last_lock + 1) t c (leaf_of key.part e)) e))) h

pub act_topics : (t : ℕ) (c : Change) (now : Space) → IsOfAct Arrives t c → AreTopiced now → AreTopiced (after t c now)
act_topics t _ now (act_enters key seq hops m few p) h = leaf_topics t key (Enters (record { seq = seq; hops = hops; standing = Ready; message = m })) now h
act_topics t _ now (act_waits key moment m later p) h = leaf_topics t key (Enters (record { seq = None; hops = 0; standing = Scheduled moment; message = m })) now h
act_topics t _ now (act_passes key cause) h = leaf_topics t key (Passes cause) now h
act_topics t _ now (act_ends key n by_settlement cause) h = leaf_topics t key (Ends n by_settlement cause) now h
act_topics t _ now (act_frees key n by_settlement count standing free few) h = leaf_topics t key (Stands n by_settlement count standing) now h
act_topics t _ now (act_closes key l) h = leaf_topics t key (Closes l) now h
act_topics t _ now (act_notes n id) h = topics_on n (λ e. record e { ids = noted e.about.description.window id t e.ids }) now (after t (Notes n id) now) refl (λ e. (refl, refl)) h
act_topics t _ now (act_drops n) h = h

-- ---- one more entity

still_topic : (path : Path) (es fs : List Entity) → is_topic_at (find (at_path path) es) ≡ true → is_topic_at (find (at_path path) (es ++ fs)) ≡ true
still_topic path es fs is = at (find (at_path path) es) refl is where
  at : (o : Option Entity) → find (at_path path) es ≡ o → is_topic_at o ≡ true → is_topic_at (find (at_path path) (es ++ fs)) ≡ true
  at None none is = absurd cc
  at (Some d) there is = rw (found_first (at_path path) d es fs there) is

made_topics : (t : ℕ) (kind : EntityKind) (path : Path) (d : Description) (rules : List Rule) (s : Space) → (is_some path.subscription ≡ true → is_topic_at (entity_at (entity_path path.name) s) ≡ true) → AreTopiced s → AreTopiced (after t (Makes kind path d rules) s)
made_topics t kind path d rules s topic h =
    let new = new_entity (record { number = s.last_entity + 1; kind = kind; path = path; description = d; rules = rules }) in
    let later = after t (Makes kind path d rules) s in
    each_append (HasTopic later) s.entities (new ∷ []) (each_implied (HasTopic s) (HasTopic later) (λ e is sub. still_topic (entity_path e.about.path.name) s.entities (new ∷ []) (is sub)) s.entities h)
    ((λ sub. still_topic (entity_path path.name) s.entities (new ∷ []) (topic sub)), tt)

-- ---- removals

abbrev kept_of : List Entity → Entity → Bool
kept_of xs e = not (list_any (λ x. is_entity x.about.number e) xs)

filter_twice : {X : Type 0} (p q : X → Bool) (xs : List X) → filter q (filter p xs) ≡ filter (λ x. p x && q x) xs
filter_twice p q [] = refl
filter_twice p q (x ∷ xs) = at (p x) refl (q x) refl (filter_twice p q xs) where
  at : (b : Bool) → p x ≡ b → (c : Bool) → q x ≡ c → filter q (filter p xs) ≡ filter (λ y. p y && q y) xs → filter q (filter p (x ∷ xs)) ≡ filter (λ y. p y && q y) (x ∷ xs)
  at true is true so ih = rw (is, so) (ap (λ l. x ∷ l) ih)
  at true is false so ih = rw (is, so) ih
  at false is c so ih = rw is ih

filter_same : {X : Type 0} (p q : X → Bool) (xs : List X) → ((x : X) → p x ≡ q x) → filter p xs ≡ filter q xs
filter_same p q [] same = refl
filter_same p q (x ∷ xs) same = at (q x) refl (filter_same p q xs same) where
  at : (b : Bool) → q x ≡ b → filter p xs ≡ filter q xs → filter p (x ∷ xs) ≡ filter q (x ∷ xs)
  at true is ih = rw (same x, is) (ap (λ l. x ∷ l) ih)
  at false is ih = rw (same x, is) ih

filter_all : {X : Type 0} (xs : List X) → filter (λ x. true) xs ≡ xs
filter_all [] = refl
filter_all (x ∷ xs) = ap (λ l. x ∷ l) (filter_all xs)

removed_entities : (t : ℕ) (xs : List Entity) (now : Space) → (after_all t (map (λ x. Removes x.about.number) xs) now).entities ≡ filter (kept_of xs) now.entities
removed_entities t [] now = sym (filter_all now.entities)
removed_entities t (x ∷ xs) now = removed_entities t xs (after t (Removes x.about.number) now) ∙ filter_twice (λ e. not (is_entity x.about.number e)) (kept_of xs) now.entities
    ∙ filter_same (λ e. not (is_entity x.about.number e) && kept_of xs e) (kept_of (x ∷ xs)) now.entities (λ e. nots (is_entity x.about.number e) (list_any (λ y. is_entity y.about.number e) xs)) where
      nots : (a b : Bool) → (not a && not b) ≡ not (a || b)
      nots true b = refl
      nots false b = refl

found_kept : {X : Type 0} (p k : X → Bool) (d : X) (xs : List X) → find p xs ≡ Some d → k d ≡ true → find p (filter k xs) ≡ Some d
found_kept p k d [] is stays_so = absurd cc
found_kept p k d (x ∷ xs) is stays_so = at (p x) refl (k x) refl (found_kept p k d xs) where
  at : (b : Bool) → p x ≡ b → (c : Bool) → k x ≡ c → (find p xs ≡ Some d → k d ≡ true → find p (filter k xs) ≡ Some d) → find p (filter k (x ∷ xs)) ≡ Some d
  at true passes true keeps ih = rw (keeps, passes) (ap (λ y. Some y) (found_here p x d xs passes is))
  at true passes false keeps ih = let same = found_here p x d xs passes is in let bad : false ≡ true = sym keeps ∙ ap k same ∙ stays_so in absurd cc
  at false passes true keeps ih = rw (keeps, passes) (ih (found_behind p x xs (Some d) passes is) stays_so)
  at false passes false keeps ih = rw keeps (ih (found_behind p x xs (Some d) passes is) stays_so)

-- each that passes is among those that pass
among : (r : Entity → Bool) (es : List Entity) → Each (λ x. r x ≡ true → list_any (λ y. is_entity y.about.number x) (filter r es) ≡ true) es
among r [] = tt
among r (x ∷ xs) = (here, each_implied (λ y. r y ≡ true → list_any (λ z. is_entity z.about.number y) (filter r xs) ≡ true) (λ y. r y ≡ true → list_any (λ z. is_entity z.about.number y) (filter r (x ∷ xs)) ≡ true) (λ y is passes. more (r x) refl y (is passes)) xs (among r xs)) where
  here : r x ≡ true → list_any (λ y. is_entity y.about.number x) (filter r (x ∷ xs)) ≡ true
  here passes = rw (passes, numbers_equal x.about.number) refl

  more : (b : Bool) → r x ≡ b → (y : Entity) → list_any (λ z. is_entity z.about.number y) (filter r xs) ≡ true → list_any (λ z. is_entity z.about.number y) (filter r (x ∷ xs)) ≡ true
  more true is y h = rw is (either (is_entity x.about.number y) h) where
    either : (a : Bool) {b : Bool} → b ≡ true → (a || b) ≡ true
    either true e = refl
    either false e = e
  more false is y h = rw is h

module _ (t : ℕ) (s : Space) (o : IsOrdered s) (path : Path) (e : Entity) (there : entity_at path s ≡ Some e) where
  same_by_number : (p : Entity → Bool) (d y : Entity) → find p s.entities ≡ Some d → entity_of y.about.number s ≡ Some y → (d.about.number == y.about.number) ≡ true → d ≡ y
  same_by_number p d y found of_y is =
      let of_d : entity_of d.about.number s ≡ Some d = found_by_key entity_number p 0 s.last_entity d s.entities o.entities found in
      some_is d y (sym of_d ∙ ap (λ (n : ℕ). entity_of n s) (is_equal d.about.number y.about.number is) ∙ of_y) where
        some_is : (d y : Entity) → ◌≡◌ {A = Option Entity} (Some d) (Some y) → d ≡ y
        some_is d y same = cc

  -- a queue or topic is none of the subscriptions that go
  others_stay : (d : Entity) (p : Entity → Bool) → find p s.entities ≡ Some d → is_some d.about.path.subscription ≡ false → (ys : List Entity) → Each (λ y. (entity_of y.about.number s ≡ Some y) × (is_some y.about.path.subscription ≡ true)) ys → list_any (λ y. is_entity y.about.number d) ys ≡ false
  others_stay d p found bare [] h = refl
  others_stay d p found bare (y ∷ ys) h = at (is_entity y.about.number d) refl (others_stay d p found bare ys h.1) where
    at : (b : Bool) → is_entity y.about.number d ≡ b → list_any (λ z. is_entity z.about.number d) ys ≡ false → list_any (λ z. is_entity z.about.number d) (y ∷ ys) ≡ false
    at true is rest = let same = same_by_number p d y found h.0.0 is in let bad : false ≡ true = sym bare ∙ ap (λ (x : Entity). is_some x.about.path.subscription) same ∙ h.0.1 in absurd cc
    at false is rest = rw is rest

-- each is found by its own number
each_own : (above last : ℕ) (es : List Entity) → AreRising entity_number above last es → Each (λ y. find (is_entity y.about.number) es ≡ Some y) es
each_own above last [] rises = tt
each_own above last (x ∷ xs) rises = (
  rw (numbers_equal x.about.number) refl,
  each_implied (λ y. (find (is_entity y.about.number) xs ≡ Some y) × ((x.about.number < y.about.number) × (y.about.number ≤ last))) (λ y. find (is_entity y.about.number) (x ∷ xs) ≡ Some y)
      (λ y is. rw (other_number x.about.number y.about.number is.1.0) is.0) xs
      (each_both (λ y. find (is_entity y.about.number) xs ≡ Some y) (λ y. (x.about.number < y.about.number) × (y.about.number ≤ last)) xs (each_own x.about.number last xs rises.1) (rising_above entity_number x.about.number last xs rises.1)),
)

module _ (t : ℕ) (s : Space) (o : IsOrdered s) (path : Path) (e : Entity) (there : entity_at path s ≡ Some e) where
  under_some : (topic : List ℕ) (y : Listed) → is_under topic y ≡ true → is_some y.path.subscription ≡ true
  under_some topic y is = at y.path.subscription is where
    at : (r : Option (List ℕ)) → ◌≡◌ {A = Bool} (elim r [ Some name ↦ bytes_eq y.path.name topic | None ↦ false ]) true → is_some r ≡ true
    at None is = absurd cc
    at (Some name) is = refl

  some_under : (topic : List ℕ) (y : Listed) → is_some y.path.subscription ≡ true → bytes_eq y.path.name topic ≡ true → is_under topic y ≡ true
  some_under topic y is same = at y.path.subscription is where
    at : (r : Option (List ℕ)) → is_some r ≡ true → ◌≡◌ {A = Bool} (elim r [ Some name ↦ bytes_eq y.path.name topic | None ↦ false ]) true
    at None is = absurd cc
    at (Some name) is = same

  going_facts : Each (λ y. (entity_of y.about.number s ≡ Some y) × (is_some y.about.path.subscription ≡ true)) (going_with s e)
  going_facts = go (is_topic e.about.kind) where
    go : (b : Bool) → Each (λ y. (entity_of y.about.number s ≡ Some y) × (is_some y.about.path.subscription ≡ true)) (if b then filter (λ x. is_under e.about.path.name x.about) s.entities else [])
    go false = tt
    go true = each_both (λ y. entity_of y.about.number s ≡ Some y) (λ y. is_some y.about.path.subscription ≡ true) (filter (λ x. is_under e.about.path.name x.about) s.entities)
        (each_filter (λ y. entity_of y.about.number s ≡ Some y) (λ x. is_under e.about.path.name x.about) s.entities (each_own 0 s.last_entity s.entities o.entities))
        (each_implied (λ y. is_under e.about.path.name y.about ≡ true) (λ y. is_some y.about.path.subscription ≡ true) (λ y is. under_some e.about.path.name y.about is) (filter (λ x. is_under e.about.path.name x.about) s.entities) (each_passed (λ x. is_under e.about.path.name x.about) s.entities))

  abbrev Goes : Entity → Type 0
  Goes x = is_topic e.about.kind ≡ true → is_under e.about.path.name x.about ≡ true → list_any (λ y. is_entity y.about.number x) (going_with s e) ≡ true

  all_go : Each Goes s.entities
  all_go = each_implied (λ x. is_under e.about.path.name x.about ≡ true → list_any (λ y. is_entity y.about.number x) (filter (λ x. is_under e.about.path.name x.about) s.entities) ≡ true) Goes (λ x is topic under. rw topic (is under)) s.entities (among (λ x. is_under e.about.path.name x.about) s.entities)

  -- the topic of what stays stays
  topic_stays : (x d : Entity) → kept_of (e ∷ going_with s e) x ≡ true → Goes x → is_some x.about.path.subscription ≡ true → entity_at (entity_path x.about.path.name) s ≡ Some d → is_topic d.about.kind ≡ true → kept_of (e ∷ going_with s e) d ≡ true
  topic_stays x d stays_so goes sub found topic = at (is_entity e.about.number d) refl where
    passes : (bytes_eq d.about.path.name x.about.path.name ≡ true) × (is_same_option d.about.path.subscription None ≡ true)
    passes = two (bytes_eq d.about.path.name x.about.path.name) (is_same_option d.about.path.subscription None) (found_passes (at_path (entity_path x.about.path.name)) d s.entities found)

    bare : is_some d.about.path.subscription ≡ false
    bare = ap is_some (text_sound d.about.path.subscription None passes.1)

    kept_off : (a b : Bool) → not (a || b) ≡ true → b ≡ true → ⊥
    kept_off true b k on = absurd cc
    kept_off false b k on = absurd (clash b k on) where
      clash : (b : Bool) → not b ≡ true → b ≡ true → ⊥
      clash true k on = absurd cc
      clash false k on = absurd cc

    at : (b : Bool) → is_entity e.about.number d ≡ b → not (is_entity e.about.number d || list_any (λ y. is_entity y.about.number d) (going_with s e)) ≡ true
    at true is =
        let same = same_by_number t s o path e there (at_path (entity_path x.about.path.name)) d e found (by_number s t o path e there) is in
        let names : x.about.path.name ≡ e.about.path.name = sym (same_bytes d.about.path.name x.about.path.name passes.0) ∙ ap (λ (y : Entity). y.about.path.name) same in
        let under : is_under e.about.path.name x.about ≡ true = some_under e.about.path.name x.about sub (subst (λ (name : List ℕ). bytes_eq x.about.path.name name ≡ true) names (bytes_same x.about.path.name)) in
        absurd (kept_off (is_entity e.about.number x) (list_any (λ y. is_entity y.about.number x) (going_with s e)) stays_so (goes (subst (λ (y : Entity). is_topic y.about.kind ≡ true) same topic) under))
    at false is = rw (is, others_stay t s o path e there d (at_path (entity_path x.about.path.name)) found bare (going_with s e) going_facts) refl

  pub removed_topics : AreTopiced s → AreTopiced (after_all t (Removes e.about.number ∷ map (λ x. Removes x.about.number) (going_with s e)) s)
  removed_topics h = subst (λ (es : List Entity). Each (HasTopic (after_all t (map (λ x. Removes x.about.number) (e ∷ going_with s e)) s)) es) (sym (removed_entities t (e ∷ going_with s e) s))
      (each_implied (λ x. (kept_of (e ∷ going_with s e) x ≡ true) × (HasTopic s x × Goes x)) (HasTopic (after_all t (map (λ x. Removes x.about.number) (e ∷ going_with s e)) s)) (λ x is. stays_topic x is.0 is.1.0 is.1.1) (filter (kept_of (e ∷ going_with s e)) s.entities)
      (each_both (λ x. kept_of (e ∷ going_with s e) x ≡ true) (λ x. HasTopic s x × Goes x) (filter (kept_of (e ∷ going_with s e)) s.entities) (each_passed (kept_of (e ∷ going_with s e)) s.entities)
      (each_filter (λ x. HasTopic s x × Goes x) (kept_of (e ∷ going_with s e)) s.entities (each_both (HasTopic s) Goes s.entities h all_go)))) where
        stays_topic : (x : Entity) → kept_of (e ∷ going_with s e) x ≡ true → HasTopic s x → Goes x → HasTopic (after_all t (map (λ x. Removes x.about.number) (e ∷ going_with s e)) s) x
        stays_topic x keeps topic goes sub = ap (λ (es : List Entity). is_topic_at (find (at_path (entity_path x.about.path.name)) es)) (removed_entities t (e ∷ going_with s e) s) ∙ at (entity_at (entity_path x.about.path.name) s) refl (topic sub) where
          at : (r : Option Entity) → entity_at (entity_path x.about.path.name) s ≡ r → is_topic_at r ≡ true → is_topic_at (find (at_path (entity_path x.about.path.name)) (filter (kept_of (e ∷ going_with s e)) s.entities)) ≡ true
          at None found is = absurd cc
          at (Some d) found is = rw (found_kept (at_path (entity_path x.about.path.name)) (kept_of (e ∷ going_with s e)) d s.entities found (topic_stays x d keeps goes sub found is)) is

-- ---- all changes of an accepted act

pub shape_topics : (t : ℕ) (s : Space) (cs : List Change) → IsOrdered s → Shape s t cs → AreTopiced s → AreTopiced (after_all t cs s)
shape_topics t s cs o (of_acts acts) h = kept_by_all (IsOfAct Arrives t) AreTopiced t (λ c now is i. act_topics t c now is i) cs s acts h
shape_topics t s _ o (of_makes kind path d rules plain ruled new topic) h = made_topics t kind path d rules s topic h
shape_topics t s _ o (of_adds n rule e there fresh named has) h = topics_on n (with_rules (rule_added rule)) s (after t (AddsRule n rule) s) refl (λ e. (refl, refl)) h
shape_topics t s _ o (of_rule_drop n name) h = topics_on n (with_rules (rule_dropped name)) s (after t (DropsRule n name) s) refl (λ e. (refl, refl)) h
shape_topics t s _ o (of_removes path e there) h = removed_topics t s o path e there h
shape_topics t s _ o (of_holds key hold e c there found free fits) h = leaf_topics t key (Holds c.number hold) s h
shape_topics t s _ o (of_renews key n until few) h = leaf_topics t key (Renews n until) s h
shape_topics t s _ o (of_opens key id until few) h = leaf_topics t key (Opens id until) s h
shape_topics t s _ o (of_prolongs key l until few) h = leaf_topics t key (Prolongs l until) s h
shape_topics t s _ o (of_writes key l bytes few) h = leaf_topics t key (Writes l bytes) s h
shape_topics t s _ o (of_begins n e there few) h = h
shape_topics t s _ o (of_queues x op there few fits) h = h
