-- Points of consistency that each change keeps by itself: moments and sessions of parts, accepted ids, open transactions.
use Rattle.std.proofs.Common.{Bool, List, None, Option, Some, [], arith, false, length, map, refl, rules, subst, sym, true, ℕ, ◌+◌, ◌<◌, ◌∷◌, ◌≡◌, ◌≤◌}
use Rattle.std.specs.Prelude.{bytes_eq, find, if◌then◌else◌, is_some, sum_by}
use Rattle.sb_laws.proofs.Carried.{IsOfAct, act_closes, act_drops, act_ends, act_enters, act_frees, act_notes, act_passes, act_waits}
use Rattle.sb_laws.proofs.Carrying.{kept_by_all}
use Rattle.sb_laws.proofs.Eachs.{IsLike, each_append, each_changed, each_implied, each_inserted, like_gone, like_one, pairs_changed}
use Rattle.sb_laws.proofs.Entities.{EachLeaf, each_leaf, leaf_each, leaves_keep}
use Rattle.sb_laws.proofs.Queuing.{QueueFits}
use Rattle.sb_laws.proofs.Shapes.{Arrives, Shape, of_acts, of_adds, of_begins, of_holds, of_makes, of_opens, of_prolongs, of_queues, of_removes, of_renews, of_rule_drop, of_writes}
use Rattle.sb_laws.proofs.Sorting.{before_later, before_other, none_same, sorted_placed}
use Rattle.sb_laws.specs.Plain.{IsPlain, IsRuled}
use Rattle.sb_machine.specs.Administration.{going_with, rule_in}
use Rattle.sb_machine.specs.Changes.{after, after_all, is_transaction}
use Rattle.sb_machine.specs.Descriptions.{has_rules}
use Rattle.sb_machine.specs.Each.{Each, IfSome, IsSorted}
use Rattle.sb_machine.specs.Fit.{IsSession}
use Rattle.sb_machine.specs.Keyed.{changed, with_sorted}
use Rattle.sb_machine.specs.Leaves.{has_id, has_number, holder_new, is_deferred, is_held_under, leaf_after, prolonged_holder, prolonged_standing, remembered, session_in, stored, taken}
use Rattle.sb_machine.specs.Names.{is_before, is_rule_name}
use Rattle.sb_machine.specs.Namespace.{empty_leaf, entity_at, entity_of, leaf_of}
use Rattle.sb_machine.specs.Queueing.{deadline_with, max_operations, txn_life, weight}
use Rattle.sb_machine.specs.Sessions.{max_state, size_of}
use Rattle.sb_machine.specs.Transactions.{max_transactions}
use Rattle.sb_machine.specs.declared.call.Description.{Description}
use Rattle.sb_machine.specs.declared.call.Part.{Part}
use Rattle.sb_machine.specs.declared.call.Part.TheVariants.{Dead, Main, Transfer}
use Rattle.sb_machine.specs.declared.call.Path.{Path}
use Rattle.sb_machine.specs.declared.change.Change.{Change}
use Rattle.sb_machine.specs.declared.change.Change.TheVariants.{AddsRule, Begins, DropsRule, InLeaf, Makes, Notes, Queues, Removes}
use Rattle.sb_machine.specs.declared.change.LeafChange.{LeafChange}
use Rattle.sb_machine.specs.declared.change.LeafChange.TheVariants.{Closes, Ends, Enters, Holds, Opens, Passes, Prolongs, Renews, Stands, Writes}
use Rattle.sb_machine.specs.declared.change.LeafKey.{LeafKey}
use Rattle.sb_machine.specs.declared.rule.Rule.{Rule}
use Rattle.sb_machine.specs.declared.state.Entity.{Entity}
use Rattle.sb_machine.specs.declared.state.EntityKind.{EntityKind}
use Rattle.sb_machine.specs.declared.state.Hold.{Hold}
use Rattle.sb_machine.specs.declared.state.Holder.{Holder}
use Rattle.sb_machine.specs.declared.state.Leaf.{Leaf}
use Rattle.sb_machine.specs.declared.state.Operation.{Operation}
use Rattle.sb_machine.specs.declared.state.Session.{Session}
use Rattle.sb_machine.specs.declared.state.Space.{Space}
use Rattle.sb_machine.specs.declared.state.Standing.TheVariants.{Held, Ready, Scheduled}
use Rattle.sb_machine.specs.declared.state.StoredCopy.{StoredCopy}
use Rattle.sb_machine.specs.declared.state.Transaction.{Transaction}

-- ---- a fact that each change of a shape keeps

pub record StepKeeps (I : Space → Type 0) (t : ℕ) (s : Space) : Type 0 where
  pub acts : (c : Change) (now : Space) → IsOfAct Arrives t c → I now → I (after t c now)
  pub makes : (kind : EntityKind) (path : Path) (d : Description) (rules : List Rule) → IsPlain (record { number = s.last_entity + 1; kind = kind; path = path; description = d; rules = rules }) → IsRuled (record { number = s.last_entity + 1; kind = kind; path = path; description = d; rules = rules }) → entity_at path s ≡ None → I s → I (after t (Makes kind path d rules) s)
  pub adds : (n : ℕ) (rule : Rule) (e : Entity) → entity_of n s ≡ Some e → rule_in rule.name e ≡ None → is_rule_name rule.name ≡ true → has_rules e.about.kind ≡ true → I s → I (after t (AddsRule n rule) s)
  pub rule_drop : (n : ℕ) (name : List ℕ) → I s → I (after t (DropsRule n name) s)
  pub removes : (n : ℕ) (now : Space) → I now → I (after t (Removes n) now)
  pub holds : (key : LeafKey) (n : ℕ) (hold : Hold) → I s → I (after t (InLeaf key (Holds n hold)) s)
  pub renews : (key : LeafKey) (n until : ℕ) → I s → I (after t (InLeaf key (Renews n until)) s)
  pub opens : (key : LeafKey) (id : List ℕ) (until : ℕ) → until ≤ t + 300000 → I s → I (after t (InLeaf key (Opens id until)) s)
  pub prolongs : (key : LeafKey) (l until : ℕ) → until ≤ t + 300000 → I s → I (after t (InLeaf key (Prolongs l until)) s)
  pub writes : (key : LeafKey) (l : ℕ) (bytes : Option (List ℕ)) → size_of bytes ≤ max_state → I s → I (after t (InLeaf key (Writes l bytes)) s)
  pub begins : (n : ℕ) (e : Entity) → entity_of n s ≡ Some e → length s.transactions < max_transactions → I s → I (after t (Begins n (t + txn_life)) s)
  pub queues : (x : Transaction) (o : Operation) → find (is_transaction x.number) s.transactions ≡ Some x → sum_by weight x.operations + weight o ≤ max_operations → QueueFits s o → I s → I (after t (Queues x.number (deadline_with t x) o) s)

pub shape_keeps : (I : Space → Type 0) (t : ℕ) (s : Space) (cs : List Change) → StepKeeps I t s → Shape s t cs → I s → I (after_all t cs s)
shape_keeps I t s cs k (of_acts acts) i = kept_by_all (IsOfAct Arrives t) I t (λ c now is i. k.acts c now is i) cs s acts i
shape_keeps I t s _ k (of_makes kind path d rules plain ruled new topic) i = k.makes kind path d rules plain ruled new i
shape_keeps I t s _ k (of_adds n rule e there fresh named has) i = k.adds n rule e there fresh named has i
shape_keeps I t s _ k (of_rule_drop n name) i = k.rule_drop n name i
shape_keeps I t s _ k (of_removes path e there) i = all (going_with s e) (after t (Removes e.about.number) s) (k.removes e.about.number s i) where
  all : (es : List Entity) (now : Space) → I now → I (after_all t (map (λ x. Removes x.about.number) es) now)
  all [] now i = i
  all (e ∷ es) now i = all es (after t (Removes e.about.number) now) (k.removes e.about.number now i)
shape_keeps I t s _ k (of_holds key hold e c there found free fits) i = k.holds key c.number hold i
shape_keeps I t s _ k (of_renews key n until few) i = k.renews key n until i
shape_keeps I t s _ k (of_opens key id until few) i = k.opens key id until few i
shape_keeps I t s _ k (of_prolongs key l until few) i = k.prolongs key l until few i
shape_keeps I t s _ k (of_writes key l bytes few) i = k.writes key l bytes few i
shape_keeps I t s _ k (of_begins n e there few) i = k.begins n e there few i
shape_keeps I t s _ k (of_queues x o there few fits) i = k.queues x o there few fits i

-- ---- moments and sessions of parts

pub record IsTimed (t : ℕ) (leaf : Leaf) : Type 0 where
  pub copies : Each (λ c. c.enqueued ≤ t) leaf.copies
  pub order : IsSorted (λ a b. is_before a.id b.id) leaf.sessions
  pub sessions : Each (IsSession t) leaf.sessions

abbrev pub TimedIn : ℕ → Part → Leaf → Type 0
TimedIn t part leaf = IsTimed t leaf

abbrev pub AreTimed : ℕ → Space → Type 0
AreTimed t s = Each (EachLeaf (TimedIn t)) s.entities

-- what a change of a part is to keep to
abbrev TimeFits : ℕ → LeafChange → Type 0
TimeFits t (Opens id until) = until ≤ t + 300000
TimeFits t (Prolongs l until) = until ≤ t + 300000
TimeFits t (Writes l bytes) = size_of bytes ≤ max_state
TimeFits t _ = Unit {0}

module _ (t : ℕ) where
  abbrev Early : StoredCopy → Type 0
  Early c = c.enqueued ≤ t

  early_changed : (n : ℕ) (g : StoredCopy → StoredCopy) (leaf : Leaf) → ((c : StoredCopy) → (g c).enqueued ≡ c.enqueued) → IsTimed t leaf → IsTimed t (record leaf { copies = changed (has_number n) (λ c. g c ∷ []) leaf.copies })
  early_changed n g leaf same h = record { copies = each_changed Early (has_number n) (λ c. g c ∷ []) leaf.copies (λ c there early. (omega (arith, early, same c), tt)) h.copies; order = h.order; sessions = h.sessions }

  abbrev SameId : Session → Session → Type 0
  SameId x y = y.id ≡ x.id

  -- sessions in whose places others of their ids stand, or none
  sessions_changed : (p : Session → Bool) (g : Session → List Session) (leaf : Leaf) → ((x : Session) → IsLike SameId x (g x)) → ((x : Session) → IsSession t x → Each (IsSession t) (g x)) → IsTimed t leaf → IsTimed t (record leaf { sessions = changed p g leaf.sessions })
  sessions_changed p g leaf like fits h = record {
    copies = h.copies;
    order = pairs_changed SameId (λ a b. is_before a.id b.id ≡ true) p g (λ x y z same before. subst (λ (id : List ℕ). is_before id z.id ≡ true) (sym same) before) (λ x y z same before. subst (λ (id : List ℕ). is_before z.id id ≡ true) (sym same) before) leaf.sessions (λ x there. like x) h.order;
    sessions = each_changed (IsSession t) p g leaf.sessions (λ x there is. fits x is) h.sessions;
  }

  kept_like : (x y : Session) → y.id ≡ x.id → IsLike SameId x (remembered y)
  kept_like x y same = go (is_some y.holder) (is_some y.state) where
    go : (a b : Bool) → IsLike SameId x (if a then y ∷ [] else (if b then y ∷ [] else []))
    go true b = like_one same
    go false true = like_one same
    go false false = like_gone

  kept_fits : (y : Session) → IsSession t y → Each (IsSession t) (remembered y)
  kept_fits y is = go (is_some y.holder) (is_some y.state) where
    go : (a b : Bool) → Each (IsSession t) (if a then y ∷ [] else (if b then y ∷ [] else []))
    go true b = (is, tt)
    go false true = (is, tt)
    go false false = tt

  taken_fits : (lock until : ℕ) (x : Session) → until ≤ t + 300000 → IsSession t x → IsSession t (taken lock until x)
  taken_fits lock until x few is = record { state = is.state; until = at x.holder is.until } where
    at : (o : Option Holder) → IfSome o (λ h. h.until ≤ t + 300000) → IfSome (elim o as (λ _. Option Holder) [ Some h ↦ Some h | None ↦ Some (holder_new lock until) ]) (λ h. h.until ≤ t + 300000)
    at None h = few
    at (Some k) h = h

  prolonged_fits : (until : ℕ) (x : Session) → until ≤ t + 300000 → IsSession t x → IsSession t (record x { holder = prolonged_holder until x.holder })
  prolonged_fits until x few is = record { state = is.state; until = at x.holder } where
    at : (o : Option Holder) → IfSome (prolonged_holder until o) (λ h. h.until ≤ t + 300000)
    at None = tt
    at (Some k) = few

  leaf_timed : (lock : ℕ) (c : LeafChange) (leaf : Leaf) → TimeFits t c → IsTimed t leaf → IsTimed t (leaf_after lock t c leaf)
  leaf_timed lock (Enters fresh) leaf fits h = record { copies = each_append Early leaf.copies (stored (leaf.last + 1) t fresh ∷ []) h.copies (omega arith, tt); order = h.order; sessions = h.sessions }
  leaf_timed lock (Passes cause) leaf fits h = record { copies = h.copies; order = h.order; sessions = h.sessions }
  leaf_timed lock (Ends n by_settlement cause) leaf fits h = record { copies = each_changed Early (has_number n) (λ c. []) leaf.copies (λ c there early. tt) h.copies; order = h.order; sessions = h.sessions }
  leaf_timed lock (Holds n hold) leaf fits h = early_changed n (λ c. record c { standing = Held lock hold (is_deferred c.standing) }) leaf (λ c. refl) h
  leaf_timed lock (Stands n by_settlement count standing) leaf fits h = early_changed n (λ c. record c { count = count; standing = standing }) leaf (λ c. refl) h
  leaf_timed lock (Renews n until) leaf fits h = early_changed n (λ c. record c { standing = prolonged_standing until c.standing }) leaf (λ c. refl) h
  leaf_timed lock (Closes l) leaf fits h = sessions_changed (is_held_under l) (λ x. remembered (record x { holder = None })) leaf (λ x. kept_like x (record x { holder = None }) refl) (λ x is. kept_fits (record x { holder = None }) (record { state = is.state; until = tt })) h
  leaf_timed lock (Prolongs l until) leaf fits h = sessions_changed (is_held_under l) (λ x. record x { holder = prolonged_holder until x.holder } ∷ []) leaf (λ x. like_one refl) (λ x is. (prolonged_fits until x fits is, tt)) h
  leaf_timed lock (Writes l bytes) leaf fits h = sessions_changed (is_held_under l) (λ x. remembered (record x { state = bytes })) leaf (λ x. kept_like x (record x { state = bytes }) refl) (λ x is. kept_fits (record x { state = bytes }) (record { state = fits; until = is.until })) h
  leaf_timed lock (Opens id until) leaf fits h = at (session_in id leaf) refl where
    at : (o : Option Session) → session_in id leaf ≡ o
        → IsTimed t (record leaf { sessions = elim o as (λ _. List Session) [ Some x ↦ changed (has_id id) (λ y. taken lock until y ∷ []) leaf.sessions | None ↦ with_sorted (λ y. is_before y.id id) (record { id = id; state = None; holder = Some (holder_new lock until) }) leaf.sessions ] })
    at (Some x) found = sessions_changed (has_id id) (λ y. taken lock until y ∷ []) leaf (λ x. like_one refl) (λ x is. (taken_fits lock until x fits is, tt)) h
    at None none = record { copies = h.copies; order = sorted_placed (λ a b. is_before a.id b.id) (λ a b. bytes_eq a.id b.id) (record { id = id; state = None; holder = Some (holder_new lock until) }) (λ y z p q. before_later id y.id z.id p q) (λ y p q. before_other y.id id p q) leaf.sessions (none_same (has_id id) leaf.sessions none) h.order; sessions = each_inserted (IsSession t) (λ y. is_before y.id id) (record { id = id; state = None; holder = Some (holder_new lock until) }) leaf.sessions (record { state = omega arith; until = fits }) h.sessions }

  leaf_later : (now : ℕ) (leaf : Leaf) → now ≤ t → IsTimed now leaf → IsTimed t leaf
  leaf_later now leaf le h = record {
    copies = each_implied (λ c. c.enqueued ≤ now) Early (λ c early. omega (arith, early, le)) leaf.copies h.copies;
    order = h.order;
    sessions = each_implied (IsSession now) (IsSession t) (λ x is. record { state = is.state; until = at x.holder is.until }) leaf.sessions h.sessions;
  } where
    at : (o : Option Holder) → IfSome o (λ h. h.until ≤ now + 300000) → IfSome o (λ h. h.until ≤ t + 300000)
    at None h = tt
    at (Some k) h = omega (arith, h, le)

  pub timed_later : (now : ℕ) (s : Space) → now ≤ t → AreTimed now s → AreTimed t s
  timed_later now s le h = each_implied (EachLeaf (TimedIn now)) (EachLeaf (TimedIn t)) (λ e p. each_leaf (leaf_later now e.main le (leaf_each (TimedIn now) Main e p)) (leaf_later now e.dead le (leaf_each (TimedIn now) Dead e p)) (leaf_later now e.transfer le (leaf_each (TimedIn now) Transfer e p))) s.entities h

  in_leaf : (key : LeafKey) (c : LeafChange) (s : Space) → TimeFits t c → AreTimed t s → AreTimed t (after t (InLeaf key c) s)
  in_leaf key c s fits h = leaves_keep (TimedIn t) t (InLeaf key c) s (λ e there timed. leaf_timed (s.last_lock + 1) c (leaf_of key.part e) fits timed) h

  act_timed : (c : Change) (now : Space) → IsOfAct Arrives t c → AreTimed t now → AreTimed t (after t c now)
  act_timed _ now (act_enters key seq hops m few p) h = in_leaf key (Enters (record { seq = seq; hops = hops; standing = Ready; message = m })) now tt h
  act_timed _ now (act_waits key moment m later p) h = in_leaf key (Enters (record { seq = None; hops = 0; standing = Scheduled moment; message = m })) now tt h
  act_timed _ now (act_passes key cause) h = in_leaf key (Passes cause) now tt h
  act_timed _ now (act_ends key n by_settlement cause) h = in_leaf key (Ends n by_settlement cause) now tt h
  act_timed _ now (act_frees key n by_settlement count standing free few) h = in_leaf key (Stands n by_settlement count standing) now tt h
  act_timed _ now (act_closes key l) h = in_leaf key (Closes l) now tt h
  act_timed _ now (act_notes n id) h = leaves_keep (TimedIn t) t (Notes n id) now tt h
  act_timed _ now (act_drops n) h = h

  empty_timed : IsTimed t empty_leaf
  empty_timed = record { copies = tt; order = tt; sessions = tt }

  pub timed_steps : (s : Space) → StepKeeps (AreTimed t) t s
  timed_steps s = record {
    acts = act_timed;
    makes = λ kind path d rules plain ruled new h. leaves_keep (TimedIn t) t (Makes kind path d rules) s (λ part. empty_timed) h;
    adds = λ n rule e on fresh named has h. leaves_keep (TimedIn t) t (AddsRule n rule) s tt h;
    rule_drop = λ n name h. leaves_keep (TimedIn t) t (DropsRule n name) s tt h;
    removes = λ n now h. leaves_keep (TimedIn t) t (Removes n) now tt h;
    holds = λ key n hold h. in_leaf key (Holds n hold) s tt h;
    renews = λ key n until h. in_leaf key (Renews n until) s tt h;
    opens = λ key id until few h. in_leaf key (Opens id until) s few h;
    prolongs = λ key l until few h. in_leaf key (Prolongs l until) s few h;
    writes = λ key l bytes few h. in_leaf key (Writes l bytes) s few h;
    begins = λ n e there few h. h;
    queues = λ x o there few fits h. h;
  }
