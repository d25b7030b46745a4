-- An id is accepted once within its window.
use Rattle.std.proofs.Common.{Bool, List, None, Option, Some, [], ap, append_assoc, arith, false, filter, inl, inr, map, not, nat_lt, refl, subst, sym, true, ℕ, ◌&&◌, ◌*◌, ◌++◌, ◌+◌, ◌<◌, ◌==◌, ◌∙◌, ◌∷◌, ◌≡◌, ◌≤◌}
use Rattle.std.proofs.lemmas.Bool.Decides.{nat_tests}
use Rattle.std.proofs.lemmas.List.{append-nil}
use Rattle.std.specs.List.{list_any}
use Rattle.std.specs.Prelude.{bytes_eq, find, if◌then◌else◌, ◌⊎◌}
use Rattle.sb_laws.proofs.Along.{kept_in_time}
use Rattle.sb_laws.proofs.Anyone.{any_itself, any_placed, each_any, either, neither, or_right}
use Rattle.sb_laws.proofs.Carrying.{each_flat, each_mapped}
use Rattle.sb_laws.proofs.Consistency.{consistent_is_sweepable}
use Rattle.sb_laws.proofs.Eachs.{each_append, each_both, each_implied, is_equal, rising_above}
use Rattle.sb_laws.proofs.Ending.{none_left, number_given, other_stays}
use Rattle.sb_laws.proofs.Entities.{IsOrdered, about_with_leaf, entity_number, stays_ordered}
use Rattle.sb_laws.proofs.FoundOn.{found_on, put_in}
use Rattle.sb_laws.proofs.Lists.{found_append, found_first, found_passes}
use Rattle.sb_laws.proofs.Moves.{other_number}
use Rattle.sb_laws.proofs.NothingDue.{ordered}
use Rattle.sb_laws.proofs.Sameness.{bytes_same, numbers_equal, same_bytes, two}
use Rattle.sb_laws.specs.Accepted.{Apart, IsClear, is_same_id, kept_as_noted, kept_ids}
use Rattle.sb_machine.specs.Accounts.{noted_ids}
use Rattle.sb_machine.specs.Changes.{after, is_earlier, is_known, is_recent, noted, rule_added, rule_dropped, with_rules}
use Rattle.sb_machine.specs.Consistent.{IsConsistent}
use Rattle.sb_machine.specs.Each.{Each}
use Rattle.sb_machine.specs.Ends.{Noted, noted_on, notes_in}
use Rattle.sb_machine.specs.History.{IsLegal, fresh_log}
use Rattle.sb_machine.specs.Keyed.{AreRising, changed, with_sorted}
use Rattle.sb_machine.specs.Leaves.{leaf_after}
use Rattle.sb_machine.specs.Namespace.{entity_of, is_entity, leaf_of, new_entity, with_leaf}
use Rattle.sb_machine.specs.declared.call.Part.{Part}
use Rattle.sb_machine.specs.declared.call.Part.TheVariants.{Dead, Main, Transfer}
use Rattle.sb_machine.specs.declared.change.Change.{Change}
use Rattle.sb_machine.specs.declared.change.Change.TheVariants.{AddsRule, Begins, Drops, DropsRule, InLeaf, Makes, Notes, Queues, Removes}
use Rattle.sb_machine.specs.declared.history.Entry.{Entry}
use Rattle.sb_machine.specs.declared.state.AcceptedId.{AcceptedId}
use Rattle.sb_machine.specs.declared.state.Entity.{Entity}
use Rattle.sb_machine.specs.declared.state.Leaf.{Leaf}
use Rattle.sb_machine.specs.declared.state.Listed.{Listed}
use Rattle.sb_machine.specs.declared.state.Space.{Space}
use Rattle.sb_machine.specs.declared.state.State.{State}

-- an id stands in these with its moment
abbrev is_note : Noted → AcceptedId → Bool
is_note y a = bytes_eq a.id y.id && (a.moment == y.moment)

abbrev has_note : Noted → List AcceptedId → Bool
has_note y ids = list_any (is_note y) ids

past_it : (m n t w : ℕ) → (m == n) ≡ true → nat_lt t (m + w) ≡ false → n + w ≤ t
past_it m n t w same old = grind (arith, nat_tests)

-- one that stands there and isn't recent is past its window
old_enough : (y : Noted) (window t : ℕ) (id : List ℕ) (ids : List AcceptedId) → has_note y ids ≡ true → is_known window id t ids ≡ false → bytes_eq y.id id ≡ true → y.moment + 1000 * window ≤ t
old_enough y window t id [] has none same = absurd cc
old_enough y window t id (a ∷ ids) has none same = at (either (is_note y a) (has_note y ids) has) (neither (bytes_eq a.id id && is_recent window t a) (is_known window id t ids) none) (λ later rest. old_enough y window t id ids later rest same) where
  at : (is_note y a ≡ true) ⊎ (has_note y ids ≡ true) → ((bytes_eq a.id id && is_recent window t a) ≡ false) × (is_known window id t ids ≡ false) → (has_note y ids ≡ true → is_known window id t ids ≡ false → y.moment + 1000 * window ≤ t) → y.moment + 1000 * window ≤ t
  at (inr later) parts ih = ih later parts.1
  at (inl here) parts ih =
      let both = two (bytes_eq a.id y.id) (a.moment == y.moment) here in
      let passes : bytes_eq a.id id ≡ true = ap (λ (l : List ℕ). bytes_eq l id) (same_bytes a.id y.id both.0) ∙ same in
      let old : is_recent window t a ≡ false = rw passes at parts.0 in
      past_it a.moment y.moment t (1000 * window) both.1 old

-- what stood there stands there, or is past its window
still_noted : (y : Noted) (window t : ℕ) (ids : List AcceptedId) → has_note y ids ≡ true → (has_note y (filter (is_recent window t) ids) ≡ true) ⊎ (y.moment + 1000 * window ≤ t)
still_noted y window t [] has = absurd cc
still_noted y window t (a ∷ ids) has = at (is_recent window t a) (either (is_note y a) (has_note y ids) has) refl (λ later. still_noted y window t ids later) where
  at : (b : Bool) → (is_note y a ≡ true) ⊎ (has_note y ids ≡ true) → is_recent window t a ≡ b → (has_note y ids ≡ true → (has_note y (filter (is_recent window t) ids) ≡ true) ⊎ (y.moment + 1000 * window ≤ t))
      → (has_note y (filter (is_recent window t) (a ∷ ids)) ≡ true) ⊎ (y.moment + 1000 * window ≤ t)
  at true (inl here) is ih = inl (rw is (rw here refl))
  at true (inr later) is ih = on (ih later) where
    on : (has_note y (filter (is_recent window t) ids) ≡ true) ⊎ (y.moment + 1000 * window ≤ t) → (has_note y (filter (is_recent window t) (a ∷ ids)) ≡ true) ⊎ (y.moment + 1000 * window ≤ t)
    on (inl there) = inl (rw is (or_right (is_note y a) (has_note y (filter (is_recent window t) ids)) there))
    on (inr past) = inr past
  at false (inl here) is ih = inr (past_it a.moment y.moment t (1000 * window) (two (bytes_eq a.id y.id) (a.moment == y.moment) here).1 is)
  at false (inr later) is ih = on (ih later) where
    on : (has_note y (filter (is_recent window t) ids) ≡ true) ⊎ (y.moment + 1000 * window ≤ t) → (has_note y (filter (is_recent window t) (a ∷ ids)) ≡ true) ⊎ (y.moment + 1000 * window ≤ t)
    on (inl there) = inl (rw is there)
    on (inr past) = inr past

-- ---- an id once noted is still there, or past its window

abbrev SafeUnder : ℕ → Noted → List AcceptedId → Option ℕ → Type 0
SafeUnder t y ids None = Unit {0}
SafeUnder t y ids (Some window) = (has_note y ids ≡ true) ⊎ (y.moment + 1000 * window ≤ t)

abbrev SafeIn : ℕ → Noted → Option Entity → Type 0
SafeIn t y None = Unit {0}
SafeIn t y (Some e) = SafeUnder t y e.ids e.about.description.window

pub record IsSafe (t : ℕ) (s : Space) (y : Noted) : Type 0 where
  pub given : y.entity ≤ s.last_entity
  pub safe : SafeIn t y (entity_of y.entity s)

abbrev AreSafe : ℕ → Space → List Noted → Type 0
AreSafe t s ys = Each (IsSafe t s) ys

-- one entity changed: nothing that was noted is lost
safe_on : (t n : ℕ) (y : Noted) (g : Entity → Entity) (es : List Entity) → ((e : Entity) → (g e).about.number ≡ e.about.number) → ((e : Entity) → SafeIn t y (Some e) → SafeIn t y (Some (g e)))
    → SafeIn t y (find (is_entity y.entity) es) → SafeIn t y (find (is_entity y.entity) (changed (is_entity n) (λ d. g d ∷ []) es))
safe_on t n y g es numbers keeps h = subst (SafeIn t y) (sym (found_on y.entity n g es numbers)) (at (y.entity == n) (find (is_entity y.entity) es) h) where
  at : (b : Bool) (o : Option Entity) → SafeIn t y o → SafeIn t y (put_in b g o)
  at b None h = tt
  at true (Some e) h = keeps e h
  at false (Some e) h = h

part_safe : (t : ℕ) (y : Noted) (p : Part) (leaf : Leaf) (e : Entity) → SafeIn t y (Some e) → SafeIn t y (Some (with_leaf p leaf e))
part_safe t y Main leaf e h = h
part_safe t y Dead leaf e h = h
part_safe t y Transfer leaf e h = h

noted_safe : (t : ℕ) (y : Noted) (id : List ℕ) (e : Entity) → SafeIn t y (Some e) → SafeIn t y (Some (record e { ids = noted e.about.description.window id t e.ids }))
noted_safe t y id e h = at e.about.description.window h where
  placed : (window : ℕ) → (has_note y (filter (is_recent window t) e.ids) ≡ true) ⊎ (y.moment + 1000 * window ≤ t) → (has_note y (with_sorted (is_earlier t id) (record { moment = t; id = id }) (filter (is_recent window t) e.ids)) ≡ true) ⊎ (y.moment + 1000 * window ≤ t)
  placed window (inl there) = inl (any_placed (is_note y) (is_earlier t id) (record { moment = t; id = id }) (filter (is_recent window t) e.ids) there)
  placed window (inr past) = inr past

  on : (window : ℕ) (b : Bool) → (has_note y e.ids ≡ true) ⊎ (y.moment + 1000 * window ≤ t)
      → (has_note y (if b then e.ids else with_sorted (is_earlier t id) (record { moment = t; id = id }) (filter (is_recent window t) e.ids)) ≡ true) ⊎ (y.moment + 1000 * window ≤ t)
  on window b (inr past) = inr past
  on window true (inl there) = inl there
  on window false (inl there) = placed window (still_noted y window t e.ids there)

  at : (o : Option ℕ) → SafeUnder t y e.ids o → SafeUnder t y (noted o id t e.ids) o
  at None h = tt
  at (Some window) h = on window (is_known window id t e.ids) h

later_moment : (low t : ℕ) (y : Noted) (o : Option Entity) → low ≤ t → SafeIn low y o → SafeIn t y o
later_moment low t y None le h = tt
later_moment low t y (Some e) le h = at e.about.description.window h where
  at : (o : Option ℕ) → SafeUnder low y e.ids o → SafeUnder t y e.ids o
  at None h = tt
  at (Some window) (inl there) = inl there
  at (Some window) (inr past) = inr (omega (arith, past, le))

made_safe : (t last : ℕ) (y : Noted) (new : Entity) (es : List Entity) → y.entity ≤ last → new.about.number ≡ last + 1 → SafeIn t y (find (is_entity y.entity) es) → SafeIn t y (find (is_entity y.entity) (es ++ new ∷ []))
made_safe t last y new es le is h = at (find (is_entity y.entity) es) refl h where
  off : (a m : ℕ) → m ≤ last → a ≡ last + 1 → (a == m) ≡ false
  off a m le same = grind (arith, nat_tests)

  at : (o : Option Entity) → find (is_entity y.entity) es ≡ o → SafeIn t y o → SafeIn t y (find (is_entity y.entity) (es ++ new ∷ []))
  at (Some e) found h = subst (SafeIn t y) (sym (found_first (is_entity y.entity) e es (new ∷ []) found)) h
  at None absent h =
      let still : find (is_entity y.entity) (es ++ new ∷ []) ≡ None = found_append (is_entity y.entity) es (new ∷ []) absent ∙ rw (off new.about.number y.entity le is) refl in
      subst (SafeIn t y) (sym still) tt

removed_safe : (t n : ℕ) (y : Noted) (es : List Entity) → SafeIn t y (find (is_entity y.entity) es) → SafeIn t y (find (is_entity y.entity) (filter (λ e. not (is_entity n e)) es))
removed_safe t n y es h = at (y.entity == n) refl where
  at : (b : Bool) → (y.entity == n) ≡ b → SafeIn t y (find (is_entity y.entity) (filter (λ e. not (is_entity n e)) es))
  at true is = subst (SafeIn t y) (sym (subst (λ (m : ℕ). find (is_entity m) (filter (λ e. not (is_entity n e)) es) ≡ None) (sym (is_equal y.entity n is)) (none_left n es))) tt
  at false is = subst (SafeIn t y) (sym (other_stays y.entity n es is)) h

keeps_safe : (t : ℕ) (c : Change) (s : Space) (y : Noted) → IsSafe t s y → IsSafe t (after t c s) y
keeps_safe t (InLeaf key c) s y h = record {
  given = h.given;
  safe = safe_on t key.entity y (λ e. with_leaf key.part (leaf_after (s.last_lock + 1) t c (leaf_of key.part e)) e) s.entities (λ e. ap (λ (about : Listed). about.number) (about_with_leaf key.part (leaf_after (s.last_lock + 1) t c (leaf_of key.part e)) e))
      (λ e so. part_safe t y key.part (leaf_after (s.last_lock + 1) t c (leaf_of key.part e)) e so) h.safe;
}
keeps_safe t (Notes n id) s y h = record { given = h.given; safe = safe_on t n y (λ e. record e { ids = noted e.about.description.window id t e.ids }) s.entities (λ e. refl) (noted_safe t y id) h.safe }
keeps_safe t (Makes kind path description rs) s y h = record { given = omega (arith, h.given); safe = made_safe t s.last_entity y (new_entity (record { number = s.last_entity + 1; kind = kind; path = path; description = description; rules = rs })) s.entities h.given refl h.safe }
keeps_safe t (Removes n) s y h = record { given = h.given; safe = removed_safe t n y s.entities h.safe }
keeps_safe t (AddsRule n rule) s y h = record { given = h.given; safe = safe_on t n y (with_rules (rule_added rule)) s.entities (λ e. refl) (λ e so. so) h.safe }
keeps_safe t (DropsRule n name) s y h = record { given = h.given; safe = safe_on t n y (with_rules (rule_dropped name)) s.entities (λ e. refl) (λ e so. so) h.safe }
keeps_safe t (Begins n deadline) s y h = record { given = h.given; safe = h.safe }
keeps_safe t (Queues n deadline operation) s y h = record { given = h.given; safe = h.safe }
keeps_safe t (Drops n) s y h = record { given = h.given; safe = h.safe }

-- ---- the fact of a namespace, of the ids that were kept at the start and of those noted so far

pub record IsApart (kept : List Noted) (t : ℕ) (s : Space) (acc : List Noted) : Type 0 where
  pub ordered : IsOrdered s
  pub safe : AreSafe t s (kept ++ acc)
  pub apart : Apart kept acc

apart_more : (past xs : List Noted) (x : Noted) → Apart past xs → IsClear x (past ++ xs) → Apart past (xs ++ x ∷ [])
apart_more past [] x h clear = (subst (IsClear x) (append-nil past) clear, tt)
apart_more past (y ∷ xs) x h clear = (h.0, apart_more (past ++ y ∷ []) xs x h.1 (subst (IsClear x) (sym (append_assoc past (y ∷ []) xs)) clear))

module _ (kept : List Noted) (t : ℕ) (s : Space) (acc : List Noted) (h : IsApart kept t s acc) where
  safe_later : (c : Change) → AreSafe t (after t c s) (kept ++ acc)
  safe_later c = each_implied (IsSafe t s) (IsSafe t (after t c s)) (λ y so. keeps_safe t c s y so) (kept ++ acc) h.safe

  nothing_more : (c : Change) → notes_in t c s ≡ [] → IsApart kept t (after t c s) (acc ++ notes_in t c s)
  nothing_more c none =
      let same : acc ++ notes_in t c s ≡ acc = ap (λ (l : List Noted). acc ++ l) none ∙ append-nil acc in
      subst (λ (l : List Noted). IsApart kept t (after t c s) l) (sym same) (record { ordered = stays_ordered t c s h.ordered; safe = safe_later c; apart = h.apart })

  module _ (n window : ℕ) (id : List ℕ) (e : Entity) (found : entity_of n s ≡ Some e) (under : e.about.description.window ≡ Some window) (none : is_known window id t e.ids ≡ false) where
    abbrev new_note : Noted
    new_note = record { entity = e.about.number; id = id; moment = t; window = window }

    itself : entity_of e.about.number s ≡ Some e
    itself = subst (λ (k : ℕ). entity_of k s ≡ Some e) (sym (is_equal e.about.number n (found_passes (is_entity n) e s.entities found))) found

    -- what was noted before is clear of an id that isn't known
    clear_of : (y : Noted) → IsSafe t s y → is_same_id new_note y ≡ true → y.moment + 1000 * window ≤ t
    clear_of y safe_y same =
        let both = two (y.entity == e.about.number) (bytes_eq y.id id) same in
        let there : entity_of y.entity s ≡ Some e = subst (λ (k : ℕ). entity_of k s ≡ Some e) (sym (is_equal y.entity e.about.number both.0)) itself in
        let safe_there : SafeUnder t y e.ids e.about.description.window = subst (SafeIn t y) there safe_y.safe in
        at (subst (SafeUnder t y e.ids) under safe_there) both.1
      where
        at : SafeUnder t y e.ids (Some window) → bytes_eq y.id id ≡ true → y.moment + 1000 * window ≤ t
        at (inl there) same = old_enough y window t id e.ids there none same
        at (inr past) same = past

    new_safe : IsSafe t (after t (Notes n id) s) new_note
    new_safe = record { given = number_given e.about.number s e h.ordered itself; safe = subst (SafeIn t new_note) (sym there) under_it } where
      there : entity_of e.about.number (after t (Notes n id) s) ≡ Some (record e { ids = noted e.about.description.window id t e.ids })
      there = found_on e.about.number n (λ d. record d { ids = noted d.about.description.window id t d.ids }) s.entities (λ d. refl) ∙ ap (put_in (e.about.number == n) (λ d. record d { ids = noted d.about.description.window id t d.ids })) itself
          ∙ ap (λ (b : Bool). put_in b (λ d. record d { ids = noted d.about.description.window id t d.ids }) (Some e)) (found_passes (is_entity n) e s.entities found)

      has : has_note new_note (noted (Some window) id t e.ids) ≡ true
      has = subst (λ (b : Bool). has_note new_note (if b then e.ids else with_sorted (is_earlier t id) (record { moment = t; id = id }) (filter (is_recent window t) e.ids)) ≡ true) (sym none)
          (any_itself (is_note new_note) (is_earlier t id) (record { moment = t; id = id }) (filter (is_recent window t) e.ids) (rw (bytes_same id, numbers_equal t) refl))

      under_it : SafeIn t new_note (Some (record e { ids = noted e.about.description.window id t e.ids }))
      under_it = subst (λ (o : Option ℕ). SafeUnder t new_note (noted o id t e.ids) o) (sym under) (inl has)

    one_more : IsApart kept t (after t (Notes n id) s) (acc ++ record { entity = e.about.number; id = id; moment = t; window = window } ∷ [])
    one_more = record {
      ordered = stays_ordered t (Notes n id) s h.ordered;
      safe = subst (AreSafe t (after t (Notes n id) s)) (append_assoc kept acc (new_note ∷ [])) (each_append (IsSafe t (after t (Notes n id) s)) (kept ++ acc) (new_note ∷ []) (safe_later (Notes n id)) (new_safe, tt));
      apart = apart_more kept acc new_note h.apart (each_implied (IsSafe t s) (λ y. is_same_id new_note y ≡ true → y.moment + 1000 * window ≤ t) clear_of (kept ++ acc) h.safe);
    }

keeps_apart : (kept : List Noted) (t : ℕ) (c : Change) (s : Space) (acc : List Noted) → IsApart kept t s acc → IsApart kept t (after t c s) (acc ++ notes_in t c s)
keeps_apart kept t (InLeaf key c) s acc h = nothing_more kept t s acc h (InLeaf key c) refl
keeps_apart kept t (Makes kind path description rs) s acc h = nothing_more kept t s acc h (Makes kind path description rs) refl
keeps_apart kept t (Removes n) s acc h = nothing_more kept t s acc h (Removes n) refl
keeps_apart kept t (AddsRule n rule) s acc h = nothing_more kept t s acc h (AddsRule n rule) refl
keeps_apart kept t (DropsRule n name) s acc h = nothing_more kept t s acc h (DropsRule n name) refl
keeps_apart kept t (Begins n deadline) s acc h = nothing_more kept t s acc h (Begins n deadline) refl
keeps_apart kept t (Queues n deadline operation) s acc h = nothing_more kept t s acc h (Queues n deadline operation) refl
keeps_apart kept t (Drops n) s acc h = nothing_more kept t s acc h (Drops n) refl
keeps_apart kept t (Notes n id) s acc h = at (entity_of n s) refl where
  at : (o : Option Entity) → entity_of n s ≡ o → IsApart kept t (after t (Notes n id) s) (acc ++ notes_in t (Notes n id) s)
  at None is = nothing_more kept t s acc h (Notes n id) (rw (is, notes_in) refl)
  at (Some e) is = on e.about.description.window refl where
    on : (w : Option ℕ) → e.about.description.window ≡ w → IsApart kept t (after t (Notes n id) s) (acc ++ notes_in t (Notes n id) s)
    on None under = nothing_more kept t s acc h (Notes n id) (rw (is, notes_in) (rw (under, noted_on) refl))
    on (Some window) under = by (is_known window id t e.ids) refl where
      by : (b : Bool) → is_known window id t e.ids ≡ b → IsApart kept t (after t (Notes n id) s) (acc ++ notes_in t (Notes n id) s)
      by true again = nothing_more kept t s acc h (Notes n id) (rw (is, notes_in) (rw (under, noted_on) (rw again refl)))
      by false new =
          let single : notes_in t (Notes n id) s ≡ record { entity = e.about.number; id = id; moment = t; window = window } ∷ [] = rw (is, notes_in) (rw (under, noted_on) (rw new refl)) in
          subst (λ (l : List Noted). IsApart kept t (after t (Notes n id) s) (acc ++ l)) (sym single) (one_more kept t s acc h n window id e is under new)

apart_later : (kept : List Noted) (low t : ℕ) (s : Space) (acc : List Noted) → low ≤ t → IsApart kept low s acc → IsApart kept t s acc
apart_later kept low t s acc le h = record { ordered = h.ordered; safe = each_implied (IsSafe low s) (IsSafe t s) (λ y so. record { given = so.given; safe = later_moment low t y (entity_of y.entity s) le so.safe }) (kept ++ acc) h.safe; apart = h.apart }

-- ---- at the start all kept ids stand where they are kept

pub each_itself : (above last : ℕ) (es : List Entity) → AreRising entity_number above last es → Each (λ e. find (is_entity e.about.number) es ≡ Some e) es
each_itself above last [] h = tt
each_itself above last (x ∷ xs) h = (
  rw (numbers_equal x.about.number) refl,
  each_implied (λ y. (find (is_entity y.about.number) xs ≡ Some y) × ((x.about.number < y.about.number) × (y.about.number ≤ last))) (λ y. find (is_entity y.about.number) (x ∷ xs) ≡ Some y)
      (λ y both. rw (other_number x.about.number y.about.number both.1.0) both.0) xs
      (each_both (λ y. find (is_entity y.about.number) xs ≡ Some y) (λ y. (x.about.number < y.about.number) × (y.about.number ≤ last)) xs (each_itself x.about.number last xs h.1) (rising_above entity_number x.about.number last xs h.1)),
)

kept_safe : (now : ℕ) (s : Space) → IsOrdered s → AreSafe now s (kept_ids s)
kept_safe now s o = each_flat (λ e. entity_of e.about.number s ≡ Some e) (IsSafe now s) (λ e. map (kept_as_noted e) e.ids) s.entities of_entity (each_itself 0 s.last_entity s.entities o.entities) where
  of_entity : (e : Entity) → entity_of e.about.number s ≡ Some e → Each (IsSafe now s) (map (kept_as_noted e) e.ids)
  of_entity e there = each_mapped (IsSafe now s) (kept_as_noted e) e.ids
      (each_implied (λ a. list_any (is_note (kept_as_noted e a)) e.ids ≡ true) (λ a. IsSafe now s (kept_as_noted e a))
      (λ a has. record { given = number_given e.about.number s e o there; safe = subst (SafeIn now (kept_as_noted e a)) (sym there) (under a e.about.description.window has) })
      e.ids (each_any (λ a b. is_note (kept_as_noted e a) b) (λ a. rw (bytes_same a.id, numbers_equal a.moment) refl) e.ids)) where
        under : (a : AcceptedId) (w : Option ℕ) → has_note (kept_as_noted e a) e.ids ≡ true → SafeUnder now (kept_as_noted e a) e.ids w
        under a None has = tt
        under a (Some window) has = inl has

pub once_ids : (s : State) (h : List Entry) → IsConsistent s → IsLegal s h → Apart (kept_ids s.space) (noted_ids (fresh_log s) h)
once_ids s h consistent legal =
    let kept = kept_ids s.space in
    let o = ordered s.space (consistent_is_sweepable s consistent) in
    let start : IsApart kept s.now s.space [] = record { ordered = o; safe = subst (AreSafe s.now s.space) (sym (append-nil kept)) (kept_safe s.now s.space o); apart = tt } in
    (kept_in_time notes_in (IsApart kept) (apart_later kept) (keeps_apart kept) h (fresh_log s) [] legal start).apart
