-- The ids that a send to an entity notes: those of the messages that get a number.
use Rattle.std.proofs.Common.{Bool, List, None, Option, Some, [], ap, false, map, nat_lt, refl, sym, true, ℕ, ◌+◌, ◌++◌, ◌==◌, ◌∙◌, ◌∷◌, ◌≡◌}
use Rattle.std.proofs.lemmas.List.{append-nil}
use Rattle.std.specs.List.{flat_map}
use Rattle.std.specs.Prelude.{if◌then◌else◌}
use Rattle.sb_laws.proofs.Along.{along_append}
use Rattle.sb_laws.proofs.Entities.{about_with_leaf}
use Rattle.sb_laws.proofs.FoundOn.{found_on, put_in}
use Rattle.sb_laws.specs.Accepted.{accepted_of, id_in, notes_of}
use Rattle.sb_machine.specs.Changes.{after, after_all, along, is_known, noted}
use Rattle.sb_machine.specs.Delivery.{delivered, visit_change, visit_key}
use Rattle.sb_machine.specs.Each.{Each}
use Rattle.sb_machine.specs.Ends.{Noted, noted_on, notes_in}
use Rattle.sb_machine.specs.Leaves.{leaf_after, seq_or}
use Rattle.sb_machine.specs.Messages.{text_of}
use Rattle.sb_machine.specs.Namespace.{entity_of, key_of, last_at, leaf_of, listed, with_leaf}
use Rattle.sb_machine.specs.Sending.{coming, entering, is_repeat, knows, noting, receipts, send_changes, unscheduled, waiting}
use Rattle.sb_machine.specs.Visits.{Visit, visits}
use Rattle.sb_machine.specs.declared.call.Part.TheVariants.{Main}
use Rattle.sb_machine.specs.declared.change.Change.{Change}
use Rattle.sb_machine.specs.declared.change.Change.TheVariants.{Begins, Drops, InLeaf, Notes, Queues}
use Rattle.sb_machine.specs.declared.reply.Receipt.TheVariants.{Duplicate, Number}
use Rattle.sb_machine.specs.declared.state.Entity.{Entity}
use Rattle.sb_machine.specs.declared.state.Listed.{Listed}
use Rattle.sb_machine.specs.declared.state.Space.{Space}
use Rattle.sb_model.specs.declared.message.Message.{Message}
use Rattle.sb_model.specs.declared.message.SystemName.TheVariants.{MessageId}

-- ---- changes in a part note nothing

abbrev pub IsInPart : Change → Type 0
IsInPart (InLeaf key c) = Unit {0}
IsInPart _ = ⊥

pub nothing_noted : (t : ℕ) (cs : List Change) (s : Space) → Each IsInPart cs → along notes_in t cs s ≡ []
nothing_noted t [] s h = refl
nothing_noted t (InLeaf key c ∷ cs) s h = nothing_noted t cs (after t (InLeaf key c) s) h.1
nothing_noted t (c ∷ cs) s h = absurd h.0

pub visits_in_parts : (seq : Option ℕ) (vs : List Visit) → Each IsInPart (map (visit_change seq) vs)
visits_in_parts seq [] = tt
visits_in_parts seq (v ∷ vs) = (tt, visits_in_parts seq vs)

pub delivered_in_parts : (seq : Option ℕ) (vs : List Visit) (s : Space) → Each IsInPart (delivered seq vs s)
delivered_in_parts seq [] s = tt
delivered_in_parts seq (v ∷ vs) s = (tt, visits_in_parts (Some (seq_or seq (last_at (visit_key v) s + 1))) vs)

coming_in_parts : (t : ℕ) (e : Entity) (m : Message) (s : Space) → Each IsInPart (coming t e m s)
coming_in_parts t e m s = at m.schedule where
  enters : Each IsInPart (entering e m s)
  enters = delivered_in_parts None (visits (listed s) 0 e.about (unscheduled m)) s

  at : (o : Option ℕ) → Each IsInPart (elim o [ Some at ↦ (if nat_lt t at then waiting e m at else entering e m s) | None ↦ entering e m s ])
  at None = enters
  at (Some moment) = go (nat_lt t moment) where
    go : (b : Bool) → Each IsInPart (if b then waiting e m moment else entering e m s)
    go true = (tt, tt)
    go false = enters

-- ---- an entity stays what it is while sends and settlements act

pub record StandsAs (about : Listed) (s : Space) : Type 0 where
  pub now : Entity
  pub there : entity_of about.number s ≡ Some now
  pub same : now.about ≡ about

-- a change that leaves what is listed of entities
abbrev pub IsOfSend : Change → Type 0
IsOfSend (InLeaf key c) = Unit {0}
IsOfSend (Notes n id) = Unit {0}
IsOfSend (Begins n deadline) = Unit {0}
IsOfSend (Queues n deadline operation) = Unit {0}
IsOfSend (Drops n) = Unit {0}
IsOfSend _ = ⊥

module _ (about : Listed) where
  put_so : (b : Bool) (g : Entity → Entity) (e : Entity) → ((d : Entity) → (g d).about ≡ d.about) → (o : Option Entity) → o ≡ put_in b g (Some e) → (now : Entity) × ((o ≡ Some now) × (now.about ≡ e.about))
  put_so true g e keeps o is = (g e, (is, keeps e))
  put_so false g e keeps o is = (e, (is, refl))

  stands_on : (t n : ℕ) (c : Change) (g : Entity → Entity) (s : Space) → ((d : Entity) → (g d).about ≡ d.about) → entity_of about.number (after t c s) ≡ put_in (about.number == n) g (entity_of about.number s) → StandsAs about s → StandsAs about (after t c s)
  stands_on t n c g s keeps is h =
      let so = put_so (about.number == n) g h.now keeps (entity_of about.number (after t c s)) (is ∙ ap (put_in (about.number == n) g) h.there) in
      record { now = so.0; there = so.1.0; same = so.1.1 ∙ h.same }

  stands_after : (t : ℕ) (c : Change) (s : Space) → IsOfSend c → StandsAs about s → StandsAs about (after t c s)
  stands_after t (InLeaf key c) s of h =
      let g : Entity → Entity = λ e. with_leaf key.part (leaf_after (s.last_lock + 1) t c (leaf_of key.part e)) e in
      let keeps : (d : Entity) → (g d).about ≡ d.about = λ d. about_with_leaf key.part (leaf_after (s.last_lock + 1) t c (leaf_of key.part d)) d in
      stands_on t key.entity (InLeaf key c) g s keeps (found_on about.number key.entity g s.entities (λ d. ap (λ (a : Listed). a.number) (keeps d))) h
  stands_after t (Notes n id) s of h =
      let g : Entity → Entity = λ e. record e { ids = noted e.about.description.window id t e.ids } in
      stands_on t n (Notes n id) g s (λ d. refl) (found_on about.number n g s.entities (λ d. refl)) h
  stands_after t (Begins n deadline) s of h = record { now = h.now; there = h.there; same = h.same }
  stands_after t (Queues n deadline operation) s of h = record { now = h.now; there = h.there; same = h.same }
  stands_after t (Drops n) s of h = record { now = h.now; there = h.there; same = h.same }
  stands_after t c s of h = absurd of

  pub stands_all : (t : ℕ) (cs : List Change) (s : Space) → Each IsOfSend cs → StandsAs about s → StandsAs about (after_all t cs s)
  stands_all t [] s of h = h
  stands_all t (c ∷ cs) s of h = stands_all t cs (after t c s) of.1 (stands_after t c s of.0 h)

of_parts : (cs : List Change) → Each IsInPart cs → Each IsOfSend cs
of_parts [] h = tt
of_parts (InLeaf key c ∷ cs) h = (tt, of_parts cs h.1)
of_parts (c ∷ cs) h = absurd h.0

of_noting : (e : Entity) (m : Message) → Each IsOfSend (noting e m)
of_noting e m = at e.about.description.window (text_of MessageId m) where
  at : (w : Option ℕ) (i : Option (List ℕ)) → Each IsOfSend (elim w [ Some window ↦ elim i [ Some id ↦ Notes e.about.number id ∷ [] | None ↦ [] ] | None ↦ [] ])
  at None i = tt
  at (Some window) None = tt
  at (Some window) (Some id) = (tt, tt)

of_both : (cs ds : List Change) → Each IsOfSend cs → Each IsOfSend ds → Each IsOfSend (cs ++ ds)
of_both [] ds p q = q
of_both (c ∷ cs) ds p q = (p.0, of_both cs ds p.1 q)

-- ---- one message that gets a number

module _ (t : ℕ) (e : Entity) where
  -- an id that isn't known is noted
  id_noted : (id : List ℕ) (window : ℕ) (now : Entity) (s : Space) → entity_of e.about.number s ≡ Some now → now.about ≡ e.about → e.about.description.window ≡ Some window → knows id t now ≡ false
      → notes_in t (Notes e.about.number id) s ≡ record { entity = e.about.number; id = id; moment = t; window = window } ∷ []
  id_noted id window now s there same under none =
      let mine : now.about.description.window ≡ Some window = ap (λ (a : Listed). a.description.window) same ∙ under in
      let known : is_known window id t now.ids ≡ false = ap (λ (w : Option ℕ). elim w [ Some window ↦ is_known window id t now.ids | None ↦ false ]) (sym mine) ∙ none in
      ap (λ (o : Option Entity). elim o [ Some x ↦ noted_on id t x | None ↦ [] ]) there
      ∙ ap (λ (w : Option ℕ). elim w [ Some window ↦ (if is_known window id t now.ids then [] else record { entity = now.about.number; id = id; moment = t; window = window } ∷ []) | None ↦ [] ]) mine
      ∙ ap (λ (b : Bool). if b then [] else record { entity = now.about.number; id = id; moment = t; window = window } ∷ []) known
      ∙ ap (λ (a : Listed). record { entity = a.number; id = id; moment = t; window = window } ∷ []) same

  one_noted : (m : Message) (s : Space) → StandsAs e.about s → is_repeat t e m s ≡ false → along notes_in t (noting e m) s ≡ notes_of e t (m ∷ [])
  one_noted m s h fresh = at e.about.description.window refl (text_of MessageId m) refl where
    at : (w : Option ℕ) → e.about.description.window ≡ w → (i : Option (List ℕ)) → text_of MessageId m ≡ i
        → along notes_in t (elim w [ Some window ↦ elim i [ Some id ↦ Notes e.about.number id ∷ [] | None ↦ [] ] | None ↦ [] ]) s
        ≡ elim w [ Some window ↦ map (λ id. record { entity = e.about.number; id = id; moment = t; window = window }) (elim i [ Some id ↦ id ∷ [] | None ↦ [] ] ++ []) | None ↦ [] ]
    at None under i text = refl
    at (Some window) under None text = refl
    at (Some window) under (Some id) text =
        let unknown : knows id t h.now ≡ false = ap (λ (o : Option Entity). elim o [ Some now ↦ knows id t now | None ↦ false ]) (sym h.there) ∙ ap (λ (i : Option (List ℕ)). elim i [ Some id ↦ elim (entity_of e.about.number s) [ Some now ↦ knows id t now | None ↦ false ] | None ↦ false ]) (sym text) ∙ fresh in
        ap (λ (l : List Noted). l ++ []) (id_noted id window h.now s h.there h.same under unknown)

  -- ---- all messages of a send

  more_noted : (m : Message) (ms : List Message) → notes_of e t (m ∷ []) ++ notes_of e t ms ≡ notes_of e t (m ∷ ms)
  more_noted m ms = at e.about.description.window (text_of MessageId m) where
    at : (w : Option ℕ) (i : Option (List ℕ))
        → ◌≡◌ {A = List Noted} (◌++◌ {A = Noted} (elim w [ Some window ↦ map (λ id. record { entity = e.about.number; id = id; moment = t; window = window }) (elim i [ Some id ↦ id ∷ [] | None ↦ [] ] ++ []) | None ↦ [] ])
        (elim w [ Some window ↦ map (λ id. record { entity = e.about.number; id = id; moment = t; window = window }) (flat_map id_in ms) | None ↦ [] ]))
        (elim w [ Some window ↦ map (λ id. record { entity = e.about.number; id = id; moment = t; window = window }) (elim i [ Some id ↦ id ∷ [] | None ↦ [] ] ++ flat_map id_in ms) | None ↦ [] ])
    at None i = refl
    at (Some window) None = refl
    at (Some window) (Some id) = refl

  pub none_noted : notes_of e t [] ≡ []
  none_noted = at e.about.description.window where
    at : (w : Option ℕ) → ◌≡◌ {A = List Noted} (elim w [ Some window ↦ [] | None ↦ [] ]) []
    at None = refl
    at (Some window) = refl

  pub sends_note : (ms : List Message) (s : Space) → StandsAs e.about s → along notes_in t (send_changes t e ms s) s ≡ notes_of e t (accepted_of (receipts t e ms s) ms)
  sends_note [] s h = sym none_noted
  sends_note (m ∷ ms) s h = at (is_repeat t e m s) refl (λ next stands. sends_note ms next stands) where
    at : (b : Bool) → is_repeat t e m s ≡ b → ((next : Space) → StandsAs e.about next → along notes_in t (send_changes t e ms next) next ≡ notes_of e t (accepted_of (receipts t e ms next) ms))
        → along notes_in t ((if b then [] else noting e m ++ coming t e m s) ++ send_changes t e ms (after_all t (if b then [] else noting e m ++ coming t e m s) s)) s
        ≡ notes_of e t (accepted_of ((if b then Duplicate else Number (last_at (key_of Main e) s + 1)) ∷ receipts t e ms (after_all t (if b then [] else noting e m ++ coming t e m s) s)) (m ∷ ms))
    at true is ih = ih s h
    at false is ih =
        let front = noting e m in
        let came = coming t e m s in
        let next = after_all t (front ++ came) s in
        let stands : StandsAs e.about next = stands_all e.about t (front ++ came) s (of_both front came (of_noting e m) (of_parts came (coming_in_parts t e m s))) h in
        let here : along notes_in t (front ++ came) s ≡ notes_of e t (m ∷ []) = along_append notes_in t front came s ∙ ap (λ (l : List Noted). along notes_in t front s ++ l) (nothing_noted t came (after_all t front s) (coming_in_parts t e m s)) ∙ append-nil (along notes_in t front s) ∙ one_noted m s h is in
        along_append notes_in t (front ++ came) (send_changes t e ms next) s
        ∙ ap (λ (l : List Noted). l ++ along notes_in t (send_changes t e ms next) next) here
        ∙ ap (λ (l : List Noted). notes_of e t (m ∷ []) ++ l) (ih next stands)
        ∙ more_noted m (accepted_of (receipts t e ms next) ms)
