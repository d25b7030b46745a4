-- Behind a tick, and behind the close of a session, each copy under a session's lock names its holder again.
use Rattle.std.proofs.Common.{Bool, List, None, Option, Some, [], ap, false, filter, inl, inr, nat_le, not, refl, subst, sym, true, ℕ, ◌&&◌, ◌++◌, ◌==◌, ◌||◌, ◌∙◌, ◌∷◌, ◌≡◌, ◌≤◌}
use Rattle.std.specs.List.{flat_map, list_any}
use Rattle.std.specs.Prelude.{find, if◌then◌else◌}
use Rattle.sb_laws.proofs.AfterTick.{swapped}
use Rattle.sb_laws.proofs.Anyone.{each_any}
use Rattle.sb_laws.proofs.Calm.{IsCalm, calm_drops, calm_ends, calm_enters, calm_frees, calm_notes, calm_passes, flat_all, is_unheld, released_calm, tick_each}
use Rattle.sb_laws.proofs.Carrying.{each_flat, each_mapped, item, kept_by_all, listed_carried}
use Rattle.sb_laws.proofs.Deeds.{free_unheld}
use Rattle.sb_laws.proofs.Eachs.{each_append, each_both, each_by_key, each_filter, each_found, each_implied, each_of_all}
use Rattle.sb_laws.proofs.EndCounts.{itself}
use Rattle.sb_laws.proofs.Ending.{one_key}
use Rattle.sb_laws.proofs.Entities.{EachLeaf, copy_number, entity_number, leaf_each}
use Rattle.sb_laws.proofs.Loose.{Exempt, HoldsFit, IsHeldOr, Loose, LooseIn, loose_change, loose_later, under_exempt}
use Rattle.sb_laws.proofs.Mild.{IsCarried, raised_most, released_mild, released_settles}
use Rattle.sb_laws.proofs.NothingDue.{IsOther, Lasts, LastsIn, carries, clash, here_fine, lasts_travels, locks_settled, not_at, ordered, others_in, safe_of}
use Rattle.sb_laws.proofs.OnceIds.{each_itself}
use Rattle.sb_laws.proofs.Sameness.{numbers_equal}
use Rattle.sb_laws.proofs.Sweeps.{fine_tick}
use Rattle.sb_laws.proofs.Swept.{AreFine, IsSafe, Test, fine_behind, settles_copy}
use Rattle.sb_laws.proofs.Tick.{IsOfTick, back_is_free, tick_closes, tick_frees, tick_mild}
use Rattle.sb_laws.specs.Ended.{is_leaf}
use Rattle.sb_laws.specs.Sweepable.{IsSweepable}
use Rattle.sb_machine.specs.Changes.{after_all}
use Rattle.sb_machine.specs.Delivery.{back_to, in_part, raised, released}
use Rattle.sb_machine.specs.Due.{closes_due, closes_in, due_sessions, items_in, tick_changes}
use Rattle.sb_machine.specs.Each.{Each}
use Rattle.sb_machine.specs.Leases.{has_ended, is_ended_holder, is_under_session}
use Rattle.sb_machine.specs.Namespace.{entity_of, key_of, leaf_of, listed}
use Rattle.sb_machine.specs.Sessions.{closed}
use Rattle.sb_machine.specs.declared.call.Part.{Part}
use Rattle.sb_machine.specs.declared.call.Part.TheVariants.{Dead, Main, Transfer}
use Rattle.sb_machine.specs.declared.change.Change.{Change}
use Rattle.sb_machine.specs.declared.change.LeafChange.TheVariants.{Closes}
use Rattle.sb_machine.specs.declared.change.LeafKey.{LeafKey}
use Rattle.sb_machine.specs.declared.state.Entity.{Entity}
use Rattle.sb_machine.specs.declared.state.Hold.TheVariants.{Until, Session as UnderSession}
use Rattle.sb_machine.specs.declared.state.Holder.{Holder}
use Rattle.sb_machine.specs.declared.state.Session.{Session}
use Rattle.sb_machine.specs.declared.state.Space.{Space}
use Rattle.sb_machine.specs.declared.state.Standing.{Standing}
use Rattle.sb_machine.specs.declared.state.Standing.TheVariants.{Deferred, Held, Ready, Scheduled}
use Rattle.sb_machine.specs.declared.state.StoredCopy.{StoredCopy}

abbrev pub none_exempt : Exempt
none_exempt key l = false

-- each copy under a session's lock names that session's holder, and no lock lives too long
abbrev pub AreNamed : ℕ → Space → Type 0
AreNamed now s = Loose none_exempt now s

-- ---- copies that are under no exempt lock

abbrev not_exempt : Exempt → LeafKey → Test
not_exempt X key part c = not (under_exempt X key c.standing)

unheld_exempt : (X : Exempt) (key : LeafKey) (standing : Standing) → is_unheld standing ≡ true → under_exempt X key standing ≡ false
unheld_exempt X key Ready free = refl
unheld_exempt X key Deferred free = refl
unheld_exempt X key (Held lock hold deferred) free = absurd cc
unheld_exempt X key (Scheduled moment) free = refl

exempt_safe : (X : Exempt) (key : LeafKey) (t : ℕ) (first_one : Bool) (c : Change) → IsOfTick Lasts first_one c → IsSafe (not_exempt X key) t c
exempt_safe X key t first_one c is = safe_of (not_exempt X key) t first_one c (λ own seq hops n m p. refl) (λ so part d count standing free. ap not (unheld_exempt X key standing (free_unheld standing free))) is

off : (b : Bool) → not b ≡ true → b ≡ false
off true e = absurd cc
off false e = refl

module _ (X : Exempt) (t : ℕ) (s : Space) where
  abbrev FineOf : Entity → Part → ℕ → ℕ → Type 0
  FineOf e part m n = e.about.number ≡ m → Each (λ c. c.number ≡ n → not_exempt X (record { entity = m; part = part }) part c ≡ true) (leaf_of part e).copies

  -- where no copy is under an exempt lock, none is exempt
  unexempt : Loose X t s → ((key : LeafKey) (n : ℕ) → AreFine (not_exempt X key) key n s) → AreNamed t s
  unexempt loose fine = each_implied (λ e. ((part : Part) → LooseIn X t (key_of part e) (leaf_of part e)) × ((part : Part) → Each (λ c. under_exempt X (key_of part e) c.standing ≡ false) (leaf_of part e).copies)) (λ e. (part : Part) → LooseIn none_exempt t (key_of part e) (leaf_of part e))
      (λ e h part. each_implied (λ c. IsHeldOr X t (key_of part e) (leaf_of part e).sessions c × (under_exempt X (key_of part e) c.standing ≡ false)) (IsHeldOr none_exempt t (key_of part e) (leaf_of part e).sessions) (one_named part e) (leaf_of part e).copies
      (each_both (IsHeldOr X t (key_of part e) (leaf_of part e).sessions) (λ c. under_exempt X (key_of part e) c.standing ≡ false) (leaf_of part e).copies (h.0 part) (h.1 part))) s.entities
      (each_both (λ e. (part : Part) → LooseIn X t (key_of part e) (leaf_of part e)) (λ e. (part : Part) → Each (λ c. under_exempt X (key_of part e) c.standing ≡ false) (leaf_of part e).copies) s.entities loose (each_by_key (λ e. (part : Part) → Each (λ c. under_exempt X (key_of part e) c.standing ≡ false) (leaf_of part e).copies) entity_number s.entities by)) where
        one_named : (part : Part) (e : Entity) (c : StoredCopy) → IsHeldOr X t (key_of part e) (leaf_of part e).sessions c × (under_exempt X (key_of part e) c.standing ≡ false) → IsHeldOr none_exempt t (key_of part e) (leaf_of part e).sessions c
        one_named part e c h = at h.0 where
          at : IsHeldOr X t (key_of part e) (leaf_of part e).sessions c → IsHeldOr none_exempt t (key_of part e) (leaf_of part e).sessions c
          at (inl so) = inl so
          at (inr out) = let bad : true ≡ false = sym out ∙ h.1 in absurd cc

        by : (m : ℕ) → Each (λ e. e.about.number ≡ m → (part : Part) → Each (λ c. under_exempt X (key_of part e) c.standing ≡ false) (leaf_of part e).copies) s.entities
        by m = each_implied (λ e. (part : Part) (n : ℕ) → FineOf e part m n) (λ e. e.about.number ≡ m → (part : Part) → Each (λ c. under_exempt X (key_of part e) c.standing ≡ false) (leaf_of part e).copies)
            (λ e h own part. each_by_key (λ c. under_exempt X (key_of part e) c.standing ≡ false) copy_number (leaf_of part e).copies
            (λ n. each_implied (λ c. c.number ≡ n → not_exempt X (record { entity = m; part = part }) part c ≡ true) (λ c. c.number ≡ n → under_exempt X (key_of part e) c.standing ≡ false)
            (λ c so same. subst (λ (k : ℕ). under_exempt X (record { entity = k; part = part }) c.standing ≡ false) (sym own) (off (under_exempt X (record { entity = m; part = part }) c.standing) (so same))) (leaf_of part e).copies (h part n own))) s.entities
            (swapped (λ part e. (n : ℕ) → FineOf e part m n) s.entities (λ part. swapped (λ n e. FineOf e part m n) s.entities (λ n. fine (record { entity = m; part = part }) n)))

  loosened : AreNamed t s → Loose X t s
  loosened h = each_implied (λ e. (part : Part) → LooseIn none_exempt t (key_of part e) (leaf_of part e)) (λ e. (part : Part) → LooseIn X t (key_of part e) (leaf_of part e))
      (λ e named part. each_implied (IsHeldOr none_exempt t (key_of part e) (leaf_of part e).sessions) (IsHeldOr X t (key_of part e) (leaf_of part e).sessions) (one_loose part e) (leaf_of part e).copies (named part)) s.entities h where
        never : (key : LeafKey) (standing : Standing) → under_exempt none_exempt key standing ≡ false
        never key Ready = refl
        never key Deferred = refl
        never key (Scheduled moment) = refl
        never key (Held lock (Until u) deferred) = refl
        never key (Held lock (UnderSession l) deferred) = refl

        one_loose : (part : Part) (e : Entity) (c : StoredCopy) → IsHeldOr none_exempt t (key_of part e) (leaf_of part e).sessions c → IsHeldOr X t (key_of part e) (leaf_of part e).sessions c
        one_loose part e c (inl so) = inl so
        one_loose part e c (inr out) = let bad : true ≡ false = sym out ∙ never (key_of part e) c.standing in absurd cc

-- ---- changes that fit

pub calm_fits : (X : Exempt) (t : ℕ) (b : Bool) (c : Change) → IsCalm b c → (s : Space) → HoldsFit X t c s
calm_fits X t b _ (calm_enters key fresh unheld) s = λ e there. unheld
calm_fits X t b _ (calm_passes key cause) s = λ e there. tt
calm_fits X t b _ (calm_ends key n cause) s = λ e there. tt
calm_fits X t b _ (calm_frees key n count standing free) s = λ e there. free_unheld standing free
calm_fits X t b _ (calm_notes n id) s = tt
calm_fits X t b _ (calm_drops n) s = tt

-- changes that fit wherever they are made
abbrev pub FitsAnywhere : Exempt → ℕ → Change → Type 0
FitsAnywhere X t c = (s : Space) → HoldsFit X t c s

pub loose_all : (X : Exempt) (t : ℕ) (cs : List Change) (s : Space) → Each (FitsAnywhere X t) cs → Loose X t s → Loose X t (after_all t cs s)
loose_all X t cs s fits h = kept_by_all (FitsAnywhere X t) (Loose X t) t (λ c now so loose. loose_change X t c now (so now) loose) cs s fits h

-- ---- a tick

-- the locks of sessions that end at a moment
abbrev ends_at : ℕ → Space → Exempt
ends_at t s key l = elim (entity_of key.entity s) [ Some e ↦ list_any (is_ended_holder t l) (leaf_of key.part e).sessions | None ↦ false ]

module _ (t : ℕ) (s : Space) (may : IsSweepable s) where
  there_each : Each (λ e. entity_of e.about.number s ≡ Some e) s.entities
  there_each = each_itself 0 s.last_entity s.entities (ordered s may).entities

  ends_is : (key : LeafKey) (l : ℕ) (e : Entity) → entity_of key.entity s ≡ Some e → ends_at t s key l ≡ list_any (is_ended_holder t l) (leaf_of key.part e).sessions
  ends_is key l e there = ap (λ (o : Option Entity). elim o as (λ _. Bool) [ Some d ↦ list_any (is_ended_holder t l) (leaf_of key.part d).sessions | None ↦ false ]) there

  abbrev ended_like : Option Holder → Session → Bool
  ended_like o y = elim o [ Some h ↦ not (nat_le h.until t) || is_ended_holder t h.lock y | None ↦ true ]

  like_itself : (x : Session) → ended_like x.holder x ≡ true
  like_itself x = at x.holder refl where
    either : (b c : Bool) → c ≡ true → (not b || (c && b)) ≡ true
    either true c is = rw is refl
    either false c is = refl

    at : (o : Option Holder) → x.holder ≡ o → ended_like o x ≡ true
    at None is = refl
    at (Some h) is = ap (λ (o : Option Holder). not (nat_le h.until t) || (elim o as (λ _. Bool) [ Some k ↦ (k.lock == h.lock) && nat_le k.until t | None ↦ false ])) is ∙ either (nat_le h.until t) (h.lock == h.lock) (numbers_equal h.lock)

  closes_fit : (e : Entity) (part : Part) → entity_of e.about.number s ≡ Some e → Each (FitsAnywhere (ends_at t s) t) (closes_in t e part)
  closes_fit e part there = each_flat (λ x. list_any (ended_like x.holder) (leaf_of part e).sessions ≡ true) (FitsAnywhere (ends_at t s) t) (λ x. closes_due t e part x.holder) (leaf_of part e).sessions (λ x any. at x.holder any) (each_any (λ x y. ended_like x.holder y) like_itself (leaf_of part e).sessions) where
    at : (o : Option Holder) → list_any (ended_like o) (leaf_of part e).sessions ≡ true → Each (FitsAnywhere (ends_at t s) t) (closes_due t e part o)
    at None any = tt
    at (Some h) any = go (nat_le h.until t) refl where
      go : (b : Bool) → nat_le h.until t ≡ b → Each (FitsAnywhere (ends_at t s) t) (if b then in_part part e (Closes h.lock) ∷ [] else [])
      go true is = ((λ now d found. ends_is (key_of part e) h.lock e there ∙ subst (λ (b : Bool). list_any (λ y. not b || is_ended_holder t h.lock y) (leaf_of part e).sessions ≡ true) is any), tt)
      go false is = tt

  sessions_fit : Each (FitsAnywhere (ends_at t s) t) (due_sessions t s)
  sessions_fit = each_flat (λ e. entity_of e.about.number s ≡ Some e) (FitsAnywhere (ends_at t s) t) (λ e. closes_in t e Main ++ closes_in t e Dead ++ closes_in t e Transfer) s.entities
      (λ e there. each_append (FitsAnywhere (ends_at t s) t) (closes_in t e Main ++ closes_in t e Dead) (closes_in t e Transfer) (each_append (FitsAnywhere (ends_at t s) t) (closes_in t e Main) (closes_in t e Dead) (closes_fit e Main there) (closes_fit e Dead there)) (closes_fit e Transfer there)) there_each

  freed : (key : LeafKey) (n : ℕ) → AreFine (not_exempt (ends_at t s) key) key n (after_all t (tick_changes t s) s)
  freed key n = fine_tick t s may (not_exempt (ends_at t s) key) (exempt_safe (ends_at t s) key t) key n (locks_settled key n (not_exempt (ends_at t s) key) t s
      (each_implied (λ e. entity_of e.about.number s ≡ Some e) (λ e. e.about.number ≡ key.entity → (c : StoredCopy) → has_ended t (leaf_of key.part e).sessions c.standing ≡ false → not_exempt (ends_at t s) key key.part c ≡ true)
      (λ e there own c none. by e (subst (λ (m : ℕ). entity_of m s ≡ Some e) own there) c.standing none) s.entities there_each)) where
        by : (e : Entity) → entity_of key.entity s ≡ Some e → (standing : Standing) → has_ended t (leaf_of key.part e).sessions standing ≡ false → not (under_exempt (ends_at t s) key standing) ≡ true
        by e there Ready none = refl
        by e there Deferred none = refl
        by e there (Scheduled moment) none = refl
        by e there (Held lock (Until u) deferred) none = refl
        by e there (Held lock (UnderSession l) deferred) none = ap not (ends_is key l e there ∙ none)

  pub tick_named : (now : ℕ) → now ≤ t → AreNamed now s → AreNamed t (after_all t (tick_changes t s) s)
  tick_named now le h = unexempt (ends_at t s) t (after_all t (tick_changes t s) s)
      (loose_all (ends_at t s) t (tick_changes t s) s (tick_each (FitsAnywhere (ends_at t s) t) t s (λ c is. calm_fits (ends_at t s) t false c is) sessions_fit) (loosened (ends_at t s) t s (loose_later none_exempt t now s le h))) freed

  -- ---- the close of a session

  module _ (p : Entity → Bool) (e : Entity) (part : Part) (lock : ℕ) (found : find p s.entities ≡ Some e) (there : entity_of e.about.number s ≡ Some e) where
    abbrev shut : Exempt
    shut key l = is_leaf key (key_of part e) && (l == lock)

    abbrev released_all : List Change
    released_all = flat_map (λ c. released (listed s) t e part c false false) (filter (λ c. is_under_session lock c.standing) (leaf_of part e).copies)

    shut_of_tick : Each (IsOfTick Lasts true) (closed s t e part lock)
    shut_of_tick = (
      tick_closes (key_of part e) lock,
      each_flat (IsCarried Lasts) (IsOfTick Lasts true) (λ c. released (listed s) t e part c false false) (filter (λ c. is_under_session lock c.standing) (leaf_of part e).copies)
          (λ c is. released_mild lasts_travels (IsOfTick Lasts true) (tick_mild Lasts true) (listed s) (listed_carried Lasts LastsIn s.entities (carries s may).abouts) e (each_found (λ d. LastsIn d.about) p e s.entities (carries s may).abouts found) t part c false false is
          (tick_frees (key_of part e) c.number false (raised false c.count) (back_to c.standing) (back_is_free c.standing) (raised_most false c.count is.count)))
          (each_filter (IsCarried Lasts) (λ c. is_under_session lock c.standing) (leaf_of part e).copies (leaf_each (λ part leaf. Each (IsCarried Lasts) leaf.copies) part e (each_found (EachLeaf (λ part leaf. Each (IsCarried Lasts) leaf.copies)) p e s.entities (carries s may).copies found))),
    )

    shut_fits : Each (FitsAnywhere shut t) (closed s t e part lock)
    shut_fits = (
      (λ now d there. rw (itself (key_of part e), numbers_equal lock) refl),
      each_implied (IsCalm false) (FitsAnywhere shut t) (λ c is. calm_fits shut t false c is) released_all
          (flat_all (IsCalm false) (λ c. released (listed s) t e part c false false) (λ c. released_calm false (listed s) t e part c false) (filter (λ c. is_under_session lock c.standing) (leaf_of part e).copies)),
    )

    -- copies of another part are under no lock that is closed here
    elsewhere : (key : LeafKey) → is_leaf key (key_of part e) ≡ false → (n : ℕ) → AreFine (not_exempt shut key) key n s
    elsewhere key apart n = each_of_all (λ d. d.about.number ≡ key.entity → Each (λ c. c.number ≡ n → not_exempt shut key key.part c ≡ true) (leaf_of key.part d).copies) (λ d own. each_of_all (λ c. c.number ≡ n → not_exempt shut key key.part c ≡ true) (λ c same. by c.standing) (leaf_of key.part d).copies) s.entities where
      by : (standing : Standing) → not (under_exempt shut key standing) ≡ true
      by Ready = refl
      by Deferred = refl
      by (Scheduled moment) = refl
      by (Held own (Until u) deferred) = refl
      by (Held own (UnderSession l) deferred) = ap (λ (b : Bool). not (b && (l == lock))) apart

    here : (n : ℕ) → list_any (settles_copy (key_of part e) n) (closed s t e part lock) ≡ false → AreFine (not_exempt shut (key_of part e)) (key_of part e) n s
    here n none = each_implied (λ d. entity_of d.about.number s ≡ Some d) (λ d. d.about.number ≡ e.about.number → Each (λ c. c.number ≡ n → not_exempt shut (key_of part e) part c ≡ true) (leaf_of part d).copies)
        (λ d found_d own. subst (λ (x : Entity). Each (λ c. c.number ≡ n → not_exempt shut (key_of part e) part c ≡ true) (leaf_of part x).copies) (one_entity e d (sym there ∙ subst (λ (m : ℕ). entity_of m s ≡ Some d) own found_d))
        (here_fine (key_of part e) n (not_exempt shut (key_of part e)) (λ leaf c. is_under_session lock c.standing) e fine others refl)) s.entities there_each where
          one_entity : (d x : Entity) → ◌≡◌ {A = Option Entity} (Some d) (Some x) → d ≡ x
          one_entity d x same = cc

          by : (standing : Standing) → is_under_session lock standing ≡ false → not (under_exempt shut (key_of part e) standing) ≡ true
          by Ready free = refl
          by Deferred free = refl
          by (Scheduled moment) free = refl
          by (Held own (Until u) deferred) free = refl
          by (Held own (UnderSession l) deferred) free = and_off (is_leaf (key_of part e) (key_of part e)) (l == lock) free where
            and_off : (a b : Bool) → b ≡ false → not (a && b) ≡ true
            and_off true b is = ap not is
            and_off false b is = refl

          fine : (c : StoredCopy) → is_under_session lock c.standing ≡ false → not_exempt shut (key_of part e) part c ≡ true
          fine c free = by c.standing free

          others : Each (λ i. IsOther (key_of part e) n i.entity i.part i.copy) (items_in (λ leaf c. is_under_session lock c.standing) e part)
          others = each_mapped (λ i. IsOther (key_of part e) n i.entity i.part i.copy) (item e part) (filter (λ c. is_under_session lock c.standing) (leaf_of part e).copies)
              (others_in (key_of part e) n (λ c. released (listed s) t e part c false false) (λ c. IsOther (key_of part e) n e part c) (filter (λ c. is_under_session lock c.standing) (leaf_of part e).copies)
              (λ c off. not_at (key_of part e) n _ (λ hit. clash (key_of part e) n (list_any (settles_copy (key_of part e) n) (released (listed s) t e part c false false)) (released_settles (key_of part e) n (listed s) t e part c false false hit) off)) none)

    shut_freed : (key : LeafKey) (n : ℕ) → AreFine (not_exempt shut key) key n (after_all t (closed s t e part lock) s)
    shut_freed key n = fine_behind (not_exempt shut key) t key n (closed s t e part lock) s (ordered s may) (each_implied (IsOfTick Lasts true) (IsSafe (not_exempt shut key) t) (exempt_safe shut key t true) (closed s t e part lock) shut_of_tick) (at (is_leaf key (key_of part e)) refl) where
      at : (b : Bool) → is_leaf key (key_of part e) ≡ b → list_any (settles_copy key n) (closed s t e part lock) ≡ false → AreFine (not_exempt shut key) key n s
      at false apart none = elsewhere key apart n
      at true own none = subst (λ (k : LeafKey). list_any (settles_copy k n) (closed s t e part lock) ≡ false → AreFine (not_exempt shut k) k n s) (sym (one_key key (key_of part e) own)) (here n) none

    pub shut_named : AreNamed t s → AreNamed t (after_all t (closed s t e part lock) s)
    shut_named h = unexempt shut t (after_all t (closed s t e part lock) s) (loose_all shut t (closed s t e part lock) s shut_fits (loosened shut t s h)) shut_freed
