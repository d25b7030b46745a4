-- A topic's subscriptions, one after another by the index that has their rows.
use Rattle.std.proofs.Common.{◌≡◌, ℕ, ◌+◌, ◌*◌, ◌≤◌, ◌<◌, List, [], ◌∷◌, map, find, nat_lt, ◌==◌, Bool, true, false, Option, Some, None, cond, if◌then◌else◌, refl, sym, ap, ◌∙◌, subst, arith, bytes_eq, Bor}
use Rattle.std.specs.List.{filter, fold}
use Rattle.std.specs.Option.{option_map_or}
use Rattle.std.proofs.lemmas.Bool.{eq-eqb}
use Rattle.std.proofs.lemmas.Slice.Eq.{bytes_eq-Decides}
use Rattle.sb_machine.specs.Each.{Each}
use Rattle.sb_machine.specs.Visits.{is_under, subscriptions_of, with_next}
use Rattle.sb_machine.specs.declared.state.Entity.{Entity}
use Rattle.sb_machine.specs.declared.state.Listed.{Listed}
use Rattle.sb_machine.proofs.Places.{found_passes}
use Rattle.sb_entities.specs.ByHash.{entity_key, hash_of_topic, is_hashed_to, is_left, name_hash, span, upper_hash}
use Rattle.sb_entities.specs.Tables.{number_of}
use Rattle.sb_entities.proofs.ByHash.{AreSorted}
use Rattle.sb_entities.proofs.HashFinds.{found_above, is_next}
use Rattle.sb_entities.proofs.Stretches.{both, is_le, is_lt, le_is, le_isnt}

-- what is under a topic comes to its hash
under_by : (topic name : List ℕ) (h : ℕ) (o : Option (List ℕ)) → h ≡ name_hash topic → ◌≡◌ {A = Bool} (elim o [ Some own ↦ bytes_eq name topic | None ↦ false ]) true → option_map_or (λ own. own == h) (upper_hash name o) false ≡ true
under_by topic name h None is passes = absurd (let bad : false ≡ true = passes in cc)
under_by topic name h (Some own) is passes = eq-eqb (name_hash name) h (ap (λ (n : List ℕ). name_hash n) ((bytes_eq-Decides name topic).0 passes) ∙ sym is)

under_hashed : (topic : List ℕ) (h : ℕ) (e : Entity) → h ≡ name_hash topic → is_under topic e.about ≡ true → is_hashed_to hash_of_topic h e ≡ true
under_hashed topic h e is passes = under_by topic e.about.path.name h e.about.path.subscription is passes

module _ (topic : List ℕ) (h : ℕ) where
  -- what is under the topic of those whose key is at least this one
  abbrev pub under_from : ℕ → List Entity → List Listed
  under_from from es = filter (is_under topic) (map (λ e. e.about) (filter (is_left h from) es))

  abbrev pub under_all : List Entity → List Listed
  under_all es = filter (is_under topic) (map (λ e. e.about) es)

  passed : (from : ℕ) (x : Entity) (xs : List Entity) → is_left h from x ≡ false → under_from from (x ∷ xs) ≡ under_from from xs
  passed from x xs e = rw e refl

  kept : (from : ℕ) (x : Entity) (xs : List Entity) → is_left h from x ≡ true → under_from from (x ∷ xs) ≡ cond (is_under topic x.about) (x.about ∷ under_from from xs) (under_from from xs)
  kept from x xs e = rw e refl

  none_lower : (n from : ℕ) (xs : List Entity) → from ≤ entity_key h n + 1 → Each (λ y. nat_lt n (number_of y) ≡ true) xs → under_from from xs ≡ under_all xs
  none_lower n from [] le above = refl
  none_lower n from (x ∷ xs) le above =
      let up : n < number_of x = is_lt n (number_of x) above.0 in
      kept from x xs (le_is from (h * span + number_of x) (omega (arith, le, up)))
      ∙ ap (λ (l : List Listed). cond (is_under topic x.about) (x.about ∷ l) l) (none_lower n from xs le above.1)

  pub walk_start : (from : ℕ) (es : List Entity) → from ≡ entity_key h 0 → under_from from es ≡ under_all es
  walk_start from [] is = refl
  walk_start from (x ∷ xs) is =
      kept from x xs (le_is from (h * span + number_of x) (omega (arith, is)))
      ∙ ap (λ (l : List Listed). cond (is_under topic x.about) (x.about ∷ l) l) (walk_start from xs is)

  module _ (hashed : h ≡ name_hash topic) where
    -- one that isn't next has nothing under the topic
    skipped : (from : ℕ) (x : Entity) (xs : List Entity) → is_next hash_of_topic h from x ≡ false → under_from from (x ∷ xs) ≡ under_from from xs
    skipped from x xs e = at (is_left h from x) refl where
      at : (b : Bool) → is_left h from x ≡ b → under_from from (x ∷ xs) ≡ under_from from xs
      at false l = passed from x xs l
      at true l = kept from x xs l ∙ inner (is_under topic x.about) refl where
        inner : (b : Bool) → is_under topic x.about ≡ b → cond b (x.about ∷ under_from from xs) (under_from from xs) ≡ under_from from xs
        inner false u = refl
        inner true u = absurd (let bad : false ≡ true = sym e ∙ (rw (l, under_hashed topic h x hashed u) refl) in cc)

    pub walk_end : (from : ℕ) (es : List Entity) → None ≡ find (is_next hash_of_topic h from) es → under_from from es ≡ []
    walk_end from [] none = refl
    walk_end from (x ∷ xs) none = at (is_next hash_of_topic h from x) refl (walk_end from xs) where
      at : (b : Bool) → is_next hash_of_topic h from x ≡ b → (None ≡ find (is_next hash_of_topic h from) xs → under_from from xs ≡ []) → under_from from (x ∷ xs) ≡ []
      at true e ih = absurd (let bad : None ≡ Some x = none ∙ ap (λ b. cond b (Some x) (find (is_next hash_of_topic h from) xs)) e in cc)
      at false e ih = skipped from x xs e ∙ ih (none ∙ ap (λ b. cond b (Some x) (find (is_next hash_of_topic h from) xs)) e)

    -- what is left behind one
    abbrev behind : Entity → List Entity → List Listed
    behind e es = under_from (entity_key h (number_of e) + 1) es

    abbrev WalksOn : ℕ → Entity → List Entity → Type 0
    WalksOn from e es = under_from from es ≡ cond (is_under topic e.about) (e.about ∷ behind e es) (behind e es)

    lower_passed : (e x : Entity) (xs : List Entity) → number_of x ≤ number_of e → behind e (x ∷ xs) ≡ behind e xs
    lower_passed e x xs le = passed (entity_key h (number_of e) + 1) x xs (le_isnt (h * span + number_of e + 1) (h * span + number_of x) (omega (arith, le)))

    walk_here : (from : ℕ) (x : Entity) (xs : List Entity) → AreSorted (x ∷ xs) → is_next hash_of_topic h from x ≡ true → WalksOn from x (x ∷ xs)
    walk_here from x xs s is =
        let left = (both (is_left h from x) (is_hashed_to hash_of_topic h x) is).0 in
        let le : from ≤ h * span + number_of x = is_le from (h * span + number_of x) left in
        let rest : under_from from xs ≡ under_all xs = none_lower (number_of x) from xs (omega (arith, le)) s.0 in
        let after : behind x xs ≡ under_all xs = none_lower (number_of x) (entity_key h (number_of x) + 1) xs (omega arith) s.0 in
        kept from x xs left ∙ ap (λ (l : List Listed). cond (is_under topic x.about) (x.about ∷ l) l) (rest ∙ sym after ∙ sym (lower_passed x x xs (omega arith)))

    walk_on : (from : ℕ) (e : Entity) (es : List Entity) → AreSorted es → find (is_next hash_of_topic h from) es ≡ Some e → WalksOn from e es
    walk_on from e [] s found = absurd cc
    walk_on from e (x ∷ xs) s found = at (is_next hash_of_topic h from x) refl (walk_on from e xs s.1) where
      at : (b : Bool) → is_next hash_of_topic h from x ≡ b → (find (is_next hash_of_topic h from) xs ≡ Some e → WalksOn from e xs) → WalksOn from e (x ∷ xs)
      at true is ih =
          let it : Some x ≡ Some e = ap (λ b. cond b (Some x) (find (is_next hash_of_topic h from) xs)) (sym is) ∙ found in
          let one : x ≡ e = cc in
          subst (λ (y : Entity). WalksOn from y (x ∷ xs)) one (walk_here from x xs s is)
      at false is ih =
          let rest : find (is_next hash_of_topic h from) xs ≡ Some e = ap (λ b. cond b (Some x) (find (is_next hash_of_topic h from) xs)) (sym is) ∙ found in
          let up : number_of x < number_of e = found_above (number_of x) (is_next hash_of_topic h from) xs e s.0 rest in
          skipped from x xs is ∙ ih rest ∙ ap (λ (l : List Listed). cond (is_under topic e.about) (e.about ∷ l) l) (sym (lower_passed e x xs (omega (arith, up))))

    one_folded : (b : Bool) (e : Listed) (before rest : List Listed) → fold with_next before (cond b (e ∷ rest) rest) ≡ fold with_next (if b then with_next before e else before) rest
    one_folded true e before rest = refl
    one_folded false e before rest = refl

    -- so far, with one more, and what is left give all
    pub walked : (from on : ℕ) (e : Entity) (about : Listed) (es : List Entity) (before after all : List Listed) → AreSorted es → Some e ≡ find (is_next hash_of_topic h from) es → about ≡ e.about → after ≡ (if is_under topic about then with_next before about else before) → on ≡ entity_key h about.number + 1 → fold with_next before (under_from from es) ≡ all → fold with_next after (under_from on es) ≡ all
    walked from on e about es before after all s found is did next so_far =
        let left : on ≡ entity_key h (number_of e) + 1 = next ∙ ap (λ (l : Listed). entity_key h l.number + 1) is in
        ap (λ m. fold with_next after (under_from m es)) left
        ∙ ap (λ (l : List Listed). fold with_next l (under_from (entity_key h (number_of e) + 1) es)) (did ∙ ap (λ (l : Listed). if is_under topic l then with_next before l else before) is)
        ∙ sym (one_folded (is_under topic e.about) e.about before (under_from (entity_key h (number_of e) + 1) es))
        ∙ ap (λ (l : List Listed). fold with_next before l) (sym (walk_on from e es s (sym found)))
        ∙ so_far

    -- the next one's key is at least the one looked from
    pub next_above : (from : ℕ) (e : Entity) (es : List Entity) → Some e ≡ find (is_next hash_of_topic h from) es → from ≤ entity_key h (number_of e)
    next_above from e es found = is_le from (h * span + number_of e) (both (is_left h from e) (is_hashed_to hash_of_topic h e) (found_passes (is_next hash_of_topic h from) es e (sym found))).0

    pub walk_done : (from : ℕ) (es : List Entity) (before all : List Listed) → None ≡ find (is_next hash_of_topic h from) es → fold with_next before (under_from from es) ≡ all → before ≡ all
    walk_done from es before all none so_far = ap (λ (l : List Listed). fold with_next before l) (sym (walk_end from es none)) ∙ so_far

pub walk_begun : (topic : List ℕ) (h from : ℕ) (es : List Entity) (found : List (Bor Listed)) → found ≡ [] → from ≡ entity_key h 0 → fold with_next (map (λ b. b.now) found) (under_from topic h from es) ≡ subscriptions_of (map (λ e. e.about) es) topic
walk_begun topic h from es found none start =
    ap (λ (l : List (Bor Listed)). fold with_next (map (λ (b : Bor Listed). b.now) l) (under_from topic h from es)) none ∙ ap (λ (l : List Listed). fold with_next [] l) (walk_start topic h from es start)
