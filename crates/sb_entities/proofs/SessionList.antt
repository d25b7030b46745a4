-- The sessions that are shown are those of the first ids: of what is remembered, and of messages that are the only sign of one.
use Rattle.std.proofs.Common.{◌≡◌, ℕ, Bool, true, false, List, [], ◌∷◌, find, filter, length, map, take, Option, Some, None, refl, sym, ap, ◌∙◌, subst, one-add}
use Rattle.std.specs.List.{fold, insert, prefix_len}
use Rattle.std.specs.Prelude.{◌&&◌, if◌then◌else◌, is_none, bytes_eq}
use Rattle.std.proofs.lemmas.List.{take-map}
use Rattle.std.proofs.lemmas.Slice.Eq.{bytes_eq-Decides}
use Rattle.sb_machine.specs.Each.{Each}
use Rattle.sb_machine.specs.Leaves.{has_id, session_in}
use Rattle.sb_machine.specs.Looks.{is_behind, is_first_of, is_only_sign, is_ready_of, only_signs, session_of, session_shown, sessions_of, sessions_shown, with_session}
use Rattle.sb_machine.specs.Messages.{text_of}
use Rattle.sb_machine.specs.Names.{is_before}
use Rattle.sb_machine.specs.declared.look.SessionShown.{SessionShown}
use Rattle.sb_machine.specs.declared.state.Leaf.{Leaf}
use Rattle.sb_machine.specs.declared.state.Session.{Session}
use Rattle.sb_machine.specs.declared.state.StoredCopy.{StoredCopy}
use Rattle.sb_model.specs.declared.message.SystemName.TheVariants.{SessionId}
use Rattle.sb_sessions.specs.Sessions.{AreSorted}
use Rattle.sb_entities.specs.SessionList.{behind_with, bytes_of, first_ids, shown_of, sign_with, until_of, with_id}
use Rattle.sb_entities.proofs.ByName.{down, each_implied, each_inserted, not_behind}
use Rattle.sb_entities.proofs.Cutting.{cut_with, each_cut}
use Rattle.sb_entities.proofs.Lists.{each_filter}
use Rattle.sb_entities.proofs.References.{map-insert, prefix_len-map}
use Rattle.sb_entities.proofs.Seen.{filter_seen}

-- the id of the session that a message is of
abbrev id_of : StoredCopy → List ℕ
id_of c = (session_of c).id

-- whether a message of this session is the only sign of it
abbrev sign_by : Leaf → StoredCopy → Option (List ℕ) → Bool
sign_by leaf c o = elim o [ Some id ↦ is_none (session_in id leaf) && is_first_of id leaf.copies c | None ↦ false ]

-- this id, or none
abbrev id_or_none : Option (List ℕ) → List ℕ
id_or_none o = elim o [ Some id ↦ id | None ↦ [] ]

abbrev ids_of : List Session → List (List ℕ)
ids_of xs = map (λ x. x.id) xs

-- ---- those behind an id

module _ (after : Option (List ℕ)) where
  -- what isn't behind it stands before what is
  ahead : (x y : List ℕ) → is_behind after x ≡ true → is_behind after y ≡ false → is_before y x ≡ true
  ahead x y here there = at after here there where
    at : (o : Option (List ℕ)) → is_behind o x ≡ true → is_behind o y ≡ false → is_before y x ≡ true
    at None h k = absurd cc
    at (Some a) h k = down y a x k h

  among : (x : List ℕ) (ys : List (List ℕ)) → is_behind after x ≡ true → filter (is_behind after) (with_id ys x) ≡ with_id (filter (is_behind after) ys) x
  among x [] here = rw here refl
  among x (y ∷ ys) here = at (is_before y x) refl (is_behind after y) refl (among x ys here) where
    at : (b : Bool) → is_before y x ≡ b → (d : Bool) → is_behind after y ≡ d → filter (is_behind after) (with_id ys x) ≡ with_id (filter (is_behind after) ys) x → filter (is_behind after) (with_id (y ∷ ys) x) ≡ with_id (filter (is_behind after) (y ∷ ys)) x
    at true first true passes ih = rw (first, one-add, passes, first, one-add) (ap (λ (zs : List (List ℕ)). y ∷ zs) ih)
    at true first false fails ih = rw (first, one-add, fails) ih
    at false late true passes ih = rw (late, here, passes, late) refl
    at false late false fails ih = absurd (let bad : true ≡ false = sym (ahead x y here fails) ∙ late in cc)

  beside : (x : List ℕ) (ys : List (List ℕ)) → is_behind after x ≡ false → filter (is_behind after) (with_id ys x) ≡ filter (is_behind after) ys
  beside x [] there = rw there refl
  beside x (y ∷ ys) there = at (is_before y x) refl (is_behind after y) refl (beside x ys there) where
    at : (b : Bool) → is_before y x ≡ b → (d : Bool) → is_behind after y ≡ d → filter (is_behind after) (with_id ys x) ≡ filter (is_behind after) ys → filter (is_behind after) (with_id (y ∷ ys) x) ≡ filter (is_behind after) (y ∷ ys)
    at true first true passes ih = rw (first, one-add, passes) (ap (λ (zs : List (List ℕ)). y ∷ zs) ih)
    at true first false fails ih = rw (first, one-add, fails) ih
    at false late d is ih = rw (late, there) refl

  -- one more, where it is behind it
  abbrev chosen : List (List ℕ) → StoredCopy → List (List ℕ)
  chosen ids c = if is_behind after (id_of c) then with_id ids (id_of c) else ids

  choosing : (ids : List (List ℕ)) (c : StoredCopy) → chosen (filter (is_behind after) ids) c ≡ filter (is_behind after) (with_id ids (id_of c))
  choosing ids c = at (is_behind after (id_of c)) refl where
    at : (b : Bool) → is_behind after (id_of c) ≡ b → chosen (filter (is_behind after) ids) c ≡ filter (is_behind after) (with_id ids (id_of c))
    at true here = rw here (sym (among (id_of c) ids here))
    at false there = rw there (sym (beside (id_of c) ids there))

  all_chosen : (ids : List (List ℕ)) (cs : List StoredCopy) → fold chosen (filter (is_behind after) ids) cs ≡ filter (is_behind after) (fold (λ zs c. with_id zs (id_of c)) ids cs)
  all_chosen ids [] = refl
  all_chosen ids (c ∷ cs) = ap (λ zs. fold chosen zs cs) (choosing ids c) ∙ all_chosen (with_id ids (id_of c)) cs

  -- ---- the first few of them

  module _ (count : ℕ) where
    -- a message that is of a session
    abbrev IsNamed : StoredCopy → Type 0
    IsNamed c = (ids : List (List ℕ)) → sign_with after count ids c ≡ behind_with after count ids (id_of c)

    cut_chosen : (ids : List (List ℕ)) (c : StoredCopy) → IsNamed c → sign_with after count (take count ids) c ≡ take count (chosen ids c)
    cut_chosen ids c named = named (take count ids) ∙ at (is_behind after (id_of c)) refl where
      at : (b : Bool) → is_behind after (id_of c) ≡ b → behind_with after count (take count ids) (id_of c) ≡ take count (chosen ids c)
      at true here = rw here (sym (cut_with (λ y. is_before y (id_of c)) (id_of c) count ids))
      at false there = rw there refl

    first_chosen : (ids : List (List ℕ)) (cs : List StoredCopy) → Each IsNamed cs → fold (sign_with after count) (take count ids) cs ≡ take count (fold chosen ids cs)
    first_chosen ids [] named = refl
    first_chosen ids (c ∷ cs) named = ap (λ zs. fold (sign_with after count) zs cs) (cut_chosen ids c named.0) ∙ first_chosen (chosen ids c) cs named.1

    named_sign : (leaf : Leaf) (c : StoredCopy) → is_only_sign leaf c ≡ true → IsNamed c
    named_sign leaf c sign ids = at (text_of SessionId c.message) refl where
      at : (o : Option (List ℕ)) → text_of SessionId c.message ≡ o → sign_with after count ids c ≡ behind_with after count ids (id_of c)
      at (Some id) is = ap (λ (o : Option (List ℕ)). elim o [ Some id ↦ behind_with after count ids id | None ↦ ids ]) is ∙ sym (ap (λ (o : Option (List ℕ)). behind_with after count ids (id_or_none o)) is)
      at None is = absurd (let bad : true ≡ false = sym sign ∙ ap (sign_by leaf c) is in cc)

-- ---- ids of sessions

one_id : (xs : List Session) (x : Session) → ids_of (with_session xs x) ≡ with_id (ids_of xs) x.id
one_id xs x = map-insert (λ (y : Session). y.id) xs (prefix_len (λ (y : Session). is_before y.id x.id) xs) x ∙ ap (λ i. insert (ids_of xs) i x.id) (sym (prefix_len-map (λ (y : Session). y.id) (λ y. is_before y x.id) xs))

all_ids : (xs : List Session) (cs : List StoredCopy) → fold (λ zs c. with_id zs (id_of c)) (ids_of xs) cs ≡ ids_of (fold with_session xs (map session_of cs))
all_ids xs [] = refl
all_ids xs (c ∷ cs) = sym (ap (λ zs. fold (λ ys d. with_id ys (id_of d)) zs cs) (one_id xs (session_of c))) ∙ all_ids (with_session xs (session_of c)) cs

-- ---- what is shown of each

module _ (leaf : Leaf) where
  abbrev IsShown : Session → Type 0
  IsShown x = session_shown leaf x ≡ shown_of leaf x.id

  abbrev shown_by : List ℕ → Option Session → SessionShown
  shown_by id o = record { id = id; until = until_of o; state_bytes = bytes_of o; ready = length (filter (is_ready_of id) leaf.copies) }

  own_shown : (x : Session) → find (has_id x.id) leaf.sessions ≡ Some x → IsShown x
  own_shown x is = sym (ap (shown_by x.id) is)

  differs : (a b : List ℕ) → is_before a b ≡ true → bytes_eq a b ≡ false
  differs a b first = at (bytes_eq a b) refl where
    at : (d : Bool) → bytes_eq a b ≡ d → bytes_eq a b ≡ false
    at true same = absurd (let equal : a ≡ b = (bytes_eq-Decides a b).0 same in let bad : true ≡ false = sym first ∙ ap (λ t. is_before t b) equal ∙ sym (ap (λ t. is_before b t) equal) ∙ not_behind a b first in cc)
    at false other = other

  one_behind : (y x : Session) (ys : List Session) → is_before y.id x.id ≡ true → find (has_id x.id) ys ≡ Some x → find (has_id x.id) (y ∷ ys) ≡ Some x
  one_behind y x ys later own = let other = differs y.id x.id later in rw other own

  each_behind : (y : Session) (ys xs : List Session) → Each (λ x. is_before y.id x.id ≡ true) xs → Each (λ x. find (has_id x.id) ys ≡ Some x) xs → Each (λ x. find (has_id x.id) (y ∷ ys) ≡ Some x) xs
  each_behind y ys [] later own = tt
  each_behind y ys (x ∷ xs) later own = (one_behind y x ys later.0 own.0, each_behind y ys xs later.1 own.1)

  found_first : (y : Session) (ys : List Session) → find (has_id y.id) (y ∷ ys) ≡ Some y
  found_first y ys = let same : bytes_eq y.id y.id ≡ true = (bytes_eq-Decides y.id y.id).1 refl in rw same refl

  found_own : (xs : List Session) → AreSorted xs → Each (λ x. find (has_id x.id) xs ≡ Some x) xs
  found_own [] sorted = tt
  found_own (y ∷ ys) sorted = (found_first y ys, each_behind y ys ys sorted.0 (found_own ys sorted.1))

  none_there : (o : Option Session) → is_none o ≡ true → o ≡ None
  none_there None e = refl
  none_there (Some x) e = absurd cc

  and_left : (x y : Bool) → (x && y) ≡ true → x ≡ true
  and_left true y e = refl
  and_left false y e = absurd cc

  sign_shown : (c : StoredCopy) → is_only_sign leaf c ≡ true → IsShown (session_of c)
  sign_shown c sign = at (text_of SessionId c.message) refl where
    at : (o : Option (List ℕ)) → text_of SessionId c.message ≡ o → IsShown (session_of c)
    at None is = absurd (let bad : true ≡ false = sym sign ∙ ap (sign_by leaf c) is in cc)
    at (Some id) is =
        let told : (is_none (session_in id leaf) && is_first_of id leaf.copies c) ≡ true = sym (ap (sign_by leaf c) is) ∙ sign in
        let nowhere : session_in id leaf ≡ None = none_there (session_in id leaf) (and_left (is_none (session_in id leaf)) (is_first_of id leaf.copies c) told) in
        subst (λ (o : Option (List ℕ)). session_shown leaf (record { id = id_or_none o; state = None; holder = None }) ≡ shown_of leaf (id_or_none o)) (sym is) (sym (ap (shown_by id) nowhere))

  signs_shown : (cs : List StoredCopy) → Each IsShown (map session_of (filter (is_only_sign leaf) cs))
  signs_shown [] = tt
  signs_shown (c ∷ cs) = at (is_only_sign leaf c) refl (signs_shown cs) where
    at : (b : Bool) → is_only_sign leaf c ≡ b → Each IsShown (map session_of (filter (is_only_sign leaf) cs)) → Each IsShown (map session_of (filter (is_only_sign leaf) (c ∷ cs)))
    at true is ih = rw is (sign_shown c is, ih)
    at false is ih = rw is ih

  all_shown : (xs ys : List Session) → Each IsShown xs → Each IsShown ys → Each IsShown (fold with_session xs ys)
  all_shown xs [] old new = old
  all_shown xs (y ∷ ys) old new = all_shown (with_session xs y) ys (each_inserted IsShown xs (prefix_len (λ z. is_before z.id y.id) xs) y new.0 old) new.1

  shown_ids : (xs : List Session) → Each IsShown xs → map (session_shown leaf) xs ≡ map (shown_of leaf) (ids_of xs)
  shown_ids [] h = refl
  shown_ids (x ∷ xs) h = ap (λ s. s ∷ map (session_shown leaf) xs) h.0 ∙ ap (λ (ss : List SessionShown). shown_of leaf x.id ∷ ss) (shown_ids xs h.1)

  each_named : (after : Option (List ℕ)) (count : ℕ) (cs : List StoredCopy) → Each (IsNamed after count) (filter (is_only_sign leaf) cs)
  each_named after count [] = tt
  each_named after count (c ∷ cs) = at (is_only_sign leaf c) refl (each_named after count cs) where
    at : (b : Bool) → is_only_sign leaf c ≡ b → Each (IsNamed after count) (filter (is_only_sign leaf) cs) → Each (IsNamed after count) (filter (is_only_sign leaf) (c ∷ cs))
    at true is ih = rw is (named_sign after count leaf c is, ih)
    at false is ih = rw is ih

  ids_are : (after : Option (List ℕ)) (count : ℕ) → first_ids after count leaf ≡ ids_of (take count (filter (λ x. is_behind after x.id) (sessions_of leaf)))
  ids_are after count =
      first_chosen after count (filter (is_behind after) (ids_of leaf.sessions)) (only_signs leaf) (each_named after count leaf.copies)
      ∙ ap (take count) (all_chosen after (ids_of leaf.sessions) (only_signs leaf) ∙ ap (filter (is_behind after)) (all_ids leaf.sessions (only_signs leaf)) ∙ sym (filter_seen (λ (x : Session). x.id) (is_behind after) (sessions_of leaf)))
      ∙ take-map (λ (x : Session). x.id) count (filter (λ x. is_behind after x.id) (sessions_of leaf))

  pub shown_are : (after : Option (List ℕ)) (count : ℕ) → AreSorted leaf.sessions → sessions_shown after count leaf ≡ map (shown_of leaf) (first_ids after count leaf)
  shown_are after count sorted =
      let old : Each IsShown leaf.sessions = each_implied (λ x. find (has_id x.id) leaf.sessions ≡ Some x) IsShown own_shown leaf.sessions (found_own leaf.sessions sorted) in
      let each : Each IsShown (sessions_of leaf) = all_shown leaf.sessions (map session_of (only_signs leaf)) old (signs_shown leaf.copies) in
      let few = take count (filter (λ x. is_behind after x.id) (sessions_of leaf)) in
      shown_ids few (each_cut IsShown count (filter (λ x. is_behind after x.id) (sessions_of leaf)) (each_filter IsShown (λ x. is_behind after x.id) (sessions_of leaf) each)) ∙ ap (map (shown_of leaf)) (sym (ids_are after count))
