-- The first entity that comes to a hash, and what is found by its address or its name.
use Rattle.std.proofs.Common.{◌≡◌, ℕ, ◌+◌, ◌*◌, ◌≤◌, ◌<◌, List, [], ◌∷◌, map, find, nat_lt, nat_le, ◌==◌, ◌&&◌, Bool, true, false, Option, Some, None, is_none, cond, refl, sym, ap, ◌∙◌, arith, bytes_eq}
use Rattle.std.specs.List.{filter}
use Rattle.std.specs.Option.{option_map}
use Rattle.std.proofs.lemmas.Bool.{eq-eqb}
use Rattle.std.proofs.lemmas.Slice.Eq.{bytes_eq-Decides}
use Rattle.sb_index.specs.Rows.{is_below, is_from}
use Rattle.sb_index.specs.declared.row.Row.{Row}
use Rattle.sb_machine.specs.Each.{Each, IsSorted}
use Rattle.sb_machine.specs.Names.{is_same_entity, is_same_option}
use Rattle.sb_machine.specs.Namespace.{is_entity}
use Rattle.sb_machine.specs.Visits.{destination, is_named}
use Rattle.sb_machine.specs.declared.call.Path.{Path}
use Rattle.sb_machine.specs.declared.state.Entity.{Entity}
use Rattle.sb_entities.specs.ByHash.{HoldsBy, hash_of_path, entity_key, hash_row, is_hashed_to, is_left, is_within, name_hash, names_hash, path_hash, span}
use Rattle.sb_entities.specs.Stores.{entities_in}
use Rattle.sb_entities.specs.Tables.{number_of, is_earlier}
use Rattle.sb_entities.specs.declared.entity.EntityStore.{EntityStore}
use Rattle.sb_entities.proofs.ByHash.{AreSorted}
use Rattle.sb_entities.proofs.Seen.{find_seen}
use Rattle.sb_entities.proofs.Stretches.{both, is_le, is_lt, le_is, same}

module _ {X : Type 0} where
  pub find_filter : (p q : X → Bool) (xs : List X) → find (λ x. p x && q x) xs ≡ find p (filter q xs)
  find_filter p q [] = refl
  find_filter p q (x ∷ xs) = at (q x) refl (find_filter p q xs) where
    at : (b : Bool) → q x ≡ b → find (λ y. p y && q y) xs ≡ find p (filter q xs) → find (λ y. p y && q y) (x ∷ xs) ≡ find p (filter q (x ∷ xs))
    at true e ih = rw e (inner (p x)) where
      inner : (t : Bool) → cond (t && true) (Some x) (find (λ y. p y && q y) xs) ≡ cond t (Some x) (find p (filter q xs))
      inner true = refl
      inner false = ih
    at false e ih = rw e (inner (p x)) where
      inner : (t : Bool) → cond (t && false) (Some x) (find (λ y. p y && q y) xs) ≡ find p (filter q xs)
      inner true = ih
      inner false = ih

  find_alike : (p q : X → Bool) (xs : List X) → ((x : X) → p x ≡ q x) → find p xs ≡ find q xs
  find_alike p q [] alike = refl
  find_alike p q (x ∷ xs) alike = ap (λ b. cond b (Some x) (find p xs)) (alike x) ∙ ap (λ (o : Option X). cond (q x) (Some x) o) (find_alike p q xs alike)

  -- by a test that only those pass which pass another
  narrow_found : (p q : X → Bool) (xs : List X) (x : X) → ((y : X) → p y ≡ true → q y ≡ true) → find q xs ≡ Some x → p x ≡ true → find p xs ≡ Some x
  narrow_found p q [] x all found passes = absurd cc
  narrow_found p q (y ∷ ys) x all found passes = at (q y) refl (narrow_found p q ys x all) where
    at : (b : Bool) → q y ≡ b → (find q ys ≡ Some x → p x ≡ true → find p ys ≡ Some x) → find p (y ∷ ys) ≡ Some x
    at true e ih = let it : Some y ≡ Some x = rw e at found in let one : y ≡ x = cc in rw (ap p one ∙ passes) it
    at false e ih = inner (p y) refl where
      inner : (t : Bool) → p y ≡ t → find p (y ∷ ys) ≡ Some x
      inner true f = absurd (let bad : false ≡ true = sym e ∙ all y f in cc)
      inner false f = let rest : find q ys ≡ Some x = rw e at found in rw f (ih rest passes)

  narrow_none : (p q : X → Bool) (xs : List X) → ((y : X) → p y ≡ true → q y ≡ true) → find q xs ≡ None → find p xs ≡ None
  narrow_none p q [] all found = refl
  narrow_none p q (y ∷ ys) all found = at (q y) refl (narrow_none p q ys all) where
    at : (b : Bool) → q y ≡ b → (find q ys ≡ None → find p ys ≡ None) → find p (y ∷ ys) ≡ None
    at true e ih = absurd (let bad : Some y ≡ None = rw e at found in cc)
    at false e ih = inner (p y) refl where
      inner : (t : Bool) → p y ≡ t → find p (y ∷ ys) ≡ None
      inner true f = absurd (let bad : false ≡ true = sym e ∙ all y f in cc)
      inner false f = let rest : find q ys ≡ None = rw e at found in rw f (ih rest)

-- ---- in rising number

each_seen : (n : ℕ) (rows : List EntityStore) → Each (λ e. nat_lt n e.listing.about.number ≡ true) rows → Each (λ y. nat_lt n (number_of y) ≡ true) (entities_in rows)
each_seen n [] h = tt
each_seen n (x ∷ xs) h = (h.0, each_seen n xs h.1)

pub sorted_seen : (rows : List EntityStore) → IsSorted is_earlier rows → AreSorted (entities_in rows)
sorted_seen [] s = tt
sorted_seen (x ∷ xs) s = (each_seen x.listing.about.number xs s.0, sorted_seen xs s.1)

-- what any search finds is behind one that is before all
pub found_above : (n : ℕ) (q : Entity → Bool) (es : List Entity) (e : Entity) → Each (λ y. nat_lt n (number_of y) ≡ true) es → find q es ≡ Some e → n < number_of e
found_above n q [] e above found = absurd cc
found_above n q (x ∷ xs) e above found = at (q x) refl (found_above n q xs e above.1) where
  at : (b : Bool) → q x ≡ b → (find q xs ≡ Some e → n < number_of e) → n < number_of e
  at true is ih =
      let it : Some x ≡ Some e = rw is at found in
      let one : x ≡ e = cc in
      let up : n < number_of x = is_lt n (number_of x) above.0 in
      omega (arith, up, ap number_of one)
  at false is ih = ih (rw is at found)

-- what any search finds is the one of its number
own_found : (q : Entity → Bool) (e : Entity) (es : List Entity) → AreSorted es → find q es ≡ Some e → find (is_entity (number_of e)) es ≡ Some e
own_found q e [] s found = absurd cc
own_found q e (x ∷ xs) s found = at (q x) refl (own_found q e xs s.1) where
  at : (b : Bool) → q x ≡ b → (find q xs ≡ Some e → find (is_entity (number_of e)) xs ≡ Some e) → find (is_entity (number_of e)) (x ∷ xs) ≡ Some e
  at true is ih =
      let it : Some x ≡ Some e = rw is at found in
      let one : x ≡ e = cc in
      rw (eq-eqb (number_of x) (number_of e) (ap number_of one)) it
  at false is ih =
      let rest : find q xs ≡ Some e = rw is at found in
      let up : number_of x < number_of e = found_above (number_of x) q xs e s.0 rest in
      rw (other (number_of x) (number_of e) up) (ih rest)
    where
      other : (m n : ℕ) → m < n → (m == n) ≡ false
      other m n p = at_case (m == n) refl where
        at_case : (b : Bool) → (m == n) ≡ b → (m == n) ≡ false
        at_case true e = absurd (omega (arith, p, same m n e))
        at_case false e = e

-- ---- the first under a hash

module _ (f : Entity → Option ℕ) (h from : ℕ) where
  abbrev pub is_next : Entity → Bool
  is_next e = is_left h from e && is_hashed_to f h e

  within_too : (below : ℕ) (x : Row) → h * span ≤ from → below ≡ h * span + span → (is_from from x && is_below below x) ≡ (is_from from x && is_within h x)
  within_too below x le is = at (is_from from x) refl where
    at : (b : Bool) → is_from from x ≡ b → (b && nat_lt x.key below) ≡ (b && (nat_le (h * span) x.key && nat_lt x.key (h * span + span)))
    at true e = let above = is_le from x.key e in rw (le_is (h * span) x.key (omega (arith, le, above))) (ap (λ b. nat_lt x.key b) is)
    at false e = refl

  first_row : (below : ℕ) (rows : List Row) (es : List Entity) → h * span ≤ from → below ≡ h * span + span → HoldsBy f rows es → find (λ x. is_from from x && is_below below x) rows ≡ option_map (λ e. hash_row h (number_of e)) (find is_next es)
  first_row below rows es le is holds =
      find_alike (λ x. is_from from x && is_below below x) (λ x. is_from from x && is_within h x) rows (λ x. within_too below x le is)
      ∙ find_filter (is_from from) (is_within h) rows
      ∙ ap (λ (l : List Row). find (is_from from) l) (holds h)
      ∙ sym (find_seen (λ e. hash_row h (number_of e)) (is_from from) (filter (is_hashed_to f h) es))
      ∙ ap (λ (o : Option Entity). option_map (λ e. hash_row h (number_of e)) o) (sym (find_filter (is_left h from) (is_hashed_to f h) es))

  row_is : (o : Option Entity) (x : Row) → option_map (λ e. hash_row h (number_of e)) o ≡ Some x → (e : Entity) × (o ≡ Some e) × (x.value ≡ number_of e)
  row_is None x is = absurd cc
  row_is (Some e) x is = let it : hash_row h (number_of e) ≡ x = cc in (e, refl, ap (λ (y : Row). y.value) (sym it))

  none_is : (o : Option Entity) → option_map (λ e. hash_row h (number_of e)) o ≡ None → o ≡ None
  none_is None is = refl
  none_is (Some e) is = absurd cc

  pub first_there : (below : ℕ) (x : Row) (rows : List Row) (es : List Entity) → h * span ≤ from → below ≡ h * span + span → AreSorted es → Some x ≡ find (λ y. is_from from y && is_below below y) rows → HoldsBy f rows es → find (is_entity x.value) es ≡ find is_next es
  first_there below x rows es le is s found holds =
      let it = row_is (find is_next es) x (sym (found ∙ first_row below rows es le is holds)) in
      ap (λ n. find (is_entity n) es) it.2 ∙ own_found is_next it.0 es s it.1 ∙ sym it.1

  pub first_nowhere : (below : ℕ) (rows : List Row) (es : List Entity) → h * span ≤ from → below ≡ h * span + span → None ≡ find (λ y. is_from from y && is_below below y) rows → HoldsBy f rows es → None ≡ find is_next es
  first_nowhere below rows es le is found holds = sym (none_is (find is_next es) (sym (found ∙ first_row below rows es le is holds)))

-- ---- by address

same_names : (a b : List ℕ) (o p : Option (List ℕ)) → bytes_eq a b ≡ true → is_same_option o p ≡ true → names_hash a o ≡ names_hash b p
same_names a b None None e f = ap (λ (n : List ℕ). names_hash n None) ((bytes_eq-Decides a b).0 e)
same_names a b (Some x) (Some y) e f = ap (λ (n : List ℕ). names_hash n (Some x)) ((bytes_eq-Decides a b).0 e) ∙ ap (λ (n : List ℕ). names_hash b (Some n)) ((bytes_eq-Decides x y).0 f)
same_names a b None (Some y) e f = absurd cc
same_names a b (Some x) None e f = absurd cc

next_is : (h from : ℕ) (e : Entity) → from ≡ entity_key h 0 → h ≡ path_hash e.about.path → is_next hash_of_path h from e ≡ true
next_is h from e start is = rw (le_is from (h * span + number_of e) (omega (arith, start)), eq-eqb (path_hash e.about.path) h (sym is)) refl

same_next : (path : Path) (h from : ℕ) → h ≡ path_hash path → from ≡ entity_key h 0 → (e : Entity) → is_same_entity e.about.path path ≡ true → is_next hash_of_path h from e ≡ true
same_next path h from is start e passes =
    let it = both (bytes_eq e.about.path.name path.name) (is_same_option e.about.path.subscription path.subscription) passes in
    next_is h from e start (is ∙ sym (same_names e.about.path.name path.name e.about.path.subscription path.subscription it.0 it.1))

named_next : (name : List ℕ) (h from : ℕ) → h ≡ name_hash name → from ≡ entity_key h 0 → (e : Entity) → is_named name e.about ≡ true → is_next hash_of_path h from e ≡ true
named_next name h from is start e passes = next_is h from e start (is ∙ sym (at e.about.path.subscription it.0)) where
  it : (is_none e.about.path.subscription ≡ true) × (bytes_eq e.about.path.name name ≡ true)
  it = both (is_none e.about.path.subscription) (bytes_eq e.about.path.name name) passes

  at : (o : Option (List ℕ)) → is_none o ≡ true → names_hash e.about.path.name o ≡ name_hash name
  at None none = ap (λ (n : List ℕ). name_hash n) ((bytes_eq-Decides e.about.path.name name).0 it.1)
  at (Some own) none = absurd (let bad : false ≡ true = none in cc)

pub path_found : (path : Path) (h from : ℕ) (es : List Entity) (x : Entity) → h ≡ path_hash path → from ≡ entity_key h 0 → Some x ≡ find (is_next hash_of_path h from) es → is_same_entity x.about.path path ≡ true → Some x ≡ find (λ e. is_same_entity e.about.path path) es
path_found path h from es x is start found passes = sym (narrow_found (λ e. is_same_entity e.about.path path) (is_next hash_of_path h from) es x (same_next path h from is start) (sym found) passes)

pub path_nowhere : (path : Path) (h from : ℕ) (es : List Entity) → h ≡ path_hash path → from ≡ entity_key h 0 → None ≡ find (is_next hash_of_path h from) es → None ≡ find (λ e. is_same_entity e.about.path path) es
path_nowhere path h from es is start found = sym (narrow_none (λ e. is_same_entity e.about.path path) (is_next hash_of_path h from) es (same_next path h from is start) (sym found))

pub name_found : (name : List ℕ) (h from : ℕ) (es : List Entity) (x : Entity) → h ≡ name_hash name → from ≡ entity_key h 0 → Some x ≡ find (is_next hash_of_path h from) es → is_named name x.about ≡ true → Some x.about ≡ destination (map (λ e. e.about) es) name
name_found name h from es x is start found passes =
    ap (λ (o : Option Entity). option_map (λ e. e.about) o) (sym (narrow_found (λ e. is_named name e.about) (is_next hash_of_path h from) es x (named_next name h from is start) (sym found) passes))
    ∙ find_seen (λ e. e.about) (is_named name) es

pub name_nowhere : (name : List ℕ) (h from : ℕ) (es : List Entity) → h ≡ name_hash name → from ≡ entity_key h 0 → None ≡ find (is_next hash_of_path h from) es → None ≡ destination (map (λ e. e.about) es) name
name_nowhere name h from es is start found =
    ap (λ (o : Option Entity). option_map (λ e. e.about) o) (sym (narrow_none (λ e. is_named name e.about) (is_next hash_of_path h from) es (named_next name h from is start) (sym found)))
    ∙ find_seen (λ e. e.about) (is_named name) es
