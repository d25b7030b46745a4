-- Clients behind a name, in a list that is in order.
use Rattle.std.proofs.Common.{◌≡◌, ℕ, List, [], ◌∷◌, Bool, true, false, Option, Some, None, refl, sym, ap, ◌∙◌, drop}
use Rattle.std.specs.Prelude.{filter, not}
use Rattle.std.specs.List.{prefix_len}
use Rattle.std.specs.List.Sorted.{IsPartitionedBy}
use Rattle.sb_machine.specs.Each.{Each, IsSorted}
use Rattle.sb_machine.specs.Looks.{is_behind}
use Rattle.sb_machine.specs.Names.{is_before}
use Rattle.sb_machine.specs.declared.state.Kept.{Kept}
use Rattle.sb_repeats.specs.Clients.{is_first}
use Rattle.sb_repeats.proofs.Bisecting.{before_later, each_implied, parted, prefix_off, prefix_on}

-- a client up to the name
abbrev pub is_up_to : Option (List ℕ) → Kept → Bool
is_up_to after x = not (is_behind after x.client)

-- who stands behind one behind the name is behind it too
further : (after : Option (List ℕ)) (x y : List ℕ) → is_before x y ≡ true → is_behind after x ≡ true → is_behind after y ≡ true
further None x y before behind = refl
further (Some a) x y before behind = before_later a x y behind before

up_to : (after : Option (List ℕ)) (x y : Kept) → is_first x y ≡ true → is_up_to after y ≡ true → is_up_to after x ≡ true
up_to after x y before passes = at (is_behind after x.client) refl where
  at : (b : Bool) → is_behind after x.client ≡ b → is_up_to after x ≡ true
  at false is = rw is refl
  at true is =
      let behind : is_behind after y.client ≡ true = further after x.client y.client before is in
      let bad : false ≡ true = rw behind at passes in
      absurd cc

pub behind_parted : (after : Option (List ℕ)) (rows : List Kept) → IsSorted is_first rows → IsPartitionedBy (is_up_to after) rows
behind_parted after rows sorted = parted is_first (is_up_to after) (up_to after) rows sorted

filter_all : (p : Kept → Bool) (xs : List Kept) → Each (λ x. p x ≡ true) xs → filter p xs ≡ xs
filter_all p [] all = refl
filter_all p (x ∷ xs) all = rw all.0 (ap (λ (l : List Kept). x ∷ l) (filter_all p xs all.1))

dropped : (after : Option (List ℕ)) (rows : List Kept) → IsSorted is_first rows → drop (prefix_len (is_up_to after) rows) rows ≡ filter (λ k. is_behind after k.client) rows
dropped after [] sorted = refl
dropped after (y ∷ ys) sorted = at (is_behind after y.client) refl (dropped after ys sorted.1) where
  at : (b : Bool) → is_behind after y.client ≡ b → drop (prefix_len (is_up_to after) ys) ys ≡ filter (λ k. is_behind after k.client) ys → drop (prefix_len (is_up_to after) (y ∷ ys)) (y ∷ ys) ≡ filter (λ k. is_behind after k.client) (y ∷ ys)
  at true is ih =
      let off : is_up_to after y ≡ false = ap not is in
      let all = each_implied (λ z. is_first y z ≡ true) (λ z. is_behind after z.client ≡ true) (λ z before. further after y.client z.client before is) ys sorted.0 in
      rw (prefix_off (is_up_to after) y ys off, is) (ap (λ (l : List Kept). y ∷ l) (sym (filter_all (λ k. is_behind after k.client) ys all)))
  at false is ih =
      let on : is_up_to after y ≡ true = ap not is in
      rw (prefix_on (is_up_to after) y ys on, is) ih

pub behind_from : (after : Option (List ℕ)) (rows : List Kept) (place : ℕ) → place ≡ prefix_len (is_up_to after) rows → IsSorted is_first rows → drop place rows ≡ filter (λ k. is_behind after k.client) rows
behind_from after rows place is sorted = ap (λ (n : ℕ). drop n rows) is ∙ dropped after rows sorted
