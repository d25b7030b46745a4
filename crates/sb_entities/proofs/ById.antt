-- Ids stay in order, and an id's place among them is found by bisection.
use Rattle.std.proofs.Common.{◌≡◌, ℕ, ◌≤◌, Bool, true, false, List, [], ◌∷◌, length, map, take, filter, Option, Bor, refl}
use Rattle.std.specs.List.{insert, prefix_len}
use Rattle.std.specs.List.Sorted.{IsPartitionedBy, IsPartitionPoint}
use Rattle.sb_machine.specs.Each.{Each}
use Rattle.sb_machine.specs.Looks.{is_behind}
use Rattle.sb_machine.specs.Names.{is_before}
use Rattle.sb_machine.specs.declared.state.Session.{Session}
use Rattle.sb_sessions.specs.Sessions.{AreSorted}
use Rattle.sb_entities.specs.SessionList.{AreById, first_remembered, with_id}
use Rattle.sb_entities.proofs.ByName.{down, not_behind}
use Rattle.sb_entities.proofs.Cutting.{pairs_cut}
use Rattle.sb_entities.proofs.Lists.{each_filter}
use Rattle.sb_entities.proofs.Ordered as ordered

abbrev pub seen : List (Bor (List ℕ)) → List (List ℕ)
seen ids = map (λ (t : Bor (List ℕ)). t.now) ids

abbrev pub is_first : List ℕ → Bor (List ℕ) → Bool
is_first n q = is_before q.now n

pub parted : (n : List ℕ) (ids : List (Bor (List ℕ))) → AreById (seen ids) → IsPartitionedBy (is_first n) ids
parted n ids order = ordered.parted (λ (t : Bor (List ℕ)). t.now) (λ t. t) is_before down not_behind n ids order

pub point_is : (n : List ℕ) (ids : List (Bor (List ℕ))) (i : ℕ) → i ≤ length ids → IsPartitionPoint (λ y. is_first n y ≡ true) (λ y. is_first n y ≡ false) ids i → i ≡ prefix_len (is_first n) ids
point_is n ids i le point = ordered.point_is (λ (t : Bor (List ℕ)). t.now) (λ t. t) is_before down not_behind n ids i le point

-- put at its place, and cut
pub placed : (count : ℕ) (ids new cut : List (Bor (List ℕ))) (id : Bor (List ℕ)) (k : List ℕ) (i : ℕ) → k ≡ id.now → i ≡ prefix_len (is_first k) ids → new ≡ insert ids i id → cut ≡ take count new → seen cut ≡ take count (with_id (seen ids) id.now)
placed count ids new cut id k i own place added is = ordered.placed (λ (t : Bor (List ℕ)). t.now) (λ t. t) is_before down not_behind count ids new cut id k i own place added is

pub kept_order : (count : ℕ) (ids : List (List ℕ)) (id : List ℕ) → AreById ids → AreById (take count (with_id ids id))
kept_order count ids id order = ordered.kept_order (λ (t : Bor (List ℕ)). t.now) (λ t. t) is_before down not_behind count ids id order

-- ---- remembered sessions

ids_late : (y : Session) (xs : List Session) → Each (λ x. is_before y.id x.id ≡ true) xs → Each (λ id. is_before id y.id ≡ false) (map (λ x. x.id) xs)
ids_late y [] h = tt
ids_late y (x ∷ xs) h = (not_behind y.id x.id h.0, ids_late y xs h.1)

by_id : (xs : List Session) → AreSorted xs → AreById (map (λ x. x.id) xs)
by_id [] sorted = tt
by_id (x ∷ xs) sorted = (ids_late x xs sorted.0, by_id xs sorted.1)

by_id_among : (p : List ℕ → Bool) (ids : List (List ℕ)) → AreById ids → AreById (filter p ids)
by_id_among p [] order = tt
by_id_among p (id ∷ ids) order = at (p id) refl (by_id_among p ids order.1) where
  at : (b : Bool) → p id ≡ b → AreById (filter p ids) → AreById (filter p (id ∷ ids))
  at true is ih = rw is (each_filter (λ t. is_before t id ≡ false) p ids order.0, ih)
  at false is ih = rw is ih

pub remembered_by_id : (after : Option (List ℕ)) (count : ℕ) (xs : List Session) → AreSorted xs → AreById (first_remembered after count xs)
remembered_by_id after count xs sorted = pairs_cut (λ a b. is_before b a ≡ false) count (filter (is_behind after) (map (λ x. x.id) xs)) (by_id_among (is_behind after) (map (λ x. x.id) xs) (by_id xs sorted))
