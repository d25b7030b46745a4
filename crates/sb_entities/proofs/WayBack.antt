-- A slot that is promised and given back leaves what was there.
use Rattle.std.proofs.Common.{◌≡◌, ℕ, zero, suc, ◌+◌, ◌-◌, Bool, true, false, List, [], ◌∷◌, map, take, Option, Some, None, refl, sym, ap, ◌∙◌, arith}
use Rattle.std.proofs.lemmas.List.Sums.{fold_more}
use Rattle.std.proofs.lemmas.Option.{slice_get_within, get_or_from_slice_get}
use Rattle.std.specs.List.{slice_get}
use Rattle.sb_machine.specs.Keyed.{changed}
use Rattle.sb_machine.specs.Namespace.{is_entity}
use Rattle.sb_machine.specs.declared.call.Part.TheVariants.{Main, Dead, Transfer}
use Rattle.sb_machine.specs.declared.change.Change.{Change}
use Rattle.sb_txn.specs.Txns.{Opened, has_txn, with_less_room}
use Rattle.sb_entities.specs.Places.{place_of}
use Rattle.sb_entities.specs.Released.{part_shrunk, shrunk, entry_shrunk, stock_shrunk, stock_shrunk_at, stock_grown_by}
use Rattle.sb_entities.specs.Rooms.{PartRoom, Room, part_grown, grown}
use Rattle.sb_entities.specs.Stocks.{Entry, Stock, has_number, entry_grown, on_entry, stock_grown, stock_grown_at, txn_grown}
use Rattle.sb_entities.specs.Stores.{entries_in, entities_in}
use Rattle.sb_entities.specs.declared.entity.EntityStore.{EntityStore}
use Rattle.sb_entities.specs.declared.place.EntityPlace.{EntityPlace}
use Rattle.sb_entities.specs.declared.place.EntityPlace.TheVariants.{OfPart, Ids, Rules}
use Rattle.sb_entities.specs.declared.place.PartPlace.{PartPlace}
use Rattle.sb_entities.specs.declared.place.PartPlace.TheVariants.{Copies, Sessions, Locks}
use Rattle.sb_entities.specs.declared.place.Place.{Place}
use Rattle.sb_entities.specs.declared.place.Place.TheVariants.{Entities, Transactions, InEntity, InTransaction}
use Rattle.sb_entities.proofs.Seen.{unseen}
use Rattle.sb_entities.proofs.Stocking.{entity_of, entities_seen}

-- ---- at one place

one_back : (n : ℕ) → n + 1 - 1 ≡ n
one_back n = omega arith

changed_back : {X : Type 0} (p : X → Bool) (f g : X → X) → ((x : X) → p (f x) ≡ p x) → ((x : X) → g (f x) ≡ x) → (xs : List X) → changed p (λ x. g x ∷ []) (changed p (λ x. f x ∷ []) xs) ≡ xs
changed_back {X = X} p f g same back [] = refl
changed_back {X = X} p f g same back (x ∷ xs) = at (p x) refl (changed_back p f g same back xs) where
  at : (b : Bool) → p x ≡ b → changed p (λ y. g y ∷ []) (changed p (λ y. f y ∷ []) xs) ≡ xs → changed p (λ y. g y ∷ []) (changed p (λ y. f y ∷ []) (x ∷ xs)) ≡ x ∷ xs
  at true is ih = let still : p (f x) ≡ true = same x ∙ is in rw (is, still) (ap (λ (z : X). z ∷ xs) (back x))
  at false is ih = rw (is, is) (ap (λ (l : List X). x ∷ l) ih)

part_back : (x : PartPlace) (r : PartRoom) → part_shrunk x (part_grown x r) ≡ r
part_back Copies r = ap (λ (n : ℕ). record r { copies = n }) (one_back r.copies)
part_back Sessions r = ap (λ (n : ℕ). record r { sessions = n }) (one_back r.sessions)
part_back Locks r = ap (λ (n : ℕ). record r { locks = n }) (one_back r.locks)

room_back : (p : EntityPlace) (r : Room) → shrunk p (grown p r) ≡ r
room_back (OfPart Main x) r = ap (λ (z : PartRoom). record r { main = z }) (part_back x r.main)
room_back (OfPart Dead x) r = ap (λ (z : PartRoom). record r { dead = z }) (part_back x r.dead)
room_back (OfPart Transfer x) r = ap (λ (z : PartRoom). record r { transfer = z }) (part_back x r.transfer)
room_back Ids r = ap (λ (n : ℕ). record r { ids = n }) (one_back r.ids)
room_back Rules r = ap (λ (n : ℕ). record r { rules = n }) (one_back r.rules)

stock_back : (p : Place) (k : Stock) → stock_shrunk p (stock_grown p k) ≡ k
stock_back Entities k = ap (λ (n : ℕ). record k { spare = n }) (one_back k.spare)
stock_back Transactions k = ap (λ (n : ℕ). record k { txns = record k.txns { spare = n } }) (one_back k.txns.spare)
stock_back (InEntity n p) k = ap (λ (xs : List Entry). record k { entries = xs }) (changed_back (has_number n) (entry_grown p) (entry_shrunk p) (λ x. refl) (λ x. ap (λ (r : Room). record x { room = r }) (room_back p x.room)) k.entries)
stock_back (InTransaction n) k = ap (λ (rows : List Opened). record k { txns = record k.txns { rows = rows } }) (changed_back (has_txn n) txn_grown with_less_room (λ r. refl) (λ r. ap (λ (m : ℕ). record r { spare = m }) (one_back r.spare)) k.txns.rows)

stock_back_at : (o : Option Place) (k : Stock) → stock_shrunk_at o (stock_grown_at o k) ≡ k
stock_back_at None k = refl
stock_back_at (Some p) k = stock_back p k

-- ---- change by change

-- one change more
pub grown_more : (i : ℕ) (c : Change) (cs : List Change) (k : Stock) → Some c ≡ slice_get cs i → stock_grown_by (take (i + 1) cs) k ≡ stock_grown_at (place_of c) (stock_grown_by (take i cs) k)
grown_more i c cs k found =
    fold_more (λ (s : Stock) (x : Change). stock_grown_at (place_of x) s) k cs i c (slice_get_within cs i c (sym found))
    ∙ ap (λ (x : Change). stock_grown_at (place_of x) (stock_grown_by (take i cs) k)) (get_or_from_slice_get cs i c c (sym found))

pub promised_for : (i : ℕ) (c : Change) (cs : List Change) (k old new : Stock) → Some c ≡ slice_get cs i → old ≡ stock_grown_by (take i cs) k → new ≡ stock_grown_at (place_of c) old → new ≡ stock_grown_by (take (i + 1) cs) k
promised_for i c cs k old new found before is = is ∙ ap (stock_grown_at (place_of c)) before ∙ sym (grown_more i c cs k found)

-- one change less
pub released_for : (i n : ℕ) (c : Change) (cs : List Change) (k old new : Stock) → n ≡ i + 1 → Some c ≡ slice_get cs i → old ≡ stock_grown_by (take n cs) k → new ≡ stock_shrunk_at (place_of c) old → new ≡ stock_grown_by (take i cs) k
released_for i n c cs k old new next found before is =
    is ∙ ap (stock_shrunk_at (place_of c)) (before ∙ ap (λ (m : ℕ). stock_grown_by (take m cs) k) next ∙ grown_more i c cs k found) ∙ stock_back_at (place_of c) (stock_grown_by (take i cs) k)

none_past : (i : ℕ) (cs : List Change) → None ≡ slice_get cs i → take (suc i) cs ≡ take i cs
none_past zero [] none = refl
none_past (suc i) [] none = refl
none_past zero (c ∷ cs) none = absurd cc
none_past (suc i) (c ∷ cs) none = ap (λ (l : List Change). c ∷ l) (none_past i cs none)

-- past the last there is nothing to give back
pub released_none : (i n : ℕ) (cs : List Change) (k old : Stock) → n ≡ i + 1 → None ≡ slice_get cs i → old ≡ stock_grown_by (take n cs) k → old ≡ stock_grown_by (take i cs) k
released_none i n cs k old next none before = let more : n ≡ suc i = omega (arith, next) in before ∙ ap (λ (l : List Change). stock_grown_by l k) (ap (λ (m : ℕ). take m cs) more ∙ none_past i cs none)

-- ---- what is seen of it

pub shrunk_unseen : (n : ℕ) (p : EntityPlace) (rows new : List EntityStore) → entries_in new ≡ on_entry n (entry_shrunk p) (entries_in rows) → entities_in new ≡ entities_in rows
shrunk_unseen n p rows new after =
    entities_seen new ∙ ap (map entity_of) after ∙ unseen entity_of (is_entity n) (λ x. entry_shrunk p x ∷ []) (λ x. refl) (entries_in rows) ∙ sym (entities_seen rows)
