-- What is promised as one slot more is, and as a change takes its own.
use Rattle.std.proofs.Common.{◌≡◌, ℕ, zero, suc, ◌+◌, ◌-◌, ◌<◌, ◌≤◌, ◌==◌, ◌&&◌, Bool, true, false, List, [], ◌∷◌, ◌++◌, length, take, find, Option, Some, None, option_map, refl, sym, ap, ◌∙◌, subst, arith}
use Rattle.std.proofs.lemmas.List.{take_more, take_all}
use Rattle.std.proofs.lemmas.List.Sums.{sum_by-cons, sum_by_push}
use Rattle.std.proofs.lemmas.Option.{slice_get_within, get_or_from_slice_get}
use Rattle.std.specs.List.{slice_get}
use Rattle.std.specs.Prelude.{IfSome}
use Rattle.sb_machine.specs.Each.{Each}
use Rattle.sb_machine.specs.Keyed.{AreRising}
use Rattle.sb_machine.specs.Names.{is_same_part}
use Rattle.sb_machine.specs.declared.call.Part.{Part}
use Rattle.sb_machine.specs.declared.call.Part.TheVariants.{Main, Dead, Transfer}
use Rattle.sb_machine.specs.declared.change.Change.{Change}
use Rattle.sb_machine.specs.declared.change.Change.TheVariants.{InLeaf, Notes, Makes, Removes, AddsRule, DropsRule, Begins, Queues, Drops}
use Rattle.sb_machine.specs.declared.change.LeafChange.TheVariants.{Enters, Passes, Ends, Holds, Stands, Renews, Opens, Closes, Prolongs, Writes}
use Rattle.sb_machine.specs.declared.state.Entity.{Entity}
use Rattle.sb_machine.specs.declared.state.Standing.TheVariants.{Ready, Deferred, Held, Scheduled}
use Rattle.sb_txn.specs.Txns.{Opened, has_txn, begun, with_queued, is_elsewhere}
use Rattle.sb_entities.specs.Places.{place_of, part_place, is_same_place, is_same_entity_place, one_if, one_at, taken, taken_in, asked}
use Rattle.sb_entities.specs.Rooms.{Room, part_room, spare_in, HasRoom}
use Rattle.sb_entities.specs.Stocks.{Entry, Stock, has_number, new_entry, entity_after, entry_after, entry_grown, on_entry, on_txn, txn_grown, stock_after, stock_grown, stock_grown_at, Promises, PromisesAll, IsReached, HasRoomFor}
use Rattle.sb_entities.specs.Transactions.{txn_number, AreOpened}
use Rattle.sb_entities.specs.declared.change.EntityChange.{EntityChange}
use Rattle.sb_entities.specs.declared.change.EntityChange.TheVariants.{InPart, NotesId, GainsRule, LosesRule}
use Rattle.sb_entities.specs.declared.place.EntityPlace.{EntityPlace}
use Rattle.sb_entities.specs.declared.place.EntityPlace.TheVariants.{OfPart, Ids, Rules}
use Rattle.sb_entities.specs.declared.place.PartPlace.{PartPlace}
use Rattle.sb_entities.specs.declared.place.PartPlace.TheVariants.{Copies, Sessions, Locks}
use Rattle.sb_entities.specs.declared.place.Place.{Place}
use Rattle.sb_entities.specs.declared.place.Place.TheVariants.{Entities, Transactions, InEntity, InTransaction}
use Rattle.sb_entities.proofs.Lists.{is_equal, same_number, equal_is, if_some, each_implied, each_append, each_filter, each_dropped, each_changed, each_found, first_changed, first_filtered, first_pushed}
use Rattle.sb_entities.proofs.Opened.{opened_rises}
use Rattle.sb_entities.proofs.Rising.{each_above}
use Rattle.sb_entities.proofs.Filling.{room_more, room_left}

abbrev number_in : Entry → ℕ
number_in x = x.entity.about.number

if_all : {X : Type 0} (P : X → Type 0) → ((x : X) → P x) → (o : Option X) → IfSome o P
if_all P all None = tt
if_all P all (Some x) = all x

each_all : {X : Type 0} (P : X → Type 0) → ((x : X) → P x) → (xs : List X) → Each P xs
each_all P all [] = tt
each_all P all (x ∷ xs) = (all x, each_all P all xs)

-- ---- less is promised too

pub promised_none : (p : Place) (k : Stock) → Promises p 0 k
promised_none Entities k = omega arith
promised_none Transactions k = omega arith
promised_none (InEntity n p) k = ((λ lt. absurd (omega (arith, lt))), if_all (λ (x : Entry). 0 ≤ spare_in p x.room) (λ x. omega arith) (find (has_number n) k.entries))
promised_none (InTransaction n) k = ((λ lt. absurd (omega (arith, lt))), each_all (λ (r : Opened). txn_number r ≡ n → 0 ≤ r.spare) (λ r is. omega arith) k.txns.rows)

less : (p : Place) (a m : ℕ) (k : Stock) → m ≤ a → Promises p a k → Promises p m k
less Entities a m k le h = omega (arith, le, h)
less Transactions a m k le h = omega (arith, le, h)
less (InEntity n p) a m k le h = ((λ lt. h.0 (omega (arith, le, lt))), if_some (λ (x : Entry). a ≤ spare_in p x.room) (λ x. m ≤ spare_in p x.room) (λ x most. omega (arith, le, most)) (find (has_number n) k.entries) h.1)
less (InTransaction n) a m k le h = ((λ lt. h.0 (omega (arith, le, lt))), each_implied (λ (r : Opened). txn_number r ≡ n → a ≤ r.spare) (λ r. txn_number r ≡ n → m ≤ r.spare) (λ r most is. omega (arith, le, most is)) k.txns.rows h.1)

same : (p : Place) (m : ℕ) (k : Stock) → Promises p m k → Promises p (m + 0) k
same p m k h = less p m (m + 0) k (omega arith) h

rest : (p : Place) (a m : ℕ) (k : Stock) → Promises p (a + m) k → Promises p m k
rest p a m k h = less p (a + m) m k (omega arith) h

-- ---- one more at a place

entity_more : (n j : ℕ) (p q : EntityPlace) (m : ℕ) (k : Stock) → j ≤ k.last_entity → Promises (InEntity n p) m k → Promises (InEntity n p) (m + one_if ((n == j) && is_same_entity_place p q)) (stock_grown (InEntity j q) k)
entity_more n j p q m k reached h = at (n == j) refl where
  at : (b : Bool) → (n == j) ≡ b → Promises (InEntity n p) (m + one_if (b && is_same_entity_place p q)) (stock_grown (InEntity j q) k)
  at true e = (
    (λ lt. omega (arith, is_equal n j e, reached)),
    first_changed number_in n j (entry_grown q) (λ x. m ≤ spare_in p x.room) (λ x. m + one_if (is_same_entity_place p q) ≤ spare_in p x.room) (λ x. refl)
        (λ is x most. room_more p q x.room m most) (λ isnt x most. absurd (let bad : true ≡ false = sym e ∙ isnt in cc)) k.entries h.1,
  )
  at false e = (
    (λ lt. h.0 (omega (arith, lt))),
    first_changed number_in n j (entry_grown q) (λ x. m ≤ spare_in p x.room) (λ x. m + 0 ≤ spare_in p x.room) (λ x. refl)
        (λ is x most. absurd (let bad : true ≡ false = sym is ∙ e in cc)) (λ isnt x most. omega (arith, most)) k.entries h.1,
  )

each_more : (n m above last : ℕ) (rows : List Opened) → AreRising txn_number above last rows → Each (λ r. txn_number r ≡ n → m ≤ r.spare) rows → Each (λ r. txn_number r ≡ n → m + 1 ≤ r.spare) (on_txn n txn_grown rows)
each_more n m above last [] rises h = tt
each_more n m above last (r ∷ rs) rises h = at (txn_number r == n) refl (each_more n m (txn_number r) last rs rises.1 h.1) where
  at : (b : Bool) → (txn_number r == n) ≡ b → Each (λ x. txn_number x ≡ n → m + 1 ≤ x.spare) (on_txn n txn_grown rs) → Each (λ x. txn_number x ≡ n → m + 1 ≤ x.spare) (on_txn n txn_grown (r ∷ rs))
  at true is ih = rw is (
    (λ own. omega (arith, h.0 own)),
    each_above txn_number n (txn_number r) last (λ x. m + 1 ≤ x.spare) rs (omega (arith, is_equal (txn_number r) n is)) rises.1,
  )
  at false is ih = rw is ((λ own. absurd (let bad : true ≡ false = sym (equal_is (txn_number r) n own) ∙ is in cc)), ih)

txn_more : (n j m : ℕ) (k : Stock) → AreOpened k.last_txn k.txns.rows → j ≤ k.last_txn → Promises (InTransaction n) m k → Promises (InTransaction n) (m + one_if (n == j)) (stock_grown (InTransaction j) k)
txn_more n j m k opened reached h = at (n == j) refl where
  at : (b : Bool) → (n == j) ≡ b → Promises (InTransaction n) (m + one_if b) (stock_grown (InTransaction j) k)
  at true e = (
    (λ lt. omega (arith, is_equal n j e, reached)),
    subst (λ (i : ℕ). Each (λ r. txn_number r ≡ n → m + 1 ≤ r.spare) (on_txn i txn_grown k.txns.rows)) (is_equal n j e) (each_more n m 0 k.last_txn k.txns.rows (opened_rises k.last_txn k.txns.rows opened) h.1),
  )
  at false e = (
    (λ lt. h.0 (omega (arith, lt))),
    each_changed (λ r. txn_number r ≡ n → m ≤ r.spare) (λ r. txn_number r ≡ n → m + 0 ≤ r.spare) (has_txn j) txn_grown (λ r has most is. omega (arith, most is)) (λ r most is. omega (arith, most is)) k.txns.rows h.1,
  )

pub promised_more : (p : Place) (o : Option Place) (m : ℕ) (k : Stock) → AreOpened k.last_txn k.txns.rows → IsReached o k → Promises p m k → Promises p (m + one_at (is_same_place p) o) (stock_grown_at o k)
promised_more p None m k opened reached h = same p m k h
promised_more Entities (Some Entities) m k opened reached h = omega (arith, h)
promised_more Transactions (Some Entities) m k opened reached h = omega (arith, h)
promised_more (InEntity n p) (Some Entities) m k opened reached h = same (InEntity n p) m k h
promised_more (InTransaction n) (Some Entities) m k opened reached h = same (InTransaction n) m k h
promised_more Entities (Some Transactions) m k opened reached h = omega (arith, h)
promised_more Transactions (Some Transactions) m k opened reached h = omega (arith, h)
promised_more (InEntity n p) (Some Transactions) m k opened reached h = same (InEntity n p) m k h
promised_more (InTransaction n) (Some Transactions) m k opened reached h = same (InTransaction n) m k h
promised_more Entities (Some (InEntity j q)) m k opened reached h = omega (arith, h)
promised_more Transactions (Some (InEntity j q)) m k opened reached h = omega (arith, h)
promised_more (InEntity n p) (Some (InEntity j q)) m k opened reached h = entity_more n j p q m k reached h
promised_more (InTransaction n) (Some (InEntity j q)) m k opened reached h = same (InTransaction n) m k h
promised_more Entities (Some (InTransaction j)) m k opened reached h = omega (arith, h)
promised_more Transactions (Some (InTransaction j)) m k opened reached h = omega (arith, h)
promised_more (InEntity n p) (Some (InTransaction j)) m k opened reached h = same (InEntity n p) m k h
promised_more (InTransaction n) (Some (InTransaction j)) m k opened reached h = txn_more n j m k opened reached h

-- for one change more there is room too
pub promised_one : (i : ℕ) (c : Change) (cs : List Change) (k : Stock) → Some c ≡ slice_get cs i → AreOpened k.last_txn k.txns.rows → IsReached (place_of c) k → PromisesAll (take i cs) k → PromisesAll (take (i + 1) cs) (stock_grown_at (place_of c) k)
promised_one i c cs k found opened reached h p =
    let more : take (i + 1) cs ≡ take i cs ++ c ∷ [] = take_more cs i c (slice_get_within cs i c (sym found)) ∙ ap (λ (x : Change). take i cs ++ x ∷ []) (get_or_from_slice_get cs i c c (sym found)) in
    let sum : asked p (take i cs) + taken p c ≡ asked p (take (i + 1) cs) = sym (ap (asked p) more ∙ sum_by_push (taken p) (take i cs) c) in
    subst (λ (m : ℕ). Promises p m (stock_grown_at (place_of c) k)) sum (promised_more p (place_of c) (asked p (take i cs)) k opened reached (h p))

pub promised_all : (i : ℕ) (cs : List Change) (k : Stock) → length cs ≤ i → PromisesAll (take i cs) k → PromisesAll cs k
promised_all i cs k past h p = subst (λ (l : List Change). Promises p (asked p l) k) (take_all i cs past) (h p)

-- ---- what a change leaves

pub number_after : (t : ℕ) (c : EntityChange) (e : Entity) → (entity_after t c e).about.number ≡ e.about.number
number_after t (InPart Main lock c) e = refl
number_after t (InPart Dead lock c) e = refl
number_after t (InPart Transfer lock c) e = refl
number_after t (NotesId id) e = refl
number_after t (GainsRule rule) e = refl
number_after t (LosesRule name) e = refl

entry_left : (n j t a m : ℕ) (p : EntityPlace) (c : EntityChange) (xs : List Entry) → ((n == j) ≡ true → a ≡ taken_in p c) → IfSome (find (has_number n) xs) (λ x. a + m ≤ spare_in p x.room) → IfSome (find (has_number n) (on_entry j (entry_after t c) xs)) (λ x. m ≤ spare_in p x.room)
entry_left n j t a m p c xs own h =
    first_changed number_in n j (entry_after t c) (λ x. a + m ≤ spare_in p x.room) (λ x. m ≤ spare_in p x.room) (λ x. number_after t c x.entity)
    (λ is x most. room_left p c x.room m (omega (arith, own is, most))) (λ isnt x most. omega (arith, most)) xs h

in_leaf : (n j : ℕ) (part : Part) (p : EntityPlace) (o : Option PartPlace) → (n == j) ≡ true → one_at (is_same_place (InEntity n p)) (option_map (λ x. InEntity j (OfPart part x)) o) ≡ one_at (is_same_entity_place p) (option_map (OfPart part) o)
in_leaf n j part p None e = refl
in_leaf n j part p (Some x) e = rw e refl

none_new : (m n last : ℕ) → (0 < m → n ≤ last) → last + 1 ≡ n → m ≡ 0
none_new zero n last h e = refl
none_new (suc m) n last h e = absurd (omega (arith, h (omega arith), e))

queued_left : (n j m deadline : ℕ) (r : Opened) → (txn_number r == j) ≡ true → (txn_number r ≡ n → one_if (n == j) + m ≤ r.spare) → txn_number r ≡ n → m ≤ r.spare - 1
queued_left n j m deadline r has most is = at (n == j) refl (most is) where
  at : (b : Bool) → (n == j) ≡ b → one_if b + m ≤ r.spare → m ≤ r.spare - 1
  at true e le = omega (arith, le)
  at false e le = absurd (let bad : true ≡ false = sym (equal_is n j (sym is ∙ is_equal (txn_number r) j has)) ∙ e in cc)

pub promised_left : (p : Place) (t : ℕ) (c : Change) (m : ℕ) (k : Stock) → Promises p (taken p c + m) k → Promises p m (stock_after t c k)
promised_left Entities t (InLeaf key c) m k h = omega (arith, h)
promised_left Transactions t (InLeaf key c) m k h = omega (arith, h)
promised_left (InEntity n p) t (InLeaf key c) m k h = ((λ lt. h.0 (omega (arith, lt))), entry_left n key.entity t (taken (InEntity n p) (InLeaf key c)) m p (InPart key.part (k.last_lock + 1) c) k.entries (in_leaf n key.entity key.part p (part_place c)) h.1)
promised_left (InTransaction n) t (InLeaf key c) m k h = rest (InTransaction n) (taken (InTransaction n) (InLeaf key c)) m k h
promised_left Entities t (Notes j id) m k h = omega (arith, h)
promised_left Transactions t (Notes j id) m k h = omega (arith, h)
promised_left (InEntity n p) t (Notes j id) m k h = ((λ lt. h.0 (omega (arith, lt))), entry_left n j t (taken (InEntity n p) (Notes j id)) m p (NotesId id) k.entries (λ e. rw e refl) h.1)
promised_left (InTransaction n) t (Notes j id) m k h = rest (InTransaction n) 0 m k h
promised_left Entities t (Makes kind path d rules) m k h = omega (arith, h)
promised_left Transactions t (Makes kind path d rules) m k h = omega (arith, h)
promised_left (InEntity n p) t (Makes kind path d rules) m k h =
    let few : 0 < m → n ≤ k.last_entity = λ lt. h.0 (omega (arith, lt)) in (
      (λ lt. omega (arith, few lt)),
      first_pushed number_in n (new_entry (record { number = k.last_entity + 1; kind = kind; path = path; description = d; rules = rules })) (λ x. 0 + m ≤ spare_in p x.room) (λ x. m ≤ spare_in p x.room) (λ x most. omega (arith, most))
          (λ is. omega (arith, none_new m n k.last_entity few is)) k.entries h.1,
    )
promised_left (InTransaction n) t (Makes kind path d rules) m k h = rest (InTransaction n) 0 m k h
promised_left Entities t (Removes j) m k h = omega (arith, h)
promised_left Transactions t (Removes j) m k h = omega (arith, h)
promised_left (InEntity n p) t (Removes j) m k h = ((λ lt. h.0 (omega (arith, lt))), first_filtered number_in n j (λ x. 0 + m ≤ spare_in p x.room) (λ x. m ≤ spare_in p x.room) (λ x most. omega (arith, most)) k.entries h.1)
promised_left (InTransaction n) t (Removes j) m k h =
    let it = rest (InTransaction n) 0 m k h in
    (it.0, each_filter (λ r. txn_number r ≡ n → m ≤ r.spare) (λ r. is_elsewhere j r.transaction) k.txns.rows it.1)
promised_left Entities t (AddsRule j rule) m k h = omega (arith, h)
promised_left Transactions t (AddsRule j rule) m k h = omega (arith, h)
promised_left (InEntity n p) t (AddsRule j rule) m k h = ((λ lt. h.0 (omega (arith, lt))), entry_left n j t (taken (InEntity n p) (AddsRule j rule)) m p (GainsRule rule) k.entries (λ e. rw e refl) h.1)
promised_left (InTransaction n) t (AddsRule j rule) m k h = rest (InTransaction n) 0 m k h
promised_left Entities t (DropsRule j name) m k h = omega (arith, h)
promised_left Transactions t (DropsRule j name) m k h = omega (arith, h)
promised_left (InEntity n p) t (DropsRule j name) m k h = ((λ lt. h.0 (omega (arith, lt))), entry_left n j t 0 m p (LosesRule name) k.entries (λ e. refl) h.1)
promised_left (InTransaction n) t (DropsRule j name) m k h = rest (InTransaction n) 0 m k h
promised_left Entities t (Begins j deadline) m k h = omega (arith, h)
promised_left Transactions t (Begins j deadline) m k h = omega (arith, h)
promised_left (InEntity n p) t (Begins j deadline) m k h = rest (InEntity n p) 0 m k h
promised_left (InTransaction n) t (Begins j deadline) m k h =
    let it = rest (InTransaction n) 0 m k h in
    ((λ lt. omega (arith, it.0 lt)), each_append (λ r. txn_number r ≡ n → m ≤ r.spare) k.txns.rows (record { transaction = begun (k.last_txn + 1) j deadline; spare = 0 }) it.1 (λ is. omega (arith, none_new m n k.last_txn it.0 is)))
promised_left Entities t (Queues j deadline operation) m k h = omega (arith, h)
promised_left Transactions t (Queues j deadline operation) m k h = omega (arith, h)
promised_left (InEntity n p) t (Queues j deadline operation) m k h = rest (InEntity n p) 0 m k h
promised_left (InTransaction n) t (Queues j deadline operation) m k h = (
  (λ lt. h.0 (omega (arith, lt))),
  each_changed (λ r. txn_number r ≡ n → one_if (n == j) + m ≤ r.spare) (λ r. txn_number r ≡ n → m ≤ r.spare) (has_txn j) (with_queued deadline operation)
      (λ r has most is. queued_left n j m deadline r has most is) (λ r most is. omega (arith, most is)) k.txns.rows h.1,
)
promised_left Entities t (Drops j) m k h = omega (arith, h)
promised_left Transactions t (Drops j) m k h = omega (arith, h)
promised_left (InEntity n p) t (Drops j) m k h = rest (InEntity n p) 0 m k h
promised_left (InTransaction n) t (Drops j) m k h =
    let it = rest (InTransaction n) 0 m k h in
    (it.0, each_dropped (λ r. txn_number r ≡ n → m ≤ r.spare) (has_txn j) k.txns.rows it.1)

pub promised_rest : (t : ℕ) (c : Change) (cs : List Change) (k : Stock) → PromisesAll (c ∷ cs) k → PromisesAll cs (stock_after t c k)
promised_rest t c cs k h p = promised_left p t c (asked p cs) k (subst (λ (m : ℕ). Promises p m k) (sum_by-cons (taken p) c cs) (h p))

-- ---- what the first change needs is there

part_same : (part : Part) → is_same_part part part ≡ true
part_same Main = refl
part_same Dead = refl
part_same Transfer = refl

first_in : (n : ℕ) (p : EntityPlace) (c : Change) (cs : List Change) (k : Stock) (Q : Room → Type 0) → taken (InEntity n p) c ≡ 1 → ((r : Room) → 1 ≤ spare_in p r → Q r) → PromisesAll (c ∷ cs) k → IfSome (find (has_number n) k.entries) (λ x. Q x.room)
first_in n p c cs k Q one more h =
    if_some (λ (x : Entry). asked (InEntity n p) (c ∷ cs) ≤ spare_in p x.room) (λ x. Q x.room) (λ x most. more x.room (omega (arith, most, one, sum_by-cons (taken (InEntity n p)) c cs))) (find (has_number n) k.entries) (h (InEntity n p)).1

pub nothing_in : (n : ℕ) (k : Stock) → IfSome (find (has_number n) k.entries) (λ x. Unit {0})
nothing_in n k = if_all (λ (x : Entry). Unit {0}) (λ x. tt) (find (has_number n) k.entries)

no_lock_in : (n : ℕ) (part : Part) (k : Stock) → IfSome (find (has_number n) k.entries) (λ x. 0 ≤ (part_room part x.room).locks)
no_lock_in n part k = if_all (λ (x : Entry). 0 ≤ (part_room part x.room).locks) (λ x. omega arith) (find (has_number n) k.entries)

pub promised_first : (c : Change) (cs : List Change) (k : Stock) → PromisesAll (c ∷ cs) k → HasRoomFor c k
promised_first (InLeaf key (Enters fresh)) cs k h = first_in key.entity (OfPart key.part Copies) (InLeaf key (Enters fresh)) cs k (HasRoom (InPart key.part (k.last_lock + 1) (Enters fresh))) (rw (same_number key.entity, part_same key.part) refl) (λ r le. le) h
promised_first (InLeaf key (Opens id until)) cs k h = first_in key.entity (OfPart key.part Sessions) (InLeaf key (Opens id until)) cs k (HasRoom (InPart key.part (k.last_lock + 1) (Opens id until))) (rw (same_number key.entity, part_same key.part) refl) (λ r le. le) h
promised_first (InLeaf key (Passes cause)) cs k h = nothing_in key.entity k
promised_first (InLeaf key (Ends n settled cause)) cs k h = nothing_in key.entity k
promised_first (InLeaf key (Holds n hold)) cs k h = first_in key.entity (OfPart key.part Locks) (InLeaf key (Holds n hold)) cs k (HasRoom (InPart key.part (k.last_lock + 1) (Holds n hold))) (rw (same_number key.entity, part_same key.part) refl) (λ r le. le) h
promised_first (InLeaf key (Stands n settled count Ready)) cs k h = no_lock_in key.entity key.part k
promised_first (InLeaf key (Stands n settled count Deferred)) cs k h = no_lock_in key.entity key.part k
promised_first (InLeaf key (Stands n settled count (Held lock hold deferred))) cs k h = first_in key.entity (OfPart key.part Locks) (InLeaf key (Stands n settled count (Held lock hold deferred))) cs k (HasRoom (InPart key.part (k.last_lock + 1) (Stands n settled count (Held lock hold deferred)))) (rw (same_number key.entity, part_same key.part) refl) (λ r le. le) h
promised_first (InLeaf key (Stands n settled count (Scheduled at))) cs k h = no_lock_in key.entity key.part k
promised_first (InLeaf key (Renews n until)) cs k h = nothing_in key.entity k
promised_first (InLeaf key (Closes lock)) cs k h = nothing_in key.entity k
promised_first (InLeaf key (Prolongs lock until)) cs k h = nothing_in key.entity k
promised_first (InLeaf key (Writes lock state)) cs k h = nothing_in key.entity k
promised_first (Notes n id) cs k h = first_in n Ids (Notes n id) cs k (HasRoom (NotesId id)) (rw (same_number n) refl) (λ r le. le) h
promised_first (Makes kind path d rules) cs k h = omega (arith, h Entities, sum_by-cons (taken Entities) (Makes kind path d rules) cs)
promised_first (Removes n) cs k h = tt
promised_first (AddsRule n rule) cs k h = first_in n Rules (AddsRule n rule) cs k (HasRoom (GainsRule rule)) (rw (same_number n) refl) (λ r le. le) h
promised_first (DropsRule n name) cs k h = tt
promised_first (Begins n deadline) cs k h = omega (arith, h Transactions, sum_by-cons (taken Transactions) (Begins n deadline) cs)
promised_first (Queues n deadline operation) cs k h =
    let one : taken (InTransaction n) (Queues n deadline operation) ≡ 1 = rw (same_number n) refl in
    if_some (λ (r : Opened). (has_txn n r ≡ true) × (txn_number r ≡ n → asked (InTransaction n) (Queues n deadline operation ∷ cs) ≤ r.spare)) (λ r. 1 ≤ r.spare)
    (λ r found. omega (arith, found.1 (is_equal (txn_number r) n found.0), one, sum_by-cons (taken (InTransaction n)) (Queues n deadline operation) cs)) (find (has_txn n) k.txns.rows)
    (each_found (λ (r : Opened). txn_number r ≡ n → asked (InTransaction n) (Queues n deadline operation ∷ cs) ≤ r.spare) (has_txn n) k.txns.rows (h (InTransaction n)).1)
promised_first (Drops n) cs k h = tt
