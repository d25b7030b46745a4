-- What is found, and a plan that grows by it.
use Rattle.std.proofs.Common.{Bool, List, None, Option, Some, [], ap, false, filter, get_or, length, map, refl, subst, suc, sym, take, true, zero, ℕ, ◌+◌, ◌++◌, ◌<◌, ◌≤◌, ◌∙◌, ◌∷◌, ◌≡◌, arith}
use Rattle.std.specs.Prelude.{◌==◌, ◌||◌, if◌then◌else◌, nat_le}
use Rattle.std.specs.List.{flat_map}
use Rattle.std.proofs.lemmas.Bool.Decides.{nat_tests}
use Rattle.std.proofs.lemmas.Grind.{flat_map-append}
use Rattle.std.proofs.lemmas.List.{append-nil, map-append, take_all, take_more}
use Rattle.sb_machine.specs.Changes.{after, after_all}
use Rattle.sb_machine.specs.Delivery.{in_part, released}
use Rattle.sb_machine.specs.Due.{Item, closes_due, closes_in, due_locks, due_sessions, sweep_locks}
use Rattle.sb_machine.specs.Each.{Each}
use Rattle.sb_machine.specs.declared.call.Part.{Part}
use Rattle.sb_machine.specs.declared.call.Part.TheVariants.{Dead, Main, Transfer}
use Rattle.sb_machine.specs.declared.change.Change.{Change}
use Rattle.sb_machine.specs.declared.change.LeafChange.TheVariants.{Closes}
use Rattle.sb_machine.specs.declared.state.Entity.{Entity}
use Rattle.sb_machine.specs.declared.state.Holder.{Holder}
use Rattle.sb_machine.specs.declared.state.Session.{Session}
use Rattle.sb_machine.specs.declared.state.Space.{Space}
use Rattle.sb_machine.specs.declared.state.StoredCopy.{StoredCopy}
use Rattle.sb_machine.specs.Namespace.{last_at, leaf_of, listed}
use Rattle.sb_fanout.specs.Lasts.{Given, is_listed}
use Rattle.sb_fanout.specs.Laws.{keeps_numbers}
use Rattle.sb_fanout.proofs.Keeping.{numbers_stand}
use Rattle.sb_laws.proofs.Eachs.{each_append}
use Rattle.sb_engine.specs.Growing.{IsGrown, Stands}
use Rattle.sb_engine.specs.Sweeps.{found_in, found_of, is_looked_for, item}
use Rattle.sb_engine.specs.declared.time.finding.Search.{Search}
use Rattle.sb_engine.proofs.Growing.{grown_more}

-- ---- rows that are read as items, each with its changes

module _ {X Y : Type 0} where
  runs_more : (g : X → Y) (f : Y → List Change) (xs : List X) (i : ℕ) (x : X) → i < length xs → x ≡ get_or xs i x → flat_map f (map g (take (i + 1) xs)) ≡ flat_map f (map g (take i xs)) ++ f (g x)
  runs_more g f xs i x within here =
      ap (λ (l : List X). flat_map f (map g l)) (take_more xs i x within)
      ∙ ap (λ (y : X). flat_map f (map g (take i xs ++ y ∷ []))) (sym here)
      ∙ ap (flat_map f) (map-append g (take i xs) (x ∷ []))
      ∙ flat_map-append f (map g (take i xs)) (g x ∷ [])
      ∙ ap (λ (l : List Change). flat_map f (map g (take i xs)) ++ l) (append-nil (f (g x)))

  pub runs_next : (s : Space) (g : X → Y) (f : Y → List Change) (xs : List X) (i : ℕ) (x : X) (before between after : Given) (old mid new : List Change) → i < length xs → x ≡ get_or xs i x
      → IsGrown s (flat_map f (map g (take i xs))) before between old mid → IsGrown s (f (g x)) between after mid new → IsGrown s (flat_map f (map g (take (i + 1) xs))) before after old new
  runs_next s g f xs i x before between after old mid new within here so_far next =
      subst (λ (l : List Change). IsGrown s l before after old new) (sym (runs_more g f xs i x within here)) (grown_more s (flat_map f (map g (take i xs))) (f (g x)) before between after old mid new so_far next)

  pub runs_all : (s : Space) (g : X → Y) (f : Y → List Change) (xs : List X) (i : ℕ) (before after : Given) (old new : List Change) → length xs ≤ i → IsGrown s (flat_map f (map g (take i xs))) before after old new → IsGrown s (flat_map f (map g xs)) before after old new
  runs_all s g f xs i before after old new past so_far = subst (λ (l : List X). IsGrown s (flat_map f (map g l)) before after old new) (take_all i xs past) so_far

-- ---- what is found is listed

same_listed : (n : ℕ) → (n == n) ≡ true
same_listed n = grind (arith, nat_tests)

abbrev Known : List Entity → Item → Type 0
Known es i = is_listed i.entity.about.number (map (λ e. e.about) es) ≡ true

known_in : (es : List Entity) (search : Search) (t : ℕ) (part : Part) (e : Entity) → is_listed e.about.number (map (λ x. x.about) es) ≡ true → Each (Known es) (found_in search t e part)
known_in es search t part e there = go (filter (is_looked_for search t (leaf_of part e).sessions) (leaf_of part e).copies) where
  go : (cs : List StoredCopy) → Each (Known es) (map (item e part) cs)
  go [] = tt
  go (c ∷ cs) = (there, go cs)

known_of : (es : List Entity) (search : Search) (t : ℕ) (e : Entity) → is_listed e.about.number (map (λ x. x.about) es) ≡ true → Each (Known es) (found_of search t e)
known_of es search t e there =
    each_append (Known es) (found_in search t e Main ++ found_in search t e Dead) (found_in search t e Transfer)
    (each_append (Known es) (found_in search t e Main) (found_in search t e Dead) (known_in es search t Main e there) (known_in es search t Dead e there))
    (known_in es search t Transfer e there)

either_way : (a b : Bool) → b ≡ true → (a || b) ≡ true
either_way true b is = refl
either_way false b is = is

-- those of a namespace's own entities
known_each : (es xs : List Entity) → ((n : ℕ) → is_listed n (map (λ e. e.about) xs) ≡ true → is_listed n (map (λ e. e.about) es) ≡ true) → (search : Search) (t : ℕ) → Each (Known es) (flat_map (found_of search t) xs)
known_each es [] within search t = tt
known_each es (x ∷ xs) within search t =
    each_append (Known es) (found_of search t x) (flat_map (found_of search t) xs)
    (known_of es search t x (within x.about.number (ap (λ (b : Bool). b || is_listed x.about.number (map (λ (e : Entity). e.about) xs)) (same_listed x.about.number))))
    (known_each es xs (λ n there. within n (either_way (x.about.number == n) (is_listed n (map (λ (e : Entity). e.about) xs)) there)) search t)

pub found_listed : (s : Space) (search : Search) (t : ℕ) (items : List Item) → items ≡ flat_map (found_of search t) s.entities → Each (λ i. is_listed i.entity.about.number (listed s) ≡ true) items
found_listed s search t items are = subst (Each (λ i. is_listed i.entity.about.number (listed s) ≡ true)) (sym are) (known_each s.entities s.entities (λ n there. there) search t)

-- what holds of each item holds of the one of a row
pub each_read : {X Y : Type 0} (P : Y → Type 0) (g : X → Y) (xs : List X) (i : ℕ) (x : X) → i < length xs → x ≡ get_or xs i x → Each P (map g xs) → P (g x)
each_read P g [] i x within here each = absurd (omega arith)
each_read P g (y ∷ ys) zero x within here each = subst (λ z. P (g z)) (sym here) each.0
each_read P g (y ∷ ys) (suc i) x within here each = each_read P g ys i x (omega arith) here each.1

-- ---- sessions that are held no more give no numbers

abbrev Keeps : Change → Type 0
Keeps c = keeps_numbers c ≡ true

pub grown_keeping : (s : Space) (cs : List Change) (given : Given) (old new : List Change) → Each Keeps cs → new ≡ old ++ cs → IsGrown s cs given given old new
grown_keeping s cs given old new keeps is = record { changes = is; stands = λ t now stands. go t cs keeps now stands } where
  go : (t : ℕ) (cs : List Change) → Each Keeps cs → (now : Space) → Stands s given now → Stands s given (after_all t cs now)
  go t [] keeps now stands = stands
  go t (c ∷ cs) keeps now stands = go t cs keeps.1 (after t c now) (numbers_stand.keeping (listed s) (λ key. last_at key s) given t c now keeps.0 stands)

closes_keep : (t : ℕ) (e : Entity) (part : Part) (xs : List Session) → Each Keeps (flat_map (λ x. closes_due t e part x.holder) xs)
closes_keep t e part [] = tt
closes_keep t e part (x ∷ xs) = each_append Keeps (closes_due t e part x.holder) (flat_map (λ x. closes_due t e part x.holder) xs) (at x.holder) (closes_keep t e part xs) where
  at : (o : Option Holder) → Each Keeps (closes_due t e part o)
  at None = tt
  at (Some h) = go (nat_le h.until t) where
    go : (b : Bool) → Each Keeps (if b then in_part part e (Closes h.lock) ∷ [] else [])
    go true = (refl, tt)
    go false = tt

sessions_keep : (t : ℕ) (es : List Entity) → Each Keeps (flat_map (λ e. closes_in t e Main ++ closes_in t e Dead ++ closes_in t e Transfer) es)
sessions_keep t [] = tt
sessions_keep t (e ∷ es) =
    each_append Keeps (closes_in t e Main ++ closes_in t e Dead ++ closes_in t e Transfer) (flat_map (λ e. closes_in t e Main ++ closes_in t e Dead ++ closes_in t e Transfer) es)
    (each_append Keeps (closes_in t e Main ++ closes_in t e Dead) (closes_in t e Transfer)
    (each_append Keeps (closes_in t e Main) (closes_in t e Dead) (closes_keep t e Main e.main.sessions) (closes_keep t e Dead e.dead.sessions)) (closes_keep t e Transfer e.transfer.sessions))
    (sessions_keep t es)

pub grown_locks : (t : ℕ) (s : Space) (items : List Item) (before after : Given) (old mid new : List Change) → items ≡ due_locks t s → mid ≡ old ++ due_sessions t s
    → IsGrown s (flat_map (λ i. released (listed s) t i.entity i.part i.copy true false) items) before after mid new → IsGrown s (sweep_locks t s) before after old new
grown_locks t s items before after old mid new are closed freed =
    grown_more s (due_sessions t s) (flat_map (λ i. released (listed s) t i.entity i.part i.copy true false) (due_locks t s)) before before after old mid new
    (grown_keeping s (due_sessions t s) before old mid (sessions_keep t s.entities) closed)
    (subst (λ (l : List Item). IsGrown s (flat_map (λ i. released (listed s) t i.entity i.part i.copy true false) l) before after mid new) are freed)
