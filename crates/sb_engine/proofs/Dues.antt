-- Something comes due by itself exactly where something is due.
use Rattle.std.proofs.Common.{Bool, List, None, Option, Some, [], ap, cond, false, filter, map, refl, sym, true, ℕ, ◌&&◌, ◌++◌, ◌+◌, ◌*◌, ◌∙◌, ◌∷◌, ◌≡◌}
use Rattle.std.specs.Prelude.{if◌then◌else◌, nat_le, not, ◌||◌, ◌==◌}
use Rattle.std.specs.List.{flat_map, list_any}
use Rattle.sb_machine.specs.Delivery.{in_part, is_expired}
use Rattle.sb_machine.specs.Due.{closes_due, closes_in, due_expired, due_locks, due_scheduled, due_sessions, due_transactions, is_due, is_none_in, items_in, items_of}
use Rattle.sb_machine.specs.Leases.{has_come, has_ended, is_ended_holder, is_over, is_ready}
use Rattle.sb_machine.specs.Names.{is_main}
use Rattle.sb_machine.specs.Namespace.{leaf_of}
use Rattle.sb_machine.specs.declared.call.Part.{Part}
use Rattle.sb_machine.specs.declared.call.Part.TheVariants.{Dead, Main, Transfer}
use Rattle.sb_machine.specs.declared.change.Change.{Change}
use Rattle.sb_machine.specs.declared.change.Change.TheVariants.{Drops}
use Rattle.sb_machine.specs.declared.change.LeafChange.TheVariants.{Closes}
use Rattle.sb_machine.specs.declared.state.Entity.{Entity}
use Rattle.sb_machine.specs.declared.state.Hold.{Hold}
use Rattle.sb_machine.specs.declared.state.Hold.TheVariants.{Session as UnderSession, Until}
use Rattle.sb_machine.specs.declared.state.Holder.{Holder}
use Rattle.sb_machine.specs.declared.state.Leaf.{Leaf}
use Rattle.sb_machine.specs.declared.state.Session.{Session}
use Rattle.sb_machine.specs.declared.state.Space.{Space}
use Rattle.sb_machine.specs.declared.state.Standing.{Standing}
use Rattle.sb_machine.specs.declared.state.Standing.TheVariants.{Deferred, Held, Ready, Scheduled}
use Rattle.sb_machine.specs.declared.state.StoredCopy.{StoredCopy}
use Rattle.sb_engine.specs.Deadlines.{comes, comes_in, comes_of, copy_deadline, copy_expiry, expiry, has_passed, hold_deadline, session_deadline, standing_deadline}

-- ---- tests

either_nothing : (a : Bool) → (a || false) ≡ a
either_nothing true = refl
either_nothing false = refl

crossed : (a b c d : Bool) → ((a || b) || (c || d)) ≡ ((a || c) || (b || d))
crossed true b c d = refl
crossed false true true d = refl
crossed false true false d = refl
crossed false false true d = refl
crossed false false false d = refl

crossed_thrice : (a b c d e f : Bool) → ((a || b) || (c || d) || (e || f)) ≡ ((a || c || e) || (b || d || f))
crossed_thrice a b c d e f = ap (λ (x : Bool). x || (e || f)) (crossed a b c d) ∙ crossed (a || c) (b || d) e f

pub neither : (a b : Bool) → (a || b) ≡ false → (a ≡ false) × (b ≡ false)
neither true b is = absurd cc
neither false b is = (refl, is)

-- ---- something in a list

abbrev pub some : {Y : Type 0} → List Y → Bool
some ys = not (is_none_in ys)

some_append : {Y : Type 0} (xs ys : List Y) → some (xs ++ ys) ≡ (some xs || some ys)
some_append [] ys = refl
some_append (x ∷ xs) ys = refl

some_thrice : {Y : Type 0} (xs ys zs : List Y) → some (xs ++ ys ++ zs) ≡ (some xs || some ys || some zs)
some_thrice xs ys zs = some_append (xs ++ ys) zs ∙ ap (λ (b : Bool). b || some zs) (some_append xs ys)

some_flat : {X Y : Type 0} (f : X → List Y) (xs : List X) → some (flat_map f xs) ≡ list_any (λ x. some (f x)) xs
some_flat f [] = refl
some_flat f (x ∷ xs) = some_append (f x) (flat_map f xs) ∙ ap (λ (b : Bool). some (f x) || b) (some_flat f xs)

pub some_passed : {X Y : Type 0} (g : X → Y) (p : X → Bool) (xs : List X) → some (map g (filter p xs)) ≡ list_any p xs
some_passed g p [] = refl
some_passed g p (x ∷ xs) = go (p x) (some_passed g p xs) where
  go : (b : Bool) → some (map g (filter p xs)) ≡ list_any p xs → some (map g (cond b (x ∷ filter p xs) (filter p xs))) ≡ (b || list_any p xs)
  go true ih = refl
  go false ih = ih

-- ---- tests over a list

module _ {X : Type 0} where
  any_or : (p q : X → Bool) (xs : List X) → (list_any p xs || list_any q xs) ≡ list_any (λ x. p x || q x) xs
  any_or p q [] = refl
  any_or p q (x ∷ xs) = crossed (p x) (list_any p xs) (q x) (list_any q xs) ∙ ap (λ (b : Bool). (p x || q x) || b) (any_or p q xs)

  pub any_same : (p q : X → Bool) → ((x : X) → p x ≡ q x) → (xs : List X) → list_any p xs ≡ list_any q xs
  any_same p q same [] = refl
  any_same p q same (x ∷ xs) = ap (λ (b : Bool). b || list_any p xs) (same x) ∙ ap (λ (b : Bool). q x || b) (any_same p q same xs)

  -- beside another test, where that fails
  any_beside : (s : Bool) (p q : X → Bool) → (s ≡ false → (x : X) → p x ≡ q x) → (xs : List X) → (s || list_any p xs) ≡ (s || list_any q xs)
  any_beside true p q same xs = refl
  any_beside false p q same xs = any_same p q (same refl) xs

  pub none_of : (p q : X → Bool) → ((x : X) → p x ≡ false → q x ≡ false) → (xs : List X) → list_any p xs ≡ false → list_any q xs ≡ false
  none_of p q fewer [] none = refl
  none_of p q fewer (x ∷ xs) none =
      let its = neither (p x) (list_any p xs) none in
      ap (λ (b : Bool). b || list_any q xs) (fewer x its.0) ∙ none_of p q fewer xs its.1

-- ---- one part

module _ (t : ℕ) (part : Part) where
  abbrev expires : StoredCopy → Bool
  expires c = is_main part && (is_ready c.standing && is_expired t c)

  -- a session whose lock has ended is one that comes due
  pub ended_holder : (l : ℕ) (o : Option Holder) → has_passed t (elim o [ Some h ↦ Some h.until | None ↦ None ]) ≡ false → ◌≡◌ {A = Bool} (elim o [ Some h ↦ (h.lock == l) && nat_le h.until t | None ↦ false ]) false
  ended_holder l None is = refl
  ended_holder l (Some h) is = go (h.lock == l) where
    go : (b : Bool) → (b && nat_le h.until t) ≡ false
    go true = is
    go false = refl

  expired_as : (enqueued : ℕ) (ttl : Option ℕ) → ◌≡◌ {A = Bool} (elim ttl [ Some seconds ↦ nat_le (enqueued + 1000 * seconds) t | None ↦ false ]) (has_passed t (expiry enqueued ttl))
  expired_as enqueued None = refl
  expired_as enqueued (Some seconds) = refl

  ready_as : (c : StoredCopy) → ((is_main part && (true && is_expired t c)) || false) ≡ has_passed t (if is_main part then copy_expiry c else None)
  ready_as c = either_nothing (is_main part && is_expired t c) ∙ go (is_main part) where
    go : (b : Bool) → (b && is_expired t c) ≡ has_passed t (if b then copy_expiry c else None)
    go true = expired_as c.enqueued c.message.ttl
    go false = refl

  unready : (old : Bool) → (is_main part && (false && old)) ≡ false
  unready old = go (is_main part) where
    go : (b : Bool) → (b && false) ≡ false
    go true = refl
    go false = refl

  -- a copy, where no session of its part comes due
  copy_as : (sessions : List Session) → list_any (λ x. has_passed t (session_deadline x)) sessions ≡ false → (c : StoredCopy) → (has_ended t sessions c.standing || (expires c || has_come t c.standing)) ≡ has_passed t (copy_deadline part c)
  copy_as sessions none c = at c.standing where
    over : (hold : Hold) → is_over t sessions hold ≡ has_passed t (hold_deadline hold)
    over (Until u) = refl
    over (UnderSession l) = none_of (λ x. has_passed t (session_deadline x)) (is_ended_holder t l) (λ x is. ended_holder l x.holder is) sessions none

    at : (standing : Standing) → (has_ended t sessions standing || ((is_main part && (is_ready standing && is_expired t c)) || has_come t standing)) ≡ has_passed t (standing_deadline part (copy_expiry c) standing)
    at Ready = ready_as c
    at Deferred = ap (λ (b : Bool). b || false) (unready (is_expired t c))
    at (Held lock hold deferred) =
        ap (λ (b : Bool). is_over t sessions hold || (b || false)) (unready (is_expired t c)) ∙ either_nothing (is_over t sessions hold) ∙ over hold
    at (Scheduled moment) = ap (λ (b : Bool). b || nat_le moment t) (unready (is_expired t c))

  part_as : (leaf : Leaf) → (list_any (λ x. has_passed t (session_deadline x)) leaf.sessions || (list_any (λ c. has_ended t leaf.sessions c.standing) leaf.copies || (list_any expires leaf.copies || list_any (λ c. has_come t c.standing) leaf.copies))) ≡ comes_in t part leaf
  part_as leaf =
      let s = list_any (λ (x : Session). has_passed t (session_deadline x)) leaf.sessions in
      ap (λ (b : Bool). s || (list_any (λ (c : StoredCopy). has_ended t leaf.sessions c.standing) leaf.copies || b)) (any_or expires (λ c. has_come t c.standing) leaf.copies)
      ∙ ap (λ (b : Bool). s || b) (any_or (λ c. has_ended t leaf.sessions c.standing) (λ c. expires c || has_come t c.standing) leaf.copies)
      ∙ any_beside s (λ c. has_ended t leaf.sessions c.standing || (expires c || has_come t c.standing)) (λ c. has_passed t (copy_deadline part c)) (λ none c. copy_as leaf.sessions none c) leaf.copies

  -- ---- what is due in it

  pub sessions_due : (e : Entity) → some (closes_in t e part) ≡ list_any (λ x. has_passed t (session_deadline x)) (leaf_of part e).sessions
  sessions_due e = some_flat (λ x. closes_due t e part x.holder) (leaf_of part e).sessions ∙ any_same (λ x. some (closes_due t e part x.holder)) (λ x. has_passed t (session_deadline x)) (λ x. at x.holder) (leaf_of part e).sessions where
    at : (o : Option Holder) → some (closes_due t e part o) ≡ has_passed t (elim o [ Some h ↦ Some h.until | None ↦ None ])
    at None = refl
    at (Some h) = go (nat_le h.until t) where
      go : (b : Bool) → some (if b then in_part part e (Closes h.lock) ∷ [] else []) ≡ b
      go true = refl
      go false = refl

  items_due : (p : Leaf → StoredCopy → Bool) (e : Entity) → some (items_in p e part) ≡ list_any (p (leaf_of part e)) (leaf_of part e).copies
  items_due p e = some_passed (λ c. record { entity = e; part = part; copy = c }) (p (leaf_of part e)) (leaf_of part e).copies

-- ---- an entity

abbrev ended : ℕ → Leaf → StoredCopy → Bool
ended t leaf c = has_ended t leaf.sessions c.standing

abbrev old : ℕ → Leaf → StoredCopy → Bool
old t leaf c = is_ready c.standing && is_expired t c

abbrev ripe : ℕ → Leaf → StoredCopy → Bool
ripe t leaf c = has_come t c.standing

abbrev closes_of : ℕ → Entity → List Change
closes_of t e = closes_in t e Main ++ closes_in t e Dead ++ closes_in t e Transfer

none_old : {X : Type 0} (xs : List X) → list_any (λ x. false) xs ≡ false
none_old [] = refl
none_old (x ∷ xs) = none_old xs

in_three : (t : ℕ) (p : Leaf → StoredCopy → Bool) (e : Entity) → some (items_of p e) ≡ (list_any (p e.main) e.main.copies || list_any (p e.dead) e.dead.copies || list_any (p e.transfer) e.transfer.copies)
in_three t p e =
    some_thrice (items_in p e Main) (items_in p e Dead) (items_in p e Transfer)
    ∙ ap (λ (b : Bool). b || some (items_in p e Dead) || some (items_in p e Transfer)) (items_due t Main p e)
    ∙ ap (λ (b : Bool). list_any (p e.main) e.main.copies || b || some (items_in p e Transfer)) (items_due t Dead p e)
    ∙ ap (λ (b : Bool). list_any (p e.main) e.main.copies || list_any (p e.dead) e.dead.copies || b) (items_due t Transfer p e)

closed_in_three : (t : ℕ) (e : Entity) → some (closes_of t e) ≡ (list_any (λ x. has_passed t (session_deadline x)) e.main.sessions || list_any (λ x. has_passed t (session_deadline x)) e.dead.sessions || list_any (λ x. has_passed t (session_deadline x)) e.transfer.sessions)
closed_in_three t e =
    let p = λ (x : Session). has_passed t (session_deadline x) in
    some_thrice (closes_in t e Main) (closes_in t e Dead) (closes_in t e Transfer)
    ∙ ap (λ (b : Bool). b || some (closes_in t e Dead) || some (closes_in t e Transfer)) (sessions_due t Main e)
    ∙ ap (λ (b : Bool). list_any p e.main.sessions || b || some (closes_in t e Transfer)) (sessions_due t Dead e)
    ∙ ap (λ (b : Bool). list_any p e.main.sessions || list_any p e.dead.sessions || b) (sessions_due t Transfer e)

-- what is looked for in turn against part by part
by_part : (s1 s2 s3 l1 l2 l3 x c1 c2 c3 : Bool) → ((s1 || s2 || s3) || ((l1 || l2 || l3) || (x || (c1 || c2 || c3)))) ≡ ((s1 || (l1 || (x || c1))) || (s2 || (l2 || (false || c2))) || (s3 || (l3 || (false || c3))))
by_part s1 s2 s3 l1 l2 l3 x c1 c2 c3 = sym (
    crossed_thrice s1 (l1 || (x || c1)) s2 (l2 || c2) s3 (l3 || c3)
    ∙ ap (λ (b : Bool). (s1 || s2 || s3) || b) (crossed_thrice l1 (x || c1) l2 c2 l3 c3)
    ∙ ap (λ (b : Bool). (s1 || s2 || s3) || ((l1 || l2 || l3) || b)) (front x))
  where
    front : (b : Bool) → ((b || c1) || c2 || c3) ≡ (b || (c1 || c2 || c3))
    front true = refl
    front false = refl

entity_as : (t : ℕ) (e : Entity) → (some (closes_of t e) || (some (items_of (ended t) e) || (some (items_in (old t) e Main) || some (items_of (ripe t) e)))) ≡ comes_of t e
entity_as t e =
    let p = λ (x : Session). has_passed t (session_deadline x) in
    let came = list_any (ripe t e.main) e.main.copies || list_any (ripe t e.dead) e.dead.copies || list_any (ripe t e.transfer) e.transfer.copies in
    let over = list_any (ended t e.main) e.main.copies || list_any (ended t e.dead) e.dead.copies || list_any (ended t e.transfer) e.transfer.copies in
    ap (λ (b : Bool). b || (some (items_of (ended t) e) || (some (items_in (old t) e Main) || some (items_of (ripe t) e)))) (closed_in_three t e)
    ∙ ap (λ (b : Bool). (list_any p e.main.sessions || list_any p e.dead.sessions || list_any p e.transfer.sessions) || (b || (some (items_in (old t) e Main) || some (items_of (ripe t) e)))) (in_three t (ended t) e)
    ∙ ap (λ (b : Bool). (list_any p e.main.sessions || list_any p e.dead.sessions || list_any p e.transfer.sessions) || (over || (b || some (items_of (ripe t) e)))) (items_due t Main (old t) e)
    ∙ ap (λ (b : Bool). (list_any p e.main.sessions || list_any p e.dead.sessions || list_any p e.transfer.sessions) || (over || (list_any (old t e.main) e.main.copies || b))) (in_three t (ripe t) e)
    ∙ by_part (list_any p e.main.sessions) (list_any p e.dead.sessions) (list_any p e.transfer.sessions)
    (list_any (ended t e.main) e.main.copies) (list_any (ended t e.dead) e.dead.copies) (list_any (ended t e.transfer) e.transfer.copies)
    (list_any (old t e.main) e.main.copies)
    (list_any (ripe t e.main) e.main.copies) (list_any (ripe t e.dead) e.dead.copies) (list_any (ripe t e.transfer) e.transfer.copies)
    ∙ ap (λ (b : Bool). b || (list_any p e.dead.sessions || (list_any (ended t e.dead) e.dead.copies || list_any (ripe t e.dead) e.dead.copies)) || (list_any p e.transfer.sessions || (list_any (ended t e.transfer) e.transfer.copies || list_any (ripe t e.transfer) e.transfer.copies))) (part_as t Main e.main)
    ∙ ap (λ (b : Bool). comes_in t Main e.main || b || (list_any p e.transfer.sessions || (list_any (ended t e.transfer) e.transfer.copies || list_any (ripe t e.transfer) e.transfer.copies))) (beside t Dead refl e.dead)
    ∙ ap (λ (b : Bool). comes_in t Main e.main || comes_in t Dead e.dead || b) (beside t Transfer refl e.transfer)
  where
    -- in a part that isn't the main one nothing expires
    beside : (t : ℕ) (part : Part) → is_main part ≡ false → (leaf : Leaf) → (list_any (λ x. has_passed t (session_deadline x)) leaf.sessions || (list_any (ended t leaf) leaf.copies || list_any (ripe t leaf) leaf.copies)) ≡ comes_in t part leaf
    beside t part other leaf =
        sym (ap (λ (b : Bool). list_any (λ (x : Session). has_passed t (session_deadline x)) leaf.sessions || (list_any (ended t leaf) leaf.copies || (b || list_any (ripe t leaf) leaf.copies)))
        (any_same (expires t part) (λ c. false) (λ c. ap (λ (b : Bool). b && (is_ready c.standing && is_expired t c)) other) leaf.copies ∙ none_old leaf.copies))
        ∙ part_as t part leaf

-- ---- all of them

four_over : {X : Type 0} (p q r w z : X → Bool) → ((x : X) → (p x || (q x || (r x || w x))) ≡ z x) → (xs : List X) → (list_any p xs || (list_any q xs || (list_any r xs || list_any w xs))) ≡ list_any z xs
four_over p q r w z same xs =
    ap (λ (b : Bool). list_any p xs || (list_any q xs || b)) (any_or r w xs)
    ∙ ap (λ (b : Bool). list_any p xs || b) (any_or q (λ x. r x || w x) xs)
    ∙ any_or p (λ x. q x || (r x || w x)) xs
    ∙ any_same (λ x. p x || (q x || (r x || w x))) z same xs

not_all_none : (a b c d e : Bool) → not (a && b && c && d && e) ≡ ((not a || (not b || (not c || not d))) || not e)
not_all_none false b c d e = refl
not_all_none true false c d e = refl
not_all_none true true false d e = refl
not_all_none true true true false e = refl
not_all_none true true true true e = refl

pub comes_is_due : (t : ℕ) (s : Space) → comes t s ≡ is_due t s
comes_is_due t s = sym (
    not_all_none (is_none_in (due_sessions t s)) (is_none_in (due_locks t s)) (is_none_in (due_expired t s)) (is_none_in (due_scheduled t s)) (is_none_in (due_transactions t s))
    ∙ ap (λ (b : Bool). (b || (some (due_locks t s) || (some (due_expired t s) || some (due_scheduled t s)))) || some (due_transactions t s)) (some_flat (closes_of t) s.entities)
    ∙ ap (λ (b : Bool). (list_any (λ (e : Entity). some (closes_of t e)) s.entities || (b || (some (due_expired t s) || some (due_scheduled t s)))) || some (due_transactions t s)) (some_flat (items_of (ended t)) s.entities)
    ∙ ap (λ (b : Bool). (list_any (λ (e : Entity). some (closes_of t e)) s.entities || (list_any (λ (e : Entity). some (items_of (ended t) e)) s.entities || (b || some (due_scheduled t s)))) || some (due_transactions t s)) (some_flat (λ e. items_in (old t) e Main) s.entities)
    ∙ ap (λ (b : Bool). (list_any (λ (e : Entity). some (closes_of t e)) s.entities || (list_any (λ (e : Entity). some (items_of (ended t) e)) s.entities || (list_any (λ (e : Entity). some (items_in (old t) e Main)) s.entities || b))) || some (due_transactions t s)) (some_flat (items_of (ripe t)) s.entities)
    ∙ ap (λ (b : Bool). b || some (due_transactions t s)) (four_over (λ e. some (closes_of t e)) (λ e. some (items_of (ended t) e)) (λ e. some (items_in (old t) e Main)) (λ e. some (items_of (ripe t) e)) (comes_of t) (entity_as t) s.entities)
    ∙ ap (λ (b : Bool). list_any (comes_of t) s.entities || b) (some_passed (λ x. Drops x.number) (λ x. nat_le x.deadline t) s.transactions))
