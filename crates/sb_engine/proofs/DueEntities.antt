-- What the least moments tell of what is due, and that a sweep finds nothing in an entity of which nothing is.
use Rattle.std.proofs.Common.{Bool, List, None, Option, Some, [], ap, arith, cond, false, filter, map, min, refl, sym, true, ℕ, ◌++◌, ◌<◌, ◌≤◌, ◌∙◌, ◌∷◌, ◌≡◌}
use Rattle.std.specs.Prelude.{nat_le, not, ◌||◌}
use Rattle.std.specs.List.{flat_map, fold, list_any}
use Rattle.std.proofs.lemmas.Bool.Decides.{nat_tests}
use Rattle.sb_machine.specs.Due.{closes_in, is_due as is_due_in}
use Rattle.sb_machine.specs.Names.{is_main}
use Rattle.sb_machine.specs.Namespace.{leaf_of}
use Rattle.sb_machine.specs.declared.call.Part.{Part}
use Rattle.sb_machine.specs.declared.call.Part.TheVariants.{Dead, Main, Transfer}
use Rattle.sb_machine.specs.declared.state.Entity.{Entity}
use Rattle.sb_machine.specs.declared.state.Holder.{Holder}
use Rattle.sb_machine.specs.declared.state.Leaf.{Leaf}
use Rattle.sb_machine.specs.declared.state.Session.{Session}
use Rattle.sb_machine.specs.declared.state.Space.{Space}
use Rattle.sb_machine.specs.declared.state.StoredCopy.{StoredCopy}
use Rattle.sb_machine.specs.declared.state.Transaction.{Transaction}
use Rattle.sb_copies.specs.Dues.{due_of, is_due, least_of, moment_of, never}
use Rattle.sb_sessions.specs.Ends.{end_of, least_end}
use Rattle.sb_entities.specs.EntityDues.{due_entities, entity_due, is_due_by, leaf_due, least_due_of}
use Rattle.sb_engine.specs.Deadlines.{comes, comes_in, comes_of, copy_deadline, has_passed, least_deadline, session_deadline, soonest}
use Rattle.sb_engine.specs.Sweeps.{found_in, found_of, is_looked_for, is_told, item, reach}
use Rattle.sb_engine.specs.declared.time.finding.Search.{Search}
use Rattle.sb_engine.specs.declared.time.finding.Search.TheVariants.{Come, Ended, Expired}
use Rattle.sb_engine.proofs.Dues.{comes_is_due, neither, none_of, sessions_due, some, some_passed}
use Rattle.sb_engine.proofs.Told.{any_due, due_as, fold_due, min_due, or_assoc, passed, told_one}

or_comm : (a b : Bool) → (a || b) ≡ (b || a)
or_comm true true = refl
or_comm true false = refl
or_comm false true = refl
or_comm false false = refl

-- ---- whether one is due

end_as : (x : Session) → end_of x ≡ moment_of (session_deadline x)
end_as x = at x.holder where
  at : (o : Option Holder) → ◌≡◌ {A = ℕ} (elim o [ Some h ↦ min h.until never | None ↦ never ]) (moment_of (elim o [ Some h ↦ Some h.until | None ↦ None ]))
  at None = refl
  at (Some h) = refl

module _ (t : ℕ) (before : t < never) where
  ended_as : (x : Session) → nat_le (end_of x) t ≡ has_passed t (session_deadline x)
  ended_as x = ap (λ (m : ℕ). nat_le m t) (end_as x) ∙ passed t before (session_deadline x)

  part_as : (part : Part) (leaf : Leaf) → nat_le (leaf_due (is_main part) leaf) t ≡ comes_in t part leaf
  part_as part leaf =
      let copies = list_any (λ (c : StoredCopy). has_passed t (copy_deadline part c)) leaf.copies in
      let sessions = list_any (λ (x : Session). has_passed t (session_deadline x)) leaf.sessions in
      min_due (least_of (is_main part) leaf.copies) (least_end leaf.sessions) t
      ∙ ap (λ (b : Bool). b || nat_le (least_end leaf.sessions) t) (any_due (due_of (is_main part)) (λ c. has_passed t (copy_deadline part c)) t before (due_as part (is_main part) t refl before) leaf.copies)
      ∙ ap (λ (b : Bool). copies || b) (any_due end_of (λ x. has_passed t (session_deadline x)) t before ended_as leaf.sessions)
      ∙ or_comm copies sessions

  entity_as : (e : Entity) → is_due_by t e ≡ comes_of t e
  entity_as e =
      let main = leaf_due true e.main in
      let dead = leaf_due false e.dead in
      let transfer = leaf_due false e.transfer in
      min_due main (min dead transfer) t
      ∙ ap (λ (b : Bool). nat_le main t || b) (min_due dead transfer t)
      ∙ sym (or_assoc (nat_le main t) (nat_le dead t) (nat_le transfer t))
      ∙ ap (λ (b : Bool). b || nat_le dead t || nat_le transfer t) (part_as Main e.main)
      ∙ ap (λ (b : Bool). comes_in t Main e.main || b || nat_le transfer t) (part_as Dead e.dead)
      ∙ ap (λ (b : Bool). comes_in t Main e.main || comes_in t Dead e.dead || b) (part_as Transfer e.transfer)

  least_tells : (es : List Entity) → nat_le (least_due_of es) t ≡ list_any (comes_of t) es
  least_tells es = any_due entity_due (comes_of t) t before entity_as es

-- ---- the first moment

module _ (t : ℕ) (s : Space) where
  soonest_comes : t < never → nat_le (soonest s) t ≡ comes t s
  soonest_comes before =
      min_due (least_due_of s.entities) (least_deadline s.transactions) t
      ∙ ap (λ (b : Bool). b || nat_le (least_deadline s.transactions) t) (least_tells t before s.entities)
      ∙ ap (λ (b : Bool). list_any (comes_of t) s.entities || b) (any_due (λ (x : Transaction). x.deadline) (λ (x : Transaction). nat_le x.deadline t) t before (λ x. refl) s.transactions)

  pub soonest_tells : t < never → nat_le (soonest s) t ≡ is_due_in t s
  soonest_tells before = soonest_comes before ∙ comes_is_due t s

  -- none is past the last that there is
  least_within : (m : ℕ) (ms : List ℕ) → fold min m ms ≤ m
  least_within m [] = omega arith
  least_within m (x ∷ ms) = let next : fold min (min m x) ms ≤ min m x = least_within (min m x) ms in omega (arith, next)

  pub none_sooner : t < soonest s → is_due_in t s ≡ false
  none_sooner sooner =
      let within : least_deadline s.transactions ≤ never = least_within never (map (λ (x : Transaction). x.deadline) s.transactions) in
      sym (soonest_tells (below (least_due_of s.entities) (least_deadline s.transactions) sooner within)) ∙ past (soonest s) sooner
    where
      below : (a b : ℕ) → t < min a b → b ≤ never → t < never
      below a b lt le = omega (arith, lt, le)

      past : (m : ℕ) → t < m → nat_le m t ≡ false
      past m is = grind (arith, nat_tests)

pub due_at_soonest : (s : Space) → soonest s < never → is_due_in (soonest s) s ≡ true
due_at_soonest s before = sym (soonest_tells (soonest s) s before) ∙ reached (soonest s) where
  reached : (m : ℕ) → nat_le m m ≡ true
  reached m = grind (arith, nat_tests)

-- ---- what isn't due is left alone

not_ended : (t : ℕ) (x : Session) → nat_le (end_of x) t ≡ false → has_passed t (session_deadline x) ≡ false
not_ended t x is = at x.holder is where
  over : (u : ℕ) → nat_le (min u never) t ≡ false → nat_le u t ≡ false
  over u e = grind (arith, nat_tests)

  at : (o : Option Holder) → ◌≡◌ {A = Bool} (nat_le (elim o [ Some h ↦ min h.until never | None ↦ never ]) t) false → has_passed t (elim o [ Some h ↦ Some h.until | None ↦ None ]) ≡ false
  at None e = refl
  at (Some h) e = over h.until e

-- nothing of a part is due
record IsQuiet (t : ℕ) (expires : Bool) (leaf : Leaf) : Type 0 where
  sessions : list_any (λ x. has_passed t (session_deadline x)) leaf.sessions ≡ false
  copies : list_any (is_due expires t) leaf.copies ≡ false

none_by : {X : Type 0} (f : X → ℕ) (t : ℕ) (xs : List X) → nat_le (fold min never (map f xs)) t ≡ false → list_any (λ x. nat_le (f x) t) xs ≡ false
none_by f t xs is = (neither (nat_le never t) (list_any (λ x. nat_le (f x) t) xs) (sym (fold_due f t never xs) ∙ is)).1

quiet_in : (t : ℕ) (expires : Bool) (leaf : Leaf) → nat_le (leaf_due expires leaf) t ≡ false → IsQuiet t expires leaf
quiet_in t expires leaf is =
    let each = neither (nat_le (least_of expires leaf.copies) t) (nat_le (least_end leaf.sessions) t) (sym (min_due (least_of expires leaf.copies) (least_end leaf.sessions) t) ∙ is) in
    record {
      sessions = none_of (λ x. nat_le (end_of x) t) (λ x. has_passed t (session_deadline x)) (not_ended t) leaf.sessions (none_by end_of t leaf.sessions each.1);
      copies = none_by (due_of expires) t leaf.copies each.0;
    }

-- nothing of an entity is
record AreQuiet (t : ℕ) (e : Entity) : Type 0 where
  main : IsQuiet t true e.main
  dead : IsQuiet t false e.dead
  transfer : IsQuiet t false e.transfer

quiet_of : (t : ℕ) (e : Entity) → is_due_by t e ≡ false → AreQuiet t e
quiet_of t e is =
    let main = leaf_due true e.main in
    let dead = leaf_due false e.dead in
    let transfer = leaf_due false e.transfer in
    let first = neither (nat_le main t) (nat_le (min dead transfer) t) (sym (min_due main (min dead transfer) t) ∙ is) in
    let others = neither (nat_le dead t) (nat_le transfer t) (sym (min_due dead transfer t) ∙ first.1) in
    record { main = quiet_in t true e.main first.0; dead = quiet_in t false e.dead others.0; transfer = quiet_in t false e.transfer others.1 }

nothing : {Y : Type 0} (ys : List Y) → some ys ≡ false → ys ≡ []
nothing [] is = refl
nothing (y ∷ ys) is = absurd (let bad : true ≡ false = is in cc)

fewer : {X : Type 0} (p q : X → Bool) → ((x : X) → q x ≡ true → p x ≡ true) → (x : X) → p x ≡ false → q x ≡ false
fewer p q within x is = at (q x) refl where
  at : (b : Bool) → q x ≡ b → q x ≡ false
  at true e = absurd (let bad : true ≡ false = sym (within x e) ∙ is in cc)
  at false e = e

unfound : (search : Search) (t : ℕ) (expires : Bool) (e : Entity) (part : Part) → is_told search t (leaf_of part e).sessions expires ≡ true → list_any (is_due expires t) (leaf_of part e).copies ≡ false → found_in search t e part ≡ []
unfound search t expires e part told is =
    let sessions = (leaf_of part e).sessions in
    let copies = (leaf_of part e).copies in
    nothing (found_in search t e part)
    (some_passed (item e part) (is_looked_for search t sessions) copies
    ∙ none_of (is_due expires t) (is_looked_for search t sessions) (fewer (is_due expires t) (is_looked_for search t sessions) (told_one search t sessions expires told)) copies is)

none_ended : (t : ℕ) (expires : Bool) (leaf : Leaf) → IsQuiet t expires leaf → is_told Ended t leaf.sessions expires ≡ true
none_ended t expires leaf q = ap not q.sessions

main_unfound : (search : Search) (t : ℕ) (e : Entity) → is_due_by t e ≡ false → found_in search t e Main ≡ []
main_unfound search t e is = let q = (quiet_of t e is).main in unfound search t true e Main (told search q) q.copies where
  told : (search : Search) → IsQuiet t true e.main → is_told search t e.main.sessions true ≡ true
  told Ended q = none_ended t true e.main q
  told Expired q = refl
  told Come q = refl

module _ {Y : Type 0} where
  three_none : (xs ys zs : List Y) → xs ≡ [] → ys ≡ [] → zs ≡ [] → xs ++ ys ++ zs ≡ []
  three_none xs ys zs x y z = ap (λ (l : List Y). l ++ ys ++ zs) x ∙ ap (λ (l : List Y). l ++ zs) y ∙ z

-- by the last moment that there is, each has come due
all_by_never : {X : Type 0} (f : X → ℕ) (xs : List X) → nat_le (fold min never (map f xs)) never ≡ true
all_by_never f xs = fold_due f never never xs

leaf_by_never : (expires : Bool) (leaf : Leaf) → nat_le (leaf_due expires leaf) never ≡ true
leaf_by_never expires leaf =
    min_due (least_of expires leaf.copies) (least_end leaf.sessions) never
    ∙ ap (λ (b : Bool). b || nat_le (least_end leaf.sessions) never) (all_by_never (due_of expires) leaf.copies)

by_never : (e : Entity) → is_due_by never e ≡ true
by_never e =
    let others = min (leaf_due false e.dead) (leaf_due false e.transfer) in
    min_due (leaf_due true e.main) others never
    ∙ ap (λ (b : Bool). b || nat_le others never) (leaf_by_never true e.main)

all_unfound : (search : Search) (t : ℕ) (e : Entity) → is_due_by (reach search t) e ≡ false → found_of search t e ≡ []
all_unfound Ended t e is =
    let q = quiet_of t e is in
    three_none (found_in Ended t e Main) (found_in Ended t e Dead) (found_in Ended t e Transfer)
    (unfound Ended t true e Main (none_ended t true e.main q.main) q.main.copies)
    (unfound Ended t false e Dead (none_ended t false e.dead q.dead) q.dead.copies)
    (unfound Ended t false e Transfer (none_ended t false e.transfer q.transfer) q.transfer.copies)
all_unfound Expired t e is = absurd (let bad : true ≡ false = sym (by_never e) ∙ is in cc)
all_unfound Come t e is =
    let q = quiet_of t e is in
    three_none (found_in Come t e Main) (found_in Come t e Dead) (found_in Come t e Transfer)
    (unfound Come t true e Main refl q.main.copies)
    (unfound Come t false e Dead refl q.dead.copies)
    (unfound Come t false e Transfer refl q.transfer.copies)

unclosed : (t : ℕ) (e : Entity) → is_due_by t e ≡ false → closes_in t e Main ++ closes_in t e Dead ++ closes_in t e Transfer ≡ []
unclosed t e is =
    let q = quiet_of t e is in
    three_none (closes_in t e Main) (closes_in t e Dead) (closes_in t e Transfer)
    (nothing (closes_in t e Main) (sessions_due t Main e ∙ q.main.sessions))
    (nothing (closes_in t e Dead) (sessions_due t Dead e ∙ q.dead.sessions))
    (nothing (closes_in t e Transfer) (sessions_due t Transfer e ∙ q.transfer.sessions))

-- ---- the due ones alone

module _ {X Y : Type 0} (p : X → Bool) (f : X → List Y) (empty : (x : X) → p x ≡ false → f x ≡ []) where
  flat_within : (xs : List X) → flat_map f (filter p xs) ≡ flat_map f xs
  flat_within [] = refl
  flat_within (x ∷ xs) = at (p x) refl (flat_within xs) where
    at : (b : Bool) → p x ≡ b → flat_map f (filter p xs) ≡ flat_map f xs → flat_map f (cond b (x ∷ filter p xs) (filter p xs)) ≡ f x ++ flat_map f xs
    at true e ih = ap (λ (l : List Y). f x ++ l) ih
    at false e ih = ih ∙ ap (λ (l : List Y). l ++ flat_map f xs) (sym (empty x e))

pub found_in_due : (search : Search) (t : ℕ) (es : List Entity) → flat_map (found_of search t) (due_entities (reach search t) es) ≡ flat_map (found_of search t) es
found_in_due search t es = flat_within (is_due_by (reach search t)) (found_of search t) (all_unfound search t) es

pub found_in_mains : (search : Search) (t : ℕ) (es : List Entity) → flat_map (λ e. found_in search t e Main) (due_entities t es) ≡ flat_map (λ e. found_in search t e Main) es
found_in_mains search t es = flat_within (is_due_by t) (λ e. found_in search t e Main) (main_unfound search t) es

pub closed_in_due : (t : ℕ) (es : List Entity) → flat_map (λ e. closes_in t e Main ++ closes_in t e Dead ++ closes_in t e Transfer) (due_entities t es) ≡ flat_map (λ e. closes_in t e Main ++ closes_in t e Dead ++ closes_in t e Transfer) es
closed_in_due t es = flat_within (is_due_by t) (λ e. closes_in t e Main ++ closes_in t e Dead ++ closes_in t e Transfer) (unclosed t) es
