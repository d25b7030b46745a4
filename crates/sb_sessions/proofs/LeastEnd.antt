-- The least moment at which a lock ends, as one session changes.
use Rattle.std.proofs.Common.{◌≡◌, ℕ, ◌≤◌, min, Bool, true, false, not, cond, List, [], ◌∷◌, ◌++◌, map, find, take, drop, Option, Some, None, refl, sym, ap, ◌∙◌, arith}
use Rattle.std.specs.List.{fold, prefix_len}
use Rattle.std.specs.Option.{option_map}
use Rattle.std.specs.Prelude.{is_none}
use Rattle.std.proofs.lemmas.List.{take-append-drop}
use Rattle.sb_machine.specs.Keyed.{changed, with_sorted}
use Rattle.sb_machine.specs.Leaves.{has_id, holder_new, is_held_under, opened, prolonged_holder, remembered, taken}
use Rattle.sb_machine.specs.Names.{is_before}
use Rattle.sb_machine.specs.Sessions.{holder_in}
use Rattle.sb_machine.specs.declared.state.Holder.{Holder}
use Rattle.sb_machine.specs.declared.state.Session.{Session}
use Rattle.sb_sessions.specs.Ends.{end_of, least_end, never}
use Rattle.sb_sessions.specs.Moved.{IsMoved}
use Rattle.sb_sessions.specs.Sessions.{seating}

-- ---- parts of a list

apart : (a b : ℕ) (xs : List ℕ) → fold min (min a b) xs ≡ min a (fold min b xs)
apart a b [] = refl
apart a b (x ∷ xs) = ap (λ (n : ℕ). fold min n xs) (grouped a b x) ∙ apart a (min b x) xs where
  grouped : (a b c : ℕ) → min (min a b) c ≡ min a (min b c)
  grouped a b c = omega arith

turned : (a b : ℕ) → min a b ≡ min b a
turned a b = omega arith

pub least_cons : (x : Session) (xs : List Session) → least_end (x ∷ xs) ≡ min (end_of x) (least_end xs)
least_cons x xs = ap (λ (n : ℕ). fold min n (map end_of xs)) (turned never (end_of x)) ∙ apart (end_of x) never (map end_of xs)

least_top : (xs : List Session) → least_end xs ≤ never
least_top [] = omega arith
least_top (x ∷ xs) = omega (arith, least_cons x xs, least_top xs)

least_append : (xs ys : List Session) → least_end (xs ++ ys) ≡ min (least_end xs) (least_end ys)
least_append [] ys = omega (arith, least_top ys)
least_append (x ∷ xs) ys = omega (arith, least_cons x (xs ++ ys), least_cons x xs, least_append xs ys)

-- ---- the one that changes, and the others

abbrev others : (Session → Bool) → List Session → ℕ
others p xs = least_end (changed p (λ x. []) xs)

module _ (p : Session → Bool) where
  before : (x : Session) (xs : List Session) → find p xs ≡ Some x → least_end xs ≡ min (end_of x) (others p xs)
  before x [] found = absurd cc
  before x (y ∷ ys) found = at (p y) refl (before x ys) where
    at : (b : Bool) → p y ≡ b → (find p ys ≡ Some x → least_end ys ≡ min (end_of x) (others p ys)) → least_end (y ∷ ys) ≡ min (end_of x) (others p (y ∷ ys))
    at true is ih =
        let it : Some y ≡ Some x = rw is at found in
        let same : y ≡ x = cc in
        rw is (least_cons y ys ∙ ap (λ (z : Session). min (end_of z) (least_end ys)) same)
    at false is ih =
        let rest : find p ys ≡ Some x = rw is at found in
        rw is (omega (arith, least_cons y ys, ih rest, least_cons y (changed p (λ z. []) ys)))

  after : (g : Session → List Session) (x : Session) (xs : List Session) → find p xs ≡ Some x → least_end (changed p g xs) ≡ min (least_end (g x)) (others p xs)
  after g x [] found = absurd cc
  after g x (y ∷ ys) found = at (p y) refl (after g x ys) where
    at : (b : Bool) → p y ≡ b → (find p ys ≡ Some x → least_end (changed p g ys) ≡ min (least_end (g x)) (others p ys)) → least_end (changed p g (y ∷ ys)) ≡ min (least_end (g x)) (others p (y ∷ ys))
    at true is ih =
        let it : Some y ≡ Some x = rw is at found in
        let same : y ≡ x = cc in
        rw is (least_append (g y) ys ∙ ap (λ (z : Session). min (least_end (g z)) (least_end ys)) same)
    at false is ih =
        let rest : find p ys ≡ Some x = rw is at found in
        rw is (omega (arith, least_cons y (changed p g ys), ih rest, least_cons y (changed p (λ z. []) ys)))

  alike : (g : Session → List Session) (xs : List Session) → find p xs ≡ None → changed p g xs ≡ xs
  alike g [] none = refl
  alike g (y ∷ ys) none = at (p y) refl (alike g ys) where
    at : (b : Bool) → p y ≡ b → (find p ys ≡ None → changed p g ys ≡ ys) → changed p g (y ∷ ys) ≡ y ∷ ys
    at true is ih = let bad : Some y ≡ None = rw is at none in absurd cc
    at false is ih = let rest : find p ys ≡ None = rw is at none in rw is (ap (λ (l : List Session). y ∷ l) (ih rest))

  -- what is found passes
  passes : (x : Session) (xs : List Session) → find p xs ≡ Some x → p x ≡ true
  passes x [] found = absurd cc
  passes x (y ∷ ys) found = at (p y) refl (passes x ys) where
    at : (b : Bool) → p y ≡ b → (find p ys ≡ Some x → p x ≡ true) → p x ≡ true
    at true is ih = let it : Some y ≡ Some x = rw is at found in let same : y ≡ x = cc in ap p (sym same) ∙ is
    at false is ih = let rest : find p ys ≡ Some x = rw is at found in ih rest

  -- one of them ends at another moment, if there is one
  moved : (g : Session → List Session) (end least : ℕ) (was : Option ℕ) (xs new : List Session)
      → ((x : Session) → p x ≡ true → min (least_end (g x)) never ≡ min end never)
      → least ≡ least_end xs → was ≡ option_map end_of (find p xs) → new ≡ changed p g xs → IsMoved least was end new
  moved g end least was xs new ends is found into = at (find p xs) refl was found where
    at : (o : Option Session) → find p xs ≡ o → (was : Option ℕ) → was ≡ option_map end_of o → IsMoved least was end new
    at None none None e = is ∙ ap least_end (sym (into ∙ alike g xs none))
    at None none (Some w) e = absurd cc
    at (Some x) one None e = absurd cc
    at (Some x) one (Some w) e =
        let ended : w ≡ end_of x = cc in
        let old : least_end xs ≡ min (end_of x) (others p xs) = before x xs one in
        let now : least_end (changed p g xs) ≡ min (least_end (g x)) (others p xs) = after g x xs one in
        let top : others p xs ≤ never = least_top (changed p (λ z. []) xs) in
        (others p xs, omega (arith, is, old, ended), omega (arith, ap least_end into, now, top, ends x (passes x xs one)))

  stays : (g : Session → List Session) (least : ℕ) (xs new : List Session) → ((x : Session) → p x ≡ true → least_end (g x) ≡ end_of x) → least ≡ least_end xs → new ≡ changed p g xs → least ≡ least_end new
  stays g least xs new same is into = at (find p xs) refl where
    at : (o : Option Session) → find p xs ≡ o → least ≡ least_end new
    at None none = is ∙ ap least_end (sym (into ∙ alike g xs none))
    at (Some x) one = omega (arith, is, ap least_end into, before x xs one, after g x xs one, same x (passes x xs one))

-- ---- what changes of the one

closed_end : (x : Session) → min (least_end (remembered (record x { holder = None }))) never ≡ min never never
closed_end x = at x.state refl where
  at : (o : Option (List ℕ)) → x.state ≡ o → min (least_end (remembered (record x { holder = None }))) never ≡ min never never
  at None is = rw is refl
  at (Some state) is = rw is refl

prolonged_end : (lock until : ℕ) (x : Session) → is_held_under lock x ≡ true → min (least_end (record x { holder = prolonged_holder until x.holder } ∷ [])) never ≡ min until never
prolonged_end lock until x held = at x.holder refl where
  at : (o : Option Holder) → x.holder ≡ o → min (least_end (record x { holder = prolonged_holder until x.holder } ∷ [])) never ≡ min until never
  at (Some h) is = rw is (twice until) where
    twice : (n : ℕ) → min (min never (min n never)) never ≡ min n never
    twice n = omega arith
  at None is = let no_one : false ≡ true = rw is at held in absurd cc

written_end : (lock : ℕ) (state : Option (List ℕ)) (x : Session) → is_held_under lock x ≡ true → least_end (remembered (record x { state = state })) ≡ end_of x
written_end lock state x held = at x.holder refl where
  at : (o : Option Holder) → x.holder ≡ o → least_end (remembered (record x { state = state })) ≡ end_of x
  at (Some h) is = rw is (once h.until) where
    once : (n : ℕ) → min never (min n never) ≡ min n never
    once n = omega arith
  at None is = let no_one : false ≡ true = rw is at held in absurd cc

pub closed_moves : (lock least : ℕ) (was : Option ℕ) (rows new : List Session) → least ≡ least_end rows → was ≡ option_map end_of (find (is_held_under lock) rows) → new ≡ changed (is_held_under lock) (λ x. remembered (record x { holder = None })) rows → IsMoved least was never new
closed_moves lock least was rows new is found into = moved (is_held_under lock) (λ x. remembered (record x { holder = None })) never least was rows new (λ x held. closed_end x) is found into

pub prolonged_moves : (lock until least : ℕ) (was : Option ℕ) (rows new : List Session) → least ≡ least_end rows → was ≡ option_map end_of (find (is_held_under lock) rows) → new ≡ changed (is_held_under lock) (λ x. record x { holder = prolonged_holder until x.holder } ∷ []) rows → IsMoved least was until new
prolonged_moves lock until least was rows new is found into = moved (is_held_under lock) (λ x. record x { holder = prolonged_holder until x.holder } ∷ []) until least was rows new (prolonged_end lock until) is found into

pub written_stays : (lock least : ℕ) (state : Option (List ℕ)) (rows new : List Session) → least ≡ least_end rows → new ≡ changed (is_held_under lock) (λ x. remembered (record x { state = state })) rows → least ≡ least_end new
written_stays lock least state rows new is into = stays (is_held_under lock) (λ x. remembered (record x { state = state })) least rows new (written_end lock state) is into

-- ---- one that is opened

inserted : (ahead : Session → Bool) (x : Session) (xs : List Session) → least_end (with_sorted ahead x xs) ≡ min (end_of x) (least_end xs)
inserted ahead x xs =
    let k = prefix_len ahead xs in
    let whole : least_end (take k xs ++ drop k xs) ≡ least_end xs = ap least_end (take-append-drop k xs) in
    omega (arith, whole, least_append (take k xs) (drop k xs), least_append (take k xs) (x ∷ drop k xs), least_cons x (drop k xs))

opened_end : (lock until : ℕ) (x : Session) → x.holder ≡ None → least_end (taken lock until x ∷ []) ≡ min until never
opened_end lock until x is = rw is (once until) where
  once : (n : ℕ) → min never (min n never) ≡ min n never
  once n = omega arith

held_end : (lock until : ℕ) (h : Holder) (x : Session) → x.holder ≡ Some h → least_end (taken lock until x ∷ []) ≡ end_of x
held_end lock until h x is = rw is (once h.until) where
  once : (n : ℕ) → min never (min n never) ≡ min n never
  once n = omega arith

free_end : (x : Session) → x.holder ≡ None → end_of x ≡ never
free_end x is = rw is refl

-- the least moment then, by whether somebody holds it already
pub opened_least : (lock : ℕ) (id : List ℕ) (until least least' : ℕ) (held : Bool) (rows new : List Session) → is_none (holder_in id (seating rows)) ≡ not held → least ≡ least_end rows → new ≡ opened lock id until (seating rows)
    → least' ≡ cond held least (min until least) → least' ≡ least_end new
opened_least lock id until least least' held rows new free is into now = at (find (has_id id) rows) refl held free now where
  at : (o : Option Session) → find (has_id id) rows ≡ o → (held : Bool) → is_none (holder_in id (seating rows)) ≡ not held → least' ≡ cond held least (min until least) → least' ≡ least_end new
  at None none true free now = let bad : true ≡ false = rw none at free in absurd cc
  at None none false free now =
      let x : Session = record { id = id; state = None; holder = Some (holder_new lock until) } in
      let one : new ≡ with_sorted (λ y. is_before y.id id) x rows = rw none at into in
      omega (arith, now, is, ap least_end one, inserted (λ y. is_before y.id id) x rows, least_top rows)
  at (Some x) one held free now =
      let whose : is_none x.holder ≡ not held = rw one at free in
      let put : new ≡ changed (has_id id) (λ y. taken lock until y ∷ []) rows = rw one at into in
      by x.holder refl held whose now put where
        by : (o : Option Holder) → x.holder ≡ o → (held : Bool) → is_none x.holder ≡ not held → least' ≡ cond held least (min until least) → new ≡ changed (has_id id) (λ y. taken lock until y ∷ []) rows → least' ≡ least_end new
        by None none true whose now put = let bad : true ≡ false = rw none at whose in absurd cc
        by None none false whose now put =
            omega (
              arith,
              now,
              is,
              ap least_end put,
              before (has_id id) x rows one,
              after (has_id id) (λ y. taken lock until y ∷ []) x rows one,
              opened_end lock until x none,
              free_end x none,
              least_top (changed (has_id id) (λ z. []) rows),
            )
        by (Some h) there true whose now put =
            omega (arith, now, is, ap least_end put, before (has_id id) x rows one, after (has_id id) (λ y. taken lock until y ∷ []) x rows one, held_end lock until h x there)
        by (Some h) there false whose now put = let bad : false ≡ true = rw there at whose in absurd cc
