-- Which copies are under a session's lock, and which are under a lock that has ended: those that have come due by themselves, and those under the locks of sessions that ended.
use Rattle.std.proofs.Common.{◌≡◌, ℕ, ◌≤◌, List, [], ◌∷◌, ◌++◌, map, min, nat_le, ◌==◌, ◌&&◌, ◌||◌, if◌then◌else◌, Bool, true, false, Option, Some, None, cond, refl, sym, ap, ◌∙◌, arith}
use Rattle.std.specs.List.{filter, flat_map, list_any}
use Rattle.std.specs.Option.{option_map_or}
use Rattle.std.proofs.lemmas.List.Elements.{filter_agree}
use Rattle.std.proofs.lemmas.List.Folds.{list_any-append}
use Rattle.sb_index.specs.declared.row.Row.{Row}
use Rattle.sb_machine.specs.Leases.{has_ended, is_ended_holder, is_under_session}
use Rattle.sb_machine.specs.declared.state.Hold.TheVariants.{Until, Session as UnderSession}
use Rattle.sb_machine.specs.declared.state.Holder.{Holder}
use Rattle.sb_machine.specs.declared.state.Session.{Session}
use Rattle.sb_machine.specs.declared.state.Standing.{Standing}
use Rattle.sb_machine.specs.declared.state.Standing.TheVariants.{Ready, Deferred, Held, Scheduled}
use Rattle.sb_machine.specs.declared.state.StoredCopy.{StoredCopy}
use Rattle.sb_copies.specs.Dues.{copy_expiry, due_by, is_due, moment_of, never, standing_due}
use Rattle.sb_copies.specs.Grouped.{is_in_group, numbers_under, own_row}
use Rattle.sb_copies.specs.Heads.{is_among}
use Rattle.sb_copies.specs.Numbers.{HasSame, Rise}
use Rattle.sb_copies.specs.Shelf.{AreInOrder, numbered_in}
use Rattle.sb_copies.specs.UnderSession.{HoldsUnder, ended_lock, numbers_ended, session_lock_of, under_lock}
use Rattle.sb_copies.proofs.Grouped.{is_le, le_is, turned}
use Rattle.sb_copies.proofs.InOrder.{same_rising}
use Rattle.sb_copies.proofs.Listing.{listed, numbers_of, numbers_rise}

-- ---- numbers of those that pass

among_one : (p : StoredCopy → Bool) (n : ℕ) (c : StoredCopy) (cs : List StoredCopy) → is_among n (numbers_of p (c ∷ cs)) ≡ ((p c && (c.number == n)) || is_among n (numbers_of p cs))
among_one p n c cs = at (p c) where
  at : (b : Bool) → is_among n (map (λ x. x.number) (cond b (c ∷ filter p cs) (filter p cs))) ≡ ((b && (c.number == n)) || is_among n (numbers_of p cs))
  at true = refl
  at false = refl

mixed : (a b x m k : Bool) → (((a || b) && x) || (m || k)) ≡ (((a && x) || m) || ((b && x) || k))
mixed true b true m k = refl
mixed true true false m k = refl
mixed true false false m k = refl
mixed false true true true k = refl
mixed false true true false k = refl
mixed false true false m k = refl
mixed false false x m k = refl

-- by either of two tests
either_kept : (p q : StoredCopy → Bool) (n : ℕ) (cs : List StoredCopy) → is_among n (numbers_of (λ c. p c || q c) cs) ≡ (is_among n (numbers_of p cs) || is_among n (numbers_of q cs))
either_kept p q n [] = refl
either_kept p q n (c ∷ cs) =
    among_one (λ x. p x || q x) n c cs
    ∙ ap (λ b. ((p c || q c) && (c.number == n)) || b) (either_kept p q n cs)
    ∙ mixed (p c) (q c) (c.number == n) (is_among n (numbers_of p cs)) (is_among n (numbers_of q cs))
    ∙ ap (λ b. b || ((q c && (c.number == n)) || is_among n (numbers_of q cs))) (sym (among_one p n c cs))
    ∙ ap (λ b. is_among n (numbers_of p (c ∷ cs)) || b) (sym (among_one q n c cs))

both_kept : (p q : StoredCopy → Bool) (cs : List StoredCopy) → filter p (filter q cs) ≡ filter (λ c. q c && p c) cs
both_kept p q [] = refl
both_kept p q (c ∷ cs) = at (q c) (both_kept p q cs) where
  at : (b : Bool) → filter p (filter q cs) ≡ filter (λ x. q x && p x) cs → filter p (cond b (c ∷ filter q cs) (filter q cs)) ≡ cond (b && p c) (c ∷ filter (λ x. q x && p x) cs) (filter (λ x. q x && p x) cs)
  at true ih = ap (λ (l : List StoredCopy). cond (p c) (c ∷ l) l) ih
  at false ih = ih

none_pass : (cs : List StoredCopy) → numbers_of (λ c. false) cs ≡ []
none_pass [] = refl
none_pass (c ∷ cs) = none_pass cs

-- ---- under sessions' locks

own_values : (l : ℕ) (ds : List StoredCopy) → map (λ x. x.value) (map (own_row (λ c. false) l) ds) ≡ map (λ c. c.number) ds
own_values l [] = refl
own_values l (d ∷ ds) = ap (λ (ns : List ℕ). d.number ∷ ns) (own_values l ds)

under_so : (l : ℕ) (rows : List Row) (cs : List StoredCopy) → HoldsUnder rows cs → numbers_under l rows ≡ numbers_of (is_in_group under_lock l) cs
under_so l rows cs holds = ap (λ (xs : List Row). map (λ x. x.value) xs) (holds l) ∙ own_values l (filter (is_in_group under_lock l) cs)

session_so : (l : ℕ) (s : Standing) → option_map_or (λ own. own == l) (session_lock_of s) false ≡ is_under_session l s
session_so l Ready = refl
session_so l Deferred = refl
session_so l (Held lock (Until u) deferred) = refl
session_so l (Held lock (UnderSession k) deferred) = refl
session_so l (Scheduled at) = refl

-- those that are held under it
pub under_found : (l : ℕ) (rows : List Row) (cs : List StoredCopy) → AreInOrder cs → HoldsUnder rows cs → numbered_in cs (numbers_under l rows) ≡ filter (λ c. is_under_session l c.standing) cs
under_found l rows cs s holds =
    ap (λ (ns : List ℕ). numbered_in cs ns) (under_so l rows cs holds)
    ∙ listed (is_in_group under_lock l) cs s
    ∙ filter_agree (is_in_group under_lock l) (λ c. is_under_session l c.standing) (λ c. session_so l c.standing) cs

-- ---- under locks that have ended

module _ (t : ℕ) where
  -- under the lock of a session's holder, which has ended
  abbrev is_under_ended : Session → StoredCopy → Bool
  is_under_ended x c = option_map_or (λ l. is_in_group under_lock l c) (ended_lock t x) false

  one_session : (rows : List Row) (cs : List StoredCopy) → HoldsUnder rows cs → (x : Session) → numbers_ended t rows x ≡ numbers_of (is_under_ended x) cs
  one_session rows cs holds x = at (ended_lock t x) where
    at : (o : Option ℕ) → option_map_or (λ l. numbers_under l rows) o [] ≡ numbers_of (λ c. option_map_or (λ l. is_in_group under_lock l c) o false) cs
    at None = sym (none_pass cs)
    at (Some l) = under_so l rows cs holds

  among_sessions : (rows : List Row) (cs : List StoredCopy) → HoldsUnder rows cs → (n : ℕ) (xs : List Session) → is_among n (flat_map (numbers_ended t rows) xs) ≡ is_among n (numbers_of (λ c. list_any (λ x. is_under_ended x c) xs) cs)
  among_sessions rows cs holds n [] = sym (ap (λ (ns : List ℕ). is_among n ns) (none_pass cs))
  among_sessions rows cs holds n (x ∷ xs) =
      list_any-append (λ m. m == n) (numbers_ended t rows x) (flat_map (numbers_ended t rows) xs)
      ∙ ap (λ (ns : List ℕ). is_among n ns || is_among n (flat_map (numbers_ended t rows) xs)) (one_session rows cs holds x)
      ∙ ap (λ b. is_among n (numbers_of (is_under_ended x) cs) || b) (among_sessions rows cs holds n xs)
      ∙ sym (either_kept (is_under_ended x) (λ c. list_any (λ y. is_under_ended y c) xs) n cs)

  none_ended : (xs : List Session) → list_any (λ x. option_map_or (λ l. false) (ended_lock t x) false) xs ≡ false
  none_ended [] = refl
  none_ended (x ∷ xs) = at (ended_lock t x) (none_ended xs) where
    at : (o : Option ℕ) → list_any (λ y. option_map_or (λ l. false) (ended_lock t y) false) xs ≡ false → (option_map_or (λ l. false) o false || list_any (λ y. option_map_or (λ l. false) (ended_lock t y) false) xs) ≡ false
    at None ih = ih
    at (Some l) ih = ih

  holder_so : (l : ℕ) (x : Session) → option_map_or (λ k. l == k) (ended_lock t x) false ≡ is_ended_holder t l x
  holder_so l x = at x.holder refl where
    tested : (k : ℕ) (b : Bool) → option_map_or (λ j. l == j) (if b then Some k else None) false ≡ ((k == l) && b)
    tested k true = by (k == l) (l == k) (turned k l (k == l) refl) where
      by : (a b : Bool) → b ≡ a → b ≡ (a && true)
      by true b is = is
      by false b is = is
    tested k false = by (k == l) where
      by : (a : Bool) → false ≡ (a && false)
      by true = refl
      by false = refl

    at : (o : Option Holder) → x.holder ≡ o → option_map_or (λ k. l == k) (ended_lock t x) false ≡ is_ended_holder t l x
    at None is = rw is refl
    at (Some h) is = rw is (tested h.lock (nat_le h.until t))

  holders_so : (l : ℕ) (xs : List Session) → list_any (λ x. option_map_or (λ k. l == k) (ended_lock t x) false) xs ≡ list_any (is_ended_holder t l) xs
  holders_so l [] = refl
  holders_so l (x ∷ xs) =
      ap (λ b. b || list_any (λ y. option_map_or (λ k. l == k) (ended_lock t y) false) xs) (holder_so l x)
      ∙ ap (λ b. is_ended_holder t l x || b) (holders_so l xs)

  no_end : (a b : Bool) → b ≡ false → ((a && false) || b) ≡ false
  no_end true b is = is
  no_end false b is = is

  own_end : (u : ℕ) (b : Bool) → b ≡ false → ((nat_le (min u never) t && nat_le u t) || b) ≡ nat_le u t
  own_end u b is = at (nat_le u t) refl where
    past : (a : Bool) → ((a && false) || b) ≡ false
    past a = no_end a b is

    at : (a : Bool) → nat_le u t ≡ a → ((nat_le (min u never) t && a) || b) ≡ a
    at true e = let q : u ≤ t = is_le u t e in ap (λ a. (a && true) || b) (le_is (min u never) t (omega (arith, q)))
    at false e = past (nat_le (min u never) t)

  either_way : (a b : Bool) → ((a && b) || b) ≡ b
  either_way true true = refl
  either_way true false = refl
  either_way false b = refl

  -- a lock that has ended has come due by itself, or is as long as a session's that has ended
  ended_so : (e : Bool) (end : Option ℕ) (xs : List Session) (s : Standing) → ((nat_le (moment_of (standing_due e end s)) t && has_ended t xs s) || list_any (λ x. option_map_or (λ l. option_map_or (λ own. own == l) (session_lock_of s) false) (ended_lock t x) false) xs) ≡ has_ended t xs s
  ended_so e end xs Ready = no_end (nat_le (moment_of (standing_due e end Ready)) t) (list_any (λ x. option_map_or (λ l. false) (ended_lock t x) false) xs) (none_ended xs)
  ended_so e end xs Deferred = no_end (nat_le never t) (list_any (λ x. option_map_or (λ l. false) (ended_lock t x) false) xs) (none_ended xs)
  ended_so e end xs (Held lock (Until u) deferred) = own_end u (list_any (λ x. option_map_or (λ l. false) (ended_lock t x) false) xs) (none_ended xs)
  ended_so e end xs (Held lock (UnderSession k) deferred) =
      ap (λ b. (nat_le never t && list_any (is_ended_holder t k) xs) || b) (holders_so k xs)
      ∙ either_way (nat_le never t) (list_any (is_ended_holder t k) xs)
  ended_so e end xs (Scheduled at) = no_end (nat_le (min at never) t) (list_any (λ x. option_map_or (λ l. false) (ended_lock t x) false) xs) (none_ended xs)

  module _ (e : Bool) (rows : List Row) (xs : List Session) (cs : List StoredCopy) (holds : HoldsUnder rows cs) where
    all_among : (n : ℕ) → is_among n (numbers_of (λ c. has_ended t xs c.standing) (due_by e t cs) ++ flat_map (numbers_ended t rows) xs) ≡ is_among n (numbers_of (λ c. has_ended t xs c.standing) cs)
    all_among n =
        list_any-append (λ m. m == n) (numbers_of (λ c. has_ended t xs c.standing) (due_by e t cs)) (flat_map (numbers_ended t rows) xs)
        ∙ ap (λ (l : List StoredCopy). is_among n (map (λ c. c.number) l) || is_among n (flat_map (numbers_ended t rows) xs)) (both_kept (λ c. has_ended t xs c.standing) (is_due e t) cs)
        ∙ ap (λ b. is_among n (numbers_of (λ c. is_due e t c && has_ended t xs c.standing) cs) || b) (among_sessions rows cs holds n xs)
        ∙ sym (either_kept (λ c. is_due e t c && has_ended t xs c.standing) (λ c. list_any (λ x. is_under_ended x c) xs) n cs)
        ∙ ap (λ (l : List StoredCopy). is_among n (map (λ c. c.number) l))
        (filter_agree (λ c. (is_due e t c && has_ended t xs c.standing) || list_any (λ x. is_under_ended x c) xs) (λ c. has_ended t xs c.standing) (λ c. ended_so e (copy_expiry c) xs c.standing) cs)

    -- those under a lock that has ended
    pub ended_found : (ns found : List ℕ) → AreInOrder cs → ns ≡ numbers_of (λ c. has_ended t xs c.standing) (due_by e t cs) ++ flat_map (numbers_ended t rows) xs → Rise found → HasSame found ns → numbered_in cs found ≡ filter (λ c. has_ended t xs c.standing) cs
    ended_found ns found s is rise same =
        ap (λ (l : List ℕ). numbered_in cs l)
        (same_rising found (numbers_of (λ c. has_ended t xs c.standing) cs) rise (numbers_rise (λ c. has_ended t xs c.standing) cs s) (λ n. same n ∙ ap (λ (l : List ℕ). is_among n l) is ∙ all_among n))
        ∙ listed (λ c. has_ended t xs c.standing) cs s
