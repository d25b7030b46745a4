-- What a change of messages does to the counts of how they stand.
use Rattle.std.proofs.Common.{◌≡◌, ℕ, ◌+◌, ◌-◌, ◌<◌, List, [], ◌∷◌, ◌++◌, length, find, Bool, true, false, Option, Some, None, cond, refl, sym, ap, ◌∙◌, subst, arith}
use Rattle.std.specs.Prelude.{IfSome}
use Rattle.std.specs.List.{filter}
use Rattle.std.specs.Option.{option_map}
use Rattle.sb_machine.specs.Keyed.{changed}
use Rattle.sb_machine.specs.Leases.{is_ready, is_scheduled}
use Rattle.sb_machine.specs.Leaves.{has_number, is_deferred, prolonged_standing}
use Rattle.sb_machine.specs.Looks.{count_of, is_held}
use Rattle.sb_machine.specs.declared.state.Standing.{Standing}
use Rattle.sb_machine.specs.declared.state.Standing.TheVariants.{Ready, Deferred, Held, Scheduled}
use Rattle.sb_machine.specs.declared.state.StoredCopy.{StoredCopy}
use Rattle.sb_copies.specs.Tally.{Tallies, gone, moved, standing_at, tally_of, total, with_one, without_one}
use Rattle.sb_copies.specs.declared.tally.Tally.{Tally}

-- ---- one more, one less

-- where these of it are counted
abbrev counts : ℕ → ℕ → ℕ → ℕ → Tally
counts r h d s = record { ready = r; held = h; deferred = d; scheduled = s }

swap : (a b : Standing) (t : Tally) → with_one a (with_one b t) ≡ with_one b (with_one a t)
swap Ready Ready t = refl
swap Ready Deferred t = refl
swap Ready (Held l h d) t = refl
swap Ready (Scheduled m) t = refl
swap Deferred Ready t = refl
swap Deferred Deferred t = refl
swap Deferred (Held l h d) t = refl
swap Deferred (Scheduled m) t = refl
swap (Held l h d) Ready t = refl
swap (Held l h d) Deferred t = refl
swap (Held l h d) (Held k i e) t = refl
swap (Held l h d) (Scheduled m) t = refl
swap (Scheduled m) Ready t = refl
swap (Scheduled m) Deferred t = refl
swap (Scheduled m) (Held l h d) t = refl
swap (Scheduled m) (Scheduled k) t = refl

less : (n : ℕ) → n + 1 - 1 ≡ n
less n = omega arith

undone : (s : Standing) (t : Tally) → without_one s (with_one s t) ≡ t
undone Ready t = ap (λ n. counts n t.held t.deferred t.scheduled) (less t.ready)
undone Deferred t = ap (λ n. counts t.ready t.held n t.scheduled) (less t.deferred)
undone (Held l h d) t = ap (λ n. counts t.ready n t.deferred t.scheduled) (less t.held)
undone (Scheduled m) t = ap (λ n. counts t.ready t.held t.deferred n) (less t.scheduled)

one_more : (s : Standing) (t : Tally) → total (with_one s t) ≡ total t + 1
one_more Ready t = omega arith
one_more Deferred t = omega arith
one_more (Held l h d) t = omega arith
one_more (Scheduled m) t = omega arith

-- ---- of a list

longer : (c : StoredCopy) (cs : List StoredCopy) → length (c ∷ cs) ≡ length cs + 1
longer c cs = omega arith

counted_first : (c : StoredCopy) (cs : List StoredCopy) → tally_of (c ∷ cs) ≡ with_one c.standing (tally_of cs)
counted_first c cs = at c.standing where
  at : (s : Standing) →
      counts
      (length (cond (is_ready s) (c ∷ filter (λ x. is_ready x.standing) cs) (filter (λ x. is_ready x.standing) cs)))
      (length (cond (is_held s) (c ∷ filter (λ x. is_held x.standing) cs) (filter (λ x. is_held x.standing) cs)))
      (length (cond (is_deferred s) (c ∷ filter (λ x. is_deferred x.standing) cs) (filter (λ x. is_deferred x.standing) cs)))
      (length (cond (is_scheduled s) (c ∷ filter (λ x. is_scheduled x.standing) cs) (filter (λ x. is_scheduled x.standing) cs)))
      ≡ with_one s (tally_of cs)
  at Ready = ap (λ n. counts n (count_of is_held cs) (count_of is_deferred cs) (count_of is_scheduled cs)) (longer c (filter (λ x. is_ready x.standing) cs))
  at Deferred = ap (λ n. counts (count_of is_ready cs) (count_of is_held cs) n (count_of is_scheduled cs)) (longer c (filter (λ x. is_deferred x.standing) cs))
  at (Held l h d) = ap (λ n. counts (count_of is_ready cs) n (count_of is_deferred cs) (count_of is_scheduled cs)) (longer c (filter (λ x. is_held x.standing) cs))
  at (Scheduled m) = ap (λ n. counts (count_of is_ready cs) (count_of is_held cs) (count_of is_deferred cs) n) (longer c (filter (λ x. is_scheduled x.standing) cs))

pub all_counted : (cs : List StoredCopy) → total (tally_of cs) ≡ length cs
all_counted [] = refl
all_counted (c ∷ cs) = ap (λ (t : Tally). total t) (counted_first c cs) ∙ one_more c.standing (tally_of cs) ∙ ap (λ n. n + 1) (all_counted cs) ∙ sym (longer c cs)

counted_last : (c : StoredCopy) (cs : List StoredCopy) → tally_of (cs ++ c ∷ []) ≡ with_one c.standing (tally_of cs)
counted_last c [] = counted_first c []
counted_last c (x ∷ xs) =
    counted_first x (xs ++ c ∷ [])
    ∙ ap (λ (t : Tally). with_one x.standing t) (counted_last c xs)
    ∙ swap x.standing c.standing (tally_of xs)
    ∙ ap (λ (t : Tally). with_one c.standing t) (sym (counted_first x xs))

-- ---- one of them changes

module _ (n : ℕ) where
  taken : (c : StoredCopy) (cs : List StoredCopy) → find (has_number n) cs ≡ Some c → tally_of cs ≡ with_one c.standing (tally_of (changed (has_number n) (λ x. []) cs))
  taken c [] found = absurd cc
  taken c (y ∷ ys) found = at (has_number n y) refl (taken c ys) where
    at : (b : Bool) → has_number n y ≡ b → (find (has_number n) ys ≡ Some c → tally_of ys ≡ with_one c.standing (tally_of (changed (has_number n) (λ x. []) ys))) → tally_of (y ∷ ys) ≡ with_one c.standing (tally_of (changed (has_number n) (λ x. []) (y ∷ ys)))
    at true e ih = let it : Some y ≡ Some c = rw e at found in let same : y ≡ c = cc in rw e (counted_first y ys ∙ ap (λ (z : StoredCopy). with_one z.standing (tally_of ys)) same)
    at false e ih =
        let rest : find (has_number n) ys ≡ Some c = rw e at found in
        let others : List StoredCopy = changed (has_number n) (λ x. []) ys in
        rw e (counted_first y ys ∙ ap (λ (t : Tally). with_one y.standing t) (ih rest) ∙ swap y.standing c.standing (tally_of others) ∙ ap (λ (t : Tally). with_one c.standing t) (sym (counted_first y others)))

  untaken : (f : StoredCopy → List StoredCopy) (cs : List StoredCopy) → find (has_number n) cs ≡ None → changed (has_number n) f cs ≡ cs
  untaken f [] none = refl
  untaken f (y ∷ ys) none = at (has_number n y) refl (untaken f ys) where
    at : (b : Bool) → has_number n y ≡ b → (find (has_number n) ys ≡ None → changed (has_number n) f ys ≡ ys) → changed (has_number n) f (y ∷ ys) ≡ y ∷ ys
    at true e ih = absurd (let bad : Some y ≡ None = rw e at none in cc)
    at false e ih = rw e (ap (λ (l : List StoredCopy). y ∷ l) (ih (rw e at none)))

  left : (c : StoredCopy) (cs : List StoredCopy) → find (has_number n) cs ≡ Some c → without_one c.standing (tally_of cs) ≡ tally_of (changed (has_number n) (λ x. []) cs)
  left c cs found = ap (λ (t : Tally). without_one c.standing t) (taken c cs found) ∙ undone c.standing (tally_of (changed (has_number n) (λ x. []) cs))

  module _ (g : StoredCopy → StoredCopy) where
    stood : (c : StoredCopy) (cs : List StoredCopy) → find (has_number n) cs ≡ Some c → tally_of (changed (has_number n) (λ x. g x ∷ []) cs) ≡ with_one (g c).standing (tally_of (changed (has_number n) (λ x. []) cs))
    stood c [] found = absurd cc
    stood c (y ∷ ys) found = at (has_number n y) refl (stood c ys) where
      at : (b : Bool) → has_number n y ≡ b → (find (has_number n) ys ≡ Some c → tally_of (changed (has_number n) (λ x. g x ∷ []) ys) ≡ with_one (g c).standing (tally_of (changed (has_number n) (λ x. []) ys))) → tally_of (changed (has_number n) (λ x. g x ∷ []) (y ∷ ys)) ≡ with_one (g c).standing (tally_of (changed (has_number n) (λ x. []) (y ∷ ys)))
      at true e ih = let it : Some y ≡ Some c = rw e at found in let same : y ≡ c = cc in rw e (counted_first (g y) ys ∙ ap (λ (z : StoredCopy). with_one (g z).standing (tally_of ys)) same)
      at false e ih =
          let rest : find (has_number n) ys ≡ Some c = rw e at found in
          let others : List StoredCopy = changed (has_number n) (λ x. []) ys in
          let there : List StoredCopy = changed (has_number n) (λ x. g x ∷ []) ys in
          rw e (counted_first y there ∙ ap (λ (t : Tally). with_one y.standing t) (ih rest) ∙ swap y.standing (g c).standing (tally_of others) ∙ ap (λ (t : Tally). with_one (g c).standing t) (sym (counted_first y others)))

    -- it stands otherwise now
    pub tally_moved : (now : Standing) → ((c : StoredCopy) (t : Tally) → with_one (g c).standing t ≡ with_one now t) → (was : Option Standing) (t new : Tally) (cs after : List StoredCopy) → was ≡ standing_at n cs → Tallies t cs → new ≡ moved was now t → after ≡ changed (has_number n) (λ c. g c ∷ []) cs → Tallies new after
    tally_moved now alike was t new cs after is tallies went stands =
        went
        ∙ ap (λ (o : Option Standing). moved o now t) is
        ∙ ap (λ (z : Tally). moved (standing_at n cs) now z) tallies
        ∙ at (find (has_number n) cs) refl
        ∙ ap (λ (l : List StoredCopy). tally_of l) (sym stands) where
          at : (o : Option StoredCopy) → find (has_number n) cs ≡ o → moved (option_map (λ c. c.standing) o) now (tally_of cs) ≡ tally_of (changed (has_number n) (λ c. g c ∷ []) cs)
          at None found = ap (λ (l : List StoredCopy). tally_of l) (sym (untaken (λ c. g c ∷ []) cs found))
          at (Some c) found =
              ap (λ (z : Tally). with_one now z) (left c cs found)
              ∙ sym (alike c (tally_of (changed (has_number n) (λ x. []) cs)))
              ∙ sym (stood c cs found)

    -- it stands as one of its kind still
    pub tally_stays : ((c : StoredCopy) (t : Tally) → with_one (g c).standing t ≡ with_one c.standing t) → (t : Tally) (cs after : List StoredCopy) → Tallies t cs → after ≡ changed (has_number n) (λ c. g c ∷ []) cs → Tallies t after
    tally_stays alike t cs after tallies stands = tallies ∙ at (find (has_number n) cs) refl ∙ ap (λ (l : List StoredCopy). tally_of l) (sym stands) where
      at : (o : Option StoredCopy) → find (has_number n) cs ≡ o → tally_of cs ≡ tally_of (changed (has_number n) (λ c. g c ∷ []) cs)
      at None found = ap (λ (l : List StoredCopy). tally_of l) (sym (untaken (λ c. g c ∷ []) cs found))
      at (Some c) found = taken c cs found ∙ sym (alike c (tally_of (changed (has_number n) (λ x. []) cs))) ∙ sym (stood c cs found)

  -- it is gone
  pub tally_taken : (was : Option Standing) (t new : Tally) (cs after : List StoredCopy) → was ≡ standing_at n cs → Tallies t cs → new ≡ gone was t → after ≡ changed (has_number n) (λ c. []) cs → Tallies new after
  tally_taken was t new cs after is tallies went takes =
      went
      ∙ ap (λ (o : Option Standing). gone o t) is
      ∙ ap (λ (z : Tally). gone (standing_at n cs) z) tallies
      ∙ at (find (has_number n) cs) refl
      ∙ ap (λ (l : List StoredCopy). tally_of l) (sym takes) where
        at : (o : Option StoredCopy) → find (has_number n) cs ≡ o → gone (option_map (λ c. c.standing) o) (tally_of cs) ≡ tally_of (changed (has_number n) (λ c. []) cs)
        at None found = ap (λ (l : List StoredCopy). tally_of l) (sym (untaken (λ c. []) cs found))
        at (Some c) found = left c cs found

  -- there is room for it where it goes
  pub moved_fits : (m : ℕ) (was : Option Standing) (t : Tally) (cs : List StoredCopy) → was ≡ standing_at n cs → Tallies t cs → length cs < m → IfSome was (λ w. total (without_one w t) + 1 < m)
  moved_fits m was t cs is tallies fits = subst (λ (o : Option Standing). IfSome o (λ w. total (without_one w t) + 1 < m)) (sym is) (at (find (has_number n) cs) refl) where
    at : (o : Option StoredCopy) → find (has_number n) cs ≡ o → IfSome (option_map (λ c. c.standing) o) (λ w. total (without_one w t) + 1 < m)
    at None found = tt
    at (Some c) found =
        let rest : List StoredCopy = changed (has_number n) (λ x. []) cs in
        let so : total (without_one c.standing t) ≡ total (tally_of rest) = ap (λ (z : Tally). total (without_one c.standing z)) tallies ∙ ap (λ (z : Tally). total z) (left c cs found) in
        let all : total (tally_of cs) ≡ total (tally_of rest) + 1 = ap (λ (z : Tally). total z) (taken c cs found) ∙ one_more c.standing (tally_of rest) in
        let long : total (tally_of cs) ≡ length cs = all_counted cs in
        omega (arith, so, all, long, fits)

-- ---- one more of them

pub tally_put : (c : StoredCopy) (t new : Tally) (cs after : List StoredCopy) → Tallies t cs → new ≡ with_one c.standing t → after ≡ cs ++ c ∷ [] → Tallies new after
tally_put c t new cs after tallies put there = put ∙ ap (λ (z : Tally). with_one c.standing z) tallies ∙ sym (counted_last c cs) ∙ ap (λ (l : List StoredCopy). tally_of l) (sym there)

pub put_fits : (m : ℕ) (t : Tally) (cs : List StoredCopy) → Tallies t cs → length cs + 1 < m → total t + 1 < m
put_fits m t cs tallies fits = let so : total t ≡ length cs = ap (λ (z : Tally). total z) tallies ∙ all_counted cs in omega (arith, so, fits)

-- a lock that lives longer
pub renewed_alike : (until : ℕ) (s : Standing) (t : Tally) → with_one (prolonged_standing until s) t ≡ with_one s t
renewed_alike until Ready t = refl
renewed_alike until Deferred t = refl
renewed_alike until (Held lock hold deferred) t = refl
renewed_alike until (Scheduled m) t = refl
