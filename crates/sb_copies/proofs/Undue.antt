-- What a change of rows by session does to them as they are while none is a head, and to the numbers of heads.
use Rattle.std.proofs.Common.{◌≡◌, ℕ, List, [], ◌∷◌, map, find, not, nat_lt, ◌==◌, ◌||◌, if◌then◌else◌, Bool, true, false, Option, Some, None, cond, refl, sym, ap, ◌∙◌, subst, arith}
use Rattle.std.specs.List.{filter, list_all, list_any}
use Rattle.std.specs.Option.{option_map, option_map_or}
use Rattle.std.proofs.lemmas.Bool.Decides.{nat_tests}
use Rattle.sb_index.specs.Rows.{AreAbove, AreRising, Lacks, changed, is_at, told, with_row, without}
use Rattle.sb_index.specs.declared.row.Row.{Row}
use Rattle.sb_machine.specs.declared.state.StoredCopy.{StoredCopy}
use Rattle.sb_machine.specs.Leases.{is_ready}
use Rattle.sb_copies.specs.BySession.{session_hash_of}
use Rattle.sb_copies.specs.Grouped.{group_key, own_row, told_grouped, with_grouped, without_grouped}
use Rattle.sb_copies.specs.Dues.{never}
use Rattle.sb_copies.specs.Heads.{AreOwn, heads_in, is_own, is_usual, told_head, undue, undue_rows, with_told}
use Rattle.sb_copies.proofs.Grouped.{with_first, with_later}
use Rattle.sb_copies.proofs.Order.{both}

-- ---- as they are while none is a head

undue_rising_above : (n : ℕ) (rows : List Row) → AreAbove n rows → AreAbove n (undue_rows rows)
undue_rising_above n [] a = tt
undue_rising_above n (x ∷ xs) a = (a.0, undue_rising_above n xs a.1)

pub undue_rising : (rows : List Row) → AreRising rows → AreRising (undue_rows rows)
undue_rising [] s = tt
undue_rising (x ∷ xs) s = (undue_rising_above x.key xs s.0, undue_rising xs s.1)

pub undue_lacks : (key : ℕ) (rows : List Row) → Lacks key (undue_rows rows) → Lacks key rows
undue_lacks key rows none = sym (same rows) ∙ none where
  same : (xs : List Row) → list_any (is_at key) (undue_rows xs) ≡ list_any (is_at key) xs
  same [] = refl
  same (x ∷ xs) = ap (λ b. (key == x.key) || b) (same xs)

undue_found : (p : Row → Bool) → ((x : Row) → p (undue x) ≡ p x) → (rows : List Row) → find p (undue_rows rows) ≡ option_map undue (find p rows)
undue_found p alike [] = refl
undue_found p alike (x ∷ xs) = ap (λ b. cond b (Some (undue x)) (find p (undue_rows xs))) (alike x) ∙ at (p x) (undue_found p alike xs) where
  at : (b : Bool) → find p (undue_rows xs) ≡ option_map undue (find p xs) → cond b (Some (undue x)) (find p (undue_rows xs)) ≡ option_map undue (cond b (Some x) (find p xs))
  at true ih = refl
  at false ih = ih

pub undue_some : (p : Row → Bool) → ((x : Row) → p (undue x) ≡ p x) → (row : Row) (rows : List Row) → Some row ≡ find p rows → Some (undue row) ≡ find p (undue_rows rows)
undue_some p alike row rows found = ap (λ (o : Option Row). option_map undue o) found ∙ sym (undue_found p alike rows)

pub undue_none : (p : Row → Bool) → ((x : Row) → p (undue x) ≡ p x) → (rows : List Row) → None ≡ find p rows → None ≡ find p (undue_rows rows)
undue_none p alike rows found = ap (λ (o : Option Row). option_map undue o) found ∙ sym (undue_found p alike rows)

undue_with : (x : Row) (rows : List Row) → undue x ≡ x → undue_rows (with_row x rows) ≡ with_row x (undue_rows rows)
undue_with x [] so = ap (λ (z : Row). z ∷ []) so
undue_with x (y ∷ ys) so = at (nat_lt y.key x.key) refl (undue_with x ys so) where
  at : (b : Bool) → nat_lt y.key x.key ≡ b → undue_rows (with_row x ys) ≡ with_row x (undue_rows ys) → undue_rows (with_row x (y ∷ ys)) ≡ with_row x (undue_rows (y ∷ ys))
  at true e ih = ap (λ (l : List Row). undue_rows l) (with_later x y ys e) ∙ ap (λ (l : List Row). undue y ∷ l) ih ∙ sym (with_later x (undue y) (undue_rows ys) e)
  at false e ih = ap (λ (l : List Row). undue_rows l) (with_first x y ys e) ∙ ap (λ (z : Row). z ∷ undue_rows (y ∷ ys)) so ∙ sym (with_first x (undue y) (undue_rows ys) e)

undue_without : (key : ℕ) (rows : List Row) → undue_rows (without key rows) ≡ without key (undue_rows rows)
undue_without key [] = refl
undue_without key (x ∷ xs) = at (not (key == x.key)) (undue_without key xs) where
  at : (b : Bool) → undue_rows (without key xs) ≡ without key (undue_rows xs) → undue_rows (cond b (x ∷ without key xs) (without key xs)) ≡ cond b (undue x ∷ without key (undue_rows xs)) (without key (undue_rows xs))
  at true ih = ap (λ (l : List Row). undue x ∷ l) ih
  at false ih = ih

undue_changed : (key : ℕ) (m : Bool) (d : ℕ) (rows : List Row) → undue_rows (changed key m d rows) ≡ changed key m never (undue_rows rows)
undue_changed key m d [] = refl
undue_changed key m d (x ∷ xs) = at (key == x.key) (undue_changed key m d xs) where
  at : (b : Bool) → undue_rows (changed key m d xs) ≡ changed key m never (undue_rows xs) → undue (cond b (record { key = x.key; value = x.value; marked = m; due = d }) x) ∷ undue_rows (changed key m d xs) ≡ cond b (record { key = x.key; value = x.value; marked = m; due = never }) (undue x) ∷ changed key m never (undue_rows xs)
  at true ih = ap (λ (l : List Row). record { key = x.key; value = x.value; marked = m; due = never } ∷ l) ih
  at false ih = ap (λ (l : List Row). undue x ∷ l) ih

undue_told : (key : ℕ) (head : Bool) (rows : List Row) → undue_rows (map (told_head key head) rows) ≡ undue_rows rows
undue_told key head [] = refl
undue_told key head (x ∷ xs) = at (key == x.key) (undue_told key head xs) where
  at : (b : Bool) → undue_rows (map (told_head key head) xs) ≡ undue_rows xs → undue (cond b (record { key = x.key; value = x.value; marked = x.marked; due = if head then x.value else never }) x) ∷ undue_rows (map (told_head key head) xs) ≡ undue x ∷ undue_rows xs
  at true ih = ap (λ (l : List Row). undue x ∷ l) ih
  at false ih = ap (λ (l : List Row). undue x ∷ l) ih

pub undue_put : (c : StoredCopy) (rows new : List Row) → new ≡ with_grouped (session_hash_of c) c.number (is_ready c.standing) rows → undue_rows new ≡ with_grouped (session_hash_of c) c.number (is_ready c.standing) (undue_rows rows)
undue_put c rows new put = ap (λ (l : List Row). undue_rows l) put ∙ at (session_hash_of c) where
  at : (o : Option ℕ) → undue_rows (option_map_or (λ h. with_row (own_row (λ x. is_ready x.standing) h c) rows) o rows) ≡ option_map_or (λ h. with_row (own_row (λ x. is_ready x.standing) h c) (undue_rows rows)) o (undue_rows rows)
  at None = refl
  at (Some h) = undue_with (own_row (λ x. is_ready x.standing) h c) rows refl

pub undue_taken : (o : Option ℕ) (n : ℕ) (rows new : List Row) → new ≡ without_grouped o n rows → undue_rows new ≡ without_grouped o n (undue_rows rows)
undue_taken None n rows new taken = ap (λ (l : List Row). undue_rows l) taken
undue_taken (Some h) n rows new taken = ap (λ (l : List Row). undue_rows l) taken ∙ undue_without (group_key h n) rows

pub undue_marked : (o : Option ℕ) (n : ℕ) (m : Bool) (rows new : List Row) → new ≡ told_grouped o n m rows → undue_rows new ≡ told_grouped o n m (undue_rows rows)
undue_marked None n m rows new marked = ap (λ (l : List Row). undue_rows l) marked
undue_marked (Some h) n m rows new marked = ap (λ (l : List Row). undue_rows l) marked ∙ undue_changed (group_key h n) m never rows

pub undue_stays : (o : Option ℕ) (n : ℕ) (head : Bool) (rows new : List Row) → new ≡ with_told o n head rows → undue_rows new ≡ undue_rows rows
undue_stays None n head rows new told_so = ap (λ (l : List Row). undue_rows l) told_so
undue_stays (Some h) n head rows new told_so = ap (λ (l : List Row). undue_rows l) told_so ∙ undue_told (group_key h n) head rows

-- ---- each due at its own number

itself : (n : ℕ) → (n == n) ≡ true
itself n = grind (arith, nat_tests)

or_true : (a b : Bool) → b ≡ true → (a || b) ≡ true
or_true true b e = refl
or_true false b e = e

own_with : (x : Row) (rows : List Row) → is_own x ≡ true → AreOwn rows → AreOwn (with_row x rows)
own_with x [] so own = rw so refl
own_with x (y ∷ ys) so own = at (nat_lt y.key x.key) refl (own_with x ys so it.1) where
  it : (is_own y ≡ true) × AreOwn ys
  it = both (is_own y) (list_all is_own ys) own

  at : (b : Bool) → nat_lt y.key x.key ≡ b → AreOwn (with_row x ys) → AreOwn (with_row x (y ∷ ys))
  at true e ih = ap (λ (l : List Row). list_all is_own l) (with_later x y ys e) ∙ rw it.0 ih
  at false e ih = ap (λ (l : List Row). list_all is_own l) (with_first x y ys e) ∙ rw so own

own_without : (p : Row → Bool) (rows : List Row) → AreOwn rows → AreOwn (filter p rows)
own_without p [] own = refl
own_without p (x ∷ xs) own = at (p x) (own_without p xs it.1) where
  it : (is_own x ≡ true) × AreOwn xs
  it = both (is_own x) (list_all is_own xs) own

  at : (b : Bool) → AreOwn (filter p xs) → AreOwn (cond b (x ∷ filter p xs) (filter p xs))
  at true ih = rw it.0 ih
  at false ih = ih

own_map : (f : Row → Row) → ((x : Row) → is_own x ≡ true → is_own (f x) ≡ true) → (rows : List Row) → AreOwn rows → AreOwn (map f rows)
own_map f keeps [] own = refl
own_map f keeps (x ∷ xs) own = let it = both (is_own x) (list_all is_own xs) own in rw (keeps x it.0) (own_map f keeps xs it.1)

own_changed : (key : ℕ) (m : Bool) (x : Row) → is_own x ≡ true → is_own (told key m never x) ≡ true
own_changed key m x so = at (key == x.key) where
  at : (b : Bool) → is_own (cond b (record { key = x.key; value = x.value; marked = m; due = never }) x) ≡ true
  at true = refl
  at false = so

own_told : (key : ℕ) (head : Bool) (x : Row) → is_own x ≡ true → is_own (told_head key head x) ≡ true
own_told key head x so = at (key == x.key) head where
  at : (b t : Bool) → is_own (cond b (record { key = x.key; value = x.value; marked = x.marked; due = if t then x.value else never }) x) ≡ true
  at true true = or_true (x.value == never) (x.value == x.value) (itself x.value)
  at true false = refl
  at false t = so

pub own_put : (c : StoredCopy) (rows new : List Row) → AreOwn rows → new ≡ with_grouped (session_hash_of c) c.number (is_ready c.standing) rows → AreOwn new
own_put c rows new own put = subst (λ (l : List Row). AreOwn l) (sym put) (at (session_hash_of c)) where
  at : (o : Option ℕ) → AreOwn (option_map_or (λ h. with_row (own_row (λ x. is_ready x.standing) h c) rows) o rows)
  at None = own
  at (Some h) = own_with (own_row (λ x. is_ready x.standing) h c) rows refl own

pub own_taken : (o : Option ℕ) (n : ℕ) (rows new : List Row) → AreOwn rows → new ≡ without_grouped o n rows → AreOwn new
own_taken None n rows new own taken = subst (λ (l : List Row). AreOwn l) (sym taken) own
own_taken (Some h) n rows new own taken = subst (λ (l : List Row). AreOwn l) (sym taken) (own_without (λ x. not (is_at (group_key h n) x)) rows own)

pub own_marked : (o : Option ℕ) (n : ℕ) (m : Bool) (rows new : List Row) → AreOwn rows → new ≡ told_grouped o n m rows → AreOwn new
own_marked None n m rows new own marked = subst (λ (l : List Row). AreOwn l) (sym marked) own
own_marked (Some h) n m rows new own marked = subst (λ (l : List Row). AreOwn l) (sym marked) (own_map (told (group_key h n) m never) (own_changed (group_key h n) m) rows own)

pub own_stays : (o : Option ℕ) (n : ℕ) (head : Bool) (rows new : List Row) → AreOwn rows → new ≡ with_told o n head rows → AreOwn new
own_stays None n head rows new own told_so = subst (λ (l : List Row). AreOwn l) (sym told_so) own
own_stays (Some h) n head rows new own told_so = subst (λ (l : List Row). AreOwn l) (sym told_so) (own_map (told_head (group_key h n) head) (own_told (group_key h n) head) rows own)

-- ---- the numbers of heads, with one more

heads_with : (x : Row) (rows : List Row) → x.due ≡ never → heads_in (with_row x rows) ≡ heads_in rows
heads_with x rows due = at rows where
  gone : (ds : List ℕ) → filter is_usual (x.due ∷ ds) ≡ filter is_usual ds
  gone ds = rw due refl

  at : (ys : List Row) → heads_in (with_row x ys) ≡ heads_in ys
  at [] = gone []
  at (y ∷ ys) = inner (nat_lt y.key x.key) refl (at ys) where
    inner : (b : Bool) → nat_lt y.key x.key ≡ b → heads_in (with_row x ys) ≡ heads_in ys → heads_in (with_row x (y ∷ ys)) ≡ heads_in (y ∷ ys)
    inner true e ih = ap (λ (l : List Row). heads_in l) (with_later x y ys e) ∙ ap (λ (l : List ℕ). cond (is_usual y.due) (y.due ∷ l) l) ih
    inner false e ih = ap (λ (l : List Row). heads_in l) (with_first x y ys e) ∙ gone (map (λ r. r.due) (y ∷ ys))

pub heads_put : (c : StoredCopy) (rows new : List Row) → new ≡ with_grouped (session_hash_of c) c.number (is_ready c.standing) rows → heads_in new ≡ heads_in rows
heads_put c rows new put = ap (λ (l : List Row). heads_in l) put ∙ at (session_hash_of c) where
  at : (o : Option ℕ) → heads_in (option_map_or (λ h. with_row (own_row (λ x. is_ready x.standing) h c) rows) o rows) ≡ heads_in rows
  at None = refl
  at (Some h) = heads_with (own_row (λ x. is_ready x.standing) h c) rows refl
