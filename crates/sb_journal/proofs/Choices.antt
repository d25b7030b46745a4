-- Which of two disks' files counts, by what is seen of them.
use Rattle.std.proofs.Common.{◌≡◌, ◌⊎◌, inl, inr, ℕ, ◌<◌, ◌≤◌, List, ◌++◌, length, take, drop, true, false, refl, sym, ◌∙◌, ap, subst, arith, length-append, length-take, take-append-drop}
use Rattle.std.specs.Prelude.{Bool, if◌then◌else◌, nat_le, nat_lt, slice_index, ◌||◌, ◌==◌, Option, Some, None, Result, Ok, Err, IfOk, IfErr}
use Rattle.std.proofs.lemmas.Bool.{cases_lt}
use Rattle.std.proofs.lemmas.Bool.Decides.{nat_tests}
use Rattle.std.proofs.lemmas.List.{take_all, get_or_append_left}
use Rattle.sb_journal.specs.declared.choosing.Headed.{Headed}
use Rattle.sb_journal.specs.declared.choosing.Headed.TheVariants.{Headless, Taken, Spoilt, Generation}
use Rattle.sb_journal.specs.declared.choosing.Choice.{Choice}
use Rattle.sb_journal.specs.declared.choosing.Choice.TheVariants.{Counts, Hurt}
use Rattle.sb_journal.specs.declared.choosing.Picked.{Picked}
use Rattle.sb_journal.specs.declared.found.OpenWhy.{OpenWhy}
use Rattle.sb_journal.specs.declared.found.OpenWhy.TheVariants.{Damaged}
use Rattle.sb_journal.specs.declared.found.Side.{Side}
use Rattle.sb_journal.specs.declared.found.Side.TheVariants.{A, B}
use Rattle.sb_journal.specs.Framing.{Uncreated, framing, is_created, head_fault, number_at}
use Rattle.sb_journal.specs.Choosing.{sided, greater, headed_by, headless, headed, chosen, chosen_of, is_unshut}
use Rattle.sb_journal.specs.Opened.{IsPicked}
use Rattle.sb_journal.proofs.Finishing.{uncreated_isnt, uncreated_short}
use Rattle.sb_journal.proofs.Wholes.{front_created, front_fault, front_number, headed_none}

same_by : (x y : List ℕ) (o : Option ℕ) → number_at 18 x ≡ number_at 18 y → headed_by x o ≡ headed_by y o
same_by x y None same = cc
same_by x y (Some place) same = refl

-- ---- what is seen at the begin says all

module _ (part tail : List ℕ) (long : 44 ≤ length part) where
  headed_more : headed (part ++ tail) ≡ headed part
  unfolding headed
  headed_more =
      let all = part ++ tail in
      let more : 44 ≤ length all = omega (arith, long, length-append part tail) in
      let few_all : nat_le (length all) 43 ≡ false = grind (arith, nat_tests, more) in
      let few_part : nat_le (length part) 43 ≡ false = grind (arith, nat_tests, long) in
      let few : nat_le (length all) 43 ≡ nat_le (length part) 43 = few_all ∙ sym few_part in
      ap (λ (b : Bool). if b then headed_by all (head_fault all) else headless all) (front_created part tail (omega (arith, long)))
      ∙ ap (λ (o : Option ℕ). if is_created part then headed_by all o else headless all) (front_fault part tail (omega (arith, long)))
      ∙ ap (λ (h : Headed). if is_created part then h else headless all) (same_by all part (head_fault part) (front_number 18 part tail (omega (arith, long))))
      ∙ ap (λ (b : Bool). if is_created part then headed_by part (head_fault part) else (if b then Headless else Taken)) few

  unshut_more : is_unshut (part ++ tail) ≡ is_unshut part
  unshut_more =
      ap (λ (b : Bool). b || nat_lt 1 (slice_index (part ++ tail) 0)) (front_created part tail (omega (arith, long)))
      ∙ ap (λ n. is_created part || nat_lt 1 n) (get_or_append_left part tail 0 0 (omega (arith, long)))

-- a word that more bytes behind the first 44 don't change
by_front : {T : Type 0} (word : List ℕ → T) → ((part tail : List ℕ) → 44 ≤ length part → word (part ++ tail) ≡ word part) → (bytes : List ℕ) → word (take 44 bytes) ≡ word bytes
by_front word more bytes = elim (cases_lt 44 (length bytes)) [
  | inl long ↦ sym (more (take 44 bytes) (drop 44 bytes) (omega (arith, long, length-take 44 bytes))) ∙ ap word (take-append-drop 44 bytes)
  | inr short ↦ ap word (take_all 44 bytes (omega (arith, short)))
]

pub headed_front : (bytes : List ℕ) → headed (take 44 bytes) ≡ headed bytes
headed_front bytes = by_front headed headed_more bytes

pub unshut_front : (bytes : List ℕ) → is_unshut (take 44 bytes) ≡ is_unshut bytes
unshut_front bytes = by_front is_unshut unshut_more bytes

-- ---- which file counts

pub headed_short : (bytes : List ℕ) → is_created bytes ≡ false → length bytes ≤ 43 → headed bytes ≡ Headless
headed_short bytes isnt short = headed_none bytes isnt ∙ ap (λ (b : Bool). if b then Headless else Taken) (let e : nat_le (length bytes) 43 ≡ true = grind (arith, nat_tests) in e)

pub headed_long : (bytes : List ℕ) → is_created bytes ≡ false → 43 < length bytes → headed bytes ≡ Taken
headed_long bytes isnt long = headed_none bytes isnt ∙ ap (λ (b : Bool). if b then Headless else Taken) (let e : nat_le (length bytes) 43 ≡ false = grind (arith, nat_tests) in e)

headed_free : (bytes : List ℕ) → is_created bytes ≡ false → (headed bytes ≡ Headless) ⊎ (headed bytes ≡ Taken)
headed_free bytes isnt = elim (cases_lt 43 (length bytes)) [
  | inl long ↦ inr (headed_long bytes isnt long)
  | inr short ↦ inl (headed_short bytes isnt (omega (arith, short)))
]

pub headed_uncreated : (bytes : List ℕ) → framing bytes ≡ Uncreated → headed bytes ≡ Headless
headed_uncreated bytes none = headed_short bytes (uncreated_isnt bytes none) (uncreated_short bytes none)

neither : (a b : Bool) → (a || b) ≡ false → a ≡ false
neither true b e = absurd cc
neither false b e = refl

pub not_created : (bytes : List ℕ) → is_unshut bytes ≡ false → is_created bytes ≡ false
not_created bytes shut = neither (is_created bytes) (nat_lt 1 (slice_index bytes 0)) shut

-- the file of this side, beside which none is
pub counts_here : (side : Side) (g : ℕ) (x y : List ℕ) → headed x ≡ Generation g → is_created y ≡ false → chosen (sided side x y) (sided side y x) ≡ Counts side
counts_here A g x y is isnt = ap (λ h. chosen_of h (headed y)) is ∙ elim (headed_free y isnt) [
  | inl none ↦ ap (chosen_of (Generation g)) none
  | inr taken ↦ ap (chosen_of (Generation g)) taken
]
counts_here B g x y is isnt = ap (λ h. chosen_of (headed y) h) is ∙ elim (headed_free y isnt) [
  | inl none ↦ ap (λ h. chosen_of h (Generation g)) none
  | inr taken ↦ ap (λ h. chosen_of h (Generation g)) taken
]

-- a file of disk b that counts was made
made_on_b : (h : Headed) → chosen_of h Headless ≡ Counts B → ⊥
made_on_b Headless e = absurd cc
made_on_b Taken e = absurd cc
made_on_b (Spoilt place) e = absurd cc
made_on_b (Generation g) e = absurd cc

pub counts_b_made : (a b : List ℕ) → chosen a b ≡ Counts B → framing b ≡ Uncreated → ⊥
counts_b_made a b counts none = made_on_b (headed a) (sym (ap (chosen_of (headed a)) (headed_uncreated b none)) ∙ counts)

-- of two
greater_b : (g h : ℕ) → g < h → greater g h ≡ Counts B
greater_b g h low =
    let same : (g == h) ≡ false = grind (arith, nat_tests) in
    let less : nat_lt g h ≡ true = grind (arith, nat_tests) in
    ap (λ (t : Bool). if t then Hurt B 18 else (if nat_lt g h then Counts B else Counts A)) same
    ∙ ap (λ (t : Bool). if t then Counts B else Counts A) less

greater_a : (g h : ℕ) → h < g → greater g h ≡ Counts A
greater_a g h low =
    let same : (g == h) ≡ false = grind (arith, nat_tests) in
    let less : nat_lt g h ≡ false = grind (arith, nat_tests) in
    ap (λ (t : Bool). if t then Hurt B 18 else (if nat_lt g h then Counts B else Counts A)) same
    ∙ ap (λ (t : Bool). if t then Counts B else Counts A) less

neither_greater : (g h : ℕ) → g ≡ h → greater g h ≡ Hurt B 18
neither_greater g h e =
    let same : (g == h) ≡ true = grind (arith, nat_tests) in
    ap (λ (t : Bool). if t then Hurt B 18 else (if nat_lt g h then Counts B else Counts A)) same

module _ (g h : ℕ) (x y : List ℕ) (on_x : headed x ≡ Generation g) (on_y : headed y ≡ Generation h) where
  both_made : chosen x y ≡ greater g h
  both_made = ap (λ z. chosen_of z (headed y)) on_x ∙ ap (chosen_of (Generation g)) on_y

  pub later_b : g < h → chosen x y ≡ Counts B
  later_b low = both_made ∙ greater_b g h low

  pub later_a : h < g → chosen x y ≡ Counts A
  later_a low = both_made ∙ greater_a g h low

  pub same_made : g ≡ h → chosen x y ≡ Hurt B 18
  same_made e = both_made ∙ neither_greater g h e

-- ---- what is picked by the begins is picked by all

picked_by : (p : Picked) (a b : List ℕ) → IsPicked p (take 44 a) (take 44 b) → IsPicked p a b
picked_by p a b is = record {
  counts = ap (λ h. chosen_of h (headed b)) (sym (headed_front a)) ∙ ap (λ h. chosen_of (headed (take 44 a)) h) (sym (headed_front b)) ∙ is.counts;
  unshut = is.unshut ∙ by_side p.side;
}
  where
    by_side : (side : Side) → is_unshut (sided side (take 44 b) (take 44 a)) ≡ is_unshut (sided side b a)
    by_side A = unshut_front b
    by_side B = unshut_front a

module _ (r : Result Picked OpenWhy) (front_a front_b a b : List ℕ) (is_a : front_a ≡ take 44 a) (is_b : front_b ≡ take 44 b) where
  pub picked_front : IfOk r (λ p. IsPicked p front_a front_b) → IfOk r (λ p. IsPicked p a b)
  picked_front is = at_all r (subst (λ (x : List ℕ). IfOk r (λ p. IsPicked p x (take 44 b))) is_a (subst (λ (y : List ℕ). IfOk r (λ p. IsPicked p front_a y)) is_b is))
    where
      at_all : (r : Result Picked OpenWhy) → IfOk r (λ p. IsPicked p (take 44 a) (take 44 b)) → IfOk r (λ p. IsPicked p a b)
      at_all (Ok p) is = picked_by p a b is
      at_all (Err e) is = tt

  pub chosen_front : (choice : Choice) → chosen front_a front_b ≡ choice → chosen a b ≡ choice
  chosen_front choice is =
      ap (λ h. chosen_of h (headed b)) (sym (headed_front a))
      ∙ ap (λ h. chosen_of (headed (take 44 a)) h) (sym (headed_front b))
      ∙ ap (λ (x : List ℕ). chosen x (take 44 b)) (sym is_a)
      ∙ ap (λ (y : List ℕ). chosen front_a y) (sym is_b)
      ∙ is

  pub damaged_front : IfErr r (λ e. (side : Side) (place : ℕ) → e ≡ Damaged side place → chosen front_a front_b ≡ Hurt side place) → IfErr r (λ e. (side : Side) (place : ℕ) → e ≡ Damaged side place → chosen a b ≡ Hurt side place)
  damaged_front is = of_result r is
    where
      of_result : (r : Result Picked OpenWhy) → IfErr r (λ e. (side : Side) (place : ℕ) → e ≡ Damaged side place → chosen front_a front_b ≡ Hurt side place) → IfErr r (λ e. (side : Side) (place : ℕ) → e ≡ Damaged side place → chosen a b ≡ Hurt side place)
      of_result (Ok p) is = tt
      of_result (Err e) is = λ side place same. chosen_front (Hurt side place) (is side place same)
