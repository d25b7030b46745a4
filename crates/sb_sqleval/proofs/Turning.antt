-- The last run decides: what stood before it needs only its first place.
use Rattle.std.proofs.Common.{◌≡◌, ◌+◌, ◌*◌, ℕ, ◌<◌, ◌≤◌, List, [], ◌∷◌, length, Option, Some, None, refl, sym, ◌∙◌, arith, Bool, true, false, add-one}
use Rattle.std.proofs.Math.Nat.{mul-le-mul_right, suc-mul}
use Rattle.std.specs.Prelude.{◌||◌, drop}
use Rattle.std.specs.Borrow.{Bor}
use Rattle.std.specs.Str.{chars}
use Rattle.std.proofs.lemmas.List.{drop-drop}
use Rattle.sb_model.specs.Likes.{PatternPart, run, with_part, has_some_form, some_suffix, parts_of}
use Rattle.sb_sqleval.specs.declared.likes.Mark.{Mark}
use Rattle.sb_sqleval.specs.declared.likes.Places.{Places}
use Rattle.sb_sqleval.specs.Places.{later_suffix, Begins, fits, retries, IsMarked, IsBounded, IsWithin, tries, Turns, Passes}

-- a run of the pattern
none_passes : (cs : List ℕ) → some_suffix (has_some_form None) cs ≡ false
none_passes [] = refl
none_passes (c ∷ cs) = none_passes cs

pub form_of_run : (parts : Option (List PatternPart)) (cs : List ℕ) → has_some_form (with_part run parts) cs ≡ some_suffix (has_some_form parts) cs
form_of_run None cs = sym (none_passes cs)
form_of_run (Some parts) cs = refl

false_right : (b : Bool) → (b || false) ≡ b
false_right true = refl
false_right false = refl

pub suffix_split : (f : List ℕ → Bool) (cs : List ℕ) → (f cs || later_suffix f cs) ≡ some_suffix f cs
suffix_split f [] = false_right (f [])
suffix_split f (c ∷ cs) = refl

absorbs : (a b : Bool) → (b ≡ true → a ≡ true) → (a || b) ≡ a
absorbs true b h = refl
absorbs false true h = let e = h refl in absurd cc
absorbs false false h = refl

-- what fits behind fewer characters
pub suffix_grows : (f : List ℕ → Bool) (cs : List ℕ) → some_suffix f (drop 1 cs) ≡ true → some_suffix f cs ≡ true
suffix_grows f [] e = e
suffix_grows f (c ∷ cs) e = at (f (c ∷ cs)) where
  at : (b : Bool) → (b || some_suffix f cs) ≡ true
  at true = refl
  at false = e

drop_more : (k : ℕ) (c : ℕ) (cs : List ℕ) → drop 1 (drop k (c ∷ cs)) ≡ drop k cs
drop_more k c cs = drop-drop 1 k (c ∷ cs) ∙ rw add-one refl

-- where each text that passes g has, k characters on, a suffix that passes f
pub suffix_moves : (f g : List ℕ → Bool) (k : ℕ) → ((s : List ℕ) → g s ≡ true → some_suffix f (drop k s) ≡ true) → (cs : List ℕ) → some_suffix g cs ≡ true → some_suffix f (drop k cs) ≡ true
suffix_moves f g k h [] e = h [] e
suffix_moves f g k h (c ∷ cs) e = at (g (c ∷ cs)) refl e (suffix_moves f g k h cs) where
  at : (b : Bool) → g (c ∷ cs) ≡ b → (b || some_suffix g cs) ≡ true → (some_suffix g cs ≡ true → some_suffix f (drop k cs) ≡ true) → some_suffix f (drop k (c ∷ cs)) ≡ true
  at true is e ih = h (c ∷ cs) is
  at false is e ih = suffix_grows f (drop k (c ∷ cs)) (rw (drop_more k c cs) (ih e))

pub later_moves : (f g : List ℕ → Bool) (k : ℕ) → ((s : List ℕ) → g s ≡ true → some_suffix f (drop k s) ≡ true) → (cs : List ℕ) → later_suffix g cs ≡ true → some_suffix f (drop k cs) ≡ true
later_moves f g k h [] e = absurd cc
later_moves f g k h (c ∷ cs) e = suffix_grows f (drop k (c ∷ cs)) (rw (drop_more k c cs) (suffix_moves f g k h cs e))

-- the measure
fewer_parts : (a b s x y : ℕ) → a ≤ b → x < y → a * s + x < b * s + y
fewer_parts a b s x y le lt = omega (arith, mul-le-mul_right s le)

fewer_tries : (a s x y : ℕ) → x ≤ s → a * (s + 1) + x < (a + 1) * (s + 1) + y
fewer_tries a s x y le = rw (add-one a, suc-mul a (s + 1)) (omega arith)

-- a run
module _ (escape : Option ℕ) (ahead left rest : List ℕ) (begins : Begins escape ahead rest run) where
  reaches : (mark : Option Mark) → IsMarked escape ahead left mark → retries escape mark ≡ true → some_suffix (fits escape rest) (chars left) ≡ true
  reaches None marked e = absurd cc
  reaches (Some m) marked e =
      let moves : (s : List ℕ) → fits escape m.behind.now s ≡ true → some_suffix (fits escape rest) (drop marked.passed s) ≡ true
      = λ s fit. let there : has_some_form (with_part run (parts_of escape (chars rest))) (drop marked.passed s) ≡ true = rw begins.parts at (marked.fitting s fit) in sym (form_of_run (parts_of escape (chars rest)) (drop marked.passed s)) ∙ there
      in rw marked.place (later_moves (fits escape rest) (fits escape m.behind.now) marked.passed moves (chars m.tried.now) e)

  pub starred_same : (mark : Option Mark) → IsMarked escape ahead left mark → (fits escape rest (chars left) || later_suffix (fits escape rest) (chars left)) ≡ (fits escape ahead (chars left) || retries escape mark)
  starred_same mark marked =
      let split = suffix_split (fits escape rest) (chars left) in
      let here : fits escape ahead (chars left) ≡ some_suffix (fits escape rest) (chars left) = rw begins.parts (form_of_run (parts_of escape (chars rest)) (chars left)) in
      rw (split, here) (sym (absorbs (some_suffix (fits escape rest) (chars left)) (retries escape mark) (reaches mark marked)))

tries_left : (most size : ℕ) (left : List ℕ) (mark : Option Mark) → IsBounded most size left mark → length (chars left) ≤ tries most mark
tries_left most size left None bounded = omega arith
tries_left most size left (Some m) bounded = bounded.0

pub starred : (escape : Option ℕ) (p : Places) (rest : Bor (List ℕ)) → Begins escape p.ahead.now rest.now run → IsMarked escape p.ahead.now p.left.now p.mark → (most size : ℕ) → IsWithin most size p → Turns escape most size p (record { left = p.left; ahead = rest; mark = Some (record { behind = rest; tried = p.left }) })
starred escape p rest begins marked most size within = record {
  same = starred_same escape p.ahead.now p.left.now rest.now begins p.mark marked;
  marked = record { passed = 0; place = refl; fitting = λ s fit. fit };
  within = record { ahead = omega (arith, begins.shorter, within.ahead); mark = (omega arith, omega (arith, begins.shorter, within.ahead)) };
  fewer = fewer_parts (length (chars p.left.now)) (tries most p.mark) (size + 1) (length (chars rest.now)) (length (chars p.ahead.now)) (tries_left most size p.left.now p.mark within.mark) begins.shorter;
}

-- one character
marked_on : (escape : Option ℕ) (ahead left onward rest : List ℕ) (mark : Option Mark) → Passes escape ahead left onward rest → IsMarked escape ahead left mark → IsMarked escape onward rest mark
marked_on escape ahead left onward rest None passes marked = tt
marked_on escape ahead left onward rest (Some m) passes marked = record {
  passed = marked.passed + 1;
  place = rw (passes.text, marked.place) (drop-drop 1 marked.passed (chars m.tried.now));
  fitting = λ s fit. rw (← drop-drop 1 marked.passed s) (passes.later (drop marked.passed s) (marked.fitting s fit));
}

bounded_on : (escape : Option ℕ) (ahead left onward rest : List ℕ) (most size : ℕ) (mark : Option Mark) → Passes escape ahead left onward rest → IsBounded most size left mark → IsBounded most size rest mark
bounded_on escape ahead left onward rest most size None passes bounded = omega (arith, passes.fewer)
bounded_on escape ahead left onward rest most size (Some m) passes bounded = (omega (arith, passes.fewer, bounded.0), bounded.1)

pub passed : (escape : Option ℕ) (p : Places) (onward rest : Bor (List ℕ)) → Passes escape p.ahead.now p.left.now onward.now rest.now → IsMarked escape p.ahead.now p.left.now p.mark → (most size : ℕ) → IsWithin most size p → Turns escape most size p (record { left = rest; ahead = onward; mark = p.mark })
passed escape p onward rest passes marked most size within = record {
  same = rw passes.same refl;
  marked = marked_on escape p.ahead.now p.left.now onward.now rest.now p.mark passes marked;
  within = record { ahead = omega (arith, passes.shorter, within.ahead); mark = bounded_on escape p.ahead.now p.left.now onward.now rest.now most size p.mark passes within.mark };
  fewer = omega (arith, passes.shorter);
}

-- back to the mark
retried_same : (f : List ℕ → Bool) (tried next : List ℕ) (c : ℕ) → tried ≡ c ∷ next → (f next || later_suffix f next) ≡ later_suffix f tried
retried_same f tried next c is = rw is (suffix_split f next)

pub retried : (escape : Option ℕ) (p : Places) (m : Mark) (next : Bor (List ℕ)) (c : ℕ) → fits escape p.ahead.now (chars p.left.now) ≡ false → p.mark ≡ Some m → chars m.tried.now ≡ c ∷ chars next.now → (most size : ℕ) → IsWithin most size p → Turns escape most size p (record { left = next; ahead = m.behind; mark = Some (record { behind = m.behind; tried = next }) })
retried escape p m next c stuck is some most size within =
    let bounded : IsBounded most size p.left.now (Some m) = rw is at within.mark in
    let more : length (chars m.tried.now) ≡ length (chars next.now) + 1 = rw some (omega arith) in
    record {
      same = rw (stuck, is) (retried_same (fits escape m.behind.now) (chars m.tried.now) (chars next.now) c some);
      marked = record { passed = 0; place = refl; fitting = λ s fit. fit };
      within = record { ahead = bounded.1; mark = (omega arith, bounded.1) };
      fewer = rw (is, more) (fewer_tries (length (chars next.now)) size (length (chars m.behind.now)) (length (chars p.ahead.now)) bounded.1);
    }

-- the count of turns: one more where fewer are left, and at the end at most this
pub one_more : (now after left less most : ℕ) → after ≡ now + 1 → now + left ≤ most → less < left → after + less ≤ most
one_more now after left less most e h lt = omega (arith, e, h, lt)

few_places : (n p : ℕ) → (n + 1) * (p + 1) + p + 1 ≤ 2 * (p + 1) * (n + 1)
few_places n p = grind arith

pub few_steps : (old now after left n p : ℕ) → now + left ≤ old + ((n + 1) * (p + 1) + p) → after ≡ now + 1 → after ≤ old + 2 * (p + 1) * (n + 1)
few_steps old now after left n p h e = omega (arith, h, e, few_places n p)
