-- Where a text may be cut.
use Rattle.std.proofs.Common.{◌≡◌, ◌-◌, ◌+◌, ℕ, zero, suc, ◌<◌, ◌≤◌, List, length, get_or, arith, add-one, Bool, true, false, [], ◌∷◌, refl}
use Rattle.std.specs.Str.{IsUtf8, IsCharBoundary}
use Rattle.std.specs.List.{prefix_len}
use Rattle.std.proofs.lemmas.Bool.Decides.{nat_tests}
use Rattle.sb_model.specs.TokenBytes.{is_white, is_digit, is_word}
use Rattle.std.proofs.lemmas.Str.{IsCharBoundary-start, IsCharBoundary-after_ascii}

-- behind an ASCII character, and at the start
pub behind_ascii : (text : List ℕ) (n : ℕ) → IsUtf8 text → n ≤ length text → (0 < n → get_or text (n - 1) 0 < 128) → IsCharBoundary text n
behind_ascii text zero utf8 within ascii = IsCharBoundary-start text utf8
behind_ascii text (suc n) utf8 within ascii =
    let e : suc n - 1 ≡ n = omega arith in
    let byte : get_or text n 0 < 128 = rw e at (ascii (omega arith)) in
    rw add-one at (IsCharBoundary-after_ascii text n utf8 (omega arith) byte)

-- each byte of a run is of its class
run_passes : (p : ℕ → Bool) (text : List ℕ) (k : ℕ) → k < prefix_len p text → p (get_or text k 0) ≡ true
run_passes p [] k less = absurd (omega arith)
run_passes p (b ∷ text) zero less = at (p b) refl less where
  at : (is : Bool) → p b ≡ is → 0 < prefix_len p (b ∷ text) → p b ≡ true
  at true is less = is
  at false is less = let none : 0 < 0 = rw is at less in absurd (omega arith)
run_passes p (b ∷ text) (suc k) less = at (p b) refl less (run_passes p text k) where
  at : (is : Bool) → p b ≡ is → suc k < prefix_len p (b ∷ text) → (k < prefix_len p text → p (get_or text k 0) ≡ true) → p (get_or text k 0) ≡ true
  at true is less ih = let more : suc k < 1 + prefix_len p text = rw is at less in ih (omega arith)
  at false is less ih = let none : suc k < 0 = rw is at less in absurd (omega arith)

run_ends : (p : ℕ → Bool) → ((b : ℕ) → p b ≡ true → b < 128) → (text : List ℕ) (n : ℕ) → n ≡ prefix_len p text → 0 < n → get_or text (n - 1) 0 < 128
run_ends p small text n is more = small (get_or text (n - 1) 0) (run_passes p text (n - 1) (omega arith))

white_small : (b : ℕ) → is_white b ≡ true → b < 128
white_small b is = grind (arith, nat_tests)

digit_small : (b : ℕ) → is_digit b ≡ true → b < 128
digit_small b is = grind (arith, nat_tests)

word_small : (b : ℕ) → is_word b ≡ true → b < 128
word_small b is = grind (arith, nat_tests)

pub white_ends : (text : List ℕ) (n : ℕ) → n ≡ prefix_len is_white text → 0 < n → get_or text (n - 1) 0 < 128
white_ends = run_ends is_white white_small

pub digits_end : (text : List ℕ) (n : ℕ) → n ≡ prefix_len is_digit text → 0 < n → get_or text (n - 1) 0 < 128
digits_end = run_ends is_digit digit_small

pub word_ends : (text : List ℕ) (n : ℕ) → n ≡ prefix_len is_word text → 0 < n → get_or text (n - 1) 0 < 128
word_ends = run_ends is_word word_small

pub ruleset runs = (white_ends, digits_end, word_ends)
