-- What is written for a value holds no line feed.
use Rattle.std.proofs.Common.{◌≡◌, ℕ, zero, suc, ◌/◌, ◌%◌, ◌==◌, List, [], ◌∷◌, ◌++◌, Bool, true, false, not, ◌&&◌, if◌then◌else◌, pos, negsuc, refl, ◌∙◌, arith}
use Rattle.std.proofs.lemmas.Bool.Decides.{nat_tests}
use Rattle.std.proofs.lemmas.List.Folds.{list_all-append}
use Rattle.std.specs.Fmt.{digit_glyph, digits_onto, digits, decimal}
use Rattle.json.specs.Print.{escape_byte, escape, quoted}
use Rattle.serde_json.specs.Data.{Num, unsigned, negative, float, Data, null, boolean, number, string, array, object, Items, no_items, item, Members, no_members, member}
use Rattle.serde_json.specs.Written.{number_text, comma_if, compact_text, items_text, members_text}
use Rattle.sb_lines.specs.Laws.{is_one_line}

both : (a b : Bool) → a ≡ true → b ≡ true → (a && b) ≡ true
both a b x y = rw (x, y) refl

joined : (xs ys : List ℕ) → is_one_line xs ≡ true → is_one_line ys ≡ true → is_one_line (xs ++ ys) ≡ true
joined xs ys x y = list_all-append (λ b. not (b == 10)) xs ys ∙ both (is_one_line xs) (is_one_line ys) x y

chosen : (b : Bool) (xs ys : List ℕ) → is_one_line xs ≡ true → is_one_line ys ≡ true → is_one_line (if b then xs else ys) ≡ true
chosen true xs ys x y = x
chosen false xs ys x y = y

-- ---- numbers

glyph : (d : ℕ) → not (digit_glyph false d == 10) ≡ true
glyph d = grind (arith, nat_tests)

onto : (k n : ℕ) (after : List ℕ) → is_one_line after ≡ true → is_one_line (digits_onto k 10 false n after) ≡ true
onto zero n after h = h
onto (suc k) n after h =
    let longer = both _ _ (glyph (n % 10)) h in
    chosen (n / 10 == 0) (digit_glyph false (n % 10) ∷ after) (digits_onto k 10 false (n / 10) (digit_glyph false (n % 10) ∷ after)) longer (onto k (n / 10) (digit_glyph false (n % 10) ∷ after) longer)

of_decimal : (n : ℕ) → is_one_line (decimal n) ≡ true
unfolding digits
of_decimal n = onto 64 n [] refl

of_number : (n : Num) → is_one_line (number_text n) ≡ true
of_number (unsigned n) = of_decimal n
of_number (negative (pos n)) = of_decimal n
of_number (negative (negsuc n)) = of_decimal (suc n)
of_number (float x) = refl

-- ---- texts

of_byte : (x : ℕ) → is_one_line (escape_byte x) ≡ true
unfolding escape_byte
of_byte x = grind (arith, nat_tests)

of_escape : (s : List ℕ) → is_one_line (escape s) ≡ true
of_escape [] = refl
of_escape (x ∷ xs) = joined (escape_byte x) (escape xs) (of_byte x) (of_escape xs)

of_quoted : (s : List ℕ) → is_one_line (quoted s) ≡ true
of_quoted s = joined (escape s) (34 ∷ []) (of_escape s) refl

-- ---- values

of_comma : (later : Bool) → is_one_line (comma_if later) ≡ true
of_comma true = refl
of_comma false = refl

mutual
  pub of_data : (d : Data) → is_one_line (compact_text d) ≡ true
  of_data null = refl
  of_data (boolean true) = refl
  of_data (boolean false) = refl
  of_data (number n) = of_number n
  of_data (string s) = of_quoted s
  of_data (array ds) = of_items false ds
  of_data (object ms) = of_members false ms

  of_items : (later : Bool) (ds : Items) → is_one_line (items_text later ds) ≡ true
  of_items later no_items = refl
  of_items later (item d ds) = joined (comma_if later) _ (of_comma later) (joined (compact_text d) (items_text true ds) (of_data d) (of_items true ds))

  of_members : (later : Bool) (ms : Members) → is_one_line (members_text later ms) ≡ true
  of_members later no_members = refl
  of_members later (member k d ms) =
      joined (comma_if later) _ (of_comma later) (joined (quoted k) _ (of_quoted k) (joined (compact_text d) (members_text true ms) (of_data d) (of_members true ms)))
