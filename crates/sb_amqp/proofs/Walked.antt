-- What loops over values and fields keep.
use Rattle.std.proofs.Common.{◌≡◌, ℕ, zero, suc, ◌+◌, ◌-◌, ◌<◌, ◌≤◌, Bool, false, List, [], ◌∷◌, ◌++◌, length, get_or, take, drop, Option, Some, None, refl, sym, ap, ◌∙◌, append_assoc, arith}
use Rattle.std.specs.Prelude.{◌==◌, option_and_then}
use Rattle.std.proofs.lemmas.List.{take_all}
use Rattle.sb_model.specs.declared.message.SystemText.{SystemText}
use Rattle.sb_amqp.specs.Fields.{field_name}
use Rattle.sb_amqp.specs.Reading.{after_value, value_at, are_values, is_some_and}
use Rattle.sb_amqp.specs.Values.{joined}
use Rattle.sb_amqp.specs.Written.{field, fields}

-- ---- what is behind a value

abbrev no_rest : Option (List ℕ)
no_rest = None

abbrev a_rest : List ℕ → Option (List ℕ)
a_rest rest = Some rest

behind_zero : (n : ℕ) (bytes : List ℕ) → 1 ≤ length bytes → get_or bytes 0 0 ≡ 0 → (n ≡ 0 → ⊥)
    → after_value n bytes ≡ option_and_then (after_value (n - 1)) (after_value (n - 1) (take (length bytes - 1) (drop 1 bytes)))
unfolding after_value
behind_zero n [] some first nested = absurd (omega (arith, some))
behind_zero n (suc b ∷ rest) some first nested = absurd (omega (arith, first))
behind_zero zero (zero ∷ rest) some first nested = absurd (nested refl)
behind_zero (suc n) (zero ∷ rest) some first nested =
    let less : suc n - 1 ≡ n = omega arith in
    let all : take (suc (length rest) - 1) rest ≡ rest = take_all (suc (length rest) - 1) rest (omega arith) in
    rw (less, all) refl

pub goes_on : (n : ℕ) (bytes value : List ℕ) (o : Option (List ℕ)) → 1 ≤ length bytes → get_or bytes 0 0 ≡ 0 → (n ≡ 0 → ⊥)
    → a_rest value ≡ after_value (n - 1) (take (length bytes - 1) (drop 1 bytes)) → o ≡ after_value (n - 1) value → o ≡ after_value n bytes
goes_on n bytes value o some first nested one two = two ∙ ap (option_and_then (after_value (n - 1))) one ∙ sym (behind_zero n bytes some first nested)

pub goes_no_further : (n : ℕ) (bytes : List ℕ) → 1 ≤ length bytes → get_or bytes 0 0 ≡ 0 → (n ≡ 0 → ⊥)
    → no_rest ≡ after_value (n - 1) (take (length bytes - 1) (drop 1 bytes)) → no_rest ≡ after_value n bytes
goes_no_further n bytes some first nested one = ap (option_and_then (after_value (n - 1))) one ∙ sym (behind_zero n bytes some first nested)

-- ---- values

abbrev taken : List ℕ → List ℕ → Option (List ℕ × List ℕ)
taken v rest = Some (v, rest)

abbrev none_taken : Option (List ℕ × List ℕ)
none_taken = None

pub none_more : (count counter : ℕ) (rest bytes : List ℕ) → counter < count → none_taken ≡ value_at rest → are_values (count - counter) rest ≡ are_values count bytes → false ≡ are_values count bytes
unfolding are_values
none_more count counter rest bytes lt none so_far =
    let k : count - counter ≡ suc (count - (counter + 1)) = omega arith in
    ap (is_some_and (λ (x : List ℕ × List ℕ). are_values (count - (counter + 1)) x.1)) none ∙ sym (ap (λ n. are_values n rest) k) ∙ so_far

pub one_more : (count counter : ℕ) (v rest after bytes : List ℕ) → counter < count → taken v after ≡ value_at rest → are_values (count - counter) rest ≡ are_values count bytes → are_values (count - (counter + 1)) after ≡ are_values count bytes
unfolding are_values
one_more count counter v rest after bytes lt one so_far =
    let k : count - counter ≡ suc (count - (counter + 1)) = omega arith in
    ap (is_some_and (λ (x : List ℕ × List ℕ). are_values (count - (counter + 1)) x.1)) one ∙ sym (ap (λ n. are_values n rest) k) ∙ so_far

pub no_more : (count counter : ℕ) (rest bytes : List ℕ) (answer : Bool) → count ≤ counter → answer ≡ (length rest == 0) → are_values (count - counter) rest ≡ are_values count bytes → answer ≡ are_values count bytes
unfolding are_values
no_more count counter rest bytes answer le is so_far =
    let k : count - counter ≡ 0 = omega arith in
    is ∙ sym (ap (λ n. are_values n rest) k) ∙ so_far

-- ---- fields

pub field_on : (sys : List SystemText) (old new all : List ℕ) (before count : ℕ) → before < count → new ≡ old ++ field sys (field_name (before + 1))
    → old ++ joined (fields sys (before + 1) (count - before)) ≡ all → new ++ joined (fields sys (before + 1 + 1) (count - (before + 1))) ≡ all
field_on sys old new all before count lt is so_far =
    let k : count - before ≡ suc (count - (before + 1)) = omega arith in
    let next : before + 1 + 1 ≡ suc (before + 1) = omega arith in
    let others : List ℕ = joined (fields sys (suc (before + 1)) (count - (before + 1))) in
    ap (λ n. new ++ joined (fields sys n (count - (before + 1)))) next
    ∙ ap (λ (front : List ℕ). front ++ others) is
    ∙ append_assoc old (field sys (field_name (before + 1))) others
    ∙ sym (ap (λ n. old ++ joined (fields sys (before + 1) n)) k)
    ∙ so_far
