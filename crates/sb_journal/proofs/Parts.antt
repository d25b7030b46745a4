-- Bytes cut into parts, and what records were read from them.
use Rattle.std.proofs.Common.{◌≡◌, ◌≢◌, ◌⊎◌, inl, inr, ℕ, zero, suc, ◌+◌, ◌<◌, ◌≤◌, List, [], ◌∷◌, ◌++◌, length, take, drop, true, false, refl, sym, ◌∙◌, ap, subst, arith, append_assoc, length-take, length-drop, take-append-drop, w32, w64}
use Rattle.std.specs.Prelude.{Bool, if◌then◌else◌, Result, Ok, Err, nat_le, ◌&&◌, ◌==◌}
use Rattle.std.specs.Int.{to_be_bytes, from_be_bytes}
use Rattle.std.proofs.lemmas.Nat.{be_bytes_4, be_bytes_8}
use Rattle.std.proofs.lemmas.List.{drop-drop, get_or-drop}
use Rattle.std.proofs.lemmas.Bool.{cases_eq, cases_Bool}
use Rattle.std.proofs.lemmas.Bool.Decides.{nat_tests}
use Rattle.sb_journal.specs.Text.{max_payload, framed, records, AreShort, Ends, Spelled, AreBytes}
use Rattle.sb_journal.specs.Framing.{with_first, payload_length, is_record, read}

pub AreBytes-drop : (n : ℕ) (xs : List ℕ) → AreBytes xs → AreBytes (drop n xs)
AreBytes-drop n xs bytes k = subst (λ b. b < 256) (sym (get_or-drop n xs k 0)) (bytes (n + k))

pub AreBytes-take : (n : ℕ) (xs : List ℕ) → AreBytes xs → AreBytes (take n xs)
AreBytes-take zero xs bytes k = omega arith
AreBytes-take (suc n) [] bytes k = omega arith
AreBytes-take (suc n) (x ∷ xs) bytes zero = bytes 0
AreBytes-take (suc n) (x ∷ xs) bytes (suc k) = AreBytes-take n xs (λ i. bytes (suc i)) k

-- a part of so many bytes, and the rest
pub part : (place n : ℕ) (xs : List ℕ) → drop place xs ≡ take n (drop place xs) ++ drop (place + n) xs
part place n xs = sym (take-append-drop n (drop place xs)) ∙ ap (λ (l : List ℕ). take n (drop place xs) ++ l) (drop-drop n place xs)

pub number_part : (place : ℕ) (xs : List ℕ) → place + 8 ≤ length xs → AreBytes xs → drop place xs ≡ to_be_bytes w64 (from_be_bytes w64 (take 8 (drop place xs))) ++ drop (place + 8) xs
number_part place xs long bytes =
    part place 8 xs
    ∙ ap (λ (l : List ℕ). l ++ drop (place + 8) xs) (sym (be_bytes_8 (take 8 (drop place xs)) _ (omega (arith, length-take 8 (drop place xs), length-drop place xs)) (AreBytes-take 8 (drop place xs) (AreBytes-drop place xs bytes)) refl))

pub record Tests (number : ℕ) (rest : List ℕ) : Type 0 where
  pub head : 12 ≤ length rest
  pub short : payload_length rest ≤ max_payload
  pub whole : 12 + payload_length rest ≤ length rest
  pub number_is : from_be_bytes w64 (take 8 (drop 4 rest)) ≡ number

pub both : (a b : Bool) → (a && b) ≡ true → (a ≡ true) × (b ≡ true)
both true true e = (refl, refl)
both true false e = absurd cc
both false b e = absurd cc

pub tests : (number : ℕ) (rest : List ℕ) → is_record number rest ≡ true → Tests number rest
unfolding is_record
tests number rest is =
    let head = nat_le 12 (length rest) in
    let short = nat_le (payload_length rest) max_payload in
    let whole = nat_le (12 + payload_length rest) (length rest) in
    let same = from_be_bytes w64 (take 8 (drop 4 rest)) == number in
    let a = both head (short && (whole && same)) is in
    let b = both short (whole && same) a.1 in
    let c = both whole same b.1 in
    record { head = grind (arith, nat_tests, a.0); short = grind (arith, nat_tests, b.0); whole = grind (arith, nat_tests, c.0); number_is = grind (arith, nat_tests, c.1) }

abbrev pub payload_of : List ℕ → List ℕ
payload_of rest = take (payload_length rest) (drop 12 rest)

length-payload : (number : ℕ) (rest : List ℕ) → Tests number rest → length (payload_of rest) ≡ payload_length rest
length-payload number rest t = let whole = t.whole in omega (arith, length-take (payload_length rest) (drop 12 rest), length-drop 12 rest)

pub record_text : (number : ℕ) (rest : List ℕ) → Tests number rest → AreBytes rest → rest ≡ framed number (payload_of rest) ++ drop (12 + payload_length rest) rest
unfolding framed
record_text number rest t bytes =
    let p = payload_of rest in
    let after = drop (12 + payload_length rest) rest in
    let head = t.head in
    let len : rest ≡ to_be_bytes w32 (length p) ++ drop 4 rest = part 0 4 rest ∙ ap (λ (l : List ℕ). l ++ drop 4 rest) (sym (be_bytes_4 (take 4 rest) (length p) (omega (arith, length-take 4 rest)) (AreBytes-take 4 rest bytes) (length-payload number rest t))) in
    let num : drop 4 rest ≡ to_be_bytes w64 number ++ drop 12 rest = number_part 4 rest (omega arith) bytes ∙ ap (λ n. to_be_bytes w64 n ++ drop 12 rest) t.number_is in
    let load : drop 12 rest ≡ p ++ after = part 12 (payload_length rest) rest in
    len ∙ ap (λ (l : List ℕ). to_be_bytes w32 (length p) ++ l) (num ∙ ap (λ (l : List ℕ). to_be_bytes w64 number ++ l) load)

abbrev nothing : Result (List (List ℕ)) ℕ
nothing = Ok []

none_here : (number : ℕ) (ps : List (List ℕ)) (bytes : List ℕ) → Ends bytes → nothing ≡ Ok ps → Spelled number ps bytes
none_here number [] bytes ends e = record { rest = bytes; is = refl; ends = ends; short = tt }
none_here number (p ∷ ps) bytes ends e = absurd cc

abbrev reads_on : ℕ → ℕ → ℕ → List ℕ → Result (List (List ℕ)) ℕ
reads_on turns place number rest = read turns (place + (13 + payload_length rest)) (number + 1) (drop (12 + payload_length rest) rest)

open_here : (turns place number : ℕ) (rest : List ℕ) → is_record number rest ≡ true → read (suc turns) place number (1 ∷ rest) ≡ with_first (payload_of rest) (reads_on turns place number rest)
open_here turns place number rest is = ap (λ (b : Bool). if b then with_first (payload_of rest) (reads_on turns place number rest) else Err place) is

broken_here : (turns place number : ℕ) (rest : List ℕ) → is_record number rest ≡ false → read (suc turns) place number (1 ∷ rest) ≡ Err place
broken_here turns place number rest is = ap (λ (b : Bool). if b then with_first (payload_of rest) (reads_on turns place number rest) else Err place) is

pub closed_here : (turns place number gate : ℕ) (rest : List ℕ) → gate ≢ 1 → read (suc turns) place number (gate ∷ rest) ≡ Ok []
closed_here turns place number gate rest closed = grind (arith, nat_tests)

first_of_all : (p : List ℕ) (r : Result (List (List ℕ)) ℕ) (ps : List (List ℕ)) → with_first p r ≡ Ok ps → (qs : List (List ℕ)) × (r ≡ Ok qs) × (ps ≡ p ∷ qs)
first_of_all p (Ok qs) ps e = (qs, refl, cc)
first_of_all p (Err place) ps e = absurd cc

-- what is known of what stands behind a record
abbrev Onward : ℕ → ℕ → ℕ → Type 0
Onward turns place number = (rest : List ℕ) → length (drop (12 + payload_length rest) rest) ≤ turns → (qs : List (List ℕ)) → AreBytes (drop (12 + payload_length rest) rest) → reads_on turns place number rest ≡ Ok qs → Spelled (number + 1) qs (drop (12 + payload_length rest) rest)

at_record : (turns place number : ℕ) (ps : List (List ℕ)) (rest : List ℕ) → AreBytes rest → length rest ≤ turns → read (suc turns) place number (1 ∷ rest) ≡ Ok ps → Onward turns place number → (is_record number rest ≡ true) ⊎ (is_record number rest ≡ false) → Spelled number ps (1 ∷ rest)
at_record turns place number ps rest bytes long e onward (inl is) =
    let first = first_of_all (payload_of rest) (reads_on turns place number rest) ps (sym (open_here turns place number rest is) ∙ e) in
    let t = tests number rest is in
    let after = onward rest (omega (arith, length-drop (12 + payload_length rest) rest)) first.0 (AreBytes-drop (12 + payload_length rest) rest bytes) first.1 in
    record {
      rest = after.rest;
      is =
          ap (λ (l : List ℕ). 1 ∷ l) (record_text number rest t bytes ∙ ap (λ (l : List ℕ). framed number (payload_of rest) ++ l) after.is ∙ sym (append_assoc (framed number (payload_of rest)) (records (number + 1) first.0) after.rest))
          ∙ ap (λ (l : List (List ℕ)). records number l ++ after.rest) (sym first.2);
      ends = after.ends;
      short = subst AreShort (sym first.2) (let short = t.short in omega (arith, length-payload number rest t), after.short);
    }
at_record turns place number ps rest bytes long e onward (inr isnt) = absurd (let broken = broken_here turns place number rest isnt in cc)

at_gate : (turns place number : ℕ) (ps : List (List ℕ)) (gate : ℕ) (rest : List ℕ) → AreBytes (gate ∷ rest) → length rest ≤ turns → read (suc turns) place number (gate ∷ rest) ≡ Ok ps → Onward turns place number → (gate ≡ 1) ⊎ (gate ≢ 1) → Spelled number ps (gate ∷ rest)
at_gate turns place number ps gate rest bytes long e onward (inl is) =
    subst (λ g. Spelled number ps (g ∷ rest)) (sym is) (at_record turns place number ps rest (λ k. bytes (suc k)) long (subst (λ g. read (suc turns) place number (g ∷ rest) ≡ Ok ps) is e) onward (cases_Bool (is_record number rest)))
at_gate turns place number ps gate rest bytes long e onward (inr closed) = none_here number ps (gate ∷ rest) closed (sym (closed_here turns place number gate rest closed) ∙ e)

pub spelled : (turns place number : ℕ) (bytes : List ℕ) (ps : List (List ℕ)) → length bytes ≤ turns → AreBytes bytes → read turns place number bytes ≡ Ok ps → Spelled number ps bytes
spelled zero place number [] ps long bytes e = none_here number ps [] tt e
spelled zero place number (gate ∷ rest) ps long bytes e = absurd (omega (arith, long))
spelled (suc turns) place number [] ps long bytes e = none_here number ps [] tt e
spelled (suc turns) place number (gate ∷ rest) ps long bytes e =
    at_gate turns place number ps gate rest bytes (omega (arith, long)) e
    (λ rest short qs. spelled turns (place + (13 + payload_length rest)) (number + 1) (drop (12 + payload_length rest) rest) qs short)
    (cases_eq gate 1)
