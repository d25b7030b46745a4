-- What stands at a place, by a part that begins there.
use Rattle.std.proofs.Common.{◌≡◌, ◌≢◌, ◌⊎◌, inl, inr, ℕ, ◌+◌, ◌-◌, ◌^◌, ◌≤◌, List, [], ◌∷◌, ◌++◌, length, get_or, take, drop, true, false, refl, sym, ◌∙◌, ap, subst, arith, append_assoc, length-append, length-drop, length-take, take-append-drop, w32, w64}
use Rattle.std.specs.Prelude.{min, Err}
use Rattle.std.specs.Int.{from_be_bytes}
use Rattle.std.proofs.lemmas.List.{drop-drop, get_or-drop, drop-append-le, drop_more, drop_all, drop_at, take-append-le, append-nil}
use Rattle.std.proofs.lemmas.Bool.Decides.{nat_tests}
use Rattle.sb_journal.specs.Text.{max_payload, records, framed, AreShort, Ends, AreBytes, Spelled}
use Rattle.sb_journal.specs.Framing.{payload_length, is_record, read}
use Rattle.sb_journal.specs.Opened.{is_shut}
use Rattle.sb_journal.specs.Pieces.{BeginsWith}
use Rattle.sb_journal.proofs.Frames.{length-framed, length-records, length-records_from, records-push, read_broken}
use Rattle.sb_journal.proofs.Parts.{tests, record_text, part as cut_part}

-- a piece of the bytes from one place on is a part from a later place on
pub begins : (piece bytes : List ℕ) (from place : ℕ) → piece ≡ take (length piece) (drop from bytes) → from ≤ place → place ≤ from + length piece
    → (max_payload + 13 + place ≤ from + length piece) ⊎ (length bytes ≤ from + length piece) → BeginsWith (drop (place - from) piece) (drop place bytes)
begins piece bytes from place is least greatest enough =
    let tail = drop (length piece) (drop from bytes) in
    let onward : from + (place - from) ≡ place = omega (arith, least) in
    record {
      tail = tail;
      is =
          ap (λ n. drop n bytes) (sym onward)
          ∙ sym (drop-drop (place - from) from bytes)
          ∙ ap (drop (place - from)) (sym (take-append-drop (length piece) (drop from bytes)) ∙ ap (λ (l : List ℕ). l ++ tail) (sym is))
          ∙ drop-append-le (place - from) piece tail (omega (arith, least, greatest));
      enough = elim enough [
        | inl long ↦ inl (omega (arith, long, least, length-drop (place - from) piece))
        | inr all ↦ inr (drop-drop (length piece) from bytes ∙ drop_all (from + length piece) bytes all)
      ];
    }

module _ (part bytes : List ℕ) (starts : BeginsWith part bytes) where
  abbrev behind : List ℕ
  behind = drop 1 part

  at_gate : (gate : ℕ) → 1 ≤ length part → get_or part 0 0 ≡ gate → bytes ≡ gate ∷ (behind ++ starts.tail)
  at_gate gate here is = starts.is ∙ ap (λ (l : List ℕ). l ++ starts.tail) (drop_more part 0 0 here ∙ ap (λ (b : ℕ). b ∷ behind) is)

  -- a record of this payload, and then what stands behind it
  pub record_at : (number : ℕ) (p : List ℕ) → 1 ≤ length part → get_or part 0 0 ≡ 1 → is_record number behind ≡ true → AreBytes behind → p ≡ take (payload_length behind) (drop 12 behind)
      → bytes ≡ 1 ∷ (framed number p ++ drop (13 + length p) bytes)
  record_at number p here gate is are p_is =
      let text : behind ≡ framed number p ++ drop (12 + payload_length behind) behind = record_text number behind (tests number behind is) are ∙ ap (λ (q : List ℕ). framed number q ++ drop (12 + payload_length behind) behind) (sym p_is) in
      let after = drop (12 + payload_length behind) behind ++ starts.tail in
      let whole : bytes ≡ (1 ∷ framed number p) ++ after = at_gate 1 here gate ∙ ap (λ (l : List ℕ). 1 ∷ (l ++ starts.tail)) text ∙ ap (λ (l : List ℕ). 1 ∷ l) (append_assoc (framed number p) (drop (12 + payload_length behind) behind) starts.tail) in
      whole ∙ ap (λ (l : List ℕ). 1 ∷ (framed number p ++ l)) (sym (ap (drop (13 + length p)) whole ∙ drop_at (1 ∷ framed number p) after (13 + length p) (omega (arith, length-framed number p))))

  same_tests : (number : ℕ) (r : List ℕ) → max_payload + 12 ≤ length r → is_record number (r ++ starts.tail) ≡ is_record number r
  unfolding is_record
  same_tests number r long =
      let len : payload_length (r ++ starts.tail) ≡ payload_length r = ap (from_be_bytes w32) (take-append-le 4 r starts.tail (omega (arith, long))) in
      let num : from_be_bytes w64 (take 8 (drop 4 (r ++ starts.tail))) ≡ from_be_bytes w64 (take 8 (drop 4 r)) =
      ap (λ (l : List ℕ). from_be_bytes w64 (take 8 l)) (drop-append-le 4 r starts.tail (omega (arith, long))) ∙ ap (from_be_bytes w64) (take-append-le 8 (drop 4 r) starts.tail (omega (arith, long, length-drop 4 r))) in
      let all = length-append r starts.tail in
      grind (arith, nat_tests, len, num, all, long)

  -- an open gate with no record behind it
  pub broken_at : (number : ℕ) → 1 ≤ length part → get_or part 0 0 ≡ 1 → is_record number behind ≡ false → (rest : List ℕ) × (bytes ≡ 1 ∷ rest) × (is_record number rest ≡ false)
  broken_at number here gate isnt = (
    behind ++ starts.tail,
    at_gate 1 here gate,
    elim starts.enough [
      | inl long ↦ same_tests number behind (omega (arith, long, length-drop 1 part)) ∙ isnt
      | inr none ↦ ap (λ (l : List ℕ). is_record number (behind ++ l)) none ∙ ap (is_record number) (append-nil behind) ∙ isnt
    ],
  )

  none_there : length part ≡ 0 → bytes ≡ []
  none_there none = elim starts.enough [
    | inl long ↦ absurd (omega (arith, long, none))
    | inr over ↦ starts.is ∙ ap (λ (l : List ℕ). l ++ starts.tail) (drop_all 0 part (omega (arith, none))) ∙ over
  ]

  -- or no open gate
  pub ends_at : (1 ≤ length part → get_or part 0 0 ≢ 1) → Ends bytes
  ends_at shut = elim (some_or_none part) [
    | inl some ↦ subst Ends (sym (at_gate (get_or part 0 0) some refl)) (shut some)
    | inr none ↦ subst Ends (sym (none_there none)) tt
  ]
    where
      some_or_none : (xs : List ℕ) → (1 ≤ length xs) ⊎ (length xs ≡ 0)
      some_or_none [] = inr refl
      some_or_none (x ∷ xs) = inl (omega arith)

-- a closed gate at a place, by the part that begins there
pub shut_by : (part bytes : List ℕ) (place : ℕ) → BeginsWith part (drop place bytes) → is_shut 0 part ≡ is_shut place bytes
shut_by [] bytes place starts =
    let none = ap length (none_there [] (drop place bytes) starts refl) in
    let long = length-drop place bytes in
    grind (arith, nat_tests, none, long)
shut_by (x ∷ xs) bytes place starts =
    let here = ap length starts.is in
    let long = length-drop place bytes in
    let first : x ≡ get_or bytes place 0 = sym (ap (λ (l : List ℕ). get_or l 0 0) starts.is) ∙ get_or-drop place bytes 0 0 ∙ ap (λ n. get_or bytes n 0) (let e : place + 0 ≡ place = omega arith in e) in
    grind (arith, nat_tests, here, long, first)

-- at most so many bytes of what is seen at a place
pub length-part : (rest : List ℕ) (most : ℕ) (part : List ℕ) → part ≡ take (min most (length rest)) rest → length part ≡ min most (length rest)
length-part rest most part is = omega (arith, ap length is, length-take (min most (length rest)) rest)

pub part_at : (rest bytes : List ℕ) (place most : ℕ) (part : List ℕ) → BeginsWith rest (drop place bytes) → part ≡ take (min most (length rest)) rest → drop place bytes ≡ part ++ drop (place + length part) bytes
part_at rest bytes place most part starts is =
    let n = min most (length rest) in
    cut_part place n bytes
    ∙ ap (λ (l : List ℕ). l ++ drop (place + n) bytes) (ap (take n) starts.is ∙ take-append-le n rest starts.tail (omega arith) ∙ sym is)
    ∙ ap (λ k. part ++ drop (place + k) bytes) (sym (length-part rest most part is))

pub some_part : (rest bytes : List ℕ) (place most : ℕ) (part : List ℕ) → BeginsWith rest (drop place bytes) → part ≡ take (min most (length rest)) rest → length part ≡ 0 → 1 ≤ most → place + 1 ≤ length bytes → ⊥
some_part rest bytes place most part starts is none some left =
    let empty : length rest ≡ 0 = omega (arith, length-part rest most part is, none, some) in
    omega (arith, left, length-drop place bytes, ap length (none_there rest (drop place bytes) starts empty))

-- these records stand from the first gate on, up to this place
module _ (gate first place number : ℕ) (ps : List (List ℕ)) (bytes : List ℕ) (text : drop gate bytes ≡ records first ps ++ drop place bytes)
    (place_is : place ≡ gate + length (records first ps)) (number_is : number ≡ first + length ps) where
  -- one more
  pub one_more : (p : List ℕ) → drop place bytes ≡ 1 ∷ (framed number p ++ drop (13 + length p) (drop place bytes)) → drop gate bytes ≡ records first (ps ++ p ∷ []) ++ drop (place + (13 + length p)) bytes
  one_more p here =
      text
      ∙ ap (λ (l : List ℕ). records first ps ++ l) (here ∙ ap (λ (l : List ℕ). 1 ∷ (framed number p ++ l)) (drop-drop (13 + length p) place bytes) ∙ ap (λ n. 1 ∷ (framed n p ++ drop (place + (13 + length p)) bytes)) number_is)
      ∙ sym (records-push ps first p (drop (place + (13 + length p)) bytes))

  pub all_read : AreShort ps → Ends (drop place bytes) → Spelled first ps (drop gate bytes)
  all_read short ends = record { rest = drop place bytes; is = text; ends = ends; short = short }

  pub breaks : (rest : List ℕ) → first ≤ 2 ^ 62 → length bytes ≤ 2 ^ 62 → AreShort ps → drop place bytes ≡ 1 ∷ rest → is_record number rest ≡ false → read (length bytes) gate first (drop gate bytes) ≡ Err place
  breaks rest low small short here isnt =
      let long = length-drop place bytes in
      let some = ap length here in
      ap (read (length bytes) gate first) (text ∙ ap (λ (l : List ℕ). records first ps ++ l) here)
      ∙ read_broken ps (length bytes) gate first rest (omega (arith, length-records ps first, place_is, long, some)) (omega (arith, low, small, length-records ps first, place_is, long, some)) short (subst (λ n. is_record n rest ≡ false) number_is isnt)
      ∙ ap Err (sym (place_is ∙ length-records_from ps gate first))

pub length-records-push : (ps : List (List ℕ)) (first : ℕ) (p : List ℕ) → length (records first (ps ++ p ∷ [])) ≡ length (records first ps) + (13 + length p)
length-records-push ps first p =
    let e = ap length (sym (append-nil (records first (ps ++ p ∷ []))) ∙ records-push ps first p []) in
    omega (arith, e, length-append (records first ps) (1 ∷ (framed (first + length ps) p ++ [])), length-append (framed (first + length ps) p) [], length-framed (first + length ps) p)
