-- A file that is read as whole is spelled so.
use Rattle.std.proofs.Common.{◌≡◌, ◌≢◌, inl, inr, ℕ, ◌+◌, ◌*◌, ◌^◌, ◌<◌, ◌≤◌, List, [], ◌∷◌, ◌++◌, length, take, drop, true, false, refl, sym, ◌∙◌, ap, subst, arith, append_assoc, length-append, length-drop, length-take, w64}
use Rattle.std.specs.Prelude.{Bool, if◌then◌else◌, Option, Some, None, Result, Ok, Err, nat_le, ◌==◌, slice_index}
use Rattle.std.specs.Int.{to_be_bytes, from_be_bytes}
use Rattle.std.specs.Str.{bytes_eq}
use Rattle.std.proofs.lemmas.List.{drop_more, drop-append-le, take-append-le, append-nil, get_or_append_left}
use Rattle.std.proofs.lemmas.Bool.Decides.{nat_tests}
use Rattle.std.proofs.lemmas.Slice.Eq.{bytes_eq-Decides}
use Rattle.sb_journal.specs.Text.{File, magic, head, records, file_text, AreBytes, max_count}
use Rattle.sb_journal.specs.Framing.{Framing, Whole, Damaged, Uncreated, Occupied, free_or_occupied, first_failing, is_created, number_at, is_count, base_length, base_in, behind_base, head_fault, read, payloads_in, file_with, whole_or_damaged, sound_or_damaged, framing}
use Rattle.sb_journal.specs.Choosing.{headed, headed_by, headless}
use Rattle.sb_journal.specs.declared.choosing.Headed.TheVariants.{Generation}
use Rattle.sb_journal.specs.Text.{IsWithin, Spelled, Spells}
use Rattle.sb_journal.specs.Opened.{IsHead, HasBase}
use Rattle.sb_journal.specs.Pieces.{BeginsWith}
use Rattle.sb_journal.specs.declared.reading.Head.{Head}
use Rattle.sb_journal.proofs.Frames.{length-records}
use Rattle.sb_journal.proofs.Parts.{spelled, part, number_part, both, AreBytes-drop, AreBytes-take}

free_isnt : (short : Bool) (f : File) → (if short then Uncreated else Occupied) ≡ Whole f → ⊥
free_isnt true f e = absurd cc
free_isnt false f e = absurd cc

where_created : (bytes : List ℕ) (b : Bool) (x : Framing) (f : File) → (if b then x else free_or_occupied bytes) ≡ Whole f → (b ≡ true) × (x ≡ Whole f)
where_created bytes true x f e = (refl, e)
where_created bytes false x f e = absurd (free_isnt (nat_le (length bytes) 43) f e)

where_sound : (bytes : List ℕ) (o : Option ℕ) (f : File) → sound_or_damaged bytes o ≡ Whole f → (o ≡ None) × (whole_or_damaged bytes (payloads_in bytes) ≡ Whole f)
where_sound bytes None f e = (refl, e)
where_sound bytes (Some place) f e = absurd cc

where_whole : (bytes : List ℕ) (r : Result (List (List ℕ)) ℕ) (f : File) → whole_or_damaged bytes r ≡ Whole f → (ps : List (List ℕ)) × (r ≡ Ok ps) × (f ≡ file_with bytes ps)
where_whole bytes (Ok ps) f e = (ps, refl, cc)
where_whole bytes (Err place) f e = absurd cc

none_fails : (test : Bool) (place : ℕ) (tests : List (Bool × ℕ)) → first_failing ((test, place) ∷ tests) ≡ None → (test ≡ true) × (first_failing tests ≡ None)
none_fails true place tests e = (refl, e)
none_fails false place tests e = absurd cc

record Sound (bytes : List ℕ) : Type 0 where
  magic_is : take 8 (drop 1 bytes) ≡ magic
  version_is : slice_index bytes 9 ≡ 1
  generation_least : 1 ≤ number_at 18 bytes
  generation_greatest : number_at 18 bytes ≤ max_count
  first_least : 1 ≤ number_at 26 bytes
  first_greatest : number_at 26 bytes ≤ max_count

count_is : (n : ℕ) → is_count n ≡ true → (1 ≤ n) × (n ≤ max_count)
count_is n is =
    let t = both (nat_le 1 n) (nat_le n max_count) is in
    let low = t.0 in
    let high = t.1 in
    (grind (arith, nat_tests), grind (arith, nat_tests))

sound : (bytes : List ℕ) → head_fault bytes ≡ None → Sound bytes
unfolding head_fault
sound bytes none =
    let after_18 : List (Bool × ℕ) = (is_count (number_at 26 bytes), 26) ∷ [] in
    let after_9 : List (Bool × ℕ) = (is_count (number_at 18 bytes), 18) ∷ after_18 in
    let after_1 : List (Bool × ℕ) = (slice_index bytes 9 == 1, 9) ∷ after_9 in
    let a = none_fails (bytes_eq (take 8 (drop 1 bytes)) magic) 1 after_1 none in
    let b = none_fails (slice_index bytes 9 == 1) 9 after_9 a.1 in
    let c = none_fails (is_count (number_at 18 bytes)) 18 after_18 b.1 in
    let d = none_fails (is_count (number_at 26 bytes)) 26 [] c.1 in
    let generation = count_is (number_at 18 bytes) c.0 in
    let first = count_is (number_at 26 bytes) d.0 in
    record {
      magic_is = (bytes_eq-Decides (take 8 (drop 1 bytes)) magic).0 a.0;
      version_is = let t = b.0 in grind (arith, nat_tests);
      generation_least = generation.0;
      generation_greatest = generation.1;
      first_least = first.0;
      first_greatest = first.1;
    }

created_is : (bytes : List ℕ) → is_created bytes ≡ true → (43 ≤ length bytes) × (slice_index bytes 0 ≡ 1)
created_is bytes is =
    let t = both (nat_le 43 (length bytes)) (slice_index bytes 0 == 1) is in
    let long = t.0 in
    let gate = t.1 in
    (grind (arith, nat_tests), grind (arith, nat_tests))

head_text : (bytes : List ℕ) → 43 ≤ length bytes → slice_index bytes 0 ≡ 1 → Sound bytes → AreBytes bytes → bytes ≡ 1 ∷ (head (number_at 10 bytes) (number_at 18 bytes) (number_at 26 bytes) (number_at 34 bytes) ++ drop 42 bytes)
unfolding head
head_text bytes long gate s are =
    let last : drop 34 bytes ≡ to_be_bytes w64 (number_at 34 bytes) ++ drop 42 bytes = number_part 34 bytes (omega arith) are in
    let first : drop 26 bytes ≡ to_be_bytes w64 (number_at 26 bytes) ++ drop 34 bytes = number_part 26 bytes (omega arith) are in
    let generation : drop 18 bytes ≡ to_be_bytes w64 (number_at 18 bytes) ++ drop 26 bytes = number_part 18 bytes (omega arith) are in
    let salt : drop 10 bytes ≡ to_be_bytes w64 (number_at 10 bytes) ++ drop 18 bytes = number_part 10 bytes (omega arith) are in
    let version : drop 9 bytes ≡ 1 ∷ drop 10 bytes = drop_more bytes 9 0 (omega arith) ∙ ap (λ (b : ℕ). b ∷ drop 10 bytes) s.version_is in
    let words : drop 1 bytes ≡ magic ++ drop 9 bytes = part 1 8 bytes ∙ ap (λ (l : List ℕ). l ++ drop 9 bytes) s.magic_is in
    let start : bytes ≡ 1 ∷ drop 1 bytes = drop_more bytes 0 0 (omega arith) ∙ ap (λ (b : ℕ). b ∷ drop 1 bytes) gate in
    start
    ∙ ap (λ (l : List ℕ). 1 ∷ l) words
    ∙ ap (λ (l : List ℕ). 1 ∷ (magic ++ l)) version
    ∙ ap (λ (l : List ℕ). 1 ∷ (magic ++ 1 ∷ l)) salt
    ∙ ap (λ (l : List ℕ). 1 ∷ (magic ++ 1 ∷ (to_be_bytes w64 (number_at 10 bytes) ++ l))) generation
    ∙ ap (λ (l : List ℕ). 1 ∷ (magic ++ 1 ∷ (to_be_bytes w64 (number_at 10 bytes) ++ (to_be_bytes w64 (number_at 18 bytes) ++ l)))) first
    ∙ ap (λ (l : List ℕ). 1 ∷ (magic ++ 1 ∷ (to_be_bytes w64 (number_at 10 bytes) ++ (to_be_bytes w64 (number_at 18 bytes) ++ (to_be_bytes w64 (number_at 26 bytes) ++ l))))) last

eight_bytes : (a b c d e f g h : ℕ) → a < 256 → b < 256 → c < 256 → d < 256 → e < 256 → f < 256 → g < 256 → h < 256
    → a * 72057594037927936 + b * 281474976710656 + c * 1099511627776 + d * 4294967296 + e * 16777216 + f * 65536 + g * 256 + h < 2 ^ 64
eight_bytes a b c d e f g h la lb lc ld le lf lg lh = omega arith

from_bytes_small : (bytes : List ℕ) (place : ℕ) → AreBytes bytes → number_at place bytes < 2 ^ 64
from_bytes_small bytes place are =
    let at = AreBytes-take 8 (drop place bytes) (AreBytes-drop place bytes are) in
    eight_bytes _ _ _ _ _ _ _ _ (at 0) (at 1) (at 2) (at 3) (at 4) (at 5) (at 6) (at 7)

-- the file with this head, this base and these payloads
abbrev pub file_of : Head → List ℕ → List (List ℕ) → File
file_of h base ps = record { salt = h.salt; generation = h.generation; first = h.first; base = base; payloads = ps }

pub front_number : (place : ℕ) (part tail : List ℕ) → place + 8 ≤ length part → number_at place (part ++ tail) ≡ number_at place part
front_number place part tail long =
    ap (λ (l : List ℕ). from_be_bytes w64 (take 8 l)) (drop-append-le place part tail (omega (arith, long)))
    ∙ ap (from_be_bytes w64) (take-append-le 8 (drop place part) tail (omega (arith, long, length-drop place part)))

-- what a part of so many bytes says of the head of all that it begins
module _ (part tail : List ℕ) (long : 43 ≤ length part) where
  pub front_created : is_created (part ++ tail) ≡ is_created part
  front_created =
      let gate = get_or_append_left part tail 0 0 (omega (arith, long)) in
      let all = length-append part tail in
      grind (arith, nat_tests, gate, all, long)

  pub front_fault : head_fault (part ++ tail) ≡ head_fault part
  unfolding head_fault
  front_fault =
      let words : take 8 (drop 1 (part ++ tail)) ≡ take 8 (drop 1 part) = ap (take 8) (drop-append-le 1 part tail (omega (arith, long))) ∙ take-append-le 8 (drop 1 part) tail (omega (arith, long, length-drop 1 part)) in
      let version : slice_index (part ++ tail) 9 ≡ slice_index part 9 = get_or_append_left part tail 0 9 (omega (arith, long)) in
      let generation = front_number 18 part tail (omega (arith, long)) in
      let first = front_number 26 part tail (omega (arith, long)) in
      cc

-- what a part that begins the bytes says of their head
module _ (part bytes : List ℕ) (starts : BeginsWith part bytes) where
  no_tail : starts.tail ≡ [] → bytes ≡ part
  no_tail none = starts.is ∙ ap (λ (l : List ℕ). part ++ l) none ∙ append-nil part

  pub created_by : (b : Bool) → is_created part ≡ b → is_created bytes ≡ b
  created_by b is = elim starts.enough [
    | inl long ↦ ap is_created starts.is ∙ front_created part starts.tail (omega (arith, long)) ∙ is
    | inr none ↦ ap is_created (no_tail none) ∙ is
  ]

  pub fault_by : (o : Option ℕ) → is_created part ≡ true → head_fault part ≡ o → head_fault bytes ≡ o
  fault_by o created is = ap head_fault starts.is ∙ front_fault part starts.tail (created_is part created).0 ∙ is

  pub head_by : (h : Head) → IsHead h part → IsHead h bytes
  head_by h is = record {
    long = let long = is.long in omega (arith, ap length starts.is, length-append part starts.tail);
    created = created_by true is.created;
    sound = fault_by None is.created is.sound;
    salt_is = is.salt_is ∙ sym (ap (number_at 10) starts.is ∙ front_number 10 part starts.tail (let long = is.long in omega arith));
    generation_is = is.generation_is ∙ sym (ap (number_at 18) starts.is ∙ front_number 18 part starts.tail (let long = is.long in omega arith));
    first_is = is.first_is ∙ sym (ap (number_at 26) starts.is ∙ front_number 26 part starts.tail (let long = is.long in omega arith));
    base_is = is.base_is ∙ sym (ap (number_at 34) starts.is ∙ front_number 34 part starts.tail (let long = is.long in omega arith));
    first_fits = is.first_fits;
  }

  -- the text of a head
  head_by_part : (h : Head) → IsHead h part → AreBytes part → bytes ≡ 1 ∷ (head h.salt h.generation h.first h.base_length ++ drop 42 bytes)
  head_by_part h is are =
      let long = is.long in
      let behind : drop 42 bytes ≡ drop 42 part ++ starts.tail = ap (drop 42) starts.is ∙ drop-append-le 42 part starts.tail (omega arith) in
      let text : part ≡ 1 ∷ (head h.salt h.generation h.first h.base_length ++ drop 42 part) =
      head_text part is.long (created_is part is.created).1 (sound part is.sound) are
      ∙ ap (λ n. 1 ∷ (head n (number_at 18 part) (number_at 26 part) (number_at 34 part) ++ drop 42 part)) (sym is.salt_is)
      ∙ ap (λ n. 1 ∷ (head h.salt n (number_at 26 part) (number_at 34 part) ++ drop 42 part)) (sym is.generation_is)
      ∙ ap (λ n. 1 ∷ (head h.salt h.generation n (number_at 34 part) ++ drop 42 part)) (sym is.first_is)
      ∙ ap (λ n. 1 ∷ (head h.salt h.generation h.first n ++ drop 42 part)) (sym is.base_is) in
      starts.is
      ∙ ap (λ (l : List ℕ). l ++ starts.tail) text
      ∙ ap (λ (l : List ℕ). 1 ∷ l) (append_assoc (head h.salt h.generation h.first h.base_length) (drop 42 part) starts.tail)
      ∙ ap (λ (l : List ℕ). 1 ∷ (head h.salt h.generation h.first h.base_length ++ l)) (sym behind)

  module _ (h : Head) (gate : ℕ) (base : List ℕ) (ps : List (List ℕ)) (is : IsHead h part) (gate_is : gate ≡ 42 + h.base_length) (are : AreBytes part) (fits : length bytes ≤ 2 ^ 62) (based : HasBase bytes gate base) (found : Spelled h.first ps (drop gate bytes)) where
    length-base : h.base_length ≡ length base
    length-base = omega (arith, gate_is, based.gate_is)

    text_is : bytes ≡ file_text (file_of h base ps) ++ found.rest
    unfolding file_text
    text_is =
        let front = head h.salt h.generation h.first (length base) in
        head_by_part h is are
        ∙ ap (λ n. 1 ∷ (head h.salt h.generation h.first n ++ drop 42 bytes)) length-base
        ∙ ap (λ (l : List ℕ). 1 ∷ (front ++ l)) (based.text ∙ ap (λ (l : List ℕ). base ++ l) found.is ∙ sym (append_assoc base (records h.first ps) found.rest))
        ∙ ap (λ (l : List ℕ). 1 ∷ l) (sym (append_assoc front (base ++ records h.first ps) found.rest))

    its_within : IsWithin (file_of h base ps)
    its_within =
        let s = sound part is.sound in
        let long = length-drop gate bytes in
        let behind = length-drop 42 bytes in
        record {
          salt = let small = from_bytes_small part 10 are in omega (arith, is.salt_is, small);
          generation_least = let least = s.generation_least in omega (arith, is.generation_is);
          generation_greatest = let greatest = s.generation_greatest in omega (arith, is.generation_is);
          first_least = let least = s.first_least in omega (arith, is.first_is);
          first_greatest = is.first_fits;
          base_fits = omega (arith, fits, ap length based.text, length-append base (drop gate bytes), behind);
          few = omega (arith, is.first_fits, fits, length-records ps h.first, ap length found.is, length-append (records h.first ps) found.rest, long);
          short = found.short;
        }

    pub spells_by : Spells (file_of h base ps) bytes
    spells_by = record { rest = found.rest; is = text_is; ends = found.ends; within = its_within }

-- the base is what the head says, where it isn't cut off
pub base_stands : (bytes : List ℕ) → behind_base bytes ≤ length bytes → HasBase bytes (behind_base bytes) (base_in bytes)
base_stands bytes long = record {
  text = part 42 (base_length bytes) bytes;
  gate_is = omega (arith, long, length-take (base_length bytes) (drop 42 bytes), length-drop 42 bytes);
}

-- the payloads of a file are read behind its base
not_cut : (bytes : List ℕ) (b : Bool) (r : Result (List (List ℕ)) ℕ) (ps : List (List ℕ)) → (if b then r else Err 42) ≡ Ok ps → (b ≡ true) × (r ≡ Ok ps)
not_cut bytes true r ps e = (refl, e)
not_cut bytes false r ps e = absurd cc

payloads_behind : (bytes : List ℕ) (ps : List (List ℕ)) → payloads_in bytes ≡ Ok ps → (behind_base bytes ≤ length bytes) × (read (length bytes) (behind_base bytes) (number_at 26 bytes) (drop (behind_base bytes) bytes) ≡ Ok ps)
unfolding payloads_in
payloads_behind bytes ps e =
    let r = read (length bytes) (behind_base bytes) (number_at 26 bytes) (drop (behind_base bytes) bytes) in
    let x = not_cut bytes (nat_le (behind_base bytes) (length bytes)) r ps e in
    let long = x.0 in
    (grind (arith, nat_tests), x.1)

pub spells_only : (bytes : List ℕ) (f : File) → AreBytes bytes → length bytes ≤ 2 ^ 62 → framing bytes ≡ Whole f → Spells f bytes
unfolding framing
spells_only bytes f are fits e =
    let a = where_created bytes (is_created bytes) (sound_or_damaged bytes (head_fault bytes)) f e in
    let b = where_sound bytes (head_fault bytes) f a.1 in
    let c = where_whole bytes (payloads_in bytes) f b.1 in
    let d = payloads_behind bytes c.0 c.1 in
    let first = number_at 26 bytes in
    let gate = behind_base bytes in
    let h : Head = record { salt = number_at 10 bytes; generation = number_at 18 bytes; first = first; base_length = number_at 34 bytes } in
    let all : BeginsWith bytes bytes = record { tail = []; is = sym (append-nil bytes); enough = inr refl } in
    let is : IsHead h bytes = record { long = (created_is bytes a.0).0; created = a.0; sound = b.0; salt_is = refl; generation_is = refl; first_is = refl; base_is = refl; first_fits = (sound bytes b.0).first_greatest } in
    let found = spelled (length bytes) gate first (drop gate bytes) c.0 (omega (arith, length-drop gate bytes)) (AreBytes-drop gate bytes are) d.1 in
    subst (λ g. Spells g bytes) (sym c.2) (spells_by bytes bytes all h gate (base_in bytes) c.0 is refl are fits (base_stands bytes d.0) found)

not_created : (bytes : List ℕ) → is_created bytes ≡ false → framing bytes ≡ free_or_occupied bytes
unfolding framing
not_created bytes isnt = ap (λ (b : Bool). if b then sound_or_damaged bytes (head_fault bytes) else free_or_occupied bytes) isnt

pub is_free : (bytes : List ℕ) → is_created bytes ≡ false → length bytes ≤ 43 → framing bytes ≡ Uncreated
is_free bytes isnt short = not_created bytes isnt ∙ ap (λ (b : Bool). if b then Uncreated else Occupied) (let e : nat_le (length bytes) 43 ≡ true = grind (arith, nat_tests) in e)

pub is_occupied : (bytes : List ℕ) → is_created bytes ≡ false → 43 < length bytes → framing bytes ≡ Occupied
is_occupied bytes isnt long = not_created bytes isnt ∙ ap (λ (b : Bool). if b then Uncreated else Occupied) (let e : nat_le (length bytes) 43 ≡ false = grind (arith, nat_tests) in e)

was_created : (bytes : List ℕ) (o : Option ℕ) → is_created bytes ≡ true → head_fault bytes ≡ o → framing bytes ≡ sound_or_damaged bytes o
unfolding framing
was_created bytes o created fault =
    ap (λ (b : Bool). if b then sound_or_damaged bytes (head_fault bytes) else free_or_occupied bytes) created ∙ ap (sound_or_damaged bytes) fault

pub head_damaged : (bytes : List ℕ) (place : ℕ) → is_created bytes ≡ true → head_fault bytes ≡ Some place → framing bytes ≡ Damaged place
head_damaged bytes place created fault = was_created bytes (Some place) created fault

pub with_records : (bytes : List ℕ) (gate first : ℕ) (r : Result (List (List ℕ)) ℕ) → is_created bytes ≡ true → head_fault bytes ≡ None → gate ≡ behind_base bytes → gate ≤ length bytes → first ≡ number_at 26 bytes
    → read (length bytes) gate first (drop gate bytes) ≡ r → framing bytes ≡ whole_or_damaged bytes r
unfolding payloads_in
with_records bytes gate first r created sound gate_is long first_is is =
    let there : nat_le (behind_base bytes) (length bytes) ≡ true = grind (arith, nat_tests) in
    let reads = λ (n : ℕ). read (length bytes) n (number_at 26 bytes) (drop n bytes) in
    was_created bytes None created sound
    ∙ ap (whole_or_damaged bytes) (
    ap (λ (b : Bool). if b then reads (behind_base bytes) else Err 42) there
    ∙ ap reads (sym gate_is)
    ∙ ap (λ n. read (length bytes) gate n (drop gate bytes)) (sym first_is)
    ∙ is)

-- its base is cut off
pub with_cut_base : (bytes : List ℕ) → is_created bytes ≡ true → head_fault bytes ≡ None → length bytes < behind_base bytes → framing bytes ≡ Damaged 42
unfolding payloads_in
with_cut_base bytes created sound short =
    let cut : nat_le (behind_base bytes) (length bytes) ≡ false = grind (arith, nat_tests) in
    was_created bytes None created sound
    ∙ ap (λ (b : Bool). whole_or_damaged bytes (if b then read (length bytes) (behind_base bytes) (number_at 26 bytes) (drop (behind_base bytes) bytes) else Err 42)) cut

pub test_created : (bytes : List ℕ) → 43 ≤ length bytes → slice_index bytes 0 ≡ 1 → is_created bytes ≡ true
test_created bytes long gate = grind (arith, nat_tests)

pub test_short : (bytes : List ℕ) → length bytes < 43 → is_created bytes ≡ false
test_short bytes short = grind (arith, nat_tests)

pub test_closed : (bytes : List ℕ) → slice_index bytes 0 ≢ 1 → is_created bytes ≡ false
test_closed bytes shut = grind (arith, nat_tests)

-- a whole file is created
pub whole_created : (bytes : List ℕ) (f : File) → framing bytes ≡ Whole f → is_created bytes ≡ true
unfolding framing
whole_created bytes f e = (where_created bytes (is_created bytes) (sound_or_damaged bytes (head_fault bytes)) f e).0

-- where a whole file is read, its generation is what the head says
pub headed_whole : (bytes : List ℕ) (f : File) → framing bytes ≡ Whole f → headed bytes ≡ Generation f.generation
unfolding framing headed
headed_whole bytes f e =
    let a = where_created bytes (is_created bytes) (sound_or_damaged bytes (head_fault bytes)) f e in
    let b = where_sound bytes (head_fault bytes) f a.1 in
    let c = where_whole bytes (payloads_in bytes) f b.1 in
    ap (λ (t : Bool). if t then headed_by bytes (head_fault bytes) else headless bytes) a.0 ∙ ap (headed_by bytes) b.0 ∙ ap (λ (g : File). Generation g.generation) (sym c.2)

pub headed_none : (bytes : List ℕ) → is_created bytes ≡ false → headed bytes ≡ headless bytes
unfolding headed
headed_none bytes isnt = ap (λ (t : Bool). if t then headed_by bytes (head_fault bytes) else headless bytes) isnt
