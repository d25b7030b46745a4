-- A whole file is read back as itself.
use Rattle.std.proofs.Common.{◌≡◌, ◌≢◌, ℕ, ◌+◌, ◌^◌, ◌<◌, ◌≤◌, List, [], ◌∷◌, ◌++◌, length, take, drop, true, refl, sym, ◌∙◌, ap, subst, arith, append_assoc, length-append}
use Rattle.std.specs.Prelude.{Bool, if◌then◌else◌, nat_le, Some, None, Ok, Err}
use Rattle.std.proofs.lemmas.Nat.{from_be_bytes-to_be_bytes_8}
use Rattle.std.proofs.lemmas.List.{append-nil, drop-drop, drop_at, take_at}
use Rattle.std.proofs.lemmas.Bool.Decides.{nat_tests}
use Rattle.sb_journal.specs.Text.{File, new_file, with_payload, with_payloads, max_payload, head, framed, records, file_text, first_gate, gate_after, IsWithin, Ends}
use Rattle.sb_journal.specs.Framing.{Whole, free_or_occupied, first_failing, is_created, number_at, is_count, base_in, behind_base, head_fault, read, payloads_in, file_with, whole_or_damaged, sound_or_damaged, framing}
use Rattle.sb_outside.specs.Held.{Held, at_rest}
use Rattle.sb_journal.specs.Crashes.{Rests}
use Rattle.sb_journal.proofs.Frames.{read_ended, records-append, records-push, length-records, length-records_from, AreShort-push}

-- a file of these parts
abbrev of_parts : (salt generation first : ℕ) → List ℕ → List (List ℕ) → File
of_parts salt generation first base payloads = record { salt = salt; generation = generation; first = first; base = base; payloads = payloads }

pub length-head : (salt generation first n : ℕ) → length (head salt generation first n) ≡ 41
unfolding head
length-head salt generation first n = refl

module _ (salt generation first : ℕ) (base : List ℕ) (payloads : List (List ℕ)) (rest : List ℕ) (within : IsWithin (of_parts salt generation first base payloads)) (ends : Ends rest) where
  abbrev text : List ℕ
  text = file_text (of_parts salt generation first base payloads) ++ rest

  behind_head : drop 42 text ≡ base ++ (records first payloads ++ rest)
  unfolding file_text head
  behind_head = append_assoc base (records first payloads) rest

  length-text : length text ≡ 42 + (length base + length (records first payloads ++ rest))
  unfolding file_text head
  length-text = omega (arith, ap length (append_assoc base (records first payloads) rest), length-append base (records first payloads ++ rest))

  salt_is : number_at 10 text ≡ salt
  unfolding file_text head
  salt_is = from_be_bytes-to_be_bytes_8 salt within.salt

  generation_is : number_at 18 text ≡ generation
  unfolding file_text head
  generation_is = from_be_bytes-to_be_bytes_8 generation (omega (arith, within.generation_greatest))

  first_is : number_at 26 text ≡ first
  unfolding file_text head
  first_is = from_be_bytes-to_be_bytes_8 first (omega (arith, within.first_greatest))

  base_length_is : number_at 34 text ≡ length base
  unfolding file_text head
  base_length_is = from_be_bytes-to_be_bytes_8 (length base) within.base_fits

  is_sound : head_fault text ≡ None
  unfolding head_fault file_text head
  is_sound =
      let g = generation_is in
      let f = first_is in
      let a : is_count (number_at 18 text) ≡ true = let low = within.generation_least in let high = within.generation_greatest in grind (arith, nat_tests) in
      let b : is_count (number_at 26 text) ≡ true = let low = within.first_least in let high = within.first_greatest in grind (arith, nat_tests) in
      ap (λ (t : Bool). if t then first_failing ((is_count (number_at 26 text), 26) ∷ []) else Some 18) a ∙ ap (λ (t : Bool). if t then None else Some 26) b

  base_is : base_in text ≡ base
  base_is =
      ap (take (number_at 34 text)) behind_head
      ∙ ap (λ n. take n (base ++ (records first payloads ++ rest))) base_length_is
      ∙ take_at base (records first payloads ++ rest) (length base) refl

  gate_is : behind_base text ≡ 42 + length base
  gate_is = ap (λ n. 42 + n) base_length_is

  behind_gate : drop (42 + length base) text ≡ records first payloads ++ rest
  behind_gate = sym (drop-drop (length base) 42 text) ∙ ap (drop (length base)) behind_head ∙ drop_at base (records first payloads ++ rest) (length base) refl

  payloads_are : payloads_in text ≡ Ok payloads
  unfolding payloads_in
  payloads_are =
      let long : nat_le (behind_base text) (length text) ≡ true = let n = gate_is in let all = length-text in grind (arith, nat_tests) in
      let reads = λ (n : ℕ). read (length text) n (number_at 26 text) (drop n text) in
      ap (λ (b : Bool). if b then reads (behind_base text) else Err 42) long
      ∙ ap reads gate_is
      ∙ ap (λ n. read (length text) (42 + length base) n (drop (42 + length base) text)) first_is
      ∙ ap (λ (l : List ℕ). read (length text) (42 + length base) first l) behind_gate
      ∙ read_ended payloads (length text) (42 + length base) first rest (omega (arith, length-text, length-records payloads first, length-append (records first payloads) rest)) within.few within.short ends

  its_file : file_with text payloads ≡ of_parts salt generation first base payloads
  its_file =
      ap (λ n. of_parts n (number_at 18 text) (number_at 26 text) (base_in text) payloads) salt_is
      ∙ ap (λ n. of_parts salt n (number_at 26 text) (base_in text) payloads) generation_is
      ∙ ap (λ n. of_parts salt generation n (base_in text) payloads) first_is
      ∙ ap (λ (b : List ℕ). of_parts salt generation first b payloads) base_is

  created : 43 ≤ length text → is_created text ≡ true
  unfolding file_text head
  created long = grind (arith, nat_tests)

  parts_whole : 43 ≤ length text → framing text ≡ Whole (of_parts salt generation first base payloads)
  unfolding framing
  parts_whole long =
      ap (λ (b : Bool). if b then sound_or_damaged text (head_fault text) else free_or_occupied text) (created long)
      ∙ ap (sound_or_damaged text) is_sound
      ∙ ap (whole_or_damaged text) payloads_are
      ∙ ap Whole its_file

pub reads_whole : (f : File) (rest : List ℕ) → IsWithin f → Ends rest → 43 ≤ length (file_text f ++ rest) → framing (file_text f ++ rest) ≡ Whole f
reads_whole f rest within ends long = parts_whole f.salt f.generation f.first f.base f.payloads rest within ends long

pub length-file_text : (f : File) → length (file_text f) ≡ 42 + length f.base + length (records f.first f.payloads)
unfolding file_text head
length-file_text f = omega (arith, length-append f.base (records f.first f.payloads))

-- a closed gate and any tail
pub reads_closed : (f : File) (gate : ℕ) (tail : List ℕ) → IsWithin f → gate ≢ 1 → framing (file_text f ++ gate ∷ tail) ≡ Whole f
reads_closed f gate tail within closed = reads_whole f (gate ∷ tail) within closed (omega (arith, length-append (file_text f) (gate ∷ tail), length-file_text f))

-- one event more
pub file_text-push : (f : File) (p rest : List ℕ) → file_text (with_payload f p) ++ rest ≡ file_text f ++ 1 ∷ (framed (f.first + length f.payloads) p ++ rest)
unfolding file_text
file_text-push f p rest =
    let h = head f.salt f.generation f.first (length f.base) in
    ap (λ (l : List ℕ). 1 ∷ l) (
    append_assoc h (f.base ++ records f.first (f.payloads ++ p ∷ [])) rest
    ∙ ap (λ (l : List ℕ). h ++ l) (
    append_assoc f.base (records f.first (f.payloads ++ p ∷ [])) rest
    ∙ ap (λ (l : List ℕ). f.base ++ l) (records-push f.payloads f.first p rest)
    ∙ sym (append_assoc f.base (records f.first f.payloads) (1 ∷ (framed (f.first + length f.payloads) p ++ rest))))
    ∙ sym (append_assoc h (f.base ++ records f.first f.payloads) (1 ∷ (framed (f.first + length f.payloads) p ++ rest))))

-- several more
pub file_text-group : (f : File) (p : List ℕ) (ps : List (List ℕ)) (rest : List ℕ)
    → file_text (with_payloads f (p ∷ ps)) ++ rest ≡ file_text f ++ 1 ∷ (framed (f.first + length f.payloads) p ++ (records (f.first + length f.payloads + 1) ps ++ rest))
unfolding file_text
file_text-group f p ps rest =
    let h = head f.salt f.generation f.first (length f.base) in
    let more : List ℕ = records (f.first + length f.payloads) (p ∷ ps) ++ rest in
    let each : more ≡ 1 ∷ (framed (f.first + length f.payloads) p ++ (records (f.first + length f.payloads + 1) ps ++ rest)) =
    ap (λ (l : List ℕ). 1 ∷ l) (append_assoc (framed (f.first + length f.payloads) p) (records (f.first + length f.payloads + 1) ps) rest) in
    ap (λ (l : List ℕ). 1 ∷ l) (
    append_assoc h (f.base ++ records f.first (f.payloads ++ p ∷ ps)) rest
    ∙ ap (λ (l : List ℕ). h ++ l) (
    append_assoc f.base (records f.first (f.payloads ++ p ∷ ps)) rest
    ∙ ap (λ (l : List ℕ). f.base ++ l) (records-append f.payloads (p ∷ ps) f.first rest)
    ∙ sym (append_assoc f.base (records f.first f.payloads) more))
    ∙ sym (append_assoc h (f.base ++ records f.first f.payloads) more)
    ∙ ap (λ (l : List ℕ). (h ++ (f.base ++ records f.first f.payloads)) ++ l) each)

-- none more
pub with_none : (f : File) → with_payloads f [] ≡ f
with_none f = ap (λ (ps : List (List ℕ)). record { salt = f.salt; generation = f.generation; first = f.first; base = f.base; payloads = ps }) (append-nil f.payloads)

pub with_both : (f : File) (ps qs : List (List ℕ)) → with_payloads (with_payloads f ps) qs ≡ with_payloads f (ps ++ qs)
with_both f ps qs = ap (λ (all : List (List ℕ)). record { salt = f.salt; generation = f.generation; first = f.first; base = f.base; payloads = all }) (append_assoc f.payloads ps qs)

pub IsWithin-push : (f : File) (p : List ℕ) → IsWithin f → length p ≤ max_payload → f.first + length f.payloads + 1 ≤ 2 ^ 64 → IsWithin (with_payload f p)
IsWithin-push f p within short few = record {
  salt = within.salt;
  generation_least = within.generation_least;
  generation_greatest = within.generation_greatest;
  first_least = within.first_least;
  first_greatest = within.first_greatest;
  base_fits = within.base_fits;
  few = omega (arith, few, length-append f.payloads (p ∷ []));
  short = AreShort-push f.payloads p within.short short;
}

long_enough : (number : ℕ) (ps : List (List ℕ)) → ps ≢ [] → 1 ≤ length (records number ps)
long_enough number [] some = absurd (some refl)
long_enough number (p ∷ ps) some = omega arith

-- the end gate is missing
pub reads_cut : (f : File) → IsWithin f → f.payloads ≢ [] → framing (file_text f) ≡ Whole f
reads_cut f within some =
    let P : List ℕ → Type 0 = λ l. framing l ≡ Whole f in
    subst P (append-nil (file_text f)) (reads_whole f [] within tt (omega (arith, length-append (file_text f) [], length-file_text f, long_enough f.first f.payloads some)))

-- a new file on the disk
pub new_rests : (h : Held) (salt generation first : ℕ) (base : List ℕ) → salt < 2 ^ 64 → length base < 2 ^ 64 → 1 ≤ generation → generation ≤ 2 ^ 62 → 1 ≤ first → first ≤ 2 ^ 62 → h ≡ at_rest (file_text (new_file salt generation first base) ++ 0 ∷ [])
    → Rests h (42 + length base) first (new_file salt generation first base)
new_rests h salt generation first base fits base_fits g_least g_greatest f_least f_greatest is = record {
  tail = [];
  held_is = is;
  end_is = omega (arith, length-file_text (new_file salt generation first base));
  next_is = omega arith;
  within = record { salt = fits; generation_least = g_least; generation_greatest = g_greatest; first_least = f_least; first_greatest = f_greatest; base_fits = base_fits; few = omega arith; short = tt };
}

-- the place of the end gate, by the records
pub gate_after_file : (f : File) → length (file_text f) ≡ gate_after (first_gate f) f.payloads
gate_after_file f = omega (arith, length-file_text f, length-records_from f.payloads (first_gate f) f.first)
