-- What a file's bytes are, by facts of which each has one proof.
use Rattle.std.proofs.Common.{◌≡◌, ◌≢◌, ◌⊎◌, inl, inr, ℕ, zero, suc, ◌+◌, ◌<◌, ◌≤◌, List, [], ◌∷◌, ◌++◌, length, drop, get_or, refl, sym, ◌∙◌, ap, subst, arith, length-drop}
use Rattle.std.proofs.lemmas.List.{drop_at, drop_more, get_or-drop}
use Rattle.sb_journal.specs.Text.{File, file_text, max_payload, AreShort, Ends, Spells, HasText}

each_short : (ps : List (List ℕ)) → AreShort ps → (k : ℕ) → length (get_or ps k []) ≤ max_payload
each_short [] short k = omega arith
each_short (p ∷ ps) short zero = short.0
each_short (p ∷ ps) short (suc k) = each_short ps short.1 k

all_short : (ps : List (List ℕ)) → ((k : ℕ) → length (get_or ps k []) ≤ max_payload) → AreShort ps
all_short [] each = tt
all_short (p ∷ ps) each = (each 0, all_short ps (λ k. each (suc k)))

no_gate : (rest : List ℕ) → Ends rest → 1 ≤ length rest → get_or rest 0 0 ≢ 1
no_gate [] ends some = absurd (omega (arith, some))
no_gate (gate ∷ tail) ends some = ends

-- nothing stands there, or something
past_or_in : (rest : List ℕ) → (rest ≡ []) ⊎ (1 ≤ length rest)
past_or_in [] = inl refl
past_or_in (gate ∷ tail) = inr (omega arith)

first_of : (n : ℕ) (bytes : List ℕ) → get_or (drop n bytes) 0 0 ≡ get_or bytes n 0
first_of n bytes = get_or-drop n bytes 0 0 ∙ ap (λ k. get_or bytes k 0) (let e : n + 0 ≡ n = omega arith in e)

ends_there : (n : ℕ) (bytes : List ℕ) → (n < length bytes → get_or bytes n 0 ≢ 1) → Ends (drop n bytes)
ends_there n bytes shut = elim (past_or_in (drop n bytes)) [
  | inl none ↦ subst Ends (sym none) tt
  | inr some ↦
      let here : n < length bytes = omega (arith, some, length-drop n bytes) in
      subst Ends (sym (drop_more bytes n 0 here)) (shut here)
]

pub has_text : (f : File) (bytes : List ℕ) → Spells f bytes → HasText f bytes
has_text f bytes spells =
    let text = file_text f in
    let n = length text in
    let rest : drop n bytes ≡ spells.rest = ap (drop n) spells.is ∙ drop_at text spells.rest n refl in
    let ends : Ends (drop n bytes) = subst Ends (sym rest) spells.ends in
    record {
      is = spells.is ∙ ap (λ (l : List ℕ). text ++ l) (sym rest);
      ends = λ here. λ opened. no_gate (drop n bytes) ends (omega (arith, here, length-drop n bytes)) (first_of n bytes ∙ opened);
      salt = spells.within.salt;
      generation_least = spells.within.generation_least;
      generation_greatest = spells.within.generation_greatest;
      first_least = spells.within.first_least;
      first_greatest = spells.within.first_greatest;
      base_fits = spells.within.base_fits;
      few = spells.within.few;
      short = each_short f.payloads spells.within.short;
    }

pub spells_text : (f : File) (bytes : List ℕ) → HasText f bytes → Spells f bytes
spells_text f bytes has = record {
  rest = drop (length (file_text f)) bytes;
  is = has.is;
  ends = ends_there (length (file_text f)) bytes has.ends;
  within = record {
    salt = has.salt;
    generation_least = has.generation_least;
    generation_greatest = has.generation_greatest;
    first_least = has.first_least;
    first_greatest = has.first_greatest;
    base_fits = has.base_fits;
    few = has.few;
    short = all_short f.payloads has.short;
  };
}
