-- One more line of a text that is read.
use Rattle.std.proofs.Common.{◌≡◌, ◌⊎◌, inl, inr, ℕ, List, [], ◌∷◌, ◌++◌, Bool, true, false, ◌-◌, take, drop, Option, Some, None, refl, sym, ◌∙◌, ap, subst, append_assoc, arith}
use Rattle.std.proofs.lemmas.List.{append-nil}
use Rattle.sb_input.specs.declared.reader.Reader.{Reader}
use Rattle.sb_input.specs.Lines.{NoFeed, lines_of, AreWhole}
use Rattle.sb_input.specs.Taking.{Took, AreFirst}
use Rattle.sb_input.specs.Readers.{pending_of, IsAt, IsNext}
use Rattle.sb_input.proofs.Splits.{lines_of-feed, lines_of-last}

-- the lines that were read, with one more
pub record Advances (input done : List ℕ) (line : List ℕ) (r : Reader) : Type 0 where
  pub next : List ℕ
  pub split : input ≡ next ++ pending_of r
  pub says : lines_of next ≡ lines_of done ++ line ∷ []
  pub goes : AreWhole next ⊎ ((r.ended ≡ true) × (pending_of r ≡ []))

feed_line : (done line rest : List ℕ) → AreWhole done → NoFeed line → lines_of ((done ++ (line ++ 10 ∷ [])) ++ rest) ≡ lines_of done ++ line ∷ lines_of rest
feed_line done line rest whole none =
    ap lines_of (append_assoc done (line ++ 10 ∷ []) rest ∙ ap (λ (l : List ℕ). done ++ l) (append_assoc line (10 ∷ []) rest)) ∙ whole (line ++ 10 ∷ rest) ∙ ap (λ (l : List (List ℕ)). lines_of done ++ l) (lines_of-feed line rest none)

one_line : (done line : List ℕ) → AreWhole done → NoFeed line → lines_of (done ++ (line ++ 10 ∷ [])) ≡ lines_of done ++ line ∷ []
one_line done line whole none = ap lines_of (sym (append-nil (done ++ (line ++ 10 ∷ [])))) ∙ feed_line done line [] whole none

pub advances : (input done pending more line : List ℕ) (r : Reader) → input ≡ done ++ pending → AreWhole done → NoFeed line → IsNext (pending ++ more) line (pending_of r) r.ended → Advances (input ++ more) done line r
advances input done pending more line r split whole none (inl fed) = record {
  next = done ++ (line ++ 10 ∷ []);
  split =
      ap (λ (l : List ℕ). l ++ more) split
      ∙ append_assoc done pending more
      ∙ ap (λ (l : List ℕ). done ++ l) (fed ∙ sym (append_assoc line (10 ∷ []) (pending_of r)))
      ∙ sym (append_assoc done (line ++ 10 ∷ []) (pending_of r));
  says = one_line done line whole none;
  goes = inl (λ rest. feed_line done line rest whole none ∙ sym (append_assoc (lines_of done) (line ∷ []) (lines_of rest)) ∙ ap (λ (l : List (List ℕ)). l ++ lines_of rest) (sym (one_line done line whole none)));
}
advances input done pending more line r split whole none (inr last) = record {
  next = done ++ line;
  split =
      ap (λ (l : List ℕ). l ++ more) split
      ∙ append_assoc done pending more
      ∙ ap (λ (l : List ℕ). done ++ l) last.0
      ∙ sym (append-nil (done ++ line))
      ∙ ap (λ (l : List ℕ). (done ++ line) ++ l) (sym last.2);
  says = whole line ∙ ap (λ (l : List (List ℕ)). lines_of done ++ l) (lines_of-last line none last.1);
  goes = inr (last.3, last.2);
}

-- nothing is read yet
pub fresh_at : (start : Option (List ℕ)) (r : Reader) → (r.at ≡ 0) × (r.end ≡ 0) × (r.ended ≡ false) × (r.taken ≡ 0) → IsAt start [] start r × (pending_of r ≡ [])
fresh_at start r fresh = (
  record {
    took = none_taken start;
    ended = λ ended. let other : true ≡ false = sym ended ∙ fresh.2 in absurd cc;
    taken = fresh.3;
  },
  ap (λ (n : ℕ). take (n - r.at) (drop r.at r.piece.items)) fresh.1 ∙ ap (λ (n : ℕ). take n (drop r.at r.piece.items)) (none_less r.at),
)
  where
    none_taken : (left : Option (List ℕ)) → Took left left []
    none_taken None = tt
    none_taken (Some all) = (all, refl, refl)

    none_less : (n : ℕ) → 0 - n ≡ 0
    none_less n = omega arith

-- ---- the first lines of an input

-- whole lines, or all of an input, are its first
pub first_lines : (start left : Option (List ℕ)) (input next : List ℕ) (r : Reader) → IsAt start input left r → input ≡ next ++ pending_of r → AreWhole next ⊎ ((r.ended ≡ true) × (pending_of r ≡ [])) → AreFirst start (lines_of next)
first_lines None left input next r at split goes = tt
first_lines (Some all) left input next r at split (inl whole) =
    let took = at.took in
    let is : all ≡ next ++ (pending_of r ++ took.0) = took.1 ∙ ap (λ (l : List ℕ). l ++ took.0) split ∙ append_assoc next (pending_of r) took.0 in
    (lines_of (pending_of r ++ took.0), ap lines_of is ∙ whole (pending_of r ++ took.0))
first_lines (Some all) left input next r at split (inr last) =
    let took = at.took in
    let over : left ≡ Some [] = at.ended (subst (λ (b : Bool). b ≡ true) refl last.0) in
    let none : took.0 ≡ [] = same_left took.0 [] (sym took.2 ∙ over) in
    let is : all ≡ next = took.1 ∙ ap (λ (l : List ℕ). input ++ l) none ∙ append-nil input ∙ split ∙ ap (λ (l : List ℕ). next ++ l) last.1 ∙ append-nil next in
    ([], ap lines_of is ∙ sym (append-nil (lines_of next)))
  where
    same_left : (a b : List ℕ) → Some a ≡ Some b → a ≡ b
    same_left a b e = search
