-- A line that is read part by part.
use Rattle.std.proofs.Common.{◌≡◌, ◌≢◌, inl, inr, ℕ, ◌+◌, ◌-◌, ◌≤◌, List, [], ◌∷◌, ◌++◌, length, take, drop, Bool, true, false, Option, Some, None, refl, sym, ◌∙◌, ap, subst, arith, append_assoc, length-append, length-take, length-drop}
use Rattle.std.specs.Prelude.{IsTrue}
use Rattle.std.proofs.lemmas.List.{append-nil}
use Rattle.sb_input.specs.declared.partial_line.PartialLine.{PartialLine}
use Rattle.sb_input.specs.declared.reader.Reader.{Reader}
use Rattle.sb_input.specs.declared.reader.ReadEnd.{ReadEnd}
use Rattle.sb_input.specs.declared.reader.ReadEnd.TheVariants.{Fault, OutOfMemory as NoMemory, TooMuch}
use Rattle.sb_input.specs.Limits.{max_input, max_piece}
use Rattle.sb_input.specs.Lines.{NoFeed}
use Rattle.sb_input.specs.PartialLines.{StandsFor, IsLastOf}
use Rattle.sb_input.specs.Taking.{Took, HasEnded, IsLong, IsLongPiece, IsLineAhead}
use Rattle.sb_input.specs.Readers.{pending_of, IsAt, TakesPart, IsNext, ReadsLine, ReadsNoLine, Reads}
use Rattle.sb_input.proofs.Splits.{NoFeed-append, took-took, took-ended}

pub same_at : (start : Option (List ℕ)) (input : List ℕ) (left : Option (List ℕ)) (r after : Reader) → after.ended ≡ r.ended → after.taken ≡ r.taken → IsAt start input left r → IsAt start input left after
same_at start input left r after ended taken at = record {
  took = at.took;
  ended = λ e. at.ended (subst IsTrue ended e);
  taken = taken ∙ at.taken;
}

no_more : {X : Type 0} (xs ys : List X) → xs ++ ys ≡ [] → (xs ≡ []) × (ys ≡ [])
no_more [] ys e = (refl, e)
no_more (x ∷ xs) ys e = absurd cc

-- a line feed came
pub line_found : (start : Option (List ℕ)) (input more line pending all : List ℕ) (left : Option (List ℕ)) (r : Reader) (front : PartialLine) (found : Bool) → found ≡ true → TakesPart found line pending (pending_of r) front → NoFeed line
    → all ++ more ≡ line ++ pending → IsAt start (input ++ more) left r → ReadsLine start input all left r front
line_found start input more line pending all left r front false is part none whole at = absurd cc
line_found start input more line pending all left r front true is part none whole at = record {
  more = more;
  at = at;
  line = line ++ part.0;
  stands = part.3;
  no_feed = NoFeed-append line part.0 none part.2;
  next = inl (whole ∙ ap (λ (l : List ℕ). line ++ l) part.1 ∙ sym (append_assoc line part.0 (10 ∷ pending_of r)));
}

-- the source has ended
pub line_ended : (start : Option (List ℕ)) (input more line pending all : List ℕ) (left : Option (List ℕ)) (r : Reader) (o : Option PartialLine) → IsLastOf (line ++ pending) o → NoFeed (line ++ pending) → pending_of r ≡ []
    → all ++ more ≡ line ++ pending → IsAt start (input ++ more) left r → HasEnded start left → r.ended ≡ true → Reads o start input all left r
line_ended start input more line pending all left r (Some front) last none rest whole at ended over = record {
  more = more;
  at = at;
  line = line ++ pending;
  stands = last.1;
  no_feed = none;
  next = inr (whole, last.0, rest, over);
}
line_ended start input more line pending all left r None last none rest whole at ended over =
    let nothing = no_more all more (whole ∙ last) in
    record {
      at = subst (λ (l : List ℕ). IsAt start l left r) (ap (λ (l : List ℕ). input ++ l) nothing.1 ∙ append-nil input) at;
      none = nothing.0;
      ended = ended;
    }

-- one piece more was read
pub piece_at : (start : Option (List ℕ)) (input piece : List ℕ) (left after : Option (List ℕ)) (r next : Reader) (n : ℕ) → IsAt start input left r → Took left after (take n piece) → n ≤ length piece → next.taken ≡ r.taken + n → (IsTrue next.ended → HasEnded start after)
    → IsAt start (input ++ take n piece) after next
piece_at start input piece left after r next n at took within taken ended = record {
  took = took-took start left after input (take n piece) at.took took;
  ended = ended;
  taken = omega (arith, taken, at.taken, length-append input (take n piece), length-take n piece);
}

-- a part without a line feed stands before the next piece
pub piece_on : (line pending rest all more piece : List ℕ) → all ++ more ≡ line ++ pending → rest ≡ piece → all ++ (more ++ piece) ≡ (line ++ pending) ++ rest
piece_on line pending rest all more piece whole is = sym (append_assoc all more piece) ∙ ap (λ (l : List ℕ). l ++ piece) whole ∙ ap (λ (l : List ℕ). (line ++ pending) ++ l) (sym is)

pub without_feed : (line pending after : List ℕ) (front : PartialLine) (found : Bool) → found ≡ false → TakesPart found line pending after front → NoFeed line → NoFeed (line ++ pending) × (after ≡ []) × StandsFor front (line ++ pending)
without_feed line pending after front true is part none = absurd cc
without_feed line pending after front false is part none = (NoFeed-append line pending none part.0, part.1, part.2)

pub start_pending : (xs : List ℕ) (at n : ℕ) → at ≡ 0 → take (n - at) (drop at xs) ≡ take n xs
start_pending xs at n is = let same : n - at ≡ n = omega arith in ap (λ k. take k (drop at xs)) same ∙ ap (λ k. take n (drop k xs)) is

-- nothing more was read, and the source has ended
pub end_at : (start : Option (List ℕ)) (input piece : List ℕ) (left after : Option (List ℕ)) (r next : Reader) (n : ℕ) → IsAt start input left r → Took left after (take n piece) → n ≡ 0 → HasEnded left after → next.taken ≡ r.taken + n → IsAt start input after next
end_at start input piece left after r next n at took none ended taken = record {
  took =
      let nothing : Took left after [] = subst (λ k. Took left after (take k piece)) none took in
      subst (λ (l : List ℕ). Took start after l) (append-nil input) (took-took start left after input [] at.took nothing);
  ended = λ e. took-ended start left after input at.took ended;
  taken = omega (arith, taken, at.taken, none);
}

-- too much was read
pub long_piece : (piece : List ℕ) (left after : Option (List ℕ)) (r : Reader) (n : ℕ) → Took left after (take n piece) → n ≤ length piece → max_input ≤ r.taken + n → IsLongPiece left after r.taken
long_piece piece left after r n took within long = (take n piece, took, omega (arith, long, length-take n piece, within))

pub long_at : (start : Option (List ℕ)) (input : List ℕ) (left after : Option (List ℕ)) (r : Reader) → IsAt start input left r → IsLongPiece left after r.taken → IsLong start after
long_at start input left after r at long = (input ++ long.0, took-took start left after input long.0 at.took long.1, omega (arith, long.2, at.taken, length-append input long.0))

-- ---- no line was read

-- what is pending is a piece at most
pub pending_fits : (r : Reader) → length (pending_of r) ≤ max_piece
pending_fits r = omega (arith, length-take (r.end - r.at) (drop r.at r.piece.items), length-drop r.at r.piece.items, r.room)

-- a part found no memory
pub part_failed : (start : Option (List ℕ)) (input more line all : List ℕ) (left : Option (List ℕ)) (r : Reader) (e : ReadEnd) → (e ≢ Fault) × (e ≢ TooMuch) → Took start left (input ++ more) → all ++ more ≡ line ++ pending_of r → NoFeed line → ReadsNoLine e start input all left
part_failed start input more line all left r Fault known took whole none = absurd (known.0 refl)
part_failed start input more line all left r TooMuch known took whole none = absurd (known.1 refl)
part_failed start input more line all left r NoMemory known took whole none = record {
  more = more;
  took = took;
  is_ahead = record {
    line = line;
    rest = pending_of r;
    split = whole;
    no_feed = none;
    fits = omega (arith, pending_fits r);
  };
}

-- no piece was read behind a part without a line feed, or one too many
pub fill_failed : (start : Option (List ℕ)) (input more line pending all : List ℕ) (left after : Option (List ℕ)) (taken : ℕ) (e : ReadEnd) → Took start left (input ++ more) → all ++ more ≡ line ++ pending → NoFeed (line ++ pending)
    → (e ≡ Fault → Took left after []) → e ≢ NoMemory → (e ≡ TooMuch → IsLongPiece left after taken) → ReadsNoLine e start input all after
fill_failed start input more line pending all left after taken Fault took whole none stays known long = record {
  more = more;
  took = subst (λ (l : List ℕ). Took start after l) (append-nil (input ++ more)) (took-took start left after (input ++ more) [] took (stays refl));
  is_ahead = subst NoFeed (sym whole) none;
}
fill_failed start input more line pending all left after taken NoMemory took whole none stays known long = absurd (known refl)
fill_failed start input more line pending all left after taken TooMuch took whole none stays known long =
    let piece = long refl in
    record {
      more = more ++ piece.0;
      took = subst (λ (l : List ℕ). Took start after l) (append_assoc input more piece.0) (took-took start left after (input ++ more) piece.0 took piece.1);
      is_ahead = tt;
    }

-- the last line that was read is ahead of the lines before it
pub line_ahead : (all line : List ℕ) (r : Reader) → NoFeed line → IsNext all line (pending_of r) r.ended → IsLineAhead all
line_ahead all line r none (inl fed) = record {
  line = line;
  rest = 10 ∷ pending_of r;
  split = fed;
  no_feed = none;
  fits = omega (arith, pending_fits r);
}
line_ahead all line r none (inr last) = record {
  line = line;
  rest = [];
  split = last.0 ∙ sym (append-nil line);
  no_feed = none;
  fits = omega arith;
}
