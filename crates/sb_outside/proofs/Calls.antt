-- One call more of a disk in memory.
use Rattle.std.proofs.Common.{◌≡◌, ◌⊎◌, inl, inr, ℕ, ◌+◌, ◌<◌, ◌≤◌, List, [], ◌∷◌, ◌++◌, length, get_or, take, drop, max, false, refl, sym, ◌∙◌, ap, subst, arith, length-drop}
use Rattle.std.proofs.lemmas.List.{get_or-take, length-take, take-append-le, drop-append-le, take_all, append-nil}
use Rattle.std.proofs.lemmas.Grind.{common_steps}
use Rattle.std.proofs.lemmas.Bool.Decides.{nat_tests}
use Rattle.sb_outside.specs.declared.memory.DiskCall.{DiskCall}
use Rattle.sb_outside.specs.declared.memory.DiskCall.TheVariants.{Write, FailedWrite, Cut, FailedCut, Sync}
use Rattle.sb_outside.specs.Held.{Held, IsImage, is_written, overwritten, touched, shortened, at_rest}
use Rattle.sb_outside.specs.Kept.{count_of, counts_of, after_call, held_after, past_of, IsPlaced, ArePlaced}

-- a call takes its bytes from the front, so that more behind them change nothing
pub after_call-more : (held : Held) (c : DiskCall) (written more : List ℕ) → count_of c ≤ length written → after_call held c (written ++ more) ≡ after_call held c written
after_call-more held (Write place n) written more le = ap (λ (l : List ℕ). touched held place n (overwritten held.seen place l)) (take-append-le n written more le)
after_call-more held (FailedWrite place n) written more le = refl
after_call-more held (Cut n) written more le = refl
after_call-more held (FailedCut n) written more le = refl
after_call-more held Sync written more le = refl

pub held_after-more : (held : Held) (cs : List DiskCall) (c : DiskCall) (written more : List ℕ) → counts_of cs ≡ length written → held_after held (cs ++ c ∷ []) (written ++ more) ≡ after_call (held_after held cs written) c more
held_after-more held [] c [] more counted = refl
held_after-more held [] c (x ∷ xs) more counted = absurd (omega arith)
held_after-more held (d ∷ cs) c written more counted =
    ap (λ (h : Held). held_after h (cs ++ c ∷ []) (drop (count_of d) (written ++ more))) (after_call-more held d written more (omega arith))
    ∙ ap (held_after (after_call held d written) (cs ++ c ∷ [])) (drop-append-le (count_of d) written more (omega arith))
    ∙ held_after-more (after_call held d written) cs c (drop (count_of d) written) more (omega (arith, length-drop (count_of d) written))

pub past_of-more : (held : Held) (cs : List DiskCall) (c : DiskCall) (written more : List ℕ) → counts_of cs ≡ length written → past_of held (cs ++ c ∷ []) (written ++ more) ≡ past_of held cs written ++ held_after held cs written ∷ []
past_of-more held [] c written more counted = refl
past_of-more held (d ∷ cs) c written more counted =
    ap (λ (h : Held). held ∷ past_of h (cs ++ c ∷ []) (drop (count_of d) (written ++ more))) (after_call-more held d written more (omega arith))
    ∙ ap (λ (l : List ℕ). held ∷ past_of (after_call held d written) (cs ++ c ∷ []) l) (drop-append-le (count_of d) written more (omega arith))
    ∙ ap (λ (l : List Held). held ∷ l) (past_of-more (after_call held d written) cs c (drop (count_of d) written) more (omega (arith, length-drop (count_of d) written)))

-- a call that wrote no bytes
pub held_after-none : (held : Held) (cs : List DiskCall) (c : DiskCall) (written : List ℕ) → counts_of cs ≡ length written → held_after held (cs ++ c ∷ []) written ≡ after_call (held_after held cs written) c []
held_after-none held cs c written counted = ap (held_after held (cs ++ c ∷ [])) (sym (append-nil written)) ∙ held_after-more held cs c written [] counted

pub past_of-none : (held : Held) (cs : List DiskCall) (c : DiskCall) (written : List ℕ) → counts_of cs ≡ length written → past_of held (cs ++ c ∷ []) written ≡ past_of held cs written ++ held_after held cs written ∷ []
past_of-none held cs c written counted = ap (past_of held (cs ++ c ∷ [])) (sym (append-nil written)) ∙ past_of-more held cs c written [] counted

pub held_after-write : (held : Held) (cs : List DiskCall) (place : ℕ) (written bytes : List ℕ) → counts_of cs ≡ length written
    → held_after held (cs ++ Write place (length bytes) ∷ []) (written ++ bytes) ≡ touched (held_after held cs written) place (length bytes) (overwritten (held_after held cs written).seen place bytes)
held_after-write held cs place written bytes counted =
    held_after-more held cs (Write place (length bytes)) written bytes counted
    ∙ ap (λ (l : List ℕ). touched (held_after held cs written) place (length bytes) (overwritten (held_after held cs written).seen place l)) (take_all (length bytes) bytes (omega arith))

pub held_after-failed_write : (held : Held) (cs : List DiskCall) (place n : ℕ) (written : List ℕ) → counts_of cs ≡ length written → held_after held (cs ++ FailedWrite place n ∷ []) written ≡ touched (held_after held cs written) place n (held_after held cs written).seen
held_after-failed_write held cs place n written counted = held_after-none held cs (FailedWrite place n) written counted

pub held_after-cut : (held : Held) (cs : List DiskCall) (n : ℕ) (written : List ℕ) → counts_of cs ≡ length written → held_after held (cs ++ Cut n ∷ []) written ≡ shortened (held_after held cs written) n (take n (held_after held cs written).seen)
held_after-cut held cs n written counted = held_after-none held cs (Cut n) written counted

pub held_after-failed_cut : (held : Held) (cs : List DiskCall) (n : ℕ) (written : List ℕ) → counts_of cs ≡ length written → held_after held (cs ++ FailedCut n ∷ []) written ≡ shortened (held_after held cs written) n (held_after held cs written).seen
held_after-failed_cut held cs n written counted = held_after-none held cs (FailedCut n) written counted

pub held_after-sync : (held : Held) (cs : List DiskCall) (written : List ℕ) → counts_of cs ≡ length written → held_after held (cs ++ Sync ∷ []) written ≡ at_rest (held_after held cs written).seen
held_after-sync held cs written counted = held_after-none held cs Sync written counted

pub placed-more : (held : Held) (cs : List DiskCall) (c : DiskCall) (written more : List ℕ) → counts_of cs ≡ length written → ArePlaced held cs written → IsPlaced (length (held_after held cs written).seen) c → ArePlaced held (cs ++ c ∷ []) (written ++ more)
placed-more held [] c [] more counted placed next = (next, tt)
placed-more held [] c (x ∷ xs) more counted placed next = absurd (omega arith)
placed-more held (d ∷ cs) c written more counted placed next =
    let rest : ArePlaced (after_call held d written) (cs ++ c ∷ []) (drop (count_of d) written ++ more) = placed-more (after_call held d written) cs c (drop (count_of d) written) more (omega (arith, length-drop (count_of d) written)) placed.1 next in
    let same_bytes : ArePlaced (after_call held d written) (cs ++ c ∷ []) (drop (count_of d) (written ++ more)) = subst (ArePlaced (after_call held d written) (cs ++ c ∷ [])) (sym (drop-append-le (count_of d) written more (omega arith))) rest in
    (placed.0, subst (λ (h : Held). ArePlaced h (cs ++ c ∷ []) (drop (count_of d) (written ++ more))) (sym (after_call-more held d written more (omega arith))) same_bytes)

pub placed-none : (held : Held) (cs : List DiskCall) (c : DiskCall) (written : List ℕ) → counts_of cs ≡ length written → ArePlaced held cs written → IsPlaced (length (held_after held cs written).seen) c → ArePlaced held (cs ++ c ∷ []) written
placed-none held cs c written counted placed next = subst (ArePlaced held (cs ++ c ∷ [])) (append-nil written) (placed-more held cs c written [] counted placed next)

pub counts_of-append : (cs : List DiskCall) (c : DiskCall) → counts_of (cs ++ c ∷ []) ≡ counts_of cs + count_of c
counts_of-append [] c = omega arith
counts_of-append (d ∷ cs) c = omega (arith, counts_of-append cs c)

-- what is read is one of the images, call by call

pub length-overwritten : (old bytes : List ℕ) (place : ℕ) → place ≤ length old → length (overwritten old place bytes) ≡ max (length old) (place + length bytes)
length-overwritten old bytes place le = grind (arith, common_steps)

-- outside the range the bytes stay
pub outside : (old bytes : List ℕ) (place k : ℕ) → place ≤ length old → (k < place) ⊎ (place + length bytes ≤ k) → get_or (overwritten old place bytes) k 0 ≡ get_or old k 0
outside old bytes place k le (inl below) = grind (arith, common_steps)
outside old bytes place k le (inr above) = grind (arith, common_steps)

-- a place that wasn't written is outside the newest range, and outside the older ones
pub not_written : (k place n : ℕ) (ranges : List (ℕ × ℕ)) → is_written k ((place, n) ∷ ranges) ≡ false → ((k < place) ⊎ (place + n ≤ k)) × (is_written k ranges ≡ false)
not_written k place n ranges unwritten = (grind (arith, nat_tests), grind (arith, nat_tests))

pub written-image : (held : Held) (place : ℕ) (bytes : List ℕ) → place ≤ length held.seen → IsImage held held.seen → IsImage (touched held place (length bytes) (overwritten held.seen place bytes)) (overwritten held.seen place bytes)
written-image held place bytes le image = record {
  no_shorter = omega (arith, image.no_shorter, long);
  no_longer = omega (arith, image.no_longer, long);
  same = λ k here there unwritten. let out = not_written k place (length bytes) held.ranges unwritten in outside held.seen bytes place k le out.0 ∙ image.same k (below k out.0 here) there out.1;
}
  where
    long : length (overwritten held.seen place bytes) ≡ max (length held.seen) (place + length bytes)
    long = length-overwritten held.seen bytes place le

    below : (k : ℕ) → (k < place) ⊎ (place + length bytes ≤ k) → k < length (overwritten held.seen place bytes) → k < length held.seen
    below k (inl low) here = omega arith
    below k (inr high) here = omega (arith, long)

pub unwritten-image : (held : Held) (place n : ℕ) → IsImage held held.seen → IsImage (touched held place n held.seen) held.seen
unwritten-image held place n image = record {
  no_shorter = image.no_shorter;
  no_longer = omega (arith, image.no_longer);
  same = λ k here there unwritten. image.same k here there (not_written k place n held.ranges unwritten).1;
}

pub cut-image : (held : Held) (n : ℕ) → n ≤ length held.seen → IsImage held held.seen → IsImage (shortened held n (take n held.seen)) (take n held.seen)
cut-image held n le image = record {
  no_shorter = omega (arith, length-take n held.seen);
  no_longer = omega (arith, length-take n held.seen, image.no_longer);
  same = λ k here there unwritten. get_or-take n held.seen k 0 (omega (arith, length-take n held.seen)) ∙ image.same k (omega (arith, length-take n held.seen)) there unwritten;
}

pub uncut-image : (held : Held) (n : ℕ) → IsImage held held.seen → IsImage (shortened held n held.seen) held.seen
uncut-image held n image = record { no_shorter = omega (arith, image.no_shorter); no_longer = image.no_longer; same = image.same }

pub at_rest-image : (bytes : List ℕ) → IsImage (at_rest bytes) bytes
at_rest-image bytes = record { no_shorter = omega arith; no_longer = omega arith; same = λ k here there _. refl }

-- for `#[tactic(auto, using(..))]`
pub ruleset pushes = (held_after-write, held_after-failed_write, held_after-cut, held_after-failed_cut, held_after-sync, past_of-more, past_of-none, placed-more, placed-none, counts_of-append, length-overwritten, written-image, unwritten-image, cut-image, uncut-image, at_rest-image)
