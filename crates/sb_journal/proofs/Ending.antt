-- What a crash leaves while a file's end gate is closed, and during an opening.
use Rattle.std.proofs.Common.{◌≡◌, ◌⊎◌, inl, inr, ℕ, ◌+◌, ◌<◌, List, [], ◌∷◌, ◌++◌, length, get_or, take, drop, false, sym, ◌∙◌, ap, subst, arith, append_assoc, length-append}
use Rattle.std.specs.Prelude.{nat_lt, ◌&&◌, ◌==◌, slice_index}
use Rattle.std.proofs.lemmas.List.{take_at, drop_at, get_or_at}
use Rattle.std.proofs.lemmas.Bool.Decides.{nat_tests}
use Rattle.sb_outside.specs.Held.{Held, IsImage, Moves, MayMove, overwritten, touched, at_rest}
use Rattle.sb_journal.specs.Text.{File, file_text}
use Rattle.sb_journal.specs.Text.{Spells}
use Rattle.sb_journal.specs.Crashes.{IsTornEnd}
use Rattle.sb_journal.specs.Moments.{EachMoment}
use Rattle.sb_journal.proofs.Moments.{started, goes_on, stays, may_go_on}
use Rattle.sb_journal.proofs.Images.{rest_image, front_stays, one_place}

module _ (f : File) (bytes : List ℕ) (end : ℕ) (spells : Spells f bytes) (end_is : end ≡ length (file_text f)) (p0 : List Held) (h0 : Held) (at : h0 ≡ at_rest bytes) where
  abbrev P : List ℕ → Type 0
  P = λ image. (image ≡ bytes) ⊎ IsTornEnd f bytes image

  pub end_starts : EachMoment p0 p0 h0 P
  end_starts = started p0 h0 P (λ image left. inl (rest_image bytes image (subst (λ h. IsImage h image) at left)))

  front : take end bytes ≡ file_text f
  front = ap (λ (l : List ℕ). take end l) spells.is ∙ take_at (file_text f) spells.rest end (sym end_is)

  module _ (unclosed : (nat_lt end (length bytes) && (slice_index bytes end == 0)) ≡ false) where
    torn : (tail : List ℕ) → bytes ≡ file_text f ++ 0 ∷ tail → ⊥
    torn tail is =
        let long : end < length bytes = omega (arith, ap length is, length-append (file_text f) (0 ∷ tail)) in
        let zero : slice_index bytes end ≡ 0 = ap (λ (l : List ℕ). get_or l end 0) is ∙ get_or_at (file_text f) 0 tail 0 end (sym end_is) in
        grind (arith, nat_tests)

    abbrev Behind : List ℕ → Type 0
    Behind = λ image. (was : ℕ) (tail : List ℕ) → bytes ≡ file_text f ++ was ∷ tail → (gate : ℕ) × (image ≡ file_text f ++ gate ∷ tail)

    leaves : (rest image : List ℕ) → image ≡ file_text f ++ rest → Behind image → P image
    leaves rest image is behind = inr (record { rest = rest; is = is; torn = torn; behind = behind })

    one_byte : (seen image : List ℕ) → IsImage (touched (at_rest bytes) end 1 seen) image → Behind image
    one_byte seen image left was tail is =
        let n_is : IsImage (touched (at_rest bytes) (length (file_text f)) 1 seen) image = subst (λ n. IsImage (touched (at_rest bytes) n 1 seen) image) end_is left in
        let at_gate : IsImage (touched (at_rest (file_text f ++ was ∷ tail)) (length (file_text f)) 1 seen) image = subst (λ (l : List ℕ). IsImage (touched (at_rest l) (length (file_text f)) 1 seen) image) is n_is in
        (get_or image (length (file_text f)) 0, one_place (file_text f) tail was seen image at_gate)

    writes : (seen image : List ℕ) → IsImage (touched h0 end 1 seen) image → P image
    writes seen image left =
        let here : IsImage (touched (at_rest bytes) end 1 seen) image = subst (λ h. IsImage (touched h end 1 seen) image) at left in
        leaves (drop end image) image (
        front_stays bytes image end 1 seen (omega (arith, end_is, ap length spells.is, length-append (file_text f) spells.rest)) here
        ∙ ap (λ (l : List ℕ). l ++ drop end image) front) (one_byte seen image here)

    pub end_fails : (p1 : List Held) (h1 : Held) → MayMove p0 h0 p1 h1 (touched h0 end 1) → EachMoment p0 p1 h1 P
    end_fails p1 h1 moved = may_go_on p0 p0 p1 h0 h1 (touched h0 end 1) P end_starts moved writes

    module _ (p1 : List Held) (h1 : Held) (wrote : Moves p0 h0 p1 h1 (touched h0 end 1 (overwritten h0.seen end (0 ∷ [])))) where
      end_written : EachMoment p0 p1 h1 P
      end_written = goes_on p0 p0 p1 h0 h1 _ P end_starts wrote (writes _)

      pub end_not_safe : (p2 : List Held) (h2 : Held) → p2 ≡ p1 → h2 ≡ h1 → EachMoment p0 p2 h2 P
      end_not_safe p2 h2 same_past same_now = stays p0 p1 p2 h1 h2 P end_written same_past same_now

      pub end_safe : (p2 : List Held) (h2 : Held) → Moves p1 h1 p2 h2 (at_rest h1.seen) → EachMoment p0 p2 h2 P
      end_safe p2 h2 synced =
          let seen : h1.seen ≡ file_text f ++ 0 ∷ drop (end + 1) bytes =
          ap (λ h. h.seen) wrote.now_is
          ∙ ap (λ h. overwritten h.seen end (0 ∷ [])) at
          ∙ ap (λ (l : List ℕ). l ++ (0 ∷ []) ++ drop (end + 1) bytes) front
          ∙ append_assoc (file_text f) (0 ∷ []) (drop (end + 1) bytes) in
          let behind : (image : List ℕ) → image ≡ h1.seen → Behind image = λ image same was tail is. (0, same ∙ seen ∙ ap (λ (l : List ℕ). file_text f ++ 0 ∷ l) (gone was tail is)) in
          goes_on p0 p1 p2 h1 h2 _ P end_written synced (λ image left.
          let same = rest_image h1.seen image left in
          leaves (0 ∷ drop (end + 1) bytes) image (same ∙ seen) (behind image same))
        where
          gone : (was : ℕ) (tail : List ℕ) → bytes ≡ file_text f ++ was ∷ tail → drop (end + 1) bytes ≡ tail
          gone was tail is =
              ap (λ (l : List ℕ). drop (end + 1) l) (is ∙ sym (append_assoc (file_text f) (was ∷ []) tail))
              ∙ drop_at (file_text f ++ was ∷ []) tail (end + 1) (omega (arith, end_is, length-append (file_text f) (was ∷ [])))
