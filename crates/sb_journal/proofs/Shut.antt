-- While a file's gate is closed, no file counts.
use Rattle.std.proofs.Common.{◌≡◌, ◌≢◌, inl, inr, ℕ, ◌+◌, ◌≤◌, length-drop, List, [], ◌∷◌, length, get_or, take, refl, sym, ◌∙◌, ap, subst, arith}
use Rattle.std.specs.Prelude.{slice_index, max, false}
use Rattle.std.proofs.lemmas.Bool.{cases_eq, cases_lt}
use Rattle.std.proofs.lemmas.Bool.Decides.{nat_tests}
use Rattle.sb_outside.specs.Held.{Held, IsImage, Moves, MayMove, overwritten, touched, shortened, at_rest}
use Rattle.sb_journal.specs.Framing.{is_created}
use Rattle.sb_journal.specs.Crashes.{HasNoFile, IsOldNoneOrNew, IsShut}
use Rattle.sb_journal.specs.Moments.{EachMoment}
use Rattle.sb_journal.proofs.Moments.{started, goes_on, stays, may_go_on}
use Rattle.sb_journal.proofs.Images.{rest_image, one_place, written_at}
use Rattle.sb_journal.proofs.Wholes.{test_closed, test_short}

length-closed : (bytes : List ℕ) → length (overwritten bytes 0 (0 ∷ [])) ≤ max (length bytes) 1
length-closed bytes = omega (arith, length-drop 1 bytes)

closed_none : (most : ℕ) (image : List ℕ) → slice_index image 0 ≢ 1 → length image ≤ most → HasNoFile most image
closed_none most image shut short = record { none = test_closed image shut; short = short }

pub shut_image : (most : ℕ) (h : Held) (image : List ℕ) → IsShut most h → IsImage h image → HasNoFile most image
shut_image most h image shut left =
    let some = shut.some in
    let zero : slice_index image 0 ≡ 0 = left.same 0 (omega (arith, left.no_shorter)) (omega (arith, shut.kept)) shut.free ∙ shut.gate in
    closed_none most image (omega arith) (omega (arith, left.no_longer, shut.short))

shut-rest : (most : ℕ) (bytes : List ℕ) → 1 ≤ length bytes → slice_index bytes 0 ≡ 0 → length bytes ≤ most → IsShut most (at_rest bytes)
shut-rest most bytes some gate short = record { some = some; kept = some; gate = gate; free = refl; short = short }

shut-cut : (most : ℕ) (h : Held) (n : ℕ) (seen : List ℕ) → IsShut most h → 1 ≤ n → IsShut most (shortened h n seen)
shut-cut most h n seen shut low = record { some = omega (arith, shut.some); kept = shut.kept; gate = shut.gate; free = shut.free; short = shut.short }

pub shut-write : (most : ℕ) (h : Held) (place n : ℕ) (seen : List ℕ) → IsShut most h → 1 ≤ place → place + n ≤ most → IsShut most (touched h place n seen)
shut-write most h place n seen shut low fits = record { some = shut.some; kept = shut.kept; gate = shut.gate; free = let free = shut.free in grind (arith, nat_tests); short = omega (arith, shut.short, fits) }

-- the gate is closed over bytes that are old
module _ (old new : List ℕ) (known : 43 ≤ length old → slice_index old 0 ≤ 1) (some : 1 ≤ length new) (p0 : List Held) (h0 : Held) (at : h0 ≡ at_rest h0.seen) (old_is : old ≡ h0.seen) where
  abbrev P : List ℕ → Type 0
  P = IsOldNoneOrNew old new

  rest : h0 ≡ at_rest old
  rest = at ∙ ap at_rest (sym old_is)

  pub closing_starts : EachMoment p0 p0 h0 P
  closing_starts = started p0 h0 P (λ image left. inl (rest_image old image (subst (λ h. IsImage h image) rest left)))

  none : (image : List ℕ) → is_created image ≡ false → length image ≤ max (length old) (length new) → P image
  none image isnt short = inr (inl (record { none = isnt; short = short }))

  closing_of : (bytes : List ℕ) → old ≡ bytes → (43 ≤ length bytes → slice_index bytes 0 ≤ 1) → (1 ≤ length bytes → slice_index bytes 0 ≢ 0) → (seen image : List ℕ) → IsImage (touched (at_rest bytes) 0 1 seen) image → P image
  closing_of [] is low off seen image left = none image (test_short image (omega (arith, left.no_longer))) (omega (arith, left.no_longer, some))
  closing_of (b ∷ bytes) is low off seen image left =
      let same = one_place [] bytes b seen image left in
      let short : length image ≤ max (length old) (length new) = omega (arith, left.no_longer, ap length is) in
      elim (cases_lt 42 (length (b ∷ bytes))) [
        | inl long ↦
            let low_here = low long in
            let one : b ≡ 1 = omega (arith, off (omega arith), low_here) in
            elim (cases_eq (get_or image 0 0) 1) [
              | inl opened ↦ inl (same ∙ ap (λ g. g ∷ bytes) (opened ∙ sym one) ∙ sym is)
              | inr shut ↦ none image (test_closed image shut) short
            ]
        | inr few ↦ none image (test_short image (omega (arith, left.no_longer, few))) short
      ]

  closing : (off : 1 ≤ length old → slice_index old 0 ≢ 0) → (seen image : List ℕ) → IsImage (touched h0 0 1 seen) image → P image
  closing off seen image left = closing_of old refl known off seen image (subst (λ h. IsImage (touched h 0 1 seen) image) rest left)

  pub closing_fails : (off : 1 ≤ length old → slice_index old 0 ≢ 0) (p1 : List Held) (h1 : Held) → MayMove p0 h0 p1 h1 (touched h0 0 1) → EachMoment p0 p1 h1 P
  closing_fails off p1 h1 moved = may_go_on p0 p0 p1 h0 h1 (touched h0 0 1) P closing_starts moved (closing off)

  module _ (off : 1 ≤ length old → slice_index old 0 ≢ 0) (p1 : List Held) (h1 : Held) (wrote : Moves p0 h0 p1 h1 (touched h0 0 1 (overwritten h0.seen 0 (0 ∷ [])))) where
    pub closing_done : EachMoment p0 p1 h1 P
    closing_done = goes_on p0 p0 p1 h0 h1 _ P closing_starts wrote (closing off _)

    pub closed_rest : (p2 : List Held) (h2 : Held) → Moves p1 h1 p2 h2 (at_rest h1.seen) → EachMoment p0 p2 h2 P
    closed_rest p2 h2 synced = goes_on p0 p1 p2 h1 h2 _ P closing_done synced (λ image left.
        let there : image ≡ overwritten h0.seen 0 (0 ∷ []) = rest_image h1.seen image left ∙ ap (λ h. h.seen) wrote.now_is in
        let is : slice_index image 0 ≡ 0 = ap (λ (l : List ℕ). slice_index l 0) there in
        none image (test_closed image (omega arith)) (omega (arith, ap length there, length-closed h0.seen, ap length old_is, some)))

pub shut_of : (most : ℕ) (h : Held) → h ≡ at_rest h.seen → take 1 h.seen ≡ 0 ∷ [] → length h.seen ≤ most → IsShut most h
shut_of most h at first short = subst (IsShut most) (sym at) (shut-first h.seen first short)
  where
    shut-first : (bytes : List ℕ) → take 1 bytes ≡ 0 ∷ [] → length bytes ≤ most → IsShut most (at_rest bytes)
    shut-first [] is short = absurd cc
    shut-first (b ∷ bytes) is short = shut-rest most (b ∷ bytes) (omega arith) (let e : b ≡ 0 = cc in e) short

-- a shut disk at some moment
shut_here : (old new : List ℕ) (h : Held) → IsShut (max (length old) (length new)) h → (image : List ℕ) → IsImage h image → IsOldNoneOrNew old new image
shut_here old new h shut image left = inr (inl (shut_image (max (length old) (length new)) h image shut left))

-- the new file's gate is opened
module _ (old new all : List ℕ) (new_is : 1 ∷ all ≡ new) where
  pub opening_here : (seen image : List ℕ) → IsImage (touched (at_rest (0 ∷ all)) 0 1 seen) image → IsOldNoneOrNew old new image
  opening_here seen image left =
      let same = one_place [] all 0 seen image left in
      elim (cases_eq (get_or image 0 0) 1) [
        | inl opened ↦ inr (inr (same ∙ ap (λ (g : ℕ). g ∷ all) opened ∙ new_is))
        | inr shut ↦ inr (inl (closed_none _ image shut (omega (arith, left.no_longer, ap length new_is))))
      ]

  pub opened_here : (image : List ℕ) → IsImage (at_rest (1 ∷ all)) image → IsOldNoneOrNew old new image
  opened_here image left = inr (inr (rest_image (1 ∷ all) image left ∙ new_is))

-- one call on a disk that is shut
module _ (old new : List ℕ) (p0 p1 : List Held) (h0 h1 : Held) (shut : IsShut (max (length old) (length new)) h0) where
  abbrev M : ℕ
  M = max (length old) (length new)

  abbrev Q : List ℕ → Type 0
  Q = IsOldNoneOrNew old new

  begun : EachMoment p0 p0 h0 Q
  begun = started p0 h0 Q (shut_here old new h0 shut)

  pub shut_writes : (place n : ℕ) (seen : List ℕ) → 1 ≤ place → place + n ≤ max (length old) (length new) → Moves p0 h0 p1 h1 (touched h0 place n seen) → EachMoment p0 p1 h1 Q × IsShut M h1
  shut_writes place n seen low fits moved =
      let after = shut-write M h0 place n seen shut low fits in (
        goes_on p0 p0 p1 h0 h1 _ Q begun moved (shut_here old new _ after),
        subst (IsShut M) (sym moved.now_is) after,
      )

  pub shut_fails : (place n : ℕ) → 1 ≤ place → place + n ≤ max (length old) (length new) → MayMove p0 h0 p1 h1 (touched h0 place n) → EachMoment p0 p1 h1 Q
  shut_fails place n low fits moved = may_go_on p0 p0 p1 h0 h1 (touched h0 place n) Q begun moved (λ seen. shut_here old new _ (shut-write M h0 place n seen shut low fits))

  pub shut_cuts : (n : ℕ) (seen : List ℕ) → 1 ≤ n → Moves p0 h0 p1 h1 (shortened h0 n seen) → EachMoment p0 p1 h1 Q × IsShut M h1
  shut_cuts n seen low moved =
      let after = shut-cut M h0 n seen shut low in (
        goes_on p0 p0 p1 h0 h1 _ Q begun moved (shut_here old new _ after),
        subst (IsShut M) (sym moved.now_is) after,
      )

  pub shut_not_cut : (n : ℕ) → 1 ≤ n → MayMove p0 h0 p1 h1 (shortened h0 n) → EachMoment p0 p1 h1 Q
  shut_not_cut n low moved = may_go_on p0 p0 p1 h0 h1 (shortened h0 n) Q begun moved (λ seen. shut_here old new _ (shut-cut M h0 n seen shut low))

-- what was filled behind a closed gate is made safe, and the gate is opened
module _ (old new all : List ℕ) (new_is : 1 ∷ all ≡ new) (p0 p3 : List Held) (h3 : Held) (filled : EachMoment p0 p3 h3 (IsOldNoneOrNew old new)) (seen_3 : h3.seen ≡ 0 ∷ all) where
  abbrev R : List ℕ → Type 0
  R = IsOldNoneOrNew old new

  pub filled_fails : (p4 : List Held) (h4 : Held) → p4 ≡ p3 → h4 ≡ h3 → EachMoment p0 p4 h4 R
  filled_fails p4 h4 same_past same_now = stays p0 p3 p4 h3 h4 R filled same_past same_now

  module _ (p4 : List Held) (h4 : Held) (synced : Moves p3 h3 p4 h4 (at_rest h3.seen)) where
    at_4 : h4 ≡ at_rest (0 ∷ all)
    at_4 = synced.now_is ∙ ap at_rest seen_3

    safe : EachMoment p0 p4 h4 R
    safe = goes_on p0 p3 p4 h3 h4 _ R filled synced (shut_here old new _ (subst (λ s. IsShut (max (length old) (length new)) (at_rest s)) (sym seen_3) (shut-rest _ (0 ∷ all) (omega arith) refl (omega (arith, ap length new_is)))))

    opens : (seen image : List ℕ) → IsImage (touched h4 0 1 seen) image → R image
    opens seen image left = opening_here old new all new_is seen image (subst (λ h. IsImage (touched h 0 1 seen) image) at_4 left)

    pub open_fails : (p5 : List Held) (h5 : Held) → MayMove p4 h4 p5 h5 (touched h4 0 1) → EachMoment p0 p5 h5 R
    open_fails p5 h5 moved = may_go_on p0 p4 p5 h4 h5 (touched h4 0 1) R safe moved opens

    module _ (p5 : List Held) (h5 : Held) (wrote : Moves p4 h4 p5 h5 (touched h4 0 1 (overwritten h4.seen 0 (1 ∷ [])))) where
      opened_5 : EachMoment p0 p5 h5 R
      opened_5 = goes_on p0 p4 p5 h4 h5 _ R safe wrote (opens _)

      pub open_not_safe : (p6 : List Held) (h6 : Held) → p6 ≡ p5 → h6 ≡ h5 → EachMoment p0 p6 h6 R
      open_not_safe p6 h6 same_past same_now = stays p0 p5 p6 h5 h6 R opened_5 same_past same_now

      pub open_safe : (p6 : List Held) (h6 : Held) → Moves p5 h5 p6 h6 (at_rest h5.seen) → EachMoment p0 p6 h6 R
      open_safe p6 h6 kept =
          let seen_5 : h5.seen ≡ 1 ∷ all = ap (λ h. h.seen) wrote.now_is ∙ ap (λ h. overwritten h.seen 0 (1 ∷ [])) at_4 ∙ written_at [] all 0 1 0 refl in
          goes_on p0 p5 p6 h5 h6 _ R opened_5 kept (λ image left. opened_here old new all new_is image (subst (λ s. IsImage (at_rest s) image) seen_5 left))
