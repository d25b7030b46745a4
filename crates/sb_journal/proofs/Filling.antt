-- A file that is written behind a closed gate, call by call.
use Rattle.std.proofs.Common.{◌≡◌, inl, inr, ℕ, ◌+◌, ◌≤◌, List, [], ◌∷◌, ◌++◌, length, get_or, max, true, false, refl, sym, ◌∙◌, ap, subst, arith, lit≤, length-append}
use Rattle.std.specs.Prelude.{Bool, slice_index, nat_lt, ◌||◌, take, min}
use Rattle.std.proofs.lemmas.List.{append-nil, take_at}
use Rattle.std.proofs.lemmas.Bool.Decides.{nat_tests}
use Rattle.sb_outside.specs.Held.{Held, IsImage, Moves, MayMove, overwritten, touched, shortened, at_rest}
use Rattle.sb_journal.specs.Framing.{is_created}
use Rattle.sb_journal.specs.Choosing.{is_unshut}
use Rattle.sb_journal.specs.Crashes.{IsAside, IsFilled, IsOldNoneOrNew, IsShut, IsShutOrGated}
use Rattle.sb_journal.specs.Moments.{EachMoment}
use Rattle.sb_journal.proofs.Choices.{not_created}
use Rattle.sb_journal.proofs.Images.{rest_image, one_place, written_at}
use Rattle.sb_journal.proofs.Making.{overwritten_end}
use Rattle.sb_journal.proofs.Moments.{started, goes_on, stays, may_go_on, runs_on, weaker_moments}
use Rattle.sb_journal.proofs.Shut.{shut-write, shut_cuts}
use Rattle.sb_journal.proofs.Shutting.{shut_none}

abbrev pub IsHidden : List ℕ → Type 0
IsHidden bytes = is_unshut bytes ≡ false

abbrev pub IsNone : List ℕ → Type 0
IsNone bytes = is_created bytes ≡ false

hidden_image : (most : ℕ) (h : Held) (image : List ℕ) → IsShut most h → IsImage h image → IsHidden image
hidden_image most h image shut left =
    let some = shut.some in
    let kept = shut.kept in
    shut_none image (left.same 0 (omega (arith, left.no_shorter, some)) (omega (arith, kept)) shut.free ∙ shut.gate)

wider : (most n : ℕ) (h : Held) → IsShut most h → IsShut (max most n) h
wider most n h shut = let short = shut.short in record { some = shut.some; kept = shut.kept; gate = shut.gate; free = shut.free; short = omega (arith, short) }

narrow : (most : ℕ) (h : Held) → IsShut most h → IsShut h.greatest h
narrow most h shut = record { some = shut.some; kept = shut.kept; gate = shut.gate; free = shut.free; short = omega arith }

touched_shut : (h : Held) (place n : ℕ) (seen : List ℕ) → IsShut h.greatest h → 1 ≤ place → IsShut (max h.greatest (place + n)) (touched h place n seen)
touched_shut h place n seen shut low = shut-write (max h.greatest (place + n)) h place n seen (wider h.greatest (place + n) h shut) low (omega arith)

filled_more : (seen text bytes : List ℕ) (place : ℕ) → seen ≡ 0 ∷ text → place ≡ 1 + length text → overwritten seen place bytes ≡ 0 ∷ (text ++ bytes)
filled_more seen text bytes place is at =
    ap (λ (l : List ℕ). overwritten l place bytes) (is ∙ sym (append-nil (0 ∷ text)))
    ∙ overwritten_end (0 ∷ text) [] bytes place (omega (arith, at)) (omega arith)

pub filled_aside : (h : Held) (text : List ℕ) → IsFilled h text → IsAside h
filled_aside h text f = record {
  shut = λ image left. hidden_image h.greatest h image f.shut left;
  seen = shut_none h.seen (ap (λ (l : List ℕ). slice_index l 0) f.seen_is);
}

-- ---- one write more

module _ (text : List ℕ) (p0 : List Held) (h0 : Held) (f : IsFilled h0 text) where
  pub fill_starts : EachMoment p0 p0 h0 IsHidden
  fill_starts = started p0 h0 IsHidden (λ image left. hidden_image h0.greatest h0 image f.shut left)

  hidden : (place n : ℕ) → 1 ≤ place → (seen image : List ℕ) → IsImage (touched h0 place n seen) image → IsHidden image
  hidden place n low seen image left = hidden_image _ _ image (touched_shut h0 place n seen f.shut low) left

  pub fill_fails : (p1 : List Held) (h1 : Held) (place n : ℕ) → 1 ≤ place → MayMove p0 h0 p1 h1 (touched h0 place n) → EachMoment p0 p1 h1 IsHidden
  fill_fails p1 h1 place n low moved = may_go_on p0 p0 p1 h0 h1 (touched h0 place n) IsHidden fill_starts moved (hidden place n low)

  pub fill_goes : (p1 : List Held) (h1 : Held) (place n : ℕ) (seen : List ℕ) → 1 ≤ place → Moves p0 h0 p1 h1 (touched h0 place n seen) → EachMoment p0 p1 h1 IsHidden
  fill_goes p1 h1 place n seen low moved = goes_on p0 p0 p1 h0 h1 _ IsHidden fill_starts moved (hidden place n low seen)

  pub fill_holds : (p1 : List Held) (h1 : Held) (place : ℕ) (bytes : List ℕ) → 1 ≤ place → place ≡ 1 + length text → Moves p0 h0 p1 h1 (touched h0 place (length bytes) (overwritten h0.seen place bytes)) → IsFilled h1 (text ++ bytes)
  fill_holds p1 h1 place bytes low at moved = subst (λ (h : Held). IsFilled h (text ++ bytes)) (sym moved.now_is) (record {
    seen_is = filled_more h0.seen text bytes place f.seen_is at;
    shut = touched_shut h0 place (length bytes) (overwritten h0.seen place bytes) f.shut low;
  })

  -- ---- the end is closed, and the gate opened

  module _ (place : ℕ) (low : 1 ≤ place) (at : place ≡ 1 + length text) where
    abbrev All : List ℕ
    All = text ++ 0 ∷ []

    abbrev R : List ℕ → Type 0
    R = IsShutOrGated (text ++ 0 ∷ [])

    pub end_fails : (p1 : List Held) (h1 : Held) → MayMove p0 h0 p1 h1 (touched h0 place 1) → EachMoment p0 p1 h1 R
    end_fails p1 h1 moved = weaker_moments p0 p1 h1 IsHidden R (λ image shut. inl shut) (fill_fails p1 h1 place 1 low moved)

    module _ (p1 : List Held) (h1 : Held) (wrote : Moves p0 h0 p1 h1 (touched h0 place 1 (overwritten h0.seen place (0 ∷ [])))) where
      end_done : EachMoment p0 p1 h1 R
      end_done = weaker_moments p0 p1 h1 IsHidden R (λ image shut. inl shut) (fill_goes p1 h1 place 1 _ low wrote)

      seen_1 : h1.seen ≡ 0 ∷ All
      seen_1 = (fill_holds p1 h1 place (0 ∷ []) low at wrote).seen_is

      pub not_safe : (p2 : List Held) (h2 : Held) → p2 ≡ p1 → h2 ≡ h1 → EachMoment p0 p2 h2 R
      not_safe p2 h2 same_past same_now = stays p0 p1 p2 h1 h2 R end_done same_past same_now

      module _ (p2 : List Held) (h2 : Held) (synced : Moves p1 h1 p2 h2 (at_rest h1.seen)) where
        at_2 : h2 ≡ at_rest (0 ∷ All)
        at_2 = synced.now_is ∙ ap at_rest seen_1

        safe : EachMoment p0 p2 h2 R
        safe = goes_on p0 p1 p2 h1 h2 _ R end_done synced (λ image left. inr (0, rest_image h1.seen image left ∙ seen_1))

        opens : (seen image : List ℕ) → IsImage (touched h2 0 1 seen) image → R image
        opens seen image left = inr (get_or image 0 0, one_place [] All 0 seen image (subst (λ (h : Held). IsImage (touched h 0 1 seen) image) at_2 left))

        pub open_fails : (p3 : List Held) (h3 : Held) → MayMove p2 h2 p3 h3 (touched h2 0 1) → EachMoment p0 p3 h3 R
        open_fails p3 h3 moved = may_go_on p0 p2 p3 h2 h3 (touched h2 0 1) R safe moved opens

        module _ (p3 : List Held) (h3 : Held) (opened : Moves p2 h2 p3 h3 (touched h2 0 1 (overwritten h2.seen 0 (1 ∷ [])))) where
          open_done : EachMoment p0 p3 h3 R
          open_done = goes_on p0 p2 p3 h2 h3 _ R safe opened (opens _)

          seen_3 : h3.seen ≡ 1 ∷ All
          seen_3 = ap (λ (h : Held). h.seen) opened.now_is ∙ ap (λ (h : Held). overwritten h.seen 0 (1 ∷ [])) at_2 ∙ written_at [] All 0 1 0 refl

          pub open_not_safe : (p4 : List Held) (h4 : Held) → p4 ≡ p3 → h4 ≡ h3 → EachMoment p0 p4 h4 R
          open_not_safe p4 h4 same_past same_now = stays p0 p3 p4 h3 h4 R open_done same_past same_now

          module _ (p4 : List Held) (h4 : Held) (kept : Moves p3 h3 p4 h4 (at_rest h3.seen)) where
            pub open_safe : EachMoment p0 p4 h4 R
            open_safe = goes_on p0 p3 p4 h3 h4 _ R open_done kept (λ image left. inr (1, rest_image h3.seen image left ∙ seen_3))

            pub opened_is : h4 ≡ at_rest (1 ∷ All)
            opened_is = kept.now_is ∙ ap at_rest seen_3

-- ---- a disk where nothing counts is cleared

none_of : (old image : List ℕ) → IsNone old → IsOldNoneOrNew old (0 ∷ []) image → IsNone image
none_of old image isnt (inl same) = ap is_created same ∙ isnt
none_of old image isnt (inr (inl none)) = none.none
none_of old image isnt (inr (inr new)) = ap is_created new

second : (a b : Bool) → (a || b) ≡ false → b ≡ false
second true b e = absurd cc
second false b e = e

pub first_low : (bytes : List ℕ) → is_unshut bytes ≡ false → slice_index bytes 0 ≤ 1
first_low bytes shut = let low : nat_lt 1 (slice_index bytes 0) ≡ false = second (is_created bytes) (nat_lt 1 (slice_index bytes 0)) shut in grind (arith, nat_tests)

module _ (p0 : List Held) (h0 : Held) (aside : IsAside h0) where
  clear_starts : EachMoment p0 p0 h0 IsNone
  clear_starts = started p0 h0 IsNone (λ image left. not_created image (aside.shut image left))

  pub clear_not_safe : (p1 : List Held) (h1 : Held) → p1 ≡ p0 → h1 ≡ h0 → EachMoment p0 p1 h1 IsNone
  clear_not_safe p1 h1 same_past same_now = stays p0 p0 p1 h0 h1 IsNone clear_starts same_past same_now

  module _ (p1 : List Held) (h1 : Held) (synced : Moves p0 h0 p1 h1 (at_rest h0.seen)) where
    read_1 : h1.seen ≡ h0.seen
    read_1 = ap (λ (h : Held). h.seen) synced.now_is

    none_1 : IsNone h1.seen
    none_1 = ap is_created read_1 ∙ not_created h0.seen aside.seen

    pub clear_known : 43 ≤ length h1.seen → slice_index h1.seen 0 ≤ 1
    clear_known long = subst (λ (l : List ℕ). slice_index l 0 ≤ 1) (sym read_1) (first_low h0.seen aside.seen)

    clear_synced : EachMoment p0 p1 h1 IsNone
    clear_synced = goes_on p0 p0 p1 h0 h1 _ IsNone clear_starts synced (λ image left. ap is_created (rest_image h0.seen image left) ∙ not_created h0.seen aside.seen)

    pub clear_on : (p2 : List Held) (h2 : Held) → EachMoment p1 p2 h2 (IsOldNoneOrNew h1.seen (0 ∷ [])) → EachMoment p0 p2 h2 IsNone
    clear_on p2 h2 run = runs_on p0 p1 p2 h1 h2 IsNone clear_synced (weaker_moments p1 p2 h2 (IsOldNoneOrNew h1.seen (0 ∷ [])) IsNone (λ image. none_of h1.seen image none_1) run)

-- what was cut down to its closed gate
pub cleared : (old : List ℕ) (p2 p3 : List Held) (h2 h3 : Held) → IsShut (max (length old) 1) h2 → take 1 h2.seen ≡ 0 ∷ [] → Moves p2 h2 p3 h3 (shortened h2 1 (take 1 h2.seen)) → IsFilled h3 []
cleared old p2 p3 h2 h3 shut first moved = record {
  seen_is = ap (λ (h : Held). h.seen) moved.now_is ∙ first;
  shut = narrow (max (length old) 1) h3 (shut_cuts old (0 ∷ []) p2 p3 h2 h3 shut 1 (take 1 h2.seen) (lit≤ tt) moved).1;
}

-- the head without the gate behind it
pub head_front : (shown whole text : List ℕ) → shown ≡ take (min 41 (length whole)) whole → whole ≡ text ++ 0 ∷ [] → length text ≡ 41 → shown ≡ text
head_front shown whole text shown_is whole_is long =
    let all : min 41 (length (text ++ 0 ∷ [])) ≡ 41 = omega (arith, long, length-append text (0 ∷ [])) in
    shown_is
    ∙ ap (λ (l : List ℕ). take (min 41 (length l)) l) whole_is
    ∙ ap (λ n. take n (text ++ 0 ∷ [])) all
    ∙ take_at text (0 ∷ []) 41 long
