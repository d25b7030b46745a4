-- What stands beside the file that counts is shut.
use Rattle.std.proofs.Common.{◌≡◌, inl, inr, ℕ, List, [], ◌∷◌, drop, get_or, true, false, refl, sym, ◌∙◌, ap, subst, arith}
use Rattle.std.specs.Prelude.{slice_index, nat_lt, ◌||◌, Bool}
use Rattle.sb_outside.specs.Held.{Held, IsImage, Moves, MayMove, overwritten, touched, at_rest}
use Rattle.sb_journal.specs.Choosing.{is_unshut}
use Rattle.sb_journal.specs.Crashes.{IsAside, MayShut}
use Rattle.sb_journal.specs.Moments.{EachMoment}
use Rattle.sb_journal.proofs.Moments.{started, goes_on, may_go_on}
use Rattle.sb_journal.proofs.Images.{rest_image, one_place}
use Rattle.sb_journal.proofs.Wholes.{test_closed}

-- what begins with 00 is shut
pub shut_none : (bytes : List ℕ) → slice_index bytes 0 ≡ 0 → is_unshut bytes ≡ false
shut_none bytes zero =
    let not_one : slice_index bytes 0 ≡ 1 → ⊥ = λ one. let both : 0 ≡ 1 = sym zero ∙ one in omega (arith, both) in
    ap (λ (b : Bool). b || nat_lt 1 (slice_index bytes 0)) (test_closed bytes not_one) ∙ ap (λ n. nat_lt 1 n) zero

-- a disk at rest, all of it shut
pub rests_aside : (held : Held) → held ≡ at_rest held.seen → is_unshut held.seen ≡ false → IsAside held
rests_aside held at shut = record {
  shut = λ image left. ap is_unshut (rest_image held.seen image (subst (λ h. IsImage h image) at left)) ∙ shut;
  seen = shut;
}

-- one byte is being written in the place of the first
shutting : (was : List ℕ) → is_unshut was ≡ true → (seen image : List ℕ) → IsImage (touched (at_rest was) 0 1 seen) image → MayShut was image
shutting [] is seen image left = absurd (let none : is_unshut [] ≡ false = refl in let both : true ≡ false = sym is ∙ none in cc)
shutting (b ∷ bytes) is seen image left = inr (is, get_or image 0 0, one_place [] bytes b seen image left)

module _ (p0 : List Held) (h0 : Held) (at : h0 ≡ at_rest h0.seen) where
  pub shut_starts : EachMoment p0 p0 h0 (MayShut h0.seen)
  shut_starts = started p0 h0 (MayShut h0.seen) (λ image left. inl (rest_image h0.seen image (subst (λ h. IsImage h image) at left)))

  module _ (unshut : is_unshut h0.seen ≡ true) where
    each : (seen image : List ℕ) → IsImage (touched h0 0 1 seen) image → MayShut h0.seen image
    each seen image left = shutting h0.seen unshut seen image (subst (λ h. IsImage (touched h 0 1 seen) image) at left)

    pub shut_fails : (p1 : List Held) (h1 : Held) → MayMove p0 h0 p1 h1 (touched h0 0 1) → EachMoment p0 p1 h1 (MayShut h0.seen)
    shut_fails p1 h1 moved = may_go_on p0 p0 p1 h0 h1 (touched h0 0 1) (MayShut h0.seen) shut_starts moved each

    module _ (p1 : List Held) (h1 : Held) (wrote : Moves p0 h0 p1 h1 (touched h0 0 1 (overwritten h0.seen 0 (0 ∷ [])))) where
      pub shut_done : EachMoment p0 p1 h1 (MayShut h0.seen)
      shut_done = goes_on p0 p0 p1 h0 h1 _ (MayShut h0.seen) shut_starts wrote (each _)

      pub shut_seen : h1.seen ≡ 0 ∷ drop 1 h0.seen
      shut_seen = ap (λ h. h.seen) wrote.now_is

      module _ (p2 : List Held) (h2 : Held) (synced : Moves p1 h1 p2 h2 (at_rest h1.seen)) where
        pub shut_synced : EachMoment p0 p2 h2 (MayShut h0.seen)
        shut_synced = goes_on p0 p1 p2 h1 h2 _ (MayShut h0.seen) shut_done synced (λ image left. inr (unshut, 0, rest_image h1.seen image left ∙ shut_seen))

        pub shut_rests : h2 ≡ at_rest (0 ∷ drop 1 h0.seen)
        shut_rests = synced.now_is ∙ ap at_rest shut_seen

        pub shut_aside : IsAside h2
        shut_aside = subst IsAside (sym shut_rests) (rests_aside (at_rest (0 ∷ drop 1 h0.seen)) refl (shut_none (0 ∷ drop 1 h0.seen) refl))

        pub shut_behind : drop 1 h2.seen ≡ drop 1 h0.seen
        shut_behind = ap (λ (h : Held). drop 1 h.seen) shut_rests
