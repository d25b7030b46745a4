-- How the images of a disk change, call by call.
use Rattle.std.proofs.Common.{◌≡◌, ◌∷◌, ℕ, List, length, refl, arith, false}
use Rattle.std.proofs.lemmas.Grind.{same_number_lists}
use Rattle.std.proofs.lemmas.Bool.Decides.{nat_tests}
use Rattle.sb_outside.specs.Held.{is_written}
use Rattle.sb_outside.specs.Images.{WritesKeepImages, CutsKeepImages, RestHasOneImage}

-- what the newest of these ranges doesn't reach, the older ones don't
older : (k place n : ℕ) (ranges : List (ℕ × ℕ)) → is_written k ((place, n) ∷ ranges) ≡ false → is_written k ranges ≡ false
older k place n ranges unwritten = grind (arith, nat_tests)

pub writes_keep_images : WritesKeepImages
writes_keep_images held place n seen image is = record {
  no_shorter = is.no_shorter;
  no_longer = omega (arith, is.no_longer);
  same = λ k here there unwritten. is.same k here there (older k place n held.ranges unwritten);
}

pub cuts_keep_images : CutsKeepImages
cuts_keep_images held n seen image is = record { no_shorter = omega (arith, is.no_shorter); no_longer = is.no_longer; same = is.same }

pub rest_has_one_image : RestHasOneImage
rest_has_one_image seen image is =
    let long : length image ≡ length seen = omega (arith, is.no_shorter, is.no_longer) in
    same_number_lists image seen long (λ k here. is.same k here (omega arith) refl)
