-- How the images of a disk change, call by call.
use Rattle.std.specs.Prelude.{◌≡◌, ◌⊎◌, ◌<◌, ◌≤◌, ℕ, List, length, slice_index, true}
use Rattle.sb_outside.specs.Held.{Held, IsImage, is_written, touched, shortened, at_rest}

-- a write takes no image away, so that a crash within it leaves an image of what stands afterwards
abbrev pub WritesKeepImages : Type 0
WritesKeepImages = (held : Held) (place n : ℕ) (seen image : List ℕ) → IsImage held image → IsImage (touched held place n seen) image

-- nor does a cut
abbrev pub CutsKeepImages : Type 0
CutsKeepImages = (held : Held) (n : ℕ) (seen image : List ℕ) → IsImage held image → IsImage (shortened held n seen) image

-- at rest, there is one image: what is read
abbrev pub RestHasOneImage : Type 0
RestHasOneImage = (seen image : List ℕ) → IsImage (at_rest seen) image → image ≡ seen

-- the longest of the images, with this byte at each place where a crash may leave any
pub record IsFilled (fill : ℕ) (held : Held) (image : List ℕ) : Type 0 where
  pub is_image : IsImage held image
  pub longest : length image ≡ held.greatest
  pub filled : (k : ℕ) → k < length image → (is_written k held.ranges ≡ true) ⊎ (length held.synced ≤ k) → slice_index image k ≡ fill
