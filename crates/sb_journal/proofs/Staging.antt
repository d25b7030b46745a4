-- Records that are staged behind a closed gate: whatever is written there, the file stands.
use Rattle.std.proofs.Common.{◌≡◌, ◌⊎◌, inl, inr, ℕ, ◌+◌, ◌-◌, ◌≤◌, List, [], ◌∷◌, ◌++◌, length, drop, max, false, sym, ◌∙◌, ap, subst, arith, append_assoc, length-append, length-drop}
use Rattle.std.proofs.lemmas.List.{drop_at, drop-drop}
use Rattle.std.proofs.lemmas.Bool.Decides.{nat_tests}
use Rattle.sb_outside.specs.Held.{Held, IsImage, Moves, MayMove, is_written, overwritten, touched, at_rest}
use Rattle.sb_journal.specs.Text.{File, file_text}
use Rattle.sb_journal.specs.Framing.{Whole, framing}
use Rattle.sb_journal.specs.Crashes.{Rests, Stages, IsShutFile}
use Rattle.sb_journal.specs.Moments.{EachMoment}
use Rattle.sb_journal.proofs.Moments.{started, goes_on, may_go_on}
use Rattle.sb_journal.proofs.Behind.{IsFreeFrom}
use Rattle.sb_journal.proofs.Heads.{reads_closed}
use Rattle.sb_journal.proofs.Images.{KeepsFront, front_image, front_touched, written_after}

-- the file and its closed end gate
abbrev pub shut_text : File → List ℕ
shut_text f = file_text f ++ 0 ∷ []

pub length-shut : (f : File) → length (shut_text f) ≡ length (file_text f) + 1
length-shut f = omega (arith, length-append (file_text f) (0 ∷ []))

pub shut_read : (f : File) (bytes : List ℕ) (h : Held) (end next : ℕ) (w : List ℕ) → Stages h end next f w → IsShutFile f bytes → framing bytes ≡ Whole f
shut_read f bytes h end next w s shut = ap framing shut.1 ∙ reads_closed f 0 shut.0 s.within (omega arith)

pub stages_keep : (h : Held) (end next : ℕ) (f : File) (w : List ℕ) → Stages h end next f w → KeepsFront (shut_text f) h
stages_keep h end next f w s =
    let end_is = s.end_is in
    let least_is = s.least_is in
    record {
      rest = s.tail;
      synced_is = s.synced_is ∙ sym (append_assoc (file_text f) (0 ∷ []) s.tail);
      least = omega (arith, least_is, length-shut f, ap length s.synced_is, length-append (file_text f) (0 ∷ s.tail));
      free = λ k low. s.free k (inl (omega (arith, low, end_is, length-shut f)));
    }

pub shut_of : (f : File) (h : Held) (image : List ℕ) → KeepsFront (shut_text f) h → IsImage h image → IsShutFile f image
shut_of f h image keeps left = (drop (length (shut_text f)) image, front_image (shut_text f) h image keeps left ∙ append_assoc (file_text f) (0 ∷ []) (drop (length (shut_text f)) image))

pub stages_leave : (h : Held) (end next : ℕ) (f : File) (w : List ℕ) → Stages h end next f w → (image : List ℕ) → IsImage h image → framing image ≡ Whole f
stages_leave h end next f w s image left = shut_read f image h end next w s (shut_of f h image (stages_keep h end next f w s) left)

pub stages_read : (h : Held) (end next : ℕ) (f : File) (w : List ℕ) → Stages h end next f w → framing h.seen ≡ Whole f
stages_read h end next f w s = shut_read f h.seen h end next w s (w ++ drop (length w) s.tail, s.seen_is)

-- none are staged on a file at rest
pub rests_stage : (h : Held) (end next : ℕ) (f : File) → Rests h end next f → Stages h end next f []
rests_stage h end next f r = record {
  tail = r.tail;
  synced_is = ap (λ (m : Held). m.synced) r.held_is;
  seen_is = ap (λ (m : Held). m.seen) r.held_is;
  free = λ k any. ap (λ (m : Held). is_written k m.ranges) r.held_is;
  least_is = ap (λ (m : Held). m.least) r.held_is ∙ sym (ap (λ (m : Held). length m.synced) r.held_is);
  greatest_is = ap (λ (m : Held). m.greatest) r.held_is ∙ sym (ap (λ (m : Held). length m.seen) r.held_is);
  fresh = λ none. r.held_is ∙ ap at_rest (sym (ap (λ (m : Held). m.seen) r.held_is));
  end_is = r.end_is;
  next_is = r.next_is;
  within = r.within;
}

-- what is read once more was written behind them
pub seen_more : (h : Held) (end next : ℕ) (f : File) (w more : List ℕ) (s : Stages h end next f w) → overwritten h.seen (end + 1 + length w) more ≡ file_text f ++ 0 ∷ ((w ++ more) ++ drop (length (w ++ more)) s.tail)
seen_more h end next f w more s =
    let text = file_text f in
    let rest = drop (length w) s.tail in
    let place : end + 1 + length w ≡ length (text ++ 0 ∷ w) = let end_is = s.end_is in omega (arith, end_is, length-append text (0 ∷ w)) in
    let cut : length w + length more ≡ length (w ++ more) = sym (length-append w more) in
    ap (λ (l : List ℕ). overwritten l (end + 1 + length w) more) (s.seen_is ∙ sym (append_assoc text (0 ∷ w) rest))
    ∙ written_after (text ++ 0 ∷ w) rest more (end + 1 + length w) place
    ∙ append_assoc text (0 ∷ w) (more ++ drop (length more) rest)
    ∙ ap (λ (l : List ℕ). text ++ 0 ∷ (w ++ (more ++ l))) (drop-drop (length more) (length w) s.tail ∙ ap (λ n. drop n s.tail) cut)
    ∙ ap (λ (l : List ℕ). text ++ 0 ∷ l) (sym (append_assoc w more (drop (length (w ++ more)) s.tail)))

length-seen : (f : File) (w tail : List ℕ) → length (file_text f ++ 0 ∷ (w ++ drop (length w) tail)) ≡ max (length (file_text f) + 1 + length tail) (length (file_text f) + 1 + length w)
length-seen f w tail = omega (arith, length-append (file_text f) (0 ∷ (w ++ drop (length w) tail)), length-append w (drop (length w) tail), length-drop (length w) tail)

some_more : (w more : List ℕ) → 1 ≤ length more → w ++ more ≡ [] → ⊥
some_more w more some none = omega (arith, some, length-append w more, ap length none)

pub stage_more : (h : Held) (end next : ℕ) (f : File) (w more : List ℕ) → Stages h end next f w → 1 ≤ length more
    → Stages (touched h (end + 1 + length w) (length more) (overwritten h.seen (end + 1 + length w) more)) end next f (w ++ more)
stage_more h end next f w more s some =
    let end_is = s.end_is in
    let both = length-append w more in
    record {
      tail = s.tail;
      synced_is = s.synced_is;
      seen_is = seen_more h end next f w more s;
      free = λ k off. off_more k off (s.free k (before k off));
      least_is = s.least_is;
      greatest_is =
          let was = s.greatest_is in
          omega (arith, was, both, end_is, ap length s.seen_is, length-seen f w s.tail, ap length (seen_more h end next f w more s), length-seen f (w ++ more) s.tail);
      fresh = λ none. absurd (some_more w more some none);
      end_is = s.end_is;
      next_is = s.next_is;
      within = s.within;
    }
  where
    before : (k : ℕ) → (k ≤ end) ⊎ (end + 1 + length (w ++ more) ≤ k) → (k ≤ end) ⊎ (end + 1 + length w ≤ k)
    before k (inl low) = inl low
    before k (inr high) = inr (omega (arith, high, length-append w more))

    off_more : (k : ℕ) → (k ≤ end) ⊎ (end + 1 + length (w ++ more) ≤ k) → is_written k h.ranges ≡ false → is_written k ((end + 1 + length w, length more) ∷ h.ranges) ≡ false
    off_more k (inl low) rest = grind (arith, nat_tests)
    off_more k (inr high) rest = let far : end + 1 + length w + length more ≤ k = omega (arith, high, length-append w more) in grind (arith, nat_tests)

-- nothing was written behind the staged ones
pub stages_free : (h : Held) (end next : ℕ) (f : File) (w : List ℕ) (n : ℕ) → Stages h end next f w → end + 1 + length w ≤ n → IsFreeFrom n h.seen h
stages_free h end next f w n s high =
    let text = file_text f in
    let end_is = s.end_is in
    let least_is = s.least_is in
    let greatest_is = s.greatest_is in
    let more = n - (end + 1 + length w) in
    let sum : end + 1 + length w + more ≡ n = omega (arith, high) in
    let one : length (text ++ 0 ∷ []) ≡ end + 1 = omega (arith, end_is, length-append text (0 ∷ [])) in
    let all : length (text ++ 0 ∷ w) ≡ end + 1 + length w = omega (arith, end_is, length-append text (0 ∷ w)) in
    let of_synced : drop (end + 1 + length w) h.synced ≡ drop (length w) s.tail =
    ap (drop (end + 1 + length w)) (s.synced_is ∙ sym (append_assoc text (0 ∷ []) s.tail))
    ∙ sym (drop-drop (length w) (end + 1) ((text ++ 0 ∷ []) ++ s.tail))
    ∙ ap (drop (length w)) (drop_at (text ++ 0 ∷ []) s.tail (end + 1) one) in
    let of_seen : drop (end + 1 + length w) h.seen ≡ drop (length w) s.tail =
    ap (drop (end + 1 + length w)) (s.seen_is ∙ sym (append_assoc text (0 ∷ w) (drop (length w) s.tail)))
    ∙ drop_at (text ++ 0 ∷ w) (drop (length w) s.tail) (end + 1 + length w) all in
    let as_sum : (l : List ℕ) → drop n l ≡ drop more (drop (end + 1 + length w) l) = λ l. ap (λ m. drop m l) (sym sum) ∙ sym (drop-drop more (end + 1 + length w) l) in
    record {
      synced = as_sum h.synced ∙ ap (drop more) (of_synced ∙ sym of_seen) ∙ sym (as_sum h.seen);
      free = λ k low. s.free k (inr (omega (arith, high, low)));
      no_shorter = omega (arith, high, end_is, least_is, ap length s.synced_is, length-append text (0 ∷ s.tail), ap length s.seen_is, length-seen f w s.tail);
      no_longer = omega (arith, greatest_is);
    }

-- ---- the call that writes more of them

module _ (file : File) (end next : ℕ) (w : List ℕ) (p0 : List Held) (h0 : Held) (s : Stages h0 end next file w) where
  keeps : KeepsFront (shut_text file) h0
  keeps = stages_keep h0 end next file w s

  behind : (n : ℕ) (seen image : List ℕ) → IsImage (touched h0 (end + 1 + length w) n seen) image → IsShutFile file image
  behind n seen image left = shut_of file _ image (front_touched (shut_text file) h0 (end + 1 + length w) n seen keeps (let end_is = s.end_is in omega (arith, end_is, length-shut file))) left

  pub staged_start : EachMoment p0 p0 h0 (IsShutFile file)
  staged_start = started p0 h0 (IsShutFile file) (λ image left. shut_of file h0 image keeps left)

  pub staged_fails : (p1 : List Held) (h1 : Held) (n : ℕ) → MayMove p0 h0 p1 h1 (touched h0 (end + 1 + length w) n) → EachMoment p0 p1 h1 (IsShutFile file)
  staged_fails p1 h1 n moved = may_go_on p0 p0 p1 h0 h1 (touched h0 (end + 1 + length w) n) (IsShutFile file) staged_start moved (behind n)

  pub staged_goes : (p1 : List Held) (h1 : Held) (n : ℕ) (seen : List ℕ) → Moves p0 h0 p1 h1 (touched h0 (end + 1 + length w) n seen) → EachMoment p0 p1 h1 (IsShutFile file)
  staged_goes p1 h1 n seen moved = goes_on p0 p0 p1 h0 h1 _ (IsShutFile file) staged_start moved (behind n seen)

-- ---- the bytes that are written, counted

pub moved_as : (p0 p1 : List Held) (h0 h1 : Held) (end m n k : ℕ) (frames : List ℕ) → n ≡ m → Moves p0 h0 p1 h1 (touched h0 (end + 1 + m) k (overwritten h0.seen (end + 1 + m) frames))
    → Moves p0 h0 p1 h1 (touched h0 (end + 1 + n) k (overwritten h0.seen (end + 1 + n) frames))
moved_as p0 p1 h0 h1 end m n k frames is moved = subst (λ (i : ℕ). Moves p0 h0 p1 h1 (touched h0 (end + 1 + i) k (overwritten h0.seen (end + 1 + i) frames))) (sym is) moved

pub may_move_as : (p0 p1 : List Held) (h0 h1 : Held) (end m n k : ℕ) → n ≡ m → MayMove p0 h0 p1 h1 (touched h0 (end + 1 + m) k) → MayMove p0 h0 p1 h1 (touched h0 (end + 1 + n) k)
may_move_as p0 p1 h0 h1 end m n k is moved = subst (λ (i : ℕ). MayMove p0 h0 p1 h1 (touched h0 (end + 1 + i) k)) (sym is) moved

-- the bytes behind them stay
pub free_there : (h : Held) (end next m n : ℕ) (f : File) (w : List ℕ) → Stages h end next f w → length w ≡ m → end + 1 + m ≤ n → IsFreeFrom n h.seen h
free_there h end next m n f w s long high = stages_free h end next f w n s (omega (arith, long, high))
