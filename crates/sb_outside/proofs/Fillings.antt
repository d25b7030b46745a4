-- An image with one byte in place of all that isn't synced, call by call.
use Rattle.std.proofs.Common.{◌≡◌, ◌⊎◌, inl, inr, ◌∷◌, ℕ, ◌+◌, ◌-◌, ◌<◌, ◌≤◌, List, length, get_or, take, drop, max, replicate, true, false, refl, sym, ◌∙◌, ap, subst, arith, length-drop}
use Rattle.std.proofs.lemmas.List.{length-replicate, get_or-replicate, length-take-le, drop_more, drop_all, drop-drop, take_rest}
use Rattle.std.proofs.lemmas.Grind.{common_steps}
use Rattle.std.proofs.lemmas.Bool.Decides.{nat_tests}
use Rattle.std.proofs.lemmas.Bool.{cases_lt}
use Rattle.sb_outside.specs.declared.memory.DiskCall.{DiskCall}
use Rattle.sb_outside.specs.declared.memory.DiskCall.TheVariants.{Write, FailedWrite, Cut, FailedCut, Sync}
use Rattle.sb_outside.specs.Held.{Held, IsImage, is_written, overwritten, touched, shortened, at_rest}
use Rattle.sb_outside.specs.Images.{IsFilled}
use Rattle.sb_outside.specs.Kept.{count_of, counts_of, after_call, held_after, IsPlaced, ArePlaced, filled_past}
use Rattle.sb_outside.proofs.Calls.{length-overwritten, outside, not_written, at_rest-image, written-image, unwritten-image, cut-image, uncut-image}

-- ---- ranges

-- a written place is in the newest range, or in an older one
written : (k place n : ℕ) (ranges : List (ℕ × ℕ)) → is_written k ((place, n) ∷ ranges) ≡ true → ((place ≤ k) × (k < place + n)) ⊎ (is_written k ranges ≡ true)
written k place n ranges is = place_of (cases_lt k place) (cases_lt k (place + n))
  where
    place_of : (k < place) ⊎ (place ≤ k) → (k < place + n) ⊎ (place + n ≤ k) → ((place ≤ k) × (k < place + n)) ⊎ (is_written k ranges ≡ true)
    place_of (inr from) (inl to) = inl (from, to)
    place_of (inl before) to = inr (grind (arith, nat_tests))
    place_of from (inr behind) = inr (grind (arith, nat_tests))

-- within the range stands what was written there
inside : (old : List ℕ) (place n fill k : ℕ) → place ≤ length old → place ≤ k → k < place + n → get_or (overwritten old place (replicate n fill)) k 0 ≡ fill
inside old place n fill k le from to = grind (arith, common_steps, get_or-replicate n (k - place) fill 0, length-replicate n fill)

-- ---- calls

pub filled-at_rest : (fill : ℕ) (bytes : List ℕ) → IsFilled fill (at_rest bytes) bytes
filled-at_rest fill bytes = record {
  is_image = at_rest-image bytes;
  longest = refl;
  filled = λ k here loose. none k here loose;
}
  where
    none : (k : ℕ) → k < length bytes → (false ≡ true) ⊎ (length bytes ≤ k) → get_or bytes k 0 ≡ fill
    none k here (inl is) = absurd (cc)
    none k here (inr past) = absurd (omega arith)

pub filled-touched : (fill : ℕ) (held : Held) (place n : ℕ) (seen image : List ℕ) → place ≤ length image → IsFilled fill held image → IsFilled fill (touched held place n seen) (overwritten image place (replicate n fill))
filled-touched fill held place n seen image le is = record {
  is_image = record {
    no_shorter = omega (arith, is.is_image.no_shorter, long);
    no_longer = omega (arith, is.longest, long);
    same = λ k here there unwritten. let out = not_written k place n held.ranges unwritten in around k out.0 ∙ is.is_image.same k (below k out.0 here) there out.1;
  };
  longest = omega (arith, is.longest, long);
  filled = λ k here loose. filled k here (cases_lt k place) (cases_lt k (place + n)) loose;
}
  where
    long : length (overwritten image place (replicate n fill)) ≡ max (length image) (place + n)
    long = length-overwritten image (replicate n fill) place le ∙ ap (λ (m : ℕ). max (length image) (place + m)) (length-replicate n fill)

    around : (k : ℕ) → (k < place) ⊎ (place + n ≤ k) → get_or (overwritten image place (replicate n fill)) k 0 ≡ get_or image k 0
    around k (inl before) = outside image (replicate n fill) place k le (inl before)
    around k (inr behind) = outside image (replicate n fill) place k le (inr (omega (arith, length-replicate n fill)))

    below : (k : ℕ) → (k < place) ⊎ (place + n ≤ k) → k < length (overwritten image place (replicate n fill)) → k < length image
    below k (inl low) here = omega arith
    below k (inr high) here = omega (arith, long)

    older : (k : ℕ) → k < length image → ((place ≤ k) × (k < place + n)) ⊎ (is_written k held.ranges ≡ true) → (k < place) ⊎ (place + n ≤ k) → get_or image k 0 ≡ fill
    older k here (inl within) (inl before) = absurd (omega (arith, within.0))
    older k here (inl within) (inr behind) = absurd (omega (arith, within.1))
    older k here (inr old) out = is.filled k here (inl old)

    apart : (k : ℕ) → k < length (overwritten image place (replicate n fill)) → (k < place) ⊎ (place + n ≤ k) → (is_written k ((place, n) ∷ held.ranges) ≡ true) ⊎ (length held.synced ≤ k) → get_or (overwritten image place (replicate n fill)) k 0 ≡ fill
    apart k here out (inl at_risk) = around k out ∙ older k (below k out here) (written k place n held.ranges at_risk) out
    apart k here out (inr past) = around k out ∙ is.filled k (below k out here) (inr past)

    filled : (k : ℕ) → k < length (overwritten image place (replicate n fill)) → (k < place) ⊎ (place ≤ k) → (k < place + n) ⊎ (place + n ≤ k) → (is_written k ((place, n) ∷ held.ranges) ≡ true) ⊎ (length held.synced ≤ k) → get_or (overwritten image place (replicate n fill)) k 0 ≡ fill
    filled k here (inr from) (inl to) loose = inside image place n fill k le from to
    filled k here (inl before) to loose = apart k here (inl before) loose
    filled k here (inr from) (inr behind) loose = apart k here (inr behind) loose

pub filled-shortened : (fill : ℕ) (held : Held) (n : ℕ) (seen image : List ℕ) → IsFilled fill held image → IsFilled fill (shortened held n seen) image
filled-shortened fill held n seen image is = record {
  is_image = record { no_shorter = omega (arith, is.is_image.no_shorter); no_longer = is.is_image.no_longer; same = is.is_image.same };
  longest = is.longest;
  filled = is.filled;
}

pub filled-call : (fill : ℕ) (held : Held) (c : DiskCall) (written image : List ℕ) → IsPlaced (length image) c → IsFilled fill held image → IsFilled fill (after_call held c written) (filled_past fill held.seen c image)
filled-call fill held (Write place n) written image le is = filled-touched fill held place n _ image le is
filled-call fill held (FailedWrite place n) written image le is = filled-touched fill held place n _ image le is
filled-call fill held (Cut n) written image le is = filled-shortened fill held n _ image is
filled-call fill held (FailedCut n) written image le is = filled-shortened fill held n _ image is
filled-call fill held Sync written image le is = filled-at_rest fill held.seen

-- ---- what is read

pub placed-longer : (a b : ℕ) (c : DiskCall) → a ≤ b → IsPlaced a c → IsPlaced b c
placed-longer a b (Write place n) le placed = omega arith
placed-longer a b (FailedWrite place n) le placed = omega arith
placed-longer a b (Cut n) le placed = omega arith
placed-longer a b (FailedCut n) le placed = omega arith
placed-longer a b Sync le placed = tt

pub seen-call : (held : Held) (c : DiskCall) (written : List ℕ) → (after_call (at_rest held.seen) c written).seen ≡ (after_call held c written).seen
seen-call held (Write place n) written = refl
seen-call held (FailedWrite place n) written = refl
seen-call held (Cut n) written = refl
seen-call held (FailedCut n) written = refl
seen-call held Sync written = refl

pub image-call : (held : Held) (c : DiskCall) (written : List ℕ) → count_of c ≤ length written → IsPlaced (length held.seen) c → IsImage held held.seen → IsImage (after_call held c written) (after_call held c written).seen
image-call held (Write place n) written counted le is = subst (λ (m : ℕ). IsImage (touched held place m (overwritten held.seen place (take n written))) (overwritten held.seen place (take n written))) (length-take-le n written counted) (written-image held place (take n written) le is)
image-call held (FailedWrite place n) written counted le is = unwritten-image held place n is
image-call held (Cut n) written counted le is = cut-image held n le is
image-call held (FailedCut n) written counted le is = uncut-image held n is
image-call held Sync written counted le is = at_rest-image held.seen

-- ---- all calls

-- So many of the calls were gone through, up to this place of what they wrote, with what was read and the image then; the
-- others lead to this.
pub record IsPast (fill : ℕ) (calls : List DiskCall) (i at : ℕ) (written seen image : List ℕ) (all : Held) : Type 0 where
  pub held : Held
  pub is_seen : seen ≡ held.seen
  pub is_filled : IsFilled fill held image
  pub is_image : IsImage held held.seen
  pub placed : ArePlaced held (drop i calls) (drop at written)
  pub counted : at + counts_of (drop i calls) ≡ length written
  pub leads : held_after held (drop i calls) (drop at written) ≡ all

-- the calls that are left begin with the next
next_split : (calls : List DiskCall) (i : ℕ) (c : DiskCall) → i < length calls → c ≡ get_or calls i c → drop i calls ≡ c ∷ drop (i + 1) calls
next_split calls i c less is = drop_more calls i c less ∙ ap (λ (d : DiskCall). d ∷ drop (i + 1) calls) (sym is)

next_counts : (calls : List DiskCall) (i : ℕ) (c : DiskCall) → i < length calls → c ≡ get_or calls i c → counts_of (drop i calls) ≡ count_of c + counts_of (drop (i + 1) calls)
next_counts calls i c less is = ap counts_of (next_split calls i c less is)

next_placed : (fill : ℕ) (calls : List DiskCall) (i at : ℕ) (c : DiskCall) (written seen image : List ℕ) (all : Held) → i < length calls → c ≡ get_or calls i c → (p : IsPast fill calls i at written seen image all) → ArePlaced p.held (c ∷ drop (i + 1) calls) (drop at written)
next_placed fill calls i at c written seen image all less is p = subst (λ (cs : List DiskCall). ArePlaced p.held cs (drop at written)) (next_split calls i c less is) p.placed

-- the next call begins within what is read, and within the image
pub next_in_seen : (fill : ℕ) (calls : List DiskCall) (i at : ℕ) (c : DiskCall) (written seen image : List ℕ) (all : Held) → i < length calls → c ≡ get_or calls i c → IsPast fill calls i at written seen image all → IsPlaced (length seen) c
next_in_seen fill calls i at c written seen image all less is p = subst (λ (s : List ℕ). IsPlaced (length s) c) (sym p.is_seen) (next_placed fill calls i at c written seen image all less is p).0

pub next_in_image : (fill : ℕ) (calls : List DiskCall) (i at : ℕ) (c : DiskCall) (written seen image : List ℕ) (all : Held) → i < length calls → c ≡ get_or calls i c → IsPast fill calls i at written seen image all → IsPlaced (length image) c
next_in_image fill calls i at c written seen image all less is p = placed-longer (length p.held.seen) (length image) c (omega (arith, p.is_image.no_longer, p.is_filled.longest)) (next_placed fill calls i at c written seen image all less is p).0

-- what the next call wrote is there
pub next_written : (fill : ℕ) (calls : List DiskCall) (i at : ℕ) (c : DiskCall) (written seen image : List ℕ) (all : Held) → i < length calls → c ≡ get_or calls i c → IsPast fill calls i at written seen image all → at + count_of c ≤ length written
next_written fill calls i at c written seen image all less is p = omega (arith, p.counted, next_counts calls i c less is)

pub next_counted : (fill : ℕ) (calls : List DiskCall) (i at : ℕ) (c : DiskCall) (written bytes seen image : List ℕ) (all : Held) → i < length calls → c ≡ get_or calls i c → bytes ≡ written → IsPast fill calls i at written seen image all → count_of c ≤ length (take (length bytes - at) (drop at bytes))
next_counted fill calls i at c written bytes seen image all less is same p =
    subst (λ (l : List ℕ). count_of c ≤ length l) (sym (take_rest bytes at)) (omega (arith, length-drop at bytes, ap length same, next_written fill calls i at c written seen image all less is p))

-- behind the last call
pub all_past : (fill : ℕ) (calls : List DiskCall) (i at : ℕ) (written seen image : List ℕ) (all : Held) → length calls ≤ i → IsPast fill calls i at written seen image all → IsFilled fill all image
all_past fill calls i at written seen image all over p = subst (λ (h : Held). IsFilled fill h image) (ap (λ (cs : List DiskCall). held_after p.held cs (drop at written)) (sym (drop_all i calls over)) ∙ p.leads) p.is_filled

pub past_next : (fill : ℕ) (calls : List DiskCall) (i at count : ℕ) (c : DiskCall) (written seen seen_next image image_next : List ℕ) (all : Held)
    → i < length calls → c ≡ get_or calls i c → count ≡ count_of c
    → image_next ≡ filled_past fill seen c image
    → seen_next ≡ (after_call (at_rest seen) c (drop at written)).seen
    → IsPast fill calls i at written seen image all → IsPast fill calls (i + 1) (at + count) written seen_next image_next all
past_next fill calls i at count c written seen seen_next image image_next all less is is_count filled read p = record {
  held = after_call p.held c (drop at written);
  is_seen = read ∙ ap (λ (s : List ℕ). (after_call (at_rest s) c (drop at written)).seen) p.is_seen ∙ seen-call p.held c (drop at written);
  is_filled = subst (IsFilled fill (after_call p.held c (drop at written))) (sym (filled ∙ ap (λ (s : List ℕ). filled_past fill s c image) p.is_seen)) (filled-call fill p.held c (drop at written) image (placed-longer (length p.held.seen) (length image) c long placed.0) p.is_filled);
  is_image = image-call p.held c (drop at written) (omega (arith, p.counted, parts, length-drop at written)) placed.0 p.is_image;
  placed = subst (ArePlaced (after_call p.held c (drop at written)) (drop (i + 1) calls)) left placed.1;
  counted = omega (arith, p.counted, parts, is_count);
  leads = ap (held_after (after_call p.held c (drop at written)) (drop (i + 1) calls)) (sym left) ∙ sym (ap (λ (cs : List DiskCall). held_after p.held cs (drop at written)) split) ∙ p.leads;
}
  where
    split : drop i calls ≡ c ∷ drop (i + 1) calls
    split = next_split calls i c less is

    parts : counts_of (drop i calls) ≡ count_of c + counts_of (drop (i + 1) calls)
    parts = next_counts calls i c less is

    placed : ArePlaced p.held (c ∷ drop (i + 1) calls) (drop at written)
    placed = next_placed fill calls i at c written seen image all less is p

    long : length p.held.seen ≤ length image
    long = omega (arith, p.is_image.no_longer, p.is_filled.longest)

    left : drop (count_of c) (drop at written) ≡ drop (at + count) written
    left = drop-drop (count_of c) at written ∙ ap (λ (n : ℕ). drop (at + n) written) (sym is_count)
