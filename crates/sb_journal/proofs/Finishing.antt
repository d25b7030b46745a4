-- An opening: what was read, and what a crash leaves while it is finished.
use Rattle.std.proofs.Common.{◌≡◌, ◌⊎◌, inl, inr, ℕ, ◌+◌, ◌<◌, ◌≤◌, ◌^◌, List, [], ◌∷◌, ◌++◌, length, true, false, refl, sym, ◌∙◌, ap, subst, arith, length-append}
use Rattle.std.specs.Prelude.{nat_le, Bool, if◌then◌else◌, Option, Some, None, Result, Ok, Err}
use Rattle.std.proofs.lemmas.Bool.Decides.{nat_tests}
use Rattle.sb_outside.specs.Held.{Held, IsImage, Moves, at_rest}
use Rattle.sb_journal.specs.Text.{File, new_file, new_bytes, file_text, IsWithin, Spells}
use Rattle.sb_journal.specs.Framing.{Framing, Uncreated, Occupied, free_or_occupied, Whole, Damaged, framing, is_created, head_fault, payloads_in, sound_or_damaged, whole_or_damaged}
use Rattle.sb_journal.specs.Crashes.{Rests, IsOldNoneOrNew, IsTornEnd, MayLeave}
use Rattle.sb_journal.specs.Moments.{EachMoment, FromSync, IsUnwritten}
use Rattle.sb_journal.specs.Opened.{Stands, opened_alone, stand_file, is_shut, IsStand, IsWholeStand, IsRead}
use Rattle.sb_journal.specs.declared.found.Side.TheVariants.{A}
use Rattle.sb_journal.specs.declared.judge.Judge.{Ghosts}
use Rattle.sb_journal.specs.declared.reading.Ending.{Ending}
use Rattle.sb_journal.specs.declared.reading.Stand.{Stand}
use Rattle.sb_journal.proofs.Moments.{started, from_start, weaker_moments}
use Rattle.sb_journal.proofs.Images.{rest_image}
use Rattle.sb_journal.proofs.Heads.{length-file_text, new_rests, reads_closed}
use Rattle.sb_journal.proofs.Texts.{has_text}
use Rattle.sb_journal.proofs.Wholes.{is_free}

read_is_created : (bytes : List ℕ) (r : Result (List (List ℕ)) ℕ) → whole_or_damaged bytes r ≡ Uncreated → ⊥
read_is_created bytes (Ok ps) e = absurd cc
read_is_created bytes (Err place) e = absurd cc

sound_is_created : (bytes : List ℕ) (o : Option ℕ) → sound_or_damaged bytes o ≡ Uncreated → ⊥
sound_is_created bytes None e = read_is_created bytes (payloads_in bytes) e
sound_is_created bytes (Some place) e = absurd cc

where_free : (short : Bool) → (if short then Uncreated else Occupied) ≡ Uncreated → short ≡ true
where_free true e = refl
where_free false e = absurd cc

where_uncreated : (bytes : List ℕ) (b : Bool) → (if b then sound_or_damaged bytes (head_fault bytes) else free_or_occupied bytes) ≡ Uncreated → (b ≡ false) × (nat_le (length bytes) 43 ≡ true)
where_uncreated bytes true e = absurd (sound_is_created bytes (head_fault bytes) e)
where_uncreated bytes false e = (refl, where_free (nat_le (length bytes) 43) e)

pub uncreated_isnt : (bytes : List ℕ) → framing bytes ≡ Uncreated → is_created bytes ≡ false
unfolding framing
uncreated_isnt bytes e = (where_uncreated bytes (is_created bytes) e).0

pub uncreated_short : (bytes : List ℕ) → framing bytes ≡ Uncreated → length bytes ≤ 43
unfolding framing
uncreated_short bytes e = let short = (where_uncreated bytes (is_created bytes) e).1 in grind (arith, nat_tests)

free_isnt : (short : Bool) (f : File) → (if short then Uncreated else Occupied) ≡ Whole f → ⊥
free_isnt true f e = absurd cc
free_isnt false f e = absurd cc

where_whole : (bytes : List ℕ) (x : Framing) (f : File) (b : Bool) → (if b then x else free_or_occupied bytes) ≡ Whole f → b ≡ true
where_whole bytes x f true e = refl
where_whole bytes x f false e = absurd (free_isnt (nat_le (length bytes) 43) f e)

whole_is_created : (bytes : List ℕ) (f : File) → framing bytes ≡ Whole f → is_created bytes ≡ true
unfolding framing
whole_is_created bytes f e = where_whole bytes (sound_or_damaged bytes (head_fault bytes)) f (is_created bytes) e

-- the file that counts, by what the bytes stand for
new_file_is : (salt : ℕ) (r : Framing) (file : File) → r ≡ Uncreated → opened_alone salt r ≡ Stands A file → file ≡ new_file salt 1 1 []
new_file_is salt Uncreated file none stands = cc
new_file_is salt Occupied file none stands = absurd cc
new_file_is salt (Whole f) file none stands = absurd cc
new_file_is salt (Damaged place) file none stands = absurd cc

same_file_is : (salt : ℕ) (r : Framing) (f file : File) → r ≡ Whole f → opened_alone salt r ≡ Stands A file → file ≡ f
same_file_is salt Uncreated f file whole stands = absurd cc
same_file_is salt Occupied f file whole stands = absurd cc
same_file_is salt (Whole g) f file whole stands = cc
same_file_is salt (Damaged place) f file whole stands = absurd cc

pub file_is : (salt : ℕ) (bytes : List ℕ) (file : File) → is_created bytes ≡ true → opened_alone salt (framing bytes) ≡ Stands A file → framing bytes ≡ Whole file
file_is salt bytes file made stands = by_framing (framing bytes) refl stands
  where
    by_framing : (r : Framing) → framing bytes ≡ r → opened_alone salt r ≡ Stands A file → framing bytes ≡ Whole file
    by_framing Uncreated is e = let isnt : true ≡ false = sym made ∙ uncreated_isnt bytes is in absurd cc
    by_framing Occupied is e = absurd cc
    by_framing (Whole f) is e = let same : f ≡ file = cc in is ∙ ap Whole same
    by_framing (Damaged place) is e = absurd cc

length-new : (salt : ℕ) → length (file_text (new_file salt 1 1 [])) ≡ 42
length-new salt = length-file_text (new_file salt 1 1 [])

no_whole : (bytes : List ℕ) (f : File) → framing bytes ≡ Uncreated → framing bytes ≡ Whole f → ⊥
no_whole bytes f none whole = let both : true ≡ false = sym (whole_is_created bytes f whole) ∙ uncreated_isnt bytes none in absurd cc

pub read_no_file : (bytes : List ℕ) (e : Ending) → framing bytes ≡ Uncreated → e.made ≡ false → e.end ≡ 42 → e.next ≡ 1 → IsRead (at_rest bytes) e
read_no_file bytes e none made end next = record {
  rests = refl;
  text = λ file whole. absurd (no_whole bytes file none whole);
  made = made ∙ sym (uncreated_isnt bytes none);
  short = λ isnt. uncreated_short bytes none;
  inside = λ is. let both : true ≡ false = sym is ∙ made in absurd cc;
  closed = λ is. let both : true ≡ false = sym is ∙ made in absurd cc;
  end = λ salt file stands. end ∙ sym (length-new salt) ∙ ap (λ f. length (file_text f)) (sym (new_file_is salt (framing bytes) file none stands));
  next = λ salt file stands. next ∙ ap (λ f. f.first + length f.payloads) (sym (new_file_is salt (framing bytes) file none stands));
}

-- where a whole file is read there is no other
same_whole : (bytes : List ℕ) (f file : File) → framing bytes ≡ Whole f → framing bytes ≡ Whole file → Spells f bytes → Spells file bytes
same_whole bytes f file is whole spells = let same : f ≡ file = cc in subst (λ g. Spells g bytes) same spells

pub read_file : (bytes : List ℕ) (e : Ending) (f : File) → framing bytes ≡ Whole f → Spells f bytes → e.made ≡ true → e.closed ≡ is_shut e.end bytes → e.end ≡ length (file_text f) → e.next ≡ f.first + length f.payloads → IsRead (at_rest bytes) e
read_file bytes e f whole spells made closed end next = record {
  rests = refl;
  text = λ file is. has_text file bytes (same_whole bytes f file whole is spells);
  made = made ∙ sym (whole_is_created bytes f whole);
  short = λ isnt. let both : true ≡ false = sym made ∙ isnt in absurd cc;
  inside = λ is. omega (arith, end, ap length spells.is, length-append (file_text f) spells.rest);
  closed = λ is. closed;
  end = λ salt file stands. end ∙ ap (λ g. length (file_text g)) (sym (same_file_is salt (framing bytes) f file whole stands));
  next = λ salt file stands. next ∙ ap (λ g. g.first + length g.payloads) (sym (same_file_is salt (framing bytes) f file whole stands));
}

-- where a whole file was read of it
pub read_stand : {J : Type 0} (G : Ghosts J) (bytes : List ℕ) (s : Stand J) (base : List ℕ) (ps : List (List ℕ)) (e : Ending) → IsWholeStand s base ps bytes → IsStand G s base ps → e.made ≡ true → e.closed ≡ s.closed → e.end ≡ s.end → e.next ≡ s.next → IsRead (at_rest bytes) e
read_stand G bytes s base ps e read stand made closed end next =
    read_file bytes e (stand_file s base ps) read.whole read.spells made (closed ∙ read.closed ∙ ap (λ n. is_shut n bytes) (sym end)) (end ∙ stand.end_is) (next ∙ stand.next_is)

-- a disk that was synced and then only read is as its bytes rest
pub rests_synced : (p0 p1 : List Held) (h0 h1 h2 : Held) → Moves p0 h0 p1 h1 (at_rest h0.seen) → h2 ≡ h1 → at_rest h1.seen ≡ h2
rests_synced p0 p1 h0 h1 h2 synced same = ap (λ m. at_rest m.seen) synced.now_is ∙ sym (same ∙ synced.now_is)

-- nothing was written
pub unwritten_same : (p q : List Held) (h k : Held) → q ≡ p → k ≡ h → IsUnwritten p h q k
unwritten_same p q h k same_past same_now = record { seen = ap (λ m. m.seen) same_now; moments = inl (same_past, same_now) }

pub unwritten_synced : (p0 p1 p2 : List Held) (h0 h1 h2 : Held) → Moves p0 h0 p1 h1 (at_rest h0.seen) → p2 ≡ p1 → h2 ≡ h1 → IsUnwritten p0 h0 p2 h2
unwritten_synced p0 p1 p2 h0 h1 h2 synced same_past same_now =
    let now_at : h2 ≡ at_rest h0.seen = same_now ∙ synced.now_is in
    let P : List ℕ → Type 0 = λ image. image ≡ h0.seen in
    record {
      seen = ap (λ m. m.seen) now_at;
      moments = inr (subst (λ p. EachMoment p p2 h2 P) (same_past ∙ synced.past_is) (started p2 h2 P (λ image left. rest_image h0.seen image (subst (λ m. IsImage m image) now_at left))));
    }

-- what a crash may leave of an opening has what was read
module _ (salt : ℕ) (seen : List ℕ) where
  abbrev R : List ℕ → Type 0
  R = MayLeave salt seen (framing seen)

  unchanged : (r : Framing) (image : List ℕ) → framing seen ≡ r → image ≡ seen → MayLeave salt seen r image
  unchanged Uncreated image none is = inl (ap framing is ∙ none)
  unchanged Occupied image other is = is
  unchanged (Whole f) image whole is = inl is
  unchanged (Damaged place) image bad is = is

  pub kept_leaves : (image : List ℕ) → image ≡ seen → R image
  kept_leaves image is = unchanged (framing seen) image refl is

  pub end_leaves : (f : File) → framing seen ≡ Whole f → (image : List ℕ) → (image ≡ seen) ⊎ IsTornEnd f seen image → R image
  end_leaves f whole image left = let P : Framing → Type 0 = λ r. MayLeave salt seen r image in subst P (sym whole) left

  pub new_leaves : framing seen ≡ Uncreated → (image : List ℕ) → IsOldNoneOrNew seen (new_bytes salt 1 1 []) image → R image
  new_leaves none image left = let P : Framing → Type 0 = λ r. MayLeave salt seen r image in subst P (sym none) (by_place left)
    where
      by_place : IsOldNoneOrNew seen (new_bytes salt 1 1 []) image → MayLeave salt seen Uncreated image
      by_place (inl old) = inl (ap framing old ∙ none)
      by_place (inr (inl isnt)) = inl (is_free image isnt.none (omega (arith, isnt.short, uncreated_short seen none, length-append (file_text (new_file salt 1 1 [])) (0 ∷ []), length-new salt)))
      by_place (inr (inr new)) = inr new

-- by closing its end gate
pub closes : (salt : ℕ) (p0 p1 : List Held) (h0 h1 : Held) (f : File) → framing h0.seen ≡ Whole f → EachMoment p0 p1 h1 (λ image. (image ≡ h0.seen) ⊎ IsTornEnd f h0.seen image) → EachMoment p0 p1 h1 (MayLeave salt h0.seen (framing h0.seen))
closes salt p0 p1 h0 h1 f whole run = weaker_moments p0 p1 h1 _ _ (end_leaves salt h0.seen f whole) run

-- or by making a file on a disk at rest, from its first sync on
pub makes : (salt : ℕ) (p0 p1 : List Held) (h0 h1 : Held) → h0 ≡ at_rest h0.seen → framing h0.seen ≡ Uncreated → FromSync p0 h0 p1 h1 (IsOldNoneOrNew h0.seen (new_bytes salt 1 1 [])) → EachMoment p0 p1 h1 (MayLeave salt h0.seen (framing h0.seen))
makes salt p0 p1 h0 h1 at none run =
    weaker_moments p0 p1 h1 _ _ (new_leaves salt h0.seen none) (from_start p0 p1 h0 h1 (IsOldNoneOrNew h0.seen (new_bytes salt 1 1 [])) run (λ image left. inl (rest_image h0.seen image (subst (λ m. IsImage m image) at left))))

pub none_is : (h : Held) (e : Ending) → IsRead h e → e.made ≡ false → framing h.seen ≡ Uncreated
none_is h e read isnt = is_free h.seen (sym read.made ∙ isnt) (read.short isnt)

pub some_is : (salt : ℕ) (h : Held) (e : Ending) (file : File) → IsRead h e → e.made ≡ true → opened_alone salt (framing h.seen) ≡ Stands A file → framing h.seen ≡ Whole file
some_is salt h e file read is stands = file_is salt h.seen file (sym read.made ∙ is) stands

-- the new file rests where the file that counts is to
pub new_rests_there : (salt : ℕ) (h0 h1 : Held) (e : Ending) (file : File) → IsRead h0 e → framing h0.seen ≡ Uncreated → opened_alone salt (framing h0.seen) ≡ Stands A file → salt < 2 ^ 64 → h1 ≡ at_rest (new_bytes salt 1 1 []) → Rests h1 e.end e.next file
new_rests_there salt h0 h1 e file read none stands fits made =
    let is = new_file_is salt (framing h0.seen) file none stands in
    let rests = new_rests h1 salt 1 1 [] fits (omega arith) (omega arith) (omega arith) (omega arith) (omega arith) made in
    record {
      tail = [];
      held_is = made ∙ ap (λ f. at_rest (file_text f ++ 0 ∷ [])) (sym is);
      end_is = read.end salt file stands;
      next_is = read.next salt file stands;
      within = subst IsWithin (sym is) rests.within;
    }

pub room_there : (h : Held) (end next : ℕ) (file : File) → Rests h end next file → end + 1 ≤ h.least
room_there h end next file rests =
    let least : h.least ≡ length (file_text file ++ 0 ∷ rests.tail) = ap (λ m. m.least) rests.held_is in
    omega (arith, least, rests.end_is, length-append (file_text file) (0 ∷ rests.tail))

-- what a crash left while a first file was made
pub new_reads : (salt : ℕ) (a x : List ℕ) → salt < 2 ^ 64 → framing a ≡ Uncreated → MayLeave salt a (framing a) x → (framing x ≡ Uncreated) ⊎ (framing x ≡ Whole (new_file salt 1 1 []))
new_reads salt a x fits none left =
    let P : Framing → Type 0 = λ r. MayLeave salt a r x in
    by_place (subst P none left)
  where
    by_place : (framing x ≡ Uncreated) ⊎ (x ≡ new_bytes salt 1 1 []) → (framing x ≡ Uncreated) ⊎ (framing x ≡ Whole (new_file salt 1 1 []))
    by_place (inl still) = inl still
    by_place (inr new) =
        let rests = new_rests (at_rest (file_text (new_file salt 1 1 []) ++ 0 ∷ [])) salt 1 1 [] fits (omega arith) (omega arith) (omega arith) (omega arith) (omega arith) refl in
        inr (ap framing new ∙ reads_closed (new_file salt 1 1 []) 0 [] rests.within (omega arith))

-- it is opened as a new one
pub new_found : (salt : ℕ) (a x : List ℕ) → salt < 2 ^ 64 → framing a ≡ Uncreated → MayLeave salt a (framing a) x → opened_alone salt (framing x) ≡ Stands A (new_file salt 1 1 [])
new_found salt a x fits none left = elim (new_reads salt a x fits none left) [
  | inl still ↦ ap (opened_alone salt) still
  | inr new ↦ ap (opened_alone salt) new
]
