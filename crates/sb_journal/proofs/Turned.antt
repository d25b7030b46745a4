-- What a crash left while a journal went on with the next file is found as one of both, and stays so.
use Rattle.std.proofs.Common.{◌≡◌, ◌⊎◌, inl, inr, ℕ, ◌<◌, List, [], ◌∷◌, ◌++◌, drop, refl, sym, ◌∙◌, ap, subst, arith}
use Rattle.std.specs.Prelude.{Bool, slice_index, true, false, nat_lt, ◌||◌}
use Rattle.std.proofs.lemmas.Bool.{cases_eq}
use Rattle.sb_outside.specs.Held.{Held, IsImage, at_rest}
use Rattle.sb_outside.specs.declared.disk.Disk.{Ghosts}
use Rattle.sb_journal.specs.declared.choosing.Choice.{Choice}
use Rattle.sb_journal.specs.declared.choosing.Choice.TheVariants.{Counts}
use Rattle.sb_journal.specs.declared.found.Side.{Side}
use Rattle.sb_journal.specs.declared.found.Side.TheVariants.{A, B}
use Rattle.sb_journal.specs.Text.{File, file_text, IsWithin}
use Rattle.sb_journal.specs.Framing.{Whole, framing, is_created}
use Rattle.sb_journal.specs.Choosing.{sided, turned, chosen, is_unshut}
use Rattle.sb_journal.specs.Opened.{FindsOldOrNext}
use Rattle.sb_journal.specs.Crashes.{IsShutFile, IsShutOrGated, MayLeave, MayShut, LeavesOf, LeavesFound}
use Rattle.sb_journal.specs.Moments.{EachMoment}
use Rattle.sb_journal.specs.Disks.{Disks, halfway, EachPair, EachStretch}
use Rattle.sb_journal.specs.Turned.{behind_gate, IsTurned, IsTurnedPair}
use Rattle.sb_journal.proofs.Choices.{counts_here, later_a, later_b, not_created}
use Rattle.sb_journal.proofs.Heads.{reads_closed}
use Rattle.sb_journal.proofs.Images.{rest_image}
use Rattle.sb_journal.proofs.Kept.{left_of}
use Rattle.sb_journal.proofs.Pairs.{both, each_here, pair_here, started_pair, weaker_pair}
use Rattle.sb_journal.proofs.Turning.{opening, closing, gate_shut, pair_other}
use Rattle.sb_journal.proofs.Wholes.{headed_whole, whole_created}

whole_text : (f : File) (tail : List ℕ) → 1 ∷ behind_gate f tail ≡ file_text f ++ 0 ∷ tail
unfolding file_text
whole_text f tail = refl

reads_text : (f : File) (tail bytes : List ℕ) → IsWithin f → bytes ≡ 1 ∷ behind_gate f tail → framing bytes ≡ Whole f
reads_text f tail bytes within is = ap framing (is ∙ whole_text f tail) ∙ reads_closed f 0 tail within (omega arith)

-- a whole file with a closed end gate stays
whole_stays : (salt : ℕ) (f : File) (tail seen bytes : List ℕ) → IsWithin f → seen ≡ 1 ∷ behind_gate f tail → MayLeave salt seen (framing seen) bytes → bytes ≡ seen
whole_stays salt f tail seen bytes within is left = elim (left_of salt seen bytes f (reads_text f tail seen within is) left) [
  | inl same ↦ same
  | inr torn ↦ absurd (torn.torn tail (is ∙ whole_text f tail))
]

shut_stays : (was bytes : List ℕ) → is_unshut was ≡ false → MayShut was bytes → bytes ≡ was
shut_stays was bytes shut (inl same) = same
shut_stays was bytes shut (inr unshut) = absurd (let both : true ≡ false = sym unshut.0 ∙ shut in cc)

-- ---- by sides

counting : (salt : ℕ) (side : Side) (was bytes : List ℕ) → LeavesOf salt (Counts side) side was bytes → MayLeave salt was (framing was) bytes
counting salt A was bytes left = left
counting salt B was bytes left = left

beside : (salt : ℕ) (side : Side) (was bytes : List ℕ) → LeavesOf salt (Counts side) (turned side) was bytes → MayShut was bytes
beside salt A was bytes left = left
beside salt B was bytes left = left

before : (salt : ℕ) (side : Side) (was bytes : List ℕ) → LeavesOf salt (Counts (turned side)) side was bytes → MayShut was bytes
before salt A was bytes left = left
before salt B was bytes left = left

counts_next : (side : Side) (f g : File) (x y : List ℕ) → framing x ≡ Whole f → framing y ≡ Whole g → f.generation < g.generation → chosen (sided side x y) (sided side y x) ≡ Counts (turned side)
counts_next A f g x y on_x on_y low = later_b f.generation g.generation x y (headed_whole x f on_x) (headed_whole y g on_y) low
counts_next B f g x y on_x on_y low = later_a g.generation f.generation y x (headed_whole y g on_y) (headed_whole x f on_x) low

counts_there : (side : Side) (g : File) (x y : List ℕ) → framing y ≡ Whole g → is_created x ≡ false → chosen (sided side x y) (sided side y x) ≡ Counts (turned side)
counts_there A g x y on_y isnt = counts_here B g.generation y x (headed_whole y g on_y) isnt
counts_there B g x y on_y isnt = counts_here A g.generation y x (headed_whole y g on_y) isnt

module _ (salt : ℕ) (side : Side) (f g : File) (x y x_1 y_1 : List ℕ) (t : IsTurned f g x y)
    (left_x : LeavesOf salt (chosen (sided side x y) (sided side y x)) side x x_1) (left_y : LeavesOf salt (chosen (sided side x y) (sided side y x)) (turned side) y y_1) where
  abbrev Stands : List ℕ → List ℕ → Type 0
  Stands here there = (IsShutFile f here × IsShutOrGated (behind_gate g []) there) ⊎ ((there ≡ 1 ∷ behind_gate g []) × (gate : ℕ) × (tail : List ℕ) × (here ≡ gate ∷ behind_gate f tail))

  -- the file counts
  module _ (counts : chosen (sided side x y) (sided side y x) ≡ Counts side) where
    first_x : MayLeave salt x (framing x) x_1
    first_x = counting salt side x x_1 (subst (λ (ch : Choice). LeavesOf salt ch side x x_1) counts left_x)

    first_y : MayShut y y_1
    first_y = beside salt side y y_1 (subst (λ (ch : Choice). LeavesOf salt ch (turned side) y y_1) counts left_y)

  -- the next one counts
  module _ (counts : chosen (sided side x y) (sided side y x) ≡ Counts (turned side)) where
    next_x : MayShut x x_1
    next_x = before salt side x x_1 (subst (λ (ch : Choice). LeavesOf salt ch side x x_1) counts left_x)

    next_y : MayLeave salt y (framing y) y_1
    next_y = counting salt (turned side) y y_1 (subst (λ (ch : Choice). LeavesOf salt ch (turned side) y y_1) counts left_y)

  same_x : (tail : List ℕ) → x ≡ 1 ∷ behind_gate f tail → x_1 ≡ x → IsShutFile f x_1
  same_x tail is same = (tail, same ∙ is ∙ whole_text f tail)

  -- the next one stands, and the file behind any gate
  next_stands : (gate : ℕ) (tail : List ℕ) → x ≡ gate ∷ behind_gate f tail → y ≡ 1 ∷ behind_gate g [] → chosen (sided side x y) (sided side y x) ≡ Counts (turned side) → Stands x_1 y_1
  next_stands gate tail is there counts =
      let same_y : y_1 ≡ y = whole_stays salt g [] y y_1 t.within_next there (next_y counts) in
      elim (next_x counts) [
        | inl same ↦ inr (same_y ∙ there, gate, tail, same ∙ is)
        | inr shut ↦ inr (same_y ∙ there, shut.1, tail, shut.2 ∙ ap (λ (l : List ℕ). shut.1 ∷ drop 1 l) is)
      ]

  stays_by : Stands x y → Stands x_1 y_1
  stays_by (inl first) = by_there first.1
    where
      is_x : x ≡ 1 ∷ behind_gate f first.0.0
      is_x = first.0.1 ∙ sym (whole_text f first.0.0)

      counts_x : is_created y ≡ false → chosen (sided side x y) (sided side y x) ≡ Counts side
      counts_x isnt = counts_here side f.generation x y (headed_whole x f (reads_text f first.0.0 x t.within is_x)) isnt

      stays_x : chosen (sided side x y) (sided side y x) ≡ Counts side → IsShutFile f x_1
      stays_x counts = same_x first.0.0 is_x (whole_stays salt f first.0.0 x x_1 t.within is_x (first_x counts))

      by_there : IsShutOrGated (behind_gate g []) y → Stands x_1 y_1
      by_there (inl shut) =
          let counts = counts_x (not_created y shut) in
          inl (stays_x counts, inl (ap is_unshut (shut_stays y y_1 shut (first_y counts)) ∙ shut))
      by_there (inr gated) = elim (cases_eq gated.0 1) [
        | inl one ↦
            let there : y ≡ 1 ∷ behind_gate g [] = gated.1 ∙ ap (λ n. n ∷ behind_gate g []) one in
            next_stands 1 first.0.0 is_x there (counts_next side f g x y (reads_text f first.0.0 x t.within is_x) (reads_text g [] y t.within_next there) t.later)
        | inr off ↦
            let counts = counts_x (gate_shut gated.0 y (behind_gate g []) gated.1 off) in
            inl (
              stays_x counts,
              inr (elim (first_y counts) [
                | inl same ↦ (gated.0, same ∙ gated.1)
                | inr shut ↦ (shut.1, shut.2 ∙ ap (λ (l : List ℕ). shut.1 ∷ drop 1 l) gated.1)
              ]),
            )
      ]
  stays_by (inr next) =
      let there = next.0 in
      let whole = reads_text g [] y t.within_next there in
      elim (cases_eq next.1 1) [
        | inl one ↦ next_stands next.1 next.2 next.3 there (counts_next side f g x y (reads_text f next.2 x t.within (next.3 ∙ ap (λ n. n ∷ behind_gate f next.2) one)) whole t.later)
        | inr off ↦ next_stands next.1 next.2 next.3 there (counts_there side g x y whole (gate_shut next.1 x (behind_gate f next.2) next.3 off))
      ]

  turned_stays : IsTurned f g x_1 y_1
  turned_stays = record { within = t.within; within_next = t.within_next; later = t.later; stands = stays_by t.stands }

pub turned_kept : (salt : ℕ) (file next : File) (a b x y : List ℕ) → IsTurnedPair file next a b → LeavesFound salt a b x y → IsTurnedPair file next x y
turned_kept salt file next a b x y (inl t) left = inl (turned_stays salt A file next a b x y t left.0 left.1)
turned_kept salt file next a b x y (inr t) left = inr (turned_stays salt B file next b a y x t left.1 left.0)

-- ---- what is found

here_found : (side : Side) (f g : File) (x y : List ℕ) → IsTurned f g x y → FindsOldOrNext f g (sided side x y) (sided side y x)
here_found side f g x y t = by_stands t.stands
  where
    whole_g : framing (1 ∷ behind_gate g []) ≡ Whole g
    whole_g = reads_text g [] (1 ∷ behind_gate g []) t.within_next refl

    by_stands : (IsShutFile f x × IsShutOrGated (behind_gate g []) y) ⊎ ((y ≡ 1 ∷ behind_gate g []) × (gate : ℕ) × (tail : List ℕ) × (x ≡ gate ∷ behind_gate f tail)) → FindsOldOrNext f g (sided side x y) (sided side y x)
    by_stands (inl first) = opening f g side t.later (behind_gate g []) whole_g x y (ap framing first.0.1 ∙ reads_closed f 0 first.0.0 t.within (omega arith)) first.1
    by_stands (inr next) =
        let seen = 1 ∷ behind_gate f next.2 in
        let whole = reads_text f next.2 seen t.within refl in
        closing f g side t.later (behind_gate g []) whole_g seen x y whole refl (inr (ap (λ (b : Bool). b || nat_lt 1 (slice_index seen 0)) (whole_created seen f whole), next.1, next.3)) next.0

pub turned_found : (file next : File) (a b : List ℕ) → IsTurnedPair file next a b → FindsOldOrNext file next a b
turned_found file next a b (inl t) = here_found A file next a b t
turned_found file next a b (inr t) = here_found B file next b a t

-- ---- both disks while it goes on

pair_of : (side : Side) (f g : File) (x y : List ℕ) → IsTurned f g x y → IsTurnedPair f g (sided side x y) (sided side y x)
pair_of A f g x y t = inl t
pair_of B f g x y t = inr t

module _ {D : Type 0} (G : Ghosts D) where
  halfway_is : (side : Side) (c o0 c1 o1 : D) → halfway side (both G side c o0) (both G side c1 o1) ≡ both G side c o1
  halfway_is A c o0 c1 o1 = refl
  halfway_is B c o0 c1 o1 = refl

  stretch_by : (side : Side) (c o0 c1 o1 : D) (P : List ℕ → List ℕ → Type 0) → EachPair (both G side c o0) (both G side c o1) P → EachPair (both G side c o1) (both G side c1 o1) P → EachStretch side (both G side c o0) (both G side c1 o1) P
  stretch_by side c o0 c1 o1 P first second = (
    subst (λ (d : Disks). EachPair (both G side c o0) d P) (sym (halfway_is side c o0 c1 o1)) first,
    subst (λ (d : Disks). EachPair d (both G side c1 o1) P) (sym (halfway_is side c o0 c1 o1)) second,
  )

  module _ (side : Side) (c o0 o1 : D) (f g : File) (within : IsWithin f) (within_g : IsWithin g) (low : f.generation < g.generation) (all : List ℕ) (all_is : all ≡ behind_gate g [])
      (leaves : (x : List ℕ) → IsImage (G.held c) x → IsShutFile f x) (run : EachMoment (G.past o0) (G.past o1) (G.held o1) (IsShutOrGated all)) where
    abbrev P : List ℕ → List ℕ → Type 0
    P = IsTurnedPair f g

    opened_there : (x y : List ℕ) → IsImage (G.held c) x → IsShutOrGated all y → P (sided side x y) (sided side y x)
    opened_there x y left gated = pair_of side f g x y (record { within = within; within_next = within_g; later = low; stands = inl (leaves x left, subst (λ (l : List ℕ). IsShutOrGated l y) all_is gated) })

    opens : EachPair (both G side c o0) (both G side c o1) P
    opens = pair_other G side c o0 o1 (IsShutOrGated all) P opened_there run

    -- the next one's gate wasn't opened, or not safely
    pub one_stretch : EachStretch side (both G side c o0) (both G side c o1) P
    one_stretch = stretch_by side c o0 c o1 P opens (started_pair (both G side c o1) P (each_here G side c o1 P (λ x y on_x on_y. opened_there x y on_x (run.present y on_y))))

    -- it was
    pub two_stretches : (c1 : D) (seen tail : List ℕ) → seen ≡ file_text f ++ 0 ∷ tail → G.held o1 ≡ at_rest (1 ∷ all) → EachMoment (G.past c) (G.past c1) (G.held c1) (MayShut seen) → EachStretch side (both G side c o0) (both G side c1 o1) P
    two_stretches c1 seen tail is at closed = stretch_by side c o0 c1 o1 P opens (pair_here G side c c1 o1 (MayShut seen) P closed_here closed)
      where
        gated : (x : List ℕ) → MayShut seen x → (gate : ℕ) × (rest : List ℕ) × (x ≡ gate ∷ behind_gate f rest)
        gated x (inl same) = (1, tail, same ∙ is ∙ sym (whole_text f tail))
        gated x (inr shut) = (shut.1, tail, shut.2 ∙ ap (λ (l : List ℕ). shut.1 ∷ drop 1 l) is)

        closed_here : (x y : List ℕ) → MayShut seen x → IsImage (G.held o1) y → P (sided side x y) (sided side y x)
        closed_here x y shut left =
            let there : y ≡ 1 ∷ behind_gate g [] = rest_image (1 ∷ all) y (subst (λ (h : Held). IsImage h y) at left) ∙ ap (λ (l : List ℕ). 1 ∷ l) all_is in
            let behind = gated x shut in
            pair_of side f g x y (record { within = within; within_next = within_g; later = low; stands = inr (there, behind.0, behind.1, behind.2) })

-- found in each
pub found_stretch : (side : Side) (was later : Disks) (f g : File) → EachStretch side was later (IsTurnedPair f g) → EachStretch side was later (FindsOldOrNext f g)
found_stretch side was later f g run = (
  weaker_pair was (halfway side was later) (IsTurnedPair f g) (FindsOldOrNext f g) (turned_found f g) run.0,
  weaker_pair (halfway side was later) later (IsTurnedPair f g) (FindsOldOrNext f g) (turned_found f g) run.1,
)
