-- Both disks while a journal goes on with a file on the other one.
use Rattle.std.proofs.Common.{◌≡◌, inl, inr, ℕ, ◌+◌, ◌<◌, List, [], ◌∷◌, ◌++◌, length, drop, refl, sym, ◌∙◌, ap, subst, arith, append_assoc, length-append}
use Rattle.std.specs.Prelude.{Bool, slice_index, true, false, ◌||◌, nat_lt}
use Rattle.std.proofs.lemmas.Bool.{cases_eq}
use Rattle.sb_outside.specs.Causes.{RoseByOne}
use Rattle.sb_outside.specs.Held.{Held, IsImage, at_rest}
use Rattle.sb_outside.specs.declared.disk.Disk.{Ghosts}
use Rattle.sb_journal.specs.declared.found.Side.{Side}
use Rattle.sb_journal.specs.declared.found.Side.TheVariants.{A, B as Other}
use Rattle.sb_journal.specs.declared.journal.Journal.{Journal}
use Rattle.sb_journal.specs.declared.rotating.NextFile.{NextFile}
use Rattle.sb_journal.specs.Text.{File, IsWithin, head, file_text, new_file, new_bytes, next_file}
use Rattle.sb_journal.specs.Framing.{Whole, framing, is_created}
use Rattle.sb_journal.specs.Choosing.{sided, turned, is_unshut}
use Rattle.sb_journal.specs.Opened.{FindsFile, FindsOldOrNext}
use Rattle.sb_journal.specs.Turned.{behind_gate}
use Rattle.sb_journal.specs.Crashes.{IsShutFile, Rests, IsShutOrGated, MayShut}
use Rattle.sb_journal.specs.Moments.{EachMoment}
use Rattle.sb_journal.specs.Disks.{on_side, EachPair, OneFault}
use Rattle.sb_journal.specs.Journals.{base_left, HoldsFile, HoldsNext}
use Rattle.sb_journal.proofs.Filling.{IsNone}
use Rattle.sb_journal.proofs.Foreign.{greater_found}
use Rattle.sb_journal.proofs.Heads.{new_rests, length-head}
use Rattle.sb_journal.proofs.Making.{opened_text}
use Rattle.sb_journal.proofs.Moments.{started, weaker_moments}
use Rattle.sb_journal.proofs.Pairs.{both, finds_beside, finds_here}
use Rattle.sb_journal.proofs.Staging.{shut_of, stages_keep, stages_leave, stages_read}
use Rattle.sb_journal.proofs.Wholes.{test_closed, whole_created}

-- ---- which file is found

next_found : (f g : File) (side : Side) (x y : List ℕ) → framing x ≡ Whole f → framing y ≡ Whole g → f.generation < g.generation → FindsFile g (sided side x y) (sided side y x)
next_found f g A x y on_x on_y low = λ salt. (Other, (greater_found salt f g x y on_x on_y low).0)
next_found f g Other x y on_x on_y low = λ salt. (A, (greater_found salt f g x y on_x on_y low).1)

beside_turned : (g : File) (side : Side) (x y : List ℕ) → framing y ≡ Whole g → is_created x ≡ false → FindsFile g (sided side x y) (sided side y x)
beside_turned g A x y on_y isnt = finds_beside g Other y x on_y isnt
beside_turned g Other x y on_y isnt = finds_beside g A y x on_y isnt

pub gate_shut : (gate : ℕ) (bytes rest : List ℕ) → bytes ≡ gate ∷ rest → (gate ≡ 1 → ⊥) → is_created bytes ≡ false
gate_shut gate bytes rest is off = test_closed bytes (λ one. off (sym (ap (λ (l : List ℕ). slice_index l 0) is) ∙ one))

module _ (f g : File) (side : Side) (low : f.generation < g.generation) (all : List ℕ) (whole_g : framing (1 ∷ all) ≡ Whole g) where
  -- the new one's gate is being opened
  pub opening : (x y : List ℕ) → framing x ≡ Whole f → IsShutOrGated all y → FindsOldOrNext f g (sided side x y) (sided side y x)
  opening x y whole (inl shut) = inl (finds_here f side x y whole shut)
  opening x y whole (inr gated) = elim (cases_eq gated.0 1) [
    | inl one ↦ inr (next_found f g side x y whole (ap framing (gated.1 ∙ ap (λ n. n ∷ all) one) ∙ whole_g) low)
    | inr off ↦ inl (finds_beside f side x y whole (gate_shut gated.0 y all gated.1 off))
  ]

  -- the old one's gate is being closed
  pub closing : (seen x y : List ℕ) → framing seen ≡ Whole f → 1 ∷ drop 1 seen ≡ seen → MayShut seen x → y ≡ 1 ∷ all → FindsOldOrNext f g (sided side x y) (sided side y x)
  closing seen x y whole first (inl same) is = inr (next_found f g side x y (ap framing same ∙ whole) (ap framing is ∙ whole_g) low)
  closing seen x y whole first (inr shut) is = elim (cases_eq shut.1 1) [
    | inl one ↦ inr (next_found f g side x y (ap framing (shut.2 ∙ ap (λ n. n ∷ drop 1 seen) one ∙ first) ∙ whole) (ap framing is ∙ whole_g) low)
    | inr off ↦ inr (beside_turned g side x y (ap framing is ∙ whole_g) (gate_shut shut.1 x (drop 1 seen) shut.2 off))
  ]

-- ---- sides

module _ {D : Type 0} (G : Ghosts D) where
  both_turned : (side : Side) (c o : D) → both G (turned side) o c ≡ both G side c o
  both_turned A c o = refl
  both_turned Other c o = refl

  -- the two changed places
  pub turned_disks : (side s : Side) (c o cur oth : D) → s ≡ turned side → cur ≡ o → oth ≡ c → both G s cur oth ≡ both G side c o
  turned_disks side s c o cur oth is on_cur on_oth =
      ap (λ (t : Side). both G t cur oth) is
      ∙ ap (λ (d : D). both G (turned side) d oth) on_cur
      ∙ ap (λ (d : D). both G (turned side) o d) on_oth
      ∙ both_turned side c o

  pub same_there : (side : Side) (c o o1 : D) → on_side side (both G side c o1) ≡ on_side side (both G side c o)
  same_there A c o o1 = refl
  same_there Other c o o1 = refl

  pub other_fault_of : (side : Side) (c o o1 : D) (n : ℕ) → n ≡ G.count o1 → RoseByOne (G.count o) (G.count o1) → OneFault (both G side c o) (both G side c o1) n
  other_fault_of A c o o1 n is rose = inr (is, rose, refl)
  other_fault_of Other c o o1 n is rose = inl (is, rose, refl)

  pub current_fault_of : (side : Side) (c o c1 o1 : D) → RoseByOne (G.count c) (G.count c1) → G.count o1 ≡ G.count o → OneFault (both G side c o) (both G side c1 o1) (G.count c1)
  current_fault_of A c o c1 o1 rose same = inl (refl, rose, same)
  current_fault_of Other c o c1 o1 rose same = inr (refl, rose, same)

  -- what is said of the other at each moment is said of both
  pub pair_other : (side : Side) (c o0 o1 : D) (Q : List ℕ → Type 0) (P : List ℕ → List ℕ → Type 0) → ((x y : List ℕ) → IsImage (G.held c) x → Q y → P (sided side x y) (sided side y x))
      → EachMoment (G.past o0) (G.past o1) (G.held o1) Q → EachPair (both G side c o0) (both G side c o1) P
  pair_other A c o0 o1 Q P joined run =
      started (G.past c) (G.held c) (λ x. EachMoment (G.past o0) (G.past o1) (G.held o1) (λ y. P x y))
      (λ x left. weaker_moments (G.past o0) (G.past o1) (G.held o1) Q (λ y. P x y) (λ y q. joined x y left q) run)
  pair_other Other c o0 o1 Q P joined run =
      weaker_moments (G.past o0) (G.past o1) (G.held o1) Q (λ x. EachMoment (G.past c) (G.past c) (G.held c) (λ y. P x y))
      (λ x q. started (G.past c) (G.held c) (λ y. P x y) (λ y left. joined y x left q)) run

  -- nothing is made to count there
  pub filling_pair : (side : Side) (c o0 o1 : D) (f : File) → ((x : List ℕ) → IsImage (G.held c) x → framing x ≡ Whole f) → EachMoment (G.past o0) (G.past o1) (G.held o1) IsNone → EachPair (both G side c o0) (both G side c o1) (FindsFile f)
  filling_pair side c o0 o1 f leaves run = pair_other side c o0 o1 IsNone (FindsFile f) (λ x y left isnt. finds_beside f side x y (leaves x left) isnt) run

-- ---- the file that was recorded on

-- all of it is safe, and its gate is open
pub record StandsOpen (h : Held) (file : File) : Type 0 where
  pub rest : h ≡ at_rest h.seen
  pub whole : framing h.seen ≡ Whole file
  pub tail : List ℕ
  pub is : h.seen ≡ file_text file ++ 0 ∷ tail
  pub unshut : true ≡ is_unshut h.seen

none_written : (w kept : List ℕ) → [] ≡ w ++ kept → w ≡ []
none_written [] kept is = refl
none_written (x ∷ w) kept is = absurd cc

pub stands_open : {D : Type 0} {B : Ghosts D} (j : Journal D B) (file : File) → HoldsFile j file → StandsOpen (B.held j.current) file
stands_open {D} {B} j file holds =
    let seen = (B.held j.current).seen in
    let whole : framing seen ≡ Whole file = stages_read (B.held j.current) j.end j.next file holds.written holds.stages in
    record {
      rest = holds.stages.fresh (none_written holds.written j.buffer.items holds.bytes);
      whole = whole;
      tail = holds.written ++ drop (length holds.written) holds.stages.tail;
      is = holds.stages.seen_is;
      unshut = sym (ap (λ (b : Bool). b || nat_lt 1 (slice_index seen 0)) (whole_created seen file whole));
    }

-- ---- the file that is gone on with

next_text : (salt generation first n : ℕ) (base : List ℕ) → n ≡ length base → 1 ∷ ((head salt generation first n ++ base) ++ 0 ∷ []) ≡ new_bytes salt generation first base
next_text salt generation first n base is =
    ap (λ (l : List ℕ). 1 ∷ l) (append_assoc (head salt generation first n) base (0 ∷ []))
    ∙ ap (λ k. 1 ∷ (head salt generation first k ++ (base ++ 0 ∷ []))) is
    ∙ opened_text salt generation first base

module _ {D : Type 0} {B : Ghosts D} (j : Journal D B) (n : NextFile) (file : File) (base : List ℕ) (holds : HoldsNext j n file base) where
  abbrev pub NextText : List ℕ
  NextText = head file.salt n.generation n.first n.base_length ++ base

  pub next_place : n.end ≡ 1 + length NextText
  next_place = let end_is = holds.end_is in omega (arith, end_is, length-append (head file.salt n.generation n.first n.base_length) base, length-head file.salt n.generation n.first n.base_length)

  pub next_shut : (x : List ℕ) → IsImage (B.held j.current) x → IsShutFile file x
  next_shut x left = shut_of file (B.held j.current) x (stages_keep (B.held j.current) j.end j.next file holds.holds.written holds.holds.stages) left

  pub next_leaves : (x : List ℕ) → IsImage (B.held j.current) x → framing x ≡ Whole file
  next_leaves x left = stages_leave (B.held j.current) j.end j.next file holds.holds.written holds.holds.stages x left

  module _ (left : base_left n ≡ 0) where
    all_written : n.base_length ≡ length base
    all_written = let fits = n.end_greatest in let end_is = holds.end_is in omega (arith, left, fits, end_is)

    pub next_rests : (h : Held) → h ≡ at_rest (1 ∷ (NextText ++ 0 ∷ [])) → Rests h n.end n.first (next_file file n.first base)
    next_rests h is =
        let at = is ∙ ap at_rest (next_text file.salt n.generation n.first n.base_length base all_written) in
        let fits = n.fits in
        let rests = new_rests h file.salt n.generation n.first base holds.holds.stages.within.salt (omega (arith, fits, all_written)) n.generation_least n.generation_greatest n.first_least n.first_greatest at in
        let by_place = subst (λ k. Rests h k n.first (new_file file.salt n.generation n.first base)) (sym holds.end_is) rests in
        subst (λ k. Rests h n.end n.first (new_file file.salt k n.first base)) holds.generation_is by_place

    pub next_behind : NextText ++ 0 ∷ [] ≡ behind_gate (next_file file n.first base) []
    next_behind =
        ap (drop 1) (next_text file.salt n.generation n.first n.base_length base all_written)
        ∙ ap (λ k. drop 1 (new_bytes file.salt k n.first base)) holds.generation_is

    pub next_within : IsWithin (next_file file n.first base)
    next_within = (next_rests (at_rest (1 ∷ (NextText ++ 0 ∷ []))) refl).within
