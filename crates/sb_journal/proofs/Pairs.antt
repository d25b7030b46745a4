-- What is said of both disks, by what is said of the one that counts and of the other.
use Rattle.std.proofs.Common.{◌≡◌, inl, inr, ℕ, ◌≤◌, List, [], ◌∷◌, ◌++◌, drop, refl, sym, ◌∙◌, ap, subst, arith}
use Rattle.std.specs.Prelude.{IsTrue, length, slice_index, false}
use Rattle.sb_outside.specs.Causes.{RoseByOne}
use Rattle.sb_outside.specs.Held.{Held, IsImage, Moves, at_rest}
use Rattle.sb_outside.specs.declared.disk.Disk.{Ghosts}
use Rattle.sb_journal.specs.declared.choosing.Choice.{Choice}
use Rattle.sb_journal.specs.declared.choosing.Choice.TheVariants.{Counts, Hurt}
use Rattle.sb_journal.specs.declared.found.Side.{Side}
use Rattle.sb_journal.specs.declared.found.Side.TheVariants.{A, B}
use Rattle.sb_journal.specs.Text.{File, with_payloads}
use Rattle.sb_journal.specs.Framing.{Framing, Uncreated, Occupied, Whole, Damaged, framing, is_created}
use Rattle.sb_journal.specs.Choosing.{sided, turned, chosen, is_unshut}
use Rattle.sb_journal.specs.Opened.{Stands, opened, opened_alone, opened_by, placed, FindsFile, FindsNoneOrAll}
use Rattle.sb_journal.specs.Crashes.{IsSameFrom, IsShutFile, IsTornGroup, IsShutPair, IsTornPair, MayLeave, MayShut, LeavesOf}
use Rattle.sb_journal.specs.Moments.{EachMoment, FromSync, IsUnwritten}
use Rattle.sb_journal.specs.Disks.{Disks, OneDisk, disk_of, disks_of, on_side, opened_on, EachImage, EachPair, KeepsOn, KeepsAside, KeepFound, Finishes, AreHonest, AreStill, AreSynced, AreUnwritten, StaysBehind, AreQuiet, OneFault, HaveFailed, NoneFell, SameHonesty}
use Rattle.sb_journal.proofs.Adding.{torn_read}
use Rattle.sb_journal.proofs.Choices.{counts_here, counts_b_made, not_created}
use Rattle.sb_journal.proofs.Finishing.{kept_leaves}
use Rattle.sb_journal.proofs.Moments.{started, runs_on, weaker_moments}
use Rattle.sb_journal.proofs.Wholes.{headed_whole}

pub one_fault : (was later : Disks) → RoseByOne was.a.faults later.a.faults → later.b.faults ≡ was.b.faults → HaveFailed was later
one_fault was later rose same = (later.a.faults, inl (refl, rose, same))

pub other_fault : (was later : Disks) → RoseByOne was.b.faults later.b.faults → later.a.faults ≡ was.a.faults → HaveFailed was later
other_fault was later rose same = (later.b.faults, inr (refl, rose, same))

pub weaker_pair : (was later : Disks) (P Q : List ℕ → List ℕ → Type 0) → ((x y : List ℕ) → P x y → Q x y) → EachPair was later P → EachPair was later Q
weaker_pair was later P Q weaker run =
    weaker_moments was.a.past later.a.past later.a.held (λ x. EachMoment was.b.past later.b.past later.b.held (λ y. P x y)) (λ x. EachMoment was.b.past later.b.past later.b.held (λ y. Q x y))
    (λ x on_b. weaker_moments was.b.past later.b.past later.b.held (λ y. P x y) (λ y. Q x y) (λ y. weaker x y) on_b)
    run

-- before the first call
pub started_pair : (disks : Disks) (P : List ℕ → List ℕ → Type 0) → EachImage disks P → EachPair disks disks P
started_pair disks P each =
    started disks.a.past disks.a.held (λ x. EachMoment disks.b.past disks.b.past disks.b.held (λ y. P x y))
    (λ x on_x. started disks.b.past disks.b.held (λ y. P x y) (λ y on_y. each x y on_x on_y))

-- ---- sides

pub sided_twice : {X : Type 0} (side : Side) (x y : X) → sided side (sided side x y) (sided side y x) ≡ x
sided_twice A x y = refl
sided_twice B x y = refl

pub turned_twice : (side : Side) → turned (turned side) ≡ side
turned_twice A = refl
turned_twice B = refl

-- what is read on a side
pub seen_on : (side : Side) (disks : Disks) → sided side disks.a.held.seen disks.b.held.seen ≡ (on_side side disks).held.seen
seen_on A disks = refl
seen_on B disks = refl

pub on_both : {X : Type 0} (P : X → Type 0) (side : Side) (x y : X) → P x → P y → P (sided side x y)
on_both P A x y on_x on_y = on_x
on_both P B x y on_x on_y = on_y

-- ---- which file counts

pub opened_counts : (salt : ℕ) (a b : List ℕ) (side : Side) → chosen a b ≡ Counts side → opened a b salt ≡ placed side (opened_alone salt (framing (sided side a b)))
opened_counts salt a b side counts = ap (opened_by salt a b) counts

-- beside no file
pub finds_beside : (f : File) (side : Side) (x y : List ℕ) → framing x ≡ Whole f → is_created y ≡ false → FindsFile f (sided side x y) (sided side y x)
finds_beside f side x y whole isnt salt = (
  side,
  opened_counts salt (sided side x y) (sided side y x) side (counts_here side f.generation x y (headed_whole x f whole) isnt)
      ∙ ap (λ (l : List ℕ). placed side (opened_alone salt (framing l))) (sided_twice side x y)
      ∙ ap (λ (r : Framing). placed side (opened_alone salt r)) whole,
)

pub finds_here : (f : File) (side : Side) (x y : List ℕ) → framing x ≡ Whole f → is_unshut y ≡ false → FindsFile f (sided side x y) (sided side y x)
finds_here f side x y whole shut = finds_beside f side x y whole (not_created y shut)

shut_here : (f : File) (side : Side) (x y : List ℕ) → IsShutFile f x → is_unshut y ≡ false → IsShutPair f (sided side x y) (sided side y x)
shut_here f A x y stands shut = inl (stands, shut)
shut_here f B x y stands shut = inr (stands, shut)

torn_here : (f : File) (ps : List (List ℕ)) (side : Side) (x y : List ℕ) → IsTornGroup f ps x → is_unshut y ≡ false → IsTornPair f ps (sided side x y) (sided side y x)
torn_here f ps A x y stands shut = inl (stands, shut)
torn_here f ps B x y stands shut = inr (stands, shut)

pub torn_found : (f : File) (ps : List (List ℕ)) (x y : List ℕ) → IsTornPair f ps x y → FindsNoneOrAll f ps x y
torn_found f ps x y (inl torn) = elim (torn_read f ps x torn.0) [
  | inl before ↦ inl (finds_here f A x y before torn.1)
  | inr after ↦ inr (finds_here (with_payloads f ps) A x y after torn.1)
]
torn_found f ps x y (inr torn) = elim (torn_read f ps y torn.0) [
  | inl before ↦ inl (finds_here f B y x before torn.1)
  | inr after ↦ inr (finds_here (with_payloads f ps) B y x after torn.1)
]

-- by what one disk says alone
pub stands_placed : (salt : ℕ) (side at : Side) (r : Framing) (f : File) → placed side (opened_alone salt r) ≡ Stands at f → opened_alone salt r ≡ Stands A f
stands_placed salt side at Uncreated f e = cc
stands_placed salt side at Occupied f e = absurd cc
stands_placed salt side at (Whole g) f e = cc
stands_placed salt side at (Damaged place) f e = absurd cc

-- ---- one disk counts, and the other stands still

module _ {D : Type 0} (G : Ghosts D) where
  -- both, by the one that counts
  abbrev pub both : Side → (current other : D) → Disks
  both side current other = disks_of G (sided side current other) (sided side other current)

  pub honest_sides : (side : Side) (c o : D) → AreHonest (both side c o) → IsTrue (G.honest c) × IsTrue (G.honest o)
  honest_sides A c o honest = honest
  honest_sides B c o honest = (honest.1, honest.0)

  pub honest_both : (side : Side) (c o : D) → IsTrue (G.honest c) → IsTrue (G.honest o) → AreHonest (both side c o)
  honest_both A c o on_c on_o = (on_c, on_o)
  honest_both B c o on_c on_o = (on_o, on_c)

  -- each two images of both
  pub each_here : (side : Side) (c o : D) (P : List ℕ → List ℕ → Type 0) → ((x y : List ℕ) → IsImage (G.held c) x → IsImage (G.held o) y → P (sided side x y) (sided side y x)) → EachImage (both side c o) P
  each_here A c o P each x y on_x on_y = each x y on_x on_y
  each_here B c o P each x y on_x on_y = each y x on_y on_x

  pub reads_here : (side : Side) (c o : D) (f : File) → framing (G.held c).seen ≡ Whole f → is_unshut (G.held o).seen ≡ false → FindsFile f (both side c o).a.held.seen (both side c o).b.held.seen
  reads_here A c o f whole shut = finds_here f A (G.held c).seen (G.held o).seen whole shut
  reads_here B c o f whole shut = finds_here f B (G.held c).seen (G.held o).seen whole shut

  -- what is said of the one at each moment is said of both
  module _ (side : Side) (c0 c1 o : D) where
    pub pair_here : (Q : List ℕ → Type 0) (P : List ℕ → List ℕ → Type 0) → ((x y : List ℕ) → Q x → IsImage (G.held o) y → P (sided side x y) (sided side y x))
        → EachMoment (G.past c0) (G.past c1) (G.held c1) Q → EachPair (both side c0 o) (both side c1 o) P
    pair_here Q P joined run = by_side side P joined
      where
        by_side : (s : Side) (P : List ℕ → List ℕ → Type 0) → ((x y : List ℕ) → Q x → IsImage (G.held o) y → P (sided s x y) (sided s y x)) → EachPair (both s c0 o) (both s c1 o) P
        by_side A P joined =
            weaker_moments (G.past c0) (G.past c1) (G.held c1) Q (λ x. EachMoment (G.past o) (G.past o) (G.held o) (λ y. P x y))
            (λ x q. started (G.past o) (G.held o) (λ y. P x y) (λ y left. joined x y q left)) run
        by_side B P joined =
            started (G.past o) (G.held o) (λ x. EachMoment (G.past c0) (G.past c1) (G.held c1) (λ y. P x y))
            (λ x left. weaker_moments (G.past c0) (G.past c1) (G.held c1) Q (λ y. P x y) (λ y q. joined y x q left) run)

    pub shut_pair : (f : File) → ((y : List ℕ) → IsImage (G.held o) y → is_unshut y ≡ false) → EachMoment (G.past c0) (G.past c1) (G.held c1) (IsShutFile f) → EachPair (both side c0 o) (both side c1 o) (IsShutPair f)
    shut_pair f shut run = pair_here (IsShutFile f) (IsShutPair f) (λ x y stands left. shut_here f side x y stands (shut y left)) run

    pub torn_pair : (f : File) (ps : List (List ℕ)) → ((y : List ℕ) → IsImage (G.held o) y → is_unshut y ≡ false) → EachMoment (G.past c0) (G.past c1) (G.held c1) (IsTornGroup f ps) → EachPair (both side c0 o) (both side c1 o) (IsTornPair f ps)
    torn_pair f ps shut run = pair_here (IsTornGroup f ps) (IsTornPair f ps) (λ x y torn left. torn_here f ps side x y torn (shut y left)) run

    pub behind_pair : (place : ℕ) → EachMoment (G.past c0) (G.past c1) (G.held c1) (IsSameFrom place (G.held c0).seen) → EachPair (both side c0 o) (both side c1 o) (StaysBehind side place (both side c0 o))
    behind_pair place run = pair_here (IsSameFrom place (G.held c0).seen) (StaysBehind side place (both side c0 o)) (λ x y same left. by_side side x y same) run
      where
        by_side : (s : Side) (x y : List ℕ) → IsSameFrom place (G.held c0).seen x → StaysBehind s place (both s c0 o) (sided s x y) (sided s y x)
        by_side A x y same = same
        by_side B x y same = same

    pub quiet_here : G.count c1 ≡ G.count c0 → AreQuiet (both side c0 o) (both side c1 o)
    quiet_here same = by_side side
      where
        by_side : (s : Side) → AreQuiet (both s c0 o) (both s c1 o)
        by_side A = (same, refl)
        by_side B = (refl, same)

    pub fell_here : G.count c0 ≤ G.count c1 → NoneFell (both side c0 o) (both side c1 o)
    fell_here rise = by_side side
      where
        by_side : (s : Side) → NoneFell (both s c0 o) (both s c1 o)
        by_side A = (rise, omega arith)
        by_side B = (omega arith, rise)

    pub honest_here : G.honest c1 ≡ G.honest c0 → SameHonesty (both side c0 o) (both side c1 o)
    honest_here same = by_side side
      where
        by_side : (s : Side) → SameHonesty (both s c0 o) (both s c1 o)
        by_side A = (same, refl)
        by_side B = (refl, same)

    pub fault_here : RoseByOne (G.count c0) (G.count c1) → OneFault (both side c0 o) (both side c1 o) (G.count c1)
    fault_here rose = by_side side
      where
        by_side : (s : Side) → OneFault (both s c0 o) (both s c1 o) (G.count c1)
        by_side A = inl (refl, rose, refl)
        by_side B = inr (refl, rose, refl)

  -- what the disk that doesn't count tells
  pub aside_there : (side : Side) (c o : D) → on_side (turned side) (both side c o) ≡ disk_of G o
  aside_there A c o = refl
  aside_there B c o = refl

-- ---- one call behind another

pub still_honest : (was later : Disks) → SameHonesty was later → AreHonest was → AreHonest later
still_honest was later same honest = (subst IsTrue (sym same.0) honest.0, subst IsTrue (sym same.1) honest.1)

pub fault_on : (was mid later : Disks) → AreQuiet was mid → HaveFailed mid later → HaveFailed was later
fault_on was mid later none one = (one.0, on_side_of one.1)
  where
    on_side_of : OneFault mid later one.0 → OneFault was later one.0
    on_side_of (inl x) = inl (x.0, subst (λ k. RoseByOne k later.a.faults) none.0 x.1, x.2 ∙ none.1)
    on_side_of (inr x) = inr (x.0, subst (λ k. RoseByOne k later.b.faults) none.1 x.1, x.2 ∙ none.0)

-- the disk of this side stood still: what holds at its one moment holds since then
pub still_pairs : (side : Side) (was mid later : Disks) (P : List ℕ → List ℕ → Type 0) → on_side side mid ≡ on_side side was → on_side side later ≡ on_side side mid → EachPair was mid P → EachPair mid later P → EachPair was later P
still_pairs A was mid later P still stays first second =
    let InB : List ℕ → (p q : List Held) → Held → Type 0 = λ x p q h. EachMoment p q h (λ y. P x y) in
    let same : later.a ≡ was.a = stays ∙ still in
    let one = subst (λ (d : OneDisk). EachMoment was.a.past d.past d.held (λ x. InB x was.b.past mid.b.past mid.b.held)) still first in
    let two = subst (λ (d : OneDisk). EachMoment mid.a.past d.past d.held (λ x. InB x mid.b.past later.b.past later.b.held)) same second in
    subst (λ (d : OneDisk). EachMoment was.a.past d.past d.held (λ x. InB x was.b.past later.b.past later.b.held)) (sym same)
    (started was.a.past was.a.held (λ x. InB x was.b.past later.b.past later.b.held)
    (λ x left. runs_on was.b.past mid.b.past later.b.past mid.b.held later.b.held (λ y. P x y) (one.present x left) (two.present x left)))
still_pairs B was mid later P still stays first second =
    runs_on was.a.past mid.a.past later.a.past mid.a.held later.a.held (λ x. EachMoment was.b.past later.b.past later.b.held (λ y. P x y))
    (weaker_moments was.a.past mid.a.past mid.a.held _ _ (λ x run. subst (λ (d : OneDisk). EachMoment was.b.past d.past d.held (λ y. P x y)) (sym stays) run) first)
    (weaker_moments mid.a.past later.a.past later.a.held _ _ (λ x run. subst (λ (d : OneDisk). EachMoment d.past later.b.past later.b.held (λ y. P x y)) still run) second)

-- what stands behind a place stays so through both
pub still_behind : (side at : Side) (was mid later : Disks) (place : ℕ) → on_side side mid ≡ on_side side was → on_side side later ≡ on_side side mid → IsImage mid.a.held mid.a.held.seen → IsImage mid.b.held mid.b.held.seen
    → EachPair was mid (StaysBehind at place was) → EachPair mid later (StaysBehind at place mid) → EachPair was later (StaysBehind at place was)
still_behind side at was mid later place still stays read_a read_b first second =
    still_pairs side was mid later (StaysBehind at place was) still stays first
    (weaker_pair mid later (StaysBehind at place mid) (StaysBehind at place was)
    (λ x y same. same ∙ ap (λ (l : List ℕ). drop place l) (sym (seen_on at mid)) ∙ (first.present mid.a.held.seen read_a).present mid.b.held.seen read_b) second)

-- ---- an opening

-- what stands as it was read
leaves_same : (salt : ℕ) (choice : Choice) (side : Side) (was bytes : List ℕ) → bytes ≡ was → LeavesOf salt choice side was bytes
leaves_same salt (Counts A) A was bytes is = kept_leaves salt was bytes is
leaves_same salt (Counts A) B was bytes is = inl is
leaves_same salt (Counts B) A was bytes is = inl is
leaves_same salt (Counts B) B was bytes is = kept_leaves salt was bytes is
leaves_same salt (Hurt at place) side was bytes is = is

keeps_same : (salt : ℕ) (choice : Choice) (side : Side) (p0 p1 : List Held) (h0 h1 : Held) → IsUnwritten p0 h0 p1 h1 → FromSync p0 h0 p1 h1 (LeavesOf salt choice side h0.seen)
keeps_same salt choice side p0 p1 h0 h1 unwritten = by_moments unwritten.moments
  where
    by_moments : FromSync p0 h0 p1 h1 (λ image. image ≡ h0.seen) → FromSync p0 h0 p1 h1 (LeavesOf salt choice side h0.seen)
    by_moments (inl same) = inl same
    by_moments (inr run) = inr (weaker_moments (p0 ++ h0 ∷ []) p1 h1 (λ image. image ≡ h0.seen) (LeavesOf salt choice side h0.seen) (λ image is. leaves_same salt choice side h0.seen image is) run)

pub opening_stays_pair : (salt : ℕ) (was later : Disks) → AreUnwritten was later → KeepFound salt was later
opening_stays_pair salt was later unwritten = (
  λ ours. keeps_same salt (chosen was.a.held.seen was.b.held.seen) A was.a.past later.a.past was.a.held later.a.held unwritten.0,
  keeps_same salt (chosen was.a.held.seen was.b.held.seen) B was.b.past later.b.past was.b.held later.b.held unwritten.1,
)

-- behind the first sync of a disk
finishes_on : (salt salt_1 : ℕ) (side : Side) (a b a_1 b_1 : List ℕ) (p0 p1 p2 : List Held) (h0 h1 h2 : Held) → salt_1 ≡ salt → a_1 ≡ a → b_1 ≡ b → Moves p0 h0 p1 h1 (at_rest h0.seen)
    → EachMoment p1 p2 h2 (LeavesOf salt_1 (chosen a_1 b_1) side h1.seen) → FromSync p0 h0 p2 h2 (LeavesOf salt (chosen a b) side h0.seen)
finishes_on salt salt_1 side a b a_1 b_1 p0 p1 p2 h0 h1 h2 same same_a same_b synced run =
    let by_salt = subst (λ (n : ℕ). EachMoment p1 p2 h2 (LeavesOf n (chosen a_1 b_1) side h1.seen)) same run in
    let by_a = subst (λ (l : List ℕ). EachMoment p1 p2 h2 (LeavesOf salt (chosen l b_1) side h1.seen)) same_a by_salt in
    let by_b = subst (λ (l : List ℕ). EachMoment p1 p2 h2 (LeavesOf salt (chosen a l) side h1.seen)) same_b by_a in
    let there = subst (λ (h : Held). EachMoment p1 p2 h2 (LeavesOf salt (chosen a b) side h.seen)) synced.now_is by_b in
    inr (subst (λ (p : List Held). EachMoment p p2 h2 (LeavesOf salt (chosen a b) side h0.seen)) synced.past_is there)

pub opening_finishes_pair : (salt salt_1 : ℕ) (was mid later : Disks) → salt_1 ≡ salt → AreSynced was mid → Finishes salt_1 mid later → KeepFound salt was later
opening_finishes_pair salt salt_1 was mid later same synced finishes =
    let a = was.a.held.seen in
    let b = was.b.held.seen in
    let a_1 = mid.a.held.seen in
    let b_1 = mid.b.held.seen in
    let same_a : a_1 ≡ a = ap (λ (h : Held). h.seen) synced.0.now_is in
    let same_b : b_1 ≡ b = ap (λ (h : Held). h.seen) synced.1.now_is in
    let Ours : List ℕ → List ℕ → Type 0 = λ x y. chosen x y ≡ Counts A → framing x ≡ Uncreated → 43 ≤ length x → slice_index x 0 ≤ 1 in (
      λ ours. finishes_on salt salt_1 A a b a_1 b_1 was.a.past mid.a.past later.a.past was.a.held mid.a.held later.a.held same same_a same_b synced.0
          (finishes.0 (subst (λ (x : List ℕ). Ours x b_1) (sym same_a) (subst (λ (y : List ℕ). Ours a y) (sym same_b) ours))),
      finishes_on salt salt_1 B a b a_1 b_1 was.b.past mid.b.past later.b.past was.b.held mid.b.held later.b.held same same_a same_b synced.1 finishes.1,
    )

-- of the disk that doesn't count, whatever is made on disk a
pub kept_aside : (salt : ℕ) (side : Side) (was later : Disks) → chosen was.a.held.seen was.b.held.seen ≡ Counts side → KeepFound salt was later → KeepsOn salt (turned side) was later
kept_aside salt A was later counts kept = kept.1
kept_aside salt B was later counts kept = kept.0 (λ on_a. let both : Counts B ≡ Counts A = sym counts ∙ on_a in absurd cc)

-- to which nothing was done
pub keeps_still : (salt : ℕ) (was later : Disks) → AreStill was later → KeepsAside salt was later
keeps_still salt was later still A counts = inl (still.1.1, still.1.0)
keeps_still salt was later still B counts = inl (still.0.1, still.0.0)

-- ---- the disk that counts, at its opening

module _ {D : Type 0} (G : Ghosts D) (salt : ℕ) where
  pub stands_current : (side : Side) (c o : D) (at : Side) (file : File) → chosen (G.held (sided side c o)).seen (G.held (sided side o c)).seen ≡ Counts side → opened_on (both G side c o) salt ≡ Stands at file → opened_alone salt (framing (G.held c).seen) ≡ Stands A file
  stands_current A c o at file counts stands = stands_placed salt A at (framing (G.held c).seen) file (sym (opened_counts salt (G.held c).seen (G.held o).seen A counts) ∙ stands)
  stands_current B c o at file counts stands = stands_placed salt B at (framing (G.held c).seen) file (sym (opened_counts salt (G.held o).seen (G.held c).seen B counts) ∙ stands)

  -- what is made ready
  pub made_ready : (side : Side) (c0 o0 c1 o1 : D) → chosen (G.held (sided side c0 o0)).seen (G.held (sided side o0 c0)).seen ≡ Counts side
      → ((framing (G.held c0).seen ≡ Uncreated → 43 ≤ length (G.held c0).seen → slice_index (G.held c0).seen 0 ≤ 1) → EachMoment (G.past c0) (G.past c1) (G.held c1) (MayLeave salt (G.held c0).seen (framing (G.held c0).seen)))
      → EachMoment (G.past o0) (G.past o1) (G.held o1) (MayShut (G.held o0).seen)
      → Finishes salt (both G side c0 o0) (both G side c1 o1)
  made_ready A c0 o0 c1 o1 counts current other = (
    λ ours. subst (λ (ch : Choice). EachMoment (G.past c0) (G.past c1) (G.held c1) (LeavesOf salt ch A (G.held c0).seen)) (sym counts) (current (λ none long. ours counts none long)),
    subst (λ (ch : Choice). EachMoment (G.past o0) (G.past o1) (G.held o1) (LeavesOf salt ch B (G.held o0).seen)) (sym counts) other,
  )
  made_ready B c0 o0 c1 o1 counts current other = (
    λ ours. subst (λ (ch : Choice). EachMoment (G.past o0) (G.past o1) (G.held o1) (LeavesOf salt ch A (G.held o0).seen)) (sym counts) other,
    subst (λ (ch : Choice). EachMoment (G.past c0) (G.past c1) (G.held c1) (LeavesOf salt ch B (G.held c0).seen)) (sym counts) (current (λ none long. absurd (counts_b_made (G.held o0).seen (G.held c0).seen counts none))),
  )
