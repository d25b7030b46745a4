-- What an opening finds after a crash, and of two files.
use Rattle.std.proofs.Common.{◌≡◌, ◌⊎◌, inl, inr, ℕ, ◌<◌, ◌≤◌, ◌^◌, List, [], true, false, sym, ◌∙◌, ap, subst, arith}
use Rattle.std.specs.Prelude.{length}
use Rattle.std.proofs.lemmas.Bool.{cases_lt}
use Rattle.sb_journal.specs.declared.choosing.Choice.{Choice}
use Rattle.sb_journal.specs.declared.choosing.Choice.TheVariants.{Counts, Hurt}
use Rattle.sb_journal.specs.declared.choosing.Headed.TheVariants.{Headless, Taken, Generation}
use Rattle.sb_journal.specs.declared.found.Side.TheVariants.{A, B}
use Rattle.sb_journal.specs.Text.{File, new_file}
use Rattle.sb_journal.specs.Framing.{Uncreated, Whole, framing, is_created}
use Rattle.sb_journal.specs.Choosing.{headed, chosen, chosen_of, is_unshut}
use Rattle.sb_journal.specs.Opened.{Stands, Damage, opened, opened_alone, opened_by, placed}
use Rattle.sb_journal.specs.Crashes.{IsTornPair, MayLeave, MayShut, LeavesOf, LeavesFound}
use Rattle.sb_journal.proofs.Adding.{IsBeforeOrAfter, torn_read}
use Rattle.sb_journal.proofs.Choices.{headed_short, headed_long, headed_uncreated, counts_here, later_a, later_b, same_made, not_created}
use Rattle.sb_journal.proofs.Finishing.{new_found, new_reads}
use Rattle.sb_journal.proofs.Kept.{torn_kept}
use Rattle.sb_journal.proofs.Pairs.{opened_counts}
use Rattle.sb_journal.proofs.Wholes.{headed_whole}

-- beside what takes a disk, where no file counts
taken_first : (a b : List ℕ) → headed a ≡ Taken → (headed b ≡ Headless) ⊎ (headed b ≡ Taken) → chosen a b ≡ Hurt A 0
taken_first a b taken (inl none) = ap (λ h. chosen_of h (headed b)) taken ∙ ap (chosen_of Taken) none
taken_first a b taken (inr also) = ap (λ h. chosen_of h (headed b)) taken ∙ ap (chosen_of Taken) also

pub other_refused : (salt : ℕ) (a b : List ℕ) → is_created a ≡ false → is_created b ≡ false → (43 < length a → opened a b salt ≡ Damage A 0) × (length a ≤ 43 → 43 < length b → opened a b salt ≡ Damage B 0)
other_refused salt a b none_a none_b = (
  λ long. ap (opened_by salt a b) (taken_first a b (headed_long a none_a long) (elim (cases_lt 43 (length b)) [
    | inl more ↦ inr (headed_long b none_b more)
    | inr few ↦ inl (headed_short b none_b (omega (arith, few)))
  ])),
  λ short long. ap (opened_by salt a b) (ap (λ h. chosen_of h (headed b)) (headed_short a none_a short) ∙ ap (chosen_of Headless) (headed_long b none_b long)),
)

-- what was shut stays as it is
shut_same : (was bytes : List ℕ) → is_unshut was ≡ false → MayShut was bytes → bytes ≡ was
shut_same was bytes shut (inl same) = same
shut_same was bytes shut (inr other) = absurd (let both : true ≡ false = sym other.0 ∙ shut in cc)

-- what a crash leaves where the file of this side counts
left_on_a : (salt : ℕ) (a b x y : List ℕ) → chosen a b ≡ Counts A → LeavesFound salt a b x y → MayLeave salt a (framing a) x × MayShut b y
left_on_a salt a b x y counts left = subst (λ (ch : Choice). LeavesOf salt ch A a x × LeavesOf salt ch B b y) counts left

left_on_b : (salt : ℕ) (a b x y : List ℕ) → chosen a b ≡ Counts B → LeavesFound salt a b x y → MayShut a x × MayLeave salt b (framing b) y
left_on_b salt a b x y counts left = subst (λ (ch : Choice). LeavesOf salt ch A a x × LeavesOf salt ch B b y) counts left

pub new_kept : (salt : ℕ) (a b x y : List ℕ) → salt < 2 ^ 64 → framing a ≡ Uncreated → framing b ≡ Uncreated → is_unshut b ≡ false → LeavesFound salt a b x y → opened x y salt ≡ Stands A (new_file salt 1 1 [])
new_kept salt a b x y fits none_a none_b shut left =
    let nothing : headed b ≡ Headless = headed_uncreated b none_b in
    let counts : chosen a b ≡ Counts A = ap (λ h. chosen_of h (headed b)) (headed_uncreated a none_a) ∙ ap (chosen_of Headless) nothing in
    let each = left_on_a salt a b x y counts left in
    let same : y ≡ b = shut_same b y shut each.1 in
    let still : headed y ≡ Headless = ap headed same ∙ nothing in
    let counts_x : chosen x y ≡ Counts A = elim (new_reads salt a x fits none_a each.0) [
      | inl none ↦ ap (λ h. chosen_of h (headed y)) (headed_uncreated x none) ∙ ap (chosen_of Headless) still
      | inr made ↦ ap (λ h. chosen_of h (headed y)) (headed_whole x (new_file salt 1 1 []) made) ∙ ap (chosen_of (Generation 1)) still
    ] in
    opened_counts salt x y A counts_x ∙ ap (placed A) (new_found salt a x fits none_a each.0)

-- ---- while records were added

torn_counts : (file : File) (ps : List (List ℕ)) (x : List ℕ) → IsBeforeOrAfter file ps x → headed x ≡ Generation file.generation
torn_counts file ps x (inl before) = headed_whole x file before
torn_counts file ps x (inr after) = headed_whole x _ after

pub torn_pair_kept : (salt : ℕ) (file : File) (payloads : List (List ℕ)) (a b x y : List ℕ) → IsTornPair file payloads a b → LeavesFound salt a b x y → IsTornPair file payloads x y
torn_pair_kept salt file payloads a b x y (inl torn) left =
    let counts = counts_here A file.generation a b (torn_counts file payloads a (torn_read file payloads a torn.0)) (not_created b torn.1) in
    let each = left_on_a salt a b x y counts left in
    inl (torn_kept salt file payloads a x torn.0 each.0, ap is_unshut (shut_same b y torn.1 each.1) ∙ torn.1)
torn_pair_kept salt file payloads a b x y (inr torn) left =
    let counts = counts_here B file.generation b a (torn_counts file payloads b (torn_read file payloads b torn.0)) (not_created a torn.1) in
    let each = left_on_b salt a b x y counts left in
    inr (torn_kept salt file payloads b y torn.0 each.1, ap is_unshut (shut_same a x torn.1 each.0) ∙ torn.1)

-- ---- of two files

pub greater_found : (salt : ℕ) (f g : File) (x y : List ℕ) → framing x ≡ Whole f → framing y ≡ Whole g → f.generation < g.generation → (opened x y salt ≡ Stands B g) × (opened y x salt ≡ Stands A g)
greater_found salt f g x y on_x on_y low =
    let of_x = headed_whole x f on_x in
    let of_y = headed_whole y g on_y in (
      opened_counts salt x y B (later_b f.generation g.generation x y of_x of_y low) ∙ ap (λ r. placed B (opened_alone salt r)) on_y,
      opened_counts salt y x A (later_a g.generation f.generation y x of_y of_x low) ∙ ap (λ r. placed A (opened_alone salt r)) on_y,
    )

pub same_refused : (salt : ℕ) (f g : File) (x y : List ℕ) → framing x ≡ Whole f → framing y ≡ Whole g → f.generation ≡ g.generation → opened x y salt ≡ Damage B 18
same_refused salt f g x y on_x on_y same = ap (opened_by salt x y) (same_made f.generation g.generation x y (headed_whole x f on_x) (headed_whole y g on_y) same)
