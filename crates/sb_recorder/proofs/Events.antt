-- A recorded event.
use Rattle.std.proofs.Common.{◌≡◌, ◌<◌, ◌≤◌, ◌+◌, inl, inr, ℕ, List, [], ◌++◌, Some, refl, sym, ◌∙◌, ap, arith}
use Rattle.sb_outside.specs.declared.disk.Disk.{Ghosts}
use Rattle.sb_journal.specs.declared.journal.Journal.{Journal}
use Rattle.sb_journal.specs.Disks.{Disks, EachPair}
use Rattle.sb_journal.specs.Choosing.{turned}
use Rattle.sb_journal.specs.Journals.{journal_aside, journal_disks, journal_side}
use Rattle.sb_journal.specs.Opened.{FindsEither, FindsFile}
use Rattle.sb_journal.specs.Text.{File}
use Rattle.sb_journal.proofs.Holding.{aside_still, side_same}
use Rattle.sb_journal.proofs.Pairs.{still_pairs, weaker_pair}
use Rattle.sb_codec.specs.EventBytes.{read_event}
use Rattle.sb_machine.specs.declared.call.Event.{Event}
use Rattle.sb_recorder.specs.Recorders.{HasEventOrNot}

-- in the journal's own words
pub recorded_moments : (was later : Disks) (file : File) (payload : List ℕ) (event : Event) → read_event payload ≡ Some event → EachPair was later (FindsEither file payload) → EachPair was later (HasEventOrNot file event)
recorded_moments was later file payload event reads run = weaker_pair was later (FindsEither file payload) (HasEventOrNot file event) each run
  where
    each : (a b : List ℕ) → FindsEither file payload a b → HasEventOrNot file event a b
    each a b (inl is) = inl is
    each a b (inr is) = inr (payload, is, reads)

-- while it is staged alone
pub staged_moments : (was later : Disks) (file : File) (event : Event) → EachPair was later (FindsFile file) → EachPair was later (HasEventOrNot file event)
staged_moments was later file event run = weaker_pair was later (FindsFile file) (HasEventOrNot file event) (λ x y is. inl is) run

-- staged, and then sealed
pub sealed_moments : {D : Type 0} {B : Ghosts D} (was mid now : Journal D B) (file : File) (payload : List ℕ) (event : Event) → read_event payload ≡ Some event → journal_aside mid ≡ journal_aside was → journal_aside now ≡ journal_aside mid
    → EachPair (journal_disks was) (journal_disks mid) (FindsFile file) → EachPair (journal_disks mid) (journal_disks now) (FindsEither file payload) → EachPair (journal_disks was) (journal_disks now) (HasEventOrNot file event)
sealed_moments was mid now file payload event reads same stays first second =
    let side = journal_side was in
    still_pairs (turned side) (journal_disks was) (journal_disks mid) (journal_disks now) (HasEventOrNot file event) (aside_still was mid side refl same) (aside_still mid now side (sym (side_same was mid same)) stays)
    (staged_moments (journal_disks was) (journal_disks mid) file event first)
    (recorded_moments (journal_disks mid) (journal_disks now) file payload event reads second)

-- what is spelled in an empty buffer
pub spelled : (now written before text : List ℕ) → now ≡ written → written ≡ before ++ text → before ≡ [] → now ≡ text
spelled now written before text is puts none = is ∙ puts ∙ ap (λ (l : List ℕ). l ++ text) none

-- an empty buffer has the room
pub roomy : (room len bytes : ℕ) {most : ℕ} → room < len + bytes → len ≡ 0 → most ≤ room → bytes ≤ most → ⊥
roomy room len bytes short empty fits few = omega (arith, short, empty, fits, few)
