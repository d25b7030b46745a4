-- A journal that goes on with a file whose base is the state's.
use Rattle.std.proofs.Common.{◌≡◌, ◌⊎◌, inl, inr, ℕ, ◌+◌, ◌^◌, ◌≤◌, List, [], ◌∷◌, length, Bool, true, false, true≢false, Option, Some, None, Result, Err, refl, sym, ◌∙◌, ap, subst, arith}
use Rattle.std.proofs.Math.Logic.{∥∥₁_elim}
use Rattle.std.proofs.Props.{props}
use Rattle.std.proofs.lemmas.Bool.Decides.{nat_tests}
use Rattle.std.specs.Prelude.{is_some}
use Rattle.sb_outside.specs.declared.disk.Disk.{Ghosts}
use Rattle.sb_journal.specs.declared.journal.Journal.{Journal}
use Rattle.sb_journal.specs.Text.{File, first_gate, may_go_on, next_file}
use Rattle.sb_journal.specs.Opened.{FindsOldOrNext}
use Rattle.sb_journal.specs.Journals.{journal_disks, journal_side, has_failed}
use Rattle.sb_judge.specs.Decided.{decided}
use Rattle.sb_machine.specs.Consistent.{IsConsistent}
use Rattle.sb_machine.specs.declared.state.State.{State}
use Rattle.sb_snapshot.specs.Base.{base_of, parts, state_of, HasSpelling, IsSpellable}
use Rattle.sb_snapshot.proofs.Asked.{state_written}
use Rattle.sb_snapshot.proofs.Spelling.{reads_back}
use Rattle.sb_checkpoint.specs.Refusals.{OnRefused}
use Rattle.sb_checkpoint.specs.declared.pieces.Unput.{Unput}
use Rattle.sb_checkpoint.specs.declared.pieces.Unput.TheVariants.{Memory, Refused}
use Rattle.sb_recorder.specs.Recorders.{bytes_left, is_writing, recorder_journal, Begun, CountsStill, GoesOn, HasAccount, HasBase, HasTurned}
use Rattle.sb_recorder.specs.declared.recorder.Recorder.{Recorder}
use Rattle.sb_recorder.proofs.Beside.{left_beside, no_account, stretch_none, stretch_now, weaker_stretch}
use Rattle.sb_node.specs.Recovery.{base_state, if_consistent, replay_file, replay_from, reaches}
use Rattle.sb_node.specs.Nodes.{events_of, events_on, HoldsState, IsDurable, LeadsTo, LeadsToOneOf, TurnOneOf}
use Rattle.sb_node.specs.Turns.{FailsAs, LeavesState, Turns}
use Rattle.sb_node.proofs.Crashes.{found_leads, kept_leads}
use Rattle.sb_node.proofs.Salts.{file_salt}

-- ---- a consistent state

-- two proofs of a test are one
pub surely_consistent : (s : State) → ∥ IsConsistent s ∥₁ → IsConsistent s
surely_consistent s merely = (decided s).1.0 (∥∥₁_elim merely (hlevel props) (decided s).1.1)

pub surely_spellable : (s : State) → ∥ IsConsistent s ∥₁ → IsSpellable s
surely_spellable s merely = state_written s (surely_consistent s merely)

passes : (s : State) → IsConsistent s → if_consistent (Some s) ≡ Some s
passes s consistent = rw ((decided s).1.1 consistent) refl

-- ---- its base

-- it begins with a number of 8 bytes
some_bytes : (s : State) → base_of s ≡ [] → ⊥
unfolding parts
some_bytes s none = absurd cc

read_as_base : (salt : ℕ) (bytes : List ℕ) (s : State) → (bytes ≡ [] → ⊥) → state_of salt bytes ≡ Some s → IsConsistent s → base_state salt bytes ≡ Some s
read_as_base salt [] s some reads consistent = absurd (some refl)
read_as_base salt (byte ∷ bytes) s some reads consistent = ap if_consistent reads ∙ passes s consistent

-- its base stands for it
pub own_base : (s : State) → HasSpelling s → IsConsistent s → base_state s.space.salt (base_of s) ≡ Some s
own_base s spelled consistent = read_as_base s.space.salt (base_of s) s (some_bytes s) (reads_back s spelled) consistent

-- and so does a file that begins with it
next_leads : (file : File) (first : ℕ) (s : State) → replay_file file ≡ reaches s → HasSpelling s → IsConsistent s → replay_file (next_file file first (base_of s)) ≡ reaches s
next_leads file first s leads spelled consistent =
    let next = next_file file first (base_of s) in
    ap (λ (o : Option State). replay_from o (first_gate next) []) (ap (λ (n : ℕ). base_state n (base_of s)) (sym (file_salt file s leads)) ∙ own_base s spelled consistent)

-- ---- what a crash leaves

module _ {D : Type 0} {B : Ghosts D} (was now : Journal D B) (last first : ℕ) (s : State) (kept : HoldsState was last s) where
  pub still_moments : CountsStill kept.file was now → TurnOneOf (journal_side was) (journal_disks was) (journal_disks now) (s ∷ [])
  still_moments counts =
      weaker_stretch (journal_side was) (journal_disks was) (journal_disks now) (FindsOldOrNext kept.file kept.file) (LeadsToOneOf (s ∷ [])) each (left_beside kept.file kept.file was now counts)
    where
      each : (a b : List ℕ) → FindsOldOrNext kept.file kept.file a b → LeadsToOneOf (s ∷ []) a b
      each a b (inl is) = inl (found_leads kept.file s a b is kept.leads)
      each a b (inr is) = inl (found_leads kept.file s a b is kept.leads)

  pub turn_moments : IsConsistent s → LeavesState s first kept.file was now → TurnOneOf (journal_side was) (journal_disks was) (journal_disks now) (s ∷ [])
  turn_moments consistent left =
      weaker_stretch (journal_side was) (journal_disks was) (journal_disks now) (FindsOldOrNext kept.file next) (LeadsToOneOf (s ∷ [])) each left.1
    where
      next : File
      next = next_file kept.file first (base_of s)

      each : (a b : List ℕ) → FindsOldOrNext kept.file next a b → LeadsToOneOf (s ∷ []) a b
      each a b (inl is) = inl (found_leads kept.file s a b is kept.leads)
      each a b (inr is) = inl (found_leads next s a b is (next_leads kept.file first s kept.leads left.0 consistent))

  pub either_moments : IsConsistent s → CountsStill kept.file was now ⊎ LeavesState s first kept.file was now → TurnOneOf (journal_side was) (journal_disks was) (journal_disks now) (s ∷ [])
  either_moments consistent (inl counts) = still_moments counts
  either_moments consistent (inr left) = turn_moments consistent left

-- where nothing is done
pub turn_none : {D : Type 0} {B : Ghosts D} (j : Journal D B) (last : ℕ) (s : State) → HoldsState j last s → TurnOneOf (journal_side j) (journal_disks j) (journal_disks j) (s ∷ [])
turn_none j last s kept = stretch_none j (LeadsToOneOf (s ∷ [])) (λ x y on_x on_y. inl (kept_leads j last s kept x y on_x on_y))

-- a crash now
pub turn_now : {D : Type 0} {B : Ghosts D} (was now : Journal D B) (s : State) → TurnOneOf (journal_side was) (journal_disks was) (journal_disks now) (s ∷ []) → IsDurable (journal_disks now) s
turn_now was now s run x y on_x on_y = only (stretch_now (journal_side was) (journal_disks was) (journal_disks now) (LeadsToOneOf (s ∷ [])) run x y on_x on_y)
  where
    only : LeadsToOneOf (s ∷ []) x y → LeadsTo s x y
    only (inl is) = is
    only (inr none) = absurd none

-- ---- the journal

pub still_kept : {D : Type 0} {B : Ghosts D} (was now : Journal D B) (last : ℕ) (s : State) (kept : HoldsState was last s) → CountsStill kept.file was now → has_failed now ≡ false → HoldsState now last s
still_kept was now last s kept counts running = record { file = kept.file; holds = counts.holds running; leads = kept.leads; number = kept.number }

pub turned_kept : {D : Type 0} {B : Ghosts D} (was now : Journal D B) (last first : ℕ) (s : State) (kept : HoldsState was last s) → first ≡ last + 1 → IsConsistent s → HasSpelling s → HasTurned kept.file was now first (base_of s) → HoldsState now last s
turned_kept was now last first s kept first_is consistent spelled turned = record {
  file = next_file kept.file first (base_of s);
  holds = turned.holds;
  leads = next_leads kept.file first s kept.leads spelled consistent;
  number = omega (arith, first_is);
}

-- the next file has no events yet
pub turned_events : {D : Type 0} {B : Ghosts D} (file : File) (was now : Journal D B) (first salt : ℕ) (base : List ℕ) → HasTurned file was now first base → events_on (journal_disks now) salt ≡ []
turned_events file was now first salt base turned = ap events_of (turned.holds.reads salt).1

-- ---- where it may not go on

pub no_next : (generation next first length : ℕ) → (2 ^ 64 ≤ length) ⊎ (2 ^ 64 ≤ first) → false ≡ may_go_on generation next first length
no_next generation next first length (inl long) = grind (arith, nat_tests, long)
no_next generation next first length (inr late) = grind (arith, nat_tests, late)

-- ---- a base that is written

-- where it stands, all of it may be made safe
pub whole_written : {D : Type 0} {B : Ghosts D} (r : Recorder D B) (begun : Begun B) (text : List ℕ) → HasBase r begun text → length text ≡ begun.total → (is_writing r ≡ true) × (bytes_left r ≡ 0)
whole_written r begun text has whole =
    let part = has (omega (arith, whole)) in
    let left = part.left_is in
    (ap is_some part.next_is, omega (arith, left, whole))

none_of : {X : Type 0} (o : Option X) → is_some o ≡ false → o ≡ None
none_of None is = refl
none_of (Some x) is = absurd cc

-- one that isn't written on any more
pub lost_failed : {D : Type 0} {B : Ghosts D} (r : Recorder D B) (begun : Begun B) → GoesOn r begun → is_writing r ≡ false → has_failed (recorder_journal r) ≡ true
lost_failed r begun on lost = on.lost (none_of r.next lost)

-- what holds where it was refused
pub refused_by : (r : Result (Unit {0}) Unput) (e : Unput) (P : Type 0) → r ≡ Err e → OnRefused r P → e ≡ Refused → P
refused_by r e P is holds same = subst (λ (x : Result (Unit {0}) Unput). OnRefused x P) (is ∙ ap Err same) holds

-- the file still counts, for whatever reason
pub left_turns : {D : Type 0} {B : Ghosts D} (s : State) (first : ℕ) (file : File) (was now : Journal D B) (e : Unput) → CountsStill file was now → Turns s first file was now (Err e)
left_turns s first file was now Memory counts = counts
left_turns s first file was now Refused counts = inl counts

pub left_fails : {D : Type 0} {B : Ghosts D} (j : Journal D B) (e : Unput) → (e ≡ Refused → has_failed j ≡ true) → (e ≡ Memory → has_failed j ≡ false) → FailsAs {T = Unit {0}} (has_failed j) (Err e)
left_fails j Memory refused memory = memory refl
left_fails j Refused refused memory = refused refl

-- ---- what came of it

pub fails_same : (S T : Type 0) (failed : Bool) (e : Unput) → FailsAs {T = S} failed (Err e) → FailsAs {T = T} failed (Err e)
fails_same S T failed Memory fails = fails
fails_same S T failed Refused fails = fails

module _ {D : Type 0} {B : Ghosts D} (was now : Journal D B) (last first : ℕ) (s : State) (kept : HoldsState was last s) where
  pub left_kept : (e : Unput) → Turns s first kept.file was now (Err e) → FailsAs {T = Unit {0}} (has_failed now) (Err e) → has_failed now ≡ false → HoldsState now last s
  left_kept Memory counts fails running = still_kept was now last s kept counts running
  left_kept Refused left fails running = absurd (true≢false (sym fails ∙ running))

  pub left_moments : IsConsistent s → (e : Unput) → Turns s first kept.file was now (Err e) → TurnOneOf (journal_side was) (journal_disks was) (journal_disks now) (s ∷ [])
  left_moments consistent Memory counts = still_moments was now last first s kept counts
  left_moments consistent Refused left = either_moments was now last first s kept consistent left

pub same_moments : {D : Type 0} {B : Ghosts D} (was now : Journal D B) (last : ℕ) (s : State) → now ≡ was → HoldsState was last s → TurnOneOf (journal_side was) (journal_disks was) (journal_disks now) (s ∷ [])
same_moments {D} {B} was now last s same kept = subst (λ (j : Journal D B). TurnOneOf (journal_side was) (journal_disks was) (journal_disks j) (s ∷ [])) (sym same) (turn_none was last s kept)

pub same_account : {D : Type 0} {B : Ghosts D} (was now : Journal D B) → now ≡ was → has_failed was ≡ false → HasAccount was now
same_account {D} {B} was now same runs = subst (λ (j : Journal D B). HasAccount was j) (sym same) (no_account was runs)

pub next_may : (generation next first last total long : ℕ) (b : Bool) → first ≡ last + 1 → total ≡ long → b ≡ may_go_on generation next first total → b ≡ may_go_on generation next (last + 1) long
next_may generation next first last total long b first_is total_is may = may ∙ ap (λ (n : ℕ). may_go_on generation next n total) first_is ∙ ap (λ (n : ℕ). may_go_on generation next (last + 1) n) total_is
