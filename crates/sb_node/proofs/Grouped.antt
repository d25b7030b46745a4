-- A group of calls that was carried out and sealed, or failed.
use Rattle.std.proofs.Common.{◌≡◌, inl, ℕ, List, [], ◌∷◌, ◌++◌, false, None, Result, Ok, Err, refl, ◌∙◌, ap, subst}
use Rattle.std.specs.Prelude.{IfOk, OnOk, OnErr}
use Rattle.std.proofs.lemmas.List.{append-nil}
use Rattle.sb_outside.specs.declared.disk.Disk.{Ghosts}
use Rattle.sb_journal.specs.declared.journal.Journal.{Journal}
use Rattle.sb_journal.specs.Disks.{Disks, EachPair}
use Rattle.sb_journal.specs.Opened.{FindsFile}
use Rattle.sb_journal.specs.Text.{File}
use Rattle.sb_journal.proofs.Pairs.{weaker_pair}
use Rattle.sb_machine.specs.declared.call.Event.{Event}
use Rattle.sb_machine.specs.declared.history.Entry.{Entry}
use Rattle.sb_machine.specs.declared.state.State.{State}
use Rattle.sb_node.specs.Ahead.{IsSealed}
use Rattle.sb_node.specs.Groups.{failed, has_fault, FollowGroups, HaveRun}
use Rattle.sb_node.specs.Nodes.{HoldsState, LeadsToOneOf, StayOneOf}
use Rattle.sb_desk.specs.Posts.{group_entries}
use Rattle.sb_desk.specs.declared.post.Post.{Post}
use Rattle.sb_node.specs.Posts.{fault_entries, fault_entry}
use Rattle.sb_node.specs.Recovery.{replay_file, reaches}
use Rattle.sb_node.specs.Steps.{log_of}
use Rattle.sb_node.proofs.Crashes.{found_leads}
use Rattle.sb_node.proofs.Together.{failed_follows, none_runs, sealed_follows}

-- what holds in any case
pub in_ok : {T E X : Type 0} (r : Result T E) → X → OnOk r X
in_ok (Ok x) is = is
in_ok (Err e) is = tt

pub in_err : {T E X : Type 0} (r : Result T E) → X → OnErr r X
in_err (Ok x) is = tt
in_err (Err e) is = is

-- a number, by what it is
pub counts_as : {E : Type 0} (r : Result ℕ E) (m k : ℕ) → m ≡ k → IfOk r (λ n. n ≡ m) → IfOk r (λ n. n ≡ k)
counts_as (Ok n) m k same is = is ∙ same
counts_as (Err e) m k same is = tt

pub sealed_kept : {D T E : Type 0} {B : Ghosts D} (j : Journal D B) (last : ℕ) (file : File) (events : List Event) (s : State) (r : Result T E) → OnOk r (IsSealed j last file events s) → OnOk r (HoldsState j last s)
sealed_kept j last file events s (Ok x) sealed = sealed.kept
sealed_kept j last file events s (Err e) sealed = tt

-- while the file counts a crash leads to its state
pub found_stay : (file : File) (s other : State) (was now : Disks) → replay_file file ≡ reaches s → EachPair was now (FindsFile file) → StayOneOf was now (s ∷ other ∷ [])
found_stay file s other was now leads run = weaker_pair was now (FindsFile file) (LeadsToOneOf (s ∷ other ∷ [])) (λ a b is. inl (found_leads file s a b is leads)) run

pub failed_same : (posts : List Post) → failed (fault_entries posts) ≡ fault_entries posts
failed_same [] = refl
failed_same (p ∷ ps) = ap (λ (l : List Entry). fault_entry p ∷ l) (failed_same ps)

-- the disk failed while they were carried out
pub fails_early : (posts : List Post) (s : State) (was now : Disks) → StayOneOf was now (s ∷ s ∷ []) → FollowGroups false (log_of s None) (fault_entries posts ∷ []) was now
fails_early [] s was now stay = sealed_follows false s s [] was was now (none_runs s) refl refl stay
fails_early (p ∷ ps) s was now stay =
    subst (λ (es : List Entry). FollowGroups false (log_of s None) (es ∷ []) was now) (failed_same (p ∷ ps)) (failed_follows false s s [] (fault_entries (p ∷ ps)) was was now (none_runs s) refl refl stay)

-- or while they were sealed
pub fails_late : (posts : List Post) (s next : State) (was now : Disks) → HaveRun s (group_entries posts) next → failed (group_entries posts) ≡ fault_entries posts → StayOneOf was now (s ∷ next ∷ []) → FollowGroups false (log_of s None) (fault_entries posts ∷ []) was now
fails_late [] s next was now run fails stay = sealed_follows false s next [] was was now run refl refl stay
fails_late (p ∷ ps) s next was now run fails stay =
    let made = group_entries (p ∷ ps) in
    let all : failed (made ++ []) ≡ fault_entries (p ∷ ps) = ap failed (append-nil made) ∙ fails in
    subst (λ (es : List Entry). FollowGroups false (log_of s None) (es ∷ []) was now) all (failed_follows false s next made [] was was now run (ap has_fault all) refl stay)
