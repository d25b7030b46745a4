-- What a crash leaves at each moment of a run, line by line.
use Rattle.std.proofs.Common.{◌≡◌, List, [], ◌∷◌, ◌++◌, refl, subst}
use Rattle.sb_machine.specs.declared.state.State.{State}
use Rattle.sb_app.specs.declared.script_line.ScriptLine.{ScriptLine}
use Rattle.sb_journal.specs.Disks.{Disks}
use Rattle.sb_node.specs.Nodes.{StayOneOf}
use Rattle.sb_app.specs.Runs.{state_by, states_left, states_of, state_after_all, FollowLines, FollowTo}

-- one line more
follow_more : (s : State) (ls : List ScriptLine) (x : ScriptLine) (was later last : Disks) → FollowLines s ls was later → StayOneOf later last (states_of (state_after_all s ls) x) → FollowLines s (ls ++ x ∷ []) was last
follow_more s [] x was later last so_far more = (last, subst (λ (d : Disks). StayOneOf d last (states_of s x)) so_far more, refl)
follow_more s (l ∷ ls) x was later last so_far more = (so_far.0, so_far.1, follow_more (state_by s l) ls x so_far.0 later last so_far.2 more)

pub followed_more : (s now : State) (ls : List ScriptLine) (x : ScriptLine) (was later last : Disks) → now ≡ state_after_all s ls → FollowLines s ls was later → StayOneOf later last (states_of now x) → FollowLines s (ls ++ x ∷ []) was last
followed_more s now ls x was later last leads so_far more = follow_more s ls x was later last so_far (subst (λ (y : State). StayOneOf later last (states_of y x)) leads more)

pub followed_says : (s : State) (ls ks : List ScriptLine) (was later : Disks) → ls ≡ ks → FollowLines s ls was later → FollowLines s ks was later
followed_says s ls ks was later same = subst (λ (k : List ScriptLine). FollowLines s k was later) same

-- ended between two lines, or at one
pub followed_between : (s : State) (ls : List ScriptLine) (was later : Disks) → FollowLines s ls was later → FollowTo s ls [] was later
followed_between s ls was later so_far = (later, so_far, refl)

pub followed_last : (s now : State) (ls : List ScriptLine) (x : ScriptLine) (was later last : Disks) → now ≡ state_after_all s ls → FollowLines s ls was later → StayOneOf later last (states_left now x) → FollowTo s ls (x ∷ []) was last
followed_last s now ls x was later last leads so_far more = (later, so_far, subst (λ (y : State). StayOneOf later last (states_left y x)) leads more)
