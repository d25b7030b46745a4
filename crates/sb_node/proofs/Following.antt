-- The moments of a history: those of a group behind a rest, and what they say of a crash once a disk has failed.
use Rattle.std.proofs.Common.{◌≡◌, inl, ℕ, List, [], ◌∷◌, ◌++◌, Bool, true, false, None, Err, refl, sym, ap, ◌∙◌, subst}
use Rattle.std.proofs.lemmas.List.{append-nil}
use Rattle.std.specs.Bool.{MatchBool}
use Rattle.sb_journal.specs.Disks.{Disks}
use Rattle.sb_journal.proofs.Pairs.{started_pair}
use Rattle.sb_machine.specs.Accounts.{changing}
use Rattle.sb_machine.specs.Events.{replayed, AreUndecided}
use Rattle.sb_machine.specs.History.{Log, after_entries, settled}
use Rattle.sb_machine.specs.declared.call.Call.{Call}
use Rattle.sb_machine.specs.declared.call.Event.{Event}
use Rattle.sb_machine.specs.declared.history.Entry.{Entry}
use Rattle.sb_machine.specs.declared.reply.Refusal.TheVariants.{DiskFault}
use Rattle.sb_machine.specs.declared.state.State.{State}
use Rattle.sb_node.specs.Groups.{has_fault, FollowGroups, Rests}
use Rattle.sb_node.specs.Nodes.{IsDurable, IsOneOf, LeadsToOneOf, StayOneOf}
use Rattle.sb_node.specs.Serving.{IsUndecided, IsWithOrNot}
use Rattle.sb_node.specs.Steps.{entries_with}
use Rattle.sb_node.proofs.ByGroups.{by_bool, none_undecided}
use Rattle.sb_node.proofs.Settled.{changing_settled}
use Rattle.sb_node.proofs.Together.{when_fault, when_none}

-- what is so at each moment since is so now
one_now : (was later : Disks) (states : List State) → StayOneOf was later states → IsOneOf later states
one_now was later states stay = λ x y on_x on_y. (stay.present x on_x).present y on_y

-- ---- between two groups

-- where nothing is done
pub rests_still : (on : Bool) (s : State) (disks : Disks) → Rests on s disks disks
rests_still false s disks = refl
rests_still true s disks = inl refl

-- ---- a group

-- it doesn't matter whether the last call before it was answered that the disk failed
pub group_settled : (on : Bool) (l : Log) (es : List Entry) (was now : Disks) → FollowGroups on (settled l) (es ∷ []) was now → FollowGroups on l (es ∷ []) was now
group_settled on l es was now is = (
  is.0,
  is.1,
  is.2,
  is.3,
  by_bool (has_fault es) (AreUndecided l.state es is.2) (is.2 ≡ changing (settled l) es) (AreUndecided l.state es is.2) (is.2 ≡ changing l es) is.4 (λ fault left. left) (λ none all. all ∙ changing_settled l es),
  is.5,
  is.6,
)

-- one that changes nothing and touches no disk
pub still_group : (on : Bool) (disks : Disks) (l : Log) (es : List Entry) → has_fault es ≡ false → changing l es ≡ [] → IsWithOrNot disks l.state [] → FollowGroups on l (es ∷ []) disks disks
still_group on disks l es none still one = (
  disks,
  disks,
  [],
  rests_still on l.state disks,
  when_none (has_fault es) (AreUndecided l.state es []) ([] ≡ changing l es) none (sym still),
  started_pair disks (LeadsToOneOf (l.state ∷ l.state ∷ [])) one,
  when_none (has_fault es) (disks ≡ disks) (FollowGroups on (after_entries l es) [] disks disks) none refl,
)

-- one behind a rest
pub behind_rest : (on : Bool) (l : Log) (es : List Entry) (was mid now : Disks) → Rests on l.state was mid → FollowGroups false l (es ∷ []) mid now → FollowGroups on l (es ∷ []) was now
behind_rest on l es was mid now rests is = (is.0, is.1, is.2, subst (λ (d : Disks). Rests on l.state was d) (sym is.3) rests, is.4, is.5, is.6)

-- one that is answered that a disk failed in the rest before it
pub failed_rest : (on : Bool) (l : Log) (es : List Entry) (was now : Disks) → has_fault es ≡ true → Rests on l.state was now → IsDurable now l.state → FollowGroups on l (es ∷ []) was now
failed_rest on l es was now some rests durable = (
  now,
  now,
  [],
  rests,
  when_fault (has_fault es) (AreUndecided l.state es []) ([] ≡ changing l es) some (none_undecided l.state es),
  started_pair now (LeadsToOneOf (l.state ∷ l.state ∷ [])) (λ x y on_x on_y. inl (durable x y on_x on_y)),
  when_fault (has_fault es) (now ≡ now) (FollowGroups on (after_entries l es) [] now now) some refl,
)

-- ---- where a disk failed

on_fault : (b : Bool) (X Y : Type 0) → b ≡ true → MatchBool b X Y → X
on_fault true X Y is here = here
on_fault false X Y is here = absurd cc

-- what a crash then leads to
pub fault_leaves : (on : Bool) (l : Log) (es : List Entry) (was now : Disks) → has_fault es ≡ true → FollowGroups on l (es ∷ []) was now → (events : List Event) × AreUndecided l.state es events × IsWithOrNot now l.state events
fault_leaves on l es was now some is =
    let same : now ≡ is.1 = on_fault (has_fault es) (now ≡ is.1) (FollowGroups on (after_entries l es) [] is.1 now) some is.6 in (
      is.2,
      on_fault (has_fault es) (AreUndecided l.state es is.2) (is.2 ≡ changing l es) some is.4,
      subst (λ (d : Disks). IsWithOrNot d l.state is.2) (sym same) (one_now is.0 is.1 (l.state ∷ replayed l.state is.2 ∷ []) is.5),
    )

-- in the words of one call
pub call_undecided : (l : Log) (seat reading : ℕ) (call : Call) (was now : Disks) → FollowGroups false l (entries_with None seat reading call (Err DiskFault) ∷ []) was now → IsUndecided now l.state reading call
call_undecided l seat reading call was now is =
    let left = fault_leaves false l (entries_with None seat reading call (Err DiskFault)) was now refl is in
    let own = left.1 in
    let all : left.0 ≡ own.0 = own.2 ∙ ap (λ (es : List Event). own.0 ++ es) own.4 ∙ append-nil own.0 in
    (own.0, own.3, subst (λ (es : List Event). IsWithOrNot now l.state es) all left.2)
