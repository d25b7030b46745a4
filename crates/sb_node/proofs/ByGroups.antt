-- A history by groups, one behind another, and what a failing disk leaves of calls that are carried out together.
use Rattle.std.proofs.Common.{◌≡◌, inl, List, [], ◌∷◌, ◌++◌, Bool, true, false, Err, ℕ, refl, sym, ◌∙◌, ap, subst, append_assoc}
use Rattle.std.proofs.lemmas.List.{append-nil}
use Rattle.std.specs.Prelude.{◌||◌}
use Rattle.std.specs.Bool.{MatchBool}
use Rattle.sb_journal.specs.Disks.{Disks}
use Rattle.sb_machine.specs.Events.{replayed, AreUndecided, MayLeave}
use Rattle.sb_machine.specs.History.{Log, after_entries, fresh_log, is_disk_fault}
use Rattle.sb_machine.specs.declared.call.Call.{Call}
use Rattle.sb_machine.specs.declared.call.Event.{Event}
use Rattle.sb_machine.specs.declared.history.Entry.{Entry}
use Rattle.sb_machine.specs.declared.history.Entry.TheVariants.{Ticked, Answered as Replied}
use Rattle.sb_machine.specs.declared.reply.Refusal.TheVariants.{DiskFault}
use Rattle.sb_machine.specs.declared.state.State.{State}
use Rattle.sb_node.specs.Groups.{has_fault, have_fault, after_groups, flattened, AreSome, FollowByGroups, FollowGroups}
use Rattle.sb_node.proofs.Counts.{after_on}
use Rattle.sb_node.proofs.Made.{replayed_on}

pub by_bool : (b : Bool) (X Y Z W : Type 0) → MatchBool b X Y → (b ≡ true → X → Z) → (b ≡ false → Y → W) → MatchBool b Z W
by_bool true X Y Z W is here other = here refl is
by_bool false X Y Z W is here other = other refl is

pub groups_on : (on : Bool) (l : Log) (groups : List (List Entry)) (group : List Entry) (was mid now : Disks) → FollowGroups on l groups was mid
    → (have_fault groups ≡ true → now ≡ mid) → (have_fault groups ≡ false → FollowGroups on (after_groups l groups) (group ∷ []) mid now) → FollowGroups on l (groups ++ group ∷ []) was now
groups_on on l [] group was mid now same stopped goes = subst (λ (d : Disks). FollowGroups on l (group ∷ []) d now) same (goes refl)
groups_on on l (es ∷ rest) group was mid now run stopped goes =
    let next = after_entries l es in (
      run.0,
      run.1,
      run.2,
      run.3,
      run.4,
      run.5,
      by_bool (has_fault es) (mid ≡ run.1) (FollowGroups on next rest run.1 mid) (now ≡ run.1) (FollowGroups on next (rest ++ group ∷ []) run.1 now) run.6
          (λ fault same. stopped (ap (λ (b : Bool). b || have_fault rest) fault) ∙ same)
          (λ none more. groups_on on next rest group run.1 mid now more (λ fault. stopped (ap (λ (b : Bool). b || have_fault rest) none ∙ fault)) (λ runs. goes (ap (λ (b : Bool). b || have_fault rest) none ∙ runs))),
    )

-- one more that isn't empty
pub some_on : (groups : List (List Entry)) (group : List Entry) → AreSome groups → (group ≡ [] → ⊥) → AreSome (groups ++ group ∷ [])
some_on [] [] are some = absurd (some refl)
some_on [] (e ∷ es) are some = tt
some_on ([] ∷ rest) group are some = absurd are
some_on ((e ∷ es) ∷ rest) group are some = some_on rest group are some

-- there are none of a history without entries
pub follows_none : (on other : Bool) (start : State) (was now : Disks) → FollowByGroups on start [] was now → FollowByGroups other start [] was now
follows_none on other start was now is = by_groups is.0 is.1 is.2 is.3
  where
    by_groups : (groups : List (List Entry)) → AreSome groups → flattened groups ≡ [] → FollowGroups on (fresh_log start) groups was now → FollowByGroups other start [] was now
    by_groups [] are flat same = ([], tt, refl, same)
    by_groups ([] ∷ rest) are flat follow = absurd are
    by_groups ((e ∷ es) ∷ rest) are flat follow = absurd cc

pub flattened_on : (groups : List (List Entry)) (group : List Entry) → flattened (groups ++ group ∷ []) ≡ flattened groups ++ group
flattened_on [] group = append-nil group
flattened_on (es ∷ rest) group = ap (λ (l : List Entry). es ++ l) (flattened_on rest group) ∙ sym (append_assoc es (flattened rest) group)

-- they end where their entries do
pub groups_end : (l : Log) (groups : List (List Entry)) → after_groups l groups ≡ after_entries l (flattened groups)
groups_end l [] = refl
groups_end l (es ∷ rest) = groups_end (after_entries l es) rest ∙ sym (after_on l es (flattened rest))

either_on : (b c d : Bool) → (b || (c || d)) ≡ ((b || c) || d)
either_on true c d = refl
either_on false c d = refl

pub fault_both : (h es : List Entry) → has_fault (h ++ es) ≡ (has_fault h || has_fault es)
fault_both [] es = refl
fault_both (Ticked seat t ∷ h) es = fault_both h es
fault_both (Replied seat reading call answer ∷ h) es = ap (λ (b : Bool). is_disk_fault answer || b) (fault_both h es) ∙ either_on (is_disk_fault answer) (has_fault h) (has_fault es)

-- a disk failed in them where it did in one of their entries
pub fault_in : (groups : List (List Entry)) → have_fault groups ≡ has_fault (flattened groups)
fault_in [] = refl
fault_in (es ∷ rest) = ap (λ (b : Bool). has_fault es || b) (fault_in rest) ∙ sym (fault_both es (flattened rest))

-- ---- what a failing disk leaves

nothing_left : (b : Bool) (s : State) (reading : ℕ) (call : Call) (es : List Entry) → AreUndecided s es [] → MatchBool b ((own others : List Event) × ([] ≡ own ++ others) × MayLeave s reading call own × AreUndecided (replayed s own) es others) (AreUndecided s es [])
nothing_left true s reading call es rest = ([], [], refl, inl refl, rest)
nothing_left false s reading call es rest = rest

-- of each call nothing
pub none_undecided : (s : State) (h : List Entry) → AreUndecided s h []
none_undecided s [] = refl
none_undecided s (Ticked seat t ∷ es) = none_undecided s es
none_undecided s (Replied seat reading call answer ∷ es) = nothing_left (is_disk_fault answer) s reading call es (none_undecided s es)

-- and of one call more, in the state to which those before it lead
pub more_undecided : (s : State) (h : List Entry) (events own : List Event) (seat reading : ℕ) (call : Call) → AreUndecided s h events → MayLeave (replayed s events) reading call own → AreUndecided s (h ++ Replied seat reading call (Err DiskFault) ∷ []) (events ++ own)
more_undecided s [] events own seat reading call none may =
    (own, [], ap (λ (l : List Event). l ++ own) none ∙ sym (append-nil own), subst (λ (l : List Event). MayLeave (replayed s l) reading call own) none may, refl)
more_undecided s (Ticked seat_1 t ∷ es) events own seat reading call are may = more_undecided s es events own seat reading call are may
more_undecided s (Replied seat_1 reading_1 call_1 answer ∷ es) events own seat reading call are may =
    by_bool (is_disk_fault answer) _ _ _ _ are
    (λ fault had. (
      had.0,
      had.1 ++ own,
      ap (λ (l : List Event). l ++ own) had.2 ∙ append_assoc had.0 had.1 own,
      had.3,
      more_undecided (replayed s had.0) es had.1 own seat reading call had.4 (subst (λ (x : State). MayLeave x reading call own) (ap (replayed s) had.2 ∙ replayed_on s had.0 had.1) may),
    ))
    (λ none had. more_undecided s es events own seat reading call had may)
