-- Events that are staged, one behind another, and their sealing.
use Rattle.std.proofs.Common.{◌≡◌, ◌≢◌, inl, inr, ℕ, ◌+◌, List, [], ◌∷◌, ◌++◌, length, map, Option, Some, None, Result, Ok, Err, true, false, true≢false, refl, sym, ◌∙◌, ap, subst, arith, append_assoc, length-append}
use Rattle.std.specs.Prelude.{IfErr}
use Rattle.std.proofs.lemmas.List.{append-nil, map-append, nil_from_length}
use Rattle.sb_outside.specs.declared.disk.Disk.{Ghosts}
use Rattle.sb_codec.specs.EventBytes.{read_event}
use Rattle.sb_desk.specs.Entries.{counted}
use Rattle.sb_journal.specs.declared.journal.Journal.{Journal}
use Rattle.sb_journal.specs.Choosing.{turned}
use Rattle.sb_journal.specs.Disks.{EachPair}
use Rattle.sb_journal.specs.Journals.{journal_aside, journal_disks, journal_side, HoldsFile, HoldsStaged}
use Rattle.sb_journal.specs.Opened.{FindsFile, FindsNoneOrAll}
use Rattle.sb_journal.specs.Text.{File, first_gate, with_payloads, IsWithin}
use Rattle.sb_journal.proofs.Holding.{aside_still, side_same}
use Rattle.sb_journal.proofs.Pairs.{started_pair, still_pairs, weaker_pair}
use Rattle.sb_machine.specs.History.{is_disk_fault}
use Rattle.sb_machine.specs.declared.call.Call.{Call}
use Rattle.sb_machine.specs.declared.call.Event.{Event}
use Rattle.sb_machine.specs.declared.reply.Answered.{Answered}
use Rattle.sb_machine.specs.declared.reply.Refusal.{Refusal}
use Rattle.sb_machine.specs.declared.reply.Refusal.TheVariants.{DiskFault, OutOfMemory}
use Rattle.sb_machine.specs.declared.state.State.{State}
use Rattle.sb_recorder.specs.Recorders.{HasStaged, IsUnwritten}
use Rattle.sb_node.specs.declared.ahead.Ahead.{Ahead}
use Rattle.sb_node.specs.Ahead.{ahead_journal, ahead_last, ahead_staged, ahead_state, IsAhead, IsSealed, IsUnmoved, StagesEvents}
use Rattle.sb_node.specs.Nodes.{HoldsState, LeadsToOneOf, StayOneOf}
use Rattle.sb_node.specs.Recovery.{base_state, next_state, replay_file, replay_from, reaches}
use Rattle.sb_node.specs.Steps.{IsAnswered, IsTickFault}
use Rattle.sb_node.proofs.Crashes.{found_leads}
use Rattle.sb_node.proofs.Gates.{replay_from-push}

-- none is staged behind the file that is held
pub none_ahead : {D : Type 0} {B : Ghosts D} (j : Journal D B) (last : ℕ) (s : State) (kept : HoldsState j last s) → StagesEvents j last 0 kept.file [] s
none_ahead j last s kept = record {
  staged = [];
  holds = kept.holds;
  reads = refl;
  leads = ap (replay_from (base_state kept.file.salt kept.file.base) (first_gate kept.file)) (append-nil kept.file.payloads) ∙ kept.leads;
  number = kept.number;
  count_is = refl;
}

one_counted : (file : File) (staged : List (List ℕ)) (payload : List ℕ) (count after : ℕ) → IsWithin (with_payloads file (staged ++ payload ∷ [])) → count ≡ length staged → after ≡ counted (count + 1) → after ≡ length (staged ++ payload ∷ [])
one_counted file staged payload count after within is counts =
    let few = within.few in
    let least = within.first_least in
    omega (arith, few, least, is, counts, length-append staged (payload ∷ []), length-append file.payloads (staged ++ payload ∷ []))

-- one event more leads to the state after it
pub one_staged : {D : Type 0} {B : Ghosts D} (j new : Journal D B) (last last_after count count_after : ℕ) (file : File) (events : List Event) (s after : State) (event : Event) (ahead : StagesEvents j last count file events s) → HasStaged new file ahead.staged event → last_after ≡ last → count_after ≡ counted (count + 1)
    → next_state s (Some event) ≡ Some after → StagesEvents new last_after count_after file (events ++ event ∷ []) after
one_staged j new last last_after count count_after file events s after event ahead more same counts taken = record {
  staged = ahead.staged ++ more.payload ∷ [];
  holds = more.holds;
  reads =
      map-append read_event ahead.staged (more.payload ∷ [])
      ∙ ap (λ (o : Option Event). map read_event ahead.staged ++ o ∷ []) more.reads
      ∙ ap (λ (l : List (Option Event)). l ++ Some event ∷ []) ahead.reads
      ∙ sym (map-append Some events (event ∷ []));
  leads =
      ap (replay_from (base_state file.salt file.base) (first_gate file)) (sym (append_assoc file.payloads ahead.staged (more.payload ∷ [])))
      ∙ replay_from-push (base_state file.salt file.base) s after (first_gate file) (file.payloads ++ ahead.staged) more.payload ahead.leads (ap (next_state s) more.reads ∙ taken);
  number = ap (λ (n : ℕ). n + 1) same ∙ ahead.number;
  count_is = one_counted file ahead.staged more.payload count count_after more.holds.within ahead.count_is counts;
}

-- none more
pub none_staged : {D : Type 0} {B : Ghosts D} (j new : Journal D B) (last last_after count count_after : ℕ) (file : File) (events none : List Event) (s after : State) → StagesEvents j last count file events s → new ≡ j → last_after ≡ last → count_after ≡ count → after ≡ s → none ≡ []
    → StagesEvents new last_after count_after file (events ++ none) after
none_staged {D} {B} j new last last_after count count_after file events none s after ahead same_journal same_last same_count same_state nothing =
    subst (λ (x : Journal D B). StagesEvents x last_after count_after file (events ++ none) after) (sym same_journal)
    (subst (λ (n : ℕ). StagesEvents j n count_after file (events ++ none) after) (sym same_last)
    (subst (λ (n : ℕ). StagesEvents j last n file (events ++ none) after) (sym same_count)
    (subst (λ (x : State). StagesEvents j last count file (events ++ none) x) (sym same_state)
    (subst (λ (l : List Event). StagesEvents j last count file l s) (sym (ap (λ (l : List Event). events ++ l) nothing ∙ append-nil events)) ahead))))

-- where nothing was moved
pub unmoved_staged : {D : Type 0} {B : Ghosts D} (old new : Ahead D B) (file : File) (events none : List Event) → IsUnmoved old new → ahead_last new ≡ ahead_last old → none ≡ [] → IsAhead old file events → IsAhead new file (events ++ none)
unmoved_staged old new file events none still last nothing ahead =
    none_staged (ahead_journal old) (ahead_journal new) (ahead_last old) (ahead_last new) (ahead_staged old) (ahead_staged new) file events none (ahead_state old) (ahead_state new) ahead still.journal last still.staged still.state nothing

-- behind what is the same
pub unmoved_behind : {D : Type 0} {B : Ghosts D} (old mid new : Ahead D B) → mid ≡ old → IsUnmoved mid new → IsUnmoved old new
unmoved_behind {D} {B} old mid new same still = subst (λ (a : Ahead D B). IsUnmoved a new) same still

-- ---- its moments

-- of a call that touches no disk
pub staged_still : {D : Type 0} {B : Ghosts D} (j : Journal D B) (last count : ℕ) (file : File) (events : List Event) (s : State) → StagesEvents j last count file events s → EachPair (journal_disks j) (journal_disks j) (FindsFile file)
staged_still j last count file events s ahead = started_pair (journal_disks j) (FindsFile file) ahead.holds.leaves

-- of two calls, one behind the other
pub pairs_behind : {D : Type 0} {B : Ghosts D} (j mid new : Journal D B) (P : List ℕ → List ℕ → Type 0) → journal_aside mid ≡ journal_aside j → journal_aside new ≡ journal_aside mid → EachPair (journal_disks j) (journal_disks mid) P → EachPair (journal_disks mid) (journal_disks new) P
    → EachPair (journal_disks j) (journal_disks new) P
pairs_behind j mid new P same stays first second =
    let side = journal_side j in
    still_pairs (turned side) (journal_disks j) (journal_disks mid) (journal_disks new) P (aside_still j mid side refl same) (aside_still mid new side (sym (side_same j mid same)) stays) first second

-- ---- the sealing

sealed_number : (file : File) (staged : List (List ℕ)) (last count after : ℕ) → IsWithin (with_payloads file staged) → last + 1 ≡ file.first + length file.payloads → count ≡ length staged → after ≡ counted (last + count) → after + 1 ≡ file.first + length (file.payloads ++ staged)
sealed_number file staged last count after within number is counts = let few = within.few in omega (arith, few, number, is, counts, length-append file.payloads staged)

pub sealed_is : {D : Type 0} {B : Ghosts D} (j new : Journal D B) (last count after : ℕ) (file : File) (events : List Event) (s state : State) (ahead : StagesEvents j last count file events s) → after ≡ counted (last + count) → state ≡ s → HoldsFile new (with_payloads file ahead.staged) → IsSealed new after file events state
sealed_is j new last count after file events s state ahead counts same holds = record {
  kept = record {
    file = with_payloads file ahead.staged;
    holds = holds;
    leads = ahead.leads ∙ ap reaches (sym same);
    number = sealed_number file ahead.staged last count after ahead.holds.within ahead.number ahead.count_is counts;
  };
  reads = map-append read_event file.payloads ahead.staged ∙ ap (λ (l : List (Option Event)). map read_event file.payloads ++ l) ahead.reads;
}

-- where none are staged it is the file that is held
sealed_of : {D : Type 0} {B : Ghosts D} (j : Journal D B) (last : ℕ) (file : File) (events : List Event) (s : State) (staged : List (List ℕ)) → staged ≡ [] → HoldsStaged j file staged → map read_event staged ≡ map Some events → replay_file (with_payloads file staged) ≡ reaches s → last + 1 ≡ file.first + length file.payloads
    → IsSealed j last file events s
sealed_of j last file events s [] none holds reads leads number = record {
  kept = record {
    file = file;
    holds = holds;
    leads = ap (replay_from (base_state file.salt file.base) (first_gate file)) (sym (append-nil file.payloads)) ∙ leads;
    number = number;
  };
  reads = sym (append-nil (map read_event file.payloads)) ∙ ap (λ (l : List (Option Event)). map read_event file.payloads ++ l) reads;
}
sealed_of j last file events s (p ∷ ps) none holds reads leads number = absurd cc

pub sealed_none : {D : Type 0} {B : Ghosts D} (j : Journal D B) (last count : ℕ) (file : File) (events : List Event) (s : State) → count ≡ 0 → StagesEvents j last count file events s → IsSealed j last file events s
sealed_none j last count file events s none ahead = sealed_of j last file events s ahead.staged (nil_from_length ahead.staged (sym ahead.count_is ∙ none)) ahead.holds ahead.reads ahead.leads ahead.number

-- a crash leads to the state before the events, or to that after all of them
pub sealing_leads : {D : Type 0} {B : Ghosts D} (j new : Journal D B) (last count : ℕ) (file : File) (events : List Event) (s before : State) (ahead : StagesEvents j last count file events s) → replay_file file ≡ reaches before → EachPair (journal_disks j) (journal_disks new) (FindsNoneOrAll file ahead.staged)
    → StayOneOf (journal_disks j) (journal_disks new) (before ∷ s ∷ [])
sealing_leads j new last count file events s before ahead leads run = weaker_pair (journal_disks j) (journal_disks new) (FindsNoneOrAll file ahead.staged) (LeadsToOneOf (before ∷ s ∷ [])) each run
  where
    each : (a b : List ℕ) → FindsNoneOrAll file ahead.staged a b → LeadsToOneOf (before ∷ s ∷ []) a b
    each a b (inl is) = inl (found_leads file before a b is leads)
    each a b (inr is) = inr (inl (found_leads (with_payloads file ahead.staged) s a b is ahead.leads))

-- where nothing is done it leads to the first
pub staged_leads : {D : Type 0} {B : Ghosts D} (j : Journal D B) (last count : ℕ) (file : File) (events : List Event) (s before : State) → StagesEvents j last count file events s → replay_file file ≡ reaches before → StayOneOf (journal_disks j) (journal_disks j) (before ∷ s ∷ [])
staged_leads j last count file events s before ahead leads =
    weaker_pair (journal_disks j) (journal_disks j) (FindsFile file) (LeadsToOneOf (before ∷ s ∷ [])) (λ a b is. inl (found_leads file before a b is leads)) (staged_still j last count file events s ahead)

-- ---- what wasn't staged

-- what is said of an error that isn't the disk's, and what holds of each
pub with_rest : {T E : Type 0} (r : Result T E) (N P : E → Type 0) (Q : Type 0) → IfErr r P → Q → IfErr r (λ e. N e → P e × Q)
with_rest (Ok x) N P Q is rest = tt
with_rest (Err e) N P Q is rest = λ other. (is, rest)

pub unstaged_tick : {D : Type 0} {B : Ghosts D} (j new : Journal D B) (t : ℕ) (s : State) (e : Refusal) → IsUnwritten j new e → e ≢ DiskFault → IsTickFault t s None e × (new ≡ j)
unstaged_tick j new t s OutOfMemory is other = (refl, is)
unstaged_tick j new t s DiskFault is other = absurd (other refl)
unstaged_tick j new t s _ is other = absurd is

pub unstaged_want : {D : Type 0} {B : Ghosts D} (j new : Journal D B) (e : Refusal) → IsUnwritten j new e → e ≢ DiskFault → (e ≡ OutOfMemory) × (new ≡ j)
unstaged_want j new OutOfMemory is other = (refl, is)
unstaged_want j new DiskFault is other = absurd (other refl)
unstaged_want j new _ is other = absurd is

pub want_answered : (t : ℕ) (call : Call) (s after : State) (e : Refusal) → e ≡ OutOfMemory → after ≡ s → IsAnswered t call s (Err e) None after
want_answered t call s after e is same = subst (λ r. IsAnswered t call s (Err r) None after) (sym is) (record { machine = λ sound. absurd cc; fault = λ fault. same; stops = refl })

-- ---- whether the disk failed

pub other_answer : (answer : Result Answered Refusal) → is_disk_fault answer ≡ false → answer ≢ Err DiskFault
other_answer answer none is = let never : true ≡ false = sym (ap is_disk_fault is) ∙ none in absurd (true≢false never)

pub other_refusal : (e : Refusal) → is_disk_fault (Err e) ≡ false → e ≢ DiskFault
other_refusal e none is = let never : true ≡ false = sym (ap (λ r. is_disk_fault (Err r)) is) ∙ none in absurd (true≢false never)

pub that_refusal : (e : Refusal) → is_disk_fault (Err e) ≡ true → e ≡ DiskFault
that_refusal DiskFault is = refl
that_refusal _ is = absurd cc

pub that_answer : (answer : Result Answered Refusal) → is_disk_fault answer ≡ true → answer ≡ Err DiskFault
that_answer (Ok answered) is = absurd cc
that_answer (Err e) is = ap Err (that_refusal e is)
