-- What an entry that is answered anew says of its act's row.
use Rattle.std.proofs.Common.{Bool, Err, List, None, Ok, Option, Result, Some, [], ap, false, length, nat_lt, not, refl, subst, sym, true, ℕ, ◌&&◌, ◌==◌, ◌∙◌, ◌≡◌}
use Rattle.std.specs.Prelude.{MatchBool, if◌then◌else◌, is_some}
use Rattle.sb_laws.proofs.Outcomes.{forgot_act, no_key}
use Rattle.sb_laws.proofs.Rows.{Of, answered_so}
use Rattle.sb_machine.specs.Accounts.{entry_changes}
use Rattle.sb_machine.specs.Acts.{act_row, bad_call, is_via_in, row_of}
use Rattle.sb_machine.specs.Answers.{answer_in, answer_of, changes_of, moment_of}
use Rattle.sb_machine.specs.Changes.{is_numbered}
use Rattle.sb_machine.specs.Due.{is_due}
use Rattle.sb_machine.specs.Fields.{Key, bad_field, bad_part}
use Rattle.sb_machine.specs.History.{IsAllowed, IsAnswer, Log, is_end, is_fault, is_spent, is_stopped, stops}
use Rattle.sb_machine.specs.Repeats.{Outcome, acted, by_number, client_of, for_client, forgot, kept_for, max_clients, of_answer, of_row, outcome_of, refused, repeated, with_clients}
use Rattle.sb_machine.specs.Rows.{Row, answers, numbered, refused_by, refuses}
use Rattle.sb_machine.specs.Same.{same_act}
use Rattle.sb_machine.specs.declared.call.Act.{Act}
use Rattle.sb_machine.specs.declared.call.Act.TheVariants.{ForgetClient, Look}
use Rattle.sb_machine.specs.declared.call.By.{By}
use Rattle.sb_machine.specs.declared.call.Call.{Call}
use Rattle.sb_machine.specs.declared.change.Change.{Change}
use Rattle.sb_machine.specs.declared.history.Entry.TheVariants.{Answered as Replied}
use Rattle.sb_machine.specs.declared.reply.Answered.{Answered}
use Rattle.sb_machine.specs.declared.reply.Answered.TheVariants.{New}
use Rattle.sb_machine.specs.declared.reply.Refusal.{Refusal}
use Rattle.sb_machine.specs.declared.reply.Refusal.TheVariants.{ClientNotFound, ClientsFull, DiskFault, Exhausted, NumberReused, StaleNumber, Stopped}
use Rattle.sb_machine.specs.declared.reply.Reply.{Reply}
use Rattle.sb_machine.specs.declared.state.Kept.{Kept}
use Rattle.sb_machine.specs.declared.state.Space.{Space}
use Rattle.sb_machine.specs.declared.state.State.{State}

-- ---- from what a call came to, to its act's row

pub acts_so : (q reply : Reply) (ds cs : List Change) → acted q ds ≡ acted reply cs → (q ≡ reply) × (ds ≡ cs)
acts_so q reply ds cs e = (cc, cc)

pub answers_so : (q reply : Reply) (ds cs : List Change) → answers q ds ≡ answers reply cs → (q ≡ reply) × (ds ≡ cs)
answers_so q reply ds cs e = (cc, cc)

pub never_acts : (b : Bool) (name : List ℕ) (reply : Reply) (cs : List Change) → (if b then forgot name else refused ClientNotFound) ≡ acted reply cs → ⊥
never_acts true name reply cs e = absurd cc
never_acts false name reply cs e = absurd cc

same_changes : (clients : List Kept) (act : Act) (q reply : Reply) (ds cs : List Change) → of_answer clients act q ds ≡ acted reply cs → ds ≡ cs
same_changes clients (ForgetClient name) q reply ds cs e = absurd (never_acts (is_some (kept_for name clients)) name reply cs e)
same_changes clients (Look what) q reply ds cs e = (acts_so (with_clients clients what q) reply ds cs e).1
same_changes clients act q reply ds cs e = (acts_so q reply ds cs e).1

-- an act's row, with the changes of its outcome, and the reply that was told for it
pub record Told (clients : List Kept) (act : Act) (row : Row) (reply : Reply) (cs : List Change) : Type 0 where
  pub answer : Reply
  pub row_is : row ≡ answers answer cs
  pub told : of_answer clients act answer cs ≡ acted reply cs

of_outcome : (clients : List Kept) (act : Act) (row : Row) (reply : Reply) (cs : List Change) → of_row clients act row ≡ acted reply cs → Told clients act row reply cs
of_outcome clients act (refuses r) reply cs e = absurd cc
of_outcome clients act (answers q ds) reply cs e =
    let same : ds ≡ cs = same_changes clients act q reply ds cs e in
    record { answer = q; row_is = ap (λ (l : List Change). answers q l) same; told = subst (λ (l : List Change). of_answer clients act q l ≡ acted reply cs) same e }

pub told_row : (s : State) (t : ℕ) (call : Call) (reply : Reply) (cs : List Change) → outcome_of s t call ≡ acted reply cs → Told s.clients call.act (row_of s.space t call.by call.act) reply cs
told_row s t call reply cs is = at (client_of call) is where
  at : (by : Option By) → for_client by call.act s.clients (of_row s.clients call.act (row_of s.space t call.by call.act)) ≡ acted reply cs → Told s.clients call.act (row_of s.space t call.by call.act) reply cs
  at None is = of_outcome s.clients call.act (row_of s.space t call.by call.act) reply cs is
  at (Some by) is = on (kept_for by.client s.clients) is where
    on : (o : Option Kept) → by_number by call.act s.clients o (of_row s.clients call.act (row_of s.space t call.by call.act)) ≡ acted reply cs → Told s.clients call.act (row_of s.space t call.by call.act) reply cs
    on None is = room (nat_lt (length s.clients) max_clients) is where
      room : (b : Bool) → (if b then of_row s.clients call.act (row_of s.space t call.by call.act) else refused ClientsFull) ≡ acted reply cs → Told s.clients call.act (row_of s.space t call.by call.act) reply cs
      room true is = of_outcome s.clients call.act (row_of s.space t call.by call.act) reply cs is
      room false is = absurd cc
    on (Some k) is = go (nat_lt by.number k.number) (by.number == k.number) (same_act k.act call.act) is where
      go : (a b c : Bool) → (if a then refused (StaleNumber k.number) else (if b then (if c then repeated k.reply else refused NumberReused) else of_row s.clients call.act (row_of s.space t call.by call.act))) ≡ acted reply cs → Told s.clients call.act (row_of s.space t call.by call.act) reply cs
      go true b c is = absurd cc
      go false true true is = absurd cc
      go false true false is = absurd cc
      go false false c is = of_outcome s.clients call.act (row_of s.space t call.by call.act) reply cs is

-- whether an act always comes to what its row says, whatever is remembered of clients
abbrev pub goes_by_row : Act → Bool
goes_by_row (ForgetClient name) = false
goes_by_row (Look what) = false
goes_by_row _ = true

same_reply : (clients : List Kept) (act : Act) (q reply : Reply) (cs : List Change) → goes_by_row act ≡ true → of_answer clients act q cs ≡ acted reply cs → q ≡ reply
same_reply clients (ForgetClient name) q reply cs plain e = absurd cc
same_reply clients (Look what) q reply cs plain e = absurd cc
same_reply clients act q reply cs plain e = (acts_so q reply cs cs e).0

pub acted_row : (s : State) (t : ℕ) (call : Call) (reply : Reply) (cs : List Change) → goes_by_row call.act ≡ true → outcome_of s t call ≡ acted reply cs → row_of s.space t call.by call.act ≡ answers reply cs
acted_row s t call reply cs plain is =
    let row = told_row s t call reply cs is in
    row.row_is ∙ ap (λ (q : Reply). answers q cs) (same_reply s.clients call.act row.answer reply cs plain row.told)

numbered_so : (t : ℕ) (s : Space) (row : Row) (reply : Reply) (cs : List Change) → numbered t s row ≡ answers reply cs → (row ≡ answers reply cs) × (is_numbered t cs s ≡ true)
numbered_so t s (refuses r) reply cs e = absurd cc
numbered_so t s (answers q ds) reply cs e = at (is_numbered t ds s) refl e where
  at : (b : Bool) → is_numbered t ds s ≡ b → (if b then answers q ds else refuses Exhausted) ≡ answers reply cs → (answers q ds ≡ answers reply cs) × (is_numbered t cs s ≡ true)
  at true is e = (e, subst (λ (l : List Change). is_numbered t l s ≡ true) (answers_so q reply ds cs e).1 is)
  at false is e = absurd cc

unrefused : (o : Option Refusal) (row : Row) (reply : Reply) (cs : List Change) → refused_by o row ≡ answers reply cs → (o ≡ None) × (row ≡ answers reply cs)
unrefused None row reply cs e = (refl, e)
unrefused (Some r) row reply cs e = absurd cc

-- its fields are in range, its numbers fit, and this is its act's row
pub record Accepted (s : Space) (t : ℕ) (by : Option By) (act : Act) (reply : Reply) (cs : List Change) : Type 0 where
  pub fields : bad_field (is_via_in s act) act by ≡ None
  pub numbers : is_numbered t cs s ≡ true
  pub row : act_row s t act ≡ answers reply cs

pub accepted_so : (s : Space) (t : ℕ) (by : Option By) (act : Act) (reply : Reply) (cs : List Change) → row_of s t by act ≡ answers reply cs → Accepted s t by act reply cs
accepted_so s t by act reply cs is =
    let counted = numbered_so t s (refused_by (bad_call (bad_part act) (bad_field (is_via_in s act) act by)) (act_row s t act)) reply cs is in
    let judged = unrefused (bad_call (bad_part act) (bad_field (is_via_in s act) act by)) (act_row s t act) reply cs counted.0 in
    record { fields = no_key (bad_part act) (bad_field (is_via_in s act) act by) judged.0; numbers = counted.1; row = judged.1 }

-- an act whose fields are in range and whose numbers fit comes to what its row says
pub row_goes : (s : Space) (t : ℕ) (part : Option ℕ) (key : Key) (row : Row) (reply : Reply) (cs : List Change) → key ≡ None → row ≡ answers reply cs → is_numbered t cs s ≡ true → numbered t s (refused_by (bad_call part key) row) ≡ answers reply cs
row_goes s t part key row reply cs good is fits = ap (λ (k : Key). numbered t s (refused_by (bad_call part k) row)) good ∙ ap (numbered t s) is ∙ ap (λ (b : Bool). if b then answers reply cs else refuses Exhausted) fits

-- what holds of what a row answers
pub answered_in : (R : Refusal → Type 0) (P : Reply → List Change → Type 0) (row : Row) (reply : Reply) (cs : List Change) → Of R P row → row ≡ answers reply cs → P reply cs
answered_in R P row reply cs h is = of (subst (Of R P) is h) where
  of : Of R P (answers reply cs) → P reply cs
  of (answered_so h) = h

-- ---- from an entry to what its call came to

-- what a call is answered behind a stop is a fault
pub end_fault : (failing : Bool) (a : Result Answered Refusal) → is_end failing a ≡ true → is_fault a ≡ true
end_fault true (Ok r) e = absurd cc
end_fault false (Ok r) e = absurd cc
end_fault true (Err r) e = on r e where
  on : (r : Refusal) → stops (Err r) ≡ true → is_fault (Err r) ≡ true
  on DiskFault e = refl
  on (Stopped n) e = refl
  on _ e = absurd cc
end_fault false (Err r) e = on r e where
  on : (r : Refusal) → is_stopped (Err r) ≡ true → is_fault (Err r) ≡ true
  on (Stopped n) e = refl
  on _ e = absurd cc

pub record IsNew (l : Log) (reading : ℕ) (call : Call) (reply : Reply) : Type 0 where
  pub quiet : is_due (moment_of l.state reading) l.state.space ≡ false
  pub changes : List Change
  pub acted_so : outcome_of l.state (moment_of l.state reading) call ≡ acted reply changes

-- what was answered anew acted, where no client was forgotten
new_so : (o : Outcome) (reply : Reply) → ((name : List ℕ) → o ≡ forgot name → ⊥) → answer_in o ≡ Ok (New reply) → (cs : List Change) × (o ≡ acted reply cs)
new_so (refused r) reply none e = absurd cc
new_so (repeated q) reply none e = absurd cc
new_so (forgot name) reply none e = absurd (none name refl)
new_so (acted q cs) reply none e = (cs, on q e) where
  on : (q : Reply) → answer_in (acted q cs) ≡ Ok (New reply) → acted q cs ≡ acted reply cs
  on q e = cc

pub answered_new : (l : Log) (seat reading : ℕ) (call : Call) (answer : Result Answered Refusal) (reply : Reply) → goes_by_row call.act ≡ true → IsAllowed l (Replied seat reading call answer) → answer ≡ Ok (New reply) → IsNew l reading call reply
answered_new l seat reading call answer reply plain allowed said = at l.stopped allowed.1 where
  unforgotten : (name : List ℕ) → outcome_of l.state (moment_of l.state reading) call ≡ forgot name → ⊥
  unforgotten name is = let never : false ≡ true = sym (ap goes_by_row (forgot_act l.state (moment_of l.state reading) call name is)) ∙ plain in absurd cc

  fine : is_fault answer ≡ false
  fine = rw said refl

  machine : (b : Bool) → is_due (moment_of l.state reading) l.state.space ≡ b → MatchBool b ((is_spent l.state (moment_of l.state reading) ≡ true) × (answer ≡ Err Exhausted)) (answer ≡ answer_of l.state (moment_of l.state reading) call) → IsNew l reading call reply
  machine true due is = let bad : Ok (New reply) ≡ Err Exhausted = sym said ∙ is.1 in absurd cc
  machine false none is = let o = new_so (outcome_of l.state (moment_of l.state reading) call) reply unforgotten (sym is ∙ said) in record { quiet = none; changes = o.0; acted_so = o.1 }

  at : (b : Bool) → MatchBool b (is_end l.failing answer ≡ true) (is_fault answer ≡ false → IsAnswer l.state (moment_of l.state reading) call answer) → IsNew l reading call reply
  at true ended = let bad : true ≡ false = sym (end_fault l.failing answer ended) ∙ fine in absurd cc
  at false may = machine (is_due (moment_of l.state reading) l.state.space) refl (may fine)

-- its changes are those of its entry
pub entry_new : (l : Log) (seat reading : ℕ) (call : Call) (answer : Result Answered Refusal) (reply : Reply) (new : IsNew l reading call reply) → answer ≡ Ok (New reply) → entry_changes l (Replied seat reading call answer) ≡ new.changes
entry_new l seat reading call answer reply new said =
    let fine : is_fault answer ≡ false = rw said refl in
    let t = moment_of l.state reading in
    let o = outcome_of l.state t call in
    ap (λ (f : Bool). if not f && not (is_due t l.state.space) then changes_of o else []) fine ∙ ap (λ (d : Bool). if not d then changes_of o else []) new.quiet ∙ ap changes_of new.acted_so

-- what is no fault where nothing is due is the machine's answer
pub machine_answer : (l : Log) (seat reading : ℕ) (call : Call) (answer : Result Answered Refusal) → IsAllowed l (Replied seat reading call answer) → is_fault answer ≡ false → is_due (moment_of l.state reading) l.state.space ≡ false → answer ≡ answer_of l.state (moment_of l.state reading) call
machine_answer l seat reading call answer allowed fine quiet = at l.stopped allowed.1 where
  machine : (b : Bool) → is_due (moment_of l.state reading) l.state.space ≡ b → MatchBool b ((is_spent l.state (moment_of l.state reading) ≡ true) × (answer ≡ Err Exhausted)) (answer ≡ answer_of l.state (moment_of l.state reading) call) → answer ≡ answer_of l.state (moment_of l.state reading) call
  machine true due is = let bad : true ≡ false = sym due ∙ quiet in absurd cc
  machine false none is = is

  at : (b : Bool) → MatchBool b (is_end l.failing answer ≡ true) (is_fault answer ≡ false → IsAnswer l.state (moment_of l.state reading) call answer) → answer ≡ answer_of l.state (moment_of l.state reading) call
  at true ended = let bad : true ≡ false = sym (end_fault l.failing answer ended) ∙ fine in absurd cc
  at false may = machine (is_due (moment_of l.state reading) l.state.space) refl (may fine)
