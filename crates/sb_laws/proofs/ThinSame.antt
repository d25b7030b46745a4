-- A message that is a duplicate changes nothing.
use Rattle.std.proofs.Common.{Bool, List, None, Option, Result, Some, [], ap, false, not, refl, subst, sym, true, ℕ, ◌&&◌, ◌++◌, ◌∙◌, ◌∷◌, ◌≡◌}
use Rattle.std.specs.Prelude.{if◌then◌else◌, is_some}
use Rattle.sb_laws.proofs.Answered.{accepted_so, acts_so, machine_answer, never_acts, row_goes, told_row}
use Rattle.sb_laws.proofs.KeptAlike.{forgetting_alike, keeping_alike, newer_acts, newer_alike, without_alike}
use Rattle.sb_laws.proofs.Outcomes.{Comes, IsNewer, comes, comes_acted, comes_forgot, forgot_act}
use Rattle.sb_laws.proofs.Thinning.{Moves, fields_thin, row_thin, takes_thin}
use Rattle.sb_laws.specs.Thin.{Alike, numbers_kept}
use Rattle.sb_machine.specs.Accounts.{event_of}
use Rattle.sb_machine.specs.Acts.{act_row, is_via_in, row_of}
use Rattle.sb_machine.specs.Answers.{answer_in, is_change, keeping, moment_of, state_in, state_of, without_client}
use Rattle.sb_machine.specs.Changes.{after_all}
use Rattle.sb_machine.specs.Due.{is_due, tick_changes}
use Rattle.sb_machine.specs.Events.{after_event, replayed, thin_act, thin_call, thinned}
use Rattle.sb_machine.specs.Fields.{bad_field, bad_part}
use Rattle.sb_machine.specs.History.{IsAllowed, IsLegal, IsLegalFrom, Log, after_entries, after_entry, fresh_log, is_fault, state_after}
use Rattle.sb_machine.specs.Repeats.{Outcome, acted, client_of, forgot, kept_for, of_answer, of_row, outcome_of, refused, repeated, with_clients}
use Rattle.sb_machine.specs.Rows.{Row, answers, refuses}
use Rattle.sb_machine.specs.declared.call.Act.{Act}
use Rattle.sb_machine.specs.declared.call.Act.TheVariants.{ForgetClient, Look, Send}
use Rattle.sb_machine.specs.declared.call.By.{By}
use Rattle.sb_machine.specs.declared.call.Call.{Call}
use Rattle.sb_machine.specs.declared.call.Event.{Event}
use Rattle.sb_machine.specs.declared.call.Event.TheVariants.{Called, Tick}
use Rattle.sb_machine.specs.declared.change.Change.{Change}
use Rattle.sb_machine.specs.declared.history.Entry.{Entry}
use Rattle.sb_machine.specs.declared.history.Entry.TheVariants.{Ticked, Answered as Replied}
use Rattle.sb_machine.specs.declared.reply.Answered.{Answered}
use Rattle.sb_machine.specs.declared.reply.Refusal.{Refusal}
use Rattle.sb_machine.specs.declared.reply.Reply.{Reply}
use Rattle.sb_machine.specs.declared.reply.Reply.TheVariants.{Done}
use Rattle.sb_machine.specs.declared.state.Kept.{Kept}
use Rattle.sb_machine.specs.declared.state.Space.{Space}
use Rattle.sb_machine.specs.declared.state.State.{State}

-- ---- a call without its duplicates, at a state that is alike

abbrev thin : Reply → Call → Call
thin reply call = record call { act = thin_act reply call.act }

same_client : (reply : Reply) (call : Call) → client_of (thin reply call) ≡ client_of call
same_client reply call = ap (λ (b : Bool). if b then call.by else None) (takes_thin reply call.act)

pub record Acts (o : Outcome) (cs : List Change) : Type 0 where
  pub reply : Reply
  pub is : o ≡ acted reply cs

-- what is told of clients makes no difference to which messages are sent
same_thin : (clients : List Kept) (act : Act) (q reply : Reply) (cs : List Change) → of_answer clients act q cs ≡ acted reply cs → thin_act q act ≡ thin_act reply act
same_thin clients (ForgetClient name) q reply cs e = refl
same_thin clients (Look what) q reply cs e = refl
same_thin clients act q reply cs e = ap (λ (r : Reply). thin_act r act) (acts_so q reply cs cs e).0

-- what acted in one acts in the other, with the same changes
acts_also : (others clients : List Kept) (act : Act) (q reply told : Reply) (cs : List Change) → of_answer clients act q cs ≡ acted told cs → Acts (of_answer others (thin_act told act) reply cs) cs
acts_also others clients (ForgetClient name) q reply told cs e = absurd (never_acts (is_some (kept_for name clients)) name told cs e)
acts_also others clients (Look what) q reply told cs e = record { reply = with_clients others what reply; is = refl }
acts_also others clients (Send to ms None) q reply told cs e = record { reply = reply; is = refl }
acts_also others clients (Send to ms (Some x)) q reply told cs e = record { reply = reply; is = refl }
acts_also others clients act q reply told cs e = record { reply = reply; is = refl }

outcome_thin : (a s : State) (t : ℕ) (call : Call) (reply : Reply) (cs : List Change) → Alike a s → outcome_of s t call ≡ acted reply cs → Acts (outcome_of a t (thin reply call)) cs
outcome_thin a s t call reply cs like is =
    let told = told_row s t call reply cs is in
    let row = accepted_so s.space t call.by call.act told.answer cs told.row_is in
    let moves : Moves (act_row s.space t (thin_act reply call.act)) cs = subst (λ (act : Act). Moves (act_row s.space t act) cs) (same_thin s.clients call.act told.answer reply cs told.told) (row_thin s.space t call.act told.answer cs row.row) in
    let goes : row_of s.space t call.by (thin_act reply call.act) ≡ answers moves.reply cs = row_goes s.space t (bad_part (thin_act reply call.act)) (bad_field (is_via_in s.space (thin_act reply call.act)) (thin_act reply call.act) call.by) (act_row s.space t (thin_act reply call.act)) moves.reply cs (fields_thin s.space reply call.act call.by row.fields) moves.is row.numbers in
    let there : row_of a.space t call.by (thin_act reply call.act) ≡ answers moves.reply cs = subst (λ (p : Space). row_of p t call.by (thin_act reply call.act) ≡ answers moves.reply cs) (sym like.space) goes in
    let newer : IsNewer a.clients (client_of (thin reply call)) = subst (IsNewer a.clients) (sym (same_client reply call)) (newer_alike a.clients s.clients (client_of call) like.clients (by (subst (Comes s t call) is (comes s t call)))) in
    let acts = acts_also a.clients s.clients call.act told.answer moves.reply reply cs told.told in
    record { reply = acts.reply; is = newer_acts a.clients (client_of (thin reply call)) (thin_act reply call.act) (of_row a.clients (thin_act reply call.act) (row_of a.space t call.by (thin_act reply call.act))) newer ∙ ap (of_row a.clients (thin_act reply call.act)) there ∙ acts.is }
  where
    by : Comes s t call (acted reply cs) → IsNewer s.clients (client_of call)
    by (comes_acted newer fits) = newer

-- ---- a client is forgotten in both

same_forgotten : (others clients : List Kept) (act : Act) (row : Row) (name : List ℕ) → numbers_kept others ≡ numbers_kept clients → of_row clients act row ≡ forgot name → of_row others act row ≡ forgot name
same_forgotten others clients act (refuses r) name like e = absurd cc
same_forgotten others clients act (answers reply cs) name like e = at act e where
  at : (act : Act) → of_answer clients act reply cs ≡ forgot name → of_answer others act reply cs ≡ forgot name
  at (ForgetClient n) e = forgetting_alike n others clients like ∙ e
  at (Look what) e = absurd cc
  at act e = absurd cc

outcome_forgot : (a s : State) (t : ℕ) (call : Call) (name : List ℕ) → Alike a s → outcome_of s t call ≡ forgot name → outcome_of a t call ≡ forgot name
outcome_forgot a s t call name like is =
    let newer : IsNewer s.clients (client_of call) = by (subst (Comes s t call) is (comes s t call)) in
    let here : of_row s.clients call.act (row_of s.space t call.by call.act) ≡ forgot name = sym (newer_acts s.clients (client_of call) call.act (of_row s.clients call.act (row_of s.space t call.by call.act)) newer) ∙ is in
    let there : of_row a.clients call.act (row_of s.space t call.by call.act) ≡ forgot name = same_forgotten a.clients s.clients call.act (row_of s.space t call.by call.act) name like.clients here in
    newer_acts a.clients (client_of call) call.act (of_row a.clients call.act (row_of a.space t call.by call.act)) (newer_alike a.clients s.clients (client_of call) like.clients newer)
    ∙ ap (λ (p : Space). of_row a.clients call.act (row_of p t call.by call.act)) like.space ∙ there
  where
    by : Comes s t call (forgot name) → IsNewer s.clients (client_of call)
    by (comes_forgot asked newer fits) = newer

-- such a call stays as it is
forgot_thin : (act : Act) (name : List ℕ) → act ≡ ForgetClient name → thin_act Done act ≡ act
forgot_thin (ForgetClient n) name is = refl
forgot_thin act name is = absurd cc

forgot_alike : (a s : State) (t : ℕ) (call : Call) (name : List ℕ) → Alike a s → Alike (state_in a t call (forgot name)) (state_in s t call (forgot name))
forgot_alike a s t call name like = record { now = refl; space = like.space; clients = keeping_alike (client_of call) call.act call.act Done Done (without_client name a.clients) (without_client name s.clients) (without_alike name a.clients s.clients like.clients) }

-- ---- what a call leaves

changed_alike : (a s : State) (t : ℕ) (call other : Call) (reply given : Reply) (cs : List Change) → Alike a s → client_of other ≡ client_of call → is_change (client_of call) (acted reply cs) ≡ true → Alike (state_in a t other (acted given cs)) (state_in s t call (acted reply cs))
changed_alike a s t call other reply given cs like same moved = at (client_of call) (client_of other) cs same moved where
  at : (o p : Option By) (cs : List Change) → p ≡ o → is_change o (acted reply cs) ≡ true
      → Alike (if is_change p (acted given cs) then record { now = t; clients = keeping p other.act given a.clients; space = after_all t cs a.space } else a) (if is_change o (acted reply cs) then record { now = t; clients = keeping o call.act reply s.clients; space = after_all t cs s.space } else s)
  at None None [] same moved = absurd cc
  at None None (c ∷ cs) same moved = record { now = refl; space = ap (after_all t (c ∷ cs)) like.space; clients = like.clients }
  at (Some by) (Some b) cs same moved = subst (λ (p : Option By). Alike (if is_change p (acted given cs) then record { now = t; clients = keeping p other.act given a.clients; space = after_all t cs a.space } else a) (record { now = t; clients = keeping (Some by) call.act reply s.clients; space = after_all t cs s.space })) (sym same)
      (record { now = refl; space = ap (after_all t cs) like.space; clients = keeping_alike (Some by) other.act call.act given reply a.clients s.clients like.clients })
  at (Some by) None cs same moved = absurd cc
  at None (Some b) cs same moved = absurd cc

rests_alike : (a s : State) (t : ℕ) (call : Call) (o : Outcome) → Alike a s → is_change (client_of call) o ≡ false → Alike a (state_in s t call o)
rests_alike a s t call (refused r) like rests = like
rests_alike a s t call (repeated reply) like rests = like
rests_alike a s t call (forgot name) like rests = at (client_of call) rests where
  at : (o : Option By) → is_change o (forgot name) ≡ false → Alike a (state_in s t call (forgot name))
  at None rests = absurd cc
  at (Some by) rests = absurd cc
rests_alike a s t call (acted reply cs) like rests = at (client_of call) cs rests where
  at : (o : Option By) (cs : List Change) → is_change o (acted reply cs) ≡ false → Alike a (if is_change o (acted reply cs) then record { now = t; clients = keeping o call.act reply s.clients; space = after_all t cs s.space } else s)
  at None [] rests = like
  at None (c ∷ cs) rests = absurd cc
  at (Some by) cs rests = absurd cc

-- ---- one entry, and its event

data Follows (a : State) (events : List Event) (later : State) : Type 0 where
  rests : events ≡ [] → Alike a later → Follows a events later
  goes : (event : Event) → events ≡ event ∷ [] → Alike (after_event a event) later → Follows a events later

acted_follows : (a s : State) (t : ℕ) (call : Call) (answer : Result Answered Refusal) (o : Outcome) → answer ≡ answer_in o → outcome_of s t call ≡ o → Alike a s → Follows a (event_of t (thin_call answer call) o) (state_in s t call o)
acted_follows a s t call answer (refused r) said is like = rests (at (client_of (thin_call answer call))) like where
  at : (o : Option By) → ◌≡◌ {A = List Event} (if is_change o (refused r) then Called t (thin_call answer call) ∷ [] else []) []
  at None = refl
  at (Some by) = refl
acted_follows a s t call answer (repeated reply) said is like = rests (at (client_of (thin_call answer call))) like where
  at : (o : Option By) → ◌≡◌ {A = List Event} (if is_change o (repeated reply) then Called t (thin_call answer call) ∷ [] else []) []
  at None = refl
  at (Some by) = refl
acted_follows a s t call answer (forgot name) said is like = goes (Called t call) event (subst (λ (x : State). Alike x (state_in s t call (forgot name))) (sym leads) (forgot_alike a s t call name like)) where
  thin_is : thin_call answer call ≡ call
  thin_is = ap (λ (r : Result Answered Refusal). thin_call r call) said ∙ ap (λ (act : Act). record call { act = act }) (forgot_thin call.act name (forgot_act s t call name is))

  at : (o : Option By) → ◌≡◌ {A = List Event} (if is_change o (forgot name) then Called t call ∷ [] else []) (Called t call ∷ [])
  at None = refl
  at (Some by) = refl

  event : event_of t (thin_call answer call) (forgot name) ≡ Called t call ∷ []
  event = ap (λ (c : Call). event_of t c (forgot name)) thin_is ∙ at (client_of call)

  leads : state_of a t call ≡ state_in a t call (forgot name)
  leads = ap (state_in a t call) (outcome_forgot a s t call name like is)
acted_follows a s t call answer (acted reply cs) said is like = at (is_change (client_of call) (acted reply cs)) refl where
  thin_is : thin_call answer call ≡ thin reply call
  thin_is = ap (λ (r : Result Answered Refusal). thin_call r call) said

  event : event_of t (thin_call answer call) (acted reply cs) ≡ (if is_change (client_of call) (acted reply cs) then Called t (thin reply call) ∷ [] else [])
  event = ap (λ (c : Call). event_of t c (acted reply cs)) thin_is ∙ ap (λ (o : Option By). if is_change o (acted reply cs) then Called t (thin reply call) ∷ [] else []) (same_client reply call)

  at : (b : Bool) → is_change (client_of call) (acted reply cs) ≡ b → Follows a (event_of t (thin_call answer call) (acted reply cs)) (state_in s t call (acted reply cs))
  at false none = rests (event ∙ ap (λ (b : Bool). if b then Called t (thin reply call) ∷ [] else []) none) (rests_alike a s t call (acted reply cs) like none)
  at true moved =
      let acts = outcome_thin a s t call reply cs like is in
      let leads : state_of a t (thin reply call) ≡ state_in a t (thin reply call) (acted acts.reply cs) = ap (state_in a t (thin reply call)) acts.is in
      goes (Called t (thin reply call)) (event ∙ ap (λ (b : Bool). if b then Called t (thin reply call) ∷ [] else []) moved)
      (subst (λ (x : State). Alike x (state_in s t call (acted reply cs))) (sym leads) (changed_alike a s t call (thin reply call) reply acts.reply cs like (same_client reply call) moved))

replied_follows : (a : State) (l : Log) (seat reading : ℕ) (call : Call) (answer : Result Answered Refusal) → IsAllowed l (Replied seat reading call answer) → Alike a l.state
    → Follows a (if not (is_fault answer) && not (is_due (moment_of l.state reading) l.state.space) then event_of (moment_of l.state reading) (thin_call answer call) (outcome_of l.state (moment_of l.state reading) call) else []) (after_entry l (Replied seat reading call answer)).state
replied_follows a l seat reading call answer allowed like = at (is_fault answer) refl (is_due (moment_of l.state reading) l.state.space) refl where
  t : ℕ
  t = moment_of l.state reading

  at : (f : Bool) → is_fault answer ≡ f → (d : Bool) → is_due (moment_of l.state reading) l.state.space ≡ d
      → Follows a (if not f && not d then event_of (moment_of l.state reading) (thin_call answer call) (outcome_of l.state (moment_of l.state reading) call) else []) (if f then l.state else (if d then l.state else state_of l.state (moment_of l.state reading) call))
  at true fault d due = rests refl like
  at false fine true due = rests refl like
  at false fine false quiet = acted_follows a l.state (moment_of l.state reading) call answer (outcome_of l.state (moment_of l.state reading) call) (machine_answer l seat reading call answer allowed fine quiet) refl like

-- ---- all entries

behind : (a : State) (events rest : List Event) (l : Log) (es : List Entry) → Follows a events l.state → ((x : State) → Alike x l.state → Alike (replayed x rest) (after_entries l es).state) → Alike (replayed a (events ++ rest)) (after_entries l es).state
behind a events rest l es (rests none like) later = subst (λ (evs : List Event). Alike (replayed a (evs ++ rest)) (after_entries l es).state) (sym none) (later a like)
behind a events rest l es (goes event single like) later = subst (λ (evs : List Event). Alike (replayed a (evs ++ rest)) (after_entries l es).state) (sym single) (later (after_event a event) like)

follow : (a : State) (l : Log) (h : List Entry) → IsLegalFrom l h → Alike a l.state → Alike (replayed a (thinned l h)) (after_entries l h).state
follow a l [] legal like = like
follow a l (Ticked seat t ∷ es) legal like = follow (after_event a (Tick t)) (after_entry l (Ticked seat t)) es legal.1 (record { now = refl; space = ap (λ (p : Space). after_all t (tick_changes t p) p) like.space; clients = like.clients })
follow a l (Replied seat reading call answer ∷ es) legal like =
    behind a _ (thinned (after_entry l (Replied seat reading call answer)) es) (after_entry l (Replied seat reading call answer)) es (replied_follows a l seat reading call answer legal.0 like) (λ x now. follow x (after_entry l (Replied seat reading call answer)) es legal.1 now)

pub thin_same : (s : State) (h : List Entry) → IsLegal s h → Alike (replayed s (thinned (fresh_log s) h)) (state_after s h)
thin_same s h legal = follow s (fresh_log s) h legal (record { now = refl; space = refl; clients = refl })
