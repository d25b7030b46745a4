-- Calls that are planned without memory are refused by nothing but the machine, and their plans add to no list.
use Rattle.std.proofs.Common.{◌≡◌, ℕ, Bool, true, false, List, Option, Some, None, is_none, is_some, Result, Ok, Err, refl, sym, ap, subst, ◌∙◌}
use Rattle.std.specs.Prelude.{◌&&◌, if◌then◌else◌}
use Rattle.std.specs.Result.{IfOk, IfErr}
use Rattle.sb_fanout.proofs.There.{both}
use Rattle.sb_laws.proofs.Rows.{Of, answered_so, asked, found, of_numbered, refused_so, refusing, with_entity, with_receivable}
use Rattle.sb_machine.specs.Acts.{act_row, bad_call, is_via_in, row_of}
use Rattle.sb_machine.specs.Answers.{answer_of}
use Rattle.sb_machine.specs.Claims.{asks_holder, asks_session, claiming, has_sessions}
use Rattle.sb_machine.specs.Fields.{bad_field, bad_part, takes_number}
use Rattle.sb_machine.specs.Leases.{held_session, leased}
use Rattle.sb_machine.specs.Namespace.{leaf_of}
use Rattle.sb_machine.specs.Queueing.{transaction_of}
use Rattle.sb_machine.specs.Receiving.{cancelled, scheduled_copy}
use Rattle.sb_machine.specs.Repeats.{client_of, for_client, of_answer, of_row, acted, outcome_of}
use Rattle.sb_machine.specs.Rows.{Row, answers, refuses}
use Rattle.sb_machine.specs.SettleRow.{pending, pending_in, settle_found, settled_or_queued}
use Rattle.sb_machine.specs.Settlement.{goes_with}
use Rattle.sb_machine.specs.declared.call.Act.{Act}
use Rattle.sb_machine.specs.declared.call.Act.TheVariants.{CreateQueue, CreateTopic, CreateSubscription, CreateRule, Delete, DeleteRule, Send, Cancel, Receive, ReceiveDeferred, Settle, Renew, Accept, SessionRenew, SessionClose, SessionSet, SessionState, Begin, Commit, Rollback, Together, ForgetClient, Peek, Counts, Look}
use Rattle.sb_machine.specs.declared.call.By.{By}
use Rattle.sb_machine.specs.declared.call.Call.{Call}
use Rattle.sb_machine.specs.declared.call.How.{How}
use Rattle.sb_machine.specs.declared.call.How.TheVariants.{Complete, Abandon, Defer, DeadLetter}
use Rattle.sb_machine.specs.declared.call.Part.{Part}
use Rattle.sb_machine.specs.declared.call.Path.{Path}
use Rattle.sb_machine.specs.declared.call.Token.{Token}
use Rattle.sb_machine.specs.declared.call.Which.{Which}
use Rattle.sb_machine.specs.declared.change.Change.{Change}
use Rattle.sb_machine.specs.declared.reply.Refusal.{Refusal}
use Rattle.sb_machine.specs.declared.reply.Refusal.TheVariants.{SessionNotAllowed, SessionRequired, TxnNotFound, WrongKind}
use Rattle.sb_machine.specs.declared.reply.Reply.{Reply}
use Rattle.sb_machine.specs.declared.state.Entity.{Entity}
use Rattle.sb_machine.specs.declared.state.Kept.{Kept}
use Rattle.sb_machine.specs.declared.state.Session.{Session}
use Rattle.sb_machine.specs.declared.state.Space.{Space}
use Rattle.sb_machine.specs.declared.state.State.{State}
use Rattle.sb_machine.specs.declared.state.StoredCopy.{StoredCopy}
use Rattle.sb_engine.specs.Drafts.{copies_nothing}
use Rattle.sb_engine.specs.Engines.{adds_nothing, planned_of, PlansAs}
use Rattle.sb_engine.specs.Planned.{Planned}
use Rattle.sb_engine.specs.Small.{is_small, takes_no_memory}
use Rattle.sb_engine.proofs.Plannings.{refuses_in}

nothing : {X : Type 0} (o : Option X) → is_none o ≡ true → o ≡ None
nothing None e = refl
nothing (Some x) e = absurd cc

pub record IsSmall (s : Space) (call : Call) : Type 0 where
  pub by : call.by ≡ None
  pub fields : bad_field (is_via_in s call.act) call.act call.by ≡ None
  pub act : is_small call.act ≡ true
  pub client : client_of call ≡ None

no_client : (b : Bool) (by : Option By) → by ≡ None → (if b then by else None) ≡ None
no_client true by e = e
no_client false by e = refl

pub small : (s : Space) (call : Call) → takes_no_memory s call ≡ true → IsSmall s call
small s call e =
    let all = both (is_none call.by && is_none (bad_field (is_via_in s call.act) call.act None)) (is_small call.act) e in
    let first = both (is_none call.by) (is_none (bad_field (is_via_in s call.act) call.act None)) all.0 in
    let none = nothing call.by first.0 in
    record {
      by = none;
      fields = ap (λ (b : Option By). bad_field (is_via_in s call.act) call.act b) none ∙ nothing (bad_field (is_via_in s call.act) call.act None) first.1;
      act = all.1;
      client = no_client (takes_number call.act) call.by none;
    }

pub small_refused : (s : State) (t : ℕ) (call : Call) (r : Result Planned Refusal) → client_of call ≡ None → IfErr r (λ x. row_of s.space t call.by call.act ≡ refuses x)
    → IfErr r (λ x. planned_of (client_of call) call.act (outcome_of s t call) ≡ Err x)
small_refused s t call (Ok p) client h = tt
small_refused s t call (Err x) client h = rw (client, h) refl

pub small_answered : (s : State) (t : ℕ) (call : Call) (r : Result Planned Refusal) → IfErr r (λ x. planned_of (client_of call) call.act (outcome_of s t call) ≡ Err x) → IfErr r (λ x. answer_of s t call ≡ Err x)
small_answered s t call (Ok p) h = tt
small_answered s t call (Err x) h = refuses_in (client_of call) call.act (outcome_of s t call) x h

-- ---- what such an act's changes add to

abbrev Refuses : Refusal → Type 0
Refuses r = Unit {0}

abbrev AddsNone : Reply → List Change → Type 0
AddsNone reply cs = adds_nothing cs ≡ true

abbrev AddsNothing : Row → Type 0
AddsNothing row = Of Refuses AddsNone row

module _ (s : Space) (t : ℕ) where
  row_cancels : (from : Path) (n : ℕ) → AddsNothing (act_row s t (Cancel from n))
  row_cancels from n = with_entity s from _ tt tt (λ e there. at e (scheduled_copy n (leaf_of from.part e))) where
    at : (e : Entity) (o : Option StoredCopy) → AddsNothing (cancelled e from.part o)
    at e None = refused_so tt
    at e (Some c) = answered_so refl

  row_drops : (n : ℕ) → AddsNothing (act_row s t (Rollback n))
  row_drops n = found (transaction_of n s) TxnNotFound _ tt (λ x there. answered_so refl)

  settled_none : (from : Path) (token : Token) (session : Option Token) (how : How) (e : Entity) → copies_nothing how ≡ true → (o : Option StoredCopy) → AddsNothing (settle_found s t e from token session how None o)
  settled_none from token session how e small None = refused_so tt
  settled_none from token session how e small (Some c) = refusing (pending (pending_in token.lock s)) _ (λ r is. tt) (λ none. by how small) where
    by : (how : How) → copies_nothing how ≡ true → AddsNothing (settled_or_queued s t e from token session how c None)
    by Complete small = answered_so refl
    by Defer small = answered_so refl
    by Abandon small = absurd cc
    by (DeadLetter reason description) small = absurd cc

  held_none : (e : Entity) (part : Part) (session : Option Token) (row : Row) → AddsNothing row → AddsNothing (asks_holder s t (leaf_of part e) session (λ claim. row))
  held_none e part None row none = none
  held_none e part (Some token) row none = at (held_session s t token (leaf_of part e)) where
    at : (o : Option Session) → AddsNothing (claiming token o (λ claim. row))
    at None = refused_so tt
    at (Some x) = none

  session_none : (e : Entity) (part : Part) (session : Option Token) (row : Row) → AddsNothing row → AddsNothing (asks_session e part session row)
  session_none e part None row none = asked _ SessionRequired row tt (λ is. none)
  session_none e part (Some token) row none = asked (has_sessions e part) SessionNotAllowed row tt (λ is. none)

  row_settles : (from : Path) (which : Which) (token : Token) (session : Option Token) (how : How) → copies_nothing how ≡ true → AddsNothing (act_row s t (Settle from which token session how None))
  row_settles from which token session how small =
      with_receivable s from _ tt tt tt (λ e there. asked (goes_with how from.part) WrongKind _ tt (λ goes.
      session_none e from.part session _ (held_none e from.part session _ (settled_none from token session how e small (leased s t token which (leaf_of from.part e))))))

  row_small : (act : Act) → is_small act ≡ true → AddsNothing (act_row s t act)
  row_small (Cancel from n) small = row_cancels from n
  row_small (Rollback n) small = row_drops n
  row_small (Settle from which token session how None) small = row_settles from which token session how small
  row_small (Settle from which token session how (Some n)) small = absurd cc
  row_small (CreateQueue name d) small = absurd cc
  row_small (CreateTopic name d) small = absurd cc
  row_small (CreateSubscription topic name d) small = absurd cc
  row_small (CreateRule topic subscription name asked_for action) small = absurd cc
  row_small (Delete path) small = absurd cc
  row_small (DeleteRule topic subscription name) small = absurd cc
  row_small (Send to messages txn) small = absurd cc
  row_small (Receive from mode session) small = absurd cc
  row_small (ReceiveDeferred from n mode session) small = absurd cc
  row_small (Renew from which token) small = absurd cc
  row_small (Accept from id) small = absurd cc
  row_small (SessionRenew from token) small = absurd cc
  row_small (SessionClose from token) small = absurd cc
  row_small (SessionSet from token bytes) small = absurd cc
  row_small (SessionState from token) small = absurd cc
  row_small (Begin path) small = absurd cc
  row_small (Commit n) small = absurd cc
  row_small (Peek from start count) small = absurd cc
  row_small (Counts path) small = absurd cc
  row_small (Look what) small = absurd cc
  row_small (Together path steps) small = absurd cc
  row_small (ForgetClient name) small = absurd cc

  small_row : (by : Option By) (act : Act) → is_small act ≡ true → AddsNothing (row_of s t by act)
  small_row by act small =
      of_numbered t s Refuses AddsNone AddsNone _ tt (λ reply cs is none. none)
      (refusing (bad_call (bad_part act) (bad_field (is_via_in s act) act by)) (act_row s t act) (λ r is. tt) (λ fine. row_small act small))

-- a plan that keeps nothing and adds to no list
abbrev IsBare : Planned → Type 0
IsBare p = (is_some p.kept ≡ false) × (adds_nothing p.changes ≡ true)

inside : (x y : Planned) → ◌≡◌ {A = Result Planned Refusal} (Ok x) (Ok y) → x ≡ y
inside x y e = cc

-- such an act asks of no client
acts_alone : (clients : List Kept) (act : Act) (reply : Reply) (cs : List Change) → is_small act ≡ true → of_answer clients act reply cs ≡ acted reply cs
acts_alone clients (Cancel from n) reply cs small = refl
acts_alone clients (Rollback n) reply cs small = refl
acts_alone clients (Settle from which token session how txn) reply cs small = refl
acts_alone clients (CreateQueue name d) reply cs small = refl
acts_alone clients (CreateTopic name d) reply cs small = refl
acts_alone clients (CreateSubscription topic name d) reply cs small = refl
acts_alone clients (CreateRule topic subscription name asked_for action) reply cs small = refl
acts_alone clients (Delete path) reply cs small = refl
acts_alone clients (DeleteRule topic subscription name) reply cs small = refl
acts_alone clients (Send to messages txn) reply cs small = refl
acts_alone clients (Receive from mode session) reply cs small = refl
acts_alone clients (ReceiveDeferred from n mode session) reply cs small = refl
acts_alone clients (Renew from which token) reply cs small = refl
acts_alone clients (Accept from id) reply cs small = refl
acts_alone clients (SessionRenew from token) reply cs small = refl
acts_alone clients (SessionClose from token) reply cs small = refl
acts_alone clients (SessionSet from token bytes) reply cs small = refl
acts_alone clients (SessionState from token) reply cs small = refl
acts_alone clients (Begin path) reply cs small = refl
acts_alone clients (Commit n) reply cs small = refl
acts_alone clients (Peek from start count) reply cs small = refl
acts_alone clients (Counts path) reply cs small = refl
acts_alone clients (Look what) reply cs small = absurd cc
acts_alone clients (Together path steps) reply cs small = refl
acts_alone clients (ForgetClient name) reply cs small = absurd cc

small_plan : (clients : List Kept) (act : Act) (row : Row) (p : Planned) → is_small act ≡ true → AddsNothing row → planned_of None act (of_row clients act row) ≡ Ok p → IsBare p
small_plan clients act (refuses r) p small none e = absurd cc
small_plan clients act (answers reply cs) p small (answered_so none) e =
    let alone : planned_of None act (acted reply cs) ≡ Ok p = ap (planned_of None act) (sym (acts_alone clients act reply cs small)) ∙ e in
    subst IsBare (inside _ p alone) (refl, none)

pub small_bare : (s : State) (t : ℕ) (call : Call) (r : Result Planned Refusal) → takes_no_memory s.space call ≡ true → PlansAs r (planned_of (client_of call) call.act (outcome_of s t call)) → IfOk r IsBare
small_bare s t call (Err x) is planned = tt
small_bare s t call (Ok p) is planned =
    let its = small s.space call is in
    small_plan s.clients call.act (row_of s.space t call.by call.act) p its.act (small_row s.space t call.by call.act its.act)
    (subst (λ (by : Option By). planned_of by call.act (for_client by call.act s.clients (of_row s.clients call.act (row_of s.space t call.by call.act))) ≡ Ok p) its.client planned)
