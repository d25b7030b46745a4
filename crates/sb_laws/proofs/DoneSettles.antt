-- A settlement that is answered Done uses up just its own lock; operations that act together use up just those of their settlements.
use Rattle.std.proofs.Common.{List, None, Ok, Option, Result, Some, [], ap, not, refl, subst, true, ℕ, ◌&&◌, ◌∙◌, ◌∷◌, ◌≡◌}
use Rattle.std.specs.List.{flat_map}
use Rattle.sb_laws.proofs.Answered.{accepted_so, acted_row, answered_in, answered_new, entry_new, goes_by_row}
use Rattle.sb_laws.proofs.Entities.{IsOrdered}
use Rattle.sb_laws.proofs.Filling.{united_spends}
use Rattle.sb_laws.proofs.Moves.{by_number, copy_by_number, leased_held}
use Rattle.sb_laws.proofs.Named.{IsWell, starts_well, well_after}
use Rattle.sb_laws.proofs.NothingDue.{ordered}
use Rattle.sb_laws.proofs.Orders.{orderly_is_sweepable}
use Rattle.sb_laws.proofs.Rows.{Of, answered_so, asked, refused_so, refusing, with_receivable}
use Rattle.sb_laws.proofs.Settling.{living_lock, settled_spends}
use Rattle.sb_laws.proofs.Uniting.{Unites, together_so}
use Rattle.sb_laws.proofs.Ways.{NoFault}
use Rattle.sb_laws.specs.Spent.{AllSettle, SettlesOwn, entry_spends, step_lock}
use Rattle.sb_laws.specs.Sweepable.{IsSweepable}
use Rattle.sb_machine.specs.Acts.{act_row}
use Rattle.sb_machine.specs.Answers.{moment_of}
use Rattle.sb_machine.specs.Changes.{along}
use Rattle.sb_machine.specs.Claims.{asks_holder, asks_session, claiming, has_sessions}
use Rattle.sb_machine.specs.Consistent.{IsConsistent}
use Rattle.sb_machine.specs.Ends.{spends_in}
use Rattle.sb_machine.specs.History.{IsAllowed, IsLegal, IsLegalFrom, Log, after_entry, fresh_log}
use Rattle.sb_machine.specs.Leases.{held_session, is_living, is_named, leased}
use Rattle.sb_machine.specs.Names.{is_same_entity}
use Rattle.sb_machine.specs.Namespace.{entity_at, leaf_of}
use Rattle.sb_machine.specs.Queueing.{has_room_in, is_open, open_in}
use Rattle.sb_machine.specs.Rows.{Row, answers, asks}
use Rattle.sb_machine.specs.SettleRow.{is_on, pending, pending_in, settle_found, settle_row, settled_or_queued}
use Rattle.sb_machine.specs.Settlement.{goes_with}
use Rattle.sb_machine.specs.Together.{together_row}
use Rattle.sb_machine.specs.declared.call.Act.{Act}
use Rattle.sb_machine.specs.declared.call.Act.TheVariants.{Settle, Together}
use Rattle.sb_machine.specs.declared.call.Call.{Call}
use Rattle.sb_machine.specs.declared.call.How.{How}
use Rattle.sb_machine.specs.declared.call.Path.{Path}
use Rattle.sb_machine.specs.declared.call.Step.{Step}
use Rattle.sb_machine.specs.declared.call.Token.{Token}
use Rattle.sb_machine.specs.declared.call.Which.{Which}
use Rattle.sb_machine.specs.declared.change.Change.{Change}
use Rattle.sb_machine.specs.declared.history.Entry.{Entry}
use Rattle.sb_machine.specs.declared.history.Entry.TheVariants.{Ticked, Answered as Replied}
use Rattle.sb_machine.specs.declared.reply.Answered.{Answered}
use Rattle.sb_machine.specs.declared.reply.Answered.TheVariants.{New}
use Rattle.sb_machine.specs.declared.reply.Refusal.{Refusal}
use Rattle.sb_machine.specs.declared.reply.Refusal.TheVariants.{SessionNotAllowed, SessionRequired, TxnFull, TxnNotFound, TxnScope, WrongKind}
use Rattle.sb_machine.specs.declared.reply.Reply.{Reply}
use Rattle.sb_machine.specs.declared.reply.Reply.TheVariants.{Done, Together as Told}
use Rattle.sb_machine.specs.declared.reply.StepReply.{StepReply}
use Rattle.sb_machine.specs.declared.state.Entity.{Entity}
use Rattle.sb_machine.specs.declared.state.Session.{Session}
use Rattle.sb_machine.specs.declared.state.Space.{Space}
use Rattle.sb_machine.specs.declared.state.State.{State}
use Rattle.sb_machine.specs.declared.state.StoredCopy.{StoredCopy}
use Rattle.sb_machine.specs.declared.state.Transaction.{Transaction}

module _ (s : Space) (t : ℕ) where
  -- ---- its row

  module _ (o : IsOrdered s) (from : Path) (which : Which) (token : Token) (how : How) (txn : Option ℕ) where
    abbrev Spends : Reply → List Change → Type 0
    Spends reply cs = reply ≡ Done → along spends_in t cs s ≡ token.lock ∷ []

    abbrev RowSpends : Row → Type 0
    RowSpends row = Of (λ r. Unit {0}) Spends row

    found_spends : (e : Entity) → entity_at from s ≡ Some e → goes_with how from.part ≡ true → (session : Option Token) (x : Option Transaction) → RowSpends (settle_found s t e from token session how x (leased s t token which (leaf_of from.part e)))
    found_spends e there goes session x = at (leased s t token which (leaf_of from.part e)) refl where
      at : (c : Option StoredCopy) → leased s t token which (leaf_of from.part e) ≡ c → RowSpends (settle_found s t e from token session how x c)
      at None is = refused_so tt
      at (Some c) is = refusing (pending (pending_in token.lock s)) _ (λ r so. tt) (λ none. asked (has_room_in x 1) TxnFull _ tt (λ room. by x)) where
        by : (x : Option Transaction) → RowSpends (settled_or_queued s t e from token session how c x)
        by (Some x) = answered_so (λ done. absurd cc)
        by None =
            let held = leased_held s t o token which (leaf_of from.part e) c is in
            let lock = living_lock t (leaf_of from.part e).sessions token.lock c.standing held.1 in
            let found = copy_by_number s t o from.part e (λ y. is_same_entity y.about.path from) c (λ d. is_living t (leaf_of from.part e).sessions token.lock d.standing && is_named which d) there held.0 in
            answered_so (λ done. settled_spends s t e (by_number s t o from e there) c token.lock lock from.part found how goes)

    settle_spends : (session : Option Token) → RowSpends (settle_row s t from which token session how txn)
    settle_spends session = with_receivable s from _ tt tt tt (λ e there. asked (goes_with how from.part) WrongKind _ tt (λ goes. claimed e there goes session)) where
      claimed : (e : Entity) → entity_at from s ≡ Some e → goes_with how from.part ≡ true → (session : Option Token)
          → RowSpends (asks_session e from.part session (asks (is_open txn s) TxnNotFound (asks (is_on e (open_in txn s)) TxnScope (asks_holder s t (leaf_of from.part e) session (λ claim. settle_found s t e from token session how (open_in txn s) (leased s t token which (leaf_of from.part e)))))))
      claimed e there goes None = asked (not (has_sessions e from.part)) SessionRequired _ tt (λ is. asked (is_open txn s) TxnNotFound _ tt (λ open_so. asked (is_on e (open_in txn s)) TxnScope _ tt (λ on. found_spends e there goes None (open_in txn s))))
      claimed e there goes (Some key) = asked (has_sessions e from.part) SessionNotAllowed _ tt (λ is. asked (is_open txn s) TxnNotFound _ tt (λ open_so. asked (is_on e (open_in txn s)) TxnScope _ tt (λ on. at (held_session s t key (leaf_of from.part e))))) where
        at : (x : Option Session) → RowSpends (claiming key x (λ claim. settle_found s t e from token (Some key) how (open_in txn s) (leased s t token which (leaf_of from.part e))))
        at None = refused_so tt
        at (Some x) = found_spends e there goes (Some key) (open_in txn s)

-- ---- each entry

module _ (l : Log) (seat reading : ℕ) (call : Call) (answer : Result Answered Refusal) (allowed : IsAllowed l (Replied seat reading call answer)) where
  one_settles : IsOrdered l.state.space → (from : Path) (which : Which) (token : Token) (session : Option Token) (how : How) (txn : Option ℕ) → call.act ≡ Settle from which token session how txn → answer ≡ Ok (New Done) → entry_spends l (Replied seat reading call answer) ≡ token.lock ∷ []
  one_settles o from which token session how txn is said =
      let t = moment_of l.state reading in
      let plain : goes_by_row call.act ≡ true = ap goes_by_row is in
      let new = answered_new l seat reading call answer Done plain allowed said in
      let row = (accepted_so l.state.space t call.by call.act Done new.changes (acted_row l.state t call Done new.changes plain new.acted_so)).row in
      let spends : along spends_in t new.changes l.state.space ≡ token.lock ∷ [] = answered_in (λ r. Unit {0}) (Spends l.state.space t o from which token how txn) (settle_row l.state.space t from which token session how txn) Done new.changes (settle_spends l.state.space t o from which token how txn session) (subst (λ (act : Act). act_row l.state.space t act ≡ answers Done new.changes) is row) refl in
      ap (λ (cs : List Change). along spends_in t cs l.state.space) (entry_new l seat reading call answer Done new said) ∙ spends

  many_settle : IsSweepable l.state.space → (path : Path) (steps : List Step) (replies : List StepReply) → call.act ≡ Together path steps → answer ≡ Ok (New (Told replies)) → entry_spends l (Replied seat reading call answer) ≡ flat_map step_lock steps
  many_settle may path steps replies is said =
      let t = moment_of l.state reading in
      let plain : goes_by_row call.act ≡ true = ap goes_by_row is in
      let new = answered_new l seat reading call answer (Told replies) plain allowed said in
      let row = (accepted_so l.state.space t call.by call.act (Told replies) new.changes (acted_row l.state t call (Told replies) new.changes plain new.acted_so)).row in
      let united : Unites l.state.space t path steps (Told replies) new.changes = answered_in NoFault (Unites l.state.space t path steps) (together_row l.state.space t path steps) (Told replies) new.changes (together_so l.state.space t path steps) (subst (λ (act : Act). act_row l.state.space t act ≡ answers (Told replies) new.changes) is row) in
      ap (λ (cs : List Change). along spends_in t cs l.state.space) (entry_new l seat reading call answer (Told replies) new said) ∙ united_spends l.state.space t path steps replies new.changes may united

entry_settles : (l : Log) (e : Entry) → IsAllowed l e → IsWell l.state → SettlesOwn l e
entry_settles l (Ticked seat t) allowed well = tt
entry_settles l (Replied seat reading call answer) allowed well =
    let may = orderly_is_sweepable l.state well.orderly in
    (one_settles l seat reading call answer allowed (ordered l.state.space may), many_settle l seat reading call answer allowed may)

all_settle : (l : Log) (h : List Entry) → IsLegalFrom l h → IsWell l.state → AllSettle l h
all_settle l [] legal well = tt
all_settle l (e ∷ es) legal well = (entry_settles l e legal.0 well, all_settle (after_entry l e) es legal.1 (well_after l e legal.0 well))

pub done_settles : (s : State) (h : List Entry) → IsConsistent s → IsLegal s h → AllSettle (fresh_log s) h
done_settles s h consistent legal = all_settle (fresh_log s) h legal (starts_well s consistent)
