-- A send's entity accepts the ids of just those messages that get a number; so does that of operations that act together.
use Rattle.std.proofs.Common.{List, None, Ok, Option, Result, Some, [], ap, refl, subst, true, ℕ, ◌∙◌, ◌∷◌, ◌≡◌}
use Rattle.std.specs.Prelude.{if◌then◌else◌}
use Rattle.sb_laws.proofs.Accepting.{sends_note}
use Rattle.sb_laws.proofs.Answered.{accepted_so, acted_row, answered_in, answered_new, entry_new, goes_by_row}
use Rattle.sb_laws.proofs.Entities.{IsOrdered}
use Rattle.sb_laws.proofs.Moves.{by_number}
use Rattle.sb_laws.proofs.Named.{IsWell, starts_well, well_after}
use Rattle.sb_laws.proofs.NothingDue.{ordered}
use Rattle.sb_laws.proofs.Orders.{orderly_is_sweepable}
use Rattle.sb_laws.proofs.Rows.{Of, answered_so, asked, counted, refused_so, refusing}
use Rattle.sb_laws.proofs.SendsTogether.{united_notes}
use Rattle.sb_laws.proofs.Uniting.{Unites, together_so}
use Rattle.sb_laws.proofs.Ways.{NoFault}
use Rattle.sb_laws.specs.Accepted.{AllNote, NotesAccepted, NotesOwn, NotesTogether, accepted_of, notes_of}
use Rattle.sb_laws.specs.Sweepable.{IsSweepable}
use Rattle.sb_machine.specs.Acts.{act_row}
use Rattle.sb_machine.specs.Answers.{moment_of}
use Rattle.sb_machine.specs.Changes.{along}
use Rattle.sb_machine.specs.Consistent.{IsConsistent}
use Rattle.sb_machine.specs.Ends.{notes_in}
use Rattle.sb_machine.specs.History.{IsAllowed, IsLegal, IsLegalFrom, Log, after_entry, fresh_log}
use Rattle.sb_machine.specs.Names.{is_address}
use Rattle.sb_machine.specs.Namespace.{entity_at}
use Rattle.sb_machine.specs.Queueing.{has_room_in, is_open, open_in}
use Rattle.sb_machine.specs.Rows.{answers}
use Rattle.sb_machine.specs.SendRow.{have_sessions_at, is_destination, is_via, send_row, sent_or_queued}
use Rattle.sb_machine.specs.Sending.{receipts, send_changes, too_large}
use Rattle.sb_machine.specs.Together.{together_row}
use Rattle.sb_machine.specs.declared.call.Act.{Act}
use Rattle.sb_machine.specs.declared.call.Act.TheVariants.{Send, Together}
use Rattle.sb_machine.specs.declared.call.Call.{Call}
use Rattle.sb_machine.specs.declared.call.Path.{Path}
use Rattle.sb_machine.specs.declared.call.Step.{Step}
use Rattle.sb_machine.specs.declared.change.Change.{Change}
use Rattle.sb_machine.specs.declared.history.Entry.{Entry}
use Rattle.sb_machine.specs.declared.history.Entry.TheVariants.{Ticked, Answered as Replied}
use Rattle.sb_machine.specs.declared.reply.Receipt.{Receipt}
use Rattle.sb_machine.specs.declared.reply.Answered.{Answered}
use Rattle.sb_machine.specs.declared.reply.Answered.TheVariants.{New}
use Rattle.sb_machine.specs.declared.reply.Refusal.{Refusal}
use Rattle.sb_machine.specs.declared.reply.Refusal.TheVariants.{BadName, EntityNotFound, SessionRequired, TxnFull, TxnNotFound, WrongKind}
use Rattle.sb_machine.specs.declared.reply.Reply.{Reply}
use Rattle.sb_machine.specs.declared.reply.Reply.TheVariants.{Sent, Together as Told}
use Rattle.sb_machine.specs.declared.reply.StepReply.{StepReply}
use Rattle.sb_machine.specs.declared.state.Entity.{Entity}
use Rattle.sb_machine.specs.declared.state.Space.{Space}
use Rattle.sb_machine.specs.declared.state.State.{State}
use Rattle.sb_machine.specs.declared.state.Transaction.{Transaction}
use Rattle.sb_model.specs.declared.message.Message.{Message}
use Rattle.std.specs.Prelude.{is_some, ◌||◌, length}

-- ---- its row

module _ (s : Space) (t : ℕ) (o : IsOrdered s) (to : Path) (ms : List Message) where
  pub record RowNotes (rs : List Receipt) (cs : List Change) : Type 0 where
    pub entity : Entity
    pub there : entity_at to s ≡ Some entity
    pub notes : along notes_in t cs s ≡ notes_of entity t (accepted_of rs ms)

  abbrev SendNotes : Reply → List Change → Type 0
  SendNotes reply cs = (rs : List Receipt) → reply ≡ Sent rs → RowNotes rs cs

  receipts_same : (a b : List Receipt) → Sent a ≡ Sent b → a ≡ b
  receipts_same a b e = cc

  send_notes : (txn : Option ℕ) → Of (λ r. Unit {0}) SendNotes (send_row s t to ms txn)
  send_notes txn =
      let x = open_in txn s in
      let e = if is_via s to x then None else entity_at to s in
      asked (is_address to) BadName _ tt (λ named.
      asked (is_via s to x || is_some e) EntityNotFound _ tt (λ there.
      asked (is_destination to) WrongKind _ tt (λ goes.
      asked (have_sessions_at e ms) SessionRequired _ tt (λ sessions.
      asked (is_open txn s) TxnNotFound _ tt (λ open_so.
      asked (has_room_in x (length ms)) TxnFull _ tt (λ room.
      refusing (too_large ms) _ (λ r so. tt) (λ small. at (open_in txn s)))))))) where
        now : (e : Option Entity) → entity_at to s ≡ e → Of (λ r. Unit {0}) SendNotes (sent_or_queued s t to ms e None)
        now None is = refused_so tt
        now (Some e) is = counted t s (send_changes t e ms s) (Sent (receipts t e ms s)) tt (λ rs same. subst (λ (rs : List Receipt). RowNotes rs (send_changes t e ms s)) (receipts_same (receipts t e ms s) rs same)
            (record { entity = e; there = is; notes = sends_note t e ms s (record { now = e; there = by_number s t o to e is; same = refl }) }))

        at : (x : Option Transaction) → Of (λ r. Unit {0}) SendNotes (sent_or_queued s t to ms (if is_via s to x then None else entity_at to s) x)
        at None = now (entity_at to s) refl
        at (Some x) = answered_so (λ rs same. absurd cc)

-- ---- each entry

module _ (l : Log) (seat reading : ℕ) (call : Call) (answer : Result Answered Refusal) (allowed : IsAllowed l (Replied seat reading call answer)) where
  one_notes : IsOrdered l.state.space → (to : Path) (ms : List Message) (txn : Option ℕ) (rs : List Receipt) → call.act ≡ Send to ms txn → answer ≡ Ok (New (Sent rs)) → NotesAccepted l (Replied seat reading call answer) to rs ms
  one_notes o to ms txn rs is said =
      let t = moment_of l.state reading in
      let plain : goes_by_row call.act ≡ true = ap goes_by_row is in
      let new = answered_new l seat reading call answer (Sent rs) plain allowed said in
      let row = (accepted_so l.state.space t call.by call.act (Sent rs) new.changes (acted_row l.state t call (Sent rs) new.changes plain new.acted_so)).row in
      let notes : RowNotes l.state.space t o to ms rs new.changes = answered_in (λ r. Unit {0}) (SendNotes l.state.space t o to ms) (send_row l.state.space t to ms txn) (Sent rs) new.changes (send_notes l.state.space t o to ms txn) (subst (λ (act : Act). act_row l.state.space t act ≡ answers (Sent rs) new.changes) is row) rs refl in
      record { entity = notes.entity; there = notes.there; notes = ap (λ (cs : List Change). along notes_in t cs l.state.space) (entry_new l seat reading call answer (Sent rs) new said) ∙ notes.notes }

  many_note : IsSweepable l.state.space → (path : Path) (steps : List Step) (replies : List StepReply) → call.act ≡ Together path steps → answer ≡ Ok (New (Told replies)) → NotesTogether l (Replied seat reading call answer) path replies steps
  many_note may path steps replies is said =
      let t = moment_of l.state reading in
      let plain : goes_by_row call.act ≡ true = ap goes_by_row is in
      let new = answered_new l seat reading call answer (Told replies) plain allowed said in
      let row = (accepted_so l.state.space t call.by call.act (Told replies) new.changes (acted_row l.state t call (Told replies) new.changes plain new.acted_so)).row in
      let united : Unites l.state.space t path steps (Told replies) new.changes = answered_in NoFault (Unites l.state.space t path steps) (together_row l.state.space t path steps) (Told replies) new.changes (together_so l.state.space t path steps) (subst (λ (act : Act). act_row l.state.space t act ≡ answers (Told replies) new.changes) is row) in
      let notes = united_notes l.state.space t path steps replies new.changes may united in
      record { entity = notes.entity; there = notes.there; notes = ap (λ (cs : List Change). along notes_in t cs l.state.space) (entry_new l seat reading call answer (Told replies) new said) ∙ notes.notes }

entry_notes_own : (l : Log) (e : Entry) → IsAllowed l e → IsWell l.state → NotesOwn l e
entry_notes_own l (Ticked seat t) allowed well = tt
entry_notes_own l (Replied seat reading call answer) allowed well =
    let may = orderly_is_sweepable l.state well.orderly in
    (one_notes l seat reading call answer allowed (ordered l.state.space may), many_note l seat reading call answer allowed may)

all_note : (l : Log) (h : List Entry) → IsLegalFrom l h → IsWell l.state → AllNote l h
all_note l [] legal well = tt
all_note l (e ∷ es) legal well = (entry_notes_own l e legal.0 well, all_note (after_entry l e) es legal.1 (well_after l e legal.0 well))

pub sent_notes : (s : State) (h : List Entry) → IsConsistent s → IsLegal s h → AllNote (fresh_log s) h
sent_notes s h consistent legal = all_note (fresh_log s) h legal (starts_well s consistent)
