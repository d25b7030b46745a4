-- A send as a whole.
use Rattle.std.proofs.Common.{List, [], ap, false, length, ℕ, ◌++◌, ◌∙◌, ◌∷◌, ◌≡◌, refl, sym, subst, Bool}
use Rattle.std.specs.Prelude.{◌==◌}
use Rattle.sb_machine.specs.Changes.{after_all}
use Rattle.sb_machine.specs.Queueing.{queueing}
use Rattle.sb_machine.specs.Rows.{answers}
use Rattle.sb_machine.specs.SendRow.{queued_send}
use Rattle.sb_machine.specs.Sending.{receipts, send_changes}
use Rattle.sb_machine.specs.declared.call.Path.{Path}
use Rattle.sb_machine.specs.declared.change.Change.{Change}
use Rattle.sb_machine.specs.declared.reply.Receipt.{Receipt}
use Rattle.sb_machine.specs.declared.reply.Reply.{Reply}
use Rattle.sb_machine.specs.declared.reply.Reply.TheVariants.{Queued}
use Rattle.sb_machine.specs.declared.state.Entity.{Entity}
use Rattle.sb_machine.specs.declared.state.Operation.{Operation}
use Rattle.sb_machine.specs.declared.state.Operation.TheVariants.{Send}
use Rattle.sb_machine.specs.declared.state.Space.{Space}
use Rattle.sb_machine.specs.declared.state.Transaction.{Transaction}
use Rattle.sb_model.specs.declared.message.Message.{Message}
use Rattle.sb_engine.specs.Quotas.{AreCounted}
use Rattle.sb_engine.specs.Sendings.{IsThere, SendsAll, Told}
use Rattle.sb_engine.proofs.Counted.{sends_are_counted}

-- ---- at once

pub sent_changes : (t : ℕ) (s : Space) (e : Entity) (ms : List Message) (p q : Told) → p.changes ≡ [] → SendsAll t s e ms p q → q.changes ≡ send_changes t e ms s
sent_changes t s e ms p q none all = all.changes ∙ ap (λ (cs : List Change). cs ++ send_changes t e ms (after_all t cs s)) none

pub sent_receipts : (t : ℕ) (s : Space) (e : Entity) (ms : List Message) (p q : Told) → p.changes ≡ [] → p.receipts ≡ [] → SendsAll t s e ms p q → q.receipts ≡ receipts t e ms s
sent_receipts t s e ms p q none nothing all =
    all.receipts
    ∙ ap (λ (cs : List Change). p.receipts ++ receipts t e ms (after_all t cs s)) none
    ∙ ap (λ (rs : List Receipt). rs ++ receipts t e ms s) nothing

pub sent_counted : (t : ℕ) (s : Space) (e : Entity) (ms : List Message) (p q : Told) → IsThere s e → p.changes ≡ [] → SendsAll t s e ms p q → AreCounted t q.changes s
sent_counted t s e ms p q there none all = subst (λ (cs : List Change). AreCounted t cs s) (sym (sent_changes t s e ms p q none all)) (sends_are_counted t e ms s there)

-- ---- in a transaction

queued_some : (t : ℕ) (to : Path) (ms : List Message) (x : Transaction) → (length ms == 0) ≡ false → queued_send t to ms x ≡ queueing t x (Send to ms)
queued_some t to [] x some = absurd cc
queued_some t to (m ∷ ms) x some = refl

pub queued_row : (t : ℕ) (to : Path) (ms : List Message) (x : Transaction) (reply : Reply) (cs : List Change) (change : Change) (operation : Operation) (empty : Bool) → empty ≡ (length ms == 0) → empty ≡ false → operation ≡ Send to ms → reply ≡ Queued → cs ≡ change ∷ [] → change ∷ [] ≡ queueing t x operation → answers Queued (queued_send t to ms x) ≡ answers reply cs
queued_row t to ms x reply cs change operation empty is_empty some same is_queued one is =
    ap (answers Queued) (queued_some t to ms x (sym is_empty ∙ some))
    ∙ ap (λ (o : Operation). answers Queued (queueing t x o)) (sym same)
    ∙ ap (answers Queued) (sym is)
    ∙ ap (answers Queued) (sym one)
    ∙ ap (λ (r : Reply). answers r cs) (sym is_queued)
