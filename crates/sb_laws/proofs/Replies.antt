-- What operations that act together are answered: a reply for each, with no more receipts than a send may have messages.
use Rattle.std.proofs.Common.{Bool, List, None, Option, Some, [], arith, false, length, refl, subst, sym, true, ℕ, ◌&&◌, ◌+◌, ◌∷◌, ◌≡◌, ◌≤◌}
use Rattle.std.proofs.lemmas.Bool.Decides.{nat_tests}
use Rattle.std.proofs.lemmas.List.{length-append}
use Rattle.std.specs.Prelude.{codes, if◌then◌else◌}
use Rattle.sb_laws.proofs.Consistency.{first_none, passed}
use Rattle.sb_laws.proofs.Eachs.{each_found, each_implied}
use Rattle.sb_laws.proofs.Ordering.{HasPoints, way_points}
use Rattle.sb_laws.proofs.PlacedCalls.{placed_way}
use Rattle.sb_laws.proofs.Placing.{ArePlaced, IsPlaced, IsQueuedIn}
use Rattle.sb_laws.proofs.Running.{later_keeps}
use Rattle.sb_laws.proofs.Shapes.{plain_fields}
use Rattle.sb_laws.proofs.Uniting.{Filled, IsEnding, Unites, ends_done, ends_lost, told_as}
use Rattle.sb_laws.proofs.Ways.{Way}
use Rattle.sb_machine.specs.Acts.{is_via_in}
use Rattle.sb_machine.specs.Changes.{after, after_all, is_numbered, is_transaction}
use Rattle.sb_machine.specs.Consistent.{IsReply, IsStepReply}
use Rattle.sb_machine.specs.Each.{Each}
use Rattle.sb_machine.specs.Fields.{are_set_once, bad_in_act, bad_in_entity, bad_in_steps, bad_in_together, bad_in_whole, is_between, max_messages, max_steps, unless}
use Rattle.sb_machine.specs.Names.{is_same_entity}
use Rattle.sb_machine.specs.Namespace.{entity_of, listed}
use Rattle.sb_machine.specs.Queueing.{transaction_of, txn_life}
use Rattle.sb_machine.specs.Sending.{message_changes, receipts, unscheduled}
use Rattle.sb_machine.specs.Together.{all_receipts, committed_receipts, first_number, handed_receipts, sent_receipts, step_replies}
use Rattle.sb_machine.specs.Transactions.{handed_on, operation_changes}
use Rattle.sb_machine.specs.Visits.{Visit, passage}
use Rattle.sb_machine.specs.declared.call.Act.{Act}
use Rattle.sb_machine.specs.declared.call.Path.{Path}
use Rattle.sb_machine.specs.declared.call.Step.{Step}
use Rattle.sb_machine.specs.declared.call.Step.TheVariants.{Send as StepSend, Settle as StepSettle, SessionSet as StateSet}
use Rattle.sb_machine.specs.declared.change.Change.{Change}
use Rattle.sb_machine.specs.declared.change.Change.TheVariants.{Begins, Drops}
use Rattle.sb_machine.specs.declared.reply.Receipt.{Receipt}
use Rattle.sb_machine.specs.declared.reply.Reply.{Reply}
use Rattle.sb_machine.specs.declared.state.Entity.{Entity}
use Rattle.sb_machine.specs.declared.state.Operation.{Operation}
use Rattle.sb_machine.specs.declared.state.Operation.TheVariants.{Send as SendLater, Settle as SettleLater}
use Rattle.sb_machine.specs.declared.state.Space.{Space}
use Rattle.sb_machine.specs.declared.state.Transaction.{Transaction}
use Rattle.sb_model.specs.declared.message.Message.{Message}

-- ---- receipts

pub receipts_length : (t : ℕ) (e : Entity) (ms : List Message) (s : Space) → length (receipts t e ms s) ≡ length ms
receipts_length t e [] s = refl
receipts_length t e (m ∷ ms) s = omega (arith, receipts_length t e ms (after_all t (message_changes t e m s) s))

first_few : (vs : List Visit) (s : Space) → length (first_number vs s) ≤ 1
first_few [] s = omega arith
first_few (v ∷ vs) s = omega arith

handed_few : (t : ℕ) (e : Entity) (to : List ℕ) (ms : List Message) (s : Space) → length (handed_receipts t e to ms s) ≤ length ms
handed_few t e to [] s = omega arith
handed_few t e to (m ∷ ms) s =
    let first = first_number (passage (listed s) 0 e.about (unscheduled m) to) s in
    let rest = handed_receipts t e to ms (after_all t (handed_on e to m s) s) in
    omega (arith, length-append first rest, first_few (passage (listed s) 0 e.about (unscheduled m) to) s, handed_few t e to ms (after_all t (handed_on e to m s) s))

sent_few : (t : ℕ) (e : Entity) (to : Path) (ms : List Message) (s : Space) → length (sent_receipts t e to ms s) ≤ length ms
sent_few t e to ms s = go (is_same_entity to e.about.path) where
  go : (b : Bool) → length (if b then receipts t e ms s else handed_receipts t e to.name ms s) ≤ length ms
  go true = omega (arith, receipts_length t e ms s)
  go false = handed_few t e to.name ms s

abbrev AreFew : List Receipt → Type 0
AreFew rs = length rs ≤ max_messages

abbrev SendsFew : Operation → Type 0
SendsFew (SendLater to messages) = length messages ≤ max_messages
SendsFew (SettleLater from number token session how) = Unit {0}

all_few : (t : ℕ) (e : Entity) (os : List Operation) (s : Space) → Each SendsFew os → Each AreFew (all_receipts t e os s)
all_few t e [] s few = tt
all_few t e (SendLater to messages ∷ os) s few = (omega (arith, sent_few t e to messages s, few.0), all_few t e os (after_all t (operation_changes t e (SendLater to messages) s) s) few.1)
all_few t e (SettleLater from number token session how ∷ os) s few = all_few t e os (after_all t (operation_changes t e (SettleLater from number token session how) s) s) few.1

-- ---- replies

pub one_each : (xs : List Step) (rs : List (List Receipt)) → length (step_replies xs rs) ≡ length xs
one_each [] rs = refl
one_each (StepSend to [] ∷ xs) rs = omega (arith, one_each xs rs)
one_each (StepSend to (m ∷ ms) ∷ xs) (r ∷ rs) = omega (arith, one_each xs rs)
one_each (StepSend to (m ∷ ms) ∷ xs) [] = omega (arith, one_each xs [])
one_each (StepSettle from which token session how ∷ xs) rs = omega (arith, one_each xs rs)
one_each (StateSet from token bytes ∷ xs) rs = omega (arith, one_each xs rs)

replies_few : (xs : List Step) (rs : List (List Receipt)) → Each AreFew rs → Each IsStepReply (step_replies xs rs)
replies_few [] rs few = tt
replies_few (StepSend to [] ∷ xs) rs few = (omega arith, replies_few xs rs few)
replies_few (StepSend to (m ∷ ms) ∷ xs) (r ∷ rs) few = (few.0, replies_few xs rs few.1)
replies_few (StepSend to (m ∷ ms) ∷ xs) [] few = (omega arith, replies_few xs [] few)
replies_few (StepSettle from which token session how ∷ xs) rs few = (tt, replies_few xs rs few)
replies_few (StateSet from token bytes ∷ xs) rs few = (tt, replies_few xs rs few)

-- ---- what is queued as they are committed

-- an accepted act by itself keeps what is queued as it was queued
pub way_placed : (t : ℕ) (s : Space) (act : Act) (reply : Reply) (cs : List Change) → bad_in_act (is_via_in s act) act ≡ None → is_numbered t cs s ≡ true → Way s t act reply cs → HasPoints t s × ArePlaced s → HasPoints t (after_all t cs s) × ArePlaced (after_all t cs s)
way_placed t s act reply cs good numbers way h =
    (way_points t s act reply cs good numbers way h.0, placed_way t s h.0.core (h.0.owned, h.1) h.0.made act reply cs good (plain_fields s (is_via_in s act) act good) way)

operation_few : (path : Path) (o : Operation) → IsPlaced path o → SendsFew o
operation_few path (SendLater to messages) is = most (length messages) is.3 where
  most : (n : ℕ) → is_between 1 max_messages n ≡ true → n ≤ max_messages
  most n e = grind (arith, nat_tests)
operation_few path (SettleLater from number token session how) is = tt

committed_few : (s : Space) (t n : ℕ) → ArePlaced s → Each AreFew (committed_receipts s t (transaction_of n s))
committed_few s t n placed = at (transaction_of n s) refl where
  on : (x : Transaction) → IsQueuedIn s x → (o : Option Entity) → entity_of x.entity s ≡ o → Each AreFew (elim o [ Some e ↦ all_receipts t e x.operations (after t (Drops x.number) s) | None ↦ [] ])
  on x queued None is = tt
  on x queued (Some e) is = all_few t e x.operations (after t (Drops x.number) s) (each_implied (IsPlaced e.about.path) SendsFew (operation_few e.about.path) x.operations (queued.placed e is))

  at : (o : Option Transaction) → transaction_of n s ≡ o → Each AreFew (committed_receipts s t o)
  at None is = tt
  at (Some x) is = on x (each_found (IsQueuedIn s) (is_transaction n) x s.transactions placed is) (entity_of x.entity s) refl

-- ---- the whole

pub united_reply : (t : ℕ) (s : Space) (path : Path) (steps : List Step) (reply : Reply) (cs : List Change) → HasPoints t s → ArePlaced s → bad_in_together path steps ≡ None → is_numbered t cs s ≡ true → Unites s t path steps reply cs → IsReply reply
united_reply t s path steps reply cs points placed good numbers u = subst IsReply (sym f.reply_is) (by f.answer f.commits.ending) where
  f : Filled t (s.last_txn + 1) steps steps (after t (Begins u.entity.about.number (t + txn_life)) s) reply u.behind_it
  f = u.filled

  few : Each AreFew (committed_receipts f.later t (transaction_of (s.last_txn + 1) f.later))
  few = committed_few f.later t (s.last_txn + 1) (later_keeps s t path steps reply cs u good numbers (λ now. HasPoints t now × ArePlaced now) (λ now a r ds fine counted way h. way_placed t now a r ds fine counted way h) (points, placed)).1

  most : length steps ≤ max_steps
  most =
      let front = first_none (bad_in_whole path steps) (bad_in_steps steps) good in
      let tests = first_none (bad_in_entity path) (unless (is_between 1 max_steps (length steps) && are_set_once steps) (codes "operations")) front.0 in
      between (length steps) (are_set_once steps) (passed (is_between 1 max_steps (length steps) && are_set_once steps) (codes "operations") tests.1)
    where
      between : (n : ℕ) (b : Bool) → (is_between 1 max_steps n && b) ≡ true → n ≤ max_steps
      between n b e = grind (arith, nat_tests)

  by : (answer : Reply) → IsEnding answer → IsReply (told_as (step_replies steps (committed_receipts f.later t (transaction_of (s.last_txn + 1) f.later))) answer)
  by _ ends_done = (omega (arith, most, one_each steps (committed_receipts f.later t (transaction_of (s.last_txn + 1) f.later))), replies_few steps (committed_receipts f.later t (transaction_of (s.last_txn + 1) f.later)) few)
  by _ (ends_lost part number) = tt
