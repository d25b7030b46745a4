-- What the operations of a commit do.
use Rattle.std.proofs.Common.{List, None, Option, Some, [], ap, inl, inr, subst, sym, ℕ, ◌++◌, ◌∙◌, ◌∷◌, ◌≡◌}
use Rattle.std.specs.Prelude.{◌⊎◌}
use Rattle.sb_fanout.specs.Deliveries.{IsDelivered}
use Rattle.sb_fanout.specs.Lasts.{Given}
use Rattle.sb_fanout.proofs.Places.{same_number}
use Rattle.sb_laws.proofs.Lists.{found_passes}
use Rattle.sb_machine.specs.Changes.{after_all}
use Rattle.sb_machine.specs.Delivery.{delivered}
use Rattle.sb_machine.specs.Namespace.{entity_of, is_entity, last_at, listed}
use Rattle.sb_machine.specs.Rows.{Row, answers, refuses, within_quota}
use Rattle.sb_machine.specs.Sending.{receipts, send_changes, unscheduled}
use Rattle.sb_machine.specs.Transactions.{handed_on, commit_changes}
use Rattle.sb_machine.specs.Visits.{passage}
use Rattle.sb_machine.specs.declared.change.Change.{Change}
use Rattle.sb_machine.specs.declared.change.Change.TheVariants.{Drops}
use Rattle.sb_machine.specs.declared.reply.Receipt.{Receipt}
use Rattle.sb_machine.specs.declared.reply.Refusal.{Refusal}
use Rattle.sb_machine.specs.declared.reply.Refusal.TheVariants.{OutOfMemory}
use Rattle.sb_machine.specs.declared.reply.Reply.TheVariants.{Committed}
use Rattle.sb_machine.specs.declared.state.Entity.{Entity}
use Rattle.sb_machine.specs.declared.state.Listed.{Listed}
use Rattle.sb_machine.specs.declared.state.Operation.{Operation}
use Rattle.sb_machine.specs.declared.state.Space.{Space}
use Rattle.sb_machine.specs.declared.state.Transaction.{Transaction}
use Rattle.sb_model.specs.declared.message.Message.{Message}
use Rattle.sb_engine.specs.Commits.{Acts, ActsTelling, IsItself}
use Rattle.sb_engine.specs.Fulfilments.{acted_behind}
use Rattle.sb_engine.specs.Growing.{Stands}
use Rattle.sb_engine.specs.Sendings.{SendsAll, StandsAt, StandsSeen, Told, View, seen_in}
use Rattle.sb_engine.proofs.Growing.{after_both}
use Rattle.sb_engine.proofs.SendIds.{seen_delivered}

pub told_sent : (t : ℕ) (read : Space) (e : Entity) (ms : List Message) (p q : Told) → SendsAll t read e ms p q → ActsTelling t read e.about.number (send_changes t e ms) (receipts t e ms) p q
told_sent t read e ms p q all = record { acts = record { changes = all.changes; stands = all.stands }; receipts = all.receipts }

-- a message that is handed on
pub acts_handed : (t : ℕ) (read : Space) (e : Entity) (about : Listed) (to : List ℕ) (m copy : Message) (before after : Given) (fresh : List (List ℕ)) (old new : List Change) (got later : List Receipt)
    → StandsAt t read e.about.number before fresh old
    → about ≡ e.about
    → copy ≡ unscheduled m
    → IsDelivered (listed read) (λ key. last_at key read) before about (passage (listed read) 0 about copy to) after old new
    → Acts t read e.about.number (handed_on e to m) (record { given = before; fresh = fresh; changes = old; receipts = got }) (record { given = after; fresh = fresh; changes = new; receipts = later })
acts_handed t read e about to m copy before after fresh old new got later now same is given = record {
  changes = grown;
  stands = record {
    there = now.there;
    numbers = subst (λ (x : Space). Stands read after x) (sym led) (subst (λ (es : List Listed). Stands read after (after_all t (delivered None (passage es 0 e.about (unscheduled m) to) s) s)) (sym now.numbers.entities) (two.stands s t now.numbers));
    seen = subst (λ (v : Option View). StandsSeen t (entity_of e.about.number read) fresh v) (sym seen_same) now.seen;
  };
} where
  s : Space
  s = after_all t old read

  one : IsDelivered (listed read) (λ key. last_at key read) before e.about (passage (listed read) 0 e.about copy to) after old new
  one = subst (λ (a : Listed). IsDelivered (listed read) (λ key. last_at key read) before a (passage (listed read) 0 a copy to) after old new) same given

  two : IsDelivered (listed read) (λ key. last_at key read) before e.about (passage (listed read) 0 e.about (unscheduled m) to) after old new
  two = subst (λ (x : Message). IsDelivered (listed read) (λ key. last_at key read) before e.about (passage (listed read) 0 e.about x to) after old new) is one

  grown : new ≡ old ++ handed_on e to m s
  grown = two.changes s now.numbers now.there ∙ ap (λ (es : List Listed). old ++ delivered None (passage es 0 e.about (unscheduled m) to) s) (sym now.numbers.entities)

  led : after_all t new read ≡ after_all t (handed_on e to m s) s
  led = ap (λ (cs : List Change). after_all t cs read) grown ∙ after_both t old (handed_on e to m s) read

  seen_same : seen_in e.about.number (after_all t new read) ≡ seen_in e.about.number s
  seen_same = ap (seen_in e.about.number) led ∙ seen_delivered e.about.number t (passage (listed s) 0 e.about (unscheduled m) to) s s

-- ---- the commit's row

pub commit_passes : (t : ℕ) (s : Space) (e : Entity) (x : Transaction) (front cs : List Change) (os : List Operation) → front ≡ Drops x.number ∷ [] → os ≡ x.operations → cs ≡ acted_behind t e front os s
    → ((row : Row) → within_quota t s (acted_behind t e front os s) row ≡ row) → within_quota t s (commit_changes t e x s) (answers Committed (commit_changes t e x s)) ≡ answers Committed cs
commit_passes t s e x front cs os front_is os_is cs_is passes =
    let all : acted_behind t e front os s ≡ commit_changes t e x s = ap (λ (l : List Change). acted_behind t e l os s) front_is ∙ ap (λ (l : List Operation). acted_behind t e (Drops x.number ∷ []) l s) os_is in
    ap (λ (l : List Change). within_quota t s l (answers Committed l)) (sym all) ∙ passes (answers Committed (acted_behind t e front os s)) ∙ ap (answers Committed) (sym cs_is)

pub commit_refuses : (t : ℕ) (s : Space) (e : Entity) (x : Transaction) (front : List Change) (os : List Operation) (r : Refusal) → front ≡ Drops x.number ∷ [] → os ≡ x.operations
    → (r ≡ OutOfMemory) ⊎ ((row : Row) → within_quota t s (acted_behind t e front os s) row ≡ refuses r) → (r ≡ OutOfMemory) ⊎ (within_quota t s (commit_changes t e x s) (answers Committed (commit_changes t e x s)) ≡ refuses r)
commit_refuses t s e x front os r front_is os_is (inl memory) = inl memory
commit_refuses t s e x front os r front_is os_is (inr refused) =
    let all : acted_behind t e front os s ≡ commit_changes t e x s = ap (λ (l : List Change). acted_behind t e l os s) front_is ∙ ap (λ (l : List Operation). acted_behind t e (Drops x.number ∷ []) l s) os_is in
    inr (ap (λ (l : List Change). within_quota t s l (answers Committed l)) (sym all) ∙ refused (answers Committed (acted_behind t e front os s)))

-- ---- the entity

pub entity_itself : (n : ℕ) (s : Space) (e : Entity) → entity_of n s ≡ Some e → entity_of e.about.number s ≡ Some e
entity_itself n s e there = ap (λ (k : ℕ). entity_of k s) (same_number e.about.number n (found_passes (is_entity n) e s.entities there)) ∙ there

pub found_itself : (n : ℕ) (s : Space) (o : Option Entity) → o ≡ entity_of n s → IsItself s o
found_itself n s None is = tt
found_itself n s (Some e) is = entity_itself n s e (sym is)
