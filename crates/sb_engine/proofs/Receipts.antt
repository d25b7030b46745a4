-- The receipts of sends that were queued, as they act.
use Rattle.std.proofs.Common.{List, None, Option, Some, [], ap, drop, get_or, length, refl, suc, sym, true, Bool, false, ℕ, ◌+◌, ◌-◌, ◌++◌, ◌<◌, ◌≤◌, ◌∙◌, ◌∷◌, ◌≡◌}
use Rattle.std.specs.Prelude.{◌&&◌, not, if◌then◌else◌}
use Rattle.std.proofs.lemmas.List.{append_assoc, append-nil, drop_more, drop_all}
use Rattle.sb_fanout.proofs.Deliveries.{found_there}
use Rattle.sb_fanout.specs.Deliveries.{IsDelivered}
use Rattle.sb_fanout.specs.Lasts.{Given, is_listed}
use Rattle.sb_machine.specs.Changes.{after_all, in_turn}
use Rattle.sb_machine.specs.Namespace.{last_at, listed}
use Rattle.sb_machine.specs.Sending.{unscheduled}
use Rattle.sb_machine.specs.Together.{all_receipts, first_number, handed_receipts}
use Rattle.sb_machine.specs.Transactions.{handed_on, operation_changes}
use Rattle.sb_machine.specs.Visits.{Onward, arrived, came_to, cut_to, destination, entered_by, failed, fanned, has_session, is_named, passage, settled_in, dead_lettered, max_hops, transferred}
use Rattle.sb_machine.specs.declared.call.How.{How}
use Rattle.sb_machine.specs.declared.call.Part.TheVariants.{Main, Transfer}
use Rattle.sb_machine.specs.declared.call.Path.{Path}
use Rattle.sb_machine.specs.declared.call.Token.{Token}
use Rattle.sb_machine.specs.declared.change.LeafKey.{LeafKey}
use Rattle.sb_machine.specs.declared.change.Change.{Change}
use Rattle.sb_machine.specs.declared.reason.DeadReason.TheVariants.{NoDestination, NoSession}
use Rattle.sb_machine.specs.declared.reply.Receipt.{Receipt}
use Rattle.sb_machine.specs.declared.reply.Receipt.TheVariants.{Number}
use Rattle.sb_machine.specs.declared.state.Entity.{Entity}
use Rattle.sb_machine.specs.declared.state.EntityKind.{EntityKind}
use Rattle.sb_machine.specs.declared.state.EntityKind.TheVariants.{Queue, Topic, Subscription}
use Rattle.sb_machine.specs.declared.state.Listed.{Listed}
use Rattle.sb_machine.specs.declared.state.Operation.{Operation}
use Rattle.sb_machine.specs.declared.state.Operation.TheVariants.{Send, Settle}
use Rattle.sb_machine.specs.declared.state.Space.{Space}
use Rattle.sb_model.specs.declared.message.Message.{Message}
use Rattle.sb_engine.specs.Commits.{Acts, ActsTelling, first_key, handed_receipt, told_by}
use Rattle.sb_engine.specs.Sendings.{StandsAt, Told, space_at}
use Rattle.sb_engine.proofs.Commits.{acts_handed}
use Rattle.sb_engine.proofs.Growing.{after_both}

-- ---- where a message comes first that is handed on

abbrev key_of_main : Listed → LeafKey
key_of_main d = record { entity = d.number; part = Main }

arrives_first : (g : Onward) (hops : ℕ) (d : Listed) (m : Message) (s : Space) → first_number (arrived g hops d m) s ≡ Number (last_at (key_of_main d) s + 1) ∷ []
arrives_first g hops d m s = go (d.description.requires_session && not (has_session m)) where
  on : (o : Option (List ℕ)) → d.description.forward_to ≡ o → first_number (settled_in g hops d m) s ≡ Number (last_at (key_of_main d) s + 1) ∷ []
  on None is = rw is refl
  on (Some to) is = rw is refl

  go : (b : Bool) → first_number (if b then dead_lettered g hops d NoSession m else settled_in g hops d m) s ≡ Number (last_at (key_of_main d) s + 1) ∷ []
  go true = refl
  go false = on d.description.forward_to refl

enters_first : (g : Onward) (hops : ℕ) (es : List Listed) (d : Listed) (m : Message) (s : Space) → first_number (entered_by g hops es d m) s ≡ Number (last_at (key_of_main d) s + 1) ∷ []
enters_first g hops es d m s = go d.kind where
  go : (k : EntityKind) → first_number (elim k [ Topic ↦ fanned g hops es d (cut_to d m) | Queue ↦ came_to g hops d m | Subscription ↦ came_to g hops d m ]) s ≡ Number (last_at (key_of_main d) s + 1) ∷ []
  go Topic = refl
  go Queue = arrives_first g hops d (cut_to d m) s
  go Subscription = arrives_first g hops d (cut_to d m) s

passes_first : (left : ℕ) (es : List Listed) (e : Listed) (m : Message) (to : List ℕ) (s : Space) → first_number (transferred (suc left) es e m to) s ≡ Number (last_at (first_key es e to) s + 1) ∷ []
passes_first left es e m to s = go (destination es to) where
  go : (o : Option Listed) → first_number (elim o [ Some d ↦ entered_by (transferred left es) (max_hops - left) es d m | None ↦ failed (max_hops - suc left) e NoDestination m ]) s
      ≡ Number (last_at (elim o [ Some d ↦ record { entity = d.number; part = Main } | None ↦ record { entity = e.number; part = Transfer } ]) s + 1) ∷ []
  go None = refl
  go (Some d) = enters_first (transferred left es) (max_hops - left) es d m s

first_listed : (es : List Listed) (e : Listed) (to : List ℕ) → is_listed e.number es ≡ true → is_listed (first_key es e to).entity es ≡ true
first_listed es e to there = go (destination es to) refl where
  go : (o : Option Listed) → destination es to ≡ o → is_listed (elim o as (λ _. LeafKey) [ Some d ↦ record { entity = d.number; part = Main } | None ↦ record { entity = e.number; part = Transfer } ]).entity es ≡ true
  go None is = there
  go (Some d) is = found_there (is_named to) es d is

-- a message that is handed on, with its receipt
pub handed_told : (t : ℕ) (read : Space) (e : Entity) (about : Listed) (to : List ℕ) (m copy : Message) (before after : Given) (fresh : List (List ℕ)) (old new : List Change) (got later : List Receipt) (key : LeafKey) (number : ℕ)
    → StandsAt t read e.about.number before fresh old
    → about ≡ e.about
    → copy ≡ unscheduled m
    → key ≡ first_key (listed read) e.about to
    → number ≡ last_at key read + before key + 1
    → later ≡ got ++ Number number ∷ []
    → IsDelivered (listed read) (λ key. last_at key read) before about (passage (listed read) 0 about copy to) after old new
    → ActsTelling t read e.about.number (handed_on e to m) (handed_receipt e to m) (record { given = before; fresh = fresh; changes = old; receipts = got }) (record { given = after; fresh = fresh; changes = new; receipts = later })
handed_told t read e about to m copy before after fresh old new got later key number now same is key_is number_is later_is given = record {
  acts = acts_handed t read e about to m copy before after fresh old new got later now same is given;
  receipts = later_is ∙ ap (λ (n : ℕ). got ++ Number n ∷ []) (number_is ∙ counted) ∙ sym (ap (λ (rs : List Receipt). got ++ rs) (passes_first 3 (listed s) e.about (unscheduled m) to s));
} where
  s : Space
  s = after_all t old read

  counted : last_at key read + before key + 1 ≡ last_at (first_key (listed s) e.about to) s + 1
  counted =
      ap (λ (k : LeafKey). last_at k read + before k + 1) key_is
      ∙ ap (λ (n : ℕ). n + 1) (sym (now.numbers.lasts (first_key (listed read) e.about to) (first_listed (listed read) e.about to now.there)))
      ∙ ap (λ (es : List Listed). last_at (first_key es e.about to) s + 1) (sym now.numbers.entities)

-- ---- messages that are handed on, one after another

pub handed_next : (t : ℕ) (read : Space) (e : Entity) (to : List ℕ) (ms : List Message) (i : ℕ) (m : Message) (all : List Receipt) (p q : Told) → i < length ms → m ≡ get_or ms i m
    → p.receipts ++ handed_receipts t e to (drop i ms) (space_at t read p) ≡ all → ActsTelling t read e.about.number (handed_on e to m) (handed_receipt e to m) p q → q.receipts ++ handed_receipts t e to (drop (i + 1) ms) (space_at t read q) ≡ all
handed_next t read e to ms i m all p q within here way one =
    ap (λ (x : Space). q.receipts ++ handed_receipts t e to (drop (i + 1) ms) x) led
    ∙ ap (λ (rs : List Receipt). rs ++ handed_receipts t e to (drop (i + 1) ms) (after_all t (handed_on e to m s) s)) one.receipts
    ∙ append_assoc p.receipts (handed_receipt e to m s) (handed_receipts t e to (drop (i + 1) ms) (after_all t (handed_on e to m s) s))
    ∙ sym (ap (λ (l : List Message). p.receipts ++ handed_receipts t e to l s) split)
    ∙ way
  where
    s : Space
    s = space_at t read p

    split : drop i ms ≡ m ∷ drop (i + 1) ms
    split = drop_more ms i m within ∙ ap (λ (y : Message). y ∷ drop (i + 1) ms) (sym here)

    led : space_at t read q ≡ after_all t (handed_on e to m s) s
    led = ap (λ (cs : List Change). after_all t cs read) one.acts.changes ∙ after_both t p.changes (handed_on e to m s) read

pub handed_end : (t : ℕ) (read : Space) (e : Entity) (to : List ℕ) (ms : List Message) (i : ℕ) (p q : Told) → length ms ≤ i → q.receipts ++ handed_receipts t e to (drop i ms) (space_at t read q) ≡ p.receipts ++ handed_receipts t e to ms (space_at t read p)
    → Acts t read e.about.number (in_turn (handed_on e to) t ms) p q → ActsTelling t read e.about.number (in_turn (handed_on e to) t ms) (handed_receipts t e to ms) p q
handed_end t read e to ms i p q past way acts = record {
  acts = acts;
  receipts = sym (append-nil q.receipts) ∙ sym (ap (λ (l : List Message). q.receipts ++ handed_receipts t e to l (space_at t read q)) (drop_all i ms past)) ∙ way;
}

-- ---- operations, one after another

all_more : (t : ℕ) (e : Entity) (o : Operation) (os : List Operation) (s : Space) → all_receipts t e (o ∷ os) s ≡ told_by t e o s ++ all_receipts t e os (after_all t (operation_changes t e o s) s)
all_more t e (Send to ms) os s = refl
all_more t e (Settle from number token session how) os s = refl

pub told_nothing : (t : ℕ) (e : Entity) (o : Operation) (from : Path) (number : ℕ) (token : Token) (session : Option Token) (how : How) (s : Space) (got : List (List Receipt)) → o ≡ Settle from number token session how → got ≡ got ++ told_by t e o s
told_nothing t e o from number token session how s got is = sym (ap (λ (x : Operation). got ++ told_by t e x s) is ∙ append-nil got)

pub told_next : (t : ℕ) (read : Space) (e : Entity) (os : List Operation) (i : ℕ) (o : Operation) (all got later : List (List Receipt)) (p q : Told) → i < length os → o ≡ get_or os i o
    → got ++ all_receipts t e (drop i os) (space_at t read p) ≡ all → Acts t read e.about.number (operation_changes t e o) p q → later ≡ got ++ told_by t e o (space_at t read p) → later ++ all_receipts t e (drop (i + 1) os) (space_at t read q) ≡ all
told_next t read e os i o all got later p q within here way one more =
    ap (λ (x : Space). later ++ all_receipts t e (drop (i + 1) os) x) led
    ∙ ap (λ (rs : List (List Receipt)). rs ++ all_receipts t e (drop (i + 1) os) (after_all t (operation_changes t e o s) s)) more
    ∙ append_assoc got (told_by t e o s) (all_receipts t e (drop (i + 1) os) (after_all t (operation_changes t e o s) s))
    ∙ sym (ap (λ (rs : List (List Receipt)). got ++ rs) (ap (λ (l : List Operation). all_receipts t e l s) split ∙ all_more t e o (drop (i + 1) os) s))
    ∙ way
  where
    s : Space
    s = space_at t read p

    split : drop i os ≡ o ∷ drop (i + 1) os
    split = drop_more os i o within ∙ ap (λ (y : Operation). y ∷ drop (i + 1) os) (sym here)

    led : space_at t read q ≡ after_all t (operation_changes t e o s) s
    led = ap (λ (cs : List Change). after_all t cs read) one.changes ∙ after_both t p.changes (operation_changes t e o s) read

pub told_end : (t : ℕ) (e : Entity) (os : List Operation) (i : ℕ) (all later : List (List Receipt)) (s : Space) → length os ≤ i → later ++ all_receipts t e (drop i os) s ≡ all → later ≡ all
told_end t e os i all later s past way = sym (append-nil later) ∙ sym (ap (λ (l : List Operation). later ++ all_receipts t e l s) (drop_all i os past)) ∙ way
