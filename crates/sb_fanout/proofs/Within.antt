-- Copies that stay were forwarded at most four times.
use Rattle.std.proofs.Common.{◌≡◌, ℕ, zero, suc, ◌-◌, ◌≤◌, Bool, true, false, List, [], ◌∷◌, Option, Some, None, refl, ap, ◌∙◌, arith}
use Rattle.std.specs.Prelude.{not, ◌&&◌, cond, nat_le}
use Rattle.std.specs.List.{list_all, flat_map}
use Rattle.std.proofs.lemmas.Bool.Decides.{nat_tests}
use Rattle.std.proofs.lemmas.List.Folds.{list_all-append}
use Rattle.sb_model.specs.declared.message.Message.{Message}
use Rattle.sb_machine.specs.declared.call.Part.{Part}
use Rattle.sb_machine.specs.declared.call.Part.TheVariants as part
use Rattle.sb_machine.specs.declared.change.Cause.TheVariants as cause
use Rattle.sb_machine.specs.declared.state.Listed.{Listed}
use Rattle.sb_machine.specs.declared.state.EntityKind.{EntityKind}
use Rattle.sb_machine.specs.declared.state.EntityKind.TheVariants.{Queue, Topic, Subscription}
use Rattle.sb_machine.specs.declared.reason.DeadReason.TheVariants.{NoSession, RuleFailed, NoDestination}
use Rattle.sb_machine.specs.declared.rule.Outcome.{Outcome}
use Rattle.sb_machine.specs.declared.rule.Outcome.TheVariants.{Copies, Dead as DeadCopy, Dropped}
use Rattle.sb_machine.specs.Selection.{selected}
use Rattle.sb_machine.specs.Reasons.{for_reason}
use Rattle.sb_machine.specs.Visits.{Visit, Onward, visit, ends, stays, buried, dead_lettered, settled_in, arrived, came_to, chosen, offered, fanned, entered_by, transferred, failed, destination, subscriptions_of, cut_to, has_session, max_hops}
use Rattle.sb_fanout.specs.Laws.{is_within, AreWithin, HopsStayWithin}

abbrev Keeps : Onward → Type 0
Keeps g = (e : Listed) (m : Message) (to : List ℕ) → AreWithin (g e m to)

small : (hops : ℕ) → hops ≤ 4 → nat_le hops 4 ≡ true
small hops most = grind (arith, nat_tests)

alone : (e : Listed) (p : Part) (hops : ℕ) (m : Message) → hops ≤ 4 → AreWithin (visit e p (stays hops m) ∷ [])
alone e p hops m most = ap (λ (b : Bool). b && true) (small hops most)

each : {X : Type 0} (g : X → List Visit) → ((x : X) → AreWithin (g x)) → (xs : List X) → AreWithin (flat_map g xs)
each g same [] = refl
each g same (x ∷ xs) = list_all-append is_within (g x) (flat_map g xs) ∙ ap (λ (b : Bool). b && list_all is_within (flat_map g xs)) (same x) ∙ each g same xs

buried_within : (g : Onward) (hops : ℕ) (e : Listed) (m : Message) → hops ≤ 4 → Keeps g → AreWithin (buried g hops e m)
buried_within g hops e m most keeps = go e.description.forward_dead_to
  where
    go : (o : Option (List ℕ)) → AreWithin (elim o [ Some to ↦ g e m to | None ↦ visit e part.Dead (stays hops m) ∷ [] ])
    go None = alone e part.Dead hops m most
    go (Some to) = keeps e m to

settled_within : (g : Onward) (hops : ℕ) (e : Listed) (m : Message) → hops ≤ 4 → Keeps g → AreWithin (settled_in g hops e m)
settled_within g hops e m most keeps = go e.description.forward_to
  where
    go : (o : Option (List ℕ)) → AreWithin (elim o [ Some to ↦ visit e part.Main (ends cause.Forwarded) ∷ g e m to | None ↦ visit e part.Main (stays hops m) ∷ [] ])
    go None = alone e part.Main hops m most
    go (Some to) = keeps e m to

arrived_within : (g : Onward) (hops : ℕ) (e : Listed) (m : Message) → hops ≤ 4 → Keeps g → AreWithin (arrived g hops e m)
arrived_within g hops e m most keeps = go (e.description.requires_session && not (has_session m))
  where
    go : (b : Bool) → AreWithin (cond b (dead_lettered g hops e NoSession m) (settled_in g hops e m))
    go true = buried_within g hops e (for_reason NoSession m) most keeps
    go false = settled_within g hops e m most keeps

chosen_within : (g : Onward) (hops : ℕ) (e : Listed) (m : Message) (o : Outcome) → hops ≤ 4 → Keeps g → AreWithin (chosen g hops e m o)
chosen_within g hops e m (Copies messages) most keeps = each (came_to g hops e) (λ c. arrived_within g hops e (cut_to e c) most keeps) messages
chosen_within g hops e m DeadCopy most keeps = buried_within g hops e (for_reason RuleFailed (cut_to e m)) most keeps
chosen_within g hops e m Dropped most keeps = refl

entered_within : (g : Onward) (hops : ℕ) (es : List Listed) (e : Listed) (m : Message) → hops ≤ 4 → Keeps g → AreWithin (entered_by g hops es e m)
entered_within g hops es e m most keeps = go e.kind
  where
    go : (k : EntityKind) → AreWithin (elim k [ Topic ↦ fanned g hops es e (cut_to e m) | Queue ↦ came_to g hops e m | Subscription ↦ came_to g hops e m ])
    go Topic = each (offered g hops (cut_to e m)) (λ s. chosen_within g hops s (cut_to e m) (selected s.description.dead_on_fault s.rules (cut_to e m)) most keeps) (subscriptions_of es e.path.name)
    go Queue = arrived_within g hops e (cut_to e m) most keeps
    go Subscription = arrived_within g hops e (cut_to e m) most keeps

transferred_within : (left : ℕ) (es : List Listed) → Keeps (transferred left es)
transferred_within zero es e m to = refl
transferred_within (suc left) es e m to = go (destination es to) (transferred_within left es)
  where
    go : (o : Option Listed) → Keeps (transferred left es) → AreWithin (elim o [ Some d ↦ entered_by (transferred left es) (max_hops - left) es d m | None ↦ failed (max_hops - suc left) e NoDestination m ])
    go None keeps = alone e part.Transfer (4 - suc left) (for_reason NoDestination m) (omega arith)
    go (Some d) keeps = entered_within (transferred left es) (4 - left) es d m (omega arith) keeps

pub hops_stay_within : HopsStayWithin
hops_stay_within = record {
  entering = λ es hops e m most. entered_within (transferred (4 - hops) es) hops es e m most (transferred_within (4 - hops) es);
  burying = λ es hops e m most. buried_within (transferred (4 - hops) es) hops e m most (transferred_within (4 - hops) es);
  passing = λ es hops e m to most. transferred_within (4 - hops) es e m to;
}
