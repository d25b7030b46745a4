-- Visits are at entities that are there.
use Rattle.std.proofs.Common.{◌≡◌, ℕ, zero, suc, ◌-◌, Bool, true, false, List, [], ◌∷◌, take, drop, Option, Some, None, refl, ap, sym, ◌∙◌}
use Rattle.std.specs.Prelude.{not, ◌&&◌, ◌||◌, ◌==◌, cond}
use Rattle.std.specs.List.{list_all, filter, flat_map, fold, insert}
use Rattle.std.proofs.lemmas.List.{take-append-drop}
use Rattle.std.proofs.lemmas.List.Folds.{list_all-append}
use Rattle.sb_model.specs.declared.message.Message.{Message}
use Rattle.sb_machine.specs.declared.call.Part.{Part}
use Rattle.sb_machine.specs.declared.call.Part.TheVariants as part
use Rattle.sb_machine.specs.declared.change.Cause.TheVariants as cause
use Rattle.sb_machine.specs.declared.state.Listed.{Listed}
use Rattle.sb_machine.specs.declared.state.EntityKind.{EntityKind}
use Rattle.sb_machine.specs.declared.state.EntityKind.TheVariants.{Queue, Topic, Subscription}
use Rattle.sb_machine.specs.declared.reason.DeadReason.{DeadReason}
use Rattle.sb_machine.specs.declared.reason.DeadReason.TheVariants.{TooManyHops, NoSession, RuleFailed, NoDestination}
use Rattle.sb_machine.specs.declared.rule.Outcome.{Outcome}
use Rattle.sb_machine.specs.declared.rule.Outcome.TheVariants.{Copies, Dead as DeadCopy, Dropped}
use Rattle.sb_machine.specs.Selection.{selected}
use Rattle.sb_machine.specs.Reasons.{for_reason}
use Rattle.sb_machine.specs.Visits.{Visit, Lot, Onward, visit, ends, stays, buried, dead_lettered, settled_in, arrived, came_to, chosen, offered, fanned, entered_by, transferred, failed, destination, is_named, is_under, with_next, subscriptions_of, cut_to, has_session, max_hops}
use Rattle.sb_fanout.specs.Laws.{are_there, VisitsAreThere}
use Rattle.sb_fanout.specs.Lasts.{is_listed}
use Rattle.sb_fanout.proofs.Deliveries.{number_itself, or_right, found_there}

pub both : (a b : Bool) → (a && b) ≡ true → (a ≡ true) × (b ≡ true)
both true true e = (refl, refl)
both true false e = absurd cc
both false b e = absurd cc

-- ---- what a search, a filter or an insertion keeps

each_in : (big small : List Listed) → ((n : ℕ) → is_listed n small ≡ true → is_listed n big ≡ true) → list_all (λ s. is_listed s.number big) small ≡ true
each_in big [] sub = refl
each_in big (x ∷ xs) sub =
    ap (λ (b : Bool). b && list_all (λ s. is_listed s.number big) xs) (sub x.number (ap (λ (b : Bool). b || is_listed x.number xs) (number_itself x.number)))
    ∙ each_in big xs (λ n there. sub n (or_right (x.number == n) (is_listed n xs) there))

filter_keeps : (q p : Listed → Bool) (xs : List Listed) → list_all q xs ≡ true → list_all q (filter p xs) ≡ true
filter_keeps q p [] all = refl
filter_keeps q p (x ∷ xs) all = go (p x) (filter_keeps q p xs (both (q x) (list_all q xs) all).1)
  where
    go : (b : Bool) → list_all q (filter p xs) ≡ true → list_all q (cond b (x ∷ filter p xs) (filter p xs)) ≡ true
    go true rest = ap (λ (b : Bool). b && list_all q (filter p xs)) (both (q x) (list_all q xs) all).0 ∙ rest
    go false rest = rest

insert_keeps : (q : Listed → Bool) (xs : List Listed) (i : ℕ) (e : Listed) → list_all q xs ≡ true → q e ≡ true → list_all q (insert xs i e) ≡ true
insert_keeps q xs i e all one =
    let parts = both (list_all q (take i xs)) (list_all q (drop i xs)) (sym (list_all-append q (take i xs) (drop i xs)) ∙ ap (list_all q) (take-append-drop i xs) ∙ all) in
    list_all-append q (take i xs) (e ∷ drop i xs)
    ∙ ap (λ (b : Bool). b && list_all q (e ∷ drop i xs)) parts.0
    ∙ ap (λ (b : Bool). b && list_all q (drop i xs)) one
    ∙ parts.1

order_keeps : (q : Listed → Bool) (xs acc : List Listed) → list_all q acc ≡ true → list_all q xs ≡ true → list_all q (fold with_next acc xs) ≡ true
order_keeps q [] acc all others = all
order_keeps q (x ∷ xs) acc all others =
    let its = both (q x) (list_all q xs) others in
    order_keeps q xs (with_next acc x) (insert_keeps q acc _ x all its.0) its.1

subscriptions_there : (es : List Listed) (topic : List ℕ) → list_all (λ s. is_listed s.number es) (subscriptions_of es topic) ≡ true
subscriptions_there es topic = order_keeps (λ s. is_listed s.number es) (filter (is_under topic) es) [] refl (filter_keeps (λ s. is_listed s.number es) (is_under topic) es (each_in es es (λ n there. there)))

-- ---- visits

abbrev Keeps : List Listed → Onward → Type 0
Keeps es g = (e : Listed) (m : Message) (to : List ℕ) → is_listed e.number es ≡ true → are_there es (g e m to) ≡ true

more : (es : List Listed) (e : Listed) (p : Part) (lot : Lot) (vs : List Visit) → is_listed e.number es ≡ true → are_there es vs ≡ true → are_there es (visit e p lot ∷ vs) ≡ true
more es e p lot vs there rest = ap (λ (b : Bool). b && are_there es vs) there ∙ rest

each : {X : Type 0} (es : List Listed) (q : X → Bool) (g : X → List Visit) → ((x : X) → q x ≡ true → are_there es (g x) ≡ true) → (xs : List X) → list_all q xs ≡ true → are_there es (flat_map g xs) ≡ true
each es q g same [] all = refl
each es q g same (x ∷ xs) all =
    let its = both (q x) (list_all q xs) all in
    list_all-append (λ (v : Visit). is_listed v.entity es) (g x) (flat_map g xs) ∙ ap (λ (b : Bool). b && are_there es (flat_map g xs)) (same x its.0) ∙ each es q g same xs its.1

any_message : (ms : List Message) → list_all (λ (m : Message). true) ms ≡ true
any_message [] = refl
any_message (m ∷ ms) = any_message ms

buried_there : (es : List Listed) (g : Onward) (hops : ℕ) (e : Listed) (m : Message) → is_listed e.number es ≡ true → Keeps es g → are_there es (buried g hops e m) ≡ true
buried_there es g hops e m there keeps = go e.description.forward_dead_to
  where
    go : (o : Option (List ℕ)) → are_there es (elim o [ Some to ↦ g e m to | None ↦ visit e part.Dead (stays hops m) ∷ [] ]) ≡ true
    go None = more es e part.Dead (stays hops m) [] there refl
    go (Some to) = keeps e m to there

dead_there : (es : List Listed) (g : Onward) (hops : ℕ) (e : Listed) (reason : DeadReason) (m : Message) → is_listed e.number es ≡ true → Keeps es g → are_there es (dead_lettered g hops e reason m) ≡ true
dead_there es g hops e reason m there keeps = more es e part.Main (ends cause.DeadLettered) (buried g hops e (for_reason reason m)) there (buried_there es g hops e (for_reason reason m) there keeps)

settled_there : (es : List Listed) (g : Onward) (hops : ℕ) (e : Listed) (m : Message) → is_listed e.number es ≡ true → Keeps es g → are_there es (settled_in g hops e m) ≡ true
settled_there es g hops e m there keeps = go e.description.forward_to
  where
    go : (o : Option (List ℕ)) → are_there es (elim o [ Some to ↦ visit e part.Main (ends cause.Forwarded) ∷ g e m to | None ↦ visit e part.Main (stays hops m) ∷ [] ]) ≡ true
    go None = more es e part.Main (stays hops m) [] there refl
    go (Some to) = more es e part.Main (ends cause.Forwarded) (g e m to) there (keeps e m to there)

arrived_there : (es : List Listed) (g : Onward) (hops : ℕ) (e : Listed) (m : Message) → is_listed e.number es ≡ true → Keeps es g → are_there es (arrived g hops e m) ≡ true
arrived_there es g hops e m there keeps = go (e.description.requires_session && not (has_session m))
  where
    go : (b : Bool) → are_there es (cond b (dead_lettered g hops e NoSession m) (settled_in g hops e m)) ≡ true
    go true = dead_there es g hops e NoSession m there keeps
    go false = settled_there es g hops e m there keeps

chosen_there : (es : List Listed) (g : Onward) (hops : ℕ) (e : Listed) (m : Message) (o : Outcome) → is_listed e.number es ≡ true → Keeps es g → are_there es (chosen g hops e m o) ≡ true
chosen_there es g hops e m (Copies messages) there keeps = each es (λ c. true) (came_to g hops e) (λ c is. arrived_there es g hops e (cut_to e c) there keeps) messages (any_message messages)
chosen_there es g hops e m DeadCopy there keeps = dead_there es g hops e RuleFailed (cut_to e m) there keeps
chosen_there es g hops e m Dropped there keeps = refl

entered_there : (g : Onward) (hops : ℕ) (es : List Listed) (e : Listed) (m : Message) → is_listed e.number es ≡ true → Keeps es g → are_there es (entered_by g hops es e m) ≡ true
entered_there g hops es e m there keeps = go e.kind
  where
    go : (k : EntityKind) → are_there es (elim k [ Topic ↦ fanned g hops es e (cut_to e m) | Queue ↦ came_to g hops e m | Subscription ↦ came_to g hops e m ]) ≡ true
    go Topic = more es e part.Main (ends cause.Fanned) (flat_map (offered g hops (cut_to e m)) (subscriptions_of es e.path.name)) there (each es (λ s. is_listed s.number es) (offered g hops (cut_to e m)) (λ s is. chosen_there es g hops s (cut_to e m) (selected s.description.dead_on_fault s.rules (cut_to e m)) is keeps) (subscriptions_of es e.path.name) (subscriptions_there es e.path.name))
    go Queue = arrived_there es g hops e (cut_to e m) there keeps
    go Subscription = arrived_there es g hops e (cut_to e m) there keeps

transferred_there : (left : ℕ) (es : List Listed) → Keeps es (transferred left es)
transferred_there zero es e m to there = more es e part.Transfer (stays max_hops (for_reason TooManyHops m)) [] there refl
transferred_there (suc left) es e m to there = go (destination es to) refl (transferred_there left es)
  where
    go : (o : Option Listed) → destination es to ≡ o → Keeps es (transferred left es) → are_there es (elim o [ Some d ↦ entered_by (transferred left es) (max_hops - left) es d m | None ↦ failed (max_hops - suc left) e NoDestination m ]) ≡ true
    go None is keeps = more es e part.Transfer (stays (max_hops - suc left) (for_reason NoDestination m)) [] there refl
    go (Some d) is keeps = entered_there (transferred left es) (4 - left) es d m (found_there (is_named to) es d is) keeps

pub visits_are_there : VisitsAreThere
visits_are_there = record {
  entering = λ es hops e m there. entered_there (transferred (4 - hops) es) hops es e m there (transferred_there (4 - hops) es);
  burying = λ es hops e m there. buried_there es (transferred (4 - hops) es) hops e m there (transferred_there (4 - hops) es);
  passing = λ es hops e m to there. transferred_there (4 - hops) es e m to there;
}
