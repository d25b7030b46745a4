-- From the tally of a message's way to what its delivery is.
use Rattle.std.proofs.Common.{◌≡◌, ℕ, zero, suc, ◌-◌, Bool, true, false, cond, List, [], ◌∷◌, ◌++◌, Option, Some, None, refl, ap, sym, ◌∙◌, arith, subst}
use Rattle.std.specs.Prelude.{find, ◌==◌, ◌||◌, ◌&&◌, not}
use Rattle.std.proofs.lemmas.Bool.Decides.{nat_tests}
use Rattle.std.proofs.lemmas.List.{append-nil}
use Rattle.sb_machine.specs.Changes.{after_all}
use Rattle.sb_machine.specs.Delivery.{delivered, carried, visit_key}
use Rattle.sb_machine.specs.Visits.{Visit, Onward, visit, ends, stays, dead_lettered, settled_in, came_to, fanned, entered_by, transferred, failed, destination, cut_to, has_session, max_hops, visits}
use Rattle.sb_machine.specs.declared.call.Part.TheVariants as part
use Rattle.sb_machine.specs.declared.change.Cause.TheVariants as cause
use Rattle.sb_machine.specs.declared.change.Change.{Change}
use Rattle.sb_model.specs.declared.message.Message.{Message}
use Rattle.sb_machine.specs.declared.reason.DeadReason.TheVariants.{NoSession, NoDestination}
use Rattle.sb_machine.specs.declared.state.EntityKind.{EntityKind}
use Rattle.sb_machine.specs.declared.state.EntityKind.TheVariants.{Queue, Topic, Subscription}
use Rattle.sb_machine.specs.declared.state.Listed.{Listed}
use Rattle.sb_machine.specs.declared.state.Space.{Space}
use Rattle.sb_fanout.specs.Deliveries.{IsDelivered, IsCarried}
use Rattle.sb_fanout.specs.Lasts.{Given, given_in, is_listed, StandsFor}
use Rattle.sb_fanout.specs.Tallies.{Told, told, all_visited}
use Rattle.sb_fanout.specs.declared.tally.Tally.{Tally}
use Rattle.sb_fanout.proofs.Standing.{begun, carried_by, delivered_by, given_after, given_by, carried_stands, delivered_stands}

-- ---- where a way begins

abbrev pub BeginsThere : List Listed → List Visit → Type 0
BeginsThere es [] = Unit {0}
BeginsThere es (v ∷ vs) = is_listed v.entity es ≡ true

pub number_itself : (n : ℕ) → (n == n) ≡ true
number_itself n = grind (arith, nat_tests)

pub or_right : (a b : Bool) → b ≡ true → (a || b) ≡ true
or_right true b e = refl
or_right false b e = e

pub found_there : (p : Listed → Bool) (es : List Listed) (d : Listed) → find p es ≡ Some d → is_listed d.number es ≡ true
found_there p [] d found = absurd cc
found_there p (x ∷ xs) d found = go (p x) refl (found_there p xs d)
  where
    go : (b : Bool) → p x ≡ b → (find p xs ≡ Some d → is_listed d.number xs ≡ true) → is_listed d.number (x ∷ xs) ≡ true
    go true is later =
        let here : Some x ≡ Some d = rw is at found in
        let same : x ≡ d = cc in
        ap (λ (b : Bool). b || is_listed d.number xs) (ap (λ (e : Listed). e.number == d.number) same ∙ number_itself d.number)
    go false is later = or_right (x.number == d.number) (is_listed d.number xs) (later (rw is at found))

came_there : (es : List Listed) (onward : Onward) (hops : ℕ) (e : Listed) (m : Message) → is_listed e.number es ≡ true → BeginsThere es (came_to onward hops e m)
came_there es onward hops e m there = go (e.description.requires_session && not (has_session (cut_to e m)))
  where
    settled : (o : Option (List ℕ)) → BeginsThere es (elim o [ Some to ↦ visit e part.Main (ends cause.Forwarded) ∷ onward e (cut_to e m) to | None ↦ visit e part.Main (stays hops (cut_to e m)) ∷ [] ])
    settled None = there
    settled (Some to) = there

    go : (b : Bool) → BeginsThere es (cond b (dead_lettered onward hops e NoSession (cut_to e m)) (settled_in onward hops e (cut_to e m)))
    go true = there
    go false = settled e.description.forward_to

entered_there : (es : List Listed) (onward : Onward) (hops : ℕ) (e : Listed) (m : Message) → is_listed e.number es ≡ true → BeginsThere es (entered_by onward hops es e m)
entered_there es onward hops e m there = go e.kind
  where
    go : (k : EntityKind) → BeginsThere es (elim k [ Topic ↦ fanned onward hops es e (cut_to e m) | Queue ↦ came_to onward hops e m | Subscription ↦ came_to onward hops e m ])
    go Topic = there
    go Queue = came_there es onward hops e m there
    go Subscription = came_there es onward hops e m there

pub transferred_there : (left : ℕ) (es : List Listed) (e : Listed) (m : Message) (to : List ℕ) → is_listed e.number es ≡ true → BeginsThere es (transferred left es e m to)
transferred_there zero es e m to there = there
transferred_there (suc left) es e m to there = go (destination es to) refl
  where
    go : (o : Option Listed) → destination es to ≡ o → BeginsThere es (elim o [ Some d ↦ entered_by (transferred left es) (max_hops - left) es d m | None ↦ failed (max_hops - suc left) e NoDestination m ])
    go None is = there
    go (Some d) is = entered_there es (transferred left es) (4 - left) d m (found_there _ es d is)

pub visits_there : (es : List Listed) (hops : ℕ) (e : Listed) (m : Message) → is_listed e.number es ≡ true → BeginsThere es (visits es hops e m)
visits_there es hops e m there = entered_there es (transferred (4 - hops) es) hops e m there

-- ---- what a way comes to

pub delivers : (es : List Listed) (last before : Given) (e : Listed) (vs : List Visit) (after : Given) (old new : List Change) (y z : Tally) → (is_listed e.number es ≡ true → BeginsThere es vs) → told y ≡ begun before None old → told z ≡ all_visited last (told y) vs → after ≡ given_in z.lasts → new ≡ z.changes → IsDelivered es last before e vs after old new
delivers es last before e vs after old new y z begins first all lasts told_last = record {
  changes = λ s stands there. told_last ∙ ap (λ (x : Told). x.changes) whole ∙ go s vs stands (begins there);
  stands = λ s t stands. subst (λ (g : Given). StandsFor es last g (after_all t (delivered None vs s) s)) (sym behind) (delivered_stands es last before t vs s stands);
}
  where
    whole : told z ≡ all_visited last (begun before None old) vs
    whole = all ∙ ap (λ (x : Told). all_visited last x vs) first

    behind : after ≡ given_after before vs
    behind = lasts ∙ ap (λ (x : Told). x.given) whole ∙ given_by last (begun before None old) vs

    go : (s : Space) (ws : List Visit) → StandsFor es last before s → BeginsThere es ws → (all_visited last (begun before None old) ws).changes ≡ old ++ delivered None ws s
    go s [] stands there = sym (append-nil old)
    go s (v ∷ ws) stands there = delivered_by last before old v ws s (stands.lasts (visit_key v) there)

pub carries : (es : List Listed) (last before : Given) (seq : ℕ) (vs : List Visit) (after : Given) (old new : List Change) (y z : Tally) → told y ≡ begun before (Some seq) old → told z ≡ all_visited last (told y) vs → after ≡ given_in z.lasts → new ≡ z.changes → IsCarried es last before seq vs after old new
carries es last before seq vs after old new y z first all lasts told_last = record {
  changes = told_last ∙ ap (λ (x : Told). x.changes) whole ∙ carried_by last before seq old vs;
  stands = λ s t stands. subst (λ (g : Given). StandsFor es last g (after_all t (carried seq vs) s)) (sym behind) (carried_stands es last before t seq vs s stands);
}
  where
    whole : told z ≡ all_visited last (begun before (Some seq) old) vs
    whole = all ∙ ap (λ (x : Told). all_visited last x vs) first

    behind : after ≡ given_after before vs
    behind = lasts ∙ ap (λ (x : Told). x.given) whole ∙ given_by last (begun before (Some seq) old) vs
