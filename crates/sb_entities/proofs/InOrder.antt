-- Entities in memory stay in rising number.
use Rattle.std.proofs.Common.{◌≡◌, ℕ, ◌+◌, not, List, [], ◌∷◌, ◌++◌, filter, map, refl, sym, ap, ◌∙◌, subst}
use Rattle.std.proofs.lemmas.List.{map-append}
use Rattle.sb_machine.specs.Each.{IsSorted}
use Rattle.sb_machine.specs.Keyed.{AreRising, changed}
use Rattle.sb_machine.specs.Namespace.{is_entity}
use Rattle.sb_machine.specs.declared.state.Entity.{Entity}
use Rattle.sb_entities.specs.Stocks.{has_number, entity_after, entry_after, on_entry}
use Rattle.sb_entities.specs.Stores.{entity_in, entities_in, entries_in}
use Rattle.sb_entities.specs.Tables.{number_of, is_earlier}
use Rattle.sb_entities.specs.declared.change.EntityChange.{EntityChange}
use Rattle.sb_entities.specs.declared.entity.EntityStore.{EntityStore}
use Rattle.sb_entities.proofs.Bisecting.{in_order}
use Rattle.sb_entities.proofs.Promised.{number_after}
use Rattle.sb_entities.proofs.Rising.{rising_append, rising_changed, rising_filter}
use Rattle.sb_entities.proofs.Seen.{changed_seen, filter_seen}
use Rattle.sb_entities.proofs.Stocking.{entity_of, entities_seen}

abbrev pub Rise : ℕ → List EntityStore → Type 0
Rise last rows = AreRising number_of 0 last (entities_in rows)

pub sorted : (last : ℕ) (rows : List EntityStore) → Rise last rows → IsSorted is_earlier rows
sorted last rows h = in_order entity_in number_of 0 last rows h

pub rise_pushed : (last n : ℕ) (e : EntityStore) (rows new : List EntityStore) → n ≡ last + 1 → number_of (entity_in e) ≡ last + 1 → new ≡ rows ++ e ∷ [] → Rise last rows → Rise n new
rise_pushed last n e rows new is next pushed h =
    let seen : entities_in new ≡ entities_in rows ++ entity_in e ∷ [] = ap entities_in pushed ∙ map-append entity_in rows (e ∷ []) in
    subst (λ (m : ℕ). Rise m new) (sym is) (subst (λ (es : List Entity). AreRising number_of 0 (last + 1) es) (sym seen) (rising_append number_of 0 last (entity_in e) (entities_in rows) next h))

-- those that are left, and those that have changed, as they are seen
pub seen_removed : (n : ℕ) (rows new : List EntityStore) → entries_in new ≡ filter (λ x. not (has_number n x)) (entries_in rows) → entities_in new ≡ filter (λ e. not (is_entity n e)) (entities_in rows)
seen_removed n rows new is =
    entities_seen new ∙ ap (map entity_of) is ∙ filter_seen entity_of (λ e. not (is_entity n e)) (entries_in rows) ∙ ap (filter (λ e. not (is_entity n e))) (sym (entities_seen rows))

pub seen_changed : (n t : ℕ) (c : EntityChange) (rows new : List EntityStore) → entries_in new ≡ on_entry n (entry_after t c) (entries_in rows) → entities_in new ≡ changed (is_entity n) (λ e. entity_after t c e ∷ []) (entities_in rows)
seen_changed n t c rows new is =
    entities_seen new ∙ ap (map entity_of) is ∙ changed_seen entity_of (is_entity n) (λ x. entry_after t c x ∷ []) (λ e. entity_after t c e ∷ []) (λ x. refl) (entries_in rows) ∙ ap (changed (is_entity n) (λ e. entity_after t c e ∷ [])) (sym (entities_seen rows))

pub rise_removed : (n last : ℕ) (rows new : List EntityStore) → entries_in new ≡ filter (λ x. not (has_number n x)) (entries_in rows) → Rise last rows → Rise last new
rise_removed n last rows new is h =
    subst (λ (es : List Entity). AreRising number_of 0 last es) (sym (seen_removed n rows new is)) (rising_filter number_of (λ e. not (is_entity n e)) 0 last (entities_in rows) h)

pub rise_changed : (n last t : ℕ) (c : EntityChange) (rows new : List EntityStore) → entries_in new ≡ on_entry n (entry_after t c) (entries_in rows) → Rise last rows → Rise last new
rise_changed n last t c rows new is h =
    subst (λ (es : List Entity). AreRising number_of 0 last es) (sym (seen_changed n t c rows new is)) (rising_changed number_of (is_entity n) (entity_after t c) (number_after t c) 0 last (entities_in rows) h)
