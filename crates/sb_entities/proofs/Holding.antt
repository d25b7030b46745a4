-- The rows under hashes of entities in memory, as these come, go and change.
use Rattle.std.proofs.Common.{◌≡◌, ℕ, ◌+◌, ◌<◌, ◌≤◌, not, List, [], ◌∷◌, ◌++◌, filter, Option, Some, refl, sym, ap, ◌∙◌, subst, arith}
use Rattle.std.proofs.lemmas.List.{map-append}
use Rattle.sb_index.specs.Rows.{AreRising as AreRisingRows, Lacks}
use Rattle.sb_index.specs.declared.row.Row.{Row}
use Rattle.sb_machine.specs.Each.{Each}
use Rattle.sb_machine.specs.Keyed.{AreRising}
use Rattle.sb_machine.specs.declared.call.Part.TheVariants.{Main, Dead, Transfer}
use Rattle.sb_machine.specs.declared.call.Path.{Path}
use Rattle.sb_machine.specs.declared.state.Entity.{Entity}
use Rattle.sb_entities.specs.ByHash.{HoldsBy, entity_key, hash_at, hash_of_path, hash_of_topic, path_hash, span, topic_hash, with_entity, without_entity}
use Rattle.sb_entities.specs.Stocks.{has_number, entity_after, entry_after, on_entry}
use Rattle.sb_entities.specs.Stores.{entity_in, entities_in, entries_in}
use Rattle.sb_entities.specs.Tables.{number_of}
use Rattle.sb_entities.specs.declared.change.EntityChange.{EntityChange}
use Rattle.sb_entities.specs.declared.change.EntityChange.TheVariants.{InPart, NotesId, GainsRule, LosesRule}
use Rattle.sb_entities.specs.declared.entity.EntityStore.{EntityStore}
use Rattle.sb_entities.proofs.ByHash.{IsBelow, lacks_next, one_comes, put_so, stays_so, taken_so}
use Rattle.sb_entities.proofs.HashFinds.{sorted_seen}
use Rattle.sb_entities.proofs.InOrder.{Rise, seen_changed, seen_removed, sorted}
use Rattle.sb_entities.proofs.Promised.{number_after}

top : (above last : ℕ) (es : List Entity) → AreRising number_of above last es → above ≤ last
top above last [] h = h
top above last (e ∷ es) h = let up = top (number_of e) last es h.1 in omega (arith, up, h.0)

each_within : (above last n : ℕ) (es : List Entity) → last < n → AreRising number_of above last es → Each (IsBelow n) es
each_within above last n [] lt h = tt
each_within above last n (e ∷ es) lt h = let up = top (number_of e) last es h.1 in (omega (arith, up, lt), each_within (number_of e) last n es lt h.1)

-- an address stays
path_after : (t : ℕ) (c : EntityChange) (e : Entity) → (entity_after t c e).about.path ≡ e.about.path
path_after t (InPart Main lock c) e = refl
path_after t (InPart Dead lock c) e = refl
path_after t (InPart Transfer lock c) e = refl
path_after t (NotesId id) e = refl
path_after t (GainsRule rule) e = refl
path_after t (LosesRule name) e = refl

pub path_stays : (t : ℕ) (c : EntityChange) (e : Entity) → hash_of_path (entity_after t c e) ≡ hash_of_path e
path_stays t c e = ap (λ (p : Path). Some (path_hash p)) (path_after t c e)

pub topic_stays : (t : ℕ) (c : EntityChange) (e : Entity) → hash_of_topic (entity_after t c e) ≡ hash_of_topic e
topic_stays t c e = ap (λ (p : Path). topic_hash p) (path_after t c e)

module _ (f : Entity → Option ℕ) where
  pub held_lacks : (last n : ℕ) (index : List Row) (rows : List EntityStore) → n ≡ last + 1 → n < span → Rise last rows → HoldsBy f index (entities_in rows) → (h : ℕ) → Lacks (entity_key h n) index
  held_lacks last n index rows next fits rise holds h = lacks_next f h n index (entities_in rows) fits (each_within 0 last n (entities_in rows) (omega (arith, next)) rise) holds

  pub held_pushed : (o : Option ℕ) (last n : ℕ) (e : EntityStore) (index new : List Row) (rows after : List EntityStore) → f (entity_in e) ≡ o → n ≡ number_of (entity_in e) → n ≡ last + 1 → n < span → AreRisingRows index → Rise last rows → HoldsBy f index (entities_in rows) → new ≡ with_entity o n index → after ≡ rows ++ e ∷ [] → HoldsBy f new (entities_in after)
  held_pushed o last n e index new rows after hashed own next fits s rise holds put pushed =
      put_so f o (entity_in e) index new (entities_in rows) (entities_in after) hashed (omega (arith, own, fits)) s (each_within 0 last (number_of (entity_in e)) (entities_in rows) (omega (arith, own, next)) rise) holds
      (put ∙ ap (λ m. with_entity o m index) own) (ap entities_in pushed ∙ map-append entity_in rows (e ∷ []))

  pub held_removed : (n last : ℕ) (o : Option ℕ) (index new : List Row) (rows after : List EntityStore) → n < span → last < span → o ≡ hash_at f n (entities_in rows) → Rise last rows → HoldsBy f index (entities_in rows) → new ≡ without_entity o n index → entries_in after ≡ filter (λ x. not (has_number n x)) (entries_in rows) → HoldsBy f new (entities_in after)
  held_removed n last o index new rows after fits few is rise holds taken removed =
      taken_so f n (hash_at f n (entities_in rows)) index new (entities_in rows) (entities_in after) fits (each_within 0 last span (entities_in rows) few rise) (one_comes f n (entities_in rows) (sorted_seen rows (sorted last rows rise))) holds
      (taken ∙ ap (λ o. without_entity o n index) is) (seen_removed n rows after removed)

  pub held_changed : ((t : ℕ) (c : EntityChange) (e : Entity) → f (entity_after t c e) ≡ f e) → (n t : ℕ) (c : EntityChange) (index : List Row) (rows after : List EntityStore) → HoldsBy f index (entities_in rows) → entries_in after ≡ on_entry n (entry_after t c) (entries_in rows) → HoldsBy f index (entities_in after)
  held_changed same n t c index rows after holds is = stays_so f n (entity_after t c) (number_after t c) (same t c) index (entities_in rows) (entities_in after) holds (seen_changed n t c rows after is)

  pub held_same : (index : List Row) (rows after : List EntityStore) → HoldsBy f index (entities_in rows) → entities_in after ≡ entities_in rows → HoldsBy f index (entities_in after)
  held_same index rows after holds is = subst (λ (es : List Entity). HoldsBy f index es) (sym is) holds
