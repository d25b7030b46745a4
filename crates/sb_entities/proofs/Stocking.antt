-- What a store holds is a namespace, which changes as the model's does.
use Rattle.std.proofs.Common.{◌≡◌, ℕ, ◌+◌, List, [], ◌∷◌, not, filter, map, refl, ap, sym, ◌∙◌}
use Rattle.std.proofs.lemmas.List.{map-append}
use Rattle.std.specs.Prelude.{sum_by}
use Rattle.sb_machine.specs.Changes.{after, is_transaction, with_operation}
use Rattle.sb_machine.specs.Keyed.{changed}
use Rattle.sb_machine.specs.Namespace.{is_entity, made_in}
use Rattle.sb_machine.specs.declared.change.Change.{Change}
use Rattle.sb_machine.specs.declared.change.Change.TheVariants.{InLeaf, Notes, Makes, Removes, AddsRule, DropsRule, Begins, Queues, Drops}
use Rattle.sb_machine.specs.declared.state.Entity.{Entity}
use Rattle.sb_machine.specs.declared.state.Space.{Space}
use Rattle.sb_machine.specs.declared.state.Transaction.{Transaction}
use Rattle.sb_txn.specs.Txns.{Opened, begun, with_queued, is_elsewhere}
use Rattle.sb_entities.specs.Stocks.{Entry, Stock, new_entry, has_number, entity_after, entry_after, on_entry, space_of, stock_after}
use Rattle.sb_entities.specs.Stores.{entry_in, entities_in, entries_in, space_in, stock_in}
use Rattle.sb_entities.specs.declared.change.EntityChange.{EntityChange}
use Rattle.sb_entities.specs.declared.change.EntityChange.TheVariants.{InPart, NotesId, GainsRule, LosesRule}
use Rattle.sb_entities.specs.declared.entity.EntityStore.{EntityStore}
use Rattle.sb_entities.specs.declared.space.SpaceStore.{SpaceStore}
use Rattle.sb_entities.proofs.Seen.{map_map, filter_seen, changed_seen, sum_seen}

abbrev pub entity_of : Entry → Entity
entity_of x = x.entity

abbrev txn_of : Opened → Transaction
txn_of r = r.transaction

on_seen : (n t : ℕ) (c : EntityChange) (s : Space) (xs : List Entry) → record s { entities = map entity_of (on_entry n (entry_after t c) xs) } ≡ record s { entities = changed (is_entity n) (λ e. entity_after t c e ∷ []) (map entity_of xs) }
on_seen n t c s xs = ap (λ (l : List Entity). record s { entities = l }) (changed_seen entity_of (is_entity n) (λ x. entry_after t c x ∷ []) (λ e. entity_after t c e ∷ []) (λ x. refl) xs)

seen_removed : (s : Space) (r q : ℕ) (es ds : List Entity) (ts us : List Transaction) → r ≡ q → es ≡ ds → ts ≡ us → record s { removed = r; entities = es; transactions = ts } ≡ record s { removed = q; entities = ds; transactions = us }
seen_removed s r q es ds ts us a b c =
    ap (λ (z : ℕ). record s { removed = z; entities = es; transactions = ts }) a
    ∙ ap (λ (z : List Entity). record s { removed = q; entities = z; transactions = ts }) b
    ∙ ap (λ (z : List Transaction). record s { removed = q; entities = ds; transactions = z }) c

pub space_after : (t : ℕ) (c : Change) (k : Stock) → space_of (stock_after t c k) ≡ after t c (space_of k)
space_after t (InLeaf key c) k = on_seen key.entity t (InPart key.part (k.last_lock + 1) c) (space_of (stock_after t (InLeaf key c) k)) k.entries
space_after t (Notes n id) k = on_seen n t (NotesId id) (space_of k) k.entries
space_after t (Makes kind path description rules) k =
    let new = new_entry (record { number = k.last_entity + 1; kind = kind; path = path; description = description; rules = rules }) in
    ap (λ (l : List Entity). record (space_of (stock_after t (Makes kind path description rules) k)) { entities = l }) (map-append entity_of k.entries (new ∷ []))
space_after t (Removes n) k =
    seen_removed (space_of k) _ _ _ _ _ _
    (ap (λ (z : ℕ). k.removed + z) (sum_seen entity_of made_in (filter (has_number n) k.entries) ∙ ap (sum_by made_in) (filter_seen entity_of (is_entity n) k.entries)))
    (filter_seen entity_of (λ e. not (is_entity n e)) k.entries)
    (filter_seen txn_of (is_elsewhere n) k.txns.rows)
space_after t (AddsRule n rule) k = on_seen n t (GainsRule rule) (space_of k) k.entries
space_after t (DropsRule n name) k = on_seen n t (LosesRule name) (space_of k) k.entries
space_after t (Begins n deadline) k = ap (λ (l : List Transaction). record (space_of (stock_after t (Begins n deadline) k)) { transactions = l }) (map-append txn_of k.txns.rows (record { transaction = begun (k.last_txn + 1) n deadline; spare = 0 } ∷ []))
space_after t (Queues n deadline operation) k = ap (λ (l : List Transaction). record (space_of k) { transactions = l }) (changed_seen txn_of (is_transaction n) (λ r. with_queued deadline operation r ∷ []) (λ x. with_operation deadline operation x ∷ []) (λ r. refl) k.txns.rows)
space_after t (Drops n) k = ap (λ (l : List Transaction). record (space_of k) { transactions = l }) (changed_seen txn_of (is_transaction n) (λ r. []) (λ x. []) (λ r. refl) k.txns.rows)

pub entities_seen : (rows : List EntityStore) → entities_in rows ≡ map (λ (x : Entry). x.entity) (entries_in rows)
entities_seen rows = sym (map_map entity_of entry_in rows)

pub space_same : (s : SpaceStore) → space_in s ≡ space_of (stock_in s)
space_same s = ap (λ (l : List Entity). record (space_of (stock_in s)) { entities = l }) (entities_seen s.entities.rows)
