-- The namespace after a change, and after many.
use Rattle.std.specs.Prelude.{ℕ, ◌+◌, ◌*◌, ◌==◌, ◌&&◌, ◌||◌, not, nat_lt, nat_le, List, [], ◌∷◌, ◌++◌, Bool, if◌then◌else◌, filter, sum_by, bytes_eq, Option, Some, None}
use Rattle.std.specs.List.{list_any}
use Rattle.sb_machine.specs.Keyed.{changed, with_sorted}
use Rattle.sb_machine.specs.Leaves.{leaf_after, copies_given, locks_given}
use Rattle.sb_machine.specs.Names.{is_before}
use Rattle.sb_machine.specs.Namespace.{is_entity, leaf_of, with_leaf, made_in, made, new_entity}
use Rattle.sb_machine.specs.declared.change.Change.{Change}
use Rattle.sb_machine.specs.declared.change.Change.TheVariants.{InLeaf, Notes, Makes, Removes, AddsRule, DropsRule, Begins, Queues, Drops}
use Rattle.sb_machine.specs.declared.rule.Rule.{Rule}
use Rattle.sb_machine.specs.declared.state.AcceptedId.{AcceptedId}
use Rattle.sb_machine.specs.declared.state.Entity.{Entity}
use Rattle.sb_machine.specs.declared.state.Operation.{Operation}
use Rattle.sb_machine.specs.declared.state.Space.{Space}
use Rattle.sb_machine.specs.declared.state.Transaction.{Transaction}

-- ---- ids under a window

-- accepted within the window before this moment
abbrev pub is_recent : ℕ → ℕ → AcceptedId → Bool
is_recent window t a = nat_lt t (a.moment + 1000 * window)

-- whether this id was accepted so recently at t that a message with it is a duplicate
abbrev pub is_known : ℕ → List ℕ → ℕ → List AcceptedId → Bool
is_known window id t ids = list_any (λ a. bytes_eq a.id id && is_recent window t a) ids

-- it stands before what is accepted at this moment under this id
abbrev pub is_earlier : ℕ → List ℕ → AcceptedId → Bool
is_earlier t id a = nat_lt a.moment t || ((a.moment == t) && is_before a.id id)

-- those past their window are forgotten, and this one is noted, unless it is known
abbrev pub noted : Option ℕ → List ℕ → ℕ → List AcceptedId → List AcceptedId
noted None id t ids = ids
noted (Some window) id t ids = if is_known window id t ids then ids else with_sorted (is_earlier t id) (record { moment = t; id = id }) (filter (is_recent window t) ids)

-- ---- entities

-- the entities, with f done to the one of this number
abbrev pub on_entity : ℕ → (Entity → Entity) → Space → List Entity
on_entity n f s = changed (is_entity n) (λ e. f e ∷ []) s.entities

-- an entity with f done to its rules
abbrev pub with_rules : (List Rule → List Rule) → Entity → Entity
with_rules f e = record e { about = record e.about { rules = f e.about.rules } }

-- rules with one more, in the order of their names
abbrev pub rule_added : Rule → List Rule → List Rule
rule_added r rules = with_sorted (λ x. is_before x.name r.name) r rules

-- rules without those of this name
abbrev pub rule_dropped : List ℕ → List Rule → List Rule
rule_dropped name rules = filter (λ x. not (bytes_eq x.name name)) rules

-- ---- transactions

-- whether a transaction has this number
abbrev pub is_transaction : ℕ → Transaction → Bool
is_transaction n x = x.number == n

-- a transaction with one more operation behind the others, and with this deadline
abbrev pub with_operation : ℕ → Operation → Transaction → Transaction
with_operation deadline operation x = record x { deadline = deadline; operations = x.operations ++ operation ∷ [] }

-- ---- the namespace after a change at a moment

-- the namespace after one change, made at t
abbrev pub after : ℕ → Change → Space → Space
after t (InLeaf key c) s = record s {
  last_lock = s.last_lock + locks_given c;
  entities = on_entity key.entity (λ e. with_leaf key.part (leaf_after (s.last_lock + 1) t c (leaf_of key.part e)) e) s;
}
after t (Notes n id) s = record s { entities = on_entity n (λ e. record e { ids = noted e.about.description.window id t e.ids }) s }
after t (Makes kind path description rules) s = record s {
  last_entity = s.last_entity + 1;
  entities = s.entities ++ new_entity (record { number = s.last_entity + 1; kind = kind; path = path; description = description; rules = rules }) ∷ [];
}
after t (Removes n) s = record s {
  removed = s.removed + sum_by made_in (filter (is_entity n) s.entities);
  entities = filter (λ e. not (is_entity n e)) s.entities;
  transactions = filter (λ x. not (x.entity == n)) s.transactions;
}
after t (AddsRule n rule) s = record s { entities = on_entity n (with_rules (rule_added rule)) s }
after t (DropsRule n name) s = record s { entities = on_entity n (with_rules (rule_dropped name)) s }
after t (Begins n deadline) s = record s {
  last_txn = s.last_txn + 1;
  transactions = s.transactions ++ record { number = s.last_txn + 1; entity = n; deadline = deadline; operations = [] } ∷ [];
}
after t (Queues n deadline operation) s = record s { transactions = changed (is_transaction n) (λ x. with_operation deadline operation x ∷ []) s.transactions }
after t (Drops n) s = record s { transactions = changed (is_transaction n) (λ x. []) s.transactions }

-- the namespace after changes, made in order at t
abbrev pub after_all : ℕ → List Change → Space → Space
after_all t [] s = s
after_all t (c ∷ cs) s = after_all t cs (after t c s)

-- what is read off the changes along a list of them
abbrev pub along : {X : Type 0} → (ℕ → Change → Space → List X) → ℕ → List Change → Space → List X
along f t [] s = []
along f t (c ∷ cs) s = f t c s ++ along f t cs (after t c s)

-- for each item in turn its changes, as those of the items before it leave the namespace
abbrev pub in_turn : {X : Type 0} → (X → Space → List Change) → ℕ → List X → Space → List Change
in_turn f t [] s = []
in_turn f t (x ∷ xs) s = f x s ++ in_turn f t xs (after_all t (f x s) s)

-- ---- numbers

-- how many numbers of messages a change gives
abbrev pub numbers_in : Change → ℕ
numbers_in (InLeaf key c) = copies_given c
numbers_in _ = 0

-- how many numbers of messages these changes give
abbrev pub numbers_given : List Change → ℕ
numbers_given cs = sum_by numbers_in cs

-- the greatest number that the namespace gives
abbrev pub max_number : ℕ
max_number = 9223372036854775807

-- no number that these changes give passes it
abbrev pub is_numbered : ℕ → List Change → Space → Bool
is_numbered t cs s =
    let later = after_all t cs s in
    nat_le (made s + numbers_given cs) max_number && nat_le later.last_entity max_number && nat_le later.last_lock max_number && nat_le later.last_txn max_number
