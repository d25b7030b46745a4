-- What follows of a consistent state.
use Rattle.std.proofs.Common.{Bool, List, None, Option, Some, [], arith, false, refl, true, ℕ, ◌++◌, ◌∷◌, ◌≡◌, ◌≢◌, ◌≤◌}
use Rattle.std.proofs.lemmas.Bool.Decides.{nat_tests}
use Rattle.std.specs.List.{flat_map}
use Rattle.sb_laws.proofs.Eachs.{each_implied, pairs_back, pairs_front}
use Rattle.sb_laws.specs.Sweepable.{IsLasting, IsSweepable, IsSweepableCopy, IsSweepableEntity, IsSweepableLeaf}
use Rattle.sb_machine.specs.Consistent.{IsConsistent, holder_lock, locks_in}
use Rattle.sb_machine.specs.Descriptions.{bad_in_description}
use Rattle.sb_machine.specs.Each.{Each, Pairs}
use Rattle.sb_machine.specs.Ends.{lock_in}
use Rattle.sb_machine.specs.Fields.{Key, first_some, is_between, is_between_or_none, max_ttl, unless}
use Rattle.sb_machine.specs.Fit.{IsCopy, IsEntity, IsLeaf}
use Rattle.sb_machine.specs.declared.call.Description.{Description}
use Rattle.sb_machine.specs.declared.state.Entity.{Entity}
use Rattle.sb_machine.specs.declared.state.EntityKind.{EntityKind}
use Rattle.sb_machine.specs.declared.state.Leaf.{Leaf}
use Rattle.sb_machine.specs.declared.state.State.{State}

-- ---- fields that passed

pub first_none : (a b : Key) → first_some a b ≡ None → (a ≡ None) × (b ≡ None)
first_none None b e = (refl, e)
first_none (Some key) b e = absurd cc

pub passed : (b : Bool) (key : List ℕ) → unless b key ≡ None → b ≡ true
passed true key e = refl
passed false key e = absurd cc

pub then_none : (b : Bool) (key : List ℕ) (o : Key) → first_some (unless b key) o ≡ None → (b ≡ true) × (o ≡ None)
then_none true key o e = (refl, e)
then_none false key o e = absurd cc

pub between : (low high n : ℕ) → is_between low high n ≡ true → (low ≤ n) × (n ≤ high)
between low high n e = (grind (arith, nat_tests), grind (arith, nat_tests))

pub lasting : (ttl : Option ℕ) → is_between_or_none 1 max_ttl ttl ≡ true → IsLasting ttl
lasting None e = tt
lasting (Some seconds) e = (between 1 max_ttl seconds e).0

pub described_ttl : (kind : EntityKind) (d : Description) → bad_in_description kind d ≡ None → IsLasting d.ttl
described_ttl kind d e = lasting d.ttl (then_none _ _ _ (then_none _ _ _ e).1).0

-- ---- it can be swept

sweepable_leaf : (now : ℕ) (leaf : Leaf) → IsLeaf now leaf → Pairs (λ l m. l ≢ m) (locks_in leaf) → IsSweepableLeaf leaf
sweepable_leaf now leaf h locks = record {
  numbers = h.numbers;
  copies = each_implied (IsCopy now leaf.sessions) IsSweepableCopy (λ c is. record { hops = is.hops; count = is.count; ttl = lasting c.message.ttl is.message.ttl }) leaf.copies h.copies;
  holders = pairs_back (λ l m. l ≢ m) (flat_map (λ c. lock_in c.standing) leaf.copies) (flat_map holder_lock leaf.sessions) locks;
}

sweepable_entity : (now : ℕ) (e : Entity) → IsEntity now e → Pairs (λ l m. l ≢ m) (locks_in e.main ++ locks_in e.dead ++ locks_in e.transfer) → IsSweepableEntity e
sweepable_entity now e h locks =
    let first_two = pairs_front (λ l m. l ≢ m) (locks_in e.main ++ locks_in e.dead) (locks_in e.transfer) locks in
    record {
      ttl = described_ttl e.about.kind e.about.description h.about.described;
      main = sweepable_leaf now e.main h.main (pairs_front (λ l m. l ≢ m) (locks_in e.main) (locks_in e.dead) first_two);
      dead = sweepable_leaf now e.dead h.dead (pairs_back (λ l m. l ≢ m) (locks_in e.main) (locks_in e.dead) first_two);
      transfer = sweepable_leaf now e.transfer h.transfer (pairs_back (λ l m. l ≢ m) (locks_in e.main ++ locks_in e.dead) (locks_in e.transfer) locks);
    }

sweepable_entities : (now : ℕ) (es : List Entity) → Each (IsEntity now) es → Pairs (λ l m. l ≢ m) (flat_map (λ e. locks_in e.main ++ locks_in e.dead ++ locks_in e.transfer) es) → Each IsSweepableEntity es
sweepable_entities now [] h locks = tt
sweepable_entities now (e ∷ es) h locks = (
  sweepable_entity now e h.0 (pairs_front (λ l m. l ≢ m) (locks_in e.main ++ locks_in e.dead ++ locks_in e.transfer) (flat_map (λ e. locks_in e.main ++ locks_in e.dead ++ locks_in e.transfer) es) locks),
  sweepable_entities now es h.1 (pairs_back (λ l m. l ≢ m) (locks_in e.main ++ locks_in e.dead ++ locks_in e.transfer) (flat_map (λ e. locks_in e.main ++ locks_in e.dead ++ locks_in e.transfer) es) locks),
)

pub consistent_is_sweepable : (s : State) → IsConsistent s → IsSweepable s.space
consistent_is_sweepable s h = record { numbers = h.numbers; entities = sweepable_entities s.now s.space.entities h.entities h.locks; transactions = h.transactions }
