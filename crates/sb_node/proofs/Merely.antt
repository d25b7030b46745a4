-- What a node's invariant gives: its state is consistent, as far as proofs alike can tell.
use Rattle.std.proofs.Common.{◌≡◌, ◌≢◌, ◌≤◌, ◌<◌, ◌^◌, ℕ, List, [], ◌∷◌, length, true, false, Option, Some, None}
use Rattle.std.proofs.Math.Logic.{∥∥₁_elim}
use Rattle.std.proofs.Props.{props}
use Rattle.std.specs.List.{flat_map}
use Rattle.std.specs.Prelude.{◌&&◌, is_none}
use Rattle.sb_codec.specs.EventBytes.{event_bytes, HasSpelling, IsSpellable}
use Rattle.sb_machine.specs.Judged.{IsJudged}
use Rattle.sb_machine.proofs.Accepted.{changing_judged}
use Rattle.sb_codec.proofs.ActsAsked.{judged_asked}
use Rattle.sb_machine.proofs.Passed.{both, none_is}
use Rattle.sb_codec.proofs.Short.{judged_short}
use Rattle.sb_journal.specs.Text.{max_payload}
use Rattle.sb_laws.specs.Sweepable.{IsLasting, IsSweepable, IsSweepableCopy, IsSweepableLeaf, IsSweepableEntity}
use Rattle.sb_machine.specs.Acts.{is_via_in}
use Rattle.sb_machine.specs.Answers.{is_change, max_moment}
use Rattle.sb_machine.specs.Consistent.{IsConsistent, holder_lock}
use Rattle.sb_machine.specs.Due.{is_due}
use Rattle.sb_machine.specs.Each.{Each, Pairs}
use Rattle.sb_machine.specs.Fields.{bad_field}
use Rattle.sb_machine.specs.History.{advanced}
use Rattle.sb_machine.specs.Keyed.{AreRising}
use Rattle.sb_machine.specs.Namespace.{live, made}
use Rattle.sb_machine.specs.Ordered.{IsActInOrder}
use Rattle.sb_machine.specs.Repeats.{client_of, outcome_of}
use Rattle.sb_machine.specs.declared.call.Call.{Call}
use Rattle.sb_machine.specs.declared.call.Event.TheVariants.{Called}
use Rattle.sb_machine.specs.declared.state.Entity.{Entity}
use Rattle.sb_machine.specs.declared.state.Leaf.{Leaf}
use Rattle.sb_machine.specs.declared.state.State.{State}
use Rattle.sb_machine.specs.declared.state.StoredCopy.{StoredCopy}
use Rattle.sb_engine.specs.Small.{is_small, takes_no_memory}
use Rattle.sb_node.proofs.Brief.{brief}
use Rattle.sb_node.proofs.Machine.{sweepable, nothing_due}
use Rattle.sb_node.proofs.Numbers.{numbers_fit}

-- ---- two proofs that a namespace can be swept are one

rising_prop : {X : Type 0} (key : X → ℕ) (above last : ℕ) (xs : List X) → IsProp (AreRising key above last xs)
rising_prop key above last [] = hlevel props
rising_prop key above last (x ∷ xs) = let rest = rising_prop key (key x) last xs in hlevel (props, rest)

each_prop : {X : Type 0} (P : X → Type 0) → ((x : X) → IsProp (P x)) → (xs : List X) → IsProp (Each P xs)
each_prop P one [] = hlevel props
each_prop P one (x ∷ xs) = let first = one x in let rest = each_prop P one xs in hlevel (props, first, rest)

pairs_prop : (ls : List ℕ) → IsProp (Pairs (λ l m. l ≢ m) ls)
pairs_prop [] = hlevel props
pairs_prop (l ∷ ls) = let first = each_prop (λ m. l ≢ m) (λ m. hlevel props) ls in let rest = pairs_prop ls in hlevel (props, first, rest)

lasting_prop : (ttl : Option ℕ) → IsProp (IsLasting ttl)
lasting_prop None = hlevel props
lasting_prop (Some seconds) = hlevel props

copy_prop : (c : StoredCopy) → IsProp (IsSweepableCopy c)
copy_prop c = let lasting = lasting_prop c.message.ttl in hlevel (props, lasting)

leaf_prop : (leaf : Leaf) → IsProp (IsSweepableLeaf leaf)
leaf_prop leaf =
    let numbers = rising_prop (λ c. c.number) 0 leaf.last leaf.copies in
    let copies = each_prop IsSweepableCopy copy_prop leaf.copies in
    let holders = pairs_prop (flat_map holder_lock leaf.sessions) in
    hlevel (props, numbers, copies, holders)

entity_prop : (e : Entity) → IsProp (IsSweepableEntity e)
entity_prop e =
    let lasting = lasting_prop e.about.description.ttl in
    let main = leaf_prop e.main in
    let dead = leaf_prop e.dead in
    let transfer = leaf_prop e.transfer in
    hlevel (props, lasting, main, dead, transfer)

sweepable_prop : (s : State) → IsProp (IsSweepable s.space)
sweepable_prop s =
    let numbers = rising_prop (λ e. e.about.number) 0 s.space.last_entity s.space.entities in
    let entities = each_prop IsSweepableEntity entity_prop s.space.entities in
    let transactions = rising_prop (λ x. x.number) 0 s.space.last_txn s.space.transactions in
    hlevel (props, numbers, entities, transactions)

-- ---- what follows

pub merely_sweepable : (s : State) → ∥ IsConsistent s ∥₁ → IsSweepable s.space
merely_sweepable s consistent = ∥∥₁_elim consistent (sweepable_prop s) (sweepable s)

pub merely_calm : (s : State) (t : ℕ) → ∥ IsConsistent s ∥₁ → is_due t (advanced s t).space ≡ false
merely_calm s t consistent = ∥∥₁_elim consistent (hlevel props) (nothing_due s t)

pub merely_now : (s : State) → ∥ IsConsistent s ∥₁ → s.now ≤ max_moment
merely_now s consistent = ∥∥₁_elim consistent (hlevel props) (λ k. k.now)

pub merely_live : (s : State) → ∥ IsConsistent s ∥₁ → live s.space < 2 ^ 64
merely_live s consistent = ∥∥₁_elim consistent (hlevel props) (λ k. (numbers_fit s k).0)

pub merely_made : (s : State) → ∥ IsConsistent s ∥₁ → made s.space < 2 ^ 64
merely_made s consistent = ∥∥₁_elim consistent (hlevel props) (λ k. (numbers_fit s k).1)

-- a call that changes the state has passed the machine's tests
judged : (s : State) (t : ℕ) (call : Call) → ∥ IsConsistent s ∥₁ → IsActInOrder call.act → is_change (client_of call) (outcome_of s t call) ≡ true → IsJudged (is_via_in s.space call.act) call
judged s t call consistent order changing =
    let of : IsConsistent s → IsJudged (is_via_in s.space call.act) call = λ k. changing_judged s t call k order changing in
    record {
      coded = ∥∥₁_elim consistent (hlevel props) (λ k. (of k).coded);
      fields = ∥∥₁_elim consistent (hlevel props) (λ k. (of k).fields);
      names = ∥∥₁_elim consistent (hlevel props) (λ k. (of k).names);
      described = ∥∥₁_elim consistent (hlevel props) (λ k. (of k).described);
      sizes = ∥∥₁_elim consistent (hlevel props) (λ k. (of k).sizes);
      id = ∥∥₁_elim consistent (hlevel props) (λ k. (of k).id);
      order = order;
    }

-- so its event may be written, and a journal record holds it
pub call_written : (s : State) (t : ℕ) (call : Call) → ∥ IsConsistent s ∥₁ → IsActInOrder call.act → is_change (client_of call) (outcome_of s t call) ≡ true → IsSpellable (Called t call)
call_written s t call consistent order changing = judged_asked (is_via_in s.space call.act) t call (judged s t call consistent order changing)

pub call_short : (s : State) (t : ℕ) (call : Call) → ∥ IsConsistent s ∥₁ → IsActInOrder call.act → is_change (client_of call) (outcome_of s t call) ≡ true → HasSpelling (Called t call) → length (event_bytes (Called t call)) ≤ max_payload
call_short s t call consistent order changing spelled = judged_short (is_via_in s.space call.act) t call (judged s t call consistent order changing) spelled

-- that of a call which takes no memory is short, even if a text of it had no spelling
pub call_brief : (s : State) (t : ℕ) (call : Call) → ∥ IsConsistent s ∥₁ → IsActInOrder call.act → is_change (client_of call) (outcome_of s t call) ≡ true → takes_no_memory s.space call ≡ true → length (event_bytes (Called t call)) ≤ max_payload
call_brief s t call consistent order changing free =
    let all = both (is_none call.by && is_none (bad_field (is_via_in s.space call.act) call.act None)) (is_small call.act) free in
    let none = (both (is_none call.by) (is_none (bad_field (is_via_in s.space call.act) call.act None)) all.0).0 in
    let tests = judged s t call consistent order changing in
    brief t call (none_is call.by none) all.1 tests.names tests.id
