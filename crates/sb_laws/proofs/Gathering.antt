-- Operations that act together are judged in the namespace as it is read, as in the one in which their transaction was opened.
use Rattle.std.proofs.Common.{Bool, List, None, Option, Some, [], ap, append_assoc, arith, false, length, nat_lt, not, refl, subst, sym, true, ℕ, ◌++◌, ◌+◌, ◌<◌, ◌==◌, ◌∙◌, ◌∷◌, ◌≡◌, ◌≤◌}
use Rattle.std.proofs.lemmas.Bool.Decides.{nat_tests}
use Rattle.std.proofs.lemmas.List.{append-nil}
use Rattle.std.specs.List.{list_any}
use Rattle.std.specs.Option.{option_map}
use Rattle.std.specs.Prelude.{find, nat_le, sum_by}
use Rattle.sb_laws.proofs.Anyone.{or_left, or_right}
use Rattle.sb_laws.proofs.Eachs.{each_append, each_implied, is_equal, rising_above}
use Rattle.sb_laws.proofs.GatheringCommit.{IsGathering, commit_same}
use Rattle.sb_laws.proofs.GatheringForms.{Form, Gathers, changes_nothing, queues_one, step_form, writes_state}
use Rattle.sb_laws.proofs.GatheringLists.{changed_last, find_none, paired_changed, paired_each, paired_implied}
use Rattle.sb_laws.proofs.GatheringParts.{Fewer, IsWritten, leaf_with, unwritten, written_fewer, written_with}
use Rattle.sb_laws.proofs.GatheringSteps.{IsRead, gathered_in, own_written, step_same}
use Rattle.sb_laws.proofs.Moves.{found_by_key}
use Rattle.sb_laws.proofs.Rows.{answered_so}
use Rattle.sb_laws.proofs.Sameness.{numbers_equal, two}
use Rattle.sb_laws.proofs.Sweeps.{after_append}
use Rattle.sb_laws.specs.Gathered.{gathered_row, gathering, gathering_number, operations_in, read_commit, read_step, read_steps}
use Rattle.sb_machine.specs.Changes.{after, after_all, is_transaction, with_operation}
use Rattle.sb_machine.specs.Each.{Each}
use Rattle.sb_machine.specs.Fields.{are_set_once, sets_session}
use Rattle.sb_machine.specs.Keyed.{AreRising}
use Rattle.sb_machine.specs.Names.{is_address, is_same_entity}
use Rattle.sb_machine.specs.Namespace.{entity_at, is_entity, leaf_of, with_leaf}
use Rattle.sb_machine.specs.Parts.{at_part}
use Rattle.sb_machine.specs.Queueing.{deadline_with, max_operations, queueing, txn_life}
use Rattle.sb_machine.specs.Rows.{Row, answers, asks, found_or, refused_by, refuses}
use Rattle.sb_machine.specs.Together.{are_addressed, behind, commit_steps, filling, fitting, large_steps, step_weight, steps_row, then_row, together_row, unaddressed, unqueued}
use Rattle.sb_machine.specs.Transactions.{is_lost, max_transactions}
use Rattle.sb_machine.specs.declared.call.Path.{Path}
use Rattle.sb_machine.specs.declared.call.Step.{Step}
use Rattle.sb_machine.specs.declared.call.Step.TheVariants.{Send, SessionSet, Settle}
use Rattle.sb_machine.specs.declared.change.Change.{Change}
use Rattle.sb_machine.specs.declared.change.Change.TheVariants.{Begins, InLeaf}
use Rattle.sb_machine.specs.declared.change.LeafChange.TheVariants.{Writes}
use Rattle.sb_machine.specs.declared.change.LeafKey.{LeafKey}
use Rattle.sb_machine.specs.declared.reply.Refusal.TheVariants.{BadName, EntityNotFound, TooLarge, TxnFull, TxnsFull}
use Rattle.sb_machine.specs.declared.reply.Reply.TheVariants.{Begun}
use Rattle.sb_machine.specs.declared.state.Entity.{Entity}
use Rattle.sb_machine.specs.declared.state.Operation.{Operation}
use Rattle.sb_machine.specs.declared.state.Space.{Space}
use Rattle.sb_machine.specs.declared.state.Transaction.{Transaction}

-- ---- rows behind changes

behind_both : (cs ds : List Change) (row : Row) → behind cs (behind ds row) ≡ behind (cs ++ ds) row
behind_both cs ds (refuses r) = refl
behind_both cs ds (answers reply es) = ap (λ (l : List Change). answers reply l) (sym (append_assoc cs ds es))

behind_fitting : (cs : List Change) (steps : List Step) (row : Row) → behind cs (fitting steps row) ≡ fitting steps (behind cs row)
behind_fitting cs steps row = at (are_addressed steps) (nat_le (sum_by step_weight steps) max_operations) (large_steps steps) where
  at : (a b : Bool) (o : Option ℕ) → behind cs (asks a (unaddressed steps) (asks b TxnFull (refused_by (option_map (λ size. TooLarge size) o) row))) ≡ asks a (unaddressed steps) (asks b TxnFull (refused_by (option_map (λ size. TooLarge size) o) (behind cs row)))
  at true true None = refl
  at true true (Some size) = refl
  at true false o = refl
  at false b o = refl

-- ---- sessions that are left

-- a lock whose session one of these operations sets
abbrev left_in : List Step → ℕ → Bool
left_in xs lock = list_any (sets_session lock) xs

still_left : (one : Step) (xs : List Step) → Fewer (left_in (one ∷ xs)) (left_in xs)
still_left one xs lock is = or_right (sets_session lock one) (left_in xs lock) is

first_left : (one : Step) (xs : List Step) (lock : ℕ) → sets_session lock one ≡ true → left_in (one ∷ xs) lock ≡ true
first_left one xs lock is = or_left (sets_session lock one) (left_in xs lock) is

once_after : (one : Step) (xs : List Step) → are_set_once (one ∷ xs) ≡ true → are_set_once xs ≡ true
once_after (Send to messages) xs once = once
once_after (Settle from which token session how) xs once = once
once_after (SessionSet from session state) xs once = (two (not (left_in xs session.lock)) (are_set_once xs) once).1

is_off : (b : Bool) → not b ≡ true → b ≡ false
is_off false is = refl
is_off true is = absurd cc

-- what one of them sets none behind it sets
set_no_more : (one : Step) (xs : List Step) (lock : ℕ) → are_set_once (one ∷ xs) ≡ true → sets_session lock one ≡ true → left_in xs lock ≡ false
set_no_more (Send to messages) xs lock once is = absurd cc
set_no_more (Settle from which token session how) xs lock once is = absurd cc
set_no_more (SessionSet from session state) xs lock once is =
    subst (λ (l : ℕ). left_in xs l ≡ false) (is_equal session.lock lock is) (is_off (left_in xs session.lock) (two (not (left_in xs session.lock)) (are_set_once xs) once).0)

-- ---- the namespace behind an operation

module _ (s : Space) (t : ℕ) (e : Entity) (read : IsRead s e) where
  gathering_starts : (left : ℕ → Bool) → IsGathering s t e (Begins e.about.number (t + txn_life) ∷ []) left (after t (Begins e.about.number (t + txn_life)) s)
  gathering_starts left = record { leads = refl; prepared = record { salt = refl; entities = paired_each (IsWritten t left) (unwritten t left) s.entities }; opened = refl }

  gathering_goes : (left fewer : ℕ → Bool) (cs : List Change) (w : Space) → Fewer left fewer → IsGathering s t e cs left w → IsGathering s t e (cs ++ []) fewer w
  gathering_goes left fewer cs w still h = record {
    leads = after_append t cs [] s ∙ h.leads;
    prepared = record { salt = h.prepared.salt; entities = paired_implied (IsWritten t left) (IsWritten t fewer) (λ a b it. written_fewer t left fewer a b still it) s.entities w.entities h.prepared.entities };
    opened = h.opened;
  }

  gathering_writes : (left fewer : ℕ → Bool) (cs : List Change) (w : Space) (key : LeafKey) (lock : ℕ) (state : Option (List ℕ)) → Fewer left fewer → fewer lock ≡ false → IsGathering s t e cs left w
      → IsGathering s t e (cs ++ InLeaf key (Writes lock state) ∷ []) fewer (after t (InLeaf key (Writes lock state)) w)
  gathering_writes left fewer cs w key lock state still gone h = record {
    leads = after_append t cs (InLeaf key (Writes lock state) ∷ []) s ∙ ap (λ (z : Space). after t (InLeaf key (Writes lock state)) z) h.leads;
    prepared = record {
      salt = h.prepared.salt;
      entities = paired_changed (IsWritten t left) (IsWritten t fewer) (is_entity key.entity) (λ b. with_leaf key.part (leaf_with lock state (leaf_of key.part b)) b) (λ a b it. written_fewer t left fewer a b still it)
          (λ a b it. written_with t left fewer lock state key.part a b still gone it) s.entities w.entities h.prepared.entities;
    };
    opened = h.opened;
  }

  same_deadline : (os : List Operation) → deadline_with t (gathering s t e os) ≡ t + txn_life
  same_deadline [] = refl
  same_deadline (o ∷ os) = refl

  -- an operation that is queued is gathered
  queued_so : (os : List Operation) (o : Operation) (w : Space) → after_all t (queueing t (gathering s t e os) o) (gathered_in s t e os w) ≡ gathered_in s t e (os ++ o ∷ []) w
  queued_so os o w =
      ap (λ (xs : List Transaction). record w { transactions = xs })
      (changed_last (is_transaction (gathering_number s)) (λ y. with_operation (deadline_with t (gathering s t e os)) o y ∷ []) s.transactions (gathering s t e os) read.unused (numbers_equal (gathering_number s))
      ∙ ap (λ (deadline : ℕ). s.transactions ++ with_operation deadline o (gathering s t e os) ∷ []) (same_deadline os))

  unmoved : (os : List Operation) (w : Space) → gathered_in s t e os w ≡ gathered_in s t e (os ++ []) w
  unmoved os w = ap (λ (l : List Operation). gathered_in s t e l w) (sym (append-nil os))

  -- ---- all operations, and the commit

  module _ (path : Path) (steps : List Step) where
    abbrev n : ℕ
    n = gathering_number s

    abbrev filled : ℕ → List Step → Space → Row
    filled i xs v = steps_row i t path n (commit_steps t n steps) xs v

    abbrev Kept : List Operation → Type 0
    Kept os = Each (λ o. is_lost s t e o ≡ false) os

    -- the changes so far in front of what the rest comes to is what they come to as they are read
    abbrev Fills : ℕ → List Step → Type 0
    Fills i xs = (os : List Operation) (cs : List Change) (w : Space) → IsGathering s t e cs (left_in xs) w → Kept os → are_set_once xs ≡ true → behind cs (filled i xs (gathered_in s t e os w)) ≡ read_steps i s t path e os cs xs (read_commit s t e steps)

    all_filled : (xs : List Step) (i : ℕ) → Fills i xs
    all_filled [] i os cs w h kept once =
        let own = own_written s t e os w (left_in []) read h.prepared in
        commit_same s t e os w (left_in []) cs read h steps own.0 own.1 own.2 kept
    all_filled (one ∷ xs) i os cs w h kept once =
        ap (λ (row : Row). behind cs (filling i t (gathered_in s t e os w) row (filled (i + 1) xs))) (step_same s t e os w (left_in (one ∷ xs)) read h.prepared path one (first_left one xs))
        ∙ go (read_step s t path e os one) (step_form s t e os read path one) (all_filled xs (i + 1))
      where
        on : (ds : List Change) → Gathers s t e os one ds → Fills (i + 1) xs → behind (cs ++ unqueued ds) (filled (i + 1) xs (after_all t ds (gathered_in s t e os w))) ≡ read_steps (i + 1) s t path e (os ++ operations_in ds) (cs ++ unqueued ds) xs (read_commit s t e steps)
        on _ changes_nothing ih =
            ap (λ (z : Space). behind (cs ++ []) (filled (i + 1) xs z)) (unmoved os w)
            ∙ ih (os ++ []) (cs ++ []) w (gathering_goes (left_in (one ∷ xs)) (left_in xs) cs w (still_left one xs) h) (each_append (λ o. is_lost s t e o ≡ false) os [] kept tt) (once_after one xs once)
        on _ (queues_one o there) ih =
            ap (λ (z : Space). behind (cs ++ []) (filled (i + 1) xs z)) (queued_so os o w)
            ∙ ih (os ++ o ∷ []) (cs ++ []) w (gathering_goes (left_in (one ∷ xs)) (left_in xs) cs w (still_left one xs) h) (each_append (λ o. is_lost s t e o ≡ false) os (o ∷ []) kept (there, tt)) (once_after one xs once)
        on _ (writes_state key lock state is) ih =
            ap (λ (z : Space). behind (cs ++ InLeaf key (Writes lock state) ∷ []) (filled (i + 1) xs z)) (unmoved os (after t (InLeaf key (Writes lock state)) w))
            ∙ ih (os ++ []) (cs ++ InLeaf key (Writes lock state) ∷ []) (after t (InLeaf key (Writes lock state)) w)
            (gathering_writes (left_in (one ∷ xs)) (left_in xs) cs w key lock state (still_left one xs) (set_no_more one xs lock once is) h) (each_append (λ o. is_lost s t e o ≡ false) os [] kept tt) (once_after one xs once)

        go : (row : Row) → Form s t e os one row → Fills (i + 1) xs → behind cs (filling i t (gathered_in s t e os w) row (filled (i + 1) xs))
            ≡ elim row as (λ _. Row) [ refuses r ↦ refuses (at_part i r) | answers reply ds ↦ read_steps (i + 1) s t path e (os ++ operations_in ds) (cs ++ unqueued ds) xs (read_commit s t e steps) ]
        go (refuses r) form ih = refl
        go (answers reply ds) (answered_so g) ih = behind_both cs (unqueued ds) (filled (i + 1) xs (after_all t ds (gathered_in s t e os w))) ∙ on ds g ih

-- ---- the whole

-- the next number is none of those that were given
next_unused : (s : Space) → AreRising (λ x. x.number) 0 s.last_txn s.transactions → find (is_transaction (gathering_number s)) s.transactions ≡ None
next_unused s rises = find_none (is_transaction (gathering_number s)) s.transactions
    (each_implied (λ x. (0 < x.number) × (x.number ≤ s.last_txn)) (λ x. is_transaction (gathering_number s) x ≡ false) (λ x is. other x.number s.last_txn is.1) s.transactions (rising_above (λ x. x.number) 0 s.last_txn s.transactions rises))
  where
    other : (m last_one : ℕ) → m ≤ last_one → (m == last_one + 1) ≡ false
    other m last_one le = grind (arith, nat_tests)

-- where numbers rise, the namespace is read so
read_at : (s : Space) (path : Path) (e : Entity) → AreRising (λ d. d.about.number) 0 s.last_entity s.entities → AreRising (λ x. x.number) 0 s.last_txn s.transactions → entity_at path s ≡ Some e → IsRead s e
read_at s path e entities transactions there = record {
  numbered = λ from a is. found_by_key (λ d. d.about.number) (λ d. is_same_entity d.about.path from) 0 s.last_entity a s.entities entities is;
  own = found_by_key (λ d. d.about.number) (λ d. is_same_entity d.about.path path) 0 s.last_entity e s.entities entities there;
  unused = next_unused s transactions;
}

pub gathers_as_read : (s : Space) (t : ℕ) (path : Path) (steps : List Step) → AreRising (λ e. e.about.number) 0 s.last_entity s.entities → AreRising (λ x. x.number) 0 s.last_txn s.transactions → are_set_once steps ≡ true
    → together_row s t path steps ≡ gathered_row s t path steps
gathers_as_read s t path steps entities transactions once = at (is_address path) (entity_at path s) refl (nat_lt (length s.transactions) max_transactions) where
  at : (a : Bool) (o : Option Entity) → entity_at path s ≡ o → (b : Bool)
      → then_row t s (asks a BadName (found_or o EntityNotFound (λ e. asks b TxnsFull (answers (Begun (gathering_number s)) (Begins e.about.number (t + txn_life) ∷ []))))) (λ begun. fitting steps (steps_row 0 t path (gathering_number s) (commit_steps t (gathering_number s) steps) steps begun))
      ≡ asks a BadName (found_or o EntityNotFound (λ e. asks b TxnsFull (fitting steps (read_steps 0 s t path e [] (Begins e.about.number (t + txn_life) ∷ []) steps (read_commit s t e steps)))))
  at false o there b = refl
  at true None there b = refl
  at true (Some e) there false = refl
  at true (Some e) there true =
      let read : IsRead s e = read_at s path e entities transactions there in
      let begins = Begins e.about.number (t + txn_life) in
      behind_fitting (begins ∷ []) steps (steps_row 0 t path (gathering_number s) (commit_steps t (gathering_number s) steps) steps (after t begins s))
      ∙ ap (λ (row : Row). fitting steps row) (all_filled s t e read path steps steps 0 [] (begins ∷ []) (after t begins s) (gathering_starts s t e read (left_in steps)) tt once)
