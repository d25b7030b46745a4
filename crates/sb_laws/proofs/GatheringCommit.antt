-- The commit of operations that were gathered, judged as it is read: none of them is lost, and they act in the namespace that the changes
-- before them leave.
use Rattle.std.proofs.Common.{Bool, List, None, Option, Some, [], ap, append_assoc, false, refl, sym, true, ℕ, ◌++◌, ◌-◌, ◌∙◌, ◌∷◌, ◌≡◌}
use Rattle.std.specs.Prelude.{find, if◌then◌else◌, is_none}
use Rattle.sb_laws.proofs.Eachs.{each_implied}
use Rattle.sb_laws.proofs.GatheringLists.{changed_last, find_none, sum_paired}
use Rattle.sb_laws.proofs.GatheringParts.{IsWritten, leased_written, live_written, part_written}
use Rattle.sb_laws.proofs.GatheringSteps.{IsPrepared, IsRead, gathered_in, gathering_found}
use Rattle.sb_laws.proofs.Sameness.{numbers_equal}
use Rattle.sb_laws.proofs.Sweeps.{after_append}
use Rattle.sb_laws.specs.Gathered.{gathering, gathering_number, read_commit, read_front}
use Rattle.sb_machine.specs.Changes.{after, after_all, in_turn, is_transaction}
use Rattle.sb_machine.specs.Each.{Each}
use Rattle.sb_machine.specs.Keyed.{changed}
use Rattle.sb_machine.specs.Names.{is_same_entity}
use Rattle.sb_machine.specs.Namespace.{entity_of, leaf_of, listed, live, live_in}
use Rattle.sb_machine.specs.Rows.{Row, answers, found_or, is_beyond, refuses}
use Rattle.sb_machine.specs.Sending.{message_changes, receipt, receipts, unscheduled}
use Rattle.sb_machine.specs.Together.{all_receipts, behind, commit_steps, committed_receipts, first_number, handed_receipts, sent_receipts, step_replies, with_replies}
use Rattle.sb_machine.specs.Transactions.{committed, handed_on, is_lost, operation_changes}
use Rattle.sb_machine.specs.Visits.{passage}
use Rattle.sb_machine.specs.declared.call.Path.{Path}
use Rattle.sb_machine.specs.declared.call.Step.{Step}
use Rattle.sb_machine.specs.declared.call.Which.TheVariants.{Number}
use Rattle.sb_machine.specs.declared.change.Change.{Change}
use Rattle.sb_machine.specs.declared.change.Change.TheVariants.{Drops}
use Rattle.sb_machine.specs.declared.reply.Receipt.{Receipt}
use Rattle.sb_machine.specs.declared.reply.Refusal.{Refusal}
use Rattle.sb_machine.specs.declared.reply.Refusal.TheVariants.{EntityNotFound, QuotaExceeded, TxnNotFound}
use Rattle.sb_machine.specs.declared.reply.Reply.TheVariants.{Committed, Together}
use Rattle.sb_machine.specs.declared.reply.StepReply.{StepReply}
use Rattle.sb_machine.specs.declared.state.Entity.{Entity}
use Rattle.sb_machine.specs.declared.state.Listed.{Listed}
use Rattle.sb_machine.specs.declared.state.Operation.{Operation}
use Rattle.sb_machine.specs.declared.state.Operation.TheVariants.{Send, Settle}
use Rattle.sb_machine.specs.declared.state.Space.{Space}
use Rattle.sb_machine.specs.declared.state.StoredCopy.{StoredCopy}
use Rattle.sb_machine.specs.declared.state.Transaction.{Transaction}
use Rattle.sb_model.specs.declared.message.Message.{Message}

-- ---- what operations do goes by what is listed of the entity

in_turn_alike : {X : Type 0} (f g : X → Space → List Change) (t : ℕ) → ((x : X) (s : Space) → f x s ≡ g x s) → (xs : List X) (s : Space) → in_turn f t xs s ≡ in_turn g t xs s
in_turn_alike f g t same [] s = refl
in_turn_alike f g t same (x ∷ xs) s =
    ap (λ (cs : List Change). cs ++ in_turn f t xs (after_all t cs s)) (same x s) ∙ ap (λ (cs : List Change). g x s ++ cs) (in_turn_alike f g t same xs (after_all t (g x s) s))

module _ (t : ℕ) (b e : Entity) (same : b.about ≡ e.about) where
  changes_alike : (o : Operation) (s : Space) → operation_changes t b o s ≡ operation_changes t e o s
  changes_alike (Send to messages) s = ap (λ (about : Listed). operation_changes t (record b { about = about }) (Send to messages) s) same
  changes_alike (Settle from number token session how) s = ap (λ (about : Listed). operation_changes t (record b { about = about }) (Settle from number token session how) s) same

  receipts_alike : (ms : List Message) (s : Space) → receipts t b ms s ≡ receipts t e ms s
  receipts_alike [] s = refl
  receipts_alike (m ∷ ms) s =
      ap (λ (about : Listed). receipt t (record b { about = about }) m s ∷ receipts t b ms (after_all t (message_changes t (record b { about = about }) m s) s)) same
      ∙ ap (λ (rs : List Receipt). receipt t e m s ∷ rs) (receipts_alike ms (after_all t (message_changes t e m s) s))

  handed_alike : (to : List ℕ) (ms : List Message) (s : Space) → handed_receipts t b to ms s ≡ handed_receipts t e to ms s
  handed_alike to [] s = refl
  handed_alike to (m ∷ ms) s =
      ap (λ (about : Listed). first_number (passage (listed s) 0 about (unscheduled m) to) s ++ handed_receipts t b to ms (after_all t (handed_on (record b { about = about }) to m s) s)) same
      ∙ ap (λ (rs : List Receipt). first_number (passage (listed s) 0 e.about (unscheduled m) to) s ++ rs) (handed_alike to ms (after_all t (handed_on e to m s) s))

  sent_alike : (to : Path) (ms : List Message) (s : Space) → sent_receipts t b to ms s ≡ sent_receipts t e to ms s
  sent_alike to ms s = ap (λ (about : Listed). if is_same_entity to about.path then receipts t b ms s else handed_receipts t b to.name ms s) same ∙ at (is_same_entity to e.about.path) where
    at : (c : Bool) → (if c then receipts t b ms s else handed_receipts t b to.name ms s) ≡ (if c then receipts t e ms s else handed_receipts t e to.name ms s)
    at true = receipts_alike ms s
    at false = handed_alike to.name ms s

  all_alike : (os : List Operation) (s : Space) → all_receipts t b os s ≡ all_receipts t e os s
  all_alike [] s = refl
  all_alike (Send to messages ∷ os) s =
      ap (λ (rs : List Receipt). rs ∷ all_receipts t b os (after_all t (operation_changes t b (Send to messages) s) s)) (sent_alike to messages s)
      ∙ ap (λ (cs : List Change). sent_receipts t e to messages s ∷ all_receipts t b os (after_all t cs s)) (changes_alike (Send to messages) s)
      ∙ ap (λ (rs : List (List Receipt)). sent_receipts t e to messages s ∷ rs) (all_alike os (after_all t (operation_changes t e (Send to messages) s) s))
  all_alike (Settle from number token session how ∷ os) s =
      ap (λ (cs : List Change). all_receipts t b os (after_all t cs s)) (changes_alike (Settle from number token session how) s)
      ∙ all_alike os (after_all t (operation_changes t e (Settle from number token session how) s) s)

-- ---- the commit

-- the reply of a row that is refused or committed, behind other changes
pushed : (cs : List Change) (rs : List StepReply) (c : Bool) (q : Refusal) (ds : List Change)
    → behind cs (with_replies rs (if c then refuses q else answers Committed ds)) ≡ (if c then refuses q else answers (Together rs) (cs ++ ds))
pushed cs rs true q ds = refl
pushed cs rs false q ds = refl

-- the namespace w, which these changes lead to, in which the transaction is open
pub record IsGathering (s : Space) (t : ℕ) (e : Entity) (cs : List Change) (left : ℕ → Bool) (w : Space) : Type 0 where
  pub leads : after_all t cs s ≡ w
  pub prepared : IsPrepared s t left w
  pub opened : w.transactions ≡ s.transactions ++ gathering s t e [] ∷ []

module _ (s : Space) (t : ℕ) (e : Entity) (os : List Operation) (w : Space) (left : ℕ → Bool) (cs : List Change) (read : IsRead s e) (h : IsGathering s t e cs left w) where
  abbrev v : Space
  v = gathered_in s t e os w

  abbrev n : ℕ
  n = gathering_number s

  abbrev x : Transaction
  x = gathering s t e os

  gone : (ops : List Operation) → changed (is_transaction n) (λ y. []) (s.transactions ++ gathering s t e ops ∷ []) ≡ s.transactions ++ []
  gone ops = changed_last (is_transaction n) (λ y. []) s.transactions (gathering s t e ops) read.unused (numbers_equal n)

  -- the transaction goes, and the namespace is what the changes so far lead to
  dropped : after t (Drops n) v ≡ after_all t (read_front s cs) s
  dropped =
      ap (λ (xs : List Transaction). record w { transactions = xs }) (gone os)
      ∙ sym (after_append t cs (Drops n ∷ []) s
      ∙ ap (λ (z : Space). after t (Drops n) z) h.leads
      ∙ ap (λ (xs : List Transaction). record w { transactions = changed (is_transaction n) (λ y. []) xs }) h.opened
      ∙ ap (λ (xs : List Transaction). record w { transactions = xs }) (gone []))

  live_same : live v ≡ live s
  live_same = sum_paired (IsWritten t left) live_in (live_written t left) s.entities w.entities h.prepared.entities

  lost_alike : (b : Entity) → IsWritten t left e b → (o : Operation) → is_lost s t e o ≡ false → is_lost v t b o ≡ false
  lost_alike b is (Send to messages) there = refl
  lost_alike b is (Settle from number token session how) there =
      ap (λ (c : Option StoredCopy). is_none c) (leased_written t left s v token (Number number) (leaf_of from.part e) (leaf_of from.part b) h.prepared.salt (part_written t left from.part e b is)) ∙ there

  none_lost : (b : Entity) → IsWritten t left e b → Each (λ o. is_lost s t e o ≡ false) os → find (is_lost v t b) os ≡ None
  none_lost b is there = find_none (is_lost v t b) os (each_implied (λ o. is_lost s t e o ≡ false) (λ o. is_lost v t b o ≡ false) (lost_alike b is) os there)

  module _ (steps : List Step) (b : Entity) (there : entity_of e.about.number v ≡ Some b) (is : IsWritten t left e b) (kept : Each (λ o. is_lost s t e o ≡ false) os) where
    abbrev z : Space
    z = after_all t (read_front s cs) s

    -- what the operations do there
    abbrev acts : List Change
    acts = in_turn (operation_changes t e) t os z

    abbrev told : List StepReply
    told = step_replies steps (all_receipts t e os z)

    -- the row of the commit, by what is found on its way
    abbrev in_txn : Option Transaction → Row
    in_txn o = behind cs (with_replies (step_replies steps (committed_receipts v t o)) (found_or o TxnNotFound (λ y. found_or (entity_of y.entity v) EntityNotFound (λ d. committed v t y d (find (is_lost v t d) y.operations)))))

    abbrev on_entity : Option Entity → Row
    on_entity o =
        behind cs (with_replies (step_replies steps (elim o as (λ _. List (List Receipt)) [ Some d ↦ all_receipts t d os (after t (Drops n) v) | None ↦ [] ]))
        (found_or o EntityNotFound (λ d. committed v t x d (find (is_lost v t d) os))))

    abbrev with_lost : Option Operation → Row
    with_lost o = behind cs (with_replies (step_replies steps (all_receipts t b os (after t (Drops n) v))) (committed v t x b o))

    abbrev counted : List (List Receipt) → ℕ → Space → List Change → Row
    counted rs before y ds =
        behind cs (with_replies (step_replies steps rs) (if is_beyond before (live (after_all t ds y)) then refuses (QuotaExceeded before (live (after_all t ds y) - before)) else answers Committed (Drops n ∷ ds)))

    abbrev read_so : Space → List Change → Row
    read_so later ds = if is_beyond (live s) (live later) then refuses (QuotaExceeded (live s) (live later - live s)) else answers (Together told) ds

    acts_alike : in_turn (operation_changes t b) t os z ≡ acts
    acts_alike = in_turn_alike (operation_changes t b) (operation_changes t e) t (changes_alike t b e is.about) os z

    pub commit_same : behind cs (commit_steps t n steps v) ≡ read_commit s t e steps os cs
    commit_same =
        ap in_txn (gathering_found s t e os w left read h.prepared)
        ∙ ap on_entity there
        ∙ ap with_lost (none_lost b is kept)
        ∙ ap (λ (y : Space). counted (all_receipts t b os y) (live v) y (in_turn (operation_changes t b) t os y)) dropped
        ∙ ap (λ (before : ℕ). counted (all_receipts t b os z) before z (in_turn (operation_changes t b) t os z)) live_same
        ∙ ap (λ (ds : List Change). counted (all_receipts t b os z) (live s) z ds) acts_alike
        ∙ ap (λ (rs : List (List Receipt)). counted rs (live s) z acts) (all_alike t b e is.about os z)
        ∙ pushed cs told (is_beyond (live s) (live (after_all t acts z))) (QuotaExceeded (live s) (live (after_all t acts z) - live s)) (Drops n ∷ acts)
        ∙ ap (λ (later : Space). read_so later (cs ++ Drops n ∷ acts)) (sym (after_append t (read_front s cs) acts s))
        ∙ ap (λ (ds : List Change). read_so (after_all t (read_front s cs ++ acts) s) ds) (sym (append_assoc cs (Drops n ∷ []) acts))
