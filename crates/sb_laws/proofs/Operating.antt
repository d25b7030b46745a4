-- What is queued to be settled uses up its locks as it acts, each operation its own, and no other.
use Rattle.std.proofs.Common.{Bool, List, None, Option, Some, [], ap, arith, false, refl, subst, sym, true, ℕ, ◌++◌, ◌&&◌, ◌==◌, ◌∙◌, ◌∷◌, ◌≡◌}
use Rattle.std.proofs.lemmas.Bool.Decides.{nat_tests}
use Rattle.std.specs.List.{flat_map}
use Rattle.std.specs.Prelude.{if◌then◌else◌}
use Rattle.sb_laws.proofs.Along.{along_append}
use Rattle.sb_laws.proofs.Calm.{IsCalm, handed_calm, sends_calm}
use Rattle.sb_laws.proofs.Deeds.{IsUnspent, calm_unspent}
use Rattle.sb_laws.proofs.Eachs.{each_implied, is_equal}
use Rattle.sb_laws.proofs.Entities.{IsOrdered, stays_ordered_all}
use Rattle.sb_laws.proofs.Leased.{Finds, SparesCopy, calm_leaves, settled_leaves, stays_all}
use Rattle.sb_laws.proofs.Lists.{found_passes}
use Rattle.sb_laws.proofs.Living.{none_spent}
use Rattle.sb_laws.proofs.Moves.{copy_by_number, leased_held}
use Rattle.sb_laws.proofs.Sameness.{two}
use Rattle.sb_laws.proofs.Settling.{living_lock, settled_spends}
use Rattle.sb_laws.proofs.Swept.{same_part}
use Rattle.sb_laws.proofs.Uniting.{some_one}
use Rattle.sb_machine.specs.Changes.{after_all, along, in_turn}
use Rattle.sb_machine.specs.Consistent.{queued_lock}
use Rattle.sb_machine.specs.Each.{Each, Pairs}
use Rattle.sb_machine.specs.Ends.{lock_in, spends_in}
use Rattle.sb_machine.specs.Leases.{is_living, is_named}
use Rattle.sb_machine.specs.Leaves.{copy_in}
use Rattle.sb_machine.specs.Names.{is_same_entity, is_same_part}
use Rattle.sb_machine.specs.Namespace.{entity_of, is_entity, leaf_of, listed}
use Rattle.sb_machine.specs.Sending.{send_changes}
use Rattle.sb_machine.specs.SettleRow.{settles}
use Rattle.sb_machine.specs.Settlement.{goes_with, settled}
use Rattle.sb_machine.specs.Transactions.{handed_on, operation_changes, queued_copy, settled_found}
use Rattle.sb_machine.specs.declared.call.How.{How}
use Rattle.sb_machine.specs.declared.call.Part.{Part}
use Rattle.sb_machine.specs.declared.call.Path.{Path}
use Rattle.sb_machine.specs.declared.call.Token.{Token}
use Rattle.sb_machine.specs.declared.call.Which.TheVariants.{Number}
use Rattle.sb_machine.specs.declared.change.Change.{Change}
use Rattle.sb_machine.specs.declared.state.Entity.{Entity}
use Rattle.sb_machine.specs.declared.state.Operation.{Operation}
use Rattle.sb_machine.specs.declared.state.Operation.TheVariants.{Send as SendLater, Settle as SettleLater}
use Rattle.sb_machine.specs.declared.state.Space.{Space}
use Rattle.sb_machine.specs.declared.state.StoredCopy.{StoredCopy}
use Rattle.sb_model.specs.declared.message.Message.{Message}

-- what is settled may be settled so
abbrev pub Goes : Operation → Type 0
Goes (SendLater to messages) = Unit {0}
Goes (SettleLater from number token session how) = goes_with how from.part ≡ true

-- the second doesn't settle under the lock of the first
abbrev pub IsOther : Operation → Operation → Type 0
IsOther o (SendLater to messages) = Unit {0}
IsOther o (SettleLater from number token session how) = settles token.lock o ≡ false

locks_same : (a b : ℕ) (o p : List ℕ) → o ≡ a ∷ [] → p ≡ b ∷ [] → o ≡ p → (a == b) ≡ false → ⊥
locks_same a b o p x y same other =
    let one_list : a ∷ [] ≡ b ∷ [] = sym x ∙ same ∙ y in
    let one_lock : a ≡ b = cc in
    let bad : (a == a) ≡ false = subst (λ (k : ℕ). (a == k) ≡ false) (sym one_lock) other in
    never a bad
  where
    never : (n : ℕ) → (n == n) ≡ false → ⊥
    never n e = grind (arith, nat_tests)

module _ (t : ℕ) (e : Entity) where
  -- what is queued to be settled finds its copy
  abbrev pub FindsCopy : Space → Operation → Type 0
  FindsCopy s (SendLater to messages) = Unit {0}
  FindsCopy s (SettleLater from number token session how) = Finds t e.about.number from.part number token s

  -- ---- what a queued send does

  send_calm : (b : Bool) (to : Path) (messages : List Message) (s : Space) → Each (IsCalm b) (operation_changes t e (SendLater to messages) s)
  send_calm b to messages s = go (is_same_entity to e.about.path) where
    go : (own : Bool) → Each (IsCalm b) (if own then send_changes t e messages s else in_turn (handed_on e to.name) t messages s)
    go true = sends_calm b t e messages s
    go false = handed_calm b t e to.name messages s

  -- ---- what a queued settlement does

  module _ (s : Space) (o : IsOrdered s) where
    module _ (part : Part) (number : ℕ) (token : Token) (f : Finds t e.about.number part number token s) where
      own_number : (f.copy.number == number) ≡ true
      own_number = (two (is_living t (leaf_of part f.now).sessions token.lock f.copy.standing) (f.copy.number == number)
          (found_passes (λ d. is_living t (leaf_of part f.now).sessions token.lock d.standing && is_named (Number number) d) f.copy (leaf_of part f.now).copies (leased_held s t o token (Number number) (leaf_of part f.now) f.copy f.held).0)).1

      own_lock : lock_in f.copy.standing ≡ token.lock ∷ []
      own_lock = living_lock t (leaf_of part f.now).sessions token.lock f.copy.standing (leased_held s t o token (Number number) (leaf_of part f.now) f.copy f.held).1

      by_own_number : copy_in f.copy.number (leaf_of part f.now) ≡ Some f.copy
      by_own_number = copy_by_number s t o part f.now (is_entity e.about.number) f.copy (λ d. is_living t (leaf_of part f.now).sessions token.lock d.standing && is_named (Number number) d) f.there (leased_held s t o token (Number number) (leaf_of part f.now) f.copy f.held).0

      now_there : entity_of f.now.about.number s ≡ Some f.now
      now_there = subst (λ (k : ℕ). entity_of k s ≡ Some f.now) (sym (is_equal f.now.about.number e.about.number (found_passes (is_entity e.about.number) f.now s.entities f.there))) f.there

    settles_so : (from : Path) (number : ℕ) (token : Token) (session : Option Token) (how : How) (f : Finds t e.about.number from.part number token s) → operation_changes t e (SettleLater from number token session how) s ≡ settled (listed s) t f.now from.part f.copy how
    settles_so from number token session how f =
        ap (λ (o : Option Entity). elim o [ Some now ↦ settled_found s t now from how (queued_copy s t now from number token) | None ↦ [] ]) f.there ∙ ap (settled_found s t f.now from how) f.held

    -- another one's copy is another copy
    apart : (part other : Part) (number m : ℕ) (token key : Token) (f : Finds t e.about.number part number token s) (g : Finds t e.about.number other m key s) → (token.lock == key.lock) ≡ false → is_same_part part other ≡ true → (f.copy.number == m) ≡ false
    apart part other number m token key f g locks same = at (f.copy.number == m) refl where
      at : (b : Bool) → (f.copy.number == m) ≡ b → b ≡ false
      at false is = refl
      at true is =
          let parts : part ≡ other = same_part part other same in
          let nows : f.now ≡ g.now = some_one f.now g.now (sym f.there ∙ g.there) in
          let numbers : f.copy.number ≡ g.copy.number = is_equal f.copy.number m is ∙ sym (is_equal g.copy.number m (own_number other m key g)) in
          let first : copy_in f.copy.number (leaf_of other f.now) ≡ Some f.copy = subst (λ (p : Part). copy_in f.copy.number (leaf_of p f.now) ≡ Some f.copy) parts (by_own_number part number token f) in
          let second : copy_in f.copy.number (leaf_of other g.now) ≡ Some f.copy = subst (λ (d : Entity). copy_in f.copy.number (leaf_of other d) ≡ Some f.copy) nows first in
          let third : copy_in g.copy.number (leaf_of other g.now) ≡ Some f.copy = subst (λ (k : ℕ). copy_in k (leaf_of other g.now) ≡ Some f.copy) numbers second in
          let copies : f.copy ≡ g.copy = some_one f.copy g.copy (sym third ∙ by_own_number other m key g) in
          absurd (locks_same token.lock key.lock (lock_in f.copy.standing) (lock_in g.copy.standing) (own_lock part number token f) (own_lock other m key g) (ap (λ (c : StoredCopy). lock_in c.standing) copies) locks)

    -- what is settled behind an operation finds its copy as before
    still_finds : (first second : Operation) → FindsCopy s first → Goes first → IsOther first second → FindsCopy s second → FindsCopy (after_all t (operation_changes t e first s) s) second
    still_finds first (SendLater to messages) finds goes other g = tt
    still_finds (SendLater to messages) (SettleLater from number token session how) finds goes other g =
        stays_all t e.about.number from.part number token (operation_changes t e (SendLater to messages) s) s
        (calm_leaves t e.about.number from.part number token (operation_changes t e (SendLater to messages) s) (send_calm true to messages s) (send_calm false to messages s)) g
    still_finds (SettleLater own k key claim does) (SettleLater from number token session how) f goes other g =
        stays_all t e.about.number from.part number token (operation_changes t e (SettleLater own k key claim does) s) s
        (subst (Each (SparesCopy t e.about.number from.part number token)) (sym (settles_so own k key claim does f)) (settled_leaves t e.about.number from.part number token (listed s) f.now f.copy own.part (λ same. apart own.part from.part k number key token f g other same) does goes)) g

    all_find : (first : Operation) (os : List Operation) → FindsCopy s first → Goes first → Each (IsOther first) os → Each (FindsCopy s) os → Each (FindsCopy (after_all t (operation_changes t e first s) s)) os
    all_find first [] finds goes others all = tt
    all_find first (p ∷ ps) finds goes others all = (still_finds first p finds goes others.0 all.0, all_find first ps finds goes others.1 all.1)

    one_spends : (p : Operation) → FindsCopy s p → Goes p → along spends_in t (operation_changes t e p s) s ≡ queued_lock p
    one_spends (SendLater to messages) finds goes = none_spent t (operation_changes t e (SendLater to messages) s) s (each_implied (IsCalm false) IsUnspent calm_unspent (operation_changes t e (SendLater to messages) s) (send_calm false to messages s))
    one_spends (SettleLater from number token session how) f goes =
        ap (λ (cs : List Change). along spends_in t cs s) (settles_so from number token session how f)
        ∙ settled_spends s t f.now (now_there from.part number token f) f.copy token.lock (own_lock from.part number token f) from.part (by_own_number from.part number token f) how goes

  -- ---- one behind another

  pub all_spend : (os : List Operation) (s : Space) → IsOrdered s → Each (FindsCopy s) os → Each Goes os → Pairs IsOther os → along spends_in t (in_turn (operation_changes t e) t os s) s ≡ flat_map queued_lock os
  all_spend [] s o finds goes others = refl
  all_spend (p ∷ ps) s o finds goes others =
      let cs = operation_changes t e p s in
      let next = after_all t cs s in
      along_append spends_in t cs (in_turn (operation_changes t e) t ps next) s
      ∙ ap (λ (l : List ℕ). l ++ along spends_in t (in_turn (operation_changes t e) t ps next) next) (one_spends s o p finds.0 goes.0)
      ∙ ap (λ (l : List ℕ). queued_lock p ++ l) (all_spend ps next (stays_ordered_all t cs s o) (all_find s o p ps finds.0 goes.0 others.0 finds.1) goes.1 others.1)
