-- Laws of delivery: where messages go, how often they are forwarded, and what they count.
use Rattle.std.specs.Prelude.{◌≡◌, ℕ, ◌+◌, ◌≤◌, ◌==◌, List, length, Bool, true, false, nat_le, sum_by, Option}
use Rattle.std.specs.List.{list_all}
use Rattle.sb_machine.specs.Changes.{after, after_all, numbers_given}
use Rattle.sb_machine.specs.Delivery.{delivered, carried}
use Rattle.sb_machine.specs.Leaves.{copies_given}
use Rattle.sb_machine.specs.Namespace.{live, made, listed}
use Rattle.sb_machine.specs.Visits.{stays, ends, Visit, max_hops, visits, burial, passage}
use Rattle.sb_machine.specs.declared.change.Change.{Change}
use Rattle.sb_machine.specs.declared.change.Change.TheVariants.{InLeaf, Notes, Begins, Queues, Drops}
use Rattle.sb_machine.specs.declared.change.LeafChange.{LeafChange}
use Rattle.sb_machine.specs.declared.change.LeafKey.{LeafKey}
use Rattle.sb_model.specs.declared.message.Message.{Message}
use Rattle.sb_machine.specs.declared.state.Listed.{Listed}
use Rattle.sb_machine.specs.declared.state.Space.{Space}
use Rattle.sb_fanout.specs.Lasts.{Given, raised, is_listed, StandsFor}

-- ---- a copy that stays was forwarded at most so often

-- a message that stays was forwarded at most so often
abbrev pub is_within : Visit → Bool
is_within v = elim v.lot [ stays hops m ↦ nat_le hops max_hops | ends cause ↦ true ]

-- so it is with each of these visits
abbrev pub AreWithin : List Visit → Type 0
AreWithin vs = list_all is_within vs ≡ true

-- messages that enter, are dead-lettered or are forwarded are forwarded at most so often
pub record HopsStayWithin : Type 0 where
  pub entering : (es : List Listed) (hops : ℕ) (e : Listed) (m : Message) → hops ≤ max_hops → AreWithin (visits es hops e m)
  pub burying : (es : List Listed) (hops : ℕ) (e : Listed) (m : Message) → hops ≤ max_hops → AreWithin (burial es hops e m)
  pub passing : (es : List Listed) (hops : ℕ) (e : Listed) (m : Message) (to : List ℕ) → hops ≤ max_hops → AreWithin (passage es hops e m to)

-- ---- a message visits entities alone that are there

-- each visit is to an entity that is there
abbrev pub are_there : List Listed → List Visit → Bool
are_there es vs = list_all (λ v. is_listed v.entity es) vs

-- messages that enter, are dead-lettered or are forwarded from an entity that is there visit none that isn't
pub record VisitsAreThere : Type 0 where
  pub entering : (es : List Listed) (hops : ℕ) (e : Listed) (m : Message) → is_listed e.number es ≡ true → are_there es (visits es hops e m) ≡ true
  pub burying : (es : List Listed) (hops : ℕ) (e : Listed) (m : Message) → is_listed e.number es ≡ true → are_there es (burial es hops e m) ≡ true
  pub passing : (es : List Listed) (hops : ℕ) (e : Listed) (m : Message) (to : List ℕ) → is_listed e.number es ≡ true → are_there es (passage es hops e m to) ≡ true

-- ---- each visit is given one number, and where the message stays one copy more lives

-- how many messages a visit leaves
abbrev pub staying : Visit → ℕ
staying v = elim v.lot [ stays hops m ↦ 1 | ends cause ↦ 0 ]

-- changes of visits in a namespace
pub record CountsAs (t : ℕ) (vs : List Visit) (cs : List Change) (s : Space) : Type 0 where
  pub numbers : numbers_given cs ≡ length vs
  pub made_then : made (after_all t cs s) ≡ made s + length vs
  pub live_then : live (after_all t cs s) ≡ live s + sum_by staying vs

-- the changes of visits give a number for each, and leave a message for each that stays
pub record VisitsCount : Type 0 where
  pub delivering : (t : ℕ) (seq : Option ℕ) (vs : List Visit) (s : Space) → are_there (listed s) vs ≡ true → CountsAs t vs (delivered seq vs s) s
  pub carrying : (t seq : ℕ) (vs : List Visit) (s : Space) → are_there (listed s) vs ≡ true → CountsAs t vs (carried seq vs) s

-- ---- what `Lasts` stands for, behind changes that no delivery makes

-- no copy number is given, and no entity comes or goes
abbrev pub keeps_numbers : Change → Bool
keeps_numbers (InLeaf key c) = copies_given c == 0
keeps_numbers (Notes n id) = true
keeps_numbers (Begins n deadline) = true
keeps_numbers (Queues n deadline operation) = true
keeps_numbers (Drops n) = true
keeps_numbers _ = false

-- what is kept of the numbers stays right behind a change that gives one, and behind one that gives none
pub record NumbersStand : Type 0 where
  pub raising : (es : List Listed) (last given : Given) (t : ℕ) (key : LeafKey) (c : LeafChange) (s : Space) → copies_given c ≡ 1 → StandsFor es last given s → StandsFor es last (raised key given) (after t (InLeaf key c) s)
  pub keeping : (es : List Listed) (last given : Given) (t : ℕ) (c : Change) (s : Space) → keeps_numbers c ≡ true → StandsFor es last given s → StandsFor es last given (after t c s)
