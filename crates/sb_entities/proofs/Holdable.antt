-- What a namespace gives that may stand in memory.
use Rattle.std.proofs.Common.{◌≡◌, ℕ, ◌<◌, ◌≤◌, List, [], ◌∷◌, length, Option, Some, None, sym, subst, arith}
use Rattle.std.proofs.lemmas.List.Sums.{sum_by-cons}
use Rattle.std.specs.Prelude.{sum_by}
use Rattle.sb_machine.specs.Consistent.{IsConsistent}
use Rattle.sb_machine.specs.Each.{Each, IsSorted, Pairs}
use Rattle.sb_machine.specs.Fit.{AreIds, IsEntity, IsLeaf}
use Rattle.sb_machine.specs.Keyed.{AreRising}
use Rattle.sb_machine.specs.Namespace.{live_in, made_in}
use Rattle.sb_machine.specs.declared.state.AcceptedId.{AcceptedId}
use Rattle.sb_machine.specs.declared.state.Entity.{Entity}
use Rattle.sb_machine.specs.declared.state.Leaf.{Leaf}
use Rattle.sb_machine.specs.declared.state.State.{State}
use Rattle.sb_machine.specs.declared.state.Transaction.{Transaction}
use Rattle.sb_repeats.specs.Windows.{comes_first}
use Rattle.sb_txn.specs.Txns.{Opened, transactions_of}
use Rattle.sb_entities.specs.Transactions.{AreOpened, txn_number}
use Rattle.sb_entities.specs.Whole.{IsHoldable, IsOrdered, IsOrderedLeaf}
use Rattle.sb_entities.proofs.Opened.{is_rising}
use Rattle.sb_entities.proofs.Rising.{rising_few}

-- a namespace may, as it stands between entries of a history
pub consistent_holdable : (st : State) → IsConsistent st → IsHoldable st.space
consistent_holdable st h = record { made = h.made; numbers = h.numbers; now = st.now; entities = h.entities; transactions = h.transactions }

-- ---- its entities

ids_sorted : (now : ℕ) (window : Option ℕ) (ids : List AcceptedId) → AreIds now window ids → IsSorted comes_first ids
ids_sorted now None ids none = subst (λ (l : List AcceptedId). IsSorted comes_first l) (sym none) tt
ids_sorted now (Some window) ids h = h.0

leaf_ordered : (now : ℕ) (leaf : Leaf) → IsLeaf now leaf → IsOrderedLeaf leaf
leaf_ordered now leaf h = record { last = h.last; numbers = h.numbers; sessions = h.order }

pub all_ordered : (now : ℕ) (es : List Entity) → Each (IsEntity now) es → Each IsOrdered es
all_ordered now [] h = tt
all_ordered now (e ∷ es) h = (
  record {
    ids = ids_sorted now e.about.description.window e.ids h.0.ids;
    main = leaf_ordered now e.main h.0.main;
    dead = leaf_ordered now e.dead h.0.dead;
    transfer = leaf_ordered now e.transfer h.0.transfer;
  },
  all_ordered now es h.1,
)

-- ---- its counts

few : (leaf : Leaf) → IsOrderedLeaf leaf → length leaf.copies ≤ leaf.last
few leaf h = omega (arith, rising_few (λ c. c.number) 0 leaf.last leaf.copies h.numbers)

-- no more copies live than numbers were made
pub few_live : (es : List Entity) → Each IsOrdered es → sum_by live_in es ≤ sum_by made_in es
few_live [] h = omega arith
few_live (e ∷ es) h =
    omega (arith, few e.main h.0.main, few e.dead h.0.dead, few e.transfer h.0.transfer, few_live es h.1, sum_by-cons live_in e es, sum_by-cons made_in e es)

-- ---- its transactions

above_all : (n above last : ℕ) (xs : List Transaction) → n ≤ above → AreRising (λ x. x.number) above last xs → Each (λ y. n < y.number) xs
above_all n above last [] le h = tt
above_all n above last (x ∷ xs) le h = (omega (arith, le, h.0), above_all n x.number last xs (omega (arith, le, h.0)) h.1)

pub rising_pairs : (above last : ℕ) (xs : List Transaction) → AreRising (λ x. x.number) above last xs → Pairs (λ x y. x.number < y.number) xs
rising_pairs above last [] h = tt
rising_pairs above last (x ∷ xs) h = (above_all x.number x.number last xs (omega arith) h.1, rising_pairs x.number last xs h.1)

opened_rise : (above last : ℕ) (rows : List Opened) → AreRising (λ x. x.number) above last (transactions_of rows) → AreRising txn_number above last rows
opened_rise above last [] h = h
opened_rise above last (r ∷ rs) h = (h.0, opened_rise (txn_number r) last rs h.1)

pub all_opened : (last : ℕ) (rows : List Opened) (xs : List Transaction) → transactions_of rows ≡ xs → AreRising (λ x. x.number) 0 last xs → AreOpened last rows
all_opened last rows xs is h = is_rising 0 last rows (opened_rise 0 last rows (subst (λ (l : List Transaction). AreRising (λ x. x.number) 0 last l) (sym is) h))
