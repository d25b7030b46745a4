-- Entities whose numbers rise, and the parts of the test.
use Rattle.std.proofs.Common.{◌≡◌, ℕ, ◌<◌, ◌≤◌, refl, true, List, [], ◌∷◌, arith}
use Rattle.sb_machine.specs.Each.{Each}
use Rattle.sb_machine.specs.Keyed.{AreRising}
use Rattle.sb_machine.specs.declared.state.Entity.{Entity}
use Rattle.sb_machine.specs.declared.state.Space.{Space}
use Rattle.sb_machine.specs.declared.state.State.{State}
use Rattle.sb_judge.specs.Decided.{clients_verdict, entities_verdict, is_consistent, is_whole, locks_verdict, numbers_verdict, open_verdict}
use Rattle.sb_judge.specs.Entities.{AreNumbered}

all_above : (low above last : ℕ) (es : List Entity) → low ≤ above → AreRising (λ e. e.about.number) above last es → Each (λ e. low < e.about.number) es
all_above low above last [] le h = tt
all_above low above last (e ∷ es) le h = (omega (arith, le, h.0), all_above low e.about.number last es (omega (arith, le, h.0)) h.1)

from_rising : (above last : ℕ) (es : List Entity) → AreRising (λ e. e.about.number) above last es → AreNumbered es
from_rising above last [] h = tt
from_rising above last (e ∷ es) h = (all_above e.about.number e.about.number last es (omega arith) h.1, from_rising e.about.number last es h.1)

pub numbered : (now : ℕ) (s : Space) → (numbers_verdict now s).0 ≡ true → AreNumbered s.entities
numbered now s e = from_rising 0 s.last_entity s.entities ((numbers_verdict now s).1.0 e).1.1.1.1.1

-- part by part, it is the whole test
pub whole_is : (st : State) → is_whole st.now st.space st.clients ≡ is_consistent st
unfolding numbers_verdict entities_verdict locks_verdict open_verdict clients_verdict
whole_is st = refl
