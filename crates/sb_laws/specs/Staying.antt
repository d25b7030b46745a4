-- That calls, ticks and histories keep a state consistent.
use Rattle.std.specs.Prelude.{◌≡◌, ◌≤◌, ℕ, List, [], ◌∷◌, false}
use Rattle.sb_machine.specs.Answers.{max_moment, state_of}
use Rattle.sb_machine.specs.Consistent.{IsConsistent}
use Rattle.sb_machine.specs.History.{IsLegal, advanced, is_spent, state_after}
use Rattle.sb_machine.specs.Ordered.{IsActInOrder}
use Rattle.sb_machine.specs.declared.call.Call.{Call}
use Rattle.sb_machine.specs.declared.history.Entry.{Entry}
use Rattle.sb_machine.specs.declared.history.Entry.TheVariants.{Ticked, Answered as Replied}
use Rattle.sb_machine.specs.declared.state.State.{State}

-- a call whose lists are in order keeps a state consistent
abbrev pub StaysConsistent : Type 0
StaysConsistent = (s : State) (t : ℕ) (call : Call) → IsConsistent s → IsActInOrder call.act → s.now ≤ t → t ≤ max_moment → IsConsistent (state_of s t call)

-- a tick keeps a state consistent, where no number that it gives passes the greatest
abbrev pub TicksConsistent : Type 0
TicksConsistent = (s : State) (t : ℕ) → IsConsistent s → s.now ≤ t → t ≤ max_moment → is_spent s t ≡ false → IsConsistent (advanced s t)

-- the lists of each call are in order
abbrev pub AreInOrder : List Entry → Type 0
AreInOrder [] = Unit {0}
AreInOrder (Ticked seat t ∷ es) = AreInOrder es
AreInOrder (Replied seat reading call answer ∷ es) = IsActInOrder call.act × AreInOrder es

-- a legal history of such calls leads from a consistent state to a consistent state
abbrev pub HistoriesConsistent : Type 0
HistoriesConsistent = (s : State) (h : List Entry) → IsConsistent s → IsLegal s h → AreInOrder h → IsConsistent (state_after s h)
