-- Without the messages that were dropped as duplicates, the events of a history lead to the same state.
use Rattle.std.specs.Prelude.{◌≡◌, List, map}
use Rattle.sb_machine.specs.Accounts.{Numbered}
use Rattle.sb_machine.specs.Consistent.{IsConsistent}
use Rattle.sb_machine.specs.Events.{replayed, thinned}
use Rattle.sb_machine.specs.History.{IsLegal, fresh_log, state_after}
use Rattle.sb_machine.specs.declared.history.Entry.{Entry}
use Rattle.sb_machine.specs.declared.state.Kept.{Kept}
use Rattle.sb_machine.specs.declared.state.State.{State}

-- the client and its number in what is remembered
abbrev pub number_kept : Kept → Numbered
number_kept k = record { client = k.client; number = k.number }

-- all clients and their numbers in what is remembered
abbrev pub numbers_kept : List Kept → List Numbered
numbers_kept clients = map number_kept clients

-- the same state, but for the acts and replies that are kept for clients
pub record Alike (a b : State) : Type 0 where
  pub now : a.now ≡ b.now
  pub space : a.space ≡ b.space
  pub clients : numbers_kept a.clients ≡ numbers_kept b.clients

-- in each legal history, the events without duplicates lead to the same state
abbrev pub ThinSame : Type 0
ThinSame = (s : State) (h : List Entry) → IsConsistent s → IsLegal s h → Alike (replayed s (thinned (fresh_log s) h)) (state_after s h)
