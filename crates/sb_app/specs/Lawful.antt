-- The laws of one history: what holds of each legal one that begins in a consistent state.
use Rattle.std.specs.Prelude.{ℕ, ◌≤◌, ◌==◌, List}
use Rattle.sb_laws.specs.Accepted.{AllNote, Apart, kept_ids}
use Rattle.sb_laws.specs.Acted.{ActOnce}
use Rattle.sb_laws.specs.Counting.{times}
use Rattle.sb_laws.specs.Ended.{EndOnce}
use Rattle.sb_laws.specs.Handed.{AreHandedInOrder}
use Rattle.sb_laws.specs.Holders.{AreHeldAlone}
use Rattle.sb_laws.specs.Spent.{AllLived, AllSettle}
use Rattle.sb_laws.specs.Thin.{Alike}
use Rattle.sb_machine.specs.Accounts.{ends_of, noted_ids, number_uses, spent_locks}
use Rattle.sb_machine.specs.Events.{replayed, thinned}
use Rattle.sb_machine.specs.History.{fresh_log, state_after}
use Rattle.sb_machine.specs.declared.history.Entry.{Entry}
use Rattle.sb_machine.specs.declared.state.State.{State}

-- what holds of a legal history: numbers, ids, messages, locks and sessions, each as its law says
pub record HasLaws (s : State) (h : List Entry) : Type 0 where
  -- a repeat acts once: each client's numbers rise, and none acts twice until the client is forgotten
  pub numbers : ActOnce s (number_uses (fresh_log s) h)
  -- nor does an id within its entity's window
  pub ids : Apart (kept_ids s.space) (noted_ids (fresh_log s) h)
  -- and a send notes the ids of just those messages that got a number
  pub notes : AllNote (fresh_log s) h
  -- without the messages that were dropped as duplicates the events lead to the same state
  pub thin : Alike (replayed s (thinned (fresh_log s) h)) (state_after s h)
  -- a copy ends once, and none is lost
  pub ends : EndOnce s.space (state_after s h).space (ends_of (fresh_log s) h)
  -- a lock is settled once, and only while it lives
  pub spent : (lock : ℕ) → times (λ l. l == lock) (spent_locks (fresh_log s) h) ≤ 1
  pub lived : AllLived (fresh_log s) h
  -- and who is told that it is settled has settled it
  pub settles : AllSettle (fresh_log s) h
  -- a session has one holder
  pub holders : AreHeldAlone (fresh_log s) h
  -- and is handed out in order
  pub in_order : AreHandedInOrder (fresh_log s) h
