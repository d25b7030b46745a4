-- A lock is settled once, and only while it lives; and who is told that it is settled has settled it.
use Rattle.std.specs.Prelude.{ℕ, ◌≤◌, ◌==◌, List, [], ◌∷◌, true, ◌≡◌, Option, Ok}
use Rattle.std.specs.List.{flat_map}
use Rattle.sb_laws.specs.Counting.{times}
use Rattle.sb_machine.specs.Accounts.{entry_changes, moment_in, spent_locks}
use Rattle.sb_machine.specs.Changes.{along}
use Rattle.sb_machine.specs.Consistent.{IsConsistent}
use Rattle.sb_machine.specs.Each.{Each}
use Rattle.sb_machine.specs.Ends.{spends_in}
use Rattle.sb_machine.specs.History.{IsLegal, Log, after_entry, fresh_log}
use Rattle.sb_machine.specs.Leases.{lives}
use Rattle.sb_machine.specs.declared.call.Act.TheVariants.{Settle, Together}
use Rattle.sb_machine.specs.declared.call.How.{How}
use Rattle.sb_machine.specs.declared.call.Path.{Path}
use Rattle.sb_machine.specs.declared.call.Step.{Step}
use Rattle.sb_machine.specs.declared.call.Step.TheVariants.{Settle as StepSettle}
use Rattle.sb_machine.specs.declared.call.Token.{Token}
use Rattle.sb_machine.specs.declared.call.Which.{Which}
use Rattle.sb_machine.specs.declared.history.Entry.{Entry}
use Rattle.sb_machine.specs.declared.history.Entry.TheVariants.{Ticked, Answered as Replied}
use Rattle.sb_machine.specs.declared.reply.Answered.TheVariants.{New}
use Rattle.sb_machine.specs.declared.reply.Reply.TheVariants.{Done, Together as Told}
use Rattle.sb_machine.specs.declared.reply.StepReply.{StepReply}
use Rattle.sb_machine.specs.declared.state.State.{State}

-- no lock is settled twice
abbrev pub SpentOnce : Type 0
SpentOnce = (s : State) (h : List Entry) (lock : ℕ) → IsConsistent s → IsLegal s h → times (λ l. l == lock) (spent_locks (fresh_log s) h) ≤ 1

-- the locks that an entry settles
abbrev pub entry_spends : Log → Entry → List ℕ
entry_spends l e = along spends_in (moment_in l e) (entry_changes l e) l.state.space

-- each lock that an entry settles lived in the state before it, at its moment
abbrev pub AllLived : Log → List Entry → Type 0
AllLived l [] = Unit {0}
AllLived l (e ∷ es) = Each (λ lock. lives (moment_in l e) lock l.state.space ≡ true) (entry_spends l e) × AllLived (after_entry l e) es

-- in each legal history, a lock that a settlement uses up lived until then
abbrev pub SpentLived : Type 0
SpentLived = (s : State) (h : List Entry) → IsConsistent s → IsLegal s h → AllLived (fresh_log s) h

-- the lock under which an operation settles, if it settles
abbrev pub step_lock : Step → List ℕ
step_lock (StepSettle from which token session how) = token.lock ∷ []
step_lock _ = []

-- If an entry is a settlement under a lock that was answered Done, it settles that lock and no other. If it is operations that act together, and
-- they were answered, it settles just the locks of those of them that settle, in their order.
abbrev pub SettlesOwn : Log → Entry → Type 0
SettlesOwn l (Ticked seat t) = Unit {0}
SettlesOwn l (Replied seat reading call answer) =
    ((from : Path) (which : Which) (token : Token) (session : Option Token) (how : How) (txn : Option ℕ) → call.act ≡ Settle from which token session how txn → answer ≡ Ok (New Done) → entry_spends l (Replied seat reading call answer) ≡ token.lock ∷ [])
    × ((path : Path) (steps : List Step) (replies : List StepReply) → call.act ≡ Together path steps → answer ≡ Ok (New (Told replies)) → entry_spends l (Replied seat reading call answer) ≡ flat_map step_lock steps)

-- so it is at each entry
abbrev pub AllSettle : Log → List Entry → Type 0
AllSettle l [] = Unit {0}
AllSettle l (e ∷ es) = SettlesOwn l e × AllSettle (after_entry l e) es

-- in each legal history, a settlement that is answered Done uses up just its own lock, and operations that act together just those of their
-- settlements
abbrev pub DoneSettles : Type 0
DoneSettles = (s : State) (h : List Entry) → IsConsistent s → IsLegal s h → AllSettle (fresh_log s) h
