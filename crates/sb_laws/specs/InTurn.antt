-- Operations that act together, as the acts for which they stand: a transaction's begin, each operation in it, its commit.
use Rattle.std.specs.Prelude.{◌≡◌, ◌+◌, ℕ, List, [], ◌∷◌, ◌++◌, length, map, Option, Some, None}
use Rattle.sb_laws.specs.Sweepable.{IsSweepable}
use Rattle.sb_machine.specs.Acts.{row_of}
use Rattle.sb_machine.specs.Changes.{after_all}
use Rattle.sb_machine.specs.Rows.{Row, answers, refuses}
use Rattle.sb_machine.specs.declared.call.Act.{Act}
use Rattle.sb_machine.specs.declared.call.Act.TheVariants.{Begin, Commit, Send, SessionSet, Settle, Together}
use Rattle.sb_machine.specs.declared.call.By.{By}
use Rattle.sb_machine.specs.declared.call.Path.{Path}
use Rattle.sb_machine.specs.declared.call.Step.{Step}
use Rattle.sb_machine.specs.declared.call.Step.TheVariants.{Send as StepSend, Settle as StepSettle, SessionSet as StateSet}
use Rattle.sb_machine.specs.declared.change.Change.{Change}
use Rattle.sb_machine.specs.declared.reply.Reply.{Reply}
use Rattle.sb_machine.specs.declared.reply.Reply.TheVariants.{Together as Told}
use Rattle.sb_machine.specs.declared.reply.StepReply.{StepReply}
use Rattle.sb_machine.specs.declared.state.Space.{Space}

-- an operation as an act of its own: in the transaction n, but for what a session remembers, which is set at once
abbrev pub act_of : ℕ → Step → Act
act_of n (StepSend to messages) = Send to messages (Some n)
act_of n (StepSettle from which token session how) = Settle from which token session how (Some n)
act_of n (StateSet from session state) = SessionSet from session state

-- the operations, each as an act, and the commit of the transaction n behind them
abbrev pub filled_by : ℕ → List Step → List Act
filled_by n steps = map (act_of n) steps ++ Commit n ∷ []

-- the acts for which operations stand that act together
abbrev pub stands_for : Space → Path → List Step → List Act
stands_for s path steps = Begin path ∷ filled_by (s.last_txn + 1) steps

-- the namespace behind a row, and then what is done there
abbrev pub behind_row : ℕ → Space → Row → (Space → Option Space) → Option Space
behind_row t s (refuses r) next = None
behind_row t s (answers reply cs) next = next (after_all t cs s)

-- the namespace behind the calls of these acts, each in the namespace that those before it left; none where one of them is refused
abbrev pub behind_acts : ℕ → List Act → Space → Option Space
behind_acts t [] s = Some s
behind_acts t (act ∷ acts) s = behind_row t s (row_of s t None act) (behind_acts t acts)

-- where operations act together, calls of the acts for which they stand are accepted one behind another at the same moment, and leave the same
-- namespace
abbrev pub ActInTurn : Type 0
ActInTurn =
    (s : Space) (t : ℕ) (by : Option By) (path : Path) (steps : List Step) (reply : Reply) (cs : List Change)
    → row_of s t by (Together path steps) ≡ answers reply cs → behind_acts t (stands_for s path steps) s ≡ Some (after_all t cs s)

-- Where operations act together, each has its reply: no lock is lost before they are committed, so that their transaction is never aborted.
abbrev pub EachAnswered : Type 0
EachAnswered =
    (s : Space) (t : ℕ) (by : Option By) (path : Path) (steps : List Step) (reply : Reply) (cs : List Change)
    → IsSweepable s → row_of s t by (Together path steps) ≡ answers reply cs → (replies : List StepReply) × (reply ≡ Told replies) × (length replies ≡ length steps)
