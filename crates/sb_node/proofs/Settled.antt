-- A history's end between two steps, where calls that come have no part in the disk's failure.
use Rattle.std.proofs.Common.{◌≡◌, ℕ, List, [], ◌∷◌, Bool, true, false, Result, Err, refl}
use Rattle.std.specs.Bool.{MatchBool}
use Rattle.sb_desk.specs.Spared.{SparesFrom}
use Rattle.sb_machine.specs.Accounts.{changing}
use Rattle.sb_machine.specs.Answers.{moment_of}
use Rattle.sb_machine.specs.History.{Log, IsAnswer, IsLegalFrom, after_entries, is_end, is_fault, is_stopped, settled}
use Rattle.sb_machine.specs.declared.call.Call.{Call}
use Rattle.sb_machine.specs.declared.history.Entry.{Entry}
use Rattle.sb_machine.specs.declared.history.Entry.TheVariants.{Ticked, Answered as Replied}
use Rattle.sb_machine.specs.declared.reply.Answered.{Answered}
use Rattle.sb_machine.specs.declared.reply.Refusal.{Refusal}
use Rattle.sb_machine.specs.declared.reply.Refusal.TheVariants.{Stopped}
use Rattle.sb_machine.specs.declared.state.State.{State}

-- entries lead on to the same
pub settled_on : (l : Log) (es : List Entry) → settled (after_entries (settled l) es) ≡ settled (after_entries l es)
settled_on l [] = refl
settled_on l (Ticked seat t ∷ es) = refl
settled_on l (Replied seat reading call answer ∷ es) = refl

still_ends : (failing : Bool) (answer : Result Answered Refusal) → is_stopped answer ≡ true → is_end failing answer ≡ true
still_ends false answer is = is
still_ends true (Err (Stopped n)) is = refl
still_ends true _ is = absurd cc

still_allowed : (stopped failing : Bool) (answer : Result Answered Refusal) (Sound : Type 0) → MatchBool stopped (is_end false answer ≡ true) Sound → MatchBool stopped (is_end failing answer ≡ true) Sound
still_allowed true failing answer Sound is = still_ends failing answer is
still_allowed false failing answer Sound is = is

-- what is legal there is so where the last call was answered that the disk failed
pub legal_settled : (l : Log) (es : List Entry) → IsLegalFrom (settled l) es → IsLegalFrom l es
legal_settled l [] is = is
legal_settled l (Ticked seat t ∷ es) is = is
legal_settled l (Replied seat reading call answer ∷ es) is =
    ((is.0.0, still_allowed l.stopped l.failing answer (is_fault answer ≡ false → IsAnswer l.state (moment_of l.state reading) call answer) is.0.1), is.1)

pub spares_settled : (spared : ℕ → Call → State → Bool) (l : Log) (es : List Entry) → SparesFrom spared (settled l) es → SparesFrom spared l es
spares_settled spared l [] is = is
spares_settled spared l (Ticked seat t ∷ es) is = is
spares_settled spared l (Replied seat reading call answer ∷ es) is = is

pub changing_settled : (l : Log) (es : List Entry) → changing (settled l) es ≡ changing l es
changing_settled l [] = refl
changing_settled l (Ticked seat t ∷ es) = refl
changing_settled l (Replied seat reading call answer ∷ es) = refl
