-- Histories in which no spared call is answered with want of memory.
use Rattle.std.proofs.Common.{◌≡◌, ◌≢◌, ℕ, List, [], ◌∷◌, ◌++◌, append_assoc, subst, Bool, true, false, true≢false, Result, Err, sym, ap, ◌∙◌, length, nat_lt, if◌then◌else◌}
use Rattle.sb_machine.specs.History.{Log, fresh_log, IsFaultless, after_entry, after_entries, is_fault}
use Rattle.sb_machine.specs.declared.call.Call.{Call}
use Rattle.sb_machine.specs.declared.history.Entry.{Entry}
use Rattle.sb_machine.specs.declared.history.Entry.TheVariants.{Ticked, Answered as Replied}
use Rattle.sb_machine.specs.declared.reply.Answered.{Answered}
use Rattle.sb_machine.specs.declared.reply.Refusal.{Refusal}
use Rattle.sb_machine.specs.declared.reply.Refusal.TheVariants.{OutOfMemory}
use Rattle.sb_machine.specs.declared.state.State.{State}
use Rattle.sb_desk.specs.Lists.{longer}
use Rattle.sb_desk.specs.Spared.{Spares, SparesFrom}

-- it goes on by entries that do as well
pub spares_on : (spared : ℕ → Call → State → Bool) (l : Log) (h more : List Entry) → SparesFrom spared l h → SparesFrom spared (after_entries l h) more → SparesFrom spared l (h ++ more)
spares_on spared l [] more so_far here = here
spares_on spared l (Ticked seat t ∷ h) more so_far here = spares_on spared (after_entry l (Ticked seat t)) h more so_far here
spares_on spared l (Replied seat reading call answer ∷ h) more so_far here = (so_far.0, spares_on spared (after_entry l (Replied seat reading call answer)) h more so_far.1 here)

-- the front of one does
pub spares_front : (spared : ℕ → Call → State → Bool) (l : Log) (h more : List Entry) → SparesFrom spared l (h ++ more) → SparesFrom spared l h
spares_front spared l [] more all = tt
spares_front spared l (Ticked seat t ∷ h) more all = spares_front spared (after_entry l (Ticked seat t)) h more all
spares_front spared l (Replied seat reading call answer ∷ h) more all = (all.0, spares_front spared (after_entry l (Replied seat reading call answer)) h more all.1)

not_wanting : (answer : Result Answered Refusal) → is_fault answer ≡ false → answer ≢ Err OutOfMemory
not_wanting answer sound wants = true≢false (sym (ap is_fault wants) ∙ sound)

-- where nothing is answered by a fault, whatever is spared
pub spares_faultless : (spared : ℕ → Call → State → Bool) (l : Log) (h : List Entry) → IsFaultless h → SparesFrom spared l h
spares_faultless spared l [] none = tt
spares_faultless spared l (Ticked seat t ∷ h) none = spares_faultless spared (after_entry l (Ticked seat t)) h none
spares_faultless spared l (Replied seat reading call answer ∷ h) none =
    ((λ is. not_wanting answer none.0), spares_faultless spared (after_entry l (Replied seat reading call answer)) h none.1)

-- the longer one of two does, where both do
pub spares_longer : (spared : ℕ → Call → State → Bool) (from : State) (one other : List Entry) → Spares spared from one → Spares spared from other → Spares spared from (longer one other)
spares_longer spared from one other by_one by_other = at (nat_lt (length one) (length other))
  where
    at : (b : Bool) → Spares spared from (if b then other else one)
    at true = by_other
    at false = by_one

pub spares_seen : (spared : ℕ → Call → State → Bool) (from : State) (log seen own after : List Entry) → log ≡ seen ++ (own ++ after) → Spares spared from log → Spares spared from (seen ++ own)
spares_seen spared from log seen own after whole all = spares_front spared (fresh_log from) (seen ++ own) after (subst (Spares spared from) (whole ∙ sym (append_assoc seen own after)) all)
