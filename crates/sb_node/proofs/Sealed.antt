-- A node whose journal holds what it has made.
use Rattle.std.proofs.Common.{◌≡◌, ℕ, List, Option, None, sym, ap, ◌∙◌, subst}
use Rattle.sb_machine.specs.History.{Log}
use Rattle.sb_machine.specs.declared.history.Entry.{Entry}
use Rattle.sb_machine.specs.declared.state.State.{State}
use Rattle.sb_node.specs.Steps.{log_of, IsStep}

-- the same place of a history
pub log_same : (s t : State) (stopped : Option ℕ) → s ≡ t → stopped ≡ None → log_of s stopped ≡ log_of t None
log_same s t stopped same none = ap (λ (x : State). log_of x stopped) same ∙ ap (log_of t) none

pub step_same : (l l' m m' : Log) (es : List Entry) → l ≡ l' → m ≡ m' → IsStep l' es m' → IsStep l es m
step_same l l' m m' es before after step = subst (λ (x : Log). IsStep x es m) (sym before) (subst (λ (x : Log). IsStep l' es x) (sym after) step)
