-- Commits where as many copies live as may: what counts is how many live once all operations have acted.
use Rattle.std.specs.Prelude.{◌≡◌, ℕ, None}
use Rattle.sb_machine.specs.Changes.{after_all}
use Rattle.sb_machine.specs.Namespace.{live}
use Rattle.sb_machine.specs.Rows.{refuses, answers}
use Rattle.sb_machine.specs.Transactions.{committed, commit_changes}
use Rattle.sb_machine.specs.declared.reply.Refusal.TheVariants.{QuotaExceeded}
use Rattle.sb_machine.specs.declared.reply.Reply.TheVariants.{Committed}
use Rattle.sb_machine.specs.declared.state.Entity.{Entity}
use Rattle.sb_machine.specs.declared.state.Space.{Space}
use Rattle.sb_machine.specs.declared.state.Transaction.{Transaction}

-- a million live, and a commit would add one: it is refused
abbrev pub IsPastQuota : Type 0
IsPastQuota =
    (s : Space) (t : ℕ) (x : Transaction) (e : Entity) → live s ≡ 1000000 → live (after_all t (commit_changes t e x s) s) ≡ 1000001 → committed s t x e None ≡ refuses (QuotaExceeded 1000000 1)

-- a million live, and as many would once one was settled and another was sent: it is carried out
abbrev pub IsNet : Type 0
IsNet =
    (s : Space) (t : ℕ) (x : Transaction) (e : Entity) → live s ≡ 1000000 → live (after_all t (commit_changes t e x s) s) ≡ 1000000 → committed s t x e None ≡ answers Committed (commit_changes t e x s)
