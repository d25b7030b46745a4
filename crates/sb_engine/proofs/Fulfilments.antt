-- Operations that act together, behind other changes.
use Rattle.std.proofs.Common.{List, [], ap, inl, inr, sym, ℕ, ◌++◌, ◌∙◌, ◌≡◌}
use Rattle.std.specs.Prelude.{◌⊎◌}
use Rattle.sb_machine.specs.Changes.{after_all, in_turn}
use Rattle.sb_machine.specs.Rows.{Row, refuses, within_quota}
use Rattle.sb_machine.specs.Together.{all_receipts}
use Rattle.sb_machine.specs.Transactions.{operation_changes}
use Rattle.sb_machine.specs.declared.change.Change.{Change}
use Rattle.sb_machine.specs.declared.reply.Receipt.{Receipt}
use Rattle.sb_machine.specs.declared.reply.Refusal.{Refusal}
use Rattle.sb_machine.specs.declared.reply.Refusal.TheVariants.{OutOfMemory}
use Rattle.sb_machine.specs.declared.state.Entity.{Entity}
use Rattle.sb_machine.specs.declared.state.Operation.{Operation}
use Rattle.sb_machine.specs.declared.state.Space.{Space}
use Rattle.sb_engine.specs.Commits.{Acts}
use Rattle.sb_engine.specs.Fulfilments.{acted_behind}
use Rattle.sb_engine.specs.Sendings.{Told, space_at}

pub fulfilled_changes : (t : ℕ) (s : Space) (e : Entity) (front : List Change) (os : List Operation) (p q : Told) → p.changes ≡ front → Acts t s e.about.number (in_turn (operation_changes t e) t os) p q → q.changes ≡ acted_behind t e front os s
fulfilled_changes t s e front os p q is acts = acts.changes ∙ ap (λ (cs : List Change). acted_behind t e cs os s) is

pub fulfilled_receipts : (t : ℕ) (s : Space) (e : Entity) (front : List Change) (os : List Operation) (p : Told) (got later : List (List Receipt)) → p.changes ≡ front → got ≡ [] → later ≡ got ++ all_receipts t e os (space_at t s p) → later ≡ all_receipts t e os (after_all t front s)
fulfilled_receipts t s e front os p got later is none more = more ∙ ap (λ (rs : List (List Receipt)). rs ++ all_receipts t e os (space_at t s p)) none ∙ ap (λ (cs : List Change). all_receipts t e os (after_all t cs s)) is

pub quota_passes : (t : ℕ) (s : Space) (cs are : List Change) → cs ≡ are → ((row : Row) → within_quota t s cs row ≡ row) → (row : Row) → within_quota t s are row ≡ row
quota_passes t s cs are is passes row = ap (λ (l : List Change). within_quota t s l row) (sym is) ∙ passes row

pub quota_refuses : (t : ℕ) (s : Space) (cs are : List Change) (r : Refusal) → cs ≡ are → (r ≡ OutOfMemory) ⊎ ((row : Row) → within_quota t s cs row ≡ refuses r) → (r ≡ OutOfMemory) ⊎ ((row : Row) → within_quota t s are row ≡ refuses r)
quota_refuses t s cs are r is (inl memory) = inl memory
quota_refuses t s cs are r is (inr refused) = inr (λ row. ap (λ (l : List Change). within_quota t s l row) (sym is) ∙ refused row)
