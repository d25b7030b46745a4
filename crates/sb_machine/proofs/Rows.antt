-- What a row that is answered, or that changes something, says of the tests on the way.
use Rattle.std.proofs.Common.{◌≡◌, ℕ, [], ◌∷◌, Bool, true, false, Option, Some, None, Result, Ok, Err, refl}
use Rattle.sb_machine.specs.Administration.{read_or}
use Rattle.sb_machine.specs.Each.{is_read}
use Rattle.sb_machine.specs.Names.{is_address}
use Rattle.sb_machine.specs.Namespace.{entity_at}
use Rattle.sb_machine.specs.Rows.{Row, refuses, answers, refused_by, asks, found_or, absent_or, at_entity}
use Rattle.sb_machine.specs.Sessions.{held_or}
use Rattle.sb_machine.specs.declared.call.Path.{Path}
use Rattle.sb_machine.specs.declared.reply.Refusal.{Refusal}
use Rattle.sb_machine.specs.declared.reply.Refusal.TheVariants.{BadName, EntityNotFound}
use Rattle.sb_machine.specs.declared.state.Entity.{Entity}
use Rattle.sb_machine.specs.declared.state.Session.{Session}
use Rattle.sb_machine.specs.declared.state.Space.{Space}

abbrev pub is_answer : Row → Bool
is_answer (refuses r) = false
is_answer (answers reply cs) = true

abbrev pub has_changes : Row → Bool
has_changes (refuses r) = false
has_changes (answers reply []) = false
has_changes (answers reply (c ∷ cs)) = true

-- a row that passes such a test
pub record Passes (p : Row → Bool) (row : Row) : Type 0 where
  pub is : p row ≡ true

-- a refusal passes neither
abbrev pub Fails : (Row → Bool) → Type 0
Fails p = (r : Refusal) → p (refuses r) ≡ true → ⊥

pub no_answer : Fails is_answer
no_answer r e = absurd cc

pub no_changes : Fails has_changes
no_changes r e = absurd cc

pub asks_passed : (p : Row → Bool) → Fails p → (passes : Bool) (r : Refusal) (row : Row) → Passes p (asks passes r row) → (passes ≡ true) × Passes p row
asks_passed p fails true r row e = (refl, e)
asks_passed p fails false r row e = absurd (fails r e.is)

pub refused_passed : (p : Row → Bool) → Fails p → (o : Option Refusal) (row : Row) → Passes p (refused_by o row) → (o ≡ None) × Passes p row
refused_passed p fails None row e = (refl, e)
refused_passed p fails (Some r) row e = absurd (fails r e.is)

pub found_passed : {X : Type 0} (p : Row → Bool) → Fails p → (o : Option X) (r : Refusal) (next : X → Row) → Passes p (found_or o r next) → (x : X) × Passes p (next x)
found_passed p fails (Some x) r next e = (x, e)
found_passed p fails None r next e = absurd (fails r e.is)

pub absent_passed : {X : Type 0} (p : Row → Bool) → Fails p → (o : Option X) (r : Refusal) (row : Row) → Passes p (absent_or o r row) → Passes p row
absent_passed p fails (Some x) r row e = absurd (fails r e.is)
absent_passed p fails None r row e = e

pub held_passed : (p : Row → Bool) → Fails p → (o : Option Session) (next : Session → Row) → Passes p (held_or o next) → (x : Session) × Passes p (next x)
held_passed p fails (Some x) next e = (x, e)
held_passed p fails None next e = absurd (fails _ e.is)

pub read_passed : {X : Type 0} (p : Row → Bool) → Fails p → (o : Result X ℕ) (next : X → Row) → Passes p (read_or o next) → (x : X) × (is_read o ≡ true) × Passes p (next x)
read_passed p fails (Ok x) next e = (x, refl, e)
read_passed p fails (Err at) next e = absurd (fails _ e.is)

pub at_entity_passed : (p : Row → Bool) → Fails p → (s : Space) (path : Path) (next : Entity → Row) → Passes p (at_entity s path next) → (is_address path ≡ true) × ((e : Entity) × Passes p (next e))
at_entity_passed p fails s path next e =
    let a = asks_passed p fails (is_address path) BadName (found_or (entity_at path s) EntityNotFound next) e in (a.0, found_passed p fails (entity_at path s) EntityNotFound next a.1)

-- where a test is passed, the row is answered by what is behind it
pub asked_by : (passes : Bool) (r : Refusal) (row : Row) → Passes is_answer (asks passes r row) → (passes ≡ true) × Passes is_answer row
asked_by passes r row e = asks_passed is_answer no_answer passes r row e
