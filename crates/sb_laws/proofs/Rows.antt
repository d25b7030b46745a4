-- What holds of a row: of its refusal, or of its reply and changes, through the tests that a row is made of.
use Rattle.std.proofs.Common.{Bool, Err, List, None, Ok, Option, Result, Some, false, refl, true, ℕ, ◌++◌, ◌-◌, ◌≡◌}
use Rattle.std.specs.Prelude.{if◌then◌else◌}
use Rattle.sb_machine.specs.Administration.{read_or}
use Rattle.sb_machine.specs.Changes.{after_all, is_numbered}
use Rattle.sb_machine.specs.Names.{is_address}
use Rattle.sb_machine.specs.Namespace.{entity_at, live}
use Rattle.sb_machine.specs.Parts.{at_part}
use Rattle.sb_machine.specs.Rows.{Row, absent_or, answers, asks, at_entity, at_receivable, found_or, is_beyond, is_receivable, numbered, refused_by, refuses, within_quota}
use Rattle.sb_machine.specs.Together.{behind, filling, then_row, unqueued}
use Rattle.sb_machine.specs.declared.call.Path.{Path}
use Rattle.sb_machine.specs.declared.change.Change.{Change}
use Rattle.sb_machine.specs.declared.reply.Refusal.{Refusal}
use Rattle.sb_machine.specs.declared.reply.Refusal.TheVariants.{BadFilter, BadName, EntityNotFound, Exhausted, QuotaExceeded, WrongKind}
use Rattle.sb_machine.specs.declared.reply.Reply.{Reply}
use Rattle.sb_machine.specs.declared.state.Entity.{Entity}
use Rattle.sb_machine.specs.declared.state.Space.{Space}

pub data Of (R : Refusal → Type 0) (P : Reply → List Change → Type 0) : Row → Type 0 where
  refused_so : {r : Refusal} → R r → Of R P (refuses r)
  answered_so : {reply : Reply} {cs : List Change} → P reply cs → Of R P (answers reply cs)

module _ {R : Refusal → Type 0} {P : Reply → List Change → Type 0} where
  pub asked : (b : Bool) (r : Refusal) (row : Row) → R r → (b ≡ true → Of R P row) → Of R P (asks b r row)
  asked true r row none next = next refl
  asked false r row none next = refused_so none

  pub found : {X : Type 0} (o : Option X) (r : Refusal) (next : X → Row) → R r → ((x : X) → o ≡ Some x → Of R P (next x)) → Of R P (found_or o r next)
  found (Some x) r row none next = next x refl
  found None r row none next = refused_so none

  pub absent : {X : Type 0} (o : Option X) (r : Refusal) (row : Row) → R r → (o ≡ None → Of R P row) → Of R P (absent_or o r row)
  absent (Some x) r row none next = refused_so none
  absent None r row none next = next refl

  pub refusing : (o : Option Refusal) (row : Row) → ((r : Refusal) → o ≡ Some r → R r) → (o ≡ None → Of R P row) → Of R P (refused_by o row)
  refusing (Some r) row none next = refused_so (none r refl)
  refusing None row none next = next refl

  pub with_entity : (s : Space) (path : Path) (next : Entity → Row) → R BadName → R EntityNotFound → ((e : Entity) → entity_at path s ≡ Some e → Of R P (next e)) → Of R P (at_entity s path next)
  with_entity s path row bad none next = asked (is_address path) BadName (found_or (entity_at path s) EntityNotFound row) bad (λ is. found (entity_at path s) EntityNotFound row none (λ e there. next e there))

  pub with_receivable : (s : Space) (path : Path) (next : Entity → Row) → R BadName → R EntityNotFound → R WrongKind → ((e : Entity) → entity_at path s ≡ Some e → Of R P (next e)) → Of R P (at_receivable s path next)
  with_receivable s path row bad none wrong next =
      with_entity s path (λ e. asks (is_receivable e path.part) WrongKind (row e)) bad none (λ e there. asked (is_receivable e path.part) WrongKind (row e) wrong (λ may. next e there))

  pub counted : (t : ℕ) (s : Space) (cs : List Change) (reply : Reply) → R (QuotaExceeded (live s) (live (after_all t cs s) - live s)) → P reply cs → Of R P (within_quota t s cs (answers reply cs))
  counted t s cs reply none holds = go (is_beyond (live s) (live (after_all t cs s)))
    where
      go : (b : Bool) → Of R P (if b then refuses (QuotaExceeded (live s) (live (after_all t cs s) - live s)) else answers reply cs)
      go true = refused_so none
      go false = answered_so holds

  pub read : {X : Type 0} (o : Result X ℕ) (next : X → Row) → ((at : ℕ) → R (BadFilter at)) → ((x : X) → o ≡ Ok x → Of R P (next x)) → Of R P (read_or o next)
  read (Ok x) row none next = next x refl
  read (Err at) row none next = refused_so (none at)

pub of_numbered : (t : ℕ) (s : Space) (R : Refusal → Type 0) (P Q : Reply → List Change → Type 0) (row : Row) → R Exhausted → ((reply : Reply) (cs : List Change) → is_numbered t cs s ≡ true → P reply cs → Q reply cs) → Of R P row → Of R Q (numbered t s row)
of_numbered t s R P Q (refuses r) none more (refused_so h) = refused_so h
of_numbered t s R P Q (answers reply cs) none more (answered_so h) = asked (is_numbered t cs s) Exhausted (answers reply cs) none (λ is. answered_so (more reply cs is h))

-- what may be said of an outcome: it is refused, repeats a reply that is kept, or acts
pub implied : {R : Refusal → Type 0} (P Q : Reply → List Change → Type 0) {row : Row} → ((reply : Reply) (cs : List Change) → P reply cs → Q reply cs) → Of R P row → Of R Q row
implied P Q more (refused_so h) = refused_so h
implied P Q more (answered_so h) = answered_so (more _ _ h)

-- ---- rows of acts one behind another

module _ {R : Refusal → Type 0} where
  -- what is said of a row, with what it is
  pub of_itself : {P : Reply → List Change → Type 0} (row : Row) → Of R P row → Of R (λ reply cs. P reply cs × (row ≡ answers reply cs)) row
  of_itself (refuses r) (refused_so h) = refused_so h
  of_itself (answers reply cs) (answered_so h) = answered_so (h, refl)

  pub of_both : {P Q : Reply → List Change → Type 0} (row : Row) → Of R P row → Of (λ r. Unit {0}) Q row → Of R (λ reply cs. P reply cs × Q reply cs) row
  of_both (refuses r) (refused_so h) k = refused_so h
  of_both (answers reply cs) (answered_so h) (answered_so k) = answered_so (h, k)

  of_behind : {P : Reply → List Change → Type 0} (cs : List Change) (row : Row) → Of R (λ reply ds. P reply (cs ++ ds)) row → Of R P (behind cs row)
  of_behind cs (refuses r) (refused_so h) = refused_so h
  of_behind cs (answers reply ds) (answered_so h) = answered_so h

  pub of_then : {P Q : Reply → List Change → Type 0} (t : ℕ) (s : Space) (row : Row) (next : Space → Row) → Of R Q row → ((reply : Reply) (cs : List Change) → Q reply cs → Of R (λ told ds. P told (cs ++ ds)) (next (after_all t cs s))) → Of R P (then_row t s row next)
  of_then t s (refuses r) next (refused_so h) later = refused_so h
  of_then {P = P} t s (answers reply cs) next (answered_so h) later = of_behind {P = P} cs (next (after_all t cs s)) (later reply cs h)

  pub of_filling : {P Q : Reply → List Change → Type 0} (i t : ℕ) (s : Space) (row : Row) (next : Space → Row) → ((r : Refusal) → R r → R (at_part i r)) → Of R Q row → ((reply : Reply) (cs : List Change) → Q reply cs → Of R (λ told ds. P told (unqueued cs ++ ds)) (next (after_all t cs s))) → Of R P (filling i t s row next)
  of_filling i t s (refuses r) next of_part (refused_so h) later = refused_so (of_part r h)
  of_filling {P = P} i t s (answers reply cs) next of_part (answered_so h) later = of_behind {P = P} (unqueued cs) (next (after_all t cs s)) (later reply cs h)
