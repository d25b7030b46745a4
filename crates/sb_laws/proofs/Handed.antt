-- A receive under a session hands out the copy of least number.
use Rattle.std.proofs.Common.{Bool, List, None, Option, Some, [], ap, arith, false, refl, subst, sym, true, ℕ, ◌<◌, ◌∙◌, ◌∷◌, ◌≡◌, ◌≤◌}
use Rattle.std.specs.Prelude.{find}
use Rattle.sb_laws.proofs.Along.{space_after}
use Rattle.sb_laws.proofs.Answered.{accepted_so, acted_row, answered_in, answered_new, goes_by_row}
use Rattle.sb_laws.proofs.Consistency.{consistent_is_sweepable}
use Rattle.sb_laws.proofs.Eachs.{each_found, each_implied, rising_above}
use Rattle.sb_laws.proofs.Entities.{EachLeaf, IsOrdered, LeafRises, copy_number, leaf_each, stays_ordered_all}
use Rattle.sb_laws.proofs.Lists.{found_behind, found_here}
use Rattle.sb_laws.proofs.NothingDue.{ordered}
use Rattle.sb_laws.proofs.Rows.{Of, answered_so, asked, refused_so, with_receivable}
use Rattle.sb_laws.specs.Handed.{AreHandedInOrder, IsFirst, IsHandedInOrder}
use Rattle.sb_machine.specs.Accounts.{entry_changes, moment_in}
use Rattle.sb_machine.specs.Acts.{act_row}
use Rattle.sb_machine.specs.Answers.{moment_of}
use Rattle.sb_machine.specs.Claims.{claim_of, claiming, has_sessions}
use Rattle.sb_machine.specs.Consistent.{IsConsistent}
use Rattle.sb_machine.specs.Each.{Each}
use Rattle.sb_machine.specs.History.{IsAllowed, IsLegal, IsLegalFrom, Log, after_entry, fresh_log}
use Rattle.sb_machine.specs.Keyed.{AreRising}
use Rattle.sb_machine.specs.Leases.{held_session}
use Rattle.sb_machine.specs.Names.{is_same_entity}
use Rattle.sb_machine.specs.Namespace.{entity_at, leaf_of}
use Rattle.sb_machine.specs.Receiving.{first_ready, handed_out, is_ready_for, receive_row, received}
use Rattle.sb_machine.specs.Rows.{answers}
use Rattle.sb_machine.specs.declared.call.Act.{Act}
use Rattle.sb_machine.specs.declared.call.Mode.{Mode}
use Rattle.sb_machine.specs.declared.call.Mode.TheVariants.{Delete, Lock}
use Rattle.sb_machine.specs.declared.call.Path.{Path}
use Rattle.sb_machine.specs.declared.call.Token.{Token}
use Rattle.sb_machine.specs.declared.change.Change.{Change}
use Rattle.sb_machine.specs.declared.history.Entry.{Entry}
use Rattle.sb_machine.specs.declared.history.Entry.TheVariants.{Ticked, Answered as Replied}
use Rattle.sb_machine.specs.declared.reply.CopyShown.{CopyShown}
use Rattle.sb_machine.specs.declared.reply.Refusal.TheVariants.{SessionNotAllowed}
use Rattle.sb_machine.specs.declared.reply.Reply.{Reply}
use Rattle.sb_machine.specs.declared.reply.Reply.TheVariants.{Message as Given}
use Rattle.sb_machine.specs.declared.state.Entity.{Entity}
use Rattle.sb_machine.specs.declared.state.Session.{Session}
use Rattle.sb_machine.specs.declared.state.Space.{Space}
use Rattle.sb_machine.specs.declared.state.State.{State}
use Rattle.sb_machine.specs.declared.state.StoredCopy.{StoredCopy}

-- the first of rising numbers that passes is the least
least_found : (p : StoredCopy → Bool) (above last : ℕ) (c : StoredCopy) (cs : List StoredCopy) → AreRising copy_number above last cs → find p cs ≡ Some c → Each (λ d. p d ≡ true → c.number ≤ d.number) cs
least_found p above last c [] rises found = tt
least_found p above last c (d ∷ ds) rises found = at (p d) refl (λ later. least_found p d.number last c ds rises.1 later) where
  at : (b : Bool) → p d ≡ b → (find p ds ≡ Some c → Each (λ x. p x ≡ true → c.number ≤ x.number) ds) → Each (λ x. p x ≡ true → c.number ≤ x.number) (d ∷ ds)
  at true is ih =
      let same : d.number ≡ c.number = ap copy_number (found_here p d c ds is found) in
      ((λ e. omega (arith, same)), each_implied (λ x. (d.number < x.number) × (x.number ≤ last)) (λ x. p x ≡ true → c.number ≤ x.number) (λ x up e. omega (arith, same, up.0)) ds (rising_above copy_number d.number last ds rises.1))
  at false is ih = ((λ e. let bad : false ≡ true = sym is ∙ e in absurd cc), ih (found_behind p d ds (Some c) is found))

module _ (s : Space) (t : ℕ) (from : Path) (token : Token) (o : IsOrdered s) where
  abbrev FirstGiven : Reply → List Change → Type 0
  FirstGiven reply cs = (shown : CopyShown) → reply ≡ Given shown → IsFirst s t from token shown.number

  shown_same : (a b : CopyShown) → Given a ≡ Given b → a ≡ b
  shown_same a b e = cc

  hands_first : (mode : Mode) → Of (λ r. Unit {0}) FirstGiven (receive_row s t from mode (Some token))
  hands_first mode = with_receivable s from _ tt tt tt (λ e there. asked (has_sessions e from.part) SessionNotAllowed _ tt (λ has. at e there (held_session s t token (leaf_of from.part e)) refl)) where
    at : (e : Entity) → entity_at from s ≡ Some e → (x : Option Session) → held_session s t token (leaf_of from.part e) ≡ x
        → Of (λ r. Unit {0}) FirstGiven (claiming token x (λ claim. received s t e from.part mode claim (first_ready claim (leaf_of from.part e))))
    at e there None held = refused_so tt
    at e there (Some x) held = on (first_ready (Some (claim_of token.lock x)) (leaf_of from.part e)) refl where
      first_of : (c : StoredCopy) → first_ready (Some (claim_of token.lock x)) (leaf_of from.part e) ≡ Some c → IsFirst s t from token c.number
      first_of c is = record {
        entity = e;
        there = there;
        session = x;
        held = held;
        least = least_found (is_ready_for (Some (claim_of token.lock x))) 0 (leaf_of from.part e).last c (leaf_of from.part e).copies (leaf_each LeafRises from.part e (each_found (EachLeaf LeafRises) (λ y. is_same_entity y.about.path from) e s.entities o.copies there)) is;
      }

      on : (c : Option StoredCopy) → first_ready (Some (claim_of token.lock x)) (leaf_of from.part e) ≡ c → Of (λ r. Unit {0}) FirstGiven (received s t e from.part mode (Some (claim_of token.lock x)) c)
      on None is = answered_so (λ shown e. absurd cc)
      on (Some c) is = by mode where
        by : (mode : Mode) → Of (λ r. Unit {0}) FirstGiven (handed_out s t e from.part mode (Some (claim_of token.lock x)) c)
        by Lock = answered_so (λ shown same. subst (λ (y : CopyShown). IsFirst s t from token y.number) (shown_same _ shown same) (first_of c is))
        by Delete = answered_so (λ shown same. subst (λ (y : CopyShown). IsFirst s t from token y.number) (shown_same _ shown same) (first_of c is))

entry_first : (l : Log) (e : Entry) → IsAllowed l e → IsOrdered l.state.space → IsHandedInOrder l e
entry_first l (Ticked seat t) allowed o = tt
entry_first l (Replied seat reading call answer) allowed o = λ from mode token shown is said.
    let t = moment_of l.state reading in
    let plain : goes_by_row call.act ≡ true = ap goes_by_row is in
    let new = answered_new l seat reading call answer (Given shown) plain allowed said in
    let row = (accepted_so l.state.space t call.by call.act (Given shown) new.changes (acted_row l.state t call (Given shown) new.changes plain new.acted_so)).row in
    answered_in (λ r. Unit {0}) (FirstGiven l.state.space t from token o) (receive_row l.state.space t from mode (Some token)) (Given shown) new.changes (hands_first l.state.space t from token o mode) (subst (λ (act : Act). act_row l.state.space t act ≡ answers (Given shown) new.changes) is row) shown refl

-- numbers rise behind each entry
pub ordered_after : (l : Log) (e : Entry) → IsOrdered l.state.space → IsOrdered (after_entry l e).state.space
ordered_after l e o = subst IsOrdered (sym (space_after l e)) (stays_ordered_all (moment_in l e) (entry_changes l e) l.state.space o)

all_first : (l : Log) (h : List Entry) → IsLegalFrom l h → IsOrdered l.state.space → AreHandedInOrder l h
all_first l [] legal o = tt
all_first l (e ∷ es) legal o = (entry_first l e legal.0 o, all_first (after_entry l e) es legal.1 (ordered_after l e o))

pub in_order : (s : State) (h : List Entry) → IsConsistent s → IsLegal s h → AreHandedInOrder (fresh_log s) h
in_order s h consistent legal = all_first (fresh_log s) h legal (ordered s.space (consistent_is_sweepable s consistent))
