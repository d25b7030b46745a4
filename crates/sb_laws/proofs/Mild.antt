-- What holds of the changes that deliver, end and release copies.
use Rattle.std.proofs.Common.{Bool, List, Option, Some, [], arith, false, map, nat_le, not, refl, subst, true, ℕ, ◌&&◌, ◌+◌, ◌==◌, ◌∷◌, ◌≡◌, ◌≤◌}
use Rattle.std.specs.List.{list_any}
use Rattle.std.specs.Prelude.{if◌then◌else◌}
use Rattle.sb_laws.proofs.Swept.{settles_copy, three}
use Rattle.sb_laws.proofs.Visiting.{LotHolds, Travels, VisitHolds, burial_holds}
use Rattle.sb_machine.specs.Delivery.{back_to, dead_for, dead_lettered, delivered, expired, in_part, is_expired, landing, max_count, raised, released, visit_change, visit_key}
use Rattle.sb_machine.specs.Each.{Each}
use Rattle.sb_machine.specs.Leases.{was_deferred}
use Rattle.sb_machine.specs.Leaves.{seq_or}
use Rattle.sb_machine.specs.Names.{is_main, is_same_part}
use Rattle.sb_machine.specs.Namespace.{key_of, last_at}
use Rattle.sb_machine.specs.Reasons.{for_reason}
use Rattle.sb_machine.specs.Visits.{Lot, Visit, burial, ends, max_hops, stays}
use Rattle.sb_machine.specs.declared.call.Part.{Part}
use Rattle.sb_machine.specs.declared.call.Part.TheVariants.{Dead, Main, Transfer}
use Rattle.sb_machine.specs.declared.change.Cause.{Cause}
use Rattle.sb_machine.specs.declared.change.Change.{Change}
use Rattle.sb_machine.specs.declared.change.Change.TheVariants.{InLeaf}
use Rattle.sb_machine.specs.declared.change.LeafChange.TheVariants.{Ends, Enters, Passes, Stands}
use Rattle.sb_machine.specs.declared.change.LeafKey.{LeafKey}
use Rattle.sb_model.specs.declared.message.Message.{Message}
use Rattle.sb_machine.specs.declared.reason.DeadReason.{DeadReason}
use Rattle.sb_machine.specs.declared.rule.Rule.{Rule}
use Rattle.sb_machine.specs.declared.state.Entity.{Entity}
use Rattle.sb_machine.specs.declared.state.Listed.{Listed}
use Rattle.sb_machine.specs.declared.state.Space.{Space}
use Rattle.sb_machine.specs.declared.state.Standing.TheVariants.{Ready}
use Rattle.sb_machine.specs.declared.state.StoredCopy.{StoredCopy}
use Rattle.sb_machine.specs.declared.change.Cause.TheVariants.{DeadLettered, Expired as ByTime}
use Rattle.sb_machine.specs.declared.reason.DeadReason.TheVariants.{Expired, TooOften}

-- C holds of the changes that deliver a message of which P holds, and of those that end a copy
pub record IsMild (P : Message → Type 0) (C : Change → Type 0) : Type 0 where
  pub enters : (key : LeafKey) (seq : Option ℕ) (hops : ℕ) (m : Message) → hops ≤ max_hops → P m → C (InLeaf key (Enters (record { seq = seq; hops = hops; standing = Ready; message = m })))
  pub passes : (key : LeafKey) (cause : Cause) → C (InLeaf key (Passes cause))
  pub goes : (key : LeafKey) (n : ℕ) (by_settlement : Bool) (cause : Cause) → C (InLeaf key (Ends n by_settlement cause))

-- a copy that may be carried on
pub record IsCarried (P : Message → Type 0) (c : StoredCopy) : Type 0 where
  pub hops : c.hops ≤ max_hops
  pub count : c.count ≤ max_count
  pub message : P c.message

-- counts stay in range
pub raised_most : (raise : Bool) (count : ℕ) → count ≤ max_count → raised raise count ≤ max_count
raised_most true count few = omega arith
raised_most false count few = few

pub main_part : (part : Part) → is_main part ≡ true → part ≡ Main
main_part Main e = refl
main_part Dead e = absurd cc
main_part Transfer e = absurd cc

module _ {P : Message → Type 0} {G : Listed → Type 0} {H : Rule → Type 0} (travels : Travels P G H) (C : Change → Type 0) (mild : IsMild P C) where
  visit_mild : (seq : Option ℕ) (v : Visit) → VisitHolds travels v → C (visit_change seq v)
  visit_mild seq v holds = at v.lot holds where
    at : (lot : Lot) → LotHolds travels lot → C (InLeaf (visit_key v) (landing seq lot))
    at (stays hops m) h = mild.enters (visit_key v) seq hops m h.0 h.1
    at (ends cause) h = mild.passes (visit_key v) cause

  all_mild : (seq : Option ℕ) (vs : List Visit) → Each (VisitHolds travels) vs → Each C (map (visit_change seq) vs)
  all_mild seq [] h = tt
  all_mild seq (v ∷ vs) h = (visit_mild seq v h.0, all_mild seq vs h.1)

  pub delivered_mild : (seq : Option ℕ) (vs : List Visit) (s : Space) → Each (VisitHolds travels) vs → Each C (delivered seq vs s)
  delivered_mild seq [] s h = tt
  delivered_mild seq (v ∷ vs) s h = (visit_mild seq v h.0, all_mild (Some (seq_or seq (last_at (visit_key v) s + 1))) vs h.1)

  module _ (es : List Listed) (listed_so : Each G es) (e : Entity) (good : G e.about) where
    pub dead_lettered_mild : (c : StoredCopy) (by_settlement : Bool) (m : Message) → c.hops ≤ max_hops → P m → Each C (dead_lettered es e c by_settlement m)
    dead_lettered_mild c by_settlement m few p = (mild.goes (key_of Main e) c.number by_settlement DeadLettered, all_mild (Some c.enqueued_seq) (burial es c.hops e.about m) (burial_holds travels es c.hops e.about m listed_so few good p))

    pub dead_for_mild : (c : StoredCopy) (by_settlement : Bool) (reason : DeadReason) → IsCarried P c → Each C (dead_for es e c by_settlement reason)
    dead_for_mild c by_settlement reason may = dead_lettered_mild c by_settlement (for_reason reason c.message) may.hops (travels.dead reason c.message may.message)

    pub expired_mild : (c : StoredCopy) (by_settlement : Bool) → IsCarried P c → Each C (expired es e c by_settlement)
    expired_mild c by_settlement may = go e.about.description.dead_on_expiry where
      go : (b : Bool) → Each C (if b then dead_for es e c by_settlement Expired else in_part Main e (Ends c.number by_settlement ByTime) ∷ [])
      go true = dead_for_mild c by_settlement Expired may
      go false = (mild.goes (key_of Main e) c.number by_settlement ByTime, tt)

    pub released_mild : (t : ℕ) (part : Part) (c : StoredCopy) (raise by_settlement : Bool) → IsCarried P c → C (in_part part e (Stands c.number by_settlement (raised raise c.count) (back_to c.standing))) → Each C (released es t e part c raise by_settlement)
    released_mild t part c raise by_settlement may back = go (is_main part && raise && nat_le e.about.description.max_delivery (raised raise c.count)) (is_main part && not (was_deferred c.standing) && is_expired t c) where
      go : (a b : Bool) → Each C (if a then dead_for es e c by_settlement TooOften else (if b then expired es e c by_settlement else in_part part e (Stands c.number by_settlement (raised raise c.count) (back_to c.standing)) ∷ []))
      go true b = dead_for_mild c by_settlement TooOften may
      go false true = expired_mild c by_settlement may
      go false false = (back, tt)

-- ---- what is done with a copy settles it

module _ (key : LeafKey) (n : ℕ) where
  abbrev pub is_at : Entity → Part → ℕ → Bool
  is_at e part m = (e.about.number == key.entity) && is_same_part part key.part && (m == n)

  settles_first : (c : Change) (cs : List Change) → settles_copy key n c ≡ true → list_any (settles_copy key n) (c ∷ cs) ≡ true
  settles_first c cs is = rw is refl

  pub expired_settles : (es : List Listed) (e : Entity) (c : StoredCopy) (by_settlement : Bool) → is_at e Main c.number ≡ true → list_any (settles_copy key n) (expired es e c by_settlement) ≡ true
  expired_settles es e c by_settlement is = go e.about.description.dead_on_expiry where
    go : (b : Bool) → list_any (settles_copy key n) (if b then dead_for es e c by_settlement Expired else in_part Main e (Ends c.number by_settlement ByTime) ∷ []) ≡ true
    go true = rw is refl
    go false = rw is refl

  pub released_settles : (es : List Listed) (t : ℕ) (e : Entity) (part : Part) (c : StoredCopy) (raise by_settlement : Bool) → is_at e part c.number ≡ true → list_any (settles_copy key n) (released es t e part c raise by_settlement) ≡ true
  released_settles es t e part c raise by_settlement is = go (is_main part && raise && nat_le e.about.description.max_delivery (raised raise c.count)) refl (is_main part && not (was_deferred c.standing) && is_expired t c) refl where
    in_main : (a b : Bool) → (is_main part && a && b) ≡ true → is_at e Main c.number ≡ true
    in_main a b so = subst (λ (p : Part). is_at e p c.number ≡ true) (main_part part (three (is_main part) a b so).0) is

    go : (a : Bool) → (is_main part && raise && nat_le e.about.description.max_delivery (raised raise c.count)) ≡ a → (b : Bool) → (is_main part && not (was_deferred c.standing) && is_expired t c) ≡ b
        → list_any (settles_copy key n) (if a then dead_for es e c by_settlement TooOften else (if b then expired es e c by_settlement else in_part part e (Stands c.number by_settlement (raised raise c.count) (back_to c.standing)) ∷ [])) ≡ true
    go true x b y = rw (in_main raise (nat_le e.about.description.max_delivery (raised raise c.count)) x) refl
    go false x true y = expired_settles es e c by_settlement (in_main (not (was_deferred c.standing)) (is_expired t c) y)
    go false x false y = rw is refl
