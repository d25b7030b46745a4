-- What a settlement at once uses up: the lock under which its copy stands, and no other.
use Rattle.std.proofs.Common.{Bool, List, Option, Some, [], ap, false, nat_le, not, refl, subst, true, ℕ, ◌&&◌, ◌==◌, ◌∙◌, ◌∷◌, ◌++◌, ◌≡◌}
use Rattle.std.specs.Prelude.{if◌then◌else◌}
use Rattle.sb_laws.proofs.Calm.{IsCalm, visits_calm}
use Rattle.sb_laws.proofs.Deeds.{IsUnspent, calm_unspent}
use Rattle.sb_laws.proofs.Eachs.{each_implied}
use Rattle.sb_laws.proofs.Living.{none_spent}
use Rattle.sb_laws.proofs.Mild.{main_part}
use Rattle.sb_laws.proofs.Sameness.{equal_numbers, two}
use Rattle.sb_laws.proofs.Swept.{three}
use Rattle.sb_machine.specs.Changes.{after, along}
use Rattle.sb_machine.specs.Delivery.{back_to, dead_for, dead_lettered, expired, in_part, is_expired, raised, released}
use Rattle.sb_machine.specs.Each.{Each}
use Rattle.sb_machine.specs.Ends.{leaf_spends, lock_in, lock_of, of_leaf, spends_in}
use Rattle.sb_machine.specs.Leases.{is_living, lasts, was_deferred}
use Rattle.sb_machine.specs.Leaves.{copy_in}
use Rattle.sb_machine.specs.Names.{is_main}
use Rattle.sb_machine.specs.Namespace.{entity_of, key_of, leaf_of, listed}
use Rattle.sb_machine.specs.Reasons.{for_reason, with_reason}
use Rattle.sb_machine.specs.Settlement.{goes_with, settled}
use Rattle.sb_machine.specs.Visits.{burial}
use Rattle.sb_machine.specs.declared.call.How.{How}
use Rattle.sb_machine.specs.declared.call.How.TheVariants.{Abandon, Complete, DeadLetter, Defer}
use Rattle.sb_machine.specs.declared.call.Part.{Part}
use Rattle.sb_machine.specs.declared.call.Part.TheVariants.{Main}
use Rattle.sb_machine.specs.declared.change.Cause.{Cause}
use Rattle.sb_machine.specs.declared.change.Cause.TheVariants.{Completed, DeadLettered, Expired as ByTime}
use Rattle.sb_machine.specs.declared.change.Change.{Change}
use Rattle.sb_machine.specs.declared.change.LeafChange.{LeafChange}
use Rattle.sb_machine.specs.declared.change.LeafChange.TheVariants.{Ends, Stands}
use Rattle.sb_machine.specs.declared.reason.DeadReason.TheVariants.{Expired, TooOften}
use Rattle.sb_machine.specs.declared.state.Entity.{Entity}
use Rattle.sb_machine.specs.declared.state.Session.{Session}
use Rattle.sb_machine.specs.declared.state.Space.{Space}
use Rattle.sb_machine.specs.declared.state.Standing.{Standing}
use Rattle.sb_machine.specs.declared.state.Standing.TheVariants.{Deferred, Held, Ready, Scheduled}
use Rattle.sb_machine.specs.declared.state.StoredCopy.{StoredCopy}
use Rattle.sb_model.specs.declared.message.Message.{Message}

-- what stands under this living lock is held under it
pub living_lock : (t : ℕ) (sessions : List Session) (l : ℕ) (standing : Standing) → is_living t sessions l standing ≡ true → lock_in standing ≡ l ∷ []
living_lock t sessions l (Held lock hold deferred) is = ap (λ (k : ℕ). k ∷ []) (equal_numbers lock l (two (lock == l) (lasts t sessions hold) is).0)
living_lock t sessions l Ready is = absurd cc
living_lock t sessions l Deferred is = absurd cc
living_lock t sessions l (Scheduled moment) is = absurd cc

module _ (s : Space) (t : ℕ) where
  module _ (e : Entity) (there : entity_of e.about.number s ≡ Some e) where
    -- the first change uses up the lock, and those behind it none
    first_spends : (part : Part) (c : LeafChange) (cs : List Change) (lock : ℕ) → leaf_spends c (leaf_of part e) ≡ lock ∷ [] → Each IsUnspent cs → along spends_in t (in_part part e c ∷ cs) s ≡ lock ∷ []
    first_spends part c cs lock is rest =
        let later = after t (in_part part e c) s in
        let here : spends_in t (in_part part e c) s ≡ lock ∷ [] = ap (λ (o : Option Entity). of_leaf (key_of part e) (leaf_spends c) o) there ∙ is in
        ap (λ (l : List ℕ). l ++ along spends_in t cs later) here ∙ ap (λ (l : List ℕ). lock ∷ l) (none_spent t cs later rest)

    module _ (c : StoredCopy) (lock : ℕ) (held : lock_in c.standing ≡ lock ∷ []) where
      ends_spend : (part : Part) (cause : Cause) (cs : List Change) → copy_in c.number (leaf_of part e) ≡ Some c → Each IsUnspent cs → along spends_in t (in_part part e (Ends c.number true cause) ∷ cs) s ≡ lock ∷ []
      ends_spend part cause cs found rest = first_spends part (Ends c.number true cause) cs lock (ap lock_of found ∙ held) rest

      stands_spend : (part : Part) (count : ℕ) (standing : Standing) → copy_in c.number (leaf_of part e) ≡ Some c → along spends_in t (in_part part e (Stands c.number true count standing) ∷ []) s ≡ lock ∷ []
      stands_spend part count standing found = first_spends part (Stands c.number true count standing) [] lock (ap lock_of found ∙ held) tt

      dead_spends : (m : Message) → copy_in c.number e.main ≡ Some c → along spends_in t (dead_lettered (listed s) e c true m) s ≡ lock ∷ []
      dead_spends m found = ends_spend Main DeadLettered _ found (each_implied (IsCalm false) IsUnspent calm_unspent _ (visits_calm false (Some c.enqueued_seq) (burial (listed s) c.hops e.about m)))

      expired_spends : copy_in c.number e.main ≡ Some c → along spends_in t (expired (listed s) e c true) s ≡ lock ∷ []
      expired_spends found = go e.about.description.dead_on_expiry where
        go : (b : Bool) → along spends_in t (if b then dead_for (listed s) e c true Expired else in_part Main e (Ends c.number true ByTime) ∷ []) s ≡ lock ∷ []
        go true = dead_spends (for_reason Expired c.message) found
        go false = ends_spend Main ByTime [] found tt

      module _ (part : Part) (found : copy_in c.number (leaf_of part e) ≡ Some c) where
        in_main : is_main part ≡ true → copy_in c.number e.main ≡ Some c
        in_main is = subst (λ (p : Part). copy_in c.number (leaf_of p e) ≡ Some c) (main_part part is) found

        released_spends : along spends_in t (released (listed s) t e part c true true) s ≡ lock ∷ []
        released_spends = go (is_main part && true && nat_le e.about.description.max_delivery (raised true c.count)) refl (is_main part && not (was_deferred c.standing) && is_expired t c) refl where
          go : (a : Bool) → (is_main part && true && nat_le e.about.description.max_delivery (raised true c.count)) ≡ a → (b : Bool) → (is_main part && not (was_deferred c.standing) && is_expired t c) ≡ b
              → along spends_in t (if a then dead_for (listed s) e c true TooOften else (if b then expired (listed s) e c true else in_part part e (Stands c.number true (raised true c.count) (back_to c.standing)) ∷ [])) s ≡ lock ∷ []
          go true x b y = dead_spends (for_reason TooOften c.message) (in_main (three (is_main part) true (nat_le e.about.description.max_delivery (raised true c.count)) x).0)
          go false x true y = expired_spends (in_main (three (is_main part) (not (was_deferred c.standing)) (is_expired t c) y).0)
          go false x false y = stands_spend part (raised true c.count) (back_to c.standing) found

        pub settled_spends : (how : How) → goes_with how part ≡ true → along spends_in t (settled (listed s) t e part c how) s ≡ lock ∷ []
        settled_spends Complete goes = ends_spend part Completed [] found tt
        settled_spends Abandon goes = released_spends
        settled_spends Defer goes = stands_spend part c.count Deferred found
        settled_spends (DeadLetter reason description) goes = dead_spends (with_reason reason description c.message) (in_main goes)
