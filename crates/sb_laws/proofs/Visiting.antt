-- What holds of a message holds of it wherever it goes.
use Rattle.std.proofs.Common.{Bool, List, None, Option, Some, [], arith, false, filter, map, not, refl, rules, suc, true, zero, ℕ, ◌&&◌, ◌++◌, ◌-◌, ◌∷◌, ◌≡◌, ◌≤◌}
use Rattle.std.specs.List.{flat_map, fold, list_any}
use Rattle.std.specs.Prelude.{if◌then◌else◌}
use Rattle.sb_laws.proofs.Eachs.{each_append, each_filter, each_found, each_inserted}
use Rattle.sb_machine.specs.Each.{Each}
use Rattle.sb_machine.specs.Names.{is_before}
use Rattle.sb_machine.specs.Reasons.{for_reason}
use Rattle.sb_machine.specs.Selection.{changed_by, changed_copies, fails, plain_copies, takes_changed, takes_plainly}
use Rattle.sb_machine.specs.Visits.{Lot, Onward, Visit, burial, buried, came_to, chosen, cut_to, destination, ends, entered_by, failed, fanned, has_session, is_under, max_hops, offered, own_name, passage, settled_in, stays, subscriptions_of, transferred, visit, visits, with_next}
use Rattle.sb_machine.specs.declared.call.Part.TheVariants.{Dead, Main}
use Rattle.sb_machine.specs.declared.change.Cause.TheVariants.{Forwarded}
use Rattle.sb_model.specs.declared.message.Message.{Message}
use Rattle.sb_machine.specs.declared.reason.DeadReason.{DeadReason}
use Rattle.sb_machine.specs.declared.reason.DeadReason.TheVariants.{NoDestination, NoSession, RuleFailed, TooManyHops}
use Rattle.sb_machine.specs.declared.rule.Rule.{Rule}
use Rattle.sb_machine.specs.declared.state.EntityKind.{EntityKind}
use Rattle.sb_machine.specs.declared.state.EntityKind.TheVariants.{Queue, Subscription, Topic}
use Rattle.sb_machine.specs.declared.state.Listed.{Listed}
use Rattle.sb_machine.specs.Visits.{dead_lettered as visits_dead, is_named as is_named_so}
use Rattle.sb_machine.specs.declared.rule.Outcome.TheVariants.{Copies as Taken, Dead as RuleDead, Dropped}

-- P of messages is kept by all that happens to one on its way between entities of which G holds, with rules of which H holds
pub record Travels (P : Message → Type 0) (G : Listed → Type 0) (H : Rule → Type 0) : Type 0 where
  pub cut : (e : Listed) (m : Message) → G e → P m → P (cut_to e m)
  pub dead : (reason : DeadReason) (m : Message) → P m → P (for_reason reason m)
  pub rules : (e : Listed) → G e → Each H e.rules
  pub acted : (r : Rule) (m : Message) → H r → P m → P (changed_by m r)

module _ {P : Message → Type 0} {G : Listed → Type 0} {H : Rule → Type 0} (travels : Travels P G H) where
  abbrev pub LotHolds : Lot → Type 0
  LotHolds (stays hops m) = (hops ≤ max_hops) × P m
  LotHolds (ends cause) = Unit {0}

  abbrev pub VisitHolds : Visit → Type 0
  VisitHolds v = LotHolds v.lot

  abbrev OnwardHolds : Onward → Type 0
  OnwardHolds onward = (e : Listed) (m : Message) (to : List ℕ) → G e → P m → Each VisitHolds (onward e m to)

  buried_holds : (onward : Onward) (hops : ℕ) (e : Listed) (m : Message) → OnwardHolds onward → hops ≤ max_hops → G e → P m → Each VisitHolds (buried onward hops e m)
  buried_holds onward hops e m far few g p = at e.description.forward_dead_to where
    at : (o : Option (List ℕ)) → Each VisitHolds (elim o [ Some to ↦ onward e m to | None ↦ visit e Dead (stays hops m) ∷ [] ])
    at (Some to) = far e m to g p
    at None = ((few, p), tt)

  dead_lettered_holds : (onward : Onward) (hops : ℕ) (e : Listed) (reason : DeadReason) (m : Message) → OnwardHolds onward → hops ≤ max_hops → G e → P m → Each VisitHolds (visits_dead onward hops e reason m)
  dead_lettered_holds onward hops e reason m far few g p = (tt, buried_holds onward hops e (for_reason reason m) far few g (travels.dead reason m p))

  came_holds : (onward : Onward) (hops : ℕ) (e : Listed) (m : Message) → OnwardHolds onward → hops ≤ max_hops → G e → P m → Each VisitHolds (came_to onward hops e m)
  came_holds onward hops e m far few g p = go (e.description.requires_session && not (has_session (cut_to e m))) where
    cut : P (cut_to e m)
    cut = travels.cut e m g p

    at : (o : Option (List ℕ)) → Each VisitHolds (elim o [ Some to ↦ visit e Main (ends Forwarded) ∷ onward e (cut_to e m) to | None ↦ visit e Main (stays hops (cut_to e m)) ∷ [] ])
    at (Some to) = (tt, far e (cut_to e m) to g cut)
    at None = ((few, cut), tt)

    go : (b : Bool) → Each VisitHolds (if b then visits_dead onward hops e NoSession (cut_to e m) else settled_in onward hops e (cut_to e m))
    go true = dead_lettered_holds onward hops e NoSession (cut_to e m) far few g cut
    go false = at e.description.forward_to

  all_come : (onward : Onward) (hops : ℕ) (e : Listed) (ms : List Message) → OnwardHolds onward → hops ≤ max_hops → G e → Each P ms → Each VisitHolds (flat_map (came_to onward hops e) ms)
  all_come onward hops e [] far few g ps = tt
  all_come onward hops e (m ∷ ms) far few g ps = each_append VisitHolds (came_to onward hops e m) (flat_map (came_to onward hops e) ms) (came_holds onward hops e m far few g ps.0) (all_come onward hops e ms far few g ps.1)

  changed_hold : (m : Message) (rules : List Rule) → P m → Each H rules → Each P (map (changed_by m) rules)
  changed_hold m [] p hs = tt
  changed_hold m (r ∷ rs) p hs = (travels.acted r m hs.0 p, changed_hold m rs p hs.1)

  selected_holds : (m : Message) (rules : List Rule) → P m → Each H rules → Each P (plain_copies m rules ++ changed_copies m rules)
  selected_holds m rules p hs = each_append P (plain_copies m rules) (changed_copies m rules) (plain (list_any (takes_plainly m) rules)) (changed_hold m (filter (takes_changed m) rules) p (each_filter H (takes_changed m) rules hs)) where
    plain : (b : Bool) → Each P (if b then m ∷ [] else [])
    plain true = (p, tt)
    plain false = tt

  offered_holds : (onward : Onward) (hops : ℕ) (m : Message) (e : Listed) → OnwardHolds onward → hops ≤ max_hops → G e → P m → Each VisitHolds (offered onward hops m e)
  offered_holds onward hops m e far few g p = go (list_any (fails m) e.rules) e.description.dead_on_fault where
    go : (b d : Bool) → Each VisitHolds (chosen onward hops e m (if b then (if d then RuleDead else Dropped) else Taken (plain_copies m e.rules ++ changed_copies m e.rules)))
    go true true = dead_lettered_holds onward hops e RuleFailed (cut_to e m) far few g (travels.cut e m g p)
    go true false = tt
    go false d = all_come onward hops e (plain_copies m e.rules ++ changed_copies m e.rules) far few g (selected_holds m e.rules p (travels.rules e g))

  all_offered : (onward : Onward) (hops : ℕ) (m : Message) (es : List Listed) → OnwardHolds onward → hops ≤ max_hops → Each G es → P m → Each VisitHolds (flat_map (offered onward hops m) es)
  all_offered onward hops m [] far few gs p = tt
  all_offered onward hops m (e ∷ es) far few gs p = each_append VisitHolds (offered onward hops m e) (flat_map (offered onward hops m) es) (offered_holds onward hops m e far few gs.0 p) (all_offered onward hops m es far few gs.1 p)

  subscriptions_hold : (es : List Listed) (topic : List ℕ) → Each G es → Each G (subscriptions_of es topic)
  subscriptions_hold es topic gs = fold_holds [] (filter (is_under topic) es) tt (each_filter G (is_under topic) es gs) where
    fold_holds : (acc xs : List Listed) → Each G acc → Each G xs → Each G (fold with_next acc xs)
    fold_holds acc [] as' gs = as'
    fold_holds acc (x ∷ xs) as' gs = fold_holds (with_next acc x) xs (each_inserted G (λ q. is_before (own_name q) (own_name x)) x acc gs.0 as') gs.1

  entered_holds : (onward : Onward) (hops : ℕ) (es : List Listed) (e : Listed) (m : Message) → OnwardHolds onward → hops ≤ max_hops → Each G es → G e → P m → Each VisitHolds (entered_by onward hops es e m)
  entered_holds onward hops es e m far few gs g p = at e.kind where
    at : (kind : EntityKind) → Each VisitHolds (elim kind [ Topic ↦ fanned onward hops es e (cut_to e m) | Queue ↦ came_to onward hops e m | Subscription ↦ came_to onward hops e m ])
    at Topic = (tt, all_offered onward hops (cut_to e m) (subscriptions_of es e.path.name) far few (subscriptions_hold es e.path.name gs) (travels.cut e m g p))
    at Queue = came_holds onward hops e m far few g p
    at Subscription = came_holds onward hops e m far few g p

  transferred_holds : (left : ℕ) (es : List Listed) → Each G es → OnwardHolds (transferred left es)
  transferred_holds zero es gs e m to g p = ((omega arith, travels.dead TooManyHops m p), tt)
  transferred_holds (suc left) es gs e m to g p = at (transferred_holds left es gs) (destination es to) refl where
    at : OnwardHolds (transferred left es) → (o : Option Listed) → destination es to ≡ o → Each VisitHolds (elim o [ Some d ↦ entered_by (transferred left es) (max_hops - left) es d m | None ↦ failed (max_hops - suc left) e NoDestination m ])
    at far (Some d) is = entered_holds (transferred left es) (max_hops - left) es d m far (omega arith) gs (each_found G (is_named_so to) d es gs is) p
    at far None is = ((omega arith, travels.dead NoDestination m p), tt)

  pub visits_hold : (es : List Listed) (hops : ℕ) (e : Listed) (m : Message) → Each G es → hops ≤ max_hops → G e → P m → Each VisitHolds (visits es hops e m)
  visits_hold es hops e m gs few g p = entered_holds (transferred (max_hops - hops) es) hops es e m (transferred_holds (max_hops - hops) es gs) few gs g p

  pub burial_holds : (es : List Listed) (hops : ℕ) (e : Listed) (m : Message) → Each G es → hops ≤ max_hops → G e → P m → Each VisitHolds (burial es hops e m)
  burial_holds es hops e m gs few g p = buried_holds (transferred (max_hops - hops) es) hops e m (transferred_holds (max_hops - hops) es gs) few g p

  pub passage_holds : (es : List Listed) (hops : ℕ) (e : Listed) (m : Message) (to : List ℕ) → Each G es → hops ≤ max_hops → G e → P m → Each VisitHolds (passage es hops e m to)
  passage_holds es hops e m to gs few g p = transferred_holds (max_hops - hops) es gs e m to g p
