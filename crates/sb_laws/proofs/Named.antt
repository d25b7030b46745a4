-- In every state of a legal history each copy under a session's lock names that session's holder.
use Rattle.std.proofs.Common.{Bool, List, None, Option, Some, [], arith, false, inl, map, refl, subst, sym, true, ℕ, ◌+◌, ◌∙◌, ◌∷◌, ◌≡◌, ◌≤◌}
use Rattle.std.specs.Prelude.{if◌then◌else◌}
use Rattle.sb_laws.proofs.Calm.{IsCalm}
use Rattle.sb_laws.proofs.Carried.{IsOfAct, act_closes, act_drops, act_ends, act_enters, act_frees, act_notes, act_passes, act_waits}
use Rattle.sb_laws.proofs.Deeds.{Deed, IsJoint, IsSteady, deed, deletes, free_unheld, joins, joint_begins, joint_calm, joint_writes, settles, shuts, steadies, united_joint}
use Rattle.sb_laws.proofs.Eachs.{each_both, each_implied}
use Rattle.sb_laws.proofs.Freed.{AreNamed, FitsAnywhere, calm_fits, loose_all, none_exempt, shut_named, tick_named}
use Rattle.sb_laws.proofs.Loose.{IsHeldOr, LooseIn, loose_change, loose_later}
use Rattle.sb_laws.proofs.Moves.{by_number}
use Rattle.sb_laws.proofs.NothingDue.{ordered}
use Rattle.sb_laws.proofs.Ordering.{orderly_core, stays_orderly, ticks_orderly}
use Rattle.sb_laws.proofs.Orders.{consistent_is_orderly, orderly_is_sweepable}
use Rattle.sb_laws.proofs.Outcomes.{Comes, comes, comes_acted}
use Rattle.sb_laws.proofs.Running.{good_act}
use Rattle.sb_laws.proofs.Sameness.{numbers_equal}
use Rattle.sb_laws.proofs.Shapes.{Arrives, Shape, of_acts, of_adds, of_begins, of_holds, of_makes, of_opens, of_prolongs, of_queues, of_removes, of_renews, of_rule_drop, of_writes, plain_fields, shape}
use Rattle.sb_laws.proofs.Uniting.{Does, does_many, does_one}
use Rattle.sb_laws.specs.Orderly.{IsOrderly}
use Rattle.sb_laws.specs.Sweepable.{IsSweepable}
use Rattle.sb_machine.specs.Acts.{is_via_in}
use Rattle.sb_machine.specs.Administration.{going_with}
use Rattle.sb_machine.specs.Answers.{is_change, keeping, moment_of, state_in, state_of}
use Rattle.sb_machine.specs.Changes.{after_all}
use Rattle.sb_machine.specs.Consistent.{IsConsistent}
use Rattle.sb_machine.specs.Due.{is_due}
use Rattle.sb_machine.specs.Each.{Each}
use Rattle.sb_machine.specs.Fields.{bad_in_act}
use Rattle.sb_machine.specs.Fit.{IsCopy, IsEntity, IsHold}
use Rattle.sb_machine.specs.History.{IsAllowed, Log, after_entry, is_fault}
use Rattle.sb_machine.specs.Leaves.{copy_in}
use Rattle.sb_machine.specs.Names.{is_same_entity}
use Rattle.sb_machine.specs.Namespace.{key_of, leaf_of}
use Rattle.sb_machine.specs.Queueing.{deadline_with, txn_life}
use Rattle.sb_machine.specs.Repeats.{Outcome, acted, client_of, forgot, outcome_of, refused, repeated}
use Rattle.sb_machine.specs.declared.call.Act.{Act}
use Rattle.sb_machine.specs.declared.call.Call.{Call}
use Rattle.sb_machine.specs.declared.call.Part.{Part}
use Rattle.sb_machine.specs.declared.call.Part.TheVariants.{Dead, Main, Transfer}
use Rattle.sb_machine.specs.declared.change.Change.{Change}
use Rattle.sb_machine.specs.declared.change.Change.TheVariants.{AddsRule, Begins, DropsRule, InLeaf, Makes, Queues, Removes}
use Rattle.sb_machine.specs.declared.change.LeafChange.TheVariants.{Holds, Opens, Prolongs, Renews, Writes}
use Rattle.sb_machine.specs.declared.history.Entry.{Entry}
use Rattle.sb_machine.specs.declared.history.Entry.TheVariants.{Ticked, Answered as Replied}
use Rattle.sb_machine.specs.declared.reply.Reply.{Reply}
use Rattle.sb_machine.specs.declared.state.Entity.{Entity}
use Rattle.sb_machine.specs.declared.state.Space.{Space}
use Rattle.sb_machine.specs.declared.state.Standing.TheVariants.{Held}
use Rattle.sb_machine.specs.declared.state.State.{State}
use Rattle.sb_machine.specs.declared.state.StoredCopy.{StoredCopy}

-- ---- an accepted act

-- what closes no session
act_fits : (t : ℕ) (c : Change) → IsOfAct Arrives t c → IsSteady c → FitsAnywhere none_exempt t c
act_fits t _ (act_enters key seq hops m few p) steady s = λ e there. refl
act_fits t _ (act_waits key moment m later p) steady s = λ e there. refl
act_fits t _ (act_passes key cause) steady s = λ e there. tt
act_fits t _ (act_ends key n by_settlement cause) steady s = λ e there. tt
act_fits t _ (act_frees key n by_settlement count standing free few) steady s = λ e there. free_unheld standing free
act_fits t _ (act_closes key l) steady s = let bad : true ≡ false = sym (numbers_equal l) ∙ steady.quiet l 0 in absurd cc
act_fits t _ (act_notes n id) steady s = tt
act_fits t _ (act_drops n) steady s = tt

removes_named : (t : ℕ) (es : List Entity) (s : Space) → AreNamed t s → AreNamed t (after_all t (map (λ x. Removes x.about.number) es) s)
removes_named t es s h = loose_all none_exempt t (map (λ x. Removes x.about.number) es) s (all es) h where
  all : (es : List Entity) → Each (FitsAnywhere none_exempt t) (map (λ x. Removes x.about.number) es)
  all [] = tt
  all (e ∷ es) = ((λ now. tt), all es)

same_entity : (d e : Entity) → ◌≡◌ {A = Option Entity} (Some d) (Some e) → d ≡ e
same_entity d e same = cc

same_copy : (c d : StoredCopy) → ◌≡◌ {A = Option StoredCopy} (Some c) (Some d) → c ≡ d
same_copy c d same = cc

steady_named : (s : Space) (t : ℕ) (cs : List Change) → Shape s t cs → Each IsSteady cs → AreNamed t s → AreNamed t (after_all t cs s)
steady_named s t cs (of_acts acts) steady h = loose_all none_exempt t cs s (each_implied (λ c. IsOfAct Arrives t c × IsSteady c) (FitsAnywhere none_exempt t) (λ c both. act_fits t c both.0 both.1) cs (each_both (IsOfAct Arrives t) IsSteady cs acts steady)) h
steady_named s t _ (of_makes kind path d rules plain ruled new topic) steady h = loose_change none_exempt t (Makes kind path d rules) s tt h
steady_named s t _ (of_adds n rule e there fresh named has) steady h = loose_change none_exempt t (AddsRule n rule) s tt h
steady_named s t _ (of_rule_drop n name) steady h = loose_change none_exempt t (DropsRule n name) s tt h
steady_named s t _ (of_removes path e there) steady h = removes_named t (e ∷ going_with s e) s h
steady_named s t _ (of_holds key hold e c there found free fits) steady h = loose_change none_exempt t (InLeaf key (Holds c.number hold)) s
    (λ d found_d x found_x l deferred.
    let is_e : e ≡ d = same_entity e d (sym there ∙ found_d) in
    let found_c : copy_in c.number (leaf_of key.part d) ≡ Some c = subst (λ (y : Entity). copy_in c.number (leaf_of key.part y) ≡ Some c) is_e found in
    subst (λ (y : StoredCopy). IsHold t (leaf_of key.part d).sessions y (Held l hold deferred)) (same_copy c x (sym found_c ∙ found_x)) (subst (λ (y : Entity). IsHold t (leaf_of key.part y).sessions c (Held l hold deferred)) is_e (fits l deferred))) h
steady_named s t _ (of_renews key n until few) steady h = loose_change none_exempt t (InLeaf key (Renews n until)) s (λ e there. few) h
steady_named s t _ (of_opens key id until few) steady h = loose_change none_exempt t (InLeaf key (Opens id until)) s (λ e there. tt) h
steady_named s t _ (of_prolongs key l until few) steady h = loose_change none_exempt t (InLeaf key (Prolongs l until)) s (λ e there. tt) h
steady_named s t _ (of_writes key l bytes few) steady h = loose_change none_exempt t (InLeaf key (Writes l bytes)) s (λ e there. tt) h
steady_named s t _ (of_begins n e there few) steady h = loose_change none_exempt t (Begins n (t + txn_life)) s tt h
steady_named s t _ (of_queues x o there few fits) steady h = loose_change none_exempt t (Queues x.number (deadline_with t x) o) s tt h

joint_fits : (t : ℕ) (c : Change) → IsJoint c → FitsAnywhere none_exempt t c
joint_fits t _ (joint_begins n deadline) s = tt
joint_fits t _ (joint_writes key lock bytes) s = λ e there. tt
joint_fits t _ (joint_calm c is) s = calm_fits none_exempt t true c is s

joined_named : (s : Space) (t : ℕ) (cs : List Change) → Each IsJoint cs → AreNamed t s → AreNamed t (after_all t cs s)
joined_named s t cs joint h = loose_all none_exempt t cs s (each_implied IsJoint (FitsAnywhere none_exempt t) (joint_fits t) cs joint) h

acted_named : (s : Space) (t : ℕ) (act : Act) (reply : Reply) (cs : List Change) → IsSweepable s → Shape s t cs → Deed s t act reply cs → AreNamed t s → AreNamed t (after_all t cs s)
acted_named s t act reply cs may is (steadies steady) h = steady_named s t cs is steady h
acted_named s t act reply cs may is (settles calm) h = loose_all none_exempt t cs s (each_implied (IsCalm true) (FitsAnywhere none_exempt t) (λ c so. calm_fits none_exempt t true c so) cs calm) h
acted_named s t act reply cs may is (joins joint) h = joined_named s t cs joint h
acted_named s t act reply cs may is (shuts from token e same done there so) h =
    subst (λ (l : List Change). AreNamed t (after_all t l s)) (sym so) (shut_named t s may (λ x. is_same_entity x.about.path from) e from.part token.lock there (by_number s t (ordered s may) from e there) h)
acted_named s t act reply cs may is (deletes path e same done there so) h = subst (λ (l : List Change). AreNamed t (after_all t l s)) (sym so) (removes_named t (e ∷ going_with s e) s h)

-- ---- states of a legal history

pub record IsWell (s : State) : Type 0 where
  pub orderly : IsOrderly s
  pub named : AreNamed s.now s.space

does_named : (s : State) (t : ℕ) (act : Act) (reply : Reply) (cs : List Change) → IsWell s → bad_in_act (is_via_in s.space act) act ≡ None → Does s.space t act reply cs → AreNamed t s.space → AreNamed t (after_all t cs s.space)
does_named s t act reply cs well good (does_one way) h =
    acted_named s.space t act reply cs (orderly_is_sweepable s well.orderly) (shape s.space t (orderly_core s well.orderly) act reply cs (plain_fields s.space (is_via_in s.space act) act good) way) (deed s.space t act reply cs way) h
does_named s t _ reply cs well good (does_many {path = path} {steps = steps} u) h = joined_named s.space t cs (united_joint s.space t path steps reply cs u) h

pub called_named : (s : State) (t : ℕ) (call : Call) → s.now ≤ t → IsWell s → AreNamed (state_of s t call).now (state_of s t call).space
called_named s t call le well = by (outcome_of s t call) (comes s t call) where
  by : (o : Outcome) → Comes s t call o → AreNamed (state_in s t call o).now (state_in s t call o).space
  by (refused r) is = well.named
  by (repeated reply) is = well.named
  by (forgot name) is = loose_later none_exempt t s.now s.space le well.named
  by (acted reply cs) (comes_acted newer fits) = go (is_change (client_of call) (acted reply cs)) where
    changed_so : AreNamed t (after_all t cs s.space)
    changed_so = does_named s t call.act reply cs well (good_act s.space t call.by call.act reply cs fits) fits.does (loose_later none_exempt t s.now s.space le well.named)

    go : (b : Bool) → AreNamed (if b then record { now = t; clients = keeping (client_of call) call.act reply s.clients; space = after_all t cs s.space } else s).now (if b then record { now = t; clients = keeping (client_of call) call.act reply s.clients; space = after_all t cs s.space } else s).space
    go true = changed_so
    go false = well.named

pub well_after : (l : Log) (e : Entry) → IsAllowed l e → IsWell l.state → IsWell (after_entry l e).state
well_after l (Ticked seat t) allowed well = record {
  orderly = ticks_orderly l.state t well.orderly allowed.2.0 allowed.2.1 allowed.2.3;
  named = tick_named t l.state.space (orderly_is_sweepable l.state well.orderly) l.state.now allowed.2.0 well.named;
}
well_after l (Replied seat reading call answer) allowed well = at (is_fault answer) (is_due (moment_of l.state reading) l.state.space) where
  le : l.state.now ≤ moment_of l.state reading
  le = omega arith

  at : (f d : Bool) → IsWell (if f then l.state else (if d then l.state else state_of l.state (moment_of l.state reading) call))
  at true d = well
  at false true = well
  at false false = record { orderly = stays_orderly l.state (moment_of l.state reading) call well.orderly le (omega (arith, well.orderly.now)); named = called_named l.state (moment_of l.state reading) call le well }

pub starts_well : (s : State) → IsConsistent s → IsWell s
starts_well s h = record { orderly = consistent_is_orderly s h; named = each_implied (IsEntity s.now) (λ e. (part : Part) → LooseIn none_exempt s.now (key_of part e) (leaf_of part e)) by s.space.entities h.entities } where
  of_leaf : (part : Part) (e : Entity) → Each (IsCopy s.now (leaf_of part e).sessions) (leaf_of part e).copies → LooseIn none_exempt s.now (key_of part e) (leaf_of part e)
  of_leaf part e is = each_implied (IsCopy s.now (leaf_of part e).sessions) (IsHeldOr none_exempt s.now (key_of part e) (leaf_of part e).sessions) (λ c so. inl so.held) (leaf_of part e).copies is

  by : (e : Entity) → IsEntity s.now e → (part : Part) → LooseIn none_exempt s.now (key_of part e) (leaf_of part e)
  by e is Main = of_leaf Main e is.main.copies
  by e is Dead = of_leaf Dead e is.dead.copies
  by e is Transfer = of_leaf Transfer e is.transfer.copies
