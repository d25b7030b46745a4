-- Until its lock has ended, a session is accepted by nobody else.
use Rattle.std.proofs.Common.{Bool, List, None, Ok, Option, Result, Some, [], ap, false, filter, inl, inr, map, not, refl, subst, sym, true, ℕ, ◌&&◌, ◌+◌, ◌==◌, ◌∙◌, ◌∷◌, ◌≡◌}
use Rattle.std.specs.List.{flat_map, list_any}
use Rattle.std.specs.Prelude.{find, if◌then◌else◌, ◌⊎◌}
use Rattle.sb_laws.proofs.Along.{space_after}
use Rattle.sb_laws.proofs.Answered.{machine_answer}
use Rattle.sb_laws.proofs.Calm.{IsCalm}
use Rattle.sb_laws.proofs.Carrying.{kept_by_all}
use Rattle.sb_laws.proofs.Consistency.{consistent_is_sweepable}
use Rattle.sb_laws.proofs.Deeds.{Deed, IsJoint, IsQuiet, IsSteady, calm_quiet, closed_steady, deed_of, deletes, joins, joint_quiet, settles, shuts, steadies}
use Rattle.sb_laws.proofs.Eachs.{each_implied, is_equal}
use Rattle.sb_laws.proofs.Entities.{IsOrdered, about_with_leaf}
use Rattle.sb_laws.proofs.FoundOn.{found_on, put_in}
use Rattle.sb_laws.proofs.Handed.{ordered_after}
use Rattle.sb_laws.proofs.Holding.{HeldBy, HeldIn, held_after}
use Rattle.sb_laws.proofs.Lists.{found_changed, found_passes}
use Rattle.sb_laws.proofs.Moves.{by_number}
use Rattle.sb_laws.proofs.NothingDue.{ordered}
use Rattle.sb_laws.proofs.Opening.{IsOpened, none_of, nothing_out, opened_so, still_runs, tick_quiet}
use Rattle.sb_laws.proofs.Placed.{found_placed}
use Rattle.sb_laws.proofs.Sameness.{bytes_same, numbers_equal}
use Rattle.sb_laws.proofs.Swept.{leaf_of_own}
use Rattle.sb_laws.specs.Holders.{Accepts, AcceptsBy, AreHeldAlone, Frees, HeldAlone, SessionKey, by_close, by_delete, by_time, has_run_out}
use Rattle.sb_machine.specs.Accounts.{entry_changes, is_machine, moment_in}
use Rattle.sb_machine.specs.Administration.{going_with}
use Rattle.sb_machine.specs.Answers.{answer_in, changes_of, moment_of}
use Rattle.sb_machine.specs.Changes.{after, after_all}
use Rattle.sb_machine.specs.Consistent.{IsConsistent}
use Rattle.sb_machine.specs.Delivery.{released}
use Rattle.sb_machine.specs.Due.{closes_due, is_due}
use Rattle.sb_machine.specs.Each.{Each}
use Rattle.sb_machine.specs.History.{IsAllowed, IsLegal, IsLegalFrom, Log, after_entry, fresh_log, is_fault}
use Rattle.sb_machine.specs.Leases.{is_under_session}
use Rattle.sb_machine.specs.Keyed.{changed, with_sorted}
use Rattle.sb_machine.specs.Leaves.{has_id, holder_new, leaf_after, session_in, taken}
use Rattle.sb_machine.specs.Names.{is_before, is_same_entity}
use Rattle.sb_machine.specs.Namespace.{entity_of, is_entity, key_of, leaf_of, listed, with_leaf}
use Rattle.sb_machine.specs.Repeats.{Outcome, acted, forgot, outcome_of, refused, repeated}
use Rattle.sb_machine.specs.Sessions.{held_until, holder_in}
use Rattle.sb_machine.specs.declared.call.Act.{Act}
use Rattle.sb_machine.specs.declared.call.Call.{Call}
use Rattle.sb_machine.specs.declared.call.Part.{Part}
use Rattle.sb_machine.specs.declared.change.Change.{Change}
use Rattle.sb_machine.specs.declared.change.Change.TheVariants.{InLeaf, Removes}
use Rattle.sb_machine.specs.declared.change.LeafChange.TheVariants.{Opens}
use Rattle.sb_machine.specs.declared.change.LeafKey.{LeafKey}
use Rattle.sb_machine.specs.declared.history.Entry.{Entry}
use Rattle.sb_machine.specs.declared.history.Entry.TheVariants.{Ticked, Answered as Replied}
use Rattle.sb_machine.specs.declared.reply.Answered.{Answered}
use Rattle.sb_machine.specs.declared.reply.Answered.TheVariants.{New}
use Rattle.sb_machine.specs.declared.reply.Refusal.{Refusal}
use Rattle.sb_machine.specs.declared.reply.Reply.{Reply}
use Rattle.sb_machine.specs.declared.reply.Reply.TheVariants.{Done}
use Rattle.sb_machine.specs.declared.state.Entity.{Entity}
use Rattle.sb_machine.specs.declared.state.Holder.{Holder}
use Rattle.sb_machine.specs.declared.state.Leaf.{Leaf}
use Rattle.sb_machine.specs.declared.state.Listed.{Listed}
use Rattle.sb_machine.specs.declared.state.Session.{Session}
use Rattle.sb_machine.specs.declared.state.Space.{Space}
use Rattle.sb_machine.specs.declared.state.State.{State}

-- ---- where nothing is due, a session that may be accepted has no holder

abbrev holder_at : Option Session → Option Holder
holder_at o = elim o [ Some x ↦ x.holder | None ↦ None ]

free_holder : (t : ℕ) (s : Space) (part : Part) (q : Entity → Bool) (e : Entity) (id : List ℕ) → is_due t s ≡ false → find q s.entities ≡ Some e → held_until t (holder_in id (leaf_of part e)) ≡ None → holder_in id (leaf_of part e) ≡ None
free_holder t s part q e id quiet found free = at (session_in id (leaf_of part e)) refl where
  at : (o : Option Session) → session_in id (leaf_of part e) ≡ o → holder_in id (leaf_of part e) ≡ None
  at None none = ap holder_at none
  at (Some x) there = ap holder_at there ∙ on x.holder refl where
    on : (o : Option Holder) → x.holder ≡ o → o ≡ None
    on None is = refl
    on (Some h) is = absurd (still_runs t e part h (subst (λ (o : Option Holder). closes_due t e part o ≡ []) is (nothing_out t s part q e (has_id id) x quiet found there)) (subst (λ (o : Option Holder). held_until t o ≡ None) (ap holder_at there ∙ is) free))

-- ---- a session that is opened is held

opened_in : (lock t : ℕ) (id : List ℕ) (until : ℕ) (leaf : Leaf) → holder_in id leaf ≡ None → HeldIn lock id (leaf_after lock t (Opens id until) leaf).sessions
opened_in lock t id until leaf free = at (session_in id leaf) refl where
  under_new : (o : Option Holder) → o ≡ None → ◌≡◌ {A = Bool} (elim (elim o as (λ _. Option Holder) [ Some h ↦ Some h | None ↦ Some (holder_new lock until) ]) [ Some h ↦ h.lock == lock | None ↦ false ]) true
  under_new None is = numbers_equal lock
  under_new (Some h) is = absurd cc

  at : (o : Option Session) → session_in id leaf ≡ o
      → HeldIn lock id (elim o as (λ _. List Session) [ Some x ↦ changed (has_id id) (λ y. taken lock until y ∷ []) leaf.sessions | None ↦ with_sorted (λ y. is_before y.id id) (record { id = id; state = None; holder = Some (holder_new lock until) }) leaf.sessions ])
  at None none = record {
    session = record { id = id; state = None; holder = Some (holder_new lock until) };
    found = found_placed (has_id id) (λ y. is_before y.id id) (record { id = id; state = None; holder = Some (holder_new lock until) }) leaf.sessions none (bytes_same id);
    under = numbers_equal lock;
  }
  at (Some x) there = record {
    session = taken lock until x;
    found = found_changed (has_id id) (λ y. taken lock until y ∷ []) x (taken lock until x) leaf.sessions there refl (found_passes (has_id id) x leaf.sessions there);
    under = under_new x.holder (sym (ap holder_at there) ∙ free);
  }

opened_by : (t : ℕ) (s : Space) (e : Entity) (part : Part) (id : List ℕ) (until : ℕ) → entity_of e.about.number s ≡ Some e → holder_in id (leaf_of part e) ≡ None → HeldBy (record { leaf = key_of part e; id = id }) (s.last_lock + 1) (after t (InLeaf (key_of part e) (Opens id until)) s)
opened_by t s e part id until there free = record { entity = g e; there = found; held = subst (λ (leaf : Leaf). HeldIn (s.last_lock + 1) id leaf.sessions) (sym (leaf_of_own part (leaf_after (s.last_lock + 1) t (Opens id until) (leaf_of part e)) e)) (opened_in (s.last_lock + 1) t id until (leaf_of part e) free) } where
  g : Entity → Entity
  g d = with_leaf part (leaf_after (s.last_lock + 1) t (Opens id until) (leaf_of part d)) d

  found : entity_of e.about.number (after t (InLeaf (key_of part e) (Opens id until)) s) ≡ Some (g e)
  found = found_on e.about.number e.about.number (λ d. with_leaf part (leaf_after (s.last_lock + 1) t (Opens id until) (leaf_of part d)) d) s.entities (λ d. ap (λ (about : Listed). about.number) (about_with_leaf part (leaf_after (s.last_lock + 1) t (Opens id until) (leaf_of part d)) d))
      ∙ ap (put_in (e.about.number == e.about.number) (λ d. with_leaf part (leaf_after (s.last_lock + 1) t (Opens id until) (leaf_of part d)) d)) there
      ∙ ap (λ (b : Bool). put_in b (λ d. with_leaf part (leaf_after (s.last_lock + 1) t (Opens id until) (leaf_of part d)) d) (Some e)) (numbers_equal e.about.number)

module _ (key : SessionKey) where
  -- ---- what an accepting entry leaves, and what stands against it

  becomes_held : (lock : ℕ) (l : Log) (seat reading : ℕ) (call : Call) (answer : Result Answered Refusal) → IsAllowed l (Replied seat reading call answer) → IsOrdered l.state.space → AcceptsBy key lock l.state.space call answer → HeldBy key lock (after_entry l (Replied seat reading call answer)).state.space
  becomes_held lock l seat reading call answer allowed o a = subst (HeldBy key lock) (sym leads) (subst (λ (k : ℕ). HeldBy key k behind) (sym is.opening.under ∙ is.under) held) where
    t : ℕ
    t = moment_of l.state reading

    is : IsOpened key lock l reading call
    is = opened_so key lock l seat reading call answer allowed a

    fine : is_fault answer ≡ false
    fine = rw a.said refl

    behind : Space
    behind = after (moment_of l.state reading) (InLeaf (key_of is.from.part is.opening.entity) (Opens key.id is.until)) l.state.space

    machine : is_machine l reading answer ≡ true
    machine = ap (λ (f : Bool). not f && not (is_due (moment_of l.state reading) l.state.space)) fine ∙ ap not is.quiet

    changes : entry_changes l (Replied seat reading call answer) ≡ InLeaf (key_of is.from.part is.opening.entity) (Opens key.id is.until) ∷ []
    changes = ap (λ (b : Bool). if b then changes_of (outcome_of l.state (moment_of l.state reading) call) else []) machine ∙ ap changes_of is.acted_so ∙ is.opening.changes

    leads : (after_entry l (Replied seat reading call answer)).state.space ≡ behind
    leads = space_after l (Replied seat reading call answer) ∙ ap (λ cs. after_all (moment_of l.state reading) cs l.state.space) changes

    held : HeldBy key (l.state.space.last_lock + 1) behind
    held = subst (λ (leaf : LeafKey). HeldBy (record { leaf = leaf; id = key.id }) (l.state.space.last_lock + 1) behind) is.part
        (opened_by (moment_of l.state reading) l.state.space is.opening.entity is.from.part key.id is.until (by_number l.state.space (moment_of l.state reading) o is.from is.opening.entity is.opening.there)
        (free_holder (moment_of l.state reading) l.state.space is.from.part (λ x. is_same_entity x.about.path is.from) is.opening.entity key.id is.quiet is.opening.there is.opening.free))

  not_accepted : (k other : ℕ) (l : Log) (seat reading : ℕ) (call : Call) (answer : Result Answered Refusal) → IsAllowed l (Replied seat reading call answer) → IsOrdered l.state.space → HeldBy key k l.state.space → AcceptsBy key other l.state.space call answer → ⊥
  not_accepted k other l seat reading call answer allowed o h a =
      let is = opened_so key other l seat reading call answer allowed a in
      let t = moment_of l.state reading in
      let there : entity_of is.opening.entity.about.number l.state.space ≡ Some is.opening.entity = by_number l.state.space t o is.from is.opening.entity is.opening.there in
      let same : h.entity ≡ is.opening.entity = one_entity h.entity is.opening.entity (sym h.there ∙ subst (λ (n : LeafKey). entity_of n.entity l.state.space ≡ Some is.opening.entity) is.part there) in
      let free : holder_in key.id (leaf_of is.from.part is.opening.entity) ≡ None = free_holder t l.state.space is.from.part (λ x. is_same_entity x.about.path is.from) is.opening.entity key.id is.quiet is.opening.there is.opening.free in
      let free_there : holder_in key.id (leaf_of key.leaf.part h.entity) ≡ None = subst (λ (d : Entity). holder_in key.id (leaf_of key.leaf.part d) ≡ None) (sym same) (subst (λ (n : LeafKey). holder_in key.id (leaf_of n.part is.opening.entity) ≡ None) is.part free) in
      clash h.held.session.holder (sym (ap holder_at h.held.found) ∙ free_there) h.held.under
    where
      one_entity : (d e : Entity) → ◌≡◌ {A = Option Entity} (Some d) (Some e) → d ≡ e
      one_entity d e same = cc

      clash : (x : Option Holder) → x ≡ None → ◌≡◌ {A = Bool} (elim x [ Some y ↦ y.lock == k | None ↦ false ]) true → ⊥
      clash None is under = absurd cc
      clash (Some y) is under = absurd cc

  -- ---- each entry: the lock ends, or the session is held still

  module _ (k : ℕ) where
    removes_quiet : (es : List Entity) → list_any (is_entity key.leaf.entity) es ≡ false → Each (IsQuiet k key.leaf.entity) (map (λ x. Removes x.about.number) es)
    removes_quiet [] off = tt
    removes_quiet (e ∷ es) off = let parts = none_of (is_entity key.leaf.entity) e es off in (parts.0, removes_quiet es parts.1)

    module _ (l : Log) (seat reading : ℕ) (call : Call) (answer : Result Answered Refusal) where
      abbrev EndsOrQuiet : List Change → Type 0
      EndsOrQuiet cs = Frees key k l.state.space (Replied seat reading call answer) ⊎ Each (IsQuiet k key.leaf.entity) cs

      deed_ends : (reply : Reply) (cs : List Change) → answer ≡ Ok (New reply) → Deed l.state.space (moment_of l.state reading) call.act reply cs → EndsOrQuiet cs
      deed_ends reply cs said (steadies h) = inr (each_implied IsSteady (IsQuiet k key.leaf.entity) (λ c so. so.quiet k key.leaf.entity) cs h)
      deed_ends reply cs said (settles h) = inr (each_implied (IsCalm true) (IsQuiet k key.leaf.entity) (λ c so. calm_quiet true c k key.leaf.entity so) cs h)
      deed_ends reply cs said (joins h) = inr (each_implied IsJoint (IsQuiet k key.leaf.entity) (λ c so. joint_quiet c k key.leaf.entity so) cs h)
      deed_ends reply cs said (shuts from token e same done there is) = at (token.lock == k) refl where
        at : (b : Bool) → (token.lock == k) ≡ b → EndsOrQuiet cs
        at true own = inl (subst (λ (a : Result Answered Refusal). Frees key k l.state.space (Replied seat reading call a)) (sym (said ∙ ap (λ (r : Reply). Ok (New r)) done))
            (subst (λ (a : Act). Frees key k l.state.space (Replied seat reading (record { by = call.by; act = a }) (Ok (New Done)))) (sym same) (by_close (is_equal token.lock k own))))
        at false other = inr (subst (Each (IsQuiet k key.leaf.entity)) (sym is) (
          other,
          each_implied IsSteady (IsQuiet k key.leaf.entity) (λ c so. so.quiet k key.leaf.entity)
              (flat_map (λ c. released (listed l.state.space) (moment_of l.state reading) e from.part c false false) (filter (λ c. is_under_session token.lock c.standing) (leaf_of from.part e).copies)) (closed_steady l.state.space (moment_of l.state reading) e from.part token.lock),
        ))
      deed_ends reply cs said (deletes path e same done there is) = at (list_any (is_entity key.leaf.entity) (e ∷ going_with l.state.space e)) refl where
        at : (b : Bool) → list_any (is_entity key.leaf.entity) (e ∷ going_with l.state.space e) ≡ b → EndsOrQuiet cs
        at true own = inl (subst (λ (a : Result Answered Refusal). Frees key k l.state.space (Replied seat reading call a)) (sym (said ∙ ap (λ (r : Reply). Ok (New r)) done))
            (subst (λ (a : Act). Frees key k l.state.space (Replied seat reading (record { by = call.by; act = a }) (Ok (New Done)))) (sym same) (by_delete e there own)))
        at false other = inr (subst (Each (IsQuiet k key.leaf.entity)) (sym is) (removes_quiet (e ∷ going_with l.state.space e) other))

      replied_ends : IsAllowed l (Replied seat reading call answer) → EndsOrQuiet (entry_changes l (Replied seat reading call answer))
      replied_ends allowed = at (is_fault answer) refl (is_due (moment_of l.state reading) l.state.space) refl where
        on : answer ≡ answer_in (outcome_of l.state (moment_of l.state reading) call) → (o : Outcome) → outcome_of l.state (moment_of l.state reading) call ≡ o → EndsOrQuiet (changes_of o)
        on said (refused r) is = inr tt
        on said (repeated reply) is = inr tt
        on said (forgot name) is = inr tt
        on said (acted reply cs) is = deed_ends reply cs (said ∙ ap answer_in is) (deed_of l.state (moment_of l.state reading) call reply cs is)

        at : (f : Bool) → is_fault answer ≡ f → (d : Bool) → is_due (moment_of l.state reading) l.state.space ≡ d → EndsOrQuiet (if not f && not d then changes_of (outcome_of l.state (moment_of l.state reading) call) else [])
        at true fault d due = inr tt
        at false fine true due = inr tt
        at false fine false quiet = on (machine_answer l seat reading call answer allowed fine quiet) (outcome_of l.state (moment_of l.state reading) call) refl

    entry_ends : (l : Log) (e : Entry) → IsAllowed l e → Frees key k l.state.space e ⊎ Each (IsQuiet k key.leaf.entity) (entry_changes l e)
    entry_ends l (Ticked seat t) allowed = at (has_run_out t k l.state.space) refl where
      at : (b : Bool) → has_run_out t k l.state.space ≡ b → Frees key k l.state.space (Ticked seat t) ⊎ Each (IsQuiet k key.leaf.entity) (entry_changes l (Ticked seat t))
      at true out = inl (by_time out)
      at false off = inr (tick_quiet k key.leaf.entity t l.state.space off)
    entry_ends l (Replied seat reading call answer) allowed = replied_ends l seat reading call answer allowed

    still_held : (l : Log) (e : Entry) → Each (IsQuiet k key.leaf.entity) (entry_changes l e) → HeldBy key k l.state.space → HeldBy key k (after_entry l e).state.space
    still_held l e quiet h = subst (HeldBy key k) (sym (space_after l e)) (kept_by_all (IsQuiet k key.leaf.entity) (HeldBy key k) (moment_in l e) (λ c s so held. held_after key k (moment_in l e) c s so held) (entry_changes l e) l.state.space quiet h)

    none_accepts : (l : Log) (e : Entry) → IsAllowed l e → IsOrdered l.state.space → HeldBy key k l.state.space → (other : ℕ) → Accepts key other l.state.space e → ⊥
    none_accepts l (Ticked seat t) allowed o h other a = a
    none_accepts l (Replied seat reading call answer) allowed o h other a = not_accepted k other l seat reading call answer allowed o h a

    held_alone : (l : Log) (h : List Entry) → IsLegalFrom l h → IsOrdered l.state.space → HeldBy key k l.state.space → HeldAlone key k l h
    held_alone l [] legal o held = tt
    held_alone l (e ∷ es) legal o held = at (entry_ends l e legal.0) (λ now. held_alone (after_entry l e) es legal.1 (ordered_after l e o) now) where
      at : Frees key k l.state.space e ⊎ Each (IsQuiet k key.leaf.entity) (entry_changes l e) → (HeldBy key k (after_entry l e).state.space → HeldAlone key k (after_entry l e) es)
          → Frees key k l.state.space e ⊎ (((other : ℕ) → Accepts key other l.state.space e → ⊥) × HeldAlone key k (after_entry l e) es)
      at (inl frees) later = inl frees
      at (inr quiet) later = inr (none_accepts l e legal.0 o held, later (still_held l e quiet held))

accepted_held : (key : SessionKey) (lock : ℕ) (l : Log) (e : Entry) → IsAllowed l e → IsOrdered l.state.space → Accepts key lock l.state.space e → HeldBy key lock (after_entry l e).state.space
accepted_held key lock l (Ticked seat t) allowed o a = absurd a
accepted_held key lock l (Replied seat reading call answer) allowed o a = becomes_held key lock l seat reading call answer allowed o a

all_alone : (l : Log) (h : List Entry) → IsLegalFrom l h → IsOrdered l.state.space → AreHeldAlone l h
all_alone l [] legal o = tt
all_alone l (e ∷ es) legal o = (
  λ key lock a. held_alone key lock (after_entry l e) es legal.1 (ordered_after l e o) (accepted_held key lock l e legal.0 o a),
  all_alone (after_entry l e) es legal.1 (ordered_after l e o),
)

pub one_holder : (s : State) (h : List Entry) → IsConsistent s → IsLegal s h → AreHeldAlone (fresh_log s) h
one_holder s h consistent legal = all_alone (fresh_log s) h legal (ordered s.space (consistent_is_sweepable s consistent))
