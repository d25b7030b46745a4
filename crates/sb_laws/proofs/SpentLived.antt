-- Each lock that is settled lived.
use Rattle.std.proofs.Common.{Bool, List, [], arith, false, map, not, refl, subst, sym, true, ℕ, ◌&&◌, ◌∷◌, ◌≡◌, ◌≤◌}
use Rattle.std.specs.List.{flat_map}
use Rattle.std.specs.Prelude.{filter, if◌then◌else◌}
use Rattle.sb_laws.proofs.Calm.{IsCalm, tick_each}
use Rattle.sb_laws.proofs.Deeds.{Deed, IsJoint, IsSteady, IsUnspent, calm_unspent, closed_steady, deed_of, deletes, joins, sessions_each, settles, shuts, steadies}
use Rattle.sb_laws.proofs.Eachs.{each_implied}
use Rattle.sb_laws.proofs.Freed.{none_exempt}
use Rattle.sb_laws.proofs.Living.{along_under, falls_under, joint_falls, living, none_spent, under}
use Rattle.sb_laws.proofs.Loose.{loose_later}
use Rattle.sb_laws.proofs.Named.{IsWell, starts_well, well_after}
use Rattle.sb_laws.specs.Spent.{AllLived, entry_spends}
use Rattle.sb_machine.specs.Accounts.{moment_in}
use Rattle.sb_machine.specs.Administration.{going_with}
use Rattle.sb_machine.specs.Answers.{changes_of, moment_of}
use Rattle.sb_machine.specs.Changes.{along}
use Rattle.sb_machine.specs.Consistent.{IsConsistent}
use Rattle.sb_machine.specs.Delivery.{released}
use Rattle.sb_machine.specs.Due.{is_due, tick_changes}
use Rattle.sb_machine.specs.Each.{Each}
use Rattle.sb_machine.specs.Ends.{spends_in}
use Rattle.sb_machine.specs.History.{IsLegal, IsLegalFrom, Log, after_entry, fresh_log, is_fault}
use Rattle.sb_machine.specs.Leases.{is_under_session, lives}
use Rattle.sb_machine.specs.Namespace.{leaf_of, listed}
use Rattle.sb_machine.specs.Repeats.{Outcome, acted, forgot, outcome_of, refused, repeated}
use Rattle.sb_machine.specs.declared.call.Act.{Act}
use Rattle.sb_machine.specs.declared.change.Change.{Change}
use Rattle.sb_machine.specs.declared.change.Change.TheVariants.{Removes}
use Rattle.sb_machine.specs.declared.history.Entry.{Entry}
use Rattle.sb_machine.specs.declared.history.Entry.TheVariants.{Ticked, Answered as Replied}
use Rattle.sb_machine.specs.declared.reply.Reply.{Reply}
use Rattle.sb_machine.specs.declared.state.Entity.{Entity}
use Rattle.sb_machine.specs.declared.state.Space.{Space}
use Rattle.sb_machine.specs.declared.state.State.{State}

abbrev AreLiving : ℕ → Space → List ℕ → Type 0
AreLiving t s locks = Each (λ lock. lives t lock s ≡ true) locks

unspent_lives : (t : ℕ) (s : Space) (cs : List Change) → Each IsUnspent cs → AreLiving t s (along spends_in t cs s)
unspent_lives t s cs h = subst (AreLiving t s) (sym (none_spent t cs s h)) tt

removes_unspent : (es : List Entity) → Each IsUnspent (map (λ x. Removes x.about.number) es)
removes_unspent [] = tt
removes_unspent (e ∷ es) = (tt, removes_unspent es)

-- what was held where nothing is due lives
held_lives : (s : State) (t : ℕ) (cs : List Change) → s.now ≤ t → is_due t s.space ≡ false → IsWell s → Each (λ k. under k s.space ≡ true) (along spends_in t cs s.space) → AreLiving t s.space (along spends_in t cs s.space)
held_lives s t cs le quiet well held = each_implied (λ k. under k s.space ≡ true) (λ lock. lives t lock s.space ≡ true) (living t s.space quiet (loose_later none_exempt t s.now s.space le well.named)) (along spends_in t cs s.space) held

deed_lives : (s : State) (t : ℕ) (act : Act) (reply : Reply) (cs : List Change) → s.now ≤ t → is_due t s.space ≡ false → IsWell s → Deed s.space t act reply cs → AreLiving t s.space (along spends_in t cs s.space)
deed_lives s t act reply cs le quiet well (steadies h) = unspent_lives t s.space cs (each_implied IsSteady IsUnspent (λ c so. so.unspent) cs h)
deed_lives s t act reply cs le quiet well (settles calm) = held_lives s t cs le quiet well (along_under (IsCalm true) t (λ k c now is held. falls_under k t true c now is held) s.space cs s.space (λ k held. held) calm)
deed_lives s t act reply cs le quiet well (joins joint) = held_lives s t cs le quiet well (along_under IsJoint t (λ k c now is held. joint_falls k t c now is held) s.space cs s.space (λ k held. held) joint)
deed_lives s t act reply cs le quiet well (shuts from token e same done there is) = unspent_lives t s.space cs (subst (Each IsUnspent) (sym is) (
  tt,
  each_implied IsSteady IsUnspent (λ c so. so.unspent)
      (flat_map (λ c. released (listed s.space) t e from.part c false false) (filter (λ c. is_under_session token.lock c.standing) (leaf_of from.part e).copies)) (closed_steady s.space t e from.part token.lock),
))
deed_lives s t act reply cs le quiet well (deletes path e same done there is) = unspent_lives t s.space cs (subst (Each IsUnspent) (sym is) (removes_unspent (e ∷ going_with s.space e)))

entry_lives : (l : Log) (e : Entry) → IsWell l.state → Each (λ lock. lives (moment_in l e) lock l.state.space ≡ true) (entry_spends l e)
entry_lives l (Ticked seat t) well = unspent_lives t l.state.space (tick_changes t l.state.space) (tick_each IsUnspent t l.state.space calm_unspent (sessions_each IsUnspent t l.state.space (λ key m. tt)))
entry_lives l (Replied seat reading call answer) well = at (is_fault answer) (is_due (moment_of l.state reading) l.state.space) refl where
  t : ℕ
  t = moment_of l.state reading

  on : is_due (moment_of l.state reading) l.state.space ≡ false → (o : Outcome) → outcome_of l.state (moment_of l.state reading) call ≡ o → AreLiving (moment_of l.state reading) l.state.space (along spends_in (moment_of l.state reading) (changes_of o) l.state.space)
  on quiet (refused r) is = tt
  on quiet (repeated reply) is = tt
  on quiet (forgot name) is = tt
  on quiet (acted reply cs) is = deed_lives l.state (moment_of l.state reading) call.act reply cs (omega arith) quiet well (deed_of l.state (moment_of l.state reading) call reply cs is)

  at : (f d : Bool) → is_due (moment_of l.state reading) l.state.space ≡ d → AreLiving (moment_of l.state reading) l.state.space (along spends_in (moment_of l.state reading) (if not f && not d then changes_of (outcome_of l.state (moment_of l.state reading) call) else []) l.state.space)
  at true d is = tt
  at false true is = tt
  at false false quiet = on quiet (outcome_of l.state (moment_of l.state reading) call) refl

all_lived : (l : Log) (h : List Entry) → IsLegalFrom l h → IsWell l.state → AllLived l h
all_lived l [] legal well = tt
all_lived l (e ∷ es) legal well = (entry_lives l e well, all_lived (after_entry l e) es legal.1 (well_after l e legal.0 well))

pub spent_lived : (s : State) (h : List Entry) → IsConsistent s → IsLegal s h → AllLived (fresh_log s) h
spent_lived s h consistent legal = all_lived (fresh_log s) h legal (starts_well s consistent)
