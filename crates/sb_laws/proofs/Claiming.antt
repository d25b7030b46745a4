-- Locks of queued settlements stay apart, through every change of an accepted act and of a tick.
use Rattle.std.proofs.Common.{arith, refl, subst, sym, ℕ, ◌++◌, ◌+◌, ◌<◌, ◌==◌, ◌∙◌, ◌≡◌, ◌≢◌, ◌≤◌}
use Rattle.std.proofs.lemmas.List.Sums.{sum_by-append}
use Rattle.std.specs.List.{flat_map}
use Rattle.sb_laws.proofs.Carried.{IsOfAct, act_closes, act_drops, act_ends, act_enters, act_frees, act_notes, act_passes, act_waits}
use Rattle.sb_laws.proofs.Eachs.{each_implied}
use Rattle.sb_laws.proofs.Keeping.{counts_of_pairs, each_counted, flat_sum, no_more, pairs_of_counts, same_sums, sessions_times, times_in}
use Rattle.sb_laws.proofs.Locking.{IsLocked, one}
use Rattle.sb_laws.proofs.Points.{StepKeeps}
use Rattle.sb_laws.proofs.Queuing.{IsClaimed, at_or_above, claimed_plainly, holders_in, opened_in, opens_claimed, queued_in, queues_claimed, times_holding, times_queued, txn_times}
use Rattle.sb_laws.proofs.Shapes.{Arrives}
use Rattle.sb_machine.specs.Consistent.{holder_lock, holder_locks, queued_lock, queued_locks}
use Rattle.sb_machine.specs.Each.{Each, Pairs}
use Rattle.sb_machine.specs.Queueing.{deadline_with, txn_life}
use Rattle.sb_machine.specs.declared.change.Change.{Change}
use Rattle.sb_machine.specs.declared.change.Change.TheVariants.{AddsRule, Begins, DropsRule, InLeaf, Makes, Removes}
use Rattle.sb_machine.specs.declared.change.LeafChange.TheVariants.{Holds, Prolongs, Renews, Writes}
use Rattle.sb_machine.specs.declared.state.Space.{Space}

act_opens : (t : ℕ) (c : Change) (s : Space) (k : ℕ) → IsOfAct Arrives t c → opened_in k c s ≡ 0
act_opens t _ s k (act_enters key seq hops m few p) = refl
act_opens t _ s k (act_waits key moment m later p) = refl
act_opens t _ s k (act_passes key cause) = refl
act_opens t _ s k (act_ends key n by_settlement cause) = refl
act_opens t _ s k (act_frees key n by_settlement count standing free few) = refl
act_opens t _ s k (act_closes key l) = refl
act_opens t _ s k (act_notes n id) = refl
act_opens t _ s k (act_drops n) = refl

act_queues_none : (t : ℕ) (c : Change) (k : ℕ) → IsOfAct Arrives t c → queued_in k c ≡ 0
act_queues_none t _ k (act_enters key seq hops m few p) = refl
act_queues_none t _ k (act_waits key moment m later p) = refl
act_queues_none t _ k (act_passes key cause) = refl
act_queues_none t _ k (act_ends key n by_settlement cause) = refl
act_queues_none t _ k (act_frees key n by_settlement count standing free few) = refl
act_queues_none t _ k (act_closes key l) = refl
act_queues_none t _ k (act_notes n id) = refl
act_queues_none t _ k (act_drops n) = refl

pub claimed_steps : (t : ℕ) (s : Space) → IsLocked s → StepKeeps IsClaimed t s
claimed_steps t s locked = record {
  acts = λ c now is h. claimed_plainly t c now (λ k. act_opens t c now k is) (λ k. act_queues_none t c k is) h;
  makes = λ kind path d rules plain ruled new h. claimed_plainly t (Makes kind path d rules) s (λ k. refl) (λ k. refl) h;
  adds = λ n rule e on fresh named has h. claimed_plainly t (AddsRule n rule) s (λ k. refl) (λ k. refl) h;
  rule_drop = λ n name h. claimed_plainly t (DropsRule n name) s (λ k. refl) (λ k. refl) h;
  removes = λ n now h. claimed_plainly t (Removes n) now (λ k. refl) (λ k. refl) h;
  holds = λ key n hold h. claimed_plainly t (InLeaf key (Holds n hold)) s (λ k. refl) (λ k. refl) h;
  renews = λ key n until h. claimed_plainly t (InLeaf key (Renews n until)) s (λ k. refl) (λ k. refl) h;
  opens = λ key id until few h. opens_claimed t key id until s locked h;
  prolongs = λ key l until few h. claimed_plainly t (InLeaf key (Prolongs l until)) s (λ k. refl) (λ k. refl) h;
  writes = λ key l bytes few h. claimed_plainly t (InLeaf key (Writes l bytes)) s (λ k. refl) (λ k. refl) h;
  begins = λ n e there few h. claimed_plainly t (Begins n (t + txn_life)) s (λ k. refl) (λ k. refl) h;
  queues = λ x o there few fits h. queues_claimed t x.number (deadline_with t x) o s fits h;
}

-- ---- as lists of locks

queued_times : (k : ℕ) (s : Space) → times_in k (queued_locks s) ≡ times_queued k s
queued_times k s = flat_sum (λ l. one (l == k)) (λ x. flat_map queued_lock x.operations) s.transactions ∙ same_sums (λ x. times_in k (flat_map queued_lock x.operations)) (txn_times k) s.transactions (λ x. flat_sum (λ l. one (l == k)) queued_lock x.operations)

holding_times : (k : ℕ) (s : Space) → times_in k (holder_locks s) ≡ times_holding k s
holding_times k s = flat_sum (λ l. one (l == k)) (λ e. flat_map holder_lock e.main.sessions ++ flat_map holder_lock e.dead.sessions ++ flat_map holder_lock e.transfer.sessions) s.entities
    ∙ same_sums (λ e. times_in k (flat_map holder_lock e.main.sessions ++ flat_map holder_lock e.dead.sessions ++ flat_map holder_lock e.transfer.sessions)) (holders_in k) s.entities
    (λ e. omega (
      arith,
      sum_by-append (λ l. one (l == k)) (flat_map holder_lock e.main.sessions ++ flat_map holder_lock e.dead.sessions) (flat_map holder_lock e.transfer.sessions),
      sum_by-append (λ l. one (l == k)) (flat_map holder_lock e.main.sessions) (flat_map holder_lock e.dead.sessions),
      sessions_times k e.main.sessions,
      sessions_times k e.dead.sessions,
      sessions_times k e.transfer.sessions,
    ))

both_times : (k : ℕ) (s : Space) → times_in k (queued_locks s ++ holder_locks s) ≡ times_queued k s + times_holding k s
both_times k s = omega (arith, sum_by-append (λ l. one (l == k)) (queued_locks s) (holder_locks s), queued_times k s, holding_times k s)

pub claimed_apart : (s : Space) → IsClaimed s → Pairs (λ l m. l ≢ m) (queued_locks s ++ holder_locks s)
claimed_apart s h = pairs_of_counts (queued_locks s ++ holder_locks s) (λ k. omega (arith, both_times k s, h.most k))

pub claimed_few : (s : Space) → IsClaimed s → Each (λ l. (0 < l) × (l ≤ s.last_lock)) (queued_locks s)
claimed_few s h = each_implied (λ l. 1 ≤ times_in l (queued_locks s)) (λ l. (0 < l) × (l ≤ s.last_lock))
    (λ l le. at_or_above l s.last_lock (times_in l (queued_locks s)) le (λ over. queued_times l s ∙ h.fresh l over) (λ is. subst (λ (k : ℕ). times_in k (queued_locks s) ≡ 0) (sym is) (queued_times 0 s ∙ h.none))) (queued_locks s) (each_counted (queued_locks s))

pub claimed_of : (s : Space) → Pairs (λ l m. l ≢ m) (queued_locks s ++ holder_locks s) → Each (λ l. (0 < l) × (l ≤ s.last_lock)) (queued_locks s) → IsClaimed s
claimed_of s apart few = record {
  most = λ k. omega (arith, counts_of_pairs k (queued_locks s ++ holder_locks s) apart, both_times k s);
  fresh = λ k over. omega (arith, queued_times k s, no_more k (queued_locks s) (each_implied (λ l. (0 < l) × (l ≤ s.last_lock)) (λ m. k ≢ m) (λ m up same. absurd (omega (arith, up.1, same, over))) (queued_locks s) few));
  none = omega (arith, queued_times 0 s, no_more 0 (queued_locks s) (each_implied (λ l. (0 < l) × (l ≤ s.last_lock)) (λ m. 0 ≢ m) (λ m up same. absurd (omega (arith, up.0, same))) (queued_locks s) few));
}
