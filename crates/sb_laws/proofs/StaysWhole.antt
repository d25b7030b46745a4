-- Calls whose lists are in order, and ticks, keep a state consistent.
use Rattle.std.proofs.Common.{Bool, List, None, [], arith, false, refl, true, ℕ, ◌∷◌, ◌≡◌, ◌≤◌}
use Rattle.std.specs.Prelude.{if◌then◌else◌}
use Rattle.sb_laws.proofs.Clients.{keeps_each}
use Rattle.sb_laws.proofs.Contents.{ContentsCore, contents_call, contents_fields, contents_lists, contents_sending, contents_tick, contents_travel}
use Rattle.sb_laws.proofs.Core.{core_way}
use Rattle.sb_laws.proofs.Eachs.{each_changed, each_implied}
use Rattle.sb_laws.proofs.Freed.{tick_named}
use Rattle.sb_laws.proofs.Ids.{AreShort, BringsIds, ids_all, tick_ids, way_ids}
use Rattle.sb_laws.proofs.Named.{called_named}
use Rattle.sb_laws.proofs.Ordering.{HasPoints, not_spent, orderly_core, orderly_points, stays_orderly, tick_acts, tick_changes_so, ticks_orderly, way_points}
use Rattle.sb_laws.proofs.Orders.{orderly_is_sweepable}
use Rattle.sb_laws.proofs.Outcomes.{Comes, Fits, comes, comes_acted, comes_forgot}
use Rattle.sb_laws.proofs.Placing.{ArePlaced, acts_placed}
use Rattle.sb_laws.proofs.Remembering.{call_kept}
use Rattle.sb_laws.proofs.Replies.{way_placed}
use Rattle.sb_laws.proofs.Running.{act_keeps, act_keeps_ordered, within}
use Rattle.sb_laws.proofs.SequencedCalls.{way_seq}
use Rattle.sb_laws.proofs.Sequences.{AreSeqs, seqs_all, tick_seq}
use Rattle.sb_laws.proofs.Shapes.{Arrives}
use Rattle.sb_laws.proofs.Tick.{IsOfTick}
use Rattle.sb_laws.proofs.Ways.{Way}
use Rattle.sb_laws.proofs.Wholes.{IsWhole, consistent_of, whole_of}
use Rattle.sb_machine.specs.Acts.{is_via_in}
use Rattle.sb_laws.specs.Staying.{AreInOrder}
use Rattle.sb_machine.specs.Answers.{is_change, keeping, max_moment, moment_of, state_in, state_of, without_client}
use Rattle.sb_machine.specs.Changes.{after_all, is_numbered, max_number}
use Rattle.sb_machine.specs.Consistent.{IsConsistent, IsKept}
use Rattle.sb_machine.specs.Each.{Each}
use Rattle.sb_machine.specs.Due.{is_due, tick_changes}
use Rattle.sb_machine.specs.Fields.{bad_in_act}
use Rattle.sb_machine.specs.History.{IsAllowed, IsLegal, IsLegalFrom, Log, advanced, after_entries, after_entry, fresh_log, is_fault, is_spent, state_after}
use Rattle.sb_machine.specs.Ordered.{IsActInOrder}
use Rattle.sb_machine.specs.Repeats.{Outcome, acted, client_of, forgot, is_client, outcome_of, refused, repeated}
use Rattle.sb_machine.specs.declared.call.Act.{Act}
use Rattle.sb_machine.specs.declared.call.Call.{Call}
use Rattle.sb_machine.specs.declared.change.Change.{Change}
use Rattle.sb_machine.specs.declared.history.Entry.{Entry}
use Rattle.sb_machine.specs.declared.history.Entry.TheVariants.{Ticked, Answered as Replied}
use Rattle.sb_machine.specs.declared.reply.Reply.{Reply}
use Rattle.sb_machine.specs.declared.reply.Reply.TheVariants.{Done}
use Rattle.sb_machine.specs.declared.state.Space.{Space}
use Rattle.sb_machine.specs.declared.state.State.{State}

-- an accepted act by itself brings no EnqueuedSequenceNumber but one that was given
way_sequenced : (t : ℕ) (s : Space) (act : Act) (reply : Reply) (cs : List Change) → bad_in_act (is_via_in s act) act ≡ None → is_numbered t cs s ≡ true → Way s t act reply cs → HasPoints t s × AreSeqs max_number s → HasPoints t (after_all t cs s) × AreSeqs max_number (after_all t cs s)
way_sequenced t s act reply cs good numbers way h =
    let few = (within t cs s numbers).given in
    (way_points t s act reply cs good numbers way h.0, seqs_all max_number t cs s (way_seq max_number t s h.0.core.ordered h.1 act reply cs few way) few h.1)

-- and brings short ids alone
way_short : (t : ℕ) (s : Space) (act : Act) (reply : Reply) (cs : List Change) → IsActInOrder act → bad_in_act (is_via_in s act) act ≡ None → Way s t act reply cs → ContentsCore s × AreShort s → ContentsCore (after_all t cs s) × AreShort (after_all t cs s)
way_short t s act reply cs order good way h =
    let fields = contents_fields s (is_via_in s act) act good order in
    (core_way contents_travel contents_sending contents_lists t s h.0 act reply cs fields way, ids_all t cs s (way_ids t s h.0 (is_via_in s act) act reply cs good fields way) h.1)

module _ (s : State) (t : ℕ) (call : Call) (w : IsWhole s) where
  acted_placed : s.now ≤ t → (reply : Reply) (cs : List Change) → Fits s.space t call.by call.act reply cs → ArePlaced (after_all t cs s.space)
  acted_placed le reply cs fits = (act_keeps s.space t call.by call.act reply cs fits (λ now. HasPoints t now × ArePlaced now) (λ now a r ds good numbers way h. way_placed t now a r ds good numbers way h) (orderly_points s t le w.orderly, w.placed)).1

  acted_seqs : s.now ≤ t → (reply : Reply) (cs : List Change) → Fits s.space t call.by call.act reply cs → AreSeqs max_number (after_all t cs s.space)
  acted_seqs le reply cs fits = (act_keeps s.space t call.by call.act reply cs fits (λ now. HasPoints t now × AreSeqs max_number now) (λ now a r ds good numbers way h. way_sequenced t now a r ds good numbers way h) (orderly_points s t le w.orderly, w.seqs)).1

  called_so : s.now ≤ t → (ArePlaced (state_of s t call).space) × (AreSeqs max_number (state_of s t call).space)
  called_so le = by (outcome_of s t call) (comes s t call) where
    by : (o : Outcome) → Comes s t call o → (ArePlaced (state_in s t call o).space) × (AreSeqs max_number (state_in s t call o).space)
    by (refused r) is = (w.placed, w.seqs)
    by (repeated reply) is = (w.placed, w.seqs)
    by (forgot name) is = (w.placed, w.seqs)
    by (acted reply cs) (comes_acted newer fits) = go (is_change (client_of call) (acted reply cs)) where
      changed_so : (ArePlaced (after_all t cs s.space)) × (AreSeqs max_number (after_all t cs s.space))
      changed_so = (acted_placed le reply cs fits, acted_seqs le reply cs fits)

      go : (b : Bool) → (ArePlaced (if b then record { now = t; clients = keeping (client_of call) call.act reply s.clients; space = after_all t cs s.space } else s).space)
          × (AreSeqs max_number (if b then record { now = t; clients = keeping (client_of call) call.act reply s.clients; space = after_all t cs s.space } else s).space)
      go true = changed_so
      go false = (w.placed, w.seqs)

  acted_ids : IsActInOrder call.act → (reply : Reply) (cs : List Change) → Fits s.space t call.by call.act reply cs → AreShort (after_all t cs s.space)
  acted_ids order reply cs fits = (act_keeps_ordered s.space t call.by call.act reply cs fits (λ now. ContentsCore now × AreShort now) order (λ now a r ds in_order good numbers way h. way_short t now a r ds in_order good way h) (w.contents, w.ids)).1

  called_kept : s.now ≤ t → IsActInOrder call.act → AreShort (state_of s t call).space × Each IsKept (state_of s t call).clients
  called_kept le order = by (outcome_of s t call) refl (comes s t call) where
    by : (o : Outcome) → outcome_of s t call ≡ o → Comes s t call o → AreShort (state_in s t call o).space × Each IsKept (state_in s t call o).clients
    by (refused r) same is = (w.ids, w.kept)
    by (repeated reply) same is = (w.ids, w.kept)
    by (forgot name) same (comes_forgot is newer fits) = (
      w.ids,
      keeps_each IsKept (client_of call) call.act Done (without_client name s.clients) (λ b is. call_kept s t call Done [] (forgot name) le (consistent_of s w) w.contents order fits same (λ by. refl) b is) (each_changed IsKept (is_client name) (λ x. []) s.clients (λ x found was. tt) w.kept),
    )
    by (acted reply cs) same (comes_acted newer fits) = go (is_change (client_of call) (acted reply cs)) where
      go : (b : Bool) → AreShort (if b then record { now = t; clients = keeping (client_of call) call.act reply s.clients; space = after_all t cs s.space } else s).space
          × Each IsKept (if b then record { now = t; clients = keeping (client_of call) call.act reply s.clients; space = after_all t cs s.space } else s).clients
      go true = (acted_ids order reply cs fits, keeps_each IsKept (client_of call) call.act reply s.clients (λ b is. call_kept s t call reply cs (acted reply cs) le (consistent_of s w) w.contents order fits same (λ by. refl) b is) w.kept)
      go false = (w.ids, w.kept)

  pub whole_called : IsActInOrder call.act → s.now ≤ t → t ≤ max_moment → IsWhole (state_of s t call)
  whole_called order le most = let kept_so = called_kept le order in record {
    orderly = stays_orderly s t call w.orderly le most;
    contents = contents_call s t call order w.contents;
    placed = (called_so le).0;
    seqs = (called_so le).1;
    named = called_named s t call le (record { orderly = w.orderly; named = w.named });
    ids = kept_so.0;
    kept = kept_so.1;
  }

pub whole_ticked : (s : State) (t : ℕ) → IsWhole s → s.now ≤ t → t ≤ max_moment → is_spent s t ≡ false → IsWhole (advanced s t)
whole_ticked s t w le most room =
    let few = (within t (tick_changes t s.space) s.space (not_spent (is_numbered t (tick_changes t s.space) s.space) room)).given in
    record {
      orderly = ticks_orderly s t w.orderly le most room;
      contents = contents_tick t s.space w.contents;
      placed = (acts_placed t (tick_changes t s.space) s.space (tick_acts t s.space (orderly_core s w.orderly)) (w.orderly.owned, w.placed)).1;
      seqs = seqs_all max_number t (tick_changes t s.space) s.space (tick_seq max_number t s.space w.seqs few) few w.seqs;
      named = tick_named t s.space (orderly_is_sweepable s w.orderly) s.now le w.named;
      ids = ids_all t (tick_changes t s.space) s.space (each_implied (IsOfTick Arrives true) BringsIds (tick_ids true) (tick_changes t s.space) (tick_changes_so t s.space (orderly_core s w.orderly))) w.ids;
      kept = w.kept;
    }

pub stays_consistent : (s : State) (t : ℕ) (call : Call) → IsConsistent s → IsActInOrder call.act → s.now ≤ t → t ≤ max_moment → IsConsistent (state_of s t call)
stays_consistent s t call h order le most = consistent_of (state_of s t call) (whole_called s t call (whole_of s h) order le most)

pub ticks_consistent : (s : State) (t : ℕ) → IsConsistent s → s.now ≤ t → t ≤ max_moment → is_spent s t ≡ false → IsConsistent (advanced s t)
ticks_consistent s t h le most room = consistent_of (advanced s t) (whole_ticked s t (whole_of s h) le most room)

-- ---- histories

entry_whole : (l : Log) (e : Entry) → IsAllowed l e → AreInOrder (e ∷ []) → IsWhole l.state → IsWhole (after_entry l e).state
entry_whole l (Ticked seat t) allowed order w = whole_ticked l.state t w allowed.2.0 allowed.2.1 allowed.2.3
entry_whole l (Replied seat reading call answer) allowed order w = at (is_fault answer) (is_due (moment_of l.state reading) l.state.space) where
  le : l.state.now ≤ moment_of l.state reading
  le = omega arith

  at : (f d : Bool) → IsWhole (if f then l.state else (if d then l.state else state_of l.state (moment_of l.state reading) call))
  at true d = w
  at false true = w
  at false false = whole_called l.state (moment_of l.state reading) call w order.0 le (omega (arith, w.orderly.now))

entries_whole : (l : Log) (es : List Entry) → IsLegalFrom l es → AreInOrder es → IsWhole l.state → IsWhole (after_entries l es).state
entries_whole l [] legal order w = w
entries_whole l (Ticked seat t ∷ es) legal order w = entries_whole (after_entry l (Ticked seat t)) es legal.1 order (entry_whole l (Ticked seat t) legal.0 tt w)
entries_whole l (Replied seat reading call answer ∷ es) legal order w = entries_whole (after_entry l (Replied seat reading call answer)) es legal.1 order.1 (entry_whole l (Replied seat reading call answer) legal.0 (order.0, tt) w)

pub histories_consistent : (s : State) (es : List Entry) → IsConsistent s → IsLegal s es → AreInOrder es → IsConsistent (state_after s es)
histories_consistent s es h legal order = consistent_of (state_after s es) (entries_whole (fresh_log s) es legal order (whole_of s h))
