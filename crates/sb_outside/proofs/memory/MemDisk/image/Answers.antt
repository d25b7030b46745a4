use Rattle.std.proofs.Common.{◌∙◌, ap, List, ℕ, ◌+◌, ◌≤◌, length, drop, get_or, arith}
use Rattle.std.proofs.lemmas.List.{get_or_default, take_rest}
use Rattle.sb_outside.specs.declared.memory.DiskCall.{DiskCall}
use Rattle.sb_outside.specs.declared.memory.DiskCall.TheVariants.{Write}
use Rattle.sb_outside.specs.Held.{at_rest}
use Rattle.sb_outside.specs.Kept.{after_call, held_after, filled_past}
use Rattle.sb_outside.proofs.Fillings.{next_in_seen, next_in_image, next_written, next_counted, all_past, past_next}
use Rattle.sb_outside.proofs.memory.MemDisk.image.Goals as goal

pub fill_past-requires : goal.fill_past-requires
fill_past-requires c = next_in_image c.args.fill c.deref-call-items.result.now c.loop-call.call-index c.loop-call.at (get_or c.deref-call-items.result.now c.loop-call.call-index (Write 0 0)) c.args.self.now.written.items c.loop-call.seen.items c.loop-call.image.items _ c.loop-call-test.true (get_or_default c.deref-call-items.result.now c.loop-call.call-index (Write 0 0) _ c.loop-call-test.true) c.loop-call.invariant

pub read_past-requires-clause-placed : goal.read_past-requires-clause-placed
read_past-requires-clause-placed c = next_in_seen c.args.fill c.deref-call-items.result.now c.loop-call.call-index c.loop-call.at (get_or c.deref-call-items.result.now c.loop-call.call-index (Write 0 0)) c.args.self.now.written.items c.loop-call.seen.items c.loop-call.image.items _ c.loop-call-test.true (get_or_default c.deref-call-items.result.now c.loop-call.call-index (Write 0 0) _ c.loop-call-test.true) c.loop-call.invariant

pub read_past-requires-clause-written : goal.read_past-requires-clause-written
read_past-requires-clause-written c = next_counted c.args.fill c.deref-call-items.result.now c.loop-call.call-index c.loop-call.at (get_or c.deref-call-items.result.now c.loop-call.call-index (Write 0 0)) c.args.self.now.written.items c.deref-in-loop-call.result.now c.loop-call.seen.items c.loop-call.image.items _ c.loop-call-test.true (get_or_default c.deref-call-items.result.now c.loop-call.call-index (Write 0 0) _ c.loop-call-test.true) c.deref-in-loop-call.ensures.value c.loop-call.invariant

pub slice_bounds-read_past-count : goal.slice_bounds-read_past-count
slice_bounds-read_past-count c = omega (arith, c.loop-call.invariant.counted, ap length c.deref-in-loop-call.ensures.value)

pub overflow_add-at : goal.overflow_add-at
overflow_add-at c =
    let within : c.loop-call.at + c.in_ok-at.field-0 ≤ length c.deref-in-loop-call.result.now = omega (arith, c.in_ok-at.ensures.count, ap length c.deref-in-loop-call.ensures.value, next_written c.args.fill c.deref-call-items.result.now c.loop-call.call-index c.loop-call.at (get_or c.deref-call-items.result.now c.loop-call.call-index (Write 0 0)) c.args.self.now.written.items c.loop-call.seen.items c.loop-call.image.items _ c.loop-call-test.true (get_or_default c.deref-call-items.result.now c.loop-call.call-index (Write 0 0) _ c.loop-call-test.true) c.loop-call.invariant) in
    omega arith

pub returns : goal.returns
returns c = all_past c.args.fill c.deref-call-items.result.now c.loop-call.call-index c.loop-call.at c.args.self.now.written.items c.loop-call.seen.items c.loop-call.image.items _ c.loop-call-test.false c.loop-call.invariant

pub loop-call-preserved : goal.loop-call-preserved
loop-call-preserved c =
    let call : DiskCall = get_or c.deref-call-items.result.now c.loop-call.call-index (Write 0 0) in
    past_next c.args.fill c.deref-call-items.result.now c.loop-call.call-index c.loop-call.at c.in_ok-at.field-0 call c.args.self.now.written.items c.loop-call.seen.items c.read_past.new.seen.items c.loop-call.image.items c.fill_past.new.image.items (held_after (at_rest c.args.self.now.first.items) c.args.self.now.calls.items c.args.self.now.written.items)
    c.loop-call-test.true
    (get_or_default c.deref-call-items.result.now c.loop-call.call-index (Write 0 0) call c.loop-call-test.true)
    c.in_ok-at.ensures.count
    (c.in_ok-fill_past.ensures ∙ ap (λ (s : List ℕ). filled_past c.args.fill s call c.loop-call.image.items) c.deref.ensures.value)
    (c.in_ok-at.ensures.seen
    ∙ ap (λ (w : List ℕ). (after_call (at_rest c.loop-call.seen.items) call w).seen) (take_rest c.deref-in-loop-call.result.now c.loop-call.at)
    ∙ ap (λ (w : List ℕ). (after_call (at_rest c.loop-call.seen.items) call (drop c.loop-call.at w)).seen) c.deref-in-loop-call.ensures.value)
    c.loop-call.invariant
