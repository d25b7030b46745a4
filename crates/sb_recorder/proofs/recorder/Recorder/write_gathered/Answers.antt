use Rattle.std.proofs.Common.{◌≡◌, ◌++◌, List, ℕ, Some, is_some, sym, ◌∙◌, ap}
use Rattle.sb_recorder.proofs.Beside.{piece_failed, piece_goes, piece_has}
use Rattle.sb_recorder.proofs.recorder.Recorder.write_gathered.Goals as goal

pub returns-in_default-base_piece-clause-stays : goal.returns-in_default-base_piece-clause-stays
returns-in_default-base_piece-clause-stays g c begun on =
    let r = c.args.self.now in
    let here : r.next ≡ Some c.in-Some.next = sym c.take.ensures.value ∙ c.in-Some.is in
    let call = c.base_piece.ensures in
    piece_failed begun r.journal c.base_piece.new.self r.next c.in-Some.next c.base_piece.new.next c.deref.result.now here (r.running (ap is_some here)) on call.later call.honesty call.still call.any_moment c.take.new.self c.take.ensures.after c.in_default-base_piece.ensures.failed c.in_default-base_piece.ensures.cause

pub returns-clause-stays : goal.returns-clause-stays
returns-clause-stays g c begun on =
    let r = c.args.self.now in
    let here : r.next ≡ Some c.in-Some.next = sym c.take.ensures.value ∙ c.in-Some.is in
    let call = c.base_piece.ensures in
    piece_goes begun r.journal c.base_piece.new.self r.next c.in-Some.next c.base_piece.new.next c.deref.result.now here (r.running (ap is_some here)) on call.later call.honesty call.still call.any_moment c.in-Ok.ensures.running c.in-Ok.ensures.quiet c.in-Ok.ensures.ok

pub returns-clause-has : goal.returns-clause-has
returns-clause-has g c begun text is few =
    let r = c.args.self.now in
    let here : r.next ≡ Some c.in-Some.next = sym c.take.ensures.value ∙ c.in-Some.is in
    let part = is few in
    piece_has begun r.journal c.base_piece.new.self r.next c.in-Some.next c.base_piece.new.next r.left r.left r.buffer.items c.clear.new.self.items text text c.deref.result.now here part c.in-Ok.ensures.begun.1 c.in-Ok.ensures.ok
    (λ w is_w. ap (λ (l : List ℕ). w ++ l) c.deref.ensures.value ∙ sym is_w) part.left_is c.clear.ensures.items
