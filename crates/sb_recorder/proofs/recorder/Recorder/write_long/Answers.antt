use Rattle.std.proofs.Common.{◌≡◌, ◌++◌, Some, is_some, sym, ◌∙◌, ap, arith, length-append}
use Rattle.sb_recorder.proofs.Beside.{none_gathered, piece_failed, piece_goes, piece_has, piece_long}
use Rattle.sb_recorder.proofs.recorder.Recorder.write_long.Goals as goal

pub returns-in_default-base_piece-clause-stays : goal.returns-in_default-base_piece-clause-stays
returns-in_default-base_piece-clause-stays g c begun on =
    let r = c.args.self.now in
    let here : r.next ≡ Some c.in-Some.next = sym c.take.ensures.value ∙ c.in-Some.is in
    let call = c.base_piece.ensures in
    piece_failed begun r.journal c.base_piece.new.self r.next c.in-Some.next c.base_piece.new.next c.args.bytes.now here (r.running (ap is_some here)) on call.later call.honesty call.still call.any_moment c.take.new.self c.take.ensures.after c.in_default-base_piece.ensures.failed c.in_default-base_piece.ensures.cause

pub returns-clause-stays : goal.returns-clause-stays
returns-clause-stays g c begun on =
    let r = c.args.self.now in
    let here : r.next ≡ Some c.in-Some.next = sym c.take.ensures.value ∙ c.in-Some.is in
    let call = c.base_piece.ensures in
    piece_goes begun r.journal c.base_piece.new.self r.next c.in-Some.next c.base_piece.new.next c.args.bytes.now here (r.running (ap is_some here)) on call.later call.honesty call.still call.any_moment c.in-Ok.ensures.running c.in-Ok.ensures.quiet c.in-Ok.ensures.ok

pub returns-clause-has : goal.returns-clause-has
returns-clause-has g c begun text is few =
    let r = c.args.self.now in
    let here : r.next ≡ Some c.in-Some.next = sym c.take.ensures.value ∙ c.in-Some.is in
    let part = is (omega (arith, few, length-append text c.args.bytes.now)) in
    let empty = none_gathered r.buffer.items c.args.bytes.now c.requires.room c.requires.long in
    piece_has begun r.journal c.base_piece.new.self r.next c.in-Some.next c.base_piece.new.next r.left _ r.buffer.items r.buffer.items text (text ++ c.args.bytes.now) c.args.bytes.now here part c.in-Ok.ensures.begun.1 c.in-Ok.ensures.ok
    (λ w is_w. piece_long text w c.args.bytes.now r.buffer.items empty is_w) (let fits = c.requires.fits in let left = part.left_is in omega (arith, fits, left, length-append text c.args.bytes.now)) empty
