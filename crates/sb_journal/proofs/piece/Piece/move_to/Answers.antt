use Rattle.std.proofs.Common.{◌≡◌, ◌⊎◌, inl, inr, ◌≤◌, ◌+◌, ◌-◌, length, arith, ap, length-take}
use Rattle.std.proofs.lemmas.Bool.{cases_lt}
use Rattle.sb_journal.specs.Text.{max_payload}
use Rattle.sb_journal.proofs.Pieces.{piece_at}
use Rattle.sb_journal.proofs.piece.Piece.move_to.Goals as goal

pub returns-clause-piece : goal.returns-clause-piece
returns-clause-piece g c honest piece before =
    let bytes = (g.D.Disk.held c.args.disk.now).seen in
    let old = c.args.self.now.bytes.items in
    let left = c.args.self.now.total - c.args.place in
    let count = length c.truncate.new.self.items in
    let cut = ap length c.truncate.ensures.items in
    let kept = length-take left old in
    let least = c.requires.least in
    let total_is = piece.total_is in
    let within = c.args.self.now.inside in
    let here = c.requires.greatest in
    let inside : c.args.place + count ≤ length bytes = omega (arith, cut, kept, total_is, here, within) in
    let long : max_payload + 13 ≤ length old = elim piece.long [
      | inl most ↦ most
      | inr all ↦ absurd (omega (arith, all, before, total_is))
    ] in
    let enough : (max_payload + 13 ≤ count) ⊎ (c.args.place + count ≡ length bytes) = elim (cases_lt left (length old)) [
      | inl few ↦ inr (omega (arith, few, cut, kept, total_is, here, within))
      | inr all ↦ inl (omega (arith, all, cut, kept, long))
    ] in
    piece_at _ count bytes total_is inside (c.in_ok-fill.ensures.bytes honest inside) enough
