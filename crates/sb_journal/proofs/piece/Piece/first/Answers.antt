use Rattle.std.proofs.Common.{◌≡◌, ◌⊎◌, inl, inr, ◌≤◌, ◌+◌, ℕ, List, length, take, drop, sym, ◌∙◌, ap, subst, arith}
use Rattle.std.specs.Prelude.{IsTrue}
use Rattle.std.proofs.lemmas.Bool.{cases_lt}
use Rattle.sb_journal.specs.Text.{max_payload}
use Rattle.sb_journal.proofs.Pieces.{piece_at}
use Rattle.sb_journal.proofs.piece.Piece.first.Goals as goal

pub returns-clause-piece : goal.returns-clause-piece
returns-clause-piece g c honest =
    let bytes = (g.D.Disk.held c.args.disk.now).seen in
    let total_is : c.in-Ok.length ≡ length bytes = c.in-Ok.ensures.length honest in
    let count = length c.in-Ok-vec.bytes.items in
    let asked : count ≡ c.min.result = sym c.in-Ok-vec.bytes.ok.0 ∙ c.in-Ok-vec.ensures.len in
    let least = c.min.ensures in
    let inside : 0 + count ≤ length bytes = omega (arith, total_is, asked, least) in
    let enough : (max_payload + 13 ≤ count) ⊎ (0 + count ≡ length bytes) = elim (cases_lt 2097178 c.in-Ok.length) [
      | inl more ↦ inl (omega (arith, more, asked, least))
      | inr all ↦ inr (omega (arith, all, asked, least, total_is))
    ] in
    let Read : List ℕ → Type 0 = λ s. 0 + count ≤ length s → c.fill.new.bytes.items ≡ take count (drop 0 s) in
    let same : (g.D.Disk.held c.length.new.self).seen ≡ bytes = ap (λ h. h.seen) (c.length.ensures.same honest).0 in
    let read = subst Read same (c.in-Ok-fill.ensures.bytes (subst IsTrue (sym c.length.ensures.honesty) honest)) in
    piece_at (record { bytes = c.fill.new.bytes; from = 0; total = c.in-Ok.length; inside = _; small = _ }) count bytes total_is inside (read inside) enough
