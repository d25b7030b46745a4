use Rattle.std.proofs.Common.{◌≡◌, ◌≤◌, ◌+◌, ℕ, List, length, take, drop, sym, ◌∙◌, ap, subst, arith}
use Rattle.std.specs.Prelude.{IsTrue, min}
use Rattle.std.proofs.lemmas.List.{take_min}
use Rattle.sb_journal.proofs.piece.front_of.Goals as goal

pub returns-clause-front : goal.returns-clause-front
returns-clause-front g c honest =
    let bytes = (g.D.Disk.held c.args.disk.now).seen in
    let total_is : c.in-Ok.length ≡ length bytes = c.in-Ok.ensures.length honest in
    let count = length c.in-Ok-vec.bytes.items in
    let asked : count ≡ c.min.result = sym c.in-Ok-vec.bytes.ok.0 ∙ c.in-Ok-vec.ensures.len in
    let least = c.min.ensures in
    let inside : 0 + count ≤ length bytes = omega (arith, total_is, asked, least) in
    let Read : List ℕ → Type 0 = λ s. 0 + count ≤ length s → c.fill.new.bytes.items ≡ take count (drop 0 s) in
    let same : (g.D.Disk.held c.length.new.self).seen ≡ bytes = ap (λ h. h.seen) (c.length.ensures.same honest).0 in
    let read = subst Read same (c.in-Ok-fill.ensures.bytes (subst IsTrue (sym c.length.ensures.honesty) honest)) in
    let count_is : count ≡ min 44 (length bytes) = omega (arith, total_is, asked, least) in
    read inside ∙ ap (λ n. take n bytes) count_is ∙ take_min 44 bytes
