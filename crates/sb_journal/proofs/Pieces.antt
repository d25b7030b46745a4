-- What is seen of a disk's bytes by a piece of them.
use Rattle.std.proofs.Common.{◌≡◌, ◌⊎◌, inl, inr, ℕ, ◌+◌, ◌≤◌, List, length, take, drop, sym, ◌∙◌, ap, arith, length-take, length-drop}
use Rattle.sb_journal.specs.Text.{max_payload}
use Rattle.sb_journal.specs.Pieces.{BeginsWith, IsPiece, HasPlace, seen_from}
use Rattle.sb_journal.specs.declared.piece.Piece.{Piece}
use Rattle.sb_journal.proofs.Scan.{begins}

-- at a place in it, where all of a record is seen or all that is left
pub seen_begins : (p : Piece) (place : ℕ) (bytes : List ℕ) → IsPiece p bytes → HasPlace p place → (max_payload + 13 + place ≤ p.from + length p.bytes.items) ⊎ (length bytes ≤ p.from + length p.bytes.items) → BeginsWith (seen_from place p) (drop place bytes)
seen_begins p place bytes piece has enough = begins p.bytes.items bytes p.from place piece.is has.least has.greatest enough

-- the piece that begins at a place, with so many bytes
pub piece_at : (p : Piece) (count : ℕ) (bytes : List ℕ) → p.total ≡ length bytes → p.from + count ≤ length bytes → p.bytes.items ≡ take count (drop p.from bytes) → (max_payload + 13 ≤ count) ⊎ (p.from + count ≡ length bytes)
    → IsPiece p bytes × BeginsWith (seen_from p.from p) (drop p.from bytes)
piece_at p count bytes total_is inside items enough =
    let long : length p.bytes.items ≡ count = omega (arith, ap length items, length-take count (drop p.from bytes), length-drop p.from bytes, inside) in
    let piece : IsPiece p bytes = record {
      total_is = total_is;
      is = items ∙ ap (λ n. take n (drop p.from bytes)) (sym long);
      long = elim enough [
        | inl most ↦ inl (omega (arith, most, long))
        | inr all ↦ inr (omega (arith, all, long))
      ];
    } in (
      piece,
      seen_begins p p.from bytes piece (record { least = omega arith; greatest = omega arith }) (elim enough [
        | inl most ↦ inl (omega (arith, most, long))
        | inr all ↦ inr (omega (arith, all, long))
      ]),
    )
