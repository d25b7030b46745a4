use Rattle.std.proofs.Common.{inl, inr, arith}
use Rattle.sb_journal.proofs.Pieces.{seen_begins}
use Rattle.sb_journal.proofs.piece.Piece.look_on.Goals.{else-end-place-lt-LONGEST_RECORD-via-then-end-place-lt-LONGEST_RECORD+else-end-self, else-end-place-lt-LONGEST_RECORD-via-else-end-place-lt-LONGEST_RECORD}
use Rattle.sb_journal.proofs.piece.Piece.look_on.Goals as goal

pub returns-clause-piece : goal.returns-clause-piece
returns-clause-piece g c honest piece = (
  piece,
  seen_begins c.args.self.now c.args.place _ piece c.requires (elim c.else-end-place-lt-LONGEST_RECORD.branch [
    | else-end-place-lt-LONGEST_RECORD-via-then-end-place-lt-LONGEST_RECORD+else-end-self w ↦
        let over = w.if-end-self.false in
        let len = c.len.ensures in
        inr (omega (arith, over, len, piece.total_is))
    | else-end-place-lt-LONGEST_RECORD-via-else-end-place-lt-LONGEST_RECORD w ↦
        let long = w.if-end-place-lt-LONGEST_RECORD.false in
        let len = c.len.ensures in
        inl (omega (arith, long, len))
  ]),
)
