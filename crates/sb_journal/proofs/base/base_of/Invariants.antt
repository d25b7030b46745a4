use Rattle.std.proofs.Common.{◌≡◌, ◌≤◌, ◌-◌}
use Rattle.std.specs.Prelude.{IsTrue}
use Rattle.sb_journal.specs.Pieces.{IsPiece, HasPlace}
use Rattle.sb_journal.proofs.Judging.{IsGivenSoFar}
use Rattle.sb_journal.proofs.base.base_of.Given as goal

-- the judge was given what stands up to this place
abbrev pub invariant-pieces : goal.invariant-pieces
invariant-pieces g l = record {
  honesty : g.D.Disk.honest l.disk ≡ g.D.Disk.honest l.fn.disk;
  so_far : IsGivenSoFar g.J.Judge (IsTrue (g.D.Disk.honest l.fn.disk)) (g.D.Disk.held l.fn.disk).seen l.salt l.place l.judge l.given;
  piece : IsTrue (g.D.Disk.honest l.fn.disk) → IsPiece l.piece (g.D.Disk.held l.fn.disk).seen;
  place : HasPlace l.piece l.place;
  total : l.piece.total ≡ l.fn.piece.total;
  inside : l.place ≤ l.gate;
  same : IsTrue (g.D.Disk.honest l.fn.disk) → (g.D.Disk.held l.disk ≡ g.D.Disk.held l.fn.disk) × (g.D.Disk.past l.disk ≡ g.D.Disk.past l.fn.disk);
  count : g.D.Disk.count l.disk ≡ g.D.Disk.count l.fn.disk;
}

abbrev pub decreases-pieces : goal.decreases-pieces
decreases-pieces g l = l.gate - l.place
