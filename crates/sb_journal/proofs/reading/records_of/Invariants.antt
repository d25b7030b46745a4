use Rattle.std.proofs.Common.{◌≡◌, ◌≤◌, ◌+◌, ◌-◌, drop}
use Rattle.std.specs.Prelude.{IsTrue}
use Rattle.sb_journal.specs.Pieces.{BeginsWith, IsPiece, HasPlace, seen_from}
use Rattle.sb_journal.proofs.Judging.{IsSoFar}
use Rattle.sb_journal.proofs.reading.records_of.Given as goal

-- what was read and judged, and then what is left
abbrev pub invariant-records : goal.invariant-records
invariant-records g l = record {
  honesty : g.D.Disk.honest l.disk ≡ g.D.Disk.honest l.fn.disk;
  so_far : IsSoFar g.J.Judge (IsTrue (g.D.Disk.honest l.fn.disk)) (g.D.Disk.held l.fn.disk).seen l.salt l.first l.gate l.place l.number l.judge l.refused;
  piece : IsTrue (g.D.Disk.honest l.fn.disk) → IsPiece l.piece (g.D.Disk.held l.fn.disk).seen × BeginsWith (seen_from l.place l.piece) (drop l.place (g.D.Disk.held l.fn.disk).seen);
  place : HasPlace l.piece l.place;
  few : l.number ≤ l.first + l.place;
  same : IsTrue (g.D.Disk.honest l.fn.disk) → (g.D.Disk.held l.disk ≡ g.D.Disk.held l.fn.disk) × (g.D.Disk.past l.disk ≡ g.D.Disk.past l.fn.disk);
  count : g.D.Disk.count l.disk ≡ g.D.Disk.count l.fn.disk;
}

abbrev pub decreases-records : goal.decreases-records
decreases-records g l = l.piece.total - l.place
