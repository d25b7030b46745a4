-- What contracts say of a journal that was read and isn't open yet.
use Rattle.std.specs.Prelude.{ℕ}
use Rattle.sb_outside.specs.declared.disk.Disk.{Ghosts}
use Rattle.sb_journal.specs.declared.found.Side.{Side}
use Rattle.sb_journal.specs.declared.unopened.Unopened.{Unopened}
use Rattle.sb_journal.specs.Choosing.{sided}
use Rattle.sb_journal.specs.Disks.{Disks, disks_of}

-- the first disk that it was read from, and the second
abbrev pub unopened_disk_a : {D : Type 0} {B : Ghosts D} → Unopened D B → D
unopened_disk_a u = sided u.side u.current u.other

-- the second
abbrev pub unopened_disk_b : {D : Type 0} {B : Ghosts D} → Unopened D B → D
unopened_disk_b u = sided u.side u.other u.current

-- both as one value
abbrev pub unopened_disks : {D : Type 0} {B : Ghosts D} → Unopened D B → Disks
unopened_disks {D} {B} u = disks_of B (unopened_disk_a u) (unopened_disk_b u)

-- whose file counts
abbrev pub unopened_side : {D : Type 0} {B : Ghosts D} → Unopened D B → Side
unopened_side u = u.side

-- the salt of the file that is made where there is none
abbrev pub unopened_salt : {D : Type 0} {B : Ghosts D} → Unopened D B → ℕ
unopened_salt u = u.salt
