-- The outside of a call, before it and after it: an input, an output and two disks.
use Rattle.std.specs.Prelude.{ℕ, List, Option}
use Rattle.sb_outside.specs.declared.disk.Disk.{Ghosts as Disk}
use Rattle.sb_outside.specs.declared.streams.Source.{Ghosts as Source}
use Rattle.sb_outside.specs.declared.streams.Sink.{Ghosts as Sink}
use Rattle.sb_journal.specs.Disks.{Disks, disks_of}

-- what is left of it, where it tells
pub record Input : Type 0 where
  pub left : Option (List ℕ)
  pub faults : ℕ

-- what it was given from the start on, where it tells
pub record Output : Type 0 where
  pub given : Option (List ℕ)
  pub faults : ℕ

-- an input, an output and two disks, as contracts see them
pub record Outside : Type 0 where
  pub input : Input
  pub output : Output
  pub disks : Disks

-- an input, by its ghost values
abbrev pub input_of : {S : Type 0} → Source S → S → Input
input_of source input = record { left = source.left input; faults = source.count input }

-- an output, by its ghost values
abbrev pub output_of : {K : Type 0} → Sink K → K → Output
output_of sink output = record { given = sink.given output; faults = sink.count output }

-- all of it, by its ghost values
abbrev pub outside_of : {D S K : Type 0} → Disk D → Source S → Sink K → D → D → S → K → Outside
outside_of disk source sink a b input output = record {
  input = input_of source input;
  output = output_of sink output;
  disks = disks_of disk a b;
}
