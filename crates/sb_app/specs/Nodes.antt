-- What a run sees of its node: the outside that stands behind it.
use Rattle.sb_outside.specs.declared.disk.Disk.{Ghosts as Disk}
use Rattle.sb_outside.specs.declared.streams.Source.{Ghosts as Source}
use Rattle.sb_outside.specs.declared.streams.Sink.{Ghosts as Sink}
use Rattle.sb_node.specs.declared.node.Node.{Node}
use Rattle.sb_node.specs.Nodes.{node_disks}
use Rattle.sb_app.specs.Outside.{Outside, input_of, output_of}

-- input, output, and the disks of a node
abbrev pub outside_with : {D S K : Type 0} {disk : Disk D} → Source S → Sink K → Node D disk → S → K → Outside
outside_with source sink node input output = record {
  input = input_of source input;
  output = output_of sink output;
  disks = node_disks node;
}
