use Rattle.std.proofs.Common.{◌≡◌, ◌<◌, None}
use Rattle.sb_machine.specs.Consistent.{IsConsistent}
use Rattle.sb_journal.specs.Disks.{AreQuiet, SameHonesty}
use Rattle.sb_node.specs.Nodes.{node_state, node_stopped, node_aside, node_disks, IsKept}
use Rattle.sb_input.specs.Limits.{max_input}
use Rattle.sb_app.specs.Jumps.{AllWithin}
use Rattle.sb_app.specs.Lines.{script_lines}
use Rattle.sb_input.specs.Readers.{work_of}
use Rattle.sb_app.specs.Runs.{RunsSoFar, FollowLines}
use Rattle.sb_app.proofs.running.run_script.Given as goal

-- the lines so far were answered, and the node goes on
abbrev pub invariant-lines : goal.invariant-lines
invariant-lines g l = record {
  so_far : RunsSoFar (node_state l.fn.node) (g.S.Source.left l.fn.input) (g.S.Source.left l.input) (g.K.Sink.given l.fn.output) (g.K.Sink.given l.output) l.reader (node_state l.node) l.refused;
  moments : IsKept l.fn.node → FollowLines (node_state l.fn.node) (script_lines so_far.done) (node_disks l.fn.node) (node_disks l.node);
  within : AllWithin (g.C.Clock.reads l.clock) l.fn.max_jump (script_lines so_far.done);
  fits : l.reader.taken < max_input;
  running : node_stopped l.node ≡ None;
  consistent : IsConsistent (node_state l.node);
  safe : IsKept l.fn.node → IsKept l.node;
  read_same : g.S.Source.count l.input ≡ g.S.Source.count l.fn.input;
  write_same : g.K.Sink.count l.output ≡ g.K.Sink.count l.fn.output;
  disk_same : AreQuiet (node_disks l.fn.node) (node_disks l.node);
  honesty : SameHonesty (node_disks l.fn.node) (node_disks l.node);
  aside : node_aside l.node ≡ node_aside l.fn.node;
}

abbrev pub decreases-lines : goal.decreases-lines
decreases-lines g l = work_of l.reader
