use Rattle.std.proofs.Common.{◌≡◌, ◌<◌}
use Rattle.sb_input.specs.Limits.{max_input}
use Rattle.sb_input.specs.Readers.{work_of}
use Rattle.sb_client.specs.Outside.{outside_of}
use Rattle.sb_client.specs.Runs.{RunsSoFar}
use Rattle.sb_client.proofs.running.run_lines.Given as goal

-- the lines so far were answered, with no fault
abbrev pub invariant-lines : goal.invariant-lines
invariant-lines g l = record {
  so_far : RunsSoFar (outside_of l.fn.key g.N.Link g.S.Source g.K.Sink l.fn.link l.fn.source l.fn.sink) (g.S.Source.left l.source) (g.N.Link.told l.link) (g.K.Sink.given l.sink) l.reader l.refused;
  fits : l.reader.taken < max_input;
  read_same : g.S.Source.count l.source ≡ g.S.Source.count l.fn.source;
  link_same : g.N.Link.count l.link ≡ g.N.Link.count l.fn.link;
  write_same : g.K.Sink.count l.sink ≡ g.K.Sink.count l.fn.sink;
}

abbrev pub decreases-lines : goal.decreases-lines
decreases-lines g l = work_of l.reader
