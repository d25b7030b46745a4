use Rattle.std.proofs.Common.{◌≡◌, map, drop}
use Rattle.httparse.specs.Spans.{header_bytes}
use Rattle.sb_rest.specs.Batches.{has_media_type, has_media_type_from}
use Rattle.sb_rest.proofs.media.has_media_type_in.Given as goal

-- what is left decides from what the lines so far say
abbrev pub invariant-loop-line : goal.invariant-loop-line
invariant-loop-line l = has_media_type_from l.media l.so_far (map (header_bytes l.text) (drop l.line-index l.lines)) ≡ has_media_type l.media (map (header_bytes l.text) l.lines)
