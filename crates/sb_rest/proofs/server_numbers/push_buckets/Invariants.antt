use Rattle.std.proofs.Common.{◌≡◌, ◌++◌, drop, string_bytes}
use Rattle.std.specs.List.{flat_map}
use Rattle.sb_rest.specs.ServerNumbers.{bucket_of}
use Rattle.sb_rest.proofs.server_numbers.push_buckets.Given as goal

-- so far before what is left gives all
abbrev pub invariant-loop-row : goal.invariant-loop-row
invariant-loop-row l = string_bytes l.out ++ flat_map bucket_of (drop l.row-index l.rows) ≡ string_bytes l.fn.out ++ flat_map bucket_of l.rows
