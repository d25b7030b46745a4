use Rattle.std.proofs.Common.{◌≡◌, ◌++◌, drop, string_bytes}
use Rattle.std.specs.List.{flat_map}
use Rattle.sb_rest.specs.ServerNumbers.{calls_line}
use Rattle.sb_rest.proofs.server_numbers.push_calls.Given as goal

-- so far before what is left gives all
abbrev pub invariant-loop-row : goal.invariant-loop-row
invariant-loop-row l = string_bytes l.out ++ flat_map calls_line (drop l.row-index l.rows) ≡ string_bytes l.fn.out ++ flat_map calls_line l.rows
