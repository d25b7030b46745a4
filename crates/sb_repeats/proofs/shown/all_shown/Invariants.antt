use Rattle.std.proofs.Common.{◌≡◌, ◌++◌, drop, map}
use Rattle.sb_machine.specs.Repeats.{client_shown}
use Rattle.sb_repeats.proofs.shown.all_shown.Given as goal

-- those shown so far, and those still to be shown, are all
abbrev pub invariant-loop-kept : goal.invariant-loop-kept
invariant-loop-kept l = l.shown ++ map client_shown (drop l.kept-index l.rows) ≡ map client_shown l.rows
