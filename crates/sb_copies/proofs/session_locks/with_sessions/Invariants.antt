use Rattle.std.proofs.Common.{◌≡◌, ◌++◌, drop}
use Rattle.std.specs.List.{flat_map}
use Rattle.sb_copies.specs.UnderSession.{numbers_ended}
use Rattle.sb_copies.proofs.session_locks.with_sessions.Given as goal

-- those found so far, and those still to be found, are all
abbrev pub invariant-loop-session : goal.invariant-loop-session
invariant-loop-session l = l.found.items ++ flat_map (numbers_ended l.moment l.under.rows) (drop l.session-index l.sessions) ≡ l.initial.found.items ++ flat_map (numbers_ended l.moment l.under.rows) l.sessions
