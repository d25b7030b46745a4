use Rattle.std.proofs.Common.{◌≡◌, drop}
use Rattle.std.specs.List.{list_any}
use Rattle.sb_rest.specs.Callers.{is_named}
use Rattle.sb_rest.proofs.access.is_listed.Given as goal

-- none so far
abbrev pub invariant-loop-name : goal.invariant-loop-name
invariant-loop-name l = list_any (is_named l.host) (drop l.name-index l.hosts) ≡ list_any (is_named l.host) l.hosts
