use Rattle.std.proofs.Common.{◌≡◌}
use Rattle.form_urlencoded.specs.Parse.{raw_pairs_left}
use Rattle.sb_rest.specs.Queries.{value_among, value_of}
use Rattle.sb_rest.proofs.query.value_of.Given as goal

-- none of those before has the name
abbrev pub invariant-loop-encoded : goal.invariant-loop-encoded
invariant-loop-encoded l = value_among l.name (raw_pairs_left l.encoded-iterator) ≡ value_of l.name l.query
