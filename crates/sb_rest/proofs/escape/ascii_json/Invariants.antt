use Rattle.std.proofs.Common.{◌≡◌, ◌++◌, flat_map, IsUtf8, chars}
use Rattle.std.specs.Str.Iter.{chars_rest}
use Rattle.sb_rest.specs.Escapes.{escaped}
use Rattle.sb_rest.proofs.escape.ascii_json.Given as goal

-- so far before what is left gives all
abbrev pub invariant-loop-c : goal.invariant-loop-c
invariant-loop-c l = IsUtf8 (chars_rest l.c-iterator) × (l.out.items ++ flat_map escaped (chars (chars_rest l.c-iterator)) ≡ flat_map escaped (chars l.fn.text))
