-- The rows of one side of a tree.
use Rattle.std.specs.Prelude.{List, [], Option, Some, None}
use Rattle.std.specs.declared.alloc.Global.{Global}
use Rattle.std.specs.declared.boxed.Box.{Box}
use Rattle.sb_index.specs.declared.row.Row.{Row}

-- those of the tree that stands there
abbrev pub values : Option (Box (List Row) Global) → List Row
values None = []
values (Some b) = b.value
