-- Laws of the machine, over all states and histories.
use Rattle.std.specs.Prelude.{List, ◌++◌}
use Rattle.sb_machine.specs.History.{Log, IsLegalFrom, after_entries}
use Rattle.sb_machine.specs.declared.history.Entry.{Entry}

-- a legal history goes on by entries that are legal behind it
abbrev pub GoesOn : Type 0
GoesOn = (l : Log) (h more : List Entry) → IsLegalFrom l h → IsLegalFrom (after_entries l h) more → IsLegalFrom l (h ++ more)
