-- Histories that go on.
use Rattle.std.proofs.Common.{List, [], ◌∷◌, ◌++◌}
use Rattle.sb_machine.specs.declared.history.Entry.{Entry}
use Rattle.sb_machine.specs.History.{Log, IsLegalFrom, after_entry, after_entries}

pub goes_on : (l : Log) (h more : List Entry) → IsLegalFrom l h → IsLegalFrom (after_entries l h) more → IsLegalFrom l (h ++ more)
goes_on l [] more legal here = here
goes_on l (e ∷ h) more legal here = (legal.0, goes_on (after_entry l e) h more legal.1 here)
