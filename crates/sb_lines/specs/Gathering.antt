-- User properties that are gathered by their names: what a reading leaves.
use Rattle.std.specs.Prelude.{◌≡◌, Result, Ok, Err}
use Rattle.sb_lines.specs.declared.fault.KeyFault.{KeyFault}
use Rattle.sb_lines.specs.declared.fault.LineFault.{LineFault}
use Rattle.sb_lines.specs.declared.fault.LineFault.TheVariants.{BadKey, OutOfMemory}

-- what was read stands there now, or this key is at fault, or memory was wanting
abbrev pub Leaves : {T : Type 0} → Result (Unit {0}) LineFault → T → Result T KeyFault → Type 0
Leaves (Ok done) now said = said ≡ Ok now
Leaves (Err (BadKey fault)) now said = said ≡ Err fault
Leaves (Err OutOfMemory) now said = Unit {0}
