-- What holds where bytes were refused.
use Rattle.std.specs.Prelude.{Result, Ok, Err}
use Rattle.sb_checkpoint.specs.declared.pieces.Unput.{Unput}
use Rattle.sb_checkpoint.specs.declared.pieces.Unput.TheVariants.{Memory, Refused}

-- P holds where who takes the bytes refused them
abbrev pub OnRefused : {T : Type 0} → Result T Unput → Type 0 → Type 0
OnRefused (Ok done) P = Unit {0}
OnRefused (Err Memory) P = Unit {0}
OnRefused (Err Refused) P = P
