-- What reading a text came to, against what it is read as.
use Rattle.std.specs.Prelude.{◌≡◌, ℕ, Result, Ok, Err}
use Rattle.sb_machine.specs.declared.reply.Refusal.{Refusal}
use Rattle.sb_machine.specs.declared.reply.Refusal.TheVariants.{BadFilter, OutOfMemory}
use Rattle.sb_sqltext.specs.declared.texts.ParseFault.{ParseFault}
use Rattle.sb_sqltext.specs.declared.texts.ParseFault.TheVariants as fault

-- what it is kept as, or the place of its fault; want of memory may come in place of each
abbrev pub Reads : {Y : Type 0} → Result Y ParseFault → Result Y ℕ → Type 0
Reads (Ok y) said = said ≡ Ok y
Reads (Err (fault.At place)) said = said ≡ Err place
Reads (Err fault.OutOfMemory) said = Unit {0}

-- how an act is refused for it
abbrev pub refusal_in : ParseFault → Refusal
refusal_in (fault.At place) = BadFilter place
refusal_in fault.OutOfMemory = OutOfMemory
