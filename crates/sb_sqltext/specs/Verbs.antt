-- Which statement a flag of the code means.
use Rattle.std.specs.Prelude.{Bool, true, false}
use Rattle.sb_model.specs.Reading.{Verb, sets, removes}

-- SET or REMOVE
abbrev pub verb_for : Bool → Verb
verb_for true = sets
verb_for false = removes
