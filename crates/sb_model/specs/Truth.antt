-- The tables of AND, OR and NOT over true, false and unknown.
use Rattle.std.specs.Prelude.{Bool, true, false}
use Rattle.sb_model.specs.declared.truth.Truth.{Truth}
use Rattle.sb_model.specs.declared.truth.Truth.TheVariants.{True, False, Unknown}

-- true or false, and not unknown
abbrev pub known : Bool → Truth
known true = True
known false = False

-- what NOT makes of each
abbrev pub truth_not : Truth → Truth
truth_not True = False
truth_not False = True
truth_not Unknown = Unknown

-- false where one side is false, true where both are true
abbrev pub truth_and : Truth → Truth → Truth
truth_and False b = False
truth_and True b = b
truth_and Unknown False = False
truth_and Unknown True = Unknown
truth_and Unknown Unknown = Unknown

-- true where one side is true, false where both are false
abbrev pub truth_or : Truth → Truth → Truth
truth_or True b = True
truth_or False b = b
truth_or Unknown True = True
truth_or Unknown False = Unknown
truth_or Unknown Unknown = Unknown
