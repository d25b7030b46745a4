-- The endings that reading has.
use Rattle.sb_input.specs.declared.reader.ReadEnd.{ReadEnd}
use Rattle.sb_input.specs.declared.reader.ReadEnd.TheVariants.{Fault, OutOfMemory as NoMemory, TooMuch}
use Rattle.sb_client.specs.declared.ending.ClientEnding.{ClientEnding}
use Rattle.sb_client.specs.declared.ending.ClientEnding.TheVariants.{ReadFault, LongInput, OutOfMemory}

-- the ending of a run whose reading ended
abbrev pub end_of_reading : ReadEnd → ClientEnding
end_of_reading Fault = ReadFault
end_of_reading NoMemory = OutOfMemory
end_of_reading TooMuch = LongInput
