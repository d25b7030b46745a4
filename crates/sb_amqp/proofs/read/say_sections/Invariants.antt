use Rattle.std.proofs.Common.{◌≡◌, List, length}
use Rattle.sb_amqp.specs.Meaning.{sections_say, no_message}
use Rattle.sb_amqp.specs.Sections.{Section, AreSections, all_spelled}
use Rattle.sb_amqp.proofs.Left.{SectionsLeft}
use Rattle.sb_amqp.proofs.read.say_sections.Given as goal

-- what is left says the same of the message so far
abbrev pub invariant-loop-section : goal.invariant-loop-section
invariant-loop-section l = (ss : List Section) → AreSections ss → l.bytes ≡ all_spelled ss → SectionsLeft l.draft l.rest (sections_say no_message ss)

abbrev pub decreases-loop-section : goal.decreases-loop-section
decreases-loop-section l = length l.rest
