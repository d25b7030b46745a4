-- In what order the lists of a call stand: whoever makes calls keeps it, no act tests it.
use Rattle.std.specs.Prelude.{[], None}
use Rattle.sb_machine.specs.Each.{Each}
use Rattle.sb_model.specs.Orders.{IsInOrder}
use Rattle.sb_machine.specs.declared.call.Act.{Act}
use Rattle.sb_machine.specs.declared.call.Act.TheVariants.{Send, CreateRule, Together}
use Rattle.sb_machine.specs.declared.call.FilterText.{FilterText}
use Rattle.sb_machine.specs.declared.call.FilterText.TheVariants.{Sql, Correlation}
use Rattle.sb_machine.specs.declared.call.Step.{Step}
use Rattle.sb_machine.specs.declared.call.Step.TheVariants.{Send as StepSend}
use Rattle.sb_model.specs.declared.message.Message.{Message}
use Rattle.sb_machine.specs.declared.rule.Conditions.{Conditions}

-- what a correlation filter asks for, as a message that has just this
abbrev pub asked_of : Conditions → Message
asked_of c = record { body = []; sys = c.sys; props = c.props; ttl = None; schedule = None }

-- a correlation filter's conditions stand in order
abbrev pub IsFilterInOrder : FilterText → Type 0
IsFilterInOrder (Sql text) = Unit {0}
IsFilterInOrder (Correlation c) = IsInOrder (asked_of c)

-- each message that one of the operations brings which act together
abbrev pub IsStepInOrder : Step → Type 0
IsStepInOrder (StepSend to messages) = Each IsInOrder messages
IsStepInOrder _ = Unit {0}

-- each message and each filter that an act brings
abbrev pub IsActInOrder : Act → Type 0
IsActInOrder (Send to messages txn) = Each IsInOrder messages
IsActInOrder (CreateRule topic subscription name asked action) = IsFilterInOrder asked
IsActInOrder (Together entity steps) = Each IsStepInOrder steps
IsActInOrder _ = Unit {0}
