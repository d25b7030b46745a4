-- Texts worked through: which addresses they are.
use Rattle.std.specs.Prelude.{List, ℕ, Some, None}
use Rattle.sb_machine.specs.declared.call.Part.{Part}
use Rattle.sb_machine.specs.declared.call.Path.{Path}

-- a part of a queue or a topic
abbrev pub entity_part : List ℕ → Part → Path
entity_part name part = record { name = name; subscription = None; part = part }

-- a part of a subscription
abbrev pub subscription_part : List ℕ → List ℕ → Part → Path
subscription_part topic name part = record { name = topic; subscription = Some name; part = part }
