-- What came of a connection and wasn't taken yet, whether there is memory for it or not.
use Rattle.std.specs.Prelude.{◌⊎◌, ℕ, List, [], Option, Some, None}
use Rattle.sb_http.specs.Causes.{Refuses}
use Rattle.sb_http.specs.Messages.{RequestMessage}
use Rattle.sb_http.specs.Stages.{Left, whole, Reads}
use Rattle.sb_http.specs.Streams.{Pending}
use Rattle.sb_http.specs.declared.fault.HttpFault.{HttpFault}

-- what is left of the bytes that came
pub record Untaken : Type 0 where
  pub left : Left

-- what is left where there is memory, and nothing where there is none
abbrev pub left_of : Option Pending → Left
left_of None = whole []
left_of (Some p) = p.left

-- what is left begins with a whole request, or is refused
abbrev pub HasAnswer : Left → Type 0
HasAnswer left = ((m : RequestMessage) × (rest : List ℕ) × Reads left m rest) ⊎ ((fault : HttpFault) × Refuses fault left)
