-- How the least moment moves where the end of one session does.
use Rattle.std.specs.Prelude.{◌≡◌, ℕ, min, List, Option, Some, None}
use Rattle.sb_machine.specs.declared.state.Session.{Session}
use Rattle.sb_sessions.specs.Ends.{least_end}

-- of those that are there now, one that ended at the one moment now ends at the other; before, the least was this
abbrev pub IsMoved : ℕ → Option ℕ → ℕ → List Session → Type 0
IsMoved least None end now = least ≡ least_end now
IsMoved least (Some was) end now = (others : ℕ) × (least ≡ min was others) × (least_end now ≡ min end others)
