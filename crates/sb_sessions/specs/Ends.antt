-- When the locks of sessions end.
use Rattle.std.specs.Prelude.{ℕ, min, List, map, Some, None}
use Rattle.std.specs.List.{fold}
use Rattle.sb_machine.specs.declared.state.Session.{Session}

-- the last moment that there is, where nothing ends
abbrev pub never : ℕ
never = 18446744073709551615

-- when the lock on a session ends, `never` where nobody holds it
abbrev pub end_of : Session → ℕ
end_of x = elim x.holder [ Some h ↦ min h.until never | None ↦ never ]

-- the least moment at which one of them ends
abbrev pub least_end : List Session → ℕ
least_end sessions = fold min never (map end_of sessions)
