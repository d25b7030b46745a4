use Rattle.std.proofs.Common.{◌≡◌, ◌++◌, drop, filter, map}
use Rattle.sb_machine.specs.Looks.{is_behind}
use Rattle.sb_entities.proofs.session_list.ids_behind.Given as goal

-- those found so far, and those still to be found, are all
abbrev pub invariant-loop-session : goal.invariant-loop-session
invariant-loop-session l = map (λ t. t.now) l.ids.items ++ filter (is_behind l.after) (map (λ x. x.id) (drop l.session-index l.sessions)) ≡ filter (is_behind l.after) (map (λ x. x.id) l.sessions)
