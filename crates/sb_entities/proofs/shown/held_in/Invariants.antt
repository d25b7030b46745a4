use Rattle.std.proofs.Common.{◌≡◌, ◌+◌, ◌≤◌, drop, filter, is_some, length}
use Rattle.sb_entities.proofs.shown.held_in.Given as goal

-- those counted so far, and those still to be counted, are all
abbrev pub invariant-loop-session : goal.invariant-loop-session
invariant-loop-session l = (l.count + length (filter (λ x. is_some x.holder) (drop l.session-index l.sessions)) ≡ length (filter (λ x. is_some x.holder) l.sessions)) × (l.count ≤ l.session-index)
