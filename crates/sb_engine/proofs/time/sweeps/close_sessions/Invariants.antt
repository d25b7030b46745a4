use Rattle.std.proofs.Common.{◌≡◌, ◌++◌, drop}
use Rattle.std.specs.List.{flat_map}
use Rattle.sb_machine.specs.Due.{closes_due}
use Rattle.sb_entities.specs.Stores.{entity_in}
use Rattle.sb_engine.proofs.time.sweeps.close_sessions.Given as goal

-- those closed so far, and those still to be closed, are all
abbrev pub invariant-loop-session : goal.invariant-loop-session
invariant-loop-session l =
    l.changes ++ flat_map (λ x. closes_due l.moment (entity_in l.entity) l.part x.holder) (drop l.session-index l.sessions)
    ≡ l.initial.changes ++ flat_map (λ x. closes_due l.moment (entity_in l.entity) l.part x.holder) l.sessions
