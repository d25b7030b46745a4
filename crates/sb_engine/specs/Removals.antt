-- What goes with an entity, by what is listed of it.
use Rattle.std.specs.Prelude.{List, [], filter, if◌then◌else◌}
use Rattle.sb_machine.specs.Rows.{is_topic}
use Rattle.sb_machine.specs.Visits.{is_under}
use Rattle.sb_machine.specs.declared.state.Entity.{Entity}
use Rattle.sb_machine.specs.declared.state.Listed.{Listed}
use Rattle.sb_machine.specs.declared.state.Space.{Space}

-- a topic's subscriptions
abbrev pub goes_with : Space → Listed → List Entity
goes_with s about = if is_topic about.kind then filter (λ x. is_under about.path.name x.about) s.entities else []
