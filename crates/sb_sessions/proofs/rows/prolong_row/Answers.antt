use Rattle.sb_machine.specs.Leaves.{is_held_under, prolonged_holder}
use Rattle.sb_machine.proofs.Places.{set_is, nothing_set}
use Rattle.sb_sessions.proofs.rows.prolong_row.Goals as goal

pub returns-in-Some-clause-rows : goal.returns-in-Some-clause-rows
returns-in-Some-clause-rows c = set_is (is_held_under c.args.lock) (λ x. record x { holder = prolonged_holder c.args.until x.holder }) c.in-Some.place c.args.rows.now.items _ c.prolong_at.new.rows.items c.deref.ensures.value c.in-Some.ensures c.prolong_at.ensures.rows

pub returns-in_default-clause-rows : goal.returns-in_default-clause-rows
returns-in_default-clause-rows c = nothing_set (is_held_under c.args.lock) (λ x. record x { holder = prolonged_holder c.args.until x.holder }) c.args.rows.now.items _ c.deref.ensures.value c.in_default.ensures
