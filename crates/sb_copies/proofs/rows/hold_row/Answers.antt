use Rattle.std.proofs.Common.{refl}
use Rattle.sb_machine.specs.Leaves.{is_deferred}
use Rattle.sb_machine.specs.declared.state.Standing.TheVariants.{Held}
use Rattle.sb_copies.proofs.SlotChanges.{stood_led, unstood_led}
use Rattle.sb_copies.proofs.rows.hold_row.Goals as goal

pub returns-in-Some-clause-copies : goal.returns-in-Some-clause-copies
returns-in-Some-clause-copies c = stood_led c.from.result c.args.number (λ x. record x { standing = Held c.args.lock c.args.hold (is_deferred x.standing) }) (λ x. refl) c.args.slots.now c.hold_at.new.slots c.in-Some.row c.args.order.now.rows c.from.ensures c.requires c.rises.ensures c.in-Some.ensures c.hold_at.ensures.stands c.hold_at.ensures.others

pub returns-in_default-clause-copies : goal.returns-in_default-clause-copies
returns-in_default-clause-copies c = unstood_led c.from.result c.args.number (λ x. record x { standing = Held c.args.lock c.args.hold (is_deferred x.standing) }) c.args.slots.now c.args.order.now.rows c.from.ensures c.requires c.in_default.ensures
