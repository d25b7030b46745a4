use Rattle.std.proofs.Common.{refl}
use Rattle.sb_machine.specs.Leaves.{is_deferred}
use Rattle.sb_machine.specs.declared.state.Standing.TheVariants.{Held}
use Rattle.sb_entities.proofs.Leading.{holds_changed}
use Rattle.sb_entities.proofs.heads.hold.Goals as goal

pub returns-clause-heads : goal.returns-clause-heads
returns-clause-heads c =
    holds_changed c.args.number (λ x. record x { standing = Held c.args.lock c.args.hold (is_deferred x.standing) }) c.first_at-first.result c.head_at-head.result c.args.copies.now.heads c.forget.new.copies.heads c.hold.new.self.heads c.tell.new.copies.heads c.args.copies.now.copies c.forget.new.copies.copies c.hold.new.self.copies c.tell.new.copies.copies c.args.sessions.now.sessions
    (λ x. refl) (λ x. refl) c.rises.ensures c.rises-2.ensures c.requires.below c.requires.heads c.first_at-first.ensures c.forget.ensures.heads c.forget.ensures.copies c.hold.ensures.heads c.hold.ensures.copies c.head_at-head.ensures c.tell.ensures.heads c.tell.ensures.copies
