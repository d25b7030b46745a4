use Rattle.std.proofs.Common.{List, ap, sym, ◌∙◌, ◌∷◌}
use Rattle.sb_machine.specs.Together.{step_replies}
use Rattle.sb_machine.specs.declared.call.Step.{Step}
use Rattle.sb_machine.specs.declared.call.Step.TheVariants.{Send}
use Rattle.sb_model.specs.declared.message.Message.{Message}
use Rattle.sb_engine.proofs.acts.together.reply_to.Goals as goal

pub returns-in-Send : goal.returns-in-Send
returns-in-Send c xs =
    ap (λ (x : Step). step_replies (x ∷ xs) c.args.receipts.now.items) c.in-Send.is
    ∙ ap (λ (ms : List Message). step_replies (Send c.in-Send.to ms ∷ xs) c.args.receipts.now.items) (sym c.as_slice.ensures)
    ∙ c.receipts_of.ensures c.in-Send.to xs
