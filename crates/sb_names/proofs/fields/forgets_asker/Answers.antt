use Rattle.sb_names.proofs.fields.forgets_asker.Goals as goal

-- what holds of any number holds of the call's
pub returns : goal.returns
returns c = c.forgets_itself.ensures c.args.by.now.number
