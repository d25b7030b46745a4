use Rattle.sb_engine.proofs.engine.Engine.from_state.Goals as goal

-- what holds of a state is more than what memory asks of its namespace
pub from_space-requires : goal.from_space-requires
from_space-requires c = record {
  made = c.requires.made;
  numbers = c.requires.numbers;
  now = c.args.state.now;
  entities = c.requires.entities;
  transactions = c.requires.transactions;
}
