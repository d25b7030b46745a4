use Rattle.std.proofs.Common.{refl}
use Rattle.sb_model.specs.Reading.{filter_of, disjunction, conjunction, negation, condition, sum, product, sign, basic, name, listed, lower, action_of, after_verb, statements}
use Rattle.sb_model.specs.Texts.{read_text}
use Rattle.sb_model.specs.Tokens.{tokens_left, tokens_of}
use Rattle.sb_fanout.proofs.worked.delivery_rows.Goals as goal

pub returns-clause-five : goal.returns-clause-five
unfolding read_text tokens_of tokens_left filter_of action_of after_verb statements disjunction conjunction negation condition sum product sign basic name listed lower
returns-clause-five c = refl

pub returns-clause-dead : goal.returns-clause-dead
unfolding read_text tokens_of tokens_left filter_of action_of after_verb statements disjunction conjunction negation condition sum product sign basic name listed lower
returns-clause-dead c = refl

pub returns-clause-dropped : goal.returns-clause-dropped
unfolding read_text tokens_of tokens_left filter_of action_of after_verb statements disjunction conjunction negation condition sum product sign basic name listed lower
returns-clause-dropped c = refl

pub returns-clause-six : goal.returns-clause-six
returns-clause-six c = refl

pub returns-clause-fifth : goal.returns-clause-fifth
returns-clause-fifth c = refl

pub returns-clause-sixth : goal.returns-clause-sixth
returns-clause-sixth c = refl

pub returns-clause-nowhere : goal.returns-clause-nowhere
returns-clause-nowhere c = refl

pub returns-clause-somewhere : goal.returns-clause-somewhere
returns-clause-somewhere c = refl
