use Rattle.std.proofs.Common.{refl}
use Rattle.sb_model.specs.Reading.{filter_of, disjunction, conjunction, negation, condition, sum, product, sign, basic, name, listed, lower, action_of, after_verb, statements}
use Rattle.sb_model.specs.Texts.{read_text}
use Rattle.sb_model.specs.Tokens.{tokens_left, tokens_of}
use Rattle.sb_fanout.proofs.worked.selection_rows.Goals as goal

pub returns-clause-five : goal.returns-clause-five
unfolding read_text tokens_of tokens_left filter_of action_of after_verb statements disjunction conjunction negation condition sum product sign basic name listed lower
returns-clause-five c = refl

pub returns-clause-dead : goal.returns-clause-dead
unfolding read_text tokens_of tokens_left filter_of action_of after_verb statements disjunction conjunction negation condition sum product sign basic name listed lower
returns-clause-dead c = refl

pub returns-clause-dropped : goal.returns-clause-dropped
unfolding read_text tokens_of tokens_left filter_of action_of after_verb statements disjunction conjunction negation condition sum product sign basic name listed lower
returns-clause-dropped c = refl

pub returns-clause-not_acting : goal.returns-clause-not_acting
unfolding read_text tokens_of tokens_left filter_of action_of after_verb statements disjunction conjunction negation condition sum product sign basic name listed lower
returns-clause-not_acting c = refl

pub returns-clause-acting : goal.returns-clause-acting
unfolding read_text tokens_of tokens_left filter_of action_of after_verb statements disjunction conjunction negation condition sum product sign basic name listed lower
returns-clause-acting c = refl

pub returns-clause-unknown : goal.returns-clause-unknown
unfolding read_text tokens_of tokens_left filter_of action_of after_verb statements disjunction conjunction negation condition sum product sign basic name listed lower
returns-clause-unknown c = refl

pub returns-clause-not_unknown : goal.returns-clause-not_unknown
unfolding read_text tokens_of tokens_left filter_of action_of after_verb statements disjunction conjunction negation condition sum product sign basic name listed lower
returns-clause-not_unknown c = refl

pub returns-clause-null : goal.returns-clause-null
unfolding read_text tokens_of tokens_left filter_of action_of after_verb statements disjunction conjunction negation condition sum product sign basic name listed lower
returns-clause-null c = refl

pub returns-clause-correlated : goal.returns-clause-correlated
returns-clause-correlated c = refl

pub returns-clause-other_label : goal.returns-clause-other_label
returns-clause-other_label c = refl

pub returns-clause-other_number : goal.returns-clause-other_number
returns-clause-other_number c = refl

pub returns-clause-other_kind : goal.returns-clause-other_kind
returns-clause-other_kind c = refl

pub returns-clause-not_there : goal.returns-clause-not_there
returns-clause-not_there c = refl
