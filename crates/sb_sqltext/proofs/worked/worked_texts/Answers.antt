use Rattle.std.proofs.Common.{refl}
use Rattle.sb_model.specs.Reading.{filter_of, disjunction, conjunction, negation, condition, sum, product, sign, basic, name, listed, lower, action_of, after_verb, statements}
use Rattle.sb_model.specs.Tokens.{tokens_left, tokens_of}
use Rattle.sb_model.specs.Texts.{read_text}
use Rattle.sb_sqltext.proofs.worked.worked_texts.Goals as goal

pub returns-clause-left : goal.returns-clause-left
unfolding read_text tokens_of tokens_left filter_of action_of after_verb statements disjunction conjunction negation condition sum product sign basic name listed lower
returns-clause-left c = refl

pub returns-clause-or_and_not : goal.returns-clause-or_and_not
unfolding read_text tokens_of tokens_left filter_of action_of after_verb statements disjunction conjunction negation condition sum product sign basic name listed lower
returns-clause-or_and_not c = refl

pub returns-clause-quotes : goal.returns-clause-quotes
unfolding read_text tokens_of tokens_left filter_of action_of after_verb statements disjunction conjunction negation condition sum product sign basic name listed lower
returns-clause-quotes c = refl

pub returns-clause-like : goal.returns-clause-like
unfolding read_text tokens_of tokens_left filter_of action_of after_verb statements disjunction conjunction negation condition sum product sign basic name listed lower
returns-clause-like c = refl

pub returns-clause-in_items : goal.returns-clause-in_items
unfolding read_text tokens_of tokens_left filter_of action_of after_verb statements disjunction conjunction negation condition sum product sign basic name listed lower
returns-clause-in_items c = refl

pub returns-clause-action : goal.returns-clause-action
unfolding read_text tokens_of tokens_left filter_of action_of after_verb statements disjunction conjunction negation condition sum product sign basic name listed lower
returns-clause-action c = refl

pub returns-clause-filters_1 : goal.returns-clause-filters_1
unfolding read_text tokens_of tokens_left filter_of action_of after_verb statements disjunction conjunction negation condition sum product sign basic name listed lower
returns-clause-filters_1 c = refl

pub returns-clause-filters_2 : goal.returns-clause-filters_2
unfolding read_text tokens_of tokens_left filter_of action_of after_verb statements disjunction conjunction negation condition sum product sign basic name listed lower
returns-clause-filters_2 c = refl

pub returns-clause-filters_3 : goal.returns-clause-filters_3
unfolding read_text tokens_of tokens_left filter_of action_of after_verb statements disjunction conjunction negation condition sum product sign basic name listed lower
returns-clause-filters_3 c = refl

pub returns-clause-filters_4 : goal.returns-clause-filters_4
unfolding read_text tokens_of tokens_left filter_of action_of after_verb statements disjunction conjunction negation condition sum product sign basic name listed lower
returns-clause-filters_4 c = refl

pub returns-clause-actions_1 : goal.returns-clause-actions_1
unfolding read_text tokens_of tokens_left filter_of action_of after_verb statements disjunction conjunction negation condition sum product sign basic name listed lower
returns-clause-actions_1 c = refl

pub returns-clause-depths : goal.returns-clause-depths
unfolding read_text tokens_of tokens_left filter_of action_of after_verb statements disjunction conjunction negation condition sum product sign basic name listed lower
returns-clause-depths c = refl

pub returns-clause-counts : goal.returns-clause-counts
unfolding read_text tokens_of tokens_left filter_of action_of after_verb statements disjunction conjunction negation condition sum product sign basic name listed lower
returns-clause-counts c = refl

pub returns-clause-lengths : goal.returns-clause-lengths
unfolding read_text tokens_of tokens_left filter_of action_of after_verb statements disjunction conjunction negation condition sum product sign basic name listed lower
returns-clause-lengths c = refl
