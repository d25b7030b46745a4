use Rattle.std.proofs.Common.{refl}
use Rattle.sb_model.specs.Reading.{filter_of, disjunction, conjunction, negation, condition, sum, product, sign, basic, name, listed, lower, action_of, after_verb, statements}
use Rattle.sb_model.specs.Texts.{read_text}
use Rattle.sb_model.specs.Tokens.{tokens_left, tokens_of}
use Rattle.sb_fanout.proofs.worked.visit_rows.Goals as goal

pub returns-clause-by_name : goal.returns-clause-by_name
unfolding read_text tokens_of tokens_left filter_of action_of after_verb statements disjunction conjunction negation condition sum product sign basic name listed lower
returns-clause-by_name c = refl

pub returns-clause-back_and_forth : goal.returns-clause-back_and_forth
unfolding read_text tokens_of tokens_left filter_of action_of after_verb statements disjunction conjunction negation condition sum product sign basic name listed lower
returns-clause-back_and_forth c = refl

pub returns-clause-no_session : goal.returns-clause-no_session
returns-clause-no_session c = refl
