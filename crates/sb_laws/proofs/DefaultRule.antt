-- The rule of a new subscription can be read.
use Rattle.std.proofs.Common.{refl}
use Rattle.sb_model.specs.Reading.{filter_of, disjunction, conjunction, negation, condition, sum, product, sign, basic, name, listed, lower}
use Rattle.sb_model.specs.Texts.{read_text}
use Rattle.sb_model.specs.Tokens.{tokens_left, tokens_of}
use Rattle.sb_machine.specs.Administration.{default_rule}
use Rattle.sb_machine.specs.Fit.{IsRule}

pub default_fits : IsRule default_rule
unfolding read_text tokens_of tokens_left filter_of disjunction conjunction negation condition sum product sign basic name listed lower
default_fits = record { name = refl; asked = refl; action = tt }
