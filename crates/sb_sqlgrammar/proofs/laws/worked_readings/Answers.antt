use Rattle.std.proofs.Common.{refl}
use Rattle.sb_model.specs.Reading.{filter_of, disjunction, conjunction, negation, condition, sum, product, sign, basic, name, listed, lower, action_of, after_verb, statements}
use Rattle.sb_sqlgrammar.proofs.laws.worked_readings.Goals as goal

pub returns : goal.returns
unfolding filter_of disjunction conjunction negation condition sum product sign basic name listed lower action_of after_verb statements
returns c = record { half = refl; twice = refl; deep = refl; deeper = refl; left = refl; or_and_not = refl; like = refl; in_items = refl; in_open = refl; exists = refl; exists_call = refl; action = refl; separators = refl; statements = refl }
