use Rattle.std.proofs.Common.{◌≡◌, drop, sum_by}
use Rattle.sb_model.specs.Effects.{text_size}
use Rattle.sb_judge.specs.Messages.{less}
use Rattle.sb_judge.proofs.messages.behind_texts.Given as goal

abbrev pub invariant-loop-own : goal.invariant-loop-own
invariant-loop-own l = less l.left (sum_by text_size (drop l.own-index l.sys)) ≡ less l.fn.left (sum_by text_size l.sys)
