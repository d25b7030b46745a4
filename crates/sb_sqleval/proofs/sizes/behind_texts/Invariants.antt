use Rattle.std.proofs.Common.{◌≡◌, ◌+◌, take}
use Rattle.std.specs.List.{sum_by}
use Rattle.sb_model.specs.Effects.{text_size}
use Rattle.sb_sqleval.proofs.sizes.behind_texts.Given as goal

abbrev pub invariant-loop-system : goal.invariant-loop-system
invariant-loop-system l = l.left + sum_by text_size (take l.system-index l.sys) ≡ l.room
