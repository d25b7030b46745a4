use Rattle.std.proofs.Common.{◌≡◌, ◌+◌, drop}
use Rattle.std.specs.List.{sum_by}
use Rattle.sb_model.specs.Effects.{text_size}
use Rattle.sb_names.proofs.sizes.texts_size.Given as goal

abbrev pub invariant-sys : goal.invariant-sys
invariant-sys l = l.size + sum_by text_size (drop l.own-index l.sys) ≡ sum_by text_size l.sys
