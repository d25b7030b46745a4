use Rattle.std.proofs.Common.{◌∙◌, ap, refl}
use Rattle.std.specs.List.{list_any}
use Rattle.sb_index.specs.Rows.{is_at}
use Rattle.sb_repeats.proofs.Keys.{told_new}
use Rattle.sb_repeats.proofs.noting.tell.Goals as goal

pub returns-clause-told : goal.returns-clause-told
returns-clause-told c = λ k. ap (λ rows. list_any (is_at k) rows) c.insert.ensures.rows ∙ told_new c.args.key k _ c.args.known.now.rows refl
