use Rattle.std.proofs.Common.{ℕ, ◌*◌, ◌%◌, ◌^◌, ap, sym, ◌∙◌}
use Rattle.std.proofs.lemmas.List.{length-map}
use Rattle.sb_entities.specs.Stores.{entities_in, entity_in}
use Rattle.sb_checkpoint.proofs.Each.{three_each}
use Rattle.sb_checkpoint.proofs.leaves.count_all.Goals as goal

pub returns : goal.returns
returns c = ap (λ (n : ℕ). n % 2 ^ 64) (sym (three_each (entities_in c.args.entities.now) ∙ ap (λ (n : ℕ). n * 3) (length-map c.args.entities.now entity_in)))
