use Rattle.std.proofs.Common.{◌≡◌, sym, true, false}
use Rattle.uuid.specs.Text.{parsed}
use Rattle.sb_lines.proofs.Parsed.{none_from}
use Rattle.sb_lines.proofs.token.uuid_of.Goals as goal

pub returns-in-Err : goal.returns-in-Err
returns-in-Err c = sym (none_from (parsed c.args.text.now) (λ u e. let wrong : false ≡ true = c.in-Err.ensures.ok.1 (u, e) in absurd cc))
