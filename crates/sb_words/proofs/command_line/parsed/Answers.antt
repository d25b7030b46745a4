use Rattle.std.proofs.Common.{List, map}
use Rattle.clap.specs.Words.{Text, app_of}
use Rattle.sb_words.proofs.Forms.{fails}
use Rattle.sb_words.proofs.command_line.parsed.Goals as goal

pub returns-clause-fault : goal.returns-clause-fault
returns-clause-fault c =
    let words : List Text = map (λ w. w.now) c.args.words.now in
    fails (app_of c.in_ok-command_line.field-0) words c.try_get_matches_from.result c.in_ok-command_line.ensures c.try_get_matches_from.ensures.kinds
