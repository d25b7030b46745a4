use Rattle.std.proofs.Common.{◌∙◌, List, map, sym, ap}
use Rattle.std.specs.Prelude.{option_map}
use Rattle.clap.specs.Words.{Text}
use Rattle.sb_words.specs.Words.{form_value}
use Rattle.sb_words.proofs.Forms.{refused, taken}
use Rattle.sb_words.proofs.words.read_form.Goals as goal

pub returns-in-Err-clause-bad : goal.returns-in-Err-clause-bad
returns-in-Err-clause-bad c bad =
    let words : List Text = map (λ w. w.now) c.args.words.now in
    refused words c.in-Err.error c.in-Err.ensures.fault (c.words_fault.ensures bad)

pub returns-in-Ok-Some-clause-ok : goal.returns-in-Ok-Some-clause-ok
returns-in-Ok-Some-clause-ok c =
    let words : List Text = map (λ w. w.now) c.args.words.now in
    taken words c.in-Ok.matches c.in-Ok.ensures.fault c.in-Ok.ensures.found ∙ sym c.in-Ok-Some.ensures ∙ ap (option_map form_value) c.in-Ok-Some.field-0-is

pub returns-in-Ok-None-clause-bad : goal.returns-in-Ok-None-clause-bad
returns-in-Ok-None-clause-bad c bad =
    let words : List Text = map (λ w. w.now) c.args.words.now in
    taken words c.in-Ok.matches c.in-Ok.ensures.fault c.in-Ok.ensures.found ∙ sym c.in-Ok-None.ensures ∙ ap (option_map form_value) c.in-Ok-None.field-0-is
