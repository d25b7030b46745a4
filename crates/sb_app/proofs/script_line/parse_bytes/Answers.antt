use Rattle.std.proofs.Common.{◌≡◌, sym, subst}
use Rattle.std.specs.Result.{IfOk}
use Rattle.sb_app.specs.declared.script_line.ScriptLine.{ScriptLine}
use Rattle.sb_app.proofs.Saying.{text_said, bytes_said}
use Rattle.sb_app.proofs.script_line.parse_bytes.Goals as goal

pub returns-in-Ok-clause-says : goal.returns-in-Ok-clause-says
returns-in-Ok-clause-says c short =
    text_said c.args.line.now c.in-Ok.text.now c.parse_text.result (sym c.if-is_blank_line.ensures) short c.in-Ok.ensures.cases.0 c.in-Ok.ensures.cases.1 c.parse_text.ensures.says

pub returns-in-Err-clause-says : goal.returns-in-Err-clause-says
returns-in-Err-clause-says c short =
    subst (λ (y : ScriptLine). IfOk c.malformed.result (λ x. x ≡ y)) (bytes_said c.args.line.now (sym c.if-is_blank_line.ensures) short c.in-Err.ensures.cases.0) c.malformed.ensures
