use Rattle.std.proofs.Common.{◌≡◌, ◌++◌}
use Rattle.std.specs.Char.{encode_utf8}
use Rattle.std.proofs.lemmas.Str.{chars_past_char}
use Rattle.sb_sqleval.proofs.likes.first_char.Goals as goal

pub returns-clause-some : goal.returns-clause-some
returns-clause-some c =
    let e : c.args.text.now ≡ encode_utf8 c.in_ok-first.first ++ c.as_str.result.now = cc (c.in_ok-first.ensures.steps.0, c.chars-left.ensures.rest, c.as_str.ensures) in
    chars_past_char c.args.text.now c.as_str.result.now c.in_ok-first.first c.utf8.text e
