use Rattle.std.proofs.lemmas.Str.{IsUtf8-past_char, chars_past_char}
use Rattle.sb_rest.specs.Escapes.{ascii_json}
use Rattle.sb_rest.proofs.Escaping.{one_more, no_more}
use Rattle.sb_rest.proofs.escape.ascii_json.Goals as goal

pub loop-c-preserved : goal.loop-c-preserved
loop-c-preserved c =
    let held = c.loop-c.invariant in
    let parts = c.in-Some.ensures.steps.0 in
    (IsUtf8-past_char _ _ c.in-Some.c held.0 parts, one_more _ _ _ _ _ c.in-Some.c c.in_ok-push_char.ensures (chars_past_char _ _ c.in-Some.c held.0 parts) held.1)

pub returns : goal.returns
unfolding ascii_json
returns c = no_more _ _ _ c.in-None.ensures.steps.0.0 c.loop-c.invariant.1
