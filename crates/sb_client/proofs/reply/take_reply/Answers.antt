use Rattle.std.proofs.Common.{refl}
use Rattle.sb_http.specs.WholeResponses.{told_by}
use Rattle.sb_client.proofs.Taken.{no_response, not_fine, no_line}
use Rattle.sb_client.proofs.reply.take_reply.Goals as goal

pub returns-in_default-clause-bad : goal.returns-in_default-clause-bad
returns-in_default-clause-bad c e = no_response c.args.bytes.now (c.in_default.ensures.none refl)

pub returns-then-response-ne200-clause-bad : goal.returns-then-response-ne200-clause-bad
returns-then-response-ne200-clause-bad c e = not_fine c.args.bytes.now (told_by c.in-Some.response) c.in-Some.ensures.some c.if-response-ne200.true

pub returns-in-Ok-None-clause-bad : goal.returns-in-Ok-None-clause-bad
returns-in-Ok-None-clause-bad c e = no_line c.args.bytes.now (told_by c.in-Some.response) c.in-Some.ensures.some (c.in-Ok-None.ensures.none c.in-Ok-None.field-0-is)
