use Rattle.sb_sqleval.proofs.Turning.{starred, passed, retried}
use Rattle.sb_sqleval.proofs.likes.next_turn.Goals as goal

pub returns-in-Starred : goal.returns-in-Starred
returns-in-Starred c = starred c.args.escape c.args.places c.in-Starred.rest c.in-Starred.ensures c.requires

pub returns-in-Onward : goal.returns-in-Onward
returns-in-Onward c = passed c.args.escape c.args.places c.in-Onward.onward c.in-Onward.rest c.in-Onward.ensures c.requires

pub returns-in-Some-first_char : goal.returns-in-Some-first_char
returns-in-Some-first_char c = retried c.args.escape c.args.places c.in-Some.mark c.in-Some-first_char.next c.in-Some-first_char.field-0-0 c.in-Stuck.ensures c.in-Some.is c.in-Some-first_char.ensures.some
