use Rattle.sb_machine.specs.Acts.{is_via_in}
use Rattle.sb_machine.proofs.Accepted.{changing_judged}
use Rattle.sb_codec.proofs.ActsAsked.{judged_asked, tick_asked}
use Rattle.sb_codec.proofs.Short.{judged_short, tick_short}
use Rattle.sb_codec.proofs.laws.journaled_calls.Goals as goal

pub returns-clause-judged : goal.returns-clause-judged
returns-clause-judged c is_via t call judged = (judged_asked is_via t call judged, judged_short is_via t call judged)

pub returns-clause-written : goal.returns-clause-written
returns-clause-written c s t call given = judged_asked (is_via_in s.space call.act) t call (changing_judged s t call given.consistent given.order given.changes)

pub returns-clause-short : goal.returns-clause-short
returns-clause-short c s t call given fits = judged_short (is_via_in s.space call.act) t call (changing_judged s t call given.consistent given.order given.changes) fits

pub returns-clause-ticks : goal.returns-clause-ticks
returns-clause-ticks c t = (tick_asked t, tick_short t)
