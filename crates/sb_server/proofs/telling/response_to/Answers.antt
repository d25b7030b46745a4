use Rattle.std.proofs.Common.{IfOk, sym, subst}
use Rattle.sb_server.specs.Doings.{Says}
use Rattle.sb_server.specs.declared.telling.Said.{Said}
use Rattle.sb_server.proofs.telling.response_to.Goals as goal

pub returns-in-Call : goal.returns-in-Call
returns-in-Call c = subst (λ (s : Said). IfOk c.call_bytes.result (λ v. Says s c.args.telling.now.closes v.items)) (sym c.in-Call.is) c.call_bytes.ensures
