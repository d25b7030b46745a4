use Rattle.std.proofs.Common.{rules, IfOk, Result, Ok, Err}
use Rattle.sb_http.specs.Responses.{said_in}
use Rattle.sb_server.proofs.telling.call_bytes.Goals as goal

-- what holds where it came off, so that more does
if_ok_so : {A E : Type 0} (P Q : A → Type 0) → ((a : A) → P a → Q a) → (r : Result A E) → IfOk r P → IfOk r Q
if_ok_so P Q so (Ok a) p = so a p
if_ok_so P Q so (Err e) p = tt

pub returns : goal.returns
returns c = if_ok_so _ _ (λ v is. (c.args.numbers.now, said_in c.in_ok-response.response, search rules, is)) c.bytes_of.result c.bytes_of.ensures
