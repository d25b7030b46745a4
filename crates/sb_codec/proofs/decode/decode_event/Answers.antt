use Rattle.std.proofs.Common.{arith}
use Rattle.sb_codec.proofs.Spelling.{is_found, is_only}
use Rattle.sb_codec.proofs.decode.decode_event.Goals as goal

pub returns-clause-found : goal.returns-clause-found
returns-clause-found c = is_found c.args.bytes.now c.decoded.result (λ i. omega (arith, c.type_inv.bytes i)) c.decoded.ensures

pub returns-clause-only : goal.returns-clause-only
returns-clause-only c = is_only c.args.bytes.now c.decoded.result c.decoded.ensures
