use Rattle.std.proofs.Common.{subst, arith}
use Rattle.sb_amqp.specs.Reads.{Checked}
use Rattle.sb_amqp.proofs.Only.{bad_only, told, told_only}
use Rattle.sb_amqp.proofs.Standing.{found_in_order}
use Rattle.sb_amqp.proofs.Agreed.{bad_none, is_found}
use Rattle.sb_amqp.proofs.read.read_message.Goals as goal

pub returns-in-Ok-clause-only : goal.returns-in-Ok-clause-only
returns-in-Ok-clause-only c =
    let checked = subst (Checked c.args.bytes.now) c.in-Ok.is c.check_sections.ensures in
    told_only c.args.bytes.now checked.0 c.said_message.result checked.1 c.said_message.ensures

pub returns-in-Ok-clause-value : goal.returns-in-Ok-clause-value
returns-in-Ok-clause-value c =
    let checked = subst (Checked c.args.bytes.now) c.in-Ok.is c.check_sections.ensures in
    is_found c.args.bytes.now c.said_message.result (λ i. omega (arith, c.type_inv.bytes i)) (told c.args.bytes.now checked.0 c.said_message.result checked.1 (c.said_message.ensures checked.0 checked.1))

pub returns-in-Ok-clause-in_order : goal.returns-in-Ok-clause-in_order
returns-in-Ok-clause-in_order c =
    let checked = subst (Checked c.args.bytes.now) c.in-Ok.is c.check_sections.ensures in
    found_in_order c.args.bytes.now c.said_message.result
    (is_found c.args.bytes.now c.said_message.result (λ i. omega (arith, c.type_inv.bytes i)) (told c.args.bytes.now checked.0 c.said_message.result checked.1 (c.said_message.ensures checked.0 checked.1)))

pub returns-in-Err-clause-only : goal.returns-in-Err-clause-only
returns-in-Err-clause-only c = bad_only c.args.bytes.now c.in-Err.at c.in-Err.ensures

pub returns-in-Err-clause-value : goal.returns-in-Err-clause-value
returns-in-Err-clause-value c = bad_none c.args.bytes.now c.in-Err.at (λ i. omega (arith, c.type_inv.bytes i)) c.in-Err.ensures
