use Rattle.std.proofs.Common.{rules}
use Rattle.sb_desk.proofs.desk.Desk.post.Goals as goal

pub invariant_of-result : goal.invariant_of-result
invariant_of-result g c = (search rules, record { idle = search rules; part = search rules; post = search rules; claims = search rules }, search rules)
