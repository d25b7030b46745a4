use Rattle.std.proofs.Common.{sym}
use Rattle.sb_rest.proofs.field.push_type.Goals as goal

pub returns-then-is_type : goal.returns-then-is_type
returns-then-is_type c = rw (sym c.if-is_type.ensures, sym c.as_bytes.ensures) c.push_field.ensures
