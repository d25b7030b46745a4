use Rattle.sb_laws.proofs.Gathering.{gathers_as_read}
use Rattle.sb_laws.proofs.laws.gathers_as_read.Goals as goal

pub returns : goal.returns
returns c s t path steps entities transactions once = gathers_as_read s t path steps entities transactions once
