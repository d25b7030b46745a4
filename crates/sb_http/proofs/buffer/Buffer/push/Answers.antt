use Rattle.std.proofs.Common.{refl}
use Rattle.sb_http.proofs.Compact.{pushed}
use Rattle.sb_http.proofs.buffer.Buffer.push.Goals as goal

pub returns : goal.returns
returns c = pushed c.args.self.now _ _ _ c.append.ensures.items refl refl refl refl refl
