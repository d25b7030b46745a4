use Rattle.std.proofs.Common.{◌+◌, ◌<◌, length, subst, sym, arith}
use Rattle.std.proofs.lemmas.List.{length-drop}
use Rattle.sb_http.specs.Stages.{Left, Continues}
use Rattle.sb_http.specs.Buffers.{left_by}
use Rattle.sb_http.specs.declared.places.Next.TheVariants.{Data}
use Rattle.sb_http.proofs.BufferParts.{moved}
use Rattle.sb_http.proofs.Compact.{is_next}
use Rattle.sb_http.proofs.buffer.Buffer.step_data.Goals as goal

pub returns : goal.returns
returns c =
    let i = c.args.self.now in
    let old = i.bytes.items in
    let new = c.pull.new.bytes.items in
    subst (λ (l : Left). Continues (left_by Data i) l × (length l.bytes < length (left_by Data i).bytes)) (sym (is_next _ Data c.requires.next)) (
      moved old new i.start i.body i.done i.raw c.min-n.result i.begun i.decoded i.behind (omega arith) c.pull.ensures.front c.pull.ensures.others i.to_come (omega arith),
      omega (arith, length-drop i.raw old, length-drop (i.raw + c.min-n.result) new, c.pull.ensures.len),
    )
