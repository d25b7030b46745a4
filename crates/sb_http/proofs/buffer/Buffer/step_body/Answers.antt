use Rattle.std.proofs.Common.{◌≡◌, ◌≤◌, arith}
use Rattle.sb_http.specs.Bodies.{max_body}
use Rattle.sb_http.proofs.Compact.{is_next}
use Rattle.sb_http.proofs.BufferParts.{body_message}
use Rattle.sb_http.proofs.buffer.Buffer.step_body.Goals as goal

pub returns-in-Some : goal.returns-in-Some
returns-in-Some c =
    let i = c.args.self.now in
    let x = rw c.part_of.ensures at c.in-Some.ensures in
    let plain : i.raw ≡ i.body = i.plain c.requires in
    let fits : i.to_come ≤ max_body = omega (arith, i.fits, i.decoded) in (
      is_next _ _ c.requires,
      record { head = x.0; begins = i.begun; has_body = omega (arith, plain); ends = omega arith; within = omega (arith, i.within) },
      body_message i.bytes.items _ i.body i.raw i.to_come _ plain x.1 fits (omega (arith, i.within)),
    )
