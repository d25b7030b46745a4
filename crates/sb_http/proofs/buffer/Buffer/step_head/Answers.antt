use Rattle.std.proofs.Common.{◌+◌, ◌≤◌, length, drop, arith}
use Rattle.std.proofs.lemmas.List.{length-drop}
use Rattle.sb_http.proofs.BufferParts.{sized_head, sized_message, sized_stage, chunked_head, fewer}
use Rattle.sb_http.proofs.Compact.{is_next}
use Rattle.sb_http.proofs.buffer.Buffer.step_head.Goals as goal

pub returns-then-size-len : goal.returns-then-size-len
returns-then-size-len c =
    let i = c.args.self.now in
    let x = rw (c.in-Sized.is, c.rest_of.ensures) at c.in_ok-judge_head.ensures in
    let r = c.in-Sized.head in
    let there : r.len + c.in-Sized.size ≤ length (drop i.start i.bytes.items) = omega (arith, length-drop i.start i.bytes.items, x.0.within.section.len_fits) in (
      is_next _ _ c.requires,
      record { head = sized_head i.bytes.items c.judge_head.new.spans r i.start c.in-Sized.size x.0.within there; begins = omega arith; has_body = omega arith; ends = omega arith; within = omega (arith, there, length-drop i.start i.bytes.items, i.within, i.begun, i.decoded, i.behind) },
      sized_message i.bytes.items c.judge_head.new.spans r i.start c.in-Sized.size x.0 x.1 x.2 there,
    )

pub returns-else-size-len : goal.returns-else-size-len
returns-else-size-len c =
    let i = c.args.self.now in
    let x = rw (c.in-Sized.is, c.rest_of.ensures) at c.in_ok-judge_head.ensures in
    (sized_stage i.bytes.items c.judge_head.new.spans c.in-Sized.head i.start c.in-Sized.size x.0 x.1, fewer i.bytes.items i.start c.in-Sized.head.len x.0.some x.0.within.section.len_fits)

pub returns-in-Chunked : goal.returns-in-Chunked
returns-in-Chunked c =
    let i = c.args.self.now in
    let x = rw (c.in-Chunked.is, c.rest_of.ensures) at c.in_ok-judge_head.ensures in
    (chunked_head i.bytes.items c.judge_head.new.spans c.in-Chunked.head i.start x.0 x.1, fewer i.bytes.items i.start c.in-Chunked.head.len x.0.some x.0.within.section.len_fits)
