use Rattle.std.proofs.Common.{◌++◌}
use Rattle.sb_codec.specs.Forms.{◌then◌, number64}
use Rattle.sb_codec.specs.Messages.{message}
use Rattle.sb_snapshot.specs.Replies.{delivery, showing, shown}
use Rattle.sb_snapshot.proofs.Adding.{puts_then}
use Rattle.sb_snapshot.proofs.shown.ShownPiecePiece.put.Goals as goal

pub returns-clause-puts : goal.returns-clause-puts
unfolding shown
returns-clause-puts c =
    let x = c.args.value.now in
    let a = number64.spell x.number in
    let b = number64.spell x.enqueued_seq in
    let d = number64.spell x.enqueued in
    let rest = (delivery then showing then message).spell (x.delivery, (x.showing, x.message)) in
    let v1 = c.put.new.out in
    let v2 = c.put-2.new.out in
    let v3 = c.put-3.new.out in
    let v4 = c.put_rest.new.out in
    puts_then a (b ++ (d ++ rest)) c.args.out.now v1 v4 c.in_ok-put.ensures.puts (puts_then b (d ++ rest) v1 v2 v4 c.in_ok-put-2.ensures.puts (puts_then d rest v2 v3 v4 c.in_ok-put-3.ensures.puts c.in_ok-put_rest.ensures.puts))
