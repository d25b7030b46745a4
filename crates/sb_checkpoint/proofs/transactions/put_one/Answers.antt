use Rattle.std.proofs.Common.{◌++◌, length, subst, sym}
use Rattle.std.specs.Prelude.{OnOk}
use Rattle.std.specs.List.{All, flat_map}
use Rattle.std.proofs.lemmas.Result.{on_ok_weaker}
use Rattle.sb_codec.proofs.Following.{each_fits}
use Rattle.sb_codec.specs.Forms.{number32, number64}
use Rattle.sb_codec.specs.Messages.{any_next}
use Rattle.sb_snapshot.specs.Transactions.{transaction, operation}
use Rattle.sb_checkpoint.specs.Takings.{Takes}
use Rattle.sb_checkpoint.proofs.Fitting.{each_behind}
use Rattle.sb_checkpoint.proofs.Taking.{takes_then, four_then}
use Rattle.sb_checkpoint.proofs.transactions.put_one.Goals as goal

pub put_items-requires : goal.put_items-requires
unfolding transaction
put_items-requires g c = subst (All operation.Asks) (sym c.operations.ensures) (each_fits operation.Asks any_next c.args.txn.now.transaction.operations c.requires.1.1.1.1)

pub returns-clause-takes : goal.returns-clause-takes
unfolding transaction
returns-clause-takes g c =
    let t = c.args.txn.now.transaction in
    let a = number64.spell t.number in
    let b = number64.spell t.entity in
    let d = number64.spell t.deadline in
    let n = number32.spell (length t.operations) in
    let all = flat_map operation.spell t.operations in
    let Behind : _ → Type 0 = λ xs. Takes g.P.Pieces c.put_front.new.out c.put_items.new.out (flat_map operation.spell xs) c.put_items.result in
    let behind : Behind t.operations = subst Behind c.operations.ensures c.put_items.ensures.takes in
    subst (λ z. Takes g.P.Pieces c.args.out.now c.put_items.new.out z c.put_items.result) (four_then a b d n all)
    (takes_then g.P.Pieces c.args.out.now c.put_front.new.out c.put_items.new.out (a ++ (b ++ (d ++ n))) all c.put_items.result c.in_ok-put_front.ensures.takes behind)

pub returns-clause-fits : goal.returns-clause-fits
unfolding transaction
returns-clause-fits g c =
    let operations = c.args.txn.now.transaction.operations in
    let front = c.in_ok-put_front.ensures.fits in
    let each : OnOk c.put_items.result (All operation.Fits operations) = subst (λ xs. OnOk c.put_items.result (All operation.Fits xs)) c.operations.ensures c.put_items.ensures.fits in
    on_ok_weaker c.put_items.result (λ all. (front.0, (front.1.0, (front.1.1.0, (front.1.1.1, each_behind operation.Asks operation.Fits any_next operations c.requires.1.1.1.1 all))))) each
