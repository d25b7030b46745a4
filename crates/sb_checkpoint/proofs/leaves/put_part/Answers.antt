use Rattle.std.proofs.Common.{◌<◌, ◌^◌, Ok, ℕ, ◌++◌, length, subst}
use Rattle.std.specs.List.{flat_map}
use Rattle.std.proofs.lemmas.Result.{on_ok_weaker}
use Rattle.sb_codec.proofs.Following.{each_fits}
use Rattle.sb_codec.specs.Forms.{number64}
use Rattle.sb_snapshot.specs.Copies.{copy, is_next_copy}
use Rattle.sb_snapshot.specs.Sessions.{key, leaf}
use Rattle.sb_checkpoint.specs.Takings.{Takes}
use Rattle.sb_checkpoint.proofs.Fitting.{each_behind}
use Rattle.sb_checkpoint.proofs.Taking.{takes_then, three_then}
use Rattle.sb_checkpoint.proofs.leaves.put_part.Goals as goal

pub put_copies-requires : goal.put_copies-requires
unfolding leaf
put_copies-requires g c = each_fits copy.Asks is_next_copy c.args.copies.now.copies c.requires.1.1

pub returns-clause-takes : goal.returns-clause-takes
unfolding leaf
returns-clause-takes g c =
    let a = key.spell c.args.key.now in
    let b = number64.spell c.args.last in
    let n = number64.spell (length c.args.copies.now.copies) in
    let all = flat_map copy.spell c.args.copies.now.copies in
    let Front : ℕ → Type 0 = λ k. Takes g.P.Pieces c.args.out.now c.put_front.new.out (a ++ (b ++ number64.spell k)) (Ok tt) in
    let front : Front (length c.args.copies.now.copies) = subst Front c.size.ensures c.in_ok-put_front.ensures.takes in
    subst (λ z. Takes g.P.Pieces c.args.out.now c.put_copies.new.out z c.put_copies.result) (three_then a b n all)
    (takes_then g.P.Pieces c.args.out.now c.put_front.new.out c.put_copies.new.out (a ++ (b ++ n)) all c.put_copies.result front c.put_copies.ensures.takes)

pub returns-clause-fits : goal.returns-clause-fits
unfolding leaf
returns-clause-fits g c =
    let copies = c.args.copies.now.copies in
    let front = c.in_ok-put_front.ensures.fits in
    let few : length copies < 2 ^ 64 = subst (λ (n : ℕ). n < 2 ^ 64) c.size.ensures front.1.1 in
    on_ok_weaker c.put_copies.result (λ all. (front.0, (front.1.0, (few, each_behind copy.Asks copy.Fits is_next_copy copies c.requires.1.1 all)))) c.put_copies.ensures.fits
