use Rattle.std.proofs.Common.{rules, ◌≡◌, ◌<◌, ◌==◌, length, Some, arith}
use Rattle.std.specs.List.{position, position_or_len}
use Rattle.sb_desk.specs.declared.post.Post.{Post}
use Rattle.sb_desk.proofs.Kept.{position_is, position_at, taken_at, went_at}
use Rattle.sb_desk.proofs.groups.take_own.Goals as goal

pub unwrap-at-requires : goal.unwrap-at-requires
unwrap-at-requires c =
    let lt : position_or_len (λ (p : Post). p.seat == c.args.seat) c.args.posts.now.items < length c.args.posts.now.items = omega (arith, c.requires.within, c.requires.mine) in
    let at : position (λ (p : Post). p.seat == c.args.seat) c.args.posts.now.items ≡ Some (position_or_len (λ (p : Post). p.seat == c.args.seat) c.args.posts.now.items) = position_is c.args.seat c.args.posts.now.items lt in
    search rules

pub returns-clause-taken : goal.returns-clause-taken
returns-clause-taken c =
    let at : position (λ (p : Post). p.seat == c.args.seat) c.args.posts.now.items ≡ Some c.unwrap-at.result = search rules in
    let is = position_at c.args.seat c.args.posts.now.items c.unwrap-at.result at in
    let lt : c.unwrap-at.result < c.args.answered.now = search rules in
    (c.unwrap-at.result, lt, at, search rules, search rules)

pub returns-clause-own : goal.returns-clause-own
returns-clause-own c =
    let at : position (λ (p : Post). p.seat == c.args.seat) c.args.posts.now.items ≡ Some c.unwrap-at.result = search rules in
    taken_at c.args.seat c.args.posts.now.items c.unwrap-at.result c.remove.result c.remove.new.self.items at c.remove.ensures.value c.remove.ensures.items

pub returns-clause-went : goal.returns-clause-went
returns-clause-went c =
    let at : position (λ (p : Post). p.seat == c.args.seat) c.args.posts.now.items ≡ Some c.unwrap-at.result = search rules in
    let is = position_at c.args.seat c.args.posts.now.items c.unwrap-at.result at in
    let lt : c.unwrap-at.result < c.args.answered.now = search rules in
    went_at c.args.posts.now.items c.args.answered.now c.unwrap-at.result c.remove.result c.requires.went c.requires.within lt c.remove.ensures.value
