use Rattle.std.proofs.Common.{rules, ◌≡◌, ◌==◌, Some, arith}
use Rattle.std.specs.List.{position, position_or_len}
use Rattle.sb_desk.specs.declared.post.Post.{Post}
use Rattle.sb_desk.proofs.Kept.{stands_among, position_is, position_at}
use Rattle.sb_desk.proofs.groups.answered.Goals as goal

pub unwrap-at-requires : goal.unwrap-at-requires
unwrap-at-requires g c =
    let v = c.args.place.now.me.0 in
    let posts = c.args.held.posts.items in
    let lt = stands_among v.seat c.args.seat _ posts v.seen v.post c.requires.mine.1.0 c.requires.knows.front c.requires.mine.0 c.requires.mine.1.1 in
    let at : position (λ (p : Post). p.seat == c.args.seat) posts ≡ Some (position_or_len (λ (p : Post). p.seat == c.args.seat) posts) = position_is c.args.seat posts lt in
    search rules

pub returns-then-at-held-clause-answered : goal.returns-then-at-held-clause-answered
returns-then-at-held-clause-answered g c =
    let at : position (λ (p : Post). p.seat == c.args.seat) c.args.held.posts.items ≡ Some c.unwrap-at.result = search rules in
    let is = position_at c.args.seat c.args.held.posts.items c.unwrap-at.result at in
    search rules

pub returns-clause-answered : goal.returns-clause-answered
returns-clause-answered g c =
    let v = c.args.place.now.me.0 in
    let out = c.lead.ensures.out in
    let lt = stands_among v.seat c.args.seat out.0 c.lead.result.posts.items v.seen v.post c.requires.mine.1.0 out.3.front c.requires.mine.0 c.requires.mine.1.1 in
    omega (arith, lt, c.lead.ensures.all)
