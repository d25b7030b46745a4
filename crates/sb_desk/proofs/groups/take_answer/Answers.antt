use Rattle.std.proofs.Common.{rules, ◌≡◌, ◌++◌, [], ℕ, List, ap, sym, ◌∙◌, subst, Some, None}
use Rattle.sb_machine.specs.Consistent.{IsConsistent}
use Rattle.sb_machine.specs.History.{IsLegal}
use Rattle.sb_desk.specs.declared.post.Post.{Post}
use Rattle.sb_desk.specs.declared.post.Went.{Went}
use Rattle.sb_desk.specs.Groups.{IsTaken, posts_in}
use Rattle.sb_desk.specs.Lists.{HaveSeatsBelow}
use Rattle.sb_desk.specs.Posts.{post_entries}
use Rattle.sb_desk.specs.declared.view.Stage.TheVariants.{Turn}
use Rattle.sb_desk.specs.Rule.{ticket_of, posts_of}
use Rattle.sb_desk.specs.Spared.{Spares}
use Rattle.sb_desk.proofs.Kept.{kept_less}
use Rattle.sb_desk.proofs.Logs.{legal_seen, below_seen}
use Rattle.sb_desk.proofs.Posting.{taken_is, own_entries}
use Rattle.sb_desk.proofs.Sparing.{spares_seen}
use Rattle.sb_desk.proofs.groups.take_answer.Goals as goal

pub take_own-post-requires-clause-went : goal.take_own-post-requires-clause-went
take_own-post-requires-clause-went g c = c.requires.value.2.went

pub give_rest-requires-clause-value : goal.give_rest-requires-clause-value
give_rest-requires-clause-value g c =
    let v = c.args.place.now.me.0 in
    let t = c.take_own-post.ensures.taken in
    let kept = kept_less v.passes c.args.held.answered c.take_own-post.new.answered c.args.held.posts.items c.take_own-post.new.posts.items _ t.0 c.requires.value.2 t.1 t.4 t.3 in
    (c.requires.value.0, c.requires.value.1, search rules)

pub give_rest-requires-clause-post : goal.give_rest-requires-clause-post
give_rest-requires-clause-post g c =
    let v = c.args.place.now.me.0 in
    let posts : posts_in c.args.held ≡ posts_of v.stage = ap posts_of (sym c.requires.out.0) in
    (c.requires.mine.1.0, c.take_own-post.result, c.requires.mine.1.1, subst (λ (z : ℕ × List Post). IsTaken z.0 z.1 c.take_own-post.result c.take_own-post.new.posts.items) (λ i. (sym c.requires.mine.0 i, posts i)) c.take_own-post.ensures.own)

pub unwrap-answer-requires : goal.unwrap-answer-requires
unwrap-answer-requires g c = let went = c.take_own-post.ensures.went in search rules

pub returns-clause-collected : goal.returns-clause-collected
returns-clause-collected g c =
    let went : c.take_own-post.result.went ≡ Some c.unwrap-answer.result = search rules in
    let turn = c.give_rest.ensures.turn in
    let v = c.args.place.now.me.0 in
    let w : Went = c.unwrap-answer.result in
    let ask = c.requires.mine.1.0 in
    let post : v.post ≡ Some ask = c.requires.mine.1.1 in
    let posts : posts_in c.args.held ≡ posts_of v.stage = ap posts_of (sym c.requires.out.0) in
    let taken = subst (λ (z : ℕ × List Post). IsTaken z.0 z.1 c.take_own-post.result c.take_own-post.new.posts.items) (λ i. (sym c.requires.mine.0 i, posts i)) c.take_own-post.ensures.own in
    let same = taken_is v.seat (posts_of v.stage) c.take_own-post.new.posts.items c.take_own-post.result turn.0 taken turn.3 in
    let own = own_entries c.take_own-post.result turn.0 v.seat ask w same (turn.7 ask post) went in
    (ask, w.tick, turn.1, post, own.1, turn.5, turn.6 ∙ ap (λ z. (record v { seen = v.seen ++ (turn.1 ++ z); post = None; stage = Turn (ticket_of v.stage) }, [])) own.0)

pub returns-clause-legal : goal.returns-clause-legal
returns-clause-legal g c =
    let went : c.take_own-post.result.went ≡ Some c.unwrap-answer.result = search rules in
    let turn = c.give_rest.ensures.turn in
    let v = c.args.place.now.me.0 in
    let w : Went = c.unwrap-answer.result in
    let ask = c.requires.mine.1.0 in
    let posts : posts_in c.args.held ≡ posts_of v.stage = ap posts_of (sym c.requires.out.0) in
    let taken = subst (λ (z : ℕ × List Post). IsTaken z.0 z.1 c.take_own-post.result c.take_own-post.new.posts.items) (λ i. (sym c.requires.mine.0 i, posts i)) c.take_own-post.ensures.own in
    let same = taken_is v.seat (posts_of v.stage) c.take_own-post.new.posts.items c.take_own-post.result turn.0 taken turn.3 in
    let own = own_entries c.take_own-post.result turn.0 v.seat ask w same (turn.7 ask c.requires.mine.1.1) went in
    let stood = g.met.V.Served.legal _ _ _ c.requires.value.0 in
    let legal = legal_seen v.start _ v.seen turn.1 (post_entries turn.0) turn.2 v.seat w.tick ask.reading ask.call w.answer turn.4 own.0 stood.1 in
    subst (λ m. IsConsistent m.0.start × IsLegal m.0.start m.0.seen) (sym turn.6) (stood.0, legal)

pub returns-clause-spares : goal.returns-clause-spares
returns-clause-spares g c =
    let turn = c.give_rest.ensures.turn in
    let v = c.args.place.now.me.0 in
    subst (λ m. Spares g.V.Served.spared m.0.start m.0.seen) (sym turn.6)
    (spares_seen g.V.Served.spared v.start _ v.seen (turn.1 ++ post_entries turn.0) turn.2 turn.4 (g.met.V.Served.spares _ _ _ c.requires.value.0))

pub returns-clause-seats : goal.returns-clause-seats
returns-clause-seats g c =
    let turn = c.give_rest.ensures.turn in
    let v = c.args.place.now.me.0 in
    subst (λ m. HaveSeatsBelow m.0.passes m.0.seen) (sym turn.6)
    (below_seen v.passes _ v.seen (turn.1 ++ post_entries turn.0) turn.2 turn.4 c.requires.numbered)
