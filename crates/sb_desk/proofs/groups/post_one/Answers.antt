use Rattle.std.proofs.Common.{rules, ◌≡◌, ◌<◌, ◌∷◌, ◌++◌, [], ap, sym, ◌∙◌, subst, refl, arith, Some, vec_capacity}
use Rattle.sb_desk.specs.declared.view.Ask.{Ask}
use Rattle.sb_desk.specs.Groups.{waiting_post, AreKept}
use Rattle.sb_desk.specs.Rule.{posts_of}
use Rattle.sb_desk.specs.Steps.{last_ask}
use Rattle.sb_desk.proofs.Kept.{kept_more}
use Rattle.sb_desk.proofs.Posting.{last_is}
use Rattle.sb_desk.proofs.groups.post_one.Goals as goal

pub add_post-requires : goal.add_post-requires
add_post-requires g c =
    let room = c.take_out-held.ensures.out.3.room (search rules) in
    let wide = c.take_out-held.ensures.value.1.room in
    record { room = omega (arith, room, wide) }

pub give_post-requires-clause-value : goal.give_post-requires-clause-value
give_post-requires-clause-value g c =
    let out = c.take_out-held.ensures.out in
    let before = c.wait.new.place.me.0 in
    let seat : before.seat ≡ c.args.seat = search rules in
    let low : c.args.seat < before.passes = omega (arith, seat, out.3.seat) in
    let passes : before.passes ≡ c.take_out-held.new.place.me.0.passes = ap (λ m. m.0.passes) (sym out.1) in
    let kept = kept_more before.passes c.take_out-held.result.answered c.take_out-held.result.posts.items c.add_post.new.posts.items _ _ _ c.take_out-held.ensures.value.1 c.add_post.ensures.items c.add_post.ensures.room refl c.requires.order low in
    (search rules, search rules, subst (λ n. AreKept n c.take_out-held.result.answered c.add_post.new.posts.items (vec_capacity c.add_post.new.posts)) passes kept)

pub give_post-requires-clause-post : goal.give_post-requires-clause-post
give_post-requires-clause-post g c =
    let ask : Ask = record { reading = c.args.reading; call = c.args.call } in
    let posts : c.take_out-held.result.posts.items ≡ posts_of c.take_out-held.new.place.me.0.stage = ap (λ m. posts_of m.0.stage) (sym c.take_out-held.ensures.out.1) in
    let seat : c.args.seat ≡ c.take_out-held.new.place.me.0.seat = search rules in
    (ask, c.add_post.ensures.items ∙ (λ i. posts i ++ waiting_post (seat i) ask ∷ []))

pub returns-clause-posted : goal.returns-clause-posted
returns-clause-posted g c =
    let asks : last_ask c.add_post.new.posts.items ≡ Some (record { reading = c.args.reading; call = c.args.call }) = ap last_ask c.add_post.ensures.items ∙ last_is c.take_out-held.result.posts.items _ in
    search rules
