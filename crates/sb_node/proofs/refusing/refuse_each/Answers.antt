use Rattle.std.proofs.Common.{◌≡◌, List, true, refl, ◌∙◌, subst}
use Rattle.std.specs.List.{All}
use Rattle.std.specs.Prelude.{is_some}
use Rattle.std.proofs.lemmas.List.Elements.{All-nil}
use Rattle.sb_desk.specs.Posts.{asked_of, group_entries}
use Rattle.sb_desk.specs.declared.post.Post.{Post}
use Rattle.sb_node.specs.Posts.{refused_entries}
use Rattle.sb_node.proofs.Posts.{all_taken, all_taken_on, map_set, within}
use Rattle.sb_node.proofs.Refused.{more_refused}
use Rattle.sb_node.proofs.refusing.refuse_each.Goals as goal

pub loop-post-init : goal.loop-post-init
loop-post-init c = record {
  refused = refl;
  asked = refl;
  went = All-nil (λ (p : Post). is_some p.went ≡ true);
}

pub loop-post-preserved : goal.loop-post-preserved
loop-post-preserved c =
    let posts = c.loop-post.posts in
    let i = c.loop-post.post-index in
    let is = c.loop-post.invariant in
    let post = c.refuse.new.post in
    let lt = within posts c.args.posts.now i is.asked c.loop-post-test.true in
    record {
      refused = more_refused c.args.stopped posts i post lt is.refused c.refuse.ensures.refused;
      asked = map_set asked_of posts i post c.post-item.result lt c.refuse.ensures.asked ∙ is.asked;
      went = all_taken_on (λ p. is_some p.went ≡ true) posts i post lt is.went c.refuse.ensures.went;
    }

pub returns-clause-refused : goal.returns-clause-refused
returns-clause-refused c =
    let is = c.loop-post.invariant in
    subst (λ (posts : List Post). group_entries posts ≡ refused_entries c.args.stopped posts) (all_taken c.loop-post.posts c.args.posts.now c.loop-post.post-index is.asked c.loop-post-test.false) is.refused

pub returns-clause-went : goal.returns-clause-went
returns-clause-went c =
    let is = c.loop-post.invariant in
    subst (λ (posts : List Post). All (λ p. is_some p.went ≡ true) posts) (all_taken c.loop-post.posts c.args.posts.now c.loop-post.post-index is.asked c.loop-post-test.false) is.went
