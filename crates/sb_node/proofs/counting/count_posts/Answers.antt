use Rattle.std.proofs.Common.{take, ◌∙◌}
use Rattle.sb_desk.specs.Posts.{group_entries, post_entries}
use Rattle.sb_node.proofs.Counts.{counted_more, refused_more}
use Rattle.sb_node.proofs.Posts.{read_more}
use Rattle.sb_node.proofs.counting.count_posts.Goals as goal

pub loop-post-preserved : goal.loop-post-preserved
loop-post-preserved c =
    let posts = c.args.posts.now in
    let i = c.loop-post.post-index in
    let is = c.loop-post.invariant in
    let post = c.post-item.result in
    let more = read_more posts i post c.loop-post-test.true c.post-item.is in
    record {
      entries = counted_more (group_entries (take i posts)) (post_entries post) _ c.args.numbers.now.entries c.loop-post.numbers.entries c.count_post.new.numbers.entries more is.entries c.count_post.ensures.entries;
      changing = c.count_post.ensures.changing ∙ is.changing;
      refused = refused_more (group_entries (take i posts)) (post_entries post) _ c.args.numbers.now.refused c.loop-post.numbers.refused c.count_post.new.numbers.refused more is.refused c.count_post.ensures.refused;
    }
