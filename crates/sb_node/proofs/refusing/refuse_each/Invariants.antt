use Rattle.std.proofs.Common.{◌≡◌, map, take, true}
use Rattle.std.specs.List.{All}
use Rattle.std.specs.Prelude.{is_some}
use Rattle.sb_desk.specs.Posts.{asked_of, group_entries}
use Rattle.sb_node.specs.Posts.{refused_entries}
use Rattle.sb_node.proofs.refusing.refuse_each.Given as goal

abbrev pub invariant-loop-post : goal.invariant-loop-post
invariant-loop-post l = record {
  refused : group_entries (take l.post-index l.posts) ≡ refused_entries l.fn.stopped (take l.post-index l.posts);
  asked : map asked_of l.posts ≡ map asked_of l.fn.posts;
  went : All (λ p. is_some p.went ≡ true) (take l.post-index l.posts);
}
