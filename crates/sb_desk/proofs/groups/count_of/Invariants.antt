use Rattle.std.proofs.Common.{◌≡◌, ◌≤◌, ◌+◌, drop, length}
use Rattle.sb_desk.specs.Posts.{group_entries}
use Rattle.sb_desk.proofs.groups.count_of.Given as goal

-- those of the posts that are left, and what was counted, give all; no post has more than two
abbrev pub invariant-loop-post : goal.invariant-loop-post
invariant-loop-post l = record {
  all : l.count + length (group_entries (drop l.post-index l.posts)) ≡ length (group_entries l.posts);
  few : l.count ≤ l.post-index + l.post-index;
}
