use Rattle.std.proofs.Common.{◌≡◌, filter, length, take}
use Rattle.sb_desk.specs.Entries.{is_refused}
use Rattle.sb_desk.specs.Posts.{group_entries}
use Rattle.sb_node.specs.Serving.{raised}
use Rattle.sb_node.proofs.counting.count_posts.Given as goal

abbrev pub invariant-loop-post : goal.invariant-loop-post
invariant-loop-post l = record {
  entries : l.numbers.entries ≡ raised l.fn.numbers.entries (length (group_entries (take l.post-index l.fn.posts)));
  changing : l.numbers.changing ≡ l.fn.numbers.changing;
  refused : l.numbers.refused ≡ raised l.fn.numbers.refused (length (filter is_refused (group_entries (take l.post-index l.fn.posts))));
}
