use Rattle.std.proofs.Common.{◌≡◌, ◌++◌, List, length, map, take, true, is_some, All}
use Rattle.sb_machine.specs.declared.history.Entry.{Entry}
use Rattle.sb_machine.specs.declared.state.State.{State}
use Rattle.sb_desk.specs.Posts.{asked_of, group_entries}
use Rattle.sb_desktests.specs.Namespaces.{StandsFor}
use Rattle.sb_desktests.proofs.one_queue.OneQueueServed.step_group.Given as goal

-- the first ones were made, and it stands for their entries behind what it stood for
abbrev pub invariant-loop-index : goal.invariant-loop-index
invariant-loop-index l = record {
  long : length l.posts ≡ length l.fn.posts;
  asked : map asked_of l.posts ≡ map asked_of l.fn.posts;
  went : All (λ p. is_some p.went ≡ true) (take l.index l.posts);
  stands : (from : State) (h : List Entry) → StandsFor l.fn.self.made l.fn.self.numbers from h → StandsFor l.self.made l.self.numbers from (h ++ group_entries (take l.index l.posts));
}
