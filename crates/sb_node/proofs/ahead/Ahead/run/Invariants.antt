use Rattle.std.proofs.Common.{◌≡◌, ◌++◌, List, length, map, take, true, false}
use Rattle.std.specs.List.{All}
use Rattle.sb_journal.specs.Disks.{EachPair}
use Rattle.sb_journal.specs.Journals.{has_failed, journal_aside}
use Rattle.sb_journal.specs.Opened.{FindsFile}
use Rattle.sb_journal.specs.Text.{File}
use Rattle.sb_machine.specs.Accounts.{changing}
use Rattle.sb_machine.specs.Ordered.{IsActInOrder}
use Rattle.sb_machine.specs.declared.call.Event.{Event}
use Rattle.sb_recorder.specs.Recorders.{HasAccount}
use Rattle.sb_node.specs.Ahead.{ahead_disks, ahead_journal, ahead_last, ahead_staged, ahead_state, IsAhead}
use Rattle.sb_node.specs.Groups.{failed, has_fault, HaveRun}
use Rattle.sb_desk.specs.Posts.{asked_of, group_entries}
use Rattle.sb_desk.specs.Spared.{SparesFrom}
use Rattle.sb_node.specs.Posts.{fault_entries}
use Rattle.sb_node.specs.Serving.{raised}
use Rattle.sb_node.specs.Steps.{is_spared, log_of}
use Rattle.std.specs.Prelude.{None, is_some}
use Rattle.sb_node.proofs.ahead.Ahead.run.Given as goal

abbrev pub invariant-loop-post : goal.invariant-loop-post
invariant-loop-post g l = record {
  run : HaveRun (ahead_state l.fn.self) (group_entries (take l.post-index l.posts)) (ahead_state l.self);
  ahead : (file : File) (events : List Event) → IsAhead l.fn.self file events → IsAhead l.self file (events ++ changing (log_of (ahead_state l.fn.self) None) (group_entries (take l.post-index l.posts)));
  count : ahead_staged l.self ≡ raised (ahead_staged l.fn.self) (length (changing (log_of (ahead_state l.fn.self) None) (group_entries (take l.post-index l.posts))));
  free : SparesFrom is_spared (log_of (ahead_state l.fn.self) None) (group_entries (take l.post-index l.posts));
  went : All (λ p. is_some p.went ≡ true) (take l.post-index l.posts);
  no_fault : has_fault (group_entries (take l.post-index l.posts)) ≡ false;
  fails : failed (group_entries (take l.post-index l.posts)) ≡ fault_entries (take l.post-index l.posts);
  moments : (file : File) (events : List Event) → IsAhead l.fn.self file events → EachPair (ahead_disks l.fn.self) (ahead_disks l.self) (FindsFile file);
  order : All (λ p. IsActInOrder p.call.act) l.posts;
  asked : map asked_of l.posts ≡ map asked_of l.fn.posts;
  last : ahead_last l.self ≡ ahead_last l.fn.self;
  running : has_failed (ahead_journal l.self) ≡ false;
  account : HasAccount (ahead_journal l.fn.self) (ahead_journal l.self);
  aside : journal_aside (ahead_journal l.self) ≡ journal_aside (ahead_journal l.fn.self);
}
