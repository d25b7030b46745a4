use Rattle.std.proofs.Common.{rules}
use Rattle.sb_server.proofs.Words.{lists-nil, lists_cut}
use Rattle.sb_server.proofs.head.next_word.Goals as goal

pub returns-then-is_empty-clause-word : goal.returns-then-is_empty-clause-word
returns-then-is_empty-clause-word c = lists-nil _ (search rules)

pub returns-clause-word : goal.returns-clause-word
returns-clause-word c = lists_cut _ _ _ c.cut.ensures.before c.cut.ensures.after
