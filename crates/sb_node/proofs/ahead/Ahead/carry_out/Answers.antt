use Rattle.std.proofs.Common.{ℕ, [], ◌∷◌, false, length, refl, sym, ◌∙◌, ap, subst}
use Rattle.sb_machine.specs.Accounts.{changing}
use Rattle.sb_recorder.proofs.Beside.{account_on}
use Rattle.sb_node.specs.Ahead.{ahead_disks, ahead_journal, ahead_state, StagesEvents}
use Rattle.sb_node.specs.Nodes.{LeadsToOneOf}
use Rattle.sb_desk.specs.Posts.{group_entries}
use Rattle.sb_node.specs.Serving.{raised}
use Rattle.sb_node.specs.Steps.{log_of}
use Rattle.std.specs.Prelude.{None}
use Rattle.sb_node.proofs.Grouped.{counts_as, fails_early, fails_late, found_stay, in_err, in_ok, sealed_kept}
use Rattle.sb_node.proofs.Staged.{none_ahead, pairs_behind}
use Rattle.sb_node.proofs.Together.{sealed_follows}
use Rattle.sb_node.proofs.ahead.Ahead.carry_out.Goals as goal

pub returns-in_default-clause-fails : goal.returns-in_default-clause-fails
returns-in_default-clause-fails g c none kept =
    let a = c.args.self.now in
    let s = ahead_state a in
    let start = subst (λ (n : ℕ). StagesEvents (ahead_journal a) a.last n kept.file [] s) (sym none) (none_ahead (ahead_journal a) a.last s kept) in
    fails_early c.run.new.posts s (ahead_disks a) (ahead_disks c.run.new.self) (found_stay kept.file s s (ahead_disks a) (ahead_disks c.run.new.self) kept.leads (c.run.ensures.any_moment kept.file [] start))

pub returns-clause-kept : goal.returns-clause-kept
returns-clause-kept g c none kept =
    let a = c.args.self.now in
    let b = c.seal.new.self in
    let start = subst (λ (n : ℕ). StagesEvents (ahead_journal a) a.last n kept.file [] (ahead_state a)) (sym none) (none_ahead (ahead_journal a) a.last (ahead_state a) kept) in
    let events = changing (log_of (ahead_state a) None) (group_entries c.run.new.posts) in
    sealed_kept (ahead_journal b) b.last kept.file events (ahead_state b) c.seal.result (c.seal.ensures.sealed kept.file events (c.in-Ok.ensures.ahead kept.file [] start))

pub returns-clause-follows : goal.returns-clause-follows
returns-clause-follows g c none kept =
    let a = c.args.self.now in
    let mid = c.run.new.self in
    let b = c.seal.new.self in
    let s = ahead_state a in
    let start = subst (λ (n : ℕ). StagesEvents (ahead_journal a) a.last n kept.file [] s) (sym none) (none_ahead (ahead_journal a) a.last s kept) in
    let events = changing (log_of s None) (group_entries c.run.new.posts) in
    let stay =
    pairs_behind (ahead_journal a) (ahead_journal mid) (ahead_journal b) (LeadsToOneOf (s ∷ ahead_state mid ∷ [])) c.run.ensures.aside c.seal.ensures.aside
    (found_stay kept.file s (ahead_state mid) (ahead_disks a) (ahead_disks mid) kept.leads (c.run.ensures.any_moment kept.file [] start))
    (c.seal.ensures.any_moment kept.file events s (c.in-Ok.ensures.ahead kept.file [] start) kept.leads) in
    in_ok c.seal.result (sealed_follows false s (ahead_state mid) (group_entries c.run.new.posts) (ahead_disks a) (ahead_disks a) (ahead_disks b) c.in-Ok.ensures.run c.in-Ok.ensures.no_fault refl stay)

pub returns-clause-fails : goal.returns-clause-fails
returns-clause-fails g c none kept =
    let a = c.args.self.now in
    let mid = c.run.new.self in
    let b = c.seal.new.self in
    let s = ahead_state a in
    let start = subst (λ (n : ℕ). StagesEvents (ahead_journal a) a.last n kept.file [] s) (sym none) (none_ahead (ahead_journal a) a.last s kept) in
    let events = changing (log_of s None) (group_entries c.run.new.posts) in
    let stay =
    pairs_behind (ahead_journal a) (ahead_journal mid) (ahead_journal b) (LeadsToOneOf (s ∷ ahead_state mid ∷ [])) c.run.ensures.aside c.seal.ensures.aside
    (found_stay kept.file s (ahead_state mid) (ahead_disks a) (ahead_disks mid) kept.leads (c.run.ensures.any_moment kept.file [] start))
    (c.seal.ensures.any_moment kept.file events s (c.in-Ok.ensures.ahead kept.file [] start) kept.leads) in
    in_err c.seal.result (fails_late c.run.new.posts s (ahead_state mid) (ahead_disks a) (ahead_disks b) c.in-Ok.ensures.run c.in-Ok.ensures.fails stay)

pub returns-clause-account : goal.returns-clause-account
returns-clause-account g c = account_on (ahead_journal c.args.self.now) (ahead_journal c.run.new.self) (ahead_journal c.seal.new.self) c.in-Ok.ensures.failed c.run.ensures.account c.seal.ensures.account

pub returns-clause-count : goal.returns-clause-count
returns-clause-count g c none =
    let events = changing (log_of (ahead_state c.args.self.now) None) (group_entries c.run.new.posts) in
    counts_as c.seal.result c.run.new.self.staged (raised 0 (length events)) (c.in-Ok.ensures.count ∙ ap (λ (n : ℕ). raised n (length events)) none) c.seal.ensures.count
