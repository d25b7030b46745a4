use Rattle.std.proofs.Common.{None, ℕ, [], ◌∷◌, length, sym, ◌∙◌, ap, subst}
use Rattle.sb_machine.specs.declared.state.State.{State}
use Rattle.sb_recorder.proofs.Beside.{account_on}
use Rattle.sb_node.specs.Ahead.{ahead_disks, ahead_journal, ahead_state, made_events, StagesEvents}
use Rattle.sb_node.specs.Nodes.{LeadsToOneOf, StayOneOf}
use Rattle.sb_node.specs.Serving.{raised}
use Rattle.sb_node.specs.Steps.{entries_with, log_of, IsStep}
use Rattle.sb_node.proofs.Grouped.{found_stay}
use Rattle.sb_node.proofs.Ones.{sealed_busy}
use Rattle.sb_node.proofs.Sealing.{fault_early, fault_late, one_follows, sealed_events}
use Rattle.sb_node.proofs.Staged.{none_ahead, pairs_behind}
use Rattle.sb_node.proofs.ahead.Ahead.carry_one.Goals as goal

-- ---- where its disk failed before it was sealed

pub returns-in_default-clause-fails : goal.returns-in_default-clause-fails
returns-in_default-clause-fails g c none kept seat =
    let a = c.args.self.now in
    let s = ahead_state a in
    let start = subst (λ (n : ℕ). StagesEvents (ahead_journal a) a.last n kept.file [] s) (sym none) (none_ahead (ahead_journal a) a.last s kept) in
    fault_early s seat c.args.reading c.args.call.now (ahead_disks a) (ahead_disks c.step.new.self) (found_stay kept.file s s (ahead_disks a) (ahead_disks c.step.new.self) kept.leads (c.step.ensures.any_moment kept.file [] start))

-- ---- where it failed as it was sealed

pub returns-in_default-seal-clause-fails : goal.returns-in_default-seal-clause-fails
returns-in_default-seal-clause-fails g c none kept seat =
    let a = c.args.self.now in
    let mid = c.step.new.self in
    let b = c.seal.new.self in
    let s = ahead_state a in
    let went = c.in-Ok.went in
    let start = subst (λ (n : ℕ). StagesEvents (ahead_journal a) a.last n kept.file [] s) (sym none) (none_ahead (ahead_journal a) a.last s kept) in
    let events = made_events s went.tick seat c.args.reading c.args.call.now went.answer in
    let stay =
    pairs_behind (ahead_journal a) (ahead_journal mid) (ahead_journal b) (LeadsToOneOf (s ∷ ahead_state mid ∷ [])) c.step.ensures.aside c.seal.ensures.aside
    (found_stay kept.file s (ahead_state mid) (ahead_disks a) (ahead_disks mid) kept.leads (c.step.ensures.any_moment kept.file [] start))
    (c.seal.ensures.any_moment kept.file events s (c.in-Ok.ensures.ahead kept.file [] start seat) kept.leads) in
    fault_late s (ahead_state mid) went.tick seat c.args.reading c.args.call.now went.answer (ahead_disks a) (ahead_disks b) (c.in-Ok.ensures.step seat) (c.in-Ok.ensures.made seat) stay

pub returns-in_default-seal-clause-account : goal.returns-in_default-seal-clause-account
returns-in_default-seal-clause-account g c = account_on (ahead_journal c.args.self.now) (ahead_journal c.step.new.self) (ahead_journal c.seal.new.self) c.in-Ok.ensures.failed c.step.ensures.account c.seal.ensures.account

pub returns-in_default-seal-clause-aside : goal.returns-in_default-seal-clause-aside
returns-in_default-seal-clause-aside g c = c.seal.ensures.aside ∙ c.step.ensures.aside

-- ---- where it was sealed

pub returns-clause-step : goal.returns-clause-step
returns-clause-step g c seat =
    let went = c.in-Ok.went in
    subst (λ (s : State). IsStep (log_of (ahead_state c.args.self.now) None) (entries_with went.tick seat c.args.reading c.args.call.now went.answer) (log_of s None)) (sym c.seal.ensures.state) (c.in-Ok.ensures.step seat)

pub returns-clause-count : goal.returns-clause-count
returns-clause-count g c none seat =
    let went = c.in-Ok.went in
    let events = made_events (ahead_state c.args.self.now) went.tick seat c.args.reading c.args.call.now went.answer in
    c.in-Ok-seal.ensures.count ∙ c.in-Ok.ensures.count seat ∙ ap (λ (n : ℕ). raised n (length events)) none

pub returns-clause-kept : goal.returns-clause-kept
returns-clause-kept g c none kept =
    let a = c.args.self.now in
    let went = c.in-Ok.went in
    let start = subst (λ (n : ℕ). StagesEvents (ahead_journal a) a.last n kept.file [] (ahead_state a)) (sym none) (none_ahead (ahead_journal a) a.last (ahead_state a) kept) in
    (c.in-Ok-seal.ensures.sealed kept.file (made_events (ahead_state a) went.tick 0 c.args.reading c.args.call.now went.answer) (c.in-Ok.ensures.ahead kept.file [] start 0)).kept

pub returns-clause-events : goal.returns-clause-events
returns-clause-events g c none kept seat salt =
    let a = c.args.self.now in
    let b = c.seal.new.self in
    let went = c.in-Ok.went in
    let events = made_events (ahead_state a) went.tick seat c.args.reading c.args.call.now went.answer in
    let start = subst (λ (n : ℕ). StagesEvents (ahead_journal a) a.last n kept.file [] (ahead_state a)) (sym none) (none_ahead (ahead_journal a) a.last (ahead_state a) kept) in
    sealed_events (ahead_journal a) (ahead_journal b) a.last b.last salt (ahead_state a) (ahead_state b) events kept (c.in-Ok-seal.ensures.sealed kept.file events (c.in-Ok.ensures.ahead kept.file [] start seat))

pub returns-clause-still : goal.returns-clause-still
returns-clause-still g c none seat nothing =
    let still = c.in-Ok.ensures.still seat nothing in
    let same = c.seal.ensures.nothing (still.staged ∙ none) in
    (ap ahead_journal same ∙ still.journal, ap ahead_state same ∙ still.state)

pub returns-clause-any_moment : goal.returns-clause-any_moment
returns-clause-any_moment g c none kept =
    let a = c.args.self.now in
    let mid = c.step.new.self in
    let b = c.seal.new.self in
    let s = ahead_state a in
    let went = c.in-Ok.went in
    let start = subst (λ (n : ℕ). StagesEvents (ahead_journal a) a.last n kept.file [] s) (sym none) (none_ahead (ahead_journal a) a.last s kept) in
    let events = made_events s went.tick 0 c.args.reading c.args.call.now went.answer in
    subst (λ (x : State). StayOneOf (ahead_disks a) (ahead_disks b) (s ∷ x ∷ [])) (sym c.seal.ensures.state)
    (pairs_behind (ahead_journal a) (ahead_journal mid) (ahead_journal b) (LeadsToOneOf (s ∷ ahead_state mid ∷ [])) c.step.ensures.aside c.seal.ensures.aside
    (found_stay kept.file s (ahead_state mid) (ahead_disks a) (ahead_disks mid) kept.leads (c.step.ensures.any_moment kept.file [] start))
    (c.seal.ensures.any_moment kept.file events s (c.in-Ok.ensures.ahead kept.file [] start 0) kept.leads))

pub returns-clause-follows : goal.returns-clause-follows
returns-clause-follows g c none kept seat =
    let a = c.args.self.now in
    let mid = c.step.new.self in
    let b = c.seal.new.self in
    let s = ahead_state a in
    let went = c.in-Ok.went in
    let start = subst (λ (n : ℕ). StagesEvents (ahead_journal a) a.last n kept.file [] s) (sym none) (none_ahead (ahead_journal a) a.last s kept) in
    let events = made_events s went.tick seat c.args.reading c.args.call.now went.answer in
    let stay =
    pairs_behind (ahead_journal a) (ahead_journal mid) (ahead_journal b) (LeadsToOneOf (s ∷ ahead_state mid ∷ [])) c.step.ensures.aside c.seal.ensures.aside
    (found_stay kept.file s (ahead_state mid) (ahead_disks a) (ahead_disks mid) kept.leads (c.step.ensures.any_moment kept.file [] start))
    (c.seal.ensures.any_moment kept.file events s (c.in-Ok.ensures.ahead kept.file [] start seat) kept.leads) in
    one_follows s (ahead_state mid) went.tick seat c.args.reading c.args.call.now went.answer (ahead_disks a) (ahead_disks b) (c.in-Ok.ensures.step seat) (c.in-Ok.ensures.made seat) c.in-Ok.ensures.no_fault stay

pub returns-clause-account : goal.returns-clause-account
returns-clause-account g c = account_on (ahead_journal c.args.self.now) (ahead_journal c.step.new.self) (ahead_journal c.seal.new.self) c.in-Ok.ensures.failed c.step.ensures.account c.seal.ensures.account

pub returns-clause-aside : goal.returns-clause-aside
returns-clause-aside g c = c.seal.ensures.aside ∙ c.step.ensures.aside

pub returns-in_default-seal-clause-busy : goal.returns-in_default-seal-clause-busy
returns-in_default-seal-clause-busy g c none =
    let went = c.in-Ok.went in
    sealed_busy went.tick (ahead_state c.args.self.now) (ahead_state c.step.new.self) c.step.new.self.staged 0 c.args.reading c.args.call.now went.answer (c.in-Ok.ensures.step 0) c.in-Ok.ensures.ticked (λ nothing. (c.in-Ok.ensures.still 0 nothing).staged ∙ none)
    c.in_default-seal.ensures.busy
