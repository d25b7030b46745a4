use Rattle.std.proofs.Common.{◌≡◌, [], ◌∷◌, ◌++◌, length, false, None, ap, subst, sym}
use Rattle.std.specs.Prelude.{is_some}
use Rattle.sb_desk.specs.Posts.{asked_of, post_entries}
use Rattle.sb_desk.specs.Spared.{SparesFrom}
use Rattle.sb_desk.specs.declared.post.Post.{Post}
use Rattle.sb_desk.proofs.Sparing.{spares_on}
use Rattle.sb_engine.specs.Engines.{engine_state}
use Rattle.sb_machine.specs.Accounts.{changing}
use Rattle.sb_machine.specs.History.{Log, after_entries}
use Rattle.sb_node.specs.Ahead.{IsAhead}
use Rattle.sb_node.specs.Groups.{failed, has_fault, HaveRun}
use Rattle.sb_node.specs.Posts.{fault_entry}
use Rattle.sb_node.specs.Serving.{raised}
use Rattle.sb_node.specs.Steps.{entries_with, is_spared, log_of}
use Rattle.sb_node.proofs.Settled.{spares_settled}
use Rattle.sb_node.proofs.Sparing.{step_spares}
use Rattle.sb_node.proofs.Together.{failed_one, fault_one, runs_on}
use Rattle.sb_node.proofs.ahead.Ahead.run_one.Goals as goal

pub returns-clause-run : goal.returns-clause-run
returns-clause-run g c start made run =
    subst (λ (p : Post). HaveRun start (made ++ post_entries p) (engine_state c.step.new.self.engine)) (sym c.put_went.ensures)
    (runs_on start (engine_state c.args.self.now.engine) (engine_state c.step.new.self.engine) made c.in-Ok.went.tick c.args.post.now.seat c.args.post.now.reading c.args.post.now.call c.in-Ok.went.answer run (c.in-Ok.ensures.step c.args.post.now.seat) (c.in-Ok.ensures.made c.args.post.now.seat))

pub returns-clause-ahead : goal.returns-clause-ahead
returns-clause-ahead g c file events ahead =
    subst (λ (p : Post). IsAhead c.step.new.self file (events ++ changing (log_of (engine_state c.args.self.now.engine) None) (post_entries p))) (sym c.put_went.ensures) (c.in-Ok.ensures.ahead file events ahead c.args.post.now.seat)

pub returns-clause-no_fault : goal.returns-clause-no_fault
returns-clause-no_fault g c =
    subst (λ (p : Post). has_fault (post_entries p) ≡ false) (sym c.put_went.ensures) (fault_one c.in-Ok.went.tick c.args.post.now.seat c.args.post.now.reading c.args.post.now.call c.in-Ok.went.answer c.in-Ok.ensures.no_fault)

pub returns-clause-fails : goal.returns-clause-fails
returns-clause-fails g c =
    subst (λ (p : Post). failed (post_entries p) ≡ fault_entry p ∷ []) (sym c.put_went.ensures) (failed_one c.in-Ok.went.tick c.args.post.now.seat c.args.post.now.reading c.args.post.now.call c.in-Ok.went.answer)

pub returns-clause-count : goal.returns-clause-count
returns-clause-count g c =
    subst (λ (p : Post). c.step.new.self.staged ≡ raised c.args.self.now.staged (length (changing (log_of (engine_state c.args.self.now.engine) None) (post_entries p)))) (sym c.put_went.ensures) (c.in-Ok.ensures.count c.args.post.now.seat)

pub returns-clause-free : goal.returns-clause-free
returns-clause-free g c start made run so_far =
    let mid = engine_state c.args.self.now.engine in
    let post = c.args.post.now in
    let went = c.in-Ok.went in
    let es = entries_with went.tick post.seat post.reading post.call went.answer in
    subst (λ (p : Post). SparesFrom is_spared (log_of start None) (made ++ post_entries p)) (sym c.put_went.ensures)
    (spares_on is_spared (log_of start None) made es so_far
    (spares_settled is_spared (after_entries (log_of start None) made) es
    (subst (λ (l : Log). SparesFrom is_spared l es) run.step.leads (step_spares went.tick (log_of mid None) post.seat post.reading post.call went.answer c.in-Ok.ensures.ticked (c.in-Ok.ensures.step post.seat).legal c.in-Ok.ensures.free))))

pub returns-clause-asked : goal.returns-clause-asked
returns-clause-asked g c = ap asked_of c.put_went.ensures

pub returns-clause-went : goal.returns-clause-went
returns-clause-went g c = ap (λ (p : Post). is_some p.went) c.put_went.ensures
