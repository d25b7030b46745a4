use Rattle.std.proofs.Common.{◌≡◌, ◌<◌, ◌++◌, [], List, length, take, true, false, None, refl, sym, ap, ◌∙◌, subst, ℕ, append_assoc, length-append}
use Rattle.std.specs.List.{All}
use Rattle.std.specs.Prelude.{is_some}
use Rattle.std.proofs.lemmas.List.Elements.{All-nil}
use Rattle.sb_journal.specs.Opened.{FindsFile}
use Rattle.sb_machine.specs.Accounts.{changing}
use Rattle.sb_machine.specs.Ordered.{IsActInOrder}
use Rattle.sb_machine.specs.declared.call.Call.{Call}
use Rattle.sb_machine.specs.declared.call.Event.{Event}
use Rattle.sb_machine.specs.declared.history.Entry.{Entry}
use Rattle.sb_desk.specs.Posts.{asked_of, group_entries, post_entries, Asked}
use Rattle.sb_desk.specs.Spared.{SparesFrom}
use Rattle.sb_desk.specs.declared.post.Post.{Post}
use Rattle.sb_recorder.proofs.Beside.{account_on, no_account}
use Rattle.sb_node.specs.Ahead.{ahead_journal, ahead_state, IsAhead}
use Rattle.sb_node.specs.Groups.{failed, has_fault, HaveRun}
use Rattle.sb_node.specs.Posts.{fault_entries}
use Rattle.sb_node.specs.Serving.{raised}
use Rattle.sb_node.specs.Steps.{is_spared, log_of}
use Rattle.sb_node.proofs.Counts.{raised_on}
use Rattle.sb_node.proofs.Posts.{all_set, all_taken, all_taken_on, map_set, more_entries, more_faults, within}
use Rattle.sb_node.proofs.Staged.{none_staged, pairs_behind, staged_still}
use Rattle.sb_node.proofs.Together.{events_on, fault_on, none_runs}
use Rattle.sb_node.proofs.ahead.Ahead.run.Goals as goal

pub loop-post-init : goal.loop-post-init
loop-post-init g c =
    let a = c.args.self.now in
    record {
      run = none_runs (ahead_state a);
      ahead = λ file events ahead. none_staged (ahead_journal a) (ahead_journal a) a.last a.last a.staged a.staged file events [] (ahead_state a) (ahead_state a) ahead refl refl refl refl refl;
      count = refl;
      free = tt;
      went = All-nil (λ (p : Post). is_some p.went ≡ true);
      no_fault = refl;
      fails = refl;
      moments = λ file events ahead. staged_still (ahead_journal a) a.last a.staged file events (ahead_state a) ahead;
      order = c.requires.order;
      asked = refl;
      last = refl;
      running = c.requires.running;
      account = no_account (ahead_journal a) c.requires.running;
      aside = refl;
    }

pub loop-post-preserved : goal.loop-post-preserved
loop-post-preserved g c =
    let a = c.args.self.now in
    let mid = c.loop-post.self in
    let b = c.run_one.new.self in
    let i = c.loop-post.post-index in
    let posts = c.loop-post.posts in
    let post = c.run_one.new.post in
    let is = c.loop-post.invariant in
    let made = group_entries (take i posts) in
    let before = changing (log_of (ahead_state a) None) made in
    let own = changing (log_of (ahead_state mid) None) (post_entries post) in
    let lt : i < length posts = within posts c.args.posts.now i is.asked c.loop-post-test.true in
    let more = more_entries posts i post lt in
    record {
      run = subst (λ (es : List Entry). HaveRun (ahead_state a) es (ahead_state b)) (sym more) (c.in-Ok.ensures.run (ahead_state a) made is.run);
      ahead = λ file events ahead.
          subst (λ (l : List Event). IsAhead b file l)
          (append_assoc events before own
          ∙ ap (λ (l : List Event). events ++ l) (sym (events_on (ahead_state a) (ahead_state mid) made (post_entries post) is.run.step.leads))
          ∙ ap (λ (es : List Entry). events ++ changing (log_of (ahead_state a) None) es) (sym more))
          (c.in-Ok.ensures.ahead file (events ++ before) (is.ahead file events ahead));
      count =
          c.in-Ok.ensures.count
          ∙ ap (λ (n : ℕ). raised n (length own)) is.count
          ∙ raised_on a.staged (length before) (length own)
          ∙ ap (raised a.staged) (sym (length-append before own))
          ∙ ap (λ (l : List Event). raised a.staged (length l)) (sym (events_on (ahead_state a) (ahead_state mid) made (post_entries post) is.run.step.leads))
          ∙ ap (λ (es : List Entry). raised a.staged (length (changing (log_of (ahead_state a) None) es))) (sym more);
      free = subst (λ (es : List Entry). SparesFrom is_spared (log_of (ahead_state a) None) es) (sym more) (c.in-Ok.ensures.free (ahead_state a) made is.run is.free);
      went = all_taken_on (λ p. is_some p.went ≡ true) posts i post lt is.went c.in-Ok.ensures.went;
      no_fault = ap has_fault more ∙ fault_on made (post_entries post) is.no_fault c.in-Ok.ensures.no_fault;
      fails = ap failed more ∙ more_faults posts i post lt is.fails c.in-Ok.ensures.fails;
      moments = λ file events ahead.
          pairs_behind (ahead_journal a) (ahead_journal mid) (ahead_journal b) (FindsFile file) is.aside c.run_one.ensures.aside (is.moments file events ahead) (c.run_one.ensures.any_moment file (events ++ before) (is.ahead file events ahead));
      order = all_set (λ p. IsActInOrder p.call.act) posts i post is.order
          (subst (λ (call : Call). IsActInOrder call.act) (sym (ap (λ (x : Asked). x.call) c.run_one.ensures.asked)) (is.order i c.post-item.result lt));
      asked = map_set asked_of posts i post c.post-item.result lt c.run_one.ensures.asked ∙ is.asked;
      last = c.run_one.ensures.last ∙ is.last;
      running = c.in-Ok.ensures.failed;
      account = account_on (ahead_journal a) (ahead_journal mid) (ahead_journal b) is.running is.account c.run_one.ensures.account;
      aside = c.run_one.ensures.aside ∙ is.aside;
    }

-- ---- where the disk failed

pub returns-in_default-clause-asked : goal.returns-in_default-clause-asked
returns-in_default-clause-asked g c =
    let is = c.loop-post.invariant in
    map_set asked_of c.loop-post.posts c.loop-post.post-index c.run_one.new.post c.post-item.result (within c.loop-post.posts c.args.posts.now c.loop-post.post-index is.asked c.loop-post-test.true)
    c.run_one.ensures.asked
    ∙ is.asked

pub returns-in_default-clause-any_moment : goal.returns-in_default-clause-any_moment
returns-in_default-clause-any_moment g c file events ahead =
    let is = c.loop-post.invariant in
    pairs_behind (ahead_journal c.args.self.now) (ahead_journal c.loop-post.self) (ahead_journal c.run_one.new.self) (FindsFile file) is.aside c.run_one.ensures.aside (is.moments file events ahead)
    (c.run_one.ensures.any_moment file (events ++ changing (log_of (ahead_state c.args.self.now) None) (group_entries (take c.loop-post.post-index c.loop-post.posts))) (is.ahead file events ahead))

pub returns-in_default-clause-account : goal.returns-in_default-clause-account
returns-in_default-clause-account g c =
    let is = c.loop-post.invariant in
    account_on (ahead_journal c.args.self.now) (ahead_journal c.loop-post.self) (ahead_journal c.run_one.new.self) is.running is.account c.run_one.ensures.account

-- ---- behind the last one

pub returns-clause-ahead : goal.returns-clause-ahead
returns-clause-ahead g c file events ahead =
    let is = c.loop-post.invariant in
    subst (λ (posts : List Post). IsAhead c.loop-post.self file (events ++ changing (log_of (ahead_state c.args.self.now) None) (group_entries posts)))
    (all_taken c.loop-post.posts c.args.posts.now c.loop-post.post-index is.asked c.loop-post-test.false) (is.ahead file events ahead)

pub returns-clause-no_fault : goal.returns-clause-no_fault
returns-clause-no_fault g c =
    let is = c.loop-post.invariant in
    subst (λ (posts : List Post). has_fault (group_entries posts) ≡ false) (all_taken c.loop-post.posts c.args.posts.now c.loop-post.post-index is.asked c.loop-post-test.false) is.no_fault

pub returns-clause-fails : goal.returns-clause-fails
returns-clause-fails g c =
    let is = c.loop-post.invariant in
    subst (λ (posts : List Post). failed (group_entries posts) ≡ fault_entries posts) (all_taken c.loop-post.posts c.args.posts.now c.loop-post.post-index is.asked c.loop-post-test.false) is.fails

pub returns-clause-count : goal.returns-clause-count
returns-clause-count g c =
    let is = c.loop-post.invariant in
    let a = c.args.self.now in
    subst (λ (posts : List Post). c.loop-post.self.staged ≡ raised a.staged (length (changing (log_of (ahead_state a) None) (group_entries posts)))) (all_taken c.loop-post.posts c.args.posts.now c.loop-post.post-index is.asked c.loop-post-test.false) is.count

pub returns-clause-free : goal.returns-clause-free
returns-clause-free g c =
    let is = c.loop-post.invariant in
    subst (λ (posts : List Post). SparesFrom is_spared (log_of (ahead_state c.args.self.now) None) (group_entries posts)) (all_taken c.loop-post.posts c.args.posts.now c.loop-post.post-index is.asked c.loop-post-test.false) is.free

pub returns-clause-went : goal.returns-clause-went
returns-clause-went g c =
    let is = c.loop-post.invariant in
    subst (λ (posts : List Post). All (λ p. is_some p.went ≡ true) posts) (all_taken c.loop-post.posts c.args.posts.now c.loop-post.post-index is.asked c.loop-post-test.false) is.went
