use Rattle.std.proofs.Common.{rules, ◌≡◌, ◌<◌, ◌≤◌, ◌++◌, true, is_some, All, take, length, sym, ◌∙◌, subst, append_assoc}
use Rattle.std.proofs.lemmas.List.{take_all}
use Rattle.sb_desk.specs.declared.post.Post.{Post}
use Rattle.sb_desk.specs.Posts.{post_entries, group_entries}
use Rattle.sb_desktests.specs.Namespaces.{StandsFor}
use Rattle.sb_desktests.proofs.Groups.{made_more, asked_same, went_more}
use Rattle.sb_desktests.proofs.one_queue.OneQueueServed.step_group.Goals as goal

pub loop-index-preserved : goal.loop-index-preserved
loop-index-preserved c =
    let kept = c.loop-index.invariant in
    let ps = c.loop-index.posts in
    let i = c.loop-index.index in
    let p = c.step.new.post in
    let lt : i < length ps = search rules in
    record {
      long = search rules;
      asked = asked_same ps i c.index-posts-index.result p c.step.ensures.asked ∙ kept.asked;
      went = went_more ps i p lt kept.went c.step.ensures.went;
      stands = λ from h s. subst (λ z. StandsFor c.step.new.self.made c.step.new.self.numbers from (h ++ z)) (sym (made_more ps i p lt))
          (subst (StandsFor c.step.new.self.made c.step.new.self.numbers from) (append_assoc h (group_entries (take i ps)) (post_entries p)) (c.step.ensures.stands from (h ++ group_entries (take i ps)) (kept.stands from h s)));
    }

pub returns-clause-went : goal.returns-clause-went
returns-clause-went c =
    let le : length c.loop-index.posts ≤ c.loop-index.index = search rules in
    subst (All (λ (p : Post). is_some p.went ≡ true)) (take_all c.loop-index.index c.loop-index.posts le) c.loop-index.invariant.went
