use Rattle.std.proofs.Common.{rules, ◌≡◌, ◌-◌, length, take, drop, ap, sym, ◌∙◌, subst, vec_capacity}
use Rattle.std.proofs.lemmas.List.{drop_at, length-take-le, take_rest}
use Rattle.sb_desk.specs.Groups.{AreCarriedOut}
use Rattle.sb_desk.specs.Posts.{group_entries}
use Rattle.sb_desk.specs.Rule.{log_of, posts_of}
use Rattle.sb_desk.proofs.Kept.{kept_all, kept_below, carried_out}
use Rattle.sb_desk.proofs.groups.lead.Goals as goal

pub record_group-requires-clause-group : goal.record_group-requires-clause-group
record_group-requires-clause-group g c =
    let v = c.args.place.now.me.0 in
    let old = c.args.held.posts.items in
    let n = c.args.held.answered in
    let kept = c.requires.value.2 in
    let p = c.carry_out-stepped.ensures.posts in
    let next = c.carry_out-stepped.new.posts.items in
    let same : c.deref.result.now ≡ next = search rules in
    let left : take (length next - n) (drop n next) ≡ p.0 = take_rest next n ∙ (ap (drop n) p.1 ∙ drop_at (take n old) p.0 n (length-take-le n old kept.within)) in
    let stage : old ≡ posts_of v.stage = ap (λ s. posts_of s) (sym c.requires.out.0) in (
      group_entries p.0,
      c.count_of-count.ensures ∙ (ap (λ z. length (group_entries (take (length z - n) (drop n z)))) same ∙ ap (λ z. length (group_entries z)) left),
      subst (λ z. AreCarriedOut z next (group_entries p.0)) stage (carried_out v.passes n old next p.0 _ kept p.1 p.2),
      kept_below v.passes n old p.0 _ kept p.2,
      p.4 v.start (log_of v.stage) c.requires.value.0,
    )

pub returns-clause-value : goal.returns-clause-value
returns-clause-value g c =
    let v = c.args.place.now.me.0 in
    let p = c.carry_out-stepped.ensures.posts in
    let next = c.carry_out-stepped.new.posts.items in
    let kept = kept_all v.passes c.args.held.answered c.args.held.posts.items next p.0 (vec_capacity c.args.held.posts) c.requires.value.2 p.1 p.2 p.3 in
    let held = c.record_group.ensures.held in
    let room : vec_capacity c.carry_out-stepped.new.posts ≡ vec_capacity c.args.held.posts = c.carry_out-stepped.ensures.room in
    let all : length next ≡ c.record_group.result.answered = search rules in
    let posts : next ≡ c.record_group.result.posts.items = search rules in
    (search rules, search rules)
