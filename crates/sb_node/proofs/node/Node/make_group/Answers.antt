use Rattle.std.proofs.Common.{◌≡◌, filter, length, true, List, sym, ap, ◌∙◌, subst}
use Rattle.std.specs.Prelude.{is_some}
use Rattle.sb_desk.specs.Entries.{is_refused}
use Rattle.sb_desk.specs.Posts.{group_entries}
use Rattle.sb_desk.specs.declared.post.Post.{Post}
use Rattle.sb_desk.specs.declared.report.Report.{Report}
use Rattle.sb_machine.specs.declared.history.Entry.{Entry}
use Rattle.sb_node.specs.Serving.{node_report, raised, StandsFor}
use Rattle.sb_node.proofs.Refused.{adds_none, all_none, group_some, none_there, some_asked, some_there}
use Rattle.sb_node.proofs.Resting.{stands_behind, stands_failed}
use Rattle.sb_node.proofs.node.Node.make_group.Goals as goal

pub returns-then-is_empty-clause-stands : goal.returns-then-is_empty-clause-stands
returns-then-is_empty-clause-stands g c start h is = subst (λ (es : List Entry). StandsFor c.args.self.now start es) (sym (adds_none c.args.posts.now h (none_there c.args.posts.now c.if-is_empty.ensures))) is

pub returns-then-is_empty-clause-went : goal.returns-then-is_empty-clause-went
returns-then-is_empty-clause-went g c = all_none (λ (p : Post). is_some p.went ≡ true) c.args.posts.now (none_there c.args.posts.now c.if-is_empty.ensures)

pub make_all-requires-clause-some : goal.make_all-requires-clause-some
make_all-requires-clause-some g c = some_there c.args.posts.now c.if-is_empty.ensures

-- ---- where a disk failed in the rest

pub returns-in_default-clause-stands : goal.returns-in_default-clause-stands
returns-in_default-clause-stands g c start h is =
    let n = c.args.self.now in
    let rest = c.rest.ensures in
    let refused = c.refuse_all.ensures in
    let posts = c.refuse_all.new.posts in
    stands_failed n _ posts (group_entries posts) start h refused.refused
    (record {
      some = some_asked posts c.args.posts.now refused.asked (some_there c.args.posts.now c.if-is_empty.ensures);
      ran = c.in_default.ensures.fault;
      state = rest.state;
      entries = refused.entries ∙ ap (λ (r : Report). raised r.entries (length (group_entries posts))) rest.report ∙ ap (λ (es : List Entry). raised (node_report n).entries (length es)) refused.refused;
      changing_is = refused.changing ∙ ap (λ (r : Report). r.changing) rest.report;
      refused = refused.refusals ∙ ap (λ (r : Report). raised r.refused (length (filter is_refused (group_entries posts)))) rest.report ∙ ap (λ (es : List Entry). raised (node_report n).refused (length (filter is_refused es))) refused.refused;
      goes_on = rest.goes_on;
      origin = rest.origin;
      failed = c.in_default.ensures.disk_fault;
      rests = rest.rests;
      durable = rest.durable;
      later = rest.later;
      honesty = rest.honesty;
    }) is

-- ---- behind the rest

pub returns-clause-stands : goal.returns-clause-stands
returns-clause-stands g c start h is =
    let rest = c.rest.ensures in
    let made = c.make_all.ensures in
    stands_behind c.args.self.now c.rest.new.self c.make_all.new.self (group_entries c.make_all.new.posts) start h
    (record {
      state = rest.state;
      report = rest.report;
      goes_on = rest.goes_on;
      origin = rest.origin;
      running = c.in-Ok.ensures.running;
      kept = rest.kept;
      rests = rest.rests;
      still = c.in-Ok.ensures.stopped;
      quiet = c.in-Ok.ensures.quiet;
      later = rest.later;
      honesty = rest.honesty;
    })
    (record {
      some = group_some c.make_all.new.posts made.went (some_asked c.make_all.new.posts c.args.posts.now made.asked (some_there c.args.posts.now c.if-is_empty.ensures));
      step = made.step;
      spares = made.spares;
      numbers = made.numbers;
      origin = made.origin;
      goes_on = made.goes_on;
      honesty = made.honesty;
      later = made.later;
      quiet = made.quiet;
      kept = made.kept;
      follows = made.follows;
      failed = made.failed;
      stays = made.stays;
    }) is
