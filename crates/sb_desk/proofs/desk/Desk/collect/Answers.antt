use Rattle.std.proofs.Common.{rules, ◌≡◌, ◌++◌, List, ap, sym, ◌∙◌, refl, Some}
use Rattle.sb_machine.specs.declared.history.Entry.{Entry}
use Rattle.sb_desk.specs.contracts.pass.Pass.{the_view}
use Rattle.sb_desk.specs.Desks.{Asking, Sitting, ask_of, view_of}
use Rattle.sb_desk.specs.Entries.{entries_by, made_by}
use Rattle.sb_desk.proofs.Logs.{by_added}
use Rattle.sb_desk.proofs.desk.Desk.collect.Goals as goal

pub returns-clause-call : goal.returns-clause-call
returns-clause-call g c =
    let s = c.collect_one-call.ensures.collected in
    let p : Sitting = c.args.posted.pass in
    let answer = c.collect_one-call.result.1 in
    let old = c.into_seat-place.result.me.0 in
    let made : List Entry = made_by old.seat s.1 s.0.reading s.0.call answer in
    let after : the_view (record { badge = c.into_badge.result; seat = c.posted.inside.seat }) ≡ (record p { seen = p.seen ++ (s.2 ++ made) }) = search rules in
    let seat : old.seat ≡ p.seat = search rules in
    let post : (view_of c.posted.inside.badge.views).post ≡ Some s.0 = search rules in
    let ask = sym (ap ask_of post) in
    let reading : s.0.reading ≡ c.args.posted.reading = ap (λ a. a.reading) ask ∙ ap (λ (a : Asking). a.reading) c.posted.view_is in
    let call : s.0.call ≡ c.args.posted.call = ap (λ a. a.call) ask ∙ ap (λ (a : Asking). a.call) c.posted.view_is in
    let own : List Entry = made_by p.seat s.1 c.args.posted.reading c.args.posted.call answer in
    let same : made ≡ own = λ i. made_by (seat i) s.1 (reading i) (call i) answer in (
      s.1,
      s.2 ++ own,
      after ∙ ap (λ z. record p { seen = p.seen ++ (s.2 ++ z) }) same,
      by_added p.seat s.2 s.1 c.args.posted.reading c.args.posted.call answer (ap (λ z. entries_by z s.2) (sym seat) ∙ s.5),
      (s.2, refl),
    )
