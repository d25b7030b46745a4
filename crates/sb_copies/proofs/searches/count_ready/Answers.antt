use Rattle.std.proofs.Common.{◌≡◌, ◌∙◌, ◌++◌, List, ℕ, ap, map}
use Rattle.sb_copies.specs.BySession.{session_hash}
use Rattle.sb_copies.specs.Grouped.{numbers_under}
use Rattle.sb_copies.specs.Shelf.{copies_in, numbered_in}
use Rattle.sb_copies.proofs.SessionCounts.{ready_counted}
use Rattle.sb_copies.proofs.searches.count_ready.Goals as goal

pub returns : goal.returns
returns c =
    let cs = copies_in c.args.slots.now c.args.order.now.rows in
    let rows = c.args.by_session.now.rows in
    let id = c.args.session.now in
    let there : map (λ x. x.now) c.deref-2.result.now ≡ numbered_in cs (numbers_under (session_hash id) rows) =
    ap (λ l. map (λ x. x.now) l) c.deref-2.ensures.value
    ∙ c.in_ok-found.ensures
    ∙ ap (λ (ns : List ℕ). numbered_in cs ns)
    (c.deref.ensures.value ∙ c.in_ok-numbers.ensures ∙ ap (λ (ns : List ℕ). ns ++ numbers_under c.session_hash.result rows) c.new.ensures.items ∙ ap (λ h. numbers_under h rows) c.session_hash.ensures.hash) in
    c.ready_among.ensures ∙ ready_counted id rows cs (map (λ x. x.now) c.deref-2.result.now) c.requires.order c.requires.holds there
