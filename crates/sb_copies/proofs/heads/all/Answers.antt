use Rattle.std.proofs.Common.{◌∙◌, List, ℕ, ◌≡◌, ap, map, subst}
use Rattle.std.specs.Prelude.{IfOk}
use Rattle.sb_machine.specs.declared.state.StoredCopy.{StoredCopy}
use Rattle.sb_copies.specs.Heads.{heads_in}
use Rattle.sb_copies.specs.Numbers.{HasSame}
use Rattle.sb_copies.specs.Shelf.{copies_in, numbered_in}
use Rattle.sb_copies.proofs.HeadFinds.{heads_found}
use Rattle.sb_copies.proofs.heads.all.Goals as goal

pub returns : goal.returns
returns c =
    let cs = copies_in c.args.slots.now c.args.order.now.rows in
    let hs = heads_in c.args.by_session.now.rows in
    let same : HasSame c.in_ok-told-2.told.items hs = subst (λ (l : List ℕ). HasSame c.in_ok-told-2.told.items l) (c.deref.ensures.value ∙ c.in_ok-told.ensures) c.in_ok-told-2.ensures.same in
    subst (λ (l : List StoredCopy). IfOk c.numbered_all.result (λ found. map (λ x. x.now) found.items ≡ l))
    (ap (λ (ns : List ℕ). numbered_in cs ns) c.deref-2.ensures.value ∙ heads_found c.in_ok-told-2.told.items hs cs c.in_ok-told-2.ensures.rise same c.requires.order)
    c.numbered_all.ensures
