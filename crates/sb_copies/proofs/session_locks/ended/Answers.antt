use Rattle.std.proofs.Common.{◌≡◌, ◌∙◌, ◌++◌, List, ℕ, ap, map, subst}
use Rattle.std.specs.Prelude.{IfOk}
use Rattle.std.specs.Borrow.{Bor}
use Rattle.std.specs.List.{flat_map}
use Rattle.sb_machine.specs.Leases.{has_ended}
use Rattle.sb_machine.specs.declared.state.StoredCopy.{StoredCopy}
use Rattle.sb_copies.specs.Shelf.{copies_in, numbered_in}
use Rattle.sb_copies.specs.UnderSession.{numbers_ended}
use Rattle.sb_copies.proofs.Ending.{ended_found}
use Rattle.sb_copies.proofs.Listing.{numbers_of}
use Rattle.sb_copies.proofs.session_locks.ended.Goals as goal

pub returns : goal.returns
returns c =
    let cs = copies_in c.args.slots.now c.args.order.now.rows in
    let rows = c.args.under.now.rows in
    let xs = c.args.sessions.now in
    let t = c.args.moment in
    subst (λ (l : List StoredCopy). IfOk c.numbered_all.result (λ found. map (λ x. x.now) found.items ≡ l))
    (ap (λ (ns : List ℕ). numbered_in cs ns) c.deref-3.ensures.value ∙ ended_found t c.args.expires rows xs cs c.requires.holds c.deref-2.result.now c.in_ok-found-3.found.items c.requires.order
    (c.deref-2.ensures.value ∙ c.in_ok-found-2.ensures ∙ ap (λ (ns : List ℕ). ns ++ flat_map (numbers_ended t rows) xs) (c.in_ok-found.ensures ∙ ap (λ (l : List StoredCopy). numbers_of (λ x. has_ended t xs x.standing) l) (ap (map (λ (b : Bor StoredCopy). b.now)) c.deref.ensures.value ∙ c.in_ok-due.ensures)))
    c.in_ok-found-3.ensures.rise c.in_ok-found-3.ensures.same)
    c.numbered_all.ensures
