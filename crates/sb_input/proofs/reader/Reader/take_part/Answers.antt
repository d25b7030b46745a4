use Rattle.std.proofs.Common.{◌≡◌, ◌+◌, ◌++◌, ◌==◌, ℕ, List, Some, None, position, sym, ◌∙◌, ap, subst, take}
use Rattle.sb_input.specs.PartialLines.{StandsFor}
use Rattle.sb_input.specs.Readers.{pending_of}
use Rattle.sb_input.proofs.Splits.{position-none}
use Rattle.sb_input.proofs.Pending.{pending_on, pending_none, found_within, split_pending}
use Rattle.sb_input.proofs.reader.Reader.take_part.Goals as goal

pub returns-in_ok-next-in-Some-clause-part : goal.returns-in_ok-next-in-Some-clause-part
returns-in_ok-next-in-Some-clause-part c line stands =
    let r = c.args.self.now in
    let k = c.in-Some.place in
    let pending = pending_of r in
    let found : Some k ≡ position (λ b. b == 10) pending = c.in-Some.ensures ∙ ap (position (λ b. b == 10)) c.pending-rest.ensures in
    let on = pending_on r.piece.items r.at r.end (k + 1) (found_within r.piece.items r.at r.end k found r.in_order) in
    let split = split_pending pending _ k found on in
    let front = c.front_of.ensures ∙ ap (take k) c.pending-rest.ensures in
    (take k pending, split.0, split.1, subst (λ (l : List ℕ). StandsFor c.in_ok-next-in-Some.next (line ++ l)) front (c.in_ok-next-in-Some.ensures line stands))

pub returns-in_ok-next-in-None-clause-part : goal.returns-in_ok-next-in-None-clause-part
returns-in_ok-next-in-None-clause-part c line stands =
    let r = c.args.self.now in
    let none : None ≡ position (λ b. b == 10) (pending_of r) = c.in-None.ensures ∙ ap (position (λ b. b == 10)) c.pending-rest.ensures in (
      position-none (pending_of r) (sym none),
      pending_none r.piece.items r.end,
      subst (λ (l : List ℕ). StandsFor c.in_ok-next-in-None.next (line ++ l)) c.pending-rest.ensures (c.in_ok-next-in-None.ensures line stands),
    )
