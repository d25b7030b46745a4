use Rattle.std.proofs.Common.{◌≡◌, ◌+◌, ap, arith}
use Rattle.sb_machine.specs.declared.state.StoredCopy.{StoredCopy}
use Rattle.sb_copies.proofs.Below.{below_next, below_put}
use Rattle.sb_entities.proofs.part.PartStore.enter.Goals as goal

pub invariant_of-self : goal.invariant_of-self
invariant_of-self c =
    let s = c.args.self.now in
    let number : c.stored-copy.result.number ≡ s.last + 1 = ap (λ (x : StoredCopy). x.number) c.stored-copy.ensures in
    record {
      numbered = below_put (s.last + 1 + 1) c.stored-copy.result s.copies.copies c.enter.new.copies.copies (below_next (s.last + 1) s.copies.copies s.numbered) (omega (arith, number)) c.enter.ensures.copies;
      bounded = c.requires.fits;
      heads = c.enter.ensures.heads;
    }
