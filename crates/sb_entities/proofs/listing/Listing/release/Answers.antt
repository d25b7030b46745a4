use Rattle.std.proofs.Common.{length, subst}
use Rattle.sb_entities.specs.Listings.{AreRoomy}
use Rattle.sb_entities.proofs.Roomy.{roomy_before}
use Rattle.sb_entities.proofs.listing.Listing.release.Goals as goal

pub invariant_of-self : goal.invariant_of-self
invariant_of-self c = let n = length c.self.inside.about.rules in roomy_before n c.pop_back.new.self.items _ (subst (λ l. AreRoomy n l) c.pop_back.ensures.items c.self.invariant)
