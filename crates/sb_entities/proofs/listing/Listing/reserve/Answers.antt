use Rattle.std.proofs.Common.{◌≡◌, ◌∷◌, ◌++◌, [], arith, subst, sym, ◌<◌, ◌+◌, length, vec_capacity}
use Rattle.sb_entities.specs.Listings.{AreRoomy}
use Rattle.sb_entities.proofs.Roomy.{roomy_pushed}
use Rattle.sb_entities.proofs.listing.Listing.reserve.Goals as goal

pub invariant_of-self-2 : goal.invariant_of-self-2
invariant_of-self-2 c =
    let n = length c.self.inside.about.rules in
    let old = c.self.inside.lists.items in
    let size : n + length old < vec_capacity c.in_ok-list.list = omega (arith, c.in_ok-list.ensures.exact, c.in_ok-size.ensures, c.len.ensures, c.len-2.ensures) in
    let pushed : c.push_back.new.self.items ≡ old ++ c.in_ok-list.list ∷ [] = c.in_ok-push_back.ensures.items in
    subst (λ l. AreRoomy n l) (sym pushed) (roomy_pushed n old c.in_ok-list.list c.self.invariant size c.in_ok-list.ensures.items)
