use Rattle.std.proofs.Common.{◌+◌, ◌≤◌, refl, arith, subst, sym}
use Rattle.sb_machine.specs.Changes.{max_number}
use Rattle.sb_machine.specs.Leaves.{copies_given, is_deferred, prolonged_standing}
use Rattle.sb_machine.specs.declared.change.LeafChange.{LeafChange}
use Rattle.sb_machine.specs.declared.state.Standing.TheVariants.{Held}
use Rattle.sb_copies.specs.Dues.{never}
use Rattle.sb_copies.specs.Shelf.{AreBelow}
use Rattle.sb_copies.proofs.Below.{below_changed, below_next, below_taken}
use Rattle.sb_entities.proofs.Leading.{below_more, holds_renewed}
use Rattle.sb_entities.proofs.Seating.{holds_prolonged, holds_written}
use Rattle.sb_entities.proofs.part.PartStore.change.Goals as goal

pub end-requires-clause-below : goal.end-requires-clause-below
end-requires-clause-below c = let s = c.args.self.now in below_more (s.last + 1) never s.copies.copies (omega (arith, s.bounded)) s.numbered

pub hold-requires-clause-below : goal.hold-requires-clause-below
hold-requires-clause-below c = let s = c.args.self.now in below_more (s.last + 1) never s.copies.copies (omega (arith, s.bounded)) s.numbered

pub stand-requires-clause-below : goal.stand-requires-clause-below
stand-requires-clause-below c = let s = c.args.self.now in below_more (s.last + 1) never s.copies.copies (omega (arith, s.bounded)) s.numbered

pub close-requires-clause-below : goal.close-requires-clause-below
close-requires-clause-below c = let s = c.args.self.now in below_more (s.last + 1) never s.copies.copies (omega (arith, s.bounded)) s.numbered

pub invariant_of-self : goal.invariant_of-self
invariant_of-self c = let s = c.args.self.now in record { numbered = below_next (s.last + 1) s.copies.copies s.numbered; bounded = subst (λ (z : LeafChange). s.last + copies_given z ≤ max_number) c.in-Passes.is c.requires.fits; heads = s.heads }

pub invariant_of-self-in-Ends : goal.invariant_of-self-in-Ends
invariant_of-self-in-Ends c =
    let s = c.args.self.now in
    record { numbered = below_taken (s.last + 1) c.in-Ends.number s.copies.copies c.end.new.copies.copies s.numbered c.end.ensures.copies; bounded = s.bounded; heads = c.end.ensures.heads }

pub invariant_of-self-in-Holds : goal.invariant_of-self-in-Holds
invariant_of-self-in-Holds c =
    let s = c.args.self.now in
    record {
      numbered = below_changed c.in-Holds.number (λ x. record x { standing = Held c.args.lock c.in-Holds.hold (is_deferred x.standing) }) (s.last + 1) (λ x. refl) s.copies.copies c.hold.new.copies.copies s.numbered c.hold.ensures.copies;
      bounded = s.bounded;
      heads = c.hold.ensures.heads;
    }

pub invariant_of-self-in-Stands : goal.invariant_of-self-in-Stands
invariant_of-self-in-Stands c =
    let s = c.args.self.now in
    record {
      numbered = below_changed c.in-Stands.number (λ x. record x { count = c.in-Stands.count; standing = c.in-Stands.standing }) (s.last + 1) (λ x. refl) s.copies.copies c.stand.new.copies.copies s.numbered c.stand.ensures.copies;
      bounded = s.bounded;
      heads = c.stand.ensures.heads;
    }

pub invariant_of-self-in-Renews : goal.invariant_of-self-in-Renews
invariant_of-self-in-Renews c =
    let s = c.args.self.now in
    record {
      numbered = below_changed c.in-Renews.number (λ x. record x { standing = prolonged_standing c.in-Renews.until x.standing }) (s.last + 1) (λ x. refl) s.copies.copies c.renew.new.self.copies s.numbered c.renew.ensures.copies;
      bounded = s.bounded;
      heads = holds_renewed c.in-Renews.number c.in-Renews.until s.copies.heads c.renew.new.self.heads s.copies.copies c.renew.new.self.copies s.sessions.sessions s.heads c.renew.ensures.heads c.renew.ensures.copies;
    }

pub invariant_of-self-in-Opens : goal.invariant_of-self-in-Opens
invariant_of-self-in-Opens c =
    let s = c.args.self.now in
    record { numbered = subst (λ l. AreBelow (s.last + 1) l) (sym c.open.ensures.copies) s.numbered; bounded = s.bounded; heads = c.open.ensures.heads }

pub invariant_of-self-in-Closes : goal.invariant_of-self-in-Closes
invariant_of-self-in-Closes c =
    let s = c.args.self.now in
    record { numbered = subst (λ l. AreBelow (s.last + 1) l) (sym c.close.ensures.copies) s.numbered; bounded = s.bounded; heads = c.close.ensures.heads }

pub invariant_of-self-in-Prolongs : goal.invariant_of-self-in-Prolongs
invariant_of-self-in-Prolongs c =
    let s = c.args.self.now in
    record { numbered = s.numbered; bounded = s.bounded; heads = holds_prolonged c.in-Prolongs.held c.in-Prolongs.until s.copies.heads s.copies.copies s.sessions.sessions c.prolong.new.self.sessions s.heads c.prolong.ensures.sessions }

pub invariant_of-self-in-Writes : goal.invariant_of-self-in-Writes
invariant_of-self-in-Writes c =
    let s = c.args.self.now in
    record { numbered = s.numbered; bounded = s.bounded; heads = holds_written c.in-Writes.held c.in-Writes.state s.copies.heads s.copies.copies s.sessions.sessions c.write.new.self.sessions s.heads c.write.ensures.sessions }
