use Rattle.std.proofs.Common.{◌≡◌, ◌≤◌, ◌==◌, nat_lt, true, false, length, Some, None, is_some, refl, sym, ap, ◌∙◌, arith}
use Rattle.std.specs.List.{slice_get}
use Rattle.std.proofs.lemmas.Bool.Decides.{nat_tests}
use Rattle.std.proofs.lemmas.Option.{slice_get_past}
use Rattle.sb_machine.proofs.Places.{get_some}
use Rattle.sb_machine.specs.declared.state.Listed.{Listed}
use Rattle.sb_entities.specs.declared.entity.EntityStore.{EntityStore}
use Rattle.sb_entities.proofs.Bisecting.{place_hit, place_miss}
use Rattle.sb_entities.proofs.rows.place_of.Goals as goal

pub returns-in-Some : goal.returns-in-Some
returns-in-Some c =
    let e = c.in-Some.entity.now in
    let seen : c.about.result.now.number ≡ e.listing.about.number = ap (λ (l : Listed). l.number) c.about.ensures in
    let tested = c.if-about-number.true in
    let it : (e.listing.about.number == c.args.number) ≡ true = grind (arith, nat_tests, seen, tested) in
    place_hit (λ (x : EntityStore). x.listing.about.number) c.args.number c.args.rows.now c.entry_of-place.result e c.requires c.entry_of-place.ensures.place (sym (get_some c.args.rows.now c.entry_of-place.result e c.in-Some.ensures.lookup.3.0 c.in-Some.ensures.lookup.1)) it

pub returns-in_default : goal.returns-in_default
returns-in_default c =
    let e = c.in-Some.entity.now in
    let seen : c.about.result.now.number ≡ e.listing.about.number = ap (λ (l : Listed). l.number) c.about.ensures in
    let tested = c.if-about-number.false in
    let isnt : (e.listing.about.number == c.args.number) ≡ false = grind (arith, nat_tests, seen, tested) in
    place_miss (λ (x : EntityStore). x.listing.about.number) c.args.number c.args.rows.now c.entry_of-place.result (Some e) c.requires c.entry_of-place.ensures.place (sym (get_some c.args.rows.now c.entry_of-place.result e c.in-Some.ensures.lookup.3.0 c.in-Some.ensures.lookup.1)) (rw isnt refl)

pub returns-in_default-2 : goal.returns-in_default-2
returns-in_default-2 c =
    let past : nat_lt c.entry_of-place.result (length c.args.rows.now) ≡ false = sym (ap is_some (sym c.in_default.is) ∙ c.get.ensures.lookup.0) in
    let beyond : length c.args.rows.now ≤ c.entry_of-place.result = grind (arith, nat_tests, past) in
    let found : None ≡ slice_get c.args.rows.now c.entry_of-place.result = sym (slice_get_past c.args.rows.now c.entry_of-place.result beyond) in
    place_miss (λ (x : EntityStore). x.listing.about.number) c.args.number c.args.rows.now c.entry_of-place.result None c.requires c.entry_of-place.ensures.place found refl
