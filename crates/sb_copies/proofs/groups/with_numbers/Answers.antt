use Rattle.std.proofs.Common.{rules, arith, ◌≡◌, ◌+◌, ◌*◌, ◌<◌, ◌≤◌, List, subst, sym, ℕ}
use Rattle.sb_machine.proofs.Places.{found_passes}
use Rattle.sb_copies.specs.Grouped.{span}
use Rattle.sb_copies.proofs.Grouped.{is_le}
use Rattle.sb_copies.proofs.Stretches.{IsOnWay, is_stretch, stretch_own, way_begins, way_ends, way_goes_on, way_past}
use Rattle.sb_copies.proofs.groups.with_numbers.Goals as goal

pub rows-init : goal.rows-init
rows-init c =
    let h = c.args.group in
    let start : c.key_of-from.result ≡ h * span + 0 = c.key_of-from.ensures in
    (omega (arith, start), subst (λ k. IsOnWay h c.args.index.now.rows c.args.found.items k c.args.found.items) (sym start) (way_begins h c.args.index.now.rows c.args.found.items))

pub rows-smaller : goal.rows-smaller
rows-smaller c =
    let h = c.args.group in
    let row = c.in-Some.row in
    let le : c.rows.from ≤ row.key = is_le c.rows.from row.key (stretch_own h c.rows.from row (found_passes (is_stretch h c.rows.from) c.args.index.now.rows row (sym c.in-Some.ensures))) in
    let next : c.in-Some-checked_add.next ≡ row.key + 1 = search rules in
    let fits : c.in-Some-checked_add.next < 340282366920938463463374607431768211456 = search rules in
    omega (arith, le, next, fits)

pub rows-preserved : goal.rows-preserved
rows-preserved c =
    let h = c.args.group in
    let row = c.in-Some.row in
    let rows = c.args.index.now.rows in
    let le : c.rows.from ≤ row.key = is_le c.rows.from row.key (stretch_own h c.rows.from row (found_passes (is_stretch h c.rows.from) rows row (sym c.in-Some.ensures))) in
    let next : c.in-Some-checked_add.next ≡ row.key + 1 = search rules in
    let low : h * span ≤ c.in-Some-checked_add.next = omega (arith, le, next, c.rows.invariant.0) in (
      low,
      subst (λ k. IsOnWay h rows c.args.found.items k c.push.new.self.items) (sym next)
          (subst (λ (l : List ℕ). IsOnWay h rows c.args.found.items (row.key + 1) l) (sym c.in_ok-push.ensures.items) (way_goes_on h rows c.args.found.items c.rows.from row c.rows.found.items c.rises.ensures c.in-Some.ensures c.rows.invariant.1)),
    )

pub returns-in_default-checked_add : goal.returns-in_default-checked_add
returns-in_default-checked_add c =
    let h = c.args.group in
    let row = c.in-Some.row in
    let rows = c.args.index.now.rows in
    let past : 340282366920938463463374607431768211456 ≤ row.key + 1 = search rules in
    let far : h * span + span ≤ row.key + 1 = omega (arith, past) in
    way_past h rows c.args.found.items (row.key + 1) c.push.new.self.items far
    (subst (λ (l : List ℕ). IsOnWay h rows c.args.found.items (row.key + 1) l) (sym c.in_ok-push.ensures.items) (way_goes_on h rows c.args.found.items c.rows.from row c.rows.found.items c.rises.ensures c.in-Some.ensures c.rows.invariant.1))

pub returns : goal.returns
returns c = way_ends c.args.group c.args.index.now.rows c.args.found.items c.rows.from c.rows.found.items c.in_default.ensures c.rows.invariant.1
