use Rattle.std.proofs.Common.{rules, arith, ◌≡◌, ◌∙◌, ◌+◌, ◌^◌, ◌≤◌, ◌<◌, sym, find, Some, None, true, false}
use Rattle.sb_index.specs.Hashes.{hash}
use Rattle.sb_index.specs.Rows.{is_from}
use Rattle.sb_repeats.specs.Windows.{is_known_at, key_at, moment_in}
use Rattle.sb_repeats.proofs.Keys.{known_end, known_hit, known_next, known_none, no_earlier}
use Rattle.sb_repeats.proofs.known.is_known_by.Goals as goal

pub returns-then-is_known_at : goal.returns-then-is_known_at
returns-then-is_known_at c =
    let ids = c.args.ids.now.items in
    let id = c.args.id.now in
    let on : is_known_at c.args.seconds id c.args.moment c.in-Some.at ids ≡ true = search rules in
    sym (known_hit c.args.seconds c.args.moment id c.in-Some.at ids on)

pub returns-then-at : goal.returns-then-at
returns-then-at c =
    let ids = c.args.ids.now.items in
    let rows = c.args.known.now.rows in
    let id = c.args.id.now in
    let from = c.rows.from in
    let at = c.in-Some.at in
    let told = c.requires.told in
    let found : moment_in (hash id) (find (is_from (key_at (hash id) from)) rows) ≡ Some at = search rules in
    let off : is_known_at c.args.seconds id c.args.moment at ids ≡ false = search rules in
    let past : 2 ^ 64 ≤ at + 1 = search rules in
    sym (c.rows.invariant ∙ known_next c.args.seconds c.args.moment id from at ids rows c.requires.rising told.moments told.tells found off ∙ known_end c.args.seconds c.args.moment id (at + 1) ids told.moments past)

pub rows-smaller : goal.rows-smaller
rows-smaller c =
    let rows = c.args.known.now.rows in
    let id = c.args.id.now in
    let from = c.rows.from in
    let at = c.in-Some.at in
    let found : moment_in (hash id) (find (is_from (key_at (hash id) from)) rows) ≡ Some at = search rules in
    let le : from ≤ at = no_earlier (hash id) from at rows found in
    let lt : at < 2 ^ 64 = search rules in
    omega (arith, le, lt)

pub rows-preserved : goal.rows-preserved
rows-preserved c =
    let ids = c.args.ids.now.items in
    let rows = c.args.known.now.rows in
    let id = c.args.id.now in
    let from = c.rows.from in
    let at = c.in-Some.at in
    let told = c.requires.told in
    let found : moment_in (hash id) (find (is_from (key_at (hash id) from)) rows) ≡ Some at = search rules in
    let off : is_known_at c.args.seconds id c.args.moment at ids ≡ false = search rules in
    c.rows.invariant ∙ known_next c.args.seconds c.args.moment id from at ids rows c.requires.rising told.moments told.tells found off

pub returns : goal.returns
returns c =
    let ids = c.args.ids.now.items in
    let rows = c.args.known.now.rows in
    let id = c.args.id.now in
    let from = c.rows.from in
    let told = c.requires.told in
    let none : moment_in (hash id) (find (is_from (key_at (hash id) from)) rows) ≡ None = search rules in
    sym (c.rows.invariant ∙ known_none c.args.seconds c.args.moment id from ids rows c.requires.rising told.moments told.tells none)
