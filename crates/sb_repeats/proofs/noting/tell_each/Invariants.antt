use Rattle.std.proofs.Common.{◌≡◌, ℕ, ◌≤◌, ◌||◌, drop, length}
use Rattle.std.specs.List.{list_any}
use Rattle.sb_index.specs.Rows.{is_at}
use Rattle.sb_repeats.specs.Windows.{AreMoments, has_key}
use Rattle.sb_repeats.proofs.noting.tell_each.Given as goal

-- those so far have their rows, and each of those that are left has a node
abbrev pub invariant-loop-accepted : goal.invariant-loop-accepted
invariant-loop-accepted l =
    ((k : ℕ) → (list_any (has_key k) l.ids || list_any (is_at k) l.fn.known.rows) ≡ (list_any (has_key k) (drop l.accepted-index l.ids) || list_any (is_at k) l.known.rows))
    × (AreMoments (drop l.accepted-index l.ids) → AreMoments l.ids)
    × (length (drop l.accepted-index l.ids) ≤ l.known.spare)
