use Rattle.std.proofs.Common.{◌≡◌, ◌++◌, drop, map}
use Rattle.sb_entities.specs.SessionList.{shown_of}
use Rattle.sb_entities.specs.Stores.{leaf_in}
use Rattle.sb_entities.proofs.session_list.all_shown.Given as goal

-- those shown so far, and those still to be shown, are all
abbrev pub invariant-loop-id : goal.invariant-loop-id
invariant-loop-id l = l.shown ++ map (shown_of (leaf_in l.part)) (map (λ t. t.now) (drop l.id-index l.ids)) ≡ map (shown_of (leaf_in l.part)) (map (λ t. t.now) l.ids)
