use Rattle.std.proofs.Common.{◌≡◌, drop, map}
use Rattle.std.specs.List.{fold}
use Rattle.sb_entities.specs.SessionList.{AreById, sign_with}
use Rattle.sb_entities.proofs.session_list.with_signs.Given as goal

-- the ids so far stand in order, and with the signs still to come they are all
abbrev pub invariant-loop-sign : goal.invariant-loop-sign
invariant-loop-sign l = record {
  found : fold (sign_with l.after l.count) (map (λ t. t.now) l.ids.items) (map (λ c. c.now) (drop l.sign-index l.signs)) ≡ fold (sign_with l.after l.count) (map (λ t. t.now) l.fn.remembered.items) (map (λ c. c.now) l.signs);
  order : AreById (map (λ t. t.now) l.ids.items);
}
