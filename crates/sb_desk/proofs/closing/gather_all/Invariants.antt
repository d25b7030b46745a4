use Rattle.std.proofs.Common.{◌≡◌, ◌+◌, ◌++◌, List, length, map}
use Rattle.sb_desk.specs.Desks.{Sitting, claim_of}
use Rattle.sb_desk.specs.Lists.{Each}
use Rattle.sb_desk.proofs.closing.gather_all.Given as goal

-- what was taken in so far
abbrev pub invariant-loop-pass : goal.invariant-loop-pass
invariant-loop-pass g l = record {
  done : List Sitting;
  split : l.fn.passes.items ≡ l.passes.items ++ done;
  table : l.place.table_id ≡ l.initial.place.table_id;
  id : l.place.id ≡ l.initial.place.id;
  me : l.place.me ≡ (record l.initial.place.me.0 { parts = l.initial.place.me.0.parts + length done; claims = map claim_of done ++ l.initial.place.me.0.claims }, l.initial.place.me.1);
  each : Each (λ p. p.desk ≡ l.top.table_id) l.passes.items;
}

abbrev pub decreases-loop-pass : goal.decreases-loop-pass
decreases-loop-pass g l = length l.passes.items
