use Rattle.std.proofs.Common.{◌≡◌, ◌+◌, ◌≤◌, ◌++◌, [], length, map, vec_capacity}
use Rattle.sb_desk.specs.Desks.{below}
use Rattle.sb_desk.specs.Lists.{Each}
use Rattle.sb_desk.proofs.opening.deal_out.Given as goal

-- the passes dealt so far have the greatest numbers
abbrev pub invariant-loop-number : goal.invariant-loop-number
invariant-loop-number g l = record {
  table : l.place.table_id ≡ l.fn.place.table_id;
  place : l.place.me ≡ (record l.fn.place.me.0 { parts = l.place.me.0.parts; spare = l.place.me.0.spare }, []);
  count : length l.dealt.items + 1 ≡ l.number;
  parts : length l.dealt.items + l.place.me.0.parts ≡ l.passes;
  spare : l.place.me.0.spare + 1 ≡ l.place.me.0.parts;
  room : l.passes ≤ vec_capacity l.dealt;
  each : Each (λ p. (p.desk ≡ l.top.table_id) × (p.start ≡ l.fn.place.me.0.start) × (p.origin ≡ l.fn.place.me.0.origin) × (p.passes ≡ l.fn.place.me.0.passes) × (p.seen ≡ [])) l.dealt.items;
  seats : map (λ p. p.seat) l.dealt.items ++ below l.place.me.0.parts ≡ below l.passes;
}
