use Rattle.std.proofs.Common.{◌≡◌, Some, None}
use Rattle.sb_snapshot.specs.Base as base
use Rattle.sb_snapshot.specs.Gathering.{first_entity}
use Rattle.sb_snapshot.proofs.Steps.{by_some, by_none, made_next, made_none}
use Rattle.sb_snapshot.proofs.gathering.entities_with.Goals as goal

pub returns-in_default-2 : goal.returns-in_default-2
returns-in_default-2 c =
    let step = first_entity c.in-Some.head c.next.leaves.items c.next.sessions.items in
    made_none c.next.entities c.next.heads.items c.in-Some.head c.pop_front.new.self.items c.next.leaves.items c.next.sessions.items (base.entities_with c.args.heads c.args.leaves c.args.sessions) c.in-Some.ensures.items
    (by_none (step ≡ None) c.in_ok-entity.field-0 c.in_default-2.not-Some c.in_ok-entity.ensures.none) c.next.invariant

pub next-preserved : goal.next-preserved
next-preserved c =
    let step = first_entity c.in-Some.head c.next.leaves.items c.next.sessions.items in
    let leaves = c.first_entity.new.leaves.items in
    let sessions = c.first_entity.new.sessions.items in
    made_next c.next.entities c.push.new.self c.next.heads.items c.in-Some.head c.pop_front.new.self.items c.next.leaves.items leaves c.next.sessions.items sessions c.in-Some-2.entity (base.entities_with c.args.heads c.args.leaves c.args.sessions)
    c.in-Some.ensures.items (by_some (λ e. step ≡ Some (e, (leaves, sessions))) c.in_ok-entity.field-0 c.in-Some-2.entity c.in-Some-2.is c.in_ok-entity.ensures.found) c.in_ok-push.ensures.ok c.next.invariant
