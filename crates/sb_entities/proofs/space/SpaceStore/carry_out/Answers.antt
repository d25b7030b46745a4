use Rattle.sb_machine.specs.Changes.{after_all}
use Rattle.sb_entities.specs.Stores.{space_in, stock_in}
use Rattle.sb_entities.proofs.Carried.{first_room, first_fits, rest_space, rest_numbered, rest_room}
use Rattle.sb_entities.proofs.space.SpaceStore.carry_out.Goals as goal

pub carry-requires-clause-room : goal.carry-requires-clause-room
carry-requires-clause-room c = first_room c.in-Some.change c.take_first.new.self c.loop-change.left (stock_in c.loop-change.self) c.in-Some.ensures.some c.loop-change.invariant.room

pub carry-requires-clause-fits : goal.carry-requires-clause-fits
carry-requires-clause-fits c = first_fits c.args.moment c.in-Some.change c.take_first.new.self c.loop-change.left c.loop-change.self c.in-Some.ensures.some c.loop-change.invariant.numbered

pub loop-change-preserved : goal.loop-change-preserved
loop-change-preserved c = record {
  space = rest_space c.args.moment c.in-Some.change c.take_first.new.self c.loop-change.left c.loop-change.self c.carry.new.self (after_all c.args.moment c.args.changes (space_in c.args.self.now)) c.in-Some.ensures.some c.carry.ensures c.loop-change.invariant.space;
  numbered = rest_numbered c.args.moment c.in-Some.change c.take_first.new.self c.loop-change.left c.loop-change.self c.carry.new.self c.in-Some.ensures.some c.carry.ensures c.loop-change.invariant.numbered;
  room = rest_room c.args.moment c.in-Some.change c.take_first.new.self c.loop-change.left (stock_in c.loop-change.self) (stock_in c.carry.new.self) c.in-Some.ensures.some c.carry.ensures c.loop-change.invariant.room;
}
