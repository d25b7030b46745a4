-- An engine may go to another thread.
use denote.Param.Send.{IsSend, recorded_send, sendable, struct_send, view_send}
use denote.Struct.Declared.{shape}
use Rattle.std.proofs.Crossing.{crosses}
use Rattle.std.proofs.alloc.Global.TheSendSync as global
use Rattle.std.proofs.vec.Vec.TheSendSync as vec
use Rattle.sb_model.proofs.body.Body.TheSendSync as body
use Rattle.sb_model.proofs.expression.Expression.TheLaws.TheKnot as knot
use Rattle.sb_machine.specs.contracts.rule.Rule as rule
use Rattle.sb_repeats.proofs.clients.Clients.TheSendSync as clients
use Rattle.sb_index.proofs.tree.Tree.TheLaws.TheKnot as tree
use Rattle.sb_index.specs.contracts.index.Index as index
use Rattle.sb_copies.specs.contracts.shelf.Shelf as shelf
use Rattle.sb_repeats.specs.contracts.window.Window as window
use Rattle.sb_txn.specs.contracts.txns.Txns as txns
use Rattle.sb_txn.proofs.open.OpenTransaction.TheSendSync as transaction
use Rattle.sb_entities.specs.contracts.entities.Entities as entities
use Rattle.sb_entities.specs.contracts.entity.EntityStore as entity
use Rattle.sb_entities.specs.contracts.listing.Listing as listing
use Rattle.sb_entities.specs.contracts.part.PartStore as part
use Rattle.sb_entities.specs.contracts.space.SpaceStore as store
use Rattle.sb_engine.specs.contracts.deliver.arrivals.Marks as marks
use Rattle.sb_engine.specs.contracts.deliver.arrivals.Marks.TheInside as inside
use Rattle.sb_engine.specs.contracts.engine.Engine as engine

index_send : IsSend index.the_row
index_send = search (crosses, tree.crosses, sendable, global.the_field_send) depth 60 fits 20000

shelf_send : IsSend shelf.the_row
shelf_send = search (crosses, sendable, body.the_send, index_send, global.the_field_send) depth 60 fits 20000

window_send : IsSend window.the_row
window_send = search (crosses, sendable, index_send) depth 60 fits 20000

txns_send : IsSend txns.the_row
txns_send = search (crosses, sendable, index_send, vec.the_send, transaction.the_send, global.the_field_send) depth 60 fits 20000

rule_send : IsSend rule.the_row
rule_send = search (crosses, knot.crosses, sendable) depth 60 fits 20000

listing_send : IsSend listing.the_row
listing_send = search (crosses, sendable, global.the_field_send, vec.the_send, rule_send) depth 60 fits 20000

part_send : IsSend part.the_field.row
part_send = search (crosses, sendable, shelf_send) depth 60 fits 20000

entity_send : IsSend entity.the_row
entity_send = search (crosses, sendable, listing_send, part_send, window_send) depth 60 fits 20000

entities_send : IsSend entities.the_row
entities_send = search (crosses, sendable, vec.the_send, entity_send, index_send) depth 60 fits 20000

store_send : IsSend store.the_field.row
store_send = search (crosses, sendable, global.the_field_send, entities_send, txns_send) depth 60 fits 20000

marks_send : IsSend marks.the_field.row
marks_send = view_send inside.the_row _ _ _ _ (recorded_send inside.the_field.row _ _ inside.the_type.to_one (struct_send (shape inside.the_type) (search sendable, tt)))

pub engine_send : IsSend engine.the_field.row
engine_send = search (crosses, sendable, global.the_field_send, clients.the_send, store_send, marks_send) depth 60 fits 20000
