-- Threads may share a desk, where what it serves may go to another thread.
use denote.Param.Send.{IsSend, IsSync, sendable}
use denote.RattleType.{RattleType}
use Rattle.std.proofs.Crossing.{crosses, frees, send, sync}
use Rattle.std.specs.contracts.option.Option as option
use Rattle.atomic_table.proofs.owned.Table.TheSendSync as table
use Rattle.sb_numbers.proofs.board.Board.TheSendSync as board
use Rattle.sb_desk.proofs.bells.Bells.TheSendSync as bells
use Rattle.sb_desk.proofs.post.Post.TheSendSync as post
use Rattle.sb_desk.specs.declared.served.Served.{Ghosts}
use Rattle.sb_desk.specs.contracts.desk.Desk as desk
use Rattle.sb_desk.specs.contracts.view.Held as held

held_send : (V : RattleType) → IsSend V → IsSend (held.the_row V)
held_send V s = search (crosses, sendable, post.the_send) depth 60 fits 20000

slot_send : (V : RattleType) → IsSend V → IsSend (option.the_row (held.the_row V))
slot_send V s = search (crosses, sendable, held_send) depth 60 fits 20000

pub desk_sync : (V : RattleType) (S : Ghosts V.Denot) → IsSend V → IsSync (desk.the_row V S)
desk_sync V S s = search (crosses, sendable, slot_send, send, sync, frees, table.the_field_sync, bells.the_field_sync, board.the_field_sync) depth 60 fits 20000
