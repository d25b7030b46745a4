-- A node may go to another thread, where its disks may.
use denote.Param.Send.{IsSend, sendable}
use denote.RattleType.{RattleType}
use Rattle.std.proofs.Crossing.{crosses}
use Rattle.sb_outside.specs.declared.disk.Disk.{Ghosts}
use Rattle.sb_engine.proofs.Crossing.{engine_send}
use Rattle.sb_journal.proofs.journal.Journal.TheSendSync as journal
use Rattle.sb_node.specs.contracts.node.Node as node

pub node_send : (D : RattleType) (B : Ghosts D.Denot) → IsSend D → IsSend (node.the_row D B)
node_send D B s = search (crosses, sendable, engine_send, journal.the_field_send) depth 60 fits 20000
