use Rattle.std.proofs.Common.{◌≤◌, refl}
use Rattle.sb_machine.proofs.Places.{set_is}
use Rattle.sb_txn.specs.Txns.{Opened, has_txn, with_queued}
use Rattle.sb_txn.proofs.Kept.{node_there, queued_at, queued_slots_at}
use Rattle.sb_txn.proofs.Steps.{at_found}
use Rattle.sb_txn.proofs.rows.queue_in.Goals as goal

pub note-requires : goal.note-requires
note-requires c = record { room = node_there c.args.number c.args.place c.args.rows.now.items c.args.keys.now c.requires.found c.requires.room c.requires.kept }

pub queue_at-requires-clause-room : goal.queue_at-requires-clause-room
queue_at-requires-clause-room c = at_found (λ (r : Opened). 1 ≤ r.spare) (has_txn c.args.number) c.args.place c.args.rows.now.items _ refl c.requires.found c.requires.room

pub returns-clause-rows : goal.returns-clause-rows
returns-clause-rows c = set_is (has_txn c.args.number) (with_queued c.args.deadline c.args.operation) c.args.place c.args.rows.now.items _ c.queue_at.new.rows.items refl c.requires.found c.queue_at.ensures.rows

pub returns-clause-kept : goal.returns-clause-kept
returns-clause-kept c =
    queued_at c.args.number c.args.place c.args.deadline c.args.operation c.args.rows.now.items c.queue_at.new.rows.items c.args.keys.now c.note.new.index c.requires.found c.requires.room c.note.ensures.keys c.note.ensures.spare c.requires.kept (returns-clause-rows c)

pub returns-clause-slots : goal.returns-clause-slots
returns-clause-slots c = queued_slots_at c.args.number c.args.place c.args.deadline c.args.operation c.args.rows.now.items c.queue_at.new.rows.items c.requires.found c.requires.room (returns-clause-rows c)
