-- Calls that are planned without memory.
use Rattle.std.specs.Prelude.{Bool, true, false, ◌&&◌, None, is_none}
use Rattle.sb_machine.specs.Acts.{is_via_in}
use Rattle.sb_machine.specs.Fields.{bad_field}
use Rattle.sb_machine.specs.declared.call.Act.{Act}
use Rattle.sb_machine.specs.declared.call.Act.TheVariants.{Cancel, Settle, Rollback}
use Rattle.sb_machine.specs.declared.call.Call.{Call}
use Rattle.sb_machine.specs.declared.state.Space.{Space}
use Rattle.sb_engine.specs.Drafts.{copies_nothing}

-- a scheduled message is taken back, a copy is completed or deferred at once, a transaction is dropped
abbrev pub is_small : Act → Bool
is_small (Cancel from number) = true
is_small (Settle from which token session how None) = copies_nothing how
is_small (Rollback txn) = true
is_small _ = false

-- no field is at fault either, and nothing is kept of it
abbrev pub takes_no_memory : Space → Call → Bool
takes_no_memory s call = is_none call.by && is_none (bad_field (is_via_in s call.act) call.act None) && is_small call.act
