-- A whole call, by the task that its words name, and what words name.
use Rattle.std.proofs.Common.{◌≡◌, ◌≢◌, ℕ, List, Bool, true, false, Option, Some, None, Result, Err, refl, sym, ◌∙◌, ap}
use Rattle.std.specs.Prelude.{option_and_then, option_map}
use Rattle.sb_words.specs.Words.{checkpoint_after_in, checkpoint_after_of, checkpoint_in, checkpoint_of, command_in, connections_in, connections_of, count_in, count_of, form_in, form_value, look_in, look_of, seed_in, seed_of, max_jump_in, max_jump_of, request_time_of, idle_time_of}
use Rattle.sb_words.specs.declared.command.Command.{Command}
use Rattle.sb_words.specs.declared.command.Command.TheVariants.{Run as RunCommand, Check as CheckCommand, Client as ClientCommand, Serve, Drill as DrillCommand}
use Rattle.sb_words.specs.declared.command.Form.{Form as ReadForm}
use Rattle.sb_words.specs.declared.command.WordsFault.{WordsFault}
use Rattle.sb_words.specs.declared.command.WordsFault.TheVariants.{BadWords, OutOfMemory}
use Rattle.sb_app.specs.Outside.{Output, Outside}
use Rattle.sb_app.specs.declared.task.Named.{Named}
use Rattle.sb_app.specs.declared.task.Task.{Task}
use Rattle.sb_app.specs.declared.task.Task.TheVariants.{Run, RunThenCheckpoint, Check, Look, Client, Drill}
use Rattle.sb_app.specs.Endings.{IsLineWritten}
use Rattle.sb_app.specs.Tops.{usage_line, IsCarriedOut}
use Rattle.sb_app.specs.Clients.{Exchanges, IsClientCall}
use Rattle.sb_app.specs.Looks.{IsLooked}
use Rattle.sb_app.specs.Checkpoints.{IsCheckpointRun}
use Rattle.sb_app.specs.Calls.{IsCall, IsNamed, task_in, task_of}
use Rattle.sb_app.specs.Servings.{limits_for, limits_in}
use Rattle.sb_app.proofs.Carried.{unread_alone, usage_alone}
use Rattle.sb_app.proofs.Checkpoints.{unread_checkpoint}
use Rattle.sb_app.proofs.Clients.{at_once}
use Rattle.sb_app.proofs.Looks.{look_at_once}

-- ---- calls

pub usage_call : (clock : ℕ → Type 0) (days salt : ℕ) (was : Outside) (output : Output) (link : Exchanges) → IsLineWritten usage_line was.output output → IsCall clock days None salt was (record was { output = output }) link link 2
usage_call clock days salt was output link written = record { carried_out = λ other last plain. usage_alone clock days salt was output written; checkpointed = λ is. absurd cc; looked = λ is. absurd cc; client = λ is. absurd cc }

pub unread_call : (clock : ℕ → Type 0) (days : ℕ) (task : Option Task) (salt : ℕ) (was : Outside) (link : Exchanges) → IsCall clock days task salt was was link link 7
unread_call clock days task salt was link = record {
  carried_out = λ other last plain. unread_alone clock days task salt was;
  checkpointed = λ is. unread_checkpoint clock days salt was;
  looked = λ is. look_at_once salt was;
  client = λ is. at_once was link;
}

pub run_call : (clock : ℕ → Type 0) (days salt : ℕ) (was now : Outside) (link : Exchanges) (status : ℕ) → IsCarriedOut clock days (Some Run) salt was now status → IsCall clock days (Some Run) salt was now link link status
run_call clock days salt was now link status carried = record { carried_out = λ other last plain. carried; checkpointed = λ is. absurd cc; looked = λ is. absurd cc; client = λ is. absurd cc }

pub checkpoint_call : (clock : ℕ → Type 0) (days salt : ℕ) (was now : Outside) (link : Exchanges) (status : ℕ) → IsCheckpointRun clock days salt was now status → IsCall clock days (Some RunThenCheckpoint) salt was now link link status
checkpoint_call clock days salt was now link status ran = record { carried_out = λ other last plain. absurd (plain refl); checkpointed = λ is. ran; looked = λ is. absurd cc; client = λ is. absurd cc }

pub check_call : (clock : ℕ → Type 0) (days salt : ℕ) (was now : Outside) (link : Exchanges) (status : ℕ) → IsCarriedOut clock days (Some Check) salt was now status → IsCall clock days (Some Check) salt was now link link status
check_call clock days salt was now link status carried = record { carried_out = λ other last plain. carried; checkpointed = λ is. absurd cc; looked = λ is. absurd cc; client = λ is. absurd cc }

pub drill_call : (clock : ℕ → Type 0) (days count seed salt : ℕ) (was now : Outside) (link : Exchanges) (status : ℕ) → IsCarriedOut clock days (Some (Drill count seed)) salt was now status → IsCall clock days (Some (Drill count seed)) salt was now link link status
drill_call clock days count seed salt was now link status carried = record { carried_out = λ other last plain. carried; checkpointed = λ is. absurd cc; looked = λ is. absurd cc; client = λ is. absurd cc }

pub look_call : (clock : ℕ → Type 0) (days salt : ℕ) (was now : Outside) (link : Exchanges) (status : ℕ) → IsLooked salt was now status → IsCall clock days (Some Look) salt was now link link status
look_call clock days salt was now link status looked = record { carried_out = λ other last plain. absurd (last refl); checkpointed = λ is. absurd cc; looked = λ is. looked; client = λ is. absurd cc }

pub link_call : (clock : ℕ → Type 0) (days salt : ℕ) (was now : Outside) (link link_now : Exchanges) (status : ℕ) → IsClientCall was now link link_now status → IsCall clock days (Some Client) salt was now link link_now status
link_call clock days salt was now link link_now status called = record { carried_out = λ other last plain. absurd (other refl); checkpointed = λ is. absurd cc; looked = λ is. absurd cc; client = λ is. called }

-- ---- what words name

pub no_form : (words : List (List ℕ)) → form_in words ≡ None → command_in words ≡ None
no_form words none = ap (option_map (λ f. f.command)) none

pub a_form : (words : List (List ℕ)) (f : ReadForm) → form_in words ≡ Some (form_value f) → command_in words ≡ Some f.command
a_form words f is = ap (option_map (λ g. g.command)) is

pub most_in : (words : List (List ℕ)) (f : ReadForm) → form_in words ≡ Some (form_value f) → f.connections ≡ connections_in words
most_in words f is = sym (ap connections_of is)

pub days_in : (words : List (List ℕ)) (f : ReadForm) → form_in words ≡ Some (form_value f) → f.max_jump ≡ max_jump_in words
days_in words f is = sym (ap max_jump_of is)

pub limits_are : (words : List (List ℕ)) (f : ReadForm) → form_in words ≡ Some (form_value f) → limits_for f.request_time f.idle_time ≡ limits_in words
limits_are words f is = sym (ap (λ o. limits_for (request_time_of o) (idle_time_of o)) is)

pub bytes_in : (words : List (List ℕ)) (f : ReadForm) → form_in words ≡ Some (form_value f) → f.checkpoint_after ≡ checkpoint_after_in words
bytes_in words f is = sym (ap checkpoint_after_of is)

pub checkpoint_is : (words : List (List ℕ)) (f : ReadForm) → form_in words ≡ Some (form_value f) → f.checkpoint ≡ checkpoint_in words
checkpoint_is words f is = sym (ap checkpoint_of is)

-- words that couldn't be read name no task, or memory was wanting
pub unnamed : (words : List (List ℕ)) (days : ℕ) (fault : WordsFault) → (fault ≡ BadWords → form_in words ≡ None) → IsNamed (task_in words) days (Err fault)
unnamed words days BadWords bad = ap (option_and_then (task_of (checkpoint_in words) (look_in words) (count_in words) (seed_in words))) (no_form words (bad refl))
unnamed words days OutOfMemory bad = tt

pub named : (words : List (List ℕ)) (f : ReadForm) (task : Option Task) → form_in words ≡ Some (form_value f) → task ≡ task_of f.checkpoint f.look f.count f.seed f.command → task_in words ≡ task
named words f task is of =
    ap (option_and_then (task_of (checkpoint_in words) (look_in words) (count_in words) (seed_in words))) (a_form words f is)
    ∙ ap (λ o. task_of (checkpoint_of o) (look_of o) (count_of o) (seed_of o) f.command) is
    ∙ sym of

pub serves : (checkpoint look : Bool) (count seed : ℕ) (command : Command) → None ≡ task_of checkpoint look count seed command → command ≡ Serve
serves checkpoint look count seed RunCommand none = absurd cc
serves checkpoint look count seed CheckCommand none = absurd cc
serves checkpoint look count seed ClientCommand none = absurd cc
serves checkpoint look count seed Serve none = refl
serves checkpoint look count seed DrillCommand none = absurd cc

pub client_task : (words : List (List ℕ)) → command_in words ≡ Some ClientCommand → task_in words ≡ Some Client
client_task words is = ap (option_and_then (task_of (checkpoint_in words) (look_in words) (count_in words) (seed_in words))) is

pub other_task : (words : List (List ℕ)) → command_in words ≢ Some ClientCommand → task_in words ≢ Some Client
other_task words other = by_command (checkpoint_in words) (look_in words) (count_in words) (seed_in words) (command_in words) other
  where
    by_command : (checkpoint look : Bool) (count seed : ℕ) (c : Option Command) → c ≢ Some ClientCommand → option_and_then (task_of checkpoint look count seed) c ≢ Some Client
    by_command checkpoint look count seed None other is = absurd cc
    by_command true look count seed (Some RunCommand) other is = absurd cc
    by_command false look count seed (Some RunCommand) other is = absurd cc
    by_command checkpoint true count seed (Some CheckCommand) other is = absurd cc
    by_command checkpoint false count seed (Some CheckCommand) other is = absurd cc
    by_command checkpoint look count seed (Some ClientCommand) other is = other refl
    by_command checkpoint look count seed (Some Serve) other is = absurd cc
    by_command checkpoint look count seed (Some DrillCommand) other is = absurd cc

-- words that don't ask for a checkpoint name no run with one
pub plain_task : (words : List (List ℕ)) → checkpoint_in words ≡ false → task_in words ≢ Some RunThenCheckpoint
plain_task words plain = by_command (checkpoint_in words) (look_in words) (count_in words) (seed_in words) (command_in words) plain
  where
    by_command : (checkpoint look : Bool) (count seed : ℕ) (c : Option Command) → checkpoint ≡ false → option_and_then (task_of checkpoint look count seed) c ≢ Some RunThenCheckpoint
    by_command checkpoint look count seed None plain is = absurd cc
    by_command true look count seed (Some RunCommand) plain is = absurd cc
    by_command false look count seed (Some RunCommand) plain is = absurd cc
    by_command checkpoint true count seed (Some CheckCommand) plain is = absurd cc
    by_command checkpoint false count seed (Some CheckCommand) plain is = absurd cc
    by_command checkpoint look count seed (Some ClientCommand) plain is = absurd cc
    by_command checkpoint look count seed (Some Serve) plain is = absurd cc
    by_command checkpoint look count seed (Some DrillCommand) plain is = absurd cc

-- what was read of words is that they name nothing
abbrev pub IsBadWords : Result Named WordsFault → Type 0
IsBadWords named = named ≡ Err BadWords

-- words that name no task, where the usage was written
pub usage_words : (words : List (List ℕ)) (fault : WordsFault) → (fault ≡ BadWords → form_in words ≡ None) → IsBadWords (Err fault) → command_in words ≡ None
usage_words words BadWords bad is = no_form words (bad refl)
usage_words words OutOfMemory bad is = absurd cc
