-- What the machine's own tests say of a call that it accepts.
use Rattle.std.specs.Prelude.{◌≡◌, ◌&&◌, Bool, true, nat_le, sum_by, None, is_none}
use Rattle.sb_machine.specs.Administration.{are_rule_names, filter_of, action_of, large_filter}
use Rattle.sb_machine.specs.Descriptions.{bad_in_description}
use Rattle.sb_machine.specs.Each.{is_read}
use Rattle.sb_machine.specs.Fields.{Key, bad_field, is_id, takes_number}
use Rattle.sb_machine.specs.Messages.{large_size}
use Rattle.sb_machine.specs.Names.{is_name, is_short_name, is_address}
use Rattle.sb_machine.specs.Ordered.{IsActInOrder}
use Rattle.sb_machine.specs.Queueing.{max_operations}
use Rattle.sb_machine.specs.Sessions.{size_of, max_state}
use Rattle.sb_machine.specs.Together.{are_addressed, large_steps, step_weight}
use Rattle.sb_machine.specs.declared.call.Act.{Act}
use Rattle.sb_machine.specs.declared.call.Act.TheVariants.{CreateQueue, CreateTopic, CreateSubscription, CreateRule, Delete, DeleteRule, Send, Cancel, Receive, ReceiveDeferred, Settle, Renew, Accept, SessionRenew, SessionClose, SessionSet, SessionState, Begin, Commit, Rollback, Together, ForgetClient, Peek, Counts, Look}
use Rattle.sb_machine.specs.declared.call.Call.{Call}
use Rattle.sb_machine.specs.declared.call.Which.{Which}
use Rattle.sb_machine.specs.declared.call.Which.TheVariants.{Number, Id}
use Rattle.sb_machine.specs.declared.state.EntityKind.TheVariants.{Queue, Topic, Subscription}

-- addresses and names are such
abbrev pub has_names : Act → Bool
has_names (CreateQueue name d) = is_name name
has_names (CreateTopic name d) = is_name name
has_names (CreateSubscription topic name d) = is_name topic && is_short_name name
has_names (CreateRule topic subscription name asked action) = are_rule_names topic subscription name
has_names (Delete entity) = is_address entity
has_names (DeleteRule topic subscription name) = are_rule_names topic subscription name
has_names (Send to messages txn) = is_address to
has_names (Cancel from number) = is_address from
has_names (Receive from mode session) = is_address from
has_names (ReceiveDeferred from number mode session) = is_address from
has_names (Settle from which token session how txn) = is_address from
has_names (Renew from which token) = is_address from
has_names (Accept from id) = is_address from
has_names (SessionRenew from session) = is_address from
has_names (SessionClose from session) = is_address from
has_names (SessionSet from session state) = is_address from
has_names (SessionState from session) = is_address from
has_names (Begin entity) = is_address entity
has_names (Commit txn) = true
has_names (Rollback txn) = true
has_names (Peek from start count) = is_address from
has_names (Counts entity) = is_address entity
has_names (Look what) = true
has_names (Together entity steps) = is_address entity && are_addressed steps
has_names (ForgetClient name) = true

-- the first field of a description that is out of range
abbrev pub bad_described : Act → Key
bad_described (CreateQueue name d) = bad_in_description Queue d
bad_described (CreateTopic name d) = bad_in_description Topic d
bad_described (CreateSubscription topic name d) = bad_in_description Subscription d
bad_described _ = None

-- a text that names a copy is its MessageId or prints its number
abbrev pub is_short_id : Which → Bool
is_short_id (Number n) = true
is_short_id (Id id) = is_id id

-- of the copy that the act names
abbrev pub has_short_id : Act → Bool
has_short_id (Settle from which token session how txn) = is_short_id which
has_short_id (Renew from which token) = is_short_id which
has_short_id _ = true

-- texts and bytes within the limits
abbrev pub has_sizes : Act → Bool
has_sizes (CreateRule topic subscription name asked action) = is_read (filter_of asked) && is_read (action_of action) && is_none (large_filter asked)
has_sizes (Send to messages txn) = is_none (large_size messages)
has_sizes (SessionSet from session state) = nat_le (size_of state) max_state
has_sizes (Together entity steps) = nat_le (sum_by step_weight steps) max_operations && is_none (large_steps steps)
has_sizes _ = true

-- what the tests say of a call that passed all of them
pub record IsJudged (is_via : Bool) (call : Call) : Type 0 where
  -- it does more than look
  pub coded : takes_number call.act ≡ true
  pub fields : bad_field is_via call.act call.by ≡ None
  pub names : has_names call.act ≡ true
  pub described : bad_described call.act ≡ None
  pub sizes : has_sizes call.act ≡ true
  pub id : has_short_id call.act ≡ true
  pub order : IsActInOrder call.act
