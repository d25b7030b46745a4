use Rattle.std.proofs.Common.{refl}
use Rattle.std.specs.Str.{chars}
use Rattle.sb_judge.specs.Messages.{texts_order, properties_order, parts_verdict, message_verdict}
use Rattle.sb_judge.specs.Calls.{in_order_verdict, act_order_verdict, plain_verdict, call_verdict}
use Rattle.sb_judge.specs.Copies.{sessions_order, hold_verdict, copy_verdict, session_verdict, leaf_verdict}
use Rattle.sb_judge.specs.Entities.{rules_order, ids_order, ids_near, filter_verdict, action_verdict, rule_verdict, listed_verdict, entity_verdict, topic_verdict, window_verdict}
use Rattle.sb_judge.specs.Transactions.{place_verdict, own_verdict, send_verdict, settle_verdict, operation_verdict, queued_verdict, transaction_verdict}
use Rattle.sb_judge.specs.Clients.{showing_verdict, given_verdict, reply_verdict, kept_verdict}
use Rattle.sb_judge.proofs.worked.worked_states.Goals as goal

pub returns-clause-empty : goal.returns-clause-empty
returns-clause-empty c = λ salt. refl

pub returns-clause-sound : goal.returns-clause-sound
unfolding chars texts_order properties_order parts_verdict message_verdict in_order_verdict act_order_verdict plain_verdict call_verdict sessions_order hold_verdict copy_verdict session_verdict leaf_verdict rules_order ids_order ids_near filter_verdict action_verdict rule_verdict listed_verdict entity_verdict topic_verdict place_verdict own_verdict send_verdict settle_verdict operation_verdict queued_verdict transaction_verdict showing_verdict given_verdict reply_verdict kept_verdict window_verdict
returns-clause-sound c = refl

pub returns-clause-lock_twice : goal.returns-clause-lock_twice
unfolding chars texts_order properties_order parts_verdict message_verdict in_order_verdict act_order_verdict plain_verdict call_verdict sessions_order hold_verdict copy_verdict session_verdict leaf_verdict rules_order ids_order ids_near filter_verdict action_verdict rule_verdict listed_verdict entity_verdict topic_verdict place_verdict own_verdict send_verdict settle_verdict operation_verdict queued_verdict transaction_verdict showing_verdict given_verdict reply_verdict kept_verdict window_verdict
returns-clause-lock_twice c = refl

pub returns-clause-falling : goal.returns-clause-falling
unfolding chars texts_order properties_order parts_verdict message_verdict in_order_verdict act_order_verdict plain_verdict call_verdict sessions_order hold_verdict copy_verdict session_verdict leaf_verdict rules_order ids_order ids_near filter_verdict action_verdict rule_verdict listed_verdict entity_verdict topic_verdict place_verdict own_verdict send_verdict settle_verdict operation_verdict queued_verdict transaction_verdict showing_verdict given_verdict reply_verdict kept_verdict window_verdict
returns-clause-falling c = refl
