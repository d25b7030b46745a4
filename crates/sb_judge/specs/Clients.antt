-- What is remembered for clients.
use Rattle.std.specs.Prelude.{◌+◌, ◌≤◌, length, false, List, Some}
use Rattle.sb_machine.specs.Consistent.{IsHandedOut, IsGiven, IsStepReply, IsReply, IsKept}
use Rattle.sb_machine.specs.Delivery.{max_count}
use Rattle.sb_machine.specs.Each.{Each, IsSorted}
use Rattle.sb_machine.specs.Fields.{max_messages, max_steps, is_id}
use Rattle.sb_machine.specs.Names.{is_before}
use Rattle.sb_machine.specs.declared.reply.CopyShown.{CopyShown}
use Rattle.sb_machine.specs.declared.reply.Reply.{Reply}
use Rattle.sb_machine.specs.declared.reply.Reply.TheVariants.{Sent, Copies, State as Remembers, Counts, Seen, Message as Given, Session as Accepted, Together as Told}
use Rattle.sb_machine.specs.declared.reply.Showing.{Showing}
use Rattle.sb_machine.specs.declared.reply.Showing.TheVariants.{Removed, Locked, Browsed}
use Rattle.sb_machine.specs.declared.reply.StepReply.{StepReply}
use Rattle.sb_machine.specs.declared.reply.StepReply.TheVariants.{Done as StepDone, Sent as StepSent}
use Rattle.sb_machine.specs.declared.state.Kept.{Kept}
use Rattle.sb_judge.specs.Calls.{call_verdict}
use Rattle.sb_judge.specs.Messages.{message_verdict}
use Rattle.sb_judge.specs.Verdicts.{Verdict, always, never, passes, at_most, absent, said_as, ◌&◌, each, pairs}

-- the test that clients stand by name
unfoldable pub clients_order : (clients : List Kept) → Verdict (IsSorted (λ a b. is_before a.client b.client) clients)
clients_order clients = pairs clients (λ a b. passes (is_before a.client b.client))

-- the test that a copy was handed out
unfoldable pub showing_verdict : (showing : Showing) → Verdict (IsHandedOut showing)
showing_verdict Removed = always
showing_verdict (Locked token until) = always
showing_verdict (Browsed state) = never

-- the test of a message as it was handed out
unfoldable pub given_verdict : (c : CopyShown) → Verdict (IsGiven c)
given_verdict c = said_as
    (message_verdict c.message & absent c.message.schedule & showing_verdict c.showing & at_most 1 c.delivery & at_most c.delivery (max_count + 1))
    (λ p. record { message = p.0; no_schedule = p.1.0; showing = p.1.1.0; once = p.1.1.1.0; count = p.1.1.1.1 })
    (λ r. (r.message, (r.no_schedule, (r.showing, (r.once, r.count)))))

-- the test of the reply to one of the operations that acted together
unfoldable pub step_reply_verdict : (r : StepReply) → Verdict (IsStepReply r)
step_reply_verdict (StepSent receipts) = at_most (length receipts) max_messages
step_reply_verdict StepDone = always

-- the test of all of these replies
unfoldable pub step_replies_verdict : (rs : List StepReply) → Verdict ((length rs ≤ max_steps) × Each IsStepReply rs)
step_replies_verdict rs = at_most (length rs) max_steps & each rs step_reply_verdict

-- the test of a reply that is remembered
unfoldable pub reply_verdict : (r : Reply) → Verdict (IsReply r)
reply_verdict (Sent receipts) = at_most (length receipts) max_messages
reply_verdict (Told replies) = step_replies_verdict replies
reply_verdict (Given shown) = given_verdict shown
reply_verdict (Accepted id token until) = passes (is_id id)
reply_verdict (Copies copies) = never
reply_verdict (Remembers state) = never
reply_verdict (Counts main dead transfer) = never
reply_verdict (Seen view) = never
reply_verdict _ = always

-- the test of what is remembered for a client
unfoldable pub kept_verdict : (k : Kept) → Verdict (IsKept k)
kept_verdict k = said_as
    (reply_verdict k.reply & call_verdict false k.act (Some (record { client = k.client; number = k.number })))
    (λ p. record { judged = p.1; reply = p.0 })
    (λ r. (r.reply, r.judged))
