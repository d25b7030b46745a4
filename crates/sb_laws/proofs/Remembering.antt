-- What is remembered for a client: its call passed the tests, and its reply may be told again.
use Rattle.std.proofs.Common.{Bool, List, None, Option, Some, [], arith, false, length, nat_le, not, refl, subst, sym, true, ℕ, ◌+◌, ◌||◌, ◌∷◌, ◌≡◌, ◌≤◌}
use Rattle.std.specs.Prelude.{codes, if◌then◌else◌, is_none}
use Rattle.sb_laws.proofs.Carried.{copy_at}
use Rattle.sb_laws.proofs.Consistency.{first_none, passed, then_none}
use Rattle.sb_laws.proofs.Contents.{ContentsCore, IsStill, contents_sending, contents_travel}
use Rattle.sb_laws.proofs.Ids.{accepted_short}
use Rattle.sb_laws.proofs.Mild.{IsCarried}
use Rattle.sb_laws.proofs.Ordering.{orderly_points}
use Rattle.sb_laws.proofs.Outcomes.{Fits}
use Rattle.sb_laws.proofs.Replies.{receipts_length, united_reply}
use Rattle.sb_laws.proofs.Running.{at_most, good_act}
use Rattle.sb_laws.proofs.Uniting.{Does, does_many, does_one}
use Rattle.sb_laws.proofs.Ways.{Way, aborts, adds_rule, begins, cancels, closes, commits, drops_rule, expires, hands_out, makes_queue, makes_subscription, makes_topic, opens, prolongs, queues_send, removes, renews, rolls_back, sends, settles_later, settles_now, takes_out, tells, writes}
use Rattle.sb_laws.proofs.Wholes.{whole_of}
use Rattle.sb_machine.proofs.Accepted.{changing_judged}
use Rattle.sb_machine.specs.Acts.{is_via_in}
use Rattle.sb_machine.specs.Answers.{is_change, kept_as}
use Rattle.sb_machine.specs.Changes.{max_number}
use Rattle.sb_machine.specs.Consistent.{IsConsistent, IsGiven, IsHandedOut, IsKept, IsReply}
use Rattle.sb_machine.specs.Fields.{bad_in_act, bad_in_by, bad_in_conditions, bad_in_message, bad_in_messages, bad_in_send, first_some, is_between_or_none, max_messages, max_ttl, takes_number, unless}
use Rattle.sb_machine.specs.Judged.{IsJudged}
use Rattle.sb_machine.specs.Names.{is_same_entity}
use Rattle.sb_machine.specs.Ordered.{IsActInOrder}
use Rattle.sb_machine.specs.Receiving.{shown}
use Rattle.sb_machine.specs.Repeats.{Outcome, client_of, outcome_of}
use Rattle.sb_machine.specs.Transactions.{aborted_by}
use Rattle.sb_machine.specs.declared.call.Act.{Act}
use Rattle.sb_machine.specs.declared.call.Act.TheVariants.{Send}
use Rattle.sb_machine.specs.declared.call.By.{By}
use Rattle.sb_machine.specs.declared.call.Call.{Call}
use Rattle.sb_machine.specs.declared.change.Change.{Change}
use Rattle.sb_machine.specs.declared.reply.Reply.{Reply}
use Rattle.sb_machine.specs.declared.reply.Showing.{Showing}
use Rattle.sb_machine.specs.declared.state.Operation.{Operation}
use Rattle.sb_machine.specs.declared.state.Operation.TheVariants.{Send as SendLater, Settle as SettleLater}
use Rattle.sb_machine.specs.declared.state.Space.{Space}
use Rattle.sb_machine.specs.declared.state.State.{State}
use Rattle.sb_machine.specs.declared.state.StoredCopy.{StoredCopy}
use Rattle.sb_model.specs.declared.message.Message.{Message}

-- ---- the act that is kept is in range by itself

message_plainly : (is_via : Bool) (m : Message) → bad_in_message is_via m ≡ None → bad_in_message false m ≡ None
message_plainly is_via m e =
    let parts = first_none (bad_in_conditions m.sys m.props) (first_some (unless (is_between_or_none 1 max_ttl m.ttl) (codes "ttl")) (unless (not is_via || is_none m.schedule) (codes "schedule"))) e in
    let ttl = then_none (is_between_or_none 1 max_ttl m.ttl) (codes "ttl") (unless (not is_via || is_none m.schedule) (codes "schedule")) parts.1 in
    rw (parts.0, ttl.0) refl

messages_plainly : (is_via : Bool) (ms : List Message) → bad_in_messages is_via ms ≡ None → bad_in_messages false ms ≡ None
messages_plainly is_via [] e = refl
messages_plainly is_via (m ∷ ms) e = let parts = first_none (bad_in_message is_via m) (bad_in_messages is_via ms) e in rw (message_plainly is_via m parts.0) (messages_plainly is_via ms parts.1)

send_parts : (is_via : Bool) (ms : List Message) (txn : Option ℕ) → bad_in_send is_via ms txn ≡ None → (nat_le (length ms) max_messages ≡ true) × (bad_in_messages is_via ms ≡ None) × (is_between_or_none 1 max_number txn ≡ true)
send_parts is_via ms txn e =
    let first_part = then_none (nat_le (length ms) max_messages) (codes "messages") (first_some (bad_in_messages is_via ms) (unless (is_between_or_none 1 max_number txn) (codes "txn"))) e in
    let rest = first_none (bad_in_messages is_via ms) (unless (is_between_or_none 1 max_number txn) (codes "txn")) first_part.1 in
    (first_part.0, rest.0, passed (is_between_or_none 1 max_number txn) (codes "txn") rest.1)

act_plainly : (is_via : Bool) (act : Act) → bad_in_act is_via act ≡ None → bad_in_act false act ≡ None
act_plainly is_via (Send to ms txn) e = let parts = send_parts is_via ms txn e in rw (parts.0, messages_plainly is_via ms parts.1, parts.2) refl
act_plainly is_via _ e = e

-- ---- replies

given_fits : (c : StoredCopy) (showing : Showing) → IsHandedOut showing → IsCarried IsStill c → IsGiven (shown (c.count + 1) showing c)
given_fits c showing handed may = record { message = may.message.0; no_schedule = may.message.1; showing = handed; once = omega arith; count = omega (arith, may.count) }

reply_fits : (s : Space) (t : ℕ) (is_via : Bool) (act : Act) (reply : Reply) (cs : List Change) → ContentsCore s → bad_in_act is_via act ≡ None → takes_number act ≡ true → Way s t act reply cs → IsReply reply
reply_fits s t is_via _ _ _ core good takes (tells told) = told takes
reply_fits s t is_via _ _ _ core good takes (makes_queue named new described) = tt
reply_fits s t is_via _ _ _ core good takes (makes_topic named new described) = tt
reply_fits s t is_via _ _ _ core good takes (makes_subscription e named short there is new described) = tt
reply_fits s t is_via _ _ _ core good takes (adds_rule e f a named there new f_is a_is small) = tt
reply_fits s t is_via _ _ _ core good takes (removes e there) = tt
reply_fits s t is_via _ _ _ core good takes (drops_rule e r there is) = tt
reply_fits s t is_via _ _ _ core good takes (sends {messages = messages} e goes there sessions small) = omega (arith, receipts_length t e messages s, at_most (length messages) max_messages (send_parts is_via messages None good).0)
reply_fits s t is_via _ _ _ core good takes (queues_send x named goes there room small) = tt
reply_fits s t is_via _ _ _ core good takes (cancels e c there is) = tt
reply_fits s t is_via _ _ _ core good takes (hands_out from e c p there own is of stands) = given_fits c _ tt (copy_at contents_travel contents_sending t s core.carries (λ x. is_same_entity x.about.path from) e from.part p c there is)
reply_fits s t is_via _ _ _ core good takes (takes_out from e c p there is stands) = given_fits c _ tt (copy_at contents_travel contents_sending t s core.carries (λ x. is_same_entity x.about.path from) e from.part p c there is)
reply_fits s t is_via _ _ _ core good takes (expires from e c p there main is stands) = tt
reply_fits s t is_via _ _ _ core good takes (settles_now e c there goes is none) = tt
reply_fits s t is_via _ _ _ core good takes (settles_later e c x there goes on own is none room) = tt
reply_fits s t is_via _ _ _ core good takes (renews e c there free is other) = tt
reply_fits s t is_via _ _ _ core good takes (opens {asked_for = asked_for} from id e there has free named) = accepted_short s is_via from asked_for id e core good there named
reply_fits s t is_via _ _ _ core good takes (prolongs e x there has held other) = tt
reply_fits s t is_via _ _ _ core good takes (closes e x there has held) = tt
reply_fits s t is_via _ _ _ core good takes (writes e x there has held small other) = tt
reply_fits s t is_via _ _ _ core good takes (begins e there few) = tt
reply_fits s t is_via _ _ _ core good takes (commits x e there on none) = tt
reply_fits s t is_via _ _ _ core good takes (aborts x o there) = at o where
  at : (o : Operation) → IsReply (aborted_by o)
  at (SendLater to messages) = tt
  at (SettleLater from number token session how) = tt
reply_fits s t is_via _ _ _ core good takes (rolls_back x there) = tt

does_reply : (s : State) (t : ℕ) (by : Option By) (act : Act) (reply : Reply) (cs : List Change) → s.now ≤ t → IsConsistent s → ContentsCore s.space → takes_number act ≡ true → Fits s.space t by act reply cs → IsReply reply
does_reply s t by act reply cs le h core takes fits = on act (good_act s.space t by act reply cs fits) takes fits.does where
  on : (act : Act) → bad_in_act (is_via_in s.space act) act ≡ None → takes_number act ≡ true → Does s.space t act reply cs → IsReply reply
  on act good takes (does_one way) = reply_fits s.space t (is_via_in s.space act) act reply cs core good takes way
  on _ good takes (does_many {path = path} {steps = steps} u) =
      let w = whole_of s h in
      united_reply t s.space path steps reply cs (orderly_points s t le w.orderly) w.placed good fits.numbers u

-- ---- the call that is kept

named_by : (act : Act) (by : Option By) (b : By) → (if takes_number act then by else None) ≡ Some b → (by ≡ Some b) × (takes_number act ≡ true)
named_by act by b is = go (takes_number act) refl is where
  go : (c : Bool) → takes_number act ≡ c → ◌≡◌ {A = Option By} (if c then by else None) (Some b) → (by ≡ Some b) × (takes_number act ≡ true)
  go true takes is = (is, takes)
  go false takes is = absurd cc

judged_plainly : (is_via : Bool) (call : Call) (b : By) → call.by ≡ Some b → IsJudged is_via call → IsJudged false (record { by = Some b; act = call.act })
judged_plainly is_via call b who judged =
    let parts = first_none (bad_in_act is_via call.act) (bad_in_by call.act call.by) judged.fields in
    let by_none : bad_in_by call.act (Some b) ≡ None = subst (λ (o : Option By). bad_in_by call.act o ≡ None) who parts.1 in
    record {
      coded = judged.coded;
      fields = rw (act_plainly is_via call.act parts.0, by_none) refl;
      names = judged.names;
      described = judged.described;
      sizes = judged.sizes;
      id = judged.id;
      order = judged.order;
    }

pub call_kept : (s : State) (t : ℕ) (call : Call) (reply : Reply) (cs : List Change) (o : Outcome) → s.now ≤ t → IsConsistent s → ContentsCore s.space → IsActInOrder call.act → Fits s.space t call.by call.act reply cs → outcome_of s t call ≡ o
    → ((b : By) → is_change (Some b) o ≡ true) → (b : By) → client_of call ≡ Some b → IsKept (kept_as b call.act reply)
call_kept s t call reply cs o le h core order fits same changes b is =
    let who = named_by call.act call.by b is in
    let changing : is_change (client_of call) (outcome_of s t call) ≡ true = subst (λ (by : Option By). is_change by (outcome_of s t call) ≡ true) (sym is) (subst (λ (o : Outcome). is_change (Some b) o ≡ true) (sym same) (changes b)) in
    record {
      judged = judged_plainly (is_via_in s.space call.act) call b who.0 (changing_judged s t call h order changing);
      reply = does_reply s t call.by call.act reply cs le h core who.1 fits;
    }
