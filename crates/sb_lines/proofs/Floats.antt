-- No reply holds a float.
use Rattle.std.proofs.Common.{◌≡◌, ℕ, List, [], ◌∷◌, ◌++◌, Bool, true, false, Option, Some, None, map, codes, if◌then◌else◌, Result, Ok, Err, pos, negsuc, refl, ◌||◌, Ordering, Less, Equal, Greater, nat_cmp}
use Rattle.std.specs.Cmp.Lexicographic.{slice_cmp}
use Rattle.std.specs.Ordering.{match_ordering}
use Rattle.std.specs.Str.{is_utf8}
use Rattle.hex.specs.Hex.{encode_lower}
use Rattle.serde_json.specs.Data.{Data, null, number, unsigned, string, Members, no_members, member, put}
use Rattle.serde_json.specs.View.{items_of}
use Rattle.serde_json.specs.Written.{has_float, items_have_float, members_have_float}
use Rattle.sb_model.specs.declared.message.Property.{Property}
use Rattle.sb_model.specs.declared.message.PropertyValue.{PropertyValue}
use Rattle.sb_model.specs.declared.message.PropertyValue.TheVariants.{Int, Text, Bool as Truth}
use Rattle.sb_model.specs.declared.message.SystemText.{SystemText}
use Rattle.sb_model.specs.SystemNames.{system_name}
use Rattle.sb_machine.specs.declared.call.Description.{Description}
use Rattle.sb_machine.specs.declared.call.FilterText.{FilterText}
use Rattle.sb_machine.specs.declared.call.FilterText.TheVariants.{Sql, Correlation}
use Rattle.sb_machine.specs.declared.call.Path.{Path}
use Rattle.sb_machine.specs.declared.look.ClientShown.{ClientShown}
use Rattle.sb_machine.specs.declared.look.Described.{Described}
use Rattle.sb_machine.specs.declared.look.EntityShown.{EntityShown}
use Rattle.sb_machine.specs.declared.look.PartShown.{PartShown}
use Rattle.sb_machine.specs.declared.look.RuleShown.{RuleShown}
use Rattle.sb_machine.specs.declared.look.SessionShown.{SessionShown}
use Rattle.sb_machine.specs.declared.look.TransactionShown.{TransactionShown}
use Rattle.sb_machine.specs.declared.look.View.{View}
use Rattle.sb_machine.specs.declared.look.View.TheVariants.{Entities, Entity, Sessions, Transactions, Clients}
use Rattle.sb_machine.specs.declared.rule.Conditions.{Conditions}
use Rattle.sb_machine.specs.declared.state.EntityKind.{EntityKind}
use Rattle.sb_machine.specs.declared.state.EntityKind.TheVariants.{Queue, Topic, Subscription}
use Rattle.sb_machine.specs.declared.reply.Answered.{Answered}
use Rattle.sb_machine.specs.declared.reply.Answered.TheVariants.{New, Kept}
use Rattle.sb_machine.specs.declared.reply.CopyShown.{CopyShown}
use Rattle.sb_machine.specs.declared.reply.CopyState.{CopyState}
use Rattle.sb_machine.specs.declared.reply.CopyState.TheVariants.{Ready, Deferred, Held, Scheduled}
use Rattle.sb_machine.specs.declared.reply.Showing.{Showing}
use Rattle.sb_machine.specs.declared.reply.Showing.TheVariants.{Removed, Locked, Browsed}
use Rattle.sb_machine.specs.declared.reply.Receipt.{Receipt}
use Rattle.sb_machine.specs.declared.reply.Receipt.TheVariants.{Number, Duplicate}
use Rattle.sb_machine.specs.declared.reply.Reply.{Reply}
use Rattle.sb_machine.specs.declared.reply.Reply.TheVariants.{Done, Sent, Message, Empty, Copies, Expired, Session, Renewed, State, Begun, Queued, Committed, Aborted, Together, Counts, Seen}
use Rattle.sb_machine.specs.declared.reply.StepReply.{StepReply}
use Rattle.sb_machine.specs.declared.reply.StepReply.TheVariants.{Done as StepDone, Sent as StepSent}
use Rattle.sb_machine.specs.declared.reply.PartRefusal.{PartRefusal}
use Rattle.sb_machine.specs.declared.reply.PartRefusal.TheVariants as why
use Rattle.sb_machine.specs.declared.reply.Refusal.{Refusal}
use Rattle.sb_machine.specs.declared.reply.Refusal.TheVariants.{BadCall, EntityNotFound, EntityExists, BadName, BadDescription, BadFilter, WrongKind, TooLarge, QuotaExceeded, SessionRequired, SessionNotAllowed, SessionHeld, SessionLost, LockLost, NotDeferred, NotScheduled, TxnNotFound, TxnPending, TxnScope, TxnFull, StaleNumber, NumberReused, ClientsFull, ClientNotFound, TxnsFull, Exhausted, InPart, DiskFault, Stopped, OutOfMemory}
use Rattle.sb_lines.specs.declared.form.Form.{Form}
use Rattle.sb_lines.specs.declared.form.Form.TheVariants.{Plain, Amqp}
use Rattle.sb_lines.specs.Shown.{state_name, property_data, with_properties, with_texts, with_bytes, with_ttl, with_schedule, with_showing, common_members, copy_members, amqp_bytes, plain_data, amqp_data, shown_data}
use Rattle.sb_lines.specs.Tokens.{token_text}
use Rattle.sb_lines.specs.Refusals.{of_part, refusal_data, with_string}
use Rattle.sb_lines.specs.Replies.{said, receipt_data, step_data, with_state, described_data, seen_data, reply_data, answer_data}
use Rattle.sb_lines.specs.Views.{number_or_null, with_truth, number_if, string_if, entity_or_null, part_data, entity_data, entities_data, lease_members, with_forwards, queue_members, topic_members, subscription_members, description_data, forward_if, conditions_data, with_filter, rule_data, rules_data, session_data, sessions_data, transaction_data, transactions_data, clients_data}

either_way : (o : Ordering) (a b c : Members) → members_have_float a ≡ false → members_have_float b ≡ false → members_have_float c ≡ false
    → members_have_float (match_ordering o a b c) ≡ false
either_way Less a b c x y z = x
either_way Equal a b c x y z = y
either_way Greater a b c x y z = z

neither : (a b : Bool) → a ≡ false → b ≡ false → (a || b) ≡ false
neither a b x y = rw (x, y) refl

left : (a b : Bool) → (a || b) ≡ false → a ≡ false
left true b h = h
left false b h = refl

right : (a b : Bool) → (a || b) ≡ false → b ≡ false
right true b h = absurd cc
right false b h = h

pub put_whole : (k : List ℕ) (d : Data) (ms : Members) → has_float d ≡ false → members_have_float ms ≡ false → members_have_float (put k d ms) ≡ false
put_whole k d no_members whole rest = neither _ _ whole rest
put_whole k d (member l e ms) whole rest =
    either_way (slice_cmp nat_cmp k l) _ _ _ (neither _ _ whole rest) (neither _ _ whole (right (has_float e) _ rest))
    (neither _ _ (left _ _ rest) (put_whole k d ms whole (right (has_float e) _ rest)))

property_whole : (v : PropertyValue) → has_float (property_data v) ≡ false
property_whole (Int (pos n)) = refl
property_whole (Int (negsuc n)) = refl
property_whole (Text text) = refl
property_whole (Truth b) = refl

properties_whole : (ms : Members) (ps : List Property) → members_have_float ms ≡ false → members_have_float (with_properties ms ps) ≡ false
properties_whole ms [] whole = whole
properties_whole ms (p ∷ ps) whole = properties_whole (put p.name (property_data p.value) ms) ps (put_whole p.name (property_data p.value) ms (property_whole p.value) whole)

texts_whole : (ms : Members) (ts : List SystemText) → members_have_float ms ≡ false → members_have_float (with_texts ms ts) ≡ false
texts_whole ms [] whole = whole
texts_whole ms (t ∷ ts) whole = texts_whole (put (system_name t.name) (string t.text) ms) ts (put_whole (system_name t.name) (string t.text) ms refl whole)

common_whole : (c : CopyShown) → members_have_float (common_members c) ≡ false
common_whole c = neither _ _ (properties_whole _ c.message.props refl) (neither _ _ (texts_whole _ c.message.sys refl) refl)

ttl_whole : (ttl : Option ℕ) (ms : Members) → members_have_float ms ≡ false → members_have_float (with_ttl ttl ms) ≡ false
ttl_whole None ms whole = whole
ttl_whole (Some n) ms whole = put_whole (codes "ttl") (number (unsigned n)) ms refl whole

schedule_whole : (state : CopyState) (ms : Members) → members_have_float ms ≡ false → members_have_float (with_schedule state ms) ≡ false
schedule_whole Ready ms whole = whole
schedule_whole Deferred ms whole = whole
schedule_whole Held ms whole = whole
schedule_whole (Scheduled moment) ms whole = put_whole (codes "schedule") (number (unsigned moment)) ms refl whole

showing_whole : (showing : Showing) (ms : Members) → members_have_float ms ≡ false → members_have_float (with_showing showing ms) ≡ false
showing_whole Removed ms whole = whole
showing_whole (Locked token until) ms whole =
    let held : Members = put (codes "token") (string (token_text token)) ms in
    put_whole (codes "until") (number (unsigned until)) held refl (put_whole (codes "token") (string (token_text token)) ms refl whole)
showing_whole (Browsed state) ms whole =
    let scheduled : Members = with_schedule state ms in
    put_whole (codes "state") (string (state_name state)) scheduled refl (schedule_whole state ms whole)

chosen : (b : Bool) (x y : Members) → members_have_float x ≡ false → members_have_float y ≡ false → members_have_float (if b then x else y) ≡ false
chosen true x y p q = p
chosen false x y p q = q

bytes_whole : (key hex_key bytes : List ℕ) (ms : Members) → members_have_float ms ≡ false → members_have_float (with_bytes key hex_key bytes ms) ≡ false
bytes_whole key hex_key bytes ms whole =
    let text : Members = put key (string bytes) ms in
    let digits : Members = put hex_key (string (encode_lower bytes)) ms in
    chosen (is_utf8 bytes) text digits (put_whole key (string bytes) ms refl whole) (put_whole hex_key (string (encode_lower bytes)) ms refl whole)

pub plain_whole : (c : CopyShown) → has_float (plain_data c) ≡ false
plain_whole c =
    let ttl : Members = with_ttl c.message.ttl (common_members c) in
    let showing : Members = with_showing c.showing ttl in
    bytes_whole (codes "body") (codes "body_hex") c.message.body showing (showing_whole c.showing ttl (ttl_whole c.message.ttl (common_members c) (common_whole c)))

amqp_whole : (c : CopyShown) → has_float (amqp_data c) ≡ false
amqp_whole c =
    let showing : Members = with_showing c.showing (copy_members c) in
    put_whole (codes "amqp_hex") (string (encode_lower (amqp_bytes c))) showing refl (showing_whole c.showing (copy_members c) refl)

shown_whole : (form : Form) (c : CopyShown) → has_float (shown_data form c) ≡ false
shown_whole Plain c = plain_whole c
shown_whole Amqp c = amqp_whole c

copies_whole : (form : Form) (cs : List CopyShown) → items_have_float (items_of (map (λ c. shown_data form c) cs)) ≡ false
copies_whole form [] = refl
copies_whole form (c ∷ cs) = neither _ _ (shown_whole form c) (copies_whole form cs)

receipts_whole : (rs : List Receipt) → items_have_float (items_of (map receipt_data rs)) ≡ false
receipts_whole [] = refl
receipts_whole (Number n ∷ rs) = receipts_whole rs
receipts_whole (Duplicate ∷ rs) = receipts_whole rs

steps_whole : (rs : List StepReply) → items_have_float (items_of (map step_data rs)) ≡ false
steps_whole [] = refl
steps_whole (StepDone ∷ rs) = steps_whole rs
steps_whole (StepSent receipts ∷ rs) = neither _ _ (neither _ _ (receipts_whole receipts) refl) (steps_whole rs)

state_whole : (state : Option (List ℕ)) (ms : Members) → members_have_float ms ≡ false → members_have_float (with_state state ms) ≡ false
state_whole None ms whole = put_whole (codes "state") null ms refl whole
state_whole (Some bytes) ms whole = bytes_whole (codes "state") (codes "state_hex") bytes ms whole

-- ---- what an operator looks at

number_if_whole : (k : List ℕ) (n : Option ℕ) (ms : Members) → members_have_float ms ≡ false → members_have_float (number_if k n ms) ≡ false
number_if_whole k None ms whole = whole
number_if_whole k (Some n) ms whole = put_whole k (number (unsigned n)) ms refl whole

string_if_whole : (k : List ℕ) (text : Option (List ℕ)) (ms : Members) → members_have_float ms ≡ false → members_have_float (string_if k text ms) ≡ false
string_if_whole k None ms whole = whole
string_if_whole k (Some text) ms whole = put_whole k (string text) ms refl whole

number_or_null_whole : (n : Option ℕ) → has_float (number_or_null n) ≡ false
number_or_null_whole None = refl
number_or_null_whole (Some n) = refl

entity_or_null_whole : (path : Option Path) → has_float (entity_or_null path) ≡ false
entity_or_null_whole None = refl
entity_or_null_whole (Some path) = refl

part_whole : (p : PartShown) → has_float (part_data p) ≡ false
part_whole p = neither _ _ (number_or_null_whole p.oldest) refl

entity_whole : (e : EntityShown) → has_float (entity_data e) ≡ false
entity_whole e = neither _ _ (part_whole e.dead) (neither _ _ (part_whole e.main) (neither _ _ (part_whole e.transfer) refl))

entities_whole : (es : List EntityShown) → has_float (entities_data es) ≡ false
entities_whole [] = refl
entities_whole (e ∷ es) = neither _ _ (entity_whole e) (entities_whole es)

forwards_put_whole : (d : Description) (ms : Members) → members_have_float ms ≡ false → members_have_float (with_forwards d ms) ≡ false
forwards_put_whole d ms whole =
    let one : Members = string_if (codes "forward_to") d.forward_to ms in
    string_if_whole (codes "forward_dead_to") d.forward_dead_to one (string_if_whole (codes "forward_to") d.forward_to ms whole)

queue_whole : (d : Description) → members_have_float (queue_members d) ≡ false
queue_whole d =
    let fixed : Members = with_truth (codes "dead_on_expiry") d.dead_on_expiry (lease_members d) in
    let forwards : Members = with_forwards d fixed in
    let ttl : Members = number_if (codes "ttl") d.ttl forwards in
    number_if_whole (codes "window") d.window ttl (number_if_whole (codes "ttl") d.ttl forwards (forwards_put_whole d fixed refl))

topic_whole : (d : Description) → members_have_float (topic_members d) ≡ false
topic_whole d = number_if_whole (codes "window") d.window (number_if (codes "ttl") d.ttl no_members) (number_if_whole (codes "ttl") d.ttl no_members refl)

subscription_whole : (d : Description) → members_have_float (subscription_members d) ≡ false
subscription_whole d =
    let fixed : Members = with_truth (codes "dead_on_expiry") d.dead_on_expiry (with_truth (codes "dead_on_fault") d.dead_on_fault (lease_members d)) in
    let forwards : Members = with_forwards d fixed in
    number_if_whole (codes "ttl") d.ttl forwards (forwards_put_whole d fixed refl)

description_whole : (kind : EntityKind) (d : Description) → has_float (description_data kind d) ≡ false
description_whole Queue d = queue_whole d
description_whole Topic d = topic_whole d
description_whole Subscription d = subscription_whole d

forwards_whole : (dead other : Option (List ℕ)) (a b : Bool) → items_have_float (items_of (forward_if (codes "forward_dead_to") dead a ++ forward_if (codes "forward_to") other b)) ≡ false
forwards_whole None None a b = refl
forwards_whole None (Some n) a b = refl
forwards_whole (Some m) None a b = refl
forwards_whole (Some m) (Some n) a b = refl

conditions_whole : (c : Conditions) → has_float (conditions_data c) ≡ false
conditions_whole c = neither _ _ (properties_whole _ c.props refl) (neither _ _ (texts_whole _ c.sys refl) refl)

filter_whole : (f : FilterText) (ms : Members) → members_have_float ms ≡ false → members_have_float (with_filter f ms) ≡ false
filter_whole (Sql text) ms whole = put_whole (codes "filter") (string text) ms refl whole
filter_whole (Correlation c) ms whole = put_whole (codes "correlation") (conditions_data c) ms (conditions_whole c) whole

rule_whole : (r : RuleShown) → has_float (rule_data r) ≡ false
rule_whole r =
    let name : Members = with_string (codes "name") r.name no_members in
    string_if_whole (codes "action") r.action (with_filter r.filter name) (filter_whole r.filter name refl)

rules_whole : (rs : List RuleShown) → has_float (rules_data rs) ≡ false
rules_whole [] = refl
rules_whole (r ∷ rs) = neither _ _ (rule_whole r) (rules_whole rs)

session_whole : (x : SessionShown) → has_float (session_data x) ≡ false
session_whole x = neither _ _ (number_or_null_whole x.until) refl

sessions_whole : (xs : List SessionShown) → has_float (sessions_data xs) ≡ false
sessions_whole [] = refl
sessions_whole (x ∷ xs) = neither _ _ (session_whole x) (sessions_whole xs)

transaction_whole : (x : TransactionShown) → has_float (transaction_data x) ≡ false
transaction_whole x = neither _ _ (entity_or_null_whole x.entity) refl

transactions_whole : (xs : List TransactionShown) → has_float (transactions_data xs) ≡ false
transactions_whole [] = refl
transactions_whole (x ∷ xs) = neither _ _ (transaction_whole x) (transactions_whole xs)

clients_whole : (xs : List ClientShown) → has_float (clients_data xs) ≡ false
clients_whole [] = refl
clients_whole (x ∷ xs) = clients_whole xs

described_whole : (d : Described) → has_float (described_data d) ≡ false
described_whole d =
    neither _ _ (description_whole d.kind d.description)
    (neither _ _ (forwards_whole d.description.forward_dead_to d.description.forward_to d.forward_dead_there d.forward_there) (neither _ _ (rules_whole d.rules) refl))

seen_whole : (v : View) → has_float (seen_data v) ≡ false
seen_whole (Entities es) = neither _ _ (entities_whole es) refl
seen_whole (Entity d) = described_whole d
seen_whole (Sessions xs) = neither _ _ (sessions_whole xs) refl
seen_whole (Transactions xs) = neither _ _ (transactions_whole xs) refl
seen_whole (Clients xs) = neither _ _ (clients_whole xs) refl

-- ---- answers

pub reply_whole : (form : Form) (r : Reply) → has_float (reply_data form r) ≡ false
reply_whole form Done = refl
reply_whole form (Sent rs) = neither _ _ (receipts_whole rs) refl
reply_whole form (Message c) = neither _ _ (shown_whole form c) refl
reply_whole form Empty = refl
reply_whole form (Copies cs) = neither _ _ (copies_whole form cs) refl
reply_whole form (Expired n) = refl
reply_whole form (Session id token until) = refl
reply_whole form (Renewed until) = refl
reply_whole form (State state) = state_whole state (said (codes "state")) refl
reply_whole form (Begun txn) = refl
reply_whole form Queued = refl
reply_whole form Committed = refl
reply_whole form (Aborted part n) = refl
reply_whole form (Together replies) = neither _ _ (steps_whole replies) refl
reply_whole form (Counts main dead transfer) = refl
reply_whole form (Seen view) = seen_whole view

refused_part_whole : (part : ℕ) (reason : PartRefusal) → has_float (of_part part reason) ≡ false
refused_part_whole part (why.BadCall key) = refl
refused_part_whole part why.EntityNotFound = refl
refused_part_whole part why.BadName = refl
refused_part_whole part why.WrongKind = refl
refused_part_whole part (why.TooLarge size) = refl
refused_part_whole part why.SessionRequired = refl
refused_part_whole part why.SessionNotAllowed = refl
refused_part_whole part why.SessionLost = refl
refused_part_whole part why.LockLost = refl
refused_part_whole part (why.TxnPending txn) = refl
refused_part_whole part why.TxnScope = refl
refused_part_whole part why.TxnFull = refl

refusal_whole : (r : Refusal) → has_float (refusal_data r) ≡ false
refusal_whole (BadCall key) = refl
refusal_whole EntityNotFound = refl
refusal_whole EntityExists = refl
refusal_whole BadName = refl
refusal_whole (BadDescription field) = refl
refusal_whole (BadFilter place) = refl
refusal_whole WrongKind = refl
refusal_whole (TooLarge size) = refl
refusal_whole (QuotaExceeded copies adds) = refl
refusal_whole SessionRequired = refl
refusal_whole SessionNotAllowed = refl
refusal_whole (SessionHeld until) = refl
refusal_whole SessionLost = refl
refusal_whole LockLost = refl
refusal_whole NotDeferred = refl
refusal_whole NotScheduled = refl
refusal_whole TxnNotFound = refl
refusal_whole (TxnPending txn) = refl
refusal_whole TxnScope = refl
refusal_whole TxnFull = refl
refusal_whole (StaleNumber kept) = refl
refusal_whole NumberReused = refl
refusal_whole ClientsFull = refl
refusal_whole ClientNotFound = refl
refusal_whole TxnsFull = refl
refusal_whole Exhausted = refl
refusal_whole (InPart part reason) = refused_part_whole part reason
refusal_whole DiskFault = refl
refusal_whole (Stopped faults) = refl
refusal_whole OutOfMemory = refl

pub answer_whole : (form : Form) (a : Result Answered Refusal) → has_float (answer_data form a) ≡ false
answer_whole form (Ok (New r)) = reply_whole form r
answer_whole form (Ok (Kept r)) = neither _ _ (reply_whole form r) refl
answer_whole form (Err r) = refusal_whole r
