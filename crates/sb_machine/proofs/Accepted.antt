-- A call that the machine accepts with an event has passed its tests.
use Rattle.std.proofs.Common.{◌≡◌, ℕ, List, [], ◌∷◌, length, Bool, true, false, ◌&&◌, nat_le, cond, Option, Some, None, refl, sym, ◌∙◌}
use Rattle.std.specs.Prelude.{is_none, is_some, ◌+◌, ◌||◌, nat_lt, ◌==◌, sum_by}
use Rattle.std.specs.Option.{option_map}
use Rattle.sb_machine.specs.Acts.{act_row, row_of, bad_call, is_via_in}
use Rattle.sb_machine.specs.Administration.{create_row, create_subscription_row, create_rule_row, default_rule, rule_in, counts_row, bad_description, are_rule_names, filter_of, action_of, large_filter, read_or}
use Rattle.sb_machine.specs.Answers.{is_change}
use Rattle.sb_machine.specs.Changes.{after_all, is_numbered}
use Rattle.sb_machine.specs.Claims.{has_sessions}
use Rattle.sb_machine.specs.Consistent.{IsConsistent}
use Rattle.sb_machine.specs.Descriptions.{bad_in_description}
use Rattle.sb_machine.specs.Each.{is_read}
use Rattle.sb_machine.specs.Fields.{Key, bad_field, bad_part, takes_number}
use Rattle.sb_machine.specs.Leases.{held_session}
use Rattle.sb_machine.specs.Messages.{large_size}
use Rattle.sb_machine.specs.Delivery.{in_part}
use Rattle.sb_machine.specs.Names.{is_name, is_short_name, is_address, is_same_option}
use Rattle.sb_machine.specs.Namespace.{entity_at, entity_path, subscription_path, leaf_of}
use Rattle.sb_machine.specs.Ordered.{IsActInOrder}
use Rattle.sb_machine.specs.Looks.{described, look_row, sessions_shown}
use Rattle.sb_machine.specs.Receiving.{peek_row, peeked}
use Rattle.sb_machine.specs.Repeats.{Outcome, refused, repeated, acted, forgot, of_answer, of_row, with_clients, by_number, for_client, kept_for, max_clients, client_of, outcome_of}
use Rattle.sb_machine.specs.Same.{same_act}
use Rattle.sb_machine.specs.Rows.{Row, refuses, answers, refused_by, asks, found_or, absent_or, at_entity, numbered, is_topic}
use Rattle.sb_machine.specs.Queueing.{open_in, is_open, has_room_in, max_operations}
use Rattle.sb_machine.specs.SendRow.{send_row, is_via, is_destination, have_sessions_at, sent_or_queued}
use Rattle.sb_machine.specs.Sending.{too_large}
use Rattle.sb_machine.specs.Sessions.{held_or, session_state_row, session_set_row, size_of, max_state}
use Rattle.sb_machine.specs.Together.{are_addressed, behind, commit_steps, fitting, large_steps, step_weight, steps_row, then_row, together_row, unaddressed}
use Rattle.sb_machine.specs.Transactions.{begin_row}
use Rattle.sb_machine.specs.declared.call.Act.{Act}
use Rattle.sb_machine.specs.declared.call.Act.TheVariants.{CreateQueue, CreateTopic, CreateSubscription, CreateRule, Delete, DeleteRule, Send, Cancel, Receive, ReceiveDeferred, Settle, Renew, Accept, SessionRenew, SessionClose, SessionSet, SessionState, Begin, Commit, Rollback, Together, ForgetClient, Peek, Counts, Look}
use Rattle.sb_machine.specs.declared.call.By.{By}
use Rattle.sb_machine.specs.declared.call.Call.{Call}
use Rattle.sb_machine.specs.declared.call.Description.{Description}
use Rattle.sb_machine.specs.declared.call.Part.TheVariants.{Main}
use Rattle.sb_machine.specs.declared.call.Path.{Path}
use Rattle.sb_machine.specs.declared.call.Step.{Step}
use Rattle.sb_machine.specs.declared.call.Token.{Token}
use Rattle.sb_machine.specs.declared.call.FilterText.{FilterText}
use Rattle.sb_machine.specs.declared.look.Look.{Look as Looked}
use Rattle.sb_machine.specs.declared.look.Look.TheVariants as look
use Rattle.sb_machine.specs.declared.look.View.TheVariants as seen
use Rattle.sb_machine.specs.declared.change.Change.{Change}
use Rattle.sb_machine.specs.declared.change.Change.TheVariants.{Makes, AddsRule}
use Rattle.sb_machine.specs.declared.change.LeafChange.TheVariants.{Writes}
use Rattle.sb_model.specs.declared.message.Message.{Message}
use Rattle.sb_machine.specs.declared.reply.Refusal.{Refusal}
use Rattle.sb_machine.specs.declared.reply.Refusal.TheVariants.{BadName, EntityNotFound, BadDescription, EntityExists, WrongKind, TooLarge, TxnFull, TxnNotFound, SessionRequired, SessionNotAllowed, StaleNumber, NumberReused, ClientsFull, Exhausted}
use Rattle.sb_machine.specs.declared.reply.Reply.{Reply}
use Rattle.sb_machine.specs.declared.reply.Reply.TheVariants.{Done, Copies, Counts as Counted, State as Remembers, Seen}
use Rattle.sb_machine.specs.declared.rule.RuleFilter.{RuleFilter}
use Rattle.sb_machine.specs.declared.state.Entity.{Entity}
use Rattle.sb_machine.specs.declared.state.EntityKind.{EntityKind}
use Rattle.sb_machine.specs.declared.state.EntityKind.TheVariants.{Queue, Topic, Subscription}
use Rattle.sb_machine.specs.declared.state.Kept.{Kept}
use Rattle.sb_machine.specs.declared.state.Session.{Session}
use Rattle.sb_machine.specs.declared.state.Space.{Space}
use Rattle.sb_machine.specs.declared.state.State.{State}
use Rattle.sb_machine.specs.Judged.{has_names, bad_described, has_sizes, has_short_id, IsJudged}
use Rattle.sb_machine.proofs.Named.{settle_id, renew_id}
use Rattle.sb_machine.proofs.Rows.{Passes, is_answer, has_changes, no_answer, no_changes, asks_passed, refused_passed, found_passed, absent_passed, held_passed, read_passed, at_entity_passed, asked_by}
use Rattle.sb_machine.proofs.Passed.{both_true}

-- ---- numbers

numbered_answer : (t : ℕ) (s : Space) (row : Row) → is_answer (numbered t s row) ≡ true → is_answer row ≡ true
numbered_answer t s (refuses r) e = absurd cc
numbered_answer t s (answers reply cs) e = refl

numbered_changes : (t : ℕ) (s : Space) (row : Row) → has_changes (numbered t s row) ≡ true → has_changes row ≡ true
numbered_changes t s (refuses r) e = absurd cc
numbered_changes t s (answers reply []) e = absurd (by_test (is_numbered t [] s) e) where
  by_test : (b : Bool) → has_changes (cond b (answers reply []) (refuses Exhausted)) ≡ true → ⊥
  by_test true e = absurd cc
  by_test false e = absurd cc
numbered_changes t s (answers reply (c ∷ cs)) e = refl

no_key : (part : Option ℕ) (o : Key) → bad_call part o ≡ None → o ≡ None
no_key part None e = refl
no_key part (Some key) e = absurd cc

-- ---- calls with a client's number

abbrev is_acted : Outcome → Bool
is_acted (refused r) = false
is_acted (repeated reply) = false
is_acted (acted reply cs) = true
is_acted (forgot name) = true

change_acts : (by : Option By) (o : Outcome) → is_change by o ≡ true → is_acted o ≡ true
change_acts by (refused r) e = absurd cc
change_acts by (repeated reply) e = absurd cc
change_acts by (acted reply cs) e = refl
change_acts by (forgot name) e = refl

cond_acts : (b : Bool) (x y : Outcome) → is_acted (cond b x y) ≡ true → is_acted x ≡ false → is_acted y ≡ true
cond_acts true x y e none = absurd cc
cond_acts false x y e none = e

cond_not : (b : Bool) (x y : Outcome) → is_acted x ≡ false → is_acted y ≡ false → is_acted (cond b x y) ≡ false
cond_not true x y f g = f
cond_not false x y f g = g

cond_first : (b : Bool) (x y : Outcome) → is_acted (cond b x y) ≡ true → is_acted y ≡ false → is_acted x ≡ true
cond_first true x y e none = e
cond_first false x y e none = absurd cc

number_acts : (by : By) (act : Act) (clients : List Kept) (k : Option Kept) (next : Outcome) → is_acted (by_number by act clients k next) ≡ true → is_acted next ≡ true
number_acts by act clients (Some k) next e =
    let repeat = cond (same_act k.act act) (repeated k.reply) (refused NumberReused) in
    let later = cond_acts (nat_lt by.number k.number) (refused (StaleNumber k.number)) (cond (by.number == k.number) repeat next) e refl in
    cond_acts (by.number == k.number) repeat next later (cond_not (same_act k.act act) (repeated k.reply) (refused NumberReused) refl refl)
number_acts by act clients None next e = cond_first (nat_lt (length clients) max_clients) next (refused ClientsFull) e refl

client_acts : (by : Option By) (act : Act) (clients : List Kept) (next : Outcome) → is_acted (for_client by act clients next) ≡ true → is_acted next ≡ true
client_acts None act clients next e = e
client_acts (Some by) act clients next e = number_acts by act clients (kept_for by.client clients) next e

row_acts : (clients : List Kept) (act : Act) (row : Row) → is_acted (of_row clients act row) ≡ true → is_answer row ≡ true
row_acts clients act (refuses r) e = absurd cc
row_acts clients act (answers reply cs) e = refl

-- ---- acts that only look

-- an act whose changes are those of its row
abbrev ChangesAsRow : List Kept → Act → Type 0
ChangesAsRow clients act = (reply : Reply) (cs : List Change) → is_change None (of_answer clients act reply cs) ≡ has_changes (answers reply cs)

as_row : (told reply : Reply) (cs : List Change) → is_change None (acted told cs) ≡ has_changes (answers reply cs)
as_row told reply [] = refl
as_row told reply (c ∷ cs) = refl

row_changes : (clients : List Kept) (act : Act) (row : Row) → ChangesAsRow clients act → is_change None (of_row clients act row) ≡ true → has_changes row ≡ true
row_changes clients act (refuses r) same e = absurd cc
row_changes clients act (answers reply cs) same e = sym (same reply cs) ∙ e

looked : (clients : List Kept) (act : Act) (t : ℕ) (s : Space) (o : Option Refusal) (row : Row) → ChangesAsRow clients act → is_change None (of_row clients act (numbered t s (refused_by o row))) ≡ true → Passes has_changes row
looked clients act t s o row same e =
    (refused_passed has_changes no_changes o row (record { is = numbered_changes t s (refused_by o row) (row_changes clients act (numbered t s (refused_by o row)) same e) })).1

no_change : (reply : Reply) → Passes has_changes (answers reply []) → ⊥
no_change reply e = let never : false ≡ true = e.is in absurd cc

no_look : (s : Space) (from : Path) (start count : ℕ) → Passes has_changes (peek_row s from start count) → ⊥
no_look s from start count e = no_change _ (at_entity_passed has_changes no_changes s from (λ x. answers (Copies (peeked start count (leaf_of from.part x).copies)) []) e).1.1

no_count : (s : Space) (path : Path) → Passes has_changes (counts_row s path) → ⊥
no_count s path e = no_change _ (at_entity_passed has_changes no_changes s path (λ x. answers (Counted (length x.main.copies) (length x.dead.copies) (length x.transfer.copies)) []) e).1.1

no_state : (s : Space) (t : ℕ) (from : Path) (token : Token) → Passes has_changes (session_state_row s t from token) → ⊥
no_state s t from token e =
    let next = λ (x : Entity). asks (has_sessions x from.part) SessionNotAllowed (held_or (held_session s t token (leaf_of from.part x)) (λ y. answers (Remembers y.state) [])) in
    let a = at_entity_passed has_changes no_changes s from next e in
    let b = asks_passed has_changes no_changes (has_sessions a.1.0 from.part) SessionNotAllowed (held_or (held_session s t token (leaf_of from.part a.1.0)) (λ y. answers (Remembers y.state) [])) a.1.1 in
    let c = held_passed has_changes no_changes (held_session s t token (leaf_of from.part a.1.0)) (λ y. answers (Remembers y.state) []) b.1 in
    no_change _ c.1

no_sight : (s : Space) (what : Looked) → Passes has_changes (look_row s what) → ⊥
no_sight s (look.Entities prefix after count) e = no_change _ e
no_sight s (look.Entity path) e = no_change _ (at_entity_passed has_changes no_changes s path (λ x. answers (Seen (seen.Entity (described s x))) []) e).1.1
no_sight s (look.Sessions path after count) e =
    let next = λ (x : Entity). asks (has_sessions x Main) SessionNotAllowed (answers (Seen (seen.Sessions (sessions_shown after count x.main))) []) in
    let a = at_entity_passed has_changes no_changes s path next e in
    no_change _ (asks_passed has_changes no_changes (has_sessions a.1.0 Main) SessionNotAllowed (answers (Seen (seen.Sessions (sessions_shown after count a.1.0.main))) []) a.1.1).1
no_sight s look.Transactions e = no_change _ e
no_sight s (look.Clients after count) e = no_change _ e

-- what changes something takes a client's number
coded : (s : State) (t : ℕ) (by : Option By) (act : Act) → is_change (client_of (record { by = by; act = act })) (outcome_of s t (record { by = by; act = act })) ≡ true → takes_number act ≡ true
coded s t by (CreateQueue name d) e = refl
coded s t by (CreateTopic name d) e = refl
coded s t by (CreateSubscription topic name d) e = refl
coded s t by (CreateRule topic subscription name asked action) e = refl
coded s t by (Delete entity) e = refl
coded s t by (DeleteRule topic subscription name) e = refl
coded s t by (Send to messages txn) e = refl
coded s t by (Cancel from number) e = refl
coded s t by (Receive from mode session) e = refl
coded s t by (ReceiveDeferred from number mode session) e = refl
coded s t by (Settle from which token session how txn) e = refl
coded s t by (Renew from which token) e = refl
coded s t by (Accept from id) e = refl
coded s t by (SessionRenew from session) e = refl
coded s t by (SessionClose from session) e = refl
coded s t by (SessionSet from session state) e = refl
coded s t by (SessionState from session) e = absurd (no_state s.space t from session (looked s.clients (SessionState from session) t s.space _ (session_state_row s.space t from session) (λ reply cs. as_row reply reply cs) e))
coded s t by (Begin entity) e = refl
coded s t by (Commit txn) e = refl
coded s t by (Rollback txn) e = refl
coded s t by (Together entity steps) e = refl
coded s t by (ForgetClient name) e = refl
coded s t by (Peek from start count) e = absurd (no_look s.space from start count (looked s.clients (Peek from start count) t s.space _ (peek_row s.space from start count) (λ reply cs. as_row reply reply cs) e))
coded s t by (Counts entity) e = absurd (no_count s.space entity (looked s.clients (Counts entity) t s.space _ (counts_row s.space entity) (λ reply cs. as_row reply reply cs) e))
coded s t by (Look what) e = absurd (no_sight s.space what (looked s.clients (Look what) t s.space _ (look_row s.space what) (λ reply cs. as_row (with_clients s.clients what reply) reply cs) e))

-- ---- what each act's row tests

no_field : (k : EntityKind) (d : Description) → bad_description k d ≡ None → bad_in_description k d ≡ None
no_field k d none = by_key (bad_in_description k d) none where
  by_key : (o : Key) → option_map (λ field. BadDescription field) o ≡ None → o ≡ None
  by_key None e = refl
  by_key (Some key) e = absurd cc

no_size : (o : Option ℕ) → option_map (λ size. TooLarge size) o ≡ None → is_none o ≡ true
no_size None e = refl
no_size (Some size) e = absurd cc

is_none-of : {X : Type 0} (o : Option X) → o ≡ None → is_none o ≡ true
is_none-of None e = refl
is_none-of (Some x) e = absurd cc

abbrev Tested : Act → Type 0
Tested a = (has_names a ≡ true) × (bad_described a ≡ None) × (has_sizes a ≡ true)

addressed : (s : Space) (path : Path) (next : Entity → Row) → Passes is_answer (at_entity s path next) → is_address path ≡ true
addressed s path next e = (at_entity_passed is_answer no_answer s path next e).0

create_tested : (s : Space) (kind : EntityKind) (name : List ℕ) (d : Description) → Passes is_answer (create_row s kind name d) → (is_name name ≡ true) × (bad_in_description kind d ≡ None)
create_tested s kind name d e =
    let a = asked_by (is_name name) BadName _ e in
    let b = absent_passed is_answer no_answer _ _ _ a.1 in
    (a.0, no_field kind d (refused_passed is_answer no_answer (bad_description kind d) _ b).0)

subscription_tested : (s : Space) (topic name : List ℕ) (d : Description) → Passes is_answer (create_subscription_row s topic name d) → ((is_name topic && is_short_name name) ≡ true) × (bad_in_description Subscription d ≡ None)
subscription_tested s topic name d e =
    let topics = entity_at (entity_path topic) s in
    let others = entity_at (subscription_path topic name) s in
    let made = λ (x : Entity). asks (is_topic x.about.kind) WrongKind (answers Done (Makes Subscription (subscription_path topic name) d (default_rule ∷ []) ∷ [])) in
    let judged = λ (x : Entity). refused_by (bad_description Subscription d) (made x) in
    let next = λ (x : Entity). absent_or others EntityExists (judged x) in
    let a = asked_by (is_name topic && is_short_name name) BadName (found_or topics EntityNotFound next) e in
    let b = found_passed is_answer no_answer topics EntityNotFound next a.1 in
    let c = absent_passed is_answer no_answer others EntityExists (judged b.0) b.1 in
    (a.0, no_field Subscription d (refused_passed is_answer no_answer (bad_description Subscription d) (made b.0) c).0)

rule_tested : (s : Space) (topic subscription name : List ℕ) (asked : FilterText) (action : Option (List ℕ)) → Passes is_answer (create_rule_row s topic subscription name asked action)
    → (are_rule_names topic subscription name ≡ true) × ((is_read (filter_of asked) && is_read (action_of action) && is_none (large_filter asked)) ≡ true)
rule_tested s topic subscription name asked action e =
    let found = entity_at (subscription_path topic subscription) s in
    let made = λ (x : Entity) (f : RuleFilter) (a : Option (List ℕ)). answers Done (AddsRule x.about.number (record { name = name; filter = f; action = a }) ∷ []) in
    let third = λ (x : Entity) (f : RuleFilter) (a : Option (List ℕ)). refused_by (large_filter asked) (made x f a) in
    let second = λ (x : Entity) (f : RuleFilter). read_or (action_of action) (third x f) in
    let next = λ (x : Entity). absent_or (rule_in name x) EntityExists (read_or (filter_of asked) (second x)) in
    let a = asked_by (are_rule_names topic subscription name) BadName (found_or found EntityNotFound next) e in
    let b = found_passed is_answer no_answer found EntityNotFound next a.1 in
    let c = absent_passed is_answer no_answer (rule_in name b.0) EntityExists (read_or (filter_of asked) (second b.0)) b.1 in
    let d = read_passed is_answer no_answer (filter_of asked) (second b.0) c in
    let f = read_passed is_answer no_answer (action_of action) (third b.0 d.0) d.2 in
    let g = refused_passed is_answer no_answer (large_filter asked) (made b.0 d.0 f.0) f.2 in
    (a.0, both_true (is_read (filter_of asked) && is_read (action_of action)) (is_none (large_filter asked)) (both_true (is_read (filter_of asked)) (is_read (action_of action)) d.1 f.1) (is_none-of (large_filter asked) g.0))

send_tested : (s : Space) (t : ℕ) (to : Path) (messages : List Message) (txn : Option ℕ) → Passes is_answer (send_row s t to messages txn) → (is_address to ≡ true) × (is_none (large_size messages) ≡ true)
send_tested s t to messages txn e =
    let x = open_in txn s in
    let via = is_via s to x in
    let at_once = cond via None (entity_at to s) in
    let r6 = sent_or_queued s t to messages at_once x in
    let r5 = refused_by (too_large messages) r6 in
    let r4 = asks (has_room_in x (length messages)) TxnFull r5 in
    let r3 = asks (is_open txn s) TxnNotFound r4 in
    let r2 = asks (have_sessions_at at_once messages) SessionRequired r3 in
    let r1 = asks (is_destination to) WrongKind r2 in
    let r0 = asks (via || is_some at_once) EntityNotFound r1 in
    let a = asked_by (is_address to) BadName r0 e in
    let b = asked_by (via || is_some at_once) EntityNotFound r1 a.1 in
    let c = asked_by (is_destination to) WrongKind r2 b.1 in
    let d = asked_by (have_sessions_at at_once messages) SessionRequired r3 c.1 in
    let f = asked_by (is_open txn s) TxnNotFound r4 d.1 in
    let g = asked_by (has_room_in x (length messages)) TxnFull r5 f.1 in
    (a.0, no_size (large_size messages) (refused_passed is_answer no_answer (too_large messages) r6 g.1).0)

state_tested : (s : Space) (t : ℕ) (from : Path) (token : Token) (state : Option (List ℕ)) → Passes is_answer (session_set_row s t from token state) → (is_address from ≡ true) × (nat_le (size_of state) max_state ≡ true)
state_tested s t from token state e =
    let held = λ (x : Entity). held_session s t token (leaf_of from.part x) in
    let written = λ (x : Entity) (y : Session). answers Done (cond (is_same_option y.state state) [] (in_part from.part x (Writes token.lock state) ∷ [])) in
    let sized = λ (x : Entity) (y : Session). asks (nat_le (size_of state) max_state) (TooLarge (size_of state)) (written x y) in
    let next = λ (x : Entity). asks (has_sessions x from.part) SessionNotAllowed (held_or (held x) (sized x)) in
    let a = at_entity_passed is_answer no_answer s from next e in
    let b = asked_by (has_sessions a.1.0 from.part) SessionNotAllowed (held_or (held a.1.0) (sized a.1.0)) a.1.1 in
    let c = held_passed is_answer no_answer (held a.1.0) (sized a.1.0) b.1 in
    (a.0, (asked_by (nat_le (size_of state) max_state) (TooLarge (size_of state)) (written a.1.0 c.0) c.1).0)

behind_passed : (cs : List Change) (row : Row) → Passes is_answer (behind cs row) → Passes is_answer row
behind_passed cs (refuses r) e = absurd (no_answer r e.is)
behind_passed cs (answers reply ds) e = record { is = refl }

then_passed : (t : ℕ) (s : Space) (row : Row) (next : Space → Row) → Passes is_answer (then_row t s row next) → Passes is_answer row × ((later : Space) × Passes is_answer (next later))
then_passed t s (refuses r) next e = absurd (no_answer r e.is)
then_passed t s (answers reply cs) next e = (record { is = refl }, (after_all t cs s, behind_passed cs (next (after_all t cs s)) e))

none_large : (o : Option ℕ) → option_map (λ size. TooLarge size) o ≡ None → is_none o ≡ true
none_large None e = refl
none_large (Some size) e = absurd cc

together_tested : (s : Space) (t : ℕ) (entity : Path) (steps : List Step) → Passes is_answer (together_row s t entity steps) → Tested (Together entity steps)
together_tested s t entity steps e =
    let last = steps_row 0 t entity (s.last_txn + 1) (commit_steps t (s.last_txn + 1) steps) steps in
    let begun = then_passed t s (begin_row s t entity) (λ later. fitting steps (last later)) e in
    let named = asked_by (are_addressed steps) (unaddressed steps) _ begun.1.1 in
    let few = asked_by (nat_le (sum_by step_weight steps) max_operations) TxnFull _ named.1 in
    let small = refused_passed is_answer no_answer (option_map (λ size. TooLarge size) (large_steps steps)) (last begun.1.0) few.1 in (
      both_true (is_address entity) (are_addressed steps) (addressed s entity _ begun.0) named.0,
      refl,
      both_true (nat_le (sum_by step_weight steps) max_operations) (is_none (large_steps steps)) few.0 (none_large (large_steps steps) small.0),
    )

row_tested : (s : Space) (t : ℕ) (a : Act) → Passes is_answer (act_row s t a) → Tested a
row_tested s t (CreateQueue name d) e = let a = create_tested s Queue name d e in (a.0, a.1, refl)
row_tested s t (CreateTopic name d) e = let a = create_tested s Topic name d e in (a.0, a.1, refl)
row_tested s t (CreateSubscription topic name d) e = let a = subscription_tested s topic name d e in (a.0, a.1, refl)
row_tested s t (CreateRule topic subscription name asked action) e = let a = rule_tested s topic subscription name asked action e in (a.0, refl, a.1)
row_tested s t (Delete entity) e = (addressed s entity _ e, refl, refl)
row_tested s t (DeleteRule topic subscription name) e = ((asked_by (are_rule_names topic subscription name) BadName _ e).0, refl, refl)
row_tested s t (Send to messages txn) e = let a = send_tested s t to messages txn e in (a.0, refl, a.1)
row_tested s t (Cancel from number) e = (addressed s from _ e, refl, refl)
row_tested s t (Receive from mode session) e = (addressed s from _ e, refl, refl)
row_tested s t (ReceiveDeferred from number mode session) e = (addressed s from _ e, refl, refl)
row_tested s t (Settle from which token session how txn) e = (addressed s from _ e, refl, refl)
row_tested s t (Renew from which token) e = (addressed s from _ e, refl, refl)
row_tested s t (Accept from id) e = (addressed s from _ e, refl, refl)
row_tested s t (SessionRenew from session) e = (addressed s from _ e, refl, refl)
row_tested s t (SessionClose from session) e = (addressed s from _ e, refl, refl)
row_tested s t (SessionSet from session state) e = let a = state_tested s t from session state e in (a.0, refl, a.1)
row_tested s t (SessionState from session) e = (addressed s from _ e, refl, refl)
row_tested s t (Begin entity) e = (addressed s entity _ e, refl, refl)
row_tested s t (Commit txn) e = (refl, refl, refl)
row_tested s t (Rollback txn) e = (refl, refl, refl)
row_tested s t (Together entity steps) e = together_tested s t entity steps e
row_tested s t (ForgetClient name) e = (refl, refl, refl)
row_tested s t (Peek from start count) e = (addressed s from _ e, refl, refl)
row_tested s t (Counts entity) e = (addressed s entity _ e, refl, refl)
row_tested s t (Look what) e = (refl, refl, refl)

id_tested : (s : State) (t : ℕ) (a : Act) → IsConsistent s → Passes is_answer (act_row s.space t a) → has_short_id a ≡ true
id_tested s t (Settle from which token session how txn) fits e = settle_id s t from which token session how txn fits e
id_tested s t (Renew from which token) fits e = renew_id s t from which token fits e
id_tested s t (CreateQueue name d) fits e = refl
id_tested s t (CreateTopic name d) fits e = refl
id_tested s t (CreateSubscription topic name d) fits e = refl
id_tested s t (CreateRule topic subscription name asked action) fits e = refl
id_tested s t (Delete entity) fits e = refl
id_tested s t (DeleteRule topic subscription name) fits e = refl
id_tested s t (Send to messages txn) fits e = refl
id_tested s t (Cancel from number) fits e = refl
id_tested s t (Receive from mode session) fits e = refl
id_tested s t (ReceiveDeferred from number mode session) fits e = refl
id_tested s t (Accept from id) fits e = refl
id_tested s t (SessionRenew from session) fits e = refl
id_tested s t (SessionClose from session) fits e = refl
id_tested s t (SessionSet from session state) fits e = refl
id_tested s t (SessionState from session) fits e = refl
id_tested s t (Begin entity) fits e = refl
id_tested s t (Commit txn) fits e = refl
id_tested s t (Rollback txn) fits e = refl
id_tested s t (Together entity steps) fits e = refl
id_tested s t (ForgetClient name) fits e = refl
id_tested s t (Peek from start count) fits e = refl
id_tested s t (Counts entity) fits e = refl
id_tested s t (Look what) fits e = refl

-- a call that changes the state has passed the machine's tests
pub changing_judged : (s : State) (t : ℕ) (call : Call) → IsConsistent s → IsActInOrder call.act → is_change (client_of call) (outcome_of s t call) ≡ true → IsJudged (is_via_in s.space call.act) call
changing_judged s t call fits order changing =
    let row = row_of s.space t call.by call.act in
    let answered = row_acts s.clients call.act row (client_acts (client_of call) call.act s.clients (of_row s.clients call.act row) (change_acts (client_of call) (outcome_of s t call) changing)) in
    let bad = bad_field (is_via_in s.space call.act) call.act call.by in
    let part = bad_part call.act in
    let tested = refused_passed is_answer no_answer (bad_call part bad) (act_row s.space t call.act) (record { is = numbered_answer t s.space (refused_by (bad_call part bad) (act_row s.space t call.act)) answered }) in
    let passed = row_tested s.space t call.act tested.1 in
    record {
      coded = coded s t call.by call.act changing;
      fields = no_key part bad tested.0;
      names = passed.0;
      described = passed.1;
      sizes = passed.2;
      id = id_tested s t call.act fits tested.1;
      order = order;
    }
