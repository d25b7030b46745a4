-- A journal record holds the event of a call that passed the machine's tests.
use Rattle.std.proofs.Common.{◌≡◌, ◌≤◌, ◌+◌, ◌*◌, ℕ, List, [], ◌∷◌, length, Bool, true, false, ◌&&◌, nat_lt, cond, Option, Some, None, refl, arith, ◌⊎◌, inl, inr}
use Rattle.std.specs.Prelude.{IfSome, is_none}
use Rattle.std.specs.List.{sum_by}
use Rattle.std.specs.Str.{chars, is_utf8}
use Rattle.std.proofs.lemmas.Bool.{leb-true, ltb-false}
use Rattle.std.proofs.lemmas.List.Sums.{sum_by-cons}
use Rattle.std.proofs.lemmas.Str.{IsUtf8-from_is_utf8}
use Rattle.sb_machine.specs.Administration.{filter_of, action_of, large_filter}
use Rattle.sb_machine.specs.Descriptions.{bad_in_description, is_name_or_none}
use Rattle.sb_machine.specs.Each.{Each, is_read}
use Rattle.sb_model.specs.Effects.{property_size, value_size, text_size, property_bytes}
use Rattle.sb_machine.specs.Fields.{bad_in_act, bad_in_by, bad_in_how, bad_in_filter, bad_in_step, bad_in_steps, bad_in_message, bad_in_messages, is_short, takes_number, is_between}
use Rattle.sb_machine.specs.Messages.{large_one, large_size, large_together, all_bytes, above}
use Rattle.sb_machine.specs.Names.{is_name, is_short_name, is_rule_name, is_address, is_subscription}
use Rattle.sb_machine.specs.Ordered.{IsActInOrder, IsFilterInOrder, IsStepInOrder}
use Rattle.sb_machine.specs.Sessions.{size_of}
use Rattle.sb_machine.specs.Together.{are_addressed, how_bytes, state_bytes, step_bytes, step_path, step_weight}
use Rattle.sb_model.specs.Orders.{IsInOrder}
use Rattle.sb_model.specs.Texts.{filter_in, action_in}
use Rattle.sb_machine.specs.declared.call.Act.{Act}
use Rattle.sb_machine.specs.declared.call.Act.TheVariants.{CreateQueue, CreateTopic, CreateSubscription, CreateRule, Delete, DeleteRule, Send, Cancel, Receive, ReceiveDeferred, Settle, Renew, Accept, SessionRenew, SessionClose, SessionSet, SessionState, Begin, Commit, Rollback, Together, ForgetClient, Peek, Counts, Look}
use Rattle.sb_machine.specs.declared.call.By.{By}
use Rattle.sb_machine.specs.declared.call.Call.{Call}
use Rattle.sb_machine.specs.declared.call.Description.{Description}
use Rattle.sb_machine.specs.declared.call.Event.TheVariants.{Tick, Called}
use Rattle.sb_machine.specs.declared.call.FilterText.{FilterText}
use Rattle.sb_machine.specs.declared.call.FilterText.TheVariants.{Sql, Correlation}
use Rattle.sb_machine.specs.declared.call.How.{How}
use Rattle.sb_machine.specs.declared.call.How.TheVariants.{Complete, Abandon, Defer, DeadLetter}
use Rattle.sb_machine.specs.declared.call.Path.{Path}
use Rattle.sb_machine.specs.declared.call.Step.{Step}
use Rattle.sb_machine.specs.declared.call.Step.TheVariants.{Send as StepSend, Settle as StepSettle, SessionSet as StateSet}
use Rattle.sb_machine.specs.declared.call.Token.{Token}
use Rattle.sb_machine.specs.declared.call.Which.{Which}
use Rattle.sb_machine.specs.declared.call.Which.TheVariants.{Number, Id}
use Rattle.sb_model.specs.declared.message.Message.{Message}
use Rattle.sb_model.specs.declared.message.Property.{Property}
use Rattle.sb_model.specs.declared.message.PropertyValue.{PropertyValue}
use Rattle.sb_model.specs.declared.message.PropertyValue.TheVariants.{Int, Text, Bool as Truth}
use Rattle.sb_model.specs.declared.message.SystemText.{SystemText}
use Rattle.sb_machine.specs.declared.rule.RuleFilter.TheVariants as kept
use Rattle.sb_machine.specs.declared.state.EntityKind.{EntityKind}
use Rattle.sb_machine.specs.declared.state.EntityKind.TheVariants.{Queue, Topic, Subscription}
use Rattle.sb_codec.specs.Acts.{any_act}
use Rattle.sb_codec.specs.Choices.{which, how, filter_text}
use Rattle.sb_codec.specs.EventBytes.{a_call, event, event_bytes, max_payload, HasSpelling}
use Rattle.sb_codec.specs.Forms.{Follow, text, content_or_none}
use Rattle.sb_machine.specs.Judged.{has_names, bad_described, is_short_id, has_short_id, has_sizes, IsJudged}
use Rattle.sb_codec.specs.Messages.{value, signed64, system, property, conditions, message, any_next}
use Rattle.sb_codec.specs.Pieces.{path, token, by, description}
use Rattle.sb_codec.specs.Steps.{step}
use Rattle.sb_codec.proofs.ActsAsked.{is_read-as, conditions_within, few_steps, short_id}
use Rattle.sb_codec.proofs.Asked.{described, name_length, rule_name_length, few_systems, few_properties, sizes_of}
use Rattle.sb_codec.proofs.Characters.{length_by_chars, length_of_text, filter_limit, action_limit}
use Rattle.sb_codec.proofs.Spelling.{event_is}
use Rattle.sb_machine.proofs.Passed.{both, first_none, unless_none, first_size_none, above_none, none_is, between_most}

-- ---- what a piece takes beside its content

path_fixed : path.fixed ≡ 10
unfolding path
path_fixed = refl

token_fixed : token.fixed ≡ 16
unfolding token
token_fixed = refl

by_fixed : by.fixed ≡ 12
unfolding by
by_fixed = refl

description_fixed : description.fixed ≡ 35
unfolding description
description_fixed = refl

which_fixed : which.fixed ≡ 1
unfolding which
which_fixed = refl

how_fixed : how.fixed ≡ 1
unfolding how
how_fixed = refl

filter_fixed : filter_text.fixed ≡ 1
unfolding filter_text
filter_fixed = refl

value_fixed : value.fixed ≡ 1
unfolding value
value_fixed = refl

message_fixed : message.fixed ≡ 30
unfolding message
message_fixed = refl

act_fixed : any_act.fixed ≡ 1
unfolding any_act
act_fixed = refl

-- ---- content

any_number : (o : Option ℕ) → content_or_none (λ (n : ℕ). 0) o ≡ 0
any_number None = refl
any_number (Some n) = refl

token_content : (t : Token) → token.content t ≡ 0
unfolding token
token_content t = refl

session_content : (o : Option Token) → content_or_none token.content o ≡ 0
session_content None = refl
session_content (Some t) = token_content t

text_content : (t : List ℕ) → text.content t ≡ length t
text_content t = refl

subscription_content : (o : Option (List ℕ)) → is_subscription o ≡ true → content_or_none (λ (t : List ℕ). length t) o ≤ 50
subscription_content None is = omega arith
subscription_content (Some name) is = name_length 50 name is

path_content : (p : Path) → is_address p ≡ true → path.content p ≤ 310
unfolding path
path_content p is =
    let parts = both (is_name p.name) (is_subscription p.subscription) is in
    let name = name_length 260 p.name parts.0 in
    let subscription = subscription_content p.subscription parts.1 in
    omega (arith, name, subscription)

target_content : (o : Option (List ℕ)) → (is_name_or_none o ≡ true) ⊎ (is_none o ≡ true) → content_or_none (λ (t : List ℕ). length t) o ≤ 260
target_content None is = omega arith
target_content (Some name) (inl named) = name_length 260 name named
target_content (Some name) (inr none) = absurd cc

description_content : (k : EntityKind) (d : Description) → bad_in_description k d ≡ None → description.content d ≤ 520
unfolding description
description_content k d good =
    let is = described k d good in
    let to = target_content d.forward_to is.forward_to in
    let dead_to = target_content d.forward_dead_to is.forward_dead_to in
    let lives = any_number d.ttl in
    let keeps = any_number d.window in
    omega (arith, to, dead_to, lives, keeps)

-- ---- texts that are counted in characters

by_characters : (most : ℕ) (t : List ℕ) → is_short most (Some t) ≡ true → is_utf8 t ≡ true → length t ≤ 4 * most
by_characters most t short utf8 =
    let few : length (chars t) ≤ most = leb-true (length (chars t)) most short in
    let bytes = length_by_chars t (IsUtf8-from_is_utf8 t utf8) in
    omega (arith, few, bytes)

optional_by_characters : (most : ℕ) (o : Option (List ℕ)) → is_short most o ≡ true → IfSome o text.Fits → content_or_none (λ (t : List ℕ). length t) o ≤ 4 * most
optional_by_characters most None short fits = omega arith
optional_by_characters most (Some t) short fits = by_characters most t short fits.1

which_content : (w : Which) → is_short_id w ≡ true → which.Fits w → which.content w ≤ 516
unfolding which
which_content (Number n) short fits = omega arith
which_content (Id id) short fits = let bytes = by_characters 128 id short fits.1 in omega (arith, bytes)

how_content : (h : How) → bad_in_how h ≡ None → how.Fits h → how.content h ≤ 32778
unfolding how
how_content Complete good fits = omega arith
how_content Abandon good fits = omega arith
how_content Defer good fits = omega arith
how_content (DeadLetter reason description) good fits =
    let parts = first_none _ _ good in
    let one = optional_by_characters 4096 reason (unless_none _ _ parts.0) fits.0 in
    let other = optional_by_characters 4096 description (unless_none _ _ parts.1) fits.1 in
    omega (arith, one, other)

-- ---- properties

value_content : (v : PropertyValue) → value.content v ≤ 4 + value_size v
unfolding value signed64
value_content (Int z) = omega arith
value_content (Text t) = omega arith
value_content (Truth b) = omega arith

property_content : (p : Property) → property.fixed + property.content p ≤ 9 + property_size p
unfolding property
property_content p = let a = value_content p.value in let n = text_content p.name in let f = value_fixed in omega (arith, a, n, f)

properties_content : (ps : List Property) → sum_by (λ p. property.fixed + property.content p) ps ≤ 9 * length ps + sum_by property_size ps
properties_content [] = omega arith
properties_content (p ∷ ps) =
    let one = property_content p in
    let others = properties_content ps in
    omega (arith, one, others, sum_by-cons (λ (q : Property). property.fixed + property.content q) p ps, sum_by-cons property_size p ps)

system_content : (s : SystemText) → system.fixed + system.content s ≤ 5 + text_size s
unfolding system
system_content s = omega arith

systems_content : (ss : List SystemText) → sum_by (λ s. system.fixed + system.content s) ss ≤ 5 * length ss + sum_by text_size ss
systems_content [] = omega arith
systems_content (s ∷ ss) =
    let one = system_content s in
    let others = systems_content ss in
    omega (arith, one, others, sum_by-cons (λ (x : SystemText). system.fixed + system.content x) s ss, sum_by-cons text_size s ss)

filter_content : (f : FilterText) → bad_in_filter f ≡ None → is_read (filter_of f) ≡ true → is_none (large_filter f) ≡ true → IsFilterInOrder f → filter_text.Fits f → filter_text.content f ≤ 68000
unfolding filter_text conditions
filter_content (Sql t) good read large order fits =
    let short = length_of_text t (IsUtf8-from_is_utf8 t fits.1) (filter_limit t (is_read-as (kept.Sql t) (filter_in t) read)) in omega (arith, short)
filter_content (Correlation c) good read large order fits =
    let size = conditions_within (Correlation c) large in
    let few = few_systems c.sys order.sys in
    let less = few_properties c.sys c.props good in
    let one = systems_content c.sys in
    let other = properties_content c.props in
    omega (arith, size, few, less, one, other)

action_content : (o : Option (List ℕ)) → is_read (action_of o) ≡ true → IfSome o text.Fits → content_or_none (λ (t : List ℕ). length t) o ≤ 4096
action_content None read fits = omega arith
action_content (Some t) read fits = length_of_text t (IsUtf8-from_is_utf8 t fits.1) (action_limit t (is_read-as (Some t) (action_in t) read))

-- ---- messages

abbrev message_size : Message → ℕ
message_size m = length m.body + property_bytes m

message_content : (is_via : Bool) (m : Message) → IsInOrder m → bad_in_message is_via m ≡ None → message.fixed + message.content m ≤ 2374 + message_size m
unfolding message
message_content is_via m order good =
    let few = few_systems m.sys order.sys in
    let less = few_properties m.sys m.props (first_none _ _ good).0 in
    let one = systems_content m.sys in
    let other = properties_content m.props in
    let lives = any_number m.ttl in
    let waits = any_number m.schedule in
    omega (arith, one, other, lives, waits, few, less)

messages_content : (is_via : Bool) (ms : List Message) → Each IsInOrder ms → bad_in_messages is_via ms ≡ None → sum_by (λ m. message.fixed + message.content m) ms ≤ 2374 * length ms + all_bytes ms
messages_content is_via [] order good = omega arith
messages_content is_via (m ∷ ms) order good =
    let goods = first_none _ _ good in
    let one = message_content is_via m order.0 goods.0 in
    let others = messages_content is_via ms order.1 goods.1 in
    omega (arith, one, others, sum_by-cons (λ (x : Message). message.fixed + message.content x) m ms, sum_by-cons message_size m ms)

-- one message has its own limits, two or more have one together
all_small : (ms : List Message) → large_size ms ≡ None → all_bytes ms ≤ 327680
all_small [] fits = omega arith
all_small (m ∷ []) fits =
    let sizes = sizes_of m (first_size_none _ _ (first_size_none (large_one (m ∷ [])) _ fits).0).0 in
    let body = sizes.0 in
    let properties = sizes.1 in
    omega (arith, body, properties, sum_by-cons message_size m [])
all_small (m ∷ n ∷ ms) fits = let all = above_none 262144 (all_bytes (m ∷ n ∷ ms)) (together (first_size_none (large_one (m ∷ n ∷ ms)) _ fits).1) in omega (arith, all) where
  together : large_together (m ∷ n ∷ ms) ≡ None → above 262144 (all_bytes (m ∷ n ∷ ms)) ≡ None
  together none = by_test (nat_lt 1 (length (m ∷ n ∷ ms))) refl none
    where
      by_test : (t : Bool) → nat_lt 1 (length (m ∷ n ∷ ms)) ≡ t → cond t (above 262144 (all_bytes (m ∷ n ∷ ms))) None ≡ None → above 262144 (all_bytes (m ∷ n ∷ ms)) ≡ None
      by_test true is e = e
      by_test false is e = let le = ltb-false 1 (length (m ∷ n ∷ ms)) is in absurd (omega (arith, le))

-- ---- operations that act together

size_content : (o : Option (List ℕ)) → content_or_none (λ (t : List ℕ). length t) o ≡ size_of o
size_content None = refl
size_content (Some bytes) = refl

how_size : (h : How) → how.content h ≤ 10 + how_bytes h
unfolding how
how_size Complete = omega arith
how_size Abandon = omega arith
how_size Defer = omega arith
how_size (DeadLetter reason description) = let one = size_content reason in let other = size_content description in omega (arith, one, other)

-- 882 bytes in any case, 2,374 for a message, and the bytes that are counted
step_content : (x : Step) → is_address (step_path x) ≡ true → bad_in_step x ≡ None → IsStepInOrder x → step.Fits x → step.fixed + step.content x ≤ 882 + 2374 * step_weight x + step_bytes x + state_bytes x
unfolding step
step_content (StepSend to messages) named good order fits =
    let count = first_none _ _ good in
    let one = path_content to named in
    let all = messages_content false messages order (first_none _ _ count.1).0 in
    let f = path_fixed in
    omega (arith, one, all, f)
step_content (StepSettle from w t session h) named good order fits =
    let rest = first_none _ _ (first_none _ _ good).1 in
    let one = path_content from named in
    let copy = which_content w (short_id w rest.0) fits.1.0 in
    let lock = token_content t in
    let held = session_content session in
    let outcome = how_size h in
    let f = path_fixed in
    let g = which_fixed in
    let i = token_fixed in
    let j = how_fixed in
    omega (arith, one, copy, lock, held, outcome, f, g, i, j)
step_content (StateSet from session state) named good order fits =
    let one = path_content from named in
    let lock = token_content session in
    let last = size_content state in
    let f = path_fixed in
    let g = token_fixed in
    omega (arith, one, lock, last, f, g)

steps_content : (last : Option Step) (xs : List Step) → are_addressed xs ≡ true → bad_in_steps xs ≡ None → Each IsStepInOrder xs → Follow (λ last x. step.Fits x × (any_next last x ≡ true)) last xs
    → sum_by (λ x. step.fixed + step.content x) xs ≤ 882 * length xs + 2374 * sum_by step_weight xs + sum_by step_bytes xs + sum_by state_bytes xs
steps_content last [] named good order fits = omega arith
steps_content last (x ∷ xs) named good order fits =
    let names = both (is_address (step_path x)) (are_addressed xs) named in
    let goods = first_none _ _ good in
    let one = step_content x names.0 goods.0 order.0 fits.0.0 in
    let others = steps_content (Some x) xs names.1 goods.1 order.1 fits.1 in
    let sizes = sum_by-cons (λ (y : Step). step.fixed + step.content y) x xs in
    let weights = sum_by-cons step_weight x xs in
    let bytes = sum_by-cons step_bytes x xs in
    let states = sum_by-cons state_bytes x xs in
    omega (arith, one, others, sizes, weights, bytes, states)

-- ---- acts

act_content : (is_via : Bool) (a : Act) → takes_number a ≡ true → bad_in_act is_via a ≡ None → has_names a ≡ true → bad_described a ≡ None → has_sizes a ≡ true → has_short_id a ≡ true → IsActInOrder a → any_act.Fits a → any_act.content a ≤ 1000000
unfolding any_act
act_content is_via (CreateQueue name d) coded good named described sizes id_short order fits =
    let one = name_length 260 name named in let other = description_content Queue d described in let f = description_fixed in omega (arith, one, other, f)
act_content is_via (CreateTopic name d) coded good named described sizes id_short order fits =
    let one = name_length 260 name named in let other = description_content Topic d described in let f = description_fixed in omega (arith, one, other, f)
act_content is_via (CreateSubscription topic name d) coded good named described sizes id_short order fits =
    let names = both (is_name topic) (is_short_name name) named in
    let first = name_length 260 topic names.0 in
    let second = name_length 50 name names.1 in
    let other = description_content Subscription d described in
    let f = description_fixed in
    omega (arith, first, second, other, f)
act_content is_via (CreateRule topic subscription name asked action) coded good named described sizes id_short order fits =
    let names = both (is_name topic && is_short_name subscription) (is_rule_name name) named in
    let places = both (is_name topic) (is_short_name subscription) names.0 in
    let tests = both (is_read (filter_of asked) && is_read (action_of action)) (is_none (large_filter asked)) sizes in
    let read = both (is_read (filter_of asked)) (is_read (action_of action)) tests.0 in
    let first = name_length 260 topic places.0 in
    let second = name_length 50 subscription places.1 in
    let third = rule_name_length name names.1 in
    let filter = filter_content asked good read.0 tests.1 order fits.1.1.1.0 in
    let last = action_content action read.1 fits.1.1.1.1 in
    let f = filter_fixed in
    omega (arith, first, second, third, filter, last, f)
act_content is_via (Delete entity) coded good named described sizes id_short order fits = let one = path_content entity named in let f = path_fixed in omega (arith, one, f)
act_content is_via (DeleteRule topic subscription name) coded good named described sizes id_short order fits =
    let names = both (is_name topic && is_short_name subscription) (is_rule_name name) named in
    let places = both (is_name topic) (is_short_name subscription) names.0 in
    let first = name_length 260 topic places.0 in
    let second = name_length 50 subscription places.1 in
    let third = rule_name_length name names.1 in
    omega (arith, first, second, third)
act_content is_via (Send to messages txn) coded good named described sizes id_short order fits =
    let count = first_none _ _ good in
    let few = leb-true (length messages) 100 (unless_none _ _ count.0) in
    let one = path_content to named in
    let all = messages_content is_via messages order (first_none _ _ count.1).0 in
    let bytes = all_small messages (none_is (large_size messages) sizes) in
    let last = any_number txn in
    let f = path_fixed in
    omega (arith, few, one, all, bytes, last, f)
act_content is_via (Cancel from number) coded good named described sizes id_short order fits = let one = path_content from named in let f = path_fixed in omega (arith, one, f)
act_content is_via (Receive from mode session) coded good named described sizes id_short order fits =
    let one = path_content from named in let last = session_content session in let f = path_fixed in let g = token_fixed in omega (arith, one, last, f, g)
act_content is_via (ReceiveDeferred from number mode session) coded good named described sizes id_short order fits =
    let one = path_content from named in let last = session_content session in let f = path_fixed in let g = token_fixed in omega (arith, one, last, f, g)
act_content is_via (Settle from w t session h txn) coded good named described sizes id_short order fits =
    let rest = first_none _ _ (first_none _ _ good).1 in
    let one = path_content from named in
    let copy = which_content w id_short fits.1.0 in
    let lock = token_content t in
    let held = session_content session in
    let outcome = how_content h rest.1 fits.1.1.1.1.0 in
    let last = any_number txn in
    let f = path_fixed in
    let g = which_fixed in
    let i = token_fixed in
    let j = how_fixed in
    omega (arith, one, copy, lock, held, outcome, last, f, g, i, j)
act_content is_via (Renew from w t) coded good named described sizes id_short order fits =
    let one = path_content from named in
    let copy = which_content w id_short fits.1.0 in
    let lock = token_content t in
    let f = path_fixed in
    let g = which_fixed in
    let i = token_fixed in
    omega (arith, one, copy, lock, f, g, i)
act_content is_via (Accept from id) coded good named described sizes id_short order fits =
    let one = path_content from named in let last = optional_by_characters 128 id (unless_none _ _ good) fits.1 in let f = path_fixed in omega (arith, one, last, f)
act_content is_via (SessionRenew from session) coded good named described sizes id_short order fits =
    let one = path_content from named in let lock = token_content session in let f = path_fixed in let g = token_fixed in omega (arith, one, lock, f, g)
act_content is_via (SessionClose from session) coded good named described sizes id_short order fits =
    let one = path_content from named in let lock = token_content session in let f = path_fixed in let g = token_fixed in omega (arith, one, lock, f, g)
act_content is_via (SessionSet from session state) coded good named described sizes id_short order fits =
    let one = path_content from named in
    let lock = token_content session in
    let last = size_content state in
    let small = leb-true (size_of state) 262144 sizes in
    let f = path_fixed in
    let g = token_fixed in
    omega (arith, one, lock, last, small, f, g)
act_content is_via (SessionState from session) coded good named described sizes id_short order fits = absurd cc
act_content is_via (Begin entity) coded good named described sizes id_short order fits = let one = path_content entity named in let f = path_fixed in omega (arith, one, f)
act_content is_via (Commit txn) coded good named described sizes id_short order fits = omega arith
act_content is_via (Rollback txn) coded good named described sizes id_short order fits = omega arith
act_content is_via (Together entity steps) coded good named described sizes id_short order fits =
    let names = both (is_address entity) (are_addressed steps) named in
    let few = few_steps is_via entity steps good sizes in
    let count = few.count in
    let weight = few.weight in
    let bytes = few.bytes in
    let states = few.states in
    let one = path_content entity names.0 in
    let all = steps_content None steps names.1 few.good order fits.1.1 in
    let f = path_fixed in
    omega (arith, count, weight, bytes, states, one, all, f)
act_content is_via (ForgetClient name) coded good named described sizes id_short order fits =
    let few = between_most 1 50 (length name) (unless_none _ _ good) in omega (arith, few)
act_content is_via (Peek from start count) coded good named described sizes id_short order fits = absurd cc
act_content is_via (Counts entity) coded good named described sizes id_short order fits = absurd cc
act_content is_via (Look what) coded good named described sizes id_short order fits = absurd cc

-- ---- events

by_content : (a : Act) (o : Option By) → bad_in_by a o ≡ None → content_or_none by.content o ≤ 50
unfolding by
by_content a None good = omega arith
by_content a (Some b) good =
    let client = both (takes_number a) (is_between 1 50 (length b.client)) (unless_none _ _ (first_none _ _ (first_none _ _ good).1).0) in
    let few = between_most 1 50 (length b.client) client.1 in
    omega (arith, few)

called_content : (is_via : Bool) (t : ℕ) (call : Call) → IsJudged is_via call → HasSpelling (Called t call) → event.fixed + event.content (Called t call) ≤ max_payload
unfolding event a_call
called_content is_via t call judged fits =
    let good = first_none _ _ judged.fields in
    let one = by_content call.act call.by good.1 in
    let other = act_content is_via call.act judged.coded good.0 judged.names judged.described judged.sizes judged.id judged.order fits.1.1 in
    let f = by_fixed in
    let g = act_fixed in
    omega (arith, one, other, f, g)

pub judged_short : (is_via : Bool) (t : ℕ) (call : Call) → IsJudged is_via call → HasSpelling (Called t call) → length (event_bytes (Called t call)) ≤ max_payload
judged_short is_via t call judged fits = let small = event_is.small (Called t call) in let most = called_content is_via t call judged fits in omega (arith, small, most)

tick_content : (t : ℕ) → event.fixed + event.content (Tick t) ≤ max_payload
unfolding event
tick_content t = omega arith

pub tick_short : (t : ℕ) → length (event_bytes (Tick t)) ≤ max_payload
tick_short t = let small = event_is.small (Tick t) in let most = tick_content t in omega (arith, small, most)
