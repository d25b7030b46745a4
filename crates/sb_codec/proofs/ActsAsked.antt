-- An act that passed the machine's tests may be written, and so may its event.
use Rattle.std.proofs.Common.{◌≡◌, ◌≤◌, ℕ, List, [], ◌∷◌, length, Bool, true, false, ◌&&◌, nat_le, Option, Some, None, refl, arith}
use Rattle.std.specs.Prelude.{IfSome, codes, is_none}
use Rattle.std.specs.List.{sum_by}
use Rattle.std.specs.Option.{option_map}
use Rattle.std.specs.Str.{chars}
use Rattle.std.proofs.lemmas.Bool.{leb-true}
use Rattle.std.proofs.lemmas.List.Sums.{sum_by-cons}
use Rattle.std.proofs.lemmas.Str.{IsUtf8-from_is_utf8}
use Rattle.sb_machine.specs.Administration.{filter_of, action_of, large_filter, conditions_size, read_as}
use Rattle.sb_machine.specs.Each.{Each, is_read}
use Rattle.sb_machine.specs.Fields.{bad_in_act, bad_in_by, bad_in_entity, bad_in_whole, unless, bad_in_how, bad_in_id, bad_in_filter, bad_in_step, bad_in_steps, are_set_once, max_steps, is_short, takes_number, is_between}
use Rattle.sb_machine.specs.Messages.{large_size, large_one, above}
use Rattle.sb_machine.specs.Names.{is_name, is_short_name, is_rule_name, is_address}
use Rattle.sb_machine.specs.Ordered.{IsActInOrder, IsFilterInOrder, IsStepInOrder, asked_of}
use Rattle.sb_machine.specs.Queueing.{max_operations}
use Rattle.sb_machine.specs.Sessions.{size_of}
use Rattle.sb_machine.specs.Together.{are_addressed, large_steps, state_bytes, step_bytes, step_path, step_weight}
use Rattle.sb_model.specs.Texts.{filter_in, action_in}
use Rattle.sb_machine.specs.declared.call.Act.{Act}
use Rattle.sb_machine.specs.declared.call.Act.TheVariants.{CreateQueue, CreateTopic, CreateSubscription, CreateRule, Delete, DeleteRule, Send, Cancel, Receive, ReceiveDeferred, Settle, Renew, Accept, SessionRenew, SessionClose, SessionSet, SessionState, Begin, Commit, Rollback, Together, ForgetClient, Peek, Counts, Look}
use Rattle.sb_machine.specs.declared.call.By.{By}
use Rattle.sb_machine.specs.declared.call.Call.{Call}
use Rattle.sb_machine.specs.declared.call.Event.TheVariants.{Tick, Called}
use Rattle.sb_machine.specs.declared.call.FilterText.{FilterText}
use Rattle.sb_machine.specs.declared.call.FilterText.TheVariants.{Sql, Correlation}
use Rattle.sb_machine.specs.declared.call.How.{How}
use Rattle.sb_machine.specs.declared.call.How.TheVariants.{Complete, Abandon, Defer, DeadLetter}
use Rattle.sb_machine.specs.declared.call.Path.{Path}
use Rattle.sb_machine.specs.declared.call.Step.{Step}
use Rattle.sb_machine.specs.declared.call.Step.TheVariants.{Send as StepSend, Settle as StepSettle, SessionSet as StateSet}
use Rattle.sb_machine.specs.declared.call.Token.{Token}
use Rattle.sb_machine.specs.declared.call.Which.{Which}
use Rattle.sb_machine.specs.declared.call.Which.TheVariants.{Number, Id}
use Rattle.sb_machine.specs.declared.rule.RuleFilter.TheVariants as kept
use Rattle.sb_machine.specs.declared.state.EntityKind.TheVariants.{Queue, Topic, Subscription}
use Rattle.std.specs.Prelude.{Result, Ok, Err}
use Rattle.sb_codec.specs.Acts.{any_act}
use Rattle.sb_codec.specs.Choices.{which, how, filter_text}
use Rattle.sb_codec.specs.EventBytes.{a_call, event, IsSpellable}
use Rattle.sb_codec.specs.Forms.{Follow, text, blob}
use Rattle.sb_machine.specs.Judged.{has_names, bad_described, is_short_id, has_short_id, has_sizes, IsJudged}
use Rattle.sb_codec.specs.Messages.{conditions, any_next}
use Rattle.sb_codec.specs.Pieces.{token, by}
use Rattle.sb_codec.specs.Steps.{step}
use Rattle.sb_codec.proofs.Asked.{short_text, any_number, entity_name, short_name, rule_name, path_asked, description_asked, conditions_asked, small_each, small_together, messages_asked}
use Rattle.sb_codec.proofs.Characters.{length_by_chars, length_of_text, filter_limit, action_limit}
use Rattle.sb_machine.proofs.Passed.{both, first_none, unless_none, first_size_none, above_none, none_is, between_most}

-- ---- texts that are counted in characters

by_characters : (most : ℕ) (t : List ℕ) → most ≤ 4096 → is_short most (Some t) ≡ true → text.Asks t
by_characters most t le short utf8 =
    let few : length (chars t) ≤ most = leb-true (length (chars t)) most short in
    let bytes = length_by_chars t (IsUtf8-from_is_utf8 t utf8) in
    omega (arith, le, few, bytes)

optional_by_characters : (most : ℕ) (o : Option (List ℕ)) → most ≤ 4096 → is_short most o ≡ true → IfSome o text.Asks
optional_by_characters most None le short = tt
optional_by_characters most (Some t) le short = by_characters most t le short

-- ---- what stands as one of several

which_asked : (w : Which) → is_short_id w ≡ true → which.Asks w
unfolding which
which_asked (Number n) short = tt
which_asked (Id id) short = by_characters 128 id (omega arith) short

how_asked : (h : How) → bad_in_how h ≡ None → how.Asks h
unfolding how
how_asked Complete good = tt
how_asked Abandon good = tt
how_asked Defer good = tt
how_asked (DeadLetter reason description) good =
    let parts = first_none _ _ good in
    (optional_by_characters 4096 reason (omega arith) (unless_none _ _ parts.0), optional_by_characters 4096 description (omega arith) (unless_none _ _ parts.1))

pub is_read-as : {X Y : Type 0} (y : Y) (r : Result X ℕ) → is_read (read_as y r) ≡ true → is_read r ≡ true
is_read-as y (Ok x) e = refl
is_read-as y (Err at) e = absurd cc

pub conditions_within : (f : FilterText) → is_none (large_filter f) ≡ true → conditions_size f ≤ 65536
conditions_within f none = above_none 65536 (conditions_size f) (by_size (above 65536 (conditions_size f)) none) where
  by_size : (o : Option ℕ) → is_none (option_map (λ size. Rattle.sb_machine.specs.declared.reply.Refusal.TheVariants.TooLarge size) o) ≡ true → o ≡ None
  by_size None e = refl
  by_size (Some size) e = absurd cc

filter_asked : (f : FilterText) → bad_in_filter f ≡ None → is_read (filter_of f) ≡ true → is_none (large_filter f) ≡ true → IsFilterInOrder f → filter_text.Asks f
unfolding filter_text conditions
filter_asked (Sql t) good read fits order = λ utf8.
    let short = length_of_text t (IsUtf8-from_is_utf8 t utf8) (filter_limit t (is_read-as (kept.Sql t) (filter_in t) read)) in omega (arith, short)
filter_asked (Correlation c) good read fits order = let size = conditions_within (Correlation c) fits in conditions_asked (asked_of c) order good (omega (arith, size))

action_asked : (o : Option (List ℕ)) → is_read (action_of o) ≡ true → IfSome o text.Asks
action_asked None read = tt
action_asked (Some t) read = λ utf8.
    let short = length_of_text t (IsUtf8-from_is_utf8 t utf8) (action_limit t (is_read-as (Some t) (action_in t) read)) in omega (arith, short)

-- ---- acts

token_asked : (t : Token) → token.Asks t
unfolding token
token_asked t = (tt, tt)

session_asked : (o : Option Token) → IfSome o token.Asks
session_asked None = tt
session_asked (Some t) = token_asked t

state_asked : (o : Option (List ℕ)) → size_of o ≤ 262144 → IfSome o blob.Asks
state_asked None small = tt
state_asked (Some bytes) small = omega (arith, small)

-- ---- operations that act together

pub short_id : (w : Which) → bad_in_id w ≡ None → is_short_id w ≡ true
short_id (Number n) good = refl
short_id (Id id) good = unless_none _ _ good

step_asked : (x : Step) → is_address (step_path x) ≡ true → bad_in_step x ≡ None → step_bytes x ≤ 262144 → state_bytes x ≤ 262144 → IsStepInOrder x → step.Asks x
unfolding step
step_asked (StepSend to messages) named good small kept_small order =
    let count = first_none _ _ good in
    let few = leb-true (length messages) 100 (unless_none _ _ count.0) in
    (path_asked to named, (omega (arith, few), messages_asked false None messages order (first_none _ _ count.1).0 (small_together messages small)))
step_asked (StepSettle from w t session h) named good small kept_small order =
    let rest = first_none _ _ (first_none _ _ good).1 in
    (path_asked from named, (which_asked w (short_id w rest.0), (token_asked t, (session_asked session, how_asked h rest.1))))
step_asked (StateSet from session state) named good small kept_small order = (path_asked from named, (token_asked session, state_asked state kept_small))

steps_asked : (last : Option Step) (xs : List Step) → are_addressed xs ≡ true → bad_in_steps xs ≡ None → sum_by step_bytes xs ≤ 262144 → sum_by state_bytes xs ≤ 262144 → Each IsStepInOrder xs
    → Follow (λ last x. step.Asks x × (any_next last x ≡ true)) last xs
steps_asked last [] named good small kept_small order = tt
steps_asked last (x ∷ xs) named good small kept_small order =
    let names = both (is_address (step_path x)) (are_addressed xs) named in
    let goods = first_none _ _ good in
    let bytes = sum_by-cons step_bytes x xs in
    let states = sum_by-cons state_bytes x xs in (
      (step_asked x names.0 goods.0 (omega (arith, bytes, small)) (omega (arith, states, kept_small)) order.0, refl),
      steps_asked (Some x) xs names.1 goods.1 (omega (arith, bytes, small)) (omega (arith, states, kept_small)) order.1,
    )

-- at most so many, and so large together
pub record AreFew (steps : List Step) : Type 0 where
  pub count : length steps ≤ 100
  pub good : bad_in_steps steps ≡ None
  pub weight : sum_by step_weight steps ≤ 100
  pub bytes : sum_by step_bytes steps ≤ 262144
  pub states : sum_by state_bytes steps ≤ 262144

pub few_steps : (is_via : Bool) (entity : Path) (steps : List Step) → bad_in_act is_via (Together entity steps) ≡ None → has_sizes (Together entity steps) ≡ true → AreFew steps
few_steps is_via entity steps good sizes =
    let keys = first_none (bad_in_whole entity steps) (bad_in_steps steps) good in
    let count = both (is_between 1 max_steps (length steps)) (are_set_once steps) (unless_none _ _ (first_none (bad_in_entity entity) (unless (is_between 1 max_steps (length steps) && are_set_once steps) (codes "operations")) keys.0).1) in
    let fits = both (nat_le (sum_by step_weight steps) max_operations) (is_none (large_steps steps)) sizes in
    let sums = first_size_none (above 262144 (sum_by step_bytes steps)) (above 262144 (sum_by state_bytes steps)) (none_is (large_steps steps) fits.1) in
    record {
      count = between_most 1 max_steps (length steps) count.0;
      good = keys.1;
      weight = leb-true (sum_by step_weight steps) max_operations fits.0;
      bytes = above_none 262144 (sum_by step_bytes steps) sums.0;
      states = above_none 262144 (sum_by state_bytes steps) sums.1;
    }

-- ---- any act

pub act_asked : (is_via : Bool) (a : Act) → takes_number a ≡ true → bad_in_act is_via a ≡ None → has_names a ≡ true → bad_described a ≡ None → has_sizes a ≡ true → has_short_id a ≡ true → IsActInOrder a → any_act.Asks a
unfolding any_act
act_asked is_via (CreateQueue name d) coded good named described sizes id_short order = (entity_name name named, description_asked Queue d described)
act_asked is_via (CreateTopic name d) coded good named described sizes id_short order = (entity_name name named, description_asked Topic d described)
act_asked is_via (CreateSubscription topic name d) coded good named described sizes id_short order =
    let names = both (is_name topic) (is_short_name name) named in (entity_name topic names.0, (short_name name names.1, description_asked Subscription d described))
act_asked is_via (CreateRule topic subscription name asked action) coded good named described sizes id_short order =
    let names = both (is_name topic && is_short_name subscription) (is_rule_name name) named in
    let places = both (is_name topic) (is_short_name subscription) names.0 in
    let fits = both (is_read (filter_of asked) && is_read (action_of action)) (is_none (large_filter asked)) sizes in
    let read = both (is_read (filter_of asked)) (is_read (action_of action)) fits.0 in
    (entity_name topic places.0, (short_name subscription places.1, (rule_name name names.1, (filter_asked asked good read.0 fits.1 order, action_asked action read.1))))
act_asked is_via (Delete entity) coded good named described sizes id_short order = path_asked entity named
act_asked is_via (DeleteRule topic subscription name) coded good named described sizes id_short order =
    let names = both (is_name topic && is_short_name subscription) (is_rule_name name) named in
    let places = both (is_name topic) (is_short_name subscription) names.0 in
    (entity_name topic places.0, (short_name subscription places.1, rule_name name names.1))
act_asked is_via (Send to messages txn) coded good named described sizes id_short order =
    let count = first_none _ _ good in
    let few = leb-true (length messages) 100 (unless_none _ _ count.0) in
    let fits = first_size_none (large_one messages) _ (none_is (large_size messages) sizes) in
    (path_asked to named, ((omega (arith, few), messages_asked is_via None messages order (first_none _ _ count.1).0 (small_each messages fits.0)), any_number txn))
act_asked is_via (Cancel from number) coded good named described sizes id_short order = (path_asked from named, tt)
act_asked is_via (Receive from mode session) coded good named described sizes id_short order = (path_asked from named, (tt, session_asked session))
act_asked is_via (ReceiveDeferred from number mode session) coded good named described sizes id_short order = (path_asked from named, (tt, (tt, session_asked session)))
act_asked is_via (Settle from w t session h txn) coded good named described sizes id_short order =
    let rest = first_none _ _ (first_none _ _ good).1 in
    (path_asked from named, (which_asked w id_short, (token_asked t, (session_asked session, (how_asked h rest.1, any_number txn)))))
act_asked is_via (Renew from w t) coded good named described sizes id_short order = (path_asked from named, (which_asked w id_short, token_asked t))
act_asked is_via (Accept from id) coded good named described sizes id_short order = (path_asked from named, optional_by_characters 128 id (omega arith) (unless_none _ _ good))
act_asked is_via (SessionRenew from session) coded good named described sizes id_short order = (path_asked from named, token_asked session)
act_asked is_via (SessionClose from session) coded good named described sizes id_short order = (path_asked from named, token_asked session)
act_asked is_via (SessionSet from session state) coded good named described sizes id_short order = (path_asked from named, (token_asked session, state_asked state (leb-true (size_of state) 262144 sizes)))
act_asked is_via (SessionState from session) coded good named described sizes id_short order = absurd cc
act_asked is_via (Begin entity) coded good named described sizes id_short order = path_asked entity named
act_asked is_via (Commit txn) coded good named described sizes id_short order = tt
act_asked is_via (Rollback txn) coded good named described sizes id_short order = tt
act_asked is_via (Together entity steps) coded good named described sizes id_short order =
    let names = both (is_address entity) (are_addressed steps) named in
    let few = few_steps is_via entity steps good sizes in
    let count = few.count in
    (path_asked entity names.0, (omega (arith, count), steps_asked None steps names.1 few.good few.bytes few.states order))
act_asked is_via (ForgetClient name) coded good named described sizes id_short order =
    let few = between_most 1 50 (length name) (unless_none _ _ good) in short_text name (omega (arith, few))
act_asked is_via (Peek from start count) coded good named described sizes id_short order = absurd cc
act_asked is_via (Counts entity) coded good named described sizes id_short order = absurd cc
act_asked is_via (Look what) coded good named described sizes id_short order = absurd cc

-- ---- events

by_asked : (a : Act) (o : Option By) → bad_in_by a o ≡ None → IfSome o by.Asks
unfolding by
by_asked a None good = tt
by_asked a (Some b) good =
    let client = both (takes_number a) (is_between 1 50 (length b.client)) (unless_none _ _ (first_none _ _ (first_none _ _ good).1).0) in
    let few = between_most 1 50 (length b.client) client.1 in
    (short_text b.client (omega (arith, few)), tt)

pub judged_asked : (is_via : Bool) (t : ℕ) (call : Call) → IsJudged is_via call → IsSpellable (Called t call)
unfolding event a_call
judged_asked is_via t call judged =
    let good = first_none _ _ judged.fields in
    (tt, (by_asked call.act call.by good.1, act_asked is_via call.act judged.coded good.0 judged.names judged.described judged.sizes judged.id judged.order))

pub tick_asked : (t : ℕ) → IsSpellable (Tick t)
unfolding event
tick_asked t = tt
