-- What messages and filters hold inside: kept by ticks, and by calls whose lists are in order.
use Rattle.std.proofs.Common.{Bool, List, None, Ok, Err, Option, Some, [], arith, false, length, nat_le, refl, subst, true, ℕ, ◌&&◌, ◌*◌, ◌+◌, ◌∷◌, ◌≡◌, ◌≤◌}
use Rattle.std.specs.Prelude.{Result, bytes_eq, codes, if◌then◌else◌, is_none, not}
use Rattle.std.specs.Option.{option_map}
use Rattle.std.specs.Str.{chars}
use Rattle.std.proofs.lemmas.Bool.Decides.{nat_tests}
use Rattle.sb_laws.proofs.Carried.{Sends}
use Rattle.sb_laws.proofs.Consistency.{first_none, lasting, passed, then_none}
use Rattle.sb_laws.proofs.Core.{Fields, IsCore, Lists, core_tick, core_way}
use Rattle.sb_laws.proofs.Lists.{found_passes}
use Rattle.sb_laws.proofs.DefaultRule.{default_fits}
use Rattle.sb_laws.proofs.Eachs.{each_filter, each_implied, each_inserted}
use Rattle.sb_laws.proofs.Keeping.{lasts_fields}
use Rattle.sb_laws.proofs.Messages.{bytes_few, changed_fits, cut_fits, for_reason_fits, fits_in_order, reasons_fit}
use Rattle.sb_laws.proofs.Outcomes.{Comes, comes, comes_acted}
use Rattle.sb_laws.proofs.Running.{act_keeps_ordered}
use Rattle.sb_laws.proofs.Ruling.{rule_added_fits, rule_dropped_fits}
use Rattle.sb_laws.proofs.Shapes.{arrives_sending, plain_lists, plain_travels}
use Rattle.sb_laws.proofs.Visiting.{Travels}
use Rattle.sb_laws.specs.Plain.{IsRuled}
use Rattle.sb_machine.specs.Acts.{is_via_in}
use Rattle.sb_machine.specs.Administration.{action_of, conditions_size, filter_of, large_filter, read_as, are_rule_names}
use Rattle.sb_machine.specs.Answers.{is_change, keeping, state_in, state_of}
use Rattle.sb_machine.specs.Changes.{after_all, max_number, rule_added, rule_dropped}
use Rattle.sb_machine.specs.Descriptions.{bad_in_description, has_rules}
use Rattle.sb_machine.specs.Each.{Each, IfSome, is_read}
use Rattle.sb_machine.specs.Fields.{are_properties, bad_in_act, bad_in_conditions, bad_in_filter, bad_in_message, bad_in_messages, bad_in_texts, first_some, is_between_or_none, is_property_name, is_short, max_messages, max_ttl, unless}
use Rattle.sb_machine.specs.Due.{tick_changes}
use Rattle.sb_machine.specs.Fit.{IsFilter, IsListed, IsMessage, IsRule, is_kind}
use Rattle.sb_machine.specs.Messages.{above, first_size, large_in, large_one, large_size, large_together, max_body}
use Rattle.sb_machine.specs.Names.{is_before, is_name, is_rule_name, is_same_entity, is_same_option, is_short_name}
use Rattle.sb_machine.specs.Namespace.{entity_at, subscription_path}
use Rattle.sb_machine.specs.Ordered.{IsActInOrder, IsFilterInOrder, asked_of}
use Rattle.sb_machine.specs.Repeats.{Outcome, acted, client_of, forgot, outcome_of, refused, repeated}
use Rattle.sb_machine.specs.Sending.{too_large}
use Rattle.sb_machine.specs.declared.call.Act.{Act}
use Rattle.sb_machine.specs.declared.call.Act.TheVariants.{CreateRule, Send}
use Rattle.sb_machine.specs.declared.call.Call.{Call}
use Rattle.sb_machine.specs.declared.call.Description.{Description}
use Rattle.sb_machine.specs.declared.call.FilterText.{FilterText}
use Rattle.sb_machine.specs.declared.call.FilterText.TheVariants.{Correlation, Sql}
use Rattle.sb_machine.specs.declared.call.Path.{Path}
use Rattle.sb_machine.specs.declared.reply.Refusal.TheVariants.{TooLarge}
use Rattle.sb_machine.specs.declared.rule.Rule.{Rule}
use Rattle.sb_machine.specs.declared.rule.RuleFilter.{RuleFilter}
use Rattle.sb_machine.specs.declared.rule.RuleFilter.TheVariants.{Sql as KeptSql, Correlation as KeptCorrelation}
use Rattle.sb_machine.specs.declared.state.Entity.{Entity}
use Rattle.sb_machine.specs.declared.state.EntityKind.{EntityKind}
use Rattle.sb_machine.specs.declared.state.EntityKind.TheVariants.{Queue, Subscription, Topic}
use Rattle.sb_machine.specs.declared.state.Listed.{Listed}
use Rattle.sb_machine.specs.declared.state.Space.{Space}
use Rattle.sb_machine.specs.declared.state.State.{State}
use Rattle.sb_model.specs.Effects.{max_property_bytes, max_user_properties, property_bytes}
use Rattle.sb_model.specs.Expressions.{Change as Step, Term}
use Rattle.sb_model.specs.Orders.{IsInOrder}
use Rattle.std.specs.List.{list_all}
use Rattle.std.specs.Prelude.{◌≢◌}
use Rattle.sb_laws.proofs.Messages.{both}
use Rattle.sb_model.specs.Texts.{action_in, filter_in}
use Rattle.sb_model.specs.declared.message.Message.{Message}
use Rattle.sb_model.specs.declared.message.Property.{Property}
use Rattle.sb_model.specs.declared.message.SystemText.{SystemText}

-- ---- messages that are kept

-- as a copy may hold it
abbrev pub IsStill : Message → Type 0
IsStill m = IsMessage m × (m.schedule ≡ None)

described_range : (kind : EntityKind) (d : Description) → bad_in_description kind d ≡ None → is_between_or_none 1 max_ttl d.ttl ≡ true
described_range kind d e = (then_none _ _ _ (then_none _ _ _ e).1).0

pub contents_travel : Travels IsStill IsListed IsRule
contents_travel = record {
  cut = λ e m g p. (cut_fits e m (described_range e.kind e.description g.described) p.0, p.1);
  dead = λ reason m p. (for_reason_fits reason m p.0, p.1);
  rules = λ e g. g.rules;
  acted = λ r m is p. (changed_fits r m is.name p.0, (plain_travels.acted r m tt (lasting m.ttl p.0.ttl, p.1)).1);
}

text_short : (o : Option (List ℕ)) → is_short 4096 o ≡ true → IfSome o (λ text. length text ≤ max_property_bytes)
text_short None e = tt
text_short (Some text) e = let few = bytes_few text in by (length (chars text)) few e where
  by : (n : ℕ) → length text ≤ 4 * n + 4 → nat_le n 4096 ≡ true → length text ≤ max_property_bytes
  by n few e = grind (arith, nat_tests)

pub contents_sending : Sends IsStill IsMessage
contents_sending = record {
  enters = λ m p. (record { sys = p.sys; texts = p.texts; props = p.props; own = p.own; fields = p.fields; many = p.many; size = p.size; body = p.body; ttl = p.ttl }, refl);
  reasons = λ reason description good m p.
      let first = then_none (is_short 4096 reason) (codes "reason") (unless (is_short 4096 description) (codes "description")) good in
      (reasons_fit reason description m (text_short reason first.0) (text_short description (passed (is_short 4096 description) (codes "description") first.1)) p.0, (arrives_sending.reasons reason description good m (lasting m.ttl p.0.ttl, p.1)).1);
}

-- ---- what is listed

pub contents_lists : Lists IsListed
contents_lists = record {
  made_entity = λ kind name d number bare named good. let plain = plain_lists.made_entity kind name d number bare named good in
      record { address = plain.address; whole = plain.whole; kind = plain.kind; described = plain.described; order = tt; rules = tt; none = λ none. refl };
  made_subscription = λ topic name d number named short good. let plain = plain_lists.made_subscription topic name d number named short good in
      record { address = plain.address; whole = plain.whole; kind = plain.kind; described = plain.described; order = (tt, tt); rules = (default_fits, tt); none = λ bare. absurd cc };
}

-- ---- what a call brings

sizes_none : (a b : Option ℕ) → first_size a b ≡ None → (a ≡ None) × (b ≡ None)
sizes_none None b e = (refl, e)
sizes_none (Some n) b e = absurd cc

not_above : (most size : ℕ) → above most size ≡ None → size ≤ most
not_above most size e = at (nat_le size most) refl e where
  at : (b : Bool) → nat_le size most ≡ b → (if b then None else Some size) ≡ None → size ≤ most
  at true is e = grind (arith, nat_tests)
  at false is e = absurd cc

-- texts, properties and their bytes within the limits, in order
conditions_fit : (m : Message) → bad_in_conditions m.sys m.props ≡ None → IsInOrder m → property_bytes m ≤ max_property_bytes → length m.body ≤ max_body → is_between_or_none 1 max_ttl m.ttl ≡ true → IsMessage m
conditions_fit m good order small body ttl =
    let parts = first_none (bad_in_texts m.sys) (unless (are_properties m.props) (codes "props")) good in
    let few : length m.props ≤ max_user_properties = many (passed (are_properties m.props) (codes "props") parts.1) in
    fits_in_order m order parts.0 small few body ttl
  where
    many : are_properties m.props ≡ true → length m.props ≤ max_user_properties
    many e = by (list_all (λ p. is_property_name p.name) m.props) e where
      by : (a : Bool) → (a && nat_le (length m.props) max_user_properties) ≡ true → length m.props ≤ max_user_properties
      by true e = grind (arith, nat_tests)
      by false e = absurd cc

message_fits : (is_via : Bool) (m : Message) → bad_in_message is_via m ≡ None → IsInOrder m → large_in m ≡ None → IsMessage m
message_fits is_via m good order small =
    let parts = first_none (bad_in_conditions m.sys m.props) _ good in
    let sizes = sizes_none (above max_body (length m.body)) (above max_property_bytes (property_bytes m)) small in
    conditions_fit m parts.0 order (not_above max_property_bytes (property_bytes m) sizes.1) (not_above max_body (length m.body) sizes.0) (then_none _ _ _ parts.1).0

messages_fit : (is_via : Bool) (ms : List Message) → bad_in_messages is_via ms ≡ None → Each IsInOrder ms → large_one ms ≡ None → Each IsMessage ms
messages_fit is_via [] good order small = tt
messages_fit is_via (m ∷ ms) good order small =
    let parts = first_none (bad_in_message is_via m) (bad_in_messages is_via ms) good in
    let sizes = sizes_none (large_in m) (large_one ms) small in
    (message_fits is_via m parts.0 order.0 sizes.0, messages_fit is_via ms parts.1 order.1 sizes.1)

none_large : (ms : List Message) → too_large ms ≡ None → large_one ms ≡ None
none_large ms e = (sizes_none (large_one ms) (large_together ms) (by (large_size ms) e)).0 where
  by : (o : Option ℕ) → option_map (λ size. TooLarge size) o ≡ None → o ≡ None
  by None e = refl
  by (Some n) e = absurd cc

-- a filter that is asked for is kept as one that can be read, or that asks for something
filter_fits : (asked : FilterText) (f : RuleFilter) → bad_in_filter asked ≡ None → IsFilterInOrder asked → filter_of asked ≡ Ok f → large_filter asked ≡ None → IsFilter f
filter_fits (Sql text) f good order is small = at (filter_in text) refl is where
  at : (r : Result Term ℕ) → filter_in text ≡ r → read_as (KeptSql text) r ≡ Ok f → IsFilter f
  at (Ok x) here e = let same : ◌≡◌ {A = RuleFilter} (KeptSql text) f = cc in subst IsFilter same (rw here refl)
  at (Err place) here e = absurd cc
filter_fits (Correlation c) f good order is small = let found = some c.sys c.props is in subst IsFilter found.0 (found.1, message) where
  some : (sys : List SystemText) (props : List Property) → ◌≡◌ {A = Result RuleFilter ℕ} (elim sys [ x ∷ xs ↦ Ok (KeptCorrelation c) | [] ↦ elim props [ p ∷ ps ↦ Ok (KeptCorrelation c) | [] ↦ Err 0 ] ]) (Ok f) → ◌≡◌ {A = RuleFilter} (KeptCorrelation c) f × (length sys + length props ≢ 0)
  some (x ∷ xs) props e = (cc, (λ none. absurd (omega (arith, none))))
  some [] (p ∷ ps) e = (cc, (λ none. absurd (omega (arith, none))))
  some [] [] e = absurd cc

  bytes : (o : Option ℕ) → option_map (λ size. TooLarge size) o ≡ None → o ≡ None
  bytes None e = refl
  bytes (Some n) e = absurd cc

  message : IsMessage (asked_of c)
  message = conditions_fit (asked_of c) good order (not_above max_property_bytes (property_bytes (asked_of c)) (bytes (above max_property_bytes (conditions_size (Correlation c))) small)) (omega arith) refl

action_reads : (action a : Option (List ℕ)) → action_of action ≡ Ok a → IfSome a (λ text. is_read (action_in text) ≡ true)
action_reads None a e = let same : ◌≡◌ {A = Option (List ℕ)} None a = cc in subst (λ (o : Option (List ℕ)). IfSome o (λ text. is_read (action_in text) ≡ true)) same tt
action_reads (Some text) a e = at (action_in text) refl e where
  at : (r : Result (List Step) ℕ) → action_in text ≡ r → read_as (Some text) r ≡ Ok a → IfSome a (λ text. is_read (action_in text) ≡ true)
  at (Ok x) here e = let same : ◌≡◌ {A = Option (List ℕ)} (Some text) a = cc in subst (λ (o : Option (List ℕ)). IfSome o (λ text. is_read (action_in text) ≡ true)) same (rw here refl)
  at (Err place) here e = absurd cc

rules_of : (about : Listed) → IsListed about → IsRuled about
rules_of about h = record { order = h.order; names = each_implied IsRule (λ r. is_rule_name r.name ≡ true) (λ r is. is.name) about.rules h.rules; none = h.none }

listed_with : (about : Listed) (rules : List Rule) → IsListed about → IsRuled (record about { rules = rules }) → Each IsRule rules → IsListed (record about { rules = rules })
listed_with about rules h ruled fits = record { address = h.address; whole = h.whole; kind = h.kind; described = h.described; order = ruled.order; rules = fits; none = ruled.none }

pub contents_fields : (s : Space) (is_via : Bool) (act : Act) → bad_in_act is_via act ≡ None → IsActInOrder act → Fields IsStill IsListed IsMessage s act
contents_fields s is_via act good order = let fits = lasts_fields s is_via act good in record {
  messages = λ to ms txn is small. of_send to ms txn (subst (λ (a : Act). bad_in_act is_via a ≡ None) is good) (subst IsActInOrder is order) small;
  how = fits.how;
  rule = λ topic subscription name asked_for action is e f a named there new f_is a_is small g.
      let rule : Rule = record { name = name; filter = f; action = a } in
      let fresh_rule : IsRule rule = record { name = of_names topic subscription name named; asked = of_rule topic subscription name asked_for action (subst (λ (x : Act). bad_in_act is_via x ≡ None) is good) (subst IsActInOrder is order) f f_is small; action = action_reads action a a_is } in
      listed_with e.about (rule_added rule e.about.rules) g
      (rule_added_fits rule e new fresh_rule.name (kind_of topic subscription e there g) (rules_of e.about g))
      (each_inserted IsRule (λ x. is_before x.name name) rule e.about.rules fresh_rule g.rules);
  no_rule = λ e name g. listed_with e.about (rule_dropped name e.about.rules) g (rule_dropped_fits name e (rules_of e.about g)) (each_filter IsRule (λ x. not (bytes_eq x.name name)) e.about.rules g.rules);
} where
  of_send : (to : Path) (ms : List Message) (txn : Option ℕ) → bad_in_act is_via (Send to ms txn) ≡ None → IsActInOrder (Send to ms txn) → too_large ms ≡ None → Each IsMessage ms
  of_send to ms txn good order small =
      let rest = (then_none (nat_le (length ms) max_messages) (codes "messages") (first_some (bad_in_messages is_via ms) (unless (is_between_or_none 1 max_number txn) (codes "txn"))) good).1 in
      messages_fit is_via ms (first_none (bad_in_messages is_via ms) (unless (is_between_or_none 1 max_number txn) (codes "txn")) rest).0 order (none_large ms small)

  of_names : (topic subscription name : List ℕ) → are_rule_names topic subscription name ≡ true → is_rule_name name ≡ true
  of_names topic subscription name e = (both (is_name topic && is_short_name subscription) (is_rule_name name) e).1

  of_rule : (topic subscription name : List ℕ) (asked : FilterText) (action : Option (List ℕ)) → bad_in_act is_via (CreateRule topic subscription name asked action) ≡ None → IsActInOrder (CreateRule topic subscription name asked action) → (f : RuleFilter) → filter_of asked ≡ Ok f → large_filter asked ≡ None → IsFilter f
  of_rule topic subscription name asked action good order f f_is small = filter_fits asked f good order f_is small

  absent : (o : Option (List ℕ)) (name : List ℕ) → is_same_option o (Some name) ≡ true → is_none o ≡ true → ⊥
  absent None name same e = absurd cc
  absent (Some n) name same e = absurd cc

  -- what is found under a subscription's address is a subscription
  kind_of : (topic subscription : List ℕ) (e : Entity) → entity_at (subscription_path topic subscription) s ≡ Some e → IsListed e.about → has_rules e.about.kind ≡ true
  kind_of topic subscription e there g = at e.about.kind e.about.path (found_passes (λ x. is_same_entity x.about.path (subscription_path topic subscription)) e s.entities there) g.kind where
    at : (kind : EntityKind) (path : Path) → is_same_entity path (subscription_path topic subscription) ≡ true → is_kind kind path ≡ true → has_rules kind ≡ true
    at Subscription path same kind = refl
    at Queue path same kind = absurd (absent path.subscription subscription (both (bytes_eq path.name topic) (is_same_option path.subscription (Some subscription)) same).1 kind)
    at Topic path same kind = absurd (absent path.subscription subscription (both (bytes_eq path.name topic) (is_same_option path.subscription (Some subscription)) same).1 kind)

-- ---- kept

abbrev pub ContentsCore : Space → Type 0
ContentsCore s = IsCore contents_travel contents_sending contents_lists s

pub contents_call : (s : State) (t : ℕ) (call : Call) → IsActInOrder call.act → ContentsCore s.space → ContentsCore (state_of s t call).space
contents_call s t call order h = by (outcome_of s t call) (comes s t call) where
  by : (o : Outcome) → Comes s t call o → ContentsCore (state_in s t call o).space
  by (refused r) is = h
  by (repeated reply) is = h
  by (forgot name) is = h
  by (acted reply cs) (comes_acted newer fits) = go (is_change (client_of call) (acted reply cs)) where
    changed_so : ContentsCore (after_all t cs s.space)
    changed_so = act_keeps_ordered s.space t call.by call.act reply cs fits ContentsCore order (λ now a r ds in_order good numbers way core. core_way contents_travel contents_sending contents_lists t now core a r ds (contents_fields now (is_via_in now a) a good in_order) way) h

    go : (b : Bool) → ContentsCore (if b then record { now = t; clients = keeping (client_of call) call.act reply s.clients; space = after_all t cs s.space } else s).space
    go true = changed_so
    go false = h

pub contents_tick : (t : ℕ) (s : Space) → ContentsCore s → ContentsCore (after_all t (tick_changes t s) s)
contents_tick t s h = core_tick contents_travel contents_sending contents_lists t s h
