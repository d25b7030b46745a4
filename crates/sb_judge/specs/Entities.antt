-- An entity: its description, its rules, the ids that it accepted, its parts.
use Rattle.std.specs.Prelude.{◌≡◌, Bool, true, nat_lt, ◌∷◌, ℕ, ◌<◌, ◌+◌, ◌*◌, length, List, [], Option, Some, None, is_some}
use Rattle.std.specs.List.{list_all}
use Rattle.sb_machine.specs.Changes.{is_earlier}
use Rattle.sb_machine.specs.Descriptions.{bad_in_description, has_rules}
use Rattle.sb_machine.specs.Each.{IfSome, IsSorted, Pairs, is_read, is_topic_at}
use Rattle.sb_machine.specs.Fields.{is_id}
use Rattle.sb_machine.specs.Fit.{IsFilter, IsRule, IsListed, AreIds, IsEntity, HasTopic, is_kind}
use Rattle.sb_machine.specs.Names.{is_address, is_rule_name, is_main, is_before}
use Rattle.sb_machine.specs.Namespace.{entity_path, entity_at}
use Rattle.sb_machine.specs.declared.rule.Rule.{Rule}
use Rattle.sb_machine.specs.declared.rule.RuleFilter.{RuleFilter}
use Rattle.sb_machine.specs.declared.rule.RuleFilter.TheVariants.{Sql, Correlation}
use Rattle.sb_machine.specs.declared.state.AcceptedId.{AcceptedId}
use Rattle.sb_machine.specs.declared.state.Entity.{Entity}
use Rattle.sb_machine.specs.declared.state.Listed.{Listed}
use Rattle.sb_machine.specs.declared.state.Space.{Space}
use Rattle.sb_model.specs.Texts.{filter_in, action_in}
use Rattle.sb_judge.specs.Copies.{leaf_verdict}
use Rattle.sb_judge.specs.Messages.{message_verdict}
use Rattle.sb_judge.specs.Verdicts.{Verdict, passes, at_most, below, differ, absent, vacant, said_as, ◌&◌, where_passes, where_fails, if_some, each, pairs}

-- the test that rules stand by name
unfoldable pub rules_order : (rules : List Rule) → Verdict (IsSorted (λ a b. is_before a.name b.name) rules)
rules_order rules = pairs rules (λ a b. passes (is_before a.name b.name))

-- the test that accepted ids stand by moment, then id
unfoldable pub ids_order : (ids : List AcceptedId) → Verdict (IsSorted (λ a b. is_earlier b.moment b.id a) ids)
ids_order ids = pairs ids (λ a b. passes (is_earlier b.moment b.id a))

-- the test that no two of them lie further apart than a window, in s
unfoldable pub ids_near : (window : ℕ) → (ids : List AcceptedId) → Verdict (Pairs (λ a b. b.moment < a.moment + 1000 * window) ids)
ids_near window ids = pairs ids (λ a b. below b.moment (a.moment + 1000 * window))

-- whether all behind the first are near to it
abbrev pub are_near_first : ℕ → List AcceptedId → Bool
are_near_first window [] = true
are_near_first window (x ∷ xs) = list_all (λ a. nat_lt a.moment (x.moment + 1000 * window)) xs

-- the test of a filter
unfoldable pub filter_verdict : (f : RuleFilter) → Verdict (IsFilter f)
filter_verdict (Sql text) = passes (is_read (filter_in text))
filter_verdict (Correlation c) = differ (length c.sys + length c.props) 0 & message_verdict (record { body = []; sys = c.sys; props = c.props; ttl = None; schedule = None })

-- the test of an action
unfoldable pub action_verdict : (action : Option (List ℕ)) → Verdict (IfSome action (λ text. is_read (action_in text) ≡ true))
action_verdict action = if_some action (λ text. passes (is_read (action_in text)))

-- the test of a rule
unfoldable pub rule_verdict : (r : Rule) → Verdict (IsRule r)
rule_verdict r = said_as
    (passes (is_rule_name r.name) & filter_verdict r.filter & action_verdict r.action)
    (λ p. record { name = p.0; asked = p.1.0; action = p.1.1 })
    (λ x. (x.name, (x.asked, x.action)))

-- the test of what is listed of an entity
unfoldable pub listed_verdict : (about : Listed) → Verdict (IsListed about)
listed_verdict about = said_as
    (
    passes (is_address about.path)
    & passes (is_main about.path.part)
    & passes (is_kind about.kind about.path)
    & absent (bad_in_description about.kind about.description)
    & rules_order about.rules
    & each about.rules rule_verdict
    & where_fails (has_rules about.kind) (vacant about.rules)
    )
    (λ p. record { address = p.0; whole = p.1.0; kind = p.1.1.0; described = p.1.1.1.0; order = p.1.1.1.1.0; rules = p.1.1.1.1.1.0; none = p.1.1.1.1.1.1 })
    (λ r. (r.address, (r.whole, (r.kind, (r.described, (r.order, (r.rules, r.none)))))))

-- the test of the ids that were accepted under a window
unfoldable pub window_verdict : (now window : ℕ) → (ids : List AcceptedId) → Verdict (AreIds now (Some window) ids)
window_verdict now window ids = said_as
    (
    ids_order ids
    & each ids (λ a. at_most a.moment now)
    & ids_near window ids
    )
    (λ p. (p.0, p.1.0, p.1.1))
    (λ r. (r.0, (r.1, r.2)))

-- the test of the ids that were accepted, under a window or none
abbrev pub ids_verdict : (now : ℕ) → (window : Option ℕ) → (ids : List AcceptedId) → Verdict (AreIds now window ids)
ids_verdict now None ids = vacant ids
ids_verdict now (Some window) ids = window_verdict now window ids

-- the test of an entity
unfoldable pub entity_verdict : (now : ℕ) → (e : Entity) → Verdict (IsEntity now e)
entity_verdict now e = said_as
    (
    listed_verdict e.about
    & ids_verdict now e.about.description.window e.ids
    & each e.ids (λ a. passes (is_id a.id))
    & leaf_verdict now e.main
    & leaf_verdict now e.dead
    & leaf_verdict now e.transfer
    )
    (λ p. record { about = p.0; ids = p.1.0; short_ids = p.1.1.0; main = p.1.1.1.0; dead = p.1.1.1.1.0; transfer = p.1.1.1.1.1 })
    (λ r. (r.about, (r.ids, (r.short_ids, (r.main, (r.dead, r.transfer))))))

-- the test of a subscription's topic
unfoldable pub topic_verdict : (s : Space) → (e : Entity) → Verdict (HasTopic s e)
topic_verdict s e = where_passes (is_some e.about.path.subscription) (passes (is_topic_at (entity_at (entity_path e.about.path.name) s)))

-- the numbers of entities rise
abbrev pub AreNumbered : List Entity → Type 0
AreNumbered es = Pairs (λ a b. a.about.number < b.about.number) es
