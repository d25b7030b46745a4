-- Entities without their parts: what they are, their rules, and the ids that they have accepted.
use Rattle.std.specs.Prelude.{ℕ, List, [], ◌∷◌, Bool, true, nat_lt, Option, Some, None}
use Rattle.sb_model.specs.Texts.{filter_in, action_in}
use Rattle.sb_machine.specs.Changes.{is_earlier}
use Rattle.sb_machine.specs.Each.{is_read}
use Rattle.sb_machine.specs.Names.{is_before}
use Rattle.sb_machine.specs.declared.rule.Rule.{Rule}
use Rattle.sb_machine.specs.declared.rule.RuleFilter.{RuleFilter}
use Rattle.sb_machine.specs.declared.rule.RuleFilter.TheVariants.{Sql, Correlation}
use Rattle.sb_machine.specs.declared.state.AcceptedId.{AcceptedId}
use Rattle.sb_machine.specs.declared.state.EntityKind.{EntityKind}
use Rattle.sb_machine.specs.declared.state.EntityKind.TheVariants.{Queue, Topic, Subscription}
use Rattle.sb_machine.specs.declared.state.Listed.{Listed}
use Rattle.sb_codec.specs.Forms.{Form, number64, tested, text, ◌then◌, shaped, optional, coded, Row, row, Case, of, Choice, no_row, ◌or◌, variants}
use Rattle.sb_codec.specs.Messages.{conditions}
use Rattle.sb_codec.specs.Pieces.{path, description}
use Rattle.sb_snapshot.specs.Lists.{listed64}
use Rattle.sb_snapshot.specs.declared.parts.EntityHead.{EntityHead}

-- the kinds of entities, as one byte
abbrev pub kind_code : EntityKind → ℕ
kind_code Queue = 0
kind_code Topic = 1
kind_code Subscription = 2

-- the form of kinds
abbrev pub kind : Form EntityKind
kind = coded kind_code (Queue ∷ Topic ∷ Subscription ∷ [])

-- ---- rules

-- a text that a filter can be read from
abbrev pub filter_words : Form (List ℕ)
filter_words = tested (λ t. is_read (filter_in t)) text

-- a text that an action can be read from
abbrev pub action_words : Form (List ℕ)
action_words = tested (λ t. is_read (action_in t)) text

-- a filter of each kind
abbrev pub sql : Row RuleFilter
sql = row 0 filter_words (λ t. Sql t)

abbrev pub correlation : Row RuleFilter
correlation = row 1 conditions (λ c. Correlation c)

-- which messages a rule is for, as code and bytes
abbrev pub filter_case : RuleFilter → Case
filter_case (Sql t) = of sql t
filter_case (Correlation c) = of correlation c

-- what is read behind each code
abbrev pub filter_choice : Choice RuleFilter
filter_choice = sql or correlation or no_row

-- the form of which messages a rule is for
unfoldable pub filter : Form RuleFilter
filter = variants filter_case filter_choice

-- a rule: its name, its filter, and what it changes in a message
unfoldable pub rule : Form Rule
rule = shaped (λ x. record { name = x.0; filter = x.1.0; action = x.1.1 }) (λ r. (r.name, (r.filter, r.action))) (text then filter then optional action_words)

-- names rise in byte order
abbrev pub is_next_rule : Option Rule → Rule → Bool
is_next_rule None r = true
is_next_rule (Some last) r = is_before last.name r.name

-- ---- accepted ids

-- the moment at which an id was accepted, and the id
unfoldable pub accepted : Form AcceptedId
accepted = shaped (λ x. record { moment = x.0; id = x.1 }) (λ a. (a.moment, a.id)) (number64 then text)

-- by moment, then id in byte order
abbrev pub is_next_id : Option AcceptedId → AcceptedId → Bool
is_next_id None a = true
is_next_id (Some last) a = is_earlier a.moment a.id last

-- ---- entities

-- what is listed of an entity: its number, kind, address, description and rules
unfoldable pub about : Form Listed
about =
    shaped (λ x. record { number = x.0; kind = x.1.0; path = x.1.1.0; description = x.1.1.1.0; rules = x.1.1.1.1 })
    (λ l. (l.number, (l.kind, (l.path, (l.description, l.rules)))))
    (number64 then kind then path then description then listed64 is_next_rule rule)

-- the same, and the ids that were accepted under its window
unfoldable pub head : Form EntityHead
head = shaped (λ x. record { about = x.0; ids = x.1 }) (λ e. (e.about, e.ids)) (about then listed64 is_next_id accepted)

-- numbers rise
abbrev pub is_next_head : Option EntityHead → EntityHead → Bool
is_next_head None e = true
is_next_head (Some last) e = nat_lt last.about.number e.about.number
