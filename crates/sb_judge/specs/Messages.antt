-- Messages as a state keeps them.
use Rattle.std.specs.Prelude.{◌≡◌, ℕ, ◌+◌, ◌-◌, ◌<◌, ◌≤◌, nat_lt, nat_le, not, true, length, filter, sum_by, List, Option, Some, None, if◌then◌else◌}
use Rattle.sb_machine.specs.Each.{Each, IsSorted}
use Rattle.sb_machine.specs.Fields.{max_ttl, bad_in_texts, is_between_or_none}
use Rattle.sb_machine.specs.Fit.{IsMessage, is_set_aside}
use Rattle.sb_machine.specs.Messages.{max_body}
use Rattle.sb_machine.specs.Names.{is_before}
use Rattle.sb_model.specs.Effects.{property_size, text_size, value_size, max_property_bytes, max_user_properties}
use Rattle.sb_model.specs.SystemNames.{system_code}
use Rattle.sb_model.specs.declared.message.Message.{Message}
use Rattle.sb_model.specs.declared.message.Property.{Property}
use Rattle.sb_model.specs.declared.message.SystemText.{SystemText}
use Rattle.sb_judge.specs.Verdicts.{Verdict, passes, at_most, below, absent, said_as, ◌&◌, where_passes, each, pairs}

-- the test that system texts stand by code
unfoldable pub texts_order : (sys : List SystemText) → Verdict (IsSorted (λ a b. nat_lt (system_code a.name) (system_code b.name)) sys)
texts_order sys = pairs sys (λ a b. passes (nat_lt (system_code a.name) (system_code b.name)))

-- the test that user properties stand by name
unfoldable pub properties_order : (props : List Property) → Verdict (IsSorted (λ a b. is_before a.name b.name) props)
properties_order props = pairs props (λ a b. passes (is_before a.name b.name))

-- user properties but for those that the service itself sets
abbrev pub others : List Property → List Property
others props = filter (λ p. not (is_set_aside p)) props

-- what is left of a number of bytes behind others, where it has so many
abbrev pub less : ℕ → ℕ → Option ℕ
less left taken = if nat_le taken left then Some (left - taken) else None

-- what holds of the properties of a message that is kept
abbrev pub KeptParts : List SystemText → List Property → Type 0
KeptParts sys props =
    IsSorted (λ a b. nat_lt (system_code a.name) (system_code b.name)) sys
    × (Each (λ s. 0 < length s.text) sys
    × (IsSorted (λ a b. is_before a.name b.name) props
    × (Each (λ p. is_set_aside p ≡ true → value_size p.value ≤ max_property_bytes) props
    × ((bad_in_texts sys ≡ None)
    × ((length (others props) ≤ max_user_properties)
    × (sum_by property_size (others props) + sum_by text_size sys ≤ max_property_bytes))))))

-- the test of these
unfoldable pub parts_verdict : (sys : List SystemText) → (props : List Property) → Verdict (KeptParts sys props)
parts_verdict sys props =
    texts_order sys
    & each sys (λ s. below 0 (length s.text))
    & properties_order props
    & each props (λ p. where_passes (is_set_aside p) (at_most (value_size p.value) max_property_bytes))
    & absent (bad_in_texts sys)
    & at_most (length (others props)) max_user_properties
    & at_most (sum_by property_size (others props) + sum_by text_size sys) max_property_bytes

-- the test of a message that is kept
unfoldable pub message_verdict : (m : Message) → Verdict (IsMessage m)
message_verdict m = said_as
    (parts_verdict m.sys m.props & at_most (length m.body) max_body & passes (is_between_or_none 1 max_ttl m.ttl))
    (λ p. record { sys = p.0.0; texts = p.0.1.0; props = p.0.1.1.0; own = p.0.1.1.1.0; fields = p.0.1.1.1.1.0; many = p.0.1.1.1.1.1.0; size = p.0.1.1.1.1.1.1; body = p.1.0; ttl = p.1.1 })
    (λ r. ((r.sys, (r.texts, (r.props, (r.own, (r.fields, (r.many, r.size)))))), (r.body, r.ttl)))
