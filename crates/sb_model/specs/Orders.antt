-- How the properties of a message stand, and that actions keep it.
use Rattle.std.specs.Prelude.{◌≡◌, Bool, true, false, nat_lt, List, [], ◌∷◌, length, Ok}
use Rattle.std.specs.List.{list_all}
use Rattle.std.specs.Ordering.{nat_cmp, is_lt}
use Rattle.std.specs.Cmp.Lexicographic.{slice_cmp}
use Rattle.sb_model.specs.declared.message.Message.{Message}
use Rattle.sb_model.specs.declared.message.Property.{Property}
use Rattle.sb_model.specs.declared.message.SystemText.{SystemText}
use Rattle.sb_model.specs.Expressions.{Change}
use Rattle.sb_model.specs.SystemNames.{system_code}
use Rattle.sb_model.specs.Effects.{after_action, is_too_large}

-- each stands before all that follow it
abbrev pub AreRising : {X : Type 0} → (X → X → Bool) → List X → Type 0
AreRising before [] = Unit {0}
AreRising before (x ∷ xs) = (list_all (before x) xs ≡ true) × AreRising before xs

-- whether a property's name comes before another's, in byte order
abbrev pub name_before : Property → Property → Bool
name_before p q = is_lt (slice_cmp nat_cmp p.name q.name)

-- whether a system text's code comes before another's
abbrev pub code_before : SystemText → SystemText → Bool
code_before s t = nat_lt (system_code s.name) (system_code t.name)

-- whether a system text isn't empty
abbrev pub is_set : SystemText → Bool
is_set s = nat_lt 0 (length s.text)

-- user properties by name in byte order, system texts by code, none twice and no text empty
pub record IsInOrder (m : Message) : Type 0 where
  pub props : AreRising name_before m.props
  pub sys : AreRising code_before m.sys
  pub set : list_all is_set m.sys ≡ true

-- only properties change, their order stays
pub record IsChanged (before after : Message) : Type 0 where
  pub order : IsInOrder before → IsInOrder after
  pub body : after.body ≡ before.body
  pub ttl : after.ttl ≡ before.ttl
  pub schedule : after.schedule ≡ before.schedule

-- whatever an action is, what it leaves is such a change, within the limits
abbrev pub ActionsKeepMessages : Type 0
ActionsKeepMessages = (m n : Message) (changes : List Change) → after_action m changes ≡ Ok n → IsChanged m n × (is_too_large n ≡ false)
