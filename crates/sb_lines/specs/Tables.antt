-- A field of an object, or fields in their order: which keys they take, and what stands there, or the first key at fault.
use Rattle.std.specs.Prelude.{ℕ, List, Bool, false, ◌||◌, bytes_eq, Option, Some, None, Result, Ok, Err}
use Rattle.serde_json.specs.Data.{Data}
use Rattle.serde_json.specs.Find.{get, as_bool}
use Rattle.sb_machine.specs.declared.call.Mode.{Mode}
use Rattle.sb_machine.specs.declared.call.Mode.TheVariants.{Lock}
use Rattle.sb_machine.specs.declared.call.Path.{Path}
use Rattle.sb_machine.specs.declared.call.Token.{Token}
use Rattle.sb_lines.specs.declared.fault.KeyFault.{KeyFault}
use Rattle.sb_lines.specs.declared.form.Form.{Form}
use Rattle.sb_lines.specs.declared.form.Form.TheVariants.{Plain}
use Rattle.sb_lines.specs.declared.table.Either.{Either}
use Rattle.sb_lines.specs.declared.table.Either.TheVariants.{First, Second}
use Rattle.sb_lines.specs.Faults.{bad_key, or_key, none_or_key, then_by}
use Rattle.sb_lines.specs.Fields.{text_at, whole_in, whole_at, number_at, name_at, path_at, entity_at, token_at, mode_in, form_in, wait_in, hex_at, or_default, unknown_key}

-- which keys a field takes, and what it reads
pub record Field (A : Type 0) : Type 0 where
  pub knows : List ℕ → Bool
  pub reads : Data → Result A KeyFault

-- ---- one key

-- the key has to stand, and what stands there has to be so
abbrev pub at_key : {A : Type 0} → List ℕ → (List ℕ → Data → Option A) → Field A
at_key key finds = record { knows = λ k. bytes_eq k key; reads = λ d. or_key key (finds key d) }

-- a text at a key
abbrev pub text : List ℕ → Field (List ℕ)
text key = at_key key text_at

-- a name at a key
abbrev pub name : List ℕ → Field (List ℕ)
name key = at_key key name_at

-- an address at a key
abbrev pub address : List ℕ → Field Path
address key = at_key key path_at

-- an address at a key that names no part
abbrev pub entity : List ℕ → Field Path
entity key = at_key key entity_at

-- a lock token at a key
abbrev pub token : List ℕ → Field Token
token key = at_key key token_at

-- a whole number at a key
abbrev pub whole : List ℕ → Field ℕ
whole key = at_key key whole_at

-- a number at a key that the namespace may give
abbrev pub number : List ℕ → Field ℕ
number key = at_key key number_at

-- bytes at a key, as hexadecimal digits
abbrev pub digits : List ℕ → Field (List ℕ)
digits key = at_key key hex_at

-- the key may be left out
abbrev pub with_default : {A : Type 0} → List ℕ → A → (Data → Option A) → Field A
with_default key default reads = record { knows = λ k. bytes_eq k key; reads = λ d. or_default key default reads (get key d) }

-- a whole number at a key, else this one
abbrev pub whole_or : List ℕ → ℕ → Field ℕ
whole_or key default = with_default key default whole_in

-- true or false at a key, else this one
abbrev pub truth_or : List ℕ → Bool → Field Bool
truth_or key default = with_default key default as_bool

-- the mode of receiving at a key, else under a lock
abbrev pub mode : List ℕ → Field Mode
mode key = with_default key Lock mode_in

-- the form at a key; plain where it isn't there
abbrev pub form : List ℕ → Field Form
form key = with_default key Plain form_in

-- how long the call waits, in s, at a key; not at all where it isn't there
abbrev pub wait : List ℕ → Field ℕ
wait key = with_default key 0 wait_in

-- ---- several keys, or none

-- no key
abbrev pub nothing : Field (Unit {0})
nothing = record { knows = λ k. false; reads = λ d. Ok tt }

infixr 6 ◌and◌
-- one behind the other, in the order of their faults
abbrev pub ◌and◌ : {A B : Type 0} → Field A → Field B → Field (A × B)
f and g = record { knows = λ k. f.knows k || g.knows k; reads = λ d. then_by (f.reads d) (λ x. then_by (g.reads d) (λ y. Ok (x, y))) }

-- what was read, where the key stands
abbrev pub where_there : {A : Type 0} → Option Data → Result A KeyFault → Result (Option A) KeyFault
where_there None said = Ok None
where_there (Some d) said = then_by said (λ x. Ok (Some x))

-- none where the key isn't there
abbrev pub optional : {A : Type 0} → List ℕ → Field A → Field (Option A)
optional key f = record { knows = f.knows; reads = λ d. where_there (get key d) (f.reads d) }

-- what was read, unless the other key stands too
abbrev pub alone : {A : Type 0} → List ℕ → Option Data → A → Result A KeyFault
alone other None x = Ok x
alone other (Some d) x = Err (bad_key None other)

-- whichever of two keys stands; the second is at fault where both do
abbrev pub first_or_second : {A B : Type 0} → List ℕ → Option Data → Option Data → Result A KeyFault → Result B KeyFault → Result (Option (Either A B)) KeyFault
first_or_second other None None a b = Ok None
first_or_second other (Some d) o a b = then_by a (λ x. alone other o (Some (First x)))
first_or_second other None (Some d) a b = then_by b (λ y. Ok (Some (Second y)))

-- at most one of two keys: where both stand the second is at fault
abbrev pub at_most_one : {A B : Type 0} → List ℕ → Field A → List ℕ → Field B → Field (Option (Either A B))
at_most_one one f other g = record { knows = λ k. f.knows k || g.knows k; reads = λ d. first_or_second other (get one d) (get other d) (f.reads d) (g.reads d) }

-- exactly one of two keys: where neither stands the first is at fault
abbrev pub one_of : {A B : Type 0} → List ℕ → Field A → List ℕ → Field B → Field (Either A B)
one_of one f other g = record { knows = λ k. f.knows k || g.knows k; reads = λ d. then_by (first_or_second other (get one d) (get other d) (f.reads d) (g.reads d)) (or_key one) }

-- whichever stands there
abbrev pub either : {A : Type 0} → Either A A → A
either (First x) = x
either (Second x) = x

-- what these fields make
abbrev pub made : {P A : Type 0} → (P → A) → Field P → Field A
made make f = record { knows = f.knows; reads = λ d. then_by (f.reads d) (λ x. Ok (make x)) }

-- what stands in an object that has these fields and no other keys: another key is at fault before they are
abbrev pub object_of : {A : Type 0} → Field A → Data → Result A KeyFault
object_of f d = then_by (none_or_key (unknown_key f.knows d)) (λ _. f.reads d)
