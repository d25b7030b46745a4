-- What bytes say: a message, or where they can't be read.
use Rattle.std.specs.Prelude.{◌≡◌, ◌-◌, ℕ, List, [], ◌++◌, length, true, false, Result, Ok, Err}
use Rattle.sb_model.specs.declared.message.Message.{Message}
use Rattle.sb_amqp.specs.declared.fault.AmqpFault.{AmqpFault}
use Rattle.sb_amqp.specs.declared.fault.AmqpFault.TheVariants.{BadMessage, Unsupported, OutOfMemory}
use Rattle.sb_amqp.specs.Meaning.{sections_say, no_message}
use Rattle.sb_amqp.specs.Sections.{Section, spelled, all_spelled, IsSection, AreInOrder, before_all, last_code, may_follow, may_end}

-- these sections, in an order that they may have, are a message's
pub record Spells (bytes : List ℕ) (sections : List Section) : Type 0 where
  pub text : bytes ≡ all_spelled sections
  pub order : AreInOrder before_all sections
  pub whole : may_end (last_code before_all sections) ≡ true

-- the bytes spell the message
pub record Reads (bytes : List ℕ) (m : Message) : Type 0 where
  pub sections : List Section
  pub spelled : Spells bytes sections
  pub said : sections_say no_message sections ≡ Ok m

-- All sections are well formed, and the first value that is used but can't be begins here.
pub record IsUnsupported (bytes : List ℕ) (at : ℕ) : Type 0 where
  pub sections : List Section
  pub spelled : Spells bytes sections
  pub left : ℕ
  pub said : sections_say no_message sections ≡ Err left
  pub place : at ≡ length bytes - left

-- no section that may stand behind the last one begins these bytes, and they don't end behind a body
pub record BeginNone (last : ℕ) (rest : List ℕ) : Type 0 where
  pub none : (s : Section) (more : List ℕ) → IsSection s → may_follow last s.code ≡ true → rest ≡ spelled s ++ more → ⊥
  pub unended : rest ≡ [] → may_end last ≡ false

-- sections come in order up to here, and here none begins
pub record IsBad (bytes : List ℕ) (at : ℕ) : Type 0 where
  pub sections : List Section
  pub rest : List ℕ
  pub text : bytes ≡ all_spelled sections ++ rest
  pub order : AreInOrder before_all sections
  pub place : at ≡ length (all_spelled sections)
  pub none : BeginNone (last_code before_all sections) rest

-- what a first pass over the bytes answers: they are sections, or the first place where none begins
abbrev pub Checked : List ℕ → Result (Unit {0}) ℕ → Type 0
Checked bytes (Ok done) = (sections : List Section) × Spells bytes sections
Checked bytes (Err at) = IsBad bytes at

-- what a second pass answers, where the sections say this
abbrev pub Tells : List ℕ → Result Message ℕ → Result Message AmqpFault → Type 0
Tells bytes said (Ok m) = said ≡ Ok m
Tells bytes said (Err (BadMessage at)) = ⊥
Tells bytes said (Err (Unsupported at)) = (left : ℕ) × (said ≡ Err left) × (at ≡ length bytes - left)
Tells bytes said (Err OutOfMemory) = Unit {0}

-- what was answered
abbrev pub Answers : List ℕ → Result Message AmqpFault → Type 0
Answers bytes (Ok m) = Reads bytes m
Answers bytes (Err (BadMessage at)) = IsBad bytes at
Answers bytes (Err (Unsupported at)) = IsUnsupported bytes at
Answers bytes (Err OutOfMemory) = Unit {0}

-- it is this, but where memory was wanting
abbrev pub IsAnswer : Result Message AmqpFault → Result Message AmqpFault → Type 0
IsAnswer (Err OutOfMemory) wanted = Unit {0}
IsAnswer answer wanted = answer ≡ wanted

-- nothing else is said of the bytes
pub record AnswersOnly (bytes : List ℕ) (answer : Result Message AmqpFault) : Type 0 where
  pub message : (m : Message) → Reads bytes m → IsAnswer answer (Ok m)
  pub bad : (at : ℕ) → IsBad bytes at → IsAnswer answer (Err (BadMessage at))
  pub unsupported : (at : ℕ) → IsUnsupported bytes at → IsAnswer answer (Err (Unsupported at))
