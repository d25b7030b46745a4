-- What holds of each element of a list, and small tests.
use Rattle.std.specs.Prelude.{◌≡◌, ℕ, ◌==◌, Bool, List, [], ◌∷◌, bytes_eq, true, false, Option, Some, None, Result, Ok, Err}
use Rattle.sb_machine.specs.Rows.{is_topic}
use Rattle.sb_machine.specs.declared.state.Entity.{Entity}
use Rattle.sb_machine.specs.declared.state.Standing.{Standing}
use Rattle.sb_machine.specs.declared.state.Standing.TheVariants.{Ready, Deferred, Held, Scheduled}

-- ---- lists

-- what holds of each element
abbrev pub Each : {X : Type 0} → (X → Type 0) → List X → Type 0
Each P [] = Unit {0}
Each P (x ∷ xs) = P x × Each P xs

-- each differs so from those behind it
abbrev pub Pairs : {X : Type 0} → (X → X → Type 0) → List X → Type 0
Pairs R [] = Unit {0}
Pairs R (x ∷ xs) = Each (R x) xs × Pairs R xs

-- in this order, none twice
abbrev pub IsSorted : {X : Type 0} → (X → X → Bool) → List X → Type 0
IsSorted before xs = Pairs (λ x y. before x y ≡ true) xs

-- P of the value, if there is one
abbrev pub IfSome : {X : Type 0} → Option X → (X → Type 0) → Type 0
IfSome None P = Unit {0}
IfSome (Some x) P = P x

-- ---- small tests

-- whether there is a text, and it is this id
abbrev pub is_text_of : List ℕ → Option (List ℕ) → Bool
is_text_of id None = false
is_text_of id (Some text) = bytes_eq text id

-- whether a text was read without a fault
abbrev pub is_read : {X : Type 0} → Result X ℕ → Bool
is_read (Ok x) = true
is_read (Err at) = false

-- whether an entity is there, and is a topic
abbrev pub is_topic_at : Option Entity → Bool
is_topic_at None = false
is_topic_at (Some e) = is_topic e.about.kind

-- whether a message is held under this lock
abbrev pub has_lock : ℕ → Standing → Bool
has_lock l (Held lock hold deferred) = lock == l
has_lock l Ready = false
has_lock l Deferred = false
has_lock l (Scheduled at) = false
