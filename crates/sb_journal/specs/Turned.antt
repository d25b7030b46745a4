-- What a crash may leave of the bytes of both disks while a journal goes on with the next file.
use Rattle.std.specs.Prelude.{◌≡◌, ◌⊎◌, ◌<◌, ℕ, List, [], ◌∷◌, ◌++◌, drop}
use Rattle.sb_journal.specs.Text.{File, file_text, IsWithin}
use Rattle.sb_journal.specs.Opened.{FindsOldOrNext}
use Rattle.sb_journal.specs.Crashes.{IsShutFile, IsShutOrGated, LeavesFound}

-- what stands behind a file's gate, with its closed end gate and what is behind that
abbrev pub behind_gate : File → List ℕ → List ℕ
behind_gate f tail = drop 1 (file_text f ++ 0 ∷ tail)

-- The file stands here, and there nothing counts or the next one stands behind any gate; or the next one stands there, and here the file
-- behind any gate.
pub record IsTurned (file next : File) (here there : List ℕ) : Type 0 where
  pub within : IsWithin file
  pub within_next : IsWithin next
  pub later : file.generation < next.generation
  pub stands : (IsShutFile file here × IsShutOrGated (behind_gate next []) there) ⊎ ((there ≡ 1 ∷ behind_gate next []) × (gate : ℕ) × (tail : List ℕ) × (here ≡ gate ∷ behind_gate file tail))

-- on either disk
abbrev pub IsTurnedPair : (file next : File) → (a b : List ℕ) → Type 0
IsTurnedPair file next a b = IsTurned file next a b ⊎ IsTurned file next b a

-- What a crash left so is found as the file or as the next one.
abbrev pub TurnedIsFound : Type 0
TurnedIsFound = (file next : File) (a b : List ℕ) → IsTurnedPair file next a b → FindsOldOrNext file next a b

-- and stays so through crashes during openings, however many
abbrev pub TurnedIsKept : Type 0
TurnedIsKept = (salt : ℕ) (file next : File) (a b x y : List ℕ) → IsTurnedPair file next a b → LeavesFound salt a b x y → IsTurnedPair file next x y
