-- Forms that a state needs beside those of events.
use Rattle.std.specs.Prelude.{◌≡◌, ◌<◌, ◌+◌, ◌^◌, ℕ, List, [], ◌∷◌, ◌++◌, length, Bool, true, Option, Some, None}
use Rattle.std.specs.Int.{w32, w64, to_be_bytes}
use Rattle.std.specs.List.{flat_map, sum_by}
use Rattle.sb_codec.specs.Forms.{Form, Follow}
use Rattle.sb_codec.specs.Readers as readers
use Rattle.sb_codec.specs.Readers.{Reader, ◌>>=◌, number_at, items_at}

-- ---- numbers whose type has their size

-- the first byte
unfoldable pub byte_at : Reader ℕ
byte_at [] = None
byte_at (b ∷ rest) = Some (b, rest)

-- a number in one byte
abbrev pub number8 : Form ℕ
number8 = record { spell = λ n. n ∷ []; reads = byte_at; Fits = λ n. n < 2 ^ 8; Asks = λ _. Unit {0}; fixed = 1; content = λ _. 0 }

-- a number in 4 bytes
abbrev pub count32 : Form ℕ
count32 = record { spell = λ n. to_be_bytes w32 n; reads = number_at w32; Fits = λ n. n < 2 ^ 32; Asks = λ _. Unit {0}; fixed = 4; content = λ _. 0 }

-- ---- lists

-- a count, and the items
unfoldable pub listed64_at : {A : Type 0} → (Option A → Reader A) → Reader (List A)
listed64_at step bytes = number_at w64 bytes >>= λ n. items_at step None n.0 n.1

-- a count in 8 bytes, and the items, of which each may stand behind the one before it
abbrev pub listed64 : {A : Type 0} → (Option A → A → Bool) → Form A → Form (List A)
listed64 follows f = record {
  spell = λ xs. to_be_bytes w64 (length xs) ++ flat_map f.spell xs;
  reads = listed64_at (λ last. readers.tested (follows last) f.reads);
  Fits = λ xs. (length xs < 2 ^ 64) × Follow (λ last x. f.Fits x × (follows last x ≡ true)) None xs;
  Asks = λ xs. Follow (λ last x. f.Asks x × (follows last x ≡ true)) None xs;
  fixed = 8;
  content = sum_by (λ x. f.fixed + f.content x);
}

-- ---- values that not all fields make

-- the value that was made of what was read, if one was
abbrev pub made_of : {A B : Type 0} → (A → Option B) → Reader A → Reader B
made_of make r = λ bytes. r bytes >>= λ x. make x.0 >>= λ b. Some (b, x.1)

-- The fields of a value of which these make it again. Some fields may make no value.
abbrev pub narrowed : {A B : Type 0} → (A → Option B) → (B → A) → (B → Type 0) → Form A → Form B
narrowed make parts IsMade f = record {
  spell = λ b. f.spell (parts b);
  reads = made_of make f.reads;
  Fits = λ b. f.Fits (parts b) × IsMade b;
  Asks = λ b. f.Asks (parts b) × IsMade b;
  fixed = f.fixed;
  content = λ b. f.content (parts b);
}
