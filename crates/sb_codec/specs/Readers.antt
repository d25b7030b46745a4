-- Readers, and how they are put together.
use Rattle.std.specs.Prelude.{◌≡◌, ℕ, zero, suc, List, [], ◌∷◌, length, take, drop, Bool, Option, Some, None, Result, Ok, Err, nat_lt, if◌then◌else◌}
use Rattle.std.specs.Int.{Width, w32, byte_len, from_be_bytes}
use Rattle.sb_codec.specs.declared.unread.Unread.{Unread}
use Rattle.sb_codec.specs.declared.unread.Unread.TheVariants.{Memory, NoSpelling}

-- the value that stands at the front of the bytes, and the bytes behind it
abbrev pub Reader : Type 0 → Type 0
Reader A = List ℕ → Option (A × List ℕ)

infixl 10 ◌>>=◌
-- goes on with what was read, unless it was none
abbrev pub ◌>>=◌ : {A B : Type 0} → Option A → (A → Option B) → Option B
None >>= f = None
(Some x) >>= f = f x

-- What a function returned, seen by view, is what reading gives, unless memory ran out.
abbrev pub Fails : {Y : Type 0} → Unread → Option Y → Type 0
Fails Memory read = Unit {0}
Fails NoSpelling read = read ≡ None

-- what a function returned, seen by view, is what reading gives
abbrev pub Gives : {X Y : Type 0} → (X → Y) → Result X Unread → Option Y → Type 0
Gives view (Ok x) read = read ≡ Some (view x)
Gives view (Err e) read = Fails e read

-- one behind the other
abbrev pub both : {A B : Type 0} → Reader A → Reader B → Reader (A × B)
both r q = λ bytes. r bytes >>= λ x. q x.1 >>= λ y. Some ((x.0, y.0), y.1)

-- what was read, with f of it
abbrev pub mapped : {A B : Type 0} → (A → B) → Reader A → Reader B
mapped f r = λ bytes. r bytes >>= λ x. Some (f x.0, x.1)

-- only a value that passes the test
abbrev pub tested : {A : Type 0} → (A → Bool) → Reader A → Reader A
tested test r = λ bytes. r bytes >>= λ x. if test x.0 then Some x else None

-- a number of so many bytes
unfoldable pub number_at : Width → Reader ℕ
number_at w bytes = if nat_lt (length bytes) (byte_len w) then None else Some (from_be_bytes w (take (byte_len w) bytes), drop (byte_len w) bytes)

-- a length, and so many bytes
unfoldable pub sized_at : Reader (List ℕ)
sized_at bytes = number_at w32 bytes >>= λ n. if nat_lt (length n.1) n.0 then None else Some (take n.0 n.1, drop n.0 n.1)

-- 00, or 01 and the value
unfoldable pub optional_at : {A : Type 0} → Reader A → Reader (Option A)
optional_at r [] = None
optional_at r (zero ∷ rest) = Some (None, rest)
optional_at r (suc zero ∷ rest) = r rest >>= λ x. Some (Some x.0, x.1)
optional_at r (suc (suc b) ∷ rest) = None

-- so many items, each read by what came before it
unfoldable pub items_at : {A : Type 0} → (Option A → Reader A) → Option A → ℕ → Reader (List A)
items_at step last zero bytes = Some ([], bytes)
items_at step last (suc n) bytes = step last bytes >>= λ first. items_at step (Some first.0) n first.1 >>= λ others. Some (first.0 ∷ others.0, others.1)

-- a count, and the items
unfoldable pub listed_at : {A : Type 0} → (Option A → Reader A) → Reader (List A)
listed_at step bytes = number_at w32 bytes >>= λ n. items_at step None n.0 n.1
