-- Limits of time: what a connection waits for that its other side is to do, and since when.
-- `IsReading` holds of what the worker's clock may read.
use Rattle.std.specs.Prelude.{◌≡◌, ◌⊎◌, ℕ, ◌+◌, ◌-◌, ◌/◌, ◌^◌, ◌<◌, min, Option, Some, None}
use Rattle.sb_server.specs.declared.doing.Doing.{Doing}
use Rattle.sb_server.specs.declared.doing.Doing.TheVariants.{Reads, Asks, Calls, Says, Tells, Writes}
use Rattle.sb_server.specs.declared.doing.Went.{Went}
use Rattle.sb_server.specs.declared.doing.Went.TheVariants.{NothingYet, Over}
use Rattle.sb_server.specs.declared.ending.Ending.TheVariants.{Slow}
use Rattle.sb_server.specs.declared.limits.Since.{Since}
use Rattle.sb_server.specs.declared.limits.Since.TheVariants.{Never, Idle, Asking, Taking}
use Rattle.sb_server.specs.Asks.{ms_in}

-- ---- the limits

-- so many ms, and a second more for each whole KiB of so many bytes; it stands still at 2^64 - 1
abbrev pub with_bytes : ℕ → ℕ → ℕ
with_bytes ms bytes = min (ms + ms_in (bytes / 1024)) (2 ^ 64 - 1)

-- two readings of the clock are further apart than so many ms
pub record Passed (IsReading : ℕ → Type 0) (limit : ℕ) : Type 0 where
  pub first : ℕ
  pub later : ℕ
  pub is_first : IsReading first
  pub is_later : IsReading later
  pub apart : first + limit < later

-- ---- since when

-- since a reading of the clock
abbrev pub IsSince : (ℕ → Type 0) → Since → Type 0
IsSince IsReading Never = Unit {0}
IsSince IsReading (Idle ms) = IsReading ms
IsSince IsReading (Asking ms) = IsReading ms
IsSince IsReading (Taking ms) = IsReading ms

-- since when a request is waited for, now that none has begun
abbrev pub idle_from : Since → ℕ → ℕ
idle_from (Idle ms) now = ms
idle_from Never now = now
idle_from (Asking ms) now = now
idle_from (Taking ms) now = now

-- since when its rest is waited for, now that it has begun
abbrev pub asking_from : Since → ℕ → ℕ
asking_from (Asking ms) now = ms
asking_from Never now = now
asking_from (Idle ms) now = now
asking_from (Taking ms) now = now

-- since when a response is to be taken, now that it isn't
abbrev pub taking_from : Since → ℕ → ℕ
taking_from (Taking ms) now = ms
taking_from Never now = now
taking_from (Idle ms) now = now
taking_from (Asking ms) now = now

-- how many bytes of a response were taken, where one is being written
abbrev pub taken_of : Doing → Option ℕ
taken_of (Writes out) = Some out.at
taken_of Reads = None
taken_of (Asks p) = None
taken_of (Calls script) = None
taken_of (Says script form answer) = None
taken_of (Tells told) = None

-- how it goes on where nothing could be read yet: not yet, or not at all where the limit has passed since a reading
abbrev pub IsLooked : ℕ → ℕ → ℕ → Went → Type 0
IsLooked limit from now went = (went ≡ NothingYet) ⊎ ((went ≡ Over Slow) × (from + limit < now))
