-- When a message comes due by itself: in a part where messages expire, in one where they don't.
use Rattle.std.specs.Prelude.{ℕ, ◌+◌, ◌*◌, min, nat_le, Bool, if◌then◌else◌, List, map, find, Option, Some, None}
use Rattle.std.specs.List.{filter, fold}
use Rattle.std.specs.Option.{option_map_or}
use Rattle.sb_machine.specs.Leaves.{has_number, prolonged_standing}
use Rattle.sb_machine.specs.declared.state.Hold.{Hold}
use Rattle.sb_machine.specs.declared.state.Hold.TheVariants.{Until, Session as UnderSession}
use Rattle.sb_machine.specs.declared.state.Standing.{Standing}
use Rattle.sb_machine.specs.declared.state.Standing.TheVariants.{Ready, Deferred, Held, Scheduled}
use Rattle.sb_machine.specs.declared.state.StoredCopy.{StoredCopy}

-- ---- one message

-- when a message that was enqueued then has expired
abbrev pub expiry : ℕ → Option ℕ → Option ℕ
expiry enqueued None = None
expiry enqueued (Some seconds) = Some (enqueued + 1000 * seconds)

-- when a message expires, if it has a time to live
abbrev pub copy_expiry : StoredCopy → Option ℕ
copy_expiry c = expiry c.enqueued c.message.ttl

-- when a lock on a message ends by itself; one under a session ends with that
abbrev pub hold_deadline : Hold → Option ℕ
hold_deadline (Until u) = Some u
hold_deadline (UnderSession l) = None

-- when a message that stands so comes due, by its expiry, where messages expire or don't
abbrev pub standing_due : Bool → Option ℕ → Standing → Option ℕ
standing_due expires end Ready = if expires then end else None
standing_due expires end Deferred = None
standing_due expires end (Held lock hold deferred) = hold_deadline hold
standing_due expires end (Scheduled at) = Some at

-- ---- as moments

-- the greatest moment that there is
abbrev pub never : ℕ
never = 18446744073709551615

-- as far as there are such moments
abbrev pub in_range : Option ℕ → Option ℕ
in_range None = None
in_range (Some d) = if nat_le d never then Some d else None

-- the greatest moment where there is no deadline, or one behind it
abbrev pub moment_of : Option ℕ → ℕ
moment_of None = never
moment_of (Some d) = min d never

-- when a message comes due once it stands so
abbrev pub due_when : Bool → StoredCopy → Standing → ℕ
due_when expires c standing = moment_of (standing_due expires (copy_expiry c) standing)

-- when a message comes due
abbrev pub due_of : Bool → StoredCopy → ℕ
due_of expires c = due_when expires c c.standing

-- ---- many

-- the least moment at which one comes due
abbrev pub least_of : Bool → List StoredCopy → ℕ
least_of expires copies = fold min never (map (due_of expires) copies)

-- it has come due by then
abbrev pub is_due : Bool → ℕ → StoredCopy → Bool
is_due expires moment c = nat_le (due_of expires c) moment

-- those that have come due by then
abbrev pub due_by : Bool → ℕ → List StoredCopy → List StoredCopy
due_by expires moment copies = filter (is_due expires moment) copies

-- when the one of this number comes due once it stands so
abbrev pub due_at : Bool → ℕ → Standing → List StoredCopy → ℕ
due_at expires n standing copies = option_map_or (λ c. due_when expires c standing) (find (has_number n) copies) never

-- when the one of this number comes due once its lock lives until then
abbrev pub due_renewed : Bool → ℕ → ℕ → List StoredCopy → ℕ
due_renewed expires n until copies = option_map_or (λ c. due_when expires c (prolonged_standing until c.standing)) (find (has_number n) copies) never
