-- Settling a message that is held under a lock, and renewing the lock.
use Rattle.std.specs.Prelude.{ℕ, ◌==◌, not, Bool, true, false, List, [], ◌∷◌, if◌then◌else◌, Option, Some, None}
use Rattle.sb_machine.specs.Delivery.{in_part, dead_lettered, released}
use Rattle.sb_machine.specs.Leases.{leased}
use Rattle.sb_machine.specs.Names.{is_main}
use Rattle.sb_machine.specs.Namespace.{leaf_of}
use Rattle.sb_machine.specs.Reasons.{with_reason}
use Rattle.sb_machine.specs.Receiving.{lock_end}
use Rattle.sb_machine.specs.Rows.{Row, refuses, answers, asks, at_entity}
use Rattle.sb_machine.specs.declared.call.How.{How}
use Rattle.sb_machine.specs.declared.call.How.TheVariants.{Complete, Abandon, Defer, DeadLetter}
use Rattle.sb_machine.specs.declared.call.Part.{Part}
use Rattle.sb_machine.specs.declared.call.Path.{Path}
use Rattle.sb_machine.specs.declared.call.Token.{Token}
use Rattle.sb_machine.specs.declared.call.Which.{Which}
use Rattle.sb_machine.specs.declared.change.Cause.TheVariants.{Completed}
use Rattle.sb_machine.specs.declared.change.Change.{Change}
use Rattle.sb_machine.specs.declared.change.LeafChange.TheVariants.{Ends, Stands, Renews}
use Rattle.sb_machine.specs.declared.reply.Refusal.TheVariants.{LockLost, SessionRequired}
use Rattle.sb_machine.specs.declared.reply.Reply.TheVariants.{Renewed}
use Rattle.sb_machine.specs.declared.state.Entity.{Entity}
use Rattle.sb_machine.specs.declared.state.Hold.TheVariants.{Until, Session as UnderSession}
use Rattle.sb_machine.specs.declared.state.Listed.{Listed}
use Rattle.sb_machine.specs.declared.state.Space.{Space}
use Rattle.sb_machine.specs.declared.state.Standing.{Standing}
use Rattle.sb_machine.specs.declared.state.Standing.TheVariants.{Ready, Deferred, Held, Scheduled}
use Rattle.sb_machine.specs.declared.state.StoredCopy.{StoredCopy}
use Rattle.sb_machine.specs.Claims.{has_sessions}

-- What a settlement does with its copy.
abbrev pub settled : List Listed → ℕ → Entity → Part → StoredCopy → How → List Change
settled es t e part c Complete = in_part part e (Ends c.number true Completed) ∷ []
settled es t e part c Abandon = released es t e part c true true
settled es t e part c Defer = in_part part e (Stands c.number true c.count Deferred) ∷ []
settled es t e part c (DeadLetter reason description) = dead_lettered es e c true (with_reason reason description c.message)

-- only what stands in a main part may be dead-lettered
abbrev pub goes_with : How → Part → Bool
goes_with (DeadLetter reason description) part = is_main part
goes_with Complete part = true
goes_with Abandon part = true
goes_with Defer part = true

-- ---- renewing

-- the lock lives up to this moment already
abbrev pub is_until : ℕ → Standing → Bool
is_until end (Held lock (Until u) deferred) = u == end
is_until end (Held lock (UnderSession l) deferred) = false
is_until end Ready = false
is_until end Deferred = false
is_until end (Scheduled at) = false

-- renews the lock of the message that was found; where there is none, the lock is lost
abbrev pub renewed : Entity → Part → ℕ → Option StoredCopy → Row
renewed e part end None = refuses LockLost
renewed e part end (Some c) = answers (Renewed end) (if is_until end c.standing then [] else in_part part e (Renews c.number end) ∷ [])

-- renewing the lock of a message
abbrev pub renew_row : Space → ℕ → Path → Which → Token → Row
renew_row s t from which token = at_entity s from (λ e.
    asks (not (has_sessions e from.part)) SessionRequired (renewed e from.part (lock_end e t) (leased s t token which (leaf_of from.part e))))
