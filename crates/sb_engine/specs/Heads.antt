-- What the tests before an act's own part came to: the row goes on with what was found, or refuses.
use Rattle.std.specs.Prelude.{◌≡◌, ℕ, Option}
use Rattle.sb_machine.specs.Claims.{Claim as Held, asks_session, asks_holder}
use Rattle.sb_machine.specs.Namespace.{leaf_of}
use Rattle.sb_machine.specs.Rows.{Row, refuses, at_receivable}
use Rattle.sb_machine.specs.declared.call.Path.{Path}
use Rattle.sb_machine.specs.declared.call.Token.{Token}
use Rattle.sb_machine.specs.declared.reply.Refusal.{Refusal}
use Rattle.sb_machine.specs.declared.state.Entity.{Entity}
use Rattle.sb_machine.specs.declared.state.Space.{Space}
use Rattle.sb_engine.specs.declared.find.claims.Claim.{Claim}

-- whatever is done with what is found is done with this
abbrev pub Passes : {X : Type 0} → ((X → Row) → Row) → X → Type 0
Passes {X = X} head x = (next : X → Row) → head next ≡ next x

-- whatever would be done, it is refused
abbrev pub Refuses : {X : Type 0} → ((X → Row) → Row) → Refusal → Type 0
Refuses {X = X} head r = (next : X → Row) → head next ≡ refuses r

-- the same of a test that finds nothing
abbrev pub Allows : (Row → Row) → Type 0
Allows test = (row : Row) → test row ≡ row

-- whatever would be done, this test refuses it
abbrev pub Forbids : (Row → Row) → Refusal → Type 0
Forbids test r = (row : Row) → test row ≡ refuses r

-- what a receiver holds
abbrev pub claim_in : Claim → Held
claim_in claim = record { id = claim.id.now; lock = claim.lock; until = claim.until }

-- what is done by who receives there
abbrev pub by_claim : Space → ℕ → Path → Option Token → (Entity → Option Held → Row) → Row
by_claim s t from session next = at_receivable s from (λ e. asks_session e from.part session (asks_holder s t (leaf_of from.part e) session (next e)))
