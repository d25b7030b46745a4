-- Who receives from a part of an entity (its queue or a subqueue): anybody, or the holder of a session.
use Rattle.std.specs.Prelude.{ℕ, ◌&&◌, not, Bool, true, List, Option, Some, None}
use Rattle.sb_machine.specs.Leases.{held_session}
use Rattle.sb_machine.specs.Messages.{has_text_of}
use Rattle.sb_machine.specs.Names.{is_main}
use Rattle.sb_machine.specs.Rows.{Row, refuses, asks}
use Rattle.sb_machine.specs.declared.call.Part.{Part}
use Rattle.sb_machine.specs.declared.call.Token.{Token}
use Rattle.sb_model.specs.declared.message.SystemName.TheVariants.{SessionId}
use Rattle.sb_machine.specs.declared.reply.Refusal.TheVariants.{SessionRequired, SessionNotAllowed, SessionLost}
use Rattle.sb_machine.specs.declared.state.Entity.{Entity}
use Rattle.sb_machine.specs.declared.state.Leaf.{Leaf}
use Rattle.sb_machine.specs.declared.state.Session.{Session}
use Rattle.sb_machine.specs.declared.state.Space.{Space}
use Rattle.sb_machine.specs.declared.state.StoredCopy.{StoredCopy}

-- ---- by whom a part is received: by anybody, or by the holder of a session

-- what the receiver holds: nothing, or a session with the lock that holds it
pub record Claim : Type 0 where
  pub id : List ℕ
  pub lock : ℕ
  pub until : ℕ

-- the messages of this part belong to sessions
abbrev pub has_sessions : Entity → Part → Bool
has_sessions e part = is_main part && e.about.description.requires_session

-- the claim of a session's holder, with the moment at which its lock ends
abbrev pub claim_of : ℕ → Session → Claim
claim_of lock x = record { id = x.id; lock = lock; until = elim x.holder [ Some h ↦ h.until | None ↦ 0 ] }

-- a session is given just where the part has sessions
abbrev pub asks_session : Entity → Part → Option Token → Row → Row
asks_session e part None row = asks (not (has_sessions e part)) SessionRequired row
asks_session e part (Some token) row = asks (has_sessions e part) SessionNotAllowed row

-- goes on with the claim of the session that this token holds; where none is held so, the session is lost
abbrev pub claiming : Token → Option Session → (Option Claim → Row) → Row
claiming token None next = refuses SessionLost
claiming token (Some x) next = next (Some (claim_of token.lock x))

-- and its token is its living holder
abbrev pub asks_holder : Space → ℕ → Leaf → Option Token → (Option Claim → Row) → Row
asks_holder s t leaf None next = next None
asks_holder s t leaf (Some token) next = claiming token (held_session s t token leaf) next

-- whether a message is one that this claim may have: of its session, or any where there is no claim
abbrev pub is_of : Option Claim → StoredCopy → Bool
is_of None c = true
is_of (Some claim) c = has_text_of SessionId claim.id c.message
