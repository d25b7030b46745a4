-- A receive under a session hands out the message of the least number.
use Rattle.std.specs.Prelude.{◌≡◌, ◌&&◌, ℕ, ◌≤◌, List, [], ◌∷◌, Bool, true, Some, Ok}
use Rattle.sb_machine.specs.Answers.{moment_of}
use Rattle.sb_machine.specs.Consistent.{IsConsistent}
use Rattle.sb_machine.specs.Each.{Each}
use Rattle.sb_machine.specs.History.{IsLegal, Log, after_entry, fresh_log}
use Rattle.sb_machine.specs.Leases.{held_session, is_ready}
use Rattle.sb_machine.specs.Messages.{has_text_of}
use Rattle.sb_machine.specs.Namespace.{entity_at, leaf_of}
use Rattle.sb_machine.specs.declared.call.Act.TheVariants.{Receive}
use Rattle.sb_machine.specs.declared.call.Mode.{Mode}
use Rattle.sb_machine.specs.declared.call.Path.{Path}
use Rattle.sb_machine.specs.declared.call.Token.{Token}
use Rattle.sb_machine.specs.declared.history.Entry.{Entry}
use Rattle.sb_machine.specs.declared.history.Entry.TheVariants.{Ticked, Answered as Replied}
use Rattle.sb_machine.specs.declared.reply.Answered.TheVariants.{New}
use Rattle.sb_machine.specs.declared.reply.CopyShown.{CopyShown}
use Rattle.sb_machine.specs.declared.reply.Reply.TheVariants.{Message as Given}
use Rattle.sb_machine.specs.declared.state.Entity.{Entity}
use Rattle.sb_machine.specs.declared.state.Session.{Session}
use Rattle.sb_machine.specs.declared.state.Space.{Space}
use Rattle.sb_machine.specs.declared.state.State.{State}
use Rattle.sb_machine.specs.declared.state.StoredCopy.{StoredCopy}
use Rattle.sb_model.specs.declared.message.SystemName.TheVariants.{SessionId}

-- it may be received, and its message is of this session
abbrev pub is_ready_of : List ℕ → StoredCopy → Bool
is_ready_of id c = is_ready c.standing && has_text_of SessionId id c.message

-- the token is a session's living holder, and no copy that may be received there of that session has a lower number
pub record IsFirst (s : Space) (t : ℕ) (from : Path) (token : Token) (n : ℕ) : Type 0 where
  pub entity : Entity
  pub there : entity_at from s ≡ Some entity
  pub session : Session
  pub held : held_session s t token (leaf_of from.part entity) ≡ Some session
  pub least : Each (λ c. is_ready_of session.id c ≡ true → n ≤ c.number) (leaf_of from.part entity).copies

-- if an entry is a receive under a session that handed out a message, that message was the first
abbrev pub IsHandedInOrder : Log → Entry → Type 0
IsHandedInOrder l (Ticked seat t) = Unit {0}
IsHandedInOrder l (Replied seat reading call answer) =
    (from : Path) (mode : Mode) (token : Token) (shown : CopyShown) → call.act ≡ Receive from mode (Some token) → answer ≡ Ok (New (Given shown)) → IsFirst l.state.space (moment_of l.state reading) from token shown.number

-- so it is at each entry
abbrev pub AreHandedInOrder : Log → List Entry → Type 0
AreHandedInOrder l [] = Unit {0}
AreHandedInOrder l (e ∷ es) = IsHandedInOrder l e × AreHandedInOrder (after_entry l e) es

-- in each legal history, receives under a session hand out the message of the least number
abbrev pub InOrder : Type 0
InOrder = (s : State) (h : List Entry) → IsConsistent s → IsLegal s h → AreHandedInOrder (fresh_log s) h
