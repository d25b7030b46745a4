-- Between two holders of one session the first one's lock ended.
use Rattle.std.specs.Prelude.{◌≡◌, ◌⊎◌, ℕ, List, [], ◌∷◌, Bool, true, ◌||◌, Option, Result, Ok}
use Rattle.std.specs.List.{list_any}
use Rattle.sb_machine.specs.Administration.{going_with}
use Rattle.sb_machine.specs.Consistent.{IsConsistent}
use Rattle.sb_machine.specs.History.{IsLegal, Log, after_entry, fresh_log}
use Rattle.sb_machine.specs.Leases.{is_ended_holder}
use Rattle.sb_machine.specs.Namespace.{entity_at, is_entity, key_of}
use Rattle.sb_machine.specs.declared.call.Act.TheVariants.{Accept, Delete, SessionClose}
use Rattle.sb_machine.specs.declared.call.By.{By}
use Rattle.sb_machine.specs.declared.call.Call.{Call}
use Rattle.sb_machine.specs.declared.call.Path.{Path}
use Rattle.sb_machine.specs.declared.call.Token.{Token}
use Rattle.sb_machine.specs.declared.change.LeafKey.{LeafKey}
use Rattle.sb_machine.specs.declared.history.Entry.{Entry}
use Rattle.sb_machine.specs.declared.history.Entry.TheVariants.{Ticked, Answered as Replied}
use Rattle.sb_machine.specs.declared.reply.Answered.{Answered}
use Rattle.sb_machine.specs.declared.reply.Answered.TheVariants.{New}
use Rattle.sb_machine.specs.declared.reply.Refusal.{Refusal}
use Rattle.sb_machine.specs.declared.reply.Reply.TheVariants.{Done, Session as Accepted}
use Rattle.sb_machine.specs.declared.state.Entity.{Entity}
use Rattle.sb_machine.specs.declared.state.Space.{Space}
use Rattle.sb_machine.specs.declared.state.State.{State}
use Rattle.std.specs.Prelude.{Some}

-- a session: its part and its id
pub record SessionKey : Type 0 where
  pub leaf : LeafKey
  pub id : List ℕ

-- this call, so answered, accepted the session under this lock
pub record AcceptsBy (key : SessionKey) (lock : ℕ) (s : Space) (call : Call) (answer : Result Answered Refusal) : Type 0 where
  pub from : Path
  pub asked_for : Option (List ℕ)
  pub token : Token
  pub until : ℕ
  pub act : call.act ≡ Accept from asked_for
  pub said : answer ≡ Ok (New (Accepted key.id token until))
  pub under : token.lock ≡ lock
  pub entity : Entity
  pub there : entity_at from s ≡ Some entity
  pub part : key_of from.part entity ≡ key.leaf

-- this entry accepted the session under this lock
abbrev pub Accepts : SessionKey → ℕ → Space → Entry → Type 0
Accepts key lock s (Ticked seat t) = ⊥
Accepts key lock s (Replied seat reading call answer) = AcceptsBy key lock s call answer

-- the session's lock of this number has ended by this moment
abbrev pub has_ended_in : ℕ → ℕ → Entity → Bool
has_ended_in t lock e = list_any (is_ended_holder t lock) e.main.sessions || list_any (is_ended_holder t lock) e.dead.sessions || list_any (is_ended_holder t lock) e.transfer.sessions

-- the same anywhere in the namespace
abbrev pub has_run_out : ℕ → ℕ → Space → Bool
has_run_out t lock s = list_any (has_ended_in t lock) s.entities

-- At this entry the lock ended: at a tick not before its moment, as its holder closed the session, or as the entity was
-- deleted, by itself or with its topic.
pub data Frees (key : SessionKey) (lock : ℕ) (s : Space) : Entry → Type 0 where
  by_time : {seat t : ℕ} → has_run_out t lock s ≡ true → Frees key lock s (Ticked seat t)
  by_close : {seat reading : ℕ} {by : Option By} {from : Path} {token : Token} → token.lock ≡ lock → Frees key lock s (Replied seat reading (record { by = by; act = SessionClose from token }) (Ok (New Done)))
  by_delete : {seat reading : ℕ} {by : Option By} {path : Path} (e : Entity) → entity_at path s ≡ Some e → list_any (is_entity key.leaf.entity) (e ∷ going_with s e) ≡ true
      → Frees key lock s (Replied seat reading (record { by = by; act = Delete path }) (Ok (New Done)))

-- until its lock has ended, nobody accepts the session
abbrev pub HeldAlone : SessionKey → ℕ → Log → List Entry → Type 0
HeldAlone key lock l [] = Unit {0}
HeldAlone key lock l (e ∷ es) = Frees key lock l.state.space e ⊎ (((other : ℕ) → Accepts key other l.state.space e → ⊥) × HeldAlone key lock (after_entry l e) es)

-- so it is behind each entry that accepts a session
abbrev pub AreHeldAlone : Log → List Entry → Type 0
AreHeldAlone l [] = Unit {0}
AreHeldAlone l (e ∷ es) = ((key : SessionKey) (lock : ℕ) → Accepts key lock l.state.space e → HeldAlone key lock (after_entry l e) es) × AreHeldAlone (after_entry l e) es

-- in each legal history, nobody accepts a session before the lock of its last holder has ended
abbrev pub OneHolder : Type 0
OneHolder = (s : State) (h : List Entry) → IsConsistent s → IsLegal s h → AreHeldAlone (fresh_log s) h
