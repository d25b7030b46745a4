-- One operation in the namespace in which a transaction gathers, judged as it is read in the namespace before.
use Rattle.std.proofs.Common.{Bool, List, None, Option, Some, [], ap, false, length, not, refl, subst, true, ℕ, ◌++◌, ◌==◌, ◌||◌, ◌∙◌, ◌∷◌, ◌≡◌}
use Rattle.std.specs.List.{list_any}
use Rattle.std.specs.Prelude.{if◌then◌else◌, is_some, nat_le, option_map}
use Rattle.sb_laws.proofs.GatheringLists.{BothFound, Paired, found_paired}
use Rattle.sb_laws.proofs.GatheringParts.{IsWritten, held_written, holds_written, leased_written, part_written}
use Rattle.sb_laws.proofs.Lists.{found_append, found_first}
use Rattle.sb_laws.proofs.Sameness.{numbers_equal}
use Rattle.sb_laws.specs.Gathered.{gathering, gathering_number, pending_with, read_found, read_send, read_settle, read_step}
use Rattle.sb_machine.specs.Changes.{is_transaction}
use Rattle.sb_machine.specs.Claims.{asks_holder, asks_session, claiming, has_sessions}
use Rattle.sb_machine.specs.Fields.{bad_in_messages, sets_session}
use Rattle.sb_machine.specs.Leases.{held_session, leased}
use Rattle.sb_machine.specs.Names.{is_address, is_same_entity, is_same_option}
use Rattle.sb_machine.specs.Namespace.{entity_at, entity_of, is_entity, leaf_of}
use Rattle.sb_machine.specs.Queueing.{has_room_in, queueing, transaction_of}
use Rattle.sb_machine.specs.Rows.{Row, answers, asks, found_or, is_receivable, refused_by}
use Rattle.sb_machine.specs.SendRow.{have_sessions_at, is_destination, is_other, is_via, sent_or_queued}
use Rattle.sb_machine.specs.Sending.{too_large}
use Rattle.sb_machine.specs.Sessions.{held_or, max_state, session_set_row, size_of}
use Rattle.sb_machine.specs.SettleRow.{is_on, pending, pending_in, settle_found, settles}
use Rattle.sb_machine.specs.Settlement.{goes_with}
use Rattle.sb_machine.specs.Together.{step_row}
use Rattle.sb_machine.specs.declared.call.How.{How}
use Rattle.sb_machine.specs.declared.call.Path.{Path}
use Rattle.sb_machine.specs.declared.call.Step.{Step}
use Rattle.sb_machine.specs.declared.call.Step.TheVariants.{Send, SessionSet, Settle}
use Rattle.sb_machine.specs.declared.call.Token.{Token}
use Rattle.sb_machine.specs.declared.call.Which.{Which}
use Rattle.sb_machine.specs.declared.change.Change.TheVariants.{InLeaf}
use Rattle.sb_machine.specs.declared.change.LeafChange.TheVariants.{Writes}
use Rattle.sb_machine.specs.declared.reply.Refusal.TheVariants.{BadCall, BadName, EntityNotFound, SessionNotAllowed, SessionRequired, TooLarge, TxnFull, TxnNotFound, TxnScope, WrongKind}
use Rattle.sb_machine.specs.declared.reply.Reply.TheVariants.{Done, Queued}
use Rattle.sb_machine.specs.declared.state.Entity.{Entity}
use Rattle.sb_machine.specs.declared.state.Listed.{Listed}
use Rattle.sb_machine.specs.declared.state.Operation.{Operation}
use Rattle.sb_machine.specs.declared.state.Operation.TheVariants as queued
use Rattle.sb_machine.specs.declared.state.Session.{Session}
use Rattle.sb_machine.specs.declared.state.Space.{Space}
use Rattle.sb_machine.specs.declared.state.StoredCopy.{StoredCopy}
use Rattle.sb_machine.specs.declared.state.Transaction.{Transaction}
use Rattle.sb_model.specs.declared.message.Message.{Message}

-- the namespace w in which the transaction has gathered these operations
abbrev pub gathered_in : Space → ℕ → Entity → List Operation → Space → Space
gathered_in s t e os w = record w { transactions = s.transactions ++ gathering s t e os ∷ [] }

-- a namespace in which only states of sessions were written, none of those that are left
pub record IsPrepared (s : Space) (t : ℕ) (left : ℕ → Bool) (w : Space) : Type 0 where
  pub salt : w.salt ≡ s.salt
  pub entities : Paired (IsWritten t left) s.entities w.entities

-- the namespace as it is read: each entity is found by its number too, the transaction's among them, and no open transaction has the next number
pub record IsRead (s : Space) (e : Entity) : Type 0 where
  pub numbered : (path : Path) (a : Entity) → entity_at path s ≡ Some a → entity_of a.about.number s ≡ Some a
  pub own : entity_of e.about.number s ≡ Some e
  pub unused : transaction_of (gathering_number s) s ≡ None

module _ (s : Space) (t : ℕ) (e : Entity) (os : List Operation) (w : Space) (left : ℕ → Bool) (read : IsRead s e) (h : IsPrepared s t left w) where
  abbrev v : Space
  v = gathered_in s t e os w

  abbrev x : Transaction
  x = gathering s t e os

  -- ---- what is found

  pub gathering_found : transaction_of (gathering_number s) v ≡ Some x
  gathering_found = found_append (is_transaction (gathering_number s)) s.transactions (x ∷ []) read.unused ∙ ap (λ (b : Bool). if b then Some x else None) (numbers_equal (gathering_number s))

  pub written_at : (path : Path) → BothFound (IsWritten t left) (entity_at path s) (entity_at path v)
  written_at path = found_paired (IsWritten t left) (λ d. is_same_entity d.about.path path) (λ a b is. ap (λ (about : Listed). is_same_entity about.path path) is.about) s.entities w.entities h.entities

  written_of : (n : ℕ) → BothFound (IsWritten t left) (entity_of n s) (entity_of n v)
  written_of n = found_paired (IsWritten t left) (is_entity n) (λ a b is. ap (λ (about : Listed). about.number == n) is.about) s.entities w.entities h.entities

  pub own_written : (b : Entity) × (entity_of e.about.number v ≡ Some b) × IsWritten t left e b
  own_written = at (entity_of e.about.number v) refl (subst (λ (o : Option Entity). BothFound (IsWritten t left) o (entity_of e.about.number v)) read.own (written_of e.about.number)) where
    at : (o : Option Entity) → entity_of e.about.number v ≡ o → BothFound (IsWritten t left) (Some e) o → (b : Entity) × (entity_of e.about.number v ≡ Some b) × IsWritten t left e b
    at None is both = absurd both
    at (Some b) is both = (b, is, both)

  queued_under : (lock : ℕ) → pending_in lock v ≡ pending_with lock s x
  queued_under lock = at (pending_in lock s) refl where
    at : (o : Option Transaction) → pending_in lock s ≡ o → pending_in lock v ≡ elim o as (λ _. Option Transaction) [ Some y ↦ Some y | None ↦ (if list_any (settles lock) x.operations then Some x else None) ]
    at None none = found_append (λ y. list_any (settles lock) y.operations) s.transactions (x ∷ []) none
    at (Some y) some = found_first (λ z. list_any (settles lock) z.operations) y s.transactions (x ∷ []) some

  -- ---- a send

  abbrev sent_with : Path → List Message → Option Transaction → Bool → Option Entity → Row
  sent_with to messages o via target =
      refused_by (option_map (λ key. BadCall key) (bad_in_messages via messages))
      (asks (is_address to) BadName (asks (via || is_some target) EntityNotFound (asks (is_destination to) WrongKind
      (asks (have_sessions_at target messages) SessionRequired (asks (is_some o) TxnNotFound
      (asks (has_room_in o (length messages)) TxnFull (refused_by (too_large messages) (sent_or_queued v t to messages target o))))))))

  same_target : (to : Path) (messages : List Message) (via : Bool) (a b : Option Entity) → BothFound (IsWritten t left) a b → sent_with to messages (Some x) via b ≡ sent_with to messages (Some x) via a
  same_target to messages via None None both = refl
  same_target to messages via (Some a) (Some b) both = ap
      (λ (about : Listed). sent_with to messages (Some x) via (Some (record a { about = about })))
      both.about
  same_target to messages via None (Some b) both = absurd both
  same_target to messages via (Some a) None both = absurd both

  via_written : (to : Path) → is_via v to (Some x) ≡ not (is_same_entity to e.about.path)
  via_written to = ap (λ (o : Option Entity). is_other to o) own_written.1 ∙ ap (λ (about : Listed). not (is_same_entity to about.path)) own_written.2.about

  step_send : (path to : Path) (messages : List Message) → step_row t path (gathering_number s) (Send to messages) v ≡ read_send s t e x to messages
  step_send path to messages =
      ap (λ (o : Option Transaction). sent_with to messages o (is_via v to o) (if is_via v to o then None else entity_at to v)) gathering_found
      ∙ ap (λ (b : Bool). sent_with to messages (Some x) b (if b then None else entity_at to v)) (via_written to)
      ∙ at (not (is_same_entity to e.about.path))
    where
      at : (b : Bool) → sent_with to messages (Some x) b (if b then None else entity_at to v) ≡ sent_with to messages (Some x) b (if b then None else entity_at to s)
      at true = refl
      at false = same_target to messages false (entity_at to s) (entity_at to v) (written_at to)

  -- ---- a settlement

  -- where a session is claimed, only that it is held counts
  claims_alike : (token : Token) (row : Row) (a b : Option Session) → is_some b ≡ is_some a → claiming token b (λ claim. row) ≡ claiming token a (λ claim. row)
  claims_alike token row None None same = refl
  claims_alike token row (Some a) (Some b) same = refl
  claims_alike token row None (Some b) same = absurd cc
  claims_alike token row (Some a) None same = absurd cc

  found_alike : (b : Entity) (from : Path) (token : Token) (session : Option Token) (how : How) (o : Option StoredCopy) → settle_found v t b from token session how (Some x) o ≡ read_found s t x from token session how o
  found_alike b from token session how None = refl
  found_alike b from token session how (Some c) = ap (λ (y : Option Transaction). refused_by (pending y) (asks (has_room_in (Some x) 1) TxnFull (answers Queued (queueing t x (queued.Settle from c.number token session how))))) (queued_under token.lock)

  abbrev holder_asked : Space → Path → Option Token → Entity → Row → Row
  holder_asked space from session a row = asks_holder space t (leaf_of from.part a) session (λ claim. row)

  holder_alike : (from : Path) (session : Option Token) (row : Row) (a b : Entity) → IsWritten t left a b → holder_asked v from session b row ≡ holder_asked s from session a row
  holder_alike from None row a b is = refl
  holder_alike from (Some token) row a b is =
      claims_alike token row (held_session s t token (leaf_of from.part a)) (held_session v t token (leaf_of from.part b)) (holds_written t left s v token (leaf_of from.part a) (leaf_of from.part b) h.salt (part_written t left from.part a b is))

  -- the tests on what is listed of the entity, before the holder is asked
  abbrev tests_on : Path → Option Token → How → Entity → Row → Row
  tests_on from session how a row = asks (is_receivable a from.part) WrongKind (asks (goes_with how from.part) WrongKind (asks_session a from.part session (asks (is_on a (Some x)) TxnScope row)))

  tests_alike : (from : Path) (session : Option Token) (how : How) (row : Row) (a b : Entity) → b.about ≡ a.about → tests_on from session how b row ≡ tests_on from session how a row
  tests_alike from None how row a b same = ap (λ (about : Listed). tests_on from None how (record a { about = about }) row) same
  tests_alike from (Some token) how row a b same = ap (λ (about : Listed). tests_on from (Some token) how (record a { about = about }) row) same

  abbrev settled_with : Path → Which → Token → Option Token → How → Option Transaction → Entity → Row
  settled_with from which token session how o b =
      asks (is_receivable b from.part) WrongKind (asks (goes_with how from.part) WrongKind (asks_session b from.part session (asks (is_some o) TxnNotFound (asks (is_on b o) TxnScope
      (asks_holder v t (leaf_of from.part b) session (λ claim. settle_found v t b from token session how o (leased v t token which (leaf_of from.part b))))))))

  settled_alike : (from : Path) (which : Which) (token : Token) (session : Option Token) (how : How) (a b : Entity) → IsWritten t left a b
      → settled_with from which token session how (Some x) b ≡ tests_on from session how a (holder_asked s from session a (read_found s t x from token session how (leased s t token which (leaf_of from.part a))))
  settled_alike from which token session how a b is =
      ap (λ (o : Option StoredCopy). tests_on from session how b (holder_asked v from session b (settle_found v t b from token session how (Some x) o))) (leased_written t left s v token which (leaf_of from.part a) (leaf_of from.part b) h.salt (part_written t left from.part a b is))
      ∙ ap (λ (row : Row). tests_on from session how b (holder_asked v from session b row)) (found_alike b from token session how (leased s t token which (leaf_of from.part a)))
      ∙ ap (λ (row : Row). tests_on from session how b row) (holder_alike from session (read_found s t x from token session how (leased s t token which (leaf_of from.part a))) a b is)
      ∙ tests_alike from session how (holder_asked s from session a (read_found s t x from token session how (leased s t token which (leaf_of from.part a)))) a b is.about

  step_settle : (path from : Path) (which : Which) (token : Token) (session : Option Token) (how : How) → step_row t path (gathering_number s) (Settle from which token session how) v ≡ read_settle s t x from which token session how
  step_settle path from which token session how =
      ap (λ (o : Option Transaction). asks (is_address from) BadName (found_or (entity_at from v) EntityNotFound (settled_with from which token session how o))) gathering_found
      ∙ ap (λ (row : Row). asks (is_address from) BadName row) (at (entity_at from s) (entity_at from v) (written_at from))
    where
      at : (a b : Option Entity) → BothFound (IsWritten t left) a b
          → found_or b EntityNotFound (settled_with from which token session how (Some x))
          ≡ found_or a EntityNotFound (λ d. tests_on from session how d (holder_asked s from session d (read_found s t x from token session how (leased s t token which (leaf_of from.part d)))))
      at None None both = refl
      at (Some a) (Some b) both = settled_alike from which token session how a b both
      at None (Some b) both = absurd both
      at (Some a) None both = absurd both

  -- ---- a session's state

  abbrev set_in : Path → Token → Option (List ℕ) → Entity → Session → Row
  set_in from token state a y = asks (nat_le (size_of state) max_state) (TooLarge (size_of state)) (answers Done (if is_same_option y.state state then [] else InLeaf (record { entity = a.about.number; part = from.part }) (Writes token.lock state) ∷ []))

  abbrev set_with : Path → Token → Option (List ℕ) → Option Session → Entity → Row
  set_with from token state o a = asks (has_sessions a from.part) SessionNotAllowed (held_or o (set_in from token state a))

  set_alike : (from : Path) (token : Token) (state : Option (List ℕ)) (o : Option Session) (a b : Entity) → b.about ≡ a.about → set_with from token state o b ≡ set_with from token state o a
  set_alike from token state None a b same = ap (λ (about : Listed). set_with from token state None (record a { about = about })) same
  set_alike from token state (Some y) a b same = ap (λ (about : Listed). set_with from token state (Some y) (record a { about = about })) same

  set_written : (from : Path) (token : Token) (state : Option (List ℕ)) → left token.lock ≡ true → session_set_row v t from token state ≡ session_set_row s t from token state
  set_written from token state still = ap (λ (row : Row). asks (is_address from) BadName row) (at (entity_at from s) (entity_at from v) (written_at from)) where
    at : (a b : Option Entity) → BothFound (IsWritten t left) a b
        → found_or b EntityNotFound (λ d. set_with from token state (held_session v t token (leaf_of from.part d)) d) ≡ found_or a EntityNotFound (λ d. set_with from token state (held_session s t token (leaf_of from.part d)) d)
    at None None both = refl
    at (Some a) (Some b) both =
        ap (λ (o : Option Session). set_with from token state o b) (held_written t left s v token (leaf_of from.part a) (leaf_of from.part b) h.salt still (part_written t left from.part a b both))
        ∙ set_alike from token state (held_session s t token (leaf_of from.part a)) a b both.about
    at None (Some b) both = absurd both
    at (Some a) None both = absurd both

  -- ---- each operation

  -- the lock of the session that it sets is left
  abbrev pub IsLeft : Step → Type 0
  IsLeft one = (lock : ℕ) → sets_session lock one ≡ true → left lock ≡ true

  pub step_same : (path : Path) (one : Step) → IsLeft one → step_row t path (gathering_number s) one v ≡ read_step s t path e os one
  step_same path (Send to messages) still = step_send path to messages
  step_same path (Settle from which token session how) still = step_settle path from which token session how
  step_same path (SessionSet from session state) still = ap (λ (row : Row). asks (is_same_entity from path) TxnScope row) (set_written from session state (still session.lock (numbers_equal session.lock)))
