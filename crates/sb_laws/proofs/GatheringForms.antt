-- What a gathered operation changes: nothing, or it is queued, where a settlement's message was found under its lock, or the state of a
-- session is written.
use Rattle.std.proofs.Common.{Bool, List, None, Option, Some, [], ap, false, length, not, refl, subst, sym, true, ℕ, ◌&&◌, ◌==◌, ◌||◌, ◌∙◌, ◌∷◌, ◌≡◌}
use Rattle.std.specs.Prelude.{find, if◌then◌else◌, is_none, is_some, nat_le, option_map}
use Rattle.sb_laws.proofs.Eachs.{is_equal}
use Rattle.sb_laws.proofs.GatheringLists.{some_passes}
use Rattle.sb_laws.proofs.GatheringSteps.{IsRead}
use Rattle.sb_laws.proofs.Lists.{found_passes}
use Rattle.sb_laws.proofs.Rows.{Of, answered_so, asked, refused_so, refusing, with_entity, with_receivable}
use Rattle.sb_laws.proofs.Sameness.{numbers_equal, two}
use Rattle.sb_laws.specs.Gathered.{gathering, pending_with, read_found, read_send, read_settle, read_step}
use Rattle.sb_machine.specs.Claims.{asks_holder, asks_session, claiming, has_sessions}
use Rattle.sb_machine.specs.Delivery.{in_part}
use Rattle.sb_machine.specs.Fields.{bad_in_messages, sets_session}
use Rattle.sb_machine.specs.Leases.{held_session, is_living, is_named, leased}
use Rattle.sb_machine.specs.Names.{is_address, is_same_entity, is_same_option}
use Rattle.sb_machine.specs.Namespace.{entity_at, entity_of, leaf_of}
use Rattle.sb_machine.specs.Queueing.{has_room, queueing}
use Rattle.sb_machine.specs.Rows.{Row, answers, asks}
use Rattle.sb_machine.specs.SendRow.{have_sessions_at, is_destination, queued_send}
use Rattle.sb_machine.specs.Sending.{too_large}
use Rattle.sb_machine.specs.Sessions.{held_or, max_state, session_set_row, size_of}
use Rattle.sb_machine.specs.SettleRow.{pending}
use Rattle.sb_machine.specs.Settlement.{goes_with}
use Rattle.sb_machine.specs.Transactions.{is_lost}
use Rattle.sb_machine.specs.declared.call.How.{How}
use Rattle.sb_machine.specs.declared.call.Path.{Path}
use Rattle.sb_machine.specs.declared.call.Step.{Step}
use Rattle.sb_machine.specs.declared.call.Step.TheVariants.{Send, SessionSet, Settle}
use Rattle.sb_machine.specs.declared.call.Token.{Token}
use Rattle.sb_machine.specs.declared.call.Which.{Which}
use Rattle.sb_machine.specs.declared.call.Which.TheVariants.{Number}
use Rattle.sb_machine.specs.declared.change.Change.{Change}
use Rattle.sb_machine.specs.declared.change.Change.TheVariants.{InLeaf}
use Rattle.sb_machine.specs.declared.change.LeafChange.TheVariants.{Writes}
use Rattle.sb_machine.specs.declared.change.LeafKey.{LeafKey}
use Rattle.sb_machine.specs.declared.reply.Refusal.{Refusal}
use Rattle.sb_machine.specs.declared.reply.Refusal.TheVariants.{BadCall, BadName, EntityNotFound, SessionNotAllowed, SessionRequired, TooLarge, TxnFull, TxnScope, WrongKind}
use Rattle.sb_machine.specs.declared.reply.Reply.TheVariants.{Done}
use Rattle.sb_machine.specs.declared.state.Entity.{Entity}
use Rattle.sb_machine.specs.declared.state.Leaf.{Leaf}
use Rattle.sb_machine.specs.declared.state.Operation.{Operation}
use Rattle.sb_machine.specs.declared.state.Operation.TheVariants as queued
use Rattle.sb_machine.specs.declared.state.Session.{Session}
use Rattle.sb_machine.specs.declared.state.Space.{Space}
use Rattle.sb_machine.specs.declared.state.StoredCopy.{StoredCopy}
use Rattle.sb_machine.specs.declared.state.Transaction.{Transaction}
use Rattle.sb_model.specs.declared.message.Message.{Message}

-- what an operation changes
pub data Gathers (s : Space) (t : ℕ) (e : Entity) (os : List Operation) (one : Step) : List Change → Type 0 where
  changes_nothing : Gathers s t e os one []
  queues_one : (o : Operation) → is_lost s t e o ≡ false → Gathers s t e os one (queueing t (gathering s t e os) o)
  writes_state : (key : LeafKey) (lock : ℕ) (state : Option (List ℕ)) → sets_session lock one ≡ true → Gathers s t e os one (InLeaf key (Writes lock state) ∷ [])

abbrev pub Form : Space → ℕ → Entity → List Operation → Step → Row → Type 0
Form s t e os one row = Of (λ r. Unit {0}) (λ reply cs. Gathers s t e os one cs) row

module _ (s : Space) (t : ℕ) (e : Entity) (os : List Operation) (read : IsRead s e) where
  abbrev x : Transaction
  x = gathering s t e os

  send_form : (to : Path) (messages : List Message) → Form s t e os (Send to messages) (read_send s t e x to messages)
  send_form to messages =
      refusing (option_map (λ key. BadCall key) (bad_in_messages (not (is_same_entity to e.about.path)) messages)) _ (λ r is. tt) (λ good.
      asked (is_address to) BadName _ tt (λ named.
      asked (not (is_same_entity to e.about.path) || is_some (if not (is_same_entity to e.about.path) then None else entity_at to s)) EntityNotFound _ tt (λ there.
      asked (is_destination to) WrongKind _ tt (λ goes.
      asked (have_sessions_at (if not (is_same_entity to e.about.path) then None else entity_at to s) messages) SessionRequired _ tt (λ sessions.
      asked (has_room x (length messages)) TxnFull _ tt (λ room.
      refusing (too_large messages) _ (λ r is. tt) (λ small. answered_so (at messages))))))))
    where
      at : (ms : List Message) → Gathers s t e os (Send to messages) (queued_send t to ms x)
      at [] = changes_nothing
      at (m ∷ ms) = queues_one (queued.Send to (m ∷ ms)) refl

  -- a message that is found under a lock is found by its number under that lock
  numbered_so : (token : Token) (which : Which) (leaf : Leaf) (c : StoredCopy) → leased s t token which leaf ≡ Some c → is_none (leased s t token (Number c.number) leaf) ≡ false
  numbered_so token which leaf c is = at (token.salt == s.salt) refl where
    at : (b : Bool) → (token.salt == s.salt) ≡ b → is_none (leased s t token (Number c.number) leaf) ≡ false
    at false other = let bad : None ≡ Some c = rw other at is in absurd cc
    at true same =
        let there : find (λ d. is_living t leaf.sessions token.lock d.standing && is_named which d) leaf.copies ≡ Some c = rw same at is in
        let living = two (is_living t leaf.sessions token.lock c.standing) (is_named which c) (found_passes (λ d. is_living t leaf.sessions token.lock d.standing && is_named which d) c leaf.copies there) in
        let passes : (is_living t leaf.sessions token.lock c.standing && (c.number == c.number)) ≡ true = rw (living.0, numbers_equal c.number) refl in
        let some = some_passes (λ d. is_living t leaf.sessions token.lock d.standing && is_named which d) (λ d. is_living t leaf.sessions token.lock d.standing && (d.number == c.number)) c leaf.copies there passes in
        rw (same, some.1) refl

  -- the entity of an address is the transaction's, where it has its number
  own_entity : (path : Path) (a : Entity) → entity_at path s ≡ Some a → (e.about.number == a.about.number) ≡ true → a ≡ e
  own_entity path a there is =
      let mine : entity_of a.about.number s ≡ Some a = read.numbered path a there in
      let same : entity_of a.about.number s ≡ Some e = ap (λ (n : ℕ). entity_of n s) (sym (is_equal e.about.number a.about.number is)) ∙ read.own in
      cc

  settle_form : (from : Path) (which : Which) (token : Token) (session : Option Token) (how : How) → Form s t e os (Settle from which token session how) (read_settle s t x from which token session how)
  settle_form from which token session how = with_receivable s from _ tt tt tt (λ a there. asked (goes_with how from.part) WrongKind _ tt (λ goes. claimed a there session)) where
    pending_so : (o : Option Transaction) (r : Refusal) → pending o ≡ Some r → Unit {0}
    pending_so o r is = tt

    at : (a : Entity) → entity_at from s ≡ Some a → (x.entity == a.about.number) ≡ true → (o : Option StoredCopy) → leased s t token which (leaf_of from.part a) ≡ o → Form s t e os (Settle from which token session how) (read_found s t x from token session how o)
    at a there on None is = refused_so tt
    at a there on (Some c) is = refusing (pending (pending_with token.lock s x)) _ (pending_so (pending_with token.lock s x)) (λ none. asked (has_room x 1) TxnFull _ tt (λ room.
        answered_so (queues_one (queued.Settle from c.number token session how)
        (numbered_so token which (leaf_of from.part e) c (subst (λ (d : Entity). leased s t token which (leaf_of from.part d) ≡ Some c) (own_entity from a there on) is)))))

    claimed : (a : Entity) → entity_at from s ≡ Some a → (key : Option Token)
        → Form s t e os (Settle from which token session how) (asks_session a from.part key (asks (x.entity == a.about.number) TxnScope (asks_holder s t (leaf_of from.part a) key (λ claim. read_found s t x from token session how (leased s t token which (leaf_of from.part a))))))
    claimed a there None = asked (not (has_sessions a from.part)) SessionRequired _ tt (λ free. asked (x.entity == a.about.number) TxnScope _ tt (λ on. at a there on (leased s t token which (leaf_of from.part a)) refl))
    claimed a there (Some key) = asked (has_sessions a from.part) SessionNotAllowed _ tt (λ has. asked (x.entity == a.about.number) TxnScope _ tt (λ on. held (held_session s t key (leaf_of from.part a)) on)) where
      held : (o : Option Session) → (x.entity == a.about.number) ≡ true → Form s t e os (Settle from which token session how) (claiming key o (λ claim. read_found s t x from token session how (leased s t token which (leaf_of from.part a))))
      held None on = refused_so tt
      held (Some y) on = at a there on (leased s t token which (leaf_of from.part a)) refl

  set_form : (from : Path) (session : Token) (state : Option (List ℕ)) → Form s t e os (SessionSet from session state) (session_set_row s t from session state)
  set_form from session state = with_entity s from _ tt tt (λ a there. asked (has_sessions a from.part) SessionNotAllowed _ tt (λ has. held a (held_session s t session (leaf_of from.part a)))) where
    written : (a : Entity) (b : Bool) → Gathers s t e os (SessionSet from session state) (if b then [] else in_part from.part a (Writes session.lock state) ∷ [])
    written a true = changes_nothing
    written a false = writes_state (record { entity = a.about.number; part = from.part }) session.lock state (numbers_equal session.lock)

    held : (a : Entity) (o : Option Session) → Form s t e os (SessionSet from session state) (held_or o (λ y. asks (nat_le (size_of state) max_state) (TooLarge (size_of state)) (answers Done (if is_same_option y.state state then [] else in_part from.part a (Writes session.lock state) ∷ []))))
    held a None = refused_so tt
    held a (Some y) = asked (nat_le (size_of state) max_state) (TooLarge (size_of state)) _ tt (λ small. answered_so (written a (is_same_option y.state state)))

  pub step_form : (path : Path) (one : Step) → Form s t e os one (read_step s t path e os one)
  step_form path (Send to messages) = send_form to messages
  step_form path (Settle from which token session how) = settle_form from which token session how
  step_form path (SessionSet from session state) = asked (is_same_entity from path) TxnScope _ tt (λ same. set_form from session state)
