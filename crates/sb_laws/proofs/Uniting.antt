-- Operations that act together: a begin, each operation in the transaction, and the commit, one behind another.
use Rattle.std.proofs.Common.{Bool, List, None, Option, Some, [], ap, append_assoc, false, find, is_none, length, nat_le, nat_lt, not, refl, subst, sym, true, ℕ, ◌&&◌, ◌++◌, ◌+◌, ◌==◌, ◌||◌, ◌∙◌, ◌∷◌, ◌≡◌}
use Rattle.std.proofs.lemmas.List.Elements.{filter-append}
use Rattle.std.specs.List.{position}
use Rattle.std.specs.Prelude.{if◌then◌else◌, is_some, option_map, sum_by}
use Rattle.sb_laws.proofs.Calm.{IsCalm, commit_calm}
use Rattle.sb_laws.proofs.Eachs.{is_equal}
use Rattle.sb_laws.proofs.Entities.{IsOrdered}
use Rattle.sb_laws.proofs.Lists.{found_behind, found_here, found_passes}
use Rattle.sb_laws.proofs.Moves.{by_number}
use Rattle.sb_laws.proofs.Rows.{Of, answered_so, asked, counted, found, implied, of_both, of_filling, of_itself, of_then, refused_so, refusing, with_entity, with_receivable}
use Rattle.sb_laws.proofs.Sameness.{numbers_equal, two}
use Rattle.sb_laws.proofs.Ways.{NoFault, Way, accepts, begins, large}
use Rattle.sb_laws.specs.InTurn.{act_of}
use Rattle.sb_machine.specs.Acts.{act_row}
use Rattle.sb_machine.specs.Changes.{after, after_all, in_turn}
use Rattle.sb_machine.specs.Claims.{asks_holder, asks_session, claiming, has_sessions}
use Rattle.sb_machine.specs.Delivery.{in_part}
use Rattle.sb_machine.specs.Each.{Each}
use Rattle.sb_machine.specs.Fields.{Key, bad_in_messages}
use Rattle.sb_machine.specs.Leases.{held_session, is_living, is_named, leased}
use Rattle.sb_machine.specs.Names.{is_address, is_same_entity, is_same_option}
use Rattle.sb_machine.specs.Namespace.{entity_at, entity_of, leaf_of}
use Rattle.sb_machine.specs.Parts.{at_part, at_part_or_whole}
use Rattle.sb_machine.specs.Queueing.{has_room_in, is_open, max_operations, open_in, transaction_of, txn_life}
use Rattle.sb_machine.specs.Rows.{Row, answers, asks, refuses}
use Rattle.sb_machine.specs.SendRow.{have_sessions_at, is_destination, is_via, queued_send, send_row, sent_or_queued}
use Rattle.sb_machine.specs.Sending.{too_large}
use Rattle.sb_machine.specs.Sessions.{held_or, max_state, session_set_row, size_of}
use Rattle.sb_machine.specs.SettleRow.{is_on, pending, pending_in, settle_found, settle_row}
use Rattle.sb_machine.specs.Settlement.{goes_with}
use Rattle.sb_machine.specs.Together.{are_addressed, commit_steps, committed_receipts, fitting, large_steps, step_path, step_replies, step_row, step_weight, steps_row, together_row, unaddressed, unqueued, with_replies, is_queueing}
use Rattle.sb_machine.specs.Transactions.{aborted_by, begin_row, commit_changes, commit_row, committed, is_lost, max_transactions, operation_changes}
use Rattle.sb_machine.specs.declared.call.Act.{Act}
use Rattle.sb_machine.specs.declared.call.Act.TheVariants.{Begin, Commit, Send, SessionSet, Settle, Together}
use Rattle.sb_machine.specs.declared.call.How.{How}
use Rattle.sb_machine.specs.declared.call.Part.{Part}
use Rattle.sb_machine.specs.declared.call.Path.{Path}
use Rattle.sb_machine.specs.declared.call.Step.{Step}
use Rattle.sb_machine.specs.declared.call.Step.TheVariants.{Send as StepSend, Settle as StepSettle, SessionSet as StateSet}
use Rattle.sb_machine.specs.declared.call.Token.{Token}
use Rattle.sb_machine.specs.declared.call.Which.TheVariants.{Number}
use Rattle.sb_machine.specs.declared.call.Which.{Which}
use Rattle.sb_machine.specs.declared.change.Change.{Change}
use Rattle.sb_machine.specs.declared.change.Change.TheVariants.{Begins, Drops, InLeaf, Queues}
use Rattle.sb_machine.specs.declared.change.LeafChange.TheVariants.{Writes}
use Rattle.sb_machine.specs.declared.change.LeafKey.{LeafKey}
use Rattle.sb_machine.specs.declared.reply.Refusal.{Refusal}
use Rattle.sb_machine.specs.declared.reply.Refusal.TheVariants as refused
use Rattle.sb_machine.specs.declared.reply.Refusal.TheVariants.{BadCall, BadName, EntityNotFound, SessionNotAllowed, SessionRequired, TooLarge, TxnFull, TxnNotFound, TxnScope, TxnsFull, WrongKind}
use Rattle.sb_machine.specs.declared.reply.Reply.{Reply}
use Rattle.sb_machine.specs.declared.reply.Reply.TheVariants.{Aborted, Begun, Committed, Done, Together as Told}
use Rattle.sb_machine.specs.declared.reply.StepReply.{StepReply}
use Rattle.sb_machine.specs.declared.state.Entity.{Entity}
use Rattle.sb_machine.specs.declared.state.Leaf.{Leaf}
use Rattle.sb_machine.specs.declared.state.Operation.{Operation}
use Rattle.sb_machine.specs.declared.state.Operation.TheVariants.{Send as SendLater, Settle as SettleLater}
use Rattle.sb_machine.specs.declared.state.Session.{Session}
use Rattle.sb_machine.specs.declared.state.Space.{Space}
use Rattle.sb_machine.specs.declared.state.StoredCopy.{StoredCopy}
use Rattle.sb_machine.specs.declared.state.Transaction.{Transaction}
use Rattle.sb_model.specs.declared.message.Message.{Message}

-- ---- what fills a transaction

-- it queues an operation in the transaction n, or writes what a session remembers
pub data IsFilling (n : ℕ) : Change → Type 0 where
  fills_queue : (k deadline : ℕ) (o : Operation) → k ≡ n → IsFilling n (Queues k deadline o)
  fills_write : (key : LeafKey) (lock : ℕ) (bytes : Option (List ℕ)) → IsFilling n (InLeaf key (Writes lock bytes))

-- the first bad field of a send's messages, where it is judged in the transaction
abbrev pub bad_there : Space → ℕ → Step → Key
bad_there s n (StepSend to messages) = bad_in_messages (is_via s to (open_in (Some n) s)) messages
bad_there s n _ = None

-- what is queued there finds its message
abbrev pub IsFound : Space → ℕ → ℕ → Change → Type 0
IsFound s t n (Queues k deadline o) = (x : Transaction) → transaction_of n s ≡ Some x → (e : Entity) → entity_of x.entity s ≡ Some e → is_lost s t e o ≡ false
IsFound s t n _ = Unit {0}

-- an operation is accepted
pub record IsFilled (s : Space) (t n : ℕ) (x : Step) (reply : Reply) (cs : List Change) : Type 0 where
  pub way : Way s t (act_of n x) reply cs
  pub row : act_row s t (act_of n x) ≡ answers reply cs
  pub messages : bad_there s n x ≡ None
  pub filling : Each (IsFilling n) cs
  pub finds : IsOrdered s → Each (IsFound s t n) cs

-- operations are accepted one behind another, with these changes, and lead from a namespace to another
pub data Fills (t n : ℕ) : List Step → Space → List Change → Space → Type 0 where
  fills_none : {s : Space} → Fills t n [] s [] s
  fills_one : {x : Step} {xs : List Step} {s later : Space} {reply : Reply} {cs ds : List Change} → IsFilled s t n x reply cs → Fills t n xs (after_all t cs s) ds later → Fills t n (x ∷ xs) s (cs ++ ds) later

-- a transaction ends, and the rest is calm
pub record EndsCalmly (n : ℕ) (cs : List Change) : Type 0 where
  pub rest : List Change
  pub ends : cs ≡ Drops n ∷ rest
  pub calm : Each (IsCalm true) rest

-- a transaction is committed, or one of its settlements found its message no more
pub data IsEnding : Reply → Type 0 where
  ends_done : IsEnding Committed
  ends_lost : (part : Part) (number : ℕ) → IsEnding (Aborted part number)

-- a commit is accepted
pub record IsCommitted (s : Space) (t n : ℕ) (reply : Reply) (cs : List Change) : Type 0 where
  pub way : Way s t (Commit n) reply cs
  pub row : act_row s t (Commit n) ≡ answers reply cs
  pub calmly : EndsCalmly n cs
  pub ending : IsEnding reply

-- what a commit's reply is told as
abbrev pub told_as : List StepReply → Reply → Reply
told_as replies Committed = Told replies
told_as replies reply = reply

-- operations and the commit behind them
pub record Filled (t n : ℕ) (all steps : List Step) (s : Space) (reply : Reply) (cs : List Change) : Type 0 where
  pub filled : List Change
  pub later : Space
  pub fills : Fills t n steps s filled later
  pub answer : Reply
  pub done : List Change
  pub commits : IsCommitted later t n answer done
  pub changes : cs ≡ unqueued filled ++ done
  pub reply_is : reply ≡ told_as (step_replies all (committed_receipts later t (transaction_of n later))) answer

-- all of it
pub record Unites (s : Space) (t : ℕ) (path : Path) (steps : List Step) (reply : Reply) (cs : List Change) : Type 0 where
  pub entity : Entity
  pub way : Way s t (Begin path) (Begun (s.last_txn + 1)) (Begins entity.about.number (t + txn_life) ∷ [])
  pub row : act_row s t (Begin path) ≡ answers (Begun (s.last_txn + 1)) (Begins entity.about.number (t + txn_life) ∷ [])
  pub behind_it : List Change
  pub filled : Filled t (s.last_txn + 1) steps steps (after t (Begins entity.about.number (t + txn_life)) s) reply behind_it
  pub changes : cs ≡ Begins entity.about.number (t + txn_life) ∷ behind_it

-- an accepted act: it is one by itself, or operations act together
pub data Does (s : Space) (t : ℕ) : Act → Reply → List Change → Type 0 where
  does_one : {act : Act} {reply : Reply} {cs : List Change} → Way s t act reply cs → Does s t act reply cs
  does_many : {path : Path} {steps : List Step} {reply : Reply} {cs : List Change} → Unites s t path steps reply cs → Does s t (Together path steps) reply cs

-- ---- the changes of each row

pub some_one : {X : Type 0} (x y : X) → ◌≡◌ {A = Option X} (Some x) (Some y) → x ≡ y
some_one x y same = cc

-- where one passes that another test finds, one is found
found_also : {X : Type 0} (p q : X → Bool) (x : X) (xs : List X) → find p xs ≡ Some x → q x ≡ true → is_none (find q xs) ≡ false
found_also p q x [] found passes = absurd cc
found_also {X = X} p q x (y ∷ ys) found passes = at (q y) refl (p y) refl (found_also p q x ys) where
  at : (b : Bool) → q y ≡ b → (c : Bool) → p y ≡ c → (find p ys ≡ Some x → q x ≡ true → is_none (find q ys) ≡ false) → is_none (find q (y ∷ ys)) ≡ false
  at true is c so ih = rw is refl
  at false is true here ih = let bad : false ≡ true = sym is ∙ subst (λ (z : X). q z ≡ true) (sym (found_here p y x ys here found)) passes in absurd cc
  at false is false here ih = rw is (ih (found_behind p y ys (Some x) here found) passes)

module _ (s : Space) (t n : ℕ) where
  abbrev FillsRow : Row → Type 0
  FillsRow row = Of (λ r. Unit {0}) (λ reply cs. Each (IsFilling n) cs × (IsOrdered s → Each (IsFound s t n) cs)) row

  -- the transaction that is open under a number has it
  own_number : (x : Transaction) → transaction_of n s ≡ Some x → x.number ≡ n
  own_number x is = is_equal x.number n (found_passes _ x s.transactions is)

  send_fills : (to : Path) (ms : List Message) → FillsRow (send_row s t to ms (Some n))
  send_fills to ms =
      asked (is_address to) BadName _ tt (λ named.
      asked (is_via s to (open_in (Some n) s) || is_some (if is_via s to (open_in (Some n) s) then None else entity_at to s)) EntityNotFound _ tt (λ there.
      asked (is_destination to) WrongKind _ tt (λ goes.
      asked (have_sessions_at (if is_via s to (open_in (Some n) s) then None else entity_at to s) ms) SessionRequired _ tt (λ sessions.
      asked (is_open (Some n) s) TxnNotFound _ tt (λ open_so.
      asked (has_room_in (open_in (Some n) s) (length ms)) TxnFull _ tt (λ room.
      refusing (too_large ms) _ (λ r so. tt) (λ small.
      at (transaction_of n s) refl open_so))))))) where
        of_messages : (ms : List Message) (x : Transaction) → x.number ≡ n → Each (IsFilling n) (queued_send t to ms x) × (IsOrdered s → Each (IsFound s t n) (queued_send t to ms x))
        of_messages [] x same = (tt, λ ordered. tt)
        of_messages (m ∷ ms) x same = ((fills_queue x.number _ _ same, tt), λ ordered. ((λ y found d at. refl), tt))

        at : (o : Option Transaction) → transaction_of n s ≡ o → is_some o ≡ true → FillsRow (sent_or_queued s t to ms (if is_via s to o then None else entity_at to s) o)
        at None is open_so = absurd cc
        at (Some x) is open_so = answered_so (of_messages ms x (own_number x is))

  -- a copy that was found is found by its number
  found_again : (token : Token) (which : Which) (leaf : Leaf) (c : StoredCopy) → leased s t token which leaf ≡ Some c → is_none (leased s t token (Number c.number) leaf) ≡ false
  found_again token which leaf c is = by (token.salt == s.salt) is where
    passes : find (λ d. is_living t leaf.sessions token.lock d.standing && is_named which d) leaf.copies ≡ Some c → (is_living t leaf.sessions token.lock c.standing && (c.number == c.number)) ≡ true
    passes found = rw ((two (is_living t leaf.sessions token.lock c.standing) (is_named which c) (found_passes (λ d. is_living t leaf.sessions token.lock d.standing && is_named which d) c leaf.copies found)).0, numbers_equal c.number) refl

    by : (b : Bool) → (if b then find (λ d. is_living t leaf.sessions token.lock d.standing && is_named which d) leaf.copies else None) ≡ Some c
        → is_none (if b then find (λ d. is_living t leaf.sessions token.lock d.standing && (d.number == c.number)) leaf.copies else None) ≡ false
    by true found = found_also (λ d. is_living t leaf.sessions token.lock d.standing && is_named which d) (λ d. is_living t leaf.sessions token.lock d.standing && (d.number == c.number)) c leaf.copies found (passes found)
    by false found = absurd cc

  settle_fills : (from : Path) (which : Which) (token : Token) (session : Option Token) (how : How) → FillsRow (settle_row s t from which token session how (Some n))
  settle_fills from which token session how = with_receivable s from _ tt tt tt (λ e there. asked (goes_with how from.part) WrongKind _ tt (λ goes. claimed e there session)) where
    found : (e : Entity) → entity_at from s ≡ Some e → (x : Transaction) → transaction_of n s ≡ Some x → is_on e (Some x) ≡ true → (c : StoredCopy) → leased s t token which (leaf_of from.part e) ≡ Some c
        → (session : Option Token) → IsOrdered s → (y : Transaction) → transaction_of n s ≡ Some y → (d : Entity) → entity_of y.entity s ≡ Some d → is_lost s t d (SettleLater from c.number token session how) ≡ false
    found e there x is on c held session ordered y found_y d at_d =
        let same_txn : x ≡ y = some_one x y (sym is ∙ found_y) in
        let number_is : y.entity ≡ e.about.number = subst (λ (z : Transaction). z.entity ≡ e.about.number) same_txn (is_equal x.entity e.about.number on) in
        let same_entity : e ≡ d = some_one e d (sym (by_number s t ordered from e there) ∙ subst (λ (k : ℕ). entity_of k s ≡ Some d) number_is at_d) in
        subst (λ (z : Entity). is_none (leased s t token (Number c.number) (leaf_of from.part z)) ≡ false) same_entity (found_again token which (leaf_of from.part e) c held)

    on : (e : Entity) → entity_at from s ≡ Some e → (session : Option Token) (o : Option Transaction) → transaction_of n s ≡ o → is_some o ≡ true → is_on e o ≡ true → (c : Option StoredCopy) → leased s t token which (leaf_of from.part e) ≡ c → FillsRow (settle_found s t e from token session how o c)
    on e there session o is open_so own None held = refused_so tt
    on e there session None is open_so own (Some c) held = absurd cc
    on e there session (Some x) is open_so own (Some c) held = refusing (pending (pending_in token.lock s)) _ (λ r so. tt) (λ none. asked (has_room_in (Some x) 1) TxnFull _ tt (λ room.
        answered_so ((fills_queue x.number _ _ (own_number x is), tt), λ ordered. ((λ y found_y d at_d. found e there x is own c held session ordered y found_y d at_d), tt))))

    claimed : (e : Entity) → entity_at from s ≡ Some e → (session : Option Token)
        → FillsRow (asks_session e from.part session (asks (is_open (Some n) s) TxnNotFound (asks (is_on e (transaction_of n s)) TxnScope (asks_holder s t (leaf_of from.part e) session (λ claim. settle_found s t e from token session how (transaction_of n s) (leased s t token which (leaf_of from.part e)))))))
    claimed e there None = asked (not (has_sessions e from.part)) SessionRequired _ tt (λ is. asked (is_open (Some n) s) TxnNotFound _ tt (λ open_so. asked (is_on e (transaction_of n s)) TxnScope _ tt (λ own. on e there None (transaction_of n s) refl open_so own (leased s t token which (leaf_of from.part e)) refl)))
    claimed e there (Some key) = asked (has_sessions e from.part) SessionNotAllowed _ tt (λ is. asked (is_open (Some n) s) TxnNotFound _ tt (λ open_so. asked (is_on e (transaction_of n s)) TxnScope _ tt (λ own. at (held_session s t key (leaf_of from.part e)) open_so own))) where
      at : (x : Option Session) → is_some (transaction_of n s) ≡ true → is_on e (transaction_of n s) ≡ true → FillsRow (claiming key x (λ claim. settle_found s t e from token (Some key) how (transaction_of n s) (leased s t token which (leaf_of from.part e))))
      at None open_so own = refused_so tt
      at (Some x) open_so own = on e there (Some key) (transaction_of n s) refl open_so own (leased s t token which (leaf_of from.part e)) refl

  set_fills : (from : Path) (token : Token) (bytes : Option (List ℕ)) → FillsRow (session_set_row s t from token bytes)
  set_fills from token bytes = with_entity s from _ tt tt (λ e there. asked (has_sessions e from.part) SessionNotAllowed _ tt (λ has. at e (held_session s t token (leaf_of from.part e)))) where
    at : (e : Entity) (o : Option Session) → FillsRow (held_or o (λ x. asks (nat_le (size_of bytes) max_state) (TooLarge (size_of bytes)) (answers Done (if is_same_option x.state bytes then [] else in_part from.part e (Writes token.lock bytes) ∷ []))))
    at e None = refused_so tt
    at e (Some x) = asked (nat_le (size_of bytes) max_state) (TooLarge (size_of bytes)) _ tt (λ small. go (is_same_option x.state bytes)) where
      go : (b : Bool) → FillsRow (answers Done (if b then [] else in_part from.part e (Writes token.lock bytes) ∷ []))
      go true = answered_so (tt, λ ordered. tt)
      go false = answered_so ((fills_write _ token.lock bytes, tt), λ ordered. (tt, tt))

  ending_of : (o : Operation) → IsEnding (aborted_by o)
  ending_of (SendLater to messages) = ends_done
  ending_of (SettleLater from number token session how) = ends_lost from.part number

  commit_ends : Of (λ r. Unit {0}) (λ reply cs. EndsCalmly n cs × IsEnding reply) (commit_row s t n)
  commit_ends = found (transaction_of n s) TxnNotFound _ tt (λ x there. found (entity_of x.entity s) EntityNotFound _ tt (λ e on. at x (own_number x there) e (find (is_lost s t e) x.operations))) where
    at : (x : Transaction) → x.number ≡ n → (e : Entity) (o : Option Operation) → Of (λ r. Unit {0}) (λ reply cs. EndsCalmly n cs × IsEnding reply) (committed s t x e o)
    at x same e (Some o) = answered_so (record { rest = []; ends = ap (λ (k : ℕ). Drops k ∷ []) same; calm = tt }, ending_of o)
    at x same e None =
        let rest = in_turn (operation_changes t e) t x.operations (after t (Drops x.number) s) in
        counted t s (commit_changes t e x s) Committed tt (record { rest = rest; ends = ap (λ (k : ℕ). Drops k ∷ rest) same; calm = (commit_calm t e x s).1 }, ends_done)

  -- ---- each row

  bad_messages : (key : Key) (r : Refusal) → option_map (λ key. BadCall key) key ≡ Some r → NoFault r
  bad_messages None r e = absurd cc
  bad_messages (Some key) r e = let it : BadCall key ≡ r = cc in subst NoFault it refl

  good_messages : (key : Key) → option_map (λ key. BadCall key) key ≡ None → key ≡ None
  good_messages None e = refl
  good_messages (Some key) e = absurd cc

  step_so : (path : Path) (x : Step) → Of NoFault (IsFilled s t n x) (step_row t path n x s)
  step_so path (StepSend to ms) = refusing (option_map (λ key. BadCall key) (bad_in_messages (is_via s to (open_in (Some n) s)) ms)) (send_row s t to ms (Some n)) (bad_messages (bad_in_messages (is_via s to (open_in (Some n) s)) ms)) (λ none.
      implied _ (IsFilled s t n (StepSend to ms)) (λ reply cs h. record { way = h.0.0; row = h.0.1; messages = good_messages (bad_in_messages (is_via s to (open_in (Some n) s)) ms) none; filling = h.1.0; finds = h.1.1 })
      (of_both (send_row s t to ms (Some n)) (of_itself (send_row s t to ms (Some n)) (accepts s t (Send to ms (Some n)) refl)) (send_fills to ms)))
  step_so path (StepSettle from which token session how) =
      implied _ (IsFilled s t n (StepSettle from which token session how)) (λ reply cs h. record { way = h.0.0; row = h.0.1; messages = refl; filling = h.1.0; finds = h.1.1 })
      (of_both (settle_row s t from which token session how (Some n)) (of_itself (settle_row s t from which token session how (Some n)) (accepts s t (Settle from which token session how (Some n)) refl)) (settle_fills from which token session how))
  step_so path (StateSet from token bytes) = asked (is_same_entity from path) TxnScope (session_set_row s t from token bytes) refl (λ same.
      implied _ (IsFilled s t n (StateSet from token bytes)) (λ reply cs h. record { way = h.0.0; row = h.0.1; messages = refl; filling = h.1.0; finds = h.1.1 })
      (of_both (session_set_row s t from token bytes) (of_itself (session_set_row s t from token bytes) (accepts s t (SessionSet from token bytes) refl)) (set_fills from token bytes)))

  commit_so : Of NoFault (IsCommitted s t n) (commit_row s t n)
  commit_so = implied _ (IsCommitted s t n) (λ reply cs h. record { way = h.0.0; row = h.0.1; calmly = h.1.0; ending = h.1.1 }) (of_both (commit_row s t n) (of_itself (commit_row s t n) (accepts s t (Commit n) refl)) commit_ends)

-- ---- which operation is refused

-- the refusal of one of them is no more a fault than it is alone
pub part_no_fault : (i : ℕ) (r : Refusal) → NoFault r → NoFault (at_part i r)
part_no_fault i (refused.BadCall key) h = refl
part_no_fault i refused.EntityNotFound h = refl
part_no_fault i refused.EntityExists h = h
part_no_fault i refused.BadName h = refl
part_no_fault i (refused.BadDescription field) h = h
part_no_fault i (refused.BadFilter at) h = h
part_no_fault i refused.WrongKind h = refl
part_no_fault i (refused.TooLarge size) h = refl
part_no_fault i (refused.QuotaExceeded copies adds) h = h
part_no_fault i refused.SessionRequired h = refl
part_no_fault i refused.SessionNotAllowed h = refl
part_no_fault i (refused.SessionHeld until) h = h
part_no_fault i refused.SessionLost h = refl
part_no_fault i refused.LockLost h = refl
part_no_fault i refused.NotDeferred h = h
part_no_fault i refused.NotScheduled h = h
part_no_fault i refused.TxnNotFound h = h
part_no_fault i (refused.TxnPending txn) h = refl
part_no_fault i refused.TxnScope h = refl
part_no_fault i refused.TxnFull h = refl
part_no_fault i (refused.StaleNumber kept) h = h
part_no_fault i refused.NumberReused h = h
part_no_fault i refused.ClientsFull h = h
part_no_fault i refused.ClientNotFound h = h
part_no_fault i refused.TxnsFull h = h
part_no_fault i refused.Exhausted h = h
part_no_fault i (refused.InPart part why) h = h
part_no_fault i refused.DiskFault h = h
part_no_fault i (refused.Stopped faults) h = h
part_no_fault i refused.OutOfMemory h = h

whole_no_fault : (part : Option ℕ) → NoFault (at_part_or_whole part BadName)
whole_no_fault None = refl
whole_no_fault (Some i) = refl

-- ---- one behind another

of_replied : {R : Refusal → Type 0} {P : Reply → List Change → Type 0} (replies : List StepReply) (row : Row) → Of R P row → Of R (λ reply cs. (answer : Reply) × P answer cs × (reply ≡ told_as replies answer)) (with_replies replies row)
of_replied replies (refuses r) (refused_so h) = refused_so h
of_replied replies (answers Committed cs) (answered_so h) = answered_so (Committed, h, refl)
of_replied replies (answers reply cs) (answered_so h) = answered_so (reply, h, refl)

module _ (t n : ℕ) (path : Path) (all : List Step) where
  steps_so : (xs : List Step) (i : ℕ) (s : Space) → Of NoFault (Filled t n all xs s) (steps_row i t path n (commit_steps t n all) xs s)
  steps_so [] i s =
      let replies = step_replies all (committed_receipts s t (transaction_of n s)) in
      implied _ (Filled t n all [] s) (λ reply cs h. record { filled = []; later = s; fills = fills_none; answer = h.0; done = cs; commits = h.1; changes = refl; reply_is = h.2 }) (of_replied replies (commit_row s t n) (commit_so s t n))
  steps_so (x ∷ xs) i s = of_filling {P = Filled t n all (x ∷ xs) s} i t s (step_row t path n x s) (steps_row (i + 1) t path n (commit_steps t n all) xs) (part_no_fault i) (step_so s t n path x) (λ reply cs h.
      implied (Filled t n all xs (after_all t cs s)) (λ told ds. Filled t n all (x ∷ xs) s told (unqueued cs ++ ds)) (λ told ds f. record {
        filled = cs ++ f.filled;
        later = f.later;
        fills = fills_one h f.fills;
        answer = f.answer;
        done = f.done;
        commits = f.commits;
        changes = ap (λ (l : List Change). unqueued cs ++ l) f.changes ∙ sym (append_assoc (unqueued cs) (unqueued f.filled) f.done) ∙ ap (λ (l : List Change). l ++ f.done) (sym (filter-append (λ c. not (is_queueing c)) cs f.filled));
        reply_is = f.reply_is;
      }) (steps_so xs (i + 1) (after_all t cs s)))

module _ (s : Space) (t : ℕ) where
  data IsBegun (path : Path) : Reply → List Change → Type 0 where
    begun : (e : Entity) → Way s t (Begin path) (Begun (s.last_txn + 1)) (Begins e.about.number (t + txn_life) ∷ []) → IsBegun path (Begun (s.last_txn + 1)) (Begins e.about.number (t + txn_life) ∷ [])

  begin_so : (path : Path) → Of NoFault (IsBegun path) (begin_row s t path)
  begin_so path = with_entity s path _ refl refl (λ e there. asked (nat_lt (length s.transactions) max_transactions) TxnsFull _ refl (λ few. answered_so (begun e (begins e there few))))

  pub together_so : (path : Path) (steps : List Step) → Of NoFault (Unites s t path steps) (together_row s t path steps)
  together_so path steps = of_then {P = Unites s t path steps} t s (begin_row s t path) next (of_itself (begin_row s t path) (begin_so path)) filled where
    n : ℕ
    n = s.last_txn + 1

    next : Space → Row
    next now = fitting steps (steps_row 0 t path (s.last_txn + 1) (commit_steps t (s.last_txn + 1) steps) steps now)

    filled : (reply : Reply) (cs : List Change) → IsBegun path reply cs × (begin_row s t path ≡ answers reply cs) → Of NoFault (λ told ds. Unites s t path steps told (cs ++ ds)) (next (after_all t cs s))
    filled _ _ (begun e way, is) =
        asked (are_addressed steps) (unaddressed steps) _ (whole_no_fault (position (λ x. not (is_address (step_path x))) steps)) (λ named.
        asked (nat_le (sum_by step_weight steps) max_operations) TxnFull _ refl (λ few.
        refusing (option_map (λ size. TooLarge size) (large_steps steps)) _ (large s t (large_steps steps)) (λ small.
        implied _ (λ told ds. Unites s t path steps told (Begins e.about.number (t + txn_life) ∷ ds)) (λ told ds f. record { entity = e; way = way; row = is; behind_it = ds; filled = f; changes = refl })
        (steps_so t (s.last_txn + 1) path steps steps 0 (after t (Begins e.about.number (t + txn_life)) s)))))

  -- an act is refused by no fault, or accepted
  pub does : (act : Act) → Of NoFault (Does s t act) (act_row s t act)
  does (Together path steps) = implied (Unites s t path steps) (Does s t (Together path steps)) (λ reply cs u. does_many u) (together_so path steps)
  does act = implied (Way s t act) (Does s t act) (λ reply cs way. does_one way) (accepts s t act refl)
