-- What operations that act together have queued as they are committed: each settlement with its lock, in their order.
use Rattle.std.proofs.Common.{Bool, List, None, Option, Some, [], ap, append_assoc, false, find, is_none, length, nat_le, not, refl, subst, sym, true, ℕ, ◌++◌, ◌+◌, ◌||◌, ◌∙◌, ◌∷◌, ◌≡◌}
use Rattle.std.proofs.lemmas.List.{append-nil}
use Rattle.std.proofs.lemmas.List.Concat.{flat_map-append}
use Rattle.std.specs.List.{flat_map, list_any}
use Rattle.std.specs.Prelude.{if◌then◌else◌, is_some}
use Rattle.sb_laws.proofs.Along.{along_append}
use Rattle.sb_laws.proofs.Answered.{answered_in}
use Rattle.sb_laws.proofs.Deeds.{IsUnspent}
use Rattle.sb_laws.proofs.Eachs.{each_append, each_found, each_implied, each_of_all, is_equal, pairs_append, rising_above}
use Rattle.sb_laws.proofs.Entities.{IsOrdered, stays_ordered, stays_ordered_all}
use Rattle.sb_laws.proofs.Lists.{found_append, found_changed, found_passes}
use Rattle.sb_laws.proofs.Living.{none_spent}
use Rattle.sb_laws.proofs.NothingDue.{ordered}
use Rattle.sb_laws.proofs.Operating.{FindsCopy, Goes, IsOther, all_spend}
use Rattle.sb_laws.proofs.Rows.{Of, answered_so, asked, counted, found, refused_so, refusing, with_entity, with_receivable}
use Rattle.sb_laws.proofs.Running.{fills_fill, fills_lead, filling_same}
use Rattle.sb_laws.proofs.Sameness.{numbers_equal}
use Rattle.sb_laws.proofs.Uniting.{Fills, IsEnding, IsFilled, IsFilling, Unites, ends_done, ends_lost, fills_none, fills_one, fills_queue, fills_write, some_one, told_as}
use Rattle.sb_laws.proofs.Unlost.{none_yet}
use Rattle.sb_laws.specs.Spent.{step_lock}
use Rattle.sb_laws.specs.Sweepable.{IsSweepable}
use Rattle.sb_machine.specs.Changes.{after, after_all, along, in_turn, is_transaction, with_operation}
use Rattle.sb_machine.specs.Claims.{asks_holder, asks_session, claiming, has_sessions}
use Rattle.sb_machine.specs.Consistent.{queued_lock}
use Rattle.sb_machine.specs.Delivery.{in_part}
use Rattle.sb_machine.specs.Each.{Each, Pairs}
use Rattle.sb_machine.specs.Ends.{spends_in}
use Rattle.sb_machine.specs.Keyed.{changed}
use Rattle.sb_machine.specs.Leases.{held_session, leased}
use Rattle.sb_machine.specs.Names.{is_address, is_same_option}
use Rattle.sb_machine.specs.Namespace.{entity_at, entity_of, is_entity, leaf_of}
use Rattle.sb_machine.specs.Queueing.{deadline_with, has_room_in, is_open, open_in, queueing, transaction_of, txn_life}
use Rattle.sb_machine.specs.Rows.{answers, asks}
use Rattle.sb_machine.specs.SendRow.{have_sessions_at, is_destination, is_via, queued_send, send_row, sent_or_queued}
use Rattle.sb_machine.specs.Sending.{too_large}
use Rattle.sb_machine.specs.Sessions.{held_or, max_state, session_set_row, size_of}
use Rattle.sb_machine.specs.SettleRow.{is_on, pending, pending_in, settle_found, settle_row, settles}
use Rattle.sb_machine.specs.Settlement.{goes_with}
use Rattle.sb_machine.specs.Together.{all_receipts, committed_receipts, step_replies, unqueued}
use Rattle.sb_machine.specs.Transactions.{aborted_by, commit_changes, commit_row, committed, is_lost, operation_changes}
use Rattle.sb_machine.specs.declared.call.How.{How}
use Rattle.sb_machine.specs.declared.call.Path.{Path}
use Rattle.sb_machine.specs.declared.call.Step.{Step}
use Rattle.sb_machine.specs.declared.call.Step.TheVariants.{Send as StepSend, Settle as StepSettle, SessionSet as StateSet}
use Rattle.sb_machine.specs.declared.call.Token.{Token}
use Rattle.sb_machine.specs.declared.call.Which.TheVariants.{Number}
use Rattle.sb_machine.specs.declared.call.Which.{Which}
use Rattle.sb_machine.specs.declared.change.Change.{Change}
use Rattle.sb_machine.specs.declared.change.Change.TheVariants.{Begins, Drops, InLeaf, Queues}
use Rattle.sb_machine.specs.declared.change.LeafChange.TheVariants.{Writes}
use Rattle.sb_machine.specs.declared.reply.Refusal.TheVariants.{BadName, EntityNotFound, SessionNotAllowed, SessionRequired, TooLarge, TxnFull, TxnNotFound, TxnScope, WrongKind}
use Rattle.sb_machine.specs.declared.reply.Reply.{Reply}
use Rattle.sb_machine.specs.declared.reply.Reply.TheVariants.{Committed, Done, Together as Told}
use Rattle.sb_machine.specs.declared.reply.StepReply.{StepReply}
use Rattle.sb_machine.specs.declared.state.Entity.{Entity}
use Rattle.sb_machine.specs.declared.state.Operation.{Operation}
use Rattle.sb_machine.specs.declared.state.Operation.TheVariants.{Send as SendLater, Settle as SettleLater}
use Rattle.sb_machine.specs.declared.state.Session.{Session}
use Rattle.sb_machine.specs.declared.state.Space.{Space}
use Rattle.sb_machine.specs.declared.state.StoredCopy.{StoredCopy}
use Rattle.sb_machine.specs.declared.state.Transaction.{Transaction}
use Rattle.sb_model.specs.declared.message.Message.{Message}

none_passes : {X : Type 0} (p : X → Bool) (xs : List X) → find p xs ≡ None → Each (λ x. p x ≡ false) xs
none_passes p [] none = tt
none_passes p (x ∷ xs) none = at (p x) refl (none_passes p xs) where
  at : (b : Bool) → p x ≡ b → (find p xs ≡ None → Each (λ y. p y ≡ false) xs) → Each (λ y. p y ≡ false) (x ∷ xs)
  at true is ih = let bad : Some x ≡ None = rw is at none in absurd cc
  at false is ih = (is, ih (rw is at none))

none_of : {X : Type 0} (p : X → Bool) (xs : List X) → list_any p xs ≡ false → Each (λ x. p x ≡ false) xs
none_of p [] none = tt
none_of p (x ∷ xs) none = at (p x) refl (none_of p xs) where
  at : (b : Bool) → p x ≡ b → (list_any p xs ≡ false → Each (λ y. p y ≡ false) xs) → Each (λ y. p y ≡ false) (x ∷ xs)
  at true is ih = let bad : true ≡ false = rw is at none in absurd cc
  at false is ih = (is, ih (rw is at none))

-- ---- the row of each operation

-- it writes what a session remembers
abbrev IsWrite : Change → Type 0
IsWrite (InLeaf key (Writes lock bytes)) = Unit {0}
IsWrite _ = ⊥

module _ (s : Space) (t n : ℕ) where
  record QueuesSend (to : Path) (ms : List Message) (cs : List Change) : Type 0 where
    x : Transaction
    there : transaction_of n s ≡ Some x
    changes : cs ≡ queued_send t to ms x

  record QueuesSettle (from : Path) (token : Token) (session : Option Token) (how : How) (cs : List Change) : Type 0 where
    x : Transaction
    there : transaction_of n s ≡ Some x
    number : ℕ
    goes : goes_with how from.part ≡ true
    free : pending_in token.lock s ≡ None
    changes : cs ≡ queueing t x (SettleLater from number token session how)

  send_queues : (to : Path) (ms : List Message) → Of (λ r. Unit {0}) (λ reply cs. QueuesSend to ms cs) (send_row s t to ms (Some n))
  send_queues to ms =
      asked (is_address to) BadName _ tt (λ named.
      asked (is_via s to (open_in (Some n) s) || is_some (if is_via s to (open_in (Some n) s) then None else entity_at to s)) EntityNotFound _ tt (λ there.
      asked (is_destination to) WrongKind _ tt (λ goes.
      asked (have_sessions_at (if is_via s to (open_in (Some n) s) then None else entity_at to s) ms) SessionRequired _ tt (λ sessions.
      asked (is_open (Some n) s) TxnNotFound _ tt (λ open_so.
      asked (has_room_in (open_in (Some n) s) (length ms)) TxnFull _ tt (λ room.
      refusing (too_large ms) _ (λ r so. tt) (λ small.
      at (transaction_of n s) refl open_so))))))) where
        at : (o : Option Transaction) → transaction_of n s ≡ o → is_some o ≡ true → Of (λ r. Unit {0}) (λ reply cs. QueuesSend to ms cs) (sent_or_queued s t to ms (if is_via s to o then None else entity_at to s) o)
        at None is open_so = absurd cc
        at (Some x) is open_so = answered_so (record { x = x; there = is; changes = refl })

  settle_queues : (from : Path) (which : Which) (token : Token) (session : Option Token) (how : How) → Of (λ r. Unit {0}) (λ reply cs. QueuesSettle from token session how cs) (settle_row s t from which token session how (Some n))
  settle_queues from which token session how = with_receivable s from _ tt tt tt (λ e there. asked (goes_with how from.part) WrongKind _ tt (λ goes. claimed e goes session)) where
    not_pending : (o : Option Transaction) → pending o ≡ None → o ≡ None
    not_pending None e = refl
    not_pending (Some x) e = absurd cc

    on : (e : Entity) → goes_with how from.part ≡ true → (o : Option Transaction) → transaction_of n s ≡ o → is_some o ≡ true → (c : Option StoredCopy) → Of (λ r. Unit {0}) (λ reply cs. QueuesSettle from token session how cs) (settle_found s t e from token session how o c)
    on e goes o is open_so None = refused_so tt
    on e goes None is open_so (Some c) = absurd cc
    on e goes (Some x) is open_so (Some c) = refusing (pending (pending_in token.lock s)) _ (λ r so. tt) (λ none. asked (has_room_in (Some x) 1) TxnFull _ tt (λ room.
        answered_so (record { x = x; there = is; number = c.number; goes = goes; free = not_pending (pending_in token.lock s) none; changes = refl })))

    claimed : (e : Entity) → goes_with how from.part ≡ true → (claim : Option Token)
        → Of (λ r. Unit {0}) (λ reply cs. QueuesSettle from token session how cs) (asks_session e from.part claim (asks (is_open (Some n) s) TxnNotFound (asks (is_on e (transaction_of n s)) TxnScope (asks_holder s t (leaf_of from.part e) claim (λ held. settle_found s t e from token session how (transaction_of n s) (leased s t token which (leaf_of from.part e)))))))
    claimed e goes None = asked (not (has_sessions e from.part)) SessionRequired _ tt (λ is. asked (is_open (Some n) s) TxnNotFound _ tt (λ open_so. asked (is_on e (transaction_of n s)) TxnScope _ tt (λ own. on e goes (transaction_of n s) refl open_so (leased s t token which (leaf_of from.part e)))))
    claimed e goes (Some key) = asked (has_sessions e from.part) SessionNotAllowed _ tt (λ is. asked (is_open (Some n) s) TxnNotFound _ tt (λ open_so. asked (is_on e (transaction_of n s)) TxnScope _ tt (λ own. at (held_session s t key (leaf_of from.part e)) open_so))) where
      at : (x : Option Session) → is_some (transaction_of n s) ≡ true → Of (λ r. Unit {0}) (λ reply cs. QueuesSettle from token session how cs) (claiming key x (λ held. settle_found s t e from token session how (transaction_of n s) (leased s t token which (leaf_of from.part e))))
      at None open_so = refused_so tt
      at (Some x) open_so = on e goes (transaction_of n s) refl open_so (leased s t token which (leaf_of from.part e))

  set_writes : (from : Path) (token : Token) (bytes : Option (List ℕ)) → Of (λ r. Unit {0}) (λ reply cs. Each IsWrite cs) (session_set_row s t from token bytes)
  set_writes from token bytes = with_entity s from _ tt tt (λ e there. asked (has_sessions e from.part) SessionNotAllowed _ tt (λ has. at e (held_session s t token (leaf_of from.part e)))) where
    at : (e : Entity) (o : Option Session) → Of (λ r. Unit {0}) (λ reply cs. Each IsWrite cs) (held_or o (λ x. asks (nat_le (size_of bytes) max_state) (TooLarge (size_of bytes)) (answers Done (if is_same_option x.state bytes then [] else in_part from.part e (Writes token.lock bytes) ∷ []))))
    at e None = refused_so tt
    at e (Some x) = asked (nat_le (size_of bytes) max_state) (TooLarge (size_of bytes)) _ tt (λ small. go (is_same_option x.state bytes)) where
      go : (b : Bool) → Of (λ r. Unit {0}) (λ reply cs. Each IsWrite cs) (answers Done (if b then [] else in_part from.part e (Writes token.lock bytes) ∷ []))
      go true = answered_so tt
      go false = answered_so (tt, tt)

-- ---- what a transaction holds as it is filled

-- where a send goes, and its messages; one without messages isn't queued
abbrev pub queued_send_of : Operation → List (Path × List Message)
queued_send_of (SendLater to messages) = (to, messages) ∷ []
queued_send_of (SettleLater from number token session how) = []

abbrev pub step_send : Step → List (Path × List Message)
step_send (StepSend to []) = []
step_send (StepSend to (m ∷ ms)) = (to, m ∷ ms) ∷ []
step_send _ = []

module _ {X : Type 0} (f : Operation → List X) (g : Step → List X) where
  one_more : (os : List Operation) (xs : List Step) (o : Operation) (x : Step) → flat_map f os ≡ flat_map g xs → f o ≡ g x → flat_map f (os ++ o ∷ []) ≡ flat_map g (xs ++ x ∷ [])
  one_more os xs o x same is = flat_map-append f os (o ∷ []) ∙ ap (λ (l : List X). l ++ (f o ++ [])) same ∙ ap (λ (l : List X). flat_map g xs ++ (l ++ [])) is ∙ sym (flat_map-append g xs (x ∷ []))

  none_more : (os : List Operation) (xs : List Step) (x : Step) → flat_map f os ≡ flat_map g xs → g x ≡ [] → flat_map f os ≡ flat_map g (xs ++ x ∷ [])
  none_more os xs x same none = same ∙ sym (flat_map-append g xs (x ∷ []) ∙ ap (λ (l : List X). flat_map g xs ++ (l ++ [])) none ∙ append-nil (flat_map g xs))

module _ (t n m : ℕ) where
  -- The transaction is one of the entity m, and these operations are queued in it: its settlements go, differ and have their locks, and its
  -- sends are theirs.
  pub record Gathers (s : Space) (xs : List Step) : Type 0 where
    pub x : Transaction
    pub there : transaction_of n s ≡ Some x
    pub entity_is : x.entity ≡ m
    pub go : Each Goes x.operations
    pub others : Pairs IsOther x.operations
    pub locks_are : flat_map queued_lock x.operations ≡ flat_map step_lock xs
    pub sends_are : flat_map queued_send_of x.operations ≡ flat_map step_send xs

  own_number : (s : Space) (x : Transaction) → transaction_of n s ≡ Some x → x.number ≡ n
  own_number s x is = is_equal x.number n (found_passes (is_transaction n) x s.transactions is)

  with_one : (s : Space) (xs : List Step) (g : Gathers s xs) (deadline : ℕ) (o : Operation) (x : Step) → queued_lock o ≡ step_lock x → queued_send_of o ≡ step_send x → Goes o → Each (λ p. IsOther p o) g.x.operations → Gathers (after t (Queues g.x.number deadline o) s) (xs ++ x ∷ [])
  with_one s xs g deadline o x lock send goes other = record {
    x = with_operation deadline o g.x;
    there = subst (λ (k : ℕ). find (is_transaction n) (changed (is_transaction k) (λ x. with_operation deadline o x ∷ []) s.transactions) ≡ Some (with_operation deadline o g.x)) (sym (own_number s g.x g.there))
        (found_changed (is_transaction n) (λ x. with_operation deadline o x ∷ []) g.x (with_operation deadline o g.x) s.transactions g.there refl (found_passes (is_transaction n) g.x s.transactions g.there));
    entity_is = g.entity_is;
    go = each_append Goes g.x.operations (o ∷ []) g.go (goes, tt);
    others = pairs_append IsOther g.x.operations (o ∷ []) g.others (tt, tt) (each_implied (λ p. IsOther p o) (λ p. Each (IsOther p) (o ∷ [])) (λ p is. (is, tt)) g.x.operations other);
    locks_are = one_more queued_lock step_lock g.x.operations xs o x g.locks_are lock;
    sends_are = one_more queued_send_of step_send g.x.operations xs o x g.sends_are send;
  }

  with_none : (s : Space) (xs : List Step) (x : Step) → step_lock x ≡ [] → step_send x ≡ [] → Gathers s xs → Gathers s (xs ++ x ∷ [])
  with_none s xs x lock send g = record { x = g.x; there = g.there; entity_is = g.entity_is; go = g.go; others = g.others; locks_are = none_more queued_lock step_lock g.x.operations xs x g.locks_are lock; sends_are = none_more queued_send_of step_send g.x.operations xs x g.sends_are send }

  with_writes : (cs : List Change) (s : Space) (xs : List Step) → Each IsWrite cs → Gathers s xs → Gathers (after_all t cs s) xs
  with_writes [] s xs h g = g
  with_writes (InLeaf key (Writes lock bytes) ∷ cs) s xs h g =
      with_writes cs (after t (InLeaf key (Writes lock bytes)) s) xs h.1 (record { x = g.x; there = g.there; entity_is = g.entity_is; go = g.go; others = g.others; locks_are = g.locks_are; sends_are = g.sends_are })
  with_writes (c ∷ cs) s xs h g = absurd h.0

  with_send : (s : Space) (xs : List Step) (to : Path) (ms : List Message) (cs : List Change) → QueuesSend s t n to ms cs → Gathers s xs → Gathers (after_all t cs s) (xs ++ StepSend to ms ∷ [])
  with_send s xs to ms cs q g = subst (λ (l : List Change). Gathers (after_all t l s) (xs ++ StepSend to ms ∷ [])) (sym (q.changes ∙ ap (queued_send t to ms) (some_one q.x g.x (sym q.there ∙ g.there)))) (at ms) where
    at : (ms : List Message) → Gathers (after_all t (queued_send t to ms g.x) s) (xs ++ StepSend to ms ∷ [])
    at [] = with_none s xs (StepSend to []) refl refl g
    at (m ∷ ms) = with_one s xs g (deadline_with t g.x) (SendLater to (m ∷ ms)) (StepSend to (m ∷ ms)) refl refl tt (each_of_all (λ p. Unit {0}) (λ p. tt) g.x.operations)

  with_settle : (s : Space) (xs : List Step) (from : Path) (which : Which) (token : Token) (session : Option Token) (how : How) (cs : List Change) → QueuesSettle s t n from token session how cs → Gathers s xs → Gathers (after_all t cs s) (xs ++ StepSettle from which token session how ∷ [])
  with_settle s xs from which token session how cs q g =
      let free = each_found (λ x. list_any (settles token.lock) x.operations ≡ false) (is_transaction n) g.x s.transactions (none_passes (λ x. list_any (settles token.lock) x.operations) s.transactions q.free) g.there in
      subst (λ (l : List Change). Gathers (after_all t l s) (xs ++ StepSettle from which token session how ∷ [])) (sym (q.changes ∙ ap (λ (x : Transaction). queueing t x (SettleLater from q.number token session how)) (some_one q.x g.x (sym q.there ∙ g.there))))
      (with_one s xs g (deadline_with t g.x) (SettleLater from q.number token session how) (StepSettle from which token session how) refl refl q.goes (none_of (settles token.lock) g.x.operations free))

  with_step : (x : Step) (s : Space) (xs : List Step) (reply : Reply) (cs : List Change) → IsFilled s t n x reply cs → Gathers s xs → Gathers (after_all t cs s) (xs ++ x ∷ [])
  with_step (StepSend to ms) s xs reply cs h g = with_send s xs to ms cs (answered_in (λ r. Unit {0}) (λ reply cs. QueuesSend s t n to ms cs) (send_row s t to ms (Some n)) reply cs (send_queues s t n to ms) h.row) g
  with_step (StepSettle from which token session how) s xs reply cs h g =
      with_settle s xs from which token session how cs (answered_in (λ r. Unit {0}) (λ reply cs. QueuesSettle s t n from token session how cs) (settle_row s t from which token session how (Some n)) reply cs (settle_queues s t n from which token session how) h.row) g
  with_step (StateSet from token bytes) s xs reply cs h g =
      with_none (after_all t cs s) xs (StateSet from token bytes) refl refl (with_writes cs s xs (answered_in (λ r. Unit {0}) (λ reply cs. Each IsWrite cs) (session_set_row s t from token bytes) reply cs (set_writes s t n from token bytes) h.row) g)

  fills_gather : (ys xs : List Step) (s : Space) (cs : List Change) (later : Space) → Fills t n xs s cs later → Gathers s ys → Gathers later (ys ++ xs)
  fills_gather ys _ s _ _ fills_none g = subst (Gathers s) (sym (append-nil ys)) g
  fills_gather ys _ s _ later (fills_one {x = x} {xs = xs} {reply = reply} {cs = cs} {ds = ds} h rest) g =
      subst (Gathers later) (append_assoc ys (x ∷ []) xs) (fills_gather (ys ++ x ∷ []) xs (after_all t cs s) ds later rest (with_step x s ys reply cs h g))

-- a transaction begins empty
begun_gathers : (t : ℕ) (s : Space) (m : ℕ) → IsSweepable s → Gathers t (s.last_txn + 1) m (after t (Begins m (t + txn_life)) s) []
begun_gathers t s m may = record { x = new; there = found_new; entity_is = refl; go = tt; others = tt; locks_are = refl; sends_are = refl } where
  new : Transaction
  new = record { number = s.last_txn + 1; entity = m; deadline = t + txn_life; operations = [] }

  found_new : find (is_transaction (s.last_txn + 1)) (s.transactions ++ new ∷ []) ≡ Some new
  found_new = found_append (is_transaction (s.last_txn + 1)) s.transactions (new ∷ []) (none_yet s.last_txn s.transactions (rising_above (λ x. x.number) 0 s.last_txn s.transactions may.transactions))
      ∙ ap (λ (b : Bool). if b then Some new else None) (numbers_equal (s.last_txn + 1))

-- ---- the commit

module _ (s : Space) (t n : ℕ) where
  -- all operations act
  pub record Commits (cs : List Change) : Type 0 where
    x : Transaction
    there : transaction_of n s ≡ Some x
    e : Entity
    on : entity_of x.entity s ≡ Some e
    none : find (is_lost s t e) x.operations ≡ None
    changes : cs ≡ commit_changes t e x s

  commit_acts : Of (λ r. Unit {0}) (λ reply cs. reply ≡ Committed → Commits cs) (commit_row s t n)
  commit_acts = found (transaction_of n s) TxnNotFound _ tt (λ x there. found (entity_of x.entity s) EntityNotFound _ tt (λ e on. at x there e on (find (is_lost s t e) x.operations) refl)) where
    never : (e : Entity) (o : Operation) → is_lost s t e o ≡ true → aborted_by o ≡ Committed → ⊥
    never e (SendLater to messages) lost same = absurd cc
    never e (SettleLater from number token session how) lost same = absurd cc

    at : (x : Transaction) → transaction_of n s ≡ Some x → (e : Entity) → entity_of x.entity s ≡ Some e → (o : Option Operation) → find (is_lost s t e) x.operations ≡ o → Of (λ r. Unit {0}) (λ reply cs. reply ≡ Committed → Commits cs) (committed s t x e o)
    at x there e on (Some o) lost = answered_so (λ same. absurd (never e o (found_passes (is_lost s t e) o x.operations lost) same))
    at x there e on None none = counted t s (commit_changes t e x s) Committed tt (λ same. record { x = x; there = there; e = e; on = on; none = none; changes = refl })

  all_there : (e : Entity) → entity_of e.about.number s ≡ Some e → (os : List Operation) → Each (λ o. is_lost s t e o ≡ false) os → Each (FindsCopy t e s) os
  all_there e there [] all = tt
  all_there e there (SendLater to messages ∷ os) all = (tt, all_there e there os all.1)
  all_there e there (SettleLater from number token session how ∷ os) all = (at (leased s t token (Number number) (leaf_of from.part e)) refl all.0, all_there e there os all.1) where
    at : (c : Option StoredCopy) → leased s t token (Number number) (leaf_of from.part e) ≡ c → is_none c ≡ false → FindsCopy t e s (SettleLater from number token session how)
    at None held lost = absurd cc
    at (Some c) held lost = record { now = e; there = there; copy = c; held = held }

  dropped_finds : (e : Entity) (k : ℕ) (os : List Operation) → Each (FindsCopy t e s) os → Each (FindsCopy t e (after t (Drops k) s)) os
  dropped_finds e k [] all = tt
  dropped_finds e k (SendLater to messages ∷ os) all = (tt, dropped_finds e k os all.1)
  dropped_finds e k (SettleLater from number token session how ∷ os) all = (record { now = all.0.now; there = all.0.there; copy = all.0.copy; held = all.0.held }, dropped_finds e k os all.1)

-- ---- the whole

was_committed : (rs replies : List StepReply) (answer : Reply) → IsEnding answer → Told replies ≡ told_as rs answer → answer ≡ Committed
was_committed rs replies _ ends_done is = refl
was_committed rs replies _ (ends_lost part number) is = absurd cc

told_same : (rs replies : List StepReply) (answer : Reply) → answer ≡ Committed → Told replies ≡ told_as rs answer → replies ≡ rs
told_same rs replies answer done is = let told : Told replies ≡ Told rs = is ∙ ap (told_as rs) done in cc

-- the receipts of a commit are those of its operations as they act
acted_receipts : (later : Space) (t n : ℕ) {cs : List Change} (c : Commits later t n cs) → c.x.number ≡ n → committed_receipts later t (transaction_of n later) ≡ all_receipts t c.e c.x.operations (after t (Drops n) later)
acted_receipts later t n c own =
    let first : committed_receipts later t (transaction_of n later) ≡ committed_receipts later t (Some c.x) = ap (committed_receipts later t) c.there in
    let second : committed_receipts later t (Some c.x) ≡ all_receipts t c.e c.x.operations (after t (Drops c.x.number) later) = ap (λ (o : Option Entity). elim o [ Some e ↦ all_receipts t e c.x.operations (after t (Drops c.x.number) later) | None ↦ [] ]) c.on in
    first ∙ second ∙ ap (λ (k : ℕ). all_receipts t c.e c.x.operations (after t (Drops k) later)) own

-- Operations were queued, and then acted one behind another.
pub record ActedTogether (s : Space) (t n m : ℕ) (steps : List Step) (replies : List StepReply) (cs : List Change) : Type 0 where
  pub filled : List Change
  pub filling : Each (IsFilling n) filled
  pub later : Space
  pub leads : after_all t filled (after t (Begins m (t + txn_life)) s) ≡ later
  pub ordered_then : IsOrdered later
  pub x : Transaction
  pub there : transaction_of n later ≡ Some x
  pub entity_is : x.entity ≡ m
  pub e : Entity
  pub on : entity_of x.entity later ≡ Some e
  pub finds : Each (FindsCopy t e (after t (Drops n) later)) x.operations
  pub go : Each Goes x.operations
  pub others : Pairs IsOther x.operations
  pub locks_are : flat_map queued_lock x.operations ≡ flat_map step_lock steps
  pub sends_are : flat_map queued_send_of x.operations ≡ flat_map step_send steps
  pub changes : cs ≡ Begins m (t + txn_life) ∷ (unqueued filled ++ Drops n ∷ in_turn (operation_changes t e) t x.operations (after t (Drops n) later))
  pub told : replies ≡ step_replies steps (all_receipts t e x.operations (after t (Drops n) later))

pub united_acted : (s : Space) (t : ℕ) (path : Path) (steps : List Step) (replies : List StepReply) (cs : List Change) → IsSweepable s → (u : Unites s t path steps (Told replies) cs) → ActedTogether s t (s.last_txn + 1) u.entity.about.number steps replies cs
united_acted s t path steps replies cs may u =
    let n = s.last_txn + 1 in
    let first = Begins u.entity.about.number (t + txn_life) in
    let start = after t first s in
    let f = u.filled in
    let later = f.later in
    let leads = fills_lead t n steps start f.filled later f.fills in
    let g = fills_gather t n u.entity.about.number [] steps start f.filled later f.fills (begun_gathers t s u.entity.about.number may) in
    let answer_is : f.answer ≡ Committed = was_committed (step_replies steps (committed_receipts later t (transaction_of n later))) replies f.answer f.commits.ending f.reply_is in
    let c : Commits later t n f.done = answered_in (λ r. Unit {0}) (λ reply cs. reply ≡ Committed → Commits later t n cs) (commit_row later t n) f.answer f.done (commit_acts later t n) f.commits.row answer_is in
    let x_is : c.x ≡ g.x = some_one c.x g.x (sym c.there ∙ g.there) in
    let own : c.x.number ≡ n = own_number t n u.entity.about.number later c.x c.there in
    let there : entity_of c.e.about.number later ≡ Some c.e = subst (λ (k : ℕ). entity_of k later ≡ Some c.e) (sym (is_equal c.e.about.number c.x.entity (found_passes (is_entity c.x.entity) c.e later.entities c.on))) c.on in
    let done : f.done ≡ Drops n ∷ in_turn (operation_changes t c.e) t c.x.operations (after t (Drops n) later) = c.changes ∙ ap (λ (k : ℕ). Drops k ∷ in_turn (operation_changes t c.e) t c.x.operations (after t (Drops k) later)) own in
    record {
      filled = f.filled;
      filling = fills_fill t n steps start f.filled later f.fills;
      later = later;
      leads = leads;
      ordered_then = subst IsOrdered leads (stays_ordered_all t f.filled start (stays_ordered t first s (ordered s may)));
      x = c.x;
      there = c.there;
      entity_is = ap (λ (x : Transaction). x.entity) x_is ∙ g.entity_is;
      e = c.e;
      on = c.on;
      finds = dropped_finds later t n c.e n c.x.operations (all_there later t n c.e there c.x.operations (none_passes (is_lost later t c.e) c.x.operations c.none));
      go = subst (λ (x : Transaction). Each Goes x.operations) (sym x_is) g.go;
      others = subst (λ (x : Transaction). Pairs IsOther x.operations) (sym x_is) g.others;
      locks_are = ap (λ (x : Transaction). flat_map queued_lock x.operations) x_is ∙ g.locks_are;
      sends_are = ap (λ (x : Transaction). flat_map queued_send_of x.operations) x_is ∙ g.sends_are;
      changes = u.changes ∙ ap (λ (l : List Change). first ∷ l) (f.changes ∙ ap (λ (l : List Change). unqueued f.filled ++ l) done);
      told = told_same (step_replies steps (committed_receipts later t (transaction_of n later))) replies f.answer answer_is f.reply_is ∙ ap (step_replies steps) (acted_receipts later t n c own);
    }

-- what is read off the changes is read off those of the operations as they act, where nothing is read off the others
pub acted_along : {X : Type 0} (f : ℕ → Change → Space → List X) (s : Space) (t n m : ℕ) (steps : List Step) (replies : List StepReply) (cs : List Change) (a : ActedTogether s t n m steps replies cs) → f t (Begins m (t + txn_life)) s ≡ [] → along f t (unqueued a.filled) (after t (Begins m (t + txn_life)) s) ≡ [] → ((now : Space) → f t (Drops n) now ≡ [])
    → along f t cs s ≡ along f t (in_turn (operation_changes t a.e) t a.x.operations (after t (Drops n) a.later)) (after t (Drops n) a.later)
acted_along {X = X} f s t n m steps replies cs a begins quiet drops =
    let start = after t (Begins m (t + txn_life)) s in
    let middle = after_all t (unqueued a.filled) start in
    let rest = in_turn (operation_changes t a.e) t a.x.operations (after t (Drops n) a.later) in
    let same : after t (Drops n) middle ≡ after t (Drops n) a.later = sym (filling_same t n a.filled start start a.filling refl) ∙ ap (after t (Drops n)) a.leads in
    ap (λ (l : List Change). along f t l s) a.changes
    ∙ ap (λ (l : List X). l ++ along f t (unqueued a.filled ++ Drops n ∷ rest) start) begins
    ∙ along_append f t (unqueued a.filled) (Drops n ∷ rest) start
    ∙ ap (λ (l : List X). l ++ along f t (Drops n ∷ rest) middle) quiet
    ∙ ap (λ (l : List X). l ++ along f t rest (after t (Drops n) middle)) (drops middle)
    ∙ ap (along f t rest) same

-- ---- locks

filling_unspent : (n : ℕ) (cs : List Change) → Each (IsFilling n) cs → Each IsUnspent (unqueued cs)
filling_unspent n [] all = tt
filling_unspent n (_ ∷ cs) (fills_queue k deadline o own, all) = filling_unspent n cs all
filling_unspent n (_ ∷ cs) (fills_write key lock bytes, all) = (tt, filling_unspent n cs all)

pub united_spends : (s : Space) (t : ℕ) (path : Path) (steps : List Step) (replies : List StepReply) (cs : List Change) → IsSweepable s → Unites s t path steps (Told replies) cs → along spends_in t cs s ≡ flat_map step_lock steps
united_spends s t path steps replies cs may u =
    let n = s.last_txn + 1 in
    let first = Begins u.entity.about.number (t + txn_life) in
    let a = united_acted s t path steps replies cs may u in
    acted_along spends_in s t n u.entity.about.number steps replies cs a refl (none_spent t (unqueued a.filled) (after t first s) (filling_unspent n a.filled a.filling)) (λ now. refl)
    ∙ all_spend t a.e a.x.operations (after t (Drops n) a.later) (stays_ordered t (Drops n) a.later a.ordered_then) a.finds a.go a.others
    ∙ a.locks_are
