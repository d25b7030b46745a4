-- Operations that act together are never aborted: what is queued to be settled is found as they are committed.
use Rattle.std.proofs.Common.{Bool, List, None, Option, Some, [], ap, arith, false, find, is_none, length, refl, subst, sym, true, ℕ, ◌&&◌, ◌++◌, ◌+◌, ◌-◌, ◌<◌, ◌==◌, ◌||◌, ◌∙◌, ◌∷◌, ◌≡◌, ◌≤◌}
use Rattle.std.proofs.lemmas.Bool.Decides.{nat_tests}
use Rattle.std.proofs.lemmas.List.{append-nil}
use Rattle.std.specs.List.{list_any}
use Rattle.std.specs.Prelude.{if◌then◌else◌, is_some}
use Rattle.sb_laws.proofs.Answered.{accepted_so, answered_in, answers_so}
use Rattle.sb_laws.proofs.Eachs.{each_append, each_implied, rising_above}
use Rattle.sb_laws.proofs.Entities.{IsOrdered, about_with_leaf, stays_ordered, stays_ordered_all}
use Rattle.sb_laws.proofs.FoundOn.{found_on, put_in}
use Rattle.sb_laws.proofs.Lists.{changed_none, found_append, found_changed, found_passes}
use Rattle.sb_laws.proofs.NothingDue.{ordered}
use Rattle.sb_laws.proofs.Replies.{one_each}
use Rattle.sb_laws.proofs.Sameness.{numbers_equal}
use Rattle.sb_laws.proofs.Swept.{leaf_of_own, leaf_of_with, same_part}
use Rattle.sb_laws.proofs.Uniting.{Fills, IsFilling, IsFound, Unites, fills_none, fills_one, fills_queue, fills_write, some_one, together_so, told_as}
use Rattle.sb_laws.proofs.Ways.{NoFault}
use Rattle.sb_laws.specs.Sweepable.{IsSweepable}
use Rattle.sb_machine.specs.Acts.{row_of}
use Rattle.sb_machine.specs.Changes.{after, after_all, is_transaction, with_operation}
use Rattle.sb_machine.specs.Each.{Each}
use Rattle.sb_machine.specs.Keyed.{changed}
use Rattle.sb_machine.specs.Leases.{is_living, is_living_holder, is_named, leased}
use Rattle.sb_machine.specs.Leaves.{is_held_under, on_session, remembered}
use Rattle.sb_machine.specs.Names.{is_same_part}
use Rattle.sb_machine.specs.Namespace.{entity_of, leaf_of, live, with_leaf}
use Rattle.sb_machine.specs.Queueing.{transaction_of, txn_life}
use Rattle.sb_machine.specs.Rows.{answers, found_or, is_beyond, refuses}
use Rattle.sb_machine.specs.Together.{committed_receipts, step_replies, together_row}
use Rattle.sb_machine.specs.Transactions.{commit_changes, commit_row, committed, is_lost}
use Rattle.sb_machine.specs.declared.call.Act.TheVariants.{Together}
use Rattle.sb_machine.specs.declared.call.By.{By}
use Rattle.sb_machine.specs.declared.call.Part.{Part}
use Rattle.sb_machine.specs.declared.call.Path.{Path}
use Rattle.sb_machine.specs.declared.call.Step.{Step}
use Rattle.sb_machine.specs.declared.call.Token.{Token}
use Rattle.sb_machine.specs.declared.call.Which.TheVariants.{Number}
use Rattle.sb_machine.specs.declared.call.Which.{Which}
use Rattle.sb_machine.specs.declared.change.Change.{Change}
use Rattle.sb_machine.specs.declared.change.Change.TheVariants.{Begins, InLeaf, Queues}
use Rattle.sb_machine.specs.declared.change.LeafChange.TheVariants.{Writes}
use Rattle.sb_machine.specs.declared.change.LeafKey.{LeafKey}
use Rattle.sb_machine.specs.declared.reply.Refusal.TheVariants.{EntityNotFound, QuotaExceeded, TxnNotFound}
use Rattle.sb_machine.specs.declared.reply.Reply.{Reply}
use Rattle.sb_machine.specs.declared.reply.Reply.TheVariants.{Committed, Together as Told}
use Rattle.sb_machine.specs.declared.reply.StepReply.{StepReply}
use Rattle.sb_machine.specs.declared.state.Entity.{Entity}
use Rattle.sb_machine.specs.declared.state.Hold.TheVariants.{Until, Session as UnderSession}
use Rattle.sb_machine.specs.declared.state.Holder.{Holder}
use Rattle.sb_machine.specs.declared.state.Leaf.{Leaf}
use Rattle.sb_machine.specs.declared.state.Listed.{Listed}
use Rattle.sb_machine.specs.declared.state.Operation.{Operation}
use Rattle.sb_machine.specs.declared.state.Operation.TheVariants.{Send as SendLater, Settle as SettleLater}
use Rattle.sb_machine.specs.declared.state.Session.{Session}
use Rattle.sb_machine.specs.declared.state.Space.{Space}
use Rattle.sb_machine.specs.declared.state.Standing.{Standing}
use Rattle.sb_machine.specs.declared.state.Standing.TheVariants.{Deferred, Held, Ready, Scheduled}
use Rattle.sb_machine.specs.declared.state.StoredCopy.{StoredCopy}
use Rattle.sb_machine.specs.declared.state.Transaction.{Transaction}

find_same : {X : Type 0} (p q : X → Bool) (xs : List X) → ((x : X) → p x ≡ q x) → find p xs ≡ find q xs
find_same p q [] same = refl
find_same p q (x ∷ xs) same = ap (λ b. if b then Some x else find p xs) (same x) ∙ ap (λ o. if q x then Some x else o) (find_same p q xs same)

-- ---- what a session remembers says nothing of locks

module _ (t lock : ℕ) (bytes : Option (List ℕ)) where
  abbrev written : Session → List Session
  written x = remembered (record x { state = bytes })

  kept : (x : Session) (o : Option Holder) → x.holder ≡ o → is_held_under lock x ≡ true → written x ≡ record x { state = bytes } ∷ []
  kept x (Some h) is held = ap (λ (o : Option Holder). if is_some o then record x { state = bytes } ∷ [] else (if is_some bytes then record x { state = bytes } ∷ [] else [])) is
  kept x None is held = let bad : false ≡ true = subst (λ (o : Option Holder). ◌≡◌ {A = Bool} (elim o [ Some h ↦ h.lock == lock | None ↦ false ]) true) is held in absurd cc

  holders_same : (l : ℕ) (xs : List Session) → list_any (is_living_holder t l) (changed (is_held_under lock) written xs) ≡ list_any (is_living_holder t l) xs
  holders_same l [] = refl
  holders_same l (x ∷ xs) = at (is_held_under lock x) refl (holders_same l xs) where
    at : (b : Bool) → is_held_under lock x ≡ b → list_any (is_living_holder t l) (changed (is_held_under lock) written xs) ≡ list_any (is_living_holder t l) xs
        → list_any (is_living_holder t l) (changed (is_held_under lock) written (x ∷ xs)) ≡ list_any (is_living_holder t l) (x ∷ xs)
    at true is ih = ap (λ (b : Bool). list_any (is_living_holder t l) (if b then written x ++ xs else x ∷ changed (is_held_under lock) written xs)) is ∙ ap (λ (ys : List Session). list_any (is_living_holder t l) (ys ++ xs)) (kept x x.holder refl is)
    at false is ih = ap (λ (b : Bool). list_any (is_living_holder t l) (if b then written x ++ xs else x ∷ changed (is_held_under lock) written xs)) is ∙ ap (λ (b : Bool). is_living_holder t l x || b) ih

  living_same : (xs : List Session) (l : ℕ) (standing : Standing) → is_living t (changed (is_held_under lock) written xs) l standing ≡ is_living t xs l standing
  living_same xs l (Held k (Until u) deferred) = refl
  living_same xs l (Held k (UnderSession m) deferred) = ap (λ (b : Bool). (k == l) && b) (holders_same m xs)
  living_same xs l Ready = refl
  living_same xs l Deferred = refl
  living_same xs l (Scheduled moment) = refl

  leased_same : (s : Space) (token : Token) (which : Which) (leaf : Leaf) → leased s t token which (on_session lock written leaf) ≡ leased s t token which leaf
  leased_same s token which leaf = ap (λ (o : Option StoredCopy). if token.salt == s.salt then o else None)
      (find_same (λ c. is_living t (changed (is_held_under lock) written leaf.sessions) token.lock c.standing && is_named which c) (λ c. is_living t leaf.sessions token.lock c.standing && is_named which c) leaf.copies
      (λ c. ap (λ (b : Bool). b && is_named which c) (living_same leaf.sessions token.lock c.standing)))

  part_same : (s : Space) (own other : Part) (e : Entity) (token : Token) (which : Which) → leased s t token which (leaf_of other (with_leaf own (on_session lock written (leaf_of own e)) e)) ≡ leased s t token which (leaf_of other e)
  part_same s own other e token which = at (is_same_part own other) refl where
    at : (b : Bool) → is_same_part own other ≡ b → leased s t token which (leaf_of other (with_leaf own (on_session lock written (leaf_of own e)) e)) ≡ leased s t token which (leaf_of other e)
    at true is = subst (λ (r : Part). leased s t token which (leaf_of r (with_leaf own (on_session lock written (leaf_of own e)) e)) ≡ leased s t token which (leaf_of r e)) (same_part own other is)
        (ap (leased s t token which) (leaf_of_own own (on_session lock written (leaf_of own e)) e) ∙ leased_same s token which (leaf_of own e))
    at false is = ap (leased s t token which) (leaf_of_with own other (on_session lock written (leaf_of own e)) e is)

  lost_same : (s : Space) (key : LeafKey) (e : Entity) (o : Operation) → is_lost (after t (InLeaf key (Writes lock bytes)) s) t (with_leaf key.part (on_session lock written (leaf_of key.part e)) e) o ≡ is_lost s t e o
  lost_same s key e (SendLater to messages) = refl
  lost_same s key e (SettleLater from number token session how) = ap is_none (part_same s key.part from.part e token (Number number))

  untouched : (s : Space) (key : LeafKey) (e : Entity) (o : Operation) → is_lost (after t (InLeaf key (Writes lock bytes)) s) t e o ≡ is_lost s t e o
  untouched s key e (SendLater to messages) = refl
  untouched s key e (SettleLater from number token session how) = refl

  -- the entity as it was
  written_before : (s : Space) (key : LeafKey) (m : ℕ) (d : Entity) → entity_of m (after t (InLeaf key (Writes lock bytes)) s) ≡ Some d
      → (e : Entity) × (entity_of m s ≡ Some e) × ((o : Operation) → is_lost (after t (InLeaf key (Writes lock bytes)) s) t d o ≡ is_lost s t e o)
  written_before s key m d there = at (m == key.entity) (entity_of m s) refl (sym (found_on m key.entity g s.entities (λ e. ap (λ (about : Listed). about.number) (about_with_leaf key.part (on_session lock written (leaf_of key.part e)) e))) ∙ there) where
    g : Entity → Entity
    g e = with_leaf key.part (on_session lock written (leaf_of key.part e)) e

    at : (b : Bool) (o : Option Entity) → entity_of m s ≡ o → put_in b g o ≡ Some d → (e : Entity) × (entity_of m s ≡ Some e) × ((o : Operation) → is_lost (after t (InLeaf key (Writes lock bytes)) s) t d o ≡ is_lost s t e o)
    at b None is so = absurd cc
    at true (Some e) is so = (e, is, λ o. subst (λ (x : Entity). is_lost (after t (InLeaf key (Writes lock bytes)) s) t x o ≡ is_lost s t e o) (some_one (g e) d so) (lost_same s key e o))
    at false (Some e) is so = (e, is, λ o. subst (λ (x : Entity). is_lost (after t (InLeaf key (Writes lock bytes)) s) t x o ≡ is_lost s t e o) (some_one e d so) (untouched s key e o))

-- ---- one change

-- what a change queues
abbrev queued_in : Change → List Operation
queued_in (Queues k deadline o) = o ∷ []
queued_in _ = []

-- a transaction and its entity as they were before a change
record Before (t n : ℕ) (c : Change) (s : Space) (y : Transaction) (d : Entity) : Type 0 where
  x : Transaction
  there : transaction_of n s ≡ Some x
  e : Entity
  on : entity_of x.entity s ≡ Some e
  same : (o : Operation) → is_lost (after t c s) t d o ≡ is_lost s t e o
  operations : y.operations ≡ x.operations ++ queued_in c

module _ (t n : ℕ) where
  queued_before : (deadline : ℕ) (o : Operation) (xs : List Transaction) (y : Transaction) → find (is_transaction n) (changed (is_transaction n) (λ x. with_operation deadline o x ∷ []) xs) ≡ Some y → (x : Transaction) × (find (is_transaction n) xs ≡ Some x) × (with_operation deadline o x ≡ y)
  queued_before deadline o xs y there = at (find (is_transaction n) xs) refl where
    at : (found : Option Transaction) → find (is_transaction n) xs ≡ found → (x : Transaction) × (find (is_transaction n) xs ≡ Some x) × (with_operation deadline o x ≡ y)
    at None is = let bad : None ≡ Some y = sym is ∙ sym (ap (find (is_transaction n)) (changed_none (is_transaction n) (λ x. with_operation deadline o x ∷ []) xs is)) ∙ there in absurd cc
    at (Some x) is = (x, is, some_one (with_operation deadline o x) y (sym (found_changed (is_transaction n) (λ x. with_operation deadline o x ∷ []) x (with_operation deadline o x) xs is refl (found_passes (is_transaction n) x xs is)) ∙ there))

  unqueued_same : (k deadline : ℕ) (p : Operation) (s : Space) (e : Entity) (o : Operation) → is_lost (after t (Queues k deadline p) s) t e o ≡ is_lost s t e o
  unqueued_same k deadline p s e (SendLater to messages) = refl
  unqueued_same k deadline p s e (SettleLater from number token session how) = refl

  before : (c : Change) (s : Space) → IsFilling n c → (y : Transaction) → transaction_of n (after t c s) ≡ Some y → (d : Entity) → entity_of y.entity (after t c s) ≡ Some d → Before t n c s y d
  before _ s (fills_queue k deadline o own) y there d on =
      let was = queued_before deadline o s.transactions y (subst (λ (m : ℕ). find (is_transaction n) (changed (is_transaction m) (λ x. with_operation deadline o x ∷ []) s.transactions) ≡ Some y) own there) in
      record {
        x = was.0;
        there = was.1;
        e = d;
        on = subst (λ (m : ℕ). entity_of m s ≡ Some d) (ap (λ (z : Transaction). z.entity) (sym was.2)) on;
        same = λ p. unqueued_same k deadline o s d p;
        operations = ap (λ (z : Transaction). z.operations) (sym was.2);
      }
  before _ s (fills_write key lock bytes) y there d on =
      let was = written_before t lock bytes s key y.entity d on in
      record { x = y; there = there; e = was.0; on = was.1; same = was.2; operations = sym (append-nil y.operations) }

  -- all that is queued there finds its message
  abbrev AreFound : Space → Type 0
  AreFound s = (x : Transaction) → transaction_of n s ≡ Some x → (e : Entity) → entity_of x.entity s ≡ Some e → Each (λ o. is_lost s t e o ≡ false) x.operations

  queued_found : (c : Change) (s : Space) → IsFilling n c → IsFound s t n c → (x : Transaction) → transaction_of n s ≡ Some x → (e : Entity) → entity_of x.entity s ≡ Some e → Each (λ o. is_lost s t e o ≡ false) (queued_in c)
  queued_found _ s (fills_queue k deadline o own) finds x there e on = (finds x there e on, tt)
  queued_found _ s (fills_write key lock bytes) finds x there e on = tt

  one_found : (c : Change) (s : Space) → IsFilling n c → IsFound s t n c → AreFound s → AreFound (after t c s)
  one_found c s fills finds found = λ y there d on.
      let b = before c s fills y there d on in
      each_implied (λ o. is_lost s t b.e o ≡ false) (λ o. is_lost (after t c s) t d o ≡ false) (λ o so. b.same o ∙ so) y.operations
      (subst (Each (λ o. is_lost s t b.e o ≡ false)) (sym b.operations) (each_append (λ o. is_lost s t b.e o ≡ false) b.x.operations (queued_in c) (found b.x b.there b.e b.on) (queued_found c s fills finds b.x b.there b.e b.on)))

  later_found : (c next : Change) (s : Space) → IsFilling n c → IsFilling n next → IsFound s t n next → IsFound (after t c s) t n next
  later_found c _ s fills (fills_queue k deadline o own) finds = λ y there d on. let b = before c s fills y there d on in b.same o ∙ finds b.x b.there b.e b.on
  later_found c _ s fills (fills_write key lock bytes) finds = tt

  all_later_found : (c : Change) (cs : List Change) (s : Space) → IsFilling n c → Each (IsFilling n) cs → Each (IsFound s t n) cs → Each (IsFound (after t c s) t n) cs
  all_later_found c [] s fills filling finds = tt
  all_later_found c (next ∷ cs) s fills filling finds = (later_found c next s fills filling.0 finds.0, all_later_found c cs s fills filling.1 finds.1)

  changes_found : (cs : List Change) (s : Space) → Each (IsFilling n) cs → Each (IsFound s t n) cs → AreFound s → AreFound (after_all t cs s)
  changes_found [] s filling finds found = found
  changes_found (c ∷ cs) s filling finds found = changes_found cs (after t c s) filling.1 (all_later_found c cs s filling.0 filling.1 finds.1) (one_found c s filling.0 finds.0 found)

  fills_found : (xs : List Step) (s : Space) (cs : List Change) (later : Space) → Fills t n xs s cs later → IsOrdered s → AreFound s → AreFound later
  fills_found _ s _ _ fills_none o found = found
  fills_found _ s _ later (fills_one {xs = xs} {cs = cs} {ds = ds} h rest) o found =
      fills_found xs (after_all t cs s) ds later rest (stays_ordered_all t cs s o) (changes_found cs s h.filling (h.finds o) found)

  -- ---- the commit

  none_lost : (s : Space) (e : Entity) (os : List Operation) → Each (λ o. is_lost s t e o ≡ false) os → find (is_lost s t e) os ≡ None
  none_lost s e [] all = refl
  none_lost s e (o ∷ os) all = ap (λ (b : Bool). if b then Some o else find (is_lost s t e) os) all.0 ∙ none_lost s e os all.1

  commit_answer : (s : Space) (reply : Reply) (cs : List Change) → AreFound s → commit_row s t n ≡ answers reply cs → reply ≡ Committed
  commit_answer s reply cs found = at (transaction_of n s) refl where
    quota : (x : Transaction) (e : Entity) (b : Bool) → (if b then refuses (QuotaExceeded (live s) (live (after_all t (commit_changes t e x s) s) - live s)) else answers Committed (commit_changes t e x s)) ≡ answers reply cs → reply ≡ Committed
    quota x e true is = absurd cc
    quota x e false is = sym (answers_so Committed reply (commit_changes t e x s) cs is).0

    on : (x : Transaction) → transaction_of n s ≡ Some x → (o : Option Entity) → entity_of x.entity s ≡ o → found_or o EntityNotFound (λ e. committed s t x e (find (is_lost s t e) x.operations)) ≡ answers reply cs → reply ≡ Committed
    on x there None none is = absurd cc
    on x there (Some e) on_it is =
        quota x e (is_beyond (live s) (live (after_all t (commit_changes t e x s) s))) (sym (ap (committed s t x e) (none_lost s e x.operations (found x there e on_it))) ∙ is)

    at : (o : Option Transaction) → transaction_of n s ≡ o → found_or o TxnNotFound (λ x. found_or (entity_of x.entity s) EntityNotFound (λ e. committed s t x e (find (is_lost s t e) x.operations))) ≡ answers reply cs → reply ≡ Committed
    at None none is = absurd cc
    at (Some x) there is = on x there (entity_of x.entity s) refl is

-- ---- a transaction begins empty

pub none_yet : (last : ℕ) (xs : List Transaction) → Each (λ x. (0 < x.number) × (x.number ≤ last)) xs → find (is_transaction (last + 1)) xs ≡ None
none_yet last [] all = refl
none_yet last (x ∷ xs) all = ap (λ (b : Bool). if b then Some x else find (is_transaction (last + 1)) xs) (other x.number all.0.1) ∙ none_yet last xs all.1 where
  other : (k : ℕ) → k ≤ last → (k == last + 1) ≡ false
  other k few = grind (arith, nat_tests)

begun_found : (t : ℕ) (s : Space) (e : Entity) → IsSweepable s → AreFound t (s.last_txn + 1) (after t (Begins e.about.number (t + txn_life)) s)
begun_found t s e may = λ x there d on. subst (λ (y : Transaction). Each (λ o. is_lost (after t (Begins e.about.number (t + txn_life)) s) t d o ≡ false) y.operations) (some_one new x (sym found_new ∙ there)) tt where
  new : Transaction
  new = record { number = s.last_txn + 1; entity = e.about.number; deadline = t + txn_life; operations = [] }

  found_new : find (is_transaction (s.last_txn + 1)) (s.transactions ++ new ∷ []) ≡ Some new
  found_new = found_append (is_transaction (s.last_txn + 1)) s.transactions (new ∷ []) (none_yet s.last_txn s.transactions (rising_above (λ x. x.number) 0 s.last_txn s.transactions may.transactions))
      ∙ ap (λ (b : Bool). if b then Some new else None) (numbers_equal (s.last_txn + 1))

-- ---- the whole

united_answer : (s : Space) (t : ℕ) (path : Path) (steps : List Step) (reply : Reply) (cs : List Change) → IsSweepable s → Unites s t path steps reply cs → (replies : List StepReply) × (reply ≡ Told replies) × (length replies ≡ length steps)
united_answer s t path steps reply cs may u =
    let n = s.last_txn + 1 in
    let first = Begins u.entity.about.number (t + txn_life) in
    let f = u.filled in
    let found = fills_found t n steps (after t first s) f.filled f.later f.fills (stays_ordered t first s (ordered s may)) (begun_found t s u.entity may) in
    let done : f.answer ≡ Committed = commit_answer t n f.later f.answer f.done found f.commits.row in
    let replies = step_replies steps (committed_receipts f.later t (transaction_of n f.later)) in
    (replies, f.reply_is ∙ ap (told_as replies) done, one_each steps (committed_receipts f.later t (transaction_of n f.later)))

pub each_answered : (s : Space) (t : ℕ) (by : Option By) (path : Path) (steps : List Step) (reply : Reply) (cs : List Change) → IsSweepable s → row_of s t by (Together path steps) ≡ answers reply cs → (replies : List StepReply) × (reply ≡ Told replies) × (length replies ≡ length steps)
each_answered s t by path steps reply cs may is =
    united_answer s t path steps reply cs may (answered_in NoFault (Unites s t path steps) (together_row s t path steps) reply cs (together_so s t path steps) (accepted_so s t by (Together path steps) reply cs is).row)
