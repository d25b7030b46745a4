-- What an accepted act does to locks, sessions and entities: it settles, closes a session, deletes, or does none of these.
use Rattle.std.proofs.Common.{Bool, List, None, Option, Some, [], false, filter, map, nat_le, not, refl, subst, sym, true, ℕ, ◌&&◌, ◌++◌, ◌+◌, ◌==◌, ◌∷◌, ◌≡◌}
use Rattle.std.specs.List.{flat_map}
use Rattle.std.specs.Prelude.{if◌then◌else◌}
use Rattle.sb_laws.proofs.Calm.{IsCalm, calm_drops, calm_ends, calm_enters, calm_frees, calm_notes, calm_passes, commit_calm, expired_calm, flat_all, is_unheld, released_calm, sends_calm, settled_calm, tick_each}
use Rattle.sb_laws.proofs.Eachs.{each_append, each_implied}
use Rattle.sb_laws.proofs.Locking.{FreesLocks}
use Rattle.sb_laws.proofs.Outcomes.{Comes, comes, comes_acted}
use Rattle.sb_laws.proofs.Running.{fills_fill}
use Rattle.sb_laws.proofs.Tick.{is_free}
use Rattle.sb_laws.proofs.Uniting.{Does, IsFilling, Unites, does_many, does_one, fills_queue, fills_write}
use Rattle.sb_laws.proofs.Ways.{Way, aborts, adds_rule, begins, cancels, closes, commits, drops_rule, expires, hands_out, makes_queue, makes_subscription, makes_topic, opens, prolongs, queues_send, removes, renews, rolls_back, sends, settles_later, settles_now, takes_out, tells, writes}
use Rattle.sb_machine.specs.Accounts.{entry_changes}
use Rattle.sb_machine.specs.Administration.{going_with}
use Rattle.sb_machine.specs.Answers.{changes_of, moment_of}
use Rattle.sb_machine.specs.Changes.{after}
use Rattle.sb_machine.specs.Delivery.{in_part, released}
use Rattle.sb_machine.specs.Due.{closes_due, closes_in, due_sessions, is_due}
use Rattle.sb_machine.specs.Each.{Each, has_lock}
use Rattle.sb_machine.specs.History.{Log, is_fault}
use Rattle.sb_machine.specs.Leases.{is_under_session}
use Rattle.sb_machine.specs.Namespace.{entity_at, key_of, leaf_of, listed}
use Rattle.sb_machine.specs.Queueing.{txn_life}
use Rattle.sb_machine.specs.Repeats.{Outcome, acted, forgot, outcome_of, refused, repeated}
use Rattle.sb_machine.specs.SendRow.{queued_send}
use Rattle.sb_machine.specs.Sessions.{closed}
use Rattle.sb_machine.specs.Together.{unqueued}
use Rattle.sb_machine.specs.declared.call.Act.{Act}
use Rattle.sb_machine.specs.declared.call.Act.TheVariants.{Delete, SessionClose}
use Rattle.sb_machine.specs.declared.call.Call.{Call}
use Rattle.sb_machine.specs.declared.call.Part.{Part}
use Rattle.sb_machine.specs.declared.call.Part.TheVariants.{Dead, Main, Transfer}
use Rattle.sb_machine.specs.declared.call.Path.{Path}
use Rattle.sb_machine.specs.declared.call.Step.{Step}
use Rattle.sb_machine.specs.declared.call.Token.{Token}
use Rattle.sb_machine.specs.declared.change.Cause.TheVariants.{Cancelled, Received}
use Rattle.sb_machine.specs.declared.change.Change.{Change}
use Rattle.sb_machine.specs.declared.change.Change.TheVariants.{Begins, Drops, InLeaf, Removes}
use Rattle.sb_machine.specs.declared.change.LeafChange.TheVariants.{Closes, Ends, Stands, Writes}
use Rattle.sb_machine.specs.declared.change.LeafKey.{LeafKey}
use Rattle.sb_machine.specs.declared.history.Entry.{Entry}
use Rattle.sb_machine.specs.declared.history.Entry.TheVariants.{Ticked, Answered as Replied}
use Rattle.sb_machine.specs.declared.reply.Answered.{Answered}
use Rattle.sb_machine.specs.declared.reply.Refusal.{Refusal}
use Rattle.sb_machine.specs.declared.reply.Reply.{Reply}
use Rattle.sb_machine.specs.declared.reply.Reply.TheVariants.{Done}
use Rattle.sb_machine.specs.declared.state.Entity.{Entity}
use Rattle.sb_machine.specs.declared.state.Holder.{Holder}
use Rattle.sb_machine.specs.declared.state.Space.{Space}
use Rattle.sb_machine.specs.declared.state.Standing.{Standing}
use Rattle.sb_machine.specs.declared.state.Standing.TheVariants.{Deferred, Held, Ready, Scheduled}
use Rattle.sb_machine.specs.declared.state.State.{State}
use Rattle.sb_model.specs.declared.message.Message.{Message}
use Rattle.std.specs.Prelude.{Result}

-- it uses up no lock
abbrev pub IsUnspent : Change → Type 0
IsUnspent (InLeaf key (Ends n by_settlement cause)) = by_settlement ≡ false
IsUnspent (InLeaf key (Stands n by_settlement count standing)) = by_settlement ≡ false
IsUnspent _ = Unit {0}

-- it closes no session of this lock, and removes another entity if any
abbrev pub IsQuiet : ℕ → ℕ → Change → Type 0
IsQuiet k n (InLeaf key (Closes l)) = (l == k) ≡ false
IsQuiet k n (Removes m) = (m == n) ≡ false
IsQuiet k n _ = Unit {0}

pub record IsSteady (c : Change) : Type 0 where
  pub frees : (k : ℕ) → FreesLocks k c
  pub unspent : IsUnspent c
  pub quiet : (k n : ℕ) → IsQuiet k n c

-- what operations that act together tell: their transaction begins, what sessions remember is written, and the rest is calm
pub data IsJoint : Change → Type 0 where
  joint_begins : (n deadline : ℕ) → IsJoint (Begins n deadline)
  joint_writes : (key : LeafKey) (lock : ℕ) (bytes : Option (List ℕ)) → IsJoint (InLeaf key (Writes lock bytes))
  joint_calm : (c : Change) → IsCalm true c → IsJoint c

pub data Deed (s : Space) (t : ℕ) (act : Act) (reply : Reply) (cs : List Change) : Type 0 where
  steadies : Each IsSteady cs → Deed s t act reply cs
  settles : Each (IsCalm true) cs → Deed s t act reply cs
  joins : Each IsJoint cs → Deed s t act reply cs
  shuts : (from : Path) (token : Token) (e : Entity) → act ≡ SessionClose from token → reply ≡ Done → entity_at from s ≡ Some e → cs ≡ closed s t e from.part token.lock → Deed s t act reply cs
  deletes : (path : Path) (e : Entity) → act ≡ Delete path → reply ≡ Done → entity_at path s ≡ Some e → cs ≡ map (λ x. Removes x.about.number) (e ∷ going_with s e) → Deed s t act reply cs

-- ---- calm changes

pub unheld_lock : (k : ℕ) (standing : Standing) → is_unheld standing ≡ true → has_lock k standing ≡ false
unheld_lock k Ready free = refl
unheld_lock k Deferred free = refl
unheld_lock k (Held lock hold deferred) free = absurd cc
unheld_lock k (Scheduled moment) free = refl

pub free_unheld : (standing : Standing) → is_free standing ≡ true → is_unheld standing ≡ true
free_unheld Ready free = refl
free_unheld Deferred free = refl
free_unheld (Held lock hold deferred) free = absurd cc
free_unheld (Scheduled moment) free = refl

pub calm_frees_locks : (b : Bool) (c : Change) (k : ℕ) → IsCalm b c → FreesLocks k c
calm_frees_locks b _ k (calm_enters key fresh unheld) = unheld_lock k fresh.standing unheld
calm_frees_locks b _ k (calm_passes key cause) = tt
calm_frees_locks b _ k (calm_ends key n cause) = tt
calm_frees_locks b _ k (calm_frees key n count standing free) = unheld_lock k standing (free_unheld standing free)
calm_frees_locks b _ k (calm_notes n id) = tt
calm_frees_locks b _ k (calm_drops n) = tt

pub calm_quiet : (b : Bool) (c : Change) (k n : ℕ) → IsCalm b c → IsQuiet k n c
calm_quiet b _ k n (calm_enters key fresh unheld) = tt
calm_quiet b _ k n (calm_passes key cause) = tt
calm_quiet b _ k n (calm_ends key m cause) = tt
calm_quiet b _ k n (calm_frees key m count standing free) = tt
calm_quiet b _ k n (calm_notes m id) = tt
calm_quiet b _ k n (calm_drops m) = tt

pub joint_frees_locks : (c : Change) (k : ℕ) → IsJoint c → FreesLocks k c
joint_frees_locks _ k (joint_begins n deadline) = tt
joint_frees_locks _ k (joint_writes key lock bytes) = tt
joint_frees_locks _ k (joint_calm c is) = calm_frees_locks true c k is

pub joint_quiet : (c : Change) (k n : ℕ) → IsJoint c → IsQuiet k n c
joint_quiet _ k n (joint_begins m deadline) = tt
joint_quiet _ k n (joint_writes key lock bytes) = tt
joint_quiet _ k n (joint_calm c is) = calm_quiet true c k n is

pub calm_unspent : (c : Change) → IsCalm false c → IsUnspent c
calm_unspent _ (calm_enters key fresh unheld) = tt
calm_unspent _ (calm_passes key cause) = tt
calm_unspent _ (calm_ends key m cause) = refl
calm_unspent _ (calm_frees key m count standing free) = refl
calm_unspent _ (calm_notes m id) = tt
calm_unspent _ (calm_drops m) = tt

pub calm_steady : (c : Change) → IsCalm false c → IsSteady c
calm_steady c is = record { frees = λ k. calm_frees_locks false c k is; unspent = calm_unspent c is; quiet = λ k n. calm_quiet false c k n is }

all_steady : (cs : List Change) → Each (IsCalm false) cs → Each IsSteady cs
all_steady cs h = each_implied (IsCalm false) IsSteady calm_steady cs h

-- what is released as a session is closed
pub closed_steady : (s : Space) (t : ℕ) (e : Entity) (part : Part) (lock : ℕ) → Each IsSteady (flat_map (λ c. released (listed s) t e part c false false) (filter (λ c. is_under_session lock c.standing) (leaf_of part e).copies))
closed_steady s t e part lock = all_steady _ (flat_all (IsCalm false) (λ c. released (listed s) t e part c false false) (λ c. released_calm false (listed s) t e part c false) (filter (λ c. is_under_session lock c.standing) (leaf_of part e).copies))

-- ---- each way in which an act is accepted

pub deed : (s : Space) (t : ℕ) (act : Act) (reply : Reply) (cs : List Change) → Way s t act reply cs → Deed s t act reply cs
deed s t _ _ _ (tells told) = steadies tt
deed s t _ _ _ (makes_queue named new good) = steadies (record { frees = λ k. tt; unspent = tt; quiet = λ k n. tt }, tt)
deed s t _ _ _ (makes_topic named new good) = steadies (record { frees = λ k. tt; unspent = tt; quiet = λ k n. tt }, tt)
deed s t _ _ _ (makes_subscription e named short there is new good) = steadies (record { frees = λ k. tt; unspent = tt; quiet = λ k n. tt }, tt)
deed s t _ _ _ (adds_rule e f a named there new f_is a_is small) = steadies (record { frees = λ k. tt; unspent = tt; quiet = λ k n. tt }, tt)
deed s t _ _ _ (removes {path = path} e there) = deletes path e refl refl there refl
deed s t _ _ _ (drops_rule e r there is) = steadies (record { frees = λ k. tt; unspent = tt; quiet = λ k n. tt }, tt)
deed s t _ _ _ (sends {messages = messages} e goes there sessions small) = steadies (all_steady _ (sends_calm false t e messages s))
deed s t act reply _ (queues_send {to = to} {messages = messages} {n = n} x named goes there room small) = at messages where
  at : (ms : List Message) → Deed s t act reply (queued_send t to ms x)
  at [] = steadies tt
  at (m ∷ ms) = steadies (record { frees = λ k. tt; unspent = tt; quiet = λ k n. tt }, tt)
deed s t _ _ _ (cancels {from = from} e c there is) = steadies (calm_steady _ (calm_ends (key_of from.part e) c.number Cancelled), tt)
deed s t _ _ _ (hands_out from e c p there own is of stands) = steadies (record { frees = λ k. tt; unspent = tt; quiet = λ k n. tt }, tt)
deed s t _ _ _ (takes_out from e c p there is stands) = steadies (calm_steady _ (calm_ends (key_of from.part e) c.number Received), tt)
deed s t _ _ _ (expires from e c p there main is stands) = steadies (all_steady _ (expired_calm false (listed s) e c))
deed s t _ _ _ (settles_now {from = from} {how = how} e c there goes is none) = settles (settled_calm (listed s) t e from.part c how)
deed s t _ _ _ (settles_later e c x there goes on own is none room) = steadies (record { frees = λ k. tt; unspent = tt; quiet = λ k n. tt }, tt)
deed s t _ _ _ (renews e c there free is other) = steadies (record { frees = λ k. tt; unspent = tt; quiet = λ k n. tt }, tt)
deed s t _ _ _ (opens from id e there has free named) = steadies (record { frees = λ k. tt; unspent = tt; quiet = λ k n. tt }, tt)
deed s t _ _ _ (prolongs e x there has held other) = steadies (record { frees = λ k. tt; unspent = tt; quiet = λ k n. tt }, tt)
deed s t _ _ _ (closes {from = from} {token = token} e x there has held) = shuts from token e refl refl there refl
deed s t _ _ _ (writes e x there has held small other) = steadies (record { frees = λ k. tt; unspent = tt; quiet = λ k n. tt }, tt)
deed s t _ _ _ (begins e there few) = steadies (record { frees = λ k. tt; unspent = tt; quiet = λ k n. tt }, tt)
deed s t _ _ _ (commits {n = n} x e there on none) = settles (commit_calm t e x s)
deed s t _ _ _ (aborts x o there) = steadies (calm_steady _ (calm_drops x.number), tt)
deed s t _ _ _ (rolls_back {n = n} x there) = steadies (calm_steady _ (calm_drops n), tt)

unqueued_joint : (n : ℕ) (cs : List Change) → Each (IsFilling n) cs → Each IsJoint (unqueued cs)
unqueued_joint n [] all = tt
unqueued_joint n (_ ∷ cs) (fills_queue k deadline o own, all) = unqueued_joint n cs all
unqueued_joint n (_ ∷ cs) (fills_write key lock bytes, all) = (joint_writes key lock bytes, unqueued_joint n cs all)

pub united_joint : (s : Space) (t : ℕ) (path : Path) (steps : List Step) (reply : Reply) (cs : List Change) → Unites s t path steps reply cs → Each IsJoint cs
united_joint s t path steps reply cs u =
    let n = s.last_txn + 1 in
    let f = u.filled in
    let filling = fills_fill t n steps (after t (Begins u.entity.about.number (t + txn_life)) s) f.filled f.later f.fills in
    let last_ones = f.commits.calmly in
    let done : Each IsJoint f.done = subst (Each IsJoint) (sym last_ones.ends) (joint_calm (Drops n) (calm_drops n), each_implied (IsCalm true) IsJoint joint_calm last_ones.rest last_ones.calm) in
    subst (Each IsJoint) (sym u.changes) (joint_begins u.entity.about.number (t + txn_life), subst (Each IsJoint) (sym f.changes) (each_append IsJoint (unqueued f.filled) f.done (unqueued_joint n f.filled filling) done))

pub does_deed : (s : Space) (t : ℕ) (act : Act) (reply : Reply) (cs : List Change) → Does s t act reply cs → Deed s t act reply cs
does_deed s t act reply cs (does_one way) = deed s t act reply cs way
does_deed s t _ reply cs (does_many {path = path} {steps = steps} u) = joins (united_joint s t path steps reply cs u)

pub deed_of : (s : State) (t : ℕ) (call : Call) (reply : Reply) (cs : List Change) → outcome_of s t call ≡ acted reply cs → Deed s.space t call.act reply cs
deed_of s t call reply cs is = by (subst (Comes s t call) is (comes s t call)) where
  by : Comes s t call (acted reply cs) → Deed s.space t call.act reply cs
  by (comes_acted newer fits) = does_deed s.space t call.act reply cs fits.does

-- ---- each entry

-- what holds of an accepted call's changes holds of its entry's
pub replied_each : (C : Change → Type 0) (l : Log) (seat reading : ℕ) (call : Call) (answer : Result Answered Refusal) → ((reply : Reply) (cs : List Change) → outcome_of l.state (moment_of l.state reading) call ≡ acted reply cs → Each C cs) → Each C (entry_changes l (Replied seat reading call answer))
replied_each C l seat reading call answer acts = at (is_fault answer) (is_due (moment_of l.state reading) l.state.space) where
  on : (o : Outcome) → outcome_of l.state (moment_of l.state reading) call ≡ o → Each C (changes_of o)
  on (refused r) is = tt
  on (repeated reply) is = tt
  on (forgot name) is = tt
  on (acted reply cs) is = acts reply cs is

  at : (f d : Bool) → Each C (if not f && not d then changes_of (outcome_of l.state (moment_of l.state reading) call) else [])
  at true d = tt
  at false true = tt
  at false false = on (outcome_of l.state (moment_of l.state reading) call) refl

-- what holds of each close of a session holds of the sessions that are due
pub sessions_each : (C : Change → Type 0) (t : ℕ) (s : Space) → ((key : LeafKey) (l : ℕ) → C (InLeaf key (Closes l))) → Each C (due_sessions t s)
sessions_each C t s closes_so = flat_all C (λ e. closes_in t e Main ++ closes_in t e Dead ++ closes_in t e Transfer) (λ e. each_append C (closes_in t e Main ++ closes_in t e Dead) (closes_in t e Transfer) (each_append C (closes_in t e Main) (closes_in t e Dead) (in_leaf e Main) (in_leaf e Dead)) (in_leaf e Transfer)) s.entities where
  in_leaf : (e : Entity) (part : Part) → Each C (closes_in t e part)
  in_leaf e part = flat_all C (λ x. closes_due t e part x.holder) (λ x. one_of x.holder) (leaf_of part e).sessions where
    one_of : (o : Option Holder) → Each C (closes_due t e part o)
    one_of None = tt
    one_of (Some h) = go (nat_le h.until t) where
      go : (b : Bool) → Each C (if b then in_part part e (Closes h.lock) ∷ [] else [])
      go true = (closes_so (key_of part e) h.lock, tt)
      go false = tt

frees_of_deed : (s : Space) (t : ℕ) (act : Act) (reply : Reply) (cs : List Change) → Deed s t act reply cs → Each (λ c. (k : ℕ) → FreesLocks k c) cs
frees_of_deed s t act reply cs (steadies h) = each_implied IsSteady (λ c. (k : ℕ) → FreesLocks k c) (λ c is. is.frees) cs h
frees_of_deed s t act reply cs (settles h) = each_implied (IsCalm true) (λ c. (k : ℕ) → FreesLocks k c) (λ c is k. calm_frees_locks true c k is) cs h
frees_of_deed s t act reply cs (joins h) = each_implied IsJoint (λ c. (k : ℕ) → FreesLocks k c) (λ c is k. joint_frees_locks c k is) cs h
frees_of_deed s t act reply cs (shuts from token e same done there is) = subst (Each (λ c. (k : ℕ) → FreesLocks k c)) (sym is) ((λ k. tt), each_implied IsSteady (λ c. (k : ℕ) → FreesLocks k c) (λ c so. so.frees) (flat_map (λ c. released (listed s) t e from.part c false false) (filter (λ c. is_under_session token.lock c.standing) (leaf_of from.part e).copies)) (closed_steady s t e from.part token.lock))
frees_of_deed s t act reply cs (deletes path e same done there is) = subst (Each (λ c. (k : ℕ) → FreesLocks k c)) (sym is) (all (e ∷ going_with s e)) where
  all : (es : List Entity) → Each (λ c. (k : ℕ) → FreesLocks k c) (map (λ x. Removes x.about.number) es)
  all [] = tt
  all (x ∷ xs) = ((λ k. tt), all xs)

-- no change of an entry puts a copy under a lock that was given before
pub entry_frees : (l : Log) (e : Entry) → Each (λ c. (k : ℕ) → FreesLocks k c) (entry_changes l e)
entry_frees l (Ticked seat t) = tick_each (λ c. (k : ℕ) → FreesLocks k c) t l.state.space (λ c is k. calm_frees_locks false c k is) (sessions_each (λ c. (k : ℕ) → FreesLocks k c) t l.state.space (λ key m k. tt))
entry_frees l (Replied seat reading call answer) = replied_each (λ c. (k : ℕ) → FreesLocks k c) l seat reading call answer (λ reply cs is. frees_of_deed l.state.space (moment_of l.state reading) call.act reply cs (deed_of l.state (moment_of l.state reading) call reply cs is))
