-- Ticks at which a lock hasn't run out, and sessions that are accepted where nothing is due.
use Rattle.std.proofs.Common.{Bool, List, None, Option, Result, Some, [], ap, arith, false, nat_le, nat_lt, not, refl, subst, sym, true, ℕ, ◌&&◌, ◌++◌, ◌+◌, ◌==◌, ◌||◌, ◌∙◌, ◌∷◌, ◌≡◌}
use Rattle.std.proofs.lemmas.Bool.Decides.{nat_tests}
use Rattle.std.specs.List.{flat_map, list_any}
use Rattle.std.specs.Prelude.{find, if◌then◌else◌}
use Rattle.sb_laws.proofs.Answered.{accepted_so, acted_row, answered_in, answered_new, goes_by_row}
use Rattle.sb_laws.proofs.Anyone.{neither}
use Rattle.sb_laws.proofs.Calm.{tick_each}
use Rattle.sb_laws.proofs.Deeds.{IsQuiet, calm_quiet}
use Rattle.sb_laws.proofs.Dueness.{found_none}
use Rattle.sb_laws.proofs.Eachs.{each_append}
use Rattle.sb_laws.proofs.Lists.{found_behind, found_here}
use Rattle.sb_laws.proofs.Rows.{Of, answered_so, asked, refused_so, with_receivable}
use Rattle.sb_laws.proofs.Ways.{free_one}
use Rattle.sb_laws.specs.Holders.{AcceptsBy, SessionKey, has_ended_in, has_run_out}
use Rattle.sb_machine.specs.Acts.{act_row}
use Rattle.sb_machine.specs.Answers.{moment_of}
use Rattle.sb_machine.specs.Claims.{has_sessions}
use Rattle.sb_machine.specs.Delivery.{in_part}
use Rattle.sb_machine.specs.Due.{closes_due, closes_in, due_expired, due_locks, due_scheduled, due_sessions, due_transactions, is_due, is_none_in, tick_changes}
use Rattle.sb_machine.specs.Each.{Each}
use Rattle.sb_machine.specs.History.{IsAllowed, Log}
use Rattle.sb_machine.specs.Leases.{is_ended_holder}
use Rattle.sb_machine.specs.Namespace.{entity_at, key_of, leaf_of}
use Rattle.sb_machine.specs.Receiving.{lock_end, next_token}
use Rattle.sb_machine.specs.Repeats.{acted, outcome_of}
use Rattle.sb_machine.specs.Rows.{answers}
use Rattle.sb_machine.specs.Sessions.{accept_row, accepted_named, accepted_next, accepting, held_until, holder_in, next_session}
use Rattle.sb_machine.specs.declared.call.Act.{Act}
use Rattle.sb_machine.specs.declared.call.Call.{Call}
use Rattle.sb_machine.specs.declared.call.Part.{Part}
use Rattle.sb_machine.specs.declared.call.Part.TheVariants.{Dead, Main, Transfer}
use Rattle.sb_machine.specs.declared.call.Path.{Path}
use Rattle.sb_machine.specs.declared.call.Token.{Token}
use Rattle.sb_machine.specs.declared.change.Change.{Change}
use Rattle.sb_machine.specs.declared.change.LeafChange.TheVariants.{Closes, Opens}
use Rattle.sb_machine.specs.declared.history.Entry.TheVariants.{Answered as Replied}
use Rattle.sb_machine.specs.declared.reply.Answered.{Answered}
use Rattle.sb_machine.specs.declared.reply.Refusal.{Refusal}
use Rattle.sb_machine.specs.declared.reply.Refusal.TheVariants.{SessionNotAllowed}
use Rattle.sb_machine.specs.declared.reply.Reply.{Reply}
use Rattle.sb_machine.specs.declared.reply.Reply.TheVariants.{Session as Accepted}
use Rattle.sb_machine.specs.declared.state.Entity.{Entity}
use Rattle.sb_machine.specs.declared.state.Holder.{Holder}
use Rattle.sb_machine.specs.declared.state.Session.{Session}
use Rattle.sb_machine.specs.declared.state.Space.{Space}

pub none_of : {X : Type 0} (p : X → Bool) (x : X) (xs : List X) → list_any p (x ∷ xs) ≡ false → (p x ≡ false) × (list_any p xs ≡ false)
none_of p x xs e = neither (p x) (list_any p xs) e

none_of_three : (a b c : Bool) → (a || b || c) ≡ false → (a ≡ false) × (b ≡ false) × (c ≡ false)
none_of_three false false false e = (refl, refl, refl)
none_of_three false false true e = absurd cc
none_of_three false true c e = absurd cc
none_of_three true b c e = absurd cc

-- ---- a tick at which the lock hasn't run out is quiet

module _ (k n t : ℕ) where
  one_quiet : (e : Entity) (part : Part) (x : Session) → is_ended_holder t k x ≡ false → Each (IsQuiet k n) (closes_due t e part x.holder)
  one_quiet e part x off = at x.holder off where
    at : (o : Option Holder) → ◌≡◌ {A = Bool} (elim o [ Some h ↦ (h.lock == k) && nat_le h.until t | None ↦ false ]) false → Each (IsQuiet k n) (closes_due t e part o)
    at None off = tt
    at (Some h) off = go (nat_le h.until t) off where
      other : (b : Bool) → (b && true) ≡ false → b ≡ false
      other true off = absurd cc
      other false off = refl

      go : (b : Bool) → ((h.lock == k) && b) ≡ false → Each (IsQuiet k n) (if b then in_part part e (Closes h.lock) ∷ [] else [])
      go true off = (other (h.lock == k) off, tt)
      go false off = tt

  part_quiet : (e : Entity) (part : Part) → list_any (is_ended_holder t k) (leaf_of part e).sessions ≡ false → Each (IsQuiet k n) (closes_in t e part)
  part_quiet e part off = all (leaf_of part e).sessions off where
    all : (xs : List Session) → list_any (is_ended_holder t k) xs ≡ false → Each (IsQuiet k n) (flat_map (λ x. closes_due t e part x.holder) xs)
    all [] off = tt
    all (x ∷ xs) off = let parts = none_of (is_ended_holder t k) x xs off in each_append (IsQuiet k n) (closes_due t e part x.holder) (flat_map (λ x. closes_due t e part x.holder) xs) (one_quiet e part x parts.0) (all xs parts.1)

  closes_quiet : (es : List Entity) → list_any (has_ended_in t k) es ≡ false → Each (IsQuiet k n) (flat_map (λ e. closes_in t e Main ++ closes_in t e Dead ++ closes_in t e Transfer) es)
  closes_quiet [] off = tt
  closes_quiet (e ∷ es) off =
      let parts = none_of (has_ended_in t k) e es off in
      let three = none_of_three (list_any (is_ended_holder t k) e.main.sessions) (list_any (is_ended_holder t k) e.dead.sessions) (list_any (is_ended_holder t k) e.transfer.sessions) parts.0 in
      each_append (IsQuiet k n) (closes_in t e Main ++ closes_in t e Dead ++ closes_in t e Transfer) (flat_map (λ e. closes_in t e Main ++ closes_in t e Dead ++ closes_in t e Transfer) es)
      (each_append (IsQuiet k n) (closes_in t e Main ++ closes_in t e Dead) (closes_in t e Transfer) (each_append (IsQuiet k n) (closes_in t e Main) (closes_in t e Dead) (part_quiet e Main three.0) (part_quiet e Dead three.1)) (part_quiet e Transfer three.2))
      (closes_quiet es parts.1)

  pub tick_quiet : (s : Space) → has_run_out t k s ≡ false → Each (IsQuiet k n) (tick_changes t s)
  tick_quiet s off = tick_each (IsQuiet k n) t s (λ c is. calm_quiet false c k n is) (closes_quiet s.entities off)

-- ---- where nothing is due, no session's lock has run out

first_none : (a b c d e : Bool) → not (a && b && c && d && e) ≡ false → a ≡ true
first_none true b c d e so = refl
first_none false b c d e so = absurd cc

pub nothing_left : {X : Type 0} (xs ys : List X) → xs ++ ys ≡ [] → (xs ≡ []) × (ys ≡ [])
nothing_left [] ys e = (refl, e)
nothing_left (x ∷ xs) ys e = absurd cc

each_nothing : {X Y : Type 0} (f : X → List Y) (p : X → Bool) (x : X) (xs : List X) → flat_map f xs ≡ [] → find p xs ≡ Some x → f x ≡ []
each_nothing f p x [] none found = absurd cc
each_nothing f p x (y ∷ ys) none found = at (p y) refl (nothing_left (f y) (flat_map f ys) none) (λ rest later. each_nothing f p x ys rest later) where
  at : (b : Bool) → p y ≡ b → (f y ≡ []) × (flat_map f ys ≡ []) → (flat_map f ys ≡ [] → find p ys ≡ Some x → f x ≡ []) → f x ≡ []
  at true is parts ih = subst (λ z. f z ≡ []) (found_here p y x ys is found) parts.0
  at false is parts ih = ih parts.1 (found_behind p y ys (Some x) is found)

pub nothing_out : (t : ℕ) (s : Space) (part : Part) (q : Entity → Bool) (e : Entity) (r : Session → Bool) (x : Session) → is_due t s ≡ false → find q s.entities ≡ Some e → find r (leaf_of part e).sessions ≡ Some x → closes_due t e part x.holder ≡ []
nothing_out t s part q e r x quiet found there =
    let none = found_none (due_sessions t s) (first_none (is_none_in (due_sessions t s)) (is_none_in (due_locks t s)) (is_none_in (due_expired t s)) (is_none_in (due_scheduled t s)) (is_none_in (due_transactions t s)) quiet) in
    let here = each_nothing (λ d. closes_in t d Main ++ closes_in t d Dead ++ closes_in t d Transfer) q e s.entities none found in
    let two_parts = nothing_left (closes_in t e Main ++ closes_in t e Dead) (closes_in t e Transfer) here in
    let parts = nothing_left (closes_in t e Main) (closes_in t e Dead) two_parts.0 in
    each_nothing (λ y. closes_due t e part y.holder) r x (leaf_of part e).sessions (at part parts.0 parts.1 two_parts.1) there
  where
    at : (part : Part) → closes_in t e Main ≡ [] → closes_in t e Dead ≡ [] → closes_in t e Transfer ≡ [] → closes_in t e part ≡ []
    at Main a b c = a
    at Dead a b c = b
    at Transfer a b c = c

-- a holder whose lock has run out is due
pub still_runs : (t : ℕ) (e : Entity) (part : Part) (h : Holder) → closes_due t e part (Some h) ≡ [] → held_until t (Some h) ≡ None → ⊥
still_runs t e part h none free = at (nat_le h.until t) (nat_lt t h.until) refl refl none free where
  clash : (a b : ℕ) → nat_le a b ≡ false → nat_lt b a ≡ false → ⊥
  clash a b p q = absurd (grind (arith, nat_tests))

  at : (a b : Bool) → nat_le h.until t ≡ a → nat_lt t h.until ≡ b → (if a then in_part part e (Closes h.lock) ∷ [] else []) ≡ [] → ◌≡◌ {A = Option ℕ} (if b then Some h.until else None) None → ⊥
  at true b is so none free = absurd cc
  at false true is so none free = absurd cc
  at false false is so none free = clash h.until t is so

-- ---- accepting

pub record IsOpening (s : Space) (t : ℕ) (from : Path) (id : List ℕ) (token : Token) (until : ℕ) (cs : List Change) : Type 0 where
  pub entity : Entity
  pub there : entity_at from s ≡ Some entity
  pub free : held_until t (holder_in id (leaf_of from.part entity)) ≡ None
  pub under : token.lock ≡ s.last_lock + 1
  pub changes : cs ≡ in_part from.part entity (Opens id until) ∷ []

module _ (s : Space) (t : ℕ) (from : Path) where
  abbrev Opening : Reply → List Change → Type 0
  Opening reply cs = (id : List ℕ) (token : Token) (until : ℕ) → reply ≡ Accepted id token until → IsOpening s t from id token until cs

  opening_so : (e : Entity) (id : List ℕ) → entity_at from s ≡ Some e → held_until t (holder_in id (leaf_of from.part e)) ≡ None → Opening (Accepted id (next_token s) (lock_end e t)) (in_part from.part e (Opens id (lock_end e t)) ∷ [])
  opening_so e id there free i token until same =
      let parts = three_same id i (next_token s) token (lock_end e t) until same in
      record {
        entity = e;
        there = there;
        free = subst (λ (x : List ℕ). held_until t (holder_in x (leaf_of from.part e)) ≡ None) parts.0 free;
        under = sym (ap (λ (x : Token). x.lock) parts.1);
        changes = same_opens id i (lock_end e t) until parts.0 parts.2;
      }
    where
      three_same : (a b : List ℕ) (p q : Token) (m n : ℕ) → Accepted a p m ≡ Accepted b q n → (a ≡ b) × (p ≡ q) × (m ≡ n)
      three_same a b p q m n e = (cc, cc, cc)

      same_opens : (a b : List ℕ) (m n : ℕ) → a ≡ b → m ≡ n → in_part from.part e (Opens a m) ∷ [] ≡ in_part from.part e (Opens b n) ∷ []
      same_opens a b m n p q = cc

  opens_free : (asked_for : Option (List ℕ)) → Of (λ r. Unit {0}) Opening (accept_row s t from asked_for)
  opens_free asked_for = with_receivable s from _ tt tt tt (λ e there. asked (has_sessions e from.part) SessionNotAllowed _ tt (λ has. by e there asked_for)) where
    by : (e : Entity) → entity_at from s ≡ Some e → (asked_for : Option (List ℕ)) → Of (λ r. Unit {0}) Opening (accepting s t e from.part asked_for)
    by e there (Some id) = at (held_until t (holder_in id (leaf_of from.part e))) refl where
      at : (o : Option ℕ) → held_until t (holder_in id (leaf_of from.part e)) ≡ o → Of (λ r. Unit {0}) Opening (accepted_named s t e from.part id o)
      at (Some until) free = refused_so tt
      at None free = answered_so (opening_so e id there free)
    by e there None = at (next_session (leaf_of from.part e) (leaf_of from.part e).copies) refl where
      at : (o : Option (List ℕ)) → next_session (leaf_of from.part e) (leaf_of from.part e).copies ≡ o → Of (λ r. Unit {0}) Opening (accepted_next s t e from.part o)
      at None free = answered_so (λ id token until same. absurd cc)
      at (Some id) free = answered_so (opening_so e id there (ap (held_until t) (free_one (leaf_of from.part e) id (leaf_of from.part e).copies free)))

-- an accepted session, as its entry opened it where nothing was due
pub record IsOpened (key : SessionKey) (lock : ℕ) (l : Log) (reading : ℕ) (call : Call) : Type 0 where
  pub quiet : is_due (moment_of l.state reading) l.state.space ≡ false
  pub changes : List Change
  pub reply : Reply
  pub acted_so : outcome_of l.state (moment_of l.state reading) call ≡ acted reply changes
  pub from : Path
  pub token : Token
  pub until : ℕ
  pub opening : IsOpening l.state.space (moment_of l.state reading) from key.id token until changes
  pub part : key_of from.part opening.entity ≡ key.leaf
  pub under : token.lock ≡ lock

pub opened_so : (key : SessionKey) (lock : ℕ) (l : Log) (seat reading : ℕ) (call : Call) (answer : Result Answered Refusal) → IsAllowed l (Replied seat reading call answer) → AcceptsBy key lock l.state.space call answer → IsOpened key lock l reading call
opened_so key lock l seat reading call answer allowed a =
    let t = moment_of l.state reading in
    let plain : goes_by_row call.act ≡ true = ap goes_by_row a.act in
    let new = answered_new l seat reading call answer (Accepted key.id a.token a.until) plain allowed a.said in
    let row = (accepted_so l.state.space t call.by call.act (Accepted key.id a.token a.until) new.changes (acted_row l.state t call (Accepted key.id a.token a.until) new.changes plain new.acted_so)).row in
    let opening = answered_in (λ r. Unit {0}) (Opening l.state.space t a.from) (accept_row l.state.space t a.from a.asked_for) (Accepted key.id a.token a.until) new.changes (opens_free l.state.space t a.from a.asked_for) (subst (λ (act : Act). act_row l.state.space t act ≡ answers (Accepted key.id a.token a.until) new.changes) a.act row) key.id a.token a.until refl in
    record {
      quiet = new.quiet;
      changes = new.changes;
      reply = Accepted key.id a.token a.until;
      acted_so = new.acted_so;
      from = a.from;
      token = a.token;
      until = a.until;
      opening = opening;
      part = ap (λ (d : Entity). key_of a.from.part d) (one_entity opening.entity a.entity (sym opening.there ∙ a.there)) ∙ a.part;
      under = a.under;
    }
  where
    one_entity : (d e : Entity) → ◌≡◌ {A = Option Entity} (Some d) (Some e) → d ≡ e
    one_entity d e same = cc
