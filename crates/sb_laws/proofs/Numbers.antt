-- A client's numbers rise, until it is forgotten.
use Rattle.std.proofs.Common.{Bool, List, None, Option, Some, [], ap, arith, false, not, refl, subst, sym, true, ℕ, ◌&&◌, ◌++◌, ◌+◌, ◌<◌, ◌==◌, ◌∙◌, ◌∷◌, ◌≡◌, ◌≤◌}
use Rattle.std.proofs.lemmas.List.Sums.{sum_by-cons}
use Rattle.std.specs.Prelude.{bytes_eq, if◌then◌else◌}
use Rattle.sb_laws.proofs.Clients.{kept_gone, kept_without, newer_without}
use Rattle.sb_laws.proofs.Eachs.{each_implied, is_equal}
use Rattle.sb_laws.proofs.Lists.{found_changed, found_other}
use Rattle.sb_laws.proofs.Named.{IsWell, starts_well, well_after}
use Rattle.sb_laws.proofs.Outcomes.{Comes, IsNewer, comes, comes_acted, comes_forgot, first_of, forgets_another, later_of}
use Rattle.sb_laws.proofs.Placed.{found_past, found_placed}
use Rattle.sb_laws.proofs.Sameness.{bytes_same, same_bytes}
use Rattle.sb_laws.specs.Acted.{ActOnce, Rise, first_stretch, later_stretches, least_next, uses_of}
use Rattle.sb_laws.specs.Counting.{one, times}
use Rattle.sb_machine.specs.Accounts.{NumberUse, acted_with, acts, forgets, number_uses, uses_in}
use Rattle.sb_machine.specs.Answers.{is_change, keeping, kept_as, moment_of, state_in, state_of, with_kept, without_client}
use Rattle.sb_machine.specs.Changes.{after_all}
use Rattle.sb_machine.specs.Consistent.{IsConsistent}
use Rattle.sb_machine.specs.Due.{is_due}
use Rattle.sb_machine.specs.Each.{Each, IsSorted}
use Rattle.sb_machine.specs.History.{IsLegal, IsLegalFrom, Log, after_entry, fresh_log, is_fault}
use Rattle.sb_machine.specs.Names.{is_before}
use Rattle.sb_machine.specs.Repeats.{Outcome, acted, client_of, forgot, is_client, kept_for, outcome_of, refused, repeated}
use Rattle.sb_machine.specs.declared.call.Act.{Act}
use Rattle.sb_machine.specs.declared.call.By.{By}
use Rattle.sb_machine.specs.declared.call.Call.{Call}
use Rattle.sb_machine.specs.declared.change.Change.{Change}
use Rattle.sb_machine.specs.declared.history.Entry.{Entry}
use Rattle.sb_machine.specs.declared.history.Entry.TheVariants.{Ticked, Answered as Replied}
use Rattle.sb_machine.specs.declared.reply.Reply.{Reply}
use Rattle.sb_machine.specs.declared.reply.Reply.TheVariants.{Done}
use Rattle.sb_machine.specs.declared.state.Kept.{Kept}
use Rattle.sb_machine.specs.declared.state.State.{State}

-- ---- what is kept behind a new one

kept_same : (k : Kept) (clients : List Kept) → kept_for k.client (with_kept k clients) ≡ Some k
kept_same k clients = at (kept_for k.client clients) refl where
  at : (o : Option Kept) → kept_for k.client clients ≡ o → kept_for k.client (with_kept k clients) ≡ Some k
  at None is = rw is (found_placed (is_client k.client) (λ x. is_before x.client k.client) k clients is (bytes_same k.client))
  at (Some old) is = rw is (found_changed (is_client k.client) (λ x. k ∷ []) old k clients is refl (bytes_same k.client))

kept_other : (client : List ℕ) (k : Kept) (clients : List Kept) → bytes_eq k.client client ≡ false → kept_for client (with_kept k clients) ≡ kept_for client clients
kept_other client k clients differ = at (kept_for k.client clients) refl where
  apart : (x : Kept) → is_client k.client x ≡ true → is_client client x ≡ false
  apart x e = ap (λ (l : List ℕ). bytes_eq l client) (same_bytes x.client k.client e) ∙ differ

  at : (o : Option Kept) → kept_for k.client clients ≡ o → kept_for client (with_kept k clients) ≡ kept_for client clients
  at None is = rw is (found_past (is_client client) (λ x. is_before x.client k.client) k clients differ)
  at (Some old) is = rw is (found_other (is_client k.client) (is_client client) (λ x. k ∷ []) clients apart (λ x e. rw differ refl))

-- ---- one entry: nothing of a client, a number that it may use, which is kept then, or it is forgotten

pub data Steps : ℕ → List (Option ℕ) → ℕ → Type 0 where
  stays : {low : ℕ} → Steps low [] low
  steps : {low n : ℕ} → low ≤ n → Steps low (Some n ∷ []) (n + 1)
  begins_anew : {low : ℕ} → Steps low (None ∷ []) 0

-- all stretches rise
abbrev Goes : ℕ → List (Option ℕ) → Type 0
Goes low us = Rise low (first_stretch us) × Each (Rise 0) (later_stretches us)

goes_behind : (low high : ℕ) (here rest : List (Option ℕ)) → Steps low here high → Goes high rest → Goes low (here ++ rest)
goes_behind low high here rest stays r = r
goes_behind low high here rest (steps le) r = ((le, r.0), r.1)
goes_behind low high here rest begins_anew r = (tt, r)

abbrev next_of : Option Kept → ℕ
next_of o = elim o as (λ _. ℕ) [ Some k ↦ k.number + 1 | None ↦ 0 ]

-- what acts has a number above the one that is kept
may_act : (clients : List Kept) (by : By) → IsNewer clients (Some by) → least_next by.client clients ≤ by.number
may_act clients by (first_of _ none few) = rw (none, least_next) (omega arith)
may_act clients by (later_of _ k there lt) = rw (there, least_next) (omega (arith, lt))

newer_in : (s : State) (t : ℕ) (call : Call) (reply : Reply) (cs : List Change) → outcome_of s t call ≡ acted reply cs → IsNewer s.clients (client_of call)
newer_in s t call reply cs is = by (subst (Comes s t call) is (comes s t call)) where
  by : Comes s t call (acted reply cs) → IsNewer s.clients (client_of call)
  by (comes_acted newer fits) = newer

-- a call with a number, which is kept
one_acts : (client : List ℕ) (by : By) (act : Act) (reply : Reply) (clients : List Kept) → IsNewer clients (Some by) → Steps (least_next client clients) (uses_of client (acted_with (Some by))) (least_next client (with_kept (kept_as by act reply) clients))
one_acts client by act reply clients newer = on (bytes_eq by.client client) refl where
  on : (b : Bool) → bytes_eq by.client client ≡ b → Steps (least_next client clients) (if b then Some by.number ∷ [] else []) (least_next client (with_kept (kept_as by act reply) clients))
  on true e =
      let behind : least_next by.client (with_kept (kept_as by act reply) clients) ≡ by.number + 1 = ap next_of (kept_same (kept_as by act reply) clients) in
      subst (λ (c : List ℕ). Steps (least_next c clients) (Some by.number ∷ []) (least_next c (with_kept (kept_as by act reply) clients))) (same_bytes by.client client e)
      (subst (λ (m : ℕ). Steps (least_next by.client clients) (Some by.number ∷ []) m) (sym behind) (steps (may_act clients by newer)))
  on false e =
      let behind : least_next client (with_kept (kept_as by act reply) clients) ≡ least_next client clients = ap next_of (kept_other client (kept_as by act reply) clients e) in
      subst (λ (m : ℕ). Steps (least_next client clients) [] m) (sym behind) stays

-- a client is forgotten, by a call that may have a number of another
one_forgotten : (client name : List ℕ) (by : Option By) (act : Act) (clients : List Kept) → IsSorted (λ a b. is_before a.client b.client) clients → IsNewer clients by → ((b : By) → by ≡ Some b → bytes_eq name b.client ≡ false)
    → Steps (least_next client clients) (uses_of client (forgets name ∷ acted_with by)) (least_next client (keeping by act Done (without_client name clients)))
one_forgotten client name by act clients order newer other = on (bytes_eq name client) refl where
  -- this client is forgotten
  gone : name ≡ client → least_next client (without_client name clients) ≡ 0
  gone is = subst (λ (c : List ℕ). least_next c (without_client name clients) ≡ 0) is (ap next_of (kept_gone name clients order))

  own : name ≡ client → (by : Option By) → ((b : By) → by ≡ Some b → bytes_eq name b.client ≡ false) → Steps (least_next client clients) (None ∷ uses_of client (acted_with by)) (least_next client (keeping by act Done (without_client name clients)))
  own is None other = subst (λ (m : ℕ). Steps (least_next client clients) (None ∷ []) m) (sym (gone is)) begins_anew
  own is (Some b) other =
      let apart : bytes_eq b.client client ≡ false = none (bytes_eq b.client client) refl in
      let behind : least_next client (with_kept (kept_as b act Done) (without_client name clients)) ≡ 0 = ap next_of (kept_other client (kept_as b act Done) (without_client name clients) apart) ∙ gone is in
      rw apart (subst (λ (m : ℕ). Steps (least_next client clients) (None ∷ []) m) (sym behind) begins_anew)
    where
      none : (c : Bool) → bytes_eq b.client client ≡ c → c ≡ false
      none false e = refl
      none true e = let never : true ≡ false = sym (ap (bytes_eq name) (same_bytes b.client client e ∙ sym is) ∙ bytes_same name) ∙ other b refl in absurd cc

  -- another is forgotten
  apart_from : bytes_eq name client ≡ false → (by : Option By) → IsNewer (without_client name clients) by → Steps (least_next client (without_client name clients)) (uses_of client (acted_with by)) (least_next client (keeping by act Done (without_client name clients)))
  apart_from differ None newer = stays
  apart_from differ (Some b) newer = one_acts client b act Done (without_client name clients) newer

  on : (b : Bool) → bytes_eq name client ≡ b → Steps (least_next client clients) (if b then None ∷ uses_of client (acted_with by) else uses_of client (acted_with by)) (least_next client (keeping by act Done (without_client name clients)))
  on true e = own (same_bytes name client e) by other
  on false e = subst (λ (m : ℕ). Steps m (uses_of client (acted_with by)) (least_next client (keeping by act Done (without_client name clients)))) (ap next_of (kept_without client name clients e)) (apart_from e by (newer_without name clients by other newer))

one_call : (client : List ℕ) (s : State) (t : ℕ) (call : Call) (o : Outcome) → IsSorted (λ a b. is_before a.client b.client) s.clients → outcome_of s t call ≡ o → Steps (least_next client s.clients) (uses_of client (uses_in (client_of call) o)) (least_next client (state_in s t call o).clients)
one_call client s t call (refused r) order is = stays
one_call client s t call (repeated reply) order is = stays
one_call client s t call (forgot name) order is = by (subst (Comes s t call) is (comes s t call)) where
  by : Comes s t call (forgot name) → Steps (least_next client s.clients) (uses_of client (forgets name ∷ acted_with (client_of call))) (least_next client (keeping (client_of call) call.act Done (without_client name s.clients)))
  by (comes_forgot asked newer fits) = one_forgotten client name (client_of call) call.act s.clients order newer (forgets_another s.space t call name Done [] asked fits)
one_call client s t call (acted reply cs) order is = at (client_of call) cs (newer_in s t call reply cs is) where
  at : (o : Option By) (cs : List Change) → IsNewer s.clients o → Steps (least_next client s.clients) (uses_of client (acted_with o))
      (least_next client (if is_change o (acted reply cs) then record { now = t; clients = keeping o call.act reply s.clients; space = after_all t cs s.space } else s).clients)
  at None [] newer = stays
  at None (c ∷ cs) newer = stays
  at (Some by) cs newer = one_acts client by call.act reply s.clients newer

-- ---- all entries

uses_append : (client : List ℕ) (xs ys : List NumberUse) → uses_of client (xs ++ ys) ≡ uses_of client xs ++ uses_of client ys
uses_append client [] ys = refl
uses_append client (acts x ∷ xs) ys = at (bytes_eq x.client client) refl (uses_append client xs ys) where
  at : (b : Bool) → bytes_eq x.client client ≡ b → uses_of client (xs ++ ys) ≡ uses_of client xs ++ uses_of client ys → uses_of client ((acts x ∷ xs) ++ ys) ≡ uses_of client (acts x ∷ xs) ++ uses_of client ys
  at true is ih = rw is (ap (λ (l : List (Option ℕ)). Some x.number ∷ l) ih)
  at false is ih = rw is ih
uses_append client (forgets name ∷ xs) ys = at (bytes_eq name client) refl (uses_append client xs ys) where
  at : (b : Bool) → bytes_eq name client ≡ b → uses_of client (xs ++ ys) ≡ uses_of client xs ++ uses_of client ys → uses_of client ((forgets name ∷ xs) ++ ys) ≡ uses_of client (forgets name ∷ xs) ++ uses_of client ys
  at true is ih = rw is (ap (λ (l : List (Option ℕ)). None ∷ l) ih)
  at false is ih = rw is ih

module _ (client : List ℕ) where
  abbrev least : Log → ℕ
  least l = least_next client l.state.clients

  abbrev GoesOn : Log → List Entry → Type 0
  GoesOn l h = Goes (least l) (uses_of client (number_uses l h))

  entry_then : (l : Log) (e : Entry) (es : List Entry) (here : List NumberUse) → Steps (least l) (uses_of client here) (least (after_entry l e)) → GoesOn (after_entry l e) es → Goes (least l) (uses_of client (here ++ number_uses (after_entry l e) es))
  entry_then l e es here one' rest = subst (λ (us : List (Option ℕ)). Goes (least l) us) (sym (uses_append client here (number_uses (after_entry l e) es)))
      (goes_behind (least l) (least (after_entry l e)) (uses_of client here) (uses_of client (number_uses (after_entry l e) es)) one' rest)

  goes_over : (l : Log) (h : List Entry) → IsLegalFrom l h → IsWell l.state → GoesOn l h
  goes_over l [] legal well = (tt, tt)
  goes_over l (Ticked seat t ∷ es) legal well = goes_over (after_entry l (Ticked seat t)) es legal.1 (well_after l (Ticked seat t) legal.0 well)
  goes_over l (Replied seat reading call answer ∷ es) legal well =
      entry_then l (Replied seat reading call answer) es _ (at (is_fault answer) (is_due (moment_of l.state reading) l.state.space))
      (goes_over (after_entry l (Replied seat reading call answer)) es legal.1 (well_after l (Replied seat reading call answer) legal.0 well)) where
        at : (f d : Bool) → Steps (least l) (uses_of client (if not f && not d then uses_in (client_of call) (outcome_of l.state (moment_of l.state reading) call) else []))
            (least_next client (if f then l.state else (if d then l.state else state_of l.state (moment_of l.state reading) call)).clients)
        at true d = stays
        at false true = stays
        at false false = one_call client l.state (moment_of l.state reading) call (outcome_of l.state (moment_of l.state reading) call) well.orderly.clients refl

rise_once : (low n : ℕ) (ns : List ℕ) → Rise low ns → (times (λ m. m == n) ns ≤ 1) × (n < low → times (λ m. m == n) ns ≡ 0)
rise_once low n [] r = (omega arith, λ e. refl)
rise_once low n (m ∷ ns) r = at (m == n) refl (rise_once (m + 1) n ns r.1) (sum_by-cons (λ k. one (k == n)) m ns) where
  at : (b : Bool) → (m == n) ≡ b → (times (λ k. k == n) ns ≤ 1) × (n < m + 1 → times (λ k. k == n) ns ≡ 0) → times (λ k. k == n) (m ∷ ns) ≡ one (m == n) + times (λ k. k == n) ns → (times (λ k. k == n) (m ∷ ns) ≤ 1) × (n < low → times (λ k. k == n) (m ∷ ns) ≡ 0)
  at true is rest sum =
      let same = is_equal m n is in
      let z = rest.1 (omega (arith, same)) in
      let here : one (m == n) ≡ 1 = ap one is in
      (omega (arith, sum, z, here), λ e. absurd (omega (arith, r.0, e, same)))
  at false is rest sum =
      let here : one (m == n) ≡ 0 = ap one is in
      (omega (arith, rest.0, sum, here), λ e. let z = rest.1 (omega (arith, r.0, e)) in omega (arith, sum, here, z))

pub once_numbers : (s : State) (h : List Entry) → IsConsistent s → IsLegal s h → ActOnce s (number_uses (fresh_log s) h)
once_numbers s h consistent legal = record {
  rise = λ client. (all client).0;
  rise_later = λ client. (all client).1;
  once = λ client n. (
    (rise_once (least_next client s.clients) n (first_stretch (uses_of client (number_uses (fresh_log s) h))) (all client).0).0,
    each_implied (Rise 0) (λ numbers. times (λ m. m == n) numbers ≤ 1) (λ numbers rises. (rise_once 0 n numbers rises).0) (later_stretches (uses_of client (number_uses (fresh_log s) h))) (all client).1,
  );
} where
  all : (client : List ℕ) → Goes (least_next client s.clients) (uses_of client (number_uses (fresh_log s) h))
  all client = goes_over client (fresh_log s) h legal (starts_well s consistent)
