-- The calls that the machine answers one after another are a legal history without faults.
use Rattle.std.proofs.Common.{Bool, Err, List, Ok, Result, [], ap, arith, false, refl, subst, sym, true, ℕ, ◌++◌, ◌∙◌, ◌∷◌, ◌≡◌, ◌≤◌}
use Rattle.std.specs.Prelude.{MatchBool, if◌then◌else◌}
use Rattle.sb_laws.proofs.Core.{core_tick}
use Rattle.sb_laws.proofs.Histories.{goes_on}
use Rattle.sb_laws.proofs.Keeping.{LastsCore, core_call, core_sweepable, lasts_lists, lasts_sending}
use Rattle.sb_laws.proofs.NothingDue.{lasts_travels}
use Rattle.sb_laws.proofs.Outcomes.{answers_no_fault, keeps_time}
use Rattle.sb_laws.proofs.Sweeps.{nothing_due_after}
use Rattle.sb_machine.specs.Answers.{answer_of, max_moment, moment_of, state_of}
use Rattle.sb_machine.specs.Due.{is_due}
use Rattle.sb_machine.specs.History.{Follows, IsAllowed, IsAnswer, IsFaultless, IsLegal, IsLegalFrom, Log, advanced, after_entries, after_entry, entries_at, entries_of, fresh_log, is_disk_fault, is_end, is_fault, is_spent, state_after, stops}
use Rattle.sb_machine.specs.declared.call.Call.{Call}
use Rattle.sb_machine.specs.declared.call.TimedCall.{TimedCall}
use Rattle.sb_machine.specs.declared.history.Entry.{Entry}
use Rattle.sb_machine.specs.declared.reply.Answered.{Answered}
use Rattle.sb_machine.specs.declared.reply.Refusal.{Refusal}
use Rattle.sb_machine.specs.declared.reply.Refusal.TheVariants.{DiskFault, Exhausted, Stopped}
use Rattle.sb_machine.specs.declared.state.State.{State}
use Rattle.sb_machine.specs.declared.history.Entry.TheVariants.{Ticked, Answered as Replied}

-- what stops a namespace is a fault
not_stopping : (a : Result Answered Refusal) → is_fault a ≡ false → stops a ≡ false
not_stopping (Ok r) e = refl
not_stopping (Err r) e = by_refusal r e where
  by_refusal : (r : Refusal) → is_fault (Err r) ≡ false → stops (Err r) ≡ false
  by_refusal DiskFault e = absurd cc
  by_refusal (Stopped n) e = absurd cc
  by_refusal _ e = refl

-- nor does the disk fail at it
not_failing : (a : Result Answered Refusal) → is_fault a ≡ false → is_disk_fault a ≡ false
not_failing (Ok r) e = refl
not_failing (Err r) e = by_refusal r e where
  by_refusal : (r : Refusal) → is_fault (Err r) ≡ false → is_disk_fault (Err r) ≡ false
  by_refusal DiskFault e = absurd cc
  by_refusal _ e = refl

-- what the entries of one call are to be: legal and faultless, they leave the namespace running, and a core as it was
pub record Goes (s : State) (es : List Entry) : Type 0 where
  pub legal : IsLegalFrom (fresh_log s) es
  pub faultless : IsFaultless es
  pub later : State
  pub log : after_entries (fresh_log s) es ≡ fresh_log later
  pub core : LastsCore later.space
  pub early : later.now ≤ max_moment

-- an answer of the machine where nothing is due
pub replied : (l : Log) (seat t reading : ℕ) (call : Call) → l.stopped ≡ false → Follows l.tick seat (moment_of l.state reading) → t ≡ moment_of l.state reading → is_due t l.state.space ≡ false
    → IsAllowed l (Replied seat reading call (answer_of l.state t call)) × (after_entry l (Replied seat reading call (answer_of l.state t call)) ≡ fresh_log (state_of l.state t call))
replied l seat t reading call running follows moment none =
    subst (λ (u : ℕ). is_due u l.state.space ≡ false → IsAllowed l (Replied seat reading call (answer_of l.state u call)) × (after_entry l (Replied seat reading call (answer_of l.state u call)) ≡ fresh_log (state_of l.state u call))) (sym moment) (at (moment_of l.state reading) refl) none where
      at : (u : ℕ) → u ≡ moment_of l.state reading → is_due (moment_of l.state reading) l.state.space ≡ false
          → IsAllowed l (Replied seat reading call (answer_of l.state (moment_of l.state reading) call)) × (after_entry l (Replied seat reading call (answer_of l.state (moment_of l.state reading) call)) ≡ fresh_log (state_of l.state (moment_of l.state reading) call))
      at u same none = ((follows, allowed), logged) where
        answer : Result Answered Refusal
        answer = answer_of l.state (moment_of l.state reading) call

        allowed : MatchBool l.stopped (is_end l.failing answer ≡ true) (is_fault answer ≡ false → IsAnswer l.state (moment_of l.state reading) call answer)
        allowed = rw (running, none) (λ fine. refl)

        logged : after_entry l (Replied seat reading call answer) ≡ fresh_log (state_of l.state (moment_of l.state reading) call)
        logged =
            let fine = answers_no_fault l.state (moment_of l.state reading) call in
            rw (fine, none, running, not_stopping answer fine, not_failing answer fine) refl

module _ (seat : ℕ) (s : State) (reading : ℕ) (call : Call) (core : LastsCore s.space) (early : s.now ≤ max_moment) where
  abbrev t : ℕ
  t = moment_of s reading

  abbrev Spent : List Entry
  Spent = Replied seat reading call (Err Exhausted) ∷ []

  abbrev Ticking : List Entry
  Ticking = Ticked seat t ∷ Replied seat reading call (answer_of (advanced s t) t call) ∷ []

  abbrev Calling : List Entry
  Calling = Replied seat reading call (answer_of s t call) ∷ []

  spent_goes : is_due t s.space ≡ true → is_spent s t ≡ true → Goes s Spent
  spent_goes due spent = record { legal = ((tt, allowed), refl); faultless = (refl, tt); later = s; log = logged; core = core; early = early } where
    allowed : is_fault (Err Exhausted) ≡ false → IsAnswer s t call (Err Exhausted)
    allowed fine = rw due (spent, refl)

    logged : after_entry (fresh_log s) (Replied seat reading call (Err Exhausted)) ≡ fresh_log s
    logged = rw due refl

  ticking_goes : is_due t s.space ≡ true → is_spent s t ≡ false → Goes s Ticking
  ticking_goes due room = record {
    legal = ((refl, refl, (omega arith, omega arith, due, room)), (next.0, refl));
    faultless = (answers_no_fault (advanced s t) t call, tt);
    later = state_of (advanced s t) t call;
    log = next.1;
    core = core_call (advanced s t) t call (core_tick lasts_travels lasts_sending lasts_lists t s.space core);
    early = subst (λ (u : ℕ). (state_of (advanced s t) u call).now ≤ max_moment) (sym same) (keeps_time (advanced s t) reading call (omega arith)).1;
  } where
    behind : Log
    behind = after_entry (fresh_log s) (Ticked seat t)

    none : is_due t (advanced s t).space ≡ false
    none = nothing_due_after s t (core_sweepable s.space core)

    same : t ≡ moment_of (advanced s t) reading
    same = omega arith

    next : IsAllowed (after_entry (fresh_log s) (Ticked seat t)) (Replied seat reading call (answer_of (advanced s t) t call)) × (after_entry (after_entry (fresh_log s) (Ticked seat t)) (Replied seat reading call (answer_of (advanced s t) t call)) ≡ fresh_log (state_of (advanced s t) t call))
    next = replied (after_entry (fresh_log s) (Ticked seat t)) seat t reading call refl (refl, sym same) same none

  calling_goes : is_due t s.space ≡ false → Goes s Calling
  calling_goes none = record { legal = (next.0, refl); faultless = (answers_no_fault s t call, tt); later = state_of s t call; log = next.1; core = core_call s t call core; early = (keeps_time s reading call early).1 } where
    next : IsAllowed (fresh_log s) (Replied seat reading call (answer_of s t call)) × (after_entry (fresh_log s) (Replied seat reading call (answer_of s t call)) ≡ fresh_log (state_of s t call))
    next = replied (fresh_log s) seat t reading call refl tt refl none

  pub call_goes : Goes s (entries_at seat s reading call)
  call_goes = at (is_due t s.space) refl (is_spent s t) refl where
    at : (b : Bool) → is_due t s.space ≡ b → (c : Bool) → is_spent s t ≡ c → Goes s (if b then (if c then Spent else Ticking) else Calling)
    at true due true spent = spent_goes due spent
    at true due false room = ticking_goes due room
    at false none c any = calling_goes none

faultless_append : (es fs : List Entry) → IsFaultless es → IsFaultless fs → IsFaultless (es ++ fs)
faultless_append [] fs h k = k
faultless_append (Ticked seat moment ∷ es) fs h k = faultless_append es fs h k
faultless_append (Replied seat reading call answer ∷ es) fs h k = (h.0, faultless_append es fs h.1 k)

pub core_answers : (seat : ℕ) (s : State) (calls : List TimedCall) → LastsCore s.space → s.now ≤ max_moment → IsLegal s (entries_of seat s calls) × IsFaultless (entries_of seat s calls)
core_answers seat s [] core early = (refl, tt)
core_answers seat s (a ∷ as') core early =
    let here = call_goes seat s a.reading a.call core early in
    let now : state_after s (entries_at seat s a.reading a.call) ≡ here.later = ap (λ (l : Log). l.state) here.log in
    let rest = core_answers seat (state_after s (entries_at seat s a.reading a.call)) as' (subst (λ (x : State). LastsCore x.space) (sym now) here.core) (subst (λ (x : State). x.now ≤ max_moment) (sym now) here.early) in
    let same : fresh_log (state_after s (entries_at seat s a.reading a.call)) ≡ after_entries (fresh_log s) (entries_at seat s a.reading a.call) = ap fresh_log now ∙ sym here.log in (
      goes_on (fresh_log s) (entries_at seat s a.reading a.call) (entries_of seat (state_after s (entries_at seat s a.reading a.call)) as') here.legal
          (subst (λ (l : Log). IsLegalFrom l (entries_of seat (state_after s (entries_at seat s a.reading a.call)) as')) same rest.0),
      faultless_append (entries_at seat s a.reading a.call) (entries_of seat (state_after s (entries_at seat s a.reading a.call)) as') here.faultless rest.1,
    )
