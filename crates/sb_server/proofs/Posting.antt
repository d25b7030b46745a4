-- Calls that are posted.
use Rattle.std.proofs.Common.{◌≡◌, ℕ, Bool, true, false, sym, refl, subst}
use Rattle.sb_machine.specs.Ordered.{IsActInOrder}
use Rattle.sb_machine.specs.declared.call.Call.{Call}
use Rattle.sb_desk.specs.Desks.{Asking, Sitting}
use Rattle.sb_server.specs.declared.ask.Ask.TheVariants.{Patient}
use Rattle.sb_server.specs.declared.ask.Waiter.{Waiter}
use Rattle.sb_server.specs.declared.caller.Caller.{Caller}
use Rattle.sb_server.specs.declared.caller.Caller.TheVariants.{ByRest, ByLine}
use Rattle.sb_server.specs.declared.doing.Begun.{Begun}
use Rattle.sb_server.specs.declared.patience.Patience.{Patience}
use Rattle.sb_server.specs.declared.pending.Pending.{Pending}
use Rattle.sb_server.specs.declared.pending.Pending.TheVariants.{Once, Waits}
use Rattle.sb_server.specs.Doings.{Answers, Begins, BeginsBy, IsPatient, IsPendingInOrder, said_of, telling_of}
use Rattle.sb_server.specs.Responds.{once, waiter_call, waiter_of}
use Rattle.sb_server.specs.Waiting.{GoesByCall, Waiting}
use Rattle.sb_server.proofs.Going.{waiting_first, waiting_next}
use Rattle.sb_server.proofs.Responding.{once_begins, settled_begins}

-- the call is the one that was put back
pub call_put_back : (caller : Caller) (call : Call) → waiter_call (waiter_of caller call) ≡ call
call_put_back (ByRest timeout sight asker) call = refl
call_put_back (ByLine reading form wait) call = refl

-- what holds of what was asked, and for what
asked_so : (P : Asking → Pending → Type 0) (a b : Asking) (p q : Pending) → a ≡ b → p ≡ q → P b q → P a p
asked_so P a b p q same is x = subst (λ (z : Asking). P z p) (sym same) (subst (λ (z : Pending). P b z) (sym is) x)

-- a call that is made once
pub once_posted : (IsReading : ℕ → Type 0) (pass : Sitting) (waiter : Waiter) (closes : Bool) (reading : ℕ) (a : Asking) (pending : Pending) (caller : Caller) (call : Call)
    → ◌≡◌ {A = Asking} a (record { pass = pass; reading = reading; call = call }) → pending ≡ Once caller closes → call ≡ waiter_call waiter → waiter_of caller call ≡ waiter → IsReading reading
    → BeginsBy IsReading pass (once waiter) closes a pending
once_posted IsReading pass waiter closes reading a pending caller call asked is same back here =
    asked_so (λ b p. BeginsBy IsReading pass (once waiter) closes b p) a (record { pass = pass; reading = reading; call = call }) pending (Once caller closes) asked is (λ answer new begun goes what.
    subst (λ (b : Begun). Begins IsReading pass (once waiter) closes new b) (sym what)
    (subst (λ (w : Waiter). Answers IsReading pass (once waiter) closes new (telling_of (said_of w answer) closes)) (sym back)
    (once_begins IsReading pass new waiter closes answer reading (subst (λ (k : Call). GoesByCall pass reading k answer new) same goes) here)))

-- the first of what waits
pub first_posted : (IsReading : ℕ → Type 0) (pass : Sitting) (waiter : Waiter) (limit : ℕ) (closes : Bool) (first : ℕ) (a : Asking) (pending : Pending) (caller : Caller) (call : Call)
    → ◌≡◌ {A = Asking} a (record { pass = pass; reading = first; call = call }) → pending ≡ Waits caller limit closes first first false → waiter_of caller call ≡ waiter → IsReading first
    → BeginsBy IsReading pass (Patient waiter limit) closes a pending
first_posted IsReading pass waiter limit closes first a pending caller call asked is back here =
    asked_so (λ b p. BeginsBy IsReading pass (Patient waiter limit) closes b p) a (record { pass = pass; reading = first; call = call }) pending (Waits caller limit closes first first false) asked is (λ answer new begun goes what.
    subst (λ (w : Waiter). Begins IsReading pass (Patient w limit) closes new begun) back
    (settled_begins IsReading pass new (record { waiter = waiter_of caller call; limit_ms = limit; closes = closes; first_ms = first; asked_ms = first; answer = answer }) begun
    (waiting_first IsReading pass new (waiter_call (waiter_of caller call)) limit first answer (subst (λ (k : Call). GoesByCall pass first k answer new) (sym (call_put_back caller call)) goes) here) what))

-- the next
pub again_posted : (IsReading : ℕ → Type 0) (old mid : Sitting) (p : Patience) (asked : ℕ) (a : Asking) (pending : Pending) (caller : Caller) (call : Call)
    → ◌≡◌ {A = Asking} a (record { pass = mid; reading = asked; call = call }) → pending ≡ Waits caller p.limit_ms p.closes p.first_ms asked true → waiter_of caller call ≡ p.waiter → IsReading asked
    → IsPatient IsReading old p mid → BeginsBy IsReading old (Patient p.waiter p.limit_ms) p.closes a pending
again_posted IsReading old mid p asked a pending caller call same is back here w =
    asked_so (λ b q. BeginsBy IsReading old (Patient p.waiter p.limit_ms) p.closes b q) a (record { pass = mid; reading = asked; call = call }) pending (Waits caller p.limit_ms p.closes p.first_ms asked true) same is (λ answer new begun goes what.
    let before : Waiting IsReading old (waiter_call (waiter_of caller call)) p.limit_ms p.first_ms p.asked_ms p.answer mid =
    subst (λ (x : Waiter). Waiting IsReading old (waiter_call x) p.limit_ms p.first_ms p.asked_ms p.answer mid) (sym back) w.waiting in
    subst (λ (x : Waiter). Begins IsReading old (Patient x p.limit_ms) p.closes new begun) back
    (settled_begins IsReading old new (record { waiter = waiter_of caller call; limit_ms = p.limit_ms; closes = p.closes; first_ms = p.first_ms; asked_ms = asked; answer = answer }) begun
    (waiting_next IsReading old mid new (waiter_call (waiter_of caller call)) p.limit_ms p.first_ms p.asked_ms asked p.answer answer before (w.empty, w.early)
    (subst (λ (k : Call). GoesByCall mid asked k answer new) (sym (call_put_back caller call)) goes) here) what))

-- ---- their calls are in order

pub once_in_order : (pending : Pending) (caller : Caller) (closes : Bool) (call : Call) → pending ≡ Once caller closes → IsPendingInOrder pending call
once_in_order pending caller closes call is = subst (λ (p : Pending). IsPendingInOrder p call) (sym is) tt

pub waits_in_order : (a : Asking) (pending : Pending) (pass : Sitting) (reading : ℕ) (call : Call) (caller : Caller) (limit : ℕ) (closes : Bool) (first asked : ℕ) (again : Bool)
    → ◌≡◌ {A = Asking} a (record { pass = pass; reading = reading; call = call }) → pending ≡ Waits caller limit closes first asked again → IsActInOrder call.act → IsPendingInOrder pending a.call
waits_in_order a pending pass reading call caller limit closes first asked again same is o =
    asked_so (λ b p. IsPendingInOrder p b.call) a (record { pass = pass; reading = reading; call = call }) pending (Waits caller limit closes first asked again) same is o
