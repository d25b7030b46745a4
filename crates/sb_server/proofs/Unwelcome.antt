-- Who may not call makes no entry.
use Rattle.std.proofs.Common.{◌≡◌, ◌⊎◌, ℕ, List, [], Bool, true, false, subst, inl, inr, Result, Ok, Err}
use Rattle.std.specs.Prelude.{if◌then◌else◌}
use Rattle.sb_machine.specs.declared.history.Entry.{Entry}
use Rattle.sb_http.specs.Messages.{RequestMessage}
use Rattle.sb_rest.specs.declared.access.Access.{Access}
use Rattle.sb_rest.specs.declared.call.RestFault.{RestFault}
use Rattle.sb_rest.specs.declared.call.RestFault.TheVariants.{Foreign, NoKey, NoRoute, BadMethod, Bad, Script, Page, OutOfMemory}
use Rattle.sb_rest.specs.declared.call.Wanted.{Wanted}
use Rattle.sb_rest.specs.Callers.{is_foreign}
use Rattle.sb_rest.specs.Calls.{call_of, may_call, routed}
use Rattle.sb_server.specs.declared.telling.Turn.{Turn}
use Rattle.sb_server.specs.declared.ask.Ask.{Ask}
use Rattle.sb_server.specs.declared.ask.Ask.TheVariants.{Once, Patient, Line, BadLine, Lines, Fault}
use Rattle.sb_server.specs.declared.ask.Waiter.{Waiter}
use Rattle.sb_server.specs.declared.ask.Waiter.TheVariants.{ByRest, ByLine}
use Rattle.sb_server.specs.Asks.{AsksFor}
use Rattle.sb_server.specs.Responds.{RespondsTo, GivenUp, IsUnwelcome}

-- neither a call nor a script line
abbrev IsNone : Result Wanted RestFault → Type 0
IsNone (Ok w) = ⊥
IsNone (Err Script) = ⊥
IsNone (Err Foreign) = Unit {0}
IsNone (Err NoKey) = Unit {0}
IsNone (Err NoRoute) = Unit {0}
IsNone (Err (BadMethod r)) = Unit {0}
IsNone (Err (Bad part key)) = Unit {0}
IsNone (Err Page) = Unit {0}
IsNone (Err OutOfMemory) = Unit {0}

none_by : (foreign keyed : Bool) (said : Result Wanted RestFault) → (foreign ≡ true) ⊎ (keyed ≡ false) → IsNone (if foreign then Err Foreign else (if keyed then said else Err NoKey))
none_by true keyed said u = tt
none_by false false said u = tt
none_by false true said (inl e) = absurd cc
none_by false true said (inr e) = absurd cc

none_called : (access : Access) (m : RequestMessage) → IsUnwelcome access m → IsNone (call_of access m)
none_called access m u = none_by (is_foreign access m.head.fields) (may_call access m) (routed m) u

pub responds_none : (IsReading : ℕ → Type 0) (access : Access) (seat : ℕ) (m : RequestMessage) (ask : Ask) (closes : Bool) (made : List Entry) (out : List ℕ) (turn : Turn)
    → IsUnwelcome access m → AsksFor access m ask → RespondsTo IsReading seat ask closes made out turn → made ≡ []
responds_none IsReading access seat m (Once w asker) closes made out turn u a r = absurd (subst IsNone a.call (none_called access m u))
responds_none IsReading access seat m (Patient (ByRest w asker) limit) closes made out turn u a r = absurd (subst IsNone a.0.call (none_called access m u))
responds_none IsReading access seat m (Patient (ByLine line) limit) closes made out turn u a r = absurd (subst IsNone a.0.0 (none_called access m u))
responds_none IsReading access seat m (Line line) closes made out turn u a r = absurd (subst IsNone a.0.0 (none_called access m u))
responds_none IsReading access seat m (BadLine answer) closes made out turn u a r = r.0
responds_none IsReading access seat m (Lines lines) closes made out turn u a r = absurd (subst IsNone a.0.0 (none_called access m u))
responds_none IsReading access seat m (Fault fault) closes made out turn u a r = r.0

pub given_up_none : (IsReading : ℕ → Type 0) (access : Access) (seat : ℕ) (m : RequestMessage) (mine : List Entry) (said : List ℕ) → IsUnwelcome access m → GivenUp IsReading access seat m mine said → mine ≡ []
given_up_none IsReading access seat m mine said u g = by g.waiter g.asks
  where
    by : (w : Waiter) → AsksFor access m (Patient w g.limit) → mine ≡ []
    by (ByRest w asker) a = absurd (subst IsNone a.0.call (none_called access m u))
    by (ByLine line) a = absurd (subst IsNone a.0.0 (none_called access m u))
