-- The methods of a route are those that it takes, and neither a page of another origin nor who has to show the key and doesn't makes a call.
use Rattle.std.proofs.Common.{◌≡◌, ℕ, Bool, true, false, ◌||◌, List, refl, ap, sym, ◌∙◌}
use Rattle.std.specs.Prelude.{codes, bytes_eq, is_some, Option, Some, None, Result, Ok, Err, if◌then◌else◌}
use Rattle.std.specs.List.{list_any}
use Rattle.sb_machine.specs.declared.call.Mode.TheVariants.{Lock, Delete}
use Rattle.sb_machine.specs.declared.look.Look.TheVariants.{Transactions}
use Rattle.sb_http.specs.Messages.{RequestMessage}
use Rattle.sb_routes.specs.Paths.{path_of}
use Rattle.sb_routes.specs.Routes.{route_of}
use Rattle.sb_routes.specs.declared.routes.Route.{Route}
use Rattle.sb_routes.specs.declared.routes.Route.TheVariants as route
use Rattle.sb_rest.specs.declared.asked.Asked.{Asked}
use Rattle.sb_rest.specs.declared.asked.Asked.TheVariants as asked
use Rattle.sb_rest.specs.declared.asked.PathAct.TheVariants as act
use Rattle.sb_rest.specs.declared.asked.Scope.TheVariants as scope
use Rattle.sb_rest.specs.declared.asked.Sight.TheVariants as sight
use Rattle.sb_rest.specs.declared.call.RestFault.{RestFault}
use Rattle.sb_rest.specs.declared.call.RestFault.TheVariants.{Foreign, NoKey, BadMethod, Page}
use Rattle.sb_rest.specs.declared.call.Wanted.{Wanted}
use Rattle.sb_rest.specs.Calls.{methods_of, takes, routed, admitted, is_open, on_asked, on_route, seen, wanted_by, NoneIsForeign, NoneIsKeyless, HealthIsOpen}
use Rattle.sb_rest.specs.Callers.{is_foreign}

one : (p : Bool) (x : Asked) → is_some (if p then Some x else None) ≡ (p || false)
one true x = refl
one false x = refl

two : (d p : Bool) (x y : Asked) → is_some (if d then Some x else (if p then Some y else None)) ≡ (d || (p || false))
two true p x y = refl
two false true x y = refl
two false false x y = refl

two_turned : (u d : Bool) (x y : Asked) → is_some (if u then Some x else (if d then Some y else None)) ≡ (d || (u || false))
two_turned true true x y = refl
two_turned true false x y = refl
two_turned false true x y = refl
two_turned false false x y = refl

three : (u d p : Bool) (x y z : Asked) → is_some (if u then Some x else (if d then Some y else (if p then Some z else None))) ≡ (d || (p || (u || false)))
three true true p x y z = refl
three true false true x y z = refl
three true false false x y z = refl
three false true p x y z = refl
three false false true x y z = refl
three false false false x y z = refl

alone : (p : Bool) → p ≡ (p || false)
alone true = refl
alone false = refl

abbrev is_get : List ℕ → Bool
is_get method = bytes_eq method (codes "GET")

abbrev is_post : List ℕ → Bool
is_post method = bytes_eq method (codes "POST")

abbrev is_put : List ℕ → Bool
is_put method = bytes_eq method (codes "PUT")

abbrev is_delete : List ℕ → Bool
is_delete method = bytes_eq method (codes "DELETE")

pub all_methods : (r : Route) (method : List ℕ) → takes r method ≡ list_any (bytes_eq method) (methods_of r)
all_methods route.Messages method = one (is_post method) asked.Send
all_methods (route.Head a) method = two (is_delete method) (is_post method) (asked.Do (act.Take a scope.Whole Delete)) (asked.Do (act.Take a scope.Whole Lock))
all_methods (route.Deferred a) method = two (is_delete method) (is_post method) (asked.Do (act.TakeDeferred a scope.Whole Delete)) (asked.Do (act.TakeDeferred a scope.Whole Lock))
all_methods (route.Locked a) method = three (is_put method) (is_delete method) (is_post method) (asked.Put a scope.Whole) (asked.Do (act.Complete a scope.Whole)) (asked.Do (act.Renew a))
all_methods (route.Scheduled a) method = one (is_delete method) (asked.Do (act.Cancel a))
all_methods (route.NextSession a) method = one (is_post method) (asked.Do (act.AcceptNext a))
all_methods (route.NamedSession a) method = one (is_post method) (asked.Do (act.AcceptNamed a))
all_methods (route.HeldSession a) method = two (is_delete method) (is_post method) (asked.Do (act.CloseSession a)) (asked.Do (act.RenewSession a))
all_methods (route.SessionState a) method = two (is_get method) (is_put method) (asked.Do (act.ReadState a)) (asked.Remember a)
all_methods (route.SessionHead a) method = two (is_delete method) (is_post method) (asked.Do (act.Take a scope.Session Delete)) (asked.Do (act.Take a scope.Session Lock))
all_methods (route.SessionDeferred a) method = two (is_delete method) (is_post method) (asked.Do (act.TakeDeferred a scope.Session Delete)) (asked.Do (act.TakeDeferred a scope.Session Lock))
all_methods (route.SessionLocked a) method = two_turned (is_put method) (is_delete method) (asked.Put a scope.Session) (asked.Do (act.Complete a scope.Session))
all_methods route.Script method = alone (is_post method)
all_methods route.Together method = one (is_post method) asked.Together
all_methods route.Health method = one (is_get method) asked.Health
all_methods route.Status method = one (is_get method) (asked.List sight.Status)
all_methods route.Metrics method = one (is_get method) (asked.List sight.Metrics)
all_methods route.Peek method = one (is_get method) asked.Peek
all_methods route.Page method = alone (is_get method)

-- ---- who made a request

pub none_foreign : NoneIsForeign
none_foreign access m is = ap (λ (b : Bool). if b then Err Foreign else admitted access m) is

pub none_keyless : NoneIsKeyless
none_keyless access m own none = ap (λ (b : Bool). if b then Err Foreign else admitted access m) own ∙ ap (λ (b : Bool). if b then routed m else Err NoKey) none

-- a request that no page made
not_foreign : (b : Bool) (said : Result Wanted RestFault) (w : Wanted) → (if b then Err Foreign else said) ≡ Ok w → said ≡ Ok w
not_foreign true said w is = absurd cc
not_foreign false said w is = is

-- what is a fault is no call
no_call : {A : Type 0} (fault : RestFault) (w : Wanted) → Err fault ≡ Ok w → A
no_call fault w is = absurd cc

same_call : (v w : Wanted) → ◌≡◌ {A = Result Wanted RestFault} (Ok v) (Ok w) → w ≡ v
same_call v w is = cc

abbrev at_once : Wanted
at_once = seen sight.Health Transactions

by_method : (b : Bool) (m : RequestMessage) (w : Wanted) → on_asked route.Health (if b then Some asked.Health else None) m ≡ Ok w → w ≡ at_once
unfolding wanted_by
by_method true m w is = same_call at_once w is
by_method false m w is = no_call (BadMethod route.Health) w is

by_page : (b : Bool) (w : Wanted) → (if b then Err Page else Err (BadMethod route.Page)) ≡ Ok w → w ≡ at_once
by_page true w is = no_call Page w is
by_page false w is = no_call (BadMethod route.Page) w is

-- by what its path is for
by_route : (o : Option Route) (m : RequestMessage) (w : Wanted) → (if is_open o then on_route o m else Err NoKey) ≡ Ok w → w ≡ at_once
by_route (Some route.Health) m w is = by_method (is_get m.head.method) m w is
by_route (Some route.Page) m w is = by_page (is_get m.head.method) w is
by_route None m w is = no_call NoKey w is
by_route (Some route.Messages) m w is = no_call NoKey w is
by_route (Some (route.Head a)) m w is = no_call NoKey w is
by_route (Some (route.Deferred a)) m w is = no_call NoKey w is
by_route (Some (route.Locked a)) m w is = no_call NoKey w is
by_route (Some (route.Scheduled a)) m w is = no_call NoKey w is
by_route (Some (route.NextSession a)) m w is = no_call NoKey w is
by_route (Some (route.NamedSession a)) m w is = no_call NoKey w is
by_route (Some (route.HeldSession a)) m w is = no_call NoKey w is
by_route (Some (route.SessionState a)) m w is = no_call NoKey w is
by_route (Some (route.SessionHead a)) m w is = no_call NoKey w is
by_route (Some (route.SessionDeferred a)) m w is = no_call NoKey w is
by_route (Some (route.SessionLocked a)) m w is = no_call NoKey w is
by_route (Some route.Script) m w is = no_call NoKey w is
by_route (Some route.Together) m w is = no_call NoKey w is
by_route (Some route.Status) m w is = no_call NoKey w is
by_route (Some route.Metrics) m w is = no_call NoKey w is
by_route (Some route.Peek) m w is = no_call NoKey w is

pub health_open : HealthIsOpen
health_open access m w none is =
    by_route (route_of (path_of m.head.target)) m w
    (sym (ap (λ (b : Bool). if b || is_open (route_of (path_of m.head.target)) then routed m else Err NoKey) none) ∙ not_foreign (is_foreign access m.head.fields) (admitted access m) w is)
