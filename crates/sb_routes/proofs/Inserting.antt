-- What an insertion leaves.
use Rattle.std.proofs.Common.{◌≡◌, inl, inr, Result, Ok, Err}
use Rattle.matchit.specs.Route.{Scan}
use Rattle.matchit.specs.Router.{InsertsRead}
use Rattle.matchit.specs.declared.error.InsertError.{InsertError}
use Rattle.sb_routes.specs.declared.routes.Route.{Route}
use Rattle.sb_routes.specs.Routes.{Table, with_scan}

pub inserted : (x : Result Scan InsertError) (route : Route) (old new : Table) → InsertsRead x route old new (Ok tt) → new ≡ with_scan x route old
inserted (Ok s) route old new i = i.1
inserted (Err e) route old new (same, inl f) = same
inserted (Err e) route old new (same, inr f) = same

pub ruleset inserts = (inserted)
