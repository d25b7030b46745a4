-- The routes, and the one that a path has.
use Rattle.std.specs.Prelude.{ℕ, List, [], ◌∷◌, ◌++◌, codes, fold, Option, option_map, option_and_then, Result, Ok, Err}
use Rattle.matchit.specs.Rows.{RowsOf}
use Rattle.matchit.specs.Order.{placed}
use Rattle.matchit.specs.Route.{Scan, parse_route}
use Rattle.matchit.specs.Router.{RouteOf, route_from}
use Rattle.matchit.specs.Seek.{first}
use Rattle.matchit.specs.declared.error.InsertError.{InsertError}
use Rattle.sb_machine.specs.declared.call.Part.TheVariants.{Main, Dead, Transfer}
use Rattle.sb_routes.specs.declared.routes.Address.{Address}
use Rattle.sb_routes.specs.declared.routes.Address.TheVariants.{Entity, Subscription}
use Rattle.sb_routes.specs.declared.routes.Route.{Route}
use Rattle.sb_routes.specs.declared.routes.Route.TheVariants.{Messages, Head, Deferred, Locked, Scheduled, Script, Together}
use Rattle.sb_routes.specs.declared.routes.Route.TheVariants.{NextSession, NamedSession, HeldSession, SessionState, SessionHead, SessionDeferred, SessionLocked}
use Rattle.sb_routes.specs.declared.routes.Route.TheVariants.{Health, Status, Metrics, Peek, Page}
use Rattle.sb_routes.specs.Paths.{looked_up, as_text}

-- ---- the table

-- of the messages of an address, whose paths begin so
unfoldable pub of_messages : List ℕ → Address → List (List ℕ × Route)
of_messages front a =
    (front ++ codes "/messages/head", Head a)
    ∷ (front ++ codes "/messages/{seq}", Deferred a)
    ∷ (front ++ codes "/messages/{id}/{token}", Locked a)
    ∷ (front ++ codes "/scheduled/{seq}", Scheduled a)
    ∷ []

-- of its sessions: the next one, one by its id, and one that is held under a token, with its messages
unfoldable pub of_sessions : List ℕ → Address → List (List ℕ × Route)
of_sessions front a =
    (front ++ codes "/sessions/head", NextSession a)
    ∷ (front ++ codes "/sessions/{session}", NamedSession a)
    ∷ (front ++ codes "/sessions/{session}/{held}", HeldSession a)
    ∷ (front ++ codes "/sessions/{session}/{held}/state", SessionState a)
    ∷ (front ++ codes "/sessions/{session}/{held}/messages/head", SessionHead a)
    ∷ (front ++ codes "/sessions/{session}/{held}/messages/{seq}", SessionDeferred a)
    ∷ (front ++ codes "/sessions/{session}/{held}/messages/{id}/{token}", SessionLocked a)
    ∷ []

-- of an address
unfoldable pub of_address : List ℕ → Address → List (List ℕ × Route)
of_address front a = of_messages front a ++ of_sessions front a

-- how the paths of each address begin: of queues and topics, and of subscriptions
unfoldable pub addresses : List (List ℕ × Address)
addresses =
    (codes "/{name}", Entity Main)
    ∷ (codes "/{name}/$deadletterqueue", Entity Dead)
    ∷ (codes "/{name}/$transfer/$deadletterqueue", Entity Transfer)
    ∷ (codes "/{topic}/subscriptions/{name}", Subscription Main)
    ∷ (codes "/{topic}/subscriptions/{name}/$deadletterqueue", Subscription Dead)
    ∷ (codes "/{topic}/subscriptions/{name}/$transfer/$deadletterqueue", Subscription Transfer)
    ∷ []

-- for an operator; no name begins with a dollar sign
unfoldable pub sights : List (List ℕ × Route)
sights = (codes "/$health", Health) ∷ (codes "/$status", Status) ∷ (codes "/$metrics", Metrics) ∷ (codes "/$peek", Peek) ∷ (codes "/$page", Page) ∷ []

-- where is sent to; of script lines: a shell takes a dollar sign for itself; of operations that act together; and for an operator
unfoldable pub others : List (List ℕ × Route)
others = (codes "/{name}/messages", Messages) ∷ (codes "/$script", Script) ∷ (codes "/script", Script) ∷ (codes "/$together", Together) ∷ sights

-- ---- a router

-- as contracts see it
abbrev pub Table : Type 0
Table = RowsOf (RouteOf Route)

-- one more route, by what its text says
abbrev pub with_scan : Result Scan InsertError → Route → Table → Table
with_scan (Ok s) route rows = placed (s.pattern, route_from s route) rows
with_scan (Err e) route rows = rows

-- one more route, by its text
unfoldable pub with_route : List ℕ → Route → Table → Table
with_route text route rows = with_scan (parse_route text) route rows

-- one more row of the table
abbrev pub with_row : Table → List ℕ × Route → Table
with_row rows row = with_route row.0 row.1 rows

-- these routes, one after the other
abbrev pub with_rows : List (List ℕ × Route) → Table → Table
with_rows new rows = fold with_row rows new

-- the routes of an address
abbrev pub with_address : Table → List ℕ × Address → Table
with_address rows a = with_rows (of_address a.0 a.1) rows

-- all routes
unfoldable pub table : Table
table = with_rows others (fold with_address [] addresses)

-- ---- a path

-- the route that the look-up gives
abbrev pub route_at : List ℕ → Option Route
route_at path = option_map (λ e. e.value) (first table path)

-- a path is text, the case of its letters doesn't count, and its dollar signs may be escaped
abbrev pub route_of : List ℕ → Option Route
route_of path = option_and_then route_at (as_text (looked_up path))
