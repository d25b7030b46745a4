-- The look-up that ends where no row is left: the same, with less to compute.
use Rattle.std.proofs.Common.{◌≡◌, ◌-◌, ℕ, zero, suc, List, [], ◌∷◌, Bool, true, false, Option, None, cond, option_map, length, refl, ap}
use Rattle.matchit.specs.Rows.{param_token, catch_all_token}
use Rattle.matchit.specs.Router.{RouteOf}
use Rattle.matchit.specs.Seek.{seek, step, own, or_else, param_step, has_slash}
use Rattle.sb_routes.specs.declared.routes.Route.{Route}
use Rattle.sb_routes.specs.Routes.{Table, table, route_at}

none_left : (path : List ℕ) → (param_step {K = RouteOf Route} [] path).1 ≡ []
unfolding param_step
none_left path = by_slash (has_slash path) where
  by_slash : (b : Bool) → (cond {A = ℕ × Table} b (0, []) (length path, [])).1 ≡ []
  by_slash true = refl
  by_slash false = refl

seek-nil : (n : ℕ) (path : List ℕ) → seek {K = RouteOf Route} n [] path ≡ None
unfolding seek
seek-nil zero [] = refl
seek-nil (suc n) [] = refl
seek-nil (suc n) (b ∷ path) = seek-nil n path
seek-nil zero (b ∷ path) = simp (seek-nil 0 path, none_left (b ∷ path), seek-nil ((param_step {K = RouteOf Route} [] (b ∷ path)).0 - 1) path)

unfoldable pub sought : ℕ → Table → List ℕ → Option (RouteOf Route)
sought n [] path = None
sought n (r ∷ rs) [] = own (r ∷ rs)
sought (suc n) (r ∷ rs) (b ∷ path) = sought n (r ∷ rs) path
sought zero (r ∷ rs) (b ∷ path) =
    or_else (sought 0 (step b (r ∷ rs)) path)
    (or_else (sought ((param_step (step param_token (r ∷ rs)) (b ∷ path)).0 - 1) (param_step (step param_token (r ∷ rs)) (b ∷ path)).1 path)
    (own (step catch_all_token (r ∷ rs))))

sought-seek : (n : ℕ) (rs : Table) (path : List ℕ) → seek n rs path ≡ sought n rs path
unfolding seek sought
sought-seek n [] path = seek-nil n path
sought-seek zero (r ∷ rs) [] = refl
sought-seek (suc n) (r ∷ rs) [] = refl
sought-seek (suc n) (r ∷ rs) (b ∷ path) = sought-seek n (r ∷ rs) path
sought-seek zero (r ∷ rs) (b ∷ path) =
    rw (sought-seek 0 (step b (r ∷ rs)) path, sought-seek ((param_step (step param_token (r ∷ rs)) (b ∷ path)).0 - 1) (param_step (step param_token (r ∷ rs)) (b ∷ path)).1 path) refl

pub route_sought : (path : List ℕ) → route_at path ≡ option_map (λ e. e.value) (sought 0 table path)
route_sought path = ap (λ found. option_map (λ e. e.value) found) (sought-seek 0 table path)
