-- What a link has exchanged.
use Rattle.std.specs.Prelude.{ℕ, List}

-- a request, and the reply to it
pub record Exchange : Type 0 where
  pub request : List ℕ
  pub reply : List ℕ
