-- What is added in two steps is added.
use Rattle.std.proofs.Common.{◌≡◌, ◌≤◌, ◌+◌, ℕ, List, ◌++◌, length, length-append, Ok, ap, ◌∙◌, append_assoc, arith}
use Rattle.std.specs.Prelude.{Vec, vec_len, vec_capacity}
use Rattle.std.specs.Global.{Global}
use Rattle.sb_codec.specs.Forms.{Puts}

-- one behind the other
pub puts_then : (a b : List ℕ) (v w u : Vec ℕ Global) → Puts a v w (Ok tt) → Puts b w u (Ok tt) → Puts (a ++ b) v u (Ok tt)
puts_then a b v w u p q =
    let n : length (a ++ b) ≡ length a + length b = length-append a b in
    let first : vec_len w ≡ vec_len v + length a = p.1 in
    let second : vec_len u ≡ vec_len w + length b = q.1 in
    let grows : vec_capacity v ≤ vec_capacity w = p.2 in
    let still : vec_capacity w ≤ vec_capacity u = q.2 in
    (q.0 ∙ ap (λ (l : List ℕ). l ++ b) p.0 ∙ append_assoc v.items a b, omega (arith, n, first, second), omega (arith, grows, still))
