-- What a share of the workers came to, of one among all.
use Rattle.std.proofs.Common.{◌≡◌, sym, subst}

-- P of what stood at one place before and after is P of what a call had there, where H of what stood there
pub moved : {X : Type 0} (P : X → X → Type 0) (H : X → Type 0) (a b x y : X) → a ≡ x → b ≡ y → H x → (H a → P a b) → P x y
moved P H a b x y old new h p = subst (λ u. P u y) old (subst (λ w. P a w) new (p (subst H (sym old) h)))
