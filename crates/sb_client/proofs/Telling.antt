-- Lists that are told, and grow.
use Rattle.std.proofs.Common.{ℕ, List, [], ◌++◌, take, drop, Option, Some, None, refl, sym, ◌∙◌, ap, subst, append_assoc}
use Rattle.std.proofs.lemmas.List.{append-nil, take-append-drop}
use Rattle.sb_outside.specs.Streams.{Stays, Gains, GainsPart}
use Rattle.sb_client.specs.Answers.{IsFront}

pub tells-none : {T : Type 0} (a : Option (List T)) → Gains a a []
tells-none None = tt
tells-none (Some before) = ap Some (sym (append-nil before))

pub tells-tells : {T : Type 0} (a b c : Option (List T)) (x y : List T) → Gains a b x → Gains b c y → Gains a c (x ++ y)
tells-tells None b c x y first second = tt
tells-tells {T} (Some before) b c x y first second =
    let on : Gains (Some (before ++ x)) c y = subst (λ (o : Option (List T)). Gains o c y) first second in
    on ∙ ap Some (append_assoc before x y)

pub stays_tells : {T : Type 0} (a b : Option (List T)) → Stays a b → Gains a b []
stays_tells None b stays = tt
stays_tells (Some before) b stays = stays ∙ ap Some (sym (append-nil before))

-- a front of a line was written
pub front_given : (a b : Option (List ℕ)) (line : List ℕ) → GainsPart a b line → (part : List ℕ) × IsFront part line × Gains a b part
front_given None b line part = ([], (line, refl), tt)
front_given (Some before) b line part = (take part.0 line, (drop part.0 line, sym (take-append-drop part.0 line)), part.1)
