-- Where nothing is left.
use Rattle.std.proofs.Common.{◌≡◌, ℕ, List, [], ◌∷◌, ◌++◌, length, length-append, append-nil, sym, ap, ◌∙◌, subst, arith, Option, None}
use Rattle.httparse.specs.Grammar.{HasNoRequest}
use Rattle.httparse.proofs.GrammarLemmas.{print_request-append}
use Rattle.sb_http.specs.Causes.{HasNone}
use Rattle.sb_http.specs.Messages.{RequestMessage}
use Rattle.sb_http.specs.Stages.{Left, whole}
use Rattle.sb_http.specs.Streams.{Requests, Pending}
use Rattle.sb_server.specs.Readers.{Untaken, left_of}
use Rattle.sb_server.specs.Reads.{Stand, Takes, WaitsForMore, GoesOnBy}
use Rattle.sb_server.proofs.Reading.{takes_start}

never_empty : (a b c : List ℕ) → ◌≡◌ {A = List ℕ} [] (a ++ (b ++ (32 ∷ c))) → ⊥
never_empty a b c e =
    let size : length {A = ℕ} [] ≡ length (a ++ (b ++ (32 ∷ c))) = ap length e in
    omega (arith, size, length-append a (b ++ (32 ∷ c)), length-append b (32 ∷ c))

no_head : HasNoRequest []
no_head h rest x = never_empty _ h.method _ (x.1 ∙ print_request-append h rest)

no_request : HasNone (whole [])
no_request m rest r = no_head r.head.tree r.after r.head.reads

takes_none : (l : Left) → GoesOnBy l [] l
takes_none l stream before r = subst (λ (ms : List RequestMessage). Requests stream ms l) (sym (append-nil before)) r

-- no request is taken where there is no memory, and more is waited for
pub took_nothing : (o : Option Pending) (now : Untaken) → o ≡ None → ◌≡◌ {A = Untaken} (record { left = left_of o }) now → GoesOnBy now.left [] (left_of o) × WaitsForMore (left_of o)
took_nothing o now none view = (
  subst (λ (l : Left). GoesOnBy l [] (left_of o)) (ap (λ (u : Untaken). u.left) view) (takes_none (left_of o)),
  subst (λ (p : Option Pending). WaitsForMore (left_of p)) (sym none) (no_request, record { short = omega arith; none = no_head }),
)

-- ---- what is left stays

pub stand_kept : (new old : Untaken) (fed : ℕ) (unfed : List ℕ) (there : Option (List ℕ)) → new ≡ old → ◌≡◌ {A = Stand} (record { left = new.left; fed = fed; unfed = unfed; there = there }) (record { left = old.left; fed = fed; unfed = unfed; there = there })
stand_kept new old fed unfed there same = ap (λ (u : Untaken). let s : Stand = record { left = u.left; fed = fed; unfed = unfed; there = there } in s) same

pub takes_kept : (a b : Stand) → b ≡ a → Takes a [] b
takes_kept a b same = subst (λ (s : Stand). Takes a [] s) (sym same) (takes_start a)
