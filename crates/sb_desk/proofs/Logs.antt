-- Fronts of a history and its entries by seat.
use Rattle.std.proofs.Common.{◌≡◌, ◌≢◌, ℕ, ◌<◌, ◌==◌, List, [], ◌∷◌, ◌++◌, sym, refl, ap, ◌∙◌, subst, inl, inr, arith, append_assoc, Option, Some, None, Result}
use Rattle.std.proofs.lemmas.List.Elements.{filter-append}
use Rattle.sb_machine.specs.History.{Log, fresh_log, after_entry, IsLegalFrom, IsLegal}
use Rattle.sb_machine.specs.declared.call.Call.{Call}
use Rattle.sb_machine.specs.declared.history.Entry.{Entry}
use Rattle.sb_machine.specs.declared.history.Entry.TheVariants.{Ticked, Answered as Replied}
use Rattle.sb_machine.specs.declared.reply.Answered.{Answered}
use Rattle.sb_machine.specs.declared.reply.Refusal.{Refusal}
use Rattle.sb_machine.specs.declared.state.State.{State}
use Rattle.sb_desk.specs.Entries.{entries_by, made_by, seat_of}
use Rattle.sb_desk.specs.Lists.{IsFront, GoesOn, AreComparable, HaveSeatsBelow}

pub by_append : (seat : ℕ) (xs ys : List Entry) → entries_by seat (xs ++ ys) ≡ entries_by seat xs ++ entries_by seat ys
by_append seat xs ys = filter-append (λ (e : Entry). seat_of e == seat) xs ys

-- no list of one seat's entries has another's
pub by_other : (seat other : ℕ) (t : Option ℕ) (reading : ℕ) (call : Call) (answer : Result Answered Refusal) → other ≢ seat → entries_by other (made_by seat t reading call answer) ≡ []
by_other seat other (Some t) reading call answer apart = grind (arith)
by_other seat other None reading call answer apart = grind (arith)

pub by_same : (seat : ℕ) (t : Option ℕ) (reading : ℕ) (call : Call) (answer : Result Answered Refusal) → entries_by seat (made_by seat t reading call answer) ≡ made_by seat t reading call answer
by_same seat (Some t) reading call answer = grind (arith)
by_same seat None reading call answer = grind (arith)

append_empty : {A : Type 0} (xs ys : List A) → xs ++ ys ≡ [] → (xs ≡ []) × (ys ≡ [])
append_empty [] ys e = (refl, e)
append_empty (x ∷ xs) ys e = absurd cc

pub front_later : (front all more : List Entry) → IsFront front all → IsFront front (all ++ more)
front_later front all more f = (f.0 ++ more, ap (λ l. l ++ more) f.1 ∙ append_assoc front f.0 more)

-- a longer front does as well
pub goes_on_longer : (log : List Entry) (seat : ℕ) (seen longer : List Entry) → GoesOn log seat seen → IsFront seen longer → IsFront longer log → GoesOn log seat longer
goes_on_longer log seat seen longer g f all =
    let whole : seen ++ g.0 ≡ seen ++ (f.0 ++ all.0) = sym g.1 ∙ (all.1 ∙ (ap (λ l. l ++ all.0) f.1 ∙ append_assoc seen f.0 all.0)) in
    let rest : g.0 ≡ f.0 ++ all.0 = cancel seen g.0 (f.0 ++ all.0) whole in
    let none : entries_by seat f.0 ++ entries_by seat all.0 ≡ [] = sym (by_append seat f.0 all.0) ∙ (ap (entries_by seat) (sym rest) ∙ g.2) in
    (all.0, all.1, (append_empty (entries_by seat f.0) (entries_by seat all.0) none).1)
  where
    tail_of : List Entry → List Entry → List Entry
    tail_of d [] = d
    tail_of d (x ∷ xs) = xs

    cancel : (xs ys zs : List Entry) → xs ++ ys ≡ xs ++ zs → ys ≡ zs
    cancel [] ys zs e = e
    cancel (x ∷ xs) ys zs e = cancel xs ys zs (ap (tail_of []) e)

front_step : (x : Entry) (a b : List Entry) → AreComparable a b → AreComparable (x ∷ a) (x ∷ b)
front_step x a b (inl f) = inl (f.0, ap (λ (l : List Entry). x ∷ l) f.1)
front_step x a b (inr f) = inr (f.0, ap (λ (l : List Entry). x ∷ l) f.1)

-- two fronts of one history
pub comparable : (a b r q : List Entry) → a ++ r ≡ b ++ q → AreComparable a b
comparable [] b r q e = inl (b, refl)
comparable (x ∷ a) [] r q e = inr (x ∷ a, refl)
comparable (x ∷ a) (y ∷ b) r q e =
    let same : x ≡ y = ap (head_or x) e in
    subst (λ (z : Entry). AreComparable (x ∷ a) (z ∷ b)) same (front_step x a b (comparable a b r q (ap tail_of e)))
  where
    head_or : Entry → List Entry → Entry
    head_or d [] = d
    head_or d (z ∷ zs) = z

    tail_of : List Entry → List Entry
    tail_of [] = []
    tail_of (z ∷ zs) = zs

-- what was added behind others' entries is one's own
pub by_added : (seat : ℕ) (between : List Entry) (t : Option ℕ) (reading : ℕ) (call : Call) (answer : Result Answered Refusal) → entries_by seat between ≡ [] → entries_by seat (between ++ made_by seat t reading call answer) ≡ made_by seat t reading call answer
by_added seat between t reading call answer none =
    by_append seat between (made_by seat t reading call answer) ∙ (ap (λ z. z ++ entries_by seat (made_by seat t reading call answer)) none ∙ by_same seat t reading call answer)

-- a seat that has no entries may begin behind any front
pub goes_on_fresh : (log : List Entry) (seat : ℕ) (seen : List Entry) → IsFront seen log → entries_by seat log ≡ [] → GoesOn log seat seen
goes_on_fresh log seat seen f none = (f.0, f.1, (append_empty (entries_by seat seen) (entries_by seat f.0) (sym (by_append seat seen f.0) ∙ (ap (entries_by seat) (sym f.1) ∙ none))).1)

-- ---- seats below a number

pub below_append : (passes : ℕ) (xs ys : List Entry) → HaveSeatsBelow passes xs → HaveSeatsBelow passes ys → HaveSeatsBelow passes (xs ++ ys)
below_append passes [] ys a b = b
below_append passes (x ∷ xs) ys a b = (a.0, below_append passes xs ys a.1 b)

pub below_made : (passes seat : ℕ) (t : Option ℕ) (reading : ℕ) (call : Call) (answer : Result Answered Refusal) → seat < passes → HaveSeatsBelow passes (made_by seat t reading call answer)
below_made passes seat (Some t) reading call answer lt = (lt, (lt, tt))
below_made passes seat None reading call answer lt = (lt, tt)

pub below_front : (passes : ℕ) (xs ys : List Entry) → HaveSeatsBelow passes (xs ++ ys) → HaveSeatsBelow passes xs
below_front passes [] ys all = tt
below_front passes (x ∷ xs) ys all = (all.0, below_front passes xs ys all.1)

-- ---- histories that end with a call

legal_to : (l : Log) (h : List Entry) (seat reading : ℕ) (call : Call) (answer : Result Answered Refusal) (more : List Entry)
    → IsLegalFrom l (h ++ Replied seat reading call answer ∷ more) → IsLegalFrom l (h ++ Replied seat reading call answer ∷ [])
legal_to l [] seat reading call answer more legal = (legal.0, refl)
legal_to l (e ∷ h) seat reading call answer more legal = (legal.0, legal_to (after_entry l e) h seat reading call answer more legal.1)

-- a legal history up to a call is legal
pub legal_call : (start : State) (h : List Entry) (seat : ℕ) (t : Option ℕ) (reading : ℕ) (call : Call) (answer : Result Answered Refusal) (more : List Entry)
    → IsLegal start ((h ++ made_by seat t reading call answer) ++ more) → IsLegal start (h ++ made_by seat t reading call answer)
legal_call start h seat None reading call answer more legal =
    legal_to (fresh_log start) h seat reading call answer more (subst (IsLegal start) (append_assoc h (Replied seat reading call answer ∷ []) more) legal)
legal_call start h seat (Some t) reading call answer more legal =
    let whole : (h ++ Ticked seat t ∷ Replied seat reading call answer ∷ []) ++ more ≡ (h ++ Ticked seat t ∷ []) ++ Replied seat reading call answer ∷ more =
    append_assoc h (Ticked seat t ∷ Replied seat reading call answer ∷ []) more ∙ sym (append_assoc h (Ticked seat t ∷ []) (Replied seat reading call answer ∷ more)) in
    subst (IsLegal start) (append_assoc h (Ticked seat t ∷ []) (Replied seat reading call answer ∷ []))
    (legal_to (fresh_log start) (h ++ Ticked seat t ∷ []) seat reading call answer more (subst (IsLegal start) whole legal))

-- the history that a seat has seen once it has its call's entries: it ends with these
pub legal_seen : (start : State) (log seen before own after : List Entry) (seat : ℕ) (t : Option ℕ) (reading : ℕ) (call : Call) (answer : Result Answered Refusal)
    → log ≡ seen ++ ((before ++ own) ++ after) → own ≡ made_by seat t reading call answer → IsLegal start log → IsLegal start (seen ++ (before ++ own))
legal_seen start log seen before own after seat t reading call answer whole is legal =
    let parted : log ≡ ((seen ++ before) ++ made_by seat t reading call answer) ++ after = whole
    ∙ (sym (append_assoc seen (before ++ own) after) ∙ (ap (λ z. z ++ after) (sym (append_assoc seen before own)) ∙ ap (λ z. ((seen ++ before) ++ z) ++ after) is)) in
    subst (IsLegal start) (ap (λ z. (seen ++ before) ++ z) (sym is) ∙ append_assoc seen before own)
    (legal_call start (seen ++ before) seat t reading call answer after (subst (IsLegal start) parted legal))

pub below_seen : (passes : ℕ) (log seen own after : List Entry) → log ≡ seen ++ (own ++ after) → HaveSeatsBelow passes log → HaveSeatsBelow passes (seen ++ own)
below_seen passes log seen own after whole all = below_front passes (seen ++ own) after (subst (HaveSeatsBelow passes) (whole ∙ sym (append_assoc seen own after)) all)
