-- Lists of passes: the numbers that were dealt, and what the claims of the last seat say of those that it took in.
use Rattle.std.proofs.Common.{◌≡◌, ℕ, suc, ◌+◌, List, [], ◌∷◌, ◌++◌, map, refl, sym, ap, ◌∙◌, arith, append-nil, append_assoc}
use Rattle.sb_machine.specs.declared.history.Entry.{Entry}
use Rattle.sb_desk.specs.Entries.{entries_by}
use Rattle.sb_desk.specs.Lists.{GoesOn, Each}
use Rattle.sb_desk.specs.Desks.{Sitting, claim_of, below, IsKeptIn}
use Rattle.sb_desk.proofs.Logs.{by_append}

pub kept_so : (h : List Entry) (p : Sitting) → GoesOn h p.seat p.seen → IsKeptIn h p
kept_so h p g = ((g.0, g.1), ap (entries_by p.seat) g.1 ∙ (by_append p.seat p.seen g.0 ∙ (ap (λ z. entries_by p.seat p.seen ++ z) g.2 ∙ append-nil (entries_by p.seat p.seen))))

pub kept_all : (h : List Entry) (ps : List Sitting) (p : Sitting) → GoesOn h p.seat p.seen → Each (λ c. GoesOn h c.seat c.seen) (map claim_of ps ++ []) → Each (IsKeptIn h) (ps ++ p ∷ [])
kept_all h [] p g e = (kept_so h p g, tt)
kept_all h (q ∷ qs) p g e = (kept_so h q e.0, kept_all h qs p g e.1)

map_last : (ps : List Sitting) (p : Sitting) → map (λ p. p.seat) (ps ++ p ∷ []) ≡ map (λ p. p.seat) ps ++ p.seat ∷ []
map_last [] p = refl
map_last (x ∷ ps) p = ap (λ z. x.seat ∷ z) (map_last ps p)

-- one more pass was dealt, with the greatest of the numbers that were left
pub dealt_more : (ps : List Sitting) (p : Sitting) (all old new : ℕ) → map (λ p. p.seat) ps ++ below old ≡ below all → old ≡ new + 1 → p.seat ≡ new → map (λ p. p.seat) (ps ++ p ∷ []) ++ below new ≡ below all
dealt_more ps p all old new had one is =
    let next : old ≡ suc new = omega (arith, one) in
    let first : below old ≡ p.seat ∷ below new = ap below next ∙ ap (λ z. z ∷ below new) (sym is) in
    ap (λ z. z ++ below new) (map_last ps p) ∙ (append_assoc (map (λ p. p.seat) ps) (p.seat ∷ []) (below new) ∙ (ap (λ z. map (λ p. p.seat) ps ++ z) (sym first) ∙ had))

-- the last pass has the number 0
pub dealt_all : (ps : List Sitting) (p : Sitting) (all : ℕ) → map (λ p. p.seat) ps ++ below 1 ≡ below all → p.seat ≡ 0 → map (λ p. p.seat) (ps ++ p ∷ []) ≡ below all
dealt_all ps p all had is = sym (append-nil (map (λ p. p.seat) (ps ++ p ∷ []))) ∙ dealt_more ps p all 1 0 had refl is

pub each_more : {A : Type 0} (P : A → Type 0) (xs : List A) (x : A) → Each P xs → P x → Each P (xs ++ x ∷ [])
each_more P [] x e is = (is, tt)
each_more P (y ∷ xs) x e is = (e.0, each_more P xs x e.1 is)
