-- What an index by number tells of when its copies come due.
use Rattle.std.proofs.Common.{◌≡◌, ℕ, ◌≤◌, List, [], ◌∷◌, ◌++◌, map, min, nat_le, Bool, true, false, Option, Some, None, cond, refl, sym, ap, ◌∙◌, arith}
use Rattle.std.specs.List.{fold}
use Rattle.std.specs.Prelude.{option_to_list}
use Rattle.std.proofs.lemmas.Bool.Decides.{nat_tests}
use Rattle.std.proofs.lemmas.List.{append-nil}
use Rattle.slab.specs.Slab.{Slab, get}
use Rattle.sb_index.specs.Rows.{least_due}
use Rattle.sb_index.specs.declared.row.Row.{Row}
use Rattle.sb_machine.specs.declared.state.Standing.{Standing}
use Rattle.sb_machine.specs.declared.state.Standing.TheVariants.{Ready, Deferred, Held, Scheduled}
use Rattle.sb_machine.specs.declared.state.StoredCopy.{StoredCopy}
use Rattle.sb_copies.specs.Dues.{copy_expiry, due_of, in_range, least_of, moment_of, never, standing_due}
use Rattle.sb_copies.specs.Shelf.{held_at, rows_in}

-- ---- moments

beyond : (d : ℕ) → nat_le d never ≡ false → never ≡ min d never
beyond d e = grind (arith, nat_tests)

same_moment : (end : Option ℕ) → moment_of (in_range end) ≡ moment_of end
same_moment None = refl
same_moment (Some d) = at (nat_le d never) refl where
  at : (b : Bool) → nat_le d never ≡ b → moment_of (cond b (Some d) None) ≡ min d never
  at true e = refl
  at false e = beyond d e

-- a deadline past all moments is none
pub ranged : (expires : Bool) (end : Option ℕ) (standing : Standing) → moment_of (standing_due expires (in_range end) standing) ≡ moment_of (standing_due expires end standing)
ranged true end Ready = same_moment end
ranged false end Ready = refl
ranged expires end Deferred = refl
ranged expires end (Held lock hold deferred) = refl
ranged expires end (Scheduled at) = refl

pub at_most : (o : Option ℕ) → moment_of o ≤ never
at_most None = omega arith
at_most (Some d) = omega arith

-- ---- the least

dues_in : (e : Bool) (cs : List StoredCopy) → map (λ x. x.due) (rows_in e cs) ≡ map (due_of e) cs
dues_in e [] = refl
dues_in e (c ∷ cs) = ap (λ (ds : List ℕ). due_of e c ∷ ds) (dues_in e cs)

least_below : (a : ℕ) → a ≤ never → min never a ≡ a
least_below a p = omega (arith, p)

abbrev or_never : Option ℕ → ℕ
or_never None = never
or_never (Some d) = d

least_in : (e : Bool) (cs : List StoredCopy) → or_never (least_due (rows_in e cs)) ≡ least_of e cs
least_in e [] = refl
least_in e (c ∷ cs) =
    ap (λ (ds : List ℕ). fold min (due_of e c) ds) (dues_in e cs)
    ∙ ap (λ (d : ℕ). fold min d (map (due_of e) cs)) (sym (least_below (due_of e c) (at_most (standing_due e (copy_expiry c) c.standing))))

pub least_some : (e : Bool) (d : ℕ) (rows : List Row) (cs : List StoredCopy) → rows ≡ rows_in e cs → Some d ≡ least_due rows → d ≡ least_of e cs
least_some e d rows cs is least = ap or_never least ∙ ap (λ (l : List Row). or_never (least_due l)) is ∙ least_in e cs

pub least_none : (e : Bool) (rows : List Row) (cs : List StoredCopy) → rows ≡ rows_in e cs → None ≡ least_due rows → never ≡ least_of e cs
least_none e rows cs is least = ap or_never least ∙ ap (λ (l : List Row). or_never (least_due l)) is ∙ least_in e cs

-- ---- those under keys

pub one_more_there : (found : List StoredCopy) (key : ℕ) (slots : Slab StoredCopy) (c : StoredCopy) → Some c ≡ get slots key → found ++ c ∷ [] ≡ found ++ held_at slots key
one_more_there found key slots c there = ap (λ (o : Option StoredCopy). found ++ option_to_list o) there

pub none_there : (found : List StoredCopy) (key : ℕ) (slots : Slab StoredCopy) → None ≡ get slots key → found ≡ found ++ held_at slots key
none_there found key slots there = sym (append-nil found) ∙ ap (λ (o : Option StoredCopy). found ++ option_to_list o) there
