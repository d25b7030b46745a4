-- What an index of entities by number tells of when something of them comes due.
use Rattle.std.proofs.Common.{◌≡◌, ℕ, ◌<◌, ◌≤◌, List, [], ◌∷◌, ◌++◌, map, find, filter, min, Bool, true, false, Option, Some, None, cond, refl, sym, ap, ◌∙◌, arith, Result, Ok, Err, Bor, Global}
use Rattle.std.specs.List.{fold}
use Rattle.std.specs.Prelude.{IfOk, Vec}
use Rattle.std.specs.declared.alloc.AllocError.{AllocError}
use Rattle.std.proofs.lemmas.Bool.{eq-eqb, ne_eqb}
use Rattle.std.proofs.lemmas.List.{append-nil}
use Rattle.sb_index.specs.Rows.{due_values, least_due}
use Rattle.sb_index.specs.Rows as index
use Rattle.sb_index.specs.declared.row.Row.{Row}
use Rattle.sb_copies.specs.Dues.{due_of, never}
use Rattle.sb_machine.specs.Each.{Each}
use Rattle.sb_machine.specs.Keyed.{AreRising}
use Rattle.sb_machine.specs.Namespace.{is_entity}
use Rattle.sb_machine.specs.declared.state.Entity.{Entity}
use Rattle.sb_entities.specs.DueRows.{due_row, due_rows, one_of, those_of}
use Rattle.sb_entities.specs.EntityDues.{due_entities, entity_due, is_due_by, least_due_of}
use Rattle.sb_entities.specs.Stores.{entities_in, entity_in}
use Rattle.sb_entities.specs.Tables.{number_of}
use Rattle.sb_entities.specs.declared.entity.EntityStore.{EntityStore}

-- ---- the least

fold_top : (a : ℕ) (ds : List ℕ) → fold min a ds ≤ a
fold_top a [] = omega arith
fold_top a (d ∷ ds) = let it = fold_top (min a d) ds in omega (arith, it)

at_most : (e : Entity) → entity_due e ≤ never
at_most e = let it = fold_top never (map (due_of true) e.main.copies) in omega (arith, it)

least_below : (a : ℕ) → a ≤ never → min never a ≡ a
least_below a p = omega (arith, p)

dues_in : (es : List Entity) → map (λ x. x.due) (due_rows es) ≡ map entity_due es
dues_in [] = refl
dues_in (e ∷ es) = ap (λ (ds : List ℕ). entity_due e ∷ ds) (dues_in es)

abbrev or_never : Option ℕ → ℕ
or_never None = never
or_never (Some d) = d

least_in : (es : List Entity) → or_never (least_due (due_rows es)) ≡ least_due_of es
least_in [] = refl
least_in (e ∷ es) = ap (λ (ds : List ℕ). fold min (entity_due e) ds) (dues_in es) ∙ ap (λ (d : ℕ). fold min d (map entity_due es)) (sym (least_below (entity_due e) (at_most e)))

pub least_some : (d : ℕ) (rows : List Row) (es : List Entity) → rows ≡ due_rows es → Some d ≡ least_due rows → d ≡ least_due_of es
least_some d rows es is least = ap or_never least ∙ ap (λ (l : List Row). or_never (least_due l)) is ∙ least_in es

pub least_none : (rows : List Row) (es : List Entity) → rows ≡ due_rows es → None ≡ least_due rows → never ≡ least_due_of es
least_none rows es is least = ap or_never least ∙ ap (λ (l : List Row). or_never (least_due l)) is ∙ least_in es

-- ---- those of numbers

one_is : (n : ℕ) (es : List Entity) (e : Entity) → find (is_entity n) es ≡ Some e → one_of n es ≡ e ∷ []
one_is n es e there = at (find (is_entity n) es) there where
  at : (o : Option Entity) → o ≡ Some e → ◌≡◌ {A = List Entity} (elim o [ Some x ↦ x ∷ [] | None ↦ [] ]) (e ∷ [])
  at None is = absurd (let bad : None ≡ Some e = is in cc)
  at (Some x) is = let same : x ≡ e = cc in ap (λ (z : Entity). z ∷ []) same

none_is : (n : ℕ) (es : List Entity) → find (is_entity n) es ≡ None → one_of n es ≡ []
none_is n es there = at (find (is_entity n) es) there where
  at : (o : Option Entity) → o ≡ None → ◌≡◌ {A = List Entity} (elim o [ Some x ↦ x ∷ [] | None ↦ [] ]) []
  at None is = refl
  at (Some x) is = absurd (let bad : Some x ≡ None = is in cc)

pub one_more_there : (found : List Entity) (n : ℕ) (es : List Entity) (e : Entity) → Some e ≡ find (is_entity n) es → found ++ e ∷ [] ≡ found ++ one_of n es
one_more_there found n es e there = ap (λ (l : List Entity). found ++ l) (sym (one_is n es e (sym there)))

pub none_there : (found : List Entity) (n : ℕ) (es : List Entity) → None ≡ find (is_entity n) es → found ≡ found ++ one_of n es
none_there found n es there = sym (append-nil found) ∙ ap (λ (l : List Entity). found ++ l) (sym (none_is n es (sym there)))

-- each is found by its number
abbrev Found : List Entity → Entity → Type 0
Found es e = find (is_entity (number_of e)) es ≡ Some e

at_own : (e : Entity) (es : List Entity) → Found (e ∷ es) e
at_own e es = rw (eq-eqb (number_of e) (number_of e) refl) refl

at_behind : (y b : Entity) (es : List Entity) → number_of y < number_of b → Found es b → Found (y ∷ es) b
at_behind y b es p is = rw (ne_eqb (number_of y) (number_of b) (omega (arith, p))) is

still_found : (y : Entity) (above last : ℕ) (es bs : List Entity) → number_of y ≤ above → AreRising number_of above last bs → Each (Found es) bs → Each (Found (y ∷ es)) bs
still_found y above last es [] le h is = tt
still_found y above last es (b ∷ bs) le h is = (at_behind y b es (omega (arith, le, h.0)) is.0, still_found y (number_of b) last es bs (omega (arith, le, h.0)) h.1 is.1)

each_found : (above last : ℕ) (es : List Entity) → AreRising number_of above last es → Each (Found es) es
each_found above last [] h = tt
each_found above last (e ∷ es) h = (at_own e es, still_found e (number_of e) last es es (omega arith) h.1 (each_found (number_of e) last es h.1))

those_due : (m : ℕ) (es bs : List Entity) → Each (Found es) bs → those_of (due_values m (due_rows bs)) es ≡ due_entities m bs
those_due m es [] is = refl
those_due m es (b ∷ bs) is = at (is_due_by m b) (those_due m es bs is.1) where
  at : (t : Bool) → those_of (due_values m (due_rows bs)) es ≡ due_entities m bs
      → those_of (map (λ x. x.value) (cond t (due_row b ∷ filter (index.is_due m) (due_rows bs)) (filter (index.is_due m) (due_rows bs)))) es ≡ cond t (b ∷ due_entities m bs) (due_entities m bs)
  at true ih = ap (λ (l : List Entity). l ++ those_of (due_values m (due_rows bs)) es) (one_is (number_of b) es b is.0) ∙ ap (λ (l : List Entity). b ∷ l) ih
  at false ih = ih

due_found : (m last : ℕ) (rows : List Row) (ns : List ℕ) (es found : List Entity) → AreRising number_of 0 last es → rows ≡ due_rows es → ns ≡ due_values m rows → found ≡ those_of ns es → found ≡ due_entities m es
due_found m last rows ns es found h is numbers there =
    there ∙ ap (λ (l : List ℕ). those_of l es) (numbers ∙ ap (λ (l : List Row). due_values m l) is) ∙ those_due m es es (each_found 0 last es h)

pub due_among : (m last : ℕ) (dues : List Row) (ns ns' : List ℕ) (rows rows' now : List EntityStore) (r : Result (Vec (Bor EntityStore) Global) AllocError) → AreRising number_of 0 last (entities_in rows) → dues ≡ due_rows (entities_in rows) → ns ≡ due_values m dues
    → rows' ≡ rows → ns' ≡ ns → rows ≡ now → IfOk r (λ found. map (λ e. entity_in e.now) found.items ≡ those_of ns' (entities_in rows')) → IfOk r (λ found. map (λ e. entity_in e.now) found.items ≡ due_entities m (entities_in now))
due_among m last dues ns ns' rows rows' now (Ok found) h is numbers same there seen all =
    due_found m last dues ns (entities_in rows) (map (λ e. entity_in e.now) found.items) h is numbers
    (all ∙ ap (λ (l : List ℕ). those_of l (entities_in rows')) there ∙ ap (λ (l : List EntityStore). those_of ns (entities_in l)) same)
    ∙ ap (λ (l : List EntityStore). due_entities m (entities_in l)) seen
due_among m last dues ns ns' rows rows' now (Err e) h is numbers same there seen all = all
