-- An index of entities by number: what a change of these makes of it.
use Rattle.std.proofs.Common.{◌≡◌, ℕ, ◌+◌, ◌<◌, ◌≤◌, ◌==◌, nat_lt, not, Bool, true, false, List, [], ◌∷◌, ◌++◌, filter, find, Option, Some, None, cond, refl, sym, ap, ◌∙◌, subst, arith, one-add}
use Rattle.std.specs.List.{insert, prefix_len}
use Rattle.std.specs.Option.{option_map_or}
use Rattle.std.proofs.lemmas.Bool.Decides.{nat_tests}
use Rattle.std.proofs.lemmas.Bool.{ne_eqb}
use Rattle.std.proofs.lemmas.List.{map-append}
use Rattle.sb_index.specs.Rows.{is_at, is_below, told, with_row, without, Lacks, Indexed}
use Rattle.sb_index.specs.Rows as index
use Rattle.sb_index.specs.declared.row.Row.{Row}
use Rattle.sb_machine.specs.Keyed.{AreRising, changed}
use Rattle.sb_machine.specs.Namespace.{is_entity}
use Rattle.sb_machine.specs.declared.state.Entity.{Entity}
use Rattle.sb_entities.specs.DueRows.{due_row, due_rows, told_due, HoldsDues}
use Rattle.sb_entities.specs.EntityDues.{entity_due}
use Rattle.sb_entities.specs.Stocks.{has_number, entity_after, entry_after, on_entry}
use Rattle.sb_entities.specs.Stores.{entity_in, entities_in, entries_in}
use Rattle.sb_entities.specs.Tables.{number_of}
use Rattle.sb_entities.specs.declared.change.EntityChange.{EntityChange}
use Rattle.sb_entities.specs.declared.entity.EntityStore.{EntityStore}
use Rattle.sb_entities.proofs.InOrder.{seen_changed, seen_removed}
use Rattle.sb_entities.proofs.Promised.{number_after}

pub top : (above last : ℕ) (es : List Entity) → AreRising number_of above last es → above ≤ last
top above last [] h = h
top above last (e ∷ es) h = let up = top (number_of e) last es h.1 in omega (arith, up, h.0)

-- ---- one more

apart : (n above last : ℕ) (es : List Entity) → last < n → AreRising number_of above last es → Lacks n (due_rows es)
apart n above last [] over h = refl
apart n above last (e ∷ es) over h = let up = top (number_of e) last es h.1 in rw (ne_eqb n (number_of e) (omega (arith, up, over))) (apart n (number_of e) last es over h.1)

put_last : (x : Entity) (above last : ℕ) (es : List Entity) → last < number_of x → AreRising number_of above last es → with_row (due_row x) (due_rows es) ≡ due_rows (es ++ x ∷ [])
put_last x above last [] over h = refl
put_last x above last (e ∷ es) over h =
    let up = top (number_of e) last es h.1 in
    let low : number_of e < number_of x = omega (arith, up, over) in
    ap (λ t. insert (due_rows (e ∷ es)) (cond t (1 + prefix_len (is_below (number_of x)) (due_rows es)) 0) (due_row x)) (lower (number_of e) (number_of x) low)
    ∙ ap (λ k. insert (due_rows (e ∷ es)) k (due_row x)) (one-add (prefix_len (is_below (number_of x)) (due_rows es)))
    ∙ ap (λ (l : List Row). due_row e ∷ l) (put_last x (number_of e) last es over h.1) where
      lower : (m n : ℕ) → m < n → nat_lt m n ≡ true
      lower m n p = grind (arith, nat_tests)

pub lacks_row : (spare : ℕ) (dues : Indexed) (last : ℕ) (x : Entity) (row : Row) (es : List Entity) → number_of x ≡ last + 1 → row ≡ due_row x → AreRising number_of 0 last es → HoldsDues spare dues es → Lacks row.key dues.rows
lacks_row spare dues last x row es next is h held =
    subst (λ (r : Row). Lacks r.key dues.rows) (sym is) (subst (λ (l : List Row). Lacks (number_of x) l) (sym held.rows) (apart (number_of x) 0 last es (omega (arith, next)) h))

pub row_put : (last : ℕ) (e : EntityStore) (row : Row) (old now : List Row) (rows new : List EntityStore) → number_of (entity_in e) ≡ last + 1 → row ≡ due_row (entity_in e) → AreRising number_of 0 last (entities_in rows) → old ≡ due_rows (entities_in rows)
    → now ≡ with_row row old → new ≡ rows ++ e ∷ [] → now ≡ due_rows (entities_in new)
row_put last e row old now rows new next is h held put pushed =
    put ∙ ap (λ (r : Row). with_row r old) is ∙ ap (λ (l : List Row). with_row (due_row (entity_in e)) l) held
    ∙ put_last (entity_in e) 0 last (entities_in rows) (omega (arith, next)) h
    ∙ ap due_rows (sym (ap entities_in pushed ∙ map-append entity_in rows (e ∷ [])))

-- ---- those of a number taken out

turned : (m n : ℕ) (b : Bool) → (m == n) ≡ b → (n == m) ≡ b
turned m n true e = grind (arith, nat_tests)
turned m n false e = grind (arith, nat_tests)

left : (n : ℕ) (es : List Entity) → without n (due_rows es) ≡ due_rows (filter (λ e. not (is_entity n e)) es)
left n [] = refl
left n (e ∷ es) = at (number_of e == n) refl (left n es) where
  at : (b : Bool) → (number_of e == n) ≡ b → without n (due_rows es) ≡ due_rows (filter (λ x. not (is_entity n x)) es) → without n (due_rows (e ∷ es)) ≡ due_rows (filter (λ x. not (is_entity n x)) (e ∷ es))
  at true is ih = rw (is, turned (number_of e) n true is) ih
  at false is ih = rw (is, turned (number_of e) n false is) (ap (λ (l : List Row). due_row e ∷ l) ih)

pub row_taken : (n : ℕ) (old now : List Row) (rows new : List EntityStore) → old ≡ due_rows (entities_in rows) → now ≡ without n old → entries_in new ≡ filter (λ x. not (has_number n x)) (entries_in rows) → now ≡ due_rows (entities_in new)
row_taken n old now rows new held removed is = removed ∙ ap (λ (l : List Row). without n l) held ∙ left n (entities_in rows) ∙ ap due_rows (sym (seen_removed n rows new is))

-- ---- one that changes

untold : (n d above last : ℕ) (es : List Entity) → n ≤ above → AreRising number_of above last es → index.changed n false d (due_rows es) ≡ due_rows es
untold n d above last [] le h = refl
untold n d above last (e ∷ es) le h = rw (ne_eqb n (number_of e) (omega (arith, le, h.0))) (ap (λ (l : List Row). due_row e ∷ l) (untold n d (number_of e) last es (omega (arith, le, h.0)) h.1))

told_behind : (n : ℕ) (e : Entity) (rows : List Row) (o : Option Entity) → (n == number_of e) ≡ false
    → option_map_or (λ x. index.changed n false (entity_due x) (due_row e ∷ rows)) o (due_row e ∷ rows) ≡ due_row e ∷ option_map_or (λ x. index.changed n false (entity_due x) rows) o rows
told_behind n e rows None is = refl
told_behind n e rows (Some x) is = rw is refl

told_here : (n d m : ℕ) → n ≡ m → d ≡ d → ◌≡◌ {A = Row} (record { key = n; value = n; marked = false; due = d }) (record { key = m; value = m; marked = false; due = d })
told_here n d m same is = ap (λ (k : ℕ). record { key = k; value = k; marked = false; due = d }) same

told_one : (n : ℕ) (f : Entity → Entity) → ((e : Entity) → number_of (f e) ≡ number_of e) → (above last : ℕ) (es : List Entity) → AreRising number_of above last es
    → told_due n (changed (is_entity n) (λ e. f e ∷ []) es) (due_rows es) ≡ due_rows (changed (is_entity n) (λ e. f e ∷ []) es)
told_one n f same above last [] h = refl
told_one n f same above last (e ∷ es) h = at (number_of e == n) refl (told_one n f same (number_of e) last es h.1) where
  equal : (m n : ℕ) → (m == n) ≡ true → n ≤ m
  equal m n is = grind (arith, nat_tests)

  at : (b : Bool) → (number_of e == n) ≡ b → told_due n (changed (is_entity n) (λ x. f x ∷ []) es) (due_rows es) ≡ due_rows (changed (is_entity n) (λ x. f x ∷ []) es)
      → told_due n (changed (is_entity n) (λ x. f x ∷ []) (e ∷ es)) (due_rows (e ∷ es)) ≡ due_rows (changed (is_entity n) (λ x. f x ∷ []) (e ∷ es))
  at true is ih =
      let rest : index.changed n false (entity_due (f e)) (due_rows es) ≡ due_rows es = untold n (entity_due (f e)) (number_of e) last es (equal (number_of e) n is) h.1 in
      let own : (number_of (f e) == n) ≡ true = ap (λ k. k == n) (same e) ∙ is in
      rw (is, own, turned (number_of e) n true is) (ap (λ (l : List Row). record { key = number_of e; value = number_of e; marked = false; due = entity_due (f e) } ∷ l) rest
      ∙ ap (λ (r : Row). r ∷ due_rows es) (told_here (number_of e) (entity_due (f e)) (number_of (f e)) (sym (same e)) refl))
  at false is ih =
      let rest = changed (is_entity n) (λ x. f x ∷ []) es in
      let behind : find (is_entity n) (e ∷ rest) ≡ find (is_entity n) rest = rw is refl in
      let all : changed (is_entity n) (λ x. f x ∷ []) (e ∷ es) ≡ e ∷ rest = rw is refl in
      subst (λ (l : List Entity). told_due n l (due_rows (e ∷ es)) ≡ due_rows l) (sym all)
      (ap (λ (o : Option Entity). option_map_or (λ x. index.changed n false (entity_due x) (due_rows (e ∷ es))) o (due_rows (e ∷ es))) behind
      ∙ told_behind n e (due_rows es) (find (is_entity n) rest) (turned (number_of e) n false is)
      ∙ ap (λ (l : List Row). due_row e ∷ l) ih)

pub row_told : (n last t : ℕ) (c : EntityChange) (old now : List Row) (rows new : List EntityStore) → AreRising number_of 0 last (entities_in rows) → old ≡ due_rows (entities_in rows) → entries_in new ≡ on_entry n (entry_after t c) (entries_in rows)
    → now ≡ told_due n (entities_in new) old → now ≡ due_rows (entities_in new)
row_told n last t c old now rows new h held is told_there =
    let seen : entities_in new ≡ changed (is_entity n) (λ e. entity_after t c e ∷ []) (entities_in rows) = seen_changed n t c rows new is in
    told_there ∙ ap (λ (l : List Row). told_due n (entities_in new) l) held ∙ ap (λ (es : List Entity). told_due n es (due_rows (entities_in rows))) seen
    ∙ told_one n (entity_after t c) (number_after t c) 0 last (entities_in rows) h ∙ ap due_rows (sym seen)
