-- Rows under hashes, as entities come, go and change.
use Rattle.std.proofs.Common.{◌≡◌, ℕ, ◌+◌, ◌*◌, ◌<◌, List, [], ◌∷◌, ◌++◌, map, nat_lt, ◌==◌, not, Bool, true, false, Option, Some, None, cond, refl, sym, ap, ◌∙◌, subst, arith}
use Rattle.std.specs.List.{filter, list_all}
use Rattle.std.specs.Option.{option_map_or}
use Rattle.std.proofs.lemmas.Bool.{eq-eqb, ne_eqb}
use Rattle.sb_index.specs.Rows.{AreRising, Lacks, is_at, is_below, with_row, without}
use Rattle.sb_index.specs.declared.row.Row.{Row}
use Rattle.sb_machine.specs.Each.{Each, IsSorted}
use Rattle.sb_machine.specs.Keyed.{changed}
use Rattle.sb_machine.specs.Namespace.{is_entity}
use Rattle.sb_machine.specs.declared.state.Entity.{Entity}
use Rattle.sb_entities.specs.ByHash.{HoldsBy, entity_key, hash_at, hash_row, is_hashed_to, is_within, span, with_entity, without_entity}
use Rattle.sb_entities.specs.Tables.{number_of}
use Rattle.sb_entities.proofs.Stretches.{filters_swap, is_lt, lacks_by, le_is, lt_is, other_hash, other_number, own_number, same, under_other, under_own, with_last, with_other}

-- an entity's number is below this one
abbrev pub IsBelow : ℕ → Entity → Type 0
IsBelow n e = number_of e < n

-- an entity's row under a hash
abbrev row : ℕ → Entity → Row
row h e = hash_row h (number_of e)

last_kept : (q : Entity → Bool) (c : Entity) (cs : List Entity) → q c ≡ true → filter q (cs ++ c ∷ []) ≡ filter q cs ++ c ∷ []
last_kept q c [] e = rw e refl
last_kept q c (y ∷ ys) e = at (q y) (last_kept q c ys e) where
  at : (b : Bool) → filter q (ys ++ c ∷ []) ≡ filter q ys ++ c ∷ [] → cond b (y ∷ filter q (ys ++ c ∷ [])) (filter q (ys ++ c ∷ [])) ≡ cond b (y ∷ filter q ys) (filter q ys) ++ c ∷ []
  at true ih = ap (λ (l : List Entity). y ∷ l) ih
  at false ih = ih

last_lost : (q : Entity → Bool) (c : Entity) (cs : List Entity) → q c ≡ false → filter q (cs ++ c ∷ []) ≡ filter q cs
last_lost q c [] e = rw e refl
last_lost q c (y ∷ ys) e = ap (λ (l : List Entity). cond (q y) (y ∷ l) l) (last_lost q c ys e)

rows_last : (h : ℕ) (c : Entity) (cs : List Entity) → map (row h) (cs ++ c ∷ []) ≡ map (row h) cs ++ row h c ∷ []
rows_last h c [] = refl
rows_last h c (y ∷ ys) = ap (λ (l : List Row). row h y ∷ l) (rows_last h c ys)

stretch_low : (h n : ℕ) (q : Entity → Bool) (cs : List Entity) → Each (IsBelow n) cs → list_all (is_below (entity_key h n)) (map (row h) (filter q cs)) ≡ true
stretch_low h n q [] b = refl
stretch_low h n q (c ∷ cs) b = at (q c) (stretch_low h n q cs b.1) where
  lower : nat_lt (entity_key h (number_of c)) (entity_key h n) ≡ true
  lower = lt_is (h * span + number_of c) (h * span + n) (let p : number_of c < n = b.0 in omega (arith, p))

  at : (t : Bool) → list_all (is_below (entity_key h n)) (map (row h) (filter q cs)) ≡ true → list_all (is_below (entity_key h n)) (map (row h) (cond t (c ∷ filter q cs) (filter q cs))) ≡ true
  at true ih = rw lower ih
  at false ih = ih

stretch_lacks : (h n : ℕ) (q : Entity → Bool) (cs : List Entity) → Each (IsBelow n) cs → Lacks (entity_key h n) (map (row h) (filter q cs))
stretch_lacks h n q [] b = refl
stretch_lacks h n q (c ∷ cs) b = at (q c) (stretch_lacks h n q cs b.1) where
  other : (entity_key h n == entity_key h (number_of c)) ≡ false
  other = ne_eqb (h * span + n) (h * span + number_of c) (let p : number_of c < n = b.0 in omega (arith, p))

  at : (t : Bool) → Lacks (entity_key h n) (map (row h) (filter q cs)) → Lacks (entity_key h n) (map (row h) (cond t (c ∷ filter q cs) (filter q cs)))
  at true ih = rw other ih
  at false ih = ih

-- ---- by any hash

module _ (f : Entity → Option ℕ) where
  hashed_so : (o : Option ℕ) (k : ℕ) (c : Entity) → f c ≡ o → is_hashed_to f k c ≡ option_map_or (λ own. own == k) o false
  hashed_so o k c e = ap (λ (o : Option ℕ). option_map_or (λ own. own == k) o false) e

  -- ---- one more

  pub lacks_next : (h n : ℕ) (rows : List Row) (cs : List Entity) → n < span → Each (IsBelow n) cs → HoldsBy f rows cs → Lacks (entity_key h n) rows
  lacks_next h n rows cs fits b holds = lacks_by (is_within h) (entity_key h n) rows own (subst (λ (l : List Row). Lacks (entity_key h n) l) (sym (holds h)) (stretch_lacks h n (is_hashed_to f h) cs b)) where
    own : (y : Row) → (entity_key h n == y.key) ≡ true → is_within h y ≡ true
    own y e = let one : h * span + n ≡ y.key = same (h * span + n) y.key e in rw (le_is (h * span) y.key (omega (arith, one)), lt_is y.key (h * span + span) (omega (arith, one, fits))) refl

  put_own : (h : ℕ) (c : Entity) (rows : List Row) (cs : List Entity) → number_of c < span → AreRising rows → Each (IsBelow (number_of c)) cs → is_hashed_to f h c ≡ true → HoldsBy f rows cs → filter (is_within h) (with_row (row h c) rows) ≡ map (row h) (filter (is_hashed_to f h) (cs ++ c ∷ []))
  put_own h c rows cs fits s b own holds =
      with_last (is_within h) (row h c) rows (under_own h (number_of c) fits) s (subst (λ (l : List Row). list_all (is_below (entity_key h (number_of c))) l ≡ true) (sym (holds h)) (stretch_low h (number_of c) (is_hashed_to f h) cs b))
      ∙ ap (λ (l : List Row). l ++ row h c ∷ []) (holds h)
      ∙ sym (rows_last h c (filter (is_hashed_to f h) cs))
      ∙ ap (λ (l : List Entity). map (row h) l) (sym (last_kept (is_hashed_to f h) c cs own))

  -- with the next entity, the row where it comes to a hash
  pub put_so : (o : Option ℕ) (c : Entity) (rows new : List Row) (cs after : List Entity) → f c ≡ o → number_of c < span → AreRising rows → Each (IsBelow (number_of c)) cs → HoldsBy f rows cs → new ≡ with_entity o (number_of c) rows → after ≡ cs ++ c ∷ [] → HoldsBy f new after
  put_so None c rows new cs after is fits s b holds put pushed k =
      ap (λ (l : List Row). filter (is_within k) l) put
      ∙ holds k
      ∙ ap (λ (l : List Entity). map (row k) l) (sym (last_lost (is_hashed_to f k) c cs (hashed_so None k c is)))
      ∙ ap (λ (l : List Entity). map (row k) (filter (is_hashed_to f k) l)) (sym pushed)
  put_so (Some h) c rows new cs after is fits s b holds put pushed k = ap (λ (l : List Row). filter (is_within k) l) put ∙ at (h == k) refl ∙ ap (λ (l : List Entity). map (row k) (filter (is_hashed_to f k) l)) (sym pushed) where
    at : (t : Bool) → (h == k) ≡ t → filter (is_within k) (with_row (row h c) rows) ≡ map (row k) (filter (is_hashed_to f k) (cs ++ c ∷ []))
    at true e =
        let own : is_hashed_to f h c ≡ true = hashed_so (Some h) h c is ∙ eq-eqb h h refl in
        subst (λ z. filter (is_within z) (with_row (row h c) rows) ≡ map (row z) (filter (is_hashed_to f z) (cs ++ c ∷ []))) (same h k e) (put_own h c rows cs fits s b own holds)
    at false e =
        with_other (is_within k) (row h c) rows (under_other k h (number_of c) fits e)
        ∙ holds k
        ∙ ap (λ (l : List Entity). map (row k) l) (sym (last_lost (is_hashed_to f k) c cs (hashed_so (Some h) k c is ∙ e)))

  -- ---- one less

  -- the entities of a number come to one hash
  abbrev pub ComesTo : ℕ → Option ℕ → Entity → Type 0
  ComesTo n o e = is_entity n e ≡ true → f e ≡ o

  kept_taken : (n k : ℕ) (o : Option ℕ) (cs : List Entity) → Each (ComesTo n o) cs → option_map_or (λ own. own == k) o false ≡ false → filter (is_hashed_to f k) (filter (λ e. not (is_entity n e)) cs) ≡ filter (is_hashed_to f k) cs
  kept_taken n k o [] all other = refl
  kept_taken n k o (c ∷ cs) all other = at (number_of c == n) refl (kept_taken n k o cs all.1 other) where
    at : (b : Bool) → (number_of c == n) ≡ b → filter (is_hashed_to f k) (filter (λ e. not (is_entity n e)) cs) ≡ filter (is_hashed_to f k) cs → filter (is_hashed_to f k) (filter (λ e. not (is_entity n e)) (c ∷ cs)) ≡ filter (is_hashed_to f k) (c ∷ cs)
    at true e ih = let fails : is_hashed_to f k c ≡ false = hashed_so o k c (all.0 e) ∙ other in rw (e, fails) ih
    at false e ih = rw e (ap (λ (l : List Entity). cond (is_hashed_to f k c) (c ∷ l) l) ih)

taken_own : (h n : ℕ) (q : Entity → Bool) (cs : List Entity) → without (entity_key h n) (map (row h) (filter q cs)) ≡ map (row h) (filter q (filter (λ e. not (is_entity n e)) cs))
taken_own h n q [] = refl
taken_own h n q (c ∷ cs) = at (number_of c == n) refl (taken_own h n q cs) where
  at : (b : Bool) → (number_of c == n) ≡ b → without (entity_key h n) (map (row h) (filter q cs)) ≡ map (row h) (filter q (filter (λ e. not (is_entity n e)) cs)) → without (entity_key h n) (map (row h) (filter q (c ∷ cs))) ≡ map (row h) (filter q (filter (λ e. not (is_entity n e)) (c ∷ cs)))
  at true e ih = rw e (inner (q c)) where
    inner : (t : Bool) → without (entity_key h n) (map (row h) (cond t (c ∷ filter q cs) (filter q cs))) ≡ map (row h) (filter q (filter (λ x. not (is_entity n x)) cs))
    inner true = rw (own_number h (number_of c) n e) ih
    inner false = ih
  at false e ih = rw e (inner (q c)) where
    inner : (t : Bool) → without (entity_key h n) (map (row h) (cond t (c ∷ filter q cs) (filter q cs))) ≡ map (row h) (cond t (c ∷ filter q (filter (λ x. not (is_entity n x)) cs)) (filter q (filter (λ x. not (is_entity n x)) cs)))
    inner true = rw (other_number h (number_of c) n e) (ap (λ (l : List Row). row h c ∷ l) ih)
    inner false = ih

taken_other : (h k n : ℕ) (q : Entity → Bool) (cs : List Entity) → Each (IsBelow span) cs → n < span → (h == k) ≡ false → without (entity_key h n) (map (row k) (filter q cs)) ≡ map (row k) (filter q cs)
taken_other h k n q [] b fits e = refl
taken_other h k n q (c ∷ cs) b fits e = at (q c) (taken_other h k n q cs b.1 fits e) where
  at : (t : Bool) → without (entity_key h n) (map (row k) (filter q cs)) ≡ map (row k) (filter q cs) → without (entity_key h n) (map (row k) (cond t (c ∷ filter q cs) (filter q cs))) ≡ map (row k) (cond t (c ∷ filter q cs) (filter q cs))
  at true ih = rw (other_hash h k (number_of c) n b.0 fits e) (ap (λ (l : List Row). row k c ∷ l) ih)
  at false ih = ih

module _ (f : Entity → Option ℕ) where
  -- without the entity of a number, the row where it came to a hash
  pub taken_so : (n : ℕ) (o : Option ℕ) (rows new : List Row) (cs after : List Entity) → n < span → Each (IsBelow span) cs → Each (ComesTo f n o) cs → HoldsBy f rows cs → new ≡ without_entity o n rows → after ≡ filter (λ e. not (is_entity n e)) cs → HoldsBy f new after
  taken_so n None rows new cs after fits b all holds removed taken k =
      ap (λ (l : List Row). filter (is_within k) l) removed
      ∙ holds k
      ∙ ap (λ (l : List Entity). map (row k) l) (sym (kept_taken f n k None cs all refl))
      ∙ ap (λ (l : List Entity). map (row k) (filter (is_hashed_to f k) l)) (sym taken)
  taken_so n (Some h) rows new cs after fits b all holds removed taken k = ap (λ (l : List Row). filter (is_within k) l) removed ∙ swapped ∙ at (h == k) refl ∙ ap (λ (l : List Entity). map (row k) (filter (is_hashed_to f k) l)) (sym taken) where
    swapped : filter (is_within k) (without (entity_key h n) rows) ≡ without (entity_key h n) (map (row k) (filter (is_hashed_to f k) cs))
    swapped = filters_swap (is_within k) (λ x. not (is_at (entity_key h n) x)) rows ∙ ap (λ (l : List Row). without (entity_key h n) l) (holds k)

    at : (t : Bool) → (h == k) ≡ t → without (entity_key h n) (map (row k) (filter (is_hashed_to f k) cs)) ≡ map (row k) (filter (is_hashed_to f k) (filter (λ e. not (is_entity n e)) cs))
    at true e = subst (λ z. without (entity_key h n) (map (row z) (filter (is_hashed_to f z) cs)) ≡ map (row z) (filter (is_hashed_to f z) (filter (λ e. not (is_entity n e)) cs))) (same h k e) (taken_own h n (is_hashed_to f h) cs)
    at false e = taken_other h k n (is_hashed_to f k) cs b fits e ∙ ap (λ (l : List Entity). map (row k) l) (sym (kept_taken f n k (Some h) cs all e))

  -- ---- one changed

  module _ (n : ℕ) (g : Entity → Entity) (same_number : (c : Entity) → number_of (g c) ≡ number_of c) (same_hash : (c : Entity) → f (g c) ≡ f c) where
    stays_under : (h : ℕ) (cs : List Entity) → map (row h) (filter (is_hashed_to f h) (changed (is_entity n) (λ c. g c ∷ []) cs)) ≡ map (row h) (filter (is_hashed_to f h) cs)
    stays_under h [] = refl
    stays_under h (c ∷ cs) = at (number_of c == n) refl (stays_under h cs) where
      hashed : is_hashed_to f h (g c) ≡ is_hashed_to f h c
      hashed = ap (λ (o : Option ℕ). option_map_or (λ own. own == h) o false) (same_hash c)

      at : (b : Bool) → (number_of c == n) ≡ b → map (row h) (filter (is_hashed_to f h) (changed (is_entity n) (λ x. g x ∷ []) cs)) ≡ map (row h) (filter (is_hashed_to f h) cs) → map (row h) (filter (is_hashed_to f h) (changed (is_entity n) (λ x. g x ∷ []) (c ∷ cs))) ≡ map (row h) (filter (is_hashed_to f h) (c ∷ cs))
      at true e ih = rw (e, hashed) (inner (is_hashed_to f h c)) where
        inner : (t : Bool) → map (row h) (cond t (g c ∷ filter (is_hashed_to f h) cs) (filter (is_hashed_to f h) cs)) ≡ map (row h) (cond t (c ∷ filter (is_hashed_to f h) cs) (filter (is_hashed_to f h) cs))
        inner true = ap (λ m. hash_row h m ∷ map (row h) (filter (is_hashed_to f h) cs)) (same_number c)
        inner false = refl
      at false e ih = rw e (inner (is_hashed_to f h c)) where
        inner : (t : Bool) → map (row h) (cond t (c ∷ filter (is_hashed_to f h) (changed (is_entity n) (λ x. g x ∷ []) cs)) (filter (is_hashed_to f h) (changed (is_entity n) (λ x. g x ∷ []) cs))) ≡ map (row h) (cond t (c ∷ filter (is_hashed_to f h) cs) (filter (is_hashed_to f h) cs))
        inner true = ap (λ (l : List Row). row h c ∷ l) ih
        inner false = ih

    pub stays_so : (rows : List Row) (cs after : List Entity) → HoldsBy f rows cs → after ≡ changed (is_entity n) (λ c. g c ∷ []) cs → HoldsBy f rows after
    stays_so rows cs after holds is h = holds h ∙ sym (stays_under h cs) ∙ ap (λ (l : List Entity). map (row h) (filter (is_hashed_to f h) l)) (sym is)

-- ---- in rising number

abbrev pub AreSorted : List Entity → Type 0
AreSorted cs = IsSorted (λ a b. nat_lt (number_of a) (number_of b)) cs

none_later : (f : Entity → Option ℕ) (n : ℕ) (o : Option ℕ) (x : Entity) (cs : List Entity) → (number_of x == n) ≡ true → Each (λ y. nat_lt (number_of x) (number_of y) ≡ true) cs → Each (ComesTo f n o) cs
none_later f n o x [] e above = tt
none_later f n o x (c ∷ cs) e above =
    let up : number_of x < number_of c = is_lt (number_of x) (number_of c) above.0 in
    ((λ is. absurd (omega (arith, up, same (number_of x) n e, same (number_of c) n is))), none_later f n o x cs e above.1)

pub one_comes : (f : Entity → Option ℕ) (n : ℕ) (cs : List Entity) → AreSorted cs → Each (ComesTo f n (hash_at f n cs)) cs
one_comes f n [] s = tt
one_comes f n (c ∷ cs) s = at (number_of c == n) refl (one_comes f n cs s.1) where
  at : (b : Bool) → (number_of c == n) ≡ b → Each (ComesTo f n (hash_at f n cs)) cs → Each (ComesTo f n (hash_at f n (c ∷ cs))) (c ∷ cs)
  at true e ih = let here : hash_at f n (c ∷ cs) ≡ f c = rw e refl in subst (λ (o : Option ℕ). Each (ComesTo f n o) (c ∷ cs)) (sym here) ((λ is. refl), none_later f n (f c) c cs e s.0)
  at false e ih = let there : hash_at f n (c ∷ cs) ≡ hash_at f n cs = rw e refl in subst (λ (o : Option ℕ). Each (ComesTo f n o) (c ∷ cs)) (sym there) ((λ is. absurd (let bad : false ≡ true = sym e ∙ is in cc)), ih)
