-- Each visit is given one number, and stays or ends.
use Rattle.std.proofs.Common.{◌≡◌, ℕ, ◌+◌, Bool, true, false, cond, List, [], ◌∷◌, length, map, Option, Some, refl, ap, sym, ◌∙◌, arith}
use Rattle.std.specs.Prelude.{◌||◌}
use Rattle.std.specs.List.{sum_by}
use Rattle.std.proofs.lemmas.Grind.{common_steps}
use Rattle.std.proofs.lemmas.List.{length-append}
use Rattle.sb_machine.specs.Changes.{after, after_all, numbers_in, numbers_given}
use Rattle.sb_machine.specs.Delivery.{visit_change, visit_key, landing, delivered, carried}
use Rattle.sb_machine.specs.Leaves.{leaf_after, seq_or}
use Rattle.sb_machine.specs.Namespace.{is_entity, leaf_of, made_in, live_in, made, live, last_at, listed}
use Rattle.sb_machine.specs.Visits.{Lot, Visit, stays, ends}
use Rattle.sb_machine.specs.declared.call.Part.{Part}
use Rattle.sb_machine.specs.declared.call.Part.TheVariants.{Main, Dead, Transfer}
use Rattle.sb_machine.specs.declared.change.Change.{Change}
use Rattle.sb_machine.specs.declared.state.Entity.{Entity}
use Rattle.sb_machine.specs.declared.state.Leaf.{Leaf}
use Rattle.sb_machine.specs.declared.state.Listed.{Listed}
use Rattle.sb_machine.specs.declared.state.Space.{Space}
use Rattle.sb_fanout.specs.Lasts.{is_listed}
use Rattle.sb_fanout.specs.Laws.{are_there, staying, CountsAs, VisitsCount}
use Rattle.sb_fanout.proofs.Places.{Raises, in_leaf, one_changed, abouts_kept, about_kept}
use Rattle.sb_fanout.proofs.Standing.{landing_raises}
use Rattle.sb_fanout.proofs.There.{both}

sum_head : {X : Type 0} (f : X → ℕ) (x : X) (xs : List X) → sum_by f (x ∷ xs) ≡ f x + sum_by f xs
sum_head f x xs = grind (arith, common_steps)

-- a sum over entities, of which one rises by d
sum_changed : (h : Entity → ℕ) (d n : ℕ) (f : Entity → Entity) → ((e : Entity) → h (f e) ≡ h e + d) → (es : List Entity) → is_listed n (map (λ e. e.about) es) ≡ true → sum_by h (one_changed n f es) ≡ sum_by h es + d
sum_changed h d n f rises [] there = absurd cc
sum_changed h d n f rises (e ∷ es) there = go (is_entity n e) refl (sum_changed h d n f rises es)
  where
    go : (b : Bool) → is_entity n e ≡ b → (is_listed n (map (λ x. x.about) es) ≡ true → sum_by h (one_changed n f es) ≡ sum_by h es + d) → sum_by h (cond b (f e ∷ es) (e ∷ one_changed n f es)) ≡ sum_by h (e ∷ es) + d
    go true is rest =
        let left : sum_by h (f e ∷ es) ≡ h (f e) + sum_by h es = sum_head h (f e) es in
        let right : sum_by h (e ∷ es) ≡ h e + sum_by h es = sum_head h e es in
        let one : h (f e) ≡ h e + d = rises e in
        omega arith
    go false is rest =
        let behind : is_listed n (map (λ x. x.about) es) ≡ true = sym (ap (λ (b : Bool). b || is_listed n (map (λ (x : Entity). x.about) es)) is) ∙ there in
        let left : sum_by h (e ∷ one_changed n f es) ≡ h e + sum_by h (one_changed n f es) = sum_head h e (one_changed n f es) in
        let right : sum_by h (e ∷ es) ≡ h e + sum_by h es = sum_head h e es in
        let later : sum_by h (one_changed n f es) ≡ sum_by h es + d = rest behind in
        omega arith

made_rises : (part : Part) (g : Leaf → Leaf) (e : Entity) → Raises g → made_in (in_leaf part g e) ≡ made_in e + 1
made_rises Main g e raises = let one : (g e.main).last ≡ e.main.last + 1 = raises e.main in omega arith
made_rises Dead g e raises = let one : (g e.dead).last ≡ e.dead.last + 1 = raises e.dead in omega arith
made_rises Transfer g e raises = let one : (g e.transfer).last ≡ e.transfer.last + 1 = raises e.transfer in omega arith

abbrev Grows : ℕ → (Leaf → Leaf) → Type 0
Grows d g = (leaf : Leaf) → length (g leaf).copies ≡ length leaf.copies + d

live_rises : (part : Part) (d : ℕ) (g : Leaf → Leaf) (e : Entity) → Grows d g → live_in (in_leaf part g e) ≡ live_in e + d
live_rises Main d g e grows = let more : length (g e.main).copies ≡ length e.main.copies + d = grows e.main in omega arith
live_rises Dead d g e grows = let more : length (g e.dead).copies ≡ length e.dead.copies + d = grows e.dead in omega arith
live_rises Transfer d g e grows = let more : length (g e.transfer).copies ≡ length e.transfer.copies + d = grows e.transfer in omega arith

abbrev lot_stays : Lot → ℕ
lot_stays lot = elim lot [ stays hops m ↦ 1 | ends cause ↦ 0 ]

landing_grows : (lock t : ℕ) (seq : Option ℕ) (lot : Lot) → Grows (lot_stays lot) (leaf_after lock t (landing seq lot))
landing_grows lock t seq (stays hops m) leaf = length-append leaf.copies _
landing_grows lock t seq (ends cause) leaf = omega arith

abbrev change_at : Space → ℕ → Option ℕ → Visit → Leaf → Leaf
change_at s t seq v leaf = leaf_after (s.last_lock + 1) t (landing seq v.lot) leaf

listed_kept : (t : ℕ) (seq : Option ℕ) (v : Visit) (s : Space) → listed (after t (visit_change seq v) s) ≡ listed s
listed_kept t seq v s = abouts_kept v.entity (in_leaf v.part (change_at s t seq v)) (λ e. about_kept v.part (change_at s t seq v (leaf_of v.part e)) e) s.entities

one_made : (t : ℕ) (seq : Option ℕ) (v : Visit) (s : Space) → is_listed v.entity (listed s) ≡ true → made (after t (visit_change seq v) s) ≡ made s + 1
one_made t seq v s there =
    let sum : sum_by made_in (one_changed v.entity (in_leaf v.part (change_at s t seq v)) s.entities) ≡ sum_by made_in s.entities + 1 = sum_changed made_in 1 v.entity (in_leaf v.part (change_at s t seq v)) (λ e. made_rises v.part (change_at s t seq v) e (landing_raises (s.last_lock + 1) t seq v.lot)) s.entities there in
    omega arith

one_lives : (t : ℕ) (seq : Option ℕ) (v : Visit) (s : Space) → is_listed v.entity (listed s) ≡ true → live (after t (visit_change seq v) s) ≡ live s + staying v
one_lives t seq v s there = sum_changed live_in (staying v) v.entity (in_leaf v.part (change_at s t seq v)) (λ e. live_rises v.part (staying v) (change_at s t seq v) e (landing_grows (s.last_lock + 1) t seq v.lot)) s.entities there

one_number : (seq : Option ℕ) (v : Visit) → numbers_in (visit_change seq v) ≡ 1
one_number seq v = go v.lot
  where
    go : (lot : Lot) → Rattle.sb_machine.specs.Leaves.copies_given (landing seq lot) ≡ 1
    go (stays hops m) = refl
    go (ends cause) = refl

-- one visit before others that count so
more : (t : ℕ) (seq : Option ℕ) (v : Visit) (vs : List Visit) (cs : List Change) (s : Space) → is_listed v.entity (listed s) ≡ true → CountsAs t vs cs (after t (visit_change seq v) s) → CountsAs t (v ∷ vs) (visit_change seq v ∷ cs) s
more t seq v vs cs s there rest = record {
  numbers = numbers;
  made_then = made_then;
  live_then = live_then;
}
  where
    numbers : numbers_given (visit_change seq v ∷ cs) ≡ length (v ∷ vs)
    numbers =
        let head : numbers_given (visit_change seq v ∷ cs) ≡ numbers_in (visit_change seq v) + numbers_given cs = sum_head numbers_in (visit_change seq v) cs in
        let one : numbers_in (visit_change seq v) ≡ 1 = one_number seq v in
        let others : numbers_given cs ≡ length vs = rest.numbers in
        omega arith

    made_then : made (after_all t cs (after t (visit_change seq v) s)) ≡ made s + length (v ∷ vs)
    made_then =
        let one : made (after t (visit_change seq v) s) ≡ made s + 1 = one_made t seq v s there in
        let others : made (after_all t cs (after t (visit_change seq v) s)) ≡ made (after t (visit_change seq v) s) + length vs = rest.made_then in
        omega arith

    live_then : live (after_all t cs (after t (visit_change seq v) s)) ≡ live s + sum_by staying (v ∷ vs)
    live_then =
        let one : live (after t (visit_change seq v) s) ≡ live s + staying v = one_lives t seq v s there in
        let others : live (after_all t cs (after t (visit_change seq v) s)) ≡ live (after t (visit_change seq v) s) + sum_by staying vs = rest.live_then in
        let head : sum_by staying (v ∷ vs) ≡ staying v + sum_by staying vs = sum_head staying v vs in
        omega arith

none : (t : ℕ) (s : Space) → CountsAs t [] [] s
none t s = record { numbers = refl; made_then = omega arith; live_then = omega arith }

carried_counts : (t seq : ℕ) (vs : List Visit) (s : Space) → are_there (listed s) vs ≡ true → CountsAs t vs (carried seq vs) s
carried_counts t seq [] s there = none t s
carried_counts t seq (v ∷ vs) s there =
    let its = both (is_listed v.entity (listed s)) (are_there (listed s) vs) there in
    more t (Some seq) v vs (carried seq vs) s its.0 (carried_counts t seq vs (after t (visit_change (Some seq) v) s) (ap (λ (es : List Listed). are_there es vs) (listed_kept t (Some seq) v s) ∙ its.1))

delivered_counts : (t : ℕ) (seq : Option ℕ) (vs : List Visit) (s : Space) → are_there (listed s) vs ≡ true → CountsAs t vs (delivered seq vs s) s
delivered_counts t seq [] s there = none t s
delivered_counts t seq (v ∷ vs) s there =
    let its = both (is_listed v.entity (listed s)) (are_there (listed s) vs) there in
    let later : ℕ = seq_or seq (last_at (visit_key v) s + 1) in
    more t seq v vs (carried (seq_or seq (last_at (visit_key v) s + 1)) vs) s its.0 (carried_counts t (seq_or seq (last_at (visit_key v) s + 1)) vs (after t (visit_change seq v) s) (ap (λ (es : List Listed). are_there es vs) (listed_kept t seq v s) ∙ its.1))

pub visits_count : VisitsCount
visits_count = record { delivering = delivered_counts; carrying = carried_counts }
