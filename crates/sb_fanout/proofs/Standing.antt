-- What visits change, and that the numbers given stand for what they leave.
use Rattle.std.proofs.Common.{◌≡◌, ℕ, ◌+◌, Bool, true, false, cond, List, [], ◌∷◌, ◌++◌, Option, Some, None, refl, ap, sym, ◌∙◌, arith}
use Rattle.std.specs.List.{fold}
use Rattle.std.proofs.lemmas.List.{append_assoc, append-nil}
use Rattle.sb_machine.specs.Changes.{after, after_all}
use Rattle.sb_machine.specs.Delivery.{visit_change, visit_key, landing, delivered, carried}
use Rattle.sb_machine.specs.Leaves.{leaf_after}
use Rattle.sb_machine.specs.Namespace.{leaf_of, last_at}
use Rattle.sb_machine.specs.Visits.{Visit, Lot, stays, ends}
use Rattle.sb_machine.specs.declared.change.Change.{Change}
use Rattle.sb_machine.specs.declared.change.Change.TheVariants.{InLeaf}
use Rattle.sb_machine.specs.declared.change.LeafChange.{LeafChange}
use Rattle.sb_machine.specs.declared.change.LeafKey.{LeafKey}
use Rattle.sb_machine.specs.declared.state.Listed.{Listed}
use Rattle.sb_machine.specs.declared.state.Space.{Space}
use Rattle.sb_fanout.specs.Lasts.{Given, raised, is_key, is_listed, StandsFor}
use Rattle.sb_fanout.specs.Tallies.{Told, visited, all_visited}
use Rattle.sb_fanout.proofs.Places.{Raises, in_leaf, abouts_kept, about_kept, last_raised}

-- ---- the changes

abbrev pub begun : Given → Option ℕ → List Change → Told
begun given seq cs = record { given = given; seq = seq; changes = cs }

pub carried_by : (last given : Given) (seq : ℕ) (cs : List Change) (vs : List Visit) → (all_visited last (begun given (Some seq) cs) vs).changes ≡ cs ++ carried seq vs
carried_by last given seq cs [] = sym (append-nil cs)
carried_by last given seq cs (v ∷ vs) = carried_by last (raised (visit_key v) given) seq (cs ++ visit_change (Some seq) v ∷ []) vs ∙ append_assoc cs (visit_change (Some seq) v ∷ []) (carried seq vs)

pub delivered_by : (last given : Given) (cs : List Change) (v : Visit) (vs : List Visit) (s : Space) → last_at (visit_key v) s ≡ last (visit_key v) + given (visit_key v) → (all_visited last (begun given None cs) (v ∷ vs)).changes ≡ cs ++ delivered None (v ∷ vs) s
delivered_by last given cs v vs s is =
    let seq : ℕ = last (visit_key v) + given (visit_key v) + 1 in
    carried_by last (raised (visit_key v) given) (last (visit_key v) + given (visit_key v) + 1) (cs ++ visit_change None v ∷ []) vs
    ∙ append_assoc cs (visit_change None v ∷ []) (carried (last (visit_key v) + given (visit_key v) + 1) vs)
    ∙ ap (λ (n : ℕ). cs ++ visit_change None v ∷ carried (n + 1) vs) (sym is)

-- ---- the numbers

abbrev pub given_after : Given → List Visit → Given
given_after given vs = fold (λ g v. raised (visit_key v) g) given vs

pub given_by : (last : Given) (y : Told) (vs : List Visit) → (all_visited last y vs).given ≡ given_after y.given vs
given_by last y [] = refl
given_by last y (v ∷ vs) = given_by last (visited last y v) vs

pub landing_raises : (lock t : ℕ) (seq : Option ℕ) (lot : Lot) → Raises (leaf_after lock t (landing seq lot))
landing_raises lock t seq (stays hops m) leaf = refl
landing_raises lock t seq (ends cause) leaf = refl

pub stands_raised : (es : List Listed) (last given : Given) (t : ℕ) (key : LeafKey) (c : LeafChange) (s : Space) → Raises (leaf_after (s.last_lock + 1) t c) → StandsFor es last given s → StandsFor es last (raised key given) (after t (InLeaf key c) s)
stands_raised es last given t key c s raises stands = record {
  entities = abouts_kept key.entity (in_leaf key.part (leaf_after (s.last_lock + 1) t c)) (λ e. about_kept key.part (leaf_after (s.last_lock + 1) t c (leaf_of key.part e)) e) s.entities ∙ stands.entities;
  lasts = λ k there. last_raised key (leaf_after (s.last_lock + 1) t c) raises k s.entities (ap (is_listed k.entity) stands.entities ∙ there) ∙ go k (is_key key k) (stands.lasts k there);
}
  where
    go : (k : LeafKey) (b : Bool) → last_at k s ≡ last k + given k → cond b (last_at k s + 1) (last_at k s) ≡ last k + cond b (given k + 1) (given k)
    go k true is = omega arith
    go k false is = is

stands_after : (es : List Listed) (last given : Given) (t : ℕ) (seq : Option ℕ) (v : Visit) (s : Space) → StandsFor es last given s → StandsFor es last (raised (visit_key v) given) (after t (visit_change seq v) s)
stands_after es last given t seq v s stands = stands_raised es last given t (visit_key v) (landing seq v.lot) s (landing_raises (s.last_lock + 1) t seq v.lot) stands

pub carried_stands : (es : List Listed) (last given : Given) (t seq : ℕ) (vs : List Visit) (s : Space) → StandsFor es last given s → StandsFor es last (given_after given vs) (after_all t (carried seq vs) s)
carried_stands es last given t seq [] s stands = stands
carried_stands es last given t seq (v ∷ vs) s stands = carried_stands es last (raised (visit_key v) given) t seq vs (after t (visit_change (Some seq) v) s) (stands_after es last given t (Some seq) v s stands)

pub delivered_stands : (es : List Listed) (last given : Given) (t : ℕ) (vs : List Visit) (s : Space) → StandsFor es last given s → StandsFor es last (given_after given vs) (after_all t (delivered None vs s) s)
delivered_stands es last given t [] s stands = stands
delivered_stands es last given t (v ∷ vs) s stands = carried_stands es last (raised (visit_key v) given) t (last_at (visit_key v) s + 1) vs (after t (visit_change None v) s) (stands_after es last given t None v s stands)
