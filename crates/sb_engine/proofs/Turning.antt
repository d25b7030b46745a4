-- A plan that grows in turn, by what depends on what it leads to.
use Rattle.std.proofs.Common.{List, [], ap, false, get_or, length, subst, sym, take, true, ℕ, ◌+◌, ◌++◌, ◌<◌, ◌≤◌, ◌∙◌, ◌∷◌, ◌≡◌, map, None, refl, arith}
use Rattle.std.proofs.lemmas.List.{append_assoc, append-nil, append_cancel_left, map-append, take_all, take_more}
use Rattle.sb_machine.specs.Changes.{after as after_one, after_all, in_turn}
use Rattle.sb_machine.specs.Delivery.{delivered, in_part}
use Rattle.sb_machine.specs.Due.{Item, activated}
use Rattle.sb_machine.specs.Namespace.{last_at, listed}
use Rattle.sb_machine.specs.Visits.{Visit, visits}
use Rattle.sb_machine.specs.declared.change.Cause.TheVariants.{Activated}
use Rattle.sb_machine.specs.declared.change.Change.{Change}
use Rattle.sb_machine.specs.declared.change.LeafChange.TheVariants.{Ends}
use Rattle.sb_machine.specs.declared.state.Listed.{Listed}
use Rattle.sb_machine.specs.declared.state.Space.{Space}
use Rattle.sb_fanout.specs.Deliveries.{IsDelivered}
use Rattle.sb_fanout.specs.Lasts.{Given, is_listed, none_given}
use Rattle.sb_engine.specs.Growing.{IsGrown, Stands}
use Rattle.sb_engine.specs.Sweeps.{IsTurned}
use Rattle.sb_engine.proofs.Growing.{after_both}

pub turned_as : (s : Space) (t : ℕ) (f g : Space → List Change) (before after : Given) (old new : List Change) → ((now : Space) → f now ≡ g now) → IsTurned s t f before after old new → IsTurned s t g before after old new
turned_as s t f g before after old new same is = record {
  changes = λ now stands. is.changes now stands ∙ ap (λ (cs : List Change). old ++ cs) (same now);
  stands = λ now stands. subst (λ (cs : List Change). Stands s after (after_all t cs now)) (same now) (is.stands now stands);
}

turned_none : (s : Space) (t : ℕ) (given : Given) (old : List Change) → IsTurned s t (λ now. []) given given old old
turned_none s t given old = record { changes = λ now stands. sym (append-nil old); stands = λ now stands. stands }

turned_both : (s : Space) (t : ℕ) (f g : Space → List Change) (before between after : Given) (old mid new : List Change) → IsTurned s t f before between old mid → IsTurned s t g between after mid new
    → IsTurned s t (λ now. f now ++ g (after_all t (f now) now)) before after old new
turned_both s t f g before between after old mid new one two = record {
  changes = λ now stands. two.changes (after_all t (f now) now) (one.stands now stands) ∙ ap (λ (cs : List Change). cs ++ g (after_all t (f now) now)) (one.changes now stands) ∙ append_assoc old (f now) (g (after_all t (f now) now));
  stands = λ now stands. subst (λ (n : Space). Stands s after n) (sym (after_both t (f now) (g (after_all t (f now) now)) now)) (two.stands (after_all t (f now) now) (one.stands now stands));
}

-- ---- items one after another

in_turn_both : {Y : Type 0} (f : Y → Space → List Change) (t : ℕ) (xs ys : List Y) (s : Space) → in_turn f t (xs ++ ys) s ≡ in_turn f t xs s ++ in_turn f t ys (after_all t (in_turn f t xs s) s)
in_turn_both f t [] ys s = refl
in_turn_both f t (x ∷ xs) ys s =
    ap (λ (cs : List Change). f x s ++ cs) (in_turn_both f t xs ys (after_all t (f x s) s))
    ∙ sym (append_assoc (f x s) (in_turn f t xs (after_all t (f x s) s)) (in_turn f t ys (after_all t (in_turn f t xs (after_all t (f x s) s)) (after_all t (f x s) s))))
    ∙ ap (λ (n : Space). (f x s ++ in_turn f t xs (after_all t (f x s) s)) ++ in_turn f t ys n) (sym (after_both t (f x s) (in_turn f t xs (after_all t (f x s) s)) s))

module _ {X Y : Type 0} where
  -- as they are read off rows
  turn_more : (g : X → Y) (f : Y → Space → List Change) (t : ℕ) (xs : List X) (i : ℕ) (x : X) → i < length xs → x ≡ get_or xs i x → (now : Space)
      → in_turn f t (map g (take i xs)) now ++ f (g x) (after_all t (in_turn f t (map g (take i xs)) now) now) ≡ in_turn f t (map g (take (i + 1) xs)) now
  turn_more g f t xs i x within here now =
      sym (
      ap (λ (l : List X). in_turn f t (map g l) now) (take_more xs i x within)
      ∙ ap (λ (y : X). in_turn f t (map g (take i xs ++ y ∷ [])) now) (sym here)
      ∙ ap (λ (l : List Y). in_turn f t l now) (map-append g (take i xs) (x ∷ []))
      ∙ in_turn_both f t (map g (take i xs)) (g x ∷ []) now
      ∙ ap (λ (cs : List Change). in_turn f t (map g (take i xs)) now ++ cs) (append-nil (f (g x) (after_all t (in_turn f t (map g (take i xs)) now) now))))

  pub turned_first : (s : Space) (t : ℕ) (g : X → Y) (f : Y → Space → List Change) (xs : List X) (given : Given) (old : List Change) → IsTurned s t (in_turn f t (map g (take 0 xs))) given given old old
  turned_first s t g f xs given old = turned_none s t given old

  pub turned_next : (s : Space) (t : ℕ) (g : X → Y) (f : Y → Space → List Change) (xs : List X) (i : ℕ) (x : X) (before between after : Given) (old mid new : List Change) → i < length xs → x ≡ get_or xs i x
      → IsTurned s t (in_turn f t (map g (take i xs))) before between old mid → IsTurned s t (f (g x)) between after mid new → IsTurned s t (in_turn f t (map g (take (i + 1) xs))) before after old new
  turned_next s t g f xs i x before between after old mid new within here so_far next =
      turned_as s t (λ now. in_turn f t (map g (take i xs)) now ++ f (g x) (after_all t (in_turn f t (map g (take i xs)) now) now)) (in_turn f t (map g (take (i + 1) xs))) before after old new
      (λ now. turn_more g f t xs i x within here now)
      (turned_both s t (in_turn f t (map g (take i xs))) (f (g x)) before between after old mid new so_far next)

  pub turned_all : (s : Space) (t : ℕ) (g : X → Y) (f : Y → Space → List Change) (xs : List X) (i : ℕ) (before after : Given) (old new : List Change) → length xs ≤ i → IsTurned s t (in_turn f t (map g (take i xs))) before after old new → IsTurned s t (in_turn f t (map g xs)) before after old new
  turned_all s t g f xs i before after old new past so_far = subst (λ (l : List X). IsTurned s t (in_turn f t (map g l)) before after old new) (take_all i xs past) so_far

-- ---- a scheduled copy enters

pub turned_activated : (s : Space) (t : ℕ) (i : Item) (about : Listed) (before after : Given) (old mid new : List Change) → about ≡ i.entity.about → is_listed i.entity.about.number (listed s) ≡ true
    → IsGrown s (in_part i.part i.entity (Ends i.copy.number false Activated) ∷ []) before before old mid
    → IsDelivered (listed s) (λ key. last_at key s) before about (visits (listed s) 0 about i.copy.message) after mid new
    → IsTurned s t (activated i) before after old new
turned_activated s t i about before after old mid new same there ended given = record {
  changes = λ now stands.
      enters.changes now stands there
      ∙ ap (λ (cs : List Change). cs ++ delivered None to now) ended.changes
      ∙ append_assoc old (ends ∷ []) (delivered None to now)
      ∙ ap (λ (es : List Listed). old ++ ends ∷ delivered None (visits es 0 i.entity.about i.copy.message) now) (sym stands.entities);
  stands = λ now stands.
      subst (λ (es : List Listed). Stands s after (after_all t (delivered None (visits es 0 i.entity.about i.copy.message) now) (after_one t ends now))) (sym stands.entities)
      (subst (λ (cs : List Change). Stands s after (after_all t cs (after_one t ends now))) (alike now stands) (enters.stands (after_one t ends now) t (ended.stands t now stands)));
} where
  ends : Change
  ends = in_part i.part i.entity (Ends i.copy.number false Activated)

  to : List Visit
  to = visits (listed s) 0 i.entity.about i.copy.message

  enters : IsDelivered (listed s) (λ key. last_at key s) before i.entity.about to after mid new
  enters = subst (λ (a : Listed). IsDelivered (listed s) (λ key. last_at key s) before a (visits (listed s) 0 a i.copy.message) after mid new) same given

  -- the number that it takes is the same behind the end of the one that it had
  alike : (now : Space) → Stands s before now → delivered None to (after_one t ends now) ≡ delivered None to now
  alike now stands = append_cancel_left mid (delivered None to (after_one t ends now)) (delivered None to now) (sym (enters.changes (after_one t ends now) (ended.stands t now stands) there) ∙ enters.changes now stands there)

-- ---- behind what the first sweeps free

pub woken_behind : (s : Space) (t : ℕ) (cs : List Change) (f : Space → List Change) (before between after : Given) (old mid new : List Change) → before ≡ none_given → IsGrown s cs before between old mid → IsTurned s t f between after mid new → new ≡ old ++ (cs ++ f (after_all t cs s))
woken_behind s t cs f before between after old mid new first freed turned =
    turned.changes (after_all t cs s) (freed.stands t s at_first) ∙ ap (λ (l : List Change). l ++ f (after_all t cs s)) freed.changes ∙ append_assoc old cs (f (after_all t cs s))
  where
    at_first : Stands s before s
    at_first = subst (λ (g : Given). Stands s g s) (sym first) (record { entities = refl; lasts = λ key there. omega arith })
