-- Who holds a session, as one is opened, closed, prolonged or written.
use Rattle.std.proofs.Common.{◌≡◌, ℕ, List, [], ◌∷◌, find, ◌==◌, ◌||◌, bytes_eq, if◌then◌else◌, Bool, true, false, Option, Some, None, refl, sym, ap, ◌∙◌, subst}
use Rattle.std.specs.Prelude.{is_none, is_some}
use Rattle.std.specs.List.{list_any}
use Rattle.std.specs.Option.{option_and_then, option_map, option_map_or}
use Rattle.std.proofs.lemmas.Slice.Eq.{bytes_eq-Decides}
use Rattle.sb_machine.specs.Keyed.{changed, with_sorted}
use Rattle.sb_machine.specs.Leaves.{has_id, holder_new, is_held_under, opened, prolonged_holder, remembered, taken}
use Rattle.sb_machine.specs.Names.{is_before}
use Rattle.sb_machine.specs.declared.state.Holder.{Holder}
use Rattle.sb_machine.specs.declared.state.Session.{Session}
use Rattle.sb_machine.specs.declared.state.StoredCopy.{StoredCopy}
use Rattle.sb_machine.proofs.Places.{changed_alike, found_passes}
use Rattle.sb_sessions.specs.Sessions.{seating}
use Rattle.sb_copies.specs.Dues.{never}
use Rattle.sb_copies.specs.Heads.{is_among}
use Rattle.sb_copies.specs.Shelf.{AreBelow, AreInOrder}
use Rattle.sb_entities.specs.Heads.{first_of, head_of, held_id, HoldsHeads, is_free, IsTold, left_of, session_at}
use Rattle.sb_entities.proofs.Firsts.{none_changed, other_changed, other_sorted, own_changed, own_sorted, seen_changed}
use Rattle.sb_entities.proofs.Leading.{first_session, heads_stay, holding, holds_told, HoldsOthers, lacking, LacksHead, others_left}

-- ---- as it is seen

abbrev open_so : Option Bool → Bool
open_so None = true
open_so (Some b) = b

free_by : (id : List ℕ) (ss : List Session) → is_free id ss ≡ open_so (option_map (λ x. is_none x.holder) (find (has_id id) ss))
free_by id ss = at (find (has_id id) ss) where
  at : (o : Option Session) → option_map_or (λ x. is_none x.holder) o true ≡ open_so (option_map (λ x. is_none x.holder) o)
  at None = refl
  at (Some x) = refl

free_found : (id : List ℕ) (ss later : List Session) → find (has_id id) later ≡ find (has_id id) ss → is_free id later ≡ is_free id ss
free_found id ss later same = ap (λ (o : Option Session). option_map_or (λ x. is_none x.holder) o true) same

pub head_by : (id : List ℕ) (cs : List StoredCopy) (ss later : List Session) → is_free id later ≡ is_free id ss → head_of id cs later ≡ head_of id cs ss
head_by id cs ss later same = ap (λ b. if b then first_of id cs else None) same

other_text : (a b c : List ℕ) → bytes_eq a b ≡ true → (b ≡ c → ⊥) → bytes_eq a c ≡ false
other_text a b c same other = at (bytes_eq a c) refl where
  at : (t : Bool) → bytes_eq a c ≡ t → bytes_eq a c ≡ false
  at true e = absurd (other (sym ((bytes_eq-Decides a b).0 same) ∙ (bytes_eq-Decides a c).0 e))
  at false e = e

no_more : (t : Bool) → t ≡ false → (t || false) ≡ false
no_more t e = ap (λ b. b || false) e

-- ---- opened

opened_other : (lock : ℕ) (id own : List ℕ) (until : ℕ) (ss : List Session) → (id ≡ own → ⊥) → find (has_id own) (opened lock id until (seating ss)) ≡ find (has_id own) ss
opened_other lock id own until ss other = at (find (has_id id) ss) refl where
  at : (o : Option Session) → find (has_id id) ss ≡ o → find (has_id own) (elim o [
    | Some x ↦ changed (has_id id) (λ y. taken lock until y ∷ []) ss
    | None ↦ with_sorted (λ y. is_before y.id id) (record { id = id; state = None; holder = Some (holder_new lock until) }) ss
  ]) ≡ find (has_id own) ss
  at (Some x) e = other_changed (has_id id) (has_id own) (λ y. taken lock until y ∷ []) ss (λ y found.
      let fails = other_text y.id id own (found_passes (has_id id) ss y found) other in
      (fails, no_more (bytes_eq y.id own) fails))
  at None e = other_sorted (λ y. is_before y.id id) (has_id own) (record { id = id; state = None; holder = Some (holder_new lock until) }) ss (other_text id id own ((bytes_eq-Decides id id).1 refl) other)

taken_held : (lock until : ℕ) (x : Session) → is_none (taken lock until x).holder ≡ false
taken_held lock until x = at x.holder where
  at : (o : Option Holder) → is_none (elim o [ Some h ↦ Some h | None ↦ Some (holder_new lock until) ]) ≡ false
  at (Some h) = refl
  at None = refl

opened_held : (lock : ℕ) (id : List ℕ) (until : ℕ) (ss : List Session) → is_free id (opened lock id until (seating ss)) ≡ false
opened_held lock id until ss = at (find (has_id id) ss) refl where
  seen : (x : Session) (l : List Session) → find (has_id id) l ≡ Some x → is_none x.holder ≡ false → is_free id l ≡ false
  seen x l found held = ap (λ (o : Option Session). option_map_or (λ y. is_none y.holder) o true) found ∙ held

  at : (o : Option Session) → find (has_id id) ss ≡ o → is_free id (elim o [
    | Some x ↦ changed (has_id id) (λ y. taken lock until y ∷ []) ss
    | None ↦ with_sorted (λ y. is_before y.id id) (record { id = id; state = None; holder = Some (holder_new lock until) }) ss
  ]) ≡ false
  at (Some x) e = seen (taken lock until x) (changed (has_id id) (λ y. taken lock until y ∷ []) ss) (own_changed (has_id id) (taken lock until) x ss e (found_passes (has_id id) ss x e)) (taken_held lock until x)
  at None e = seen (record { id = id; state = None; holder = Some (holder_new lock until) }) (with_sorted (λ y. is_before y.id id) (record { id = id; state = None; holder = Some (holder_new lock until) }) ss) (own_sorted (λ y. is_before y.id id) (has_id id) (record { id = id; state = None; holder = Some (holder_new lock until) }) ss e ((bytes_eq-Decides id id).1 refl)) refl

pub heads_opened : (lock : ℕ) (id : List ℕ) (until : ℕ) (hs : List ℕ) (cs : List StoredCopy) (ss later : List Session) → HoldsOthers (Some id) hs cs ss → later ≡ opened lock id until (seating ss) → LacksHead None hs cs later
heads_opened lock id until hs cs ss later holds is = record {
  told = λ own n any head. by own n head (bytes_eq id own) refl;
  only = λ n there. let it = holds.only n there in (it.0, stays it.0 (λ e. it.1 (ap (λ z. Some z) e)) ∙ it.2);
} where
  stays : (own : List ℕ) → (id ≡ own → ⊥) → head_of own cs later ≡ head_of own cs ss
  stays own other = head_by own cs ss later (free_found own ss later (ap (λ (l : List Session). find (has_id own) l) is ∙ opened_other lock id own until ss other))

  none : head_of id cs later ≡ None
  none = ap (λ b. if b then first_of id cs else None) (ap (λ (l : List Session). is_free id l) is ∙ opened_held lock id until ss)

  by : (own : List ℕ) (n : ℕ) → head_of own cs later ≡ Some n → (t : Bool) → bytes_eq id own ≡ t → is_among n hs ≡ true
  by own n head true f = absurd (let bad : None ≡ Some n = sym none ∙ ap (λ z. head_of z cs later) ((bytes_eq-Decides id own).0 f) ∙ head in cc)
  by own n head false f =
      let other : id ≡ own → ⊥ = λ e. let bad : false ≡ true = sym f ∙ (bytes_eq-Decides id own).1 e in absurd cc in
      holds.told own n (λ e. other (let same : id ≡ own = cc in same)) (sym (stays own other) ∙ head)

-- ---- closed

out_of : (own : List ℕ) (x : Session) → bytes_eq x.id own ≡ false → list_any (has_id own) (remembered (record x { holder = None })) ≡ false
out_of own x fails = at (is_some x.state) where
  at : (b : Bool) → list_any (has_id own) (if b then record x { holder = None } ∷ [] else []) ≡ false
  at true = no_more (bytes_eq x.id own) fails
  at false = refl

closed_other : (lock : ℕ) (own : List ℕ) (ss : List Session) → (held_id lock ss ≡ Some own → ⊥) → find (has_id own) (changed (is_held_under lock) (λ x. remembered (record x { holder = None })) ss) ≡ find (has_id own) ss
closed_other lock own ss other = other_changed (is_held_under lock) (has_id own) (λ x. remembered (record x { holder = None })) ss (λ x found.
    let fails = other_text x.id x.id own ((bytes_eq-Decides x.id x.id).1 refl) (λ e. other (ap (λ (o : Option Session). option_map (λ y. y.id) o) found ∙ ap (λ z. Some z) e)) in
    (fails, out_of own x fails))

pub lacks_closed : (lock : ℕ) (hs : List ℕ) (cs : List StoredCopy) (ss later : List Session) → HoldsOthers (held_id lock ss) hs cs ss → later ≡ changed (is_held_under lock) (λ x. remembered (record x { holder = None })) ss → LacksHead (held_id lock ss) hs cs later
lacks_closed lock hs cs ss later holds is = record {
  told = λ own n other head. holds.told own n other (sym (stays own other) ∙ head);
  only = λ n there. let it = holds.only n there in (it.0, stays it.0 it.1 ∙ it.2);
} where
  stays : (own : List ℕ) → (held_id lock ss ≡ Some own → ⊥) → head_of own cs later ≡ head_of own cs ss
  stays own other = head_by own cs ss later (free_found own ss later (ap (λ (l : List Session). find (has_id own) l) is ∙ closed_other lock own ss other))

-- the head that is told then, by the number that was the first before
pub again : (o : Option (List ℕ)) (k : Option ℕ) (cs : List StoredCopy) (ss : List Session) → AreInOrder cs → k ≡ option_and_then (λ id. first_of id cs) o → option_and_then (λ n. option_and_then (λ id. head_of id cs ss) (session_at n cs)) k ≡ option_and_then (λ id. head_of id cs ss) o
again None k cs ss s first = ap (λ (z : Option ℕ). option_and_then (λ n. option_and_then (λ id. head_of id cs ss) (session_at n cs)) z) first
again (Some id) k cs ss s first = at (first_of id cs) refl where
  at : (f : Option ℕ) → first_of id cs ≡ f → option_and_then (λ n. option_and_then (λ own. head_of own cs ss) (session_at n cs)) k ≡ head_of id cs ss
  at None e = ap (λ (z : Option ℕ). option_and_then (λ n. option_and_then (λ own. head_of own cs ss) (session_at n cs)) z) (first ∙ e) ∙ sym (ap (λ (z : Option ℕ). if is_free id ss then z else None) e ∙ none (is_free id ss)) where
    none : (b : Bool) → ◌≡◌ {A = Option ℕ} (if b then None else None) None
    none true = refl
    none false = refl
  at (Some n) e =
      ap (λ (z : Option ℕ). option_and_then (λ m. option_and_then (λ own. head_of own cs ss) (session_at m cs)) z) (first ∙ e)
      ∙ ap (λ (z : Option (List ℕ)). option_and_then (λ own. head_of own cs ss) z) (first_session id n cs s e)

-- ---- held for longer, or with another state

pub free_prolonged : (lock until : ℕ) (id : List ℕ) (ss later : List Session) → later ≡ changed (is_held_under lock) (λ x. record x { holder = prolonged_holder until x.holder } ∷ []) ss → is_free id later ≡ is_free id ss
free_prolonged lock until id ss later is =
    ap (λ (l : List Session). is_free id l) is
    ∙ free_by id (changed (is_held_under lock) (λ x. record x { holder = prolonged_holder until x.holder } ∷ []) ss)
    ∙ ap (λ (o : Option Bool). open_so o) (seen_changed (λ x. is_none x.holder) (is_held_under lock) (has_id id) (λ x. record x { holder = prolonged_holder until x.holder }) (λ x. refl) (λ x. same x.holder) ss)
    ∙ sym (free_by id ss) where
      same : (o : Option Holder) → is_none (prolonged_holder until o) ≡ is_none o
      same None = refl
      same (Some h) = refl

pub free_written : (lock : ℕ) (state : Option (List ℕ)) (id : List ℕ) (ss later : List Session) → later ≡ changed (is_held_under lock) (λ x. remembered (record x { state = state })) ss → is_free id later ≡ is_free id ss
free_written lock state id ss later is = ap (λ (l : List Session). is_free id l) (is ∙ stays (find (is_held_under lock) ss) refl)
    ∙ free_by id (changed (is_held_under lock) (λ x. record x { state = state } ∷ []) ss)
    ∙ ap (λ (o : Option Bool). open_so o) (seen_changed (λ x. is_none x.holder) (is_held_under lock) (has_id id) (λ x. record x { state = state }) (λ x. refl) (λ x. refl) ss)
    ∙ sym (free_by id ss) where
      held : (x : Session) → is_held_under lock x ≡ true → remembered (record x { state = state }) ≡ record x { state = state } ∷ []
      held x e = at x.holder refl e where
        at : (o : Option Holder) → x.holder ≡ o → (elim o [ Some h ↦ h.lock == lock | None ↦ false ]) ≡ true → remembered (record x { state = state }) ≡ record x { state = state } ∷ []
        at None f g = absurd (let bad : false ≡ true = g in cc)
        at (Some h) f g = rw f refl

      stays : (o : Option Session) → find (is_held_under lock) ss ≡ o → changed (is_held_under lock) (λ x. remembered (record x { state = state })) ss ≡ changed (is_held_under lock) (λ x. record x { state = state } ∷ []) ss
      stays None e = none_changed (is_held_under lock) (λ x. remembered (record x { state = state })) ss e ∙ sym (none_changed (is_held_under lock) (λ x. record x { state = state } ∷ []) ss e)
      stays (Some x) e = changed_alike (is_held_under lock) (λ x. remembered (record x { state = state })) (λ x. record x { state = state } ∷ []) x ss e (held x (found_passes (is_held_under lock) ss x e))

-- ---- whole changes of sessions

pub holds_opened : (lock : ℕ) (id : List ℕ) (until : ℕ) (first : Option ℕ) (hs left : List ℕ) (cs kept : List StoredCopy) (ss later : List Session) → AreInOrder cs → HoldsHeads hs cs ss → first ≡ first_of id cs → left ≡ left_of first hs → kept ≡ cs → later ≡ opened lock id until (seating ss) → HoldsHeads left kept later
holds_opened lock id until first hs left cs kept ss later s holds first_is left_is kept_is is =
    subst (λ (l : List StoredCopy). HoldsHeads left l later) (sym kept_is) (holding left cs later s (heads_opened lock id until left cs ss later (others_left (Some id) first hs left cs ss s (lacking hs cs ss holds) first_is left_is) is))

pub holds_closed : (lock : ℕ) (first k : Option ℕ) (hs left new : List ℕ) (cs kept last : List StoredCopy) (ss later : List Session) → AreInOrder cs → AreBelow never cs → HoldsHeads hs cs ss → first ≡ option_and_then (λ id. first_of id cs) (held_id lock ss) → left ≡ left_of first hs → kept ≡ cs → later ≡ changed (is_held_under lock) (λ x. remembered (record x { holder = None })) ss → k ≡ option_and_then (λ n. option_and_then (λ id. head_of id kept later) (session_at n kept)) first → IsTold k kept left new → last ≡ kept → HoldsHeads new last later
holds_closed lock first k hs left new cs kept last ss later s b holds first_is left_is kept_is is head told end =
    let told_so : IsTold k cs left new = subst (λ (l : List StoredCopy). IsTold k l left new) kept_is told in
    let head_so : k ≡ option_and_then (λ n. option_and_then (λ id. head_of id cs later) (session_at n cs)) first = subst (λ (l : List StoredCopy). k ≡ option_and_then (λ n. option_and_then (λ id. head_of id l later) (session_at n l)) first) kept_is head in
    subst (λ (l : List StoredCopy). HoldsHeads new l later) (sym (end ∙ kept_is)) (holding new cs later s (holds_told (held_id lock ss) k left new cs later s b
    (lacks_closed lock left cs ss later (others_left (held_id lock ss) first hs left cs ss s (lacking hs cs ss holds) first_is left_is) is)
    (head_so ∙ again (held_id lock ss) first cs later s first_is)
    told_so))

pub holds_prolonged : (lock until : ℕ) (hs : List ℕ) (cs : List StoredCopy) (ss later : List Session) → HoldsHeads hs cs ss → later ≡ changed (is_held_under lock) (λ x. record x { holder = prolonged_holder until x.holder } ∷ []) ss → HoldsHeads hs cs later
holds_prolonged lock until hs cs ss later holds is = heads_stay hs hs cs cs ss later holds refl (λ id. head_by id cs ss later (free_prolonged lock until id ss later is)) (λ n. refl)

pub holds_written : (lock : ℕ) (state : Option (List ℕ)) (hs : List ℕ) (cs : List StoredCopy) (ss later : List Session) → HoldsHeads hs cs ss → later ≡ changed (is_held_under lock) (λ x. remembered (record x { state = state })) ss → HoldsHeads hs cs later
holds_written lock state hs cs ss later holds is = heads_stay hs hs cs cs ss later holds refl (λ id. head_by id cs ss later (free_written lock state id ss later is)) (λ n. refl)
