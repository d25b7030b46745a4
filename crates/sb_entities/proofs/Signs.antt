-- A message that is the only sign of its session is its head.
use Rattle.std.proofs.Common.{◌≡◌, ℕ, List, [], ◌∷◌, filter, find, map, ◌==◌, ◌&&◌, if◌then◌else◌, Bool, true, false, Option, Some, None, Result, Ok, Err, Bor, Global, refl, sym, ap, ◌∙◌}
use Rattle.std.specs.Prelude.{is_none, IfOk, Vec}
use Rattle.std.specs.declared.alloc.AllocError.{AllocError}
use Rattle.std.specs.Option.{option_map, option_map_or}
use Rattle.sb_machine.specs.Leaves.{has_id, session_in}
use Rattle.sb_machine.specs.Looks.{is_first_of, is_only_sign, is_ready_of}
use Rattle.sb_machine.specs.Messages.{text_of}
use Rattle.sb_machine.specs.declared.state.Leaf.{Leaf}
use Rattle.sb_machine.specs.declared.state.Session.{Session}
use Rattle.sb_machine.specs.declared.state.StoredCopy.{StoredCopy}
use Rattle.sb_model.specs.declared.message.SystemName.TheVariants.{SessionId}
use Rattle.sb_copies.specs.Heads.{is_head}
use Rattle.sb_entities.specs.Heads.{HoldsHeads, first_of, is_free}
use Rattle.sb_entities.specs.SessionList.{HasSigns}
use Rattle.sb_entities.proofs.Lists.{is_equal}

both : (a b : Bool) → (a && b) ≡ true → (a ≡ true) × (b ≡ true)
both true b e = (refl, e)
both false b e = absurd (let bad : false ≡ true = e in cc)

first_number : (id : List ℕ) (cs : List StoredCopy) (c : StoredCopy) → is_first_of id cs c ≡ true → first_of id cs ≡ Some c.number
first_number id cs c first = at (find (is_ready_of id) cs) first where
  at : (o : Option StoredCopy) → (elim o [ Some x ↦ x.number == c.number | None ↦ false ]) ≡ true → option_map (λ x. x.number) o ≡ Some c.number
  at None e = absurd (let bad : false ≡ true = e in cc)
  at (Some x) e = ap (λ n. Some n) (is_equal x.number c.number e)

free_where : (id : List ℕ) (ss : List Session) → is_none (find (has_id id) ss) ≡ true → is_free id ss ≡ true
free_where id ss none = at (find (has_id id) ss) none where
  at : (o : Option Session) → is_none o ≡ true → option_map_or (λ x. is_none x.holder) o true ≡ true
  at None e = refl
  at (Some x) e = absurd (let bad : false ≡ true = e in cc)

module _ (hs : List ℕ) (leaf : Leaf) (holds : HoldsHeads hs leaf.copies leaf.sessions) where
  sign_told : (c : StoredCopy) → is_only_sign leaf c ≡ true → is_head hs c ≡ true
  sign_told c sign = at (text_of SessionId c.message) sign where
    at : (o : Option (List ℕ)) → (elim o [ Some id ↦ is_none (session_in id leaf) && is_first_of id leaf.copies c | None ↦ false ]) ≡ true → is_head hs c ≡ true
    at None e = absurd (let bad : false ≡ true = e in cc)
    at (Some id) e =
        let it = both (is_none (session_in id leaf)) (is_first_of id leaf.copies c) e in
        holds.told id c.number (ap (λ b. if b then first_of id leaf.copies else None) (free_where id leaf.sessions it.0) ∙ first_number id leaf.copies c it.1)

  passed : (cs : List StoredCopy) → filter (is_only_sign leaf) (filter (is_head hs) cs) ≡ filter (is_only_sign leaf) cs
  passed [] = refl
  passed (c ∷ cs) = at (is_only_sign leaf c) (is_head hs c) refl refl (passed cs) where
    at : (s h : Bool) → is_only_sign leaf c ≡ s → is_head hs c ≡ h → filter (is_only_sign leaf) (filter (is_head hs) cs) ≡ filter (is_only_sign leaf) cs → filter (is_only_sign leaf) (filter (is_head hs) (c ∷ cs)) ≡ filter (is_only_sign leaf) (c ∷ cs)
    at true true s h ih = rw (h, s) (ap (λ (l : List StoredCopy). c ∷ l) ih)
    at true false s h ih = absurd (let bad : false ≡ true = sym h ∙ sign_told c s in cc)
    at false true s h ih = rw (h, s) ih
    at false false s h ih = rw (h, s) ih

  has_signs : (found : List StoredCopy) → found ≡ filter (is_head hs) leaf.copies → HasSigns leaf found
  has_signs found is = ap (filter (is_only_sign leaf)) is ∙ passed leaf.copies

  pub signs_in : (r : Result (Vec (Bor StoredCopy) Global) AllocError) → IfOk r (λ found. map (λ c. c.now) found.items ≡ filter (is_head hs) leaf.copies) → IfOk r (λ found. HasSigns leaf (map (λ c. c.now) found.items))
  signs_in (Ok found) all = has_signs (map (λ c. c.now) found.items) all
  signs_in (Err e) all = all
