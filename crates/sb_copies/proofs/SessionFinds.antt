-- The first row by session that is marked, and the copy that it is of.
use Rattle.std.proofs.Common.{◌≡◌, ℕ, ◌+◌, ◌*◌, List, [], ◌∷◌, map, find, ◌&&◌, Bool, true, false, Option, Some, None, cond, refl, sym, ap, ◌∙◌, bytes_eq}
use Rattle.std.specs.List.{filter}
use Rattle.std.specs.Option.{option_map}
use Rattle.std.proofs.lemmas.Bool.{eq-eqb}
use Rattle.std.proofs.lemmas.Slice.Eq.{bytes_eq-Decides}
use Rattle.sb_index.specs.Rows.{is_marked, is_marked_within}
use Rattle.sb_index.specs.declared.row.Row.{Row}
use Rattle.sb_machine.specs.Leases.{is_ready}
use Rattle.sb_machine.specs.Leaves.{has_number}
use Rattle.sb_machine.specs.Messages.{has_text_of, text_of}
use Rattle.sb_machine.specs.declared.state.StoredCopy.{StoredCopy}
use Rattle.sb_model.specs.declared.message.SystemName.TheVariants.{SessionId}
use Rattle.sb_machine.proofs.Places.{found_passes}
use Rattle.sb_copies.specs.BySession.{HoldsSessions, session_hash, session_hash_of}
use Rattle.sb_copies.specs.Grouped.{is_in_group, is_under, own_row, span}
use Rattle.sb_copies.specs.Shelf.{AreInOrder}
use Rattle.sb_copies.proofs.Finds.{copy_of, find_filter, narrow_found, narrow_none, none_of}
use Rattle.sb_copies.proofs.Mirror.{own_found}
use Rattle.sb_copies.proofs.Order.{both}

-- a message's row under a hash
abbrev session_row : ℕ → StoredCopy → Row
session_row h c = own_row (λ x. is_ready x.standing) h c

marked_rows : (h : ℕ) (cs : List StoredCopy) → find is_marked (map (session_row h) cs) ≡ option_map (session_row h) (find (λ c. is_ready c.standing) cs)
marked_rows h [] = refl
marked_rows h (c ∷ cs) = ap (λ (o : Option Row). cond (is_ready c.standing) (Some (session_row h c)) o) (marked_rows h cs) ∙ at (is_ready c.standing) where
  at : (b : Bool) → cond b (Some (session_row h c)) (option_map (session_row h) (find (λ x. is_ready x.standing) cs)) ≡ option_map (session_row h) (cond b (Some c) (find (λ x. is_ready x.standing) cs))
  at true = refl
  at false = refl

first_of : (h : ℕ) (rows : List Row) (cs : List StoredCopy) → HoldsSessions rows cs → find (is_marked_within (h * span) (h * span + span)) rows ≡ option_map (session_row h) (find (λ c. is_ready c.standing && is_in_group session_hash_of h c) cs)
first_of h rows cs holds =
    find_filter is_marked (is_under h) rows
    ∙ ap (λ (l : List Row). find is_marked l) (holds h)
    ∙ marked_rows h (filter (is_in_group session_hash_of h) cs)
    ∙ ap (λ (o : Option StoredCopy). option_map (session_row h) o) (sym (find_filter (λ c. is_ready c.standing) (is_in_group session_hash_of h) cs))

pub hashed : (id : List ℕ) (c : StoredCopy) → has_text_of SessionId id c.message ≡ true → is_in_group session_hash_of (session_hash id) c ≡ true
hashed id c e = at (text_of SessionId c.message) refl where
  at : (o : Option (List ℕ)) → text_of SessionId c.message ≡ o → is_in_group session_hash_of (session_hash id) c ≡ true
  at None is = absurd (let bad : false ≡ true = rw (has_text_of, is) at e in cc)
  at (Some own) is =
      let alike : bytes_eq own id ≡ true = rw (has_text_of, is) at e in
      let same : own ≡ id = (bytes_eq-Decides own id).0 alike in
      rw is (eq-eqb (session_hash own) (session_hash id) (ap (λ z. session_hash z) same))

of_session : (id : List ℕ) (c : StoredCopy) → (is_ready c.standing && has_text_of SessionId id c.message) ≡ true → (is_ready c.standing && is_in_group session_hash_of (session_hash id) c) ≡ true
of_session id c e = let it = both (is_ready c.standing) (has_text_of SessionId id c.message) e in rw (it.0, hashed id c it.1) refl

pub ready_there : (id : List ℕ) (row : Row) (rows : List Row) (cs : List StoredCopy) (copy : StoredCopy) → HoldsSessions rows cs → AreInOrder cs → Some row ≡ find (is_marked_within (session_hash id * span) (session_hash id * span + span)) rows → Some copy ≡ find (has_number row.value) cs → has_text_of SessionId id copy.message ≡ true → Some copy ≡ find (λ c. is_ready c.standing && has_text_of SessionId id c.message) cs
ready_there id row rows cs copy holds s found numbered own =
    let q : StoredCopy → Bool = λ c. is_ready c.standing && is_in_group session_hash_of (session_hash id) c in
    let it = copy_of (λ x. is_ready x.standing) (session_hash id) (find q cs) row (sym (found ∙ first_of (session_hash id) rows cs holds)) in
    let c = it.0 in
    let alike : Some copy ≡ Some c = numbered ∙ ap (λ n. find (has_number n) cs) it.2 ∙ own_found q c cs s it.1 in
    let same : copy ≡ c = cc in
    let first : find q cs ≡ Some copy = it.1 ∙ ap (λ z. Some z) (sym same) in
    let ready : is_ready copy.standing ≡ true = (both (is_ready copy.standing) (is_in_group session_hash_of (session_hash id) copy) (found_passes q cs copy first)).0 in
    let passes : (is_ready copy.standing && has_text_of SessionId id copy.message) ≡ true = rw (ready, own) refl in
    sym (narrow_found (λ c. is_ready c.standing && has_text_of SessionId id c.message) q cs copy (of_session id) first passes)

pub ready_nowhere : (id : List ℕ) (rows : List Row) (cs : List StoredCopy) → HoldsSessions rows cs → None ≡ find (is_marked_within (session_hash id * span) (session_hash id * span + span)) rows → None ≡ find (λ c. is_ready c.standing && has_text_of SessionId id c.message) cs
ready_nowhere id rows cs holds found =
    sym (narrow_none (λ c. is_ready c.standing && has_text_of SessionId id c.message) (λ c. is_ready c.standing && is_in_group session_hash_of (session_hash id) c) cs (of_session id) (none_of (λ x. is_ready x.standing) (session_hash id) (find (λ c. is_ready c.standing && is_in_group session_hash_of (session_hash id) c) cs) (sym (found ∙ first_of (session_hash id) rows cs holds))))
