-- The copies of a session that may be received, counted among those whose rows stand under its hash.
use Rattle.std.proofs.Common.{◌≡◌, ℕ, List, [], ◌∷◌, length, map, Bool, true, false, cond, refl, sym, ap, ◌∙◌}
use Rattle.std.specs.List.{filter}
use Rattle.sb_index.specs.declared.row.Row.{Row}
use Rattle.sb_machine.specs.Leases.{is_ready}
use Rattle.sb_machine.specs.Looks.{is_ready_of}
use Rattle.sb_machine.specs.Messages.{has_text_of}
use Rattle.sb_machine.specs.declared.state.StoredCopy.{StoredCopy}
use Rattle.sb_model.specs.declared.message.SystemName.TheVariants.{SessionId}
use Rattle.sb_copies.specs.BySession.{HoldsSessions, session_hash, session_hash_of}
use Rattle.sb_copies.specs.Grouped.{is_in_group, is_under, numbers_under, own_row}
use Rattle.sb_copies.specs.Heads.{undue, undue_rows}
use Rattle.sb_copies.specs.Shelf.{AreInOrder, numbered_in}
use Rattle.sb_copies.proofs.Listing.{listed}
use Rattle.sb_copies.proofs.Order.{both}
use Rattle.sb_copies.proofs.SessionFinds.{hashed}

-- what passes a narrower test is left by a wider one
narrowed : (p q : StoredCopy → Bool) → ((c : StoredCopy) → p c ≡ true → q c ≡ true) → (cs : List StoredCopy) → filter p (filter q cs) ≡ filter p cs
narrowed p q all [] = refl
narrowed p q all (c ∷ cs) = at (q c) refl (narrowed p q all cs) where
  at : (b : Bool) → q c ≡ b → filter p (filter q cs) ≡ filter p cs → filter p (filter q (c ∷ cs)) ≡ filter p (c ∷ cs)
  at true e ih = rw e (ap (λ (l : List StoredCopy). cond (p c) (c ∷ l) l) ih)
  at false e ih = rw e (inner (p c) refl) where
    inner : (t : Bool) → p c ≡ t → filter p (filter q cs) ≡ filter p (c ∷ cs)
    inner true f = absurd (let bad : false ≡ true = sym e ∙ all c f in cc)
    inner false f = rw f ih

numbers_alike : (h : ℕ) (rows : List Row) → numbers_under h rows ≡ numbers_under h (undue_rows rows)
numbers_alike h [] = refl
numbers_alike h (x ∷ xs) = at (is_under h x) (numbers_alike h xs) where
  at : (b : Bool) → numbers_under h xs ≡ numbers_under h (undue_rows xs) → map (λ y. y.value) (cond b (x ∷ filter (is_under h) xs) (filter (is_under h) xs)) ≡ map (λ y. y.value) (cond b (undue x ∷ filter (is_under h) (undue_rows xs)) (filter (is_under h) (undue_rows xs)))
  at true ih = ap (λ (ns : List ℕ). x.value ∷ ns) ih
  at false ih = ih

own_values : (h : ℕ) (ds : List StoredCopy) → map (λ x. x.value) (map (own_row (λ c. is_ready c.standing) h) ds) ≡ map (λ c. c.number) ds
own_values h [] = refl
own_values h (d ∷ ds) = ap (λ (ns : List ℕ). d.number ∷ ns) (own_values h ds)

-- those under the hash
under_hash : (h : ℕ) (rows : List Row) (cs : List StoredCopy) → AreInOrder cs → HoldsSessions (undue_rows rows) cs → numbered_in cs (numbers_under h rows) ≡ filter (is_in_group session_hash_of h) cs
under_hash h rows cs s holds =
    ap (λ (ns : List ℕ). numbered_in cs ns)
    (numbers_alike h rows ∙ ap (λ (xs : List Row). map (λ x. x.value) xs) (holds h) ∙ own_values h (filter (is_in_group session_hash_of h) cs))
    ∙ listed (is_in_group session_hash_of h) cs s

pub ready_counted : (id : List ℕ) (rows : List Row) (cs found : List StoredCopy) → AreInOrder cs → HoldsSessions (undue_rows rows) cs → found ≡ numbered_in cs (numbers_under (session_hash id) rows) → length (filter (is_ready_of id) found) ≡ length (filter (is_ready_of id) cs)
ready_counted id rows cs found s holds there =
    ap (λ (l : List StoredCopy). length (filter (is_ready_of id) l)) (there ∙ under_hash (session_hash id) rows cs s holds)
    ∙ ap (λ (l : List StoredCopy). length l) (narrowed (is_ready_of id) (is_in_group session_hash_of (session_hash id)) (λ c e. hashed id c (both (is_ready c.standing) (has_text_of SessionId id c.message) e).1) cs)
