-- Reading items one after the other, as a loop does.
use Rattle.std.proofs.Common.{◌≡◌, ℕ, suc, ◌-◌, ◌+◌, ◌≤◌, ◌<◌, List, [], ◌∷◌, ◌++◌, length, Option, Some, None, refl, sym, ap, ◌∙◌, append_assoc, arith}
use Rattle.std.specs.Prelude.{slice_get}
use Rattle.std.proofs.Math.Seq.{get_or-append_seam}
use Rattle.std.proofs.lemmas.List.{append-nil, length-append}
use Rattle.std.proofs.lemmas.Option.{slice_get-get_or}
use Rattle.sb_codec.specs.declared.unread.Unread.{Unread}
use Rattle.sb_codec.specs.declared.unread.Unread.TheVariants.{Memory, NoSpelling}
use Rattle.sb_codec.specs.Readers.{Reader, ◌>>=◌, Fails, items_at}

-- what was read before, and what is still read
abbrev pub with_front : {A : Type 0} → List A → Option (List A × List ℕ) → Option (List A × List ℕ)
with_front front read = read >>= λ x. Some (front ++ x.0, x.1)

abbrev pub last_of : {A : Type 0} → List A → Option A
last_of xs = slice_get xs (length xs - 1)

-- what is left, read behind what was read, gives all
abbrev pub Reads : {A : Type 0} → (Option A → Reader A) → ℕ → List ℕ → List A → ℕ → List ℕ → Type 0
Reads step count bytes front left rest = with_front front (items_at step (last_of front) left rest) ≡ items_at step None count bytes

last_of-push : {A : Type 0} (front : List A) (x : A) → last_of (front ++ x ∷ []) ≡ Some x
last_of-push {A} front x =
    let len : length (front ++ x ∷ []) ≡ length front + 1 = length-append front (x ∷ []) in
    let k : length (front ++ x ∷ []) - 1 ≡ length front = omega arith in
    let within : length front < length (front ++ x ∷ []) = omega arith in
    ap (slice_get (front ++ x ∷ [])) k ∙ slice_get-get_or (front ++ x ∷ []) (length front) x within ∙ ap (λ (y : A). Some y) (get_or-append_seam front x [] x)

regroup : {A : Type 0} (front : List A) (x : A) (read : Option (List A × List ℕ)) → with_front front (read >>= λ others. Some (x ∷ others.0, others.1)) ≡ with_front (front ++ x ∷ []) read
regroup {A} front x (Some others) = ap (λ (xs : List A). Some (xs, others.1)) (simp append_assoc)
regroup front x None = refl

pub goes_on : {A : Type 0} (step : Option A → Reader A) (count i : ℕ) (bytes : List ℕ) (front : List A) (rest : List ℕ) (x : A) (after : List ℕ) → i < count → step (last_of front) rest ≡ Some (x, after)
    → Reads step count bytes front (count - i) rest → Reads step count bytes (front ++ x ∷ []) (count - (i + 1)) after
unfolding items_at
goes_on step count i bytes front rest x after lt h so_far =
    let k : count - i ≡ suc (count - (i + 1)) = omega arith in
    let one : with_front front (items_at step (last_of front) (count - i) rest) ≡ with_front (front ++ x ∷ []) (items_at step (Some x) (count - (i + 1)) after) = rw (k, h) (regroup front x (items_at step (Some x) (count - (i + 1)) after)) in
    rw (last_of-push front x) (sym one ∙ so_far)

pub ends : {A : Type 0} (e : Unread) (step : Option A → Reader A) (count i : ℕ) (bytes : List ℕ) (front : List A) (rest : List ℕ) → i < count → Fails e (step (last_of front) rest)
    → Reads step count bytes front (count - i) rest → Fails e (items_at step None count bytes)
unfolding items_at
ends Memory step count i bytes front rest lt h so_far = tt
ends NoSpelling step count i bytes front rest lt h so_far =
    let k : count - i ≡ suc (count - (i + 1)) = omega arith in
    let one : with_front front (items_at step (last_of front) (count - i) rest) ≡ None = rw (k, h) refl in
    sym so_far ∙ one

pub is_done : {A : Type 0} (step : Option A → Reader A) (count i : ℕ) (bytes : List ℕ) (front : List A) (rest : List ℕ) → count ≤ i → Reads step count bytes front (count - i) rest → items_at step None count bytes ≡ Some (front, rest)
unfolding items_at
is_done {A} step count i bytes front rest le so_far =
    let k : count - i ≡ 0 = omega arith in
    let one : with_front front (items_at step (last_of front) (count - i) rest) ≡ Some (front, rest) = rw k (ap (λ (xs : List A). Some (xs, rest)) (append-nil front)) in
    sym so_far ∙ one
