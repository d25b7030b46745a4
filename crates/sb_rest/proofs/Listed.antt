-- Lists between separators.
use Rattle.std.proofs.Common.{◌≡◌, ◌≢◌, ℕ, List, [], ◌∷◌, Bool, false, ◌||◌, length, sym, refl, ap, ◌∙◌, subst, ⊎_elim, arith}
use Rattle.std.specs.List.{list_any}
use Rattle.std.proofs.lemmas.Bool.{cond-true, cond-false, cases_eq, eq-eqb, ne_eqb}
use Rattle.form_urlencoded.specs.Form.{split_once, onto_first, split}
use Rattle.form_urlencoded.proofs.FormLemmas.{split_once_before_same, split_once_after_same, split_once_before_other, split_once_after_other}
use Rattle.sb_rest.specs.Forms.{is_json_range, lists_json}

pub split-nil : (s : ℕ) → split s [] ≡ [] ∷ []
unfolding split
split-nil s = refl

split_same : (s : ℕ) (bs : List ℕ) → split s (s ∷ bs) ≡ [] ∷ split s bs
unfolding split
split_same s bs = cond-true _ _ _ (eq-eqb s s refl)

split_other : (s b : ℕ) (bs : List ℕ) → b ≢ s → split s (b ∷ bs) ≡ onto_first b (split s bs)
unfolding split
split_other s b bs other = cond-false _ _ _ (ne_eqb b s other)

-- the first piece is what stands before the separator, and the others hold what is behind it
abbrev pub SplitsFirst : (List ℕ → Bool) → ℕ → List ℕ → Type 0
SplitsFirst p s bs =
    (rest : List (List ℕ)) × (split s bs ≡ (split_once s bs).0 ∷ rest) × (list_any p rest ≡ list_any p (split s ((split_once s bs).1)))

pub split_first : (p : List ℕ → Bool) → p [] ≡ false → (s : ℕ) (bs : List ℕ) → SplitsFirst p s bs
split_first p none s [] = ([], split-nil s, sym (ap (list_any p) (split-nil s) ∙ ap (λ b. b || false) none))
split_first p none s (b ∷ bs) =
    let later = split_first p none s bs in
    ⊎_elim
    (λ same. subst (λ x. SplitsFirst p s (x ∷ bs)) (sym same) (split s bs, rw (split_once_before_same s bs) (split_same s bs), rw (split_once_after_same s bs)))
    (λ other. (later.0, rw (split_other s b bs other, split_once_before_other s b bs other, later.1), rw (split_once_after_other s b bs other) later.2))
    (cases_eq b s)

pub json-nil : (l : List ℕ) → length l ≡ 0 → lists_json l ≡ false
unfolding lists_json
json-nil [] e = ap (list_any is_json_range) (split-nil 44)
json-nil (b ∷ l) e = absurd (omega (arith, e))

json_first : (l : List ℕ) → lists_json l ≡ (is_json_range ((split_once 44 l).0) || lists_json ((split_once 44 l).1))
unfolding lists_json
json_first l =
    let first = split_first is_json_range refl 44 l in
    ap (list_any is_json_range) first.1 ∙ ap (λ t. is_json_range ((split_once 44 l).0) || t) first.2

pub json_cut : (l range rest : List ℕ) → range ≡ (split_once 44 l).0 → rest ≡ (split_once 44 l).1 → lists_json l ≡ (is_json_range range || lists_json rest)
json_cut l range rest front behind =
    json_first l
    ∙ sym (ap (λ (x : List ℕ). is_json_range x || lists_json rest) front ∙ ap (λ (x : List ℕ). is_json_range ((split_once 44 l).0) || lists_json x) behind)
