-- The words of a list between commas.
use Rattle.std.proofs.Common.{◌≡◌, ◌≢◌, ℕ, List, [], ◌∷◌, length, Bool, false, ◌||◌, sym, refl, ap, ◌∙◌, subst, ⊎_elim, arith}
use Rattle.std.specs.List.{list_any}
use Rattle.std.proofs.lemmas.Bool.{cond-true, cond-false, cases_eq, eq-eqb, ne_eqb}
use Rattle.form_urlencoded.specs.Form.{split_once, onto_first, split}
use Rattle.form_urlencoded.proofs.FormLemmas.{split_once_before_same, split_once_after_same, split_once_before_other, split_once_after_other}
use Rattle.sb_server.specs.Asks.{is_close_word, lists_close}

split-nil : (s : ℕ) → split s [] ≡ [] ∷ []
unfolding split
split-nil s = refl

split_same : (s : ℕ) (bs : List ℕ) → split s (s ∷ bs) ≡ [] ∷ split s bs
unfolding split
split_same s bs = cond-true _ _ _ (eq-eqb s s refl)

split_other : (s b : ℕ) (bs : List ℕ) → b ≢ s → split s (b ∷ bs) ≡ onto_first b (split s bs)
unfolding split
split_other s b bs other = cond-false _ _ _ (ne_eqb b s other)

-- the first piece is what stands before the separator, and the others hold what is behind it
abbrev SplitsFirst : (List ℕ → Bool) → ℕ → List ℕ → Type 0
SplitsFirst p s bs =
    (rest : List (List ℕ)) × (split s bs ≡ (split_once s bs).0 ∷ rest) × (list_any p rest ≡ list_any p (split s ((split_once s bs).1)))

split_first : (p : List ℕ → Bool) → p [] ≡ false → (s : ℕ) (bs : List ℕ) → SplitsFirst p s bs
split_first p none s [] = ([], split-nil s, sym (ap (list_any p) (split-nil s) ∙ ap (λ b. b || false) none))
split_first p none s (b ∷ bs) =
    let later = split_first p none s bs in
    ⊎_elim
    (λ same. subst (λ x. SplitsFirst p s (x ∷ bs)) (sym same) (split s bs, rw (split_once_before_same s bs) (split_same s bs), rw (split_once_after_same s bs)))
    (λ other. (later.0, rw (split_other s b bs other, split_once_before_other s b bs other, later.1), rw (split_once_after_other s b bs other) later.2))
    (cases_eq b s)

pub lists-nil : (l : List ℕ) → length l ≡ 0 → lists_close l ≡ false
unfolding lists_close
lists-nil [] e = ap (list_any is_close_word) (split-nil 44)
lists-nil (b ∷ l) e = absurd (omega (arith, e))

lists_first : (l : List ℕ) → lists_close l ≡ (is_close_word ((split_once 44 l).0) || lists_close ((split_once 44 l).1))
unfolding lists_close
lists_first l =
    let first = split_first is_close_word refl 44 l in
    ap (list_any is_close_word) first.1 ∙ ap (λ t. is_close_word ((split_once 44 l).0) || t) first.2

pub lists_cut : (l word rest : List ℕ) → word ≡ (split_once 44 l).0 → rest ≡ (split_once 44 l).1 → lists_close l ≡ (is_close_word word || lists_close rest)
lists_cut l word rest front behind =
    lists_first l
    ∙ sym (ap (λ (x : List ℕ). is_close_word x || lists_close rest) front ∙ ap (λ (x : List ℕ). is_close_word ((split_once 44 l).0) || lists_close x) behind)
