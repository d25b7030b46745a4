-- Posts that are carried out one behind another.
use Rattle.std.proofs.Common.{◌≡◌, ℕ, zero, suc, ◌+◌, ◌<◌, List, [], ◌∷◌, ◌++◌, length, map, take, set, get_or, true, is_some, All, refl, sym, ap, ◌∙◌, subst, append_assoc, append-nil}
use Rattle.std.proofs.lemmas.List.{take_more_set, map-set, set-get_or}
use Rattle.std.proofs.lemmas.List.Elements.{All-push}
use Rattle.sb_desk.specs.declared.post.Post.{Post}
use Rattle.sb_desk.specs.Posts.{asked_of, post_entries, group_entries}

grown : (ps : List Post) (p : Post) → group_entries (ps ++ p ∷ []) ≡ group_entries ps ++ post_entries p
grown [] p = append-nil (post_entries p)
grown (x ∷ ps) p = ap (λ z. post_entries x ++ z) (grown ps p) ∙ sym (append_assoc (post_entries x) (group_entries ps) (post_entries p))

-- one more was made
pub made_more : (ps : List Post) (i : ℕ) (p : Post) → i < length ps → group_entries (take (i + 1) (set ps i p)) ≡ group_entries (take i ps) ++ post_entries p
made_more ps i p lt = ap group_entries (take_more_set ps i p lt) ∙ grown (take i ps) p

-- it asks what it asked
pub asked_same : (ps : List Post) (i : ℕ) (d p : Post) → asked_of p ≡ asked_of (get_or ps i d) → map asked_of (set ps i p) ≡ map asked_of ps
asked_same ps i d p same = map-set asked_of ps i p ∙ (ap (set (map asked_of ps) i) (same ∙ sym (mapped ps i d)) ∙ set-get_or (map asked_of ps) i (asked_of d))
  where
    mapped : (ps : List Post) (i : ℕ) (d : Post) → get_or (map asked_of ps) i (asked_of d) ≡ asked_of (get_or ps i d)
    mapped [] i d = refl
    mapped (x ∷ ps) zero d = refl
    mapped (x ∷ ps) (suc i) d = mapped ps i d

pub went_more : (ps : List Post) (i : ℕ) (p : Post) → i < length ps → All (λ p. is_some p.went ≡ true) (take i ps) → is_some p.went ≡ true → All (λ p. is_some p.went ≡ true) (take (i + 1) (set ps i p))
went_more ps i p lt all is = subst (All (λ (p : Post). is_some p.went ≡ true)) (sym (take_more_set ps i p lt)) (All-push (λ (p : Post). is_some p.went ≡ true) (take i ps) p all is)
