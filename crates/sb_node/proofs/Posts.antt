-- Posts of which one was carried out.
use Rattle.std.proofs.Common.{◌≡◌, ◌<◌, ◌≤◌, ◌+◌, ℕ, zero, suc, List, [], ◌∷◌, ◌++◌, map, take, set, get_or, length, refl, sym, ap, ◌∙◌, subst, arith}
use Rattle.std.specs.List.{All}
use Rattle.std.proofs.lemmas.List.{append-nil, length-map, map-append, take_more, take_more_set}
use Rattle.std.proofs.lemmas.List.Elements.{All-append, All-cons, All-head, All-nil, All-tail}
use Rattle.std.proofs.lemmas.Grind.{flat_map-append}
use Rattle.sb_machine.specs.declared.history.Entry.{Entry}
use Rattle.sb_desk.specs.Posts.{asked_of, group_entries, post_entries}
use Rattle.sb_desk.specs.declared.post.Post.{Post}
use Rattle.sb_node.specs.Posts.{fault_entries, fault_entry}
use Rattle.sb_node.specs.Groups.{failed}
use Rattle.sb_node.proofs.Together.{failed_on}

-- what holds of each holds of each still
pub all_set : {X : Type 0} (P : X → Type 0) (xs : List X) (i : ℕ) (y : X) → All P xs → P y → All P (set xs i y)
all_set P [] i y all one = all
all_set P (x ∷ xs) zero y all one = All-cons P y xs one (All-tail P x xs all)
all_set P (x ∷ xs) (suc i) y all one = All-cons P x (set xs i y) (All-head P x xs all) (all_set P xs i y (All-tail P x xs all) one)

-- what f makes of each stays
pub map_set : {X Y : Type 0} (f : X → Y) (xs : List X) (i : ℕ) (y d : X) → i < length xs → f y ≡ f (get_or xs i d) → map f (set xs i y) ≡ map f xs
map_set f [] i y d lt same = refl
map_set {X} {Y} f (x ∷ xs) zero y d lt same = ap (λ (z : Y). z ∷ map f xs) same
map_set {X} {Y} f (x ∷ xs) (suc i) y d lt same = let below : i < length xs = omega arith in ap (λ (l : List Y). f x ∷ l) (map_set f xs i y d below same)

-- the entries of one more
pub more_entries : (posts : List Post) (i : ℕ) (post : Post) → i < length posts → group_entries (take (i + 1) (set posts i post)) ≡ group_entries (take i posts) ++ post_entries post
more_entries posts i post lt =
    ap group_entries (take_more_set posts i post lt)
    ∙ flat_map-append post_entries (take i posts) (post ∷ [])
    ∙ ap (λ (l : List Entry). group_entries (take i posts) ++ l) (append-nil (post_entries post))

-- the same of posts that are only read
pub read_more : (posts : List Post) (i : ℕ) (post : Post) → i < length posts → post ≡ get_or posts i post → group_entries (take (i + 1) posts) ≡ group_entries (take i posts) ++ post_entries post
read_more posts i post lt is =
    ap group_entries (take_more posts i post lt)
    ∙ flat_map-append post_entries (take i posts) (get_or posts i post ∷ [])
    ∙ ap (λ (l : List Entry). group_entries (take i posts) ++ l) (append-nil (post_entries (get_or posts i post)))
    ∙ ap (λ (p : Post). group_entries (take i posts) ++ post_entries p) (sym is)

as_long : (posts asked : List Post) → map asked_of posts ≡ map asked_of asked → length posts ≡ length asked
as_long posts asked same = sym (length-map posts asked_of) ∙ ap length same ∙ length-map asked asked_of

-- what holds of those before one, and of it
pub all_taken_on : (P : Post → Type 0) (posts : List Post) (i : ℕ) (post : Post) → i < length posts → All P (take i posts) → P post → All P (take (i + 1) (set posts i post))
all_taken_on P posts i post lt all one = subst (All P) (sym (take_more_set posts i post lt)) (All-append P (take i posts) (post ∷ []) all (All-cons P post [] one (All-nil P)))

-- there are as many as were asked
pub within : (posts asked : List Post) (i : ℕ) → map asked_of posts ≡ map asked_of asked → i < length asked → i < length posts
within posts asked i same lt = let long = as_long posts asked same in omega (arith, long, lt)

taken : {X : Type 0} (xs : List X) (i : ℕ) → length xs ≤ i → take i xs ≡ xs
taken [] zero le = refl
taken [] (suc i) le = refl
taken (x ∷ xs) zero le = absurd (omega (arith, le))
taken {X} (x ∷ xs) (suc i) le = let below : length xs ≤ i = omega (arith, le) in ap (λ (l : List X). x ∷ l) (taken xs i below)

-- behind the last one
pub all_taken : (posts asked : List Post) (i : ℕ) → map asked_of posts ≡ map asked_of asked → length asked ≤ i → take i posts ≡ posts
all_taken posts asked i same le = let long = as_long posts asked same in taken posts i (omega (arith, long, le))

-- the faults of one more
pub more_faults : (posts : List Post) (i : ℕ) (post : Post) → i < length posts → failed (group_entries (take i posts)) ≡ fault_entries (take i posts) → failed (post_entries post) ≡ fault_entry post ∷ []
    → failed (group_entries (take i posts) ++ post_entries post) ≡ fault_entries (take (i + 1) (set posts i post))
more_faults posts i post lt before one =
    failed_on (group_entries (take i posts)) (post_entries post)
    ∙ ap (λ (l : List Entry). l ++ failed (post_entries post)) before
    ∙ ap (λ (l : List Entry). fault_entries (take i posts) ++ l) one
    ∙ sym (map-append fault_entry (take i posts) (post ∷ []))
    ∙ ap fault_entries (sym (take_more_set posts i post lt))
