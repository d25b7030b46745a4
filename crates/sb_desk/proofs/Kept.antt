-- How posts are kept as one is added, all that wait are carried out, or one is taken out; and where a seat's own one stands.
use Rattle.std.proofs.Common.{◌≡◌, ℕ, zero, suc, ◌+◌, ◌<◌, ◌≤◌, ◌==◌, List, [], ◌∷◌, ◌++◌, length, map, take, drop, get_or, true, All, sym, refl, ap, ◌∙◌, subst, arith, take-append-drop, Option, Some, None, is_some}
use Rattle.std.specs.List.{position, position_or_len}
use Rattle.std.proofs.lemmas.Grind.{common_steps}
use Rattle.std.proofs.lemmas.List.{take-append-le, drop-append-le, take_all, drop_all, get_or-take, length-take-le, length_push}
use Rattle.std.proofs.lemmas.List.Elements.{All-nil, All-cons, All-head, All-tail, All-append, All-push, All-take, All-drop, All-map}
use Rattle.std.proofs.lemmas.List.Quantifiers.{position-Some}
use mathlib.Core.Logic.{dite}
use native.Mathlib.Decide.{ℕ_discrete}
use Rattle.sb_machine.specs.Ordered.{IsActInOrder}
use Rattle.sb_machine.specs.declared.history.Entry.{Entry}
use Rattle.sb_desk.specs.declared.post.Post.{Post}
use Rattle.sb_desk.specs.declared.view.Ask.{Ask}
use Rattle.sb_desk.specs.Groups.{posts_by, IsPosted, IsFollowed, AreCarriedOut, IsTaken, AreKept}
use Rattle.sb_desk.specs.Lists.{HaveSeatsBelow}
use Rattle.sb_desk.specs.Posts.{Asked, asked_of, group_entries}
use Rattle.sb_desk.proofs.Posting.{posts_else, group_below}

-- ---- none, and one more

pub kept_none : (passes : ℕ) (posts : List Post) (space : ℕ) → posts ≡ [] → passes ≤ space → AreKept passes 0 posts space
kept_none passes posts space none wide = subst (λ z. AreKept passes 0 z space) (sym none)
    record { room = wide; within = omega arith; went = All-nil (λ (p : Post). is_some p.went ≡ true); waiting = All-nil (λ (p : Post). p.went ≡ None); order = All-nil (λ (p : Post). IsActInOrder p.call.act); seats = All-nil (λ (p : Post). p.seat < passes) }

pub kept_more : (passes answered : ℕ) (posts next : List Post) (p : Post) (space more : ℕ) → AreKept passes answered posts space → next ≡ posts ++ p ∷ [] → space ≤ more → p.went ≡ None → IsActInOrder p.call.act → p.seat < passes
    → AreKept passes answered next more
kept_more passes answered posts next p space more k is wide none order low = subst (λ z. AreKept passes answered z more) (sym is) record {
  room = omega (arith, k.room, wide);
  within = omega (arith, k.within, length_push posts p);
  went = subst (All (λ (p : Post). is_some p.went ≡ true)) (sym (take-append-le answered posts (p ∷ []) k.within)) k.went;
  waiting = subst (All (λ (p : Post). p.went ≡ None)) (sym (drop-append-le answered posts (p ∷ []) k.within)) (All-push (λ (p : Post). p.went ≡ None) (drop answered posts) p k.waiting none);
  order = All-push (λ (p : Post). IsActInOrder p.call.act) posts p k.order order;
  seats = All-push (λ (p : Post). p.seat < passes) posts p k.seats low;
}

-- ---- a group

-- what holds of what was asked
map_all : (P : Asked → Type 0) (ps : List Post) → All P (map asked_of ps) → All (λ p. P (asked_of p)) ps
map_all P [] h = All-nil (λ (p : Post). P (asked_of p))
map_all P (p ∷ ps) h = All-cons (λ (p : Post). P (asked_of p)) p ps (All-head P (asked_of p) (map asked_of ps) h) (map_all P ps (All-tail P (asked_of p) (map asked_of ps) h))

asked_all : (P : Asked → Type 0) (new old : List Post) → map asked_of new ≡ map asked_of old → All (λ p. P (asked_of p)) old → All (λ p. P (asked_of p)) new
asked_all P new old e h = map_all P new (subst (All P) (sym e) (All-map P asked_of old h))

pub kept_all : (passes answered : ℕ) (posts next new : List Post) (space : ℕ) → AreKept passes answered posts space → next ≡ take answered posts ++ new → map asked_of new ≡ map asked_of (drop answered posts) → All (λ p. is_some p.went ≡ true) new
    → AreKept passes (length next) next space
kept_all passes answered posts next new space k is asked went = record {
  room = k.room;
  within = omega arith;
  went = subst (All (λ (p : Post). is_some p.went ≡ true)) (sym is ∙ sym (take_all (length next) next (omega arith))) (All-append (λ (p : Post). is_some p.went ≡ true) (take answered posts) new k.went went);
  waiting = subst (All (λ (p : Post). p.went ≡ None)) (sym (drop_all (length next) next (omega arith))) (All-nil (λ (p : Post). p.went ≡ None));
  order = subst (All (λ (p : Post). IsActInOrder p.call.act)) (sym is)
      (All-append (λ (p : Post). IsActInOrder p.call.act) (take answered posts) new (All-take (λ (p : Post). IsActInOrder p.call.act) answered posts k.order)
      (asked_all (λ (a : Asked). IsActInOrder a.call.act) new (drop answered posts) asked (All-drop (λ (p : Post). IsActInOrder p.call.act) answered posts k.order)));
  seats = subst (All (λ (p : Post). p.seat < passes)) (sym is)
      (All-append (λ (p : Post). p.seat < passes) (take answered posts) new (All-take (λ (p : Post). p.seat < passes) answered posts k.seats) (seats_new passes answered posts new k.seats asked));
}
  where
    seats_new : (passes answered : ℕ) (posts new : List Post) → All (λ p. p.seat < passes) posts → map asked_of new ≡ map asked_of (drop answered posts) → All (λ p. p.seat < passes) new
    seats_new passes answered posts new low asked = asked_all (λ (a : Asked). a.seat < passes) new (drop answered posts) asked (All-drop (λ (p : Post). p.seat < passes) answered posts low)

pub kept_below : (passes answered : ℕ) (posts new : List Post) (space : ℕ) → AreKept passes answered posts space → map asked_of new ≡ map asked_of (drop answered posts) → HaveSeatsBelow passes (group_entries new)
kept_below passes answered posts new space k asked = group_below passes new (asked_all (λ (a : Asked). a.seat < passes) new (drop answered posts) asked (All-drop (λ (p : Post). p.seat < passes) answered posts k.seats))

pub carried_out : (passes answered : ℕ) (posts next new : List Post) (space : ℕ) → AreKept passes answered posts space → next ≡ take answered posts ++ new → map asked_of new ≡ map asked_of (drop answered posts) → AreCarriedOut posts next (group_entries new)
carried_out passes answered posts next new space k is asked_same =
    record { first = take answered posts; old = drop answered posts; new = new; before = sym (take-append-drop answered posts); after = is; asked = asked_same; waiting = k.waiting; entries = refl }

-- ---- one less

drop_less : (xs : List Post) (i n : ℕ) → i ≤ n → drop n (take i xs ++ drop (suc i) xs) ≡ drop (suc n) xs
drop_less [] zero zero le = refl
drop_less [] zero (suc n) le = refl
drop_less [] (suc i) zero le = refl
drop_less [] (suc i) (suc n) le = refl
drop_less (x ∷ xs) zero n le = refl
drop_less (x ∷ xs) (suc i) zero le = absurd (omega (arith, le))
drop_less (x ∷ xs) (suc i) (suc n) le = drop_less xs i n (omega (arith, le))

take_less : (xs : List Post) (i n : ℕ) → i ≤ n → take n (take i xs ++ drop (suc i) xs) ≡ take i (take (suc n) xs) ++ drop (suc i) (take (suc n) xs)
take_less [] zero zero le = refl
take_less [] zero (suc n) le = refl
take_less [] (suc i) zero le = refl
take_less [] (suc i) (suc n) le = refl
take_less (x ∷ xs) zero n le = refl
take_less (x ∷ xs) (suc i) zero le = absurd (omega (arith, le))
take_less (x ∷ xs) (suc i) (suc n) le = ap (λ z. x ∷ z) (take_less xs i n (omega (arith, le)))

without : (P : Post → Type 0) (xs : List Post) (i : ℕ) → All P xs → All P (take i xs ++ drop (suc i) xs)
without P xs i all = All-append P (take i xs) (drop (suc i) xs) (All-take P i xs all) (All-drop P (suc i) xs all)

length_less : (xs : List Post) (i : ℕ) → i < length xs → length (take i xs ++ drop (suc i) xs) + 1 ≡ length xs
length_less [] i lt = absurd (omega (arith, lt))
length_less (x ∷ xs) zero lt = omega arith
length_less (x ∷ xs) (suc i) lt = omega (arith, length_less xs i (omega (arith, lt)))

pub kept_less : (passes answered left : ℕ) (posts next : List Post) (space i : ℕ) → AreKept passes answered posts space → i < answered → answered ≡ left + 1 → next ≡ take i posts ++ drop (i + 1) posts → AreKept passes left next space
kept_less passes answered left posts next space i k lt one is =
    let i' : i + 1 ≡ suc i = omega arith in
    let is' : next ≡ take i posts ++ drop (suc i) posts = is ∙ ap (λ z. take i posts ++ drop z posts) i' in
    let n : answered ≡ suc left = omega (arith, one) in
    let low : i ≤ left = omega (arith, lt, one) in
    let inside : i < length posts = omega (arith, lt, k.within) in
    subst (λ z. AreKept passes left z space) (sym is') record {
      room = k.room;
      within = omega (arith, one, k.within, length_less posts i inside);
      went = subst (All (λ (p : Post). is_some p.went ≡ true)) (sym (take_less posts i left low)) (without (λ (p : Post). is_some p.went ≡ true) (take (suc left) posts) i (subst (λ z. All (λ (p : Post). is_some p.went ≡ true) (take z posts)) n k.went));
      waiting = subst (All (λ (p : Post). p.went ≡ None)) (sym (drop_less posts i left low)) (subst (λ z. All (λ (p : Post). p.went ≡ None) (drop z posts)) n k.waiting);
      order = without (λ (p : Post). IsActInOrder p.call.act) posts i k.order;
      seats = without (λ (p : Post). p.seat < passes) posts i k.seats;
    }

-- who is among the answered ones has an answer
pub went_at : (posts : List Post) (answered i : ℕ) (p : Post) → All (λ p. is_some p.went ≡ true) (take answered posts) → answered ≤ length posts → i < answered → p ≡ get_or posts i p → is_some p.went ≡ true
went_at posts answered i p went within lt is =
    let here : get_or (take answered posts) i p ≡ p = get_or-take answered posts i p lt ∙ sym is in
    subst (λ (z : Post). is_some z.went ≡ true) here (went i p (omega (arith, lt, length-take-le answered posts within)))

-- ---- where a seat's own post stands

pub cut_at : (xs : List Post) (i : ℕ) (d : Post) → i < length xs → xs ≡ take i xs ++ get_or xs i d ∷ drop (suc i) xs
cut_at [] i d lt = absurd (omega (arith, lt))
cut_at (x ∷ xs) zero d lt = refl
cut_at (x ∷ xs) (suc i) d lt = ap (λ l. x ∷ l) (cut_at xs i d (omega (arith, lt)))

pub first_within : (seat : ℕ) (xs : List Post) (q : Post) (qs : List Post) → posts_by seat xs ≡ q ∷ qs → position_or_len (λ p. p.seat == seat) xs < length xs
first_within seat [] q qs e = absurd cc
first_within seat (x ∷ xs) q qs e = dite (ℕ_discrete x.seat seat)
    (λ is. grind (arith, common_steps))
    (λ isnt. let next = first_within seat xs q qs (sym (posts_else seat x xs isnt) ∙ e) in grind (arith, common_steps))

pub position_is : (seat : ℕ) (xs : List Post) → position_or_len (λ p. p.seat == seat) xs < length xs → position (λ p. p.seat == seat) xs ≡ Some (position_or_len (λ p. p.seat == seat) xs)
position_is seat xs lt = grind (arith, common_steps)

pub position_at : (seat : ℕ) (xs : List Post) (i : ℕ) → position (λ p. p.seat == seat) xs ≡ Some i → position_or_len (λ p. p.seat == seat) xs ≡ i
position_at seat xs i e = grind (arith, common_steps)

-- a seat with a post stands among them
pub stands_among : (seat n : ℕ) (log : List Entry) (posts : List Post) (seen : List Entry) (post : Option Ask) (ask : Ask) → IsFollowed log posts seat seen post → seat ≡ n → post ≡ Some ask → position_or_len (λ p. p.seat == n) posts < length posts
stands_among seat n log posts seen post ask g same has =
    let h : IsPosted seat (posts_by seat posts) (Some ask) g.0 = subst (λ z. IsPosted seat (posts_by seat posts) z g.0) has g.2 in
    subst (λ z. position_or_len (λ p. p.seat == z) posts < length posts) same (first_within seat posts h.0 [] h.1)

pub taken_at : (seat : ℕ) (xs : List Post) (i : ℕ) (p : Post) (rest : List Post) → position (λ (p : Post). p.seat == seat) xs ≡ Some i → p ≡ get_or xs i p → rest ≡ take i xs ++ drop (suc i) xs → IsTaken seat xs p rest
taken_at seat xs i p rest at is left =
    let f = position-Some (λ (p : Post). p.seat == seat) xs i p at in
    let own : (p.seat == seat) ≡ true = ap (λ (z : Post). z.seat == seat) is ∙ f.1 in
    (take i xs, drop (suc i) xs, cut_at xs i p f.0 ∙ ap (λ z. take i xs ++ z ∷ drop (suc i) xs) (sym is), left, grind (arith, own))
