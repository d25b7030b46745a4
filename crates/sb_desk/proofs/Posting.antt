-- Posts by seat: what stays of them as one is added or taken out, and what a group that is carried out does to them.
use Rattle.std.proofs.Common.{◌≡◌, ◌≢◌, ◌⊎◌, ⊎_elim, inl, inr, ℕ, suc, ◌<◌, ◌==◌, List, [], ◌∷◌, ◌++◌, length, map, filter, cond, Bool, true, false, All, sym, refl, ap, ◌∙◌, subst, arith, append_assoc, append-nil, length-append, Option, Some, None}
use mathlib.Core.Logic.{dite}
use native.Mathlib.Decide.{ℕ_discrete}
use Rattle.std.proofs.lemmas.List.Elements.{filter-append, All-head, All-tail}
use Rattle.sb_machine.specs.declared.history.Entry.{Entry}
use Rattle.sb_desk.specs.declared.post.Post.{Post}
use Rattle.sb_desk.specs.declared.post.Went.{Went}
use Rattle.sb_desk.specs.declared.view.Ask.{Ask}
use Rattle.sb_desk.specs.Entries.{entries_by, made_by}
use Rattle.sb_desk.specs.Groups.{posts_by, asked_by, HasOwn, IsPosted, IsFollowed, AreCarriedOut, IsTaken}
use Rattle.sb_desk.specs.Lists.{HaveSeatsBelow}
use Rattle.sb_desk.specs.Posts.{Asked, asked_of, went_entries, post_entries, group_entries}
use Rattle.sb_desk.specs.Steps.{last_ask}
use Rattle.sb_desk.proofs.Logs.{by_append, by_other, by_same, below_append, below_made}

-- ---- filters

map_filter : {A B : Type 0} (f : A → B) (test : B → Bool) (xs : List A) → map f (filter (λ x. test (f x)) xs) ≡ filter test (map f xs)
map_filter f test [] = refl
map_filter {A} {B} f test (x ∷ xs) = at (test (f x)) (map_filter f test xs)
  where
    at : (b : Bool) → map f (filter (λ x. test (f x)) xs) ≡ filter test (map f xs) → map f (cond b (x ∷ filter (λ x. test (f x)) xs) (filter (λ x. test (f x)) xs)) ≡ cond b (f x ∷ filter test (map f xs)) (filter test (map f xs))
    at true next = ap (λ z. f x ∷ z) next
    at false next = next

-- ---- the posts of one seat

pub posts_append : (seat : ℕ) (xs ys : List Post) → posts_by seat (xs ++ ys) ≡ posts_by seat xs ++ posts_by seat ys
posts_append seat xs ys = filter-append (λ (p : Post). p.seat == seat) xs ys

pub posts_mine : (seat : ℕ) (p : Post) (ps : List Post) → p.seat ≡ seat → posts_by seat (p ∷ ps) ≡ p ∷ posts_by seat ps
posts_mine seat p ps e = grind (arith)

pub posts_else : (seat : ℕ) (p : Post) (ps : List Post) → p.seat ≢ seat → posts_by seat (p ∷ ps) ≡ posts_by seat ps
posts_else seat p ps e = grind (arith)

-- what of a list stays for the other seats, as one post is added or taken out
pub posts_added : (seat : ℕ) (ps : List Post) (p : Post) → seat ≢ p.seat → posts_by seat (ps ++ p ∷ []) ≡ posts_by seat ps
posts_added seat ps p ne = posts_append seat ps (p ∷ []) ∙ (ap (λ z. posts_by seat ps ++ z) (posts_else seat p [] (λ e. ne (sym e))) ∙ append-nil (posts_by seat ps))

pub posts_taken : (seat : ℕ) (a b : List Post) (p : Post) → seat ≢ p.seat → posts_by seat (a ++ b) ≡ posts_by seat (a ++ p ∷ b)
posts_taken seat a b p ne = posts_append seat a b ∙ (ap (λ z. posts_by seat a ++ z) (sym (posts_else seat p b (λ e. ne (sym e)))) ∙ sym (posts_append seat a (p ∷ b)))

abbrev tail_of : List Post → List Post
tail_of [] = []
tail_of (z ∷ zs) = zs

abbrev head_or : Post → List Post → Post
head_or d [] = d
head_or d (x ∷ xs) = x

never_empty : (xs ys : List Post) (p : Post) → xs ++ p ∷ ys ≡ [] → ⊥
never_empty [] ys p e = absurd cc
never_empty (x ∷ xs) ys p e = absurd cc

empty_after : (xs ys : List Post) (p q : Post) → xs ++ p ∷ ys ≡ q ∷ [] → xs ++ ys ≡ []
empty_after [] ys p q e = ap tail_of e
empty_after (x ∷ xs) ys p q e = absurd (never_empty xs ys p (ap tail_of e))

only_one : (xs ys : List Post) (p q : Post) → xs ++ p ∷ ys ≡ q ∷ [] → p ≡ q
only_one [] ys p q e = ap (head_or p) e
only_one (x ∷ xs) ys p q e = absurd (never_empty xs ys p (ap tail_of e))

own_among : (seat : ℕ) (a b : List Post) (p q : Post) → p.seat ≡ seat → posts_by seat (a ++ p ∷ b) ≡ q ∷ [] → posts_by seat a ++ p ∷ posts_by seat b ≡ q ∷ []
own_among seat a b p q is e = ap (λ z. posts_by seat a ++ z) (sym (posts_mine seat p b is)) ∙ (sym (posts_append seat a (p ∷ b)) ∙ e)

-- the only post of a seat is gone
pub posts_gone : (seat : ℕ) (a b : List Post) (p q : Post) → p.seat ≡ seat → posts_by seat (a ++ p ∷ b) ≡ q ∷ [] → posts_by seat (a ++ b) ≡ []
posts_gone seat a b p q is e = posts_append seat a b ∙ empty_after (posts_by seat a) (posts_by seat b) p q (own_among seat a b p q is e)

-- the post that is taken is the only one
pub taken_is : (seat : ℕ) (posts rest : List Post) (p q : Post) → IsTaken seat posts p rest → posts_by seat posts ≡ q ∷ [] → p ≡ q
taken_is seat posts rest p q t e = only_one (posts_by seat t.0) (posts_by seat t.1) p q (own_among seat t.0 t.1 p q t.4 (ap (posts_by seat) (sym t.2) ∙ e))

pub last_is : (ps : List Post) (p : Post) → last_ask (ps ++ p ∷ []) ≡ Some (record { reading = p.reading; call = p.call })
last_is [] p = refl
last_is (x ∷ []) p = refl
last_is (x ∷ y ∷ ps) p = last_is (y ∷ ps) p

-- ---- how the facts of a seat's post go from one history and list of posts to another

-- what holds of a seat's post behind a history holds of it behind a longer one
abbrev pub Keeps : List Post → List Post → List Entry → ℕ → Type 0
Keeps posts next made seat = (o : Option Ask) (rest : List Entry) → IsPosted seat (posts_by seat posts) o rest → IsPosted seat (posts_by seat next) o (rest ++ made)

pub same_keeps : (posts next : List Post) (seat : ℕ) → posts_by seat next ≡ posts_by seat posts → Keeps posts next [] seat
same_keeps posts next seat same o rest h = subst (λ (z : List Post × List Entry). IsPosted seat z.0 o z.1) (λ i. (sym same i, sym (append-nil rest) i)) h

pub followed_later : (log : List Entry) (posts next : List Post) (seat : ℕ) (seen more : List Entry) (post : Option Ask) → Keeps posts next more seat → IsFollowed log posts seat seen post → IsFollowed (log ++ more) next seat seen post
followed_later log posts next seat seen more post keep g = (g.0 ++ more, ap (λ l. l ++ more) g.1 ∙ append_assoc seen g.0 more, keep post g.0 g.2)

-- ---- the entries of a group

post_mine : (p : Post) → entries_by p.seat (post_entries p) ≡ post_entries p
post_mine p = of p.went
  where
    of : (w : Option Went) → entries_by p.seat (went_entries p.seat p.reading p.call w) ≡ went_entries p.seat p.reading p.call w
    of None = refl
    of (Some w) = by_same p.seat w.tick p.reading p.call w.answer

post_silent : (seat : ℕ) (p : Post) → seat ≢ p.seat → entries_by seat (post_entries p) ≡ []
post_silent seat p ne = of p.went
  where
    of : (w : Option Went) → entries_by seat (went_entries p.seat p.reading p.call w) ≡ []
    of None = refl
    of (Some w) = by_other p.seat seat w.tick p.reading p.call w.answer ne

post_below : (passes : ℕ) (p : Post) → p.seat < passes → HaveSeatsBelow passes (post_entries p)
post_below passes p lt = of p.went
  where
    of : (w : Option Went) → HaveSeatsBelow passes (went_entries p.seat p.reading p.call w)
    of None = tt
    of (Some w) = below_made passes p.seat w.tick p.reading p.call w.answer lt

cons_not_empty : (p : Post) (ps : List Post) → p ∷ ps ≡ [] → ⊥
cons_not_empty p ps e = absurd cc

-- who has no post in a group has no entry of it
pub group_silent : (seat : ℕ) (ps : List Post) → posts_by seat ps ≡ [] → entries_by seat (group_entries ps) ≡ []
group_silent seat [] none = refl
group_silent seat (p ∷ ps) none = dite (ℕ_discrete p.seat seat)
    (λ is. absurd (cons_not_empty p (posts_by seat ps) (sym (posts_mine seat p ps is) ∙ none)))
    (λ isnt. by_append seat (post_entries p) (group_entries ps)
    ∙ (ap (λ z. z ++ entries_by seat (group_entries ps)) (post_silent seat p (λ e. isnt (sym e))) ∙ group_silent seat ps (sym (posts_else seat p ps isnt) ∙ none)))

-- who has one post in a group has the entries of this one
pub group_own : (seat : ℕ) (ps : List Post) (q : Post) → posts_by seat ps ≡ q ∷ [] → HasOwn seat (post_entries q) (group_entries ps)
group_own seat [] q e = absurd (cons_not_empty q [] (sym e))
group_own seat (p ∷ ps) q e = dite (ℕ_discrete p.seat seat)
    (λ is.
    let own : p ∷ posts_by seat ps ≡ q ∷ [] = sym (posts_mine seat p ps is) ∙ e in
    let same : p ≡ q = ap (head_or p) own in
    ([], group_entries ps, ap (λ (z : Post). post_entries z ++ group_entries ps) same, refl, group_silent seat ps (ap tail_of own)))
    (λ isnt.
    let next = group_own seat ps q (sym (posts_else seat p ps isnt) ∙ e) in (
      post_entries p ++ next.0,
      next.1,
      ap (λ z. post_entries p ++ z) next.2 ∙ (sym (append_assoc (post_entries p) (next.0 ++ post_entries q) next.1) ∙ ap (λ z. z ++ next.1) (sym (append_assoc (post_entries p) next.0 (post_entries q)))),
      by_append seat (post_entries p) next.0 ∙ (ap (λ z. z ++ entries_by seat next.0) (post_silent seat p (λ e. isnt (sym e))) ∙ next.3),
      next.4,
    ))

pub group_below : (passes : ℕ) (ps : List Post) → All (λ p. p.seat < passes) ps → HaveSeatsBelow passes (group_entries ps)
group_below passes [] all = tt
group_below passes (p ∷ ps) all = below_append passes (post_entries p) (group_entries ps) (post_below passes p (All-head (λ p. p.seat < passes) p ps all)) (group_below passes ps (All-tail (λ p. p.seat < passes) p ps all))

-- ---- a group that is carried out

asked_own : (seat : ℕ) (ps : List Post) → map asked_of (posts_by seat ps) ≡ filter (λ (a : Asked). a.seat == seat) (map asked_of ps)
asked_own seat ps = map_filter asked_of (λ (a : Asked). a.seat == seat) ps

same_asked : (seat : ℕ) (new old : List Post) → map asked_of new ≡ map asked_of old → map asked_of (posts_by seat new) ≡ map asked_of (posts_by seat old)
same_asked seat new old e = asked_own seat new ∙ (ap (filter (λ (a : Asked). a.seat == seat)) e ∙ sym (asked_own seat old))

map_none : (ps : List Post) → map asked_of ps ≡ [] → ps ≡ []
map_none [] e = refl
map_none (p ∷ ps) e = absurd cc

map_one : (ps : List Post) (a : Asked) → map asked_of ps ≡ a ∷ [] → (q : Post) × (ps ≡ q ∷ []) × (asked_of q ≡ a)
map_one [] a e = absurd cc
map_one (q ∷ ps) a e = (q, ap (λ z. q ∷ z) (map_none ps (ap tail_asked e)), ap (head_asked a) e)
  where
    tail_asked : List Asked → List Asked
    tail_asked [] = []
    tail_asked (x ∷ xs) = xs

    head_asked : Asked → List Asked → Asked
    head_asked d [] = d
    head_asked d (x ∷ xs) = x

-- a seat's only post stands in one of two lists
one_of_two : (xs ys : List Post) (p : Post) → xs ++ ys ≡ p ∷ [] → ((xs ≡ p ∷ []) × (ys ≡ [])) ⊎ ((xs ≡ []) × (ys ≡ p ∷ []))
one_of_two [] ys p e = inr (refl, e)
one_of_two (x ∷ xs) ys p e = let none = empty_both xs ys (ap tail_of e) in inl (ap (λ z. z ∷ xs) (ap (head_or x) e) ∙ ap (λ z. p ∷ z) none.0, none.1)
  where
    empty_both : (xs ys : List Post) → xs ++ ys ≡ [] → (xs ≡ []) × (ys ≡ [])
    empty_both [] ys e = (refl, e)
    empty_both (x ∷ xs) ys e = absurd cc

-- its entries are none while it waits
waiting_none : (seat : ℕ) (ps : List Post) (p : Post) → All (λ p. p.went ≡ None) ps → posts_by seat ps ≡ p ∷ [] → post_entries p ≡ []
waiting_none seat [] p all e = absurd (cons_not_empty p [] (sym e))
waiting_none seat (x ∷ xs) p all e = dite (ℕ_discrete x.seat seat)
    (λ is. let same : x ≡ p = ap (head_or x) (sym (posts_mine seat x xs is) ∙ e) in ap post_entries (sym same) ∙ ap (went_entries x.seat x.reading x.call) (All-head (λ (p : Post). p.went ≡ None) x xs all))
    (λ isnt. waiting_none seat xs p (All-tail (λ (p : Post). p.went ≡ None) x xs all) (sym (posts_else seat x xs isnt) ∙ e))

-- others' entries behind one's own
own_before : (seat : ℕ) (own all made : List Entry) → HasOwn seat own all → entries_by seat made ≡ [] → HasOwn seat own (all ++ made)
own_before seat own all made h none =
    (h.0, h.1 ++ made, ap (λ z. z ++ made) h.2 ∙ append_assoc (h.0 ++ own) h.1 made, h.3, by_append seat h.1 made ∙ (ap (λ z. z ++ entries_by seat made) h.4 ∙ none))

-- others' entries before one's own
own_behind : (seat : ℕ) (own all made : List Entry) → entries_by seat all ≡ [] → HasOwn seat own made → HasOwn seat own (all ++ made)
own_behind seat own all made none h = (
  all ++ h.0,
  h.1,
  ap (λ z. all ++ z) h.2 ∙ (sym (append_assoc all (h.0 ++ own) h.1) ∙ ap (λ z. z ++ h.1) (sym (append_assoc all h.0 own))),
  by_append seat all h.0 ∙ (ap (λ z. z ++ entries_by seat h.0) none ∙ h.3),
  h.4,
)

-- who waits has no entries of its own behind what it has seen
none_yet : (seat : ℕ) (own all : List Entry) → own ≡ [] → HasOwn seat own all → entries_by seat all ≡ []
none_yet seat own all none h =
    let whole : all ≡ h.0 ++ h.1 = h.2 ∙ ap (λ z. z ++ h.1) (ap (λ z. h.0 ++ z) none ∙ append-nil h.0) in
    ap (entries_by seat) whole ∙ (by_append seat h.0 h.1 ∙ (ap (λ z. z ++ entries_by seat h.1) h.3 ∙ h.4))

-- a group answers a seat's post where it waits, and leaves it where it doesn't
carried_by : (seat : ℕ) (first old new : List Post) (o : Option Ask) (rest : List Entry) → map asked_of new ≡ map asked_of old → All (λ p. p.went ≡ None) old
    → IsPosted seat (posts_by seat first ++ posts_by seat old) o rest → IsPosted seat (posts_by seat first ++ posts_by seat new) o (rest ++ group_entries new)
carried_by seat first old new None rest asked waiting h =
    let none = empty_both (posts_by seat first) (posts_by seat old) h.0 in
    let new_none : posts_by seat new ≡ [] = map_none (posts_by seat new) (same_asked seat new old asked ∙ ap (map asked_of) none.1) in
    ((λ i. none.0 i ++ new_none i), by_append seat rest (group_entries new) ∙ (ap (λ z. z ++ entries_by seat (group_entries new)) h.1 ∙ group_silent seat new new_none))
  where
    empty_both : (xs ys : List Post) → xs ++ ys ≡ [] → (xs ≡ []) × (ys ≡ [])
    empty_both [] ys e = (refl, e)
    empty_both (x ∷ xs) ys e = absurd cc
carried_by seat first old new (Some ask) rest asked waiting h = ⊎_elim
    (λ (t : (posts_by seat first ≡ h.0 ∷ []) × (posts_by seat old ≡ [])).
    let new_none : posts_by seat new ≡ [] = map_none (posts_by seat new) (same_asked seat new old asked ∙ ap (map asked_of) t.1) in
    (h.0, (λ i. t.0 i ++ new_none i), h.2, own_before seat (post_entries h.0) rest (group_entries new) h.3 (group_silent seat new new_none)))
    (λ (t : (posts_by seat first ≡ []) × (posts_by seat old ≡ h.0 ∷ [])).
    let q = map_one (posts_by seat new) (asked_of h.0) (same_asked seat new old asked ∙ ap (map asked_of) t.1) in
    let quiet : entries_by seat rest ≡ [] = none_yet seat (post_entries h.0) rest (waiting_none seat old h.0 waiting t.1) h.3 in
    (q.0, (λ i. t.0 i ++ q.1 i), q.2 ∙ h.2, own_behind seat (post_entries q.0) rest (group_entries new) quiet (group_own seat new q.0 q.1)))
    (one_of_two (posts_by seat first) (posts_by seat old) h.0 h.1)

pub carried_keeps : (posts next : List Post) (made : List Entry) → AreCarriedOut posts next made → (seat : ℕ) → Keeps posts next made seat
carried_keeps posts next made c seat o rest h =
    let old : posts_by seat posts ≡ posts_by seat c.first ++ posts_by seat c.old = ap (posts_by seat) c.before ∙ posts_append seat c.first c.old in
    let new : posts_by seat next ≡ posts_by seat c.first ++ posts_by seat c.new = ap (posts_by seat) c.after ∙ posts_append seat c.first c.new in
    subst (λ (z : List Post × List Entry). IsPosted seat z.0 o (rest ++ z.1)) (λ i. (sym new i, sym c.entries i))
    (carried_by seat c.first c.old c.new o rest c.asked c.waiting (subst (λ z. IsPosted seat z o rest) old h))

same_long : (new old : List Post) → map asked_of new ≡ map asked_of old → length new ≡ length old
same_long [] [] e = refl
same_long [] (y ∷ ys) e = absurd cc
same_long (x ∷ xs) [] e = absurd cc
same_long (x ∷ xs) (y ∷ ys) e = ap suc (same_long xs ys (ap tail_asked e))
  where
    tail_asked : List Asked → List Asked
    tail_asked [] = []
    tail_asked (x ∷ xs) = xs

pub carried_length : (posts next : List Post) (made : List Entry) → AreCarriedOut posts next made → length next ≡ length posts
carried_length posts next made c =
    let same : length c.new ≡ length c.old = same_long c.new c.old c.asked in
    omega (arith, same, ap length c.before, ap length c.after, length-append c.first c.old, length-append c.first c.new)

-- ---- the post that a seat takes

-- what it has come to
pub own_entries : (p q : Post) (seat : ℕ) (ask : Ask) (w : Went) → p ≡ q → asked_of q ≡ asked_by seat ask → p.went ≡ Some w → (post_entries q ≡ made_by seat w.tick ask.reading ask.call w.answer) × (p.call ≡ ask.call)
own_entries p q seat ask w same asked went =
    let is : asked_of p ≡ asked_by seat ask = ap asked_of same ∙ asked in (
      ap post_entries (sym same) ∙ (ap (went_entries p.seat p.reading p.call) went ∙ ap (λ (a : Asked). made_by a.seat w.tick a.reading a.call w.answer) is),
      ap (λ (a : Asked). a.call) is,
    )
