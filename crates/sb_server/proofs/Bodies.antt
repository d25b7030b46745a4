-- The lines of a body.
use Rattle.std.proofs.Common.{◌≡◌, ◌≢◌, ◌⊎◌, inl, inr, ℕ, suc, ◌<◌, ◌≤◌, ◌+◌, List, [], ◌∷◌, ◌++◌, length, map, take, drop, Bool, true, false, not, nat_le, ◌&&◌, ◌||◌, ◌==◌, Some, None, Err, position, append_assoc, append-nil, sym, refl, ap, ◌∙◌, subst, arith}
use Rattle.std.specs.Prelude.{if◌then◌else◌}
use Rattle.std.specs.List.{list_any}
use Rattle.std.proofs.lemmas.Bool.{eqb-true}
use Rattle.std.proofs.lemmas.Bool.Decides.{nat_tests}
use Rattle.sb_desk.specs.Lists.{Each}
use Rattle.sb_input.specs.Lines.{onto_first, lines_of, is_blank, NoFeed}
use Rattle.sb_input.proofs.Splits.{lines_of-feed, lines_of-last, position-split, position-none}
use Rattle.sb_lines.specs.Faults.{bad_key}
use Rattle.sb_server.specs.declared.body.LineAsk.{LineAsk}
use Rattle.sb_server.specs.Bodies.{with_feeds, IsNextLine, are_lines, asked_by, line_in, lines_in}

-- up to the first line feed
pub next_is : (text : List ℕ) (at : ℕ) → position (λ b. b == 10) text ≡ Some at → IsNextLine text (take at text) (drop (suc at) text)
next_is text at found =
    let split = position-split text at found in
    ap lines_of split.1 ∙ lines_of-feed (take at text) (drop (suc at) text) split.0

-- all that is left, where there is no line feed
pub last_is : (text : List ℕ) → position (λ b. b == 10) text ≡ None → text ≢ [] → IsNextLine text text []
last_is text none some = lines_of-last text (position-none text none) some

-- ---- how many there are, and whether one is blank

-- so many lines were looked at, and none of them is blank
abbrev pub Looked : List ℕ → ℕ → List ℕ → Type 0
Looked body count rest = (length (lines_of body) ≡ count + length (lines_of rest)) × (list_any is_blank (lines_of body) ≡ list_any is_blank (lines_of rest))

pub looked_none : (body : List ℕ) → Looked body 0 body
looked_none body = (omega arith, refl)

pub looked_next : (body : List ℕ) (count : ℕ) (rest line behind : List ℕ) → Looked body count rest → IsNextLine rest line behind → is_blank line ≡ false → Looked body (count + 1) behind
looked_next body count rest line behind l next full =
    let more : length (lines_of rest) ≡ suc (length (lines_of behind)) = ap length next in
    (omega (arith, l.0, more), l.1 ∙ ap (list_any is_blank) next ∙ ap (λ b. b || list_any is_blank (lines_of behind)) full)

too_many : (n : ℕ) (b : Bool) → 100 < n → (nat_le 1 n && (nat_le n 100 && not b)) ≡ false
too_many n b more = grind (arith, nat_tests, more)

one_blank : (n : ℕ) (b : Bool) → b ≡ true → (nat_le 1 n && (nat_le n 100 && not b)) ≡ false
one_blank n b is = grind (arith, nat_tests, is)

pub refused_many : (body : List ℕ) (count : ℕ) (rest line behind : List ℕ) → Looked body count rest → IsNextLine rest line behind → (100 < suc count) → are_lines (lines_of body) ≡ false
refused_many body count rest line behind l next many =
    let more : length (lines_of rest) ≡ suc (length (lines_of behind)) = ap length next in
    too_many (length (lines_of body)) (list_any is_blank (lines_of body)) (omega (arith, l.0, more, many))

pub refused_blank : (body : List ℕ) (count : ℕ) (rest line behind : List ℕ) → Looked body count rest → IsNextLine rest line behind → is_blank line ≡ true → are_lines (lines_of body) ≡ false
refused_blank body count rest line behind l next blank =
    one_blank (length (lines_of body)) (list_any is_blank (lines_of body)) (l.1 ∙ ap (list_any is_blank) next ∙ ap (λ b. b || list_any is_blank (lines_of behind)) blank)

all_looked : (n : ℕ) (b : Bool) (count : ℕ) → n ≡ count → b ≡ false → count ≤ 100 → (nat_le 1 n && (nat_le n 100 && not b)) ≡ nat_le 1 count
all_looked n b count same none few = grind (arith, nat_tests, same, none, few)

pub taken_all : (body : List ℕ) (count : ℕ) (rest : List ℕ) → Looked body count rest → rest ≡ [] → count ≤ 100 → are_lines (lines_of body) ≡ nat_le 1 count
taken_all body count rest l none few =
    let end : lines_of rest ≡ [] = ap lines_of none in
    let no_more : length (lines_of rest) ≡ 0 = ap length end in
    all_looked (length (lines_of body)) (list_any is_blank (lines_of body)) count (omega (arith, l.0, no_more)) (l.1 ∙ ap (list_any is_blank) end) few

-- ---- what each asks for

abbrev pub each_asked : List (List ℕ) → List LineAsk
each_asked lines = map (λ line. asked_by (line_in line)) lines

pub taken_more : (asks : List LineAsk) (ask : LineAsk) (rest line behind : List ℕ) (all : List LineAsk) → asks ++ each_asked (lines_of rest) ≡ all → IsNextLine rest line behind → ask ≡ asked_by (line_in line)
    → (asks ++ ask ∷ []) ++ each_asked (lines_of behind) ≡ all
taken_more asks ask rest line behind all e next is =
    append_assoc asks (ask ∷ []) (each_asked (lines_of behind))
    ∙ ap (λ (a : LineAsk). asks ++ a ∷ each_asked (lines_of behind)) is
    ∙ ap (λ (l : List (List ℕ)). asks ++ each_asked l) (sym next)
    ∙ e

pub taken_each : (asks : List LineAsk) (rest body : List ℕ) → asks ++ each_asked (lines_of rest) ≡ each_asked (lines_of body) → rest ≡ [] → are_lines (lines_of body) ≡ true → asks ≡ lines_in body
taken_each asks rest body e none are =
    sym (append-nil asks)
    ∙ ap (λ (l : List ℕ). asks ++ each_asked (lines_of l)) (sym none)
    ∙ e
    ∙ sym (ap (λ (b : Bool). if b then each_asked (lines_of body) else asked_by (Err (bad_key None [])) ∷ []) are)

pub refused_all : (body : List ℕ) → are_lines (lines_of body) ≡ false → lines_in body ≡ asked_by (Err (bad_key None [])) ∷ []
refused_all body none = ap (λ (b : Bool). if b then each_asked (lines_of body) else asked_by (Err (bad_key None [])) ∷ []) none

pub each_snoc : {A : Type 0} (P : A → Type 0) (xs : List A) (x : A) → Each P xs → P x → Each P (xs ++ x ∷ [])
each_snoc P [] x e p = (p, tt)
each_snoc P (y ∷ xs) x e p = (e.0, each_snoc P xs x e.1 p)

-- ---- laws

nothing_ends : (bs : List ℕ) → [] ≡ bs ++ 10 ∷ [] → ⊥
nothing_ends [] e = absurd cc
nothing_ends (b ∷ bs) e = absurd cc

abbrev Joins : List (List ℕ) → List ℕ → Type 0
Joins lines body = (with_feeds lines ≡ body) ⊎ (with_feeds lines ≡ body ++ 10 ∷ [])

join_onto : (b : ℕ) (lines : List (List ℕ)) (body : List ℕ) → Joins lines body → Joins (onto_first b lines) (b ∷ body)
join_onto b [] body (inl e) = inr (ap (λ (l : List ℕ). b ∷ (l ++ 10 ∷ [])) e)
join_onto b [] body (inr e) = absurd (nothing_ends body e)
join_onto b (line ∷ lines) body (inl e) = inl (ap (λ (l : List ℕ). b ∷ l) e)
join_onto b (line ∷ lines) body (inr e) = inr (ap (λ (l : List ℕ). b ∷ l) e)

join_feed : (b : ℕ) (lines : List (List ℕ)) (body : List ℕ) → b ≡ 10 → Joins lines body → Joins ([] ∷ lines) (b ∷ body)
join_feed b lines body is (inl e) = inl (ap (λ (l : List ℕ). 10 ∷ l) e ∙ ap (λ (k : ℕ). k ∷ body) (sym is))
join_feed b lines body is (inr e) = inr (ap (λ (l : List ℕ). 10 ∷ l) e ∙ ap (λ (k : ℕ). k ∷ (body ++ 10 ∷ [])) (sym is))

joins_by : (b : ℕ) (body : List ℕ) (t : Bool) → (b == 10) ≡ t → Joins (lines_of body) body → Joins (lines_of (b ∷ body)) (b ∷ body)
joins_by b body true is rest = subst (λ (t : Bool). Joins (if t then [] ∷ lines_of body else onto_first b (lines_of body)) (b ∷ body)) (sym is) (join_feed b (lines_of body) body (eqb-true b 10 is) rest)
joins_by b body false is rest = subst (λ (t : Bool). Joins (if t then [] ∷ lines_of body else onto_first b (lines_of body)) (b ∷ body)) (sym is) (join_onto b (lines_of body) body rest)

pub lines_join : (body : List ℕ) → Joins (lines_of body) body
lines_join [] = inl refl
lines_join (b ∷ body) = joins_by b body (b == 10) refl (lines_join body)

none_onto : (b : ℕ) (lines : List (List ℕ)) → (b == 10) ≡ false → Each NoFeed lines → Each NoFeed (onto_first b lines)
none_onto b [] is each = ((is, tt), tt)
none_onto b (line ∷ lines) is each = ((is, each.0), each.1)

none_by : (b : ℕ) (body : List ℕ) (t : Bool) → (b == 10) ≡ t → Each NoFeed (lines_of body) → Each NoFeed (lines_of (b ∷ body))
none_by b body true is rest = subst (λ (t : Bool). Each NoFeed (if t then [] ∷ lines_of body else onto_first b (lines_of body))) (sym is) (tt, rest)
none_by b body false is rest = subst (λ (t : Bool). Each NoFeed (if t then [] ∷ lines_of body else onto_first b (lines_of body))) (sym is) (none_onto b (lines_of body) is rest)

pub lines_have_no_feed : (body : List ℕ) → Each NoFeed (lines_of body)
lines_have_no_feed [] = tt
lines_have_no_feed (b ∷ body) = none_by b body (b == 10) refl (lines_have_no_feed body)
