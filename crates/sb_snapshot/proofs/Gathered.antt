-- Parts that make a state are those that it has, and the parts of a state make it again.
use Rattle.std.proofs.Common.{◌≡◌, ℕ, suc, ◌<◌, ◌≤◌, Bool, true, false, eqb, List, [], ◌∷◌, ◌++◌, map, take, drop, Option, Some, None, refl, sym, ap, subst, ◌∙◌, append_assoc, arith, inl, inr}
use Rattle.std.specs.List.{flat_map, prefix_len, take_while}
use Rattle.std.proofs.lemmas.Bool.{eqb-true, eq-eqb, ne_eqb, ltb-true, and_parts, and_from, and_right}
use Rattle.sb_machine.specs.Each.{Each}
use Rattle.sb_machine.specs.Namespace.{key_of, leaf_of}
use Rattle.sb_machine.specs.declared.call.Part.{Part}
use Rattle.sb_machine.specs.declared.call.Part.TheVariants.{Main, Dead, Transfer}
use Rattle.sb_machine.specs.declared.change.LeafKey.{LeafKey}
use Rattle.sb_machine.specs.declared.state.Entity.{Entity}
use Rattle.sb_machine.specs.declared.state.Session.{Session}
use Rattle.sb_machine.specs.declared.state.State.{State}
use Rattle.sb_codec.specs.Forms.{Follow}
use Rattle.sb_codec.specs.Pieces.{part_code}
use Rattle.sb_codec.specs.Readers.{◌>>=◌}
use Rattle.sb_codec.proofs.Exact.{bind_some, some_is, chosen}
use Rattle.sb_snapshot.specs.Base.{head_of, placed_leaf, leaves_in, placed_sessions, sessions_in, parts_of, lies_in, front_of, behind, is_part, has_parts, entity_with, entities_with, state_with, gathered}
use Rattle.sb_snapshot.specs.Entities.{head, is_next_head}
use Rattle.sb_snapshot.specs.Sessions.{in_part, is_same_key}
use Rattle.sb_snapshot.specs.declared.parts.EntityHead.{EntityHead}
use Rattle.sb_snapshot.specs.declared.parts.Parts.{Parts}
use Rattle.sb_snapshot.specs.declared.parts.PlacedLeaf.{PlacedLeaf}
use Rattle.sb_snapshot.specs.declared.parts.PlacedSession.{PlacedSession}

-- ---- keys

part_same : (p q : Part) → part_code p ≡ part_code q → p ≡ q
part_same Main Main e = refl
part_same Main Dead e = absurd (omega (arith, e))
part_same Main Transfer e = absurd (omega (arith, e))
part_same Dead Main e = absurd (omega (arith, e))
part_same Dead Dead e = refl
part_same Dead Transfer e = absurd (omega (arith, e))
part_same Transfer Main e = absurd (omega (arith, e))
part_same Transfer Dead e = absurd (omega (arith, e))
part_same Transfer Transfer e = refl

abbrev key_from : ℕ → Part → LeafKey
key_from n p = record { entity = n; part = p }

key_same : (a b : LeafKey) → is_same_key a b ≡ true → a ≡ b
key_same a b e =
    let tests = and_parts (eqb (part_code a.part) (part_code b.part)) (eqb a.entity b.entity) e in
    let numbers : a.entity ≡ b.entity = eqb-true a.entity b.entity tests.1 in
    let kinds : a.part ≡ b.part = part_same a.part b.part (eqb-true (part_code a.part) (part_code b.part) tests.0) in
    ap (λ (n : ℕ). key_from n a.part) numbers ∙ ap (λ (p : Part). key_from b.entity p) kinds

pub key_self : (a : LeafKey) → is_same_key a a ≡ true
key_self a = and_from (eqb (part_code a.part) (part_code a.part)) (eqb a.entity a.entity) (eq-eqb _ _ refl) (eq-eqb _ _ refl)

-- ---- the front of a list

pub front_yes : {X : Type 0} (p : X → Bool) (x : X) (xs : List X) → p x ≡ true → (take_while p (x ∷ xs) ≡ x ∷ take_while p xs) × (drop (prefix_len p (x ∷ xs)) (x ∷ xs) ≡ drop (prefix_len p xs) xs)
front_yes {X} p x xs e =
    let n : prefix_len p (x ∷ xs) ≡ suc (prefix_len p xs) = rw e (omega arith) in
    (ap (λ (k : ℕ). take k (x ∷ xs)) n, ap (λ (k : ℕ). drop k (x ∷ xs)) n)

pub front_no : {X : Type 0} (p : X → Bool) (x : X) (xs : List X) → p x ≡ false → (take_while p (x ∷ xs) ≡ []) × (drop (prefix_len p (x ∷ xs)) (x ∷ xs) ≡ x ∷ xs)
front_no {X} p x xs e =
    let n : prefix_len p (x ∷ xs) ≡ 0 = rw e refl in
    (ap (λ (k : ℕ). take k (x ∷ xs)) n, ap (λ (k : ℕ). drop k (x ∷ xs)) n)

-- sessions with the key of a part
abbrev tagged : LeafKey → List Session → List PlacedSession
tagged key ss = map (in_part key) ss

abbrev untagged : List PlacedSession → List Session
untagged xs = map (λ x. x.session) xs

-- ---- parts that make a state

-- what lies in a part at the front, and what is behind it, is all
retagged : (key k : LeafKey) (xs : List PlacedSession) → key ≡ k → tagged k (untagged (front_of key xs)) ++ behind key xs ≡ xs
retagged key k [] same = refl
retagged key k (x ∷ xs) same = by_test (lies_in key x) refl (retagged key k xs same) where
  by_test : (b : Bool) → lies_in key x ≡ b → tagged k (untagged (front_of key xs)) ++ behind key xs ≡ xs → tagged k (untagged (front_of key (x ∷ xs))) ++ behind key (x ∷ xs) ≡ x ∷ xs
  by_test true e others =
      let f = front_yes (lies_in key) x xs e in
      let own : x.key ≡ k = key_same x.key key e ∙ same in
      let first : in_part k x.session ≡ x = sym (ap (λ (v : LeafKey). in_part v x.session) own) in
      rw (f.0, f.1) (ap (λ (v : PlacedSession). v ∷ (tagged k (untagged (front_of key xs)) ++ behind key xs)) first ∙ ap (λ (v : List PlacedSession). x ∷ v) others)
  by_test false e others =
      let f = front_no (lies_in key) x xs e in
      rw (f.0, f.1) refl

three_fronts : {X : Type 0} (a b c r x1 x2 xs : List X) → a ++ x1 ≡ xs → b ++ x2 ≡ x1 → c ++ r ≡ x2 → (a ++ (b ++ c)) ++ r ≡ xs
three_fronts {X} a b c r x1 x2 xs first second third =
    append_assoc a (b ++ c) r ∙ ap (λ (v : List X). a ++ v) (append_assoc b c r ∙ ap (λ (v : List X). b ++ v) third ∙ second) ∙ first

leaf_same : (l : PlacedLeaf) (k : LeafKey) → is_same_key l.key k ≡ true → record l { key = k } ≡ l
leaf_same l k e = sym (ap (λ (v : LeafKey). record l { key = v }) (key_same l.key k e))

three_leaves : (a b c m d t : PlacedLeaf) (ls ms : List PlacedLeaf) → a ≡ m → b ≡ d → c ≡ t → ls ≡ ms → a ∷ b ∷ c ∷ ls ≡ m ∷ d ∷ t ∷ ms
three_leaves a b c m d t ls ms first second third others = cc

-- the lists that entities come from are those that they are taken apart into
abbrev Apart : List EntityHead → List PlacedLeaf → List PlacedSession → List Entity → Type 0
Apart hs ls xs es = (map head_of es ≡ hs) × (flat_map leaves_in es ≡ ls) × (flat_map sessions_in es ≡ xs)

one_apart : (h : EntityHead) (m d t : PlacedLeaf) (hs : List EntityHead) (ls : List PlacedLeaf) (xs : List PlacedSession) (others : List Entity) → has_parts h m d t ≡ true
    → Apart hs ls (behind t.key (behind d.key (behind m.key xs))) others → Apart (h ∷ hs) (m ∷ d ∷ t ∷ ls) xs (entity_with h m d t xs ∷ others)
one_apart h m d t hs ls xs others tests apart =
    let main = and_parts (is_part h Main m) _ tests in
    let rest = and_parts (is_part h Dead d) (is_part h Transfer t) main.1 in
    let e = entity_with h m d t xs in
    let x1 = behind m.key xs in
    let x2 = behind d.key x1 in
    let x3 = behind t.key x2 in (
      ap (λ (v : List EntityHead). h ∷ v) apart.0,
      three_leaves (placed_leaf e Main) (placed_leaf e Dead) (placed_leaf e Transfer) m d t (flat_map leaves_in others) ls (leaf_same m (key_of Main e) main.0) (leaf_same d (key_of Dead e) rest.0) (leaf_same t (key_of Transfer e) rest.1) apart.1,
      three_fronts (placed_sessions e Main) (placed_sessions e Dead) (placed_sessions e Transfer) (flat_map sessions_in others) x1 x2 xs (retagged m.key (key_of Main e) xs (key_same m.key (key_of Main e) main.0))
          (retagged d.key (key_of Dead e) x1 (key_same d.key (key_of Dead e) rest.0))
          (ap (λ (v : List PlacedSession). placed_sessions e Transfer ++ v) apart.2 ∙ retagged t.key (key_of Transfer e) x2 (key_same t.key (key_of Transfer e) rest.1)),
    )

taken_apart : (hs : List EntityHead) (ls : List PlacedLeaf) (xs : List PlacedSession) (es : List Entity) → entities_with hs ls xs ≡ Some es → Apart hs ls xs es
taken_apart [] [] [] es e = subst (Apart [] [] []) (some_is [] es e) (refl, refl, refl)
taken_apart [] [] (x ∷ xs) es e = absurd cc
taken_apart [] (l ∷ ls) xs es e = absurd cc
taken_apart (h ∷ hs) [] xs es e = absurd cc
taken_apart (h ∷ hs) (m ∷ []) xs es e = absurd cc
taken_apart (h ∷ hs) (m ∷ d ∷ []) xs es e = absurd cc
taken_apart (h ∷ hs) (m ∷ d ∷ t ∷ ls) xs es e =
    let rest = behind t.key (behind d.key (behind m.key xs)) in
    elim (chosen (has_parts h m d t) (entities_with hs ls rest >>= λ others. Some (entity_with h m d t xs ∷ others)) None (Some es) e) [
      | inl g ↦
          let r = bind_some (entities_with hs ls rest) (λ others. Some (entity_with h m d t xs ∷ others)) es g.1 in
          subst (Apart (h ∷ hs) (m ∷ d ∷ t ∷ ls) xs) (some_is (entity_with h m d t xs ∷ r.0) es r.2) (one_apart h m d t hs ls xs r.0 g.0 (taken_apart hs ls rest r.0 r.1))
      | inr g ↦ absurd cc
    ]

same_parts : (salt : ℕ) (p : Parts) (es : List Entity) → Apart p.entities p.leaves p.sessions es → parts_of (state_with salt p es) ≡ p
same_parts salt p es apart =
    ap (λ (v : List EntityHead). record (parts_of (state_with salt p es)) { entities = v }) apart.0
    ∙ ap (λ (v : List PlacedLeaf). record (parts_of (state_with salt p es)) { entities = p.entities; leaves = v }) apart.1
    ∙ ap (λ (v : List PlacedSession). record p { sessions = v }) apart.2

-- parts that make a state are those that it has
pub made_of_parts : (salt : ℕ) (p : Parts) (s : State) → gathered salt p ≡ Some s → (parts_of s ≡ p) × (s.space.salt ≡ salt)
unfolding gathered
made_of_parts salt p s e =
    let r = bind_some (entities_with p.entities p.leaves p.sessions) (λ es. Some (state_with salt p es)) s e in
    subst (λ (v : State). (parts_of v ≡ p) × (v.space.salt ≡ salt)) (some_is (state_with salt p r.0) s r.2) (same_parts salt p r.0 (taken_apart p.entities p.leaves p.sessions r.0 r.1), refl)

-- ---- the parts of a state

-- no session of these lies in the part
abbrev IsNone : LeafKey → List PlacedSession → Type 0
IsNone key xs = Each (λ x. lies_in key x ≡ false) xs

none_both : (key : LeafKey) (xs ys : List PlacedSession) → IsNone key xs → IsNone key ys → IsNone key (xs ++ ys)
none_both key [] ys f g = g
none_both key (x ∷ xs) ys f g = (f.0, none_both key xs ys f.1 g)

none_tagged : (key k : LeafKey) (ss : List Session) → is_same_key k key ≡ false → IsNone key (tagged k ss)
none_tagged key k [] e = tt
none_tagged key k (s ∷ ss) e = (e, none_tagged key k ss e)

-- those in a part stand at the front, where none of it stands behind them
in_front : (key : LeafKey) (ss : List Session) (rest : List PlacedSession) → IsNone key rest → (untagged (front_of key (tagged key ss ++ rest)) ≡ ss) × (behind key (tagged key ss ++ rest) ≡ rest)
in_front key [] [] none = (refl, refl)
in_front key [] (x ∷ rest) none = let f = front_no (lies_in key) x rest none.0 in (ap untagged f.0, f.1)
in_front key (s ∷ ss) rest none =
    let f = front_yes (lies_in key) (in_part key s) (tagged key ss ++ rest) (key_self key) in
    let others = in_front key ss rest none in
    (ap untagged f.0 ∙ ap (λ (v : List Session). s ∷ v) others.0, f.1 ∙ others.1)

-- entities whose numbers are above this one
abbrev AreAbove : ℕ → List Entity → Type 0
AreAbove n es = Each (λ e. n < e.about.number) es

none_of : (key : LeafKey) (es : List Entity) → AreAbove key.entity es → IsNone key (flat_map sessions_in es)
none_of key [] above = tt
none_of key (e ∷ es) above =
    let other : eqb e.about.number key.entity ≡ false = ne_eqb e.about.number key.entity (λ same. omega (arith, same, above.0)) in
    let none : (p : Part) → IsNone key (placed_sessions e p) = λ p. none_tagged key (key_of p e) (leaf_of p e).sessions (and_right (eqb (part_code p) (part_code key.part)) (eqb e.about.number key.entity) other) in
    none_both key (sessions_in e) (flat_map sessions_in es) (none_both key (placed_sessions e Main) _ (none Main) (none_both key (placed_sessions e Dead) (placed_sessions e Transfer) (none Dead) (none Transfer))) (none_of key es above.1)

entity_same : (e : Entity) (xs : List PlacedSession) → untagged (front_of (key_of Main e) xs) ≡ e.main.sessions → untagged (front_of (key_of Dead e) (behind (key_of Main e) xs)) ≡ e.dead.sessions
    → untagged (front_of (key_of Transfer e) (behind (key_of Dead e) (behind (key_of Main e) xs))) ≡ e.transfer.sessions → entity_with (head_of e) (placed_leaf e Main) (placed_leaf e Dead) (placed_leaf e Transfer) xs ≡ e
entity_same e xs main dead transfer =
    ap (λ (v : List Session). record (entity_with (head_of e) (placed_leaf e Main) (placed_leaf e Dead) (placed_leaf e Transfer) xs) { main = record e.main { sessions = v } }) main
    ∙ ap (λ (v : List Session). record (entity_with (head_of e) (placed_leaf e Main) (placed_leaf e Dead) (placed_leaf e Transfer) xs) { main = e.main; dead = record e.dead { sessions = v } }) dead
    ∙ ap (λ (v : List Session). record e { transfer = record e.transfer { sessions = v } }) transfer

one_together : (e : Entity) (hs : List EntityHead) (ls : List PlacedLeaf) (xs : List PlacedSession) (others : List Entity) → entity_with (head_of e) (placed_leaf e Main) (placed_leaf e Dead) (placed_leaf e Transfer) xs ≡ e
    → entities_with hs ls (behind (key_of Transfer e) (behind (key_of Dead e) (behind (key_of Main e) xs))) ≡ Some others
    → entities_with (head_of e ∷ hs) (placed_leaf e Main ∷ placed_leaf e Dead ∷ placed_leaf e Transfer ∷ ls) xs ≡ Some (e ∷ others)
one_together e hs ls xs others own rest =
    let tests : has_parts (head_of e) (placed_leaf e Main) (placed_leaf e Dead) (placed_leaf e Transfer) ≡ true = and_from _ _ (key_self (key_of Main e)) (and_from _ _ (key_self (key_of Dead e)) (key_self (key_of Transfer e))) in
    rw (tests, rest) (ap (λ (v : Entity). Some (v ∷ others)) own)

-- each entity's number is above those before it
abbrev AreApart : List Entity → Type 0
AreApart [] = Unit {0}
AreApart (e ∷ es) = AreAbove e.about.number es × AreApart es

put_together : (es : List Entity) → AreApart es → entities_with (map head_of es) (flat_map leaves_in es) (flat_map sessions_in es) ≡ Some es
put_together [] apart = refl
put_together (e ∷ es) apart =
    let rest = flat_map sessions_in es in
    let m = placed_sessions e Main in
    let d = placed_sessions e Dead in
    let t = placed_sessions e Transfer in
    let above : (p : Part) → IsNone (key_of p e) rest = λ p. none_of (key_of p e) es apart.0 in
    let third = in_front (key_of Transfer e) e.transfer.sessions rest (above Transfer) in
    let second = in_front (key_of Dead e) e.dead.sessions (t ++ rest) (none_both (key_of Dead e) t rest (none_tagged (key_of Dead e) (key_of Transfer e) e.transfer.sessions refl) (above Dead)) in
    let first = in_front (key_of Main e) e.main.sessions (d ++ (t ++ rest))
    (none_both (key_of Main e) d (t ++ rest) (none_tagged (key_of Main e) (key_of Dead e) e.dead.sessions refl) (none_both (key_of Main e) t rest (none_tagged (key_of Main e) (key_of Transfer e) e.transfer.sessions refl) (above Main))) in
    let whole : (m ++ (d ++ t)) ++ rest ≡ m ++ (d ++ (t ++ rest)) = append_assoc m (d ++ t) rest ∙ ap (λ (v : List PlacedSession). m ++ v) (append_assoc d t rest) in
    let step : entities_with (map head_of (e ∷ es)) (flat_map leaves_in (e ∷ es)) (m ++ (d ++ (t ++ rest))) ≡ Some (e ∷ es) =
    one_together e (map head_of es) (flat_map leaves_in es) (m ++ (d ++ (t ++ rest))) es
    (entity_same e (m ++ (d ++ (t ++ rest))) first.0 (rw first.1 second.0) (rw (first.1, second.1) third.0))
    (rw (first.1, second.1, third.1) (put_together es apart.1)) in
    ap (λ (v : List PlacedSession). entities_with (map head_of (e ∷ es)) (flat_map leaves_in (e ∷ es)) v) whole ∙ step

-- heads that rise
abbrev Rise : Option EntityHead → List Entity → Type 0
Rise last es = Follow (λ last x. head.Fits x × (is_next_head last x ≡ true)) last (map head_of es)

above_last : (n : ℕ) (last : EntityHead) (es : List Entity) → n ≤ last.about.number → Rise (Some last) es → AreAbove n es
above_last n last [] le rise = tt
above_last n last (e ∷ es) le rise =
    let less = ltb-true last.about.number e.about.number rise.0.1 in
    (omega (arith, le, less), above_last n (head_of e) es (omega (arith, le, less)) rise.1)

pub apart_since : (last : Option EntityHead) (es : List Entity) → Rise last es → AreApart es
apart_since last [] rise = tt
apart_since last (e ∷ es) rise = (above_last e.about.number (head_of e) es (omega arith) rise.1, apart_since (Some (head_of e)) es rise.1)

-- the parts of a state make it again
pub made_again : (s : State) → AreApart s.space.entities → gathered s.space.salt (parts_of s) ≡ Some s
unfolding gathered
made_again s apart = rw (put_together s.space.entities apart) refl
