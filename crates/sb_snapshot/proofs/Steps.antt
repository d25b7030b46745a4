-- A state put together an entity at a time, as loops do.
use Rattle.std.proofs.Common.{◌≡◌, Bool, true, false, eqb, List, [], ◌∷◌, ◌++◌, length, map, Option, Some, None, refl, sym, ap, subst, ◌∙◌, append_assoc}
use Rattle.std.specs.Prelude.{IfSome, IfNone}
use Rattle.std.proofs.lemmas.Bool.{eqb-true}
use Rattle.std.proofs.lemmas.List.{append-nil, nil_from_length}
use Rattle.sb_machine.specs.declared.change.LeafKey.{LeafKey}
use Rattle.sb_machine.specs.declared.state.Entity.{Entity}
use Rattle.sb_machine.specs.declared.state.Session.{Session}
use Rattle.sb_codec.specs.Readers.{◌>>=◌}
use Rattle.sb_snapshot.specs.Base.{lies_in, front_of, behind, has_parts, entities_with}
use Rattle.sb_snapshot.specs.Gathering.{starts_in, first_entity}
use Rattle.sb_snapshot.specs.declared.parts.EntityHead.{EntityHead}
use Rattle.sb_snapshot.specs.declared.parts.PlacedLeaf.{PlacedLeaf}
use Rattle.sb_snapshot.specs.declared.parts.PlacedSession.{PlacedSession}
use Rattle.sb_snapshot.proofs.Gathered.{front_yes, front_no}

-- ---- by what a call gave

pub by_some : {A : Type 0} (P : A → Type 0) (o : Option A) (x : A) → o ≡ Some x → IfSome o P → P x
by_some {A} P o x e h = subst (λ (v : Option A). IfSome v P) e h

pub by_none : {A : Type 0} (P : Type 0) (o : Option A) → ((x : A) → o ≡ Some x → ⊥) → IfNone o P → P
by_none P None other h = h
by_none P (Some x) other h = absurd (other x refl)

-- ---- sessions

abbrev pub untagged : List PlacedSession → List Session
untagged xs = map (λ x. x.session) xs

-- those taken, before those that are left, are all at the front
abbrev pub Front : LeafKey → List PlacedSession → List Session → List PlacedSession → Type 0
Front key all taken left = (taken ++ untagged (front_of key left) ≡ untagged (front_of key all)) × (behind key left ≡ behind key all)

front_one : (key : LeafKey) (all : List PlacedSession) (taken : List Session) (x : PlacedSession) (xs : List PlacedSession) → starts_in key (x ∷ xs) ≡ true → Front key all taken (x ∷ xs) → Front key all (taken ++ x.session ∷ []) xs
front_one key all taken x xs is so_far =
    let f = front_yes (lies_in key) x xs is in
    (append_assoc taken (x.session ∷ []) (untagged (front_of key xs)) ∙ ap (λ (v : List PlacedSession). taken ++ untagged v) (sym f.0) ∙ so_far.0, sym f.1 ∙ so_far.1)

pub front_next : (key : LeafKey) (all : List PlacedSession) (taken more : List Session) (left : List PlacedSession) (x : PlacedSession) (xs : List PlacedSession) → left ≡ x ∷ xs → starts_in key left ≡ true → more ≡ taken ++ x.session ∷ [] → Front key all taken left → Front key all more xs
front_next key all taken more left x xs e is pushed so_far =
    let one = front_one key all taken x xs (ap (starts_in key) (sym e) ∙ is) (subst (Front key all taken) e so_far) in
    subst (λ (t : List Session). Front key all t xs) (sym pushed) one

pub front_done : (key : LeafKey) (all : List PlacedSession) (taken : List Session) (left : List PlacedSession) → starts_in key left ≡ false → Front key all taken left → (taken ≡ untagged (front_of key all)) × (left ≡ behind key all)
front_done key all taken [] is so_far = (sym (append-nil taken) ∙ so_far.0, so_far.1)
front_done key all taken (x ∷ xs) is so_far =
    let f = front_no (lies_in key) x xs is in
    (sym (append-nil taken) ∙ ap (λ (v : List PlacedSession). taken ++ untagged v) (sym f.0) ∙ so_far.0, sym f.1 ∙ so_far.1)

-- ---- entities

-- those made, before those that are still made, are all
abbrev pub with_made : List Entity → Option (List Entity) → Option (List Entity)
with_made made read = read >>= λ others. Some (made ++ others)

by_steps : (e : EntityHead) (es : List EntityHead) (ls : List PlacedLeaf) (xs : List PlacedSession) → entities_with (e ∷ es) ls xs ≡ (first_entity e ls xs >>= λ y. entities_with es y.1.0 y.1.1 >>= λ others. Some (y.0 ∷ others))
by_steps e es [] xs = refl
by_steps e es (m ∷ []) xs = refl
by_steps e es (m ∷ d ∷ []) xs = refl
by_steps e es (m ∷ d ∷ t ∷ ls) xs = by_test (has_parts e m d t) refl where
  by_test : (b : Bool) → has_parts e m d t ≡ b → entities_with (e ∷ es) (m ∷ d ∷ t ∷ ls) xs ≡ (first_entity e (m ∷ d ∷ t ∷ ls) xs >>= λ y. entities_with es y.1.0 y.1.1 >>= λ others. Some (y.0 ∷ others))
  by_test true is = rw is refl
  by_test false is = rw is refl

regroup : (made : List Entity) (e : Entity) (read : Option (List Entity)) → with_made (made ++ e ∷ []) read ≡ with_made made (read >>= λ others. Some (e ∷ others))
regroup made e None = refl
regroup made e (Some others) = ap (λ (v : List Entity). Some v) (append_assoc made (e ∷ []) others)

pub made_next : (made more : List Entity) (left : List EntityHead) (h : EntityHead) (hs : List EntityHead) (ls ms : List PlacedLeaf) (xs ys : List PlacedSession) (e : Entity) (all : Option (List Entity)) → left ≡ h ∷ hs → first_entity h ls xs ≡ Some (e, (ms, ys)) → more ≡ made ++ e ∷ []
    → with_made made (entities_with left ls xs) ≡ all → with_made more (entities_with hs ms ys) ≡ all
made_next made more left h hs ls ms xs ys e all first step pushed so_far =
    let whole : entities_with (h ∷ hs) ls xs ≡ (entities_with hs ms ys >>= λ others. Some (e ∷ others)) = by_steps h hs ls xs ∙ rw step refl in
    ap (λ (m : List Entity). with_made m (entities_with hs ms ys)) pushed ∙ regroup made e (entities_with hs ms ys) ∙ ap (with_made made) (sym whole) ∙ ap (λ (l : List EntityHead). with_made made (entities_with l ls xs)) (sym first) ∙ so_far

pub made_none : (made : List Entity) (left : List EntityHead) (h : EntityHead) (hs : List EntityHead) (ls : List PlacedLeaf) (xs : List PlacedSession) (all : Option (List Entity)) → left ≡ h ∷ hs → first_entity h ls xs ≡ None → with_made made (entities_with left ls xs) ≡ all → None ≡ all
made_none made left h hs ls xs all first step so_far =
    let whole : entities_with (h ∷ hs) ls xs ≡ None = by_steps h hs ls xs ∙ rw step refl in
    ap (with_made made) (sym whole) ∙ ap (λ (l : List EntityHead). with_made made (entities_with l ls xs)) (sym first) ∙ so_far

pub made_all : (made : List Entity) (ls : List PlacedLeaf) (xs : List PlacedSession) (all : Option (List Entity)) → eqb (length ls) 0 ≡ true → eqb (length xs) 0 ≡ true → with_made made (entities_with [] ls xs) ≡ all → Some made ≡ all
made_all made ls xs all no_leaves no_sessions so_far =
    let leaves : ls ≡ [] = nil_from_length ls (eqb-true _ _ no_leaves) in
    let sessions : xs ≡ [] = nil_from_length xs (eqb-true _ _ no_sessions) in
    let whole : entities_with [] ls xs ≡ Some [] = rw (leaves, sessions) refl in
    ap (λ (v : List Entity). Some v) (sym (append-nil made)) ∙ ap (with_made made) (sym whole) ∙ so_far

pub leaves_left : (made : List Entity) (ls : List PlacedLeaf) (xs : List PlacedSession) (all : Option (List Entity)) → eqb (length ls) 0 ≡ false → with_made made (entities_with [] ls xs) ≡ all → None ≡ all
leaves_left made [] xs all some so_far = absurd (let bad : true ≡ false = some in cc)
leaves_left made (l ∷ ls) xs all some so_far = so_far

pub sessions_left : (made : List Entity) (ls : List PlacedLeaf) (xs : List PlacedSession) (all : Option (List Entity)) → eqb (length xs) 0 ≡ false → with_made made (entities_with [] ls xs) ≡ all → None ≡ all
sessions_left made ls [] all some so_far = absurd (let bad : true ≡ false = some in cc)
sessions_left made [] (x ∷ xs) all some so_far = so_far
sessions_left made (l ∷ ls) (x ∷ xs) all some so_far = so_far
