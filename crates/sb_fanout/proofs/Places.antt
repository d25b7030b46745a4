-- A part of one entity changed: what is listed, and the last numbers then.
use Rattle.std.proofs.Common.{◌≡◌, ℕ, ◌+◌, Bool, true, false, cond, List, [], ◌∷◌, map, Option, Some, None, refl, ap, sym, ◌∙◌, arith, subst}
use Rattle.std.specs.Prelude.{find, ◌==◌, ◌&&◌, ◌||◌}
use Rattle.std.specs.Option.{option_map}
use Rattle.std.proofs.lemmas.Bool.Decides.{nat_tests}
use Rattle.sb_machine.specs.Keyed.{changed}
use Rattle.sb_machine.specs.Names.{is_same_part}
use Rattle.sb_machine.specs.Namespace.{is_entity, leaf_of, with_leaf, last_in}
use Rattle.sb_machine.specs.declared.call.Part.{Part}
use Rattle.sb_machine.specs.declared.call.Part.TheVariants.{Main, Dead, Transfer}
use Rattle.sb_machine.specs.declared.change.LeafKey.{LeafKey}
use Rattle.sb_machine.specs.declared.state.Entity.{Entity}
use Rattle.sb_machine.specs.declared.state.Leaf.{Leaf}
use Rattle.sb_machine.specs.declared.state.Listed.{Listed}
use Rattle.sb_fanout.specs.Lasts.{is_key, is_listed}

pub same_number : (m n : ℕ) → (m == n) ≡ true → m ≡ n
same_number m n e = grind (arith, nat_tests)

-- ---- one entity in the place of another of the same number

abbrev pub KeepsAbout : (Entity → Entity) → Type 0
KeepsAbout f = (e : Entity) → (f e).about ≡ e.about

abbrev pub one_changed : ℕ → (Entity → Entity) → List Entity → List Entity
one_changed n f es = changed (is_entity n) (λ e. f e ∷ []) es

pub abouts_kept : (n : ℕ) (f : Entity → Entity) → KeepsAbout f → (es : List Entity) → map (λ e. e.about) (one_changed n f es) ≡ map (λ e. e.about) es
abouts_kept n f keeps [] = refl
abouts_kept n f keeps (e ∷ es) = go (is_entity n e) (abouts_kept n f keeps es)
  where
    go : (b : Bool) → map (λ x. x.about) (one_changed n f es) ≡ map (λ x. x.about) es → map (λ x. x.about) (cond b (f e ∷ es) (e ∷ one_changed n f es)) ≡ e.about ∷ map (λ x. x.about) es
    go true rest = ap (λ (a : Listed). a ∷ map (λ (x : Entity). x.about) es) (keeps e)
    go false rest = ap (λ (abouts : List Listed). e.about ∷ abouts) rest

pub find_here : (n : ℕ) (f : Entity → Entity) → KeepsAbout f → (es : List Entity) → find (is_entity n) (one_changed n f es) ≡ option_map f (find (is_entity n) es)
find_here n f keeps [] = refl
find_here n f keeps (e ∷ es) = go (is_entity n e) refl (find_here n f keeps es)
  where
    go : (b : Bool) → is_entity n e ≡ b → find (is_entity n) (one_changed n f es) ≡ option_map f (find (is_entity n) es) → find (is_entity n) (cond b (f e ∷ es) (e ∷ one_changed n f es)) ≡ option_map f (cond b (Some e) (find (is_entity n) es))
    go true is rest = ap (λ (b : Bool). cond b (Some (f e)) (find (is_entity n) es)) (ap (λ (a : Listed). a.number == n) (keeps e) ∙ is)
    go false is rest = ap (λ (b : Bool). cond b (Some e) (find (is_entity n) (one_changed n f es))) is ∙ rest

pub find_apart : (n m : ℕ) (f : Entity → Entity) → KeepsAbout f → (n == m) ≡ false → (es : List Entity) → find (is_entity m) (one_changed n f es) ≡ find (is_entity m) es
find_apart n m f keeps apart [] = refl
find_apart n m f keeps apart (e ∷ es) = go (is_entity n e) refl (find_apart n m f keeps apart es)
  where
    go : (b : Bool) → is_entity n e ≡ b → find (is_entity m) (one_changed n f es) ≡ find (is_entity m) es → find (is_entity m) (cond b (f e ∷ es) (e ∷ one_changed n f es)) ≡ find (is_entity m) (e ∷ es)
    go true is rest =
        let fails : is_entity m e ≡ false = ap (λ (k : ℕ). k == m) (same_number e.about.number n is) ∙ apart in
        let after : is_entity m (f e) ≡ false = ap (λ (a : Listed). a.number == m) (keeps e) ∙ fails in
        ap (λ (b : Bool). cond b (Some (f e)) (find (is_entity m) es)) after ∙ sym (ap (λ (b : Bool). cond b (Some e) (find (is_entity m) es)) fails)
    go false is rest = ap (λ (o : Option Entity). cond (is_entity m e) (Some e) o) rest

pub none_listed : (n : ℕ) (es : List Entity) → find (is_entity n) es ≡ None → is_listed n (map (λ e. e.about) es) ≡ false
none_listed n [] none = refl
none_listed n (e ∷ es) none = go (is_entity n e) refl (none_listed n es)
  where
    go : (b : Bool) → is_entity n e ≡ b → (find (is_entity n) es ≡ None → is_listed n (map (λ x. x.about) es) ≡ false) → is_listed n (map (λ x. x.about) (e ∷ es)) ≡ false
    go true is rest =
        let found : Some e ≡ None = rw is at none in
        absurd cc
    go false is rest = ap (λ (b : Bool). b || is_listed n (map (λ (x : Entity). x.about) es)) is ∙ rest (rw is at none)

-- ---- one part of an entity

pub leaf_here : (part : Part) (leaf : Leaf) (e : Entity) → leaf_of part (with_leaf part leaf e) ≡ leaf
leaf_here Main leaf e = refl
leaf_here Dead leaf e = refl
leaf_here Transfer leaf e = refl

pub leaf_apart : (part other : Part) (leaf : Leaf) (e : Entity) → is_same_part part other ≡ false → leaf_of other (with_leaf part leaf e) ≡ leaf_of other e
leaf_apart Main Main leaf e apart = absurd cc
leaf_apart Dead Dead leaf e apart = absurd cc
leaf_apart Transfer Transfer leaf e apart = absurd cc
leaf_apart Main Dead leaf e apart = refl
leaf_apart Main Transfer leaf e apart = refl
leaf_apart Dead Main leaf e apart = refl
leaf_apart Dead Transfer leaf e apart = refl
leaf_apart Transfer Main leaf e apart = refl
leaf_apart Transfer Dead leaf e apart = refl

pub same_parts : (a b : Part) → is_same_part a b ≡ true → a ≡ b
same_parts Main Main e = refl
same_parts Dead Dead e = refl
same_parts Transfer Transfer e = refl
same_parts Main Dead e = absurd cc
same_parts Main Transfer e = absurd cc
same_parts Dead Main e = absurd cc
same_parts Dead Transfer e = absurd cc
same_parts Transfer Main e = absurd cc
same_parts Transfer Dead e = absurd cc

pub about_kept : (part : Part) (leaf : Leaf) (e : Entity) → (with_leaf part leaf e).about ≡ e.about
about_kept Main leaf e = refl
about_kept Dead leaf e = refl
about_kept Transfer leaf e = refl

-- ---- the last numbers behind a change that gives one number

abbrev pub Raises : (Leaf → Leaf) → Type 0
Raises g = (leaf : Leaf) → (g leaf).last ≡ leaf.last + 1

abbrev pub in_leaf : Part → (Leaf → Leaf) → Entity → Entity
in_leaf part g e = with_leaf part (g (leaf_of part e)) e

abbrev pub last_of_key : LeafKey → List Entity → ℕ
last_of_key key es = last_in key.part (find (is_entity key.entity) es)

last_there : (part other : Part) (g : Leaf → Leaf) (b : Bool) → Raises g → is_same_part part other ≡ b → (e : Entity) → last_in other (Some (in_leaf part g e)) ≡ cond b (last_in other (Some e) + 1) (last_in other (Some e))
last_there part other g true raises same e =
    let parts : part ≡ other = same_parts part other same in
    subst (λ (p : Part). last_in p (Some (in_leaf part g e)) ≡ last_in p (Some e) + 1) parts (ap (λ (leaf : Leaf). leaf.last) (leaf_here part (g (leaf_of part e)) e) ∙ raises (leaf_of part e))
last_there part other g false raises same e = ap (λ (leaf : Leaf). leaf.last) (leaf_apart part other (g (leaf_of part e)) e same)

pub last_raised : (k : LeafKey) (g : Leaf → Leaf) → Raises g → (key : LeafKey) (es : List Entity) → is_listed key.entity (map (λ e. e.about) es) ≡ true → last_of_key key (one_changed k.entity (in_leaf k.part g) es) ≡ cond (is_key k key) (last_of_key key es + 1) (last_of_key key es)
last_raised k g raises key es there = go (k.entity == key.entity) refl
  where
    keeps : KeepsAbout (in_leaf k.part g)
    keeps e = about_kept k.part (g (leaf_of k.part e)) e

    found : (o : Option Entity) → find (is_entity key.entity) es ≡ o → last_in key.part (option_map (in_leaf k.part g) o) ≡ cond (is_same_part k.part key.part) (last_in key.part o + 1) (last_in key.part o)
    found None none =
        let missing : false ≡ true = sym (none_listed key.entity es none) ∙ there in
        absurd cc
    found (Some e) is = last_there k.part key.part g (is_same_part k.part key.part) raises refl e

    go : (b : Bool) → (k.entity == key.entity) ≡ b → last_of_key key (one_changed k.entity (in_leaf k.part g) es) ≡ cond (is_key k key) (last_of_key key es + 1) (last_of_key key es)
    go true same =
        let number : k.entity ≡ key.entity = same_number k.entity key.entity same in
        let here : find (is_entity key.entity) (one_changed k.entity (in_leaf k.part g) es) ≡ option_map (in_leaf k.part g) (find (is_entity key.entity) es) = subst (λ (n : ℕ). find (is_entity key.entity) (one_changed n (in_leaf k.part g) es) ≡ option_map (in_leaf k.part g) (find (is_entity key.entity) es)) (sym number) (find_here key.entity (in_leaf k.part g) keeps es) in
        ap (last_in key.part) here ∙ found (find (is_entity key.entity) es) refl ∙ sym (ap (λ (b : Bool). cond (b && is_same_part k.part key.part) (last_of_key key es + 1) (last_of_key key es)) same)
    go false apart =
        ap (last_in key.part) (find_apart k.entity key.entity (in_leaf k.part g) keeps apart es)
        ∙ sym (ap (λ (b : Bool). cond (b && is_same_part k.part key.part) (last_of_key key es + 1) (last_of_key key es)) apart)
