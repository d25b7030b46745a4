-- Entities as they were before a sweep and as they are behind it: what is listed of them stays, and so do the copies that no
-- test T lets change.
use Rattle.std.proofs.Common.{Bool, List, None, Option, Some, [], ap, arith, false, filter, map, refl, sym, true, ℕ, ◌++◌, ◌+◌, ◌==◌, ◌∙◌, ◌∷◌, ◌≡◌, ◌≤◌}
use Rattle.std.proofs.lemmas.List.{map-append}
use Rattle.std.specs.List.{flat_map}
use Rattle.sb_laws.proofs.Carrying.{item, kept_by_all}
use Rattle.sb_laws.proofs.Eachs.{each_implied, each_of_all, is_equal}
use Rattle.sb_laws.proofs.NothingDue.{Lasts}
use Rattle.sb_laws.proofs.Sparing.{MayBe, Spares, put, spared, spares_all, spares_entered, spares_put}
use Rattle.sb_laws.proofs.Tick.{IsOfTick, tick_closes, tick_drops, tick_ends, tick_enters, tick_frees, tick_passes}
use Rattle.sb_machine.specs.Changes.{after, after_all}
use Rattle.sb_machine.specs.Due.{Item}
use Rattle.sb_machine.specs.Each.{Each}
use Rattle.sb_machine.specs.Keyed.{changed}
use Rattle.sb_machine.specs.Leaves.{has_number, leaf_after, stored}
use Rattle.sb_machine.specs.Namespace.{is_entity, leaf_of, new_entity, with_leaf}
use Rattle.sb_machine.specs.declared.call.Part.{Part}
use Rattle.sb_machine.specs.declared.call.Part.TheVariants.{Dead, Main, Transfer}
use Rattle.sb_machine.specs.declared.change.Change.{Change}
use Rattle.sb_machine.specs.declared.change.Change.TheVariants.{InLeaf}
use Rattle.sb_machine.specs.declared.change.LeafChange.TheVariants.{Closes, Ends, Enters, Passes, Stands}
use Rattle.sb_machine.specs.declared.change.LeafKey.{LeafKey}
use Rattle.sb_machine.specs.declared.state.Entity.{Entity}
use Rattle.sb_machine.specs.declared.state.Leaf.{Leaf}
use Rattle.sb_machine.specs.declared.state.Listed.{Listed}
use Rattle.sb_machine.specs.declared.state.Space.{Space}
use Rattle.sb_machine.specs.declared.state.Standing.{Standing}
use Rattle.sb_machine.specs.declared.state.Standing.TheVariants.{Ready}
use Rattle.sb_machine.specs.declared.state.StoredCopy.{StoredCopy}
use Rattle.sb_model.specs.declared.message.Message.{Message}

-- an item with what is listed of its entity alone
abbrev pub bare_item : Listed → Part → StoredCopy → Item
bare_item about part c = record { entity = new_entity about; part = part; copy = c }

abbrev pub bare : Item → Item
bare i = bare_item i.entity.about i.part i.copy

-- what holds of the copies of a number in a part, and that the number was given
abbrev pub OfCopy : LeafKey → ℕ → (StoredCopy → Type 0) → List Entity → Type 0
OfCopy key n Q es = Each (λ e. e.about.number ≡ key.entity → (n ≤ (leaf_of key.part e).last) × Each (λ c. c.number ≡ n → Q c) (leaf_of key.part e).copies) es

pub of_copy_implied : (key : LeafKey) (n : ℕ) (Q R : StoredCopy → Type 0) → ((c : StoredCopy) → Q c → R c) → (es : List Entity) → OfCopy key n Q es → OfCopy key n R es
of_copy_implied key n Q R more es h = each_implied (λ e. e.about.number ≡ key.entity → (n ≤ (leaf_of key.part e).last) × Each (λ c. c.number ≡ n → Q c) (leaf_of key.part e).copies)
    (λ e. e.about.number ≡ key.entity → (n ≤ (leaf_of key.part e).last) × Each (λ c. c.number ≡ n → R c) (leaf_of key.part e).copies)
    (λ e at own. ((at own).0, each_implied (λ c. c.number ≡ n → Q c) (λ c. c.number ≡ n → R c) (λ c is same. more c (is same)) (leaf_of key.part e).copies (at own).1)) es h

module _ (T P : Part → StoredCopy → Bool) (t : ℕ) where
  pub record LeafSpares (part : Part) (old new : Leaf) : Type 0 where
    pub last : old.last ≤ new.last
    pub copies : Spares (T part) (P part) old.last old.copies new.copies

  pub record IsAlike (e x : Entity) : Type 0 where
    pub about : x.about ≡ e.about
    pub main : LeafSpares Main e.main x.main
    pub dead : LeafSpares Dead e.dead x.dead
    pub transfer : LeafSpares Transfer e.transfer x.transfer

  abbrev pub AreAlike : List Entity → List Entity → Type 0
  AreAlike [] [] = Unit {0}
  AreAlike (e ∷ es) (x ∷ xs) = IsAlike e x × AreAlike es xs
  AreAlike [] (x ∷ xs) = ⊥
  AreAlike (e ∷ es) [] = ⊥

  same_leaf : (part : Part) (leaf : Leaf) → LeafSpares part leaf leaf
  same_leaf part leaf = record { last = omega arith; copies = spares_all (T part) (P part) leaf.last leaf.copies }

  pub all_alike : (es : List Entity) → AreAlike es es
  all_alike [] = tt
  all_alike (e ∷ es) = (record { about = refl; main = same_leaf Main e.main; dead = same_leaf Dead e.dead; transfer = same_leaf Transfer e.transfer }, all_alike es)

  leaf_alike : (part : Part) (e x : Entity) → IsAlike e x → LeafSpares part (leaf_of part e) (leaf_of part x)
  leaf_alike Main e x h = h.main
  leaf_alike Dead e x h = h.dead
  leaf_alike Transfer e x h = h.transfer

  with_leaf_alike : (part : Part) (leaf : Leaf) (e x : Entity) → LeafSpares part (leaf_of part e) leaf → IsAlike e x → IsAlike e (with_leaf part leaf x)
  with_leaf_alike Main leaf e x new h = record { about = h.about; main = new; dead = h.dead; transfer = h.transfer }
  with_leaf_alike Dead leaf e x new h = record { about = h.about; main = h.main; dead = new; transfer = h.transfer }
  with_leaf_alike Transfer leaf e x new h = record { about = h.about; main = h.main; dead = h.dead; transfer = new }

  -- ---- a change of a part

  abbrev Sparing : Part → (Leaf → Leaf) → Entity → Type 0
  Sparing part f e = (leaf : Leaf) → LeafSpares part (leaf_of part e) leaf → LeafSpares part (leaf_of part e) (f leaf)

  alike_on : (key : LeafKey) (f : Leaf → Leaf) (es xs : List Entity) → Each (λ e. e.about.number ≡ key.entity → Sparing key.part f e) es → AreAlike es xs
      → AreAlike es (changed (is_entity key.entity) (λ x. with_leaf key.part (f (leaf_of key.part x)) x ∷ []) xs)
  alike_on key f [] [] at h = tt
  alike_on key f [] (x ∷ xs) at h = absurd h
  alike_on key f (e ∷ es) [] at h = absurd h
  alike_on key f (e ∷ es) (x ∷ xs) at h = go (x.about.number == key.entity) refl (alike_on key f es xs at.1 h.1) where
    own : (x.about.number == key.entity) ≡ true → e.about.number ≡ key.entity
    own is = ap (λ (about : Listed). about.number) (sym h.0.about) ∙ is_equal x.about.number key.entity is

    go : (b : Bool) → (x.about.number == key.entity) ≡ b → AreAlike es (changed (is_entity key.entity) (λ x. with_leaf key.part (f (leaf_of key.part x)) x ∷ []) xs)
        → AreAlike (e ∷ es) (changed (is_entity key.entity) (λ x. with_leaf key.part (f (leaf_of key.part x)) x ∷ []) (x ∷ xs))
    go true is rest = rw is (with_leaf_alike key.part (f (leaf_of key.part x)) e x (at.0 (own is) (leaf_of key.part x) (leaf_alike key.part e x h.0)) h.0, h.1)
    go false is rest = rw is (h.0, rest)

  -- what a change takes may go, or stand so
  abbrev pub Takes : List Entity → Change → Type 0
  Takes es (InLeaf key (Ends n settled cause)) = OfCopy key n (MayBe (T key.part) (P key.part) None) es
  Takes es (InLeaf key (Stands n settled count standing)) = OfCopy key n (MayBe (T key.part) (P key.part) (Some (count, standing))) es
  Takes es _ = Unit {0}

  abbrev Entered : Part → ℕ → Message → ℕ → Option ℕ → StoredCopy
  Entered part n m hops seq = stored n t (record { seq = seq; hops = hops; standing = Ready; message = m })

  module _ (fresh : (part : Part) (seq : Option ℕ) (hops n : ℕ) (m : Message) → Lasts m → P part (Entered part n m hops seq) ≡ false) where
    sparing_put : (part : Part) (n : ℕ) (does : Option (ℕ × Standing)) (e : Entity) → n ≤ (leaf_of part e).last → Each (λ c. c.number ≡ n → MayBe (T part) (P part) does c) (leaf_of part e).copies
        → Sparing part (λ leaf. record leaf { copies = changed (has_number n) (put does) leaf.copies }) e
    sparing_put part n does e le may leaf h = record { last = h.last; copies = spares_put (T part) (P part) does n (leaf_of part e).last (leaf_of part e).copies leaf.copies le may h.copies }

    pub alike_after : (first_one : Bool) (c : Change) (s : Space) (es : List Entity) → IsOfTick Lasts first_one c → Takes es c → AreAlike es s.entities → AreAlike es (after t c s).entities
    alike_after first_one _ s es (tick_enters key seq hops m few p) takes h =
        alike_on key (leaf_after (s.last_lock + 1) t (Enters (record { seq = seq; hops = hops; standing = Ready; message = m }))) es s.entities
        (each_of_all (λ e. e.about.number ≡ key.entity → Sparing key.part (leaf_after (s.last_lock + 1) t (Enters (record { seq = seq; hops = hops; standing = Ready; message = m }))) e)
        (λ e own leaf is. record {
          last = omega (arith, is.last);
          copies = spares_entered (T key.part) (P key.part) (leaf_of key.part e).last (Entered key.part (leaf.last + 1) m hops seq) (leaf_of key.part e).copies leaf.copies (omega (arith, is.last)) (fresh key.part seq hops (leaf.last + 1) m p) is.copies;
        }) es) h
    alike_after first_one _ s es (tick_passes key cause) takes h =
        alike_on key (leaf_after (s.last_lock + 1) t (Passes cause)) es s.entities
        (each_of_all (λ e. e.about.number ≡ key.entity → Sparing key.part (leaf_after (s.last_lock + 1) t (Passes cause)) e) (λ e own leaf is. record { last = omega (arith, is.last); copies = is.copies }) es) h
    alike_after first_one _ s es (tick_ends key n by_settlement cause) takes h =
        alike_on key (leaf_after (s.last_lock + 1) t (Ends n by_settlement cause)) es s.entities
        (each_implied (λ e. e.about.number ≡ key.entity → (n ≤ (leaf_of key.part e).last) × Each (λ c. c.number ≡ n → MayBe (T key.part) (P key.part) None c) (leaf_of key.part e).copies)
        (λ e. e.about.number ≡ key.entity → Sparing key.part (leaf_after (s.last_lock + 1) t (Ends n by_settlement cause)) e) (λ e at own. sparing_put key.part n None e (at own).0 (at own).1) es takes) h
    alike_after first_one _ s es (tick_drops n) takes h = h
    alike_after first_one _ s es (tick_frees key n by_settlement count standing free few) takes h =
        alike_on key (leaf_after (s.last_lock + 1) t (Stands n by_settlement count standing)) es s.entities
        (each_implied (λ e. e.about.number ≡ key.entity → (n ≤ (leaf_of key.part e).last) × Each (λ c. c.number ≡ n → MayBe (T key.part) (P key.part) (Some (count, standing)) c) (leaf_of key.part e).copies)
        (λ e. e.about.number ≡ key.entity → Sparing key.part (leaf_after (s.last_lock + 1) t (Stands n by_settlement count standing)) e) (λ e at own. sparing_put key.part n (Some (count, standing)) e (at own).0 (at own).1) es takes) h
    alike_after first_one _ s es (tick_closes key l) takes h =
        alike_on key (leaf_after (s.last_lock + 1) t (Closes l)) es s.entities
        (each_of_all (λ e. e.about.number ≡ key.entity → Sparing key.part (leaf_after (s.last_lock + 1) t (Closes l)) e) (λ e own leaf is. record { last = is.last; copies = is.copies }) es) h

    pub alike_behind : (first_one : Bool) (cs : List Change) (s : Space) (es : List Entity) → Each (λ c. IsOfTick Lasts first_one c × Takes es c) cs → AreAlike es s.entities → AreAlike es (after_all t cs s).entities
    alike_behind first_one cs s es h alike = kept_by_all (λ c. IsOfTick Lasts first_one c × Takes es c) (λ now. AreAlike es now.entities) t (λ c now is at. alike_after first_one c now es is.0 is.1 at) cs s h alike

  -- ---- what is read off entities that are alike

  pub listed_alike : (es xs : List Entity) → AreAlike es xs → map (λ e. e.about) xs ≡ map (λ e. e.about) es
  listed_alike [] [] h = refl
  listed_alike [] (x ∷ xs) h = absurd h
  listed_alike (e ∷ es) [] h = absurd h
  listed_alike (e ∷ es) (x ∷ xs) h = ap (λ (about : Listed). about ∷ map (λ e. e.about) xs) h.0.about ∙ ap (λ (l : List Listed). e.about ∷ l) (listed_alike es xs h.1)

  bare_items : (e : Entity) (part : Part) (cs : List StoredCopy) → map bare (map (item e part) cs) ≡ map (bare_item e.about part) cs
  bare_items e part [] = refl
  bare_items e part (c ∷ cs) = ap (λ (l : List Item). bare_item e.about part c ∷ l) (bare_items e part cs)

  module _ (fails : (part : Part) (c : StoredCopy) → T part c ≡ true → P part c ≡ false) where
    -- the copies of a part that pass P
    pub items_alike : (part : Part) (e x : Entity) → IsAlike e x → map bare (map (item x part) (filter (P part) (leaf_of part x).copies)) ≡ map bare (map (item e part) (filter (P part) (leaf_of part e).copies))
    items_alike part e x h =
        bare_items x part (filter (P part) (leaf_of part x).copies)
        ∙ ap (λ (about : Listed). map (bare_item about part) (filter (P part) (leaf_of part x).copies)) h.about
        ∙ ap (λ (cs : List StoredCopy). map (bare_item e.about part) cs) (spared (T part) (P part) (fails part) (leaf_of part e).last (leaf_of part e).copies (leaf_of part x).copies (leaf_alike part e x h).copies)
        ∙ sym (bare_items e part (filter (P part) (leaf_of part e).copies))

    pub flat_alike : (f : Entity → List Item) → ((e x : Entity) → IsAlike e x → map bare (f x) ≡ map bare (f e)) → (es xs : List Entity) → AreAlike es xs → map bare (flat_map f xs) ≡ map bare (flat_map f es)
    flat_alike f same [] [] h = refl
    flat_alike f same [] (x ∷ xs) h = absurd h
    flat_alike f same (e ∷ es) [] h = absurd h
    flat_alike f same (e ∷ es) (x ∷ xs) h =
        map-append bare (f x) (flat_map f xs)
        ∙ ap (λ (l : List Item). l ++ map bare (flat_map f xs)) (same e x h.0)
        ∙ ap (λ (l : List Item). map bare (f e) ++ l) (flat_alike f same es xs h.1)
        ∙ sym (map-append bare (f e) (flat_map f es))
