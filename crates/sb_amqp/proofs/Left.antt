-- What is said so far, and what is left to say.
use Rattle.std.proofs.Common.{◌≡◌, ℕ, suc, ◌+◌, Bool, true, false, List, [], ◌∷◌, ◌++◌, length, Option, Some, None, Result, Ok, Err, refl, sym, ap, subst, ◌∙◌, arith}
use Rattle.sb_model.specs.declared.message.Message.{Message}
use Rattle.sb_amqp.specs.declared.unread.Unread.{Unread}
use Rattle.sb_amqp.specs.declared.unread.Unread.TheVariants.{At, Memory}
use Rattle.sb_amqp.specs.declared.values.Extent.{Extent}
use Rattle.sb_amqp.specs.declared.values.Extent.TheVariants.{Described, Fixed, Short, Long, Unknown}
use Rattle.sb_amqp.specs.Meaning.{or_left, and_then, with_item, items_if, items_say, section_says, sections_say, Says}
use Rattle.sb_amqp.specs.Reading.{after_value, value_at, descriptor_at, section_at, item_bytes}
use Rattle.sb_amqp.specs.Sections.{Section, all_spelled, IsSection, AreSections, FitsCount, HasUsedItems, count_bytes, has_used_items}
use Rattle.sb_amqp.specs.Values.{joined, content_of, extent_at, kind_of, AreValues}
use Rattle.sb_amqp.proofs.Begins.{section_again}
use Rattle.sb_amqp.proofs.Fronts.{cut_again}

abbrev pair_taken : List ℕ × List ℕ → Option (List ℕ × List ℕ)
pair_taken x = Some x

never : {A : Type 0} (o : Option A) (x : A) → o ≡ None → o ≡ Some x → ⊥
never o x a b = absurd cc

pub same_err : (e : Unread) (said other : Result Message ℕ) → other ≡ said → Says (Err e) other → Says (Err e) said
same_err (At left) said other e s = sym e ∙ s
same_err Memory said other e s = tt

-- ---- items

pub record ItemsLeft (code index : ℕ) (before : List ℕ) (m : Message) (rest : List ℕ) (behind : ℕ) (said : Result Message ℕ) : Type 0 where
  pub left : List (List ℕ)
  pub are : AreValues left
  pub text : rest ≡ joined left
  pub same : items_say code index before m left behind ≡ said

no_value : value_at [] ≡ None
unfolding value_at after_value
no_value = refl

record NextItem (left : List (List ℕ)) (value after : List ℕ) : Type 0 where
  pub others : List (List ℕ)
  pub is : left ≡ value ∷ others
  pub are : AreValues others
  pub text : after ≡ joined others

next_item : (left : List (List ℕ)) (rest value after : List ℕ) → AreValues left → rest ≡ joined left → value_at rest ≡ Some (value, after) → NextItem left value after
next_item [] rest value after are text e = absurd (never (value_at rest) (value, after) (ap value_at text ∙ no_value) e)
next_item (v ∷ vs) rest value after are text e =
    let same = pair_same (value, after) (v, joined vs) (sym e ∙ ap value_at text ∙ cut_again v (joined vs) are.0) in
    record { others = vs; is = ap (λ (x : List ℕ × List ℕ). x.0 ∷ vs) (sym same); are = are.1; text = ap (λ (x : List ℕ × List ℕ). x.1) same } where
      pair_same : (x y : List ℕ × List ℕ) → pair_taken x ≡ pair_taken y → x ≡ y
      pair_same x y e = cc

item_says : (code index : ℕ) (before : List ℕ) (m : Message) (rest : List ℕ) (behind : ℕ) (said : Result Message ℕ) (value after : List ℕ) (p : ItemsLeft code index before m rest behind said) (n : NextItem p.left value after)
    → and_then (or_left (length rest + behind) (with_item code index before value m)) (λ next. items_say code (suc index) value next n.others behind) ≡ said
item_says code index before m rest behind said value after p n =
    ap (λ k. and_then (or_left (k + behind) (with_item code index before value m)) (λ next. items_say code (suc index) value next n.others behind)) (ap (λ (b : List ℕ). length b) (p.text ∙ ap joined n.is))
    ∙ ap (λ (vs : List (List ℕ)). items_say code index before m vs behind) (sym n.is) ∙ p.same

pub item_on : (code index : ℕ) (before : List ℕ) (m : Message) (rest : List ℕ) (behind : ℕ) (said : Result Message ℕ) (value after : List ℕ) (next : Message)
    → ItemsLeft code index before m rest behind said → value_at rest ≡ Some (value, after) → or_left (length rest + behind) (with_item code index before value m) ≡ Ok next → ItemsLeft code (index + 1) value next after behind said
item_on code index before m rest behind said value after next p e ok =
    let n = next_item p.left rest value after p.are p.text e in
    let on : suc index ≡ index + 1 = omega arith in
    subst (λ k. ItemsLeft code k value next after behind said) on (record {
      left = n.others;
      are = n.are;
      text = n.text;
      same = ap (λ (r : Result Message ℕ). and_then r (λ next. items_say code (suc index) value next n.others behind)) (sym ok) ∙ item_says code index before m rest behind said value after p n;
    })

pub item_ends : (code index : ℕ) (before : List ℕ) (m : Message) (rest : List ℕ) (behind : ℕ) (said : Result Message ℕ) (value after : List ℕ) (e : Unread)
    → ItemsLeft code index before m rest behind said → value_at rest ≡ Some (value, after) → Says (Err e) (or_left (length rest + behind) (with_item code index before value m)) → Says (Err e) said
item_ends code index before m rest behind said value after (At left) p e says =
    let n = next_item p.left rest value after p.are p.text e in
    sym (item_says code index before m rest behind said value after p n) ∙ ap (λ (r : Result Message ℕ). and_then r (λ next. items_say code (suc index) value next n.others behind)) says
item_ends code index before m rest behind said value after Memory p e says = tt

pub items_done : (code index : ℕ) (before : List ℕ) (m : Message) (rest : List ℕ) (behind : ℕ) (said : Result Message ℕ) → ItemsLeft code index before m rest behind said → value_at rest ≡ None → said ≡ Ok m
items_done code index before m rest behind said p e = by_left p.left p.are p.text p.same where
  by_left : (left : List (List ℕ)) → AreValues left → rest ≡ joined left → items_say code index before m left behind ≡ said → said ≡ Ok m
  by_left [] are text same = sym same
  by_left (v ∷ vs) are text same = absurd (never (value_at rest) (v, joined vs) e (ap value_at text ∙ cut_again v (joined vs) are.0))

-- ---- sections

pub record SectionsLeft (m : Message) (rest : List ℕ) (said : Result Message ℕ) : Type 0 where
  pub left : List Section
  pub are : AreSections left
  pub text : rest ≡ all_spelled left
  pub same : sections_say m left ≡ said

abbrev begun : ℕ × (List ℕ × List ℕ) → Option (ℕ × (List ℕ × List ℕ))
begun x = Some x

no_section : section_at [] ≡ None
unfolding section_at descriptor_at
no_section = refl

record NextSection (left : List Section) (x : ℕ × (List ℕ × List ℕ)) : Type 0 where
  pub section : Section
  pub others : List Section
  pub is : left ≡ section ∷ others
  pub good : IsSection section
  pub are : AreSections others
  pub code : section.code ≡ x.0
  pub value : section.value ≡ x.1.0
  pub text : x.1.1 ≡ all_spelled others

next_section : (left : List Section) (rest : List ℕ) (x : ℕ × (List ℕ × List ℕ)) → AreSections left → rest ≡ all_spelled left → section_at rest ≡ Some x → NextSection left x
next_section [] rest x are text e = absurd (never (section_at rest) x (ap section_at text ∙ no_section) e)
next_section (s ∷ ss) rest x are text e =
    let again : begun (s.code, (s.value, all_spelled ss)) ≡ begun x = sym (ap section_at text ∙ section_again s (all_spelled ss) are.0) ∙ e in
    let same = some_same (s.code, (s.value, all_spelled ss)) x again in
    record { section = s; others = ss; is = refl; good = are.0; are = are.1; code = ap (λ (z : ℕ × (List ℕ × List ℕ)). z.0) same; value = ap (λ (z : ℕ × (List ℕ × List ℕ)). z.1.0) same; text = sym (ap (λ (z : ℕ × (List ℕ × List ℕ)). z.1.1) same) } where
      some_same : (a b : ℕ × (List ℕ × List ℕ)) → begun a ≡ begun b → a ≡ b
      some_same a b e = cc

-- what say_section answers, by the items of the section
abbrev pub SaysSection : (Result Message ℕ → Type 0) → ℕ × (List ℕ × List ℕ) → Message → Type 0
SaysSection P x m = (vs : List (List ℕ)) → HasUsedItems (has_used_items x.0 (kind_of x.1.0)) x.1.0 vs → P (section_says x.0 x.1.0 vs m (length x.1.1))

section_answers : (P : Result Message ℕ → Type 0) (m : Message) (x : ℕ × (List ℕ × List ℕ)) (left : List Section) (n : NextSection left x) → SaysSection P x m → P (section_says n.section.code n.section.value n.section.items m (length (all_spelled n.others)))
section_answers P m x left n says =
    let has : HasUsedItems (has_used_items x.0 (kind_of x.1.0)) x.1.0 n.section.items =
    subst (λ (v : List ℕ). HasUsedItems (has_used_items x.0 (kind_of v)) v n.section.items) n.value (subst (λ k. HasUsedItems (has_used_items k (kind_of n.section.value)) n.section.value n.section.items) n.code n.good.items) in
    subst (λ (b : List ℕ). P (section_says n.section.code n.section.value n.section.items m (length b))) n.text
    (subst (λ (v : List ℕ). P (section_says n.section.code v n.section.items m (length x.1.1))) (sym n.value)
    (subst (λ k. P (section_says k x.1.0 n.section.items m (length x.1.1))) (sym n.code) (says n.section.items has)))

pub section_on : (m : Message) (rest : List ℕ) (said : Result Message ℕ) (x : ℕ × (List ℕ × List ℕ)) (next : Message)
    → SectionsLeft m rest said → section_at rest ≡ Some x → SaysSection (λ r. r ≡ Ok next) x m → SectionsLeft next x.1.1 said
section_on m rest said x next p e says =
    let n = next_section p.left rest x p.are p.text e in
    let ok = section_answers (λ (r : Result Message ℕ). r ≡ Ok next) m x p.left n says in
    record {
      left = n.others;
      are = n.are;
      text = n.text;
      same = ap (λ (r : Result Message ℕ). and_then r (λ next. sections_say next n.others)) (sym ok) ∙ ap (λ (ss : List Section). sections_say m ss) (sym n.is) ∙ p.same;
    }

pub section_ends : (m : Message) (rest : List ℕ) (said : Result Message ℕ) (x : ℕ × (List ℕ × List ℕ)) (e : Unread)
    → SectionsLeft m rest said → section_at rest ≡ Some x → SaysSection (λ r. Says (Err e) r) x m → Says (Err e) said
section_ends m rest said x (At left) p e says =
    let n = next_section p.left rest x p.are p.text e in
    let err = section_answers (λ (r : Result Message ℕ). r ≡ Err left) m x p.left n says in
    sym p.same ∙ ap (λ (ss : List Section). sections_say m ss) n.is ∙ ap (λ (r : Result Message ℕ). and_then r (λ next. sections_say next n.others)) err
section_ends m rest said x Memory p e says = tt

pub sections_done : (m : Message) (rest : List ℕ) (said : Result Message ℕ) → SectionsLeft m rest said → section_at rest ≡ None → said ≡ Ok m
sections_done m rest said p e = by_left p.left p.are p.text p.same where
  by_left : (left : List Section) → AreSections left → rest ≡ all_spelled left → sections_say m left ≡ said → said ≡ Ok m
  by_left [] are text same = sym same
  by_left (s ∷ ss) are text same = absurd (never (section_at rest) (s.code, (s.value, all_spelled ss)) e (ap section_at text ∙ section_again s (all_spelled ss) are.0))

-- ---- where a message uses the items

behind_count : (e : Extent) (n : ℕ) (items : List ℕ) → FitsCount e n → item_bytes e (count_bytes e n ++ items) ≡ items
unfolding item_bytes
behind_count (Fixed k) n items fits = refl
behind_count Short n items fits = refl
behind_count Long n items fits = refl
behind_count Described n items fits = absurd fits
behind_count Unknown n items fits = absurd fits

pub used_items : (P : Result Message ℕ → Type 0) (due : Bool) (code : ℕ) (m : Message) (value : List ℕ) (vs : List (List ℕ)) (behind : ℕ) → due ≡ true → HasUsedItems due value vs
    → (AreValues vs → item_bytes (extent_at value) (content_of value) ≡ joined vs → P (items_say code 0 [] m vs behind)) → P (items_if due code m value vs behind)
used_items P true code m value vs behind is has says = says has.0.each (ap (item_bytes (extent_at value)) has.0.content ∙ behind_count (extent_at value) (length vs) (joined vs) has.0.count)
used_items P false code m value vs behind is has says = absurd cc
