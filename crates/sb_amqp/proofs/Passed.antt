-- Sections passed one after the other, up to where none begins.
use Rattle.std.proofs.Common.{◌≡◌, ℕ, ◌-◌, Bool, true, false, List, [], ◌∷◌, ◌++◌, length, Option, Some, None, Ok, Err, refl, sym, ap, subst, ◌∙◌, append_assoc, arith}
use Rattle.std.specs.Prelude.{◌&&◌, ◌==◌}
use Rattle.std.proofs.lemmas.List.{append-nil, length-append}
use Rattle.sb_amqp.specs.Reading.{next_at}
use Rattle.sb_amqp.specs.Reads.{BeginNone, Checked}
use Rattle.sb_amqp.specs.Sections.{Section, spelled, all_spelled, IsSection, AreInOrder, before_all, last_code, may_follow, may_end}
use Rattle.sb_amqp.proofs.Begins.{next_gives, next_again}
use Rattle.sb_amqp.proofs.Fronts.{all_gone}
use Rattle.sb_amqp.proofs.Widths.{IsBytes, IsBytes-behind}

-- sections in order, and what is left behind them
pub record Passed (bytes : List ℕ) (last : ℕ) (rest : List ℕ) : Type 0 where
  pub sections : List Section
  pub text : bytes ≡ all_spelled sections ++ rest
  pub order : AreInOrder before_all sections
  pub ends : last ≡ last_code before_all sections

pub none_passed : (bytes : List ℕ) → Passed bytes before_all bytes
none_passed bytes = record { sections = []; text = refl; order = tt; ends = refl }

spelled_snoc : (ss : List Section) (s : Section) (rest : List ℕ) → all_spelled (ss ++ s ∷ []) ++ rest ≡ all_spelled ss ++ (spelled s ++ rest)
spelled_snoc [] s rest = ap (λ (front : List ℕ). front ++ rest) (append-nil (spelled s))
spelled_snoc (t ∷ ss) s rest =
    append_assoc (spelled t) (all_spelled (ss ++ s ∷ [])) rest ∙ ap (λ (tail : List ℕ). spelled t ++ tail) (spelled_snoc ss s rest) ∙ sym (append_assoc (spelled t) (all_spelled ss) (spelled s ++ rest))

order_snoc : (last : ℕ) (ss : List Section) (s : Section) → AreInOrder last ss → IsSection s → may_follow (last_code last ss) s.code ≡ true → AreInOrder last (ss ++ s ∷ [])
order_snoc last [] s order is follows = (follows, is, tt)
order_snoc last (t ∷ ss) s order is follows = (order.0, order.1, order_snoc t.code ss s order.2 is follows)

last_snoc : (last : ℕ) (ss : List Section) (s : Section) → last_code last (ss ++ s ∷ []) ≡ s.code
last_snoc last [] s = refl
last_snoc last (t ∷ ss) s = last_snoc t.code ss s

pub one_more : (bytes : List ℕ) (last : ℕ) (rest : List ℕ) (x : ℕ × (List ℕ × List ℕ)) → IsBytes bytes → Passed bytes last rest → next_at last rest ≡ Some x → Passed bytes x.0 x.1.1
one_more bytes last rest x bounds p e =
    let inside = IsBytes-behind (all_spelled p.sections) rest bytes p.text bounds in
    let n = next_gives last rest x inside e in
    let b = n.1 in
    record {
      sections = p.sections ++ b.section ∷ [];
      text = p.text ∙ ap (λ (tail : List ℕ). all_spelled p.sections ++ tail) b.text ∙ sym (spelled_snoc p.sections b.section x.1.1);
      order = order_snoc before_all p.sections b.section p.order b.is (ap (λ k. may_follow k b.section.code) (sym p.ends) ∙ ap (may_follow last) b.code ∙ n.0);
      ends = sym (last_snoc before_all p.sections b.section ∙ b.code);
    }

pub is_whole : (bytes : List ℕ) (last : ℕ) (rest : List ℕ) → Passed bytes last rest → length rest ≡ 0 → may_end last ≡ true → Checked bytes (Ok tt)
is_whole bytes last rest p gone ended = (
  p.sections,
  record {
    text = p.text ∙ ap (λ (tail : List ℕ). all_spelled p.sections ++ tail) (all_gone rest gone) ∙ append-nil (all_spelled p.sections);
    order = p.order;
    whole = ap may_end (sym p.ends) ∙ ended;
  },
)

begin_none : (last : ℕ) (rest : List ℕ) → next_at last rest ≡ None → (rest ≡ [] → may_end last ≡ false) → BeginNone last rest
begin_none last rest e unended = record {
  none = λ s more is follows text. (let again = ap (next_at last) (sym text) ∙ e in none_some (s.code, (s.value, more)) (next_at last (spelled s ++ more)) again (next_again last s more is follows));
  unended = unended;
} where
  none_some : (x : ℕ × (List ℕ × List ℕ)) (o : Option (ℕ × (List ℕ × List ℕ))) → o ≡ None → o ≡ Some x → ⊥
  none_some x o a b = absurd cc

pub is_bad : (bytes : List ℕ) (last : ℕ) (rest : List ℕ) → Passed bytes last rest → next_at last rest ≡ None → (rest ≡ [] → may_end last ≡ false) → Checked bytes (Err (length bytes - length rest))
is_bad bytes last rest p e unended = record {
  sections = p.sections;
  rest = rest;
  text = p.text;
  order = p.order;
  place = omega (arith, ap (λ (b : List ℕ). length b) p.text, length-append (all_spelled p.sections) rest);
  none = subst (λ k. BeginNone k rest) p.ends (begin_none last rest e unended);
}

pub unended : (last : ℕ) (rest : List ℕ) → (may_end last && (length rest == 0)) ≡ false → rest ≡ [] → may_end last ≡ false
unended last rest e gone = by_test (may_end last) (length rest == 0) e (ap (λ (b : List ℕ). length b == 0) gone) where
  by_test : (a b : Bool) → (a && b) ≡ false → b ≡ true → a ≡ false
  by_test true b e t = absurd cc
  by_test false b e t = refl
