-- Nothing else is said of bytes than what was answered.
use Rattle.std.proofs.Common.{◌≡◌, ℕ, ◌-◌, Bool, true, false, List, [], ◌∷◌, ◌++◌, length, Option, Some, Result, Ok, Err, refl, sym, ap, subst, ◌∙◌, append_assoc, arith}
use Rattle.std.proofs.lemmas.List.{append-nil, length-append}
use Rattle.sb_model.specs.declared.message.Message.{Message}
use Rattle.sb_amqp.specs.declared.fault.AmqpFault.{AmqpFault}
use Rattle.sb_amqp.specs.declared.fault.AmqpFault.TheVariants.{BadMessage, Unsupported, OutOfMemory}
use Rattle.sb_amqp.specs.Meaning.{sections_say, no_message}
use Rattle.sb_amqp.specs.Reading.{section_at}
use Rattle.sb_amqp.specs.Reads.{Spells, IsBad, Tells, Answers, IsAnswer, AnswersOnly}
use Rattle.sb_amqp.specs.Sections.{Section, spelled, all_spelled, descriptor, IsSection, AreSections, AreInOrder, before_all, last_code, may_follow, may_end}
use Rattle.sb_amqp.proofs.Begins.{section_again}

pub each_good : (last : ℕ) (ss : List Section) → AreInOrder last ss → AreSections ss
each_good last [] order = tt
each_good last (s ∷ ss) order = (order.1, each_good s.code ss order.2)

-- ---- where sections stop, they stop in one place

abbrev NoneBegins : ℕ → List ℕ → Type 0
NoneBegins last rest = (s : Section) (more : List ℕ) → IsSection s → may_follow last s.code ≡ true → rest ≡ spelled s ++ more → ⊥

record SameFront (last : ℕ) (ss ts : List Section) (x y : List ℕ) : Type 0 where
  pub len : length (all_spelled ss) ≡ length (all_spelled ts)
  pub code : last_code last ss ≡ last_code last ts
  pub rest : x ≡ y

abbrev begun : ℕ × (List ℕ × List ℕ) → Option (ℕ × (List ℕ × List ℕ))
begun x = Some x

same_begun : (x y : ℕ × (List ℕ × List ℕ)) → begun x ≡ begun y → x ≡ y
same_begun x y e = cc

same_front : (last : ℕ) (ss ts : List Section) (x y : List ℕ) → AreInOrder last ss → AreInOrder last ts → all_spelled ss ++ x ≡ all_spelled ts ++ y → NoneBegins (last_code last ss) x → NoneBegins (last_code last ts) y → SameFront last ss ts x y
same_front last [] [] x y p q e none also = record { len = refl; code = refl; rest = e }
same_front last [] (t ∷ ts) x y p q e none also = absurd (none t (all_spelled ts ++ y) q.1 q.0 (e ∙ append_assoc (spelled t) (all_spelled ts) y))
same_front last (s ∷ ss) [] x y p q e none also = absurd (also s (all_spelled ss ++ x) p.1 p.0 (sym e ∙ append_assoc (spelled s) (all_spelled ss) x))
same_front last (s ∷ ss) (t ∷ ts) x y p q e none also =
    let u : spelled s ++ (all_spelled ss ++ x) ≡ spelled t ++ (all_spelled ts ++ y) = sym (append_assoc (spelled s) (all_spelled ss) x) ∙ e ∙ append_assoc (spelled t) (all_spelled ts) y in
    let one = same_begun (s.code, (s.value, all_spelled ss ++ x)) (t.code, (t.value, all_spelled ts ++ y)) (sym (section_again s (all_spelled ss ++ x) p.1) ∙ ap section_at u ∙ section_again t (all_spelled ts ++ y) q.1) in
    let code : s.code ≡ t.code = ap (λ (z : ℕ × (List ℕ × List ℕ)). z.0) one in
    let behind : all_spelled ss ++ x ≡ all_spelled ts ++ y = ap (λ (z : ℕ × (List ℕ × List ℕ)). z.1.1) one in
    let others = same_front s.code ss ts x y p.2 (subst (λ k. AreInOrder k ts) (sym code) q.2) behind none (subst (λ k. NoneBegins (last_code k ts) y) (sym code) also) in
    record {
      len = omega (arith, ap (λ (b : List ℕ). length b) e, ap (λ (b : List ℕ). length b) others.rest, length-append (spelled s ++ all_spelled ss) x, length-append (spelled t ++ all_spelled ts) y);
      code = others.code ∙ ap (λ k. last_code k ts) code;
      rest = others.rest;
    }

begins_some : (is_small : Bool) (code : ℕ) (more : List ℕ) → [] ≡ descriptor is_small code ++ more → ⊥
begins_some true code more e = absurd cc
begins_some false code more e = absurd cc

pub nothing_begins : (last : ℕ) → NoneBegins last []
nothing_begins last s more is follows e = begins_some s.is_small s.code (s.value ++ more) (e ∙ append_assoc (descriptor s.is_small s.code) s.value more)

never_both : (b : Bool) → b ≡ true → b ≡ false → ⊥
never_both b t f = absurd cc

pub not_bad : (bytes : List ℕ) (ss : List Section) (at : ℕ) → Spells bytes ss → IsBad bytes at → ⊥
not_bad bytes ss at good bad =
    let e : all_spelled ss ++ [] ≡ all_spelled bad.sections ++ bad.rest = append-nil (all_spelled ss) ∙ sym good.text ∙ bad.text in
    let f = same_front before_all ss bad.sections [] bad.rest good.order bad.order e (nothing_begins (last_code before_all ss)) bad.none.none in
    never_both (may_end (last_code before_all ss)) good.whole (ap may_end f.code ∙ bad.none.unended (sym f.rest))

pub one_bad : (bytes : List ℕ) (at other : ℕ) → IsBad bytes at → IsBad bytes other → at ≡ other
one_bad bytes at other a b = a.place ∙ (same_front before_all a.sections b.sections a.rest b.rest a.order b.order (sym a.text ∙ b.text) a.none.none b.none.none).len ∙ sym b.place

-- ---- answers

pub bad_only : (bytes : List ℕ) (at : ℕ) → IsBad bytes at → AnswersOnly bytes (Err (BadMessage at))
bad_only bytes at bad = record {
  message = λ m r. absurd (not_bad bytes r.sections at r.spelled bad);
  bad = λ other b. ap (λ k. Err (BadMessage k)) (one_bad bytes at other bad b);
  unsupported = λ other u. absurd (not_bad bytes u.sections at u.spelled bad);
}

pub told : (bytes : List ℕ) (ss : List Section) (answer : Result Message AmqpFault) → Spells bytes ss → Tells bytes (sections_say no_message ss) answer → Answers bytes answer
told bytes ss (Ok m) spells tells = record { sections = ss; spelled = spells; said = tells }
told bytes ss (Err (BadMessage at)) spells tells = absurd tells
told bytes ss (Err (Unsupported at)) spells (left, said, place) = record { sections = ss; spelled = spells; left = left; said = said; place = place }
told bytes ss (Err OutOfMemory) spells tells = tt

abbrev said_ok : Message → Result Message ℕ
said_ok m = Ok m

abbrev said_err : ℕ → Result Message ℕ
said_err left = Err left

ok_same : (r : Result Message ℕ) (a b : Message) → r ≡ Ok a → r ≡ Ok b → a ≡ b
ok_same r a b e f = some_same (sym e ∙ f) where
  some_same : said_ok a ≡ said_ok b → a ≡ b
  some_same e = cc

err_same : (r : Result Message ℕ) (a b : ℕ) → r ≡ Err a → r ≡ Err b → a ≡ b
err_same r a b e f = some_same (sym e ∙ f) where
  some_same : said_err a ≡ said_err b → a ≡ b
  some_same e = cc

never_two : (r : Result Message ℕ) (m : Message) (left : ℕ) → r ≡ Ok m → r ≡ Err left → ⊥
never_two r m left e f = absurd cc

message_only : (bytes : List ℕ) (answer : Result Message AmqpFault) (said : Result Message ℕ) (m : Message) → Tells bytes said answer → said ≡ Ok m → IsAnswer answer (Ok m)
message_only bytes (Ok n) said m tells is = ap (λ (k : Message). Ok k) (ok_same said n m tells is)
message_only bytes (Err (BadMessage at)) said m tells is = absurd tells
message_only bytes (Err (Unsupported at)) said m (left, err, place) is = absurd (never_two said m left is err)
message_only bytes (Err OutOfMemory) said m tells is = tt

unsupported_only : (bytes : List ℕ) (answer : Result Message AmqpFault) (said : Result Message ℕ) (left at : ℕ) → Tells bytes said answer → said ≡ Err left → at ≡ length bytes - left → IsAnswer answer (Err (Unsupported at))
unsupported_only bytes (Ok n) said left at tells is place = absurd (never_two said n left tells is)
unsupported_only bytes (Err (BadMessage b)) said left at tells is place = absurd tells
unsupported_only bytes (Err (Unsupported b)) said left at (other, err, there) is place = ap (λ k. Err (Unsupported k)) (there ∙ ap (λ k. length bytes - k) (err_same said other left err is) ∙ sym place)
unsupported_only bytes (Err OutOfMemory) said left at tells is place = tt

never_bad : (bytes : List ℕ) (ss : List Section) (answer : Result Message AmqpFault) (at : ℕ) → Spells bytes ss → IsBad bytes at → IsAnswer answer (Err (BadMessage at))
never_bad bytes ss answer at spells bad = absurd (not_bad bytes ss at spells bad)

pub told_only : (bytes : List ℕ) (ss : List Section) (answer : Result Message AmqpFault) → Spells bytes ss → ((ts : List Section) → Spells bytes ts → Tells bytes (sections_say no_message ts) answer) → AnswersOnly bytes answer
told_only bytes ss answer spells tells = record {
  message = λ m r. message_only bytes answer (sections_say no_message r.sections) m (tells r.sections r.spelled) r.said;
  bad = λ at b. never_bad bytes ss answer at spells b;
  unsupported = λ at u. unsupported_only bytes answer (sections_say no_message u.sections) u.left at (tells u.sections u.spelled) u.said u.place;
}
