-- Sections that finish a message, put together from the last one on.
use Rattle.std.proofs.Common.{◌≡◌, ℕ, ◌<◌, ◌≤◌, true, ltb, List, [], ◌∷◌, ◌++◌, length, Ok, refl, sym, ap, ◌∙◌, arith}
use Rattle.std.proofs.lemmas.Bool.{lt-ltb}
use Rattle.std.proofs.lemmas.List.{append-nil}
use Rattle.sb_model.specs.declared.message.Message.{Message}
use Rattle.sb_amqp.specs.Meaning.{section_says, sections_say, and_then}
use Rattle.sb_amqp.specs.Sections.{Section, spelled, all_spelled, IsSection, AreInOrder, last_code, may_follow, may_end}

-- the bytes are sections that may stand behind one of the last code, and make the final message of this one
pub record Tail (last : ℕ) (m final : Message) (bytes : List ℕ) : Type 0 where
  pub sections : List Section
  pub text : bytes ≡ all_spelled sections
  pub order : AreInOrder last sections
  pub whole : may_end (last_code last sections) ≡ true
  pub said : sections_say m sections ≡ Ok final

-- behind each code below this one
abbrev pub TailBelow : ℕ → Message → Message → List ℕ → Type 0
TailBelow code m final bytes = (last : ℕ) → last < code → Tail last m final bytes

-- the section makes this message of that
pub record Makes (s : Section) (m next : Message) : Type 0 where
  pub is : IsSection s
  pub said : (behind : ℕ) → section_says s.code s.value s.items m behind ≡ Ok next

follows : (last code : ℕ) → last < code → code ≤ 117 → may_follow last code ≡ true
follows last code lt le =
    let early : ltb last 117 ≡ true = lt-ltb _ _ (omega (arith, lt, le)) in
    let rising : ltb last code ≡ true = lt-ltb _ _ lt in
    let within : ltb code 120 ≡ true = lt-ltb _ _ (omega (arith, le)) in
    rw (early, rising, within) refl

pub tail_on : (s : Section) (m next final : Message) (bytes : List ℕ) → Makes s m next → s.code ≤ 117 → Tail s.code next final bytes → TailBelow s.code m final (spelled s ++ bytes)
tail_on s m next final bytes makes le tail last lt = record {
  sections = s ∷ tail.sections;
  text = ap (λ (b : List ℕ). spelled s ++ b) tail.text;
  order = (follows last s.code lt le, makes.is, tail.order);
  whole = tail.whole;
  said = ap (λ r. and_then r (λ n. sections_say n tail.sections)) (makes.said (length (all_spelled tail.sections))) ∙ tail.said;
}

pub tail_end : (s : Section) (m final : Message) → Makes s m final → s.code ≡ 117 → TailBelow 117 m final (spelled s)
tail_end s m final makes is last lt = record {
  sections = s ∷ [];
  text = sym (append-nil (spelled s));
  order = (follows last s.code (omega (arith, lt, is)) (omega (arith, is)), makes.is, tt);
  whole = ap may_end is;
  said = ap (λ r. and_then r (λ n. sections_say n [])) (makes.said 0);
}

pub tail_less : (less code : ℕ) (m final : Message) (bytes : List ℕ) → less ≤ code → TailBelow code m final bytes → TailBelow less m final bytes
tail_less less code m final bytes le tail last lt = tail last (omega (arith, le, lt))
