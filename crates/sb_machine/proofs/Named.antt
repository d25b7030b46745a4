-- A text that names a copy of a consistent state is short: it is a MessageId there, or a number in digits.
use Rattle.std.proofs.Common.{◌≡◌, ◌≤◌, ◌<◌, ◌^◌, ℕ, List, [], ◌∷◌, length, Bool, true, false, ◌&&◌, not, nat_le, cond, find, Option, Some, None, refl, ap, subst, arith, inl, inr}
use Rattle.std.specs.Prelude.{bytes_eq, ◌==◌}
use Rattle.std.specs.Fmt.{decimal}
use Rattle.std.specs.Option.{option_map}
use Rattle.std.specs.Str.{IsUtf8, chars}
use Rattle.std.proofs.Math.Utf8.{encodes}
use Rattle.std.proofs.lemmas.Bool.{le-leb}
use Rattle.std.proofs.lemmas.Fmt.{length-decimal-le, IsAscii-decimal}
use Rattle.std.proofs.lemmas.Slice.Eq.{bytes_eq-Decides}
use Rattle.std.proofs.lemmas.Str.{IsUtf8-from_ascii, encodes-chars, length-le-encodes}
use Rattle.sb_machine.specs.Changes.{max_number}
use Rattle.sb_machine.specs.Claims.{has_sessions, asks_session, asks_holder, claiming}
use Rattle.sb_machine.specs.Consistent.{IsConsistent}
use Rattle.sb_machine.specs.Each.{Each}
use Rattle.sb_model.specs.Effects.{text_limit, is_within}
use Rattle.sb_machine.specs.Fields.{bad_in_texts, unless}
use Rattle.sb_machine.specs.Fit.{IsCopy, IsLeaf, IsEntity}
use Rattle.sb_machine.specs.Keyed.{AreRising}
use Rattle.sb_machine.specs.Leases.{is_living, is_named, held_session, leased}
use Rattle.sb_machine.specs.Messages.{has_text_of}
use Rattle.sb_machine.specs.Names.{is_address, is_same_entity}
use Rattle.sb_machine.specs.Namespace.{entity_at, leaf_of}
use Rattle.sb_machine.specs.Queueing.{open_in, is_open}
use Rattle.sb_machine.specs.Receiving.{lock_end}
use Rattle.sb_machine.specs.Rows.{Row, asks, found_or, at_entity, is_receivable}
use Rattle.sb_machine.specs.Settlement.{goes_with, renewed, renew_row}
use Rattle.sb_machine.specs.SettleRow.{is_on, settle_found, settle_row}
use Rattle.sb_model.specs.SystemNames.{system_name, system_code}
use Rattle.sb_machine.specs.declared.call.How.{How}
use Rattle.sb_machine.specs.declared.call.Part.{Part}
use Rattle.sb_machine.specs.declared.call.Part.TheVariants.{Main, Dead, Transfer}
use Rattle.sb_machine.specs.declared.call.Path.{Path}
use Rattle.sb_machine.specs.declared.call.Token.{Token}
use Rattle.sb_machine.specs.declared.call.Which.{Which}
use Rattle.sb_machine.specs.declared.call.Which.TheVariants.{Number, Id}
use Rattle.sb_model.specs.declared.message.SystemName.{SystemName}
use Rattle.sb_model.specs.declared.message.SystemName.TheVariants.{MessageId, Label, CorrelationId, SessionId, To, ReplyTo, ReplyToSessionId, ContentType}
use Rattle.sb_model.specs.declared.message.SystemText.{SystemText}
use Rattle.sb_machine.specs.declared.reply.Refusal.TheVariants.{BadName, EntityNotFound, WrongKind, SessionRequired, SessionNotAllowed, SessionLost, LockLost, TxnNotFound, TxnScope}
use Rattle.sb_machine.specs.declared.state.Entity.{Entity}
use Rattle.sb_machine.specs.declared.state.Leaf.{Leaf}
use Rattle.sb_machine.specs.declared.state.Session.{Session}
use Rattle.sb_machine.specs.declared.state.Space.{Space}
use Rattle.sb_machine.specs.declared.state.State.{State}
use Rattle.sb_machine.specs.declared.state.StoredCopy.{StoredCopy}
use Rattle.sb_machine.specs.declared.state.Transaction.{Transaction}
use Rattle.sb_machine.specs.Judged.{is_short_id}
use Rattle.sb_machine.proofs.Rows.{Passes, is_answer, no_answer, asked_by}
use Rattle.sb_machine.proofs.Passed.{both, either, first_none, unless_none}

each_found : {X : Type 0} (P : X → Type 0) (p : X → Bool) (xs : List X) (x : X) → Each P xs → find p xs ≡ Some x → (p x ≡ true) × P x
each_found P p [] x all e = absurd cc
each_found {X} P p (y ∷ ys) x all e = by_test (p y) refl e (each_found P p ys x all.1) where
  by_test : (b : Bool) → p y ≡ b → cond b (Some y) (find p ys) ≡ Some x → (find p ys ≡ Some x → (p x ≡ true) × P x) → (p x ≡ true) × P x
  by_test true is here later = let same : y ≡ x = cc in (subst (λ (v : X). p v ≡ true) same is, subst P same all.0)
  by_test false is there later = later there

-- ---- a MessageId

texts_within : (sys : List SystemText) → bad_in_texts sys ≡ None → Each (λ x. is_within (text_limit x.name) (length (chars x.text)) ≡ true) sys
texts_within [] good = tt
texts_within (x ∷ xs) good =
    let parts = first_none (unless (is_within (text_limit x.name) (length (chars x.text))) (system_name x.name)) (bad_in_texts xs) good in
    (unless_none (is_within (text_limit x.name) (length (chars x.text))) (system_name x.name) parts.0, texts_within xs parts.1)

message_id_within : (n : SystemName) (count : ℕ) → (system_code n == 1) ≡ true → is_within (text_limit n) count ≡ true → nat_le count 128 ≡ true
message_id_within MessageId count is within = within
message_id_within Label count is within = absurd cc
message_id_within CorrelationId count is within = absurd cc
message_id_within SessionId count is within = absurd cc
message_id_within To count is within = absurd cc
message_id_within ReplyTo count is within = absurd cc
message_id_within ReplyToSessionId count is within = absurd cc
message_id_within ContentType count is within = absurd cc

abbrev is_message_id : SystemText → Bool
is_message_id x = system_code x.name == 1

text_short : (sys : List SystemText) (id : List ℕ) → bad_in_texts sys ≡ None → elim (option_map (λ (x : SystemText). x.text) (find is_message_id sys)) as (λ _. Bool) [ Some own ↦ bytes_eq own id | None ↦ false ] ≡ true → nat_le (length (chars id)) 128 ≡ true
text_short sys id good has = by_found (find is_message_id sys) refl has where
  by_found : (o : Option SystemText) → find is_message_id sys ≡ o → elim (option_map (λ (x : SystemText). x.text) o) as (λ _. Bool) [ Some own ↦ bytes_eq own id | None ↦ false ] ≡ true → nat_le (length (chars id)) 128 ≡ true
  by_found None found same = absurd cc
  by_found (Some x) found same =
      let a = each_found (λ (y : SystemText). is_within (text_limit y.name) (length (chars y.text)) ≡ true) is_message_id sys x (texts_within sys good) found in
      subst (λ (t : List ℕ). nat_le (length (chars t)) 128 ≡ true) ((bytes_eq-Decides x.text id).0 same) (message_id_within x.name (length (chars x.text)) a.0 a.1)

-- ---- a number's digits

chars_by_length : (t : List ℕ) → IsUtf8 t → length (chars t) ≤ length t
chars_by_length t u =
    let same : length (encodes (chars t)) ≡ length t = ap (λ (l : List ℕ). length l) (encodes-chars t u) in
    let short = length-le-encodes (chars t) in
    omega (arith, same, short)

digits_short : (n : ℕ) (id : List ℕ) → n ≤ max_number → bytes_eq (decimal n) id ≡ true → nat_le (length (chars id)) 128 ≡ true
digits_short n id le same =
    let below : n < 2 ^ 64 = omega (arith, le) in
    let few : n < 10 ^ 19 = omega (arith, le) in
    let bytes = length-decimal-le 19 n (omega arith) few below in
    let characters = chars_by_length (decimal n) (IsUtf8-from_ascii (decimal n) (IsAscii-decimal n below)) in
    subst (λ (t : List ℕ). nat_le (length (chars t)) 128 ≡ true) ((bytes_eq-Decides (decimal n) id).0 same) (le-leb (length (chars (decimal n))) 128 (omega (arith, bytes, characters)))

rising_most : (low high : ℕ) (cs : List StoredCopy) → AreRising (λ c. c.number) low high cs → low ≤ high
rising_most low high [] rising = rising
rising_most low high (c ∷ cs) rising = let above = rising.0 in let most = rising_most c.number high cs rising.1 in omega (arith, above, most)

each_below : (low high : ℕ) (cs : List StoredCopy) → AreRising (λ c. c.number) low high cs → Each (λ c. c.number ≤ high) cs
each_below low high [] rising = tt
each_below low high (c ∷ cs) rising = (rising_most c.number high cs rising.1, each_below c.number high cs rising.1)

each_with : {X : Type 0} (P Q : X → Type 0) (xs : List X) → Each P xs → Each Q xs → Each (λ x. P x × Q x) xs
each_with P Q [] p q = tt
each_with P Q (x ∷ xs) p q = ((p.0, q.0), each_with P Q xs p.1 q.1)

-- ---- a copy that is named

named_short : (w : Which) (now : ℕ) (sessions : List Session) (c : StoredCopy) → is_named w c ≡ true → IsCopy now sessions c → c.number ≤ max_number → is_short_id w ≡ true
named_short (Number n) now sessions c named copy le = refl
named_short (Id id) now sessions c named copy le =
    elim (either (has_text_of MessageId id c.message) (bytes_eq (decimal c.number) id) named) [
      | inl has ↦ text_short c.message.sys id copy.message.fields has
      | inr same ↦ digits_short c.number id le same
    ]

cond_some : {X : Type 0} (b : Bool) (o : Option X) (x : X) → cond b o None ≡ Some x → o ≡ Some x
cond_some true o x e = e
cond_some false o x e = absurd cc

leased_short : (s : Space) (t : ℕ) (token : Token) (w : Which) (leaf : Leaf) (now : ℕ) (c : StoredCopy) → IsLeaf now leaf → leased s t token w leaf ≡ Some c → is_short_id w ≡ true
leased_short s t token w leaf now c fits e =
    let p = λ (x : StoredCopy). is_living t leaf.sessions token.lock x.standing && is_named w x in
    let found = cond_some (token.salt == s.salt) (find p leaf.copies) c e in
    let below = each_below 0 leaf.last leaf.copies fits.numbers in
    let a = each_found (λ (x : StoredCopy). IsCopy now leaf.sessions x × (x.number ≤ leaf.last)) p leaf.copies c (each_with (IsCopy now leaf.sessions) (λ (x : StoredCopy). x.number ≤ leaf.last) leaf.copies fits.copies below) found in
    let number = a.1.1 in
    let last = fits.last in
    named_short w now leaf.sessions c (both (is_living t leaf.sessions token.lock c.standing) (is_named w c) a.0).1 a.1.0 (omega (arith, number, last))

-- ---- the entity whose copy it is

leaf_fits : (now : ℕ) (part : Part) (e : Entity) → IsEntity now e → IsLeaf now (leaf_of part e)
leaf_fits now Main e fits = fits.main
leaf_fits now Dead e fits = fits.dead
leaf_fits now Transfer e fits = fits.transfer

found_with : (o : Option Entity) (next : Entity → Row) → Passes is_answer (found_or o EntityNotFound next) → (e : Entity) × (o ≡ Some e) × Passes is_answer (next e)
found_with (Some e) next answered = (e, refl, answered)
found_with None next answered = absurd (no_answer EntityNotFound answered.is)

entity_with : (s : State) (path : Path) (next : Entity → Row) → IsConsistent s → Passes is_answer (at_entity s.space path next) → (e : Entity) × IsEntity s.now e × Passes is_answer (next e)
entity_with s path next fits answered =
    let a = asked_by (is_address path) BadName (found_or (entity_at path s.space) EntityNotFound next) answered in
    let b = found_with (entity_at path s.space) next a.1 in
    (b.0, (each_found (IsEntity s.now) (λ (e : Entity). is_same_entity e.about.path path) s.space.entities b.0 fits.entities b.1).1, b.2)

session_passed : (e : Entity) (part : Part) (session : Option Token) (row : Row) → Passes is_answer (asks_session e part session row) → Passes is_answer row
session_passed e part None row answered = (asked_by (not (has_sessions e part)) SessionRequired row answered).1
session_passed e part (Some token) row answered = (asked_by (has_sessions e part) SessionNotAllowed row answered).1

claim_passed : (token : Token) (o : Option Session) (row : Row) → Passes is_answer (claiming token o (λ claim. row)) → Passes is_answer row
claim_passed token (Some x) row answered = answered
claim_passed token None row answered = absurd (no_answer SessionLost answered.is)

holder_passed : (s : Space) (t : ℕ) (leaf : Leaf) (session : Option Token) (row : Row) → Passes is_answer (asks_holder s t leaf session (λ claim. row)) → Passes is_answer row
holder_passed s t leaf None row answered = answered
holder_passed s t leaf (Some token) row answered = claim_passed token (held_session s t token leaf) row answered

settle_some : (s : Space) (t : ℕ) (e : Entity) (from : Path) (token : Token) (session : Option Token) (how : How) (x : Option Transaction) (o : Option StoredCopy) → Passes is_answer (settle_found s t e from token session how x o) → (c : StoredCopy) × (o ≡ Some c)
settle_some s t e from token session how x (Some c) answered = (c, refl)
settle_some s t e from token session how x None answered = absurd (no_answer LockLost answered.is)

renew_some : (e : Entity) (part : Part) (until : ℕ) (o : Option StoredCopy) → Passes is_answer (renewed e part until o) → (c : StoredCopy) × (o ≡ Some c)
renew_some e part until (Some c) answered = (c, refl)
renew_some e part until None answered = absurd (no_answer LockLost answered.is)

pub settle_id : (s : State) (t : ℕ) (from : Path) (w : Which) (token : Token) (session : Option Token) (how : How) (txn : Option ℕ) → IsConsistent s → Passes is_answer (settle_row s.space t from w token session how txn) → is_short_id w ≡ true
settle_id s t from w token session how txn fits answered =
    let x = open_in txn s.space in
    let found = λ (e : Entity). settle_found s.space t e from token session how x (leased s.space t token w (leaf_of from.part e)) in
    let held = λ (e : Entity). asks_holder s.space t (leaf_of from.part e) session (λ claim. found e) in
    let r3 = λ (e : Entity). asks (is_on e x) TxnScope (held e) in
    let r2 = λ (e : Entity). asks (is_open txn s.space) TxnNotFound (r3 e) in
    let r1 = λ (e : Entity). asks_session e from.part session (r2 e) in
    let r0 = λ (e : Entity). asks (goes_with how from.part) WrongKind (r1 e) in
    let a = entity_with s from (λ e. asks (is_receivable e from.part) WrongKind (r0 e)) fits answered in
    let e = a.0 in
    let b = asked_by (is_receivable e from.part) WrongKind (r0 e) a.2 in
    let c = asked_by (goes_with how from.part) WrongKind (r1 e) b.1 in
    let d = asked_by (is_open txn s.space) TxnNotFound (r3 e) (session_passed e from.part session (r2 e) c.1) in
    let f = asked_by (is_on e x) TxnScope (held e) d.1 in
    let g = settle_some s.space t e from token session how x (leased s.space t token w (leaf_of from.part e)) (holder_passed s.space t (leaf_of from.part e) session (found e) f.1) in
    leased_short s.space t token w (leaf_of from.part e) s.now g.0 (leaf_fits s.now from.part e a.1) g.1

pub renew_id : (s : State) (t : ℕ) (from : Path) (w : Which) (token : Token) → IsConsistent s → Passes is_answer (renew_row s.space t from w token) → is_short_id w ≡ true
renew_id s t from w token fits answered =
    let found = λ (e : Entity). renewed e from.part (lock_end e t) (leased s.space t token w (leaf_of from.part e)) in
    let a = entity_with s from (λ e. asks (not (has_sessions e from.part)) SessionRequired (found e)) fits answered in
    let e = a.0 in
    let b = asked_by (not (has_sessions e from.part)) SessionRequired (found e) a.2 in
    let g = renew_some e from.part (lock_end e t) (leased s.space t token w (leaf_of from.part e)) b.1 in
    leased_short s.space t token w (leaf_of from.part e) s.now g.0 (leaf_fits s.now from.part e a.1) g.1
