-- A send without its duplicates is accepted with the same changes.
use Rattle.std.proofs.Common.{Bool, List, None, Option, Some, [], ap, arith, false, length, nat_le, nat_lt, not, refl, subst, sym, true, ℕ, ◌++◌, ◌+◌, ◌-◌, ◌||◌, ◌∙◌, ◌∷◌, ◌≡◌, ◌≤◌}
use Rattle.std.proofs.lemmas.Bool.Decides.{nat_tests}
use Rattle.std.proofs.lemmas.List.Sums.{sum_by-cons}
use Rattle.std.specs.List.{list_all}
use Rattle.std.specs.Option.{option_map}
use Rattle.std.specs.Prelude.{codes, if◌then◌else◌, is_some, sum_by}
use Rattle.sb_laws.proofs.Consistency.{first_none, passed}
use Rattle.sb_laws.proofs.Answered.{answers_so}
use Rattle.sb_laws.proofs.Sameness.{two}
use Rattle.sb_machine.specs.Acts.{act_row, is_via_in}
use Rattle.sb_machine.specs.Changes.{after_all, in_turn}
use Rattle.sb_machine.specs.Events.{receipts_in, thin_act, thin_messages}
use Rattle.sb_machine.specs.Fields.{bad_field, bad_in_by, bad_in_message, bad_in_messages, bad_in_send, first_some, max_messages, takes_number, unless}
use Rattle.sb_machine.specs.Messages.{above, all_bytes, first_size, large_in, large_one, large_size, large_together, max_body}
use Rattle.sb_machine.specs.Names.{is_address}
use Rattle.sb_machine.specs.Namespace.{entity_at, key_of, last_at, live}
use Rattle.sb_machine.specs.Queueing.{has_room_in, is_open}
use Rattle.sb_machine.specs.Rows.{Row, answers, asks, is_beyond, refused_by, refuses, within_quota}
use Rattle.sb_machine.specs.SendRow.{have_sessions_at, is_destination, send_row, sent, sent_or_queued}
use Rattle.sb_machine.specs.Sending.{coming, have_sessions, is_repeat, message_changes, noting, receipt, receipts, send_changes, too_large}
use Rattle.sb_machine.specs.Visits.{has_session}
use Rattle.sb_machine.specs.declared.call.Act.{Act}
use Rattle.sb_machine.specs.declared.call.Act.TheVariants.{Send}
use Rattle.sb_machine.specs.declared.call.By.{By}
use Rattle.sb_machine.specs.declared.call.Part.TheVariants.{Main}
use Rattle.sb_machine.specs.declared.call.Path.{Path}
use Rattle.sb_machine.specs.declared.change.Change.{Change}
use Rattle.sb_machine.specs.declared.reply.Receipt.{Receipt}
use Rattle.sb_machine.specs.declared.reply.Receipt.TheVariants.{Duplicate, Number}
use Rattle.sb_machine.specs.declared.reply.Refusal.{Refusal}
use Rattle.sb_machine.specs.declared.reply.Refusal.TheVariants.{BadName, EntityNotFound, QuotaExceeded, SessionRequired, TooLarge, TxnFull, TxnNotFound, WrongKind}
use Rattle.sb_machine.specs.declared.reply.Reply.{Reply}
use Rattle.sb_machine.specs.declared.reply.Reply.TheVariants.{Sent}
use Rattle.sb_machine.specs.declared.state.Entity.{Entity}
use Rattle.sb_machine.specs.declared.state.Space.{Space}
use Rattle.sb_model.specs.Effects.{property_bytes}
use Rattle.sb_model.specs.declared.message.Message.{Message}

-- ---- the same changes

thin_changes : (t : ℕ) (e : Entity) (ms : List Message) (s : Space) → send_changes t e (thin_messages (receipts t e ms s) ms) s ≡ send_changes t e ms s
thin_changes t e [] s = refl
thin_changes t e (m ∷ ms) s = at (is_repeat t e m s) refl (λ p. thin_changes t e ms p) where
  first : List Change
  first = message_changes t e m s

  rest : List Receipt
  rest = receipts t e ms (after_all t (message_changes t e m s) s)

  at : (b : Bool) → is_repeat t e m s ≡ b → ((p : Space) → send_changes t e (thin_messages (receipts t e ms p) ms) p ≡ send_changes t e ms p)
      → send_changes t e (thin_messages (receipts t e (m ∷ ms) s) (m ∷ ms)) s ≡ send_changes t e (m ∷ ms) s
  at true is ih =
      let again : receipt t e m s ≡ Duplicate = ap (λ (b : Bool). if b then Duplicate else Number (last_at (key_of Main e) s + 1)) is in
      let none : message_changes t e m s ≡ [] = ap (λ (b : Bool). if b then [] else noting e m ++ coming t e m s) is in
      ap (λ (r : Receipt). send_changes t e (thin_messages (r ∷ receipts t e ms (after_all t (message_changes t e m s) s)) (m ∷ ms)) s) again
      ∙ ap (λ (cs : List Change). send_changes t e (thin_messages (receipts t e ms (after_all t cs s)) ms) s) none ∙ ih s
      ∙ sym (ap (λ (cs : List Change). cs ++ in_turn (message_changes t e) t ms (after_all t cs s)) none)
  at false is ih =
      let number : receipt t e m s ≡ Number (last_at (key_of Main e) s + 1) = ap (λ (b : Bool). if b then Duplicate else Number (last_at (key_of Main e) s + 1)) is in
      ap (λ (r : Receipt). send_changes t e (thin_messages (r ∷ receipts t e ms (after_all t (message_changes t e m s) s)) (m ∷ ms)) s) number
      ∙ ap (λ (l : List Change). message_changes t e m s ++ l) (ih (after_all t (message_changes t e m s) s))

-- ---- what passes for all messages passes for those that are left

all_left : (p : Message → Bool) (rs : List Receipt) (ms : List Message) → list_all p ms ≡ true → list_all p (thin_messages rs ms) ≡ true
all_left p rs [] all = refl
all_left p [] (m ∷ ms) all = all
all_left p (Duplicate ∷ rs) (m ∷ ms) all = all_left p rs ms (two (p m) (list_all p ms) all).1
all_left p (Number n ∷ rs) (m ∷ ms) all = let both = two (p m) (list_all p ms) all in rw both.0 (all_left p rs ms both.1)

sum_left : (f : Message → ℕ) (rs : List Receipt) (ms : List Message) → sum_by f (thin_messages rs ms) ≤ sum_by f ms
sum_left f rs [] = omega arith
sum_left f [] (m ∷ ms) = omega arith
sum_left f (Duplicate ∷ rs) (m ∷ ms) = omega (arith, sum_left f rs ms, sum_by-cons f m ms)
sum_left f (Number n ∷ rs) (m ∷ ms) = omega (arith, sum_left f rs ms, sum_by-cons f m ms, sum_by-cons f m (thin_messages rs ms))

fewer_left : (rs : List Receipt) (ms : List Message) → length (thin_messages rs ms) ≤ length ms
fewer_left rs [] = omega arith
fewer_left [] (m ∷ ms) = omega arith
fewer_left (Duplicate ∷ rs) (m ∷ ms) = omega (arith, fewer_left rs ms)
fewer_left (Number n ∷ rs) (m ∷ ms) = omega (arith, fewer_left rs ms)

sessions_left : (e : Entity) (rs : List Receipt) (ms : List Message) → have_sessions e ms ≡ true → have_sessions e (thin_messages rs ms) ≡ true
sessions_left e rs ms h = at e.about.description.requires_session h where
  at : (b : Bool) → (not b || list_all has_session ms) ≡ true → (not b || list_all has_session (thin_messages rs ms)) ≡ true
  at true h = all_left has_session rs ms h
  at false h = refl

-- ---- sizes

size_none : (a b : Option ℕ) → first_size a b ≡ None → (a ≡ None) × (b ≡ None)
size_none None b e = (refl, e)
size_none (Some size) b e = absurd cc

sizes_none : (a b : Option ℕ) → a ≡ None → b ≡ None → first_size a b ≡ None
sizes_none None b p q = q
sizes_none (Some size) b p q = absurd cc

ones_left : (rs : List Receipt) (ms : List Message) → large_one ms ≡ None → large_one (thin_messages rs ms) ≡ None
ones_left rs [] h = refl
ones_left [] (m ∷ ms) h = h
ones_left (Duplicate ∷ rs) (m ∷ ms) h = ones_left rs ms (size_none (large_in m) (large_one ms) h).1
ones_left (Number n ∷ rs) (m ∷ ms) h = let parts = size_none (large_in m) (large_one ms) h in sizes_none (large_in m) (large_one (thin_messages rs ms)) parts.0 (ones_left rs ms parts.1)

together_left : (rs : List Receipt) (ms : List Message) → large_together ms ≡ None → large_together (thin_messages rs ms) ≡ None
together_left rs ms h = at (length ms) (all_bytes ms) (length (thin_messages rs ms)) (all_bytes (thin_messages rs ms)) (fewer_left rs ms) (sum_left (λ m. length m.body + property_bytes m) rs ms) h where
  at : (many size left small : ℕ) → left ≤ many → small ≤ size → (if nat_lt 1 many then above max_body size else None) ≡ None → (if nat_lt 1 left then above max_body small else None) ≡ None
  at many size left small le less h = on (nat_lt 1 left) refl (nat_lt 1 many) refl h where
    more : nat_lt 1 left ≡ true → nat_lt 1 many ≡ false → ⊥
    more p q = absurd (grind (arith, nat_tests))

    fits : (b : Bool) → nat_le size max_body ≡ b → (if b then None else Some size) ≡ None → nat_le small max_body ≡ true
    fits true is e = grind (arith, nat_tests)
    fits false is e = absurd cc

    on : (a : Bool) → nat_lt 1 left ≡ a → (b : Bool) → nat_lt 1 many ≡ b → (if b then above max_body size else None) ≡ None → (if a then above max_body small else None) ≡ None
    on false is b so h = refl
    on true is true so h = ap (λ (b : Bool). if b then None else Some small) (fits (nat_le size max_body) refl h)
    on true is false so h = absurd (more is so)

no_refusal : (o : Option ℕ) → option_map (λ size. TooLarge size) o ≡ None → o ≡ None
no_refusal None e = refl
no_refusal (Some size) e = absurd cc

small_left : (rs : List Receipt) (ms : List Message) → too_large ms ≡ None → too_large (thin_messages rs ms) ≡ None
small_left rs ms h =
    let parts = size_none (large_one ms) (large_together ms) (no_refusal (large_size ms) h) in
    ap (option_map (λ size. TooLarge size)) (sizes_none (large_one (thin_messages rs ms)) (large_together (thin_messages rs ms)) (ones_left rs ms parts.0) (together_left rs ms parts.1))

-- ---- the row of a send

pub asked_so : (b : Bool) (r : Refusal) (row : Row) (reply : Reply) (cs : List Change) → asks b r row ≡ answers reply cs → (b ≡ true) × (row ≡ answers reply cs)
asked_so true r row reply cs e = (refl, e)
asked_so false r row reply cs e = absurd cc

asks_on : (b : Bool) (r : Refusal) (row : Row) → b ≡ true → asks b r row ≡ row
asks_on true r row e = refl
asks_on false r row e = absurd cc

unlarge : (o : Option Refusal) (row : Row) (reply : Reply) (cs : List Change) → refused_by o row ≡ answers reply cs → (o ≡ None) × (row ≡ answers reply cs)
unlarge None row reply cs e = (refl, e)
unlarge (Some r) row reply cs e = absurd cc

-- the same changes, whatever the reply
pub record Moves (row : Row) (cs : List Change) : Type 0 where
  pub reply : Reply
  pub is : row ≡ answers reply cs

module _ (s : Space) (t : ℕ) (to : Path) where
  abbrev send_at : List Message → Option Entity → Row
  send_at ms o = asks (is_address to) BadName (asks (false || is_some o) EntityNotFound (asks (is_destination to) WrongKind (asks (have_sessions_at o ms) SessionRequired (asks (is_open None s) TxnNotFound (asks (has_room_in None (length ms)) TxnFull (refused_by (too_large ms) (sent_or_queued s t to ms o None)))))))

  quota_so : (e : Entity) (ms : List Message) (reply : Reply) (cs : List Change) → sent s t e ms ≡ answers reply cs → (is_beyond (live s) (live (after_all t cs s)) ≡ false) × (reply ≡ Sent (receipts t e ms s)) × (send_changes t e ms s ≡ cs)
  quota_so e ms reply cs is = at (is_beyond (live s) (live (after_all t (send_changes t e ms s) s))) refl is where
    at : (b : Bool) → is_beyond (live s) (live (after_all t (send_changes t e ms s) s)) ≡ b
        → (if b then refuses (QuotaExceeded (live s) (live (after_all t (send_changes t e ms s) s) - live s)) else answers (Sent (receipts t e ms s)) (send_changes t e ms s)) ≡ answers reply cs
        → (is_beyond (live s) (live (after_all t cs s)) ≡ false) × (reply ≡ Sent (receipts t e ms s)) × (send_changes t e ms s ≡ cs)
    at true beyond is = absurd cc
    at false within is = let same = answers_so (Sent (receipts t e ms s)) reply (send_changes t e ms s) cs is in (subst (λ (l : List Change). is_beyond (live s) (live (after_all t l s)) ≡ false) same.1 within, sym same.0, same.1)

  sent_thin : (e : Entity) (ms : List Message) (reply : Reply) (cs : List Change) → sent s t e ms ≡ answers reply cs → Moves (sent s t e (thin_messages (receipts_in reply) ms)) cs
  sent_thin e ms reply cs is =
      let parts = quota_so e ms reply cs is in
      let same : send_changes t e (thin_messages (receipts_in reply) ms) s ≡ cs = ap (λ (r : Reply). send_changes t e (thin_messages (receipts_in r) ms) s) parts.1 ∙ thin_changes t e ms s ∙ parts.2 in
      record {
        reply = Sent (receipts t e (thin_messages (receipts_in reply) ms) s);
        is = ap (λ (l : List Change). within_quota t s l (answers (Sent (receipts t e (thin_messages (receipts_in reply) ms) s)) l)) same
            ∙ ap (λ (b : Bool). if b then refuses (QuotaExceeded (live s) (live (after_all t cs s) - live s)) else answers (Sent (receipts t e (thin_messages (receipts_in reply) ms) s)) cs) parts.0;
      }

  send_thin : (ms : List Message) (reply : Reply) (cs : List Change) → send_row s t to ms None ≡ answers reply cs → Moves (send_row s t to (thin_messages (receipts_in reply) ms) None) cs
  send_thin ms reply cs is = at (entity_at to s) is where
    left : List Message
    left = thin_messages (receipts_in reply) ms

    at : (o : Option Entity) → send_at ms o ≡ answers reply cs → Moves (send_at (thin_messages (receipts_in reply) ms) o) cs
    at None is = let a = asked_so (is_address to) BadName _ reply cs is in absurd (gone a.1) where
      gone : refuses EntityNotFound ≡ answers reply cs → ⊥
      gone e = absurd cc
    at (Some e) is =
        let a = asked_so (is_address to) BadName _ reply cs is in
        let b = asked_so (is_destination to) WrongKind _ reply cs a.1 in
        let c = asked_so (have_sessions e ms) SessionRequired _ reply cs b.1 in
        let d = unlarge (too_large ms) (sent s t e ms) reply cs c.1 in
        let moves = sent_thin e ms reply cs d.1 in
        record {
          reply = moves.reply;
          is = asks_on (is_address to) BadName _ a.0 ∙ asks_on (is_destination to) WrongKind _ b.0 ∙ asks_on (have_sessions e (thin_messages (receipts_in reply) ms)) SessionRequired _ (sessions_left e (receipts_in reply) ms c.0)
              ∙ ap (λ (o : Option Refusal). refused_by o (sent s t e (thin_messages (receipts_in reply) ms))) (small_left (receipts_in reply) ms d.0) ∙ moves.is;
        }

pub row_thin : (s : Space) (t : ℕ) (act : Act) (reply : Reply) (cs : List Change) → act_row s t act ≡ answers reply cs → Moves (act_row s t (thin_act reply act)) cs
row_thin s t (Send to ms None) reply cs is = send_thin s t to ms reply cs is
row_thin s t (Send to ms (Some x)) reply cs is = record { reply = reply; is = is }
row_thin s t act reply cs is = record { reply = reply; is = is }

-- ---- its fields

none_first : (a b : Option (List ℕ)) → a ≡ None → b ≡ None → first_some a b ≡ None
none_first None b p q = q
none_first (Some key) b p q = absurd cc

messages_left : (is_via : Bool) (rs : List Receipt) (ms : List Message) → bad_in_messages is_via ms ≡ None → bad_in_messages is_via (thin_messages rs ms) ≡ None
messages_left is_via rs [] h = refl
messages_left is_via [] (m ∷ ms) h = h
messages_left is_via (Duplicate ∷ rs) (m ∷ ms) h = messages_left is_via rs ms (first_none (bad_in_message is_via m) (bad_in_messages is_via ms) h).1
messages_left is_via (Number n ∷ rs) (m ∷ ms) h = let parts = first_none (bad_in_message is_via m) (bad_in_messages is_via ms) h in none_first (bad_in_message is_via m) (bad_in_messages is_via (thin_messages rs ms)) parts.0 (messages_left is_via rs ms parts.1)

send_left : (rs : List Receipt) (ms : List Message) → bad_in_send false ms None ≡ None → bad_in_send false (thin_messages rs ms) None ≡ None
send_left rs ms h =
    let many = first_none (unless (nat_le (length ms) max_messages) (codes "messages")) (first_some (bad_in_messages false ms) None) h in
    let each = first_none (bad_in_messages false ms) None many.1 in
    none_first (unless (nat_le (length (thin_messages rs ms)) max_messages) (codes "messages")) (first_some (bad_in_messages false (thin_messages rs ms)) None)
    (ap (λ (b : Bool). unless b (codes "messages")) (few (length ms) (length (thin_messages rs ms)) (fewer_left rs ms) (passed (nat_le (length ms) max_messages) (codes "messages") many.0)))
    (none_first (bad_in_messages false (thin_messages rs ms)) None (messages_left false rs ms each.0) refl) where
      few : (many left : ℕ) → left ≤ many → nat_le many max_messages ≡ true → nat_le left max_messages ≡ true
      few many left le is = grind (arith, nat_tests)

pub takes_thin : (reply : Reply) (act : Act) → takes_number (thin_act reply act) ≡ takes_number act
takes_thin reply (Send to ms None) = refl
takes_thin reply (Send to ms (Some x)) = refl
takes_thin reply act = refl

pub fields_thin : (s : Space) (reply : Reply) (act : Act) (by : Option By) → bad_field (is_via_in s act) act by ≡ None → bad_field (is_via_in s (thin_act reply act)) (thin_act reply act) by ≡ None
fields_thin s reply (Send to ms None) by h = let parts = first_none (bad_in_send false ms None) (bad_in_by (Send to ms None) by) h in none_first (bad_in_send false (thin_messages (receipts_in reply) ms) None) (bad_in_by (Send to (thin_messages (receipts_in reply) ms) None) by) (send_left (receipts_in reply) ms parts.0) (by_left by parts.1) where
  by_left : (by : Option By) → bad_in_by (Send to ms None) by ≡ None → bad_in_by (Send to (thin_messages (receipts_in reply) ms) None) by ≡ None
  by_left None h = refl
  by_left (Some b) h = h
fields_thin s reply (Send to ms (Some x)) by h = h
fields_thin s reply act by h = h
