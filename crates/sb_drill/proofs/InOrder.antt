-- The lists of a drill's calls stand in order.
use Rattle.std.proofs.Common.{◌≡◌, ◌<◌, ◌/◌, ◌%◌, ◌^◌, ℕ, [], ◌∷◌, length, Bool, true, false, Option, Some, None, refl, arith}
use Rattle.std.specs.Prelude.{◌-◌, ◌==◌, nat_lt, if◌then◌else◌}
use Rattle.std.specs.Fmt.{decimal}
use Rattle.std.specs.List.{list_all}
use Rattle.std.proofs.lemmas.Bool.Decides.{nat_tests}
use Rattle.std.proofs.lemmas.Fmt.{decimal_nonempty}
use Rattle.sb_model.specs.Orders.{IsInOrder, is_set}
use Rattle.sb_model.specs.declared.message.SystemName.TheVariants.{MessageId, SessionId}
use Rattle.sb_model.specs.declared.message.SystemText.{SystemText}
use Rattle.sb_machine.specs.Ordered.{IsActInOrder}
use Rattle.sb_machine.specs.declared.call.Token.{Token}
use Rattle.sb_drill.specs.Draws.{choice_of, value_of, word_at}
use Rattle.sb_drill.specs.Calls.{act_at, complete, create_plain, create_rule, create_session, create_subscription, create_topic, drawn_act, lock_session, number_text, plain_message, session_message, setup_act, topic_message}
use Rattle.sb_drill.specs.declared.choice.Choice.{Choice}
use Rattle.sb_drill.specs.declared.choice.Choice.TheVariants.{SendPlain, SendTopic, SendSession, LockPlain, TakeTopic, CompletePlain, AcceptSession, LockSession, TakeDead}
use Rattle.sb_drill.specs.declared.memory.Memory.{Memory}
use Rattle.sb_drill.specs.declared.memory.Received.{Received}

-- ---- messages

some_bytes : (n : ℕ) → 0 < n → nat_lt 0 n ≡ true
some_bytes n is = grind (arith, nat_tests)

one_set : (s : SystemText) → is_set s ≡ true → list_all is_set (s ∷ []) ≡ true
one_set s is = rw is refl

digits_set : (n : ℕ) → n < 2 ^ 64 → nat_lt 0 (length (decimal n)) ≡ true
digits_set n small = some_bytes (length (decimal n)) (decimal_nonempty n small)

plain_in_order : (call value : ℕ) → value < 2 ^ 64 → IsInOrder (plain_message call value)
plain_in_order call value small = record { props = (refl, tt); sys = (refl, tt); set = one_set (number_text MessageId value) (digits_set value small) }

topic_in_order : (call value : ℕ) → IsInOrder (topic_message call value)
topic_in_order call value = record { props = (refl, tt); sys = tt; set = refl }

session_in_order : (call value : ℕ) → value % 4 < 2 ^ 64 → IsInOrder (session_message call value)
session_in_order call value small = record { props = tt; sys = (refl, tt); set = one_set (number_text SessionId (value % 4)) (digits_set (value % 4) small) }

-- ---- acts

small_value : (word : ℕ) → word / 10 % 16 < 2 ^ 64
small_value word = omega arith

small_session : (value : ℕ) → value % 4 < 2 ^ 64
small_session value = omega arith

complete_in_order : (r : Option Received) → IsActInOrder (complete r)
complete_in_order None = tt
complete_in_order (Some r) = tt

session_act_in_order : (t : Option Token) → IsActInOrder (lock_session t)
session_act_in_order None = tt
session_act_in_order (Some t) = tt

drawn_in_order : (choice : Choice) (call word : ℕ) (m : Memory) → IsActInOrder (drawn_act choice call (value_of word) m)
drawn_in_order SendPlain call word m = (plain_in_order call (value_of word) (small_value word), tt)
drawn_in_order SendTopic call word m = (topic_in_order call (value_of word), tt)
drawn_in_order SendSession call word m = (session_in_order call (value_of word) (small_session (value_of word)), tt)
drawn_in_order LockPlain call word m = tt
drawn_in_order TakeTopic call word m = tt
drawn_in_order CompletePlain call word m = complete_in_order m.received
drawn_in_order AcceptSession call word m = tt
drawn_in_order LockSession call word m = session_act_in_order m.session
drawn_in_order TakeDead call word m = tt

setup_in_order : (a b c d : Bool) → IsActInOrder (if a then create_plain else (if b then create_session else (if c then create_topic else (if d then create_subscription else create_rule))))
setup_in_order true b c d = tt
setup_in_order false true c d = tt
setup_in_order false false true d = tt
setup_in_order false false false true = tt
setup_in_order false false false false = tt

either_in_order : (first : Bool) (n call word : ℕ) (m : Memory) → IsActInOrder (if first then setup_act n else drawn_act (choice_of word) call (value_of word) m)
either_in_order true n call word m = setup_in_order (n == 0) (n == 1) (n == 2) (n == 3)
either_in_order false n call word m = drawn_in_order (choice_of word) call word m

pub in_order : (seed n : ℕ) (m : Memory) → IsActInOrder (act_at seed n m)
unfolding act_at
in_order seed n m = either_in_order (nat_lt n 5) n (n - 4) (word_at seed (n - 5)) m
