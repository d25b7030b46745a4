-- The event of a call that takes no memory is short, whatever its texts are.
use Rattle.std.proofs.Common.{◌≡◌, ◌≤◌, ◌+◌, ◌-◌, ◌*◌, ℕ, zero, suc, List, [], ◌∷◌, length, Bool, true, false, nat_lt, cond, Option, Some, None, refl, arith}
use Rattle.std.specs.Str.{chars, chars_after, continuation_len, lead_bits}
use Rattle.std.proofs.lemmas.Bool.{leb-true}
use Rattle.sb_machine.specs.Names.{is_name, is_address, is_subscription}
use Rattle.sb_machine.specs.declared.call.Act.{Act}
use Rattle.sb_machine.specs.declared.call.Act.TheVariants.{CreateQueue, CreateTopic, CreateSubscription, CreateRule, Delete, DeleteRule, Send, Cancel, Receive, ReceiveDeferred, Settle, Renew, Accept, SessionRenew, SessionClose, SessionSet, SessionState, Begin, Commit, Rollback, Together, ForgetClient, Peek, Counts, Look}
use Rattle.sb_machine.specs.declared.call.By.{By}
use Rattle.sb_machine.specs.declared.call.Call.{Call}
use Rattle.sb_machine.specs.declared.call.Event.TheVariants.{Called}
use Rattle.sb_machine.specs.declared.call.How.{How}
use Rattle.sb_machine.specs.declared.call.How.TheVariants.{Complete, Abandon, Defer, DeadLetter}
use Rattle.sb_machine.specs.declared.call.Path.{Path}
use Rattle.sb_machine.specs.declared.call.Token.{Token}
use Rattle.sb_machine.specs.declared.call.Which.{Which}
use Rattle.sb_machine.specs.declared.call.Which.TheVariants.{Number, Id}
use Rattle.sb_codec.specs.Acts.{any_act}
use Rattle.sb_codec.specs.Choices.{which, how}
use Rattle.sb_codec.specs.EventBytes.{a_call, event, event_bytes}
use Rattle.sb_codec.specs.Forms.{content_or_none}
use Rattle.sb_machine.specs.Judged.{has_names, has_short_id, is_short_id}
use Rattle.sb_codec.specs.Pieces.{path, token, by}
use Rattle.sb_codec.proofs.Asked.{name_length}
use Rattle.sb_machine.proofs.Passed.{both}
use Rattle.sb_codec.proofs.Spelling.{event_is}
use Rattle.sb_engine.specs.Drafts.{copies_nothing}
use Rattle.sb_engine.specs.Small.{is_small}
use Rattle.sb_journal.specs.Text.{max_payload}

-- ---- so many characters of any bytes

few_left : (b : ℕ) → continuation_len b ≤ 3
few_left b = by (nat_lt b 128) (nat_lt b 224) (nat_lt b 240) where
  by : (x y z : Bool) → cond x 0 (cond y 1 (cond z 2 3)) ≤ 3
  by true y z = omega arith
  by false true z = omega arith
  by false false true = omega arith
  by false false false = omega arith

after_bytes : (n c : ℕ) (bs : List ℕ) → n ≤ 3 → 4 + length bs ≤ n + 4 * length (chars_after n c bs) + 3
after_bytes zero c [] few = omega arith
after_bytes zero c (b ∷ bs) few =
    let left = few_left b in
    let rest = after_bytes (continuation_len b) (lead_bits b) bs left in
    omega (arith, left, rest)
after_bytes (suc n) c [] few = omega (arith, few)
after_bytes (suc n) c (b ∷ bs) few =
    let rest = after_bytes n (c * 64 + (b - 128)) bs (omega (arith, few)) in
    omega (arith, rest)

by_chars : (t : List ℕ) → length t ≤ 4 * length (chars t) + 3
unfolding chars
by_chars [] = omega arith
by_chars (b ∷ bs) =
    let left = few_left b in
    let rest = after_bytes (continuation_len b) (lead_bits b) bs left in
    omega (arith, left, rest)

-- ---- the pieces

path_fixed : path.fixed ≡ 10
unfolding path
path_fixed = refl

token_fixed : token.fixed ≡ 16
unfolding token
token_fixed = refl

by_fixed : by.fixed ≡ 12
unfolding by
by_fixed = refl

which_fixed : which.fixed ≡ 1
unfolding which
which_fixed = refl

how_fixed : how.fixed ≡ 1
unfolding how
how_fixed = refl

act_fixed : any_act.fixed ≡ 1
unfolding any_act
act_fixed = refl

token_content : (t : Token) → token.content t ≡ 0
unfolding token
token_content t = refl

session_content : (o : Option Token) → content_or_none token.content o ≡ 0
session_content None = refl
session_content (Some t) = token_content t

subscription_content : (o : Option (List ℕ)) → is_subscription o ≡ true → content_or_none (λ (t : List ℕ). length t) o ≤ 50
subscription_content None is = omega arith
subscription_content (Some name) is = name_length 50 name is

path_content : (p : Path) → is_address p ≡ true → path.content p ≤ 310
unfolding path
path_content p is =
    let parts = both (is_name p.name) (is_subscription p.subscription) is in
    let name = name_length 260 p.name parts.0 in
    let subscription = subscription_content p.subscription parts.1 in
    omega (arith, name, subscription)

which_content : (w : Which) → is_short_id w ≡ true → which.content w ≤ 523
unfolding which
which_content (Number n) short = omega arith
which_content (Id id) short =
    let few = leb-true (length (chars id)) 128 short in
    let bytes = by_chars id in
    omega (arith, few, bytes)

how_content : (h : How) → copies_nothing h ≡ true → how.content h ≡ 0
unfolding how
how_content Complete small = refl
how_content Defer small = refl
how_content Abandon small = absurd cc
how_content (DeadLetter reason description) small = absurd cc

-- ---- acts

act_content : (a : Act) → is_small a ≡ true → has_names a ≡ true → has_short_id a ≡ true → any_act.content a ≤ 2000
unfolding any_act
act_content (Cancel from number) small named short = let one = path_content from named in let f = path_fixed in omega (arith, one, f)
act_content (Settle from w t session h None) small named short =
    let one = path_content from named in
    let copy = which_content w short in
    let lock = token_content t in
    let held = session_content session in
    let outcome = how_content h small in
    let f = path_fixed in
    let g = which_fixed in
    let i = token_fixed in
    let j = how_fixed in
    omega (arith, one, copy, lock, held, outcome, f, g, i, j)
act_content (Settle from w t session h (Some n)) small named short = absurd cc
act_content (Rollback txn) small named short = omega arith
act_content (CreateQueue name d) small named short = absurd cc
act_content (CreateTopic name d) small named short = absurd cc
act_content (CreateSubscription topic name d) small named short = absurd cc
act_content (CreateRule topic subscription name asked action) small named short = absurd cc
act_content (Delete entity) small named short = absurd cc
act_content (DeleteRule topic subscription name) small named short = absurd cc
act_content (Send to messages txn) small named short = absurd cc
act_content (Receive from mode session) small named short = absurd cc
act_content (ReceiveDeferred from number mode session) small named short = absurd cc
act_content (Renew from w t) small named short = absurd cc
act_content (Accept from id) small named short = absurd cc
act_content (SessionRenew from session) small named short = absurd cc
act_content (SessionClose from session) small named short = absurd cc
act_content (SessionSet from session state) small named short = absurd cc
act_content (SessionState from session) small named short = absurd cc
act_content (Begin entity) small named short = absurd cc
act_content (Commit txn) small named short = absurd cc
act_content (Together entity steps) small named short = absurd cc
act_content (ForgetClient name) small named short = absurd cc
act_content (Peek from start count) small named short = absurd cc
act_content (Counts entity) small named short = absurd cc
act_content (Look what) small named short = absurd cc

-- ---- the event

none_content : (o : Option By) → o ≡ None → content_or_none by.content o ≡ 0
none_content None none = refl
none_content (Some b) none = absurd cc

event_content : (t : ℕ) (call : Call) → call.by ≡ None → any_act.content call.act ≤ 2000 → event.fixed + event.content (Called t call) ≤ max_payload
unfolding event a_call
event_content t call none few =
    let one = none_content call.by none in
    let f = by_fixed in
    let g = act_fixed in
    omega (arith, one, few, f, g)

pub brief : (t : ℕ) (call : Call) → call.by ≡ None → is_small call.act ≡ true → has_names call.act ≡ true → has_short_id call.act ≡ true → length (event_bytes (Called t call)) ≤ max_payload
brief t call none small named short =
    let size = event_is.small (Called t call) in
    let most = event_content t call none (act_content call.act small named short) in
    omega (arith, size, most)
