-- What was handed on fits, and a base that 64 bits count lists no more than they do.
use Rattle.std.proofs.Common.{◌≡◌, ◌<◌, ◌≤◌, ◌^◌, ℕ, Bool, true, List, [], ◌∷◌, ◌++◌, map, length, length-append, Option, Some, None, Result, Ok, Err, refl, arith}
use Rattle.std.specs.Prelude.{OnOk}
use Rattle.std.specs.Int.{w64, to_be_bytes}
use Rattle.std.specs.List.{All, AllByRecursion, flat_map}
use Rattle.std.proofs.lemmas.List.Elements.{recursion_from_All}
use Rattle.std.proofs.lemmas.Result.{on_ok_weaker}
use Rattle.sb_machine.specs.declared.change.LeafKey.{LeafKey}
use Rattle.sb_machine.specs.declared.state.State.{State}
use Rattle.sb_codec.specs.Forms.{Form, Follow, number64, blob, text, ◌then◌, optional}
use Rattle.sb_codec.specs.Messages.{any_next}
use Rattle.sb_codec.specs.Pieces.{part}
use Rattle.sb_snapshot.specs.Base.{parts, base_of, head_of, leaves_in, sessions_in}
use Rattle.sb_snapshot.specs.Copies.{copy, is_next_copy}
use Rattle.sb_snapshot.specs.Entities.{head, is_next_head}
use Rattle.sb_snapshot.specs.Lists.{listed64}
use Rattle.sb_snapshot.specs.Replies.{kept, is_next_kept}
use Rattle.sb_snapshot.specs.Sessions.{holder, key, leaf, session, is_next_session}
use Rattle.sb_snapshot.specs.Transactions.{transaction, is_next_transaction}
use Rattle.sb_snapshot.specs.declared.parts.PlacedLeaf.{PlacedLeaf}
use Rattle.sb_snapshot.specs.declared.parts.PlacedSession.{PlacedSession}

-- what holds anyway
pub on_ok : {T E : Type 0} (r : Result T E) (P : Type 0) → P → OnOk r P
on_ok (Ok x) P p = p
on_ok (Err e) P p = tt

-- ---- lists

in_order : {A : Type 0} (Asks F : A → Type 0) (follows : Option A → A → Bool) (last : Option A) (xs : List A)
    → Follow (λ last x. Asks x × (follows last x ≡ true)) last xs → AllByRecursion F xs → Follow (λ last x. F x × (follows last x ≡ true)) last xs
in_order Asks F follows last [] order all = tt
in_order Asks F follows last (x ∷ xs) order all = ((all.0, order.0.1), in_order Asks F follows (Some x) xs order.1 all.1)

-- what was in order is so still where each fits
pub each_behind : {A : Type 0} (Asks F : A → Type 0) (follows : Option A → A → Bool) (xs : List A)
    → Follow (λ last x. Asks x × (follows last x ≡ true)) None xs → All F xs → Follow (λ last x. F x × (follows last x ≡ true)) None xs
each_behind Asks F follows xs order all = in_order Asks F follows None xs order (recursion_from_All F xs all)

-- a list whose items fit, of which there are few enough
pub listed_fits : {T E A : Type 0} (r : Result T E) (follows : Option A → A → Bool) (f : Form A) (xs : List A) → length xs < 2 ^ 64 → (listed64 follows f).Asks xs → OnOk r (All f.Fits xs) → OnOk r ((listed64 follows f).Fits xs)
listed_fits r follows f xs few asks each = on_ok_weaker r (λ all. (few, each_behind f.Asks f.Fits follows xs asks all)) each

-- ---- how many there are, out of how long they are

-- each has a byte
fewer_items : {A : Type 0} (s : A → List ℕ) → ((x : A) → 1 ≤ length (s x)) → (xs : List A) → length xs ≤ length (flat_map s xs)
fewer_items s one [] = omega arith
fewer_items s one (x ∷ xs) = let rest = fewer_items s one xs in let here = one x in let long = length-append (s x) (flat_map s xs) in omega (arith, rest, here, long)

-- a part is no longer than the whole
front_short : (a b : List ℕ) (n : ℕ) → length (a ++ b) < n → length a < n
front_short a b n short = let long = length-append a b in omega (arith, long, short)

behind_short : (a b : List ℕ) (n : ℕ) → length (a ++ b) < n → length b < n
behind_short a b n short = let long = length-append a b in omega (arith, long, short)

few_listed : {A : Type 0} (follows : Option A → A → Bool) (f : Form A) → ((x : A) → 1 ≤ length (f.spell x)) → (xs : List A) (n : ℕ) → length ((listed64 follows f).spell xs) < n → length xs < n
few_listed follows f one xs n short =
    let fewer = fewer_items f.spell one xs in
    let items = behind_short (to_be_bytes w64 (length xs)) (flat_map f.spell xs) n short in
    omega (arith, fewer, items)

-- what begins with a number has bytes
one_byte : (k : ℕ) (rest : List ℕ) → 1 ≤ length (to_be_bytes w64 k ++ rest)
one_byte k rest = let eight : length (to_be_bytes w64 k) ≡ 8 = refl in let long = length-append (to_be_bytes w64 k) rest in omega (arith, eight, long)

key_byte : (k : LeafKey) (rest : List ℕ) → 1 ≤ length (key.spell k ++ rest)
unfolding key
key_byte k rest = let one = one_byte k.entity (part.spell k.part) in let long = length-append (key.spell k) rest in omega (arith, one, long)

leaf_byte : (l : PlacedLeaf) → 1 ≤ length (leaf.spell l)
unfolding leaf
leaf_byte l = key_byte l.key ((number64 then listed64 is_next_copy copy).spell (l.last, l.copies))

session_byte : (s : PlacedSession) → 1 ≤ length (session.spell s)
unfolding session
session_byte s = key_byte s.key ((text then optional blob then optional holder).spell (s.session.id, (s.session.state, s.session.holder)))

-- those within a whole are no longer than it
within_short : (a b c d e f g h o : List ℕ) (n : ℕ) → length (a ++ (b ++ (c ++ (d ++ (e ++ (f ++ (g ++ (h ++ o)))))))) < n → (length f < n) × (length h < n)
within_short a b c d e f g h o n short =
    let behind_g = behind_short g (h ++ o) n in
    let behind_f = behind_short f (g ++ (h ++ o)) n in
    let at_f =
    behind_short e (f ++ (g ++ (h ++ o))) n (behind_short d (e ++ (f ++ (g ++ (h ++ o)))) n (behind_short c (d ++ (e ++ (f ++ (g ++ (h ++ o))))) n
    (behind_short b (c ++ (d ++ (e ++ (f ++ (g ++ (h ++ o)))))) n (behind_short a (b ++ (c ++ (d ++ (e ++ (f ++ (g ++ (h ++ o))))))) n short)))) in
    (front_short f (g ++ (h ++ o)) n at_f, front_short h o n (behind_g (behind_f at_f)))

-- a base that 64 bits count has no more parts or sessions than they do
pub few_in_base : (s : State) → length (base_of s) < 2 ^ 64 → (length (flat_map leaves_in s.space.entities) < 2 ^ 64) × (length (flat_map sessions_in s.space.entities) < 2 ^ 64)
unfolding parts
few_in_base s short =
    let heads = (listed64 is_next_head head).spell (map head_of s.space.entities) in
    let leaves = flat_map leaves_in s.space.entities in
    let sessions = flat_map sessions_in s.space.entities in
    let others = (listed64 is_next_transaction transaction then listed64 is_next_kept kept).spell (s.space.transactions, s.clients) in
    let within =
    within_short (number64.spell s.now) (number64.spell s.space.last_lock) (number64.spell s.space.last_txn) (number64.spell s.space.last_entity) heads ((listed64 any_next leaf).spell leaves) (number64.spell s.space.removed)
    ((listed64 is_next_session session).spell sessions) others (2 ^ 64) short in
    (few_listed any_next leaf leaf_byte leaves (2 ^ 64) within.0, few_listed is_next_session session session_byte sessions (2 ^ 64) within.1)

-- ---- the whole

pub all_fit : {T E A B C D H L : Type 0} (r : Result T E) (O : Type 0) → A × (B × (C × D)) → H × L → OnOk r O → OnOk r (A × (B × (C × (D × (H × (L × O))))))
all_fit r O numbers entities rest = on_ok_weaker r (λ o. (numbers.0, (numbers.1.0, (numbers.1.1.0, (numbers.1.1.1, (entities.0, (entities.1, o))))))) rest
