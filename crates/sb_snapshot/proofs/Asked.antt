-- What a consistent state holds may be written.
use Rattle.std.proofs.Common.{◌≡◌, ◌≤◌, ◌+◌, ℕ, List, [], ◌∷◌, ◌++◌, length, map, Bool, true, false, Option, Some, None, refl, sym, ap, subst, ◌∙◌, append_assoc, cond, find, arith}
use Rattle.std.specs.Prelude.{IfSome, bytes_eq, nat_lt}
use Rattle.std.specs.List.{flat_map, sum_by}
use Rattle.std.specs.Str.{chars}
use Rattle.std.proofs.lemmas.Bool.{lt-ltb, leb-true, and_from, and_parts, or_left, or_right, eq-eqb}
use Rattle.std.proofs.lemmas.List.Sums.{sum_by-cons}
use Rattle.std.proofs.lemmas.Slice.Eq.{bytes_eq-Decides}
use Rattle.std.proofs.lemmas.Str.{IsUtf8-from_is_utf8}
use Rattle.sb_machine.specs.Changes.{is_earlier}
use Rattle.sb_machine.specs.Consistent.{IsOperation, IsTransaction, IsHandedOut, IsGiven, IsStepReply, IsReply, IsKept, kept_call, IsConsistent}
use Rattle.sb_machine.specs.Each.{Each, Pairs}
use Rattle.sb_machine.specs.Delivery.{max_count}
use Rattle.sb_machine.specs.Fields.{bad_in_how, is_id, is_short, max_messages}
use Rattle.sb_machine.specs.Fit.{IsMessage, IsFilter, IsRule, IsListed, AreIds, IsEntity, IsCopy, IsLeaf, IsSession}
use Rattle.sb_machine.specs.Keyed.{AreRising}
use Rattle.sb_machine.specs.Names.{is_before, is_same_entity, is_same_option}
use Rattle.sb_machine.specs.Namespace.{key_of, leaf_of, is_entity}
use Rattle.sb_machine.specs.Queueing.{weight}
use Rattle.sb_machine.specs.Sessions.{size_of}
use Rattle.sb_machine.specs.declared.call.How.{How}
use Rattle.sb_machine.specs.declared.call.How.TheVariants.{Complete, Abandon, Defer, DeadLetter}
use Rattle.sb_machine.specs.declared.call.Part.{Part}
use Rattle.sb_machine.specs.declared.call.Part.TheVariants.{Main, Dead, Transfer}
use Rattle.sb_machine.specs.declared.call.Path.{Path}
use Rattle.sb_machine.specs.declared.call.Token.{Token}
use Rattle.sb_machine.specs.declared.change.LeafKey.{LeafKey}
use Rattle.sb_machine.specs.declared.reply.Receipt.{Receipt}
use Rattle.sb_machine.specs.declared.reply.Receipt.TheVariants.{Number, Duplicate}
use Rattle.sb_machine.specs.declared.reply.Reply.{Reply}
use Rattle.sb_machine.specs.declared.reply.Reply.TheVariants as reply
use Rattle.sb_machine.specs.declared.reply.StepReply.{StepReply}
use Rattle.sb_machine.specs.declared.reply.StepReply.TheVariants as told
use Rattle.sb_machine.specs.declared.reply.CopyShown.{CopyShown}
use Rattle.sb_machine.specs.declared.reply.Showing.{Showing}
use Rattle.sb_machine.specs.declared.reply.Showing.TheVariants.{Removed, Locked, Browsed}
use Rattle.sb_machine.specs.declared.rule.Rule.{Rule}
use Rattle.sb_machine.specs.declared.rule.RuleFilter.{RuleFilter}
use Rattle.sb_machine.specs.declared.rule.RuleFilter.TheVariants.{Sql, Correlation}
use Rattle.sb_machine.specs.declared.state.AcceptedId.{AcceptedId}
use Rattle.sb_machine.specs.declared.state.Entity.{Entity}
use Rattle.sb_machine.specs.declared.state.Hold.{Hold}
use Rattle.sb_machine.specs.declared.state.Hold.TheVariants.{Until, Session as UnderSession}
use Rattle.sb_machine.specs.declared.state.Holder.{Holder}
use Rattle.sb_machine.specs.declared.state.Kept.{Kept}
use Rattle.sb_machine.specs.declared.state.Leaf.{Leaf}
use Rattle.sb_machine.specs.declared.state.Operation.{Operation}
use Rattle.sb_machine.specs.declared.state.Operation.TheVariants.{Send, Settle}
use Rattle.sb_machine.specs.declared.state.Session.{Session}
use Rattle.sb_machine.specs.declared.state.Space.{Space}
use Rattle.sb_machine.specs.declared.state.Standing.{Standing}
use Rattle.sb_machine.specs.declared.state.Standing.TheVariants.{Ready, Deferred, Held, Scheduled}
use Rattle.sb_machine.specs.declared.state.State.{State}
use Rattle.sb_machine.specs.declared.state.StoredCopy.{StoredCopy}
use Rattle.sb_machine.specs.declared.state.Transaction.{Transaction}
use Rattle.sb_codec.specs.Choices.{how}
use Rattle.sb_codec.specs.EventBytes.{a_call, event}
use Rattle.sb_codec.specs.Forms.{Follow, blob, text}
use Rattle.sb_codec.specs.Messages.{conditions, message}
use Rattle.sb_codec.specs.Pieces.{by, part_code, path, token}
use Rattle.sb_codec.proofs.ActsAsked.{judged_asked}
use Rattle.sb_codec.proofs.Asked.{rule_name, path_asked, description_asked}
use Rattle.sb_codec.proofs.Exact.{some_is}
use Rattle.sb_codec.proofs.Characters.{length_by_chars, length_of_text, filter_limit, action_limit}
use Rattle.sb_machine.proofs.Passed.{first_none, unless_none, between_most}
use Rattle.sb_snapshot.specs.Base.{head_of, leaves_in, placed_sessions, sessions_in, parts, IsSpellable}
use Rattle.sb_snapshot.specs.Copies.{hold, standing, copy, is_next_copy}
use Rattle.sb_snapshot.specs.Entities.{filter, action_words, rule, is_next_rule, accepted, is_next_id, about, head, is_next_head}
use Rattle.sb_snapshot.specs.Replies.{receipt, showing, delivery, shown, step_reply, answer, kept, is_next_kept}
use Rattle.sb_snapshot.specs.Sessions.{key, is_same_key, is_before_key, leaf, holder, in_part, session, is_next_session}
use Rattle.sb_snapshot.specs.Transactions.{operation, transaction, is_next_transaction}
use Rattle.sb_snapshot.specs.declared.parts.EntityHead.{EntityHead}
use Rattle.sb_snapshot.specs.declared.parts.PlacedSession.{PlacedSession}
use Rattle.sb_snapshot.proofs.AskedMessages.{lists_asked, message_asked}
use Rattle.sb_snapshot.proofs.Gathered.{key_self}
use Rattle.sb_snapshot.proofs.Ordered.{each_more, each_append, pairs_append, follow_each, follow_sorted, follow_rising}

-- ---- texts

by_characters : (most : ℕ) (t : List ℕ) → most ≤ 4096 → is_short most (Some t) ≡ true → text.Asks t
by_characters most t le short utf8 =
    let few : length (chars t) ≤ most = leb-true (length (chars t)) most short in
    let bytes = length_by_chars t (IsUtf8-from_is_utf8 t utf8) in
    omega (arith, le, few, bytes)

optional_by_characters : (most : ℕ) (o : Option (List ℕ)) → most ≤ 4096 → is_short most o ≡ true → IfSome o text.Asks
optional_by_characters most None le short = tt
optional_by_characters most (Some t) le short = by_characters most t le short

id_asked : (t : List ℕ) → is_id t ≡ true → text.Asks t
id_asked t is = by_characters 128 t (omega arith) is

token_asked : (t : Token) → token.Asks t
unfolding token
token_asked t = (tt, tt)

optional_token : (o : Option Token) → IfSome o token.Asks
optional_token None = tt
optional_token (Some t) = token_asked t

-- ---- rules

filter_asked : (f : RuleFilter) → IsFilter f → filter.Asks f
unfolding filter conditions
filter_asked (Sql t) is = λ read utf8. let short = length_of_text t (IsUtf8-from_is_utf8 t utf8) (filter_limit t read) in omega (arith, short)
filter_asked (Correlation c) is = lists_asked (record { body = []; sys = c.sys; props = c.props; ttl = None; schedule = None }) is.1

action_asked : (o : Option (List ℕ)) → IfSome o action_words.Asks
action_asked None = tt
action_asked (Some t) = λ read utf8. let short = length_of_text t (IsUtf8-from_is_utf8 t utf8) (action_limit t read) in omega (arith, short)

rule_asked : (r : Rule) → IsRule r → rule.Asks r
unfolding rule
rule_asked r is = (rule_name r.name is.name, (filter_asked r.filter is.asked, action_asked r.action))

-- ---- entities

id_written : (a : AcceptedId) → is_id a.id ≡ true → accepted.Asks a
unfolding accepted
id_written a is = (tt, id_asked a.id is)

abbrev IdsAsked : List AcceptedId → Type 0
IdsAsked ids = Follow (λ last a. accepted.Asks a × (is_next_id last a ≡ true)) None ids

ids_asked : (now : ℕ) (window : Option ℕ) (ids : List AcceptedId) → AreIds now window ids → Each (λ a. is_id a.id ≡ true) ids → IdsAsked ids
ids_asked now None ids none short = subst IdsAsked (sym none) tt
ids_asked now (Some window) ids are short = follow_sorted (λ a. is_id a.id ≡ true) accepted.Asks is_next_id id_written (λ a h. refl) (λ a b. is_earlier b.moment b.id a) (λ a b h before. before) ids short are.0

abbrev HeadAsked : Entity → Type 0
HeadAsked e = head.Asks (head_of e)

about_asked : (e : Entity) → IsListed e.about → about.Asks e.about
unfolding about
about_asked e is =
    (tt, (tt, (path_asked e.about.path is.address, (description_asked e.about.kind e.about.description is.described, follow_sorted IsRule rule.Asks is_next_rule rule_asked (λ r h. refl) (λ a b. is_before a.name b.name) (λ a b h before. before) e.about.rules is.rules is.order))))

head_asked : (now : ℕ) (e : Entity) → IsEntity now e → HeadAsked e
unfolding head
head_asked now e is = (about_asked e is.about, ids_asked now e.about.description.window e.ids is.ids is.short_ids)

abbrev HeadsAsked : Option EntityHead → List Entity → Type 0
HeadsAsked last es = Follow (λ last x. head.Asks x × (is_next_head last x ≡ true)) last (map head_of es)

heads_behind : (e : Entity) (top : ℕ) (es : List Entity) → AreRising (λ x. x.about.number) e.about.number top es → Each HeadAsked es → HeadsAsked (Some (head_of e)) es
heads_behind e top [] r h = tt
heads_behind e top (x ∷ es) r h = ((h.0, lt-ltb e.about.number x.about.number r.0), heads_behind x top es r.1 h.1)

heads_asked : (low top : ℕ) (es : List Entity) → AreRising (λ x. x.about.number) low top es → Each HeadAsked es → HeadsAsked None es
heads_asked low top [] r h = tt
heads_asked low top (e ∷ es) r h = ((h.0, refl), heads_behind e top es r.1 h.1)

-- ---- parts

hold_asked : (h : Hold) → hold.Asks h
unfolding hold
hold_asked (Until t) = tt
hold_asked (UnderSession lock) = tt

standing_asked : (s : Standing) → standing.Asks s
unfolding standing
standing_asked Ready = tt
standing_asked Deferred = tt
standing_asked (Held lock h was) = (tt, (hold_asked h, tt))
standing_asked (Scheduled t) = tt

copy_asked : (c : StoredCopy) → IsMessage c.message → copy.Asks c
unfolding copy
copy_asked c is = (tt, (tt, (tt, (tt, (tt, (standing_asked c.standing, message_asked c.message is))))))

key_asked : (k : LeafKey) → key.Asks k
unfolding key
key_asked k = (tt, tt)

leaf_asked : (now : ℕ) (k : LeafKey) (l : Leaf) → IsLeaf now l → leaf.Asks (record { key = k; last = l.last; copies = l.copies })
unfolding leaf
leaf_asked now k l is = (key_asked k, (tt, follow_rising (IsCopy now l.sessions) copy.Asks is_next_copy (λ c h. copy_asked c h.message) (λ c h. refl) (λ c. c.number) (λ a b less. lt-ltb a.number b.number less) 0 l.last l.copies is.numbers is.copies))

leaves_asked : (now : ℕ) (es : List Entity) → Each (IsEntity now) es → Each leaf.Asks (flat_map leaves_in es)
leaves_asked now [] h = tt
leaves_asked now (e ∷ es) h = (leaf_asked now (key_of Main e) e.main h.0.main, (leaf_asked now (key_of Dead e) e.dead h.0.dead, (leaf_asked now (key_of Transfer e) e.transfer h.0.transfer, leaves_asked now es h.1)))

-- ---- sessions

state_asked : (o : Option (List ℕ)) → size_of o ≤ 262144 → IfSome o blob.Asks
state_asked None le = tt
state_asked (Some bytes) le = omega (arith, le)

holder_asked : (o : Option Holder) → IfSome o holder.Asks
unfolding holder
holder_asked None = tt
holder_asked (Some h) = (tt, tt)

session_asked : (now : ℕ) (k : LeafKey) (x : Session) → IsSession now x → is_id x.id ≡ true → session.Asks (in_part k x)
unfolding session
session_asked now k x is short = (key_asked k, (id_asked x.id short, (state_asked x.state is.state, holder_asked x.holder)))

abbrev is_behind : PlacedSession → PlacedSession → Bool
is_behind a b = is_next_session (Some a) b

abbrev Sorted : List PlacedSession → Type 0
Sorted xs = Pairs (λ a b. is_behind a b ≡ true) xs

-- the sessions of one part
in_leaf_asked : (now : ℕ) (k : LeafKey) (xs : List Session) → Each (IsSession now) xs → Each (λ x. is_id x.id ≡ true) xs → Each session.Asks (map (in_part k) xs)
in_leaf_asked now k [] h short = tt
in_leaf_asked now k (x ∷ xs) h short = (session_asked now k x h.0 short.0, in_leaf_asked now k xs h.1 short.1)

one_key : (P : LeafKey → Type 0) (k : LeafKey) (xs : List Session) → P k → Each (λ x. P x.key) (map (in_part k) xs)
one_key P k [] p = tt
one_key P k (x ∷ xs) p = (p, one_key P k xs p)

behind_in_leaf : (k : LeafKey) (a : Session) (xs : List Session) → Each (λ y. is_before a.id y.id ≡ true) xs → Each (λ y. is_behind (in_part k a) y ≡ true) (map (in_part k) xs)
behind_in_leaf k a [] h = tt
behind_in_leaf k a (x ∷ xs) h = (or_right (is_before_key k k) _ (and_from (is_same_key k k) (is_before a.id x.id) (key_self k) h.0), behind_in_leaf k a xs h.1)

in_leaf_sorted : (k : LeafKey) (xs : List Session) → Pairs (λ a b. is_before a.id b.id ≡ true) xs → Sorted (map (in_part k) xs)
in_leaf_sorted k [] h = tt
in_leaf_sorted k (x ∷ xs) h = (behind_in_leaf k x xs h.0, in_leaf_sorted k xs h.1)

-- those of parts that come one before the other
before_each : (a : PlacedSession) (ys : List PlacedSession) → Each (λ y. is_before_key a.key y.key ≡ true) ys → Each (λ y. is_behind a y ≡ true) ys
before_each a [] h = tt
before_each a (y ∷ ys) h = (or_left (is_before_key a.key y.key) _ h.0, before_each a ys h.1)

apart : (k : LeafKey) (xs : List Session) (ys : List PlacedSession) → Each (λ y. is_before_key k y.key ≡ true) ys → Each (λ x. Each (λ y. is_behind x y ≡ true) ys) (map (in_part k) xs)
apart k [] ys h = tt
apart k (x ∷ xs) ys h = (before_each (in_part k x) ys h, apart k xs ys h)

joined : (k : LeafKey) (xs : List Session) (ys : List PlacedSession) → Pairs (λ a b. is_before a.id b.id ≡ true) xs → Sorted ys → Each (λ y. is_before_key k y.key ≡ true) ys → Sorted (map (in_part k) xs ++ ys)
joined k xs ys sorted others h = pairs_append (λ a b. is_behind a b ≡ true) (map (in_part k) xs) ys (in_leaf_sorted k xs sorted) others (apart k xs ys h)

-- a part of an entity comes before the later ones, and before those of entities with greater numbers
same_entity : (e : Entity) (p q : Part) → nat_lt (part_code p) (part_code q) ≡ true → is_before_key (key_of p e) (key_of q e) ≡ true
same_entity e p q less = or_right (nat_lt e.about.number e.about.number) _ (and_from _ _ (eq-eqb e.about.number e.about.number refl) less)

later_entities : (k : LeafKey) (top : ℕ) (low : ℕ) (es : List Entity) → k.entity ≤ low → AreRising (λ x. x.about.number) low top es → Each (λ y. is_before_key k y.key ≡ true) (flat_map sessions_in es)
later_entities k top low [] le r = tt
later_entities k top low (e ∷ es) le r =
    let above : nat_lt k.entity e.about.number ≡ true = lt-ltb k.entity e.about.number (omega (arith, le, r.0)) in
    let one : (p : Part) → Each (λ y. is_before_key k y.key ≡ true) (placed_sessions e p) = λ p. one_key (λ q. is_before_key k q ≡ true) (key_of p e) (leaf_of p e).sessions (or_left (nat_lt k.entity e.about.number) _ above) in
    each_append _ (sessions_in e) (flat_map sessions_in es) (each_append _ (placed_sessions e Main) _ (one Main) (each_append _ (placed_sessions e Dead) (placed_sessions e Transfer) (one Dead) (one Transfer)))
    (later_entities k top e.about.number es (omega (arith, le, r.0)) r.1)

regrouped : {X : Type 0} (a b c r : List X) → (P : List X → Type 0) → P (a ++ (b ++ (c ++ r))) → P ((a ++ (b ++ c)) ++ r)
regrouped {X} a b c r P h = subst P (sym (append_assoc a (b ++ c) r ∙ ap (λ (v : List X). a ++ v) (append_assoc b c r))) h

sessions_sorted : (now : ℕ) (low top : ℕ) (es : List Entity) → AreRising (λ x. x.about.number) low top es → Each (IsEntity now) es → Sorted (flat_map sessions_in es)
sessions_sorted now low top [] r h = tt
sessions_sorted now low top (e ∷ es) r h =
    let rest = flat_map sessions_in es in
    let d = placed_sessions e Dead in
    let t = placed_sessions e Transfer in
    let later : (p : Part) → Each (λ y. is_before_key (key_of p e) y.key ≡ true) rest = λ p. later_entities (key_of p e) top e.about.number es (omega arith) r.1 in
    let of_part : (p q : Part) → nat_lt (part_code p) (part_code q) ≡ true → Each (λ y. is_before_key (key_of p e) y.key ≡ true) (placed_sessions e q) =
    λ p q less. one_key (λ k. is_before_key (key_of p e) k ≡ true) (key_of q e) (leaf_of q e).sessions (same_entity e p q less) in
    let third : Sorted (t ++ rest) = joined (key_of Transfer e) e.transfer.sessions rest h.0.transfer.order (sessions_sorted now e.about.number top es r.1 h.1) (later Transfer) in
    let second : Sorted (d ++ (t ++ rest)) = joined (key_of Dead e) e.dead.sessions (t ++ rest) h.0.dead.order third (each_append _ t rest (of_part Dead Transfer refl) (later Dead)) in
    let first : Sorted (placed_sessions e Main ++ (d ++ (t ++ rest))) = joined (key_of Main e) e.main.sessions (d ++ (t ++ rest)) h.0.main.order second (each_append _ d (t ++ rest) (of_part Main Dead refl) (each_append _ t rest (of_part Main Transfer refl) (later Main))) in
    regrouped (placed_sessions e Main) d t rest Sorted first

sessions_written : (now : ℕ) (es : List Entity) → Each (IsEntity now) es → Each session.Asks (flat_map sessions_in es)
sessions_written now [] h = tt
sessions_written now (e ∷ es) h =
    let m = in_leaf_asked now (key_of Main e) e.main.sessions h.0.main.sessions h.0.main.short_ids in
    let d = in_leaf_asked now (key_of Dead e) e.dead.sessions h.0.dead.sessions h.0.dead.short_ids in
    let t = in_leaf_asked now (key_of Transfer e) e.transfer.sessions h.0.transfer.sessions h.0.transfer.short_ids in
    each_append session.Asks (sessions_in e) (flat_map sessions_in es) (each_append session.Asks (placed_sessions e Main) _ m (each_append session.Asks (placed_sessions e Dead) (placed_sessions e Transfer) d t)) (sessions_written now es h.1)

-- ---- transactions

how_asked : (h : How) → bad_in_how h ≡ None → how.Asks h
unfolding how
how_asked Complete good = tt
how_asked Abandon good = tt
how_asked Defer good = tt
how_asked (DeadLetter reason description) good =
    let ways = first_none _ _ good in
    (optional_by_characters 4096 reason (omega arith) (unless_none _ _ ways.0), optional_by_characters 4096 description (omega arith) (unless_none _ _ ways.1))

same_option : (o p : Option (List ℕ)) → is_same_option o p ≡ true → IfSome p text.Asks → IfSome o text.Asks
same_option None p same h = tt
same_option (Some a) None same h = absurd cc
same_option (Some a) (Some b) same h = subst text.Asks (sym ((bytes_eq-Decides a b).0 same)) h

same_path : (p q : Path) → is_same_entity p q ≡ true → path.Asks q → path.Asks p
unfolding path
same_path p q same h =
    let tests = and_parts (bytes_eq p.name q.name) (is_same_option p.subscription q.subscription) same in
    (subst text.Asks (sym ((bytes_eq-Decides p.name q.name).0 tests.0)) h.0, (same_option p.subscription q.subscription tests.1 h.1.0, tt))

operation_asked : (s : Space) (e : Entity) → path.Asks e.about.path → (o : Operation) → IsOperation s e o → operation.Asks o
unfolding operation
operation_asked s e there (Send to messages) is =
    let few = between_most 1 max_messages (length messages) is.3 in
    (path_asked to is.0, (omega (arith, few), follow_each message.Asks None messages (each_more IsMessage message.Asks message_asked messages is.4)))
operation_asked s e there (Settle from number t x h) is = (same_path from e.about.path is.0 there, (tt, (token_asked t, (optional_token x, how_asked h is.2))))

least_one : (s : Space) (e : Entity) (o : Operation) → IsOperation s e o → 1 ≤ weight o
least_one s e (Send to messages) is = leb-true 1 (length messages) (and_parts _ _ is.3).0
least_one s e (Settle from number t x h) is = omega arith

few_operations : (s : Space) (e : Entity) (os : List Operation) → Each (IsOperation s e) os → length os ≤ sum_by weight os
few_operations s e [] h = omega arith
few_operations s e (o ∷ os) h = omega (arith, sum_by-cons weight o os, least_one s e o h.0, few_operations s e os h.1)

found_one : {X : Type 0} (P : X → Type 0) (p : X → Bool) (e : X) (xs : List X) → Each P xs → find p xs ≡ Some e → P e
found_one P p e [] h is = absurd cc
found_one {X} P p e (x ∷ xs) h is = by_test (p x) refl (found_one P p e xs h.1) where
  by_test : (b : Bool) → p x ≡ b → (find p xs ≡ Some e → P e) → P e
  by_test true same ih = let here : cond true (Some x) (find p xs) ≡ Some e = subst (λ (b : Bool). cond b (Some x) (find p xs) ≡ Some e) same is in subst P (some_is x e here) h.0
  by_test false same ih = ih (subst (λ (b : Bool). cond b (Some x) (find p xs) ≡ Some e) same is)

transaction_asked : (now : ℕ) (s : Space) → Each (λ e. path.Asks e.about.path) s.entities → (x : Transaction) → IsTransaction now s x → transaction.Asks x
unfolding transaction
transaction_asked now s paths x is =
    let there = found_one (λ e. path.Asks e.about.path) (is_entity x.entity) is.entity s.entities paths is.there in
    let few : length x.operations ≤ 100 = omega (arith, few_operations s is.entity x.operations is.operations, is.few) in
    (tt, (tt, (tt, (omega (arith, few), follow_each operation.Asks None x.operations (each_more (IsOperation s is.entity) operation.Asks (operation_asked s is.entity there) x.operations is.operations)))))

-- ---- clients

receipt_asked : (r : Receipt) → receipt.Asks r
unfolding receipt
receipt_asked Duplicate = tt
receipt_asked (Number n) = tt

receipts_asked : (rs : List Receipt) → Each receipt.Asks rs
receipts_asked [] = tt
receipts_asked (r ∷ rs) = (receipt_asked r, receipts_asked rs)

showing_asked : (s : Showing) → IsHandedOut s → showing.Asks s
unfolding showing
showing_asked Removed is = (tt, is)
showing_asked (Locked t until) is = ((token_asked t, tt), is)
showing_asked (Browsed state) is = absurd is

delivery_asked : (d : ℕ) → 1 ≤ d → d ≤ max_count + 1 → delivery.Asks d
unfolding delivery
delivery_asked d least most = (omega (arith, least, most), omega (arith, least))

shown_asked : (x : CopyShown) → IsGiven x → shown.Asks x
unfolding shown
shown_asked x is = (tt, (tt, (tt, (delivery_asked x.delivery is.once is.count, (showing_asked x.showing is.showing, message_asked x.message is.message)))))

step_reply_asked : (r : StepReply) → IsStepReply r → step_reply.Asks r
unfolding step_reply
step_reply_asked told.Done is = tt
step_reply_asked (told.Sent receipts) is = (omega (arith, is), follow_each receipt.Asks None receipts (receipts_asked receipts))

answer_asked : (r : Reply) → IsReply r → answer.Asks r
unfolding answer
answer_asked reply.Done is = tt
answer_asked (reply.Sent receipts) is = (omega (arith, is), follow_each receipt.Asks None receipts (receipts_asked receipts))
answer_asked (reply.Message x) is = shown_asked x is
answer_asked reply.Empty is = tt
answer_asked (reply.Expired n) is = tt
answer_asked (reply.Session id t until) is = (id_asked id is, (token_asked t, tt))
answer_asked (reply.Renewed until) is = tt
answer_asked (reply.Begun n) is = tt
answer_asked reply.Queued is = tt
answer_asked reply.Committed is = tt
answer_asked (reply.Aborted p n) is = (tt, tt)
answer_asked (reply.Together replies) is =
    let few = is.0 in
    (omega (arith, few), follow_each step_reply.Asks None replies (each_more IsStepReply step_reply.Asks step_reply_asked replies is.1))
answer_asked (reply.Copies copies) is = absurd is
answer_asked (reply.State state) is = absurd is
answer_asked (reply.Counts main dead transfer) is = absurd is
answer_asked (reply.Seen view) is = absurd is

kept_asked : (k : Kept) → IsKept k → kept.Asks k
unfolding kept event a_call by
kept_asked k is = let call = judged_asked false 0 (kept_call k) is.judged in (call.1.0.0, (tt, (call.1.1, answer_asked k.reply is.reply)))

-- ---- the whole

heads_of : (now : ℕ) (es : List Entity) → Each (IsEntity now) es → Each HeadAsked es
heads_of now es h = each_more (IsEntity now) HeadAsked (head_asked now) es h

-- a consistent state may be written
pub state_written : (s : State) → IsConsistent s → IsSpellable s
unfolding parts
state_written s is =
    let es = s.space.entities in
    let paths = each_more (IsEntity s.now) (λ e. path.Asks e.about.path) (λ e h. path_asked e.about.path h.about.address) es is.entities in (
      tt,
      (
        tt,
        (
          tt,
          (
            tt,
            (
              heads_asked 0 s.space.last_entity es is.numbers (heads_of s.now es is.entities),
              (
                follow_each leaf.Asks None (flat_map leaves_in es) (leaves_asked s.now es is.entities),
                (
                  tt,
                  (
                    follow_sorted session.Asks session.Asks is_next_session (λ x h. h) (λ x h. refl) is_behind (λ a b h before. before) (flat_map sessions_in es) (sessions_written s.now es is.entities) (sessions_sorted s.now 0 s.space.last_entity es is.numbers is.entities),
                    (
                      follow_rising (IsTransaction s.now s.space) transaction.Asks is_next_transaction (transaction_asked s.now s.space paths) (λ x h. refl) (λ x. x.number) (λ a b less. lt-ltb a.number b.number less) 0 s.space.last_txn s.space.transactions is.transactions is.opened,
                      follow_sorted IsKept kept.Asks is_next_kept kept_asked (λ k h. refl) (λ a b. is_before a.client b.client) (λ a b h before. before) s.clients is.kept is.clients,
                    ),
                  ),
                ),
              ),
            ),
          ),
        ),
      ),
    )
