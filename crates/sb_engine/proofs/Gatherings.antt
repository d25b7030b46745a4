-- Operations that are gathered one after another.
use Rattle.std.proofs.Common.{Bool, Err, List, None, Ok, Option, Result, Some, [], ap, drop, false, get_or, inl, inr, length, refl, subst, sym, true, ℕ, ◌&&◌, ◌+◌, ◌++◌, ◌<◌, ◌≤◌, ◌∙◌, ◌∷◌, ◌≡◌}
use Rattle.std.specs.Prelude.{IsErr, IsErrAnd, ◌==◌, ◌||◌, ◌⊎◌, if◌then◌else◌, is_some, nat_le, not}
use Rattle.std.specs.List.{list_all}
use Rattle.std.specs.Option.{option_map}
use Rattle.std.proofs.lemmas.List.{append_assoc, append-nil, drop_more, drop_all}
use Rattle.std.proofs.lemmas.List.Folds.{list_all-append}
use Rattle.sb_laws.proofs.Rows.{Of, answered_so, asked, refused_so, refusing, with_entity, with_receivable}
use Rattle.sb_laws.specs.Gathered.{gathering, gathering_number, operations_in, pending_with, read_found, read_send, read_settle, read_step, read_steps}
use Rattle.sb_machine.specs.Claims.{asks_holder, asks_session, claiming, has_sessions}
use Rattle.sb_machine.specs.Delivery.{in_part}
use Rattle.sb_machine.specs.Fields.{bad_in_messages}
use Rattle.sb_machine.specs.Leases.{held_session, leased}
use Rattle.sb_machine.specs.Names.{is_address, is_same_entity, is_same_option}
use Rattle.sb_machine.specs.Namespace.{entity_at, leaf_of}
use Rattle.sb_machine.specs.Parts.{at_part}
use Rattle.sb_machine.specs.Queueing.{has_room, queueing}
use Rattle.sb_machine.specs.Rows.{Row, answers, asks, at_receivable, refuses}
use Rattle.sb_machine.specs.SendRow.{have_sessions_at, is_destination, queued_send}
use Rattle.sb_machine.specs.Sending.{too_large}
use Rattle.sb_machine.specs.Sessions.{held_or, max_state, session_set_row, size_of}
use Rattle.sb_machine.specs.SettleRow.{pending}
use Rattle.sb_machine.specs.Settlement.{goes_with}
use Rattle.sb_machine.specs.Together.{is_queueing, unqueued}
use Rattle.sb_machine.specs.declared.call.How.{How}
use Rattle.sb_machine.specs.declared.call.Part.{Part}
use Rattle.sb_machine.specs.declared.call.Path.{Path}
use Rattle.sb_machine.specs.declared.call.Step.{Step}
use Rattle.sb_machine.specs.declared.call.Step.TheVariants as step
use Rattle.sb_machine.specs.declared.call.Token.{Token}
use Rattle.sb_machine.specs.declared.call.Which.{Which}
use Rattle.sb_machine.specs.declared.change.Change.{Change}
use Rattle.sb_machine.specs.declared.change.Change.TheVariants.{AddsRule, Begins, Drops, DropsRule, InLeaf, Makes, Notes, Queues, Removes}
use Rattle.sb_machine.specs.declared.change.LeafChange.TheVariants.{Writes}
use Rattle.sb_machine.specs.declared.reply.Refusal.{Refusal}
use Rattle.sb_machine.specs.declared.reply.Refusal.TheVariants.{BadCall, BadName, EntityNotFound, OutOfMemory, SessionNotAllowed, SessionRequired, TooLarge, TxnFull, TxnScope, WrongKind}
use Rattle.sb_machine.specs.declared.reply.Reply.{Reply}
use Rattle.sb_machine.specs.declared.reply.Reply.TheVariants.{Done, Queued}
use Rattle.sb_machine.specs.declared.state.Entity.{Entity}
use Rattle.sb_machine.specs.declared.state.Leaf.{Leaf}
use Rattle.sb_machine.specs.declared.state.Operation.{Operation}
use Rattle.sb_machine.specs.declared.state.Session.{Session}
use Rattle.sb_machine.specs.declared.state.Space.{Space}
use Rattle.sb_machine.specs.declared.state.StoredCopy.{StoredCopy}
use Rattle.sb_machine.specs.declared.state.Transaction.{Transaction}
use Rattle.sb_model.specs.declared.message.Message.{Message}
use Rattle.sb_engine.specs.Commits.{is_front}
use Rattle.sb_engine.specs.Gatherings.{Gathers, Next, gathered_on, queued_in, sending_tests}
use Rattle.sb_engine.specs.Heads.{Allows, Passes, Refuses}
use Rattle.sb_engine.specs.Plans.{PlansRow}
use Rattle.sb_engine.specs.declared.plan.draft.Draft.{Draft}
use Rattle.sb_engine.proofs.PlannedRows.{refuses_on}

-- ---- what a row adds before the operations act

abbrev Any : Refusal → Type 0
Any r = Unit {0}

abbrev IsFront : Reply → List Change → Type 0
IsFront reply cs = list_all is_front (unqueued cs) ≡ true

module _ (s : Space) (t : ℕ) where
  queued_front : (to : Path) (ms : List Message) (x : Transaction) → list_all is_front (unqueued (queued_send t to ms x)) ≡ true
  queued_front to [] x = refl
  queued_front to (m ∷ ms) x = refl

  send_front : (e : Entity) (x : Transaction) (to : Path) (ms : List Message) → Of Any IsFront (read_send s t e x to ms)
  send_front e x to ms =
      let via = not (is_same_entity to e.about.path) in
      let target = if via then None else entity_at to s in
      refusing (option_map (λ key. BadCall key) (bad_in_messages via ms)) _ (λ r is. tt) (λ none.
      asked (is_address to) BadName _ tt (λ named. asked (via || is_some target) EntityNotFound _ tt (λ there. asked (is_destination to) WrongKind _ tt (λ goes.
      asked (have_sessions_at target ms) SessionRequired _ tt (λ have. asked (has_room x (length ms)) TxnFull _ tt (λ room. refusing (too_large ms) _ (λ r is. tt) (λ small. answered_so (queued_front to ms x))))))))

  found_front : (x : Transaction) (from : Path) (token : Token) (session : Option Token) (how : How) (o : Option StoredCopy) → Of Any IsFront (read_found s t x from token session how o)
  found_front x from token session how None = refused_so tt
  found_front x from token session how (Some c) = refusing (pending (pending_with token.lock s x)) _ (λ r is. tt) (λ none. asked (has_room x 1) TxnFull _ tt (λ room. answered_so refl))

  held_front : (e : Entity) (part : Part) (session : Option Token) (row : Row) → Of Any IsFront row → Of Any IsFront (asks_holder s t (leaf_of part e) session (λ claim. row))
  held_front e part None row holds = holds
  held_front e part (Some token) row holds = at (held_session s t token (leaf_of part e)) where
    at : (o : Option Session) → Of Any IsFront (claiming token o (λ claim. row))
    at None = refused_so tt
    at (Some x) = holds

  session_front : (e : Entity) (part : Part) (session : Option Token) (row : Row) → Of Any IsFront row → Of Any IsFront (asks_session e part session row)
  session_front e part None row holds = asked _ SessionRequired row tt (λ is. holds)
  session_front e part (Some token) row holds = asked (has_sessions e part) SessionNotAllowed row tt (λ is. holds)

  settle_front : (x : Transaction) (from : Path) (which : Which) (token : Token) (session : Option Token) (how : How) → Of Any IsFront (read_settle s t x from which token session how)
  settle_front x from which token session how =
      with_receivable s from _ tt tt tt (λ e there. asked (goes_with how from.part) WrongKind _ tt (λ goes.
      session_front e from.part session _ (asked _ TxnScope _ tt (λ own. held_front e from.part session _ (found_front x from token session how (leased s t token which (leaf_of from.part e)))))))

  set_front : (from : Path) (token : Token) (state : Option (List ℕ)) → Of Any IsFront (session_set_row s t from token state)
  set_front from token state = with_entity s from _ tt tt (λ e there. asked (has_sessions e from.part) SessionNotAllowed _ tt (λ has. at e (held_session s t token (leaf_of from.part e)))) where
    change : Entity → Change
    change e = in_part from.part e (Writes token.lock state)

    written : (e : Entity) (b : Bool) → list_all is_front (unqueued (if b then [] else change e ∷ [])) ≡ true
    written e true = refl
    written e false = refl

    at : (e : Entity) (o : Option Session) → Of Any IsFront (held_or o (λ x. asks (nat_le (size_of state) max_state) (TooLarge (size_of state)) (answers Done (if is_same_option x.state state then [] else change e ∷ []))))
    at e None = refused_so tt
    at e (Some x) = asked _ (TooLarge (size_of state)) _ tt (λ fits. answered_so (written e (is_same_option x.state state)))

  step_front : (path : Path) (e : Entity) (os : List Operation) (x : Step) → Of Any IsFront (read_step s t path e os x)
  step_front path e os (step.Send to ms) = send_front e (gathering s t e os) to ms
  step_front path e os (step.Settle from which token session how) = settle_front (gathering s t e os) from which token session how
  step_front path e os (step.SessionSet from session state) = asked (is_same_entity from path) TxnScope _ tt (λ own. set_front from session state)

told_of : (row : Row) (reply : Reply) (cs : List Change) → Of Any IsFront row → row ≡ answers reply cs → list_all is_front (unqueued cs) ≡ true
told_of (refuses r) reply cs holds is = absurd cc
told_of (answers own ds) reply cs (answered_so holds) is = let same : ds ≡ cs = cc in subst (λ (l : List Change). list_all is_front (unqueued l) ≡ true) same holds

pub still_front : (s : Space) (t : ℕ) (path : Path) (e : Entity) (os : List Operation) (x : Step) (reply : Reply) (cs new ds : List Change) → list_all is_front cs ≡ true → read_step s t path e os x ≡ answers reply ds → new ≡ cs ++ unqueued ds → list_all is_front new ≡ true
still_front s t path e os x reply cs new ds front is more =
    ap (λ (l : List Change). list_all is_front l) more
    ∙ list_all-append is_front cs (unqueued ds)
    ∙ ap (λ (b : Bool). b && list_all is_front (unqueued ds)) front
    ∙ told_of (read_step s t path e os x) reply ds (step_front s t path e os x) is

-- ---- what one adds

pub operations_more : (c : Change) (cs : List Change) → operations_in (c ∷ cs) ≡ operations_in (c ∷ []) ++ operations_in cs
operations_more (Queues txn deadline operation) cs = refl
operations_more (InLeaf key c) cs = refl
operations_more (Notes n id) cs = refl
operations_more (Makes kind path description rules) cs = refl
operations_more (Removes n) cs = refl
operations_more (AddsRule n rule) cs = refl
operations_more (DropsRule n name) cs = refl
operations_more (Begins n deadline) cs = refl
operations_more (Drops n) cs = refl

pub unqueued_more : (c : Change) (cs : List Change) → unqueued (c ∷ cs) ≡ unqueued (c ∷ []) ++ unqueued cs
unqueued_more c cs = go (not (is_queueing c)) where
  go : (b : Bool) → (if b then c ∷ unqueued cs else unqueued cs) ≡ (if b then c ∷ [] else []) ++ unqueued cs
  go true = refl
  go false = refl

-- one change more of those that are left
pub adds_next : {X : Type 0} (f : List Change → List X) → ((c : Change) (cs : List Change) → f (c ∷ cs) ≡ f (c ∷ []) ++ f cs) → (before after : List X) (c : Change) (old left : List Change) (all : List X) → old ≡ c ∷ left → after ≡ before ++ f (c ∷ []) → before ++ f old ≡ all → after ++ f left ≡ all
adds_next f more before after c old left all is adds way =
    ap (λ l. l ++ f left) adds
    ∙ append_assoc before (f (c ∷ [])) (f left)
    ∙ ap (λ l. before ++ l) (sym (more c left))
    ∙ ap (λ l. before ++ f l) (sym is)
    ∙ way

pub adds_end : {X : Type 0} (f : List Change → List X) → f [] ≡ [] → (before : List X) (left : List Change) (all : List X) → left ≡ [] → before ++ f left ≡ all → before ≡ all
adds_end f none before left all is way = sym (append-nil before) ∙ ap (λ l. before ++ l) (sym (ap f is ∙ none)) ∙ way

-- ---- one of them

pub gathers_answered : (os new : List Operation) (cs later ds : List Change) (row : Row) (reply : Reply) → row ≡ answers reply ds → new ≡ os ++ operations_in ds → later ≡ cs ++ unqueued ds → (next : Next) → gathered_on os cs row next ≡ next new later
gathers_answered os new cs later ds row reply is os_is cs_is next =
    ap (λ (r : Row). gathered_on os cs r next) is
    ∙ ap (λ (l : List Operation). next l (cs ++ unqueued ds)) (sym os_is)
    ∙ ap (λ (l : List Change). next new l) (sym cs_is)

-- a refusal that is passed on
pub gathers_refused : {X : Type 0} (r : Result X Refusal) (x : Refusal) (os new : List Operation) (cs later : List Change) (row : Row) → IsErr r × IsErrAnd r (λ y. y ≡ x) → (x ≡ OutOfMemory) ⊎ (row ≡ refuses x) → Gathers r (gathered_on os cs row) new later
gathers_refused (Ok y) x os new cs later row given is = absurd given.1
gathers_refused (Err y) x os new cs later row given (inl memory) = inl (given.1 ∙ memory)
gathers_refused (Err y) x os new cs later row given (inr is) = inr (λ next. ap (λ (r : Row). gathered_on os cs r next) (is ∙ ap refuses (sym given.1)))

-- ---- all of them

-- one that answers, and then those behind it
step_answers : (i : ℕ) (s : Space) (t : ℕ) (path : Path) (e : Entity) (os new : List Operation) (cs later : List Change) (x : Step) (xs : List Step) (last : Next)
    → ((next : Next) → gathered_on os cs (read_step s t path e os x) next ≡ next new later) → read_steps i s t path e os cs (x ∷ xs) last ≡ read_steps (i + 1) s t path e new later xs last
step_answers i s t path e os new cs later x xs last = at (read_step s t path e os x) where
  at : (row : Row) → ((next : Next) → gathered_on os cs row next ≡ next new later)
      → elim row [ refuses r ↦ refuses (at_part i r) | answers reply ds ↦ read_steps (i + 1) s t path e (os ++ operations_in ds) (cs ++ unqueued ds) xs last ] ≡ read_steps (i + 1) s t path e new later xs last
  at (refuses r) one = let never : refuses r ≡ answers Done [] = one (λ os cs. answers Done []) in absurd cc
  at (answers reply ds) one = one (λ os cs. read_steps (i + 1) s t path e os cs xs last)

-- one that is refused, with its place
step_refuses : (i : ℕ) (s : Space) (t : ℕ) (path : Path) (e : Entity) (os : List Operation) (cs : List Change) (x : Step) (xs : List Step) (last : Next) (refusal : Refusal)
    → ((next : Next) → gathered_on os cs (read_step s t path e os x) next ≡ refuses refusal) → read_steps i s t path e os cs (x ∷ xs) last ≡ refuses (at_part i refusal)
step_refuses i s t path e os cs x xs last refusal = at (read_step s t path e os x) where
  at : (row : Row) → ((next : Next) → gathered_on os cs row next ≡ refuses refusal)
      → elim row [ refuses r ↦ refuses (at_part i r) | answers reply ds ↦ read_steps (i + 1) s t path e (os ++ operations_in ds) (cs ++ unqueued ds) xs last ] ≡ refuses (at_part i refusal)
  at (refuses r) one = let same : refuses r ≡ refuses refusal = one (λ os cs. answers Done []) in let own : r ≡ refusal = cc in ap (λ (y : Refusal). refuses (at_part i y)) own
  at (answers reply ds) one = let never : answers Done [] ≡ refuses refusal = one (λ os cs. answers Done []) in absurd cc

-- what is left gives all
abbrev pub IsGathering : Space → ℕ → Path → Entity → List Step → ℕ → (Next → Row) → List Operation → List Change → Type 0
IsGathering s t path e xs i all os cs = (last : Next) → read_steps i s t path e os cs (drop i xs) last ≡ all last

steps_at : (s : Space) (t : ℕ) (path : Path) (e : Entity) (os : List Operation) (cs : List Change) (xs : List Step) (i : ℕ) (x : Step) (last : Next) → i < length xs → x ≡ get_or xs i x
    → read_steps i s t path e os cs (drop i xs) last ≡ read_steps i s t path e os cs (x ∷ drop (i + 1) xs) last
steps_at s t path e os cs xs i x last within here =
    ap (λ (l : List Step). read_steps i s t path e os cs l last) (drop_more xs i x within ∙ ap (λ (y : Step). y ∷ drop (i + 1) xs) (sym here))

pub steps_next : (s : Space) (t : ℕ) (path : Path) (e : Entity) (xs : List Step) (i : ℕ) (x : Step) (all : Next → Row) (os new : List Operation) (cs later : List Change) → i < length xs → x ≡ get_or xs i x
    → IsGathering s t path e xs i all os cs → ((next : Next) → gathered_on os cs (read_step s t path e os x) next ≡ next new later) → IsGathering s t path e xs (i + 1) all new later
steps_next s t path e xs i x all os new cs later within here way one last =
    sym (step_answers i s t path e os new cs later x (drop (i + 1) xs) last one)
    ∙ sym (steps_at s t path e os cs xs i x last within here)
    ∙ way last

pub steps_refuse : (s : Space) (t : ℕ) (path : Path) (e : Entity) (xs : List Step) (i : ℕ) (x : Step) (all : Next → Row) (os : List Operation) (cs : List Change) (refusal placed : Refusal) → i < length xs → x ≡ get_or xs i x
    → IsGathering s t path e xs i all os cs → placed ≡ at_part i refusal → (refusal ≡ OutOfMemory) ⊎ ((next : Next) → gathered_on os cs (read_step s t path e os x) next ≡ refuses refusal) → (placed ≡ OutOfMemory) ⊎ ((next : Next) → all next ≡ refuses placed)
steps_refuse s t path e xs i x all os cs refusal placed within here way is (inl memory) = inl (is ∙ ap (λ (r : Refusal). at_part i r) memory)
steps_refuse s t path e xs i x all os cs refusal placed within here way is (inr refused) =
    inr (λ last. sym (way last) ∙ steps_at s t path e os cs xs i x last within here ∙ step_refuses i s t path e os cs x (drop (i + 1) xs) last refusal refused ∙ ap refuses (sym is))

pub steps_end : (s : Space) (t : ℕ) (path : Path) (e : Entity) (xs : List Step) (i : ℕ) (all : Next → Row) (os : List Operation) (cs : List Change) → length xs ≤ i → IsGathering s t path e xs i all os cs → (last : Next) → all last ≡ last os cs
steps_end s t path e xs i all os cs past way last = sym (way last) ∙ ap (λ (l : List Step). read_steps i s t path e os cs l last) (drop_all i xs past)

-- ---- what is queued

pub queued_same : (s : Space) (t : ℕ) (e : Entity) (os : List Operation) (txn : ℕ) (to : Path) (ms : List Message) → txn ≡ gathering_number s → queued_send t to ms (gathering s t e os) ≡ queued_in txn (t + 120000) to ms
queued_same s t e os txn to [] is = refl
queued_same s t e [] txn to (m ∷ ms) is = ap (λ (n : ℕ). queued_in n (t + 120000) to (m ∷ ms)) (sym is)
queued_same s t e (o ∷ os) txn to (m ∷ ms) is = ap (λ (n : ℕ). queued_in n (t + 120000) to (m ∷ ms)) (sym is)

pub queueing_same : (s : Space) (t : ℕ) (e : Entity) (os : List Operation) (txn : ℕ) (o : Operation) → txn ≡ gathering_number s → queueing t (gathering s t e os) o ≡ Queues txn (t + 120000) o ∷ []
queueing_same s t e [] txn o is = ap (λ (n : ℕ). Queues n (t + 120000) o ∷ []) (sym is)
queueing_same s t e (own ∷ os) txn o is = ap (λ (n : ℕ). Queues n (t + 120000) o ∷ []) (sym is)

-- a send that its tests refuse
pub sends_refused : (s : Space) (t : ℕ) (e : Entity) (os : List Operation) (to : Path) (ms own : List Message) (r : Result Draft Refusal) (x : Refusal) → own ≡ ms → IsErr r × IsErrAnd r (λ y. y ≡ x)
    → (x ≡ OutOfMemory) ⊎ ((row : Row) → sending_tests s e os to own row ≡ refuses x) → PlansRow r (read_send s t e (gathering s t e os) to ms)
sends_refused s t e os to ms own (Ok d) x same given refused = absurd given.1
sends_refused s t e os to ms own (Err y) x same given (inl memory) = inl (given.1 ∙ memory)
sends_refused s t e os to ms own (Err y) x same given (inr refused) =
    let row = answers Queued (queued_send t to ms (gathering s t e os)) in
    inr (ap (λ (l : List Message). sending_tests s e os to l row) (sym same) ∙ refused row ∙ ap refuses (sym given.1))

-- a settlement by one who doesn't hold the session
pub settles_refused : (s : Space) (t : ℕ) (own : Entity) (os : List Operation) (from : Path) (which : Which) (token : Token) (session : Option Token) (how : How) (e : Entity) (leaf : Leaf) (goes same : Bool) (r : Result Draft Refusal) (x : Refusal)
    → Passes (at_receivable s from) e → goes ≡ goes_with how from.part → goes ≡ true → Allows (asks_session e from.part session) → same ≡ (own.about.number == e.about.number) → same ≡ true → leaf ≡ leaf_of from.part e → Refuses (asks_holder s t leaf session) x
    → IsErr r × IsErrAnd r (λ y. y ≡ x) → PlansRow r (read_settle s t (gathering s t own os) from which token session how)
settles_refused s t own os from which token session how e leaf goes same r x found goes_is goes_on allowed same_is is_same leaf_is refused given =
    refuses_on r x (read_settle s t (gathering s t own os) from which token session how) given
    (found (λ e. asks (goes_with how from.part) WrongKind (asks_session e from.part session (asks (own.about.number == e.about.number) TxnScope (held e))))
    ∙ ap (λ (b : Bool). asks b WrongKind (asks_session e from.part session (asks (own.about.number == e.about.number) TxnScope (held e)))) (sym goes_is ∙ goes_on)
    ∙ allowed (asks (own.about.number == e.about.number) TxnScope (held e))
    ∙ ap (λ (b : Bool). asks b TxnScope (held e)) (sym same_is ∙ is_same)
    ∙ ap (λ (l : Leaf). asks_holder s t l session (λ claim. behind e)) (sym leaf_is)
    ∙ refused (λ claim. behind e))
  where
    behind : Entity → Row
    behind e = read_found s t (gathering s t own os) from token session how (leased s t token which (leaf_of from.part e))

    held : Entity → Row
    held e = asks_holder s t (leaf_of from.part e) session (λ claim. behind e)
