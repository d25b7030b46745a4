-- What acts one behind another do: those for which operations stand that act together are in range, give the numbers that are told, and lead to
-- the same namespace.
use Rattle.std.proofs.Common.{Bool, List, None, Option, Some, [], ap, append_assoc, arith, false, length, nat_le, refl, subst, sym, true, ℕ, ◌&&◌, ◌++◌, ◌+◌, ◌∙◌, ◌∷◌, ◌≡◌, ◌≤◌}
use Rattle.std.proofs.lemmas.Bool.Decides.{nat_tests}
use Rattle.std.proofs.lemmas.List.{append-nil}
use Rattle.std.proofs.lemmas.List.Sums.{sum_by-append, sum_by-cons}
use Rattle.std.specs.Prelude.{codes, map}
use Rattle.sb_laws.proofs.Consistency.{first_none, then_none}
use Rattle.sb_laws.proofs.Eachs.{each_append, each_of_all}
use Rattle.sb_laws.proofs.Measures.{all_grow}
use Rattle.sb_laws.proofs.Outcomes.{Fits}
use Rattle.sb_laws.proofs.Sweeps.{after_append}
use Rattle.sb_laws.proofs.Uniting.{Does, EndsCalmly, Filled, Fills, IsFilling, Unites, bad_there, does_many, does_one, fills_none, fills_one, fills_queue, fills_write}
use Rattle.sb_laws.proofs.Ways.{Way}
use Rattle.sb_laws.specs.InTurn.{act_of, filled_by, stands_for}
use Rattle.sb_machine.specs.Acts.{is_via_in}
use Rattle.sb_machine.specs.Changes.{after, after_all, is_numbered, is_transaction, max_number, numbers_given, numbers_in, with_operation}
use Rattle.sb_machine.specs.Each.{Each}
use Rattle.sb_machine.specs.Fields.{are_set_once, bad_in_act, bad_in_by, bad_in_entity, bad_in_how, bad_in_id, bad_in_messages, bad_in_step, bad_in_steps, bad_in_together, bad_in_which, bad_in_whole, first_some, is_between, is_between_or_none, is_number, max_messages, max_steps, unless}
use Rattle.sb_machine.specs.Keyed.{changed}
use Rattle.sb_machine.specs.Namespace.{made}
use Rattle.sb_machine.specs.Ordered.{IsActInOrder, IsStepInOrder}
use Rattle.sb_machine.specs.Queueing.{txn_life}
use Rattle.sb_machine.specs.Together.{unqueued}
use Rattle.sb_machine.specs.declared.call.Act.{Act}
use Rattle.sb_machine.specs.declared.call.Act.TheVariants.{Begin, Commit, Together}
use Rattle.sb_machine.specs.declared.call.By.{By}
use Rattle.sb_machine.specs.declared.call.Path.{Path}
use Rattle.sb_machine.specs.declared.call.Step.{Step}
use Rattle.sb_machine.specs.declared.call.Step.TheVariants.{Send as StepSend, Settle as StepSettle, SessionSet as StateSet}
use Rattle.sb_machine.specs.declared.change.Change.{Change}
use Rattle.sb_machine.specs.declared.change.Change.TheVariants.{AddsRule, Begins, Drops, DropsRule, InLeaf, Makes, Notes, Queues, Removes}
use Rattle.sb_machine.specs.declared.change.LeafChange.TheVariants.{Writes}
use Rattle.sb_machine.specs.declared.reply.Reply.{Reply}
use Rattle.sb_machine.specs.declared.state.Operation.{Operation}
use Rattle.sb_machine.specs.declared.state.Space.{Space}
use Rattle.sb_machine.specs.declared.state.Transaction.{Transaction}

-- ---- numbers rise

pub record IsLater (s later : Space) : Type 0 where
  pub entity : s.last_entity ≤ later.last_entity
  pub lock : s.last_lock ≤ later.last_lock
  pub txn : s.last_txn ≤ later.last_txn

one_later : (t : ℕ) (c : Change) (s : Space) → IsLater s (after t c s)
one_later t (InLeaf key c) s = record { entity = omega arith; lock = omega arith; txn = omega arith }
one_later t (Notes n id) s = record { entity = omega arith; lock = omega arith; txn = omega arith }
one_later t (Makes kind path description rules) s = record { entity = omega arith; lock = omega arith; txn = omega arith }
one_later t (Removes n) s = record { entity = omega arith; lock = omega arith; txn = omega arith }
one_later t (AddsRule n rule) s = record { entity = omega arith; lock = omega arith; txn = omega arith }
one_later t (DropsRule n name) s = record { entity = omega arith; lock = omega arith; txn = omega arith }
one_later t (Begins n deadline) s = record { entity = omega arith; lock = omega arith; txn = omega arith }
one_later t (Queues n deadline operation) s = record { entity = omega arith; lock = omega arith; txn = omega arith }
one_later t (Drops n) s = record { entity = omega arith; lock = omega arith; txn = omega arith }

pub all_later : (t : ℕ) (cs : List Change) (s : Space) → IsLater s (after_all t cs s)
all_later t [] s = record { entity = omega arith; lock = omega arith; txn = omega arith }
all_later t (c ∷ cs) s =
    let one = one_later t c s in
    let rest = all_later t cs (after t c s) in
    record { entity = omega (arith, one.entity, rest.entity); lock = omega (arith, one.lock, rest.lock); txn = omega (arith, one.txn, rest.txn) }

-- ---- no number passes the greatest

pub record IsWithin (t : ℕ) (cs : List Change) (s : Space) : Type 0 where
  pub given : made s + numbers_given cs ≤ max_number
  pub entity : (after_all t cs s).last_entity ≤ max_number
  pub lock : (after_all t cs s).last_lock ≤ max_number
  pub txn : (after_all t cs s).last_txn ≤ max_number

pub at_most : (m n : ℕ) → nat_le m n ≡ true → m ≤ n
at_most m n e = grind (arith, nat_tests)

at_most_so : (m n : ℕ) → m ≤ n → nat_le m n ≡ true
at_most_so m n le = grind (arith, nat_tests)

four : (a b c d : Bool) → (a && b && c && d) ≡ true → (a ≡ true) × (b ≡ true) × (c ≡ true) × (d ≡ true)
four true true true d e = (refl, refl, refl, e)
four true true false d e = absurd cc
four true false c d e = absurd cc
four false b c d e = absurd cc

pub within : (t : ℕ) (cs : List Change) (s : Space) → is_numbered t cs s ≡ true → IsWithin t cs s
within t cs s is =
    let later = after_all t cs s in
    let so = four (nat_le (made s + numbers_given cs) max_number) (nat_le later.last_entity max_number) (nat_le later.last_lock max_number) (nat_le later.last_txn max_number) is in
    record { given = at_most (made s + numbers_given cs) max_number so.0; entity = at_most later.last_entity max_number so.1; lock = at_most later.last_lock max_number so.2; txn = at_most later.last_txn max_number so.3 }

numbered_within : (t : ℕ) (cs : List Change) (s : Space) → IsWithin t cs s → is_numbered t cs s ≡ true
numbered_within t cs s w =
    let later = after_all t cs s in
    rw (at_most_so (made s + numbers_given cs) max_number w.given, at_most_so later.last_entity max_number w.entity, at_most_so later.last_lock max_number w.lock, at_most_so later.last_txn max_number w.txn) refl

-- the numbers of the first changes, and of those behind them
pub numbered_parts : (t : ℕ) (cs ds : List Change) (s : Space) → is_numbered t (cs ++ ds) s ≡ true → (is_numbered t cs s ≡ true) × (is_numbered t ds (after_all t cs s) ≡ true)
numbered_parts t cs ds s is =
    let mid = after_all t cs s in
    let whole = within t (cs ++ ds) s is in
    let leads = after_append t cs ds s in
    let sum : numbers_given (cs ++ ds) ≡ numbers_given cs + numbers_given ds = sum_by-append numbers_in cs ds in
    let rises = all_later t ds mid in
    let entity : (after_all t ds mid).last_entity ≤ max_number = subst (λ (p : Space). p.last_entity ≤ max_number) leads whole.entity in
    let lock : (after_all t ds mid).last_lock ≤ max_number = subst (λ (p : Space). p.last_lock ≤ max_number) leads whole.lock in
    let txn : (after_all t ds mid).last_txn ≤ max_number = subst (λ (p : Space). p.last_txn ≤ max_number) leads whole.txn in (
      numbered_within t cs s (record { given = omega (arith, whole.given, sum); entity = omega (arith, entity, rises.entity); lock = omega (arith, lock, rises.lock); txn = omega (arith, txn, rises.txn) }),
      numbered_within t ds mid (record { given = omega (arith, whole.given, sum, (all_grow t cs s).made_most); entity = entity; lock = lock; txn = txn }),
    )

-- ---- acts one behind another

-- acts are accepted one behind another, with these changes, each in range
pub data Ran (t : ℕ) : Space → List Act → List Change → Type 0 where
  ran_none : {s : Space} → Ran t s [] []
  ran_one : {s : Space} {act : Act} {acts : List Act} {reply : Reply} {cs ds : List Change}
      → bad_in_act (is_via_in s act) act ≡ None → is_numbered t cs s ≡ true → Way s t act reply cs → Ran t (after_all t cs s) acts ds → Ran t s (act ∷ acts) (cs ++ ds)

-- what each act keeps, where M holds of it
pub ran_keeps : (I : Space → Type 0) (M : Act → Type 0) (t : ℕ)
    → ((s : Space) (act : Act) (reply : Reply) (cs : List Change) → M act → bad_in_act (is_via_in s act) act ≡ None → is_numbered t cs s ≡ true → Way s t act reply cs → I s → I (after_all t cs s))
    → (s : Space) (acts : List Act) (cs : List Change) → Ran t s acts cs → Each M acts → I s → I (after_all t cs s)
ran_keeps I M t keeps s _ _ ran_none all i = i
ran_keeps I M t keeps s _ _ (ran_one {act = act} {acts = acts} {reply = reply} {cs = cs} {ds = ds} good numbers way rest) all i =
    subst I (sym (after_append t cs ds s)) (ran_keeps I M t keeps (after_all t cs s) acts ds rest all.1 (keeps s act reply cs all.0 good numbers way i))

-- ---- what is queued is gone with its transaction

module _ (t n : ℕ) where
  queued_gone : (deadline : ℕ) (o : Operation) (xs : List Transaction) → changed (is_transaction n) (λ x. []) (changed (is_transaction n) (λ x. with_operation deadline o x ∷ []) xs) ≡ changed (is_transaction n) (λ x. []) xs
  queued_gone deadline o [] = refl
  queued_gone deadline o (x ∷ xs) = at (is_transaction n x) refl (queued_gone deadline o xs) where
    at : (b : Bool) → is_transaction n x ≡ b → changed (is_transaction n) (λ x. []) (changed (is_transaction n) (λ x. with_operation deadline o x ∷ []) xs) ≡ changed (is_transaction n) (λ x. []) xs
        → changed (is_transaction n) (λ x. []) (changed (is_transaction n) (λ x. with_operation deadline o x ∷ []) (x ∷ xs)) ≡ changed (is_transaction n) (λ x. []) (x ∷ xs)
    at true is ih = rw (is, is) refl
    at false is ih = rw (is, is) (ap (λ (l : List Transaction). x ∷ l) ih)

  queue_dropped : (k deadline : ℕ) (o : Operation) (s : Space) → k ≡ n → after t (Drops n) (after t (Queues k deadline o) s) ≡ after t (Drops n) s
  queue_dropped k deadline o s same = subst (λ (m : ℕ). after t (Drops n) (after t (Queues m deadline o) s) ≡ after t (Drops n) s) (sym same) (ap (λ (l : List Transaction). record s { transactions = l }) (queued_gone deadline o s.transactions))

  -- without what is queued the same namespace comes of it, once the transaction is dropped
  pub filling_same : (cs : List Change) (a b : Space) → Each (IsFilling n) cs → after t (Drops n) a ≡ after t (Drops n) b → after t (Drops n) (after_all t cs a) ≡ after t (Drops n) (after_all t (unqueued cs) b)
  filling_same [] a b all same = same
  filling_same (_ ∷ cs) a b (fills_queue k deadline o own, all) same = filling_same cs (after t (Queues k deadline o) a) b all (queue_dropped k deadline o a own ∙ same)
  filling_same (_ ∷ cs) a b (fills_write key lock bytes, all) same = filling_same cs (after t (InLeaf key (Writes lock bytes)) a) (after t (InLeaf key (Writes lock bytes)) b) all (ap (after t (InLeaf key (Writes lock bytes))) same)

  dropped_same : (ds rest : List Change) (a b : Space) → ds ≡ Drops n ∷ rest → after t (Drops n) a ≡ after t (Drops n) b → after_all t ds a ≡ after_all t ds b
  dropped_same ds rest a b ends same = ap (λ (l : List Change). after_all t l a) ends ∙ ap (after_all t rest) same ∙ sym (ap (λ (l : List Change). after_all t l b) ends)

  pub unqueued_leads : (cs ds : List Change) (s : Space) → Each (IsFilling n) cs → EndsCalmly n ds → after_all t (cs ++ ds) s ≡ after_all t (unqueued cs ++ ds) s
  unqueued_leads cs ds s all last_ones =
      after_append t cs ds s ∙ dropped_same ds last_ones.rest (after_all t cs s) (after_all t (unqueued cs) s) last_ones.ends (filling_same cs s s all refl) ∙ sym (after_append t (unqueued cs) ds s)

  unqueued_given : (cs : List Change) → Each (IsFilling n) cs → numbers_given (unqueued cs) ≡ numbers_given cs
  unqueued_given [] all = refl
  unqueued_given (_ ∷ cs) (fills_queue k deadline o own, all) = omega (arith, unqueued_given cs all, sum_by-cons numbers_in (Queues k deadline o) cs)
  unqueued_given (_ ∷ cs) (fills_write key lock bytes, all) =
      omega (arith, unqueued_given cs all, sum_by-cons numbers_in (InLeaf key (Writes lock bytes)) cs, sum_by-cons numbers_in (InLeaf key (Writes lock bytes)) (unqueued cs))

  pub fills_fill : (xs : List Step) (s : Space) (cs : List Change) (later : Space) → Fills t n xs s cs later → Each (IsFilling n) cs
  fills_fill _ s _ _ fills_none = tt
  fills_fill _ s _ later (fills_one {xs = xs} {cs = cs} {ds = ds} h rest) = each_append (IsFilling n) cs ds h.filling (fills_fill xs (after_all t cs s) ds later rest)

  pub fills_lead : (xs : List Step) (s : Space) (cs : List Change) (later : Space) → Fills t n xs s cs later → after_all t cs s ≡ later
  fills_lead _ s _ _ fills_none = refl
  fills_lead _ s _ later (fills_one {xs = xs} {cs = cs} {ds = ds} h rest) = after_append t cs ds s ∙ fills_lead xs (after_all t cs s) ds later rest

  -- ---- the fields of each act

  pub in_range : (s : Space) (x : Step) → is_number n ≡ true → bad_in_step x ≡ None → bad_there s n x ≡ None → bad_in_act (is_via_in s (act_of n x)) (act_of n x) ≡ None
  in_range s (StepSend to ms) number good there =
      let few = then_none (nat_le (length ms) max_messages) (codes "messages") (first_some (bad_in_messages false ms) (unless (is_between_or_none 1 max_number None) (codes "txn"))) good in
      let named : is_between_or_none 1 max_number (Some n) ≡ true = number in
      rw (few.0, there, named) refl
  in_range s (StepSettle from which token session how) number good there =
      let first = first_none (bad_in_which which) (first_some (bad_in_id which) (bad_in_how how)) good in
      let second = first_none (bad_in_id which) (bad_in_how how) first.1 in
      let named : is_between_or_none 1 max_number (Some n) ≡ true = number in
      rw (first.0, named, second.1) refl
  in_range s (StateSet from token bytes) number good there = refl

  ran_fills : (xs : List Step) (more : List Act) (s : Space) (cs ds : List Change) (later : Space) → is_number n ≡ true → bad_in_steps xs ≡ None → is_numbered t (cs ++ ds) s ≡ true → Fills t n xs s cs later
      → (is_numbered t ds later ≡ true → Ran t later more ds) → Ran t s (map (act_of n) xs ++ more) (cs ++ ds)
  ran_fills _ more s _ ds _ number good numbers fills_none next = next numbers
  ran_fills _ more s _ ds later number good numbers (fills_one {x = x} {xs = xs} {cs = c1} {ds = c2} h rest) next =
      let same : (c1 ++ c2) ++ ds ≡ c1 ++ (c2 ++ ds) = append_assoc c1 c2 ds in
      let parts = numbered_parts t c1 (c2 ++ ds) s (subst (λ (l : List Change). is_numbered t l s ≡ true) same numbers) in
      let fine = first_none (bad_in_step x) (bad_in_steps xs) good in
      subst (Ran t s (act_of n x ∷ (map (act_of n) xs ++ more))) (sym same)
      (ran_one (in_range s x number fine.0 h.messages) parts.0 h.way (ran_fills xs more (after_all t c1 s) c2 ds later number fine.1 parts.1 rest next))

  fills_keep : (I : Space → Type 0) → ((now : Space) (a : Act) (r : Reply) (ds : List Change) → bad_in_act (is_via_in now a) a ≡ None → is_numbered t ds now ≡ true → Way now t a r ds → I now → I (after_all t ds now))
      → (xs : List Step) (s : Space) (cs ds : List Change) (later : Space) → is_number n ≡ true → bad_in_steps xs ≡ None → is_numbered t (cs ++ ds) s ≡ true → Fills t n xs s cs later → I s → I later
  fills_keep I keeps _ s _ ds _ number good numbers fills_none i = i
  fills_keep I keeps _ s _ ds later number good numbers (fills_one {x = x} {xs = xs} {reply = reply} {cs = c1} {ds = c2} h rest) i =
      let parts = numbered_parts t c1 (c2 ++ ds) s (subst (λ (l : List Change). is_numbered t l s ≡ true) (append_assoc c1 c2 ds) numbers) in
      let fine = first_none (bad_in_step x) (bad_in_steps xs) good in
      let range = in_range s x number fine.0 h.messages in
      fills_keep I keeps xs (after_all t c1 s) c2 ds later number fine.1 parts.1 rest (keeps s (act_of n x) reply c1 range parts.0 h.way i)

-- ---- an accepted act as acts one behind another

-- acts that lead to the same namespace, whose lists are in order where the act's are
pub record Led (s : Space) (t : ℕ) (act : Act) (cs : List Change) : Type 0 where
  pub acts : List Act
  pub whole : List Change
  pub ran : Ran t s acts whole
  pub leads : after_all t whole s ≡ after_all t cs s
  pub in_order : IsActInOrder act → Each IsActInOrder acts

number_so : (n : ℕ) → n + 1 ≤ max_number → is_number (n + 1) ≡ true
number_so n few = grind (arith, nat_tests)

acts_in_order : (n : ℕ) (steps : List Step) → Each IsStepInOrder steps → Each IsActInOrder (filled_by n steps)
acts_in_order n [] all = (tt, tt)
acts_in_order n (x ∷ xs) all = (by x all.0, acts_in_order n xs all.1) where
  by : (x : Step) → IsStepInOrder x → IsActInOrder (act_of n x)
  by (StepSend to ms) order = order
  by (StepSettle from which token session how) order = tt
  by (StateSet from token bytes) order = tt

module _ (s : Space) (t : ℕ) where
  module _ (path : Path) (steps : List Step) (reply : Reply) (cs : List Change) (u : Unites s t path steps reply cs) where
    abbrev pub n : ℕ
    n = s.last_txn + 1

    abbrev pub first : Change
    first = Begins u.entity.about.number (t + txn_life)

    abbrev pub f : Filled t (s.last_txn + 1) steps steps (after t (Begins u.entity.about.number (t + txn_life)) s) reply u.behind_it
    f = u.filled

    filling : Each (IsFilling (s.last_txn + 1)) f.filled
    filling = fills_fill t (s.last_txn + 1) steps (after t first s) f.filled f.later f.fills

    told : cs ≡ first ∷ (unqueued f.filled ++ f.done)
    told = u.changes ∙ ap (λ (l : List Change). first ∷ l) f.changes

    pub united_leads : after_all t (first ∷ (f.filled ++ f.done)) s ≡ after_all t cs s
    united_leads = unqueued_leads t n f.filled f.done (after t first s) filling f.commits.calmly ∙ sym (ap (λ (l : List Change). after_all t l s) told)

    module _ (good : bad_in_together path steps ≡ None) (numbers : is_numbered t cs s ≡ true) where
      same_given : numbers_given (first ∷ (unqueued f.filled ++ f.done)) ≡ numbers_given (first ∷ (f.filled ++ f.done))
      same_given =
          let a : numbers_given (unqueued f.filled ++ f.done) ≡ numbers_given (unqueued f.filled) + numbers_given f.done = sum_by-append numbers_in (unqueued f.filled) f.done in
          let b : numbers_given (f.filled ++ f.done) ≡ numbers_given f.filled + numbers_given f.done = sum_by-append numbers_in f.filled f.done in
          omega (arith, a, b, unqueued_given t n f.filled filling, sum_by-cons numbers_in first (unqueued f.filled ++ f.done), sum_by-cons numbers_in first (f.filled ++ f.done))

      whole_numbered : is_numbered t (first ∷ (f.filled ++ f.done)) s ≡ true
      whole_numbered =
          let is = within t cs s numbers in
          let given : numbers_given cs ≡ numbers_given (first ∷ (f.filled ++ f.done)) = ap numbers_given told ∙ same_given in
          numbered_within t (first ∷ (f.filled ++ f.done)) s (record {
            given = omega (arith, is.given, given);
            entity = subst (λ (p : Space). p.last_entity ≤ max_number) (sym united_leads) is.entity;
            lock = subst (λ (p : Space). p.last_lock ≤ max_number) (sym united_leads) is.lock;
            txn = subst (λ (p : Space). p.last_txn ≤ max_number) (sym united_leads) is.txn;
          })

      pub begun : (is_numbered t (first ∷ []) s ≡ true) × (is_numbered t (f.filled ++ f.done) (after t first s) ≡ true)
      begun = numbered_parts t (first ∷ []) (f.filled ++ f.done) s whole_numbered

      pub number : is_number (s.last_txn + 1) ≡ true
      number = number_so s.last_txn (within t (first ∷ []) s begun.0).txn

      pub number_named : bad_in_act (is_via_in f.later (Commit (s.last_txn + 1))) (Commit (s.last_txn + 1)) ≡ None
      number_named = rw number refl

      pub parts : (bad_in_entity path ≡ None) × (bad_in_steps steps ≡ None)
      parts =
          let front = first_none (bad_in_whole path steps) (bad_in_steps steps) good in
          ((first_none (bad_in_entity path) (unless (is_between 1 max_steps (length steps) && are_set_once steps) (codes "operations")) front.0).0, front.1)

      united_led : Led s t (Together path steps) cs
      united_led = record {
        acts = stands_for s path steps;
        whole = first ∷ (f.filled ++ f.done);
        ran = ran_one parts.0 begun.0 u.way (ran_fills t n steps (Commit n ∷ []) (after t first s) f.filled f.done f.later number parts.1 begun.1 f.fills (λ counted. subst (Ran t f.later (Commit n ∷ [])) (append-nil f.done) (ran_one number_named counted f.commits.way ran_none)));
        leads = united_leads;
        in_order = λ all. (tt, acts_in_order n steps all);
      }

      -- what each act keeps holds as the commit comes
      pub later_keeps : (I : Space → Type 0) → ((now : Space) (a : Act) (r : Reply) (ds : List Change) → bad_in_act (is_via_in now a) a ≡ None → is_numbered t ds now ≡ true → Way now t a r ds → I now → I (after_all t ds now)) → I s → I f.later
      later_keeps I keeps i = fills_keep t n I keeps steps (after t first s) f.filled f.done f.later number parts.1 begun.1 f.fills (keeps s (Begin path) _ (first ∷ []) parts.0 begun.0 u.way i)

  led_by : (act : Act) (reply : Reply) (cs : List Change) → bad_in_act (is_via_in s act) act ≡ None → is_numbered t cs s ≡ true → Does s t act reply cs → Led s t act cs
  led_by act reply cs good numbers (does_one way) = record { acts = act ∷ []; whole = cs ++ []; ran = ran_one good numbers way ran_none; leads = ap (λ (l : List Change). after_all t l s) (append-nil cs); in_order = λ order. (order, tt) }
  led_by _ reply cs good numbers (does_many {path = path} {steps = steps} u) = united_led path steps reply cs u good numbers

  module _ (by : Option By) (act : Act) (reply : Reply) (cs : List Change) (fits : Fits s t by act reply cs) where
    pub good_act : bad_in_act (is_via_in s act) act ≡ None
    good_act = (first_none (bad_in_act (is_via_in s act) act) (bad_in_by act by) fits.fields).0

    pub led : Led s t act cs
    led = led_by act reply cs good_act fits.numbers fits.does

    -- what each accepted act by itself keeps, an accepted act keeps
    pub act_keeps : (I : Space → Type 0) → ((now : Space) (a : Act) (r : Reply) (ds : List Change) → bad_in_act (is_via_in now a) a ≡ None → is_numbered t ds now ≡ true → Way now t a r ds → I now → I (after_all t ds now)) → I s → I (after_all t cs s)
    act_keeps I keeps i = subst I led.leads (ran_keeps I (λ a. Unit {0}) t (λ now a r ds any good numbers way h. keeps now a r ds good numbers way h) s led.acts led.whole led.ran (each_of_all (λ a. Unit {0}) (λ a. tt) led.acts) i)

    -- the same, where the lists of each are in order
    pub act_keeps_ordered : (I : Space → Type 0) → IsActInOrder act
        → ((now : Space) (a : Act) (r : Reply) (ds : List Change) → IsActInOrder a → bad_in_act (is_via_in now a) a ≡ None → is_numbered t ds now ≡ true → Way now t a r ds → I now → I (after_all t ds now)) → I s → I (after_all t cs s)
    act_keeps_ordered I order keeps i = subst I led.leads (ran_keeps I IsActInOrder t keeps s led.acts led.whole led.ran (led.in_order order) i)
