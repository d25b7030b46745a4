-- The numbers of a step, and of a history that goes on.
use Rattle.std.proofs.Common.{◌≡◌, ℕ, zero, suc, ◌+◌, List, [], ◌∷◌, ◌++◌, length, filter, true, Option, Some, None, Result, Ok, Err, refl, sym, ap, ◌∙◌, arith, length-append, append_assoc}
use Rattle.std.proofs.lemmas.List.Elements.{filter-append}
use Rattle.std.specs.Prelude.{if◌then◌else◌}
use Rattle.sb_desk.specs.Entries.{counted, is_refused, IsReport}
use Rattle.sb_desk.specs.declared.report.Report.{Report}
use Rattle.sb_machine.specs.Accounts.{changing, event_of, is_machine}
use Rattle.sb_machine.specs.Answers.{moment_of}
use Rattle.sb_machine.specs.History.{is_fault, Log, after_entry, after_entries, fresh_log, settled}
use Rattle.sb_machine.specs.Repeats.{outcome_of}
use Rattle.sb_machine.specs.declared.call.Call.{Call}
use Rattle.sb_machine.specs.declared.call.Event.{Event}
use Rattle.sb_machine.specs.declared.call.Event.TheVariants.{Tick}
use Rattle.sb_machine.specs.declared.history.Entry.{Entry}
use Rattle.sb_machine.specs.declared.history.Entry.TheVariants.{Ticked, Answered as Replied}
use Rattle.sb_machine.specs.declared.reply.Answered.{Answered}
use Rattle.sb_machine.specs.declared.reply.Refusal.{Refusal}
use Rattle.sb_machine.specs.declared.state.State.{State}
use Rattle.sb_node.specs.Serving.{raised, refusals, with_entries}
use Rattle.sb_node.specs.Steps.{entries_with, tick_events}
use Rattle.sb_node.proofs.Settled.{changing_settled}

-- ---- counts

pub raised_on : (n a b : ℕ) → raised (raised n a) b ≡ raised n (a + b)
raised_on n zero b = let e : b ≡ 0 + b = omega arith in ap (raised n) e
raised_on n (suc a) zero = let e : suc a ≡ suc a + 0 = omega arith in ap (raised n) e
raised_on n (suc a) (suc b) =
    let e : suc (a + suc b) ≡ suc a + suc b = omega arith in
    let both : counted (counted (n + suc a) + suc b) ≡ counted (n + suc (a + suc b)) = omega arith in
    both ∙ ap (raised n) e

raised_counted : (n m k : ℕ) → n ≡ counted m → raised n k ≡ counted (m + k)
raised_counted n m zero is = omega (arith, is)
raised_counted n m (suc k) is = omega (arith, is)

report_is : (r : Report) (e c f : ℕ) → r.entries ≡ e → r.changing ≡ c → r.refused ≡ f → ◌≡◌ {A = Report} r (record { entries = e; changing = c; refused = f })
report_is r e c f p q s = λ i. record { entries = p i; changing = q i; refused = s i }

-- a count of none, and so many events
pub all_raised : (n k count : ℕ) → count ≡ 0 → count ≡ raised 0 k → raised n k ≡ n
all_raised n zero count none is = refl
all_raised n (suc k) count none is = absurd (omega (arith, none, is))

pub some_raised : (n k count sum : ℕ) → (count ≡ 0 → ⊥) → count ≡ raised 0 k → sum ≡ counted (n + count) → sum ≡ raised n k
some_raised n zero count sum some is added = absurd (some is)
some_raised n (suc k) count sum some is added = omega (arith, is, added)

-- ---- of a group

-- of one that changed nothing
pub still_numbers : (old new : Report) (l : Log) (es : List Entry) → changing l es ≡ [] → new.entries ≡ raised old.entries (length es) → new.changing ≡ old.changing → new.refused ≡ raised old.refused (length (filter is_refused es)) → new ≡ with_entries old l es
still_numbers old new l es none entries changed refused = report_is new _ _ _ entries (changed ∙ ap (λ (x : List Event). raised old.changing (length x)) (sym none)) refused

-- of one whose events were counted first
pub made_numbers : (old mid new : Report) (l : Log) (es : List Entry) → ◌≡◌ {A = Report} mid (record old { changing = raised old.changing (length (changing l es)) })
    → new.entries ≡ raised mid.entries (length es) → new.changing ≡ mid.changing → new.refused ≡ raised mid.refused (length (filter is_refused es)) → new ≡ with_entries old l es
made_numbers old mid new l es first entries changed refused =
    report_is new _ _ _
    (entries ∙ ap (λ (r : Report). raised r.entries (length es)) first)
    (changed ∙ ap (λ (r : Report). r.changing) first)
    (refused ∙ ap (λ (r : Report). raised r.refused (length (filter is_refused es))) first)

-- of one more post
pub counted_more : (before own all : List Entry) (n m next : ℕ) → all ≡ before ++ own → m ≡ raised n (length before) → next ≡ raised m (length own) → next ≡ raised n (length all)
counted_more before own all n m next more is one = one ∙ ap (λ (k : ℕ). raised k (length own)) is ∙ raised_on n (length before) (length own) ∙ ap (raised n) (sym (length-append before own)) ∙ ap (λ (es : List Entry). raised n (length es)) (sym more)

pub refused_more : (before own all : List Entry) (n m next : ℕ) → all ≡ before ++ own → m ≡ raised n (length (filter is_refused before)) → next ≡ raised m (length (filter is_refused own)) → next ≡ raised n (length (filter is_refused all))
refused_more before own all n m next more is one =
    counted_more (filter is_refused before) (filter is_refused own) (filter is_refused all) n m next (ap (filter is_refused) more ∙ filter-append is_refused before own) is one

-- ---- of one step

step_entries : (tick : Option ℕ) (seat reading : ℕ) (call : Call) (answer : Result Answered Refusal) → 1 + length (tick_events tick) ≡ length (entries_with tick seat reading call answer)
step_entries None seat reading call answer = refl
step_entries (Some t) seat reading call answer = refl

step_refusals : (tick : Option ℕ) (seat reading : ℕ) (call : Call) (answer : Result Answered Refusal) → refusals answer ≡ length (filter is_refused (entries_with tick seat reading call answer))
step_refusals None seat reading call (Ok reply) = refl
step_refusals None seat reading call (Err e) = refl
step_refusals (Some t) seat reading call (Ok reply) = refl
step_refusals (Some t) seat reading call (Err e) = refl

pub post_entries_count : (tick : Option ℕ) (n m seat reading : ℕ) (call : Call) (answer : Result Answered Refusal) → m ≡ raised n (1 + length (tick_events tick)) → m ≡ raised n (length (entries_with tick seat reading call answer))
post_entries_count tick n m seat reading call answer is = is ∙ ap (raised n) (step_entries tick seat reading call answer)

pub post_refusals_count : (tick : Option ℕ) (n m seat reading : ℕ) (call : Call) (answer : Result Answered Refusal) → m ≡ raised n (refusals answer) → m ≡ raised n (length (filter is_refused (entries_with tick seat reading call answer)))
post_refusals_count tick n m seat reading call answer is = is ∙ ap (raised n) (step_refusals tick seat reading call answer)

-- of one that was made
pub step_numbers : (old mid new : Report) (l : Log) (tick : Option ℕ) (seat reading : ℕ) (call : Call) (answer : Result Answered Refusal) → ◌≡◌ {A = Report} mid (record old { changing = raised old.changing (length (changing l (entries_with tick seat reading call answer))) })
    → new.entries ≡ raised mid.entries (1 + length (tick_events tick)) → new.changing ≡ mid.changing → new.refused ≡ raised mid.refused (refusals answer) → new ≡ with_entries old l (entries_with tick seat reading call answer)
step_numbers old mid new l tick seat reading call answer first entries changed refused =
    made_numbers old mid new l (entries_with tick seat reading call answer) first (post_entries_count tick mid.entries new.entries seat reading call answer entries) changed (post_refusals_count tick mid.refused new.refused seat reading call answer refused)

-- of one that was answered by a fault, with no tick
pub fault_numbers : (old new : Report) (l : Log) (seat reading : ℕ) (call : Call) (e : Refusal) → is_fault (Err e) ≡ true → new.entries ≡ raised old.entries 1 → new.changing ≡ old.changing → new.refused ≡ raised old.refused 1
    → new ≡ with_entries old l (entries_with None seat reading call (Err e))
fault_numbers old new l seat reading call e fault entries changed refused = still_numbers old new l (entries_with None seat reading call (Err e)) (rw fault refl) entries changed refused

-- ---- of a history that goes on

pub after_on : (l : Log) (h es : List Entry) → after_entries l (h ++ es) ≡ after_entries (after_entries l h) es
after_on l [] es = refl
after_on l (e ∷ h) es = after_on (after_entry l e) h es

pub changing_on : (l : Log) (h es : List Entry) → changing l (h ++ es) ≡ changing l h ++ changing (after_entries l h) es
changing_on l [] es = refl
changing_on l (Ticked seat t ∷ h) es = ap (λ (z : List Event). Tick t ∷ z) (changing_on (after_entry l (Ticked seat t)) h es)
changing_on l (Replied seat reading call answer ∷ h) es =
    let own : List Event = if is_machine l reading answer then event_of (moment_of l.state reading) call (outcome_of l.state (moment_of l.state reading) call) else [] in
    let next = after_entry l (Replied seat reading call answer) in
    ap (λ (z : List Event). own ++ z) (changing_on next h es) ∙ sym (append_assoc own (changing next h) (changing (after_entries next h) es))

pub numbers_on : (start : State) (h es : List Entry) (l : Log) (r new : Report) → l ≡ settled (after_entries (fresh_log start) h) → IsReport start h r → new ≡ with_entries r l es → IsReport start (h ++ es) new
numbers_on start h es l r new at is same = record {
  entries = ap (λ (x : Report). x.entries) same ∙ raised_counted r.entries (length h) (length es) is.entries ∙ ap counted (sym (length-append h es));
  changing =
      ap (λ (x : Report). x.changing) same
      ∙ ap (λ (x : Log). raised r.changing (length (changing x es))) at
      ∙ ap (λ (x : List Event). raised r.changing (length x)) (changing_settled (after_entries (fresh_log start) h) es)
      ∙ raised_counted r.changing (length (changing (fresh_log start) h)) (length (changing (after_entries (fresh_log start) h) es)) is.changing
      ∙ ap counted (sym (length-append (changing (fresh_log start) h) (changing (after_entries (fresh_log start) h) es)) ∙ ap length (sym (changing_on (fresh_log start) h es)));
  refused =
      ap (λ (x : Report). x.refused) same
      ∙ raised_counted r.refused (length (filter is_refused h)) (length (filter is_refused es)) is.refused
      ∙ ap counted (sym (length-append (filter is_refused h) (filter is_refused es)) ∙ ap length (sym (filter-append is_refused h es)));
}
