-- A namespace goes on by one entry.
use Rattle.std.proofs.Common.{◌≡◌, ℕ, ◌+◌, List, [], ◌∷◌, ◌++◌, length, filter, true, false, true≢false, is_some, Option, Some, None, Result, Ok, Err, refl, sym, ap, ◌∙◌, subst, arith, length-append, append_assoc}
use Rattle.std.proofs.lemmas.List.Elements.{filter-append}
use Rattle.std.specs.Prelude.{if◌then◌else◌}
use Rattle.sb_machine.specs.Accounts.{changing, event_of, is_machine}
use Rattle.sb_machine.specs.Answers.{moment_of}
use Rattle.sb_machine.specs.History.{Log, fresh_log, after_entry, after_entries, IsAllowed, IsLegalFrom}
use Rattle.sb_machine.specs.Namespace.{empty_state}
use Rattle.sb_machine.specs.Repeats.{outcome_of}
use Rattle.sb_machine.specs.declared.call.Call.{Call}
use Rattle.sb_machine.specs.declared.call.Event.{Event}
use Rattle.sb_machine.specs.declared.call.Event.TheVariants.{Tick}
use Rattle.sb_machine.specs.declared.history.Entry.{Entry}
use Rattle.sb_machine.specs.declared.history.Entry.TheVariants.{Ticked, Answered as Replied}
use Rattle.sb_machine.specs.declared.reply.Answered.{Answered}
use Rattle.sb_machine.specs.declared.reply.Answered.TheVariants.{New}
use Rattle.sb_machine.specs.declared.reply.Refusal.{Refusal}
use Rattle.sb_machine.specs.declared.reply.Refusal.TheVariants.{EntityExists, OutOfMemory}
use Rattle.sb_machine.specs.declared.reply.Reply.TheVariants.{Done}
use Rattle.sb_machine.specs.declared.state.State.{State}
use Rattle.sb_desk.specs.Entries.{is_refused, counted}
use Rattle.sb_desk.specs.declared.report.Report.{Report}
use Rattle.sb_desk.specs.Spared.{SparesFrom}
use Rattle.sb_desk.proofs.Sparing.{spares_on}
use Rattle.sb_desktests.specs.Namespaces.{creation, none_spared, state_at, StandsFor, GoesOn}

after_append : (l : Log) (h es : List Entry) → after_entries l (h ++ es) ≡ after_entries (after_entries l h) es
after_append l [] es = refl
after_append l (e ∷ h) es = after_append (after_entry l e) h es

legal_append : (l : Log) (h es : List Entry) → IsLegalFrom l h → IsLegalFrom (after_entries l h) es → IsLegalFrom l (h ++ es)
legal_append l [] es legal more = more
legal_append l (e ∷ h) es legal more = (legal.0, legal_append (after_entry l e) h es legal.1 more)

changing_append : (l : Log) (h es : List Entry) → changing l (h ++ es) ≡ changing l h ++ changing (after_entries l h) es
changing_append l [] es = refl
changing_append l (Ticked seat t ∷ h) es = ap (λ (z : List Event). Tick t ∷ z) (changing_append (after_entry l (Ticked seat t)) h es)
changing_append l (Replied seat reading call answer ∷ h) es =
    let own : List Event = if is_machine l reading answer then event_of (moment_of l.state reading) call (outcome_of l.state (moment_of l.state reading) call) else [] in
    let next = after_entry l (Replied seat reading call answer) in
    ap (λ (z : List Event). own ++ z) (changing_append next h es) ∙ sym (append_assoc own (changing next h) (changing (after_entries next h) es))

-- whatever an entry says
unspared : (l : Log) (e : Entry) → SparesFrom none_spared l (e ∷ [])
unspared l (Ticked seat t) = tt
unspared l (Replied seat reading call answer) = ((λ is. absurd (true≢false (sym is))), tt)

-- one entry more, and its numbers
adds : (made made' : Option ℕ) (n n' : Report) (from : State) (h : List Entry) (e : Entry) → IsAllowed (fresh_log (state_at made)) e → after_entry (fresh_log (state_at made)) e ≡ fresh_log (state_at made')
    → n'.entries ≡ counted (n.entries + 1) → n'.changing ≡ counted (n.changing + length (changing (fresh_log (state_at made)) (e ∷ []))) → n'.refused ≡ counted (n.refused + length (filter is_refused (e ∷ [])))
    → StandsFor made n from h → StandsFor made' n' from (h ++ e ∷ [])
adds made made' n n' from h e allowed next entries changed refused s = record {
  consistent = s.consistent;
  legal = legal_append (fresh_log from) h (e ∷ []) s.legal (subst (λ (l : Log). IsLegalFrom l (e ∷ [])) (sym s.state) (allowed, ap (λ (l : Log). l.tick) next));
  spares = spares_on none_spared (fresh_log from) h (e ∷ []) s.spares (unspared (after_entries (fresh_log from) h) e);
  state = after_append (fresh_log from) h (e ∷ []) ∙ (ap (λ (l : Log). after_entry l e) s.state ∙ next);
  counted = record {
    entries = omega (arith, entries, s.counted.entries, length-append h (e ∷ []));
    changing = omega (arith, changed, s.counted.changing, ap length (changing_append (fresh_log from) h (e ∷ [])), length-append (changing (fresh_log from) h) (changing (after_entries (fresh_log from) h) (e ∷ [])), ap (λ (l : Log). length (changing l (e ∷ []))) s.state);
    refused = omega (arith, refused, s.counted.refused, ap length (filter-append is_refused h (e ∷ [])), length-append (filter is_refused h) (filter is_refused (e ∷ [])));
  };
}

-- the queue is made
pub makes : (n n' : Report) (made : Option ℕ) (reading t : ℕ) (call : Call) → is_some made ≡ false → call ≡ creation → t ≡ moment_of (empty_state 0) reading
    → n'.entries ≡ counted (n.entries + 1) → n'.changing ≡ counted (n.changing + 1) → n'.refused ≡ n.refused → GoesOn made n reading call (Ok (New Done)) (Some t) n'
makes n n' (Some t') reading t call none is at entries changed refused seat from h s = absurd (true≢false none)
makes n n' None reading t call none is at entries changed refused seat from h s =
    let few = s.counted.refused in
    subst (λ (z : ℕ × Call). StandsFor (Some z.0) n' from (h ++ Replied seat reading z.1 (Ok (New Done)) ∷ [])) (λ i. (sym at i, sym is i))
    (adds None (Some (moment_of (empty_state 0) reading)) n n' from h (Replied seat reading creation (Ok (New Done))) (tt, λ fine. refl) refl entries changed (omega (arith, refused, few)) s)

-- it was made before
pub exists : (n n' : Report) (made made' : Option ℕ) (reading : ℕ) (call : Call) (answer : Result Answered Refusal) → is_some made ≡ true → call ≡ creation → answer ≡ Err EntityExists → made' ≡ made
    → n'.entries ≡ counted (n.entries + 1) → n'.changing ≡ n.changing → n'.refused ≡ counted (n.refused + 1) → GoesOn made n reading call answer made' n'
exists n n' None made' reading call answer there is refuses same entries changed refused seat from h s = absurd (true≢false (sym there))
exists n n' (Some t) made' reading call answer there is refuses same entries changed refused seat from h s =
    let few = s.counted.changing in
    subst (λ (z : Call × Result Answered Refusal × Option ℕ). StandsFor z.2 n' from (h ++ Replied seat reading z.0 z.1 ∷ [])) (λ i. (sym is i, sym refuses i, sym same i))
    (adds (Some t) (Some t) n n' from h (Replied seat reading creation (Err EntityExists)) (tt, λ fine. refl) refl entries (omega (arith, changed, few)) refused s)

-- memory is wanting
pub wants : (n n' : Report) (made made' : Option ℕ) (reading : ℕ) (call : Call) (answer : Result Answered Refusal) → answer ≡ Err OutOfMemory → made' ≡ made
    → n'.entries ≡ counted (n.entries + 1) → n'.changing ≡ n.changing → n'.refused ≡ counted (n.refused + 1) → GoesOn made n reading call answer made' n'
wants n n' made made' reading call answer refuses same entries changed refused seat from h s =
    let few = s.counted.changing in
    subst (λ (z : Result Answered Refusal × Option ℕ). StandsFor z.1 n' from (h ++ Replied seat reading call z.0 ∷ [])) (λ i. (sym refuses i, sym same i))
    (adds made made n n' from h (Replied seat reading call (Err OutOfMemory)) (tt, λ fine. absurd (true≢false fine)) refl entries (omega (arith, changed, few)) refused s)
