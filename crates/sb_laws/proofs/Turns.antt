-- Operations that act together leave the namespace that the acts leave for which they stand.
use Rattle.std.proofs.Common.{List, None, Option, Some, [], ap, append_assoc, map, refl, subst, sym, true, ℕ, ◌++◌, ◌+◌, ◌∙◌, ◌∷◌, ◌≡◌}
use Rattle.sb_laws.proofs.Answered.{accepted_so, answered_in, row_goes}
use Rattle.sb_laws.proofs.Consistency.{first_none}
use Rattle.sb_laws.proofs.Running.{begun, fills_lead, in_range, number, number_named, numbered_parts, parts, united_leads}
use Rattle.sb_laws.proofs.Sweeps.{after_append}
use Rattle.sb_laws.proofs.Uniting.{Fills, Unites, fills_none, fills_one, together_so}
use Rattle.sb_laws.proofs.Ways.{NoFault}
use Rattle.sb_laws.specs.InTurn.{act_of, behind_acts, behind_row, filled_by, stands_for}
use Rattle.sb_machine.specs.Acts.{act_row, is_via_in, row_of}
use Rattle.sb_machine.specs.Changes.{after, after_all, is_numbered}
use Rattle.sb_machine.specs.Fields.{bad_field, bad_part, bad_in_act, bad_in_by, bad_in_step, bad_in_steps, bad_in_together, is_number}
use Rattle.sb_machine.specs.Queueing.{txn_life}
use Rattle.sb_machine.specs.Rows.{Row, answers}
use Rattle.sb_machine.specs.Together.{together_row}
use Rattle.sb_machine.specs.declared.call.Act.{Act}
use Rattle.sb_machine.specs.declared.call.Act.TheVariants.{Begin, Commit, Together}
use Rattle.sb_machine.specs.declared.call.By.{By}
use Rattle.sb_machine.specs.declared.call.Path.{Path}
use Rattle.sb_machine.specs.declared.call.Step.{Step}
use Rattle.sb_machine.specs.declared.change.Change.{Change}
use Rattle.sb_machine.specs.declared.change.Change.TheVariants.{Begins}
use Rattle.sb_machine.specs.declared.reply.Reply.TheVariants.{Begun}
use Rattle.sb_machine.specs.declared.reply.Reply.{Reply}
use Rattle.sb_machine.specs.declared.state.Space.{Space}

-- a call without a client comes to what its act's row says
call_row : (s : Space) (t : ℕ) (act : Act) (reply : Reply) (cs : List Change) → bad_in_act (is_via_in s act) act ≡ None → is_numbered t cs s ≡ true → act_row s t act ≡ answers reply cs → row_of s t None act ≡ answers reply cs
call_row s t act reply cs good numbers is = row_goes s t (bad_part act) (bad_field (is_via_in s act) act None) (act_row s t act) reply cs (rw good refl) is numbers

-- behind operations that were accepted one behind another, the acts that follow find what they left
fills_behind : (t n : ℕ) (more : List Act) (xs : List Step) (s : Space) (cs ds : List Change) (later : Space) → is_number n ≡ true → bad_in_steps xs ≡ None → is_numbered t (cs ++ ds) s ≡ true → Fills t n xs s cs later
    → (behind_acts t (map (act_of n) xs ++ more) s ≡ behind_acts t more later) × (is_numbered t ds later ≡ true)
fills_behind t n more _ s _ ds _ number good numbers fills_none = (refl, numbers)
fills_behind t n more _ s _ ds later number good numbers (fills_one {x = x} {xs = xs} {reply = reply} {cs = c1} {ds = c2} h rest) =
    let parts = numbered_parts t c1 (c2 ++ ds) s (subst (λ (l : List Change). is_numbered t l s ≡ true) (append_assoc c1 c2 ds) numbers) in
    let fine = first_none (bad_in_step x) (bad_in_steps xs) good in
    let row = call_row s t (act_of n x) reply c1 (in_range t n s x number fine.0 h.messages) parts.0 h.row in
    let behind = fills_behind t n more xs (after_all t c1 s) c2 ds later number fine.1 parts.1 rest in
    (ap (λ (r : Row). behind_row t s r (behind_acts t (map (act_of n) xs ++ more))) row ∙ behind.0, behind.1)

module _ (s : Space) (t : ℕ) (path : Path) (steps : List Step) (reply : Reply) (cs : List Change) (u : Unites s t path steps reply cs) (good : bad_in_together path steps ≡ None) (numbers : is_numbered t cs s ≡ true) where
  united_behind : behind_acts t (stands_for s path steps) s ≡ Some (after_all t cs s)
  united_behind =
      let n = s.last_txn + 1 in
      let first = Begins u.entity.about.number (t + txn_life) in
      let f = u.filled in
      let fits = parts s t path steps reply cs u good numbers in
      let counted = begun s t path steps reply cs u good numbers in
      let begin = call_row s t (Begin path) (Begun (s.last_txn + 1)) (first ∷ []) fits.0 counted.0 u.row in
      let filled = fills_behind t n (Commit n ∷ []) steps (after t first s) f.filled f.done f.later (number s t path steps reply cs u good numbers) fits.1 counted.1 f.fills in
      let commit = call_row f.later t (Commit n) f.answer f.done (number_named s t path steps reply cs u good numbers) filled.1 f.commits.row in
      let whole : after_all t f.done f.later ≡ after_all t cs s =
      ap (after_all t f.done) (sym (fills_lead t n steps (after t first s) f.filled f.later f.fills)) ∙ sym (after_append t f.filled f.done (after t first s)) ∙ united_leads s t path steps reply cs u in
      ap (λ (r : Row). behind_row t s r (behind_acts t (filled_by n steps))) begin ∙ filled.0 ∙ ap (λ (r : Row). behind_row t f.later r (behind_acts t [])) commit ∙ ap (λ (later : Space). Some later) whole

pub act_in_turn : (s : Space) (t : ℕ) (by : Option By) (path : Path) (steps : List Step) (reply : Reply) (cs : List Change) → row_of s t by (Together path steps) ≡ answers reply cs → behind_acts t (stands_for s path steps) s ≡ Some (after_all t cs s)
act_in_turn s t by path steps reply cs is =
    let so = accepted_so s t by (Together path steps) reply cs is in
    let good = (first_none (bad_in_together path steps) (bad_in_by (Together path steps) by) so.fields).0 in
    united_behind s t path steps reply cs (answered_in NoFault (Unites s t path steps) (together_row s t path steps) reply cs (together_so s t path steps) so.row) good so.numbers
