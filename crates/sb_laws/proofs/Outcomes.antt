-- What a call comes to: it is refused, it repeats the reply that is kept, its act is accepted, or a client is forgotten.
use Rattle.std.proofs.Common.{Bool, List, None, Option, Some, [], arith, false, length, nat_lt, not, refl, subst, sym, true, ℕ, ◌&&◌, ◌<◌, ◌==◌, ◌≡◌, ◌≤◌}
use Rattle.std.proofs.lemmas.Bool.Decides.{nat_tests}
use Rattle.std.specs.Prelude.{bytes_eq, codes, if◌then◌else◌, is_some}
use Rattle.sb_laws.proofs.Rows.{Of, answered_so, implied, of_numbered, refused_so, refusing}
use Rattle.sb_laws.proofs.Uniting.{Does, does, does_one}
use Rattle.sb_laws.proofs.Ways.{NoFault, Way, tells}
use Rattle.sb_machine.specs.Acts.{act_row, bad_call, is_via_in, row_of}
use Rattle.sb_machine.specs.Answers.{answer_in, answer_of, is_change, keeping, max_moment, moment_of, state_in, state_of}
use Rattle.sb_machine.specs.Changes.{after_all, is_numbered}
use Rattle.sb_machine.specs.Fields.{Key, bad_field, bad_part, bad_in_act, bad_in_by, first_some, is_client_name, is_number, takes_number, unless}
use Rattle.sb_machine.specs.History.{is_fault}
use Rattle.sb_machine.specs.Repeats.{Outcome, acted, by_number, client_of, clients_shown, for_client, forgot, kept_for, max_clients, of_answer, of_row, outcome_of, refused, repeated}
use Rattle.sb_machine.specs.Rows.{Row, answers, numbered, refused_by, refuses}
use Rattle.sb_machine.specs.Same.{same_act}
use Rattle.sb_machine.specs.declared.call.Act.{Act}
use Rattle.sb_machine.specs.declared.call.Act.TheVariants.{ForgetClient, Look}
use Rattle.sb_machine.specs.declared.call.By.{By}
use Rattle.sb_machine.specs.declared.call.Call.{Call}
use Rattle.sb_machine.specs.declared.change.Change.{Change}
use Rattle.sb_machine.specs.declared.look.Look.TheVariants as look
use Rattle.sb_machine.specs.declared.look.View.TheVariants as seen
use Rattle.sb_machine.specs.declared.reply.PartRefusal.TheVariants as why
use Rattle.sb_machine.specs.declared.reply.Refusal.{Refusal}
use Rattle.sb_machine.specs.declared.reply.Refusal.TheVariants.{BadCall, ClientNotFound, ClientsFull, Exhausted, InPart, NumberReused, StaleNumber}
use Rattle.sb_machine.specs.declared.reply.Reply.{Reply}
use Rattle.sb_machine.specs.declared.reply.Reply.TheVariants.{Done, Seen}
use Rattle.sb_machine.specs.declared.state.Kept.{Kept}
use Rattle.sb_machine.specs.declared.state.Space.{Space}
use Rattle.sb_machine.specs.declared.state.State.{State}

-- its fields are in range, its numbers fit, and it is accepted
pub record Fits (s : Space) (t : ℕ) (by : Option By) (act : Act) (reply : Reply) (cs : List Change) : Type 0 where
  pub fields : bad_field (is_via_in s act) act by ≡ None
  pub numbers : is_numbered t cs s ≡ true
  pub does : Does s t act reply cs

bad_key : (part : Option ℕ) (key : Key) (r : Refusal) → bad_call part key ≡ Some r → NoFault r
bad_key part None r e = absurd cc
bad_key None (Some key) r e = let it : BadCall key ≡ r = cc in subst NoFault it refl
bad_key (Some i) (Some key) r e = let it : InPart i (why.BadCall key) ≡ r = cc in subst NoFault it refl

pub no_key : (part : Option ℕ) (key : Key) → bad_call part key ≡ None → key ≡ None
no_key part None e = refl
no_key part (Some key) e = absurd cc

pub row_fits : (s : Space) (t : ℕ) (by : Option By) (act : Act) → Of NoFault (Fits s t by act) (row_of s t by act)
row_fits s t by act =
    of_numbered t s NoFault (λ reply cs. (bad_field (is_via_in s act) act by ≡ None) × Does s t act reply cs) (Fits s t by act) (refused_by (bad_call (bad_part act) (bad_field (is_via_in s act) act by)) (act_row s t act)) refl
    (λ reply cs is h. record { fields = h.0; numbers = is; does = h.1 })
    (refusing (bad_call (bad_part act) (bad_field (is_via_in s act) act by)) (act_row s t act) (bad_key (bad_part act) (bad_field (is_via_in s act) act by))
    (λ none. implied (Does s t act) (λ reply cs. (bad_field (is_via_in s act) act by ≡ None) × Does s t act reply cs) (λ reply cs so. (no_key (bad_part act) (bad_field (is_via_in s act) act by) none, so)) (does s t act)))

-- by whom an act is accepted: by nobody with a number, by a client that has none yet, or with a number above the one that is kept
pub data IsNewer (clients : List Kept) : Option By → Type 0 where
  unnumbered : IsNewer clients None
  first_of : (by : By) → kept_for by.client clients ≡ None → nat_lt (length clients) max_clients ≡ true → IsNewer clients (Some by)
  later_of : (by : By) (k : Kept) → kept_for by.client clients ≡ Some k → k.number < by.number → IsNewer clients (Some by)

pub data Comes (s : State) (t : ℕ) (call : Call) : Outcome → Type 0 where
  comes_refused : {r : Refusal} → NoFault r → Comes s t call (refused r)
  comes_repeated : {reply : Reply} → Comes s t call (repeated reply)
  comes_acted : {reply : Reply} {cs : List Change} → IsNewer s.clients (client_of call) → Fits s.space t call.by call.act reply cs → Comes s t call (acted reply cs)
  comes_forgot : {name : List ℕ} → call.act ≡ ForgetClient name → IsNewer s.clients (client_of call) → Fits s.space t call.by call.act Done [] → Comes s t call (forgot name)

above_number : (m n : ℕ) → nat_lt n m ≡ false → (n == m) ≡ false → m < n
above_number m n low same = grind (arith, nat_tests)

-- a row that changes nothing is accepted without changes
told_plainly : (t : ℕ) (s : Space) (o : Option Refusal) (q reply : Reply) (cs : List Change) → numbered t s (refused_by o (answers q [])) ≡ answers reply cs → cs ≡ []
told_plainly t s (Some r) q reply cs e = absurd cc
told_plainly t s None q reply cs e = at (is_numbered t [] s) e where
  at : (b : Bool) → (if b then answers q [] else refuses Exhausted) ≡ answers reply cs → cs ≡ []
  at true e = cc
  at false e = absurd cc

-- the same fields, where another reply is told and nothing changes
fits_plainly : (s : Space) (t : ℕ) (by : Option By) (act : Act) (reply told : Reply) (cs : List Change) → cs ≡ [] → Way s t act told [] → Fits s t by act reply cs → Fits s t by act told []
fits_plainly s t by act reply told cs none way fits = record { fields = fits.fields; numbers = subst (λ (l : List Change). is_numbered t l s ≡ true) none fits.numbers; does = does_one way }

-- an accepted act comes to what its row says, but where clients are looked at or forgotten
module _ (s : State) (t : ℕ) (call : Call) (newer : IsNewer s.clients (client_of call)) where
  accepted : (act : Act) → call.act ≡ act → (reply : Reply) (cs : List Change) → row_of s.space t call.by act ≡ answers reply cs → Fits s.space t call.by call.act reply cs → Comes s t call (of_answer s.clients act reply cs)
  accepted (ForgetClient name) is reply cs row fits = at (is_some (kept_for name s.clients)) where
    at : (b : Bool) → Comes s t call (if b then forgot name else refused ClientNotFound)
    at true = comes_forgot is newer (fits_plainly s.space t call.by call.act reply Done cs (told_plainly t s.space _ Done reply cs row) (subst (λ (act : Act). Way s.space t act Done []) (sym is) (tells (λ numbered. tt))) fits)
    at false = comes_refused refl
  accepted (Look (look.Clients after count)) is reply cs row fits =
      let shown : Reply = Seen (seen.Clients (clients_shown after count s.clients)) in
      let none : cs ≡ [] = told_plainly t s.space _ (Seen (seen.Clients [])) reply cs row in
      comes_acted newer (subst (Fits s.space t call.by call.act shown) (sym none) (fits_plainly s.space t call.by call.act reply shown cs none (subst (λ (act : Act). Way s.space t act shown []) (sym is) (tells (λ numbered. absurd cc))) fits))
  accepted (Look what) is reply cs row fits = comes_acted newer fits
  accepted act is reply cs row fits = comes_acted newer fits

pub comes : (s : State) (t : ℕ) (call : Call) → Comes s t call (outcome_of s t call)
comes s t call = at (client_of call) refl where
  acting : (by : Option By) → client_of call ≡ by → IsNewer s.clients by → Comes s t call (of_row s.clients call.act (row_of s.space t call.by call.act))
  acting by is newer = of (row_of s.space t call.by call.act) refl (row_fits s.space t call.by call.act) where
    of : (row : Row) → row_of s.space t call.by call.act ≡ row → Of NoFault (Fits s.space t call.by call.act) row → Comes s t call (of_row s.clients call.act row)
    of (refuses r) same (refused_so h) = comes_refused h
    of (answers reply cs) same (answered_so h) = accepted s t call (subst (IsNewer s.clients) (sym is) newer) call.act refl reply cs same h

  at : (by : Option By) → client_of call ≡ by → Comes s t call (for_client by call.act s.clients (of_row s.clients call.act (row_of s.space t call.by call.act)))
  at None is = acting None is unnumbered
  at (Some by) is = on (kept_for by.client s.clients) refl where
    on : (o : Option Kept) → kept_for by.client s.clients ≡ o → Comes s t call (by_number by call.act s.clients o (of_row s.clients call.act (row_of s.space t call.by call.act)))
    on None none = room (nat_lt (length s.clients) max_clients) refl where
      room : (b : Bool) → nat_lt (length s.clients) max_clients ≡ b → Comes s t call (if b then of_row s.clients call.act (row_of s.space t call.by call.act) else refused ClientsFull)
      room true few = acting (Some by) is (first_of by none few)
      room false few = comes_refused refl
    on (Some k) there = low (nat_lt by.number k.number) refl where
      low : (b : Bool) → nat_lt by.number k.number ≡ b → Comes s t call (if b then refused (StaleNumber k.number) else (if by.number == k.number then (if same_act k.act call.act then repeated k.reply else refused NumberReused) else of_row s.clients call.act (row_of s.space t call.by call.act)))
      low true lower = comes_refused refl
      low false lower = same (by.number == k.number) refl where
        alike : (b : Bool) → Comes s t call (if b then repeated k.reply else refused NumberReused)
        alike true = comes_repeated
        alike false = comes_refused refl

        same : (b : Bool) → (by.number == k.number) ≡ b → Comes s t call (if b then (if same_act k.act call.act then repeated k.reply else refused NumberReused) else of_row s.clients call.act (row_of s.space t call.by call.act))
        same true equal = alike (same_act k.act call.act)
        same false equal = acting (Some by) is (later_of by k there (above_number k.number by.number lower equal))

-- ---- a client that is forgotten

-- a client's numbered call forgets another client
pub forgets_another : (s : Space) (t : ℕ) (call : Call) (name : List ℕ) (reply : Reply) (cs : List Change) → call.act ≡ ForgetClient name → Fits s t call.by call.act reply cs → (b : By) → client_of call ≡ Some b → bytes_eq name b.client ≡ false
forgets_another s t call name reply cs is fits b who = apart (bytes_eq name b.client) (second (unless (is_client_name name) (codes "name")) _ judged) where
  by_is : call.by ≡ Some b
  by_is = subst (λ (act : Act). (if takes_number act then call.by else None) ≡ Some b) is who

  judged : first_some (bad_in_act (is_via_in s (ForgetClient name)) (ForgetClient name)) (bad_in_by (ForgetClient name) (Some b)) ≡ None
  judged = subst (λ (by : Option By). bad_field (is_via_in s (ForgetClient name)) (ForgetClient name) by ≡ None) by_is (subst (λ (act : Act). bad_field (is_via_in s act) act call.by ≡ None) is fits.fields)

  second : (a o : Key) → first_some a o ≡ None → o ≡ None
  second None o e = e
  second (Some key) o e = absurd cc

  apart : (c : Bool) → first_some (unless (not c) (codes "name")) (first_some (unless (takes_number (ForgetClient name) && is_client_name b.client) (codes "client")) (unless (is_number b.number) (codes "number"))) ≡ None → c ≡ false
  apart true e = absurd cc
  apart false e = refl

-- what is forgotten was asked for
pub forgot_act : (s : State) (t : ℕ) (call : Call) (name : List ℕ) → outcome_of s t call ≡ forgot name → call.act ≡ ForgetClient name
forgot_act s t call name is = by (subst (Comes s t call) is (comes s t call)) where
  by : Comes s t call (forgot name) → call.act ≡ ForgetClient name
  by (comes_forgot asked newer fits) = asked

-- ---- what follows for every call

no_fault_of : (s : State) (t : ℕ) (call : Call) (o : Outcome) → Comes s t call o → is_fault (answer_in o) ≡ false
no_fault_of s t call (refused r) (comes_refused h) = h
no_fault_of s t call (repeated reply) h = refl
no_fault_of s t call (acted reply cs) h = refl
no_fault_of s t call (forgot name) h = refl

pub answers_no_fault : (s : State) (t : ℕ) (call : Call) → is_fault (answer_of s t call) ≡ false
answers_no_fault s t call = no_fault_of s t call (outcome_of s t call) (comes s t call)

now_in : (s : State) (t : ℕ) (call : Call) (o : Outcome) → s.now ≤ t → t ≤ max_moment → (s.now ≤ (state_in s t call o).now) × ((state_in s t call o).now ≤ max_moment)
now_in s t call (refused r) le most = (omega arith, omega arith)
now_in s t call (repeated reply) le most = (omega arith, omega arith)
now_in s t call (forgot name) le most = (le, most)
now_in s t call (acted reply cs) le most = go (is_change (client_of call) (acted reply cs)) where
  go : (b : Bool) → (s.now ≤ (if b then record { now = t; clients = keeping (client_of call) call.act reply s.clients; space = after_all t cs s.space } else s).now) × ((if b then record { now = t; clients = keeping (client_of call) call.act reply s.clients; space = after_all t cs s.space } else s).now ≤ max_moment)
  go true = (le, most)
  go false = (omega arith, omega arith)

pub keeps_time : (s : State) (reading : ℕ) (call : Call) → s.now ≤ max_moment → (s.now ≤ (state_of s (moment_of s reading) call).now) × ((state_of s (moment_of s reading) call).now ≤ max_moment)
keeps_time s reading call early = now_in s (moment_of s reading) call (outcome_of s (moment_of s reading) call) (omega arith) (omega arith)
