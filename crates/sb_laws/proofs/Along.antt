-- What each change keeps, a history keeps.
use Rattle.std.proofs.Common.{Bool, List, None, Option, Some, [], ap, append_assoc, arith, false, inl, inr, not, refl, subst, sym, true, ℕ, ◌&&◌, ◌++◌, ◌∙◌, ◌∷◌, ◌≡◌, ◌≤◌}
use Rattle.std.proofs.lemmas.List.{append-nil}
use Rattle.std.specs.Prelude.{if◌then◌else◌, ◌⊎◌}
use Rattle.sb_machine.specs.Accounts.{entry_changes, moment_in, over}
use Rattle.sb_machine.specs.Answers.{changes_of, is_change, keeping, moment_of, state_in, state_of}
use Rattle.sb_machine.specs.Changes.{after, after_all, along}
use Rattle.sb_machine.specs.Due.{is_due}
use Rattle.sb_machine.specs.Each.{Each}
use Rattle.sb_machine.specs.History.{IsAllowed, IsLegalFrom, Log, after_entries, after_entry, is_fault}
use Rattle.sb_machine.specs.Repeats.{Outcome, acted, client_of, forgot, outcome_of, refused, repeated}
use Rattle.sb_machine.specs.declared.call.By.{By}
use Rattle.sb_machine.specs.declared.call.Call.{Call}
use Rattle.sb_machine.specs.declared.change.Change.{Change}
use Rattle.sb_machine.specs.declared.history.Entry.{Entry}
use Rattle.sb_machine.specs.declared.history.Entry.TheVariants.{Ticked, Answered as Replied}
use Rattle.sb_machine.specs.declared.state.Space.{Space}
use Rattle.sb_machine.specs.declared.state.State.{State}

-- ---- along two lists of changes

pub along_append : {X : Type 0} (f : ℕ → Change → Space → List X) (t : ℕ) (cs ds : List Change) (s : Space) → along f t (cs ++ ds) s ≡ along f t cs s ++ along f t ds (after_all t cs s)
along_append f t [] ds s = refl
along_append {X = X} f t (c ∷ cs) ds s =
    let later = after t c s in
    ap (λ (xs : List X). f t c s ++ xs) (along_append f t cs ds later) ∙ sym (append_assoc (f t c s) (along f t cs later) (along f t ds (after_all t cs later)))

-- ---- an entry leads to the namespace behind its changes

space_in : (s : State) (t : ℕ) (call : Call) (o : Outcome) → (state_in s t call o).space ≡ after_all t (changes_of o) s.space
space_in s t call (refused r) = refl
space_in s t call (repeated reply) = refl
space_in s t call (forgot name) = refl
space_in s t call (acted reply cs) = by (client_of call) cs where
  by : (o : Option By) (cs : List Change) → (if is_change o (acted reply cs) then record { now = t; clients = keeping o call.act reply s.clients; space = after_all t cs s.space } else s).space ≡ after_all t cs s.space
  by None [] = refl
  by None (c ∷ cs) = refl
  by (Some b) cs = refl

pub space_after : (l : Log) (e : Entry) → (after_entry l e).state.space ≡ after_all (moment_in l e) (entry_changes l e) l.state.space
space_after l (Ticked seat t) = refl
space_after l (Replied seat reading call answer) = at (is_fault answer) (is_due (moment_of l.state reading) l.state.space) where
  at : (f d : Bool) → (if f then l.state else (if d then l.state else state_of l.state (moment_of l.state reading) call)).space
      ≡ after_all (moment_of l.state reading) (if not f && not d then changes_of (outcome_of l.state (moment_of l.state reading) call) else []) l.state.space
  at true d = refl
  at false true = refl
  at false false = space_in l.state (moment_of l.state reading) call (outcome_of l.state (moment_of l.state reading) call)

-- ---- time behind an entry: it changed nothing, or this is its moment

abbrev IsTime : Log → Entry → Type 0
IsTime l e = ((entry_changes l e ≡ []) × ((after_entry l e).state.now ≡ l.state.now)) ⊎ ((after_entry l e).state.now ≡ moment_in l e)

time_in : (s : State) (t : ℕ) (call : Call) (o : Outcome) → ((changes_of o ≡ []) × ((state_in s t call o).now ≡ s.now)) ⊎ ((state_in s t call o).now ≡ t)
time_in s t call (refused r) = inl (refl, refl)
time_in s t call (repeated reply) = inl (refl, refl)
time_in s t call (forgot name) = inr refl
time_in s t call (acted reply cs) = by (client_of call) cs where
  by : (o : Option By) (cs : List Change) → ((cs ≡ []) × ((if is_change o (acted reply cs) then record { now = t; clients = keeping o call.act reply s.clients; space = after_all t cs s.space } else s).now ≡ s.now))
      ⊎ ((if is_change o (acted reply cs) then record { now = t; clients = keeping o call.act reply s.clients; space = after_all t cs s.space } else s).now ≡ t)
  by None [] = inl (refl, refl)
  by None (c ∷ cs) = inr refl
  by (Some b) cs = inr refl

time_after : (l : Log) (e : Entry) → IsTime l e
time_after l (Ticked seat t) = inr refl
time_after l (Replied seat reading call answer) = at (is_fault answer) (is_due (moment_of l.state reading) l.state.space) where
  at : (f d : Bool) → (((if not f && not d then changes_of (outcome_of l.state (moment_of l.state reading) call) else []) ≡ []) × ((if f then l.state else (if d then l.state else state_of l.state (moment_of l.state reading) call)).now ≡ l.state.now))
      ⊎ ((if f then l.state else (if d then l.state else state_of l.state (moment_of l.state reading) call)).now ≡ moment_of l.state reading)
  at true d = inl (refl, refl)
  at false true = inl (refl, refl)
  at false false = time_in l.state (moment_of l.state reading) call (outcome_of l.state (moment_of l.state reading) call)

-- no entry lies before the moment that has come
pub moment_later : (l : Log) (e : Entry) → IsAllowed l e → l.state.now ≤ moment_in l e
moment_later l (Ticked seat t) allowed = allowed.2.0
moment_later l (Replied seat reading call answer) allowed = omega arith

-- ---- a fact of the namespace, and of a list that is read off the changes so far

pub kept_along : {X : Type 0} (f : ℕ → Change → Space → List X) (F : Space → List X → Type 0) (t : ℕ) → ((c : Change) (s : Space) (acc : List X) → F s acc → F (after t c s) (acc ++ f t c s))
    → (cs : List Change) (s : Space) (acc : List X) → F s acc → F (after_all t cs s) (acc ++ along f t cs s)
kept_along f F t keeps [] s acc h = rw append-nil h
kept_along f F t keeps (c ∷ cs) s acc h = rw append_assoc at (kept_along f F t keeps cs (after t c s) (acc ++ f t c s) (keeps c s acc h))

pub kept_over : {X : Type 0} (f : ℕ → Change → Space → List X) (F : Space → List X → Type 0) → ((t : ℕ) (c : Change) (s : Space) (acc : List X) → F s acc → F (after t c s) (acc ++ f t c s))
    → (h : List Entry) (l : Log) (acc : List X) → F l.state.space acc → F (after_entries l h).state.space (acc ++ over f l h)
kept_over f F keeps [] l acc start = rw append-nil start
kept_over {X = X} f F keeps (e ∷ es) l acc start =
    let t = moment_in l e in
    let new = along f t (entry_changes l e) l.state.space in
    let here : F (after_all t (entry_changes l e) l.state.space) (acc ++ new) = kept_along f F t (keeps t) (entry_changes l e) l.state.space acc start in
    let there : F (after_entry l e).state.space (acc ++ new) = subst (λ (p : Space). F p (acc ++ new)) (sym (space_after l e)) here in
    let rest = kept_over f F keeps es (after_entry l e) (acc ++ new) there in
    subst (λ (xs : List X). F (after_entries (after_entry l e) es).state.space xs) (append_assoc acc new (over f (after_entry l e) es)) rest

-- the same of a fact with the moment that has come
pub kept_in_time : {X : Type 0} (f : ℕ → Change → Space → List X) (F : ℕ → Space → List X → Type 0)
    → ((low t : ℕ) (s : Space) (acc : List X) → low ≤ t → F low s acc → F t s acc)
    → ((t : ℕ) (c : Change) (s : Space) (acc : List X) → F t s acc → F t (after t c s) (acc ++ f t c s))
    → (h : List Entry) (l : Log) (acc : List X) → IsLegalFrom l h → F l.state.now l.state.space acc → F (after_entries l h).state.now (after_entries l h).state.space (acc ++ over f l h)
kept_in_time f F later keeps [] l acc legal start = rw append-nil start
kept_in_time {X = X} f F later keeps (e ∷ es) l acc legal start =
    let t = moment_in l e in
    let new = along f t (entry_changes l e) l.state.space in
    let early : l.state.now ≤ t = moment_later l e legal.0 in
    let here : F t (after_all t (entry_changes l e) l.state.space) (acc ++ new) = kept_along f (F t) t (keeps t) (entry_changes l e) l.state.space acc (later l.state.now t l.state.space acc early start) in
    let there : F t (after_entry l e).state.space (acc ++ new) = subst (λ (p : Space). F t p (acc ++ new)) (sym (space_after l e)) here in
    let timed : F (after_entry l e).state.now (after_entry l e).state.space (acc ++ new) = at (time_after l e) there in
    let rest = kept_in_time f F later keeps es (after_entry l e) (acc ++ new) legal.1 timed in
    subst (λ (xs : List X). F (after_entries (after_entry l e) es).state.now (after_entries (after_entry l e) es).state.space xs) (append_assoc acc new (over f (after_entry l e) es)) rest
  where
    at : IsTime l e → F (moment_in l e) (after_entry l e).state.space (acc ++ along f (moment_in l e) (entry_changes l e) l.state.space)
        → F (after_entry l e).state.now (after_entry l e).state.space (acc ++ along f (moment_in l e) (entry_changes l e) l.state.space)
    at (inr is) h = subst (λ (m : ℕ). F m (after_entry l e).state.space (acc ++ along f (moment_in l e) (entry_changes l e) l.state.space)) (sym is) h
    at (inl is) h =
        let none : along f (moment_in l e) (entry_changes l e) l.state.space ≡ [] = ap (λ cs. along f (moment_in l e) cs l.state.space) is.0 in
        let same_space : (after_entry l e).state.space ≡ l.state.space = space_after l e ∙ ap (λ cs. after_all (moment_in l e) cs l.state.space) is.0 in
        let whole : F l.state.now l.state.space (acc ++ []) = rw append-nil start in
        subst (λ (xs : List X). F (after_entry l e).state.now (after_entry l e).state.space (acc ++ xs)) (sym none)
        (subst (λ (p : Space). F (after_entry l e).state.now p (acc ++ [])) (sym same_space) (subst (λ (m : ℕ). F m l.state.space (acc ++ [])) (sym is.1) whole))

-- the same of a fact that only such changes keep as the entries make
pub kept_by : {X : Type 0} (f : ℕ → Change → Space → List X) (F : Space → List X → Type 0) (C : Change → Type 0) → ((t : ℕ) (c : Change) (s : Space) (acc : List X) → C c → F s acc → F (after t c s) (acc ++ f t c s)) → ((l : Log) (e : Entry) → Each C (entry_changes l e))
    → (h : List Entry) (l : Log) (acc : List X) → F l.state.space acc → F (after_entries l h).state.space (acc ++ over f l h)
kept_by f F C keeps such [] l acc start = rw append-nil start
kept_by {X = X} f F C keeps such (e ∷ es) l acc start =
    let t = moment_in l e in
    let new = along f t (entry_changes l e) l.state.space in
    let here : F (after_all t (entry_changes l e) l.state.space) (acc ++ new) = all (entry_changes l e) l.state.space acc (such l e) start in
    let there : F (after_entry l e).state.space (acc ++ new) = subst (λ (p : Space). F p (acc ++ new)) (sym (space_after l e)) here in
    let rest = kept_by f F C keeps such es (after_entry l e) (acc ++ new) there in
    subst (λ (xs : List X). F (after_entries (after_entry l e) es).state.space xs) (append_assoc acc new (over f (after_entry l e) es)) rest
  where
    all : (cs : List Change) (s : Space) (acc : List X) → Each C cs → F s acc → F (after_all (moment_in l e) cs s) (acc ++ along f (moment_in l e) cs s)
    all [] s acc of h = rw append-nil h
    all (c ∷ cs) s acc of h = rw append_assoc at (all cs (after (moment_in l e) c s) (acc ++ f (moment_in l e) c s) of.1 (keeps (moment_in l e) c s acc of.0 h))
