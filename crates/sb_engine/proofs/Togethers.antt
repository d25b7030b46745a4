-- The commit of operations that act together.
use Rattle.std.proofs.Common.{Bool, List, Option, Some, [], ap, arith, cond, false, find, inl, inr, sym, true, ℕ, ◌+◌, ◌++◌, ◌<◌, ◌∙◌, ◌∷◌, ◌≡◌}
use Rattle.std.specs.Prelude.{◌==◌, ◌&&◌, ◌⊎◌}
use Rattle.std.specs.List.{list_all}
use Rattle.std.proofs.lemmas.Bool.Decides.{nat_tests}
use Rattle.std.proofs.lemmas.List.Folds.{list_all-append}
use Rattle.sb_laws.specs.Gathered.{gathering_number, read_commit, read_steps}
use Rattle.sb_machine.specs.Changes.{after_all}
use Rattle.sb_machine.specs.Keyed.{AreRising}
use Rattle.sb_machine.specs.Namespace.{entity_at, entity_of, is_entity}
use Rattle.sb_machine.specs.Rows.{Row, answers, refuses, within_quota}
use Rattle.sb_machine.specs.Together.{all_receipts, step_replies}
use Rattle.sb_machine.specs.declared.call.Path.{Path}
use Rattle.sb_machine.specs.declared.call.Step.{Step}
use Rattle.sb_machine.specs.declared.change.Change.{Change}
use Rattle.sb_machine.specs.declared.change.Change.TheVariants.{Begins, Drops}
use Rattle.sb_machine.specs.declared.reply.Receipt.{Receipt}
use Rattle.sb_machine.specs.declared.reply.Refusal.{Refusal}
use Rattle.sb_machine.specs.declared.reply.Refusal.TheVariants.{OutOfMemory}
use Rattle.sb_machine.specs.declared.reply.Reply.TheVariants.{Together}
use Rattle.sb_machine.specs.declared.state.Entity.{Entity}
use Rattle.sb_machine.specs.declared.state.Operation.{Operation}
use Rattle.sb_machine.specs.declared.state.Space.{Space}
use Rattle.sb_engine.specs.Commits.{is_front}
use Rattle.sb_engine.specs.Fulfilments.{acted_behind}
use Rattle.sb_engine.specs.Gatherings.{Next}

-- ---- the entity, by its own number

number_same : (m n : ℕ) → m ≡ n → (m == n) ≡ true
number_same m n is = grind (arith, nat_tests)

number_apart : (m n : ℕ) → m < n → (m == n) ≡ false
number_apart m n is = grind (arith, nat_tests)

found_above : (p : Entity → Bool) (e : Entity) (above last : ℕ) (es : List Entity) → AreRising (λ x. x.about.number) above last es → find p es ≡ Some e → above < e.about.number
found_above p e above last [] rising is = absurd cc
found_above p e above last (x ∷ xs) rising is = at (p x) (found_above p e x.about.number last xs rising.1) is where
  at : (b : Bool) → (find p xs ≡ Some e → x.about.number < e.about.number) → cond b (Some x) (find p xs) ≡ Some e → above < e.about.number
  at true rest is = let same : x ≡ e = cc in omega (arith, rising.0, ap (λ (y : Entity). y.about.number) same)
  at false rest is = let more = rest is in omega (arith, rising.0, more)

found_itself : (p : Entity → Bool) (e : Entity) (above last : ℕ) (es : List Entity) → AreRising (λ x. x.about.number) above last es → find p es ≡ Some e → find (is_entity e.about.number) es ≡ Some e
found_itself p e above last [] rising is = absurd cc
found_itself p e above last (x ∷ xs) rising is = at (p x) (found_itself p e x.about.number last xs rising.1) is where
  at : (b : Bool) → (find p xs ≡ Some e → find (is_entity e.about.number) xs ≡ Some e) → cond b (Some x) (find p xs) ≡ Some e → find (is_entity e.about.number) (x ∷ xs) ≡ Some e
  at true rest is = let same : x ≡ e = cc in ap (λ (b : Bool). cond b (Some x) (find (is_entity e.about.number) xs)) (number_same x.about.number e.about.number (ap (λ (y : Entity). y.about.number) same)) ∙ ap (λ (y : Entity). Some y) same
  at false rest is = ap (λ (b : Bool). cond b (Some x) (find (is_entity e.about.number) xs)) (number_apart x.about.number e.about.number (found_above p e x.about.number last xs rising.1 is)) ∙ rest is

pub entity_there : (s : Space) (path : Path) (e : Entity) (o : Option Entity) → AreRising (λ x. x.about.number) 0 s.last_entity s.entities → o ≡ entity_at path s → o ≡ Some e → entity_of e.about.number s ≡ Some e
entity_there s path e o rising is there = found_itself _ e 0 s.last_entity s.entities rising (sym is ∙ there)

-- ---- the commit

pub ended_front : (cs front : List Change) (n : ℕ) → list_all is_front cs ≡ true → front ≡ cs ++ Drops n ∷ [] → list_all is_front front ≡ true
ended_front cs front n is same =
    ap (λ (l : List Change). list_all is_front l) same
    ∙ list_all-append is_front cs (Drops n ∷ [])
    ∙ ap (λ (b : Bool). b && true) is

abbrev committing : Space → ℕ → Entity → List Step → List Operation → List Change → Row
committing s t e steps os front = within_quota t s (acted_behind t e front os s) (answers (Together (step_replies steps (all_receipts t e os (after_all t front s)))) (acted_behind t e front os s))

committed_so : (s : Space) (t : ℕ) (e : Entity) (steps : List Step) (os : List Operation) (cs front : List Change) (txn : ℕ) → txn ≡ gathering_number s → front ≡ cs ++ Drops txn ∷ [] → read_commit s t e steps os cs ≡ committing s t e steps os front
committed_so s t e steps os cs front txn is same = ap (λ (l : List Change). committing s t e steps os l) (ap (λ (n : ℕ). cs ++ Drops n ∷ []) (sym is) ∙ sym same)

pub commit_answers : (s : Space) (t : ℕ) (e : Entity) (steps : List Step) (os : List Operation) (cs front new : List Change) (txn : ℕ) (receipts : List (List Receipt)) → txn ≡ gathering_number s → front ≡ cs ++ Drops txn ∷ []
    → new ≡ acted_behind t e front os s → receipts ≡ all_receipts t e os (after_all t front s) → ((row : Row) → within_quota t s (acted_behind t e front os s) row ≡ row) → read_commit s t e steps os cs ≡ answers (Together (step_replies steps receipts)) new
commit_answers s t e steps os cs front new txn receipts is same new_is told passes =
    committed_so s t e steps os cs front txn is same
    ∙ passes (answers (Together (step_replies steps (all_receipts t e os (after_all t front s)))) (acted_behind t e front os s))
    ∙ ap (λ (rs : List (List Receipt)). answers (Together (step_replies steps rs)) (acted_behind t e front os s)) (sym told)
    ∙ ap (λ (l : List Change). answers (Together (step_replies steps receipts)) l) (sym new_is)

pub commit_refused : (s : Space) (t : ℕ) (e : Entity) (steps : List Step) (os : List Operation) (cs front : List Change) (txn : ℕ) (r : Refusal) → txn ≡ gathering_number s → front ≡ cs ++ Drops txn ∷ []
    → (r ≡ OutOfMemory) ⊎ ((row : Row) → within_quota t s (acted_behind t e front os s) row ≡ refuses r) → (r ≡ OutOfMemory) ⊎ (read_commit s t e steps os cs ≡ refuses r)
commit_refused s t e steps os cs front txn r is same (inl memory) = inl memory
commit_refused s t e steps os cs front txn r is same (inr refused) = inr (committed_so s t e steps os cs front txn is same ∙ refused _)

-- ---- from the beginning

pub gathered_first : (s : Space) (t : ℕ) (path : Path) (e : Entity) (steps : List Step) (os later : List Operation) (cs new : List Change) (last : Next) → os ≡ [] → cs ≡ Begins e.about.number (t + 120000) ∷ []
    → ((next : Next) → read_steps 0 s t path e os cs steps next ≡ next later new) → read_steps 0 s t path e [] (Begins e.about.number (t + 120000) ∷ []) steps last ≡ last later new
gathered_first s t path e steps os later cs new last none begins gathers =
    ap (λ (l : List Operation). read_steps 0 s t path e l (Begins e.about.number (t + 120000) ∷ []) steps last) (sym none)
    ∙ ap (λ (l : List Change). read_steps 0 s t path e os l steps last) (sym begins)
    ∙ gathers last

pub refused_first : (s : Space) (t : ℕ) (path : Path) (e : Entity) (steps : List Step) (os : List Operation) (cs : List Change) (last : Next) (r : Refusal) → os ≡ [] → cs ≡ Begins e.about.number (t + 120000) ∷ []
    → (r ≡ OutOfMemory) ⊎ ((next : Next) → read_steps 0 s t path e os cs steps next ≡ refuses r) → (r ≡ OutOfMemory) ⊎ (read_steps 0 s t path e [] (Begins e.about.number (t + 120000) ∷ []) steps last ≡ refuses r)
refused_first s t path e steps os cs last r none begins (inl memory) = inl memory
refused_first s t path e steps os cs last r none begins (inr refused) = inr (
    ap (λ (l : List Operation). read_steps 0 s t path e l (Begins e.about.number (t + 120000) ∷ []) steps last) (sym none)
    ∙ ap (λ (l : List Change). read_steps 0 s t path e os l steps last) (sym begins)
    ∙ refused last)
