-- Posts that aren't carried out, since a disk failed or had failed.
use Rattle.std.proofs.Common.{◌≡◌, ◌<◌, ◌+◌, ◌==◌, ℕ, List, [], ◌∷◌, ◌++◌, map, take, set, length, true, false, true≢false, suc, arith, Option, Some, None, Err, refl, sym, ap, ◌∙◌, subst}
use Rattle.std.specs.List.{All}
use Rattle.std.proofs.lemmas.Bool.Decides.{nat_tests}
use Rattle.std.proofs.lemmas.List.{append-nil, map-append, take_more_set}
use Rattle.std.proofs.lemmas.List.Elements.{All-head, All-nil}
use Rattle.std.specs.Prelude.{is_some}
use Rattle.sb_desk.specs.Entries.{made_by}
use Rattle.sb_desk.specs.Posts.{asked_of, group_entries, post_entries, went_entries, Asked}
use Rattle.sb_desk.specs.Spared.{SparesFrom}
use Rattle.sb_desk.specs.declared.post.Post.{Post}
use Rattle.sb_desk.specs.declared.post.Went.{Went}
use Rattle.sb_machine.specs.declared.call.Call.{Call}
use Rattle.sb_machine.specs.Accounts.{changing}
use Rattle.sb_machine.specs.History.{Log, IsLegalFrom, after_entries, after_entry, settled}
use Rattle.sb_machine.specs.declared.history.Entry.{Entry}
use Rattle.sb_machine.specs.declared.history.Entry.TheVariants.{Answered as Replied}
use Rattle.sb_machine.specs.declared.state.State.{State}
use Rattle.sb_node.specs.Groups.{has_fault}
use Rattle.sb_node.specs.Posts.{fault_entries, refusal_by, refused_entries, refused_entry}
use Rattle.sb_node.specs.Steps.{is_spared, log_of, IsStep}
use Rattle.sb_node.proofs.Grouped.{failed_same}
use Rattle.sb_node.proofs.Posts.{more_entries}
use Rattle.sb_node.proofs.Together.{fail_together, none_runs}

-- ---- their entries

-- those of one more
pub more_refused : (stopped : Option ℕ) (posts : List Post) (i : ℕ) (post : Post) → i < length posts → group_entries (take i posts) ≡ refused_entries stopped (take i posts) → post_entries post ≡ refused_entry stopped post ∷ []
    → group_entries (take (i + 1) (set posts i post)) ≡ refused_entries stopped (take (i + 1) (set posts i post))
more_refused stopped posts i post lt before one =
    more_entries posts i post lt
    ∙ ap (λ (es : List Entry). es ++ post_entries post) before
    ∙ ap (λ (es : List Entry). refused_entries stopped (take i posts) ++ es) one
    ∙ sym (map-append (refused_entry stopped) (take i posts) (post ∷ []))
    ∙ ap (refused_entries stopped) (sym (take_more_set posts i post lt))

-- the entry, by what was asked
abbrev asked_entry : Option ℕ → Asked → Entry
asked_entry stopped a = Replied a.seat a.reading a.call (Err (refusal_by stopped))

by_asked : (stopped : Option ℕ) (posts : List Post) → refused_entries stopped posts ≡ map (asked_entry stopped) (map asked_of posts)
by_asked stopped [] = refl
by_asked stopped (p ∷ ps) = ap (λ (l : List Entry). refused_entry stopped p ∷ l) (by_asked stopped ps)

-- where the same was asked
pub asked_same : (stopped : Option ℕ) (posts others : List Post) → map asked_of posts ≡ map asked_of others → refused_entries stopped posts ≡ refused_entries stopped others
asked_same stopped posts others same = by_asked stopped posts ∙ ap (map (asked_entry stopped)) same ∙ sym (by_asked stopped others)

-- some of as many
pub some_asked : (posts others : List Post) → map asked_of posts ≡ map asked_of others → (others ≡ [] → ⊥) → posts ≡ [] → ⊥
some_asked posts [] same some none = some refl
some_asked [] (p ∷ ps) same some none = absurd cc
some_asked (q ∷ qs) (p ∷ ps) same some none = absurd cc

-- some have entries
pub refused_some : (stopped : Option ℕ) (posts : List Post) → (posts ≡ [] → ⊥) → refused_entries stopped posts ≡ [] → ⊥
refused_some stopped [] some none = some refl
refused_some stopped (p ∷ ps) some none = absurd cc

went_some : (went : Option Went) (seat reading : ℕ) (call : Call) (rest : List Entry) → is_some went ≡ true → went_entries seat reading call went ++ rest ≡ [] → ⊥
went_some None seat reading call rest is none = absurd cc
went_some (Some w) seat reading call rest is none = by_tick w.tick none
  where
    by_tick : (tick : Option ℕ) → made_by seat tick reading call w.answer ++ rest ≡ [] → ⊥
    by_tick None never = absurd cc
    by_tick (Some t) never = absurd cc

-- and so have those that were carried out
pub group_some : (posts : List Post) → All (λ p. is_some p.went ≡ true) posts → (posts ≡ [] → ⊥) → group_entries posts ≡ [] → ⊥
group_some [] all some none = some refl
group_some (p ∷ ps) all some none = went_some p.went p.seat p.reading p.call (group_entries ps) (All-head (λ (q : Post). is_some q.went ≡ true) p ps all) none

-- ---- what they come to

pub faults_fail : (posts : List Post) → (posts ≡ [] → ⊥) → has_fault (fault_entries posts) ≡ true
faults_fail [] some = absurd (some refl)
faults_fail (p ∷ ps) some = refl

pub stopped_none : (n : ℕ) (posts : List Post) → has_fault (refused_entries (Some n) posts) ≡ false
stopped_none n [] = refl
stopped_none n (p ∷ ps) = stopped_none n ps

pub refused_still : (stopped : Option ℕ) (l : Log) (posts : List Post) → changing l (refused_entries stopped posts) ≡ []
refused_still stopped l [] = refl
refused_still None l (p ∷ ps) = refused_still None (after_entry l (refused_entry None p)) ps
refused_still (Some n) l (p ∷ ps) = refused_still (Some n) (after_entry l (refused_entry (Some n) p)) ps

pub refused_spares : (stopped : Option ℕ) (l : Log) (posts : List Post) → SparesFrom is_spared l (refused_entries stopped posts)
refused_spares stopped l [] = tt
refused_spares None l (p ∷ ps) = ((λ spared is. absurd cc), refused_spares None (after_entry l (refused_entry None p)) ps)
refused_spares (Some n) l (p ∷ ps) = ((λ spared is. absurd cc), refused_spares (Some n) (after_entry l (refused_entry (Some n) p)) ps)

-- ---- a group of them

stopped_legal : (s : State) (n m : ℕ) (posts : List Post) → IsLegalFrom (log_of s (Some m)) (refused_entries (Some n) posts)
stopped_legal s n m [] = refl
stopped_legal s n m (p ∷ ps) = ((tt, refl), stopped_legal s n m ps)

stopped_leads : (s : State) (n m : ℕ) (posts : List Post) → log_of s (Some m) ≡ settled (after_entries (log_of s (Some m)) (refused_entries (Some n) posts))
stopped_leads s n m [] = refl
stopped_leads s n m (p ∷ ps) = stopped_leads s n m ps

-- of a node that had stopped
pub stopped_all : (s : State) (n m : ℕ) (posts : List Post) → IsStep (log_of s (Some m)) (refused_entries (Some n) posts) (log_of s (Some m))
stopped_all s n m posts = record { legal = stopped_legal s n m posts; leads = stopped_leads s n m posts }

-- of one whose disk failed
pub failed_all : (s : State) (n : ℕ) (posts : List Post) → (posts ≡ [] → ⊥) → IsStep (log_of s None) (fault_entries posts) (log_of s (Some n))
failed_all s n [] some = absurd (some refl)
failed_all s n (p ∷ ps) some = subst (λ (es : List Entry). IsStep (log_of s None) es (log_of s (Some n))) (failed_same (p ∷ ps)) (fail_together s s [] (fault_entries (p ∷ ps)) n (none_runs s) refl)

pub stopped_group : (s : State) (n : ℕ) (stopped : Option ℕ) (posts : List Post) (es : List Entry) → stopped ≡ Some n → es ≡ refused_entries (Some n) posts → IsStep (log_of s stopped) es (log_of s stopped)
stopped_group s n stopped posts es was same =
    subst (λ (o : Option ℕ). IsStep (log_of s o) es (log_of s o)) (sym was) (subst (λ (l : List Entry). IsStep (log_of s (Some n)) l (log_of s (Some n))) (sym same) (stopped_all s n n posts))

pub failed_group : (s : State) (n : ℕ) (stopped : Option ℕ) (posts : List Post) (es : List Entry) → stopped ≡ None → es ≡ fault_entries posts → (posts ≡ [] → ⊥) → IsStep (log_of s stopped) es (log_of s (Some n))
failed_group s n stopped posts es was same some =
    subst (λ (o : Option ℕ). IsStep (log_of s o) es (log_of s (Some n))) (sym was) (subst (λ (l : List Entry). IsStep (log_of s None) l (log_of s (Some n))) (sym same) (failed_all s n posts some))

-- ---- whether there are some

not_zero : (n : ℕ) → (suc n == 0) ≡ false
not_zero n = grind (arith, nat_tests)

pub none_there : (posts : List Post) → true ≡ (length posts == 0) → posts ≡ []
none_there [] is = refl
none_there (p ∷ ps) is = absurd (true≢false (is ∙ not_zero (length ps)))

pub some_there : (posts : List Post) → false ≡ (length posts == 0) → posts ≡ [] → ⊥
some_there [] is none = absurd (true≢false (sym is))
some_there (p ∷ ps) is none = absurd cc

-- an empty group adds nothing
pub adds_none : (posts : List Post) (h : List Entry) → posts ≡ [] → h ++ group_entries posts ≡ h
adds_none posts h none = ap (λ (ps : List Post). h ++ group_entries ps) none ∙ append-nil h

pub all_none : (P : Post → Type 0) (posts : List Post) → posts ≡ [] → All P posts
all_none P posts none = subst (All P) (sym none) (All-nil P)
