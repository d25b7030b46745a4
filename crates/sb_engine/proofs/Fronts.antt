-- Changes before operations act: a transaction begins or ends, or a session remembers.
use Rattle.std.proofs.Common.{Bool, List, Option, Some, [], ap, refl, subst, sym, true, ℕ, ◌&&◌, ◌∙◌, ◌∷◌, ◌≡◌}
use Rattle.std.specs.List.{list_all}
use Rattle.sb_fanout.proofs.Keeping.{numbers_stand}
use Rattle.sb_fanout.proofs.There.{both}
use Rattle.sb_fanout.specs.Lasts.{Given, is_listed}
use Rattle.sb_fanout.specs.Laws.{keeps_numbers}
use Rattle.sb_machine.specs.Changes.{after, after_all, in_turn}
use Rattle.sb_machine.specs.Namespace.{entity_of, last_at, listed}
use Rattle.sb_machine.specs.Transactions.{operation_changes}
use Rattle.sb_machine.specs.declared.call.Part.{Part}
use Rattle.sb_machine.specs.declared.change.Change.{Change}
use Rattle.sb_machine.specs.declared.change.Change.TheVariants.{AddsRule, Begins, Drops, DropsRule, InLeaf, Makes, Notes, Queues, Removes}
use Rattle.sb_machine.specs.declared.change.LeafChange.{LeafChange}
use Rattle.sb_machine.specs.declared.change.LeafChange.TheVariants.{Closes, Ends, Enters, Holds, Opens, Passes, Prolongs, Renews, Stands as StandsAgain, Writes}
use Rattle.sb_machine.specs.declared.change.LeafKey.{LeafKey}
use Rattle.sb_machine.specs.declared.state.Entity.{Entity}
use Rattle.sb_machine.specs.declared.state.Listed.{Listed}
use Rattle.sb_machine.specs.declared.state.Operation.{Operation}
use Rattle.sb_machine.specs.declared.state.Space.{Space}
use Rattle.sb_engine.specs.Commits.{AsFound, goes_well, is_front, is_writing}
use Rattle.sb_engine.specs.Fulfilments.{acted_behind}
use Rattle.sb_engine.specs.Growing.{Stands}
use Rattle.sb_engine.specs.Quotas.{AreCounted}
use Rattle.sb_engine.specs.Sendings.{StandsAt, StandsSeen, View, seen_in}
use Rattle.sb_engine.specs.declared.deliver.committing.SettledCopy.{SettledCopy}
use Rattle.sb_engine.proofs.AsFound.{found_later, is_calm, is_calm_in}
use Rattle.sb_engine.proofs.Counted.{IsThere, Mild, listed_in_leaf, mild_append, mild_counted, mild_listed}
use Rattle.sb_engine.proofs.CountedCommits.{mild_operations}
use Rattle.sb_engine.proofs.SendIds.{seen_leaf}

-- ---- one of them

writing_calm : (done : List SettledCopy) (part : Part) (c : LeafChange) → is_writing c ≡ true → is_calm_in done part c ≡ true
writing_calm done part (Writes lock state) is = refl
writing_calm done part (Enters fresh) is = absurd cc
writing_calm done part (Passes cause) is = absurd cc
writing_calm done part (Ends n by cause) is = absurd cc
writing_calm done part (Holds n hold) is = absurd cc
writing_calm done part (StandsAgain n by count standing) is = absurd cc
writing_calm done part (Renews n until) is = absurd cc
writing_calm done part (Opens id until) is = absurd cc
writing_calm done part (Closes lock) is = absurd cc
writing_calm done part (Prolongs lock until) is = absurd cc

front_calm : (done : List SettledCopy) (c : Change) → is_front c ≡ true → is_calm done c ≡ true
front_calm done (InLeaf key c) is = writing_calm done key.part c is
front_calm done (Begins n deadline) is = refl
front_calm done (Drops n) is = refl
front_calm done (Notes n id) is = absurd cc
front_calm done (Makes kind path description rules) is = absurd cc
front_calm done (Removes n) is = absurd cc
front_calm done (AddsRule n rule) is = absurd cc
front_calm done (DropsRule n name) is = absurd cc
front_calm done (Queues n deadline operation) is = absurd cc

writing_keeps : (key : LeafKey) (c : LeafChange) → is_writing c ≡ true → keeps_numbers (InLeaf key c) ≡ true
writing_keeps key (Writes lock state) is = refl
writing_keeps key (Enters fresh) is = absurd cc
writing_keeps key (Passes cause) is = absurd cc
writing_keeps key (Ends n by cause) is = absurd cc
writing_keeps key (Holds n hold) is = absurd cc
writing_keeps key (StandsAgain n by count standing) is = absurd cc
writing_keeps key (Renews n until) is = absurd cc
writing_keeps key (Opens id until) is = absurd cc
writing_keeps key (Closes lock) is = absurd cc
writing_keeps key (Prolongs lock until) is = absurd cc

front_keeps : (c : Change) → is_front c ≡ true → keeps_numbers c ≡ true
front_keeps (InLeaf key c) is = writing_keeps key c is
front_keeps (Begins n deadline) is = refl
front_keeps (Drops n) is = refl
front_keeps (Notes n id) is = absurd cc
front_keeps (Makes kind path description rules) is = absurd cc
front_keeps (Removes n) is = absurd cc
front_keeps (AddsRule n rule) is = absurd cc
front_keeps (DropsRule n name) is = absurd cc
front_keeps (Queues n deadline operation) is = absurd cc

front_seen : (n t : ℕ) (c : Change) (s : Space) → is_front c ≡ true → seen_in n (after t c s) ≡ seen_in n s
front_seen n t (InLeaf key c) s is = seen_leaf n t key c s
front_seen n t (Begins k deadline) s is = refl
front_seen n t (Drops k) s is = refl
front_seen n t (Notes k id) s is = absurd cc
front_seen n t (Makes kind path description rules) s is = absurd cc
front_seen n t (Removes k) s is = absurd cc
front_seen n t (AddsRule k rule) s is = absurd cc
front_seen n t (DropsRule k name) s is = absurd cc
front_seen n t (Queues k deadline operation) s is = absurd cc

front_mild : (t : ℕ) (c : Change) (s : Space) → is_front c ≡ true → Mild t (c ∷ []) s
front_mild t (InLeaf key c) s is = by c is where
  by : (c : LeafChange) → is_writing c ≡ true → Mild t (InLeaf key c ∷ []) s
  by (Writes lock state) is = (tt, listed_in_leaf t key (Writes lock state) s, tt)
  by (Enters fresh) is = absurd cc
  by (Passes cause) is = absurd cc
  by (Ends n settled cause) is = absurd cc
  by (Holds n hold) is = absurd cc
  by (StandsAgain n settled count standing) is = absurd cc
  by (Renews n until) is = absurd cc
  by (Opens id until) is = absurd cc
  by (Closes lock) is = absurd cc
  by (Prolongs lock until) is = absurd cc
front_mild t (Begins n deadline) s is = (tt, refl, tt)
front_mild t (Drops n) s is = (tt, refl, tt)
front_mild t (Notes n id) s is = absurd cc
front_mild t (Makes kind path description rules) s is = absurd cc
front_mild t (Removes n) s is = absurd cc
front_mild t (AddsRule n rule) s is = absurd cc
front_mild t (DropsRule n name) s is = absurd cc
front_mild t (Queues n deadline operation) s is = absurd cc

-- ---- all of them

fronts_calm : (done : List SettledCopy) (cs : List Change) → list_all is_front cs ≡ true → list_all (is_calm done) cs ≡ true
fronts_calm done [] is = refl
fronts_calm done (c ∷ cs) is =
    let its = both (is_front c) (list_all is_front cs) is in
    ap (λ (b : Bool). b && list_all (is_calm done) cs) (front_calm done c its.0) ∙ fronts_calm done cs its.1

fronts_keep : (t : ℕ) (read : Space) (given : Given) (cs : List Change) (s : Space) → list_all is_front cs ≡ true → Stands read given s → Stands read given (after_all t cs s)
fronts_keep t read given [] s is stands = stands
fronts_keep t read given (c ∷ cs) s is stands =
    let its = both (is_front c) (list_all is_front cs) is in
    fronts_keep t read given cs (after t c s) its.1 (numbers_stand.keeping (listed read) (λ key. last_at key read) given t c s (front_keeps c its.0) stands)

fronts_seen : (n t : ℕ) (cs : List Change) (s : Space) → list_all is_front cs ≡ true → seen_in n (after_all t cs s) ≡ seen_in n s
fronts_seen n t [] s is = refl
fronts_seen n t (c ∷ cs) s is =
    let its = both (is_front c) (list_all is_front cs) is in
    fronts_seen n t cs (after t c s) its.1 ∙ front_seen n t c s its.0

fronts_mild : (t : ℕ) (cs : List Change) (s : Space) → list_all is_front cs ≡ true → Mild t cs s
fronts_mild t [] s is = tt
fronts_mild t (c ∷ cs) s is =
    let its = both (is_front c) (list_all is_front cs) is in
    let one = front_mild t c s its.0 in
    (one.0, one.1, fronts_mild t cs (after t c s) its.1)

-- ---- behind them

pub front_found : (t : ℕ) (read : Space) (e : Entity) (done : List SettledCopy) (front cs : List Change) → entity_of e.about.number read ≡ Some e → list_all is_front front ≡ true → cs ≡ front → AsFound t read e done (after_all t cs read)
front_found t read e done front cs there is same =
    subst (λ (l : List Change). AsFound t read e done (after_all t l read)) (sym same)
    (found_later t read e done front read (fronts_calm done front is) (record { salt = refl; now = e; is = there; about = refl; found = λ part lock n free. refl }))

pub front_stands : (t : ℕ) (read : Space) (n : ℕ) (given : Given) (fresh : List (List ℕ)) (front cs : List Change) → StandsAt t read n given fresh [] → list_all is_front front ≡ true → cs ≡ front → StandsAt t read n given fresh cs
front_stands t read n given fresh front cs stands is same =
    subst (λ (l : List Change). StandsAt t read n given fresh l) (sym same) (record {
      there = stands.there;
      numbers = fronts_keep t read given front read is stands.numbers;
      seen = subst (λ (v : Option View). StandsSeen t (entity_of n read) fresh v) (sym (fronts_seen n t front read is)) stands.seen;
    })

pub behind_counted : (t : ℕ) (e : Entity) (front cs : List Change) (os : List Operation) (s : Space) → list_all goes_well os ≡ true → IsThere e.about.number s → list_all is_front front ≡ true → cs ≡ acted_behind t e front os s → AreCounted t cs s
behind_counted t e front cs os s goes there is same =
    let before = fronts_mild t front s is in
    let now = after_all t front s in
    let still : IsThere e.about.number now = ap (λ (es : List Listed). is_listed e.about.number es) (mild_listed t front s before) ∙ there in
    subst (λ (l : List Change). AreCounted t l s) (sym same)
    (mild_counted t (acted_behind t e front os s) s (mild_append t front (in_turn (operation_changes t e) t os now) s before (mild_operations t e os now goes still)))
