-- How a plan grows, step by step.
use Rattle.std.proofs.Common.{◌≡◌, ℕ, true, List, [], ◌∷◌, ◌++◌, refl, ap, sym, ◌∙◌, subst}
use Rattle.std.proofs.lemmas.List.{append_assoc, append-nil}
use Rattle.sb_machine.specs.Changes.{after, after_all}
use Rattle.sb_machine.specs.Delivery.{carried}
use Rattle.sb_machine.specs.Namespace.{listed, last_at}
use Rattle.sb_machine.specs.Visits.{Visit}
use Rattle.sb_machine.specs.declared.change.Change.{Change}
use Rattle.sb_machine.specs.declared.state.Space.{Space}
use Rattle.sb_fanout.specs.Deliveries.{IsCarried}
use Rattle.sb_fanout.specs.Lasts.{Given}
use Rattle.sb_fanout.specs.Laws.{keeps_numbers}
use Rattle.sb_fanout.proofs.Keeping.{numbers_stand}
use Rattle.sb_engine.specs.Growing.{Stands, IsGrown}

pub after_both : (t : ℕ) (cs ds : List Change) (s : Space) → after_all t (cs ++ ds) s ≡ after_all t ds (after_all t cs s)
after_both t [] ds s = refl
after_both t (c ∷ cs) ds s = after_both t cs ds (after t c s)

pub grown_none : (s : Space) (given : Given) (old : List Change) → IsGrown s [] given given old old
grown_none s given old = record { changes = sym (append-nil old); stands = λ t now stands. stands }

pub grown_more : (s : Space) (cs ds : List Change) (before between after : Given) (old mid new : List Change) → IsGrown s cs before between old mid → IsGrown s ds between after mid new → IsGrown s (cs ++ ds) before after old new
grown_more s cs ds before between after old mid new one two = record {
  changes = two.changes ∙ ap (λ (l : List Change). l ++ ds) one.changes ∙ append_assoc old cs ds;
  stands = λ t now stands. subst (λ (n : Space). Stands s after n) (sym (after_both t cs ds now)) (two.stands t (after_all t cs now) (one.stands t now stands));
}

pub grown_kept : (s : Space) (c : Change) (given : Given) (old new : List Change) → keeps_numbers c ≡ true → new ≡ old ++ c ∷ [] → IsGrown s (c ∷ []) given given old new
grown_kept s c given old new keeps is = record {
  changes = is;
  stands = λ t now stands. numbers_stand.keeping (listed s) (λ key. last_at key s) given t c now keeps stands;
}

pub grown_carried : (s : Space) (seq : ℕ) (vs : List Visit) (before after : Given) (old new : List Change) → IsCarried (listed s) (λ key. last_at key s) before seq vs after old new → IsGrown s (carried seq vs) before after old new
grown_carried s seq vs before after old new is = record { changes = is.changes; stands = λ t now stands. is.stands now t stands }
