-- Items that act in turn.
use Rattle.std.proofs.Common.{List, ap, drop, get_or, length, sym, ℕ, ◌+◌, ◌++◌, ◌<◌, ◌≤◌, ◌∙◌, ◌∷◌, ◌≡◌}
use Rattle.std.proofs.lemmas.List.{append_assoc, append-nil, drop_more, drop_all}
use Rattle.sb_machine.specs.Changes.{after_all, in_turn}
use Rattle.sb_machine.specs.declared.change.Change.{Change}
use Rattle.sb_machine.specs.declared.state.Space.{Space}
use Rattle.sb_engine.specs.Commits.{Acts}
use Rattle.sb_engine.specs.Sendings.{IsUnderWay, Told, space_at}
use Rattle.sb_engine.proofs.Growing.{after_both}

module _ {X : Type 0} where
  -- what is left gives all
  pub record IsTurning (t : ℕ) (read : Space) (n : ℕ) (f : X → Space → List Change) (xs : List X) (i : ℕ) (all : List Change) (p : Told) : Type 0 where
    pub now : IsUnderWay t read n p
    pub changes : p.changes ++ in_turn f t (drop i xs) (space_at t read p) ≡ all

  pub turn_next : (t : ℕ) (read : Space) (n : ℕ) (f : X → Space → List Change) (xs : List X) (i : ℕ) (x : X) (all : List Change) (p q : Told) → i < length xs → x ≡ get_or xs i x → IsTurning t read n f xs i all p → Acts t read n (f x) p q → IsTurning t read n f xs (i + 1) all q
  turn_next t read n f xs i x all p q within here way one = record {
    now = one.stands;
    changes =
        ap (λ (y : Space). q.changes ++ in_turn f t (drop (i + 1) xs) y) led
        ∙ ap (λ (cs : List Change). cs ++ in_turn f t (drop (i + 1) xs) (after_all t (f x s) s)) one.changes
        ∙ append_assoc p.changes (f x s) (in_turn f t (drop (i + 1) xs) (after_all t (f x s) s))
        ∙ sym (ap (λ (l : List X). p.changes ++ in_turn f t l s) split)
        ∙ way.changes;
  } where
    s : Space
    s = space_at t read p

    split : drop i xs ≡ x ∷ drop (i + 1) xs
    split = drop_more xs i x within ∙ ap (λ (y : X). y ∷ drop (i + 1) xs) (sym here)

    led : space_at t read q ≡ after_all t (f x s) s
    led = ap (λ (cs : List Change). after_all t cs read) one.changes ∙ after_both t p.changes (f x s) read

  pub turn_end : (t : ℕ) (read : Space) (n : ℕ) (f : X → Space → List Change) (xs : List X) (i : ℕ) (p q : Told) → length xs ≤ i → IsTurning t read n f xs i (p.changes ++ in_turn f t xs (space_at t read p)) q → Acts t read n (in_turn f t xs) p q
  turn_end t read n f xs i p q past way = record {
    changes = sym (append-nil q.changes) ∙ sym (ap (λ (l : List X). q.changes ++ in_turn f t l (space_at t read q)) (drop_all i xs past)) ∙ way.changes;
    stands = way.now;
  }
