-- What the file that was judged leads to.
use Rattle.std.proofs.Common.{◌≡◌, inl, inr, ℕ, ◌+◌, ◌-◌, List, length, Option, None, sym, ◌∙◌, ap, arith}
use Rattle.sb_journal.specs.declared.judge.Judge.{Ghosts}
use Rattle.sb_journal.specs.declared.judge.Judged.{Judged}
use Rattle.sb_journal.specs.Opened.{Opened, judged_file, IsJudged, IsDamagedFor}
use Rattle.sb_journal.specs.Judges.{IsFileRefused}
use Rattle.sb_journal.specs.Text.{File, first_gate, IsWithin}
use Rattle.sb_journal.specs.declared.found.Side.{Side}
use Rattle.sb_machine.specs.Consistent.{IsConsistent}
use Rattle.sb_machine.specs.declared.state.State.{State}
use Rattle.sb_node.specs.Recovery.{base_state, replay_from, replay_file, breaks, reached, recovers, damaged, recovered_from, IsReplayed, BreaksReplay}
use Rattle.sb_node.proofs.Recovered.{events_consistent}

-- all of its payloads lead from its base to this state, wherever the first gate is
module _ {J : Type 0} (G : Ghosts J) (honest : Type 0) (o : Opened) (j : Judged J) (is : IsJudged G honest o j) (s : State) (leads : IsReplayed s j.salt is.base is.payloads) where
  pub judged_consistent : IsConsistent s
  judged_consistent = events_consistent j.salt is.base 42 is.payloads s (leads 42)

  -- the number of its last record
  pub judged_last : (last : ℕ) → last ≡ j.next - 1 → IsWithin (judged_file j is.base is.payloads) → last ≡ j.first - 1 + length is.payloads
  judged_last last last_is within =
      let least = within.first_least in
      omega (arith, least, last_is, is.next_is)

  pub judged_recovers : (last : ℕ) → last ≡ j.next - 1 → honest → recovered_from o ≡ recovers s last
  judged_recovers last last_is h =
      let file = judged_file j is.base is.payloads in
      ap recovered_from (is.stands h) ∙ ap (reached j.disk file) (leads (first_gate file)) ∙ ap (recovers s) (sym (judged_last last last_is (is.within h)))

-- or its base stands for no state, or one of them leads nowhere
file_breaks : {J : Type 0} (G : Ghosts J) (file : File) (place : ℕ) → IsFileRefused G place file → ((salt : ℕ) (base : List ℕ) → G.refuses_base salt base → base_state salt base ≡ None)
    → ((salt : ℕ) (base : List ℕ) (before : List (List ℕ)) (p : List ℕ) → G.refuses salt base before p → BreaksReplay salt base before p) → replay_file file ≡ breaks place
file_breaks G file place (inl base) base_is refused_is = ap (λ (o : Option State). replay_from o (first_gate file) file.payloads) (base_is file.salt file.base base.1) ∙ ap breaks (sym base.0)
file_breaks G file place (inr r) base_is refused_is =
    ap (λ (ps : List (List ℕ)). replay_from (base_state file.salt file.base) (first_gate file) ps) r.payloads_are
    ∙ refused_is file.salt file.base r.before r.payload r.refused (first_gate file) r.behind
    ∙ ap breaks (sym r.place_is)

pub judged_damaged : {J : Type 0} (G : Ghosts J) (o : Opened) (side : Side) (place : ℕ) → IsDamagedFor G o side place → ((salt : ℕ) (base : List ℕ) → G.refuses_base salt base → base_state salt base ≡ None)
    → ((salt : ℕ) (base : List ℕ) (before : List (List ℕ)) (p : List ℕ) → G.refuses salt base before p → BreaksReplay salt base before p) → recovered_from o ≡ damaged side place
judged_damaged G o side place (inl framed) base_is refused_is = ap recovered_from framed
judged_damaged G o side place (inr refused) base_is refused_is = ap recovered_from refused.1 ∙ ap (reached side refused.0) (file_breaks G refused.0 place refused.2 base_is refused_is)
