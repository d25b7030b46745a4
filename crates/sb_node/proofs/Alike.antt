-- A node with the same engine, whatever is known of it, stands for the same.
use Rattle.std.proofs.Common.{◌≡◌, List, false, None, sym, subst}
use Rattle.std.proofs.Math.Logic.{∥∥₁_prop}
use Rattle.sb_engine.specs.Engines.{engine_state}
use Rattle.sb_engine.specs.declared.engine.Engine.{Engine}
use Rattle.sb_journal.specs.Journals.{has_failed}
use Rattle.sb_machine.specs.Consistent.{IsConsistent}
use Rattle.sb_machine.specs.declared.history.Entry.{Entry}
use Rattle.sb_machine.specs.declared.state.State.{State}
use Rattle.sb_outside.specs.declared.disk.Disk.{Ghosts}
use Rattle.sb_recorder.specs.Recorders.{recorder_journal}
use Rattle.sb_node.specs.declared.ahead.Ahead.{Ahead}
use Rattle.sb_node.specs.declared.node.Node.{Node}
use Rattle.sb_node.specs.Serving.{StandsFor}

-- ---- what goes ahead

known : {D : Type 0} {B : Ghosts D} (a : Ahead D B) (k : ∥ IsConsistent (engine_state a.engine) ∥₁) → record a { consistent = k } ≡ a
known a k i = record a { consistent = ∥∥₁_prop k a.consistent i }

pub alike : {D : Type 0} {B : Ghosts D} (a : Ahead D B) (e : Engine) (k : ∥ IsConsistent (engine_state e) ∥₁) → e ≡ a.engine → record a { engine = e; consistent = k } ≡ a
alike a e k same = subst (λ (x : Engine). (h : ∥ IsConsistent (engine_state x) ∥₁) → record a { engine = x; consistent = h } ≡ a) (sym same) (λ h. known a h) k

-- ---- a node

module _ {D : Type 0} {B : Ghosts D} (n : Node D B) where
  abbrev Runs : Ahead D B → Type 0
  Runs a = n.stopped ≡ None → has_failed (recorder_journal a.recorder) ≡ false

  abbrev Unstaged : Ahead D B → Type 0
  Unstaged a = n.stopped ≡ None → a.staged ≡ 0

  abbrev Same : Ahead D B → Type 0
  Same a = n.stopped ≡ None → engine_state n.sealed.value ≡ engine_state a.engine

  known_stands : (r : Runs n.ahead) (u : Unstaged n.ahead) (s : Same n.ahead) (k : ∥ IsConsistent (engine_state n.sealed.value) ∥₁) (start : State) (h : List Entry) → StandsFor n start h → StandsFor (record n { runs = r; unstaged = u; same = s; consistent = k }) start h
  known_stands r u s k start h is = record {
    consistent = is.consistent;
    legal = is.legal;
    spares = is.spares;
    leads = is.leads;
    numbers = is.numbers;
    honesty = is.honesty;
    later = is.later;
    cause = is.cause;
    quiet = is.quiet;
    kept = is.kept;
    began = is.began;
    follows = is.follows;
    left = is.left;
  }

  pub alike_stands : (a : Ahead D B) (r : Runs a) (u : Unstaged a) (s : Same a) (k : ∥ IsConsistent (engine_state n.sealed.value) ∥₁) (start : State) (h : List Entry) → a ≡ n.ahead → StandsFor n start h → StandsFor (record n { ahead = a; runs = r; unstaged = u; same = s; consistent = k }) start h
  alike_stands a r u s k start h same is =
      subst (λ (x : Ahead D B). (r' : Runs x) (u' : Unstaged x) (s' : Same x) → StandsFor (record n { ahead = x; runs = r'; unstaged = u'; same = s'; consistent = k }) start h) (sym same) (λ r' u' s'. known_stands r' u' s' k start h is) r u s
