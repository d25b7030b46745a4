-- What holds of texts.
use Rattle.std.specs.Prelude.{◌≡◌, ℕ, List, Result, Ok, Err}
use Rattle.sb_model.specs.declared.token.Kind.{Kind}
use Rattle.sb_sqltext.specs.Texts.{SpellsText, IsTextFault}
use Rattle.sb_model.specs.Texts.{read_text}

-- reading a text gives the one tree that it spells, or else the one place of its fault
pub record ReadsTexts {T : Type 0} (R : List Kind → Result (T × List Kind) (List Kind)) (S : List Kind → T → Type 0) : Type 0 where
  pub spelled : (text : List ℕ) (t : T) → read_text R text ≡ Ok t → SpellsText S text t
  pub each : (text : List ℕ) (t : T) → SpellsText S text t → read_text R text ≡ Ok t
  pub fault : (text : List ℕ) (place : ℕ) → read_text R text ≡ Err place → IsTextFault S text place
  pub each_fault : (text : List ℕ) (place : ℕ) → IsTextFault S text place → read_text R text ≡ Err place
