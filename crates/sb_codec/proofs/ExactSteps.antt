-- The operations that act together are a form that is exact.
use Rattle.std.proofs.Common.{refl}
use Rattle.sb_machine.specs.declared.call.Step.{Step}
use Rattle.sb_machine.specs.declared.call.Step.TheVariants.{Send, Settle, SessionSet}
use Rattle.sb_codec.specs.Messages.{any_next}
use Rattle.sb_codec.specs.Steps.{step, step_case, step_choice, send, settle, session_set}
use Rattle.sb_codec.proofs.Forms.{IsForm, blob_is, ◌then_is◌, optional_is, listed_is, Chooses, no_row_chooses, row_chooses, IsCase, is_case, variants_is}
use Rattle.sb_codec.proofs.ExactPieces.{path_is, token_is}
use Rattle.sb_codec.proofs.ExactMessages.{message_is}
use Rattle.sb_codec.proofs.ExactChoices.{which_is, how_is}

step_chooses : Chooses step_case step_choice
step_chooses =
    row_chooses step_case send _ (path_is then_is listed_is any_next message_is) (λ _. refl) (λ _ f. f)
    (row_chooses step_case settle _ (path_is then_is which_is then_is token_is then_is optional_is token_is then_is how_is) (λ _. refl) (λ _ f. f)
    (row_chooses step_case session_set _ (path_is then_is token_is then_is optional_is blob_is) (λ _. refl) (λ _ f. f)
    (no_row_chooses step_case)))

step_each : (v : Step) → IsCase step_choice (step_case v) v
step_each (Send to messages) = is_case step_choice send (path_is then_is listed_is any_next message_is) (λ _. refl) (to, messages)
step_each (Settle from w t session h) = is_case step_choice settle (path_is then_is which_is then_is token_is then_is optional_is token_is then_is how_is) (λ _. refl) (from, (w, (t, (session, h))))
step_each (SessionSet from session state) = is_case step_choice session_set (path_is then_is token_is then_is optional_is blob_is) (λ _. refl) (from, (session, state))

pub step_is : IsForm step
unfolding step
step_is = variants_is step_case step_choice step_chooses step_each
