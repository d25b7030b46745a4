-- Transactions are a form that is exact.
use Rattle.std.proofs.Common.{refl}
use Rattle.sb_machine.specs.declared.state.Operation.{Operation}
use Rattle.sb_machine.specs.declared.state.Operation.TheVariants.{Send, Settle}
use Rattle.sb_codec.specs.Messages.{any_next}
use Rattle.sb_codec.proofs.Forms.{IsForm, number64_is, ◌then_is◌, shaped_is, optional_is, listed_is, Chooses, no_row_chooses, row_chooses, IsCase, is_case, variants_is}
use Rattle.sb_codec.proofs.ExactChoices.{how_is}
use Rattle.sb_codec.proofs.ExactMessages.{message_is}
use Rattle.sb_codec.proofs.ExactPieces.{path_is, token_is}
use Rattle.sb_snapshot.specs.Transactions.{send, settle, operation_case, operation_choice, operation, transaction}

operation_chooses : Chooses operation_case operation_choice
operation_chooses =
    row_chooses operation_case send _ (path_is then_is listed_is any_next message_is) (λ _. refl) (λ _ f. f)
    (row_chooses operation_case settle _ (path_is then_is number64_is then_is token_is then_is optional_is token_is then_is how_is) (λ _. refl) (λ _ f. f)
    (no_row_chooses operation_case))

operation_each : (v : Operation) → IsCase operation_choice (operation_case v) v
operation_each (Send to messages) = is_case operation_choice send (path_is then_is listed_is any_next message_is) (λ _. refl) (to, messages)
operation_each (Settle from number t session h) = is_case operation_choice settle (path_is then_is number64_is then_is token_is then_is optional_is token_is then_is how_is) (λ _. refl) (from, (number, (t, (session, h))))

pub operation_is : IsForm operation
unfolding operation
operation_is = variants_is operation_case operation_choice operation_chooses operation_each

pub transaction_is : IsForm transaction
unfolding transaction
transaction_is = shaped_is _ _ (λ _. refl) (λ _. refl) (number64_is then_is number64_is then_is number64_is then_is listed_is any_next operation_is)
