-- Copies and how they stand are forms that are exact.
use Rattle.std.proofs.Common.{refl}
use Rattle.sb_machine.specs.declared.state.Hold.{Hold}
use Rattle.sb_machine.specs.declared.state.Hold.TheVariants.{Until, Session}
use Rattle.sb_machine.specs.declared.state.Standing.{Standing}
use Rattle.sb_machine.specs.declared.state.Standing.TheVariants.{Ready, Deferred, Held, Scheduled}
use Rattle.sb_codec.proofs.Forms.{IsForm, number64_is, empty_is, ◌then_is◌, shaped_is, Chooses, no_row_chooses, row_chooses, IsCase, is_case, variants_is}
use Rattle.sb_codec.proofs.ExactMessages.{message_is}
use Rattle.sb_codec.proofs.ExactPieces.{truth_is}
use Rattle.sb_snapshot.specs.Copies.{until_row, session_row, hold_case, hold_choice, hold, ready, deferred, held, scheduled, standing_case, standing_choice, standing, copy}
use Rattle.sb_snapshot.proofs.Lists.{number8_is, count32_is}

hold_chooses : Chooses hold_case hold_choice
hold_chooses =
    row_chooses hold_case until_row _ number64_is (λ _. refl) (λ _ f. f)
    (row_chooses hold_case session_row _ number64_is (λ _. refl) (λ _ f. f)
    (no_row_chooses hold_case))

hold_each : (h : Hold) → IsCase hold_choice (hold_case h) h
hold_each (Until t) = is_case hold_choice until_row number64_is (λ _. refl) t
hold_each (Session lock) = is_case hold_choice session_row number64_is (λ _. refl) lock

pub hold_is : IsForm hold
unfolding hold
hold_is = variants_is hold_case hold_choice hold_chooses hold_each

standing_chooses : Chooses standing_case standing_choice
standing_chooses =
    row_chooses standing_case ready _ empty_is (λ _. refl) (λ _ f. f)
    (row_chooses standing_case deferred _ empty_is (λ _. refl) (λ _ f. f)
    (row_chooses standing_case held _ (number64_is then_is hold_is then_is truth_is) (λ _. refl) (λ _ f. f)
    (row_chooses standing_case scheduled _ number64_is (λ _. refl) (λ _ f. f)
    (no_row_chooses standing_case))))

standing_each : (v : Standing) → IsCase standing_choice (standing_case v) v
standing_each Ready = is_case standing_choice ready empty_is (λ _. refl) tt
standing_each Deferred = is_case standing_choice deferred empty_is (λ _. refl) tt
standing_each (Held lock h was) = is_case standing_choice held (number64_is then_is hold_is then_is truth_is) (λ _. refl) (lock, (h, was))
standing_each (Scheduled t) = is_case standing_choice scheduled number64_is (λ _. refl) t

pub standing_is : IsForm standing
unfolding standing
standing_is = variants_is standing_case standing_choice standing_chooses standing_each

pub copy_is : IsForm copy
unfolding copy
copy_is = shaped_is _ _ (λ _. refl) (λ _. refl) (number64_is then_is number64_is then_is number64_is then_is count32_is then_is number8_is then_is standing_is then_is message_is)
