-- What stands in acts as one of several is a form that is exact.
use Rattle.std.proofs.Common.{refl}
use Rattle.sb_machine.specs.declared.call.FilterText.{FilterText}
use Rattle.sb_machine.specs.declared.call.FilterText.TheVariants.{Sql, Correlation}
use Rattle.sb_machine.specs.declared.call.How.{How}
use Rattle.sb_machine.specs.declared.call.How.TheVariants.{Complete, Abandon, Defer, DeadLetter}
use Rattle.sb_machine.specs.declared.call.Which.{Which}
use Rattle.sb_machine.specs.declared.call.Which.TheVariants.{Number, Id}
use Rattle.sb_codec.specs.Choices.{which, which_case, which_choice, number_row, id_row, how, how_case, how_choice, complete, abandon, defer, dead_letter, filter_text, filter_text_case, filter_text_choice, sql, correlation}
use Rattle.sb_codec.proofs.Forms.{IsForm, number64_is, text_is, empty_is, ◌then_is◌, optional_is, Chooses, no_row_chooses, row_chooses, IsCase, is_case, variants_is}
use Rattle.sb_codec.proofs.ExactMessages.{conditions_is}

which_chooses : Chooses which_case which_choice
which_chooses =
    row_chooses which_case number_row _ number64_is (λ _. refl) (λ _ f. f)
    (row_chooses which_case id_row _ text_is (λ _. refl) (λ _ f. f)
    (no_row_chooses which_case))

which_each : (v : Which) → IsCase which_choice (which_case v) v
which_each (Number n) = is_case which_choice number_row number64_is (λ _. refl) n
which_each (Id t) = is_case which_choice id_row text_is (λ _. refl) t

pub which_is : IsForm which
unfolding which
which_is = variants_is which_case which_choice which_chooses which_each

how_chooses : Chooses how_case how_choice
how_chooses =
    row_chooses how_case complete _ empty_is (λ _. refl) (λ _ f. f)
    (row_chooses how_case abandon _ empty_is (λ _. refl) (λ _ f. f)
    (row_chooses how_case defer _ empty_is (λ _. refl) (λ _ f. f)
    (row_chooses how_case dead_letter _ (optional_is text_is then_is optional_is text_is) (λ _. refl) (λ _ f. f)
    (no_row_chooses how_case))))

how_each : (v : How) → IsCase how_choice (how_case v) v
how_each Complete = is_case how_choice complete empty_is (λ _. refl) tt
how_each Abandon = is_case how_choice abandon empty_is (λ _. refl) tt
how_each Defer = is_case how_choice defer empty_is (λ _. refl) tt
how_each (DeadLetter reason description) = is_case how_choice dead_letter (optional_is text_is then_is optional_is text_is) (λ _. refl) (reason, description)

pub how_is : IsForm how
unfolding how
how_is = variants_is how_case how_choice how_chooses how_each

filter_text_chooses : Chooses filter_text_case filter_text_choice
filter_text_chooses =
    row_chooses filter_text_case sql _ text_is (λ _. refl) (λ _ f. f)
    (row_chooses filter_text_case correlation _ conditions_is (λ _. refl) (λ _ f. f)
    (no_row_chooses filter_text_case))

filter_text_each : (v : FilterText) → IsCase filter_text_choice (filter_text_case v) v
filter_text_each (Sql t) = is_case filter_text_choice sql text_is (λ _. refl) t
filter_text_each (Correlation c) = is_case filter_text_choice correlation conditions_is (λ _. refl) c

pub filter_text_is : IsForm filter_text
unfolding filter_text
filter_text_is = variants_is filter_text_case filter_text_choice filter_text_chooses filter_text_each
