-- Each piece is a form that is exact.
use Rattle.std.proofs.Common.{true, false, refl}
use Rattle.sb_machine.specs.declared.call.Mode.TheVariants.{Lock, Delete}
use Rattle.sb_machine.specs.declared.call.Part.TheVariants.{Main, Dead, Transfer}
use Rattle.sb_codec.specs.Pieces.{truth_code, truth, part_code, part, mode_code, mode, path, token, by, description}
use Rattle.sb_codec.proofs.Forms.{IsForm, number32_is, number64_is, text_is, ◌then_is◌, shaped_is, optional_is, coded_is}

pub truth_is : IsForm truth
truth_is = coded_is truth_code _ (elim [ false ↦ refl | true ↦ refl ])

pub part_is : IsForm part
part_is = coded_is part_code _ (elim [ Main ↦ refl | Dead ↦ refl | Transfer ↦ refl ])

pub mode_is : IsForm mode
mode_is = coded_is mode_code _ (elim [ Lock ↦ refl | Delete ↦ refl ])

pub path_is : IsForm path
unfolding path
path_is = shaped_is _ _ (λ _. refl) (λ _. refl) (text_is then_is optional_is text_is then_is part_is)

pub token_is : IsForm token
unfolding token
token_is = shaped_is _ _ (λ _. refl) (λ _. refl) (number64_is then_is number64_is)

pub by_is : IsForm by
unfolding by
by_is = shaped_is _ _ (λ _. refl) (λ _. refl) (text_is then_is number64_is)

pub description_is : IsForm description
unfolding description
description_is =
    shaped_is _ _ (λ _. refl) (λ _. refl)
    (number32_is then_is optional_is number64_is then_is number32_is then_is optional_is number32_is then_is truth_is then_is truth_is then_is truth_is then_is optional_is text_is then_is optional_is text_is)
