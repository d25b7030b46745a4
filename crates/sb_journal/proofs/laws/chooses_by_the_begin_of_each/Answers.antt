use Rattle.std.proofs.Common.{refl, ◌∙◌, ap}
use Rattle.std.specs.Prelude.{take}
use Rattle.sb_journal.specs.Text.{file_text, head}
use Rattle.sb_journal.specs.Framing.{head_fault}
use Rattle.sb_journal.specs.Choosing.{headed, chosen_of}
use Rattle.sb_journal.proofs.Choices.{headed_front, counts_here}
use Rattle.sb_journal.proofs.Wholes.{headed_whole}
use Rattle.sb_journal.proofs.laws.chooses_by_the_begin_of_each.Goals as goal

pub returns-clause-one : goal.returns-clause-one
returns-clause-one c side f x y whole isnt = counts_here side f.generation x y (headed_whole x f whole) isnt

pub returns-clause-fronts : goal.returns-clause-fronts
returns-clause-fronts c a b = ap (λ h. chosen_of h (headed (take 44 b))) (headed_front a) ∙ ap (λ h. chosen_of (headed a) h) (headed_front b)

pub returns-clause-worked : goal.returns-clause-worked
unfolding headed head_fault file_text head
returns-clause-worked c = (refl, refl, refl, refl, refl, refl, refl, refl, refl, refl)
