-- What a status says of the end.
use Rattle.std.proofs.Common.{◌≡◌, ◌≢◌, ℕ, Bool, true, false, refl, sym, ◌∙◌, subst}
use Rattle.sb_app.specs.declared.ending.RunEnd.{RunEnd}
use Rattle.sb_app.specs.declared.ending.RunEnd.TheVariants.{ReadFault, WriteFault, DiskFault, OutOfMemory, LongInput, TimeJump}
use Rattle.sb_app.specs.Runs.{status_by}
use Rattle.sb_app.specs.Endings.{status_of_end}

pub same_end : (a b : RunEnd) → status_of_end a ≡ status_of_end b → a ≡ b
same_end ReadFault ReadFault e = refl
same_end WriteFault WriteFault e = refl
same_end DiskFault DiskFault e = refl
same_end OutOfMemory OutOfMemory e = refl
same_end LongInput LongInput e = refl
same_end TimeJump TimeJump e = refl
same_end _ _ e = absurd cc

-- what is so of the end that a status names
pub named_end : (P : RunEnd → Type 0) (e end : RunEnd) (status : ℕ) → status ≡ status_of_end e → P e → status ≡ status_of_end end → P end
named_end P e end status from p is = subst P (same_end e end (sym from ∙ is)) p

pub no_five : (refused : Bool) (status : ℕ) → status ≡ status_by refused → status ≢ 5
no_five false status is five = absurd cc
no_five true status is five = absurd cc

pub no_disk_end : (end : RunEnd) (status : ℕ) → status ≡ status_of_end end → end ≢ DiskFault → status ≢ 5
no_disk_end ReadFault status is sound five = absurd cc
no_disk_end WriteFault status is sound five = absurd cc
no_disk_end DiskFault status is sound five = sound refl
no_disk_end OutOfMemory status is sound five = absurd cc
no_disk_end LongInput status is sound five = absurd cc
no_disk_end TimeJump status is sound five = absurd cc

pub no_two_whole : (refused : Bool) (P : Type 0) → 2 ≡ status_by refused → P
no_two_whole false P is = absurd cc
no_two_whole true P is = absurd cc

pub no_two_end : (end : RunEnd) (P : Type 0) → 2 ≡ status_of_end end → P
no_two_end ReadFault P is = absurd cc
no_two_end WriteFault P is = absurd cc
no_two_end DiskFault P is = absurd cc
no_two_end OutOfMemory P is = absurd cc
no_two_end LongInput P is = absurd cc
no_two_end TimeJump P is = absurd cc
