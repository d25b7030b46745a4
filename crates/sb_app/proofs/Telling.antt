-- A line that was told in part.
use Rattle.std.proofs.Common.{◌≡◌, inl, inr, ℕ, List, refl, subst}
use Rattle.sb_outside.specs.Causes.{RoseByOne}
use Rattle.sb_outside.specs.Streams.{GainsPart}
use Rattle.sb_app.specs.Outside.{Output}
use Rattle.sb_app.specs.declared.ending.RunEnd.TheVariants.{WriteFault}
use Rattle.sb_app.specs.Endings.{IsReplyCut}
use Rattle.sb_app.specs.Checks.{IsLineTold}
use Rattle.sb_app.proofs.Cuts.{reply_cut}

pub cut_told : (line bytes : List ℕ) (was now : Output) → bytes ≡ line → GainsPart was.given now.given bytes → RoseByOne was.faults now.faults → IsLineTold line was now 4
cut_told line bytes was now same part rose =
    let cut = subst (λ (l : List ℕ). IsReplyCut l was now WriteFault) same (reply_cut bytes was now part rose) in
    record { part = cut.0; is = inr (inl (refl, cut.1, cut.3)); written = cut.2 }
