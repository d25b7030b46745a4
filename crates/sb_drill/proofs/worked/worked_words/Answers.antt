use Rattle.std.proofs.Common.{refl}
use Rattle.rand_core.specs.Pcg32Seed.{pcg32_seed}
use Rattle.rand_core.specs.Steps.{u32_at, word_bytes}
use Rattle.rand_pcg.specs.Lcg.{state_after}
use Rattle.sb_drill.specs.Draws.{word_at}
use Rattle.sb_drill.proofs.worked.worked_words.Goals as goal

pub returns-clause-first : goal.returns-clause-first
unfolding word_at state_after u32_at pcg32_seed word_bytes
returns-clause-first c = refl

pub returns-clause-second : goal.returns-clause-second
unfolding word_at state_after u32_at pcg32_seed word_bytes
returns-clause-second c = refl
