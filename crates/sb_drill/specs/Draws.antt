-- The words that the generator PCG32 gives for a seed, and what each asks for.
use Rattle.std.specs.Prelude.{ℕ, ◌==◌, ◌/◌, ◌%◌, List, [], ◌∷◌, find, Option, Some, None}
use Rattle.rand_core.specs.Pcg32Seed.{pcg32_seed}
use Rattle.rand_pcg.specs.Lcg.{Lcg, advance}
use Rattle.rand_pcg.specs.Pcg.{multiplier_64, pcg32, pcg32_of_seed}
use Rattle.sb_drill.specs.declared.choice.Choice.{Choice}
use Rattle.sb_drill.specs.declared.choice.Choice.TheVariants.{SendPlain, SendTopic, SendSession, LockPlain, TakeTopic, CompletePlain, AcceptSession, LockSession, TakeDead}

-- the generator of a seed, before its first word
abbrev pub generator : ℕ → Lcg
generator seed = pcg32_of_seed (pcg32_seed 16 seed)

-- the word of a seed behind so many others
unfoldable pub word_at : ℕ → ℕ → ℕ
word_at seed place = (pcg32 (advance 64 multiplier_64 place (generator seed))).0

-- what a word asks for that ends in this digit; 9 is what is left
abbrev pub choices : List (ℕ × Choice)
choices = (0, SendPlain) ∷ (1, SendPlain) ∷ (2, SendTopic) ∷ (3, SendSession) ∷ (4, LockPlain) ∷ (5, TakeTopic) ∷ (6, CompletePlain) ∷ (7, AcceptSession) ∷ (8, LockSession) ∷ []

-- the choice of a row, if there is one
abbrev pub choice_or_dead : Option (ℕ × Choice) → Choice
choice_or_dead None = TakeDead
choice_or_dead (Some row) = row.1

-- what a word asks for, by its last decimal digit
unfoldable pub choice_of : ℕ → Choice
choice_of word = choice_or_dead (find (λ row. row.0 == word % 10) choices)

-- the number below 16 that a word brings
abbrev pub value_of : ℕ → ℕ
value_of word = word / 10 % 16
