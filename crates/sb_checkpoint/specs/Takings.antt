-- What comes of bytes that are handed to who takes them.
use Rattle.std.specs.Prelude.{◌≡◌, ℕ, List, ◌++◌, Result, Ok, Err}
use Rattle.sb_checkpoint.specs.declared.pieces.Pieces.{Ghosts}
use Rattle.sb_checkpoint.specs.declared.pieces.Unput.{Unput}
use Rattle.sb_checkpoint.specs.declared.pieces.Unput.TheVariants.{Memory, Refused}

-- They were taken behind those before, or else it is still who it was, and has its reason where it refused them. It stays as it began.
abbrev pub Takes : {S : Type 0} → Ghosts S → S → S → List ℕ → Result (Unit {0}) Unput → Type 0
Takes G before after bytes (Ok done) = (G.stays before → G.stays after) × ((text : List ℕ) → G.has before text → G.has after (text ++ bytes)) × (G.since after ≡ G.since before)
Takes G before after bytes (Err Memory) = (G.stays before → G.stays after) × (G.since after ≡ G.since before)
Takes G before after bytes (Err Refused) = (G.stays before → G.stays after) × G.refuses after × (G.since after ≡ G.since before)
