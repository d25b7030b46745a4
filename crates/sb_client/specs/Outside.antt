-- The outside of the client, before a call and after it: the key that its requests show, what is left of the input, what
-- the link has exchanged, and what the output was given, each of the last three where it tells.
use Rattle.std.specs.Prelude.{ℕ, List, Option}
use Rattle.sb_outside.specs.Links.{Exchange}
use Rattle.sb_outside.specs.declared.link.Link.{Ghosts as Link}
use Rattle.sb_outside.specs.declared.streams.Source.{Ghosts as Source}
use Rattle.sb_outside.specs.declared.streams.Sink.{Ghosts as Sink}

-- what is left of the input, what the link exchanged, and what was written
pub record Outside : Type 0 where
  pub key : List ℕ
  pub left : Option (List ℕ)
  pub told : Option (List Exchange)
  pub given : Option (List ℕ)

-- what a client has of the outside
abbrev pub outside_of : {N S K : Type 0} → (key : List ℕ) → Link N → Source S → Sink K → N → S → K → Outside
outside_of key link source sink n s k = record { key = key; left = source.left s; told = link.told n; given = sink.given k }
