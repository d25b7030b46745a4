-- In which parts in memory messages expire.
use Rattle.std.specs.Prelude.{Bool}
use Rattle.sb_entities.specs.declared.part.PartStore.{PartStore}

-- whether messages of a part come due once they have expired
abbrev pub expires_in : PartStore → Bool
expires_in p = p.copies.expires
