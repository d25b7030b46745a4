-- What a function of the code says of reading.
use Rattle.std.specs.Prelude.{◌≡◌, List, [], ◌∷◌, Option, None, Result, Ok, Err}
use Rattle.sb_model.specs.declared.token.Kind.{Kind}
use Rattle.sb_sqltext.specs.declared.missed.Missed.{Missed}
use Rattle.sb_sqltext.specs.declared.missed.Missed.TheVariants.{Here, OutOfMemory}

-- this tree and rest, or this fault, or want of memory
abbrev pub Reads : {X Y : Type 0} → (X → Y) → Result X Missed → Result Y (List Kind) → Type 0
Reads view (Ok x) said = said ≡ Ok (view x)
Reads view (Err (Here rest)) said = said ≡ Err rest.now
Reads view (Err OutOfMemory) said = Unit {0}

-- no operator of this class is next
abbrev pub IsOver : {O : Type 0} → (Kind → Option O) → List Kind → Type 0
IsOver op [] = Unit {0}
IsOver op (k ∷ ts) = op k ≡ None
