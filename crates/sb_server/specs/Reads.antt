-- What comes in: how far a connection was read, and which requests were taken of it.
use Rattle.std.specs.Prelude.{◌≡◌, ◌⊎◌, ℕ, ◌+◌, ◌-◌, ◌^◌, ◌≤◌, ◌<◌, List, [], ◌∷◌, ◌++◌, length, Bool, true, false, Option, Some, None, slice_range}
use Rattle.sb_outside.specs.Causes.{Rose}
use Rattle.sb_http.specs.Messages.{RequestMessage}
use Rattle.sb_rest.specs.declared.access.Access.{Access}
use Rattle.sb_http.specs.Stages.{Left, whole, held}
use Rattle.sb_http.specs.Streams.{Requests}
use Rattle.sb_http.specs.Causes.{HasNone, Waits as IsUnderWay, Refuses}
use Rattle.sb_server.specs.declared.came.Came.{Came}
use Rattle.sb_server.specs.declared.came.Came.TheVariants.{Asked, NothingYet, Refused, Over, NoMemory}
use Rattle.sb_server.specs.declared.came.Filled.{Filled}
use Rattle.sb_server.specs.declared.came.Filled.TheVariants.{Full, NotYet, Over as Done}
use Rattle.sb_server.specs.declared.came.Took.{Took}
use Rattle.sb_server.specs.declared.came.Took.TheVariants.{One, NoneYet, Fault}
use Rattle.sb_server.specs.declared.ending.Ending.{Ending}
use Rattle.sb_server.specs.declared.ending.Ending.TheVariants.{Closed, BadHead, HeadTooLarge, BodyTooLarge, Truncated, LongConnection, ReadFault, Gone, WriteFault, Slow, Stopped, OutOfMemory}
use Rattle.sb_server.specs.declared.inbox.Inbox.{Inbox}
use Rattle.sb_server.specs.Asks.{AsksFor, asks_close}

-- How far a connection was read: what is left of what was fed to the reader of requests, how many bytes that
-- was fed, what was read and not fed yet, and all that wasn't fed yet, where the connection tells.
pub record Stand : Type 0 where
  pub left : Left
  pub fed : ℕ
  pub unfed : List ℕ
  pub there : Option (List ℕ)

-- what is behind these, where it is told
abbrev pub and_before : List ℕ → Option (List ℕ) → Option (List ℕ)
and_before piece None = None
and_before piece (Some left) = Some (piece ++ left)

-- how many bytes one read takes at most
abbrev pub max_piece : ℕ
max_piece = 4096

-- this is left of the connection to be read: what was read and not fed yet, a piece at most, stands before it, and nothing else
abbrev pub IsReadTo : Stand → Option (List ℕ) → Type 0
IsReadTo stand left = (length stand.unfed ≤ max_piece) × (stand.there ≡ and_before stand.unfed left)

-- the bytes that came and weren't fed yet stand before those that are left
abbrev pub stand_of : Inbox → Option (List ℕ) → Stand
stand_of i left = record { left = i.incoming.left; fed = i.taken - (i.end - i.at); unfed = slice_range i.piece.items i.at i.end; there = and_before (slice_range i.piece.items i.at i.end) left }

-- these were the first of what was there
abbrev pub HasRead : Option (List ℕ) → List ℕ → Option (List ℕ) → Type 0
HasRead None fed after = Unit {0}
HasRead (Some before) fed after = (rest : List ℕ) × (after ≡ Some rest) × (before ≡ fed ++ rest)

-- some bytes more were fed, and these requests were taken
pub record Takes (old : Stand) (ms : List RequestMessage) (new : Stand) : Type 0 where
  pub fed : List ℕ
  pub goes : (stream : List ℕ) (before : List RequestMessage) → Requests stream before old.left → Requests (stream ++ fed) (before ++ ms) new.left
  pub read : HasRead old.there fed new.there
  pub count : new.fed ≡ old.fed + length fed

-- nothing is left
abbrev pub IsDone : Option (List ℕ) → Option (List ℕ) → Type 0
IsDone None after = Unit {0}
IsDone (Some before) after = after ≡ Some []

-- ---- a request out of what was fed

-- what is left begins with no request yet, and isn't refused
abbrev pub WaitsForMore : Left → Type 0
WaitsForMore left = HasNone left × IsUnderWay left

-- all that was read was fed, and what is left of it begins with no request yet, and isn't refused
abbrev pub NeedsMore : Stand → Type 0
NeedsMore stand = WaitsForMore stand.left × (stand.unfed ≡ [])

-- these requests were taken, whatever was taken before
abbrev pub GoesOnBy : Left → List RequestMessage → Left → Type 0
GoesOnBy old ms new = (stream : List ℕ) (before : List RequestMessage) → Requests stream before old → Requests stream (before ++ ms) new

-- what was taken of the bytes that were fed, and what is left of them
abbrev pub TookOf : Access → Left → Took → Left → Type 0
TookOf access old (One ask closes) new = (m : RequestMessage) × AsksFor access m ask × (closes ≡ asks_close m) × GoesOnBy old (m ∷ []) new
TookOf access old NoneYet new = GoesOnBy old [] new × WaitsForMore new
TookOf access old (Fault fault) new = GoesOnBy old [] new × Refuses fault new

-- ---- what comes of a connection

-- bytes moved from the connection into the piece, and no more
abbrev pub FillsWith : Option (List ℕ) → Option (List ℕ) → Type 0
FillsWith None after = Unit {0}
FillsWith (Some before) after = after ≡ Some before

-- bytes came in, and none were fed
pub record Fills (old new : Stand) : Type 0 where
  pub left : new.left ≡ old.left
  pub fed : new.fed ≡ old.fed
  pub there : FillsWith old.there new.there

-- why reading ended
abbrev pub EndsWith : Ending → Option (List ℕ) → Stand → ℕ → ℕ → Type 0
EndsWith Closed there new count_before count = IsDone there new.there × (new.left ≡ whole [])
EndsWith Truncated there new count_before count = IsDone there new.there × (0 < held new.left)
EndsWith LongConnection there new count_before count = 2 ^ 32 ≤ new.fed
EndsWith ReadFault there new count_before count = Rose count_before count
EndsWith BadHead there new count_before count = ⊥
EndsWith HeadTooLarge there new count_before count = ⊥
EndsWith BodyTooLarge there new count_before count = ⊥
EndsWith Gone there new count_before count = ⊥
EndsWith WriteFault there new count_before count = ⊥
EndsWith Slow there new count_before count = ⊥
EndsWith Stopped there new count_before count = ⊥
EndsWith OutOfMemory there new count_before count = ⊥

-- where it ended
abbrev pub IfOver : Filled → (Ending → Type 0) → Type 0
IfOver Full P = Unit {0}
IfOver NotYet P = Unit {0}
IfOver (Done ending) P = P ending

-- where nothing came in
abbrev pub IfNone : Filled → Type 0 → Type 0
IfNone Full P = Unit {0}
IfNone NotYet P = P
IfNone (Done ending) P = P

-- a request, none yet, a fault, an end, or no memory for what has come
abbrev pub Comes : Access → Stand → Came → Stand → ℕ → ℕ → Type 0
Comes access old (Asked ask closes) new count_before count = (m : RequestMessage) × AsksFor access m ask × (closes ≡ asks_close m) × Takes old (m ∷ []) new
Comes access old NothingYet new count_before count = Takes old [] new × NeedsMore new
Comes access old (Refused fault) new count_before count = Takes old [] new × Refuses fault new.left
Comes access old (Over ending) new count_before count = Takes old [] new × EndsWith ending old.there new count_before count × NeedsMore new
Comes access old NoMemory new count_before count = Takes old [] new

-- whether one read found that the other side has ended, or failed
abbrev pub has_ended : Filled → Bool
has_ended (Done Closed) = true
has_ended (Done Truncated) = true
has_ended (Done ReadFault) = true
has_ended _ = false

-- the other side has ended, or a read has failed, and all that was read was fed
abbrev pub IsGone : Option (List ℕ) → Stand → ℕ → ℕ → Type 0
IsGone there new count_before count = (IsDone there new.there ⊎ Rose count_before count) × (new.unfed ≡ [])
