-- What a client's run does: the lines of its input are answered by a server.
use Rattle.std.specs.Prelude.{◌≡◌, ◌≢◌, ℕ, List, ◌∷◌, ◌++◌, Option}
use Rattle.sb_outside.specs.Causes.{RoseByOne}
use Rattle.sb_outside.specs.Streams.{Gains}
use Rattle.sb_outside.specs.Links.{Exchange}
use Rattle.sb_outside.specs.declared.link.Link.{Ghosts as Link}
use Rattle.sb_client.specs.Outside.{Outside as ClientSide}
use Rattle.sb_client.specs.Runs.{IsRun}
use Rattle.sb_client.specs.Replies.{HasNoLine}
use Rattle.sb_client.specs.declared.ending.ClientEnding.{ClientEnding}
use Rattle.sb_client.specs.declared.ending.ClientEnding.TheVariants.{Done, ReadFault, WriteFault, LinkFault, BadReply, LongInput, OutOfMemory}
use Rattle.sb_app.specs.Outside.{Outside}
use Rattle.sb_app.specs.Runs.{status_by}
use Rattle.sb_app.specs.Tops.{IsQuiet, IsShort, IsComplete}

-- a link: the key that is shown over it, and what it has exchanged, where it tells
pub record Exchanges : Type 0 where
  pub key : List ℕ
  pub told : Option (List Exchange)
  pub faults : ℕ

-- the key that is shown, what a link was told, and its count of faults
abbrev pub exchanges_of : {N : Type 0} → (key : List ℕ) → Link N → N → Exchanges
exchanges_of key link n = record { key = key; told = link.told n; faults = link.count n }

-- the status of a run that ended so
abbrev pub status_of_client : ClientEnding → ℕ
status_of_client (Done refused) = status_by refused
status_of_client ReadFault = 3
status_of_client WriteFault = 4
status_of_client OutOfMemory = 7
status_of_client LinkFault = 8
status_of_client BadReply = 9
status_of_client LongInput = 10

-- what a client sees of the outside
abbrev pub client_side : Outside → Exchanges → ClientSide
client_side outside link = record { key = link.key; left = outside.input.left; told = link.told; given = outside.output.given }

-- the link may have given this reply, by what it tells
abbrev pub MayHaveGiven : (told told_after : Option (List Exchange)) → (reply : List ℕ) → Type 0
MayHaveGiven told told_after reply = (before after : List Exchange) × (request : List ℕ) × Gains told told_after (before ++ record { request = request; reply = reply } ∷ after)

-- all that makes a client take its whole input, but for memory: the link tells its replies, and each has a reply line
pub record IsFreeClient (was now : Outside) (link link_now : Exchanges) : Type 0 where
  pub short : IsShort was.input.left
  pub input_quiet : IsQuiet was.input.faults now.input.faults
  pub output_quiet : IsQuiet was.output.faults now.output.faults
  pub link_quiet : IsQuiet link.faults link_now.faults
  pub answered : (reply : List ℕ) → MayHaveGiven link.told link_now.told reply → HasNoLine reply → ⊥

-- Each line of the input was answered by the server, up to the end that the status tells, and the disks weren't touched. A fault that
-- was met is told: a count rises by one with its status, and with no other.
pub record IsClientCall (was now : Outside) (link link_now : Exchanges) (status : ℕ) : Type 0 where
  pub end : ClientEnding
  pub says : status ≡ status_of_client end
  pub run : IsRun (client_side was link) (client_side now link_now) end
  pub disks : now.disks ≡ was.disks
  pub read_fault : status ≡ 3 → RoseByOne was.input.faults now.input.faults
  pub read_quiet : status ≢ 3 → now.input.faults ≡ was.input.faults
  pub write_fault : status ≡ 4 → RoseByOne was.output.faults now.output.faults
  pub write_quiet : status ≢ 4 → now.output.faults ≡ was.output.faults
  pub link_fault : status ≡ 8 → RoseByOne link.faults link_now.faults
  pub link_quiet : status ≢ 8 → link_now.faults ≡ link.faults
  pub complete : IsFreeClient was now link link_now → IsComplete status
