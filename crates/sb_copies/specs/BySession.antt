-- Messages as rows in an index by session, under half a hash of its id.
use Rattle.std.specs.Prelude.{ℕ, ◌/◌, List, Option}
use Rattle.std.specs.Option.{option_map}
use Rattle.sb_index.specs.Hashes.{hash}
use Rattle.sb_index.specs.declared.row.Row.{Row}
use Rattle.sb_machine.specs.Leases.{is_ready}
use Rattle.sb_machine.specs.Messages.{text_of}
use Rattle.sb_machine.specs.declared.state.StoredCopy.{StoredCopy}
use Rattle.sb_model.specs.declared.message.SystemName.TheVariants.{SessionId}
use Rattle.sb_copies.specs.Grouped.{HoldsGroups}

-- half a hash: keys of 128 bits then have room behind the last of them
abbrev pub session_hash : List ℕ → ℕ
session_hash id = hash id / 2

-- that of the session that a message is of
abbrev pub session_hash_of : StoredCopy → Option ℕ
session_hash_of c = option_map session_hash (text_of SessionId c.message)

-- under each hash stand the rows of the messages whose session's id comes to it, in their order, marked where they may be received
abbrev pub HoldsSessions : List Row → List StoredCopy → Type 0
HoldsSessions rows copies = HoldsGroups session_hash_of (λ c. is_ready c.standing) rows copies
