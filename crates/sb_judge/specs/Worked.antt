-- States that were judged by hand.
use Rattle.std.specs.Prelude.{ℕ, List, [], ◌∷◌, codes, Some, None, false}
use Rattle.sb_machine.specs.Namespace.{default_description, entity_path, empty_leaf}
use Rattle.sb_machine.specs.declared.call.Act.TheVariants as act
use Rattle.sb_machine.specs.declared.reply.Reply.TheVariants as reply
use Rattle.sb_machine.specs.declared.state.Entity.{Entity}
use Rattle.sb_machine.specs.declared.state.EntityKind.TheVariants.{Queue}
use Rattle.sb_machine.specs.declared.state.Hold.TheVariants.{Until}
use Rattle.sb_machine.specs.declared.state.Operation.TheVariants.{Send}
use Rattle.sb_machine.specs.declared.state.Standing.{Standing}
use Rattle.sb_machine.specs.declared.state.Standing.TheVariants.{Ready, Held}
use Rattle.sb_machine.specs.declared.state.State.{State}
use Rattle.sb_machine.specs.declared.state.StoredCopy.{StoredCopy}

-- a copy of a number, enqueued at 5, that stands so
abbrev copy : ℕ → Standing → StoredCopy
copy number standing = record { number = number; enqueued_seq = number; enqueued = 5; count = 0; hops = 0; standing = standing; message = record { body = codes "a"; sys = []; props = []; ttl = None; schedule = None } }

-- a queue that detects duplicates, with these copies, and a session that is held under lock 2
abbrev queue : List StoredCopy → Entity
queue copies = record {
  about = record { number = 1; kind = Queue; path = entity_path (codes "q"); description = record default_description { window = Some 20 }; rules = [] };
  ids = record { moment = 5; id = codes "m" } ∷ [];
  main = record { last = 2; copies = copies; sessions = record { id = codes "s"; state = Some (255 ∷ []); holder = Some (record { lock = 2; until = 60005 }) } ∷ [] };
  dead = empty_leaf;
  transfer = empty_leaf;
}

-- this queue, an open transaction of entity 1, and what is remembered for one client
abbrev state : List StoredCopy → State
state copies = record {
  now = 5;
  clients = record { client = codes "c"; number = 7; act = act.Begin (entity_path (codes "q")); reply = reply.Begun 1 } ∷ [];
  space = record {
    salt = 9;
    last_entity = 1;
    last_lock = 2;
    last_txn = 1;
    removed = 4;
    entities = queue copies ∷ [];
    transactions = record { number = 1; entity = 1; deadline = 120005; operations = Send (entity_path (codes "q")) (record { body = codes "b"; sys = []; props = []; ttl = None; schedule = None } ∷ []) ∷ [] } ∷ [];
  };
}

-- with a copy that may be received and one that is held
abbrev pub sound : State
sound = state (copy 1 Ready ∷ copy 2 (Held 1 (Until 60005) false) ∷ [])

-- two copies are held under one lock
abbrev pub lock_twice : State
lock_twice = state (copy 1 (Held 1 (Until 60005) false) ∷ copy 2 (Held 1 (Until 60005) false) ∷ [])

-- copies stand in falling numbers
abbrev pub falling : State
falling = state (copy 2 Ready ∷ copy 1 Ready ∷ [])
