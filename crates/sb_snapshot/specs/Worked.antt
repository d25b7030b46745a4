-- States, and what stands in them, whose bytes were worked out by hand.
use Rattle.std.specs.Prelude.{ℕ, List, [], ◌∷◌, ◌++◌, codes, replicate, Some, None, false, true}
use Rattle.sb_model.specs.declared.message.Message.{Message}
use Rattle.sb_model.specs.declared.message.SystemName.TheVariants.{MessageId}
use Rattle.sb_machine.specs.Namespace.{default_description, entity_path, empty_leaf}
use Rattle.sb_machine.specs.declared.call.Act.TheVariants as act
use Rattle.sb_machine.specs.declared.call.How.TheVariants.{DeadLetter}
use Rattle.sb_machine.specs.declared.call.Part.TheVariants.{Dead}
use Rattle.sb_machine.specs.declared.call.Token.{Token}
use Rattle.sb_machine.specs.declared.reply.CopyShown.{CopyShown}
use Rattle.sb_machine.specs.declared.reply.Receipt.TheVariants.{Number, Duplicate}
use Rattle.sb_machine.specs.declared.reply.Reply.{Reply}
use Rattle.sb_machine.specs.declared.reply.Reply.TheVariants as reply
use Rattle.sb_machine.specs.declared.reply.Showing.TheVariants.{Removed, Locked}
use Rattle.sb_machine.specs.declared.reply.StepReply.TheVariants as told
use Rattle.sb_machine.specs.declared.rule.Rule.{Rule}
use Rattle.sb_machine.specs.declared.rule.RuleFilter.TheVariants.{Sql, Correlation}
use Rattle.sb_machine.specs.declared.state.Entity.{Entity}
use Rattle.sb_machine.specs.declared.state.EntityKind.{EntityKind}
use Rattle.sb_machine.specs.declared.state.EntityKind.TheVariants.{Queue, Topic, Subscription}
use Rattle.sb_machine.specs.declared.state.Hold.TheVariants.{Until, Session as UnderSession}
use Rattle.sb_machine.specs.declared.state.Operation.{Operation}
use Rattle.sb_machine.specs.declared.state.Operation.TheVariants.{Send, Settle}
use Rattle.sb_machine.specs.declared.state.Standing.{Standing}
use Rattle.sb_machine.specs.declared.state.Standing.TheVariants.{Ready, Deferred, Held, Scheduled}
use Rattle.sb_machine.specs.declared.state.State.{State}

-- a number below 256 in 8 bytes, and in 4; a text of one letter
abbrev eight : ℕ → List ℕ
eight n = 0 ∷ 0 ∷ 0 ∷ 0 ∷ 0 ∷ 0 ∷ 0 ∷ n ∷ []

abbrev four : ℕ → List ℕ
four n = 0 ∷ 0 ∷ 0 ∷ n ∷ []

abbrev letter : ℕ → List ℕ
letter c = 0 ∷ 0 ∷ 0 ∷ 1 ∷ c ∷ []

-- the moment 60,005
abbrev at_60005 : List ℕ
at_60005 = 0 ∷ 0 ∷ 0 ∷ 0 ∷ 0 ∷ 0 ∷ 234 ∷ 101 ∷ []

-- a message of one letter, and its bytes
abbrev said : List ℕ → Message
said body = record { body = body; sys = []; props = []; ttl = None; schedule = None }

abbrev said_bytes : ℕ → List ℕ
said_bytes c = letter c ++ four 0 ++ four 0 ++ 0 ∷ 0 ∷ []

-- the address of the queue q
abbrev q_bytes : List ℕ
q_bytes = letter 113 ++ 0 ∷ 0 ∷ []

-- ---- the empty state

-- four numbers, five empty lists and a sum
abbrev pub empty_bytes : List ℕ
empty_bytes = replicate 80 0

-- ---- how a copy stands, and its bytes

abbrev pub standings : List (Standing × List ℕ)
standings =
    (Ready, 0 ∷ [])
    ∷ (Deferred, 1 ∷ [])
    ∷ (Held 1 (Until 60005) false, 2 ∷ eight 1 ++ 0 ∷ at_60005 ++ 0 ∷ [])
    ∷ (Held 2 (UnderSession 1) true, 2 ∷ eight 2 ++ 1 ∷ eight 1 ++ 1 ∷ [])
    ∷ (Scheduled 60005, 3 ∷ at_60005)
    ∷ []

-- ---- kinds of entities

abbrev pub kinds : List (EntityKind × List ℕ)
kinds = (Queue, 0 ∷ []) ∷ (Topic, 1 ∷ []) ∷ (Subscription, 2 ∷ []) ∷ []

-- ---- rules

abbrev pub rules : List (Rule × List ℕ)
rules =
    (record { name = codes "r"; filter = Sql (codes "1=1"); action = None }, letter 114 ++ 0 ∷ 0 ∷ 0 ∷ 0 ∷ 3 ∷ 49 ∷ 61 ∷ 49 ∷ 0 ∷ [])
    ∷ (
      record { name = codes "r"; filter = Correlation (record { sys = record { name = MessageId; text = codes "m" } ∷ []; props = [] }); action = Some (codes "x") },
      letter 114 ++ 1 ∷ four 1 ++ 1 ∷ letter 109 ++ four 0 ++ 1 ∷ letter 120,
    )
    ∷ []

-- ---- what a transaction has queued

-- the token of the first lock, in a namespace of salt a1b2c3d4e5f60718
abbrev first_token : Token
first_token = record { salt = 11651590505119483672; lock = 1 }

abbrev token_bytes : List ℕ
token_bytes = 161 ∷ 178 ∷ 195 ∷ 212 ∷ 229 ∷ 246 ∷ 7 ∷ 24 ∷ eight 1

abbrev pub operations : List (Operation × List ℕ)
operations =
    (Send (entity_path (codes "q")) (said (codes "c") ∷ []), 0 ∷ q_bytes ++ four 1 ++ said_bytes 99)
    ∷ (
      Settle (entity_path (codes "q")) 1 first_token (Some first_token) (DeadLetter (Some (codes "r")) None),
      1 ∷ q_bytes ++ eight 1 ++ token_bytes ++ 1 ∷ token_bytes ++ 3 ∷ 1 ∷ letter 114 ++ 0 ∷ [],
    )
    ∷ []

-- ---- replies

-- a copy that was handed out for the second time
abbrev given : CopyShown
given = record { number = 3; enqueued_seq = 2; enqueued = 5; delivery = 2; showing = Removed; message = said (codes "a") }

abbrev pub replies : List (Reply × List ℕ)
replies =
    (reply.Done, 0 ∷ [])
    ∷ (reply.Sent (Number 1 ∷ Duplicate ∷ []), 1 ∷ four 2 ++ 1 ∷ eight 1 ++ 0 ∷ [])
    ∷ (reply.Message given, 2 ∷ eight 3 ++ eight 2 ++ eight 5 ++ four 1 ++ 0 ∷ said_bytes 97)
    ∷ (reply.Message (record given { showing = Locked first_token 60005 }), 2 ∷ eight 3 ++ eight 2 ++ eight 5 ++ four 1 ++ 1 ∷ token_bytes ++ at_60005 ++ said_bytes 97)
    ∷ (reply.Empty, 3 ∷ [])
    ∷ (reply.Expired 1, 4 ∷ eight 1)
    ∷ (reply.Session (codes "s") first_token 60005, 5 ∷ letter 115 ++ token_bytes ++ at_60005)
    ∷ (reply.Renewed 60005, 6 ∷ at_60005)
    ∷ (reply.Begun 1, 7 ∷ eight 1)
    ∷ (reply.Queued, 8 ∷ [])
    ∷ (reply.Committed, 9 ∷ [])
    ∷ (reply.Aborted Dead 1, 10 ∷ 1 ∷ eight 1)
    ∷ (reply.Together (told.Done ∷ told.Sent (Number 1 ∷ Duplicate ∷ []) ∷ []), 32 ∷ four 2 ++ 0 ∷ 1 ∷ four 2 ++ 1 ∷ eight 1 ++ 0 ∷ [])
    ∷ []

-- ---- a small state

-- a queue that detects duplicates, with two messages, a session that is held, and an id that was accepted
abbrev queue : Entity
queue = record {
  about = record { number = 1; kind = Queue; path = entity_path (codes "q"); description = record default_description { window = Some 20 }; rules = [] };
  ids = record { moment = 5; id = codes "m" } ∷ [];
  main = record {
    last = 2;
    copies = record { number = 1; enqueued_seq = 1; enqueued = 5; count = 0; hops = 0; standing = Ready; message = said (codes "a") }
        ∷ record { number = 2; enqueued_seq = 2; enqueued = 5; count = 1; hops = 4; standing = Held 1 (Until 60005) true; message = said (codes "b") }
        ∷ [];
    sessions = record { id = codes "s"; state = Some (255 ∷ []); holder = Some (record { lock = 2; until = 60005 }) } ∷ [];
  };
  dead = empty_leaf;
  transfer = record { last = 3; copies = []; sessions = [] };
}

-- this queue, an open transaction that has queued a send, and what is remembered for one client
abbrev pub small : State
small = record {
  now = 5;
  clients = record { client = codes "c"; number = 7; act = act.Begin (entity_path (codes "q")); reply = reply.Begun 1 } ∷ [];
  space = record {
    salt = 11651590505119483672;
    last_entity = 1;
    last_lock = 2;
    last_txn = 1;
    removed = 4;
    entities = queue ∷ [];
    transactions = record { number = 1; entity = 1; deadline = 120005; operations = Send (entity_path (codes "q")) (said (codes "c") ∷ []) ∷ [] } ∷ [];
  };
}

-- the entity, with its description and its id
abbrev queue_bytes : List ℕ
queue_bytes =
    eight 1
    ++ 0 ∷ q_bytes
    ++ four 60
    ++ 0 ∷ four 10
    ++ 1 ∷ four 20
    ++ 0 ∷ 0 ∷ 1 ∷ 0 ∷ 0 ∷ eight 0
    ++ eight 1
    ++ eight 5
    ++ letter 109

-- its three parts
abbrev leaves_bytes : List ℕ
leaves_bytes =
    eight 1
    ++ 0 ∷ eight 2
    ++ eight 2
    ++ (eight 1 ++ eight 1 ++ eight 5 ++ four 0 ++ 0 ∷ 0 ∷ said_bytes 97)
    ++ (eight 2 ++ eight 2 ++ eight 5 ++ four 1 ++ 4 ∷ 2 ∷ eight 1 ++ 0 ∷ at_60005 ++ 1 ∷ said_bytes 98)
    ++ (eight 1 ++ 1 ∷ eight 0 ++ eight 0)
    ++ (eight 1 ++ 2 ∷ eight 3 ++ eight 0)

-- its bytes
abbrev pub small_bytes : List ℕ
small_bytes =
    eight 5
    ++ eight 2
    ++ eight 1
    ++ eight 1
    ++ eight 1
    ++ queue_bytes
    ++ eight 3
    ++ leaves_bytes
    ++ eight 4
    ++ (eight 1 ++ eight 1 ++ 0 ∷ letter 115 ++ 1 ∷ letter 255 ++ 1 ∷ eight 2 ++ at_60005)
    ++ (eight 1 ++ eight 1 ++ eight 1 ++ 0 ∷ 0 ∷ 0 ∷ 0 ∷ 0 ∷ 1 ∷ 212 ∷ 197 ∷ four 1 ++ 0 ∷ q_bytes ++ four 1 ++ said_bytes 99)
    ++ (eight 1 ++ letter 99 ++ eight 7 ++ 17 ∷ q_bytes ++ 7 ∷ eight 1)
