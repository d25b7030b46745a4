-- Events whose bytes were worked out by hand: a tick, and one of each act.
use Rattle.std.specs.Prelude.{ℕ, pos, negsuc, List, [], ◌∷◌, ◌++◌, codes, Some, None, false, true}
use Rattle.sb_machine.specs.Namespace.{default_description, entity_path, subscription_path, part_path}
use Rattle.sb_machine.specs.declared.call.Act.{Act}
use Rattle.sb_machine.specs.declared.call.Act.TheVariants.{CreateQueue, CreateTopic, CreateSubscription, CreateRule, Delete, DeleteRule, Send, Cancel, Receive, ReceiveDeferred, Settle, Renew, Accept, SessionRenew, SessionClose, SessionSet, Begin, Commit, Rollback, Together, ForgetClient}
use Rattle.sb_machine.specs.declared.call.Event.{Event}
use Rattle.sb_machine.specs.declared.call.Event.TheVariants.{Tick, Called}
use Rattle.sb_machine.specs.declared.call.FilterText.TheVariants.{Sql, Correlation}
use Rattle.sb_machine.specs.declared.call.How.TheVariants.{Complete, DeadLetter}
use Rattle.sb_machine.specs.declared.call.Mode.TheVariants.{Lock, Delete as AndDelete}
use Rattle.sb_machine.specs.declared.call.Part.TheVariants.{Dead}
use Rattle.sb_machine.specs.declared.call.Step.TheVariants as step
use Rattle.sb_machine.specs.declared.call.Token.{Token}
use Rattle.sb_machine.specs.declared.call.Which.TheVariants.{Number, Id}
use Rattle.sb_model.specs.declared.message.Message.{Message}
use Rattle.sb_model.specs.declared.message.PropertyValue.TheVariants.{Int, Text, Bool as Truth}
use Rattle.sb_model.specs.declared.message.SystemName.TheVariants.{MessageId, Label}

-- a call at a moment, without a client's number
abbrev pub acted : ℕ → Act → Event
acted moment act = Called moment (record { by = None; act = act })

-- a message that has a body alone
abbrev pub body_only : List ℕ → Message
body_only body = record { body = body; sys = []; props = []; ttl = None; schedule = None }

-- the clock was read at 9
abbrev pub ticked : Event
ticked = Tick 9

-- its bytes
abbrev pub ticked_bytes : List ℕ
ticked_bytes = 0 ∷ 0 ∷ 0 ∷ 0 ∷ 0 ∷ 0 ∷ 0 ∷ 0 ∷ 9 ∷ []

-- a queue is made at 0
abbrev pub made : Event
made = acted 0 (CreateQueue (codes "q") default_description)

-- its bytes
abbrev pub made_bytes : List ℕ
made_bytes =
    1 ∷ 0 ∷ 0 ∷ 0 ∷ 0 ∷ 0 ∷ 0 ∷ 0 ∷ 0 ∷ 0 ∷ 1
    ∷ 0 ∷ 0 ∷ 0 ∷ 1 ∷ 113
    ∷ 0 ∷ 0 ∷ 0 ∷ 60 ∷ 0 ∷ 0 ∷ 0 ∷ 0 ∷ 10 ∷ 0 ∷ 0 ∷ 0 ∷ 1 ∷ 0 ∷ 0 ∷ []

-- ---- the other acts

-- the head of a call at 5 that nobody is named for, up to the act's code
abbrev at_5 : ℕ → List ℕ → List ℕ
at_5 code fields = 1 ∷ 0 ∷ 0 ∷ 0 ∷ 0 ∷ 0 ∷ 0 ∷ 0 ∷ 5 ∷ 0 ∷ code ∷ fields

-- a text of one letter; a number below 256 in 8 bytes
abbrev letter : ℕ → List ℕ
letter c = 0 ∷ 0 ∷ 0 ∷ 1 ∷ c ∷ []

abbrev eight : ℕ → List ℕ
eight n = 0 ∷ 0 ∷ 0 ∷ 0 ∷ 0 ∷ 0 ∷ 0 ∷ n ∷ []

-- the token of the first lock, in a namespace of salt a1b2c3d4e5f60718
abbrev first_token : Token
first_token = record { salt = 11651590505119483672; lock = 1 }

abbrev token_bytes : List ℕ
token_bytes = 161 ∷ 178 ∷ 195 ∷ 212 ∷ 229 ∷ 246 ∷ 7 ∷ 24 ∷ eight 1

-- a message with all that one may have
abbrev full : Message
full = record {
  body = 255 ∷ [];
  sys = record { name = MessageId; text = codes "m" } ∷ record { name = Label; text = codes "l" } ∷ [];
  props = record { name = codes "a"; value = Int (negsuc 6) } ∷ record { name = codes "b"; value = Text (codes "x") } ∷ record { name = codes "c"; value = Truth true } ∷ [];
  ttl = Some 60;
  schedule = Some 9;
}

abbrev full_bytes : List ℕ
full_bytes =
    letter 255
    ++ 0 ∷ 0 ∷ 0 ∷ 2 ∷ 1 ∷ letter 109
    ++ 2 ∷ letter 108
    ++ 0 ∷ 0 ∷ 0 ∷ 3 ∷ letter 97
    ++ 0 ∷ 255 ∷ 255 ∷ 255 ∷ 255 ∷ 255 ∷ 255 ∷ 255 ∷ 249 ∷ letter 98
    ++ 1 ∷ letter 120
    ++ letter 99
    ++ 2 ∷ 1 ∷ 1 ∷ eight 60
    ++ 1 ∷ eight 9

-- each event, and its bytes
abbrev pub entities : List (Event × List ℕ)
entities = (
  acted 5 (CreateTopic (codes "t") (record default_description { ttl = Some 60; window = Some 20 })),
  at_5 2 (letter 116 ++ 0 ∷ 0 ∷ 0 ∷ 60 ∷ 1 ∷ eight 60 ++ 0 ∷ 0 ∷ 0 ∷ 10 ∷ 1 ∷ 0 ∷ 0 ∷ 0 ∷ 20 ∷ 0 ∷ 0 ∷ 1 ∷ 0 ∷ 0 ∷ []),
)
    ∷ (
      acted 5 (CreateSubscription (codes "t") (codes "s") (record default_description { dead_on_expiry = true; dead_on_fault = false; forward_to = Some (codes "q"); forward_dead_to = Some (codes "d") })),
      at_5 3 (letter 116 ++ letter 115 ++ 0 ∷ 0 ∷ 0 ∷ 60 ∷ 0 ∷ 0 ∷ 0 ∷ 0 ∷ 10 ∷ 0 ∷ 0 ∷ 1 ∷ 0 ∷ 1 ∷ letter 113 ++ 1 ∷ letter 100),
    )
    ∷ (
      acted 5 (CreateRule (codes "t") (codes "s") (codes "r") (Sql (codes "1=1")) None),
      at_5 4 (letter 116 ++ letter 115 ++ letter 114 ++ 0 ∷ 0 ∷ 0 ∷ 0 ∷ 3 ∷ 49 ∷ 61 ∷ 49 ∷ 0 ∷ []),
    )
    ∷ (
      acted 5 (CreateRule (codes "t") (codes "s") (codes "r") (Correlation (record { sys = record { name = Label; text = codes "l" } ∷ []; props = record { name = codes "n"; value = Int (pos 7) } ∷ [] })) (Some (codes "x"))),
      at_5 4 (letter 116 ++ letter 115 ++ letter 114 ++ 1 ∷ 0 ∷ 0 ∷ 0 ∷ 1 ∷ 2 ∷ letter 108 ++ 0 ∷ 0 ∷ 0 ∷ 1 ∷ letter 110 ++ 0 ∷ eight 7 ++ 1 ∷ letter 120),
    )
    ∷ (acted 5 (Delete (subscription_path (codes "t") (codes "s"))), at_5 5 (letter 116 ++ 1 ∷ letter 115 ++ 0 ∷ []))
    ∷ (acted 5 (DeleteRule (codes "t") (codes "s") (codes "r")), at_5 6 (letter 116 ++ letter 115 ++ letter 114))
    ∷ []

abbrev pub copies : List (Event × List ℕ)
copies = (
  acted 5 (Send (entity_path (codes "q")) (body_only (codes "a") ∷ full ∷ []) (Some 1)),
  at_5 7 (letter 113 ++ 0 ∷ 0 ∷ 0 ∷ 0 ∷ 0 ∷ 2 ∷ letter 97 ++ 0 ∷ 0 ∷ 0 ∷ 0 ∷ 0 ∷ 0 ∷ 0 ∷ 0 ∷ 0 ∷ 0 ∷ full_bytes ++ 1 ∷ eight 1),
)
    ∷ (acted 5 (Cancel (entity_path (codes "q")) 3), at_5 8 (letter 113 ++ 0 ∷ 0 ∷ eight 3))
    ∷ (acted 5 (Receive (entity_path (codes "q")) AndDelete None), at_5 9 (letter 113 ++ 0 ∷ 0 ∷ 1 ∷ 0 ∷ []))
    ∷ (acted 5 (ReceiveDeferred (part_path Dead (codes "q")) 2 Lock (Some first_token)), at_5 10 (letter 113 ++ 0 ∷ 1 ∷ eight 2 ++ 0 ∷ 1 ∷ token_bytes))
    ∷ (acted 5 (Settle (entity_path (codes "q")) (Number 1) first_token None Complete None), at_5 11 (letter 113 ++ 0 ∷ 0 ∷ 0 ∷ eight 1 ++ token_bytes ++ 0 ∷ 0 ∷ 0 ∷ []))
    ∷ (
      acted 5 (Settle (entity_path (codes "q")) (Id (codes "m")) first_token (Some first_token) (DeadLetter (Some (codes "r")) None) (Some 2)),
      at_5 11 (letter 113 ++ 0 ∷ 0 ∷ 1 ∷ letter 109 ++ token_bytes ++ 1 ∷ token_bytes ++ 3 ∷ 1 ∷ letter 114 ++ 0 ∷ 1 ∷ eight 2),
    )
    ∷ (acted 5 (Renew (entity_path (codes "q")) (Number 1) first_token), at_5 12 (letter 113 ++ 0 ∷ 0 ∷ 0 ∷ eight 1 ++ token_bytes))
    ∷ []

abbrev pub sessions : List (Event × List ℕ)
sessions =
    (acted 5 (Accept (entity_path (codes "q")) (Some (codes "s"))), at_5 13 (letter 113 ++ 0 ∷ 0 ∷ 1 ∷ letter 115))
    ∷ (acted 5 (SessionRenew (entity_path (codes "q")) first_token), at_5 14 (letter 113 ++ 0 ∷ 0 ∷ token_bytes))
    ∷ (acted 5 (SessionClose (entity_path (codes "q")) first_token), at_5 15 (letter 113 ++ 0 ∷ 0 ∷ token_bytes))
    ∷ (acted 5 (SessionSet (entity_path (codes "q")) first_token (Some (255 ∷ []))), at_5 16 (letter 113 ++ 0 ∷ 0 ∷ token_bytes ++ 1 ∷ letter 255))
    ∷ (acted 5 (Begin (entity_path (codes "q"))), at_5 17 (letter 113 ++ 0 ∷ 0 ∷ []))
    ∷ (acted 5 (Commit 1), at_5 18 (eight 1))
    ∷ (acted 5 (ForgetClient (codes "old")), at_5 33 (0 ∷ 0 ∷ 0 ∷ 3 ∷ 111 ∷ 108 ∷ 100 ∷ []))
    -- for client c, its number 7
    ∷ (Called 5 (record { by = Some (record { client = codes "c"; number = 7 }); act = Rollback 1 }), 1 ∷ eight 5 ++ 1 ∷ letter 99 ++ eight 7 ++ 19 ∷ eight 1)
    ∷ []

-- a message is settled, one is sent by way of the queue, and a session's state is cleared
abbrev pub together : List (Event × List ℕ)
together = (
  acted 5 (
      Together (entity_path (codes "q")) (
      step.Settle (entity_path (codes "q")) (Number 1) first_token (Some first_token) Complete
      ∷ step.Send (entity_path (codes "r")) (body_only (codes "a") ∷ [])
      ∷ step.SessionSet (entity_path (codes "q")) first_token None
      ∷ []
      )
      ),
  at_5 32 (
      letter 113
      ++ 0 ∷ 0 ∷ 0 ∷ 0 ∷ 0 ∷ 3 ∷ 11 ∷ letter 113
      ++ 0 ∷ 0 ∷ 0 ∷ eight 1
      ++ token_bytes
      ++ 1 ∷ token_bytes
      ++ 0 ∷ 7 ∷ letter 114
      ++ 0 ∷ 0 ∷ 0 ∷ 0 ∷ 0 ∷ 1 ∷ letter 97
      ++ 0 ∷ 0 ∷ 0 ∷ 0 ∷ 0 ∷ 0 ∷ 0 ∷ 0 ∷ 0 ∷ 0 ∷ 16 ∷ letter 113
      ++ 0 ∷ 0 ∷ token_bytes
      ++ 0 ∷ []
      ),
)
    ∷ []
