-- Lines that were worked out by hand.
use Rattle.std.specs.Prelude.{ℕ, pos, List, [], ◌∷◌, false, true, codes, Some, None, Result, Ok, Err}
use Rattle.sb_machine.specs.declared.call.Act.{Act}
use Rattle.sb_machine.specs.declared.call.Act.TheVariants.{CreateRule, Receive, Accept, Together, ForgetClient, Look as LookAt}
use Rattle.sb_machine.specs.declared.call.FilterText.TheVariants.{Sql, Correlation}
use Rattle.sb_machine.specs.declared.call.Mode.TheVariants.{Lock}
use Rattle.sb_machine.specs.declared.call.Part.TheVariants.{Main}
use Rattle.sb_machine.specs.declared.call.Path.{Path}
use Rattle.sb_machine.specs.declared.call.Step.{Step}
use Rattle.sb_machine.specs.declared.call.Step.TheVariants.{Send}
use Rattle.sb_machine.specs.declared.look.ClientShown.{ClientShown}
use Rattle.sb_machine.specs.declared.look.EntityShown.{EntityShown}
use Rattle.sb_machine.specs.declared.look.Look.{Look}
use Rattle.sb_machine.specs.declared.look.PartShown.{PartShown}
use Rattle.sb_machine.specs.declared.look.SessionShown.{SessionShown}
use Rattle.sb_machine.specs.declared.look.TransactionShown.{TransactionShown}
use Rattle.sb_machine.specs.declared.look.View.{View}
use Rattle.sb_machine.specs.declared.look.View.TheVariants as seen
use Rattle.sb_machine.specs.declared.reply.Answered.TheVariants.{New}
use Rattle.sb_machine.specs.declared.reply.PartRefusal.{PartRefusal}
use Rattle.sb_machine.specs.declared.reply.Receipt.TheVariants.{Number, Duplicate}
use Rattle.sb_machine.specs.declared.reply.Refusal.TheVariants.{InPart}
use Rattle.sb_machine.specs.declared.reply.Reply.TheVariants.{Seen, Together as Told}
use Rattle.sb_machine.specs.declared.reply.StepReply.{StepReply}
use Rattle.sb_machine.specs.declared.reply.StepReply.TheVariants.{Done, Sent}
use Rattle.sb_machine.specs.declared.rule.Conditions.{Conditions}
use Rattle.sb_machine.specs.declared.state.EntityKind.TheVariants.{Queue, Subscription}
use Rattle.sb_machine.specs.Namespace.{default_description, entity_path, subscription_path}
use Rattle.sb_model.specs.declared.message.PropertyValue.TheVariants.{Int, Bool as Truth}
use Rattle.sb_model.specs.declared.message.SystemName.TheVariants.{Label, To}
use Rattle.sb_lines.specs.declared.fault.KeyFault.{KeyFault}
use Rattle.sb_lines.specs.declared.form.Form.{Form}
use Rattle.sb_lines.specs.declared.form.Form.TheVariants.{Plain}
use Rattle.sb_lines.specs.declared.line.Line.{Line}
use Rattle.sb_lines.specs.Replies.{answer_line}

-- the queue q
abbrev pub q : Path
q = record { name = codes "q"; subscription = None; part = Main }

-- this act of nobody at 0, with a reply in this form, which waits so many s
abbrev pub asks_for : Act → Form → ℕ → Result Line KeyFault
asks_for act form wait_s = Ok (record { timed = record { reading = 0; call = record { by = None; act = act } }; form = form; wait_s = wait_s })

-- a receive under a lock from q, which waits so many s
abbrev pub receives : Form → ℕ → Result Line KeyFault
receives form wait_s = asks_for (Receive q Lock None) form wait_s

-- the next session of q is asked for
abbrev pub accepts : ℕ → Result Line KeyFault
accepts wait_s = asks_for (Accept q None) Plain wait_s

-- ---- what an operator looks at

-- this look, of nobody at 0
abbrev pub looks_at : Look → Result Line KeyFault
looks_at what = asks_for (LookAt what) Plain 0

-- the subscription eu of the topic news
abbrev pub eu : Path
eu = subscription_path (codes "news") (codes "eu")

-- a part in which nothing is
abbrev pub nothing_in : PartShown
nothing_in = record { ready = 0; held = 0; deferred = 0; scheduled = 0; oldest = None }

-- a part with two messages that may be received, the first since 5, and one under a lock
abbrev pub three_in : PartShown
three_in = record { ready = 2; held = 1; deferred = 0; scheduled = 0; oldest = Some 5 }

-- the queue orders with three messages
abbrev pub orders_shown : EntityShown
orders_shown = record { kind = Queue; path = entity_path (codes "orders"); main = three_in; dead = nothing_in; transfer = nothing_in; sessions = 0; held_sessions = 0 }

-- a queue whose messages go on to bills, which is there
abbrev pub forwarding : View
forwarding = seen.Entity (record { kind = Queue; description = record default_description { lock = 30; forward_to = Some (codes "bills") }; forward_there = true; forward_dead_there = false; rules = [] })

-- a subscription of dear things
abbrev pub dear_things : View
dear_things = seen.Entity (record { kind = Subscription; description = record default_description { lock = 30 }; forward_there = false; forward_dead_there = false; rules = record { name = codes "dear"; filter = Sql (codes "a > 1"); action = Some (codes "SET a = 1") } ∷ [] })

-- one label, one receiver, and two properties
abbrev pub asked : Conditions
asked = record {
  sys = record { name = Label; text = codes "l" } ∷ record { name = To; text = codes "t" } ∷ [];
  props = record { name = codes "a"; value = Int (pos 1) } ∷ record { name = codes "b"; value = Truth true } ∷ [];
}

-- a subscription of what those conditions ask for
abbrev pub correlated : View
correlated = seen.Entity (record { kind = Subscription; description = default_description; forward_there = false; forward_dead_there = false; rules = record { name = codes "r"; filter = Correlation asked; action = None } ∷ [] })

-- that rule is made
abbrev pub asks_for_rule : Result Line KeyFault
asks_for_rule = asks_for (CreateRule (codes "t") (codes "s") (codes "r") (Correlation asked) None) Plain 0

-- a session that nobody holds, with two messages
abbrev pub waiting_session : SessionShown
waiting_session = record { id = codes "s1"; until = None; state_bytes = 0; ready = 2 }

-- a transaction on orders, and one whose entity is gone
abbrev pub open_transactions : List TransactionShown
open_transactions = record { number = 1; entity = Some (entity_path (codes "orders")); deadline = 120000; operations = 2 } ∷ record { number = 2; entity = None; deadline = 120001; operations = 0 } ∷ []

-- ---- clients

-- the client shop-7 is forgotten: this is asked by nobody at 0
abbrev pub forgets : Result Line KeyFault
forgets = asks_for (ForgetClient (codes "shop-7")) Plain 0

-- the same at 5, as its third call asked by the client ops
abbrev pub ops_forgets : Result Line KeyFault
ops_forgets = Ok (record { timed = record { reading = 5; call = record { by = Some (record { client = codes "ops"; number = 3 }); act = ForgetClient (codes "shop-7") } }; form = Plain; wait_s = 0 })

-- two clients that are remembered
abbrev pub two_clients : List ClientShown
two_clients = record { client = codes "shop-7"; number = 12 } ∷ record { client = codes "shop-8"; number = 1 } ∷ []

-- ---- operations that act together

-- a send of no messages to q
abbrev pub sends_nothing : Step
sends_nothing = Send q []

-- these act together on q: this is asked by nobody at 0
abbrev pub acts_together : List Step → Result Line KeyFault
acts_together steps = asks_for (Together q steps) Plain 0

-- a settlement, a send of two messages of which the second is a duplicate, and a send of none
abbrev pub three_replies : List StepReply
three_replies = Done ∷ Sent (Number 3 ∷ Duplicate ∷ []) ∷ Sent [] ∷ []

-- ---- lines of replies

-- the line that shows this
abbrev pub line_of_view : View → List ℕ
line_of_view view = answer_line Plain (Ok (New (Seen view)))

-- the line that tells what became of operations that acted together
abbrev pub line_of_replies : List StepReply → List ℕ
line_of_replies replies = answer_line Plain (Ok (New (Told replies)))

-- the line that tells which of operations that act together is refused, and why
abbrev pub line_of_part : ℕ → PartRefusal → List ℕ
line_of_part part reason = answer_line Plain (Err (InPart part reason))
