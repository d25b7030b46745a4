-- Deliveries worked through.
use Rattle.std.specs.Prelude.{ℕ, List, [], ◌∷◌, codes, Bool, true, Some, None, map}
use Rattle.sb_machine.specs.Changes.{after_all}
use Rattle.sb_machine.specs.Delivery.{delivered}
use Rattle.sb_machine.specs.Due.{sweep_expired}
use Rattle.sb_machine.specs.Namespace.{default_description, empty_space, new_entity, listed, entity_path, subscription_path}
use Rattle.sb_machine.specs.Visits.{visits, passage}
use Rattle.sb_machine.specs.declared.call.Description.{Description}
use Rattle.sb_model.specs.declared.message.Message.{Message}
use Rattle.sb_machine.specs.declared.rule.Rule.{Rule}
use Rattle.sb_machine.specs.declared.state.EntityKind.TheVariants.{Queue, Topic, Subscription}
use Rattle.sb_machine.specs.declared.state.Leaf.{Leaf}
use Rattle.sb_machine.specs.declared.state.Listed.{Listed}
use Rattle.sb_machine.specs.declared.state.Space.{Space}
use Rattle.sb_machine.specs.declared.state.Standing.TheVariants.{Ready}
use Rattle.sb_machine.specs.declared.state.StoredCopy.{StoredCopy}
use Rattle.sb_fanout.specs.WorkedRules.{plain, selecting, five_rules, failing}

-- a queue of this number and name
abbrev pub of_queue : ℕ → List ℕ → Description → Listed
of_queue n name description = record { number = n; kind = Queue; path = entity_path name; description = description; rules = [] }

-- a topic of this number and name
abbrev pub of_topic : ℕ → List ℕ → Description → Listed
of_topic n name description = record { number = n; kind = Topic; path = entity_path name; description = description; rules = [] }

-- a subscription of this number, of a topic
abbrev pub of_subscription : ℕ → List ℕ → List ℕ → Description → List Rule → Listed
of_subscription n topic name description rules = record { number = n; kind = Subscription; path = subscription_path topic name; description = description; rules = rules }

-- a rule that takes everything
abbrev pub always : List Rule
always = selecting (codes "r") (codes "1=1") ∷ []

-- an entity that forwards to this one
abbrev pub forwarding : List ℕ → Description
forwarding to = record default_description { forward_to = Some to }

-- a namespace of these, with nothing in them
abbrev pub starting : List Listed → Space
starting abouts = record (empty_space 0) { entities = map new_entity abouts }

-- the namespace once a plain message has entered an entity at t
abbrev pub entered : ℕ → Listed → Space → Space
entered t e s = after_all t (delivered None (visits (listed s) 0 e plain) s) s

-- the namespace once a plain message was forwarded from an entity at t
abbrev pub handed_on : ℕ → Listed → List ℕ → Space → Space
handed_on t e to s = after_all t (delivered None (passage (listed s) 0 e plain to) s) s

-- the parts of each entity
abbrev pub leaves : Space → List (Leaf × Leaf × Leaf)
leaves s = map (λ e. (e.main, e.dead, e.transfer)) s.entities

-- a part whose last number is this, and which has these messages
abbrev pub leaf_with : ℕ → List StoredCopy → Leaf
leaf_with last copies = record { last = last; copies = copies; sessions = [] }

-- a message that stands ready, undelivered
abbrev pub copy_of : ℕ → ℕ → ℕ → ℕ → Message → StoredCopy
copy_of number seq t hops m = record { number = number; enqueued_seq = seq; enqueued = t; count = 0; hops = hops; standing = Ready; message = m }

-- ---- a topic with one subscription

abbrev pub topic : Listed
topic = of_topic 1 (codes "t") default_description

-- a plain message entered the topic, whose subscription has these rules
abbrev pub with_rules : Description → List Rule → Space
with_rules description rules = entered 7 topic (starting (topic ∷ of_subscription 2 (codes "t") (codes "s") description rules ∷ []))

-- the same with five rules
abbrev pub fan_of_five : Space
fan_of_five = with_rules default_description five_rules

-- the same with a rule that fails, which dead-letters or doesn't
abbrev pub fan_to_failing : Bool → Space
fan_to_failing dead_on_fault = with_rules (record default_description { dead_on_fault = dead_on_fault }) (selecting (codes "r") failing ∷ [])

-- ---- six queues in a row

abbrev pub first_of_six : Listed
first_of_six = of_queue 1 (codes "q1") (forwarding (codes "q2"))

-- all six, each forwarding to the next
abbrev pub six : List Listed
six = first_of_six ∷ of_queue 2 (codes "q2") (forwarding (codes "q3")) ∷ of_queue 3 (codes "q3") (forwarding (codes "q4")) ∷ of_queue 4 (codes "q4") (forwarding (codes "q5")) ∷ of_queue 5 (codes "q5") (forwarding (codes "q6")) ∷ of_queue 6 (codes "q6") default_description ∷ []

-- ---- a queue whose dead letters come back

abbrev pub circle : Listed
circle = of_queue 1 (codes "z") (record default_description { ttl = Some 1; dead_on_expiry = true; forward_dead_to = Some (codes "z") })

-- the namespace once what has expired at t is taken up
abbrev pub swept : ℕ → Space → Space
swept t s = after_all t (sweep_expired t s) s

-- a message has expired four times, a second apart
abbrev pub after_4 : Space
after_4 = swept 4000 (swept 3000 (swept 2000 (swept 1000 (entered 0 circle (starting (circle ∷ []))))))

-- with so many seconds to live
abbrev pub living : ℕ → Message → Message
living n m = record m { ttl = Some n }

-- ---- names in order, and times to live: `b` is older and forwards to a queue, `a` has 30 s to live

abbrev pub minute : Listed
minute = of_topic 1 (codes "t") (record default_description { ttl = Some 60 })

abbrev pub queue : Listed
queue = of_queue 5 (codes "q") default_description

-- a topic, two subscriptions of it, one of another topic, and the queue
abbrev pub two_names : List Listed
two_names =
    minute
    ∷ of_subscription 2 (codes "t") (codes "b") (forwarding (codes "q")) always
    ∷ of_subscription 3 (codes "t") (codes "a") (record default_description { ttl = Some 30 }) always
    ∷ of_subscription 4 (codes "u") (codes "a") default_description always
    ∷ queue ∷ []

-- ---- a topic whose subscription forwards to a topic, whose subscription forwards back

abbrev pub first_topic : Listed
first_topic = of_topic 1 (codes "t") default_description

-- both topics and both subscriptions
abbrev pub two_topics : List Listed
two_topics =
    first_topic
    ∷ of_subscription 2 (codes "t") (codes "s") (forwarding (codes "u")) always
    ∷ of_topic 3 (codes "u") default_description
    ∷ of_subscription 4 (codes "u") (codes "s") (forwarding (codes "t")) always
    ∷ []

-- ---- a queue for sessions alone, which forwards its dead letters to a name that isn't there

abbrev pub sessions : Listed
sessions = of_queue 1 (codes "s") (record default_description { requires_session = true; forward_dead_to = Some (codes "nowhere") })
