-- The fields of a description: those that a kind has may stand, each with its default; the machine judges their ranges.
use Rattle.std.specs.Prelude.{ℕ, List, true, false, codes, Option}
use Rattle.sb_machine.specs.declared.call.Description.{Description}
use Rattle.sb_machine.specs.Namespace.{default_description}
use Rattle.sb_lines.specs.Tables.{Field, name, whole, whole_or, truth_or, ◌and◌, optional, made}

-- a whole number that may be left out
abbrev pub whole_if : List ℕ → Field (Option ℕ)
whole_if key = optional key (whole key)

-- a name that may be left out
abbrev pub name_if : List ℕ → Field (Option (List ℕ))
name_if key = optional key (name key)

-- what the description of a queue may have
unfoldable pub queue_fields : Field Description
queue_fields =
    made (λ x. record default_description {
      lock = x.0;
      ttl = x.1.0;
      max_delivery = x.1.1.0;
      window = x.1.1.1.0;
      requires_session = x.1.1.1.1.0;
      dead_on_expiry = x.1.1.1.1.1.0;
      forward_to = x.1.1.1.1.1.1.0;
      forward_dead_to = x.1.1.1.1.1.1.1;
    })
    (whole_or (codes "lock") 60 and whole_if (codes "ttl") and whole_or (codes "max_delivery") 10 and whole_if (codes "window") and truth_or (codes "requires_session") false
    and truth_or (codes "dead_on_expiry") false and name_if (codes "forward_to") and name_if (codes "forward_dead_to"))

-- what the description of a topic may have
unfoldable pub topic_fields : Field Description
topic_fields = made (λ x. record default_description { ttl = x.0; window = x.1 }) (whole_if (codes "ttl") and whole_if (codes "window"))

-- what the description of a subscription may have
unfoldable pub subscription_fields : Field Description
subscription_fields =
    made (λ x. record default_description {
      lock = x.0;
      ttl = x.1.0;
      max_delivery = x.1.1.0;
      requires_session = x.1.1.1.0;
      dead_on_expiry = x.1.1.1.1.0;
      dead_on_fault = x.1.1.1.1.1.0;
      forward_to = x.1.1.1.1.1.1.0;
      forward_dead_to = x.1.1.1.1.1.1.1;
    })
    (whole_or (codes "lock") 60 and whole_if (codes "ttl") and whole_or (codes "max_delivery") 10 and truth_or (codes "requires_session") false and truth_or (codes "dead_on_expiry") false
    and truth_or (codes "dead_on_fault") true and name_if (codes "forward_to") and name_if (codes "forward_dead_to"))
