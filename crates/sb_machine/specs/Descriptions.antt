-- What a description may hold for each kind of entity.
use Rattle.std.specs.Prelude.{ℕ, List, Bool, true, false, ◌==◌, ◌||◌, not, if◌then◌else◌, codes, Option, Some, None, is_none}
use Rattle.sb_machine.specs.Fields.{Key, first_some, unless, is_between, is_between_or_none, max_ttl}
use Rattle.sb_machine.specs.Names.{is_name}
use Rattle.sb_machine.specs.declared.call.Description.{Description}
use Rattle.sb_machine.specs.declared.state.EntityKind.{EntityKind}
use Rattle.sb_machine.specs.declared.state.EntityKind.TheVariants.{Queue, Topic, Subscription}

-- messages wait in it
abbrev pub has_copies : EntityKind → Bool
has_copies Queue = true
has_copies Topic = false
has_copies Subscription = true

-- messages are sent to it
abbrev pub is_sent_to : EntityKind → Bool
is_sent_to Queue = true
is_sent_to Topic = true
is_sent_to Subscription = false

-- whether an entity of this kind has rules
abbrev pub has_rules : EntityKind → Bool
has_rules Queue = false
has_rules Topic = false
has_rules Subscription = true

-- whether a destination is left out, or is a name
abbrev pub is_name_or_none : Option (List ℕ) → Bool
is_name_or_none None = true
is_name_or_none (Some name) = is_name name

-- in range where the kind has the field, else its default
abbrev pub is_fit : Bool → Bool → Bool → Bool
is_fit has good default = if has then good else default

-- the first field that is out of range
abbrev pub bad_in_description : EntityKind → Description → Key
bad_in_description k d =
    first_some (unless (is_fit (has_copies k) (is_between 1 300 d.lock) (d.lock == 60)) (codes "lock"))
    (first_some (unless (is_between_or_none 1 max_ttl d.ttl) (codes "ttl"))
    (first_some (unless (is_fit (has_copies k) (is_between 1 2000 d.max_delivery) (d.max_delivery == 10)) (codes "max_delivery"))
    (first_some (unless (is_fit (is_sent_to k) (is_between_or_none 20 604800 d.window) (is_none d.window)) (codes "window"))
    (first_some (unless (is_fit (has_copies k) (not d.requires_session || is_none d.forward_to) (not d.requires_session)) (codes "requires_session"))
    (first_some (unless (has_copies k || not d.dead_on_expiry) (codes "dead_on_expiry"))
    (first_some (unless (has_rules k || d.dead_on_fault) (codes "dead_on_fault"))
    (first_some (unless (is_fit (has_copies k) (is_name_or_none d.forward_to) (is_none d.forward_to)) (codes "forward_to"))
    (unless (is_fit (has_copies k) (is_name_or_none d.forward_dead_to) (is_none d.forward_dead_to)) (codes "forward_dead_to")))))))))
