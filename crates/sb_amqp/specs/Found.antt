-- The message that bytes spell, as it is taken from their front section by section.
use Rattle.std.specs.Prelude.{◌≡◌, ◌==◌, ◌&&◌, ℕ, zero, suc, List, [], ◌∷◌, length, Bool, true, false, Option, Some, None, option_and_then, Result, Ok, Err, if◌then◌else◌}
use Rattle.std.specs.Result.{result_ok}
use Rattle.sb_model.specs.declared.message.Message.{Message}
use Rattle.sb_amqp.specs.declared.fault.AmqpFault.{AmqpFault}
use Rattle.sb_amqp.specs.declared.fault.AmqpFault.TheVariants.{BadMessage, Unsupported, OutOfMemory}
use Rattle.sb_amqp.specs.Meaning.{section_says, no_message}
use Rattle.sb_amqp.specs.Reading.{value_at, counted, next_at}
use Rattle.sb_amqp.specs.Sections.{before_all, may_end, has_used_items}
use Rattle.sb_amqp.specs.Values.{extent_at, kind_of, content_of}

-- ---- the items of a list or map that a message uses

-- a value before those behind it, where there is one
abbrev pub with_first : (List ℕ → List (List ℕ)) → Option (List ℕ × List ℕ) → List (List ℕ)
with_first others None = []
with_first others (Some x) = x.0 ∷ others x.1

-- so many values from the front
unfoldable pub values_in : ℕ → List ℕ → List (List ℕ)
values_in zero bytes = []
values_in (suc n) bytes = with_first (λ rest. values_in n rest) (value_at bytes)

-- the values of a list or map, by its count
abbrev pub counted_values : Option (ℕ × List ℕ) → List (List ℕ)
counted_values None = []
counted_values (Some x) = values_in x.0 x.1

-- the items of a section that is read by its items; else none
abbrev pub items_in : Bool → List ℕ → List (List ℕ)
items_in false value = []
items_in true value = counted_values (counted (extent_at value) (content_of value))

-- ---- sections

-- what the section in front says, with these bytes behind it
abbrev pub said_by : ℕ × (List ℕ × List ℕ) → Message → Option Message
said_by x m = result_ok (section_says x.0 x.1.0 (items_in (has_used_items x.0 (kind_of x.1.0)) x.1.0) m (length x.1.1))

-- where nothing is left, and a body was there
abbrev pub at_end : ℕ → List ℕ → Message → Option Message
at_end last bytes m = if may_end last && (length bytes == 0) then Some m else None

-- a section more, or the end
abbrev pub onwards : Option (ℕ × (List ℕ × List ℕ)) → Option Message → (ℕ × (List ℕ × List ℕ) → Option Message) → Option Message
onwards None ended next = ended
onwards (Some x) ended next = next x

-- what at most so many sections behind the last one add to a message
unfoldable pub message_from : ℕ → ℕ → List ℕ → Message → Option Message
message_from zero last bytes m = at_end last bytes m
message_from (suc n) last bytes m = onwards (next_at last bytes) (at_end last bytes m) (λ x. option_and_then (λ next. message_from n x.0 x.1.1 next) (said_by x m))

-- none where the bytes aren't the sections of a message, or say what none can be
unfoldable pub message_in : List ℕ → Option Message
message_in bytes = message_from (length bytes) before_all bytes no_message

-- the answer is this message or none, but where memory was wanting
abbrev pub IsFound : Result Message AmqpFault → Option Message → Type 0
IsFound (Ok m) found = found ≡ Some m
IsFound (Err (BadMessage at)) found = found ≡ None
IsFound (Err (Unsupported at)) found = found ≡ None
IsFound (Err OutOfMemory) found = Unit {0}
