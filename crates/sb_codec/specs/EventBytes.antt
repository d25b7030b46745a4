-- The bytes of an event, and the event that bytes spell.
use Rattle.std.specs.Prelude.{ℕ, List, Option, Some, None, ◌==◌, length, if◌then◌else◌}
use Rattle.sb_machine.specs.declared.call.Call.{Call}
use Rattle.sb_machine.specs.declared.call.Event.{Event}
use Rattle.sb_machine.specs.declared.call.Event.TheVariants.{Tick, Called}
use Rattle.sb_machine.specs.declared.call.EventRef.{EventRef}
use Rattle.sb_machine.specs.declared.call.EventRef.TheVariants.{Tick as TickRef, Called as CalledRef}
use Rattle.sb_codec.specs.Acts.{any_act}
use Rattle.sb_codec.specs.Forms.{Form, number64, ◌then◌, shaped, optional, Row, row, Case, of, Choice, no_row, ◌or◌, variants}
use Rattle.sb_codec.specs.Pieces.{by}
use Rattle.sb_codec.specs.Readers.{◌>>=◌}

-- the form of calls: the client and number, if there are any, and the operation
unfoldable pub a_call : Form Call
a_call = shaped (λ x. record { by = x.0; act = x.1 }) (λ c. (c.by, c.act)) (optional by then any_act)

-- a time step
abbrev pub tick : Row Event
tick = row 0 number64 (λ t. Tick t)

-- a call, with the moment at which it acted
abbrev pub called : Row Event
called = row 1 (number64 then a_call) (λ x. Called x.0 x.1)

-- the code and the bytes of each event
abbrev pub event_case : Event → Case
event_case (Tick t) = of tick t
event_case (Called t call) = of called (t, call)

-- what is read behind each code
abbrev pub event_choice : Choice Event
event_choice = tick or called or no_row

-- the form of events
unfoldable pub event : Form Event
event = variants event_case event_choice

-- the event that a borrowed one is
abbrev pub event_of : EventRef → Event
event_of (TickRef t) = Tick t
event_of (CalledRef t call) = Called t call.now

-- ---- as others cite it

-- the bytes of an event, as they stand in a record of the journal
abbrev pub event_bytes : Event → List ℕ
event_bytes e = event.spell e

-- an event that has such bytes
abbrev pub HasSpelling : Event → Type 0
HasSpelling e = event.Fits e

-- What a writer asks of an event. All else that makes up a spelling its type says.
abbrev pub IsSpellable : Event → Type 0
IsSpellable e = event.Asks e

-- the most bytes that a journal record holds
abbrev pub max_payload : ℕ
max_payload = 1048576

-- the event that these bytes spell, all of them
unfoldable pub read_event : List ℕ → Option Event
read_event bytes = event.reads bytes >>= λ x. if length x.1 == 0 then Some x.0 else None
