-- What a journal stands for: the state that its base and its events lead to, or where it is damaged.
use Rattle.std.specs.Prelude.{◌≡◌, ℕ, ◌+◌, ◌-◌, ◌&&◌, not, Bool, List, [], ◌∷◌, ◌++◌, length, nat_le, if◌then◌else◌, Option, Some, None}
use Rattle.sb_machine.specs.Answers.{is_change, max_moment}
use Rattle.sb_machine.specs.Answers as answers
use Rattle.sb_machine.specs.Due.{is_due}
use Rattle.sb_machine.specs.History.{advanced, is_spent}
use Rattle.sb_machine.specs.Namespace.{empty_state}
use Rattle.sb_machine.specs.Repeats.{client_of, outcome_of}
use Rattle.sb_machine.specs.declared.call.Call.{Call}
use Rattle.sb_machine.specs.declared.call.Event.{Event}
use Rattle.sb_machine.specs.declared.call.Event.TheVariants.{Tick, Called}
use Rattle.sb_machine.specs.declared.state.State.{State}
use Rattle.sb_codec.specs.EventBytes.{read_event}
use Rattle.sb_judge.specs.Decided.{is_consistent}
use Rattle.sb_snapshot.specs.Base.{state_of}
use Rattle.sb_journal.specs.Text.{File, first_gate, next_gate, gate_after}
use Rattle.sb_journal.specs.Opened.{Opened, Stands, Damage, opened}
use Rattle.sb_journal.specs.Disks.{Disks}
use Rattle.sb_journal.specs.declared.found.Side.{Side}

-- time doesn't go back, nor past the last moment that counts
abbrev pub is_in_time : State → ℕ → Bool
is_in_time s t = nat_le s.now t && nat_le t max_moment

-- time may go on to a moment: something is due there, and the numbers that this gives are left
abbrev pub is_next_tick : State → ℕ → Bool
is_next_tick s t = is_in_time s t && is_due t s.space && not (is_spent s t)

-- a call at a moment changes something, and nothing is due there
abbrev pub is_next_call : State → ℕ → Call → Bool
is_next_call s t call = is_in_time s t && not (is_due t s.space) && is_change (client_of call) (outcome_of s t call)

-- the state after an event, if it changes this one
abbrev pub next_state : State → Option Event → Option State
next_state s None = None
next_state s (Some (Tick t)) = if is_next_tick s t then Some (advanced s t) else None
next_state s (Some (Called t call)) = if is_next_call s t call then Some (answers.state_of s t call) else None

-- where payloads lead
pub data Replayed : Type 0 where
  reaches : State → Replayed
  -- the place of the gate of the first that is no changing event, or of a base that stands for no state
  breaks : ℕ → Replayed

-- the payloads behind the gate at this place, each the next event
abbrev pub replay : State → ℕ → List (List ℕ) → Replayed
replay s place [] = reaches s
replay s place (p ∷ ps) = elim (next_state s (read_event p)) [ Some next ↦ replay next (next_gate place p) ps | None ↦ breaks place ]

-- this state, if it is consistent
abbrev pub if_consistent : Option State → Option State
if_consistent None = None
if_consistent (Some s) = if is_consistent s then Some s else None

-- The state for which a base stands in a file of this salt, and with which its events begin: the one that all of its bytes spell, if that
-- is a consistent one. Where there is no base it is an empty namespace.
abbrev pub base_state : (salt : ℕ) → List ℕ → Option State
base_state salt [] = Some (empty_state salt)
base_state salt (byte ∷ bytes) = if_consistent (state_of salt (byte ∷ bytes))

-- the payloads behind the gate at this place, from the state of a base on; where it stands for none, its place is damaged
abbrev pub replay_from : Option State → ℕ → List (List ℕ) → Replayed
replay_from None place payloads = breaks 42
replay_from (Some s) place payloads = replay s place payloads

-- all payloads of a file, behind its base
abbrev pub replay_file : File → Replayed
replay_file file = replay_from (base_state file.salt file.base) (first_gate file) file.payloads

-- in a file of this salt and base these payloads lead to this state, wherever the first one's gate is
abbrev pub IsReplayed : State → (salt : ℕ) → List ℕ → List (List ℕ) → Type 0
IsReplayed s salt base payloads = (place : ℕ) → replay_from (base_state salt base) place payloads ≡ reaches s

-- the first that is no changing event is the one behind these, whatever stands behind it
abbrev pub BreaksReplay : (salt : ℕ) → List ℕ → List (List ℕ) → List ℕ → Type 0
BreaksReplay salt base before payload = (place : ℕ) (behind : List (List ℕ)) → replay_from (base_state salt base) place (before ++ payload ∷ behind) ≡ breaks (gate_after place before)

-- what an opening recovers
pub data Recovered : Type 0 where
  -- this state, and the number of the last journal record
  recovers : State → ℕ → Recovered
  -- this disk can't be trusted from this place on
  damaged : Side → ℕ → Recovered

-- a file whose base stands for a state, and whose payloads are all events in order, leads to a state; otherwise it is damaged
abbrev pub reached : Side → File → Replayed → Recovered
reached side file (reaches s) = recovers s (file.first - 1 + length file.payloads)
reached side file (breaks place) = damaged side place

-- what is recovered from what was found
abbrev pub recovered_from : Opened → Recovered
recovered_from (Stands side file) = reached side file (replay_file file)
recovered_from (Damage side place) = damaged side place

-- what two disks stand for; the salt is a new namespace's
abbrev pub recovered : List ℕ → List ℕ → ℕ → Recovered
recovered a b salt = recovered_from (opened a b salt)

-- as they are read
abbrev pub recovered_on : Disks → ℕ → Recovered
recovered_on disks salt = recovered disks.a.held.seen disks.b.held.seen salt

-- it is this state that is recovered
abbrev pub Recovers : Recovered → State → Type 0
Recovers r s = (last : ℕ) × (r ≡ recovers s last)
