-- Copies of messages as an entity holds them, each with how it stands.
use Rattle.std.specs.Prelude.{Bool, true, nat_lt, Option, Some, None}
use Rattle.sb_machine.specs.declared.state.Hold.{Hold}
use Rattle.sb_machine.specs.declared.state.Hold.TheVariants.{Until, Session}
use Rattle.sb_machine.specs.declared.state.Standing.{Standing}
use Rattle.sb_machine.specs.declared.state.Standing.TheVariants.{Ready, Deferred, Held, Scheduled}
use Rattle.sb_machine.specs.declared.state.StoredCopy.{StoredCopy}
use Rattle.sb_codec.specs.Forms.{Form, number64, ◌then◌, shaped, Row, row, Case, of, Choice, no_row, ◌or◌, variants, empty}
use Rattle.sb_codec.specs.Messages.{message}
use Rattle.sb_codec.specs.Pieces.{truth}
use Rattle.sb_snapshot.specs.Lists.{number8, count32}

-- ---- how long a lock holds a copy

abbrev pub until_row : Row Hold
until_row = row 0 number64 (λ t. Until t)

abbrev pub session_row : Row Hold
session_row = row 1 number64 (λ lock. Session lock)

-- the code and the bytes of each
abbrev pub hold_case : Hold → Case
hold_case (Until t) = of until_row t
hold_case (Session lock) = of session_row lock

-- what is read behind each code
abbrev pub hold_choice : Choice Hold
hold_choice = until_row or session_row or no_row

-- the form of how long a lock holds
unfoldable pub hold : Form Hold
hold = variants hold_case hold_choice

-- ---- how a copy stands

abbrev pub ready : Row Standing
ready = row 0 empty (λ _. Ready)

abbrev pub deferred : Row Standing
deferred = row 1 empty (λ _. Deferred)

-- the lock, how long it holds, and whether the copy was deferred before
abbrev pub held : Row Standing
held = row 2 (number64 then hold then truth) (λ x. Held x.0 x.1.0 x.1.1)

abbrev pub scheduled : Row Standing
scheduled = row 3 number64 (λ t. Scheduled t)

-- the code and the bytes of each
abbrev pub standing_case : Standing → Case
standing_case Ready = of ready tt
standing_case Deferred = of deferred tt
standing_case (Held lock h was) = of held (lock, (h, was))
standing_case (Scheduled t) = of scheduled t

-- what is read behind each code
abbrev pub standing_choice : Choice Standing
standing_choice = ready or deferred or held or scheduled or no_row

-- the form of how a copy stands
unfoldable pub standing : Form Standing
standing = variants standing_case standing_choice

-- ---- copies

-- a copy: its numbers, when it was enqueued, how often a hand-out came back and it was forwarded, how it stands, and the message
unfoldable pub copy : Form StoredCopy
copy =
    shaped (λ x. record { number = x.0; enqueued_seq = x.1.0; enqueued = x.1.1.0; count = x.1.1.1.0; hops = x.1.1.1.1.0; standing = x.1.1.1.1.1.0; message = x.1.1.1.1.1.1 })
    (λ c. (c.number, (c.enqueued_seq, (c.enqueued, (c.count, (c.hops, (c.standing, c.message)))))))
    (number64 then number64 then number64 then count32 then number8 then standing then message)

-- numbers rise
abbrev pub is_next_copy : Option StoredCopy → StoredCopy → Bool
is_next_copy None c = true
is_next_copy (Some last) c = nat_lt last.number c.number
