-- Open transactions, each with what it has queued.
use Rattle.std.specs.Prelude.{Bool, true, nat_lt, Option, Some, None}
use Rattle.sb_machine.specs.declared.state.Operation.{Operation}
use Rattle.sb_machine.specs.declared.state.Operation.TheVariants.{Send, Settle}
use Rattle.sb_machine.specs.declared.state.Transaction.{Transaction}
use Rattle.sb_codec.specs.Choices.{how}
use Rattle.sb_codec.specs.Forms.{Form, number64, ◌then◌, shaped, optional, listed, Row, row, Case, of, Choice, no_row, ◌or◌, variants}
use Rattle.sb_codec.specs.Messages.{message, any_next}
use Rattle.sb_codec.specs.Pieces.{path, token}

-- a send, and a settlement
abbrev pub send : Row Operation
send = row 0 (path then listed any_next message) (λ x. Send x.0 x.1)

abbrev pub settle : Row Operation
settle = row 1 (path then number64 then token then optional token then how) (λ x. Settle x.0 x.1.0 x.1.1.0 x.1.1.1.0 x.1.1.1.1)

-- the code and the bytes of each
abbrev pub operation_case : Operation → Case
operation_case (Send to messages) = of send (to, messages)
operation_case (Settle from number t session h) = of settle (from, (number, (t, (session, h))))

-- what is read behind each code
abbrev pub operation_choice : Choice Operation
operation_choice = send or settle or no_row

-- the form of what is queued
unfoldable pub operation : Form Operation
operation = variants operation_case operation_choice

-- a transaction: its number, its entity's, the moment at which it ends, and what it has queued, in order
unfoldable pub transaction : Form Transaction
transaction =
    shaped (λ x. record { number = x.0; entity = x.1.0; deadline = x.1.1.0; operations = x.1.1.1 })
    (λ t. (t.number, (t.entity, (t.deadline, t.operations))))
    (number64 then number64 then number64 then listed any_next operation)

-- numbers rise
abbrev pub is_next_transaction : Option Transaction → Transaction → Bool
is_next_transaction None t = true
is_next_transaction (Some last) t = nat_lt last.number t.number
