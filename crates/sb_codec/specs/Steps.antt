-- Operations that act together, each by the code of the act that it stands for and the form of its fields.
use Rattle.sb_machine.specs.declared.call.Step.{Step}
use Rattle.sb_machine.specs.declared.call.Step.TheVariants.{Send, Settle, SessionSet}
use Rattle.sb_codec.specs.Choices.{which, how}
use Rattle.sb_codec.specs.Forms.{Form, blob, ◌then◌, optional, listed, Row, row, Case, of, Choice, no_row, ◌or◌, variants}
use Rattle.sb_codec.specs.Messages.{message, any_next}
use Rattle.sb_codec.specs.Pieces.{path, token}

-- messages are sent
abbrev pub send : Row Step
send = row 7 (path then listed any_next message) (λ x. Send x.0 x.1)

-- a message is settled
abbrev pub settle : Row Step
settle = row 11 (path then which then token then optional token then how) (λ x. Settle x.0 x.1.0 x.1.1.0 x.1.1.1.0 x.1.1.1.1)

-- a session's state is written
abbrev pub session_set : Row Step
session_set = row 16 (path then token then optional blob) (λ x. SessionSet x.0 x.1.0 x.1.1)

-- the code and the fields' bytes of each
abbrev pub step_case : Step → Case
step_case (Send to messages) = of send (to, messages)
step_case (Settle from w t session h) = of settle (from, (w, (t, (session, h))))
step_case (SessionSet from session state) = of session_set (from, (session, state))

-- what is read behind each code of these
abbrev pub step_choice : Choice Step
step_choice = send or settle or session_set or no_row

-- the form of one operation among those that act together
unfoldable pub step : Form Step
step = variants step_case step_choice
