-- What is remembered for clients: their last act, and what it was answered.
use Rattle.std.specs.Prelude.{◌<◌, ◌-◌, suc, ℕ, Bool, true, Option, Some, None}
use Rattle.sb_machine.specs.Consistent.{IsHandedOut}
use Rattle.sb_machine.specs.Names.{is_before}
use Rattle.sb_machine.specs.declared.call.Token.{Token}
use Rattle.sb_machine.specs.declared.reply.CopyShown.{CopyShown}
use Rattle.sb_machine.specs.declared.reply.Receipt.{Receipt}
use Rattle.sb_machine.specs.declared.reply.Receipt.TheVariants.{Number, Duplicate}
use Rattle.sb_machine.specs.declared.reply.Reply.{Reply}
use Rattle.sb_machine.specs.declared.reply.Reply.TheVariants as reply
use Rattle.sb_machine.specs.declared.reply.Showing.{Showing}
use Rattle.sb_machine.specs.declared.reply.Showing.TheVariants.{Removed, Locked, Browsed}
use Rattle.sb_machine.specs.declared.reply.StepReply.{StepReply}
use Rattle.sb_machine.specs.declared.reply.StepReply.TheVariants as told
use Rattle.sb_machine.specs.declared.state.Kept.{Kept}
use Rattle.sb_codec.specs.Acts.{any_act}
use Rattle.sb_codec.specs.Forms.{Form, number32, number64, text, ◌then◌, shaped, optional, listed, Row, row, Case, of, Choice, no_row, ◌or◌, variants, nothing, empty}
use Rattle.sb_codec.specs.Messages.{message, any_next}
use Rattle.sb_codec.specs.Pieces.{part, token}
use Rattle.sb_snapshot.specs.Lists.{narrowed}

-- ---- receipts

-- the receipt that a number or none stands for
abbrev pub receipt_of : Option ℕ → Receipt
receipt_of None = Duplicate
receipt_of (Some n) = Number n

-- the number of a receipt
abbrev pub number_in : Receipt → Option ℕ
number_in Duplicate = None
number_in (Number n) = Some n

-- the form of what became of one message of a send
unfoldable pub receipt : Form Receipt
receipt = shaped receipt_of number_in (optional number64)

-- ---- a message that was handed out

-- how a copy was handed out under this lock, or under none
abbrev pub showing_of : Option (Token × ℕ) → Showing
showing_of None = Removed
showing_of (Some lock) = Locked lock.0 lock.1

-- the lock under which a copy was handed out, and the moment up to which it lives
abbrev pub lock_of : Showing → Option (Token × ℕ)
lock_of Removed = None
lock_of (Locked t until) = Some (t, until)
lock_of (Browsed state) = None

-- the form of how a copy was handed out
unfoldable pub showing : Form Showing
showing = narrowed (λ o. Some (showing_of o)) lock_of IsHandedOut (optional (token then number64))

-- how often a copy was handed out, this time left out
unfoldable pub delivery : Form ℕ
delivery = narrowed (λ n. Some (suc n)) (λ n. n - 1) (λ n. 0 < n) number32

-- a copy as it was handed out
unfoldable pub shown : Form CopyShown
shown =
    shaped (λ x. record { number = x.0; enqueued_seq = x.1.0; enqueued = x.1.1.0; delivery = x.1.1.1.0; showing = x.1.1.1.1.0; message = x.1.1.1.1.1 })
    (λ c. (c.number, (c.enqueued_seq, (c.enqueued, (c.delivery, (c.showing, c.message))))))
    (number64 then number64 then number64 then delivery then showing then message)

-- ---- replies to operations that acted together

abbrev pub step_done : Row StepReply
step_done = row 0 empty (λ _. told.Done)

abbrev pub step_sent : Row StepReply
step_sent = row 1 (listed any_next receipt) (λ x. told.Sent x)

-- the code and the bytes of each
abbrev pub step_reply_case : StepReply → Case
step_reply_case told.Done = of step_done tt
step_reply_case (told.Sent receipts) = of step_sent receipts

-- what is read behind each code of these
abbrev pub step_reply_choice : Choice StepReply
step_reply_choice = step_done or step_sent or no_row

-- the form of the reply to one of them
unfoldable pub step_reply : Form StepReply
step_reply = variants step_reply_case step_reply_choice

-- ---- replies

abbrev pub done : Row Reply
done = row 0 empty (λ _. reply.Done)

abbrev pub sent : Row Reply
sent = row 1 (listed any_next receipt) (λ x. reply.Sent x)

abbrev pub given : Row Reply
given = row 2 shown (λ x. reply.Message x)

abbrev pub nothing_there : Row Reply
nothing_there = row 3 empty (λ _. reply.Empty)

abbrev pub expired : Row Reply
expired = row 4 number64 (λ n. reply.Expired n)

abbrev pub session_held : Row Reply
session_held = row 5 (text then token then number64) (λ x. reply.Session x.0 x.1.0 x.1.1)

abbrev pub renewed : Row Reply
renewed = row 6 number64 (λ t. reply.Renewed t)

abbrev pub begun : Row Reply
begun = row 7 number64 (λ n. reply.Begun n)

abbrev pub queued : Row Reply
queued = row 8 empty (λ _. reply.Queued)

abbrev pub committed : Row Reply
committed = row 9 empty (λ _. reply.Committed)

abbrev pub aborted : Row Reply
aborted = row 10 (part then number64) (λ x. reply.Aborted x.0 x.1)

abbrev pub together : Row Reply
together = row 32 (listed any_next step_reply) (λ x. reply.Together x)

-- a reply to a call that only looks, which is never remembered
abbrev pub no_reply : Row Reply
no_reply = row 11 nothing (λ r. r)

-- the code and the bytes of each reply
abbrev pub answer_case : Reply → Case
answer_case reply.Done = of done tt
answer_case (reply.Sent receipts) = of sent receipts
answer_case (reply.Message x) = of given x
answer_case reply.Empty = of nothing_there tt
answer_case (reply.Expired n) = of expired n
answer_case (reply.Session id t until) = of session_held (id, (t, until))
answer_case (reply.Renewed until) = of renewed until
answer_case (reply.Begun n) = of begun n
answer_case reply.Queued = of queued tt
answer_case reply.Committed = of committed tt
answer_case (reply.Aborted p n) = of aborted (p, n)
answer_case (reply.Together replies) = of together replies
answer_case (reply.Copies copies) = of no_reply (reply.Copies copies)
answer_case (reply.State state) = of no_reply (reply.State state)
answer_case (reply.Counts main dead transfer) = of no_reply (reply.Counts main dead transfer)
answer_case (reply.Seen view) = of no_reply (reply.Seen view)

-- what is read behind each code
abbrev pub answer_choice : Choice Reply
answer_choice = done or sent or given or nothing_there or expired or session_held or renewed or begun or queued or committed or aborted or together or no_row

-- the form of replies
unfoldable pub answer : Form Reply
answer = variants answer_case answer_choice

-- ---- clients

-- what is remembered for a client: its name, the number of its last call, the act, and the reply
unfoldable pub kept : Form Kept
kept =
    shaped (λ x. record { client = x.0; number = x.1.0; act = x.1.1.0; reply = x.1.1.1 })
    (λ k. (k.client, (k.number, (k.act, k.reply))))
    (text then number64 then any_act then answer)

-- names rise in byte order
abbrev pub is_next_kept : Option Kept → Kept → Bool
is_next_kept None k = true
is_next_kept (Some last) k = is_before last.client k.client
