-- What is remembered for clients is a form that is exact.
use Rattle.std.proofs.Common.{◌≡◌, ℕ, suc, ◌<◌, ◌-◌, Option, Some, None, refl, ap, subst, arith}
use Rattle.sb_machine.specs.Consistent.{IsHandedOut}
use Rattle.sb_machine.specs.declared.call.Token.{Token}
use Rattle.sb_machine.specs.declared.reply.Receipt.{Receipt}
use Rattle.sb_machine.specs.declared.reply.Receipt.TheVariants.{Number, Duplicate}
use Rattle.sb_machine.specs.declared.reply.Reply.{Reply}
use Rattle.sb_machine.specs.declared.reply.Reply.TheVariants as reply
use Rattle.sb_machine.specs.declared.reply.Showing.{Showing}
use Rattle.sb_machine.specs.declared.reply.Showing.TheVariants.{Removed, Locked, Browsed}
use Rattle.sb_machine.specs.declared.reply.StepReply.{StepReply}
use Rattle.sb_machine.specs.declared.reply.StepReply.TheVariants as told
use Rattle.sb_codec.specs.Messages.{any_next}
use Rattle.sb_codec.proofs.Exact.{some_is}
use Rattle.sb_codec.proofs.Forms.{IsForm, number32_is, number64_is, text_is, nothing_is, empty_is, ◌then_is◌, shaped_is, optional_is, listed_is, Chooses, no_row_chooses, row_chooses, IsCase, is_case, variants_is}
use Rattle.sb_codec.proofs.ExactActs.{any_act_is}
use Rattle.sb_codec.proofs.ExactMessages.{message_is}
use Rattle.sb_codec.proofs.ExactPieces.{part_is, token_is}
use Rattle.sb_snapshot.specs.Replies.{receipt_of, number_in, receipt, showing_of, lock_of, showing, delivery, shown, step_done, step_sent, step_reply_case, step_reply_choice, step_reply, done, sent, given, nothing_there, expired, session_held, renewed, begun, queued, committed, aborted, together, no_reply, answer_case, answer_choice, answer, kept}
use Rattle.sb_snapshot.proofs.Lists.{narrowed_is}

-- ---- receipts

number_there : (o : Option ℕ) → number_in (receipt_of o) ≡ o
number_there None = refl
number_there (Some n) = refl

receipt_back : (r : Receipt) → receipt_of (number_in r) ≡ r
receipt_back Duplicate = refl
receipt_back (Number n) = refl

pub receipt_is : IsForm receipt
unfolding receipt
receipt_is = shaped_is receipt_of number_in number_there receipt_back (optional_is number64_is)

-- ---- a message that was handed out

lock_there : (o : Option (Token × ℕ)) → (lock_of (showing_of o) ≡ o) × IsHandedOut (showing_of o)
lock_there None = (refl, tt)
lock_there (Some lock) = (refl, tt)

made_showing : (o : Option (Token × ℕ)) (s : Showing) → showing_of o ≡ s → (lock_of s ≡ o) × IsHandedOut s
made_showing o s e = subst (λ (v : Showing). (lock_of v ≡ o) × IsHandedOut v) e (lock_there o)

showing_back : (s : Showing) → IsHandedOut s → showing_of (lock_of s) ≡ s
showing_back Removed h = refl
showing_back (Locked t until) h = refl
showing_back (Browsed state) h = absurd h

pub showing_is : IsForm showing
unfolding showing
showing_is = narrowed_is (λ o. Some (showing_of o)) lock_of IsHandedOut (λ o s e. made_showing o s (some_is (showing_of o) s e)) (λ s fits h. ap (λ (v : Showing). Some v) (showing_back s h)) (optional_is (token_is then_is number64_is))

made_delivery : (n d : ℕ) → suc n ≡ d → (d - 1 ≡ n) × (0 < d)
made_delivery n d e = (omega (arith, e), omega (arith, e))

delivery_back : (d : ℕ) → 0 < d → suc (d - 1) ≡ d
delivery_back d h = omega (arith, h)

pub delivery_is : IsForm delivery
unfolding delivery
delivery_is = narrowed_is (λ n. Some (suc n)) (λ n. n - 1) (λ n. 0 < n) (λ n d e. made_delivery n d (some_is (suc n) d e)) (λ d fits h. ap (λ (v : ℕ). Some v) (delivery_back d h)) number32_is

pub shown_is : IsForm shown
unfolding shown
shown_is = shaped_is _ _ (λ _. refl) (λ _. refl) (number64_is then_is number64_is then_is number64_is then_is delivery_is then_is showing_is then_is message_is)

-- ---- replies to operations that acted together

step_reply_chooses : Chooses step_reply_case step_reply_choice
step_reply_chooses =
    row_chooses step_reply_case step_done _ empty_is (λ _. refl) (λ _ f. f)
    (row_chooses step_reply_case step_sent _ (listed_is any_next receipt_is) (λ _. refl) (λ _ f. f)
    (no_row_chooses step_reply_case))

step_reply_each : (v : StepReply) → IsCase step_reply_choice (step_reply_case v) v
step_reply_each told.Done = is_case step_reply_choice step_done empty_is (λ _. refl) tt
step_reply_each (told.Sent receipts) = is_case step_reply_choice step_sent (listed_is any_next receipt_is) (λ _. refl) receipts

pub step_reply_is : IsForm step_reply
unfolding step_reply
step_reply_is = variants_is step_reply_case step_reply_choice step_reply_chooses step_reply_each

-- ---- replies

answer_chooses : Chooses answer_case answer_choice
answer_chooses =
    row_chooses answer_case done _ empty_is (λ _. refl) (λ _ f. f)
    (row_chooses answer_case sent _ (listed_is any_next receipt_is) (λ _. refl) (λ _ f. f)
    (row_chooses answer_case given _ shown_is (λ _. refl) (λ _ f. f)
    (row_chooses answer_case nothing_there _ empty_is (λ _. refl) (λ _ f. f)
    (row_chooses answer_case expired _ number64_is (λ _. refl) (λ _ f. f)
    (row_chooses answer_case session_held _ (text_is then_is token_is then_is number64_is) (λ _. refl) (λ _ f. f)
    (row_chooses answer_case renewed _ number64_is (λ _. refl) (λ _ f. f)
    (row_chooses answer_case begun _ number64_is (λ _. refl) (λ _ f. f)
    (row_chooses answer_case queued _ empty_is (λ _. refl) (λ _ f. f)
    (row_chooses answer_case committed _ empty_is (λ _. refl) (λ _ f. f)
    (row_chooses answer_case aborted _ (part_is then_is number64_is) (λ _. refl) (λ _ f. f)
    (row_chooses answer_case together _ (listed_is any_next step_reply_is) (λ _. refl) (λ _ f. f)
    (no_row_chooses answer_case))))))))))))

answer_each : (v : Reply) → IsCase answer_choice (answer_case v) v
answer_each reply.Done = is_case answer_choice done empty_is (λ _. refl) tt
answer_each (reply.Sent receipts) = is_case answer_choice sent (listed_is any_next receipt_is) (λ _. refl) receipts
answer_each (reply.Message x) = is_case answer_choice given shown_is (λ _. refl) x
answer_each reply.Empty = is_case answer_choice nothing_there empty_is (λ _. refl) tt
answer_each (reply.Expired n) = is_case answer_choice expired number64_is (λ _. refl) n
answer_each (reply.Session id t until) = is_case answer_choice session_held (text_is then_is token_is then_is number64_is) (λ _. refl) (id, (t, until))
answer_each (reply.Renewed until) = is_case answer_choice renewed number64_is (λ _. refl) until
answer_each (reply.Begun n) = is_case answer_choice begun number64_is (λ _. refl) n
answer_each reply.Queued = is_case answer_choice queued empty_is (λ _. refl) tt
answer_each reply.Committed = is_case answer_choice committed empty_is (λ _. refl) tt
answer_each (reply.Aborted p n) = is_case answer_choice aborted (part_is then_is number64_is) (λ _. refl) (p, n)
answer_each (reply.Together replies) = is_case answer_choice together (listed_is any_next step_reply_is) (λ _. refl) replies
answer_each (reply.Copies copies) = is_case answer_choice no_reply nothing_is (λ _. refl) (reply.Copies copies)
answer_each (reply.State state) = is_case answer_choice no_reply nothing_is (λ _. refl) (reply.State state)
answer_each (reply.Counts main dead transfer) = is_case answer_choice no_reply nothing_is (λ _. refl) (reply.Counts main dead transfer)
answer_each (reply.Seen view) = is_case answer_choice no_reply nothing_is (λ _. refl) (reply.Seen view)

pub answer_is : IsForm answer
unfolding answer
answer_is = variants_is answer_case answer_choice answer_chooses answer_each

pub kept_is : IsForm kept
unfolding kept
kept_is = shaped_is _ _ (λ _. refl) (λ _. refl) (text_is then_is number64_is then_is any_act_is then_is answer_is)
