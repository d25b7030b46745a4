-- The acts are a form that is exact.
use Rattle.std.proofs.Common.{refl}
use Rattle.sb_machine.specs.declared.call.Act.{Act}
use Rattle.sb_machine.specs.declared.call.Act.TheVariants as act
use Rattle.sb_codec.specs.Acts.{any_act, any_act_case, any_act_choice, create_queue, create_topic, create_subscription, create_rule, delete, delete_rule, send, cancel, receive, receive_deferred, settle, renew, accept, session_renew, session_close, session_set, begin, commit, rollback, together, forget_client, no_act}
use Rattle.sb_codec.specs.Forms.{of}
use Rattle.sb_codec.specs.Messages.{any_next}
use Rattle.sb_codec.proofs.Forms.{IsForm, number64_is, blob_is, text_is, nothing_is, ◌then_is◌, optional_is, listed_is, Chooses, no_row_chooses, row_chooses, IsCase, is_case, variants_is}
use Rattle.sb_codec.proofs.ExactPieces.{path_is, token_is, description_is, mode_is}
use Rattle.sb_codec.proofs.ExactMessages.{message_is}
use Rattle.sb_codec.proofs.ExactChoices.{which_is, how_is, filter_text_is}
use Rattle.sb_codec.proofs.ExactSteps.{step_is}

any_act_chooses : Chooses any_act_case any_act_choice
any_act_chooses =
    row_chooses any_act_case create_queue _ (text_is then_is description_is) (λ _. refl) (λ _ f. f)
    (row_chooses any_act_case create_topic _ (text_is then_is description_is) (λ _. refl) (λ _ f. f)
    (row_chooses any_act_case create_subscription _ (text_is then_is text_is then_is description_is) (λ _. refl) (λ _ f. f)
    (row_chooses any_act_case create_rule _ (text_is then_is text_is then_is text_is then_is filter_text_is then_is optional_is text_is) (λ _. refl) (λ _ f. f)
    (row_chooses any_act_case delete _ path_is (λ _. refl) (λ _ f. f)
    (row_chooses any_act_case delete_rule _ (text_is then_is text_is then_is text_is) (λ _. refl) (λ _ f. f)
    (row_chooses any_act_case send _ (path_is then_is listed_is any_next message_is then_is optional_is number64_is) (λ _. refl) (λ _ f. f)
    (row_chooses any_act_case cancel _ (path_is then_is number64_is) (λ _. refl) (λ _ f. f)
    (row_chooses any_act_case receive _ (path_is then_is mode_is then_is optional_is token_is) (λ _. refl) (λ _ f. f)
    (row_chooses any_act_case receive_deferred _ (path_is then_is number64_is then_is mode_is then_is optional_is token_is) (λ _. refl) (λ _ f. f)
    (row_chooses any_act_case settle _ (path_is then_is which_is then_is token_is then_is optional_is token_is then_is how_is then_is optional_is number64_is) (λ _. refl) (λ _ f. f)
    (row_chooses any_act_case renew _ (path_is then_is which_is then_is token_is) (λ _. refl) (λ _ f. f)
    (row_chooses any_act_case accept _ (path_is then_is optional_is text_is) (λ _. refl) (λ _ f. f)
    (row_chooses any_act_case session_renew _ (path_is then_is token_is) (λ _. refl) (λ _ f. f)
    (row_chooses any_act_case session_close _ (path_is then_is token_is) (λ _. refl) (λ _ f. f)
    (row_chooses any_act_case session_set _ (path_is then_is token_is then_is optional_is blob_is) (λ _. refl) (λ _ f. f)
    (row_chooses any_act_case begin _ path_is (λ _. refl) (λ _ f. f)
    (row_chooses any_act_case commit _ number64_is (λ _. refl) (λ _ f. f)
    (row_chooses any_act_case rollback _ number64_is (λ _. refl) (λ _ f. f)
    (row_chooses any_act_case together _ (path_is then_is listed_is any_next step_is) (λ _. refl) (λ _ f. f)
    (row_chooses any_act_case forget_client _ text_is (λ _. refl) (λ _ f. f)
    (no_row_chooses any_act_case)))))))))))))))))))))

not_spelled : (a : Act) → IsCase any_act_choice (of no_act a) a
not_spelled a = record { again = λ rest f. absurd f; asked = λ f. absurd f; small = nothing_is.small a }

any_act_each : (v : Act) → IsCase any_act_choice (any_act_case v) v
any_act_each (act.CreateQueue name d) = is_case any_act_choice create_queue (text_is then_is description_is) (λ _. refl) (name, d)
any_act_each (act.CreateTopic name d) = is_case any_act_choice create_topic (text_is then_is description_is) (λ _. refl) (name, d)
any_act_each (act.CreateSubscription topic name d) = is_case any_act_choice create_subscription (text_is then_is text_is then_is description_is) (λ _. refl) (topic, (name, d))
any_act_each (act.CreateRule topic subscription name s action) = is_case any_act_choice create_rule (text_is then_is text_is then_is text_is then_is filter_text_is then_is optional_is text_is) (λ _. refl) (topic, (subscription, (name, (s, action))))
any_act_each (act.Delete p) = is_case any_act_choice delete path_is (λ _. refl) p
any_act_each (act.DeleteRule topic subscription name) = is_case any_act_choice delete_rule (text_is then_is text_is then_is text_is) (λ _. refl) (topic, (subscription, name))
any_act_each (act.Send to messages txn) = is_case any_act_choice send (path_is then_is listed_is any_next message_is then_is optional_is number64_is) (λ _. refl) (to, (messages, txn))
any_act_each (act.Cancel from number) = is_case any_act_choice cancel (path_is then_is number64_is) (λ _. refl) (from, number)
any_act_each (act.Receive from m session) = is_case any_act_choice receive (path_is then_is mode_is then_is optional_is token_is) (λ _. refl) (from, (m, session))
any_act_each (act.ReceiveDeferred from number m session) = is_case any_act_choice receive_deferred (path_is then_is number64_is then_is mode_is then_is optional_is token_is) (λ _. refl) (from, (number, (m, session)))
any_act_each (act.Settle from w t session h txn) = is_case any_act_choice settle (path_is then_is which_is then_is token_is then_is optional_is token_is then_is how_is then_is optional_is number64_is) (λ _. refl) (from, (w, (t, (session, (h, txn)))))
any_act_each (act.Renew from w t) = is_case any_act_choice renew (path_is then_is which_is then_is token_is) (λ _. refl) (from, (w, t))
any_act_each (act.Accept from id) = is_case any_act_choice accept (path_is then_is optional_is text_is) (λ _. refl) (from, id)
any_act_each (act.SessionRenew from session) = is_case any_act_choice session_renew (path_is then_is token_is) (λ _. refl) (from, session)
any_act_each (act.SessionClose from session) = is_case any_act_choice session_close (path_is then_is token_is) (λ _. refl) (from, session)
any_act_each (act.SessionSet from session state) = is_case any_act_choice session_set (path_is then_is token_is then_is optional_is blob_is) (λ _. refl) (from, (session, state))
any_act_each (act.Begin p) = is_case any_act_choice begin path_is (λ _. refl) p
any_act_each (act.Commit txn) = is_case any_act_choice commit number64_is (λ _. refl) txn
any_act_each (act.Rollback txn) = is_case any_act_choice rollback number64_is (λ _. refl) txn
any_act_each (act.Together entity steps) = is_case any_act_choice together (path_is then_is listed_is any_next step_is) (λ _. refl) (entity, steps)
any_act_each (act.ForgetClient name) = is_case any_act_choice forget_client text_is (λ _. refl) name
any_act_each (act.SessionState from session) = not_spelled (act.SessionState from session)
any_act_each (act.Peek from start count) = not_spelled (act.Peek from start count)
any_act_each (act.Counts entity) = not_spelled (act.Counts entity)
any_act_each (act.Look what) = not_spelled (act.Look what)

pub any_act_is : IsForm any_act
unfolding any_act
any_act_is = variants_is any_act_case any_act_choice any_act_chooses any_act_each
