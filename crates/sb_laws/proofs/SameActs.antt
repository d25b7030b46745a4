-- Two acts are the same exactly where they are equal: over all acts.
use Rattle.std.proofs.Common.{ap, refl, subst, true, ◌==◌, ◌≡◌}
use Rattle.std.specs.Bool.{Decides}
use Rattle.std.specs.Prelude.{bytes_eq}
use Rattle.sb_laws.proofs.Sameness.{bytes_same, description_same, description_sound, equal_numbers, filter_same, filter_sound, how_same, how_sound, list_same, list_sound, look_same, look_sound, message_same, message_sound, mode_same, mode_sound, numbers_equal, numbers_same, numbers_sound, option_same, option_sound, path_same, path_sound, same_bytes, text_same, text_sound, token_same, token_sound, two, which_same, which_sound}
use Rattle.sb_machine.specs.Names.{is_same_option}
use Rattle.sb_machine.specs.Same.{same_act, same_description, same_filter, same_how, same_list, same_message, same_mode, same_nat, same_option, same_step, same_token, same_which}
use Rattle.sb_machine.specs.declared.call.Act.{Act}
use Rattle.sb_machine.specs.declared.call.Step.{Step}
use Rattle.sb_machine.specs.declared.call.Step.TheVariants.{Send as StepSend, Settle as StepSettle, SessionSet as StateSet}
use Rattle.sb_machine.specs.declared.call.Act.TheVariants.{Accept, Begin, Cancel, Commit, Counts, CreateQueue, CreateRule, CreateSubscription, CreateTopic, Delete, DeleteRule, ForgetClient, Look, Peek, Receive, ReceiveDeferred, Renew, Rollback, Send, SessionClose, SessionRenew, SessionSet, SessionState, Settle, Together}

step_sound : (x y : Step) → same_step x y ≡ true → x ≡ y
step_sound (StepSend a b) (StepSend p q) is =
    let p1 = two _ (same_list same_message b q) is in
    let ap = path_sound a p p1.0 in
    let bq = list_sound same_message message_sound b q p1.1 in
    cc
step_sound (StepSettle a b c d e) (StepSettle p q r s t) is =
    let p4 = two _ (same_how e t) is in
    let p3 = two _ (same_option same_token d s) p4.0 in
    let p2 = two _ (same_token c r) p3.0 in
    let p1 = two _ (same_which b q) p2.0 in
    let ap = path_sound a p p1.0 in
    let bq = which_sound b q p1.1 in
    let cr = token_sound c r p2.1 in
    let ds = option_sound same_token token_sound d s p3.1 in
    let et = how_sound e t p4.1 in
    cc
step_sound (StateSet a b c) (StateSet p q r) is =
    let p2 = two _ (is_same_option c r) is in
    let p1 = two _ (same_token b q) p2.0 in
    let ap = path_sound a p p1.0 in
    let bq = token_sound b q p1.1 in
    let cr = text_sound c r p2.1 in
    cc
step_sound _ _ e = absurd cc

step_same : (x : Step) → same_step x x ≡ true
step_same (StepSend a b) = rw (path_same a, list_same same_message message_same b) refl
step_same (StepSettle a b c d e) = rw (path_same a, which_same b, token_same c, option_same same_token token_same d, how_same e) refl
step_same (StateSet a b c) = rw (path_same a, token_same b, text_same c) refl

act_sound : (x y : Act) → same_act x y ≡ true → x ≡ y
act_sound (CreateQueue a b) (CreateQueue p q) is =
    let p1 = two _ (same_description b q) is in
    let ap = same_bytes a p p1.0 in
    let bq = description_sound b q p1.1 in
    cc
act_sound (CreateTopic a b) (CreateTopic p q) is =
    let p1 = two _ (same_description b q) is in
    let ap = same_bytes a p p1.0 in
    let bq = description_sound b q p1.1 in
    cc
act_sound (CreateSubscription a b c) (CreateSubscription p q r) is =
    let p2 = two _ (same_description c r) is in
    let p1 = two _ (bytes_eq b q) p2.0 in
    let ap = same_bytes a p p1.0 in
    let bq = same_bytes b q p1.1 in
    let cr = description_sound c r p2.1 in
    cc
act_sound (CreateRule a b c d e) (CreateRule p q r s t) is =
    let p4 = two _ (is_same_option e t) is in
    let p3 = two _ (same_filter d s) p4.0 in
    let p2 = two _ (bytes_eq c r) p3.0 in
    let p1 = two _ (bytes_eq b q) p2.0 in
    let ap = same_bytes a p p1.0 in
    let bq = same_bytes b q p1.1 in
    let cr = same_bytes c r p2.1 in
    let ds = filter_sound d s p3.1 in
    let et = text_sound e t p4.1 in
    cc
act_sound (Delete a) (Delete p) is = ap (λ z. Delete z) (path_sound a p is)
act_sound (DeleteRule a b c) (DeleteRule p q r) is =
    let p2 = two _ (bytes_eq c r) is in
    let p1 = two _ (bytes_eq b q) p2.0 in
    let ap = same_bytes a p p1.0 in
    let bq = same_bytes b q p1.1 in
    let cr = same_bytes c r p2.1 in
    cc
act_sound (Send a b c) (Send p q r) is =
    let p2 = two _ (same_option same_nat c r) is in
    let p1 = two _ (same_list same_message b q) p2.0 in
    let ap = path_sound a p p1.0 in
    let bq = list_sound same_message message_sound b q p1.1 in
    let cr = numbers_sound c r p2.1 in
    cc
act_sound (Cancel a b) (Cancel p q) is =
    let p1 = two _ (b == q) is in
    let ap = path_sound a p p1.0 in
    let bq = equal_numbers b q p1.1 in
    cc
act_sound (Receive a b c) (Receive p q r) is =
    let p2 = two _ (same_option same_token c r) is in
    let p1 = two _ (same_mode b q) p2.0 in
    let ap = path_sound a p p1.0 in
    let bq = mode_sound b q p1.1 in
    let cr = option_sound same_token token_sound c r p2.1 in
    cc
act_sound (ReceiveDeferred a b c d) (ReceiveDeferred p q r s) is =
    let p3 = two _ (same_option same_token d s) is in
    let p2 = two _ (same_mode c r) p3.0 in
    let p1 = two _ (b == q) p2.0 in
    let ap = path_sound a p p1.0 in
    let bq = equal_numbers b q p1.1 in
    let cr = mode_sound c r p2.1 in
    let ds = option_sound same_token token_sound d s p3.1 in
    cc
act_sound (Settle a b c d e f) (Settle p q r s t u) is =
    let p5 = two _ (same_option same_nat f u) is in
    let p4 = two _ (same_how e t) p5.0 in
    let p3 = two _ (same_option same_token d s) p4.0 in
    let p2 = two _ (same_token c r) p3.0 in
    let p1 = two _ (same_which b q) p2.0 in
    let ap = path_sound a p p1.0 in
    let bq = which_sound b q p1.1 in
    let cr = token_sound c r p2.1 in
    let ds = option_sound same_token token_sound d s p3.1 in
    let et = how_sound e t p4.1 in
    let fu = numbers_sound f u p5.1 in
    cc
act_sound (Renew a b c) (Renew p q r) is =
    let p2 = two _ (same_token c r) is in
    let p1 = two _ (same_which b q) p2.0 in
    let ap = path_sound a p p1.0 in
    let bq = which_sound b q p1.1 in
    let cr = token_sound c r p2.1 in
    cc
act_sound (Accept a b) (Accept p q) is =
    let p1 = two _ (is_same_option b q) is in
    let ap = path_sound a p p1.0 in
    let bq = text_sound b q p1.1 in
    cc
act_sound (SessionRenew a b) (SessionRenew p q) is =
    let p1 = two _ (same_token b q) is in
    let ap = path_sound a p p1.0 in
    let bq = token_sound b q p1.1 in
    cc
act_sound (SessionClose a b) (SessionClose p q) is =
    let p1 = two _ (same_token b q) is in
    let ap = path_sound a p p1.0 in
    let bq = token_sound b q p1.1 in
    cc
act_sound (SessionSet a b c) (SessionSet p q r) is =
    let p2 = two _ (is_same_option c r) is in
    let p1 = two _ (same_token b q) p2.0 in
    let ap = path_sound a p p1.0 in
    let bq = token_sound b q p1.1 in
    let cr = text_sound c r p2.1 in
    cc
act_sound (SessionState a b) (SessionState p q) is =
    let p1 = two _ (same_token b q) is in
    let ap = path_sound a p p1.0 in
    let bq = token_sound b q p1.1 in
    cc
act_sound (Begin a) (Begin p) is = ap (λ z. Begin z) (path_sound a p is)
act_sound (Commit a) (Commit p) is = ap (λ z. Commit z) (equal_numbers a p is)
act_sound (Rollback a) (Rollback p) is = ap (λ z. Rollback z) (equal_numbers a p is)
act_sound (Together a b) (Together p q) is =
    let p1 = two _ (same_list same_step b q) is in
    let ap = path_sound a p p1.0 in
    let bq = list_sound same_step step_sound b q p1.1 in
    cc
act_sound (ForgetClient a) (ForgetClient p) is = ap (λ z. ForgetClient z) (same_bytes a p is)
act_sound (Peek a b c) (Peek p q r) is =
    let p2 = two _ (c == r) is in
    let p1 = two _ (b == q) p2.0 in
    let ap = path_sound a p p1.0 in
    let bq = equal_numbers b q p1.1 in
    let cr = equal_numbers c r p2.1 in
    cc
act_sound (Counts a) (Counts p) is = ap (λ z. Counts z) (path_sound a p is)
act_sound (Look a) (Look p) is = ap (λ z. Look z) (look_sound a p is)
act_sound _ _ e = absurd cc

act_same : (x : Act) → same_act x x ≡ true
act_same (CreateQueue a b) = rw (bytes_same a, description_same b) refl
act_same (CreateTopic a b) = rw (bytes_same a, description_same b) refl
act_same (CreateSubscription a b c) = rw (bytes_same a, bytes_same b, description_same c) refl
act_same (CreateRule a b c d e) = rw (bytes_same a, bytes_same b, bytes_same c, filter_same d, text_same e) refl
act_same (Delete a) = path_same a
act_same (DeleteRule a b c) = rw (bytes_same a, bytes_same b, bytes_same c) refl
act_same (Send a b c) = rw (path_same a, list_same same_message message_same b, numbers_same c) refl
act_same (Cancel a b) = rw (path_same a, numbers_equal b) refl
act_same (Receive a b c) = rw (path_same a, mode_same b, option_same same_token token_same c) refl
act_same (ReceiveDeferred a b c d) = rw (path_same a, numbers_equal b, mode_same c, option_same same_token token_same d) refl
act_same (Settle a b c d e f) = rw (path_same a, which_same b, token_same c, option_same same_token token_same d, how_same e, numbers_same f) refl
act_same (Renew a b c) = rw (path_same a, which_same b, token_same c) refl
act_same (Accept a b) = rw (path_same a, text_same b) refl
act_same (SessionRenew a b) = rw (path_same a, token_same b) refl
act_same (SessionClose a b) = rw (path_same a, token_same b) refl
act_same (SessionSet a b c) = rw (path_same a, token_same b, text_same c) refl
act_same (SessionState a b) = rw (path_same a, token_same b) refl
act_same (Begin a) = path_same a
act_same (Commit a) = numbers_equal a
act_same (Rollback a) = numbers_equal a
act_same (Together a b) = rw (path_same a, list_same same_step step_same b) refl
act_same (ForgetClient a) = bytes_same a
act_same (Peek a b c) = rw (path_same a, numbers_equal b, numbers_equal c) refl
act_same (Counts a) = path_same a
act_same (Look a) = look_same a

pub same_act_exactly : (x y : Act) → Decides (same_act x y) (x ≡ y)
same_act_exactly x y = (act_sound x y, λ is. subst (λ (z : Act). same_act x z ≡ true) is (act_same x))
