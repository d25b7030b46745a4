-- What the test of an act's fields says before it acts.
use Rattle.std.proofs.Common.{Bool, List, ℕ, None, Option, Some, refl, true, false, ◌≡◌}
use Rattle.sb_fanout.proofs.There.{both}
use Rattle.sb_machine.specs.Acts.{bad_call}
use Rattle.sb_machine.specs.Fields.{Key, are_set_once, bad_field, bad_in_by, bad_in_entity, bad_in_steps, bad_in_together, bad_in_whole, bad_part, first_some, unless}
use Rattle.sb_machine.specs.declared.call.Act.{Act}
use Rattle.sb_machine.specs.declared.call.Act.TheVariants.{CreateQueue, CreateTopic, CreateSubscription, CreateRule, Delete, DeleteRule, Send, Cancel, Receive, ReceiveDeferred, Settle, Renew, Accept, SessionRenew, SessionClose, SessionSet, SessionState, Begin, Commit, Rollback, Together, ForgetClient, Peek, Counts, Look}
use Rattle.sb_machine.specs.declared.call.By.{By}
use Rattle.sb_engine.specs.Gatherings.{sets_once}

none_called : (part : Option ℕ) (key : Key) → bad_call part key ≡ None → key ≡ None
none_called part None is = refl
none_called part (Some key) is = absurd cc

first_none : (a b : Key) → first_some a b ≡ None → (a ≡ None) × (b ≡ None)
first_none None b is = (refl, is)
first_none (Some key) b is = absurd cc

passes_none : (b : Bool) (key : List ℕ) → unless b key ≡ None → b ≡ true
passes_none true key is = refl
passes_none false key is = absurd cc

pub fields_once : (via : Bool) (act : Act) (by : Option By) → bad_call (bad_part act) (bad_field via act by) ≡ None → sets_once act ≡ true
fields_once via (Together path steps) by is =
    let fine = first_none (bad_in_together path steps) (bad_in_by (Together path steps) by) (none_called _ _ is) in
    let inside = first_none (bad_in_whole path steps) (bad_in_steps steps) fine.0 in
    let tests = first_none (bad_in_entity path) (unless _ _) inside.0 in
    (both _ (are_set_once steps) (passes_none _ _ tests.1)).1
fields_once via (CreateQueue name d) by is = refl
fields_once via (CreateTopic name d) by is = refl
fields_once via (CreateSubscription topic name d) by is = refl
fields_once via (CreateRule topic subscription name filter action) by is = refl
fields_once via (Delete path) by is = refl
fields_once via (DeleteRule topic subscription name) by is = refl
fields_once via (Send to messages txn) by is = refl
fields_once via (Cancel from n) by is = refl
fields_once via (Receive from mode session) by is = refl
fields_once via (ReceiveDeferred from n mode session) by is = refl
fields_once via (Settle from which token session how txn) by is = refl
fields_once via (Renew from which token) by is = refl
fields_once via (Accept from id) by is = refl
fields_once via (SessionRenew from token) by is = refl
fields_once via (SessionClose from token) by is = refl
fields_once via (SessionSet from token bytes) by is = refl
fields_once via (SessionState from token) by is = refl
fields_once via (Begin path) by is = refl
fields_once via (Commit n) by is = refl
fields_once via (Rollback n) by is = refl
fields_once via (Peek from start count) by is = refl
fields_once via (Counts path) by is = refl
fields_once via (Look what) by is = refl
fields_once via (ForgetClient name) by is = refl
