-- Whether two acts are equal, in all their fields.
use Rattle.std.specs.Prelude.{ℕ, ◌==◌, ◌&&◌, not, Bool, true, false, List, [], ◌∷◌, bytes_eq, Option, Some, None}
use Rattle.sb_machine.specs.Names.{is_same_entity, is_same_part, is_same_option}
use Rattle.sb_machine.specs.Selection.{same_value}
use Rattle.sb_model.specs.SystemNames.{system_code}
use Rattle.sb_machine.specs.declared.call.Act.{Act}
use Rattle.sb_machine.specs.declared.call.Act.TheVariants.{CreateQueue, CreateTopic, CreateSubscription, CreateRule, Delete, DeleteRule, Send, Cancel, Receive, ReceiveDeferred, Settle, Renew, Accept, SessionRenew, SessionClose, SessionSet, SessionState, Begin, Commit, Rollback, Together, ForgetClient, Peek, Counts, Look}
use Rattle.sb_machine.specs.declared.call.Description.{Description}
use Rattle.sb_machine.specs.declared.call.FilterText.{FilterText}
use Rattle.sb_machine.specs.declared.call.FilterText.TheVariants.{Sql, Correlation}
use Rattle.sb_machine.specs.declared.call.How.{How}
use Rattle.sb_machine.specs.declared.call.How.TheVariants.{Complete, Abandon, Defer, DeadLetter}
use Rattle.sb_machine.specs.declared.call.Mode.{Mode}
use Rattle.sb_machine.specs.declared.call.Mode.TheVariants.{Lock, Delete as WithDeletion}
use Rattle.sb_machine.specs.declared.call.Path.{Path}
use Rattle.sb_machine.specs.declared.call.Step.{Step}
use Rattle.sb_machine.specs.declared.call.Step.TheVariants.{Send as StepSend, Settle as StepSettle, SessionSet as StateSet}
use Rattle.sb_machine.specs.declared.call.Token.{Token}
use Rattle.sb_machine.specs.declared.call.Which.{Which}
use Rattle.sb_machine.specs.declared.call.Which.TheVariants.{Number, Id}
use Rattle.sb_machine.specs.declared.look.Look.{Look as Looked}
use Rattle.sb_machine.specs.declared.look.Look.TheVariants.{Entities, Entity, Sessions, Transactions, Clients}
use Rattle.sb_model.specs.declared.message.Message.{Message}
use Rattle.sb_model.specs.declared.message.Property.{Property}
use Rattle.sb_model.specs.declared.message.SystemText.{SystemText}
use Rattle.sb_machine.specs.declared.rule.Conditions.{Conditions}

-- whether two lists are equal, element by element
abbrev pub same_list : {X : Type 0} → (X → X → Bool) → List X → List X → Bool
same_list same [] [] = true
same_list same (x ∷ xs) (y ∷ ys) = same x y && same_list same xs ys
same_list same _ _ = false

-- whether both are left out, or are equal
abbrev pub same_option : {X : Type 0} → (X → X → Bool) → Option X → Option X → Bool
same_option same None None = true
same_option same (Some x) (Some y) = same x y
same_option same _ _ = false

-- whether two numbers are equal
abbrev pub same_nat : ℕ → ℕ → Bool
same_nat a b = a == b

-- whether two truth values are equal
abbrev pub same_bool : Bool → Bool → Bool
same_bool true b = b
same_bool false b = not b

-- whether two addresses are equal
abbrev pub same_path : Path → Path → Bool
same_path a b = is_same_entity a b && is_same_part a.part b.part

-- whether two lock tokens are equal
abbrev pub same_token : Token → Token → Bool
same_token a b = (a.salt == b.salt) && (a.lock == b.lock)

-- whether two system texts are equal
abbrev pub same_text : SystemText → SystemText → Bool
same_text a b = (system_code a.name == system_code b.name) && bytes_eq a.text b.text

-- whether two user properties are equal
abbrev pub same_property : Property → Property → Bool
same_property a b = bytes_eq a.name b.name && same_value a.value b.value

-- whether two messages are equal
abbrev pub same_message : Message → Message → Bool
same_message a b = bytes_eq a.body b.body && same_list same_text a.sys b.sys && same_list same_property a.props b.props && same_option same_nat a.ttl b.ttl && same_option same_nat a.schedule b.schedule

-- whether two descriptions are equal
abbrev pub same_description : Description → Description → Bool
same_description a b =
    (a.lock == b.lock) && same_option same_nat a.ttl b.ttl && (a.max_delivery == b.max_delivery) && same_option same_nat a.window b.window && same_bool a.requires_session b.requires_session
    && same_bool a.dead_on_expiry b.dead_on_expiry && same_bool a.dead_on_fault b.dead_on_fault && is_same_option a.forward_to b.forward_to && is_same_option a.forward_dead_to b.forward_dead_to

-- whether two correlation filters ask for the same
abbrev pub same_conditions : Conditions → Conditions → Bool
same_conditions a b = same_list same_text a.sys b.sys && same_list same_property a.props b.props

-- whether two filters are equal, SQL ones by their texts
abbrev pub same_filter : FilterText → FilterText → Bool
same_filter (Sql a) (Sql b) = bytes_eq a b
same_filter (Correlation a) (Correlation b) = same_conditions a b
same_filter _ _ = false

-- whether two calls name a message alike
abbrev pub same_which : Which → Which → Bool
same_which (Number a) (Number b) = a == b
same_which (Id a) (Id b) = bytes_eq a b
same_which _ _ = false

-- whether two modes of receiving are the same
abbrev pub same_mode : Mode → Mode → Bool
same_mode Lock Lock = true
same_mode WithDeletion WithDeletion = true
same_mode _ _ = false

-- whether two settlements are the same
abbrev pub same_how : How → How → Bool
same_how Complete Complete = true
same_how Abandon Abandon = true
same_how Defer Defer = true
same_how (DeadLetter r d) (DeadLetter s e) = is_same_option r s && is_same_option d e
same_how _ _ = false

-- whether two of the operations that act together are equal
abbrev pub same_step : Step → Step → Bool
same_step (StepSend p ms) (StepSend q ns) = same_path p q && same_list same_message ms ns
same_step (StepSettle p w k s h) (StepSettle q v l r g) = same_path p q && same_which w v && same_token k l && same_option same_token s r && same_how h g
same_step (StateSet p k b) (StateSet q l c) = same_path p q && same_token k l && is_same_option b c
same_step _ _ = false

-- whether two looks are equal
abbrev pub same_look : Looked → Looked → Bool
same_look (Entities f a n) (Entities g b m) = is_same_option f g && same_option same_path a b && (n == m)
same_look (Entity p) (Entity q) = same_path p q
same_look (Sessions p a n) (Sessions q b m) = same_path p q && is_same_option a b && (n == m)
same_look Transactions Transactions = true
same_look (Clients a n) (Clients b m) = is_same_option a b && (n == m)
same_look _ _ = false

-- whether two operations are equal, in all their fields
abbrev pub same_act : Act → Act → Bool
same_act (CreateQueue n d) (CreateQueue m e) = bytes_eq n m && same_description d e
same_act (CreateTopic n d) (CreateTopic m e) = bytes_eq n m && same_description d e
same_act (CreateSubscription t n d) (CreateSubscription u m e) = bytes_eq t u && bytes_eq n m && same_description d e
same_act (CreateRule t s n f a) (CreateRule u r m g b) = bytes_eq t u && bytes_eq s r && bytes_eq n m && same_filter f g && is_same_option a b
same_act (Delete p) (Delete q) = same_path p q
same_act (DeleteRule t s n) (DeleteRule u r m) = bytes_eq t u && bytes_eq s r && bytes_eq n m
same_act (Send p ms x) (Send q ns y) = same_path p q && same_list same_message ms ns && same_option same_nat x y
same_act (Cancel p n) (Cancel q m) = same_path p q && (n == m)
same_act (Receive p a s) (Receive q b r) = same_path p q && same_mode a b && same_option same_token s r
same_act (ReceiveDeferred p n a s) (ReceiveDeferred q m b r) = same_path p q && (n == m) && same_mode a b && same_option same_token s r
same_act (Settle p w k s h x) (Settle q v l r g y) = same_path p q && same_which w v && same_token k l && same_option same_token s r && same_how h g && same_option same_nat x y
same_act (Renew p w k) (Renew q v l) = same_path p q && same_which w v && same_token k l
same_act (Accept p i) (Accept q j) = same_path p q && is_same_option i j
same_act (SessionRenew p k) (SessionRenew q l) = same_path p q && same_token k l
same_act (SessionClose p k) (SessionClose q l) = same_path p q && same_token k l
same_act (SessionSet p k b) (SessionSet q l c) = same_path p q && same_token k l && is_same_option b c
same_act (SessionState p k) (SessionState q l) = same_path p q && same_token k l
same_act (Begin p) (Begin q) = same_path p q
same_act (Commit x) (Commit y) = x == y
same_act (Rollback x) (Rollback y) = x == y
same_act (Peek p n m) (Peek q k l) = same_path p q && (n == k) && (m == l)
same_act (Counts p) (Counts q) = same_path p q
same_act (Look a) (Look b) = same_look a b
same_act (Together p xs) (Together q ys) = same_path p q && same_list same_step xs ys
same_act (ForgetClient n) (ForgetClient m) = bytes_eq n m
same_act _ _ = false
