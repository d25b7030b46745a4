-- Two acts are the same exactly where they are equal.
use Rattle.std.proofs.Common.{Bool, List, None, Option, Some, [], ap, arith, false, refl, sym, true, ℕ, ◌&&◌, ◌==◌, ◌∷◌, ◌≡◌}
use Rattle.std.specs.Prelude.{bytes_eq}
use Rattle.sb_laws.proofs.Swept.{same_part}
use Rattle.sb_machine.specs.Names.{is_same_entity, is_same_option, is_same_part}
use Rattle.sb_machine.specs.Same.{same_bool, same_description, same_filter, same_how, same_list, same_look, same_message, same_mode, same_nat, same_option, same_path, same_property, same_text, same_token, same_which}
use Rattle.sb_machine.specs.Selection.{same_value}
use Rattle.sb_model.specs.SystemNames.{system_code}
use Rattle.sb_machine.specs.declared.call.Description.{Description}
use Rattle.sb_machine.specs.declared.call.FilterText.{FilterText}
use Rattle.sb_machine.specs.declared.call.How.{How}
use Rattle.sb_machine.specs.declared.call.How.TheVariants.{Abandon, Complete, DeadLetter, Defer}
use Rattle.sb_machine.specs.declared.call.Mode.{Mode}
use Rattle.sb_machine.specs.declared.call.Part.{Part}
use Rattle.sb_machine.specs.declared.call.Part.TheVariants.{Dead, Main, Transfer}
use Rattle.sb_machine.specs.declared.call.Path.{Path}
use Rattle.sb_machine.specs.declared.call.Token.{Token}
use Rattle.sb_machine.specs.declared.call.Which.{Which}
use Rattle.sb_machine.specs.declared.call.Which.TheVariants.{Id, Number}
use Rattle.sb_machine.specs.declared.look.Look.{Look}
use Rattle.sb_machine.specs.declared.look.Look.TheVariants.{Clients, Entities, Entity, Sessions, Transactions}
use Rattle.sb_model.specs.declared.message.Message.{Message}
use Rattle.sb_model.specs.declared.message.Property.{Property}
use Rattle.sb_model.specs.declared.message.PropertyValue.{PropertyValue}
use Rattle.sb_model.specs.declared.message.SystemName.{SystemName}
use Rattle.sb_model.specs.declared.message.SystemName.TheVariants.{ContentType, CorrelationId, Label, MessageId, ReplyTo, ReplyToSessionId, SessionId, To}
use Rattle.sb_model.specs.declared.message.SystemText.{SystemText}
use Rattle.sb_machine.specs.declared.rule.Conditions.{Conditions}
use Rattle.std.proofs.lemmas.Slice.Eq.{bytes_eq-Decides}
use Rattle.std.proofs.lemmas.Bool.Decides.{Decides-int_eq, nat_tests}
use Rattle.sb_model.specs.declared.message.PropertyValue.TheVariants.{Int, Text, Bool as Truth}
use Rattle.sb_machine.specs.declared.call.FilterText.TheVariants.{Sql, Correlation}
use Rattle.sb_machine.specs.declared.call.Mode.TheVariants.{Lock, Delete as WithDeletion}

pub same_bytes : (a b : List ℕ) → bytes_eq a b ≡ true → a ≡ b
same_bytes a b e = (bytes_eq-Decides a b).0 e

pub bytes_same : (a : List ℕ) → bytes_eq a a ≡ true
bytes_same a = (bytes_eq-Decides a a).1 refl

pub two : (a b : Bool) → (a && b) ≡ true → (a ≡ true) × (b ≡ true)
two true b e = (refl, e)
two false b e = absurd cc

pub equal_numbers : (a b : ℕ) → (a == b) ≡ true → a ≡ b
equal_numbers a b e = grind (arith, nat_tests)

pub numbers_equal : (a : ℕ) → (a == a) ≡ true
numbers_equal a = grind (arith, nat_tests)

-- ---- lists and options

pub list_sound : {X : Type 0} (same : X → X → Bool) → ((x y : X) → same x y ≡ true → x ≡ y) → (xs ys : List X) → same_list same xs ys ≡ true → xs ≡ ys
list_sound same sound [] [] e = refl
list_sound same sound (x ∷ xs) (y ∷ ys) e = let parts = two (same x y) (same_list same xs ys) e in let a = sound x y parts.0 in let b = list_sound same sound xs ys parts.1 in cc
list_sound same sound [] (y ∷ ys) e = absurd cc
list_sound same sound (x ∷ xs) [] e = absurd cc

pub list_same : {X : Type 0} (same : X → X → Bool) → ((x : X) → same x x ≡ true) → (xs : List X) → same_list same xs xs ≡ true
list_same same reflexive [] = refl
list_same same reflexive (x ∷ xs) = rw (reflexive x) (list_same same reflexive xs)

pub option_sound : {X : Type 0} (same : X → X → Bool) → ((x y : X) → same x y ≡ true → x ≡ y) → (a b : Option X) → same_option same a b ≡ true → a ≡ b
option_sound same sound None None e = refl
option_sound same sound (Some x) (Some y) e = ap (λ z. Some z) (sound x y e)
option_sound same sound None (Some y) e = absurd cc
option_sound same sound (Some x) None e = absurd cc

pub option_same : {X : Type 0} (same : X → X → Bool) → ((x : X) → same x x ≡ true) → (a : Option X) → same_option same a a ≡ true
option_same same reflexive None = refl
option_same same reflexive (Some x) = reflexive x

pub text_sound : (a b : Option (List ℕ)) → is_same_option a b ≡ true → a ≡ b
text_sound None None e = refl
text_sound (Some x) (Some y) e = ap (λ z. Some z) (same_bytes x y e)
text_sound None (Some y) e = absurd cc
text_sound (Some x) None e = absurd cc

pub text_same : (a : Option (List ℕ)) → is_same_option a a ≡ true
text_same None = refl
text_same (Some x) = bytes_same x

pub numbers_sound : (a b : Option ℕ) → same_option same_nat a b ≡ true → a ≡ b
numbers_sound = option_sound same_nat equal_numbers

pub numbers_same : (a : Option ℕ) → same_option same_nat a a ≡ true
numbers_same = option_same same_nat numbers_equal

bool_sound : (a b : Bool) → same_bool a b ≡ true → a ≡ b
bool_sound true true e = refl
bool_sound false false e = refl
bool_sound true false e = absurd cc
bool_sound false true e = absurd cc

bool_same : (a : Bool) → same_bool a a ≡ true
bool_same true = refl
bool_same false = refl

-- ---- parts of acts

pub part_same : (p : Part) → is_same_part p p ≡ true
part_same Main = refl
part_same Dead = refl
part_same Transfer = refl

path_is : (n m : List ℕ) (s r : Option (List ℕ)) (p q : Part) → n ≡ m → s ≡ r → p ≡ q → ◌≡◌ {A = Path} (record { name = n; subscription = s; part = p }) (record { name = m; subscription = r; part = q })
path_is n m s r p q a b c = cc

pub path_sound : (a b : Path) → same_path a b ≡ true → a ≡ b
path_sound a b e =
    let parts = two (is_same_entity a b) (is_same_part a.part b.part) e in
    let names = two (bytes_eq a.name b.name) (is_same_option a.subscription b.subscription) parts.0 in
    path_is a.name b.name a.subscription b.subscription a.part b.part (same_bytes a.name b.name names.0) (text_sound a.subscription b.subscription names.1) (same_part a.part b.part parts.1)

pub path_same : (a : Path) → same_path a a ≡ true
path_same a = rw (bytes_same a.name, text_same a.subscription, part_same a.part) refl

token_is : (s r l k : ℕ) → s ≡ r → l ≡ k → ◌≡◌ {A = Token} (record { salt = s; lock = l }) (record { salt = r; lock = k })
token_is s r l k a b = cc

pub token_sound : (a b : Token) → same_token a b ≡ true → a ≡ b
token_sound a b e = let parts = two (a.salt == b.salt) (a.lock == b.lock) e in token_is a.salt b.salt a.lock b.lock (equal_numbers a.salt b.salt parts.0) (equal_numbers a.lock b.lock parts.1)

pub token_same : (a : Token) → same_token a a ≡ true
token_same a = rw (numbers_equal a.salt, numbers_equal a.lock) refl

pub name_sound : (a b : SystemName) → (system_code a == system_code b) ≡ true → a ≡ b
name_sound MessageId MessageId e = refl
name_sound Label Label e = refl
name_sound CorrelationId CorrelationId e = refl
name_sound SessionId SessionId e = refl
name_sound To To e = refl
name_sound ReplyTo ReplyTo e = refl
name_sound ReplyToSessionId ReplyToSessionId e = refl
name_sound ContentType ContentType e = refl
name_sound _ _ e = absurd cc

system_is : (n m : SystemName) (s r : List ℕ) → n ≡ m → s ≡ r → ◌≡◌ {A = SystemText} (record { name = n; text = s }) (record { name = m; text = r })
system_is n m s r a b = cc

system_sound : (a b : SystemText) → same_text a b ≡ true → a ≡ b
system_sound a b e = let parts = two (system_code a.name == system_code b.name) (bytes_eq a.text b.text) e in system_is a.name b.name a.text b.text (name_sound a.name b.name parts.0) (same_bytes a.text b.text parts.1)

system_same : (a : SystemText) → same_text a a ≡ true
system_same a = rw (numbers_equal (system_code a.name), bytes_same a.text) refl

value_sound : (a b : PropertyValue) → same_value a b ≡ true → a ≡ b
value_sound (Int x) (Int y) e = ap (λ z. Int z) ((Decides-int_eq x y).0 e)
value_sound (Text x) (Text y) e = ap (λ z. Text z) (same_bytes x y e)
value_sound (Truth true) (Truth y) e = ap (λ z. Truth z) (sym e)
value_sound (Truth false) (Truth true) e = absurd cc
value_sound (Truth false) (Truth false) e = refl
value_sound (Int x) (Text y) e = absurd cc
value_sound (Int x) (Truth y) e = absurd cc
value_sound (Text x) (Int y) e = absurd cc
value_sound (Text x) (Truth y) e = absurd cc
value_sound (Truth true) (Int y) e = absurd cc
value_sound (Truth true) (Text y) e = absurd cc
value_sound (Truth false) (Int y) e = absurd cc
value_sound (Truth false) (Text y) e = absurd cc

value_same : (a : PropertyValue) → same_value a a ≡ true
value_same (Int x) = (Decides-int_eq x x).1 refl
value_same (Text x) = bytes_same x
value_same (Truth true) = refl
value_same (Truth false) = refl

property_is : (n m : List ℕ) (s r : PropertyValue) → n ≡ m → s ≡ r → ◌≡◌ {A = Property} (record { name = n; value = s }) (record { name = m; value = r })
property_is n m s r a b = cc

property_sound : (a b : Property) → same_property a b ≡ true → a ≡ b
property_sound a b e = let parts = two (bytes_eq a.name b.name) (same_value a.value b.value) e in property_is a.name b.name a.value b.value (same_bytes a.name b.name parts.0) (value_sound a.value b.value parts.1)

property_same : (a : Property) → same_property a a ≡ true
property_same a = rw (bytes_same a.name, value_same a.value) refl

message_is : (b c : List ℕ) (s r : List SystemText) (p q : List Property) (t u k l : Option ℕ) → b ≡ c → s ≡ r → p ≡ q → t ≡ u → k ≡ l
    → ◌≡◌ {A = Message} (record { body = b; sys = s; props = p; ttl = t; schedule = k }) (record { body = c; sys = r; props = q; ttl = u; schedule = l })
message_is b c s r p q t u k l e1 e2 e3 e4 e5 = cc

pub message_sound : (a b : Message) → same_message a b ≡ true → a ≡ b
message_sound a b e =
    let p4 = two (bytes_eq a.body b.body && same_list same_text a.sys b.sys && same_list same_property a.props b.props && same_option same_nat a.ttl b.ttl) (same_option same_nat a.schedule b.schedule) e in
    let p3 = two (bytes_eq a.body b.body && same_list same_text a.sys b.sys && same_list same_property a.props b.props) (same_option same_nat a.ttl b.ttl) p4.0 in
    let p2 = two (bytes_eq a.body b.body && same_list same_text a.sys b.sys) (same_list same_property a.props b.props) p3.0 in
    let p1 = two (bytes_eq a.body b.body) (same_list same_text a.sys b.sys) p2.0 in
    message_is a.body b.body a.sys b.sys a.props b.props a.ttl b.ttl a.schedule b.schedule (same_bytes a.body b.body p1.0) (list_sound same_text system_sound a.sys b.sys p1.1) (list_sound same_property property_sound a.props b.props p2.1)
    (numbers_sound a.ttl b.ttl p3.1) (numbers_sound a.schedule b.schedule p4.1)

pub message_same : (a : Message) → same_message a a ≡ true
message_same a = rw (bytes_same a.body, list_same same_text system_same a.sys, list_same same_property property_same a.props, numbers_same a.ttl, numbers_same a.schedule) refl

description_is : (l k : ℕ) (t u : Option ℕ) (m n : ℕ) (w v : Option ℕ) (r s x y f g : Bool) (a b c d : Option (List ℕ)) → l ≡ k → t ≡ u → m ≡ n → w ≡ v → r ≡ s → x ≡ y → f ≡ g → a ≡ b → c ≡ d
    → ◌≡◌ {A = Description} (record { lock = l; ttl = t; max_delivery = m; window = w; requires_session = r; dead_on_expiry = x; dead_on_fault = f; forward_to = a; forward_dead_to = c })
    (record { lock = k; ttl = u; max_delivery = n; window = v; requires_session = s; dead_on_expiry = y; dead_on_fault = g; forward_to = b; forward_dead_to = d })
description_is l k t u m n w v r s x y f g a b c d e1 e2 e3 e4 e5 e6 e7 e8 e9 = cc

pub description_sound : (a b : Description) → same_description a b ≡ true → a ≡ b
description_sound a b e =
    let p8 = two _ (is_same_option a.forward_dead_to b.forward_dead_to) e in
    let p7 = two _ (is_same_option a.forward_to b.forward_to) p8.0 in
    let p6 = two _ (same_bool a.dead_on_fault b.dead_on_fault) p7.0 in
    let p5 = two _ (same_bool a.dead_on_expiry b.dead_on_expiry) p6.0 in
    let p4 = two _ (same_bool a.requires_session b.requires_session) p5.0 in
    let p3 = two _ (same_option same_nat a.window b.window) p4.0 in
    let p2 = two _ (a.max_delivery == b.max_delivery) p3.0 in
    let p1 = two (a.lock == b.lock) (same_option same_nat a.ttl b.ttl) p2.0 in
    description_is a.lock b.lock a.ttl b.ttl a.max_delivery b.max_delivery a.window b.window a.requires_session b.requires_session a.dead_on_expiry b.dead_on_expiry a.dead_on_fault b.dead_on_fault a.forward_to b.forward_to a.forward_dead_to b.forward_dead_to
    (equal_numbers a.lock b.lock p1.0) (numbers_sound a.ttl b.ttl p1.1) (equal_numbers a.max_delivery b.max_delivery p2.1) (numbers_sound a.window b.window p3.1) (bool_sound a.requires_session b.requires_session p4.1)
    (bool_sound a.dead_on_expiry b.dead_on_expiry p5.1) (bool_sound a.dead_on_fault b.dead_on_fault p6.1) (text_sound a.forward_to b.forward_to p7.1) (text_sound a.forward_dead_to b.forward_dead_to p8.1)

pub description_same : (a : Description) → same_description a a ≡ true
description_same a = rw (numbers_equal a.lock, numbers_same a.ttl, numbers_equal a.max_delivery, numbers_same a.window, bool_same a.requires_session, bool_same a.dead_on_expiry, bool_same a.dead_on_fault, text_same a.forward_to, text_same a.forward_dead_to) refl

pub filter_sound : (a b : FilterText) → same_filter a b ≡ true → a ≡ b
filter_sound (Sql x) (Sql y) e = ap (λ z. Sql z) (same_bytes x y e)
filter_sound (Correlation x) (Correlation y) e =
    let parts = two (same_list same_text x.sys y.sys) (same_list same_property x.props y.props) e in
    ap (λ z. Correlation z) (conditions_is x.sys y.sys x.props y.props (list_sound same_text system_sound x.sys y.sys parts.0) (list_sound same_property property_sound x.props y.props parts.1)) where
      conditions_is : (s r : List SystemText) (p q : List Property) → s ≡ r → p ≡ q → ◌≡◌ {A = Conditions} (record { sys = s; props = p }) (record { sys = r; props = q })
      conditions_is s r p q a b = cc
filter_sound (Sql x) (Correlation y) e = absurd cc
filter_sound (Correlation x) (Sql y) e = absurd cc

pub filter_same : (a : FilterText) → same_filter a a ≡ true
filter_same (Sql x) = bytes_same x
filter_same (Correlation x) = rw (list_same same_text system_same x.sys, list_same same_property property_same x.props) refl

pub which_sound : (a b : Which) → same_which a b ≡ true → a ≡ b
which_sound (Number x) (Number y) e = ap (λ z. Number z) (equal_numbers x y e)
which_sound (Id x) (Id y) e = ap (λ z. Id z) (same_bytes x y e)
which_sound (Number x) (Id y) e = absurd cc
which_sound (Id x) (Number y) e = absurd cc

pub which_same : (a : Which) → same_which a a ≡ true
which_same (Number x) = numbers_equal x
which_same (Id x) = bytes_same x

pub mode_sound : (a b : Mode) → same_mode a b ≡ true → a ≡ b
mode_sound Lock Lock e = refl
mode_sound WithDeletion WithDeletion e = refl
mode_sound Lock WithDeletion e = absurd cc
mode_sound WithDeletion Lock e = absurd cc

pub mode_same : (a : Mode) → same_mode a a ≡ true
mode_same Lock = refl
mode_same WithDeletion = refl

pub how_sound : (a b : How) → same_how a b ≡ true → a ≡ b
how_sound Complete Complete e = refl
how_sound Abandon Abandon e = refl
how_sound Defer Defer e = refl
how_sound (DeadLetter r d) (DeadLetter s f) e = let parts = two (is_same_option r s) (is_same_option d f) e in let x = text_sound r s parts.0 in let y = text_sound d f parts.1 in cc
how_sound _ _ e = absurd cc

pub how_same : (a : How) → same_how a a ≡ true
how_same Complete = refl
how_same Abandon = refl
how_same Defer = refl
how_same (DeadLetter r d) = rw (text_same r, text_same d) refl

pub look_sound : (a b : Look) → same_look a b ≡ true → a ≡ b
look_sound (Entities f a n) (Entities g b m) e =
    let p2 = two _ (n == m) e in
    let p1 = two _ (same_option same_path a b) p2.0 in
    let fg = text_sound f g p1.0 in
    let ab = option_sound same_path path_sound a b p1.1 in
    let nm = equal_numbers n m p2.1 in
    cc
look_sound (Entity p) (Entity q) e = ap (λ z. Entity z) (path_sound p q e)
look_sound (Sessions p a n) (Sessions q b m) e =
    let p2 = two _ (n == m) e in
    let p1 = two _ (is_same_option a b) p2.0 in
    let pq = path_sound p q p1.0 in
    let ab = text_sound a b p1.1 in
    let nm = equal_numbers n m p2.1 in
    cc
look_sound Transactions Transactions e = refl
look_sound (Clients a b) (Clients p q) e =
    let p1 = two _ (b == q) e in
    let ap = text_sound a p p1.0 in
    let bq = equal_numbers b q p1.1 in
    cc
look_sound _ _ e = absurd cc

pub look_same : (a : Look) → same_look a a ≡ true
look_same (Entities f a n) = rw (text_same f, option_same same_path path_same a, numbers_equal n) refl
look_same (Entity p) = path_same p
look_same (Sessions p a n) = rw (path_same p, text_same a, numbers_equal n) refl
look_same Transactions = refl
look_same (Clients a b) = rw (text_same a, numbers_equal b) refl
