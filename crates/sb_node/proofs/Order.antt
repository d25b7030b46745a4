-- What bytes are read as has its lists in order.
use Rattle.std.proofs.Common.{◌≡◌, ℕ, zero, suc, List, [], ◌∷◌, length, Bool, true, false, cond, eqb, Option, Some, None, refl, ap, subst, arith}
use Rattle.std.specs.Prelude.{◌==◌}
use Rattle.std.specs.List.{list_all}
use Rattle.std.specs.Ordering.{nat_cmp, is_lt}
use Rattle.std.specs.Cmp.Lexicographic.{slice_cmp}
use Rattle.std.specs.Int.{w32}
use Rattle.std.specs.declared.cmp.Ordering.{Ordering}
use Rattle.std.specs.declared.cmp.Ordering.TheVariants.{Less, Equal, Greater}
use Rattle.std.proofs.lemmas.Cmp.{nat_list_cmp_total}
use Rattle.std.proofs.lemmas.Bool.Decides.{nat_tests}
use Rattle.sb_model.specs.Orders.{AreRising, IsInOrder, name_before, code_before, is_set}
use Rattle.sb_model.specs.declared.message.Property.{Property}
use Rattle.sb_model.specs.declared.message.SystemText.{SystemText}
use Rattle.sb_machine.specs.Each.{Each}
use Rattle.sb_machine.specs.Ordered.{IsActInOrder, IsFilterInOrder, IsStepInOrder, asked_of}
use Rattle.sb_machine.specs.declared.call.Event.{Event}
use Rattle.sb_machine.specs.declared.call.Event.TheVariants.{Tick, Called}
use Rattle.sb_codec.specs.Acts as acts
use Rattle.sb_codec.specs.Acts.{any_act, any_act_choice}
use Rattle.sb_codec.specs.Steps as steps
use Rattle.sb_codec.specs.Steps.{step, step_choice}
use Rattle.sb_codec.specs.Choices.{filter_text, sql, correlation}
use Rattle.sb_codec.specs.EventBytes.{a_call, event, tick, called, read_event}
use Rattle.sb_codec.specs.Forms.{Row, Choice, ◌or◌, ◌then◌, no_row, chosen_at, Follow, blob, text, number64, optional, listed}
use Rattle.sb_codec.specs.Pieces.{path, by}
use Rattle.sb_codec.specs.Messages.{system, systems, is_next_system, property, properties, is_next_property, conditions, message, any_next}
use Rattle.sb_codec.specs.Readers.{Reader, both, mapped, tested, number_at, items_at, listed_at}
use Rattle.sb_codec.proofs.Exact.{bind_some, when_some}
use Rattle.sb_machine.proofs.Passed.{both as both_of, both_true}

-- ---- readers

-- what is read has P
abbrev Reads : {A : Type 0} → (A → Type 0) → Reader A → Type 0
Reads {A} P r = (bytes : List ℕ) (x : A × List ℕ) → r bytes ≡ Some x → P x.0

given_some : {A : Type 0} (x y : A) (P : A → Type 0) → Some x ≡ Some y → P x → P y
given_some x y P e p = let same : x ≡ y = cc in subst P same p

first_reads : {A B : Type 0} (P : A → Type 0) (r : Reader A) (q : Reader B) → Reads P r → Reads (λ x. P x.0) (both r q)
first_reads P r q reads bytes x e =
    let a = bind_some (r bytes) _ x e in
    let b = bind_some (q a.0.1) _ x a.2 in
    given_some ((a.0.0, b.0.0), b.0.1) x (λ y. P y.0.0) b.2 (reads bytes a.0 a.1)

second_reads : {A B : Type 0} (P : B → Type 0) (r : Reader A) (q : Reader B) → Reads P q → Reads (λ x. P x.1) (both r q)
second_reads P r q reads bytes x e =
    let a = bind_some (r bytes) _ x e in
    let b = bind_some (q a.0.1) _ x a.2 in
    given_some ((a.0.0, b.0.0), b.0.1) x (λ y. P y.0.1) b.2 (reads a.0.1 b.0 b.1)

mapped_reads : {A B : Type 0} (P : B → Type 0) (f : A → B) (r : Reader A) → Reads (λ a. P (f a)) r → Reads P (mapped f r)
mapped_reads P f r reads bytes x e =
    let a = bind_some (r bytes) _ x e in
    given_some (f a.0.0, a.0.1) x (λ y. P y.0) a.2 (reads bytes a.0 a.1)

tested_reads : {A : Type 0} (test : A → Bool) (r : Reader A) → Reads (λ a. test a ≡ true) (tested test r)
tested_reads test r bytes x e =
    let a = bind_some (r bytes) _ x e in
    let b = when_some (test a.0.0) a.0 x a.2 in
    subst (λ y. test y.0 ≡ true) b.1 b.0

also_tested : {A : Type 0} (P : A → Type 0) (test : A → Bool) (r : Reader A) → Reads P r → Reads P (tested test r)
also_tested P test r reads bytes x e =
    let a = bind_some (r bytes) _ x e in
    let b = when_some (test a.0.0) a.0 x a.2 in
    subst (λ y. P y.0) b.1 (reads bytes a.0 a.1)

-- ---- lists

items_read : {A : Type 0} (F : Option A → A → Type 0) (step : Option A → Reader A) → ((last : Option A) → Reads (F last) (step last)) → (n : ℕ) (last : Option A) (bytes : List ℕ) (x : List A × List ℕ) → items_at step last n bytes ≡ Some x → Follow F last x.0
unfolding items_at
items_read F step reads zero last bytes x e = given_some ([], bytes) x (λ y. Follow F last y.0) e tt
items_read F step reads (suc n) last bytes x e =
    let a = bind_some (step last bytes) _ x e in
    let b = bind_some (items_at step (Some a.0.0) n a.0.1) _ x a.2 in
    given_some (a.0.0 ∷ b.0.0, b.0.1) x (λ y. Follow F last y.0) b.2 (reads last bytes a.0 a.1, items_read F step reads n (Some a.0.0) a.0.1 b.0 b.1)

listed_reads : {A : Type 0} (F : Option A → A → Type 0) (step : Option A → Reader A) → ((last : Option A) → Reads (F last) (step last)) → Reads (Follow F None) (listed_at step)
unfolding listed_at
listed_reads F step reads bytes x e =
    let a = bind_some (number_at w32 bytes) _ x e in
    items_read F step reads a.0.0 None a.0.1 x a.2

all_more : {X : Type 0} (p q : X → Bool) (xs : List X) → ((x : X) → p x ≡ true → q x ≡ true) → list_all p xs ≡ true → list_all q xs ≡ true
all_more p q [] on e = refl
all_more p q (x ∷ xs) on e =
    let parts = both_of (p x) (list_all p xs) e in
    both_true (q x) (list_all q xs) (on x parts.0) (all_more p q xs on parts.1)

abbrev IsBehind : {X : Type 0} → (X → X → Bool) → Option X → List X → Type 0
IsBehind before None xs = Unit {0}
IsBehind before (Some last) xs = list_all (before last) xs ≡ true

-- ---- variants

row_reads : {A : Type 0} (P : A → Type 0) (r : Row A) (others : Choice A) → Reads (λ x. P (r.make x)) r.form.reads → ((k : ℕ) → Reads P (others k)) → (k : ℕ) → Reads P ((r or others) k)
row_reads {A} P r others mine rest k bytes x e = by_code (k == r.code) e
  where
    by_code : (b : Bool) → cond b (mapped r.make r.form.reads bytes) (others k bytes) ≡ Some x → P x.0
    by_code true f = mapped_reads P r.make r.form.reads mine bytes x f
    by_code false f = rest k bytes x f

none_reads : {A : Type 0} (P : A → Type 0) (k : ℕ) → Reads P (no_row k)
none_reads P k bytes x e = absurd cc

chosen_reads : {A : Type 0} (P : A → Type 0) (choice : Choice A) → ((k : ℕ) → Reads P (choice k)) → Reads P (chosen_at choice)
unfolding chosen_at
chosen_reads P choice each [] x e = absurd cc
chosen_reads P choice each (k ∷ rest) x e = each k rest x e

-- ---- properties

codes_later : (s t u : SystemText) → code_before s t ≡ true → code_before t u ≡ true → code_before s u ≡ true
codes_later s t u a b = grind (arith, nat_tests)

codes_rise : (last : Option SystemText) (ss : List SystemText) → Follow (λ l s. is_next_system l s ≡ true) last ss → IsBehind code_before last ss × AreRising code_before ss × (list_all is_set ss ≡ true)
codes_rise None [] f = (tt, tt, refl)
codes_rise (Some l) [] f = (refl, tt, refl)
codes_rise None (s ∷ ss) f =
    let r = codes_rise (Some s) ss f.1 in
    (tt, (r.0, r.1), both_true (is_set s) (list_all is_set ss) f.0 r.2)
codes_rise (Some l) (s ∷ ss) f =
    let r = codes_rise (Some s) ss f.1 in
    let parts = both_of (code_before l s) (is_set s) f.0 in
    let others = all_more (code_before s) (code_before l) ss (λ u b. codes_later l s u parts.0 b) r.0 in
    (both_true (code_before l s) (list_all (code_before l) ss) parts.0 others, (r.0, r.1), both_true (is_set s) (list_all is_set ss) parts.1 r.2)

less_is : (o : Ordering) → is_lt o ≡ true → o ≡ Less
less_is Less e = refl
less_is Equal e = absurd cc
less_is Greater e = absurd cc

names_later : (p q r : Property) → name_before p q ≡ true → name_before q r ≡ true → name_before p r ≡ true
names_later p q r a b = ap is_lt (nat_list_cmp_total.trans p.name q.name r.name (less_is (slice_cmp nat_cmp p.name q.name) a) (less_is (slice_cmp nat_cmp q.name r.name) b))

names_rise : (last : Option Property) (ps : List Property) → Follow (λ l p. is_next_property l p ≡ true) last ps → IsBehind name_before last ps × AreRising name_before ps
names_rise None [] f = (tt, tt)
names_rise (Some l) [] f = (refl, tt)
names_rise None (p ∷ ps) f = let r = names_rise (Some p) ps f.1 in (tt, r)
names_rise (Some l) (p ∷ ps) f =
    let r = names_rise (Some p) ps f.1 in
    let others = all_more (name_before p) (name_before l) ps (λ q b. names_later l p q f.0 b) r.0 in
    (both_true (name_before l p) (list_all (name_before l) ps) f.0 others, r)

abbrev AreSystems : List SystemText → Type 0
AreSystems ss = AreRising code_before ss × (list_all is_set ss ≡ true)

systems_order : Reads AreSystems systems.reads
systems_order bytes x e =
    let r = codes_rise None x.0 (listed_reads (λ l s. is_next_system l s ≡ true) (λ l. tested (is_next_system l) system.reads) (λ l. tested_reads (is_next_system l) system.reads) bytes x e) in
    (r.1, r.2)

properties_order : Reads (AreRising name_before) properties.reads
properties_order bytes x e = (names_rise None x.0 (listed_reads (λ l p. is_next_property l p ≡ true) (λ l. tested (is_next_property l) property.reads) (λ l. tested_reads (is_next_property l) property.reads) bytes x e)).1

-- two readers, each with its own
both_read : {A B : Type 0} (P : A → Type 0) (Q : B → Type 0) (r : Reader A) (q : Reader B) → Reads P r → Reads Q q → Reads (λ x. P x.0 × Q x.1) (both r q)
both_read P Q r q one other bytes x e = (first_reads P r q one bytes x e, second_reads Q r q other bytes x e)

conditions_order : Reads (λ c. IsInOrder (asked_of c)) conditions.reads
unfolding conditions
conditions_order =
    mapped_reads (λ c. IsInOrder (asked_of c)) _ _
    (λ bytes x e. let r = both_read AreSystems (AreRising name_before) systems.reads properties.reads systems_order properties_order bytes x e in record { props = r.1; sys = r.0.0; set = r.0.1 })

message_order : Reads IsInOrder message.reads
unfolding message
message_order =
    mapped_reads IsInOrder _ _
    (λ bytes x e.
    let r = second_reads (λ y. AreSystems y.0 × AreRising name_before y.1.0) blob.reads (systems then properties then optional number64 then optional number64).reads
    (both_read AreSystems (λ y. AreRising name_before y.0) systems.reads (properties then optional number64 then optional number64).reads systems_order
    (first_reads (AreRising name_before) properties.reads (optional number64 then optional number64).reads properties_order)) bytes x e in
    record { props = r.1; sys = r.0.0; set = r.0.1 })

each_follows : {X : Type 0} (P : X → Type 0) (last : Option X) (xs : List X) → Follow (λ l x. P x) last xs → Each P xs
each_follows P last [] f = tt
each_follows P last (x ∷ xs) f = (f.0, each_follows P (Some x) xs f.1)

messages_order : Reads (Follow (λ l m. IsInOrder m) None) (listed any_next message).reads
messages_order = listed_reads (λ l m. IsInOrder m) (λ l. tested (any_next l) message.reads) (λ l. also_tested IsInOrder (any_next l) message.reads message_order)

-- ---- acts

filter_order : Reads IsFilterInOrder filter_text.reads
unfolding filter_text
filter_order =
    chosen_reads IsFilterInOrder _
    (row_reads IsFilterInOrder sql _ (λ bytes x e. tt)
    (row_reads IsFilterInOrder correlation _ conditions_order
    (none_reads IsFilterInOrder)))

send_order : Reads (λ x. IsActInOrder (acts.send.make x)) acts.send.form.reads
send_order bytes x e =
    each_follows IsInOrder None x.0.1.0
    (second_reads (λ y. Follow (λ l m. IsInOrder m) None y.0) path.reads (listed any_next message then optional number64).reads
    (first_reads (Follow (λ l m. IsInOrder m) None) (listed any_next message).reads (optional number64).reads messages_order)
    bytes x e)

step_send_order : Reads (λ x. IsStepInOrder (steps.send.make x)) steps.send.form.reads
step_send_order bytes x e =
    each_follows IsInOrder None x.0.1 (second_reads (Follow (λ l m. IsInOrder m) None) path.reads (listed any_next message).reads messages_order bytes x e)

step_order : Reads IsStepInOrder step.reads
unfolding step
step_order =
    chosen_reads IsStepInOrder step_choice
    (row_reads IsStepInOrder steps.send _ step_send_order
    (row_reads IsStepInOrder steps.settle _ (λ bytes x e. tt)
    (row_reads IsStepInOrder steps.session_set _ (λ bytes x e. tt)
    (none_reads IsStepInOrder))))

together_order : Reads (λ x. IsActInOrder (acts.together.make x)) acts.together.form.reads
together_order bytes x e =
    each_follows IsStepInOrder None x.0.1
    (second_reads (Follow (λ l y. IsStepInOrder y) None) path.reads (listed any_next step).reads
    (listed_reads (λ l y. IsStepInOrder y) (λ l. tested (any_next l) step.reads) (λ l. also_tested IsStepInOrder (any_next l) step.reads step_order)) bytes x e)

rule_order : Reads (λ x. IsActInOrder (acts.create_rule.make x)) acts.create_rule.form.reads
rule_order =
    second_reads (λ y. IsFilterInOrder y.1.1.0) text.reads (text then text then filter_text then optional text).reads
    (second_reads (λ y. IsFilterInOrder y.1.0) text.reads (text then filter_text then optional text).reads
    (second_reads (λ y. IsFilterInOrder y.0) text.reads (filter_text then optional text).reads
    (first_reads IsFilterInOrder filter_text.reads (optional text).reads filter_order)))

act_order : Reads IsActInOrder any_act.reads
unfolding any_act
act_order =
    chosen_reads IsActInOrder any_act_choice
    (row_reads IsActInOrder acts.create_queue _ (λ bytes x e. tt)
    (row_reads IsActInOrder acts.create_topic _ (λ bytes x e. tt)
    (row_reads IsActInOrder acts.create_subscription _ (λ bytes x e. tt)
    (row_reads IsActInOrder acts.create_rule _ rule_order
    (row_reads IsActInOrder acts.delete _ (λ bytes x e. tt)
    (row_reads IsActInOrder acts.delete_rule _ (λ bytes x e. tt)
    (row_reads IsActInOrder acts.send _ send_order
    (row_reads IsActInOrder acts.cancel _ (λ bytes x e. tt)
    (row_reads IsActInOrder acts.receive _ (λ bytes x e. tt)
    (row_reads IsActInOrder acts.receive_deferred _ (λ bytes x e. tt)
    (row_reads IsActInOrder acts.settle _ (λ bytes x e. tt)
    (row_reads IsActInOrder acts.renew _ (λ bytes x e. tt)
    (row_reads IsActInOrder acts.accept _ (λ bytes x e. tt)
    (row_reads IsActInOrder acts.session_renew _ (λ bytes x e. tt)
    (row_reads IsActInOrder acts.session_close _ (λ bytes x e. tt)
    (row_reads IsActInOrder acts.session_set _ (λ bytes x e. tt)
    (row_reads IsActInOrder acts.begin _ (λ bytes x e. tt)
    (row_reads IsActInOrder acts.commit _ (λ bytes x e. tt)
    (row_reads IsActInOrder acts.rollback _ (λ bytes x e. tt)
    (row_reads IsActInOrder acts.together _ together_order
    (row_reads IsActInOrder acts.forget_client _ (λ bytes x e. tt)
    (none_reads IsActInOrder))))))))))))))))))))))

-- ---- events

-- the lists of an event's call
abbrev pub IsEventInOrder : Event → Type 0
IsEventInOrder (Tick t) = Unit {0}
IsEventInOrder (Called t call) = IsActInOrder call.act

call_order : Reads (λ c. IsActInOrder c.act) a_call.reads
unfolding a_call
call_order = mapped_reads (λ c. IsActInOrder c.act) _ _ (second_reads IsActInOrder (optional by).reads any_act.reads act_order)

event_order : Reads IsEventInOrder event.reads
unfolding event
event_order =
    chosen_reads IsEventInOrder _
    (row_reads IsEventInOrder tick _ (λ bytes x e. tt)
    (row_reads IsEventInOrder called _ (second_reads (λ c. IsActInOrder c.act) number64.reads a_call.reads call_order)
    (none_reads IsEventInOrder)))

pub read_in_order : (bytes : List ℕ) (e : Event) → read_event bytes ≡ Some e → IsEventInOrder e
unfolding read_event
read_in_order bytes e is =
    let a = bind_some (event.reads bytes) (λ x. cond (eqb (length x.1) 0) (Some x.0) None) e is in
    let b = when_some (eqb (length a.0.1) 0) a.0.0 e a.2 in
    subst IsEventInOrder b.1 (event_order bytes a.0 a.1)
