-- The call that is remembered for a client.
use Rattle.std.specs.Prelude.{◌≡◌, Bool, true, List, [], ◌∷◌, Option, Some, None, is_none, refl}
use Rattle.std.specs.List.{list_all}
use Rattle.std.proofs.Common.{sym, ap, ◌∙◌}
use Rattle.std.proofs.lemmas.Bool.{true≢false}
use Rattle.sb_machine.specs.Each.{Pairs}
use Rattle.sb_machine.specs.Fields.{Key, bad_in_act, bad_in_by, first_some, takes_number}
use Rattle.sb_machine.specs.Judged.{IsJudged, has_names, bad_described, has_sizes, has_short_id}
use Rattle.sb_machine.specs.Ordered.{IsActInOrder, IsFilterInOrder, IsStepInOrder, asked_of}
use Rattle.sb_machine.specs.declared.call.Act.{Act}
use Rattle.sb_machine.specs.declared.call.Act.TheVariants.{Send, CreateRule, Together}
use Rattle.sb_machine.specs.declared.call.By.{By}
use Rattle.sb_machine.specs.declared.call.FilterText.{FilterText}
use Rattle.sb_machine.specs.declared.call.FilterText.TheVariants.{Sql, Correlation}
use Rattle.sb_machine.specs.declared.call.Step.{Step}
use Rattle.sb_machine.specs.declared.call.Step.TheVariants.{Send as StepSend}
use Rattle.sb_model.specs.Orders.{AreRising, IsInOrder, name_before, code_before, is_set}
use Rattle.sb_model.specs.declared.message.Message.{Message}
use Rattle.sb_judge.specs.Messages.{properties_order, texts_order}
use Rattle.sb_judge.specs.Verdicts.{Verdict, always, passes, absent, said_as, ◌&◌, each, each_decided}

-- ---- order

pub rising_from : {X : Type 0} → (before : X → X → Bool) → (xs : List X) → Pairs (λ a b. before a b ≡ true) xs → AreRising before xs
rising_from before [] h = tt
rising_from before (x ∷ xs) h = ((each_decided (λ y. passes (before x y)) xs).1 h.0, rising_from before xs h.1)

pub pairs_from : {X : Type 0} → (before : X → X → Bool) → (xs : List X) → AreRising before xs → Pairs (λ a b. before a b ≡ true) xs
pairs_from before [] h = tt
pairs_from before (x ∷ xs) h = ((each_decided (λ y. passes (before x y)) xs).0 h.0, pairs_from before xs h.1)

-- the test of a message's properties
unfoldable pub in_order_verdict : (m : Message) → Verdict (IsInOrder m)
in_order_verdict m = said_as
    (properties_order m.props & texts_order m.sys & passes (list_all is_set m.sys))
    (λ p. record { props = rising_from name_before m.props p.0; sys = rising_from code_before m.sys p.1.0; set = p.1.1 })
    (λ r. (pairs_from name_before m.props r.props, (pairs_from code_before m.sys r.sys, r.set)))

-- the test of a correlation filter's conditions
abbrev pub filter_order_verdict : (f : FilterText) → Verdict (IsFilterInOrder f)
filter_order_verdict (Sql text) = always
filter_order_verdict (Correlation c) = in_order_verdict (asked_of c)

-- the test of the messages that one of the operations brings which act together
unfoldable pub step_order_verdict : (x : Step) → Verdict (IsStepInOrder x)
step_order_verdict (StepSend to messages) = each messages in_order_verdict
step_order_verdict _ = always

-- the test of the lists that an act brings
unfoldable pub act_order_verdict : (act : Act) → Verdict (IsActInOrder act)
act_order_verdict (Send to messages txn) = each messages in_order_verdict
act_order_verdict (CreateRule topic subscription name asked action) = filter_order_verdict asked
act_order_verdict (Together entity steps) = each steps step_order_verdict
act_order_verdict _ = always

-- ---- tests of fields

pub both_none : (a b : Key) → a ≡ None → b ≡ None → first_some a b ≡ None
both_none a b p q = ap (λ k. first_some k b) p ∙ q

pub first_none : (a b : Key) → first_some a b ≡ None → a ≡ None
first_none None b e = refl
first_none (Some key) b e = e

pub second_none : (a b : Key) → first_some a b ≡ None → b ≡ None
second_none None b e = e
second_none (Some key) b e = absurd (true≢false (sym (ap is_none e)))

-- what the tests say of an act that passed those that read no filter and no action, and measure nothing
abbrev pub IsPlain : Bool → Act → Type 0
IsPlain is_via act =
    (takes_number act ≡ true)
    × ((bad_in_act is_via act ≡ None)
    × ((has_names act ≡ true)
    × ((bad_described act ≡ None)
    × ((has_short_id act ≡ true)
    × IsActInOrder act))))

-- the test of these
unfoldable pub plain_verdict : (is_via : Bool) → (act : Act) → Verdict (IsPlain is_via act)
plain_verdict is_via act =
    passes (takes_number act)
    & absent (bad_in_act is_via act)
    & passes (has_names act)
    & absent (bad_described act)
    & passes (has_short_id act)
    & act_order_verdict act

-- the test of a call that passed all tests
unfoldable pub call_verdict : (is_via : Bool) → (act : Act) → (by : Option By) → Verdict (IsJudged is_via (record { by = by; act = act }))
call_verdict is_via act by = said_as
    (plain_verdict is_via act & absent (bad_in_by act by) & passes (has_sizes act))
    (λ p. record { coded = p.0.0; fields = both_none (bad_in_act is_via act) (bad_in_by act by) p.0.1.0 p.1.0; names = p.0.1.1.0; described = p.0.1.1.1.0; sizes = p.1.1; id = p.0.1.1.1.1.0; order = p.0.1.1.1.1.1 })
    (λ r. ((r.coded, (first_none (bad_in_act is_via act) (bad_in_by act by) r.fields, (r.names, (r.described, (r.id, r.order))))), (second_none (bad_in_act is_via act) (bad_in_by act by) r.fields, r.sizes)))
