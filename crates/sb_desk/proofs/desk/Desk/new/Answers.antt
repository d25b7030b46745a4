use Rattle.std.proofs.Common.{rules, List, []}
use Rattle.std.specs.Prelude.{◌∷◌}
use Rattle.sb_desk.specs.Lists.{Each}
use Rattle.sb_desk.proofs.desk.Desk.new.Goals as goal

-- what holds of each so that more does
each_so : {A : Type 0} (P Q : A → Type 0) → ((x : A) → P x → Q x) → (xs : List A) → Each P xs → Each Q xs
each_so P Q so [] each = each
each_so P Q so (x ∷ xs) each = (so x each.0, each_so P Q so xs each.1)

pub deal_out-dealt-requires-clause-place : goal.deal_out-dealt-requires-clause-place
deal_out-dealt-requires-clause-place g c = (g.V.Served.state c.args.value, g.V.Served.origin c.args.value, search rules, search rules, search rules)

pub returns-in-Ok-open_table-clause-passes : goal.returns-in-Ok-open_table-clause-passes
returns-in-Ok-open_table-clause-passes g c = (c.deal_out-dealt.ensures.all, each_so _ _ (λ x is. search rules) c.deal_out-dealt.result.items c.deal_out-dealt.ensures.each)
