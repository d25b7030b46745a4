use Rattle.std.proofs.Common.{rules, ◌≡◌, ◌+◌, ◌++◌, [], length, length-append, map, sym, ap, ◌∙◌, subst, arith}
use Rattle.sb_desk.specs.Desks.{Sitting, below}
use Rattle.sb_desk.specs.Lists.{Each}
use Rattle.sb_desk.proofs.Ends.{dealt_more, dealt_all, each_more}
use Rattle.sb_desk.proofs.opening.deal_out.Goals as goal

pub loop-number-preserved : goal.loop-number-preserved
loop-number-preserved g c =
    let i = c.loop-number.invariant in
    let less : c.loop-number.place.me.0.parts ≡ c.deal-more.new.place.me.0.parts + 1 = search rules in
    let long : length c.add.new.passes.items ≡ length c.loop-number.dealt.items + 1 = ap length c.add.ensures.items ∙ length-append c.loop-number.dealt.items _ in
    let New : Sitting → Type 0 = λ p. (p.desk ≡ c.args.top.now.table_id) × (p.start ≡ c.args.place.me.0.start) × (p.origin ≡ c.args.place.me.0.origin) × (p.passes ≡ c.args.place.me.0.passes) × (p.seen ≡ []) in
    record {
      table = search rules;
      place = search rules;
      count = omega (arith, long, i.count);
      parts = search rules;
      spare = search rules;
      room = search rules;
      each = subst (Each New) (sym c.add.ensures.items) (each_more New c.loop-number.dealt.items _ i.each (search rules));
      seats = subst (λ z. map (λ p. p.seat) z ++ below c.deal-more.new.place.me.0.parts ≡ below c.args.passes) (sym c.add.ensures.items)
          (dealt_more c.loop-number.dealt.items _ c.args.passes c.loop-number.place.me.0.parts c.deal-more.new.place.me.0.parts i.seats less (search rules));
    }

pub returns-clause-each : goal.returns-clause-each
returns-clause-each g c =
    let New : Sitting → Type 0 = λ p. (p.desk ≡ c.args.top.now.table_id) × (p.start ≡ c.args.place.me.0.start) × (p.origin ≡ c.args.place.me.0.origin) × (p.passes ≡ c.args.place.me.0.passes) × (p.seen ≡ []) in
    subst (Each New) (sym c.add-2.ensures.items) (each_more New c.loop-number.dealt.items _ c.loop-number.invariant.each (search rules))

pub returns-clause-seats : goal.returns-clause-seats
returns-clause-seats g c =
    let i = c.loop-number.invariant in
    let last : c.loop-number.place.me.0.parts ≡ 1 = search rules in
    subst (λ z. map (λ p. p.seat) z ≡ below c.args.passes) (sym c.add-2.ensures.items)
    (dealt_all c.loop-number.dealt.items _ c.args.passes (subst (λ z. map (λ p. p.seat) c.loop-number.dealt.items ++ below z ≡ below c.args.passes) last i.seats) (search rules))
