-- What a client's number says of a call, against what the call comes to.
use Rattle.std.specs.Prelude.{◌≡◌}
use Rattle.sb_machine.specs.Repeats.{Outcome, refused, repeated}
use Rattle.sb_engine.specs.declared.plan.calls.Verdict.{Verdict}
use Rattle.sb_engine.specs.declared.plan.calls.Verdict.TheVariants.{Acts, Acted, Refused}

-- it comes to what comes next, or to the reply that was kept, or to a refusal
abbrev pub Follows : Verdict → Outcome → Outcome → Type 0
Follows Acts outcome next = outcome ≡ next
Follows (Acted reply) outcome next = outcome ≡ repeated reply.now
Follows (Refused r) outcome next = outcome ≡ refused r
