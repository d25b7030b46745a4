use Rattle.std.proofs.Common.{inl, inr}
use Rattle.sb_journal.proofs.unopened.Unopened.read.Goals as goal

pub returns-in-Err-clause-damaged : goal.returns-in-Err-clause-damaged
returns-in-Err-clause-damaged g c honest side place is =
    let damaged = c.in-Err.ensures.damaged honest side place is in (
      elim damaged.0 [
        | inl framed ↦ framed
        | inr refused ↦ elim refused.2 [
          | inl base ↦ absurd base.1
          | inr payload ↦ absurd payload.refused
        ]
      ],
      damaged.1,
    )
