use Rattle.std.proofs.Common.{◌≤◌, ◌<◌, ◌+◌, ◌^◌, ◌∙◌, List, ap, sym, subst, arith}
use Rattle.std.specs.Prelude.{vec_len, vec_capacity}
use Rattle.std.specs.List.{list_any}
use Rattle.sb_machine.specs.Each.{Each}
use Rattle.sb_machine.specs.declared.state.Transaction.{Transaction}
use Rattle.sb_txn.specs.Queued.{slots_of, is_keyed_in}
use Rattle.sb_txn.specs.Txns.{transactions_of}
use Rattle.sb_txn.proofs.Given.{given_kept, given_seen, given_slots}
use Rattle.sb_txn.proofs.txns.Txns.from_rows.Goals as goal

pub invariant_of-result : goal.invariant_of-result
invariant_of-result c =
    let small : Each (λ x. x.number < 2 ^ 64) c.args.transactions = subst (λ (l : List Transaction). Each (λ x. x.number < 2 ^ 64) l) c.as_slice.ensures c.in_ok-keys.ensures.numbers in
    let room : vec_len c.in_ok-rows.rows + 0 ≤ vec_capacity c.in_ok-rows.rows = omega arith in (
      room,
      sym (ap slots_of c.in_ok-rows.ensures ∙ given_slots c.args.transactions),
      given_kept c.args.transactions c.in_ok-rows.rows.items c.in_ok-keys.keys c.in_ok-rows.ensures c.requires small (λ k. c.in_ok-keys.ensures.keys k ∙ ap (list_any (is_keyed_in k)) c.as_slice.ensures),
    )

pub returns-clause-transactions : goal.returns-clause-transactions
returns-clause-transactions c = ap transactions_of c.in_ok-rows.ensures ∙ given_seen c.args.transactions
