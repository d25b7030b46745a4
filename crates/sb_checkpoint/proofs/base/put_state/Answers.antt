use Rattle.std.proofs.Common.{◌++◌, map, subst}
use Rattle.std.specs.List.{flat_map}
use Rattle.sb_codec.specs.Forms.{number64, ◌then◌}
use Rattle.sb_codec.specs.Messages.{any_next}
use Rattle.sb_snapshot.specs.Base.{parts, head_of, leaves_in, sessions_in}
use Rattle.sb_snapshot.specs.Entities.{head, is_next_head}
use Rattle.sb_snapshot.specs.Lists.{listed64}
use Rattle.sb_snapshot.specs.Replies.{kept, is_next_kept}
use Rattle.sb_snapshot.specs.Sessions.{leaf, session, is_next_session}
use Rattle.sb_snapshot.specs.Transactions.{transaction, is_next_transaction}
use Rattle.sb_checkpoint.specs.Stores.{held_state}
use Rattle.sb_checkpoint.specs.Takings.{Takes}
use Rattle.sb_checkpoint.proofs.Fitting.{few_in_base, all_fit}
use Rattle.sb_checkpoint.proofs.Taking.{takes_then, all_then}
use Rattle.sb_checkpoint.proofs.base.put_state.Goals as goal

pub returns-clause-takes : goal.returns-clause-takes
unfolding parts
returns-clause-takes g c =
    let s = held_state c.args.held.now in
    let P = g.P.Pieces in
    let was = c.args.out.now in
    let now = c.put_rest.new.out in
    let n = number64.spell s.now in
    let lock = number64.spell s.space.last_lock in
    let txn = number64.spell s.space.last_txn in
    let entity = number64.spell s.space.last_entity in
    let heads = (listed64 is_next_head head).spell (map head_of s.space.entities) in
    let leaves = (listed64 any_next leaf).spell (flat_map leaves_in s.space.entities) in
    let others = (number64 then listed64 is_next_session session then listed64 is_next_transaction transaction then listed64 is_next_kept kept).spell (s.space.removed, (flat_map sessions_in s.space.entities, (s.space.transactions, s.clients))) in
    subst (λ z. Takes P was now z c.put_rest.result) (all_then n lock txn entity heads leaves others)
    (takes_then P was c.put_numbers.new.out now (n ++ (lock ++ (txn ++ entity))) ((heads ++ leaves) ++ others) c.put_rest.result c.in_ok-put_numbers.ensures.takes
    (takes_then P c.put_numbers.new.out c.put_entities.new.out now (heads ++ leaves) others c.put_rest.result c.in_ok-put_entities.ensures.takes c.put_rest.ensures.takes))

pub returns-clause-fits : goal.returns-clause-fits
unfolding parts
returns-clause-fits g c short =
    let few = few_in_base (held_state c.args.held.now) short in
    all_fit c.put_rest.result _ c.in_ok-put_numbers.ensures.fits (c.in_ok-put_entities.ensures.fits few.0) (c.put_rest.ensures.fits few.1)
