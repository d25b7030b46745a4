use Rattle.std.proofs.Common.{◌≡◌, Option}
use Rattle.std.specs.Option.{option_map}
use Rattle.sb_machine.specs.Claims.{Claim}
use Rattle.sb_machine.specs.Rows.{Row, refuses}
use Rattle.sb_machine.specs.declared.reply.Refusal.{Refusal}
use Rattle.sb_machine.specs.declared.state.Entity.{Entity}
use Rattle.sb_entities.specs.Stores.{entity_in, leaf_in, space_in}
use Rattle.sb_engine.specs.Heads.{by_claim, claim_in}
use Rattle.sb_engine.specs.declared.find.holding.Claimed.{Claimed}
use Rattle.sb_engine.proofs.Claiming.{claim_passes, claim_refuses}
use Rattle.sb_engine.proofs.PlannedRows.{passed_on}
use Rattle.sb_engine.proofs.find.holding.claimed_at_address.Goals as goal

pub returns-in_err-claim : goal.returns-in_err-claim
returns-in_err-claim c =
    let s = space_in c.args.space.now in
    passed_on (λ (h : Claimed). (next : Entity → Option Claim → Row) → by_claim s c.args.moment c.args.from.now c.args.session next ≡ next (entity_in h.entity.now) (option_map claim_in h.claim)) (λ (r : Refusal). (next : Entity → Option Claim → Row) → by_claim s c.args.moment c.args.from.now c.args.session next ≡ refuses r) c.in_err-claim.field-0.0 c.from_residual-in_err-claim.result c.from_residual-in_err-claim.ensures
    (claim_refuses s c.args.moment c.args.from.now c.args.session (entity_in c.in_ok-entity.entity.now) (leaf_in c.part.result.now) c.in_err-claim.field-0.0 c.in_ok-entity.ensures c.in_ok-check_session.ensures c.part.ensures c.in_err-claim.ensures)

pub returns : goal.returns
returns c =
    let s = space_in c.args.space.now in
    claim_passes s c.args.moment c.args.from.now c.args.session (entity_in c.in_ok-entity.entity.now) (leaf_in c.part.result.now) (option_map claim_in c.in_ok-claim.claim) c.in_ok-entity.ensures c.in_ok-check_session.ensures c.part.ensures c.in_ok-claim.ensures
