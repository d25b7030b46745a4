-- Who receives at an address, test by test.
use Rattle.std.proofs.Common.{◌≡◌, ℕ, ◌∙◌, subst, Option}
use Rattle.sb_machine.specs.Claims.{Claim, asks_session, asks_holder}
use Rattle.sb_machine.specs.Namespace.{leaf_of}
use Rattle.sb_machine.specs.Rows.{Row, refuses, at_receivable}
use Rattle.sb_machine.specs.declared.call.Path.{Path}
use Rattle.sb_machine.specs.declared.call.Token.{Token}
use Rattle.sb_machine.specs.declared.reply.Refusal.{Refusal}
use Rattle.sb_machine.specs.declared.state.Entity.{Entity}
use Rattle.sb_machine.specs.declared.state.Leaf.{Leaf}
use Rattle.sb_machine.specs.declared.state.Space.{Space}
use Rattle.sb_engine.specs.Heads.{Passes, Refuses, Allows, by_claim}

came_to : (s : Space) (t : ℕ) (from : Path) (session : Option Token) (e : Entity) → Passes (at_receivable s from) e → Allows (asks_session e from.part session) → (next : Entity → Option Claim → Row) → by_claim s t from session next ≡ asks_holder s t (leaf_of from.part e) session (next e)
came_to s t from session e found allowed next =
    found (λ (x : Entity). asks_session x from.part session (asks_holder s t (leaf_of from.part x) session (next x)))
    ∙ allowed (asks_holder s t (leaf_of from.part e) session (next e))

pub claim_passes : (s : Space) (t : ℕ) (from : Path) (session : Option Token) (e : Entity) (leaf : Leaf) (claim : Option Claim) → Passes (at_receivable s from) e → Allows (asks_session e from.part session) → leaf ≡ leaf_of from.part e → Passes (asks_holder s t leaf session) claim → (next : Entity → Option Claim → Row) → by_claim s t from session next ≡ next e claim
claim_passes s t from session e leaf claim found allowed same held next =
    let there : Passes (asks_holder s t (leaf_of from.part e) session) claim = subst (λ (l : Leaf). Passes (asks_holder s t l session) claim) same held in
    came_to s t from session e found allowed next ∙ there (next e)

pub claim_refuses : (s : Space) (t : ℕ) (from : Path) (session : Option Token) (e : Entity) (leaf : Leaf) (r : Refusal) → Passes (at_receivable s from) e → Allows (asks_session e from.part session) → leaf ≡ leaf_of from.part e → Refuses (asks_holder s t leaf session) r → (next : Entity → Option Claim → Row) → by_claim s t from session next ≡ refuses r
claim_refuses s t from session e leaf r found allowed same held next =
    let there : Refuses (asks_holder s t (leaf_of from.part e) session) r = subst (λ (l : Leaf). Refuses (asks_holder s t l session) r) same held in
    came_to s t from session e found allowed next ∙ there (next e)
