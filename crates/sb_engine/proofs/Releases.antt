-- What becomes of a copy, from the parts of it that the code has.
use Rattle.std.proofs.Common.{◌≡◌, ℕ, Bool, false, cond, nat_le, List, [], ◌∷◌, ◌++◌, ap, sym, ◌∙◌, subst}
use Rattle.std.specs.Prelude.{◌&&◌, not, ◌==◌}
use Rattle.sb_machine.specs.Delivery.{in_part, dead_lettered, dead_for, expired, is_expired, raised, back_to, released, carried}
use Rattle.sb_machine.specs.Leases.{was_deferred}
use Rattle.sb_machine.specs.Leaves.{copies_given}
use Rattle.sb_machine.specs.Names.{is_main}
use Rattle.sb_machine.specs.Namespace.{listed, last_at}
use Rattle.sb_machine.specs.Visits.{burial}
use Rattle.sb_machine.specs.declared.call.Part.{Part}
use Rattle.sb_machine.specs.declared.call.Part.TheVariants.{Main}
use Rattle.sb_machine.specs.declared.change.Cause.TheVariants.{DeadLettered}
use Rattle.sb_machine.specs.declared.change.Change.{Change}
use Rattle.sb_machine.specs.declared.change.LeafChange.{LeafChange}
use Rattle.sb_machine.specs.declared.change.LeafChange.TheVariants.{Ends, Stands}
use Rattle.sb_machine.specs.declared.reason.DeadReason.TheVariants.{TooOften}
use Rattle.sb_machine.specs.declared.state.Entity.{Entity}
use Rattle.sb_machine.specs.declared.state.Listed.{Listed}
use Rattle.sb_machine.specs.declared.state.Space.{Space}
use Rattle.sb_machine.specs.declared.state.Standing.{Standing}
use Rattle.sb_machine.specs.declared.state.StoredCopy.{StoredCopy}
use Rattle.sb_model.specs.declared.message.Message.{Message}
use Rattle.sb_fanout.specs.Deliveries.{IsCarried}
use Rattle.sb_fanout.specs.Lasts.{Given}
use Rattle.sb_engine.specs.Growing.{IsGrown}
use Rattle.sb_engine.proofs.Growing.{grown_kept, grown_more, grown_carried}

pub grown_in : (s : Space) (given : Given) (part : Part) (e : Entity) (change : LeafChange) (pushed : Change) (old new : List Change) → copies_given change ≡ 0 → pushed ≡ in_part part e change → new ≡ old ++ pushed ∷ [] → IsGrown s (in_part part e change ∷ []) given given old new
grown_in s given part e change pushed old new gives same is =
    grown_kept s (in_part part e change) given old new (ap (λ (n : ℕ). n == 0) gives) (is ∙ ap (λ (c : Change). old ++ c ∷ []) same)

pub grown_dead : (s : Space) (e : Entity) (about : Listed) (c : StoredCopy) (settled : Bool) (m : Message) (before after : Given) (old mid new : List Change) → about ≡ e.about → IsGrown s (in_part Main e (Ends c.number settled DeadLettered) ∷ []) before before old mid → IsCarried (listed s) (λ key. last_at key s) before c.enqueued_seq (burial (listed s) c.hops about m) after mid new → IsGrown s (dead_lettered (listed s) e c settled m) before after old new
grown_dead s e about c settled m before after old mid new same ended buried =
    let moved : IsCarried (listed s) (λ key. last_at key s) before c.enqueued_seq (burial (listed s) c.hops e.about m) after mid new = subst (λ (a : Listed). IsCarried (listed s) (λ key. last_at key s) before c.enqueued_seq (burial (listed s) c.hops a m) after mid new) same buried in
    grown_more s (in_part Main e (Ends c.number settled DeadLettered) ∷ []) (carried c.enqueued_seq (burial (listed s) c.hops e.about m)) before before after old mid new ended (grown_carried s c.enqueued_seq (burial (listed s) c.hops e.about m) before after mid new moved)

-- neither too often nor over: it stands again
pub released_back : (es : List Listed) (t : ℕ) (e : Entity) (part : Part) (c : StoredCopy) (raise settled : Bool) (count : ℕ) (standing : Standing) (often over : Bool) → count ≡ raised raise c.count → standing ≡ back_to c.standing → often ≡ (is_main part && raise && nat_le e.about.description.max_delivery count) → over ≡ (is_main part && not (was_deferred c.standing) && is_expired t c) → often ≡ false → over ≡ false → in_part part e (Stands c.number settled count standing) ∷ [] ≡ released es t e part c raise settled
released_back es t e part c raise settled count standing often over counts stands is_often is_over not_often not_over =
    let one : (is_main part && raise && nat_le e.about.description.max_delivery (raised raise c.count)) ≡ false = ap (λ (n : ℕ). is_main part && raise && nat_le e.about.description.max_delivery n) (sym counts) ∙ sym is_often ∙ not_often in
    let two : (is_main part && not (was_deferred c.standing) && is_expired t c) ≡ false = sym is_over ∙ not_over in
    ap (λ (n : ℕ). in_part part e (Stands c.number settled n standing) ∷ []) counts
    ∙ ap (λ (st : Standing). in_part part e (Stands c.number settled (raised raise c.count) st) ∷ []) stands
    ∙ sym (ap (λ (b : Bool). cond b (expired es e c settled) (in_part part e (Stands c.number settled (raised raise c.count) (back_to c.standing)) ∷ [])) two)
    ∙ sym (ap (λ (b : Bool). cond b (dead_for es e c settled TooOften) (cond (is_main part && not (was_deferred c.standing) && is_expired t c) (expired es e c settled) (in_part part e (Stands c.number settled (raised raise c.count) (back_to c.standing)) ∷ []))) one)
