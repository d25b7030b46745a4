-- What is queued in a transaction, by the entity that was found.
use Rattle.std.proofs.Common.{◌≡◌, ℕ, refl, ap, ◌∙◌, Bool, List, Option, Some, None, subst}
use Rattle.std.specs.Prelude.{find}
use Rattle.std.specs.List.{list_all}
use Rattle.sb_machine.specs.Namespace.{is_entity}
use Rattle.sb_machine.specs.declared.call.How.{How}
use Rattle.sb_machine.specs.declared.call.Path.{Path}
use Rattle.sb_machine.specs.declared.call.Token.{Token}
use Rattle.sb_machine.specs.declared.state.Entity.{Entity}
use Rattle.sb_machine.specs.declared.state.Operation.{Operation}
use Rattle.sb_machine.specs.declared.state.Operation.TheVariants.{Send, Settle}
use Rattle.sb_machine.specs.declared.state.Space.{Space}
use Rattle.sb_machine.specs.declared.state.Transaction.{Transaction}
use Rattle.sb_model.specs.declared.message.Message.{Message}
use Rattle.sb_judge.specs.Transactions.{operation_verdict, queued_verdict, send_verdict, settle_verdict}
use Rattle.sb_judge.specs.Verdicts.{Verdict, with_some}

at_some : {X : Type 0} {P : X → Type 0} (o : Option X) (test : (x : X) → Verdict (P x)) (x : X) → Some x ≡ o → (with_some o test).0 ≡ (test x).0
at_some {P = P} o test x e = subst (λ (w : Option _). (with_some {P = P} w test).0 ≡ (test x).0) e refl

at_none : {X : Type 0} {P : X → Type 0} (o : Option X) (test : (x : X) → Verdict (P x)) → None ≡ o → (with_some o test).0 ≡ Bool.false
at_none {P = P} o test e = subst (λ (w : Option _). (with_some {P = P} w test).0 ≡ Bool.false) e refl

pub queued_of : (s : Space) (x : Transaction) (e : Entity) (es : List Entity) → es ≡ s.entities → Some e ≡ find (is_entity x.entity) es → (queued_verdict s x).0 ≡ list_all (λ o. (operation_verdict s e o).0) x.operations
unfolding queued_verdict
queued_of s x e es same is = at_some (find (is_entity x.entity) s.entities) _ e (is ∙ ap (find (is_entity x.entity)) same)

pub settlement_of : (s : Space) (e : Entity) (o : Operation) (from : Path) (number : ℕ) (token : Token) (session : Option Token) (how : How) → o ≡ Settle from number token session how → (operation_verdict s e o).0 ≡ (settle_verdict s e from number token.lock how).0
unfolding operation_verdict
settlement_of s e o from number token session how is = ap (λ p. (operation_verdict s e p).0) is

pub send_of : (s : Space) (e : Entity) (o : Operation) (to : Path) (messages : List Message) → o ≡ Send to messages → (operation_verdict s e o).0 ≡ (send_verdict e to messages).0
unfolding operation_verdict
send_of s e o to messages is = ap (λ p. (operation_verdict s e p).0) is
