-- Events are spelled and read exactly.
use Rattle.std.proofs.Common.{◌≡◌, ℕ, ◌+◌, ◌≤◌, cond, eqb, List, [], ◌++◌, length, Option, Some, None, Result, Ok, Err, refl, sym, ap, subst, ◌∙◌}
use Rattle.std.specs.Prelude.{IfSome, IfOk}
use Rattle.std.proofs.lemmas.Bool.{eqb-true}
use Rattle.std.proofs.lemmas.List.{append-nil, nil_from_length}
use Rattle.sb_machine.specs.declared.call.Event.{Event}
use Rattle.sb_machine.specs.declared.call.Event.TheVariants.{Tick, Called}
use Rattle.sb_codec.specs.EventBytes.{a_call, event, event_case, event_choice, tick, called, event_bytes, HasSpelling, IsSpellable, read_event}
use Rattle.sb_codec.proofs.Exact.{IsBytes, bind_some, some_is, when_some}
use Rattle.sb_codec.proofs.Forms.{IsForm, number64_is, ◌then_is◌, shaped_is, optional_is, Chooses, no_row_chooses, row_chooses, IsCase, is_case, variants_is}
use Rattle.sb_codec.proofs.ExactPieces.{by_is}
use Rattle.sb_codec.proofs.ExactActs.{any_act_is}

pub a_call_is : IsForm a_call
unfolding a_call
a_call_is = shaped_is _ _ (λ _. refl) (λ _. refl) (optional_is by_is then_is any_act_is)

event_chooses : Chooses event_case event_choice
event_chooses =
    row_chooses event_case tick _ number64_is (λ _. refl) (λ _ f. f)
    (row_chooses event_case called _ (number64_is then_is a_call_is) (λ _. refl) (λ _ f. f)
    (no_row_chooses event_case))

event_each : (v : Event) → IsCase event_choice (event_case v) v
event_each (Tick t) = is_case event_choice tick number64_is (λ _. refl) t
event_each (Called t call) = is_case event_choice called (number64_is then_is a_call_is) (λ _. refl) (t, call)

pub event_is : IsForm event
unfolding event
event_is = variants_is event_case event_choice event_chooses event_each

-- what is read is spelled so
pub read_event_takes : (bytes : List ℕ) (e : Event) → IsBytes bytes → read_event bytes ≡ Some e → (bytes ≡ event_bytes e) × HasSpelling e
unfolding read_event
read_event_takes bytes e bounds h =
    let a = bind_some (event.reads bytes) (λ x. cond (eqb (length x.1) 0) (Some x.0) None) e h in
    let g = when_some (eqb (length a.0.1) 0) a.0.0 e a.2 in
    let u = event_is.exact.takes bytes a.0 bounds a.1 in
    let nothing : a.0.1 ≡ [] = nil_from_length a.0.1 (eqb-true _ _ g.0) in
    subst (λ (v : Event). (bytes ≡ event_bytes v) × HasSpelling v) g.1 (u.parts ∙ ap (λ (tail : List ℕ). event_bytes a.0.0 ++ tail) nothing ∙ append-nil (event_bytes a.0.0), u.fits)

-- what is spelled so is read
pub read_event_again : (e : Event) → HasSpelling e → read_event (event_bytes e) ≡ Some e
unfolding read_event
read_event_again e f =
    let whole : event.reads (event_bytes e) ≡ Some (e, []) = ap event.reads (sym (append-nil (event_bytes e))) ∙ event_is.exact.again e [] f in
    rw whole refl

-- what comes behind tells no two spellings apart
pub spelled_once : (a b : Event) (x y : List ℕ) → HasSpelling a → HasSpelling b → event_bytes a ++ x ≡ event_bytes b ++ y → (a ≡ b) × (x ≡ y)
spelled_once a b x y f g e =
    let same : (a, x) ≡ (b, y) = some_is (a, x) (b, y) (sym (event_is.exact.again a x f) ∙ ap event.reads e ∙ event_is.exact.again b y g) in
    (ap (λ (p : Event × List ℕ). p.0) same, ap (λ (p : Event × List ℕ). p.1) same)

pub is_found : {E : Type 0} (bytes : List ℕ) (r : Result (Option Event) E) → IsBytes bytes → IfOk r (λ o. o ≡ read_event bytes) → IfOk r (λ o. IfSome o (λ e. (bytes ≡ event_bytes e) × HasSpelling e))
is_found bytes (Ok None) bounds given = tt
is_found bytes (Ok (Some e)) bounds given = read_event_takes bytes e bounds (sym given)
is_found bytes (Err e) bounds given = tt

pub is_only : {E : Type 0} (bytes : List ℕ) (r : Result (Option Event) E) → IfOk r (λ o. o ≡ read_event bytes) → IfOk r (λ o. (e : Event) → HasSpelling e → bytes ≡ event_bytes e → o ≡ Some e)
is_only bytes (Ok o) given = λ e f same. given ∙ ap read_event same ∙ read_event_again e f
is_only bytes (Err e) given = tt

pub event_small : (e : Event) → length (event_bytes e) ≤ event.fixed + event.content e
event_small e = event_is.small e

-- what has a spelling may be written
pub spellable : (e : Event) → HasSpelling e → IsSpellable e
spellable e h = event_is.asked e h
