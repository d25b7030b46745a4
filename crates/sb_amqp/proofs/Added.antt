-- What calls that write one behind the other have added.
use Rattle.std.proofs.Common.{◌≡◌, ℕ, suc, ◌+◌, ◌<◌, ◌≤◌, List, [], ◌∷◌, ◌++◌, length, get_or, drop, Option, Result, Ok, Err, refl, sym, ap, ◌∙◌, append_assoc, add-one, drop-cons}
use Rattle.std.specs.Prelude.{OnOk}
use Rattle.std.specs.List.{flat_map}
use Rattle.std.proofs.lemmas.List.{append-nil, drop_all}
use Rattle.sb_model.specs.declared.message.Message.{Message}
use Rattle.sb_model.specs.declared.message.Property.{Property}
use Rattle.sb_model.specs.declared.message.SystemText.{SystemText}
use Rattle.sb_amqp.specs.Values.{joined}
use Rattle.sb_amqp.specs.Written.{written, string, property_value, entry, header, annotations, properties, application, data_section}

pub then_added : {T E : Type 0} (r : Result T E) (old mid new front back : List ℕ) → mid ≡ old ++ front → OnOk r (new ≡ mid ++ back) → OnOk r (new ≡ old ++ (front ++ back))
then_added (Ok x) old mid new front back first last = last ∙ ap (λ (b : List ℕ). b ++ back) first ∙ append_assoc old front back
then_added (Err e) old mid new front back first last = last

-- ---- user properties

pub entry_added : (props : List Property) (i : ℕ) (p : Property) (name old mid new all : List ℕ) → i < length props → p ≡ get_or props i p → name ≡ p.name
    → mid ≡ old ++ string name → new ≡ mid ++ property_value p.value
    → old ++ joined (flat_map entry (drop i props)) ≡ all → new ++ joined (flat_map entry (drop (i + 1) props)) ≡ all
entry_added props i p name old mid new all within is named first last so_far =
    let front : drop i props ≡ p ∷ drop (i + 1) props = rw add-one (drop-cons props i p within ∙ ap (λ (y : Property). y ∷ drop (suc i) props) (sym is)) in
    let others : List ℕ = joined (flat_map entry (drop (i + 1) props)) in
    rw (last, first, named)
    (append_assoc (old ++ string p.name) (property_value p.value) others
    ∙ append_assoc old (string p.name) (property_value p.value ++ others)
    ∙ ap (λ (ps : List Property). old ++ joined (flat_map entry ps)) (sym front)
    ∙ so_far)

pub entries_added : (props : List Property) (i : ℕ) (new all : List ℕ) → length props ≤ i → new ++ joined (flat_map entry (drop i props)) ≡ all → new ≡ all
entries_added props i new all done so_far =
    sym (append-nil new) ∙ ap (λ (ps : List Property). new ++ joined (flat_map entry ps)) (sym (drop_all i props done)) ∙ so_far

-- ---- sections

pub message_added : (m : Message) (schedule : Option ℕ) (sys : List SystemText) (props : List Property) (body none first second third fourth new : List ℕ)
    → none ≡ [] → sys ≡ m.sys → props ≡ m.props → body ≡ m.body
    → first ≡ none ++ header m.ttl → second ≡ first ++ annotations schedule → third ≡ second ++ properties sys → fourth ≡ third ++ application props
    → new ≡ fourth ++ data_section body → new ≡ written (record m { schedule = schedule })
unfolding written
message_added m schedule sys props body none first second third fourth new empty is_sys is_props is_body a b c d e = rw (e, d, c, b, a, empty, is_sys, is_props, is_body) refl
