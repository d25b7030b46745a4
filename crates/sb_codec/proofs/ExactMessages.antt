-- Messages and their properties are forms that are exact.
use Rattle.std.proofs.Common.{ℕ, List, ◌++◌, Some, refl, sym, ap, subst, ◌∙◌}
use Rattle.std.specs.Int.{w64, to_be_bytes, cast_signed, cast_unsigned}
use Rattle.std.proofs.Math.Facts.{sfits_to_z, Fits-of_z, Fits-of_lt, Fits-lt-pow}
use Rattle.std.proofs.lemmas.Int.{to_z-of_z, of_z-to_z}
use Rattle.sb_model.specs.SystemNames.{system_names, system_code}
use Rattle.sb_model.specs.declared.message.PropertyValue.{PropertyValue}
use Rattle.sb_model.specs.declared.message.PropertyValue.TheVariants.{Int, Text, Bool as Truth}
use Rattle.sb_model.specs.declared.message.SystemName.TheVariants.{MessageId, Label, CorrelationId, SessionId, To, ReplyTo, ReplyToSessionId, ContentType}
use Rattle.sb_codec.specs.Messages.{system_kind, signed64, int_row, text_row, truth_row, value_case, value_choice, value, system, is_next_system, systems, property, is_next_property, properties, conditions, message}
use Rattle.sb_codec.proofs.Exact.{bind_some, some_is, Taken, exact_number64}
use Rattle.sb_codec.proofs.Forms.{IsForm, number64_is, blob_is, text_is, ◌then_is◌, shaped_is, optional_is, listed_is, coded_is, Chooses, no_row_chooses, row_chooses, IsCase, is_case, variants_is}
use Rattle.sb_codec.proofs.ExactPieces.{truth_is}

system_kind_is : IsForm system_kind
system_kind_is = coded_is system_code system_names (elim [ MessageId ↦ refl | Label ↦ refl | CorrelationId ↦ refl | SessionId ↦ refl | To ↦ refl | ReplyTo ↦ refl | ReplyToSessionId ↦ refl | ContentType ↦ refl ])

signed64_is : IsForm signed64
unfolding signed64
signed64_is = record {
  exact = record {
    takes = λ bytes x bounds e.
        let a = bind_some _ (λ (v : ℕ × List ℕ). Some (cast_signed w64 v.0, v.1)) x e in
        let u = exact_number64.takes bytes a.0 bounds a.1 in
        subst (Taken (λ z. to_be_bytes w64 (cast_unsigned w64 z)) _ bytes) (some_is (cast_signed w64 a.0.0, a.0.1) x a.2) (record {
          parts = u.parts ∙ ap (λ (n : ℕ). to_be_bytes w64 n ++ a.0.1) (sym (of_z-to_z w64 a.0.0 u.fits));
          rest = u.rest;
          fits = sfits_to_z {w = w64} {n = a.0.0} (Fits-of_lt {w = w64} {n = a.0.0} u.fits);
        });
    again = λ z rest fits. rw (exact_number64.again (cast_unsigned w64 z) rest (Fits-lt-pow {w = w64} {n = cast_unsigned w64 z} (Fits-of_z {w = w64} {z = z} fits)), to_z-of_z w64 z fits) refl;
  };
  asked = λ z h. tt;
  small = λ z. number64_is.small (cast_unsigned w64 z);
}

value_chooses : Chooses value_case value_choice
value_chooses =
    row_chooses value_case int_row _ signed64_is (λ _. refl) (λ _ f. f)
    (row_chooses value_case text_row _ text_is (λ _. refl) (λ _ f. f)
    (row_chooses value_case truth_row _ truth_is (λ _. refl) (λ _ f. f)
    (no_row_chooses value_case)))

value_each : (v : PropertyValue) → IsCase value_choice (value_case v) v
value_each (Int z) = is_case value_choice int_row signed64_is (λ _. refl) z
value_each (Text t) = is_case value_choice text_row text_is (λ _. refl) t
value_each (Truth b) = is_case value_choice truth_row truth_is (λ _. refl) b

pub value_is : IsForm value
unfolding value
value_is = variants_is value_case value_choice value_chooses value_each

pub system_is : IsForm system
unfolding system
system_is = shaped_is _ _ (λ _. refl) (λ _. refl) (system_kind_is then_is text_is)

pub systems_is : IsForm systems
systems_is = listed_is is_next_system system_is

pub property_is : IsForm property
unfolding property
property_is = shaped_is _ _ (λ _. refl) (λ _. refl) (text_is then_is value_is)

pub properties_is : IsForm properties
properties_is = listed_is is_next_property property_is

pub conditions_is : IsForm conditions
unfolding conditions
conditions_is = shaped_is _ _ (λ _. refl) (λ _. refl) (systems_is then_is properties_is)

pub message_is : IsForm message
unfolding message
message_is = shaped_is _ _ (λ _. refl) (λ _. refl) (blob_is then_is systems_is then_is properties_is then_is optional_is number64_is then_is optional_is number64_is)
