-- One step of a text against a pattern.
use Rattle.std.proofs.Common.{◌≡◌, ℕ, List, [], ◌∷◌, Option, Some, None, refl, sym, ◌∙◌, arith, Bool, true, false}
use Rattle.std.specs.Prelude.{◌&&◌, drop}
use Rattle.std.specs.Str.{chars}
use Rattle.sb_model.specs.Likes.{PatternPart, parts_of, with_part, has_some_form}
use Rattle.sb_sqleval.specs.Places.{one_part, is_wanted, Begins, fits, Passes}

false_right : (b : Bool) → (b && false) ≡ false
false_right true = refl
false_right false = refl

right_true : (a b : Bool) → (a && b) ≡ true → b ≡ true
right_true true b e = e
right_true false b e = absurd cc

form_at_end : (wanted : Option ℕ) (parts : Option (List PatternPart)) → has_some_form (with_part (one_part wanted) parts) [] ≡ false
form_at_end wanted None = refl
form_at_end None (Some parts) = refl
form_at_end (Some d) (Some parts) = refl

form_of_one : (wanted : Option ℕ) (parts : Option (List PatternPart)) (c : ℕ) (cs : List ℕ) → has_some_form (with_part (one_part wanted) parts) (c ∷ cs) ≡ (is_wanted wanted c && has_some_form parts cs)
form_of_one wanted None c cs = sym (false_right (is_wanted wanted c))
form_of_one None (Some parts) c cs = refl
form_of_one (Some d) (Some parts) c cs = refl

-- a pattern that has one character first
pub text_ended : (escape wanted : Option ℕ) (ahead left onward : List ℕ) → Begins escape ahead onward (one_part wanted) → chars left ≡ [] → fits escape ahead (chars left) ≡ false
text_ended escape wanted ahead left onward begins none = rw (begins.parts, none) (form_at_end wanted (parts_of escape (chars onward)))

pub unwanted : (escape wanted : Option ℕ) (ahead left onward : List ℕ) (c : ℕ) (cs : List ℕ) → Begins escape ahead onward (one_part wanted) → chars left ≡ c ∷ cs → is_wanted wanted c ≡ false → fits escape ahead (chars left) ≡ false
unwanted escape wanted ahead left onward c cs begins some is = rw (begins.parts, some, form_of_one wanted (parts_of escape (chars onward)) c cs, is) refl

fits_later : (wanted : Option ℕ) (parts : Option (List PatternPart)) (s : List ℕ) → has_some_form (with_part (one_part wanted) parts) s ≡ true → has_some_form parts (drop 1 s) ≡ true
fits_later wanted parts [] fit = let no = form_at_end wanted parts in absurd cc
fits_later wanted parts (c ∷ cs) fit = right_true (is_wanted wanted c) (has_some_form parts cs) (sym (form_of_one wanted parts c cs) ∙ fit)

pub passed_one : (escape wanted : Option ℕ) (ahead left onward rest : List ℕ) (c : ℕ) → Begins escape ahead onward (one_part wanted) → chars left ≡ c ∷ chars rest → is_wanted wanted c ≡ true → Passes escape ahead left onward rest
passed_one escape wanted ahead left onward rest c begins some is = record {
  same = rw (begins.parts, some, form_of_one wanted (parts_of escape (chars onward)) c (chars rest), is) refl;
  later = λ s fit. fits_later wanted (parts_of escape (chars onward)) s (rw begins.parts at fit);
  text = rw some refl;
  fewer = rw some (omega arith);
  shorter = begins.shorter;
}

-- a pattern at its end
pub ended_both : (escape : Option ℕ) (ahead left : List ℕ) → parts_of escape (chars ahead) ≡ Some [] → chars left ≡ [] → fits escape ahead (chars left) ≡ true
ended_both escape ahead left is none = rw (is, none) refl

pub text_left : (escape : Option ℕ) (ahead left : List ℕ) (c : ℕ) (cs : List ℕ) → parts_of escape (chars ahead) ≡ Some [] → chars left ≡ c ∷ cs → fits escape ahead (chars left) ≡ false
text_left escape ahead left c cs is some = rw (is, some) refl
