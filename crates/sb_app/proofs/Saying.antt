-- What a short line says, once each test has passed.
use Rattle.std.proofs.Common.{◌≡◌, ◌≤◌, ℕ, List, [], length, Bool, true, false, None, Result, refl, sym, ◌∙◌, ap, subst, arith, nat_lt}
use Rattle.std.specs.Prelude.{if◌then◌else◌, codes}
use Rattle.std.specs.Result.{IfOk}
use Rattle.std.specs.Str.{IsUtf8, is_utf8}
use Rattle.std.proofs.lemmas.Str.{is_utf8-from_IsUtf8, IsUtf8-from_is_utf8}
use Rattle.std.proofs.lemmas.Bool.Decides.{nat_tests}
use Rattle.sb_app.specs.declared.script_line.ScriptLine.{ScriptLine}
use Rattle.sb_app.specs.declared.script_line.ScriptLine.TheVariants.{Blank, Malformed}
use Rattle.sb_input.specs.Limits.{max_line}
use Rattle.sb_input.specs.Lines.{is_blank}
use Rattle.sb_app.specs.Lines.{script_line, script_line_of}
use Rattle.sb_lines.specs.Lines.{line_of}

short : (n : ℕ) → n ≤ 2097152 → nat_lt 2097152 n ≡ false
short n le = grind (arith, nat_tests)

tested : (line : List ℕ) → is_blank line ≡ false → length line ≤ 2097152 → script_line line ≡ (if is_utf8 line then script_line_of (line_of line) else Malformed None [])
tested line some le =
    ap (λ (b : Bool). if b then Blank else (if nat_lt max_line (length line) then Malformed None (codes "line") else (if is_utf8 line then script_line_of (line_of line) else Malformed None []))) some
    ∙ ap (λ (b : Bool). if b then Malformed None (codes "line") else (if is_utf8 line then script_line_of (line_of line) else Malformed None [])) (short (length line) le)

pub text_said : {E : Type 0} (line text : List ℕ) (r : Result ScriptLine E) → is_blank line ≡ false → length line ≤ 2097152 → text ≡ line → IsUtf8 line → IfOk r (λ x. x ≡ script_line_of (line_of text)) → IfOk r (λ x. x ≡ script_line line)
text_said line text r some le same utf8 says =
    let is : script_line_of (line_of text) ≡ script_line line = ap (λ t. script_line_of (line_of t)) same ∙ sym (tested line some le ∙ ap (λ (b : Bool). if b then script_line_of (line_of line) else Malformed None []) (is_utf8-from_IsUtf8 line utf8)) in
    subst (λ (x : ScriptLine). IfOk r (λ y. y ≡ x)) is says

not_text : (line : List ℕ) → (IsUtf8 line → ⊥) → is_utf8 line ≡ false
not_text line bad = by_test (is_utf8 line) refl
  where
    by_test : (b : Bool) → is_utf8 line ≡ b → is_utf8 line ≡ false
    by_test true is = absurd (bad (IsUtf8-from_is_utf8 line is))
    by_test false is = is

pub bytes_said : (line : List ℕ) → is_blank line ≡ false → length line ≤ 2097152 → (IsUtf8 line → ⊥) → Malformed None [] ≡ script_line line
bytes_said line some le bad = sym (tested line some le ∙ ap (λ (b : Bool). if b then script_line_of (line_of line) else Malformed None []) (not_text line bad))
