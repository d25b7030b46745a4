-- What is done with a line, by what is kept of it.
use Rattle.std.proofs.Common.{◌≡◌, ℕ, ◌<◌, ◌≤◌, List, length, true, false, nat_lt, cond, ◌∙◌, ap, arith}
use Rattle.std.proofs.lemmas.Bool.Decides.{nat_tests}
use Rattle.sb_input.specs.Limits.{max_line}
use Rattle.sb_input.specs.Lines.{is_blank}
use Rattle.sb_client.specs.Answers.{blank, too_long, sent, kind_of}

not_over : (n m : ℕ) → n ≤ m → nat_lt m n ≡ false
not_over n m fits = grind (arith, nat_tests)

is_over : (n m : ℕ) → m < n → nat_lt m n ≡ true
is_over n m over = grind (arith, nat_tests)

pub kind_blank : (line : List ℕ) → is_blank line ≡ true → kind_of line ≡ blank
kind_blank line is = ap (λ t. cond t blank (cond (nat_lt max_line (length line)) too_long sent)) is

pub kind_sent : (line : List ℕ) → is_blank line ≡ false → length line ≤ max_line → kind_of line ≡ sent
kind_sent line not_blank fits =
    ap (λ t. cond t blank (cond (nat_lt max_line (length line)) too_long sent)) not_blank
    ∙ ap (λ t. cond t too_long sent) (not_over (length line) max_line fits)

pub kind_long : (line : List ℕ) → is_blank line ≡ false → max_line < length line → kind_of line ≡ too_long
kind_long line not_blank over =
    ap (λ t. cond t blank (cond (nat_lt max_line (length line)) too_long sent)) not_blank
    ∙ ap (λ t. cond t too_long sent) (is_over (length line) max_line over)
