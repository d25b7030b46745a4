-- A law of replies.
use Rattle.std.specs.Prelude.{◌≡◌, ℕ, List, Bool, true, not, ◌==◌, Result}
use Rattle.std.specs.List.{list_all}
use Rattle.serde_json.specs.Written.{compact_text}
use Rattle.sb_machine.specs.declared.reply.Answered.{Answered}
use Rattle.sb_machine.specs.declared.reply.Refusal.{Refusal}
use Rattle.sb_lines.specs.declared.form.Form.{Form}
use Rattle.sb_lines.specs.Replies.{answer_data}

-- no line feed stands among these bytes
abbrev pub is_one_line : List ℕ → Bool
is_one_line bytes = list_all (λ b. not (b == 10)) bytes

-- a reply has a line feed at its end and none before it, whatever its texts and bodies hold
abbrev pub EachIsOneLine : Type 0
EachIsOneLine = (form : Form) (answer : Result Answered Refusal) → is_one_line (compact_text (answer_data form answer)) ≡ true
