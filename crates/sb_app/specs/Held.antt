-- What is held back for the clock: a line of a run, or a server.
use Rattle.std.specs.Prelude.{◌≡◌, ◌⊎◌, ℕ, true}
use Rattle.sb_machine.specs.declared.call.TimedCall.{TimedCall}
use Rattle.sb_lines.specs.declared.form.Form.{Form}
use Rattle.sb_app.specs.Outside.{Output}
use Rattle.sb_app.specs.Endings.{IsLineWritten}
use Rattle.sb_app.specs.Jumps.{is_far_ahead, jumps, jump_line}
use Rattle.sb_app.specs.declared.jump.Jump.{Jump}
use Rattle.sb_app.specs.declared.script_line.ScriptLine.{ScriptLine}
use Rattle.sb_app.specs.declared.script_line.ScriptLine.TheVariants.{Request}

-- this line asks for a call at the moment of the jump, which is too far ahead of what the clock read
pub record IsTooFar (reads : ℕ → Type 0) (days : ℕ) (line : ScriptLine) (jump : Jump) : Type 0 where
  pub asked : TimedCall
  pub form : Form
  pub is : line ≡ Request asked form
  pub at : jump.moment ≡ asked.reading
  pub read : reads jump.reading
  pub far : is_far_ahead days jump.reading jump.moment ≡ true

-- what the clock read is too far ahead of this moment
pub record IsOvertaken (reads : ℕ → Type 0) (days moment : ℕ) (jump : Jump) : Type 0 where
  pub at : jump.moment ≡ moment
  pub read : reads jump.reading
  pub far : jumps days jump.moment jump.reading ≡ true

-- the line of a jump was written, or memory was wanting for it
abbrev pub IsJumpStatus : Jump → (was now : Output) → (status : ℕ) → Type 0
IsJumpStatus jump was now status = ((status ≡ 14) × IsLineWritten (jump_line jump.moment jump.reading) was now) ⊎ ((status ≡ 7) × (now ≡ was))
