use Rattle.std.proofs.Common.{refl}
use Rattle.sb_lines.specs.Tokens.{token_text}
use Rattle.sb_lines.proofs.token.token_text.Goals as goal

pub returns : goal.returns
unfolding token_text
returns c = rw (c.in_ok-text.ensures.ok, c.encode_lower-shown.ensures.text, c.hyphenated.ensures, c.from_u64_pair-uuid.ensures) refl
