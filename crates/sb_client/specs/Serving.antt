-- One line was answered, or ended the run: what the link and the output tell of it.
use Rattle.std.specs.Prelude.{ℕ, List, Bool, Option}
use Rattle.sb_outside.specs.Links.{Exchange}
use Rattle.sb_outside.specs.Streams.{Gains}
use Rattle.sb_client.specs.Answers.{IsAnsweredAs, IsCutAt, kind_of}
use Rattle.sb_client.specs.declared.ending.ClientEnding.{ClientEnding}

-- A line was answered, and the run goes on.
pub record IsServed (key line : List ℕ) (told told_after : Option (List Exchange)) (given given_after : Option (List ℕ)) (refused : Bool) : Type 0 where
  pub made : List Exchange
  pub written : List ℕ
  pub is : IsAnsweredAs key (kind_of line) line made written refused
  pub tells : Gains told told_after made
  pub gives : Gains given given_after written

-- A line was answered in part, and the run ends with it.
pub record IsCutServing (key line : List ℕ) (told told_after : Option (List Exchange)) (given given_after : Option (List ℕ)) (end : ClientEnding) : Type 0 where
  pub made : List Exchange
  pub part : List ℕ
  pub is : IsCutAt key end line made part
  pub tells : Gains told told_after made
  pub gives : Gains given given_after part
