-- Moments as texts.
use Rattle.std.specs.Prelude.{◌≡◌, ℕ, ◌/◌, min, List, []}
use Rattle.httpdate.specs.Date.{unix_secs, date_text}
use Rattle.httpdate.specs.declared.date.HttpDate.{HttpDate}
use Rattle.sb_machine.specs.declared.reply.Showing.{Showing}
use Rattle.sb_machine.specs.declared.reply.Showing.TheVariants.{Removed, Locked, Browsed}

-- the last second of the year 9999, the last that has a text
abbrev pub last_second : ℕ
last_second = 253402300799

-- The text of a moment in ms since 1970: the date and time of its second, in the form IMF-fixdate (RFC
-- 9110, 5.6.7). There is one at most, since a date's seconds tell its parts. Behind the last second that
-- has a text stands that one's.
pub record IsTime (ms : ℕ) (shown : List ℕ) : Type 0 where
  pub date : HttpDate
  pub secs : unix_secs date ≡ min (ms / 1000) last_second
  pub text : shown ≡ date_text date

-- until when the lock lives, if there is one
abbrev pub IsUntil : Showing → List ℕ → Type 0
IsUntil (Locked token until) shown = IsTime until shown
IsUntil Removed shown = shown ≡ []
IsUntil (Browsed state) shown = shown ≡ []
