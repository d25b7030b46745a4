-- The time to live in BrokerProperties, in s.
use Rattle.std.specs.Prelude.{ℕ, pos, ◌+◌, ◌*◌, ◌-◌, ◌^◌, ◌==◌, ◌&&◌, nat_lt, Bool, List, codes, length, Float, Option, Some, None, is_some, option_map, option_and_then, Result, Ok, Err, if◌then◌else◌}
use Rattle.std.specs.Float.{binary64, float_to_unsigned}
use Rattle.std.specs.Float.Ieee.{of_int, eq}
use Rattle.std.specs.Int.{w64}
use Rattle.form_urlencoded.specs.Form.{split_once}
use Rattle.serde_json.specs.Data.{Num, Data}
use Rattle.serde_json.specs.Find.{as_str, as_number, as_u64, to_float}
use Rattle.sb_http.specs.Fields.{is_number, number_of}
use Rattle.sb_lines.specs.declared.fault.KeyFault.{KeyFault}
use Rattle.sb_lines.specs.declared.texts.Nulls.TheVariants.{Absent}
use Rattle.sb_lines.specs.Faults.{bad_key, or_key}
use Rattle.sb_lines.specs.Messages.{member_at, if_positive}
use Rattle.sb_rest.specs.Values.{number_in}

-- ---- a number of seconds

-- the whole number below 2^64 - 1 that a float is
abbrev pub whole_float : Float → Option ℕ
whole_float x =
    if nat_lt (float_to_unsigned w64 x) (2 ^ 64 - 1) && eq (of_int binary64 (pos (float_to_unsigned w64 x))) x then Some (float_to_unsigned w64 x) else None

-- the number, or a whole one that is written with a point
abbrev pub or_float : Option ℕ → Option Num → Option ℕ
or_float (Some n) number = Some n
or_float None number = option_and_then whole_float (option_map to_float number)

-- a whole number, as 10, or as 10.0
abbrev pub seconds_in : Data → Option ℕ
seconds_in d = or_float (option_and_then as_u64 (as_number d)) (as_number d)

-- ---- a span, as the service writes it: d.hh:mm:ss (Microsoft Learn, .NET, "Standard TimeSpan format strings")

-- two digits, of a number below this
abbrev pub two_digits : ℕ → List ℕ → Option ℕ
two_digits end word = if is_number word && (length word == 2) && nat_lt (number_of word) end then Some (number_of word) else None

-- mm:ss
unfoldable pub minutes_in : List ℕ → Option ℕ
minutes_in text =
    option_and_then (λ minutes. option_map (λ seconds. minutes * 60 + seconds) (two_digits 60 (split_once 58 text).1)) (two_digits 60 (split_once 58 text).0)

-- hh:mm:ss
unfoldable pub hours_in : List ℕ → Option ℕ
hours_in text = option_and_then (λ hours. option_map (λ rest. hours * 3600 + rest) (minutes_in (split_once 58 text).1)) (two_digits 24 (split_once 58 text).0)

-- days, hours, minutes and seconds as seconds
unfoldable pub span_in : List ℕ → Option ℕ
span_in text = option_and_then (λ days. option_map (λ rest. days * 86400 + rest) (hours_in (split_once 46 text).1)) (number_in (split_once 46 text).0)

-- ---- the time to live

-- the time to live in seconds that stands here
abbrev pub of_seconds : Option Data → Result (Option ℕ) KeyFault
of_seconds None = Ok None
of_seconds (Some d) = or_key (codes "TimeToLive") (option_and_then if_positive (seconds_in d))

-- a span; beside a number of seconds it is a second time to live, and at fault
abbrev pub of_span : Bool → Data → Result (Option ℕ) KeyFault
of_span beside d =
    if beside then Err (bad_key None (codes "TimeToLiveTimeSpan")) else or_key (codes "TimeToLiveTimeSpan") (option_and_then if_positive (option_and_then span_in (as_str d)))

-- the time to live by either field; of both, the span is at fault
abbrev pub lifetime_from : Option Data → Option Data → Result (Option ℕ) KeyFault
lifetime_from seconds None = of_seconds seconds
lifetime_from seconds (Some span) = of_span (is_some seconds) span

-- as a number or as a span; a null counts as absent
abbrev pub lifetime_in : Data → Result (Option ℕ) KeyFault
lifetime_in d = lifetime_from (member_at Absent (codes "TimeToLive") d) (member_at Absent (codes "TimeToLiveTimeSpan") d)
