-- Versions of HTTP that are read.
use Rattle.std.specs.Prelude.{ℕ}
use Rattle.sb_http.specs.declared.version.Version.{Version}
use Rattle.sb_http.specs.declared.version.Version.TheVariants.{Http10, Http11}

-- the minor number: of HTTP/1.0, and of HTTP/1.1
abbrev pub minor_of : Version → ℕ
minor_of Http10 = 0
minor_of Http11 = 1
