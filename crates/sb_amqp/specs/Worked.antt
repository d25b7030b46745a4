-- Messages whose bytes were worked out by hand.
use Rattle.std.specs.Prelude.{ℕ, negsuc, List, [], ◌∷◌, ◌++◌, codes, Some, None, true}
use Rattle.sb_model.specs.declared.message.Message.{Message}
use Rattle.sb_model.specs.declared.message.PropertyValue.TheVariants.{Int, Text, Bool as Truth}
use Rattle.sb_model.specs.declared.message.SystemName.TheVariants.{MessageId, Label, CorrelationId, SessionId, To, ReplyTo, ReplyToSessionId, ContentType}

-- body `hi`, to live for 2 s
abbrev pub short : Message
short = record { body = codes "hi"; sys = []; props = []; ttl = Some 2; schedule = None }

-- a time to live of 1,500 ms in a header of one-byte sizes, and the body
abbrev pub short_read : List ℕ
short_read = 0 ∷ 83 ∷ 112 ∷ 192 ∷ 8 ∷ 3 ∷ 64 ∷ 64 ∷ 112 ∷ 0 ∷ 0 ∷ 5 ∷ 220 ∷ 0 ∷ 83 ∷ 117 ∷ 160 ∷ 2 ∷ 104 ∷ 105 ∷ []

abbrev pub short_written : List ℕ
short_written = 0 ∷ 83 ∷ 112 ∷ 208 ∷ 0 ∷ 0 ∷ 0 ∷ 11 ∷ 0 ∷ 0 ∷ 0 ∷ 3 ∷ 64 ∷ 64 ∷ 112 ∷ 0 ∷ 0 ∷ 7 ∷ 208 ∷ 0 ∷ 83 ∷ 117 ∷ 176 ∷ 0 ∷ 0 ∷ 0 ∷ 2 ∷ 104 ∷ 105 ∷ []

-- all that a message may have; the greatest time to live that is written, and the greatest moment
abbrev pub full : Message
full = record {
  body = 255 ∷ [];
  sys =
      record { name = MessageId; text = codes "m" } ∷ record { name = Label; text = codes "l" } ∷ record { name = CorrelationId; text = codes "c" } ∷ record { name = SessionId; text = codes "s" }
      ∷ record { name = To; text = codes "t" } ∷ record { name = ReplyTo; text = codes "r" } ∷ record { name = ReplyToSessionId; text = codes "g" } ∷ record { name = ContentType; text = codes "y" } ∷ [];
  props = record { name = codes "a"; value = Int (negsuc 6) } ∷ record { name = codes "b"; value = Text (codes "x") } ∷ record { name = codes "c"; value = Truth true } ∷ [];
  ttl = Some 4294967;
  schedule = Some 9223372036854775807;
}

abbrev full_header : List ℕ
full_header = 0 ∷ 83 ∷ 112 ∷ 208 ∷ 0 ∷ 0 ∷ 0 ∷ 11 ∷ 0 ∷ 0 ∷ 0 ∷ 3 ∷ 64 ∷ 64 ∷ 112 ∷ 255 ∷ 255 ∷ 254 ∷ 216 ∷ []

abbrev full_annotations : List ℕ
full_annotations = 0 ∷ 83 ∷ 114 ∷ 209 ∷ 0 ∷ 0 ∷ 0 ∷ 46 ∷ 0 ∷ 0 ∷ 0 ∷ 2 ∷ 179 ∷ 0 ∷ 0 ∷ 0 ∷ 28 ∷ 120 ∷ 45 ∷ 111 ∷ 112 ∷ 116 ∷ 45 ∷ 115 ∷ 99 ∷ 104 ∷ 101 ∷ 100 ∷ 117 ∷ 108 ∷ 101 ∷ 100 ∷ 45 ∷ 101 ∷ 110 ∷ 113 ∷ 117 ∷ 101 ∷ 117 ∷ 101 ∷ 45 ∷ 116 ∷ 105 ∷ 109 ∷ 101 ∷ 131 ∷ 127 ∷ 255 ∷ 255 ∷ 255 ∷ 255 ∷ 255 ∷ 255 ∷ 255 ∷ []

abbrev full_properties : List ℕ
full_properties = 0 ∷ 83 ∷ 115 ∷ 208 ∷ 0 ∷ 0 ∷ 0 ∷ 57 ∷ 0 ∷ 0 ∷ 0 ∷ 13 ∷ 177 ∷ 0 ∷ 0 ∷ 0 ∷ 1 ∷ 109 ∷ 64 ∷ 177 ∷ 0 ∷ 0 ∷ 0 ∷ 1 ∷ 116 ∷ 177 ∷ 0 ∷ 0 ∷ 0 ∷ 1 ∷ 108 ∷ 177 ∷ 0 ∷ 0 ∷ 0 ∷ 1 ∷ 114 ∷ 177 ∷ 0 ∷ 0 ∷ 0 ∷ 1 ∷ 99 ∷ 179 ∷ 0 ∷ 0 ∷ 0 ∷ 1 ∷ 121 ∷ 64 ∷ 64 ∷ 64 ∷ 177 ∷ 0 ∷ 0 ∷ 0 ∷ 1 ∷ 115 ∷ 64 ∷ 177 ∷ 0 ∷ 0 ∷ 0 ∷ 1 ∷ 103 ∷ []

abbrev full_application : List ℕ
full_application = 0 ∷ 83 ∷ 116 ∷ 209 ∷ 0 ∷ 0 ∷ 0 ∷ 38 ∷ 0 ∷ 0 ∷ 0 ∷ 6 ∷ 177 ∷ 0 ∷ 0 ∷ 0 ∷ 1 ∷ 97 ∷ 129 ∷ 255 ∷ 255 ∷ 255 ∷ 255 ∷ 255 ∷ 255 ∷ 255 ∷ 249 ∷ 177 ∷ 0 ∷ 0 ∷ 0 ∷ 1 ∷ 98 ∷ 177 ∷ 0 ∷ 0 ∷ 0 ∷ 1 ∷ 120 ∷ 177 ∷ 0 ∷ 0 ∷ 0 ∷ 1 ∷ 99 ∷ 65 ∷ []

abbrev full_body : List ℕ
full_body = 0 ∷ 83 ∷ 117 ∷ 176 ∷ 0 ∷ 0 ∷ 0 ∷ 1 ∷ 255 ∷ []

-- all of it
abbrev pub full_written : List ℕ
full_written = full_header ++ full_annotations ++ full_properties ++ full_application ++ full_body

-- a time to live of 4,294,968 s has too many milliseconds for a header
abbrev pub long_lived : Message
long_lived = record short { ttl = Some 4294968 }

-- a double as the body
abbrev pub double_body : List ℕ
double_body = 0 ∷ 83 ∷ 119 ∷ 130 ∷ 0 ∷ 0 ∷ 0 ∷ 0 ∷ 0 ∷ 0 ∷ 0 ∷ 0 ∷ []
