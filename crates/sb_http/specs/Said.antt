-- What a request that was handed out says.
use Rattle.std.specs.Prelude.{List, map, Result, Ok, Err, Option, Some, None}
use Rattle.httparse.specs.Spans.{header_bytes}
use Rattle.sb_http.specs.declared.fault.HttpFault.{HttpFault}
use Rattle.sb_http.specs.declared.request.Request.{Request}
use Rattle.sb_http.specs.Version.{minor_of}
use Rattle.sb_http.specs.Fields.{Field}
use Rattle.sb_http.specs.Messages.{RequestMessage}

-- its fields, in order
abbrev pub fields_of : Request → List Field
fields_of r = map (header_bytes r.text.now) r.lines.now

-- the whole request
abbrev pub said_by : Request → RequestMessage
said_by r = record { head = record { method = r.method.now; target = r.target.now; minor = minor_of r.version; fields = fields_of r }; body = r.body.now }

-- an answer with the request that it handed out
abbrev pub reply_of : Result (Option Request) HttpFault → Result (Option RequestMessage) HttpFault
reply_of (Ok (Some r)) = Ok (Some (said_by r))
reply_of (Ok None) = Ok None
reply_of (Err fault) = Err fault
