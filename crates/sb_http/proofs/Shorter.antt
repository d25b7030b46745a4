-- What follows a request is shorter than what it begins.
use Rattle.std.proofs.Common.{◌≡◌, ℕ, ◌+◌, ◌≤◌, ◌<◌, List, [], ◌++◌, length, ap, arith, length-append, Ok, Err, Some, None}
use Rattle.std.specs.Prelude.{Result, Option}
use Rattle.httparse.specs.Ascii.{crlf_bytes}
use Rattle.httparse.specs.Grammar.{print_request, print_chunk_line, LineEnd, crlf, lf, print_end, print_section, print_field}
use Rattle.std.specs.List.{flat_map}
use Rattle.sb_http.specs.declared.fault.HttpFault.{HttpFault}
use Rattle.sb_http.specs.declared.fields.Framing.{Framing}
use Rattle.sb_http.specs.declared.fields.Framing.TheVariants.{Refused, Sized, Chunked}
use Rattle.sb_http.specs.Heads.{framing}
use Rattle.sb_http.specs.Bodies.{Chunks, last_chunk, one_chunk, ReadsLine, ReadsTrailers, ReadsBody}
use Rattle.sb_http.specs.Messages.{RequestMessage}
use Rattle.sb_http.specs.Stages.{Stage, at_head, at_body, at_line, at_data, at_trailers, Left, held_at, ReadsAt}
use Rattle.sb_http.specs.Streams.{Answers, Shortens}
use Rattle.sb_http.proofs.SpanPlaces.{method_in, line_some}

line_shorter : (bytes : List ℕ) (size : ℕ) (after : List ℕ) → ReadsLine bytes size after → length after < length bytes
line_shorter bytes size after x = omega (arith, line_some x.line x.reads.0.digits.0, ap length x.reads.1, length-append (print_chunk_line x.line) after)

end_some : (e : LineEnd) → 0 < length (print_end e)
end_some crlf = omega arith
end_some lf = omega arith

trailers_shorter : (bytes rest : List ℕ) → ReadsTrailers bytes rest → length rest < length bytes
trailers_shorter bytes rest x =
    omega (arith, end_some x.last, ap length x.reads.1, length-append (print_section x.fields x.last) rest, length-append (flat_map print_field x.fields) (print_end x.last))

chunks_shorter : {done : ℕ} {bytes body rest : List ℕ} → Chunks done bytes body rest → length rest < length bytes
chunks_shorter {done} {bytes} (last_chunk {after = after} {rest = rest} line trailers) = omega (arith, line_shorter bytes 0 after line, trailers_shorter after rest trailers)
chunks_shorter {done} {bytes} (one_chunk {size = size} part next line some size_is fits chunks) =
    omega (arith, line_shorter bytes size (part ++ crlf_bytes ++ next) line, chunks_shorter chunks, length-append (part ++ crlf_bytes) next)

body_shorter : (f : Framing) (bytes body rest : List ℕ) → ReadsBody f bytes body rest → length rest ≤ length bytes
body_shorter Refused bytes body rest x = absurd x
body_shorter (Sized n) bytes body rest x = omega (arith, ap length x.whole, length-append body rest)
body_shorter Chunked bytes body rest x = omega (arith, chunks_shorter x)

-- what follows a request is less than what it begins
pub reads_shorter : (stage : Stage) (bytes : List ℕ) (m : RequestMessage) (rest : List ℕ) → ReadsAt stage bytes m rest → length rest < held_at stage + length bytes
reads_shorter at_head bytes m rest x =
    omega (arith, method_in x.head.tree, x.head.reads.0.method.0, body_shorter (framing m.head) x.after m.body rest x.body, ap length x.head.reads.1, length-append (print_request x.head.tree) x.after)
reads_shorter (at_body text n) bytes m rest x =
    omega (arith, method_in x.0.reads.tree, x.0.reads.reads.0.method.0, ap length x.0.reads.reads.1, length-append (print_request x.0.reads.tree) [], ap length x.1.whole, length-append m.body rest)
reads_shorter (at_line text done) bytes m rest x = omega (arith, chunks_shorter x.rest)
reads_shorter (at_data text done n) bytes m rest x =
    omega (arith, chunks_shorter x.rest.chunks, ap length x.rest.bytes_are, length-append (x.rest.part ++ crlf_bytes) x.rest.next)
reads_shorter (at_trailers text done) bytes m rest x = omega (arith, trailers_shorter bytes rest x.rest.1)

pub answer_shorter : (old : Left) (r : Result (Option RequestMessage) HttpFault) (new : Left) → Answers old r new → Shortens old r new
answer_shorter old (Ok None) new x = tt
answer_shorter old (Ok (Some m)) new x = let none : held_at new.stage ≡ 0 = ap held_at x.1 in omega (arith, none, reads_shorter old.stage old.bytes m new.bytes x.0)
answer_shorter old (Err f) new x = tt
