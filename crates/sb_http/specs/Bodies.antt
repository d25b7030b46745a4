-- The body behind a head: so many bytes (RFC 9112, section 6.2), or chunks and trailers (section 7.1).
use Rattle.std.specs.Prelude.{◌≡◌, ℕ, ◌+◌, ◌≤◌, ◌<◌, List, [], ◌++◌, length}
use Rattle.httparse.specs.Ascii.{crlf_bytes}
use Rattle.httparse.specs.Grammar.{Field as FieldLine, LineEnd, print_section, ReadsSection, ChunkLine, print_chunk_line, chunk_size, ReadsChunkLine}
use Rattle.sb_http.specs.declared.fields.Framing.{Framing}
use Rattle.sb_http.specs.declared.fields.Framing.TheVariants.{Refused, Sized, Chunked}

-- the most bytes of a body, without the lines of chunks
abbrev pub max_body : ℕ
max_body = 1048576

-- the most bytes of a chunk line, with its CR LF
abbrev pub max_line : ℕ
max_line = 1024

-- the most bytes of trailers, with the empty line that ends them
abbrev pub max_trailers : ℕ
max_trailers = 16384

-- the most lines of trailers
abbrev pub max_trailer_lines : ℕ
max_trailer_lines = 64

-- a head, a body, the line of a chunk and trailers: no request under way has more bytes
abbrev pub max_buffer : ℕ
max_buffer = 1082368

-- the bytes begin with the line of a chunk of this size, and rest follows it; its extension is read
-- past (RFC 9112, 7.1.1)
pub record ReadsLine (bytes : List ℕ) (size : ℕ) (rest : List ℕ) : Type 0 where
  pub line : ChunkLine
  pub reads : ReadsChunkLine bytes line rest
  pub says : size ≡ chunk_size line
  pub short : length (print_chunk_line line) ≤ max_line

-- the bytes begin with trailers, which are read past, and rest follows them (RFC 9112, 7.1.2)
pub record ReadsTrailers (bytes rest : List ℕ) : Type 0 where
  pub fields : List FieldLine
  pub last : LineEnd
  pub reads : ReadsSection bytes fields last rest
  pub short : length (print_section fields last) ≤ max_trailers
  pub few : length fields ≤ max_trailer_lines

-- Behind so many bytes of a body, the bytes begin with the chunks that hold the rest of it and with
-- trailers, and rest follows them. A chunk ends with CR LF; one of size 0 is the last.
pub data Chunks : ℕ → List ℕ → List ℕ → List ℕ → Type 0 where
  last_chunk : {done : ℕ} {bytes after rest : List ℕ} → ReadsLine bytes 0 after → ReadsTrailers after rest → Chunks done bytes [] rest
  one_chunk : {done size : ℕ} {bytes body rest : List ℕ} (data_is next : List ℕ) → ReadsLine bytes size (data_is ++ crlf_bytes ++ next) → 0 < size → length data_is ≡ size → done + size ≤ max_body
      → Chunks (done + size) next body rest → Chunks done bytes (data_is ++ body) rest

-- the body is the first so many bytes
pub record ReadsSized (size : ℕ) (bytes body rest : List ℕ) : Type 0 where
  pub whole : bytes ≡ body ++ rest
  pub size_is : length body ≡ size
  pub fits : size ≤ max_body

-- the bytes begin with this body, and rest follows it
abbrev pub ReadsBody : Framing → List ℕ → List ℕ → List ℕ → Type 0
ReadsBody Refused bytes body rest = ⊥
ReadsBody (Sized size) bytes body rest = ReadsSized size bytes body rest
ReadsBody Chunked bytes body rest = Chunks 0 bytes body rest
