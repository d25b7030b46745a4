-- Worked rows of the definitions.
use Rattle.std.proofs.Common.{◌≡◌, ℕ, List, [], ◌∷◌, refl}
use Rattle.std.specs.Prelude.{codes}
use Rattle.sb_http.specs.declared.fields.Framing.TheVariants.{Refused, Sized, Chunked}
use Rattle.sb_http.specs.Fields.{Field, with_line, framing_by}
use Rattle.sb_http.specs.Heads.{Head, framing}

host : Field
host = (codes "Host", codes "h")

abbrev asks : List ℕ → ℕ → List Field → Head
asks target minor fields = record { method = codes "GET"; target = target; minor = minor; fields = fields }

one_host : framing (asks (codes "/a") 1 ((codes "Host", codes "h") ∷ [])) ≡ Sized 0
unfolding with_line framing_by
one_host = refl

no_host : framing (asks (codes "/a") 1 []) ≡ Refused
unfolding with_line framing_by
no_host = refl

no_host_before : framing (asks (codes "/a") 0 []) ≡ Sized 0
unfolding with_line framing_by
no_host_before = refl

by_value : framing (asks (codes "/a") 0 ((codes "Content-LENGTH", codes "2") ∷ (codes "content-length", codes "02") ∷ [])) ≡ Sized 2
unfolding with_line framing_by
by_value = refl

a_list : framing (asks (codes "/a") 0 ((codes "content-length", codes "5, 5") ∷ [])) ≡ Refused
unfolding with_line framing_by
a_list = refl

both : framing (asks (codes "/a") 1 (host ∷ (codes "content-length", codes "5") ∷ (codes "transfer-encoding", codes "chunked") ∷ [])) ≡ Refused
unfolding with_line framing_by host
both = refl

any_case : framing (asks (codes "/a") 1 (host ∷ (codes "Transfer-Encoding", codes "CHUNKED") ∷ [])) ≡ Chunked
unfolding with_line framing_by host
any_case = refl

not_origin : framing (asks (codes "a") 0 []) ≡ Refused
unfolding with_line framing_by
not_origin = refl
