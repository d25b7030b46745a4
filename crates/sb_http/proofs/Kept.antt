-- What was refused stays refused, for the same reason, whatever more comes.
use Rattle.std.proofs.Common.{◌≡◌, ℕ, ◌+◌, ◌-◌, inl, inr, List, [], ◌++◌, length, take, sym, ap, subst, ◌∙◌, arith, append_assoc, length-append, Some, None}
use Rattle.std.specs.Prelude.{Option}
use Rattle.std.proofs.lemmas.List.{take_all, append-nil}
use Rattle.std.proofs.lemmas.Bool.{cases_lt}
use Rattle.std.proofs.Math.Seq.{take-append-add}
use Rattle.httparse.specs.Grammar.{HasNoRequest, NeverHasRequest, MayBecomeRequest}
use Rattle.httparse.specs.Spans.{RequestExceeds}
use Rattle.sb_http.specs.declared.fault.HttpFault.{HttpFault}
use Rattle.sb_http.specs.declared.fault.HttpFault.TheVariants.{BadHead, HeadTooLarge, BodyTooLarge}
use Rattle.sb_http.specs.Heads.{PassesHead, max_head, max_fields}
use Rattle.sb_http.specs.Stages.{Stage, at_head, at_body, at_line, at_data, at_trailers, Left, and_more, Reads}
use Rattle.sb_http.specs.Causes.{IsBadAt, PassesBody, PassesHeadAt, HasCause, Refuses, IsCaused}
use Rattle.sb_http.proofs.Items.{head_more, line_more, settled}

-- the first bytes of more begin with the first bytes of less
front_more : (n : ℕ) (bytes more : List ℕ) → (rest : List ℕ) × (take n (bytes ++ more) ≡ take n bytes ++ rest)
front_more n bytes more = elim (cases_lt (length bytes) n) [
  | inl short ↦ (
    take (n - length bytes) more,
    (let k : n ≡ length bytes + (n - length bytes) = omega arith in ap (λ (m : ℕ). take m (bytes ++ more)) k ∙ take-append-add bytes more (n - length bytes))
        ∙ ap (λ (b : List ℕ). b ++ take (n - length bytes) more) (sym (take_all n bytes (omega arith))),
  )
  | inr full ↦ ([], settled n bytes more full ∙ sym (append-nil (take n bytes)))
]

exceeds_more : (bytes rest : List ℕ) → RequestExceeds max_fields bytes → RequestExceeds max_fields (bytes ++ rest)
exceeds_more bytes rest x = (x.0, x.1 ++ rest, ap (λ (b : List ℕ). b ++ rest) x.2 ∙ append_assoc x.0 x.1 rest, x.3, x.4, x.5)

passes_head_more : (bytes more : List ℕ) → PassesHead bytes → PassesHead (bytes ++ more)
passes_head_more bytes more (inl x) = inl (omega (arith, x.0, length-append bytes more), subst HasNoRequest (sym (settled max_head bytes more x.0)) x.1, subst MayBecomeRequest (sym (settled max_head bytes more x.0)) x.2)
passes_head_more bytes more (inr x) = let f = front_more max_head bytes more in inr (subst (λ (b : List ℕ). RequestExceeds max_fields b) (sym f.1) (exceeds_more (take max_head bytes) f.0 x))

passes_at_more : (stage : Stage) (bytes more : List ℕ) → PassesHeadAt stage bytes → PassesHeadAt stage (bytes ++ more)
passes_at_more at_head bytes more x = passes_head_more bytes more x
passes_at_more (at_body text n) bytes more x = x
passes_at_more (at_line text done) bytes more x = x
passes_at_more (at_data text done n) bytes more x = x
passes_at_more (at_trailers text done) bytes more x = x

passes_body_more : (stage : Stage) (bytes more : List ℕ) → PassesBody stage bytes → PassesBody stage (bytes ++ more)
passes_body_more at_head bytes more x = (x.0, x.1 ++ more, x.2, head_more bytes x.0 x.1 more x.3, x.4, x.5)
passes_body_more (at_body text n) bytes more x = x
passes_body_more (at_line text done) bytes more x = (x.0, x.1 ++ more, line_more bytes x.0 x.1 more x.2, x.3)
passes_body_more (at_data text done n) bytes more x = x
passes_body_more (at_trailers text done) bytes more x = x

never_more : (bytes rest : List ℕ) → NeverHasRequest bytes → NeverHasRequest (bytes ++ rest)
never_more bytes rest x others = subst HasNoRequest (sym (append_assoc bytes rest others)) (x (rest ++ others))

bad_at_more : (stage : Stage) (bytes more : List ℕ) → IsBadAt stage bytes → IsBadAt stage (bytes ++ more)
bad_at_more at_head bytes more (inl x) = let f = front_more max_head bytes more in inl (subst NeverHasRequest (sym f.1) (never_more (take max_head bytes) f.0 x))
bad_at_more at_head bytes more (inr x) = inr (x.0, x.1 ++ more, head_more bytes x.0 x.1 more x.2, x.3)
bad_at_more (at_body text n) bytes more x = tt
bad_at_more (at_line text done) bytes more x = tt
bad_at_more (at_data text done n) bytes more x = tt
bad_at_more (at_trailers text done) bytes more x = tt

cause_more : (fault : HttpFault) (left : Left) (more : List ℕ) → HasCause fault left → HasCause fault (and_more left more)
cause_more BadHead left more x = (bad_at_more left.stage left.bytes more x.0, λ others p. x.1 (more ++ others) (subst (λ (b : List ℕ). PassesBody left.stage b) (append_assoc left.bytes more others) p))
cause_more HeadTooLarge left more x = passes_at_more left.stage left.bytes more x
cause_more BodyTooLarge left more x = passes_body_more left.stage left.bytes more x

pub refuses_more : (fault : HttpFault) (left : Left) (more : List ℕ) → Refuses fault left → Refuses fault (and_more left more)
refuses_more fault left more x = record {
  never = λ others m rest r. x.never (more ++ others) m rest (subst (λ (b : List ℕ). Reads (record { stage = left.stage; bytes = b }) m rest) (append_assoc left.bytes more others) r);
  cause = cause_more fault left more x.cause;
}

pub caused_more : (fault : Option HttpFault) (left : Left) (more : List ℕ) → IsCaused fault left → IsCaused fault (and_more left more)
caused_more None left more x = tt
caused_more (Some fault) left more x = refuses_more fault left more x
