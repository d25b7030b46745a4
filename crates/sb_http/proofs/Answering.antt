-- What `Incoming` answers, from what its buffer does.
use Rattle.std.proofs.Common.{◌≡◌, ℕ, List, [], take, sym, subst, ◌∙◌, None}
use Rattle.std.specs.Prelude.{Result, Option}
use Rattle.sb_http.specs.declared.fault.HttpFault.{HttpFault}
use Rattle.sb_http.specs.declared.buffer.Buffer.{Buffer}
use Rattle.sb_http.specs.declared.places.Shape.{Shape}
use Rattle.sb_http.specs.Messages.{RequestMessage}
use Rattle.sb_http.specs.Stages.{Left, and_more, Continues}
use Rattle.sb_http.specs.Streams.{Answers, Pending, AnswersAt, fault_of}
use Rattle.sb_http.specs.Buffers.{left_of, TakeAnswers, shown}
use Rattle.sb_http.proofs.ReadingOn.{and_none}
use Rattle.sb_http.proofs.Compact.{answers_of}
use Rattle.sb_http.proofs.Streams.{answer_goes_on}
use Rattle.sb_http.proofs.Shorter.{answer_shorter}

-- an answer where no fault was met before
pub next_at : (old : Left) (r : Result (Option RequestMessage) HttpFault) (new : Pending) → Answers old r new.left → new.fault ≡ fault_of r → AnswersAt None old r new
next_at old r new x e = (x, e, answer_goes_on old r new.left x, answer_shorter old r new.left x)

-- the same, of what lies in the buffer
pub next_in : (i j : Buffer) (p : Pending) (was : Option HttpFault) (new : Pending) (r : Result (Option Shape) HttpFault) → record { left = left_of i; fault = was } ≡ p → new.left ≡ left_of j → new.fault ≡ fault_of (shown j r)
    → TakeAnswers (left_of i) r j → AnswersAt None p.left (shown j r) new
next_in i j p was new r view left fault x =
    subst (λ (q : Pending). AnswersAt None q.left (shown j r) new) view (next_at (left_of i) (shown j r) new (subst (λ (l : Left). Answers (left_of i) (shown j r) l) (sym left) (answers_of (left_of i) r j x)) fault)

-- what was put where nothing had been put before
pub put_again : (old mid : Left) (piece : List ℕ) (n : ℕ) (new : Left) → mid ≡ and_more old [] → Continues (and_more mid (take n piece)) new → Continues (and_more old (take n piece)) new
put_again old mid piece n new e c = subst (λ (l : Left). Continues (and_more l (take n piece)) new) (e ∙ and_none old) c
