use Rattle.std.proofs.Common.{◌≡◌, refl, ap, subst, sym, ◌∙◌, Ok, Err, Some, None}
use Rattle.sb_http.specs.Messages.{RequestMessage}
use Rattle.sb_http.specs.Streams.{Pending, AnswersAt}
use Rattle.sb_http.specs.Buffers.{left_of, TakeAnswers}
use Rattle.sb_http.proofs.Answering.{next_in}
use Rattle.sb_http.proofs.incoming.Incoming.next_unrefused.Goals as goal

pub returns-in-Ok-Some : goal.returns-in-Ok-Some
returns-in-Ok-Some c =
    let i = c.self.inside.buffer in
    let j = c.take_next.new.self in
    let new : Pending = record { left = left_of j; fault = c.self.inside.refused } in
    let none : c.self.inside.refused ≡ None = ap (λ (p : Pending). p.fault) c.self.view_is ∙ c.requires in
    let x : TakeAnswers (left_of i) (Ok (Some c.in-Ok-Some.shape)) j = rw c.in-Ok-Some.field-0-is at c.in-Ok-Some.ensures in
    let answers = next_in i j c.args.self.now c.self.inside.refused new (Ok (Some c.in-Ok-Some.shape)) c.self.view_is refl none x in
    ((refl, (λ n. tt), subst (λ (m : RequestMessage). AnswersAt None c.args.self.now.left (Ok (Some m)) new) (sym c.request.ensures) answers), record { answers = tt })

pub returns-in-Ok-None : goal.returns-in-Ok-None
returns-in-Ok-None c =
    let i = c.self.inside.buffer in
    let j = c.take_next.new.self in
    let new : Pending = record { left = left_of j; fault = c.self.inside.refused } in
    let none : c.self.inside.refused ≡ None = ap (λ (p : Pending). p.fault) c.self.view_is ∙ c.requires in
    let x : TakeAnswers (left_of i) (Ok None) j = rw c.in-Ok-None.field-0-is at c.in-Ok-None.ensures in
    ((refl, (λ n. tt), next_in i j c.args.self.now c.self.inside.refused new (Ok None) c.self.view_is refl none x), record { answers = tt })

pub returns-in-Err : goal.returns-in-Err
returns-in-Err c =
    let i = c.self.inside.buffer in
    let j = c.take_next.new.self in
    let new : Pending = record { left = left_of j; fault = Some c.in-Err.fault } in
    ((refl, (λ n. tt), next_in i j c.args.self.now c.self.inside.refused new (Err c.in-Err.fault) c.self.view_is refl refl c.in-Err.ensures), record { answers = tt })
