-- What a head that was found says of the request.
use Rattle.std.proofs.Common.{◌≡◌, ℕ, ◌<◌, inl, List, [], length, take, drop, sym, ap, subst, ◌∙◌, arith, Err}
use Rattle.std.proofs.lemmas.List.{take_all, drop_all, length-drop, append-nil}
use Rattle.httparse.specs.declared.spans.HeaderSpan.{HeaderSpan}
use Rattle.httparse.specs.declared.spans.RequestSpans.{RequestSpans}
use Rattle.sb_http.specs.declared.fault.HttpFault.{HttpFault}
use Rattle.sb_http.specs.declared.fault.HttpFault.TheVariants.{BadHead, HeadTooLarge, BodyTooLarge}
use Rattle.sb_http.specs.declared.fields.Framing.{Framing}
use Rattle.sb_http.specs.declared.fields.Framing.TheVariants.{Refused, Sized}
use Rattle.sb_http.specs.Heads.{Head, ReadsHead, WaitsForHead, framing}
use Rattle.sb_http.specs.Bodies.{max_body}
use Rattle.sb_http.specs.Stages.{whole, IsHeadText}
use Rattle.sb_http.specs.Causes.{Refuses}
use Rattle.sb_http.specs.Found.{head_at, IsHeadAt, HeadAnswers}
use Rattle.sb_http.proofs.Items.{head_unique}
use Rattle.sb_http.proofs.Refusals.{never_head, refuses_head, too_much}

-- where no head is read, the request is refused for the same reason
pub head_refused : (bytes : List ℕ) (spans : List HeaderSpan) (fault : HttpFault) → HeadAnswers bytes spans (Err fault) → Refuses fault (whole bytes)
head_refused bytes spans BadHead x = record { never = never_head bytes x.0; cause = (inl x.1, λ more p. x.0 more p.0 p.1 p.3) }
head_refused bytes spans HeadTooLarge x = record { never = never_head bytes x.0; cause = x.1 }
head_refused bytes spans BodyTooLarge x = absurd x

module _ (bytes : List ℕ) (spans : List HeaderSpan) (r : RequestSpans) (x : IsHeadAt bytes spans r) (f : Framing)
    (framed : f ≡ framing (head_at (take r.len bytes) spans r)) where
  pub is_refused : f ≡ Refused → Refuses BadHead (whole bytes)
  is_refused e = refuses_head bytes _ _ x.reads (sym framed ∙ e)

  pub is_too_large : (size : ℕ) → f ≡ Sized size → max_body < size → Refuses BodyTooLarge (whole bytes)
  is_too_large size e large = record { never = too_much bytes _ _ size x.reads (sym framed ∙ e) large; cause = (_, _, size, x.reads, sym framed ∙ e, large) }

-- ---- a text that was read before

module _ (text : List ℕ) (f : Framing) where
  pub no_text : (spans : List HeaderSpan) (fault : HttpFault) → HeadAnswers text spans (Err fault) → (head : Head) → IsHeadText text head f → ⊥
  no_text spans BadHead x head h = x.0 [] head [] (subst (λ (b : List ℕ). ReadsHead b head []) (sym (append-nil text)) h.reads)
  no_text spans HeadTooLarge x head h = x.0 [] head [] (subst (λ (b : List ℕ). ReadsHead b head []) (sym (append-nil text)) h.reads)
  no_text spans BodyTooLarge x head h = absurd x

  pub not_yet : WaitsForHead text → (head : Head) → IsHeadText text head f → ⊥
  not_yet w head h = w.none h.reads.tree [] h.reads.reads

  pub other_length : (spans : List HeaderSpan) (r : RequestSpans) → IsHeadAt text spans r → (r.len ≡ length text → ⊥) → (head : Head) → IsHeadText text head f → ⊥
  other_length spans r x other head h =
      let rest = (head_unique text _ head (drop r.len text) [] x.reads h.reads).1 in
      other (omega (arith, length-drop r.len text, ap length rest, x.within.section.len_fits))

  pub other_framing : (spans : List HeaderSpan) (r : RequestSpans) → IsHeadAt text spans r → r.len ≡ length text → (framing (head_at text spans r) ≡ f → ⊥) → (head : Head) → IsHeadText text head f → ⊥
  other_framing spans r x all other head h =
      let same = (head_unique text _ head (drop r.len text) [] x.reads h.reads).0 in
      let at_text : head_at (take r.len text) spans r ≡ head_at text spans r = ap (λ (t : List ℕ). head_at t spans r) (take_all r.len text (omega (arith, all))) in
      other (ap framing (sym at_text ∙ same) ∙ h.framed)

  pub same_text : (spans : List HeaderSpan) (r : RequestSpans) → IsHeadAt text spans r → r.len ≡ length text → framing (head_at text spans r) ≡ f → IsHeadText text (head_at text spans r) f
  same_text spans r x all framed =
      let at_text : head_at (take r.len text) spans r ≡ head_at text spans r = ap (λ (t : List ℕ). head_at t spans r) (take_all r.len text (omega (arith, all))) in
      let none : drop r.len text ≡ [] = drop_all r.len text (omega (arith, all)) in
      record { reads = subst (λ (h : Head). ReadsHead text h []) at_text (subst (λ (q : List ℕ). ReadsHead text (head_at (take r.len text) spans r) q) none x.reads); framed = framed }
