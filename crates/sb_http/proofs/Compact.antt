-- Dropping what was read from the buffer.
use Rattle.std.proofs.Common.{◌≡◌, ℕ, ◌+◌, ◌-◌, ◌≤◌, ◌<◌, inl, inr, List, ◌++◌, length, take, drop, refl, sym, ap, ◌∙◌, arith, Ok, Err, Some, None}
use Rattle.std.specs.Prelude.{slice_range, ◌≢◌, Result, Option}
use Rattle.std.proofs.lemmas.List.{drop-drop, length-drop, length-append, drop_at, take-take, take-append-le, drop-append-le, length-take-le}
use Rattle.std.proofs.lemmas.Slice.{between_is}
use Rattle.sb_http.specs.declared.fault.HttpFault.{HttpFault}
use Rattle.sb_http.specs.declared.places.Next.{Next}
use Rattle.sb_http.specs.declared.places.Next.TheVariants.{Head as NextHead, Body as NextBody, Line as NextLine, Data as NextData, Trailers as NextTrailers}
use Rattle.sb_http.specs.declared.buffer.Buffer.{Buffer}
use Rattle.sb_http.specs.declared.places.Shape.{Shape}
use Rattle.sb_http.specs.Bodies.{max_buffer}
use Rattle.sb_http.specs.Stages.{Left, Continues, and_more, held}
use Rattle.sb_http.specs.Causes.{Waits, HasNone}
use Rattle.sb_http.specs.Streams.{Answers}
use Rattle.sb_http.specs.Buffers.{left_by, left_of, TakeAnswers, shown}
use Rattle.sb_http.proofs.ReadingOn.{there_now}
use Rattle.sb_http.proofs.Refusals.{none_yet}
use Rattle.sb_http.proofs.BufferParts.{length_part}

module _ (old : List ℕ) (start body done raw : ℕ) (s : start ≤ body) (b : body ≤ done) (d : done ≤ raw) (fits : raw ≤ length old) where
  cut_out : List ℕ
  cut_out = take done old ++ drop raw old

  -- a part before the place that was cut
  before : (i j : ℕ) → j ≤ done → slice_range (take done old ++ drop raw old) i j ≡ slice_range old i j
  before i j h =
      let count : length (take done old) ≡ done = length-take-le done old (omega arith) in
      between_is (take done old ++ drop raw old) i j ∙ ap (drop i) (take-append-le j (take done old) (drop raw old) (omega (arith, count)) ∙ take-take j done old h) ∙ sym (between_is old i j)

  -- a part, counted from start
  from_start : (xs : List ℕ) (i j : ℕ) → start ≤ i → slice_range (drop start xs) (i - start) (j - start) ≡ slice_range xs i j
  from_start xs i j h =
      let place : start + (i - start) ≡ i = omega arith in
      let size : j - start - (i - start) ≡ j - i = omega arith in
      ap (λ (k : ℕ). take k (drop (i - start) (drop start xs))) size ∙ ap (take (j - i)) (drop-drop (i - start) start xs ∙ ap (λ (k : ℕ). drop k xs) place)

  pub text_kept : slice_range (drop start (take done old ++ drop raw old)) 0 (body - start) ≡ slice_range old start body
  text_kept =
      let zero_is : start - start ≡ 0 = omega arith in
      ap (λ (k : ℕ). slice_range (drop start (take done old ++ drop raw old)) k (body - start)) (sym zero_is) ∙ from_start (take done old ++ drop raw old) start body (omega arith) ∙ before start body b

  pub done_kept : slice_range (drop start (take done old ++ drop raw old)) (body - start) (done - start) ≡ slice_range old body done
  done_kept = from_start (take done old ++ drop raw old) body done s ∙ before body done (omega arith)

  pub rest_kept : drop (done - start) (drop start (take done old ++ drop raw old)) ≡ drop raw old
  rest_kept =
      let place : start + (done - start) ≡ done = omega arith in
      let count : length (take done old) ≡ done = length-take-le done old (omega arith) in
      drop-drop (done - start) start (take done old ++ drop raw old) ∙ ap (λ (k : ℕ). drop k (take done old ++ drop raw old)) place ∙ drop_at (take done old) (drop raw old) done count

  pub count_kept : length (drop start (take done old ++ drop raw old)) ≡ length (slice_range old start body) + length (slice_range old body done) + length (drop raw old)
  count_kept =
      let count : length (take done old) ≡ done = length-take-le done old (omega arith) in
      omega (arith, count, length-drop start (take done old ++ drop raw old), length-append (take done old) (drop raw old), length_part old start body s (omega arith), length_part old body done b (omega arith))

-- how many bytes a request under way and what is behind it hold
pub held_parts : (i : Buffer) (n : Next) → i.next ≡ n → n ≢ NextHead → held (left_by n i) ≡ length (slice_range i.bytes.items i.start i.body) + length (slice_range i.bytes.items i.body i.done) + length (drop i.raw i.bytes.items)
held_parts i NextHead e other = absurd (other refl)
held_parts i NextBody e other = let none : i.raw ≡ i.body = i.plain e in omega (arith, none, length_part i.bytes.items i.body i.done i.decoded (omega (arith, i.behind, i.within)), i.behind, i.decoded)
held_parts i NextLine e other = refl
held_parts i NextData e other = refl
held_parts i NextTrailers e other = refl

-- the same parts are the same left
pub same_parts : (i j : Buffer) (n : Next) → n ≢ NextHead → slice_range i.bytes.items i.start i.body ≡ slice_range j.bytes.items j.start j.body → slice_range i.bytes.items i.body i.done ≡ slice_range j.bytes.items j.body j.done
    → drop i.raw i.bytes.items ≡ drop j.raw j.bytes.items → i.to_come ≡ j.to_come → left_by n i ≡ left_by n j
same_parts i j NextHead other t d r k = absurd (other refl)
same_parts i j NextBody other t d r k = cc
same_parts i j NextLine other t d r k = cc
same_parts i j NextData other t d r k = cc
same_parts i j NextTrailers other t d r k = cc

-- what is left where it is known what comes next
pub is_next : (i : Buffer) (n : Next) → i.next ≡ n → left_of i ≡ left_by n i
is_next i n e = ap (λ (k : Next). left_by k i) e

-- ---- more behind what is left

slice_front : (xs more : List ℕ) (i j : ℕ) → j ≤ length xs → slice_range (xs ++ more) i j ≡ slice_range xs i j
slice_front xs more i j h = between_is (xs ++ more) i j ∙ ap (drop i) (take-append-le j xs more h) ∙ sym (between_is xs i j)

-- the same places, and more bytes
pub pushed : (i j : Buffer) (n : Next) (more : List ℕ) → j.bytes.items ≡ i.bytes.items ++ more → j.start ≡ i.start → j.body ≡ i.body → j.done ≡ i.done → j.raw ≡ i.raw → j.to_come ≡ i.to_come
    → left_by n j ≡ and_more (left_by n i) more
pushed i j n more items start body done raw to_come =
    let text : slice_range j.bytes.items j.start j.body ≡ slice_range i.bytes.items i.start i.body =
    ap (λ (xs : List ℕ). slice_range xs j.start j.body) items ∙ slice_front i.bytes.items more j.start j.body (omega (arith, body, i.decoded, i.behind, i.within)) ∙ (λ k. slice_range i.bytes.items (start k) (body k)) in
    let so_far : slice_range j.bytes.items j.body j.done ≡ slice_range i.bytes.items i.body i.done =
    ap (λ (xs : List ℕ). slice_range xs j.body j.done) items ∙ slice_front i.bytes.items more j.body j.done (omega (arith, done, i.behind, i.within)) ∙ (λ k. slice_range i.bytes.items (body k) (done k)) in
    let rest : drop j.raw j.bytes.items ≡ drop i.raw i.bytes.items ++ more =
    ap (drop j.raw) items ∙ ap (λ (k : ℕ). drop k (i.bytes.items ++ more)) raw ∙ drop-append-le i.raw i.bytes.items more i.within in
    let whole_rest : drop j.start j.bytes.items ≡ drop i.start i.bytes.items ++ more =
    ap (drop j.start) items ∙ ap (λ (k : ℕ). drop k (i.bytes.items ++ more)) start ∙ drop-append-le i.start i.bytes.items more (omega (arith, i.begun, i.decoded, i.behind, i.within)) in
    at_each n text so_far rest whole_rest to_come
  where
    at_each : (n : Next) → slice_range j.bytes.items j.start j.body ≡ slice_range i.bytes.items i.start i.body → slice_range j.bytes.items j.body j.done ≡ slice_range i.bytes.items i.body i.done
        → drop j.raw j.bytes.items ≡ drop i.raw i.bytes.items ++ more → drop j.start j.bytes.items ≡ drop i.start i.bytes.items ++ more → j.to_come ≡ i.to_come → left_by n j ≡ and_more (left_by n i) more
    at_each NextHead text so_far rest whole_rest to_come = cc
    at_each NextBody text so_far rest whole_rest to_come = cc
    at_each NextLine text so_far rest whole_rest to_come = cc
    at_each NextData text so_far rest whole_rest to_come = cc
    at_each NextTrailers text so_far rest whole_rest to_come = cc

-- ---- room

-- where a request is waited for, there is room
pub small : (i : Buffer) (n : Next) → i.next ≡ n → Waits (left_by n i) → held (left_by n i) < max_buffer
small i NextHead e w = omega (arith, w.short)
small i NextBody e w = omega (arith, w, i.fits, i.short, i.decoded, length_part i.bytes.items i.start i.body i.begun (omega (arith, i.decoded, i.behind, i.within)))
small i NextLine e w =
    omega (arith, w.0, i.fits, i.short, length_part i.bytes.items i.start i.body i.begun (omega (arith, i.decoded, i.behind, i.within)), length_part i.bytes.items i.body i.done i.decoded (omega (arith, i.behind, i.within)))
small i NextData e (inl w) =
    omega (arith, ap length w, i.fits, i.short, length_part i.bytes.items i.start i.body i.begun (omega (arith, i.decoded, i.behind, i.within)), length_part i.bytes.items i.body i.done i.decoded (omega (arith, i.behind, i.within)))
small i NextData e (inr w) =
    omega (arith, ap length w.1, i.fits, i.short, length_part i.bytes.items i.start i.body i.begun (omega (arith, i.decoded, i.behind, i.within)), length_part i.bytes.items i.body i.done i.decoded (omega (arith, i.behind, i.within)))
small i NextTrailers e w =
    omega (arith, w.0, i.fits, i.short, length_part i.bytes.items i.start i.body i.begun (omega (arith, i.decoded, i.behind, i.within)), length_part i.bytes.items i.body i.done i.decoded (omega (arith, i.behind, i.within)))

-- ---- what was settled

pub none_before : (old new : Left) → Continues old new → Waits new → HasNone old
none_before old new c w m rest r = none_yet new.stage new.bytes w m rest (there_now old new m rest c r)

pub answers_of : (old : Left) (r : Result (Option Shape) HttpFault) (i : Buffer) → TakeAnswers old r i → Answers old (shown i r) (left_of i)
answers_of old (Ok None) i x = x
answers_of old (Ok (Some s)) i x = (x.1, x.2)
answers_of old (Err f) i x = x
