-- Reading on: what was fed, and which requests were taken.
use Rattle.std.proofs.Common.{◌≡◌, ℕ, ◌+◌, ◌-◌, ◌≤◌, List, [], ◌∷◌, ◌++◌, length, length-append, take, drop, sym, refl, ap, ◌∙◌, subst, inl, inr, true, arith, append_assoc, append-nil, Option, Result, Ok, Err, Some, None, slice_range}
use Rattle.std.proofs.lemmas.List.{take-append-drop, drop-take, drop-drop, length-take-le}
use Rattle.httparse.proofs.RunLemmas.{length-slice_range}
use Rattle.sb_outside.specs.Streams.{Consumes, Ends, Stays}
use Rattle.sb_http.specs.Causes.{HasNone, Refuses, IsCaused}
use Rattle.sb_http.specs.Messages.{RequestMessage}
use Rattle.sb_http.specs.Said.{said_by, reply_of}
use Rattle.sb_http.specs.Stages.{Left, ReadsAt, Continues}
use Rattle.sb_http.specs.Streams.{Requests, Pending, NextAnswers, AnswersAt, FeedGoesOn, IsReady, IsReadyAt}
use Rattle.sb_http.specs.declared.fault.HttpFault.{HttpFault}
use Rattle.sb_http.specs.declared.request.Request.{Request}
use Rattle.sb_server.specs.declared.came.Filled.{Filled}
use Rattle.sb_server.specs.declared.came.Filled.TheVariants.{Over as Done}
use Rattle.sb_server.specs.declared.ending.Ending.TheVariants.{Closed, Truncated, ReadFault}
use Rattle.sb_server.specs.declared.inbox.Inbox.{Inbox}
use Rattle.sb_server.specs.Readers.{HasAnswer}
use Rattle.sb_server.specs.Reads.{Stand, and_before, stand_of, IsReadTo, HasRead, Takes, IsDone, WaitsForMore, GoesOnBy, FillsWith, Fills, IfNone, IfOver, EndsWith, has_ended, IsGone}

-- ---- what the reader answers

pub took_one : (old new : Pending) (r : Result (Option Request) HttpFault) (f : Option Request) (m : Request)
    → r ≡ Ok f → f ≡ Some m → NextAnswers old (reply_of r) new → GoesOnBy old.left (said_by m ∷ []) new.left
took_one old new r f m is some x =
    by old.fault (subst (λ (q : Option Request). NextAnswers old (reply_of (Ok q)) new) some (subst (λ (q : Result (Option Request) HttpFault). NextAnswers old (reply_of q) new) is x))
  where
    by : (o : Option HttpFault) → AnswersAt o old.left (Ok (Some (said_by m))) new → GoesOnBy old.left (said_by m ∷ []) new.left
    by (Some f) y = absurd cc
    by None y = y.2

none_later : (old new : Left) → Continues old new → HasNone old → HasNone new
none_later old new c none m rest r =
    none m rest (subst (λ (b : List ℕ). ReadsAt old.stage b m rest) (append-nil old.bytes) (c.here [] m rest (subst (λ (b : List ℕ). ReadsAt new.stage b m rest) (sym (append-nil new.bytes)) r)))

pub took_none : (old new : Pending) (r : Result (Option Request) HttpFault) (f : Option Request) → r ≡ Ok f → f ≡ None → NextAnswers old (reply_of r) new → GoesOnBy old.left [] new.left × WaitsForMore new.left
took_none old new r f is none x =
    by old.fault (subst (λ (q : Option Request). NextAnswers old (reply_of (Ok q)) new) none (subst (λ (q : Result (Option Request) HttpFault). NextAnswers old (reply_of q) new) is x))
  where
    by : (o : Option HttpFault) → AnswersAt o old.left (Ok None) new → GoesOnBy old.left [] new.left × WaitsForMore new.left
    by (Some f) y = absurd cc
    by None y = (y.2, (none_later old.left new.left y.0.0 y.0.2, y.0.1))

fault_same : (f g : HttpFault) → ◌≡◌ {A = Result (Option RequestMessage) HttpFault} (Err f) (Err g) → f ≡ g
fault_same f g e = ap (λ (r : Result (Option RequestMessage) HttpFault). elim r [ Err z ↦ z | Ok o ↦ f ]) e

pub took_fault : (old new : Pending) (r : Result (Option Request) HttpFault) (fault : HttpFault) → r ≡ Err fault → NextAnswers old (reply_of r) new → GoesOnBy old.left [] new.left × Refuses fault new.left
took_fault old new r fault is x = by old.fault (subst (λ (q : Result (Option Request) HttpFault). NextAnswers old (reply_of q) new) is x)
  where
    stays : (l : Left) → l ≡ old.left → GoesOnBy old.left [] l
    stays l same = subst (λ (k : Left). GoesOnBy old.left [] k) (sym same) (λ stream before q. subst (λ (k : List RequestMessage). Requests stream k old.left) (sym (append-nil before)) q)

    by : (o : Option HttpFault) → AnswersAt o old.left (Err fault) new → GoesOnBy old.left [] new.left × Refuses fault new.left
    by (Some f) y = (stays new.left y.2, subst (λ (g : HttpFault). Refuses g new.left) (sym (fault_same fault f y.0)) y.3)
    by None y = (y.2, y.0.1)

-- a request that is whole is to be answered, and a fault that was met has its cause
pub has_answer : (p : Pending) → IsCaused p.fault p.left → IsReady p → HasAnswer p.left
has_answer p caused ready = by p.fault caused ready
  where
    by : (o : Option HttpFault) → IsCaused o p.left → IsReadyAt o p.left → HasAnswer p.left
    by (Some fault) c r = inr (fault, c)
    by None c r = inl r

-- ---- a piece and its parts

slice_from : (xs : List ℕ) (i n : ℕ) → slice_range xs i (i + n) ≡ take n (drop i xs)
slice_from xs i n = let some : i + n - i ≡ n = omega arith in ap (λ (k : ℕ). take k (drop i xs)) some

split_piece : (xs : List ℕ) (at n k : ℕ) → slice_range xs at (at + (n + k)) ≡ take n (slice_range xs at (at + (n + k))) ++ slice_range xs (at + n) ((at + n) + k)
split_piece xs at n k =
    let whole : List ℕ = slice_range xs at (at + (n + k)) in
    let rest : drop n whole ≡ slice_range xs (at + n) ((at + n) + k) =
    ap (drop n) (slice_from xs at (n + k)) ∙ (drop-take n k (drop at xs) ∙ (ap (take k) (drop-drop n at xs) ∙ sym (slice_from xs (at + n) k))) in
    sym (take-append-drop n whole) ∙ ap (λ (l : List ℕ). take n whole ++ l) rest

pub piece_split : (xs : List ℕ) (at end n : ℕ) → at + n ≤ end → slice_range xs at end ≡ take n (slice_range xs at end) ++ slice_range xs (at + n) end
piece_split xs at end n fits =
    let k : ℕ = end - (at + n) in
    let one : at + (n + k) ≡ end = omega (arith, fits) in
    let two : (at + n) + k ≡ end = omega (arith, fits) in
    subst (λ (e : ℕ). slice_range xs at end ≡ take n (slice_range xs at end) ++ slice_range xs (at + n) e) two
    (subst (λ (e : ℕ). slice_range xs at e ≡ take n (slice_range xs at e) ++ slice_range xs (at + n) ((at + n) + k)) one (split_piece xs at n k))

pub no_piece : (xs : List ℕ) (at end : ℕ) → at ≡ end → slice_range xs at end ≡ []
no_piece xs at end same = let none : end - at ≡ 0 = omega (arith, same) in ap (λ (k : ℕ). take k (drop at xs)) none

pub first_piece : (xs : List ℕ) (n : ℕ) → slice_range xs 0 n ≡ take n xs
first_piece xs n = let all : n - 0 ≡ n = omega arith in ap (λ (k : ℕ). take k xs) all

-- ---- feeding

-- n bytes of a piece were fed
pub feeds : (old new : Left) (xs : List ℕ) (at end n taken : ℕ) (left : Option (List ℕ))
    → n ≤ length (slice_range xs at end) → at ≤ end → end ≤ length xs → end - at ≤ taken → FeedGoesOn old (take n (slice_range xs at end)) new
    → Takes (record { left = old; fed = taken - (end - at); unfed = slice_range xs at end; there = and_before (slice_range xs at end) left }) []
    (record { left = new; fed = taken - (end - (at + n)); unfed = slice_range xs (at + n) end; there = and_before (slice_range xs (at + n) end) left })
feeds old new xs at end n taken left few ordered within counted goes = record {
  fed = fed;
  goes = λ stream before r. subst (λ (l : List RequestMessage). Requests (stream ++ fed) l new) (sym (append-nil before)) (goes stream before r);
  read = by left;
  count = omega (arith, size, few, long, ordered, counted);
}
  where
    piece : List ℕ
    piece = slice_range xs at end

    fed : List ℕ
    fed = take n piece

    long : length piece ≡ end - at
    long = length-slice_range xs at end ordered within

    size : length fed ≡ n
    size = length-take-le n piece few

    split : piece ≡ fed ++ slice_range xs (at + n) end
    split = piece_split xs at end n (omega (arith, few, long, ordered))

    by : (left : Option (List ℕ)) → HasRead (and_before piece left) fed (and_before (slice_range xs (at + n) end) left)
    by None = tt
    by (Some l) = (slice_range xs (at + n) end ++ l, refl, ap (λ (p : List ℕ). p ++ l) split ∙ append_assoc fed (slice_range xs (at + n) end) l)

pub read_none : (t : Option (List ℕ)) → HasRead t [] t
read_none None = tt
read_none (Some l) = (l, refl, refl)

pub read_on : (t u v : Option (List ℕ)) (x y : List ℕ) → HasRead t x u → HasRead u y v → HasRead t (x ++ y) v
read_on None u v x y a b = tt
read_on (Some l) u v x y a b =
    let c : HasRead (Some a.0) y v = subst (λ (o : Option (List ℕ)). HasRead o y v) a.1 b in
    (c.0, c.1, a.2 ∙ (ap (λ (r : List ℕ). x ++ r) c.2 ∙ sym (append_assoc x y c.0)))

pub takes_start : (a : Stand) → Takes a [] a
takes_start a = record {
  fed = [];
  goes = λ stream before r. subst (λ (l : List ℕ). Requests l (before ++ []) a.left) (sym (append-nil stream)) (subst (λ (l : List RequestMessage). Requests stream l a.left) (sym (append-nil before)) r);
  read = read_none a.there;
  count = omega arith;
}

pub takes_on : (a b c : Stand) (ms ns : List RequestMessage) → Takes a ms b → Takes b ns c → Takes a (ms ++ ns) c
takes_on a b c ms ns x y = record {
  fed = x.fed ++ y.fed;
  goes = λ stream before r. subst (λ (l : List ℕ). Requests l (before ++ (ms ++ ns)) c.left) (append_assoc stream x.fed y.fed)
      (subst (λ (l : List RequestMessage). Requests ((stream ++ x.fed) ++ y.fed) l c.left) (append_assoc before ms ns) (y.goes (stream ++ x.fed) (before ++ ms) (x.goes stream before r)));
  read = read_on a.there b.there c.there x.fed y.fed x.read y.read;
  count = omega (arith, x.count, y.count, length-append x.fed y.fed);
}

pub takes_to : (a : Stand) (ms : List RequestMessage) (i : Inbox) (l k : Option (List ℕ)) → k ≡ l → Takes a ms (stand_of i l) → Takes a ms (stand_of i k)
takes_to a ms i l k same x = subst (λ (o : Option (List ℕ)). Takes a ms (stand_of i o)) (sym same) x

-- requests were taken of what was fed
pub takes_of : (a b : Left) (n : ℕ) (u : List ℕ) (t : Option (List ℕ)) (ms : List RequestMessage) → GoesOnBy a ms b → Takes (record { left = a; fed = n; unfed = u; there = t }) ms (record { left = b; fed = n; unfed = u; there = t })
takes_of a b n u t ms g = record {
  fed = [];
  goes = λ stream before r. subst (λ (l : List ℕ). Requests l (before ++ ms) b) (sym (append-nil stream)) (g stream before r);
  read = read_none t;
  count = omega arith;
}

-- no byte but those of the piece was read and not fed
pub read_to : (i : Inbox) (left : Option (List ℕ)) → IsReadTo (stand_of i left) left
read_to i left = (omega (arith, length-slice_range i.piece.items i.at i.end i.ordered i.within, i.within, i.room), refl)

-- ---- filling

some_same : (p q : List ℕ) → Some p ≡ Some q → p ≡ q
some_same p q e = ap (λ (o : Option (List ℕ)). elim o [ Some z ↦ z | None ↦ p ]) e

pub takes_filled : (a b c : Stand) (ms : List RequestMessage) → Takes a ms b → Fills b c → Takes a ms c
takes_filled a b c ms x f = record {
  fed = x.fed;
  goes = λ stream before r. subst (λ (l : Left). Requests (stream ++ x.fed) (before ++ ms) l) (sym f.left) (x.goes stream before r);
  read = by a.there b.there x.read f.there;
  count = f.fed ∙ x.count;
}
  where
    by : (t u : Option (List ℕ)) → HasRead t x.fed u → FillsWith u c.there → HasRead t x.fed c.there
    by None u h g = tt
    by (Some l) None h g = absurd cc
    by (Some l) (Some r) h g = (r, g, h.2 ∙ ap (λ (k : List ℕ). x.fed ++ k) (some_same h.0 r (sym h.1)))

fills_stays : (piece : List ℕ) (a b : Option (List ℕ)) → Stays a b → FillsWith (and_before piece a) (and_before piece b)
fills_stays piece None b s = tt
fills_stays piece (Some l) b s = ap (and_before piece) s

pub fills_none : (s : Stand) → Fills s s
fills_none s = record { left = refl; fed = refl; there = by s.there }
  where
    by : (o : Option (List ℕ)) → FillsWith o o
    by None = tt
    by (Some l) = refl

-- a read failed
pub fills_failed : (l : Left) (n : ℕ) (piece : List ℕ) (a b : Option (List ℕ)) → Stays a b → Fills (record { left = l; fed = n; unfed = piece; there = and_before piece a }) (record { left = l; fed = n; unfed = piece; there = and_before piece b })
fills_failed l n piece a b s = record { left = refl; fed = refl; there = fills_stays piece a b s }

-- n bytes were read into a piece of which all had been fed
pub fills_read : (l : Left) (taken at end n : ℕ) (xs into : List ℕ) (there after : Option (List ℕ)) → Consumes there after n into → at ≡ end
    → Fills (record { left = l; fed = taken - (end - at); unfed = slice_range xs at end; there = and_before (slice_range xs at end) there })
    (record { left = l; fed = (taken + n) - (n - 0); unfed = slice_range into 0 n; there = and_before (slice_range into 0 n) after })
fills_read l taken at end n xs into there after c same = record { left = refl; fed = omega (arith, same); there = by there c }
  where
    by : (t : Option (List ℕ)) → Consumes t after n into → FillsWith (and_before (slice_range xs at end) t) (and_before (slice_range into 0 n) after)
    by None c = tt
    by (Some l) c =
        ap (and_before (slice_range into 0 n)) c.0 ∙ ap Some (ap (λ (p : List ℕ). p ++ drop n l) (first_piece into n ∙ c.2) ∙ (take-append-drop n l ∙ ap (λ (p : List ℕ). p ++ l) (sym (no_piece xs at end same))))

-- nothing was read, so nothing is left
pub done_at_end : (xs into : List ℕ) (at end n room : ℕ) (there after : Option (List ℕ)) → Consumes there after n into → Ends there n room → n ≡ 0 → 1 ≤ room → at ≡ end
    → IsDone (and_before (slice_range xs at end) there) (and_before (slice_range into 0 n) after)
done_at_end xs into at end n room None after c e zero_is some same = tt
done_at_end xs into at end n room (Some l) after c e zero_is some same =
    let empty : l ≡ [] = e zero_is some in
    let none : slice_range into 0 n ≡ [] = no_piece into 0 n (sym zero_is) in
    ap (and_before (slice_range into 0 n)) (c.0 ∙ ap (λ (k : ℕ). Some (drop k l)) zero_is) ∙ ap Some (ap (λ (p : List ℕ). p ++ l) none ∙ empty)

pub done_before : (t u v : Option (List ℕ)) (fed : List ℕ) → HasRead t fed u → IsDone u v → IsDone t v
done_before None u v fed h d = tt
done_before (Some l) u v fed h d = subst (λ (o : Option (List ℕ)). IsDone o v) h.1 d

-- ---- whether the other side has gone

pub gone_of : (filled : Filled) (there : Option (List ℕ)) (new : Stand) (count_before count : ℕ) → IfOver filled (λ ending. EndsWith ending there new count_before count) → IfNone filled (new.unfed ≡ []) → has_ended filled ≡ true → IsGone there new count_before count
gone_of (Done Closed) there new count_before count x none e = (inl x.0, none)
gone_of (Done Truncated) there new count_before count x none e = (inl x.0, none)
gone_of (Done ReadFault) there new count_before count x none e = (inr x, none)
gone_of _ there new count_before count x none e = absurd cc
