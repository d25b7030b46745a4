-- One step of a connection: what it does next.
use Rattle.std.proofs.Common.{◌≡◌, ◌⊎◌, ℕ, ◌+◌, ◌-◌, ◌≤◌, List, [], ◌∷◌, ◌++◌, length, take, drop, take_all, sym, refl, ◌∙◌, subst, inl, inr, arith, Bool, true, false, Option, Some, None, Result, Ok, Err}
use Rattle.std.specs.Prelude.{IfOk, Vec}
use Rattle.std.specs.Global.{Global}
use Rattle.std.specs.declared.alloc.AllocError.{AllocError}
use Rattle.std.proofs.lemmas.List.{take_rest}
use Rattle.sb_machine.specs.declared.history.Entry.{Entry}
use Rattle.sb_machine.specs.declared.reply.Answered.{Answered}
use Rattle.sb_machine.specs.declared.reply.Refusal.{Refusal}
use Rattle.sb_desk.specs.Desks.{Asking, Sitting}
use Rattle.sb_outside.specs.Causes.{Rose, RoseByOne}
use Rattle.sb_outside.specs.Streams.{Gains, GainsPart, Stays, WritesSome}
use Rattle.sb_outside.proofs.Gains.{gains-none, gains-take}
use Rattle.sb_http.specs.Causes.{Refuses}
use Rattle.sb_http.specs.Messages.{RequestMessage}
use Rattle.sb_http.specs.declared.fault.HttpFault.{HttpFault}
use Rattle.sb_server.specs.declared.ask.Ask.{Ask}
use Rattle.sb_server.specs.declared.ask.Ask.TheVariants.{Patient}
use Rattle.sb_server.specs.declared.body.LineAsk.{LineAsk}
use Rattle.sb_server.specs.declared.script.Script.{Script}
use Rattle.sb_server.specs.declared.doing.Begun.{Begun}
use Rattle.sb_server.specs.declared.doing.Begun.TheVariants.{Done, Waits, Calls, Says as WasCalled}
use Rattle.sb_server.specs.declared.doing.Doing.{Doing}
use Rattle.sb_server.specs.declared.doing.Doing.TheVariants.{Reads, Asks, Calls as Calling, Says as Saying, Tells, Writes}
use Rattle.sb_server.specs.declared.doing.Outgoing.{Outgoing}
use Rattle.sb_server.specs.declared.patience.Patience.{Patience}
use Rattle.sb_server.specs.declared.pending.Pending.{Pending}
use Rattle.sb_server.specs.declared.telling.Telling.{Telling}
use Rattle.sb_server.specs.declared.ending.Ending.{Ending}
use Rattle.sb_server.specs.declared.ending.Ending.TheVariants.{WriteFault}
use Rattle.sb_server.specs.Asks.{AsksFor, asks_close}
use Rattle.sb_server.specs.Doings.{Says, Answers, IsPatient, IsFresh, HasCalled, Begins, BeginsBy, IsAsking, IsPosted, IsDue, Owes, IsNext, IsDoingInOrder, IsBegunInOrder, refused_by, refusing, asks, behind, went_by, doing_by, said_of, farewell}
use Rattle.sb_server.specs.Reads.{Takes, IsDone, IsGone}
use Rattle.sb_server.specs.Responds.{AnswersWaiter, GivenUp, waiter_call}
use Rattle.sb_server.specs.Talks.{Start, Here, Talks, Ends, TurnsTo, refusal_bytes, refusal_ending}
use Rattle.sb_server.specs.Waiting.{GoesBy, FoundNothing}
use Rattle.sb_server.proofs.Going.{goes_by_none, found_nothing, nothing_is}
use Rattle.sb_server.proofs.Reading.{read_on, takes_on, done_before}
use Rattle.sb_server.proofs.Responding.{said_answers}
use Rattle.sb_server.proofs.Turning.{Reaches, asked, asked_part, refused_as, refused_part, refused_lost, gone, gone_part, rose_later}
use Rattle.sb_server.specs.declared.telling.Turn.TheVariants.{Goes}

-- ---- a response is due

-- the calls of a request were made
pub due_asked : (IsReading : ℕ → Type 0) (s : Start) (h n : Here) (m : RequestMessage) (ask : Ask) (closes : Bool) (told : Telling)
    → Talks IsReading s h Goes → Reaches h n (m ∷ []) → AsksFor s.access m ask → closes ≡ asks_close m → Answers IsReading h.pass ask closes n.pass told → n.written ≡ h.written → h.writes ≤ n.writes
    → IsDue IsReading s n told
due_asked IsReading s h n m ask closes told t x asks is a written writes = record {
  whole = λ out w k says le gains. asked IsReading s h (record n { written = w; writes = k }) m ask closes a.0 out a.1 told.after a.3 t (record { takes = x.takes; reads = x.reads }) (record { asks = asks; closes_is = is; goes = a.2 }) (a.4 out says)
      (subst (λ (o : Option (List ℕ)). Gains o w out) written gains) (omega (arith, writes, le));
  part = λ out w k says rose part. asked_part IsReading s h (record n { written = w; writes = k }) m ask closes a.0 out a.1 t (record { takes = x.takes; reads = x.reads }) (record { asks = asks; closes_is = is; goes = a.2 }) (a.4 out says)
      (subst (λ (o : Option (List ℕ)). GainsPart o w out) written part) (rose_later h.writes n.writes k writes rose);
}

-- who asked has gone
pub due_gone : (IsReading : ℕ → Type 0) (s : Start) (h n : Here) (p : Patience) → IsAsking IsReading s h p → Reaches h n [] → IsGone h.stand.there n.stand h.reads n.reads → n.pass ≡ h.pass → n.written ≡ h.written → h.writes ≤ n.writes
    → IsDue IsReading s n (farewell p)
due_gone IsReading s h n p a x left pass written writes = record {
  whole = λ out w k says le gains. gone IsReading s a.old (record n { written = w; writes = k }) a.m found.0 out a.talks takes goes (up out says) cause left.1 (subst (λ (o : Option (List ℕ)). Gains o w out) (written ∙ a.written) gains);
  part = λ out w k says rose part. gone_part IsReading s a.old (record n { written = w; writes = k }) a.m found.0 out a.talks takes goes (up out says) cause left.1 (subst (λ (o : Option (List ℕ)). GainsPart o w out) (written ∙ a.written) part)
      (rose_later a.old.writes n.writes k (omega (arith, a.writes, writes)) rose);
}
  where
    found : (made : List Entry) × GoesBy a.old.pass made h.pass × FoundNothing IsReading a.old.pass.seat (waiter_call p.waiter) p.limit_ms made
    found = found_nothing IsReading a.old.pass h.pass (waiter_call p.waiter) p.limit_ms p.first_ms p.asked_ms p.answer a.patient.waiting a.patient.empty a.patient.early

    takes : Takes a.old.stand (a.m ∷ []) n.stand
    takes = takes_on a.old.stand h.stand n.stand (a.m ∷ []) [] a.takes x.takes

    goes : GoesBy a.old.pass found.0 n.pass
    goes = subst (λ (q : Sitting). GoesBy a.old.pass found.0 q) (sym pass) found.1

    up : (out : List ℕ) → Says (said_of p.waiter p.answer) true out → GivenUp IsReading s.access a.old.pass.seat a.m found.0 out
    up out says = record {
      waiter = p.waiter;
      limit = p.limit_ms;
      asks = a.asks;
      found = found.2;
      says = subst (λ (r : Result Answered Refusal). AnswersWaiter p.waiter r true out) (nothing_is p.answer a.patient.empty) (said_answers p.waiter p.answer true out says);
    }

    left_at : IsDone h.stand.there n.stand.there ⊎ Rose h.reads n.reads → IsDone s.there n.stand.there ⊎ Rose s.reads n.reads
    left_at (inl done) = inl (done_before s.there h.stand.there n.stand.there (a.talks.fed ++ a.takes.fed) (read_on s.there a.old.stand.there h.stand.there a.talks.fed a.takes.fed a.talks.read a.takes.read) done)
    left_at (inr rose) = inr (rose_later s.reads h.reads n.reads (omega (arith, a.talks.reads, a.reads)) rose)

    cause : IsDone s.there n.stand.there ⊎ Rose s.reads n.reads
    cause = left_at left.0

-- its bytes stand
pub due_owes : (IsReading : ℕ → Type 0) (s : Start) (h : Here) (told : Telling) (v : Vec ℕ Global) (w : Option (List ℕ)) (k : ℕ) → IsDue IsReading s h told → Says told.said told.closes v.items → w ≡ h.written → k ≡ h.writes
    → Owes IsReading s (record h { written = w; writes = k }) (record { bytes = v; at = 0; after = told.after })
due_owes IsReading s h told v w k d says same writes = record {
  before = w;
  wrote = gains-none w;
  whole = λ u j le gains. d.whole v.items u j says (omega (arith, writes, le)) (subst (λ (o : Option (List ℕ)). Gains o u v.items) same gains);
  part = λ u j rose part. d.part v.items u j says (subst (λ (i : ℕ). Rose i j) writes rose) (subst (λ (o : Option (List ℕ)). GainsPart o u v.items) same part);
}

-- ---- a refusal is owed

owes_refused : (IsReading : ℕ → Type 0) (s : Start) (h n : Here) (fault : HttpFault) (v : Vec ℕ Global) → v.items ≡ refusal_bytes fault
    → Talks IsReading s h Goes → Reaches h n [] → Refuses fault n.stand.left → n.pass ≡ h.pass → n.written ≡ h.written → h.writes ≤ n.writes
    → Owes IsReading s n (record { bytes = v; at = 0; after = Some (refusal_ending fault) })
owes_refused IsReading s h n fault v is t x cause pass written writes = record {
  before = n.written;
  wrote = gains-none n.written;
  whole = λ w k le gains. refused_as IsReading s h (record n { written = w; writes = k }) fault (refusal_ending fault) refl t (record { takes = x.takes; reads = x.reads }) cause pass
      (subst (λ (o : Option (List ℕ)). Gains o w (refusal_bytes fault)) written (subst (λ (l : List ℕ). Gains n.written w l) is gains)) (omega (arith, writes, le));
  part = λ w k rose part. refused_part IsReading s h (record n { written = w; writes = k }) fault t (record { takes = x.takes; reads = x.reads }) cause pass
      (subst (λ (o : Option (List ℕ)). GainsPart o w (refusal_bytes fault)) written (subst (λ (l : List ℕ). GainsPart n.written w l) is part)) (rose_later h.writes n.writes k writes rose);
}

-- ---- what comes next

pub refused_next : (IsReading : ℕ → Type 0) (s : Start) (h n : Here) (fault : HttpFault) (b : Result (Vec ℕ Global) AllocError) (old : Doing) → IfOk b (λ v. v.items ≡ refusal_bytes fault)
    → Talks IsReading s h Goes → Reaches h n [] → Refuses fault n.stand.left → n.pass ≡ h.pass → n.written ≡ h.written → h.writes ≤ n.writes → IsNext IsReading s n (refused_by b) (refusing b (refusal_ending fault) old)
refused_next IsReading s h n fault (Ok v) old is t x cause pass written writes = owes_refused IsReading s h n fault v is t x cause pass written writes
refused_next IsReading s h n fault (Err e) old is t x cause pass written writes = refused_lost IsReading s h n t x pass written writes

-- none of several lines was called yet
fresh_called : (IsReading : ℕ → Type 0) (pass : Sitting) (lines : List LineAsk) (script : Script) → script.left.items ≡ lines → script.text.items ≡ [] → script.stopped ≡ false → HasCalled IsReading pass lines script [] [] pass
fresh_called IsReading pass lines script left text stopped = record { made = []; goes = goes_by_none pass; called = record { lines_are = sym left; made_is = refl; each = tt }; text_is = text; stopped_is = stopped }

pub begun_next : (IsReading : ℕ → Type 0) (s : Start) (h n : Here) (m : RequestMessage) (ask : Ask) (closes : Bool) (begun : Begun)
    → Talks IsReading s h Goes → Reaches h n (m ∷ []) → AsksFor s.access m ask → closes ≡ asks_close m → Begins IsReading h.pass ask closes n.pass begun → n.written ≡ h.written → h.writes ≤ n.writes
    → IsNext IsReading s n (went_by begun) (doing_by begun)
begun_next IsReading s h n m ask closes (Done told) t x asks is begins same writes = due_asked IsReading s h n m ask closes told t x asks is begins same writes
begun_next IsReading s h n m ask closes (Waits p) t x asks is begins same writes = record {
  old = h;
  m = m;
  talks = t;
  takes = x.takes;
  reads = x.reads;
  writes = writes;
  written = same;
  asks = subst (AsksFor s.access m) begins.0 asks;
  closes_is = begins.1 ∙ is;
  patient = begins.2;
}
begun_next IsReading s h n m ask closes (WasCalled script form answer) t x asks is begins same writes = absurd begins
begun_next IsReading s h n m ask closes (Calls script) t x asks is begins same writes =
    let fresh : IsFresh ask closes script = begins.0 in
    let called : HasCalled IsReading h.pass fresh.0 script [] [] h.pass = fresh_called IsReading h.pass fresh.0 script fresh.2 fresh.3 fresh.4 in (
      [],
      record {
        old = h;
        m = m;
        lines = fresh.0;
        talks = t;
        takes = x.takes;
        reads = x.reads;
        writes = writes;
        written = same;
        asks = subst (AsksFor s.access m) fresh.1 asks;
        closes_is = fresh.5 ∙ is;
        called = subst (λ (q : Sitting). HasCalled IsReading h.pass fresh.0 script [] [] q) (sym begins.1) called;
      },
    )

-- a call of it is posted
pub posted_next : (IsReading : ℕ → Type 0) (s : Start) (h n : Here) (m : RequestMessage) (ask : Ask) (closes : Bool) (a : Asking) (pending : Pending)
    → Talks IsReading s h Goes → Reaches h n (m ∷ []) → AsksFor s.access m ask → closes ≡ asks_close m → BeginsBy IsReading h.pass ask closes a pending → n.written ≡ h.written → h.writes ≤ n.writes
    → IsPosted IsReading s n a pending
posted_next IsReading s h n m ask closes a pending t x asks is begins same writes = λ answer new begun goes answered.
    begun_next IsReading s h (record n { pass = new }) m ask closes begun t (record { takes = x.takes; reads = x.reads }) asks is (begins answer new begun goes answered) same writes

-- what waits is asked again
pub asking_next : (IsReading : ℕ → Type 0) (s : Start) (h n : Here) (p : Patience) (a : Asking) (pending : Pending) → IsAsking IsReading s h p → Reaches h n []
    → ((old : Sitting) → IsPatient IsReading old p h.pass → BeginsBy IsReading old (Patient p.waiter p.limit_ms) p.closes a pending)
    → n.written ≡ h.written → h.writes ≤ n.writes → IsPosted IsReading s n a pending
asking_next IsReading s h n p a pending i x begins written writes =
    posted_next IsReading s i.old n i.m (Patient p.waiter p.limit_ms) p.closes a pending i.talks
    (record { takes = takes_on i.old.stand h.stand n.stand (i.m ∷ []) [] i.takes x.takes; reads = omega (arith, i.reads, x.reads) })
    i.asks i.closes_is (begins i.old.pass i.patient) (written ∙ i.written) (omega (arith, i.writes, writes))

-- ---- writing

pub wrote_all : (IsReading : ℕ → Type 0) (s : Start) (h : Here) (out : Outgoing) → Owes IsReading s h out → length out.bytes.items ≤ out.at → IsNext IsReading s h (behind out.after) Reads
wrote_all IsReading s h out o all = by out.after (o.whole h.written h.writes (omega arith) (subst (Gains o.before h.written) (take_all out.at out.bytes.items all) o.wrote))
  where
    by : (after : Option Ending) → TurnsTo IsReading s h after → IsNext IsReading s h (behind after) Reads
    by None t = t
    by (Some ending) t = t

-- nothing could be written yet
pub wrote_none : (IsReading : ℕ → Type 0) (s : Start) (h : Here) (out : Outgoing) (w : Option (List ℕ)) (k : ℕ) → Owes IsReading s h out → Stays h.written w → h.writes ≡ k → Owes IsReading s (record h { written = w; writes = k }) out
wrote_none IsReading s h out w k o stays same = record {
  before = o.before;
  wrote = gains_stays o.before h.written w (take out.at out.bytes.items) o.wrote stays;
  whole = λ v j le gains. o.whole v j (omega (arith, same, le)) gains;
  part = λ v j rose part. o.part v j (rose_later h.writes k j (omega (arith, same)) rose) part;
}
  where
    gains_stays : (a b c : Option (List ℕ)) (x : List ℕ) → Gains a b x → Stays b c → Gains a c x
    gains_stays None b c x g t = tt
    gains_stays (Some l) b c x g t = subst (λ (o : Option (List ℕ)). Stays o c) g t

pub wrote_some : (IsReading : ℕ → Type 0) (s : Start) (h : Here) (out : Outgoing) (w : Option (List ℕ)) (k n : ℕ) → Owes IsReading s h out → Gains h.written w (take n (drop out.at out.bytes.items)) → h.writes ≡ k
    → Owes IsReading s (record h { written = w; writes = k }) (record out { at = out.at + n })
wrote_some IsReading s h out w k n o gains same = record {
  before = o.before;
  wrote = gains-take o.before h.written w out.at n out.bytes.items o.wrote gains;
  whole = λ v j le all. o.whole v j (omega (arith, same, le)) all;
  part = λ v j rose part. o.part v j (rose_later h.writes k j (omega (arith, same)) rose) part;
}

-- a write failed
pub wrote_part : (IsReading : ℕ → Type 0) (s : Start) (h : Here) (out : Outgoing) (w : Option (List ℕ)) (k : ℕ) → Owes IsReading s h out → Stays h.written w → RoseByOne h.writes k → Ends IsReading s (record h { written = w; writes = k }) WriteFault
wrote_part IsReading s h out w k o stays rose = o.part w k (omega (arith, rose)) (by o.before h.written o.wrote stays)
  where
    by : (a b : Option (List ℕ)) → Gains a b (take out.at out.bytes.items) → Stays b w → GainsPart a w out.bytes.items
    by None b g t = tt
    by (Some l) b g t = (out.at, subst (λ (o : Option (List ℕ)). Stays o w) g t)

-- ---- the calls of what waits are in order

pub refusing_in_order : (b : Result (Vec ℕ Global) AllocError) (ending : Ending) (old : Doing) → IsDoingInOrder old → IsDoingInOrder (refusing b ending old)
refusing_in_order (Ok v) ending old o = tt
refusing_in_order (Err e) ending old o = o

pub next_in_order : (begun : Begun) → IsBegunInOrder begun → IsDoingInOrder (doing_by begun)
next_in_order (Done told) o = tt
next_in_order (Waits p) o = o
next_in_order (Calls script) o = o
next_in_order (WasCalled script form answer) o = o

-- ---- what waits

-- whatever asks is a call that waits
pub only_waits : (d : Doing) → asks d ≡ true → ((p : Patience) → d ≡ Asks p → ⊥) → ⊥
only_waits Reads is other = let bad : false ≡ true = is in absurd cc
only_waits (Asks p) is other = other p refl
only_waits (Calling script) is other = let bad : false ≡ true = is in absurd cc
only_waits (Saying script form answer) is other = let bad : false ≡ true = is in absurd cc
only_waits (Tells told) is other = let bad : false ≡ true = is in absurd cc
only_waits (Writes out) is other = let bad : false ≡ true = is in absurd cc

-- ---- what a write answered

pub got_some : (a b : Option (List ℕ)) (xs ys : List ℕ) (at : ℕ) (o : Option ℕ) (n : ℕ) → o ≡ Some n → xs ≡ ys → WritesSome a b (take (length xs - at) (drop at xs)) o → Gains a b (take n (drop at ys))
got_some a b xs ys at o n is same w =
    let w2 : WritesSome a b (take (length xs - at) (drop at xs)) (Some n) = subst (λ (k : Option ℕ). WritesSome a b (take (length xs - at) (drop at xs)) k) is w in
    subst (λ (l : List ℕ). Gains a b (take n (drop at l))) same (subst (λ (l : List ℕ). Gains a b (take n l)) (take_rest xs at) w2.2)

pub got_none : (a b : Option (List ℕ)) (xs : List ℕ) (o : Option ℕ) → o ≡ None → WritesSome a b xs o → Stays a b
got_none a b xs o is w = subst (λ (k : Option ℕ). WritesSome a b xs k) is w
