-- One turn of a connection.
use Rattle.std.proofs.Common.{◌≡◌, ◌⊎◌, ℕ, ◌≤◌, List, [], ◌∷◌, ◌++◌, length-append, sym, refl, ap, subst, inl, inr, arith, append-nil, Bool, Option, Some, None}
use Rattle.sb_machine.specs.declared.history.Entry.{Entry}
use Rattle.sb_desk.specs.Desks.{Sitting}
use Rattle.sb_outside.specs.Causes.{Rose}
use Rattle.sb_outside.specs.Streams.{Gains, GainsPart}
use Rattle.sb_outside.proofs.Gains.{gains-none, gains-gains, gains-part}
use Rattle.sb_http.specs.Causes.{Refuses}
use Rattle.sb_http.specs.Messages.{RequestMessage}
use Rattle.sb_http.specs.Stages.{Left, whole}
use Rattle.sb_http.specs.Streams.{Requests}
use Rattle.sb_http.specs.declared.fault.HttpFault.{HttpFault}
use Rattle.sb_http.specs.declared.fault.HttpFault.TheVariants.{BadHead as HeadBad, HeadTooLarge as HeadLarge, BodyTooLarge as BodyLarge}
use Rattle.sb_rest.specs.declared.access.Access.{Access}
use Rattle.sb_server.specs.declared.telling.Turn.{Turn}
use Rattle.sb_server.specs.declared.telling.Turn.TheVariants.{Goes, Closes, Stops}
use Rattle.sb_server.specs.declared.ask.Ask.{Ask}
use Rattle.sb_server.specs.declared.ending.Ending.{Ending}
use Rattle.sb_server.specs.declared.ending.Ending.TheVariants.{Closed, BadHead, HeadTooLarge, BodyTooLarge, Truncated, LongConnection, ReadFault, Gone, WriteFault, Slow, Stopped, OutOfMemory}
use Rattle.sb_server.specs.Asks.{AsksFor, asks_close}
use Rattle.sb_server.specs.Reads.{Stand, Takes, EndsWith, IsDone, IsReadTo, NeedsMore}
use Rattle.sb_server.specs.Responds.{GivenUp, RespondsTo, Responds}
use Rattle.sb_server.specs.Talks.{Start, Here, Talks, IsRefused, Leaves, ReadsOut, Ends, TurnsTo, ending_of, refusal_bytes, refusal_ending}
use Rattle.sb_server.specs.Waiting.{GoesBy}
use Rattle.sb_server.proofs.Going.{goes_by_none, goes_by_both, same_seat}
use Rattle.sb_server.proofs.Reading.{read_on, read_none, done_before}
use Rattle.sb_server.proofs.Responding.{responds_more}

-- what a turn leaves of the rest: the connection as it was, but for what was read
pub record Reaches (h n : Here) (ms : List RequestMessage) : Type 0 where
  pub takes : Takes h.stand ms n.stand
  pub reads : h.reads ≤ n.reads

pub rose_later : (a b c : ℕ) → a ≤ b → Rose b c → Rose a c
rose_later a b c le r = omega (arith, le, r)

-- ---- no request was taken

pub reads_on : (IsReading : ℕ → Type 0) (s : Start) (h n : Here) → Talks IsReading s h Goes → Reaches h n [] → n.pass ≡ h.pass → n.written ≡ h.written → h.writes ≤ n.writes → Talks IsReading s n Goes
reads_on IsReading s h n t x pass written writes = record {
  fed = t.fed ++ x.takes.fed;
  ms = t.ms;
  made = t.made;
  out = t.out;
  requests = subst (λ (l : List RequestMessage). Requests (t.fed ++ x.takes.fed) l n.stand.left) (append-nil t.ms) (x.takes.goes t.fed t.ms t.requests);
  read = read_on s.there h.stand.there n.stand.there t.fed x.takes.fed t.read x.takes.read;
  count = omega (arith, t.count, x.takes.count, length-append t.fed x.takes.fed);
  goes = subst (λ (p : Sitting). GoesBy s.pass t.made p) (sym pass) t.goes;
  responds = t.responds;
  wrote = subst (λ (o : Option (List ℕ)). Gains s.given o t.out) (sym written) t.wrote;
  reads = omega (arith, t.reads, x.reads);
  writes = omega (arith, t.writes, writes);
}

-- reading ended
pub over : (IsReading : ℕ → Type 0) (s : Start) (h n : Here) (ending : Ending) → Talks IsReading s h Goes → Reaches h n [] → EndsWith ending h.stand.there n.stand h.reads n.reads → NeedsMore n.stand
    → n.pass ≡ h.pass → n.written ≡ h.written → h.writes ≤ n.writes → Ends IsReading s n ending
over IsReading s h n ending t x e waits pass written writes = by ending e
  where
    now : ReadsOut IsReading s n
    now = (reads_on IsReading s h n t x pass written writes, waits)

    by : (ending : Ending) → EndsWith ending h.stand.there n.stand h.reads n.reads → Ends IsReading s n ending
    by Closed e = inr (now, done_before s.there h.stand.there n.stand.there t.fed t.read e.0, e.1)
    by Truncated e = (now, done_before s.there h.stand.there n.stand.there t.fed t.read e.0, e.1)
    by LongConnection e = (now, e)
    by ReadFault e = (now, rose_later s.reads h.reads n.reads t.reads e)
    by BadHead e = absurd e
    by HeadTooLarge e = absurd e
    by BodyTooLarge e = absurd e
    by Gone e = absurd e
    by WriteFault e = absurd e
    by Slow e = absurd e
    by Stopped e = absurd e
    by OutOfMemory e = absurd e

-- ---- what is next was refused

-- there was no memory for the response
pub refused_lost : (IsReading : ℕ → Type 0) (s : Start) (h n : Here) → Talks IsReading s h Goes → Reaches h n [] → n.pass ≡ h.pass → n.written ≡ h.written → h.writes ≤ n.writes → Ends IsReading s n OutOfMemory
refused_lost IsReading s h n t x pass written writes = reads_on IsReading s h n t x pass written writes

-- its response was written
pub refused_as : (IsReading : ℕ → Type 0) (s : Start) (h n : Here) (fault : HttpFault) (r : Ending) → r ≡ refusal_ending fault → Talks IsReading s h Goes → Reaches h n [] → Refuses fault n.stand.left
    → n.pass ≡ h.pass → Gains h.written n.written (refusal_bytes fault) → h.writes ≤ n.writes → Ends IsReading s n r
refused_as IsReading s h n fault r is t x cause pass wrote writes = subst (Ends IsReading s n) (sym is) (by fault (record {
  before = h.written;
  talks = reads_on IsReading s h (record n { written = h.written }) t (record { takes = x.takes; reads = x.reads }) pass refl writes;
  wrote = wrote;
  cause = cause;
}))
  where
    by : (fault : HttpFault) → IsRefused IsReading s n fault → Ends IsReading s n (refusal_ending fault)
    by HeadBad k = k
    by HeadLarge k = k
    by BodyLarge k = k

-- a front of it was written
pub refused_part : (IsReading : ℕ → Type 0) (s : Start) (h n : Here) (fault : HttpFault) → Talks IsReading s h Goes → Reaches h n [] → Refuses fault n.stand.left → n.pass ≡ h.pass → GainsPart h.written n.written (refusal_bytes fault) → Rose h.writes n.writes → Ends IsReading s n WriteFault
refused_part IsReading s h n fault t x cause pass part rose = (
  inl (record {
    fed = t.fed ++ x.takes.fed;
    ms = t.ms;
    made = t.made;
    out = t.out;
    turn = Goes;
    all = t.out ++ refusal_bytes fault;
    requests = subst (λ (l : List RequestMessage). Requests (t.fed ++ x.takes.fed) l n.stand.left) (append-nil t.ms) (x.takes.goes t.fed t.ms t.requests);
    read = read_on s.there h.stand.there n.stand.there t.fed x.takes.fed t.read x.takes.read;
    goes = subst (λ (p : Sitting). GoesBy s.pass t.made p) (sym pass) t.goes;
    responds = t.responds;
    all_is = inr (fault, refl, cause, refl);
    wrote = gains-part s.given h.written n.written t.out (refusal_bytes fault) (t.out ++ refusal_bytes fault) t.wrote part [] (ap (λ (l : List ℕ). t.out ++ l) (sym (append-nil (refusal_bytes fault))));
  }),
  rose_later s.writes h.writes n.writes t.writes rose,
)

-- ---- one request more

-- what it asks for, and how the pass went on by its calls
pub record Asked (access : Access) (h n : Here) (m : RequestMessage) (ask : Ask) (closes : Bool) (made : List Entry) : Type 0 where
  pub asks : AsksFor access m ask
  pub closes_is : closes ≡ asks_close m
  pub goes : GoesBy h.pass made n.pass

responds_to : (IsReading : ℕ → Type 0) (s : Start) (h n : Here) (m : RequestMessage) (ask : Ask) (closes : Bool) (made : List Entry) (out : List ℕ) (turn : Turn) (t : Talks IsReading s h Goes)
    → Asked s.access h n m ask closes made → RespondsTo IsReading h.pass.seat ask closes made out turn → Responds IsReading s.access s.pass.seat (t.ms ++ m ∷ []) (t.made ++ made) (t.out ++ out) turn
responds_to IsReading s h n m ask closes made out turn t a responds =
    let seat : h.pass.seat ≡ s.pass.seat = same_seat s.pass h.pass t.made t.goes in
    let one : RespondsTo IsReading s.pass.seat ask (asks_close m) made out turn = subst (λ (b : Bool). RespondsTo IsReading s.pass.seat ask b made out turn) a.closes_is (subst (λ (k : ℕ). RespondsTo IsReading k ask closes made out turn) seat responds) in
    responds_more IsReading s.access s.pass.seat t.ms t.made t.out m made out turn t.responds (record { ask = ask; asks = a.asks; responds = one })

-- its response was written
pub asked : (IsReading : ℕ → Type 0) (s : Start) (h n : Here) (m : RequestMessage) (ask : Ask) (closes : Bool) (made : List Entry) (out : List ℕ) (turn : Turn) (r : Option Ending) → r ≡ ending_of turn
    → Talks IsReading s h Goes → Reaches h n (m ∷ []) → Asked s.access h n m ask closes made → RespondsTo IsReading h.pass.seat ask closes made out turn
    → Gains h.written n.written out → h.writes ≤ n.writes → TurnsTo IsReading s n r
asked IsReading s h n m ask closes made out turn r r_is t x a responds wrote writes = subst (TurnsTo IsReading s n) (sym r_is) (by turn now)
  where
    now : Talks IsReading s n turn
    now = record {
      fed = t.fed ++ x.takes.fed;
      ms = t.ms ++ m ∷ [];
      made = t.made ++ made;
      out = t.out ++ out;
      requests = x.takes.goes t.fed t.ms t.requests;
      read = read_on s.there h.stand.there n.stand.there t.fed x.takes.fed t.read x.takes.read;
      count = omega (arith, t.count, x.takes.count, length-append t.fed x.takes.fed);
      goes = goes_by_both s.pass h.pass n.pass t.made made t.goes a.goes;
      responds = responds_to IsReading s h n m ask closes made out turn t a responds;
      wrote = gains-gains s.given h.written n.written t.out out t.wrote wrote;
      reads = omega (arith, t.reads, x.reads);
      writes = omega (arith, t.writes, writes);
    }

    by : (turn : Turn) → Talks IsReading s n turn → TurnsTo IsReading s n (ending_of turn)
    by Goes k = k
    by Closes k = inl k
    by Stops k = k

-- a front of it was written
pub asked_part : (IsReading : ℕ → Type 0) (s : Start) (h n : Here) (m : RequestMessage) (ask : Ask) (closes : Bool) (made : List Entry) (out : List ℕ) (turn : Turn)
    → Talks IsReading s h Goes → Reaches h n (m ∷ []) → Asked s.access h n m ask closes made → RespondsTo IsReading h.pass.seat ask closes made out turn
    → GainsPart h.written n.written out → Rose h.writes n.writes → Ends IsReading s n WriteFault
asked_part IsReading s h n m ask closes made out turn t x a responds part rose = (
  inl (record {
    fed = t.fed ++ x.takes.fed;
    ms = t.ms ++ m ∷ [];
    made = t.made ++ made;
    out = t.out ++ out;
    turn = turn;
    all = t.out ++ out;
    requests = x.takes.goes t.fed t.ms t.requests;
    read = read_on s.there h.stand.there n.stand.there t.fed x.takes.fed t.read x.takes.read;
    goes = goes_by_both s.pass h.pass n.pass t.made made t.goes a.goes;
    responds = responds_to IsReading s h n m ask closes made out turn t a responds;
    all_is = inl refl;
    wrote = gains-part s.given h.written n.written t.out out (t.out ++ out) t.wrote part [] (ap (λ (l : List ℕ). t.out ++ l) (sym (append-nil out)));
  }),
  rose_later s.writes h.writes n.writes t.writes rose,
)

-- ---- who has gone

-- these were due
leaves : (IsReading : ℕ → Type 0) (s : Start) (h n : Here) (m : RequestMessage) (made : List Entry) (said : List ℕ) (t : Talks IsReading s h Goes) → Takes h.stand (m ∷ []) n.stand → GoesBy h.pass made n.pass
    → GivenUp IsReading s.access h.pass.seat m made said → IsDone s.there n.stand.there ⊎ Rose s.reads n.reads → n.stand.unfed ≡ [] → Leaves IsReading s n (t.out ++ said)
leaves IsReading s h n m made said t takes goes up cause all_fed = record {
  fed = t.fed ++ takes.fed;
  ms = t.ms;
  m = m;
  made = t.made;
  mine = made;
  out = t.out;
  said = said;
  requests = takes.goes t.fed t.ms t.requests;
  read = read_on s.there h.stand.there n.stand.there t.fed takes.fed t.read takes.read;
  goes = goes_by_both s.pass h.pass n.pass t.made made t.goes goes;
  responds = t.responds;
  given_up = subst (λ (k : ℕ). GivenUp IsReading s.access k m made said) (same_seat s.pass h.pass t.made t.goes) up;
  all_is = refl;
  cause = cause;
  all_fed = all_fed;
}

-- all was written
pub gone : (IsReading : ℕ → Type 0) (s : Start) (h n : Here) (m : RequestMessage) (made : List Entry) (said : List ℕ) → Talks IsReading s h Goes → Takes h.stand (m ∷ []) n.stand → GoesBy h.pass made n.pass
    → GivenUp IsReading s.access h.pass.seat m made said → IsDone s.there n.stand.there ⊎ Rose s.reads n.reads → n.stand.unfed ≡ [] → Gains h.written n.written said → Ends IsReading s n Gone
gone IsReading s h n m made said t takes goes up cause all_fed wrote =
    (t.out ++ said, leaves IsReading s h n m made said t takes goes up cause all_fed, gains-gains s.given h.written n.written t.out said t.wrote wrote)

-- a front of it was written
pub gone_part : (IsReading : ℕ → Type 0) (s : Start) (h n : Here) (m : RequestMessage) (made : List Entry) (said : List ℕ) → Talks IsReading s h Goes → Takes h.stand (m ∷ []) n.stand → GoesBy h.pass made n.pass
    → GivenUp IsReading s.access h.pass.seat m made said → IsDone s.there n.stand.there ⊎ Rose s.reads n.reads → n.stand.unfed ≡ [] → GainsPart h.written n.written said → Rose h.writes n.writes → Ends IsReading s n WriteFault
gone_part IsReading s h n m made said t takes goes up cause all_fed part rose = (
  inr (t.out ++ said, leaves IsReading s h n m made said t takes goes up cause all_fed, gains-part s.given h.written n.written t.out said (t.out ++ said) t.wrote part [] (ap (λ (l : List ℕ). t.out ++ l) (sym (append-nil said)))),
  rose_later s.writes h.writes n.writes t.writes rose,
)

-- ---- how a connection begins

pub talks_start : (IsReading : ℕ → Type 0) (s : Start) (left : Left) → Requests [] [] left → Talks IsReading s (record { pass = s.pass; stand = record { left = left; fed = 0; unfed = []; there = s.there }; written = s.given; reads = s.reads; writes = s.writes }) Goes
talks_start IsReading s left requests = record {
  fed = [];
  ms = [];
  made = [];
  out = [];
  requests = requests;
  read = read_none s.there;
  count = refl;
  goes = goes_by_none s.pass;
  responds = (refl, refl, refl);
  wrote = gains-none s.given;
  reads = omega arith;
  writes = omega arith;
}

pub talks_from : (IsReading : ℕ → Type 0) (s : Start) (left : Left) (stand : Stand) → Requests [] [] left → stand ≡ record { left = left; fed = 0; unfed = []; there = s.there }
    → Talks IsReading s (record { pass = s.pass; stand = stand; written = s.given; reads = s.reads; writes = s.writes }) Goes
talks_from IsReading s left stand requests is = subst (λ (x : Stand). Talks IsReading s (record { pass = s.pass; stand = x; written = s.given; reads = s.reads; writes = s.writes }) Goes) (sym is) (talks_start IsReading s left requests)

-- there was no memory to begin it
pub no_inbox : (IsReading : ℕ → Type 0) (s : Start) → Ends IsReading s (record { pass = s.pass; stand = record { left = whole []; fed = 0; unfed = []; there = s.there }; written = s.given; reads = s.reads; writes = s.writes }) OutOfMemory
no_inbox IsReading s = talks_start IsReading s (whole []) (record { here = λ more m rest r. r; there = λ more m rest r. r; unread = λ e. refl })

-- nor was anything read
pub unread : (there : Option (List ℕ)) → IsReadTo (record { left = whole []; fed = 0; unfed = []; there = there }) there
unread None = (omega arith, refl)
unread (Some l) = (omega arith, refl)
