-- Whether the other side of a connection was too slow.
use Rattle.std.proofs.Common.{◌≡◌, ◌⊎◌, ℕ, ◌+◌, ◌-◌, ◌^◌, ◌≤◌, ◌<◌, List, [], sym, refl, ap, ◌∙◌, subst, inl, inr, arith, Option, Some, None}
use Rattle.std.specs.Prelude.{min}
use Rattle.sb_outside.specs.Streams.{Stays}
use Rattle.sb_http.specs.Stages.{Left, whole, held}
use Rattle.sb_server.specs.declared.doing.Doing.{Doing}
use Rattle.sb_server.specs.declared.doing.Doing.TheVariants.{Reads, Asks, Calls, Says, Tells, Writes}
use Rattle.sb_server.specs.declared.doing.Went.{Went}
use Rattle.sb_server.specs.declared.ending.Ending.TheVariants.{Slow}
use Rattle.sb_server.specs.declared.limits.Limits.{Limits}
use Rattle.sb_server.specs.declared.limits.Since.{Since}
use Rattle.sb_server.specs.declared.limits.Since.TheVariants.{Never, Idle, Asking, Taking}
use Rattle.sb_server.specs.Doings.{IsDoing, IsNext}
use Rattle.sb_server.specs.Talks.{Start, Here, ReadsOut, Parts, LeavesPart, IsUnasked, Ends}
use Rattle.sb_server.specs.Times.{Passed, IsSince, IsLooked, with_bytes, idle_from, asking_from, taking_from, taken_of}
use Rattle.sb_server.proofs.Stepping.{wrote_part}

-- ---- since when

pub idle_read : (IsReading : ℕ → Type 0) (since : Since) (now : ℕ) → IsSince IsReading since → IsReading now → IsReading (idle_from since now)
idle_read IsReading (Idle ms) now s n = s
idle_read IsReading Never now s n = n
idle_read IsReading (Asking ms) now s n = n
idle_read IsReading (Taking ms) now s n = n

pub asking_read : (IsReading : ℕ → Type 0) (since : Since) (now : ℕ) → IsSince IsReading since → IsReading now → IsReading (asking_from since now)
asking_read IsReading (Asking ms) now s n = s
asking_read IsReading Never now s n = n
asking_read IsReading (Idle ms) now s n = n
asking_read IsReading (Taking ms) now s n = n

pub taking_read : (IsReading : ℕ → Type 0) (since : Since) (now : ℕ) → IsSince IsReading since → IsReading now → IsReading (taking_from since now)
taking_read IsReading (Taking ms) now s n = s
taking_read IsReading Never now s n = n
taking_read IsReading (Idle ms) now s n = n
taking_read IsReading (Asking ms) now s n = n

-- since before, or it isn't waited for
pub since_either : (IsReading : ℕ → Type 0) (old new : Since) → (new ≡ old) ⊎ (new ≡ Never) → IsSince IsReading old → IsSince IsReading new
since_either IsReading old new (inl same) s = subst (IsSince IsReading) (sym same) s
since_either IsReading old new (inr never) s = subst (IsSince IsReading) (sym never) tt

-- ---- a request

-- none has begun
pub unasked_idle : (IsReading : ℕ → Type 0) (s : Start) (h : Here) (limits : Limits) (left : Left) → s.limits ≡ limits → h.stand.left ≡ left → left ≡ whole [] → Passed IsReading limits.idle_ms → IsUnasked IsReading s h
unasked_idle IsReading s h limits left same lefts none p = inl (lefts ∙ none, subst (λ (l : Limits). Passed IsReading l.idle_ms) (sym same) p)

-- one has begun
pub unasked_begun : (IsReading : ℕ → Type 0) (s : Start) (h : Here) (limits : Limits) (left : Left) (n limit : ℕ) → s.limits ≡ limits → h.stand.left ≡ left → n ≡ held left → 0 < n → limit ≡ with_bytes limits.request_ms n → Passed IsReading limit → IsUnasked IsReading s h
unasked_begun IsReading s h limits left n limit same lefts count some is p = inr (subst (λ (k : ℕ). 0 < k) here some, subst (λ (k : ℕ). Passed IsReading k) all p)
  where
    here : n ≡ held h.stand.left
    here = count ∙ ap held (sym lefts)

    all : limit ≡ with_bytes s.limits.request_ms (held h.stand.left)
    all = is ∙ (ap (λ (l : Limits). with_bytes l.request_ms n) (sym same) ∙ ap (λ (k : ℕ). with_bytes s.limits.request_ms k) here)

-- it was looked at
pub looked_next : (IsReading : ℕ → Type 0) (s : Start) (h : Here) (limit first later : ℕ) (went : Went) (doing : Doing) → IsLooked limit first later went → IsReading first → IsReading later → ReadsOut IsReading s h → doing ≡ Reads
    → (Passed IsReading limit → IsUnasked IsReading s h) → IsNext IsReading s h went doing
looked_next IsReading s h limit first later went doing (inl is) a b reads none unasked = subst (λ (x : Went). IsNext IsReading s h x doing) (sym is) (reads, none)
looked_next IsReading s h limit first later went doing (inr x) a b reads none unasked =
    subst (λ (x : Went). IsNext IsReading s h x doing) (sym x.0) (inl (reads, unasked (record { first = first; later = later; is_first = a; is_later = b; apart = x.1 })))

-- ---- a response

-- how many faults were counted is no part of it
recounted : (IsReading : ℕ → Type 0) (s : Start) (h : Here) (k : ℕ) → Parts IsReading s (record h { written = h.written; writes = k }) ⊎ LeavesPart IsReading s (record h { written = h.written; writes = k }) → Parts IsReading s h ⊎ LeavesPart IsReading s h
recounted IsReading s h k (inl p) = inl (record {
  fed = p.fed;
  ms = p.ms;
  made = p.made;
  out = p.out;
  turn = p.turn;
  all = p.all;
  requests = p.requests;
  read = p.read;
  goes = p.goes;
  responds = p.responds;
  all_is = p.all_is;
  wrote = p.wrote;
})
recounted IsReading s h k (inr (all, l, part)) = inr (
  all,
  record {
    fed = l.fed;
    ms = l.ms;
    m = l.m;
    made = l.made;
    mine = l.mine;
    out = l.out;
    said = l.said;
    requests = l.requests;
    read = l.read;
    goes = l.goes;
    responds = l.responds;
    given_up = l.given_up;
    all_is = l.all_is;
    cause = l.cause;
    all_fed = l.all_fed;
  },
  part,
)

-- what is owed is written up to a part
owed_part : (IsReading : ℕ → Type 0) (s : Start) (h : Here) (doing : Doing) (n : ℕ) → taken_of doing ≡ Some n → IsDoing IsReading s h doing → Parts IsReading s h ⊎ LeavesPart IsReading s h
owed_part IsReading s h (Writes out) n e o =
    let k : ℕ = min (h.writes + 1) (2 ^ 64 - 1) in
    recounted IsReading s h k (wrote_part IsReading s h out h.written k o (stays h.written) refl).0
  where
    stays : (o : Option (List ℕ)) → Stays o o
    stays None = tt
    stays (Some l) = refl
owed_part IsReading s h Reads n e o = absurd cc
owed_part IsReading s h (Asks p) n e o = absurd cc
owed_part IsReading s h (Calls script) n e o = absurd cc
owed_part IsReading s h (Says script form answer) n e o = absurd cc
owed_part IsReading s h (Tells told) n e o = absurd cc

-- it isn't taken
pub untaken : (IsReading : ℕ → Type 0) (s : Start) (h : Here) (limits : Limits) (doing : Doing) (n limit first later : ℕ) → s.limits ≡ limits → taken_of doing ≡ Some n → IsDoing IsReading s h doing
    → limits.request_ms ≤ limit → IsReading first → IsReading later → first + limit < later → Ends IsReading s h Slow
untaken IsReading s h limits doing n limit first later same taken doings more a b apart = inr (
  owed_part IsReading s h doing n taken doings,
  subst (λ (l : Limits). Passed IsReading l.request_ms) (sym same) (record { first = first; later = later; is_first = a; is_later = b; apart = omega (arith, more, apart) }),
)
